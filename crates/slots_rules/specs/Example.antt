-- Worked examples of a request with its markers, by value, on the definitions: a card alone in slot 1 and one in slot 2; both in slot 2 of 2.
use Rattle.std.specs.Prelude.{◌≡◌, refl, ℕ, true, false, [], ◌∷◌}
use Rattle.rows.specs.Rows.{any, same, clean, is_nil}
use Rattle.parity.specs.Bits.{bits_of, unbits}
use Rattle.crc.specs.Crc.{crc_from, crc_byte, shifts, shift}
use Rattle.crc.specs.CrcOf.{crc_of, sent_of, with_of, good_of}
use Rattle.frame.specs.Frame.{air_bits, bytes_of}
use Rattle.frame_b.specs.FrameB.{frame_b, without_crc_b}
use Rattle.selection_b.specs.TypeB.{is_slots, code_of, param, request, marker, atqb_bytes, attrib, hltb}
use Rattle.selection_b.specs.TakenB.{is_request, wakes, slots_of, slots_in, admits, is_marker, is_attrib}
use Rattle.selection_b.specs.HeardB.{read_slot, entry}
use Rattle.card_b.specs.CardB.{atqb_of, drawn, requested, asked, other, rules, takes, answers}
use Rattle.reader_b.specs.ReaderB.{next, held, hear}
use Rattle.field.specs.Merge.{meet, join, merge}
use Rattle.field_b.specs.FieldB.{takes_b, answers_b, all_take, heard_from}
use Rattle.slots_rules.specs.RunB.{before, ended, out_frame, run, inquiry, list_bytes}
use Rattle.card_b.specs.declared.StateB.{StateB}
use Rattle.card_b.specs.declared.StateB.TheVariants.{Idle}
use Rattle.field_b.specs.declared.Drawn.{Drawn}

-- the cards 11223344 and 99AABBCC
abbrev first : StateB → ℕ → Drawn
first s n = record { card = record { pupi = 0x11 ∷ 0x22 ∷ 0x33 ∷ 0x44 ∷ []; afi = 0; markers = true; application = 0 ∷ 0 ∷ 0 ∷ 0 ∷ []; protocol = 0x00 ∷ 0x81 ∷ 0x81 ∷ []; state = s }; number = n }

abbrev second : StateB → ℕ → Drawn
second s n = record { card = record { pupi = 0x99 ∷ 0xAA ∷ 0xBB ∷ 0xCC ∷ []; afi = 0; markers = true; application = 0 ∷ 0 ∷ 0 ∷ 0 ∷ []; protocol = 0x00 ∷ 0x81 ∷ 0x81 ∷ []; state = s }; number = n }

pub each_alone : list_bytes (inquiry false 2 0x00 (first Idle 1 ∷ second Idle 2 ∷ [])).slots
    ≡ 1 ∷ 0x50 ∷ 0x11 ∷ 0x22 ∷ 0x33 ∷ 0x44 ∷ 0 ∷ 0 ∷ 0 ∷ 0 ∷ 0x00 ∷ 0x81 ∷ 0x81 ∷ 1 ∷ 0x50 ∷ 0x99 ∷ 0xAA ∷ 0xBB ∷ 0xCC ∷ 0 ∷ 0 ∷ 0 ∷ 0 ∷ 0x00 ∷ 0x81 ∷ 0x81 ∷ []
unfolding any same clean is_nil bits_of unbits crc_from crc_byte shifts shift crc_of sent_of with_of good_of air_bits bytes_of frame_b without_crc_b is_slots code_of param request marker atqb_bytes attrib hltb is_request wakes slots_of slots_in admits is_marker is_attrib read_slot entry atqb_of drawn requested asked other rules takes answers next held hear meet join merge takes_b answers_b all_take heard_from before ended out_frame run inquiry list_bytes
each_alone = refl

pub both_met : list_bytes (inquiry false 2 0x00 (first Idle 2 ∷ second Idle 2 ∷ [])).slots
    ≡ 0 ∷ 0 ∷ 0 ∷ 0 ∷ 0 ∷ 0 ∷ 0 ∷ 0 ∷ 0 ∷ 0 ∷ 0 ∷ 0 ∷ 0 ∷ 2 ∷ 0 ∷ 0 ∷ 0 ∷ 0 ∷ 0 ∷ 0 ∷ 0 ∷ 0 ∷ 0 ∷ 0 ∷ 0 ∷ 0 ∷ []
unfolding any same clean is_nil bits_of unbits crc_from crc_byte shifts shift crc_of sent_of with_of good_of air_bits bytes_of frame_b without_crc_b is_slots code_of param request marker atqb_bytes attrib hltb is_request wakes slots_of slots_in admits is_marker is_attrib read_slot entry atqb_of drawn requested asked other rules takes answers next held hear meet join merge takes_b answers_b all_take heard_from before ended out_frame run inquiry list_bytes
both_met = refl
