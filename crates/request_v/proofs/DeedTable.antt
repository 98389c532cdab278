-- Worked requests to one tag, and what they make it do: one table of theorems on the definitions. The tag has the UID E004AB8967452301 (low byte first on
-- the air), AFI 21, two blocks of four bytes, of which the second is locked. Assumes nothing.
use Rattle.std.specs.Prelude.{◌≡◌, refl, ℕ, true, false, List, [], ◌∷◌, ◌++◌}
use Rattle.rows.specs.Rows.{clean, same, any}
use Rattle.parity.specs.Bits.{bits_of, unbits}
use Rattle.crc.specs.Crc.{shift, shifts, crc_byte, crc_from}
use Rattle.crc.specs.CrcOf.{crc_of, sent_of, with_of, good_of}
use Rattle.frame.specs.Frame.{air_bits, bytes_of}
use Rattle.frame_b.specs.FrameB.{frame_b}
use Rattle.frame_v.specs.FrameV.{sound}
use Rattle.selection_b.specs.TakenB.{admits}
use Rattle.request_v.specs.Flags.{formed}
use Rattle.request_v.specs.Inventory.{is_inventory, admitted, matching, slot_of, inventory_deed}
use Rattle.request_v.specs.Request.{count_of, length_due, absent, any_locked, lock_error, option_error, error_of, fails_with, done_of, command_deed, is_own, meant, is_bare, asked_deed, own_deed, other_deed, request_deed, deed_by, deed_of}
use Rattle.request_v.specs.declared.Tag.{Tag}
use Rattle.request_v.specs.declared.StateV.{StateV}
use Rattle.request_v.specs.declared.StateV.TheVariants.{Ready, Quiet, Selected}
use Rattle.request_v.specs.declared.Deed.TheVariants.{Nothing, Quiets, Drops, Tells, Waits, Fails, Reads, Writes, Locks, Selects, Resets}

abbrev uid : List ℕ
uid = 0x01 ∷ 0x23 ∷ 0x45 ∷ 0x67 ∷ 0x89 ∷ 0xAB ∷ 0x04 ∷ 0xE0 ∷ []

abbrev other : List ℕ
other = 0x02 ∷ 0x23 ∷ 0x45 ∷ 0x67 ∷ 0x89 ∷ 0xAB ∷ 0x04 ∷ 0xE0 ∷ []

abbrev tag : StateV → Tag
tag y = record { uid = uid; dsfid = 0x00; supports = true; afi = 0x21; blocks = 2; size = 4; state = y }

abbrev memory : List ℕ
memory = 0x11 ∷ 0x22 ∷ 0x33 ∷ 0x44 ∷ 0x55 ∷ 0x66 ∷ 0x77 ∷ 0x88 ∷ []

abbrev locks : List ℕ
locks = 0 ∷ 1 ∷ []

pub record DeedTable : Type 0 where
  -- inventory: one slot; 16 slots, of which the UID's low half names slot 1; 001's flags do not look at b1 and b2
  pub one_slot : deed_of (tag (Ready 0)) locks (frame_b (0x26 ∷ 0x01 ∷ 0x00 ∷ [])) ≡ Tells
  pub in_slot_1 : deed_of (tag (Ready 0)) locks (frame_b (0x06 ∷ 0x01 ∷ 0x00 ∷ [])) ≡ Waits 1
  pub any_rate : deed_of (tag (Ready 0)) locks (frame_b (0x05 ∷ 0x01 ∷ 0x00 ∷ [])) ≡ Waits 1
  -- the mask 1 of four bits: the next half, 0; padding is not looked at; the mask 2 is another's
  pub masked : deed_of (tag (Ready 0)) locks (frame_b (0x06 ∷ 0x01 ∷ 0x04 ∷ 0x01 ∷ [])) ≡ Tells
  pub padded : deed_of (tag (Ready 0)) locks (frame_b (0x06 ∷ 0x01 ∷ 0x04 ∷ 0xF1 ∷ [])) ≡ Tells
  pub other_mask : deed_of (tag (Ready 0)) locks (frame_b (0x06 ∷ 0x01 ∷ 0x04 ∷ 0x02 ∷ [])) ≡ Nothing
  -- AFI 20 admits 21, AFI 22 does not; 61 bits are too many for 16 slots; a quiet tag takes no inventory
  pub family : deed_of (tag (Ready 0)) locks (frame_b (0x36 ∷ 0x01 ∷ 0x20 ∷ 0x00 ∷ [])) ≡ Tells
  pub other_family : deed_of (tag (Ready 0)) locks (frame_b (0x36 ∷ 0x01 ∷ 0x22 ∷ 0x00 ∷ [])) ≡ Nothing
  pub too_long : deed_of (tag (Ready 0)) locks (frame_b (0x06 ∷ 0x01 ∷ 61 ∷ uid)) ≡ Nothing
  pub all_of_it : deed_of (tag (Ready 0)) locks (frame_b (0x26 ∷ 0x01 ∷ 64 ∷ uid)) ≡ Tells
  pub quiet_tag : deed_of (tag Quiet) locks (frame_b (0x26 ∷ 0x01 ∷ 0x00 ∷ [])) ≡ Nothing
  -- the inventory flag with another code, and code 01 without it
  pub flag_alone : deed_of (tag (Ready 0)) locks (frame_b (0x06 ∷ 0x26 ∷ 0x00 ∷ [])) ≡ Nothing
  pub code_alone : deed_of (tag (Ready 0)) locks (frame_b (0x22 ∷ 0x01 ∷ uid)) ≡ Nothing
  -- stay quiet, select, reset to ready
  pub stay_quiet : deed_of (tag (Ready 0)) locks (frame_b (0x22 ∷ 0x02 ∷ uid)) ≡ Quiets
  pub stay_quiet_any : deed_of (tag (Ready 0)) locks (frame_b (0x02 ∷ 0x02 ∷ [])) ≡ Nothing
  pub select : deed_of (tag Quiet) locks (frame_b (0x22 ∷ 0x25 ∷ uid)) ≡ Selects
  pub select_other : deed_of (tag (Selected 0)) locks (frame_b (0x22 ∷ 0x25 ∷ other)) ≡ Drops
  pub select_other_quiet : deed_of (tag Quiet) locks (frame_b (0x22 ∷ 0x25 ∷ other)) ≡ Nothing
  pub reset : deed_of (tag Quiet) locks (frame_b (0x22 ∷ 0x26 ∷ uid)) ≡ Resets
  pub reset_any : deed_of (tag Quiet) locks (frame_b (0x02 ∷ 0x26 ∷ [])) ≡ Nothing
  -- reads and writes: the count goes less one; the sent bytes begin behind the parameters
  pub read_any : deed_of (tag (Ready 0)) locks (frame_b (0x02 ∷ 0x20 ∷ 0x00 ∷ [])) ≡ Reads 0 1 false
  pub read_two : deed_of (tag (Ready 0)) locks (frame_b (0x62 ∷ 0x23 ∷ (uid ++ (0x00 ∷ 0x01 ∷ [])))) ≡ Reads 0 2 true
  pub write : deed_of (tag (Ready 0)) locks (frame_b (0x22 ∷ 0x21 ∷ (uid ++ (0x00 ∷ 0xA1 ∷ 0xA2 ∷ 0xA3 ∷ 0xA4 ∷ [])))) ≡ Writes 0 1 11
  pub writes : deed_of (tag (Ready 0)) locks (frame_b (0x02 ∷ 0x24 ∷ 0x00 ∷ 0x00 ∷ 0xA1 ∷ 0xA2 ∷ 0xA3 ∷ 0xA4 ∷ [])) ≡ Writes 0 1 4
  pub lock : deed_of (tag (Ready 0)) locks (frame_b (0x22 ∷ 0x22 ∷ (uid ++ (0x00 ∷ [])))) ≡ Locks 0
  pub chosen : deed_of (tag (Selected 0)) locks (frame_b (0x12 ∷ 0x20 ∷ 0x01 ∷ [])) ≡ Reads 1 1 false
  -- errors: 01 and 02 only to a tag that is addressed or selected; 10 ahead of 12, both ahead of 03; 11 for a lock
  pub unknown : deed_of (tag (Ready 0)) locks (frame_b (0x22 ∷ 0x27 ∷ uid)) ≡ Fails 0x01
  pub unknown_any : deed_of (tag (Ready 0)) locks (frame_b (0x02 ∷ 0x27 ∷ [])) ≡ Nothing
  pub short : deed_of (tag (Ready 0)) locks (frame_b (0x22 ∷ 0x20 ∷ uid)) ≡ Fails 0x02
  pub option : deed_of (tag (Ready 0)) locks (frame_b (0x42 ∷ 0x22 ∷ 0x00 ∷ [])) ≡ Fails 0x03
  pub absent_one : deed_of (tag (Ready 0)) locks (frame_b (0x02 ∷ 0x24 ∷ 0x01 ∷ 0x01 ∷ memory)) ≡ Fails 0x10
  pub locked_one : deed_of (tag (Ready 0)) locks (frame_b (0x42 ∷ 0x24 ∷ 0x00 ∷ 0x01 ∷ memory)) ≡ Fails 0x12
  pub locked_lock : deed_of (tag (Ready 0)) locks (frame_b (0x02 ∷ 0x22 ∷ 0x01 ∷ [])) ≡ Fails 0x11
  -- b4, b8, and Select flag with Address flag
  pub extended : deed_of (tag (Ready 0)) locks (frame_b (0x2A ∷ 0x26 ∷ uid)) ≡ Nothing
  pub eighth : deed_of (tag (Ready 0)) locks (frame_b (0xA2 ∷ 0x26 ∷ uid)) ≡ Nothing
  pub both_flags : deed_of (tag (Selected 0)) locks (frame_b (0x32 ∷ 0x26 ∷ uid)) ≡ Nothing

pub deed_table : DeedTable
unfolding deed_of deed_by formed inventory_deed is_inventory admitted admits matching slot_of request_deed meant is_own is_bare own_deed other_deed asked_deed command_deed error_of count_of length_due absent any_locked lock_error option_error fails_with done_of any sound clean same good_of with_of sent_of crc_of crc_from crc_byte shifts shift frame_b air_bits bytes_of bits_of unbits
deed_table = record {
  one_slot = refl;
  in_slot_1 = refl;
  any_rate = refl;
  masked = refl;
  padded = refl;
  other_mask = refl;
  family = refl;
  other_family = refl;
  too_long = refl;
  all_of_it = refl;
  quiet_tag = refl;
  flag_alone = refl;
  code_alone = refl;
  stay_quiet = refl;
  stay_quiet_any = refl;
  select = refl;
  select_other = refl;
  select_other_quiet = refl;
  reset = refl;
  reset_any = refl;
  read_any = refl;
  read_two = refl;
  write = refl;
  writes = refl;
  lock = refl;
  chosen = refl;
  unknown = refl;
  unknown_any = refl;
  short = refl;
  option = refl;
  absent_one = refl;
  locked_one = refl;
  locked_lock = refl;
  extended = refl;
  eighth = refl;
  both_flags = refl;
}
