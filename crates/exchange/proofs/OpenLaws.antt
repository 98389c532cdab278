-- RATS and ATS over the air: a selected reader and an active card that speaks blocks are between messages then, and the terms of demand 2
-- are met for every message and answer. Assumes nothing.
use Rattle.std.specs.Prelude.{◌≡◌, refl, true, false, List, [], ℕ, ◌+◌, ◌≤◌, length}
use Rattle.std.proofs.Common.{ap, arith}
use borrow.Author.Tests.{le-ltb}
use Rattle.limits.specs.Limits.{message_max, row_room}
use Rattle.rows.specs.Rows.{same}
use Rattle.rows.specs.ListLaws.{same_refl}
use Rattle.parity.specs.Bits.{bits_of}
use Rattle.crc.specs.Crc.{with_crc}
use Rattle.frame.specs.Frame.{air_byte, standard}
use Rattle.uid.specs.declared.UidSize.TheVariants.{Single}
use Rattle.selection.specs.Selection.{rats, ats, hlta, at_most8}
use Rattle.selection.specs.ReadBackLaws.{reads_ats}
use Rattle.card.specs.Card.{Step, rules, takes, answers, with_state}
use Rattle.card.specs.RatsLaws.{fsdi_rats}
use Rattle.card.specs.declared.Card.{Card}
use Rattle.card.specs.declared.CardState.TheVariants.{Active, Protocol}
use Rattle.reader.specs.declared.Phase.TheVariants.{Selected}
use Rattle.reader.specs.Reader.{uid, reader}
use Rattle.block.specs.declared.Told.TheVariants.{Quiet}
use Rattle.block.specs.Cut.{fewest}
use Rattle.card_blocks.specs.CardRules.{card_open}
use Rattle.card_link.specs.declared.LinkCard.{LinkCard}
use Rattle.card_link.specs.CardCalls.{no_link, called, takes_outside, take_call}
use Rattle.reader_blocks.specs.ReaderRules.{reader_open}
use Rattle.reader_link.specs.declared.LinkReader.{LinkReader}
use Rattle.reader_link.specs.declared.Link.TheVariants.{NoLink, RatsSent, Linked}
use Rattle.reader_link.specs.declared.LinkAnswer.TheVariants.{Blocks, Opens}
use Rattle.reader_link.specs.ReaderCalls.{tested, hear_call, rats_call}
use Rattle.exchange.specs.RowExchange.{RowBetween, Terms}
use Rattle.exchange.proofs.RowExchangeLaws.{after_ats_between}
use Rattle.exchange.specs.Open.{Chosen, after_rats}

-- RATS is not HLTA, whatever its FSDI
not_hlta : (i : ℕ) → same (rats i) hlta ≡ false
unfolding same rats hlta with_crc standard air_byte bits_of
not_hlta i = refl

small : (i : ℕ) → i ≤ 8 → at_most8 i ≡ i
small i h = rw (le-ltb 8 i h)

-- an active card that speaks blocks takes RATS: its answer is its ATS, and it is in Protocol with the reader's size index
takes_rats : (c : Card) (i j : ℕ) → i ≤ 8 → j ≤ 8 → c.blocks ≡ true → c.index ≡ j → ◌≡◌ {A = Step} (rules c Active (rats i)) (Protocol i, ats j)
unfolding rules
takes_rats c i j hi hj b x = rw (not_hlta i, b, fsdi_rats i (omega arith), same_refl (rats i), x, small i hi, small j hj)

module _ (i j room : ℕ) (x : LinkReader) (y : LinkCard) (m lent down up : List ℕ) (h : row_room ≤ room) (hi : i ≤ 8) (hj : j ≤ 8) (s : Chosen j x y) where
  -- the reader sends RATS
  sends : rats_call x i room
      ≡ record { turn = record { reader = record { reader = x.reader; link = RatsSent i }; answer = Blocks (length (rats i)) Quiet }; sent = rats i; buffer = [] }
  unfolding rats_call tested
  sends = rw (s.has_no_link, s.selected, s.speaks, le-ltb room row_room h, le-ltb 8 i hi)

  -- the card takes it
  abbrev in_protocol : LinkCard
  in_protocol = record { card = with_state y.card (Protocol i); link = card_open y.card.index i }

  takes_it : take_call y (rats i) lent down room ≡ record { link = in_protocol; sent = ats j; told = Quiet; buffer = down }
  unfolding take_call called takes_outside takes answers
  takes_it =
      let t = takes_rats (with_state y.card Active) i j hi hj s.blocks s.index in
      rw (s.active, le-ltb room row_room h, t) (ap (λ (z : Step). record { link = in_protocol; sent = z.1; told = Quiet; buffer = down }) t)

  -- the reader hears its ATS
  hears_it : hear_call (record { reader = x.reader; link = RatsSent i }) (ats j) m up room
      ≡ record { turn = record { reader = record { reader = x.reader; link = Linked (reader_open i j false) }; answer = Opens j }; sent = []; buffer = up }
  unfolding hear_call tested
  hears_it = rw (le-ltb room row_room h, reads_ats i j (omega arith), small j hj)

  -- what they come to: the reader linked at number 0, the card in Protocol at number 1, the buffers as they were
  pub ends_are : after_rats i room x y m lent down up
      ≡ record { reader = record { reader = x.reader; link = Linked (reader_open i j false) }; card = in_protocol; down = down; up = up; lent = lent }
  unfolding after_rats
  ends_are = rw (sends, takes_it, hears_it)

  -- both ends are between messages
  pub opened : RowBetween i j (after_rats i room x y m lent down up)
  opened =
      rw ends_are
      (after_ats_between i j i (record { reader = record { reader = x.reader; link = Linked (reader_open i j false) }; card = in_protocol; down = down; up = up; lent = lent })
      refl (ap (λ j. card_open j i) s.index) refl)

  -- The terms of demand 2 are met: by every message and every answer of up to 4,096 bytes, with buffers of 4,096 bytes and a round for each block
  pub terms_met : (p a : List ℕ) → length p ≤ message_max → length a ≤ message_max → length down ≡ message_max → length up ≡ message_max
      → Terms i j p a (fewest j (length p) + fewest i (length a)) (after_rats i room x y m lent down up)
  terms_met p a hp ha hd hu =
      record { ends = opened; message = hp; answer = ha; down = rw ends_are (omega arith); up = rw ends_are (omega arith); enough = omega arith }

-- there are such a reader and such a card, of every size index
abbrev choosing : LinkReader
choosing = record { reader = reader Selected false [] 0 (uid Single []) 0x20; link = NoLink }

abbrev active : ℕ → LinkCard
active j = record { card = record { uid = uid Single []; blocks = true; index = j; state = Active }; link = no_link }

pub chosen : (j : ℕ) → Chosen j choosing (active j)
chosen j = record { has_no_link = refl; selected = refl; speaks = refl; active = refl; blocks = refl; index = refl }
