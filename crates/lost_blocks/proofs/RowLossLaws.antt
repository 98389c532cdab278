-- The whole ends on rows that are not what was sent: each does what its block rules say of what it hears. Assumes nothing.
use Rattle.std.specs.Prelude.{◌≡◌, Bool, cond, not, ℕ, ◌-◌, ◌/◌, ◌≤◌, ◌<◌, length, take}
use Rattle.std.proofs.Math.Path.{refl}
use Rattle.std.proofs.Math.Bool.{true, false}
use Rattle.std.proofs.lemmas.Bool.{false≢true}
use mathlib.Core.List.{List, [], ◌∷◌}
use Rattle.std.proofs.Common.{arith}
use borrow.Author.Tests.{le-ltb}
use Rattle.rows.specs.Rows.{Bytes, is_nil, same, clean}
use Rattle.crc.specs.Crc.{with_crc}
use Rattle.parity.specs.Bits.{bits_of}
use Rattle.refusal.specs.declared.Refusal.{Refusal}
use Rattle.refusal.specs.declared.Refusal.TheVariants.{Silence, Argument, NotDue}
use Rattle.frame.specs.Frame.{air_byte, standard, Verdict, Good, Fault, whole_bytes, faulty, read_frame, without_crc, crc_checked, read_crc}
use Rattle.selection.specs.Selection.{size}
use Rattle.card.specs.declared.CardState.TheVariants.{Protocol}
use Rattle.block.specs.declared.Block.{Block}
use Rattle.block.specs.declared.Block.TheVariants.{Wtx}
use Rattle.block.specs.declared.Told.TheVariants.{Refused}
use Rattle.block.specs.Block.{heard_block, payload, block_bytes, wtx_ok}
use Rattle.block.specs.Row.{block_row, heard_row}
use Rattle.block.specs.HeardLaws.{heard_row_law}
use Rattle.card_blocks.specs.declared.CardPhase.TheVariants.{Waiting}
use Rattle.card_blocks.specs.declared.CardLink.{CardLink}
use Rattle.card_blocks.specs.declared.CardStep.{CardStep}
use Rattle.card_blocks.specs.CardRules.{owes, card_at, card_silent, card_sends, card_takes, card_asks}
use Rattle.card_blocks.specs.CardFrames.{card_out, card_block, card_wtx}
use Rattle.limits.specs.Limits.{row_room}
use Rattle.card_link.specs.declared.LinkCard.{LinkCard}
use Rattle.card_link.specs.CardCalls.{with_row, called, takes_inside, take_call, ask_call}
use Rattle.card_link.specs.CardRowLaws.{owing_block}
use Rattle.reader_blocks.specs.declared.ReaderLink.{ReaderLink}
use Rattle.reader_link.specs.declared.Link.TheVariants.{Linked}
use Rattle.reader_link.specs.declared.LinkReader.{LinkReader}
use Rattle.reader_blocks.specs.ReaderFrames.{reader_block}
use Rattle.reader_link.specs.ReaderCalls.{tested, linking, awaits_block, hear_call}
use Rattle.exchange.specs.Exchange.{Fate, Arrives, Fails, Round, carried, Fine}
use Rattle.exchange.specs.FineLaws.{FineCard, takes_fine, fine_heard}
use Rattle.exchange.proofs.RowExchangeLaws.{FineOut, sent_fine}
use Rattle.lost_blocks.specs.Lost.{failed, failed_of}
use Rattle.lost_blocks.proofs.LossLaws.{wtx_range, card_fails}
use Rattle.exchange.specs.Lossy.{Passage, Whole, Instead, heard_as, RowRound}
use Rattle.lost_blocks.specs.RowLost.{caught, noticed, spoilt}

-- ---- a round on rows as a round on bytes

abbrev pub fault_in : Verdict → Refusal
fault_in (Good l) = Silence
fault_in (Fault e) = e

abbrev pub fate_of : ℕ → Passage → Fate
fate_of i Whole = Arrives
fate_of i (Instead h) = Fails (fault_in (heard_row i h))

-- reader of size index i, card of size index j
abbrev pub round_of : ℕ → ℕ → RowRound → Round
round_of i j x = record { down = fate_of j x.down; host = x.host; up = fate_of i x.up }

-- the tests of a row come to a good frame or to one of these numbers: what is not heard whole is silence or caught
abbrev Known : Verdict → Type 0
Known (Good l) = Unit
Known (Fault e) = caught (Fault e) ≡ true

known_either : (t : Bool) (v w : Verdict) → Known v → Known w → Known (cond t v w)
known_either true v w x y = x
known_either false v w x y = y

known_crc : (v : Verdict) → Known v → Known (crc_checked v)
unfolding without_crc
known_crc (Good l) k = known_either (same l (with_crc (take (length l - 2) l))) _ _ tt refl
known_crc (Fault e) k = k

pub known_row : (i : ℕ) (h : List ℕ) → Known (heard_row i h)
unfolding heard_row read_crc read_frame
known_row i h =
    known_either (is_nil h) _ _ refl
    (known_crc (read_frame 3 (size i) h)
    (known_either (not (whole_bytes 3 (size i) (length h))) _ _ refl (known_either (not (clean h)) _ _ refl (known_either (faulty (length h / 9) h) _ _ refl tt))))

fault_is : (v : Verdict) → caught v ≡ true → v ≡ Fault (fault_in v)
fault_is (Good l) e = absurd (false≢true e)
fault_is (Fault x) e = refl

pub carried_row : (i : ℕ) (y : Passage) (f : List ℕ) → Bytes f → noticed i y ≡ true → heard_row i (heard_as y (block_row f)) ≡ carried (fate_of i y) i f
carried_row i Whole f b n = heard_row_law i f b
carried_row i (Instead h) f b n = fault_is (heard_row i h) n

pub spoilt_fails : (i : ℕ) (y : Passage) → spoilt y ≡ failed (fate_of i y)
spoilt_fails i Whole = refl
spoilt_fails i (Instead h) = refl

pub spoilt_sent : (i : ℕ) (y : Passage) (l : List ℕ) → cond (is_nil (block_row l)) 0 (spoilt y) ≡ failed_of l (fate_of i y)
unfolding is_nil with_crc standard air_byte bits_of
spoilt_sent i y [] = refl
spoilt_sent i y (f ∷ p) = spoilt_fails i y

-- ---- the calls

module _ (x : LinkCard) (i room : ℕ) (s : x.card.state ≡ Protocol i) (h : row_room ≤ room) where
  -- any row, in Protocol
  pub take_row : (row m buffer : List ℕ) → take_call x row m buffer room ≡ with_row x.card (card_block x.link (heard_row x.link.own row) m buffer)
  unfolding take_call called takes_inside
  take_row row m buffer = go (owes x.link.phase) refl
    where
      go : (t : Bool) → owes x.link.phase ≡ t → take_call x row m buffer room ≡ with_row x.card (card_block x.link (heard_row x.link.own row) m buffer)
      go false o = rw (s, o, le-ltb room row_room h)
      go true o = rw (s, o, owing_block x.link (heard_row x.link.own row) m buffer o)

  -- a frame that is lost is handed to the card as silence: as if nothing had been handed to it
  pub unheard : (m buffer : List ℕ) → ((take_call x [] m buffer room).link ≡ x) × ((take_call x [] m buffer room).sent ≡ []) × ((take_call x [] m buffer room).buffer ≡ buffer)
  unfolding heard_row is_nil
  unheard m buffer = rw (take_row [] m buffer) (go (owes x.link.phase) refl)
    where
      go : (t : Bool) → owes x.link.phase ≡ t → ((with_row x.card (card_block x.link (Fault Silence) m buffer)).link ≡ x)
          × ((with_row x.card (card_block x.link (Fault Silence) m buffer)).sent ≡ []) × ((with_row x.card (card_block x.link (Fault Silence) m buffer)).buffer ≡ buffer)
      go false o = rw (card_fails x.link Silence m buffer o) (refl, refl, refl)
      go true o = rw (owing_block x.link (Fault Silence) m buffer o) (refl, refl, refl)

  -- the host asks for WTX, where its answer is due
  pub ask_block : (v : ℕ) → owes x.link.phase ≡ true → ask_call x v room ≡ with_row x.card (card_wtx x.link v [])
  unfolding ask_call called
  ask_block v o = rw (s, o, le-ltb room row_room h)

-- any row, where a block is awaited
pub hear_row : (x : LinkReader) (r : ReaderLink) (room : ℕ) → x.link ≡ Linked r → row_room ≤ room → (row m buffer : List ℕ) → awaits_block r.phase ≡ true
    → hear_call x row m buffer room ≡ linking x.reader (reader_block r (heard_row r.own row) m buffer)
unfolding hear_call tested
hear_row x r room s h row m buffer a = rw (s, a, le-ltb room row_room h)

-- ---- what the card sends is fine

pub heard_fine : (k : CardLink) (v : Verdict) (lent d : List ℕ) → Fine (heard_block v) → Fine k.last → Bytes lent → FineOut (card_block k v lent d)
unfolding card_block card_out
heard_fine k v lent d f l hl =
    let z : CardStep = card_takes k (heard_block v) (length (payload v)) (length d) (length lent) in
    let x : FineCard z = takes_fine k (heard_block v) (length (payload v)) (length d) (length lent) f l in
    record { stays = x.stays; last = x.keeps; sent = sent_fine z lent x.sends hl }

pub carried_fine : (y : Fate) (i : ℕ) (b : Block) (p : List ℕ) → Fine b → Fine (heard_block (carried y i (block_bytes b p)))
carried_fine Arrives i b p f = fine_heard i b p f
carried_fine (Fails e) i b p f = tt

module _ (c : CardLink) (v : ℕ) where
  abbrev asked : Bool → Bool → CardStep
  asked o t = cond o (cond t (card_sends (card_at c c.number (Waiting v) (Wtx v) 0 0)) (card_silent c (Refused Argument))) (card_silent c (Refused NotDue))

  asks_fine : Fine c.last → FineCard (card_asks c v)
  unfolding card_asks
  asks_fine l = go (owes c.phase) (wtx_ok v) refl
    where
      go : (o t : Bool) → wtx_ok v ≡ t → FineCard (asked o t)
      go true true e = let k : v < 256 = omega (arith, (wtx_range v e).1) in record { sends = k; keeps = k; stays = refl }
      go true false e = record { sends = tt; keeps = l; stays = refl }
      go false t e = record { sends = tt; keeps = l; stays = refl }

  asks_join : (card_asks c v).joins ≡ false
  unfolding card_asks
  asks_join = go (owes c.phase) (wtx_ok v)
    where
      go : (o t : Bool) → (asked o t).joins ≡ false
      go true true = refl
      go true false = refl
      go false t = refl

  pub ask_fine : (d : List ℕ) → Fine c.last → FineOut (card_wtx c v d)
  unfolding card_wtx card_out
  ask_fine d l = let x : FineCard (card_asks c v) = asks_fine l in record { stays = x.stays; last = x.keeps; sent = sent_fine (card_asks c v) [] x.sends tt }

  -- a request joins nothing: the buffer is as it was
  pub ask_out : (d : List ℕ) → card_wtx c v d ≡ record { link = (card_wtx c v []).link; sent = (card_wtx c v []).sent; told = (card_wtx c v []).told; buffer = d }
  unfolding card_wtx card_out
  ask_out d = rw asks_join
