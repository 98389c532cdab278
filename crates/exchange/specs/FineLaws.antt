-- What the blocks are that go back and forth in an exchange: bytes, and no DESELECT. Assumes nothing.
use Rattle.std.specs.Prelude.{◌≡◌, refl, ℕ, ◌+◌, ◌%◌, ◌<◌, Bool, true, false, cond, not, List, [], ◌∷◌, length, eqb, leb, ltb}
use Rattle.std.proofs.Common.{arith}
use Rattle.std.proofs.lemmas.Bool.{false≢true}
use Rattle.std.specs.Bool.{beq as same}
use Rattle.rows.specs.Rows.{Bytes}
use Rattle.rows.specs.ListLaws.{all_take_law, all_drop}
use Rattle.block.specs.declared.Block.{Block}
use Rattle.block.specs.declared.Block.TheVariants.{I, Ack, Nak, Deselect, Wtx, Unknown, Nothing}
use Rattle.block.specs.declared.Told.{Told}
use Rattle.block.specs.declared.Told.TheVariants.{Quiet, Message, Granted, Deselected, Refused}
use Rattle.limits.specs.Limits.{message_max}
use Rattle.block.specs.Cut.{payload_max, part, fits}
use Rattle.frame.specs.Frame.{Good, Fault}
use Rattle.selection.specs.Selection.{size}
use Rattle.refusal.specs.declared.Refusal.TheVariants.{Room, Length, TooLong}
use Rattle.block.specs.Block.{block_bytes, wtx_ok, kind, heard_block, verdict}
use Rattle.card_blocks.specs.declared.CardPhase.{CardPhase}
use Rattle.card_blocks.specs.declared.CardPhase.TheVariants.{Receiving, Owing, Waiting, Answering}
use Rattle.card_blocks.specs.declared.CardLink.{CardLink}
use Rattle.card_blocks.specs.declared.CardStep.{CardStep}
use Rattle.card_blocks.specs.CardRules.{card_silent, card_i, card_joins, card_next, card_granted, card_takes_i, card_takes_ack, card_takes_nak, card_rules, owes, card_takes, card_replies}
use Rattle.reader_blocks.specs.declared.Turn.{Turn}
use Rattle.reader_blocks.specs.declared.Turn.TheVariants.{Sending, Awaiting, Joining}
use Rattle.reader_blocks.specs.declared.ReaderPhase.{ReaderPhase}
use Rattle.reader_blocks.specs.declared.ReaderPhase.TheVariants.{Open, Talking, Leaving, Finished, Stopped}
use Rattle.reader_blocks.specs.declared.ReaderLink.{ReaderLink}
use Rattle.reader_blocks.specs.declared.ReaderStep.{ReaderStep}
use Rattle.reader_blocks.specs.ReaderRules.{reader_i, reader_again, ack_own, ack_other, reader_joins, asks_again, awaits_i, reader_repeats, reader_echoes, reader_takes_i, reader_takes_ack, reader_rules, reader_takes, is_open, reader_starts}
use Rattle.card_blocks.specs.CardLaws.{lent_either}
use Rattle.card_blocks.specs.CaseLaws.{leaves}
use Rattle.reader_blocks.specs.ReaderLaws.{lent_either as message-either}
use Rattle.exchange.specs.Exchange.{is_quiet, Fine}

-- the bytes of such a block are bytes
pub fine_bytes : (b : Block) (p : List ℕ) → Fine b → Bytes p → Bytes (block_bytes b p)
fine_bytes (I true true) p f h = (omega arith, h)
fine_bytes (I true false) p f h = (omega arith, h)
fine_bytes (I false true) p f h = (omega arith, h)
fine_bytes (I false false) p f h = (omega arith, h)
fine_bytes (Ack true) p f h = (omega arith, tt)
fine_bytes (Ack false) p f h = (omega arith, tt)
fine_bytes (Nak true) p f h = (omega arith, tt)
fine_bytes (Nak false) p f h = (omega arith, tt)
fine_bytes (Wtx v) p f h = (omega arith, (f, tt))
fine_bytes Deselect p f h = absurd f
fine_bytes Unknown p f h = tt
fine_bytes Nothing p f h = tt

pub part_bytes_law : (i at : ℕ) (m : List ℕ) → Bytes m → Bytes (part i at m)
unfolding part
part_bytes_law i at m h = all_take_law (λ b. b < 256) (payload_max i) _ (all_drop (λ b. b < 256) at m h)

-- ---- the card: what it sends and keeps as its last block is fine, and it stays in Protocol

pub record FineCard (s : CardStep) : Type 0 where
  pub sends : Fine s.send
  pub keeps : Fine s.link.last
  pub stays : leaves s.told ≡ false

card_either : (t : Bool) (a b : CardStep) → FineCard a → FineCard b → FineCard (cond t a b)
card_either true a b f g = f
card_either false a b f g = g

silent_fine : (c : CardLink) (t : Told) → Fine c.last → leaves t ≡ false → FineCard (card_silent c t)
silent_fine c t l e = record { sends = tt; keeps = l; stays = e }

i_fine : (c : CardLink) (n : Bool) (at len : ℕ) → FineCard (card_i c n at len)
unfolding card_i
i_fine c n at len = record { sends = tt; keeps = tt; stays = refl }

next_fine : (c : CardLink) (ph : CardPhase) (len : ℕ) → Fine c.last → FineCard (card_next c ph len)
next_fine c Answering len l = i_fine c (not c.number) (c.at + payload_max c.reader) len
next_fine c Receiving len l = silent_fine c Quiet l refl
next_fine c Owing len l = silent_fine c Quiet l refl
next_fine c (Waiting v) len l = silent_fine c Quiet l refl

granted_fine : (c : CardLink) (ph : CardPhase) (w : ℕ) → Fine c.last → FineCard (card_granted c ph w)
granted_fine c (Waiting v) w l = card_either (eqb w v) _ _ (record { sends = tt; keeps = tt; stays = refl }) (silent_fine c Quiet l refl)
granted_fine c Receiving w l = silent_fine c Quiet l refl
granted_fine c Owing w l = silent_fine c Quiet l refl
granted_fine c Answering w l = silent_fine c Quiet l refl

joins_fine : (c : CardLink) (n chained : Bool) (end : ℕ) → FineCard (card_joins c n chained end)
joins_fine c n true end = record { sends = tt; keeps = tt; stays = refl }
joins_fine c n false end = record { sends = tt; keeps = tt; stays = refl }

rules_fine : (c : CardLink) (b : Block) (bytes room len : ℕ) → Fine b → Fine c.last → FineCard (card_rules c b bytes room len)
unfolding card_takes_i card_takes_ack card_takes_nak
rules_fine c (I n chained) bytes room len f l = card_either (fits (c.joined + bytes) room) _ _ (joins_fine c (not c.number) chained (c.joined + bytes)) (record { sends = tt; keeps = l; stays = refl })
rules_fine c (Ack n) bytes room len f l = card_either (same n c.number) _ _ (record { sends = l; keeps = l; stays = refl }) (next_fine c c.phase len l)
rules_fine c (Nak n) bytes room len f l = card_either (same n c.number) _ _ (record { sends = l; keeps = l; stays = refl }) (record { sends = tt; keeps = tt; stays = refl })
rules_fine c Deselect bytes room len f l = absurd f
rules_fine c (Wtx w) bytes room len f l = granted_fine c c.phase w l
rules_fine c Unknown bytes room len f l = silent_fine c Quiet l refl
rules_fine c Nothing bytes room len f l = silent_fine c Quiet l refl

pub takes_fine : (c : CardLink) (b : Block) (bytes room len : ℕ) → Fine b → Fine c.last → FineCard (card_takes c b bytes room len)
unfolding card_takes
takes_fine c b bytes room len f l =
    card_either (owes c.phase) _ _ (record { sends = tt; keeps = l; stays = refl })
    (lent_either FineCard c len (card_rules c b bytes room len) (silent_fine c (Refused Room) l refl) (silent_fine c (Refused TooLong) l refl) (rules_fine c b bytes room len f l))

pub replies_fine : (c : CardLink) (len : ℕ) → Fine c.last → FineCard (card_replies c len)
unfolding card_replies
replies_fine c len l =
    card_either (owes c.phase) _ _ (card_either (leb len message_max) _ _ (i_fine c c.number 0 len) (record { sends = tt; keeps = l; stays = refl }))
    (record { sends = tt; keeps = l; stays = refl })

-- ---- the reader in a message: what it sends is fine, and while its host is told nothing it awaits a block

abbrev pub talks : ReaderPhase → Bool
talks (Talking t) = true
talks Open = false
talks Leaving = false
talks Finished = false
talks Stopped = false

-- where a step leaves the reader that has told its host t
abbrev pub Goes : Told → ReaderPhase → Type 0
Goes Quiet ph = talks ph ≡ true
Goes (Message n) ph = Unit
Goes Granted ph = Unit
Goes Deselected ph = Unit
Goes (Refused e) ph = Unit

pub record FineReader (s : ReaderStep) : Type 0 where
  pub sends : Fine s.send
  pub goes : Goes s.told s.link.phase

reader_either : (t : Bool) (a b : ReaderStep) → FineReader a → FineReader b → FineReader (cond t a b)
reader_either true a b f g = f
reader_either false a b f g = g

asks_fine : (t : Turn) (n : Bool) → Fine (asks_again t n)
asks_fine Sending n = tt
asks_fine Awaiting n = tt
asks_fine Joining n = tt

own_fine : (r : ReaderLink) (t : Turn) (len : ℕ) → FineReader (ack_own r t len)
unfolding reader_i
own_fine r Sending len = record { sends = tt; goes = refl }
own_fine r Awaiting len = record { sends = tt; goes = tt }
own_fine r Joining len = record { sends = tt; goes = tt }

again_fine : (r : ReaderLink) (t : Turn) (chained : Bool) → FineReader (reader_again r t chained)
unfolding reader_again
again_fine r t chained = reader_either (ltb r.again 2) _ _ (record { sends = tt; goes = refl }) (record { sends = tt; goes = tt })

other_fine : (r : ReaderLink) (t : Turn) → FineReader (ack_other r t)
other_fine r Sending = again_fine r Sending true
other_fine r Awaiting = again_fine r Awaiting false
other_fine r Joining = record { sends = tt; goes = tt }

join_fine : (r : ReaderLink) (n chained : Bool) (end : ℕ) → FineReader (reader_joins r n chained end)
join_fine r n true end = record { sends = tt; goes = refl }
join_fine r n false end = record { sends = tt; goes = tt }

pub reader_fine : (r : ReaderLink) (t : Turn) (b : Block) (bytes room len : ℕ) → FineReader (reader_rules r t b bytes room len)
unfolding reader_takes_i reader_takes_ack reader_echoes reader_repeats
reader_fine r t (I n chained) bytes room len =
    reader_either (awaits_i r t n) _ _
    (reader_either (fits (r.joined + bytes) room) _ _ (join_fine r (not r.number) chained (r.joined + bytes)) (record { sends = tt; goes = tt }))
    (record { sends = tt; goes = tt })
reader_fine r t (Ack n) bytes room len = reader_either (same n r.number) _ _ (own_fine r t len) (other_fine r t)
reader_fine r t (Nak n) bytes room len = record { sends = tt; goes = tt }
reader_fine r t Deselect bytes room len = record { sends = tt; goes = tt }
reader_fine r t (Wtx v) bytes room len = reader_either (wtx_ok (v % 64)) _ _ (record { sends = omega arith; goes = refl }) (record { sends = tt; goes = tt })
reader_fine r t Unknown bytes room len = record { sends = tt; goes = tt }
reader_fine r t Nothing bytes room len = reader_either (ltb r.repeats 2) _ _ (record { sends = asks_fine t r.number; goes = refl }) (record { sends = tt; goes = tt })

pub hears_fine : (r : ReaderLink) (ph : ReaderPhase) (b : Block) (bytes room len : ℕ) → talks ph ≡ true → FineReader (reader_takes r ph b bytes room len)
hears_fine r (Talking t) b bytes room len e =
    message-either FineReader r len (reader_rules r t b bytes room len) (record { sends = tt; goes = tt }) (record { sends = tt; goes = tt }) (reader_fine r t b bytes room len)
hears_fine r Open b bytes room len e = absurd (false≢true e)
hears_fine r Leaving b bytes room len e = absurd (false≢true e)
hears_fine r Finished b bytes room len e = absurd (false≢true e)
hears_fine r Stopped b bytes room len e = absurd (false≢true e)

pub starts_fine : (r : ReaderLink) (len : ℕ) → FineReader (reader_starts r len)
unfolding reader_starts reader_i
starts_fine r len =
    reader_either (is_open r.phase) _ _ (reader_either (leb len message_max) _ _ (record { sends = tt; goes = refl }) (record { sends = tt; goes = tt }))
    (record { sends = tt; goes = tt })

pub quiet_talks : (t : Told) (ph : ReaderPhase) → Goes t ph → is_quiet t ≡ true → talks ph ≡ true
quiet_talks Quiet ph g e = g
quiet_talks (Message n) ph g e = absurd (false≢true e)
quiet_talks Granted ph g e = absurd (false≢true e)
quiet_talks Deselected ph g e = absurd (false≢true e)
quiet_talks (Refused x) ph g e = absurd (false≢true e)

-- ---- what is heard of such a block

fine_good : (b : Block) (p : List ℕ) → Fine b → Fine (heard_block (Good (block_bytes b p)))
unfolding kind
fine_good (I true true) p f = tt
fine_good (I true false) p f = tt
fine_good (I false true) p f = tt
fine_good (I false false) p f = tt
fine_good (Ack true) p f = tt
fine_good (Ack false) p f = tt
fine_good (Nak true) p f = tt
fine_good (Nak false) p f = tt
fine_good (Wtx v) p f = f
fine_good Deselect p f = absurd f
fine_good Unknown p f = tt
fine_good Nothing p f = tt

verdict_fine : (i : ℕ) (l : List ℕ) → Fine (heard_block (Good l)) → Fine (heard_block (verdict i l))
verdict_fine i [] f = tt
verdict_fine i (x ∷ p) f = go (leb (3 + length p) (size i))
  where
    go : (t : Bool) → Fine (heard_block (cond t (Good (x ∷ p)) (Fault Length)))
    go true = f
    go false = tt

pub fine_heard : (i : ℕ) (b : Block) (p : List ℕ) → Fine b → Fine (heard_block (verdict i (block_bytes b p)))
fine_heard i b p f = verdict_fine i (block_bytes b p) (fine_good b p f)
