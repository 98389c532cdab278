-- Laws of the card's steps. Assumes nothing.
use Rattle.std.specs.Prelude.{◌≡◌, refl, ℕ, ◌+◌, ◌-◌, ◌≤◌, ◌<◌, Bool, true, false, cond, not, List, [], ◌∷◌, length, take, drop, eqb, ltb}
use Rattle.std.proofs.Common.{sym, ◌∙◌, arith, take_all, le-ltb, lt-ltb}
use Rattle.std.proofs.lemmas.Bool.{false≢true}
use Rattle.std.specs.Bool.{beq as same}
use Rattle.rows.specs.Rows.{overlay}
use Rattle.frame.specs.Frame.{Verdict, Good, Fault}
use Rattle.frame.specs.Calls.{good_bytes}
use Rattle.refusal.specs.declared.Refusal.TheVariants.{Room, TooLong, NotDue}
use Rattle.block.specs.declared.Block.{Block}
use Rattle.block.specs.declared.Block.TheVariants.{I, Ack, Nak, Deselect, Wtx, Unknown, Nothing}
use Rattle.block.specs.declared.Told.TheVariants.{Refused}
use Rattle.limits.specs.Limits.{message_max}
use Rattle.block.specs.Cut.{fits}
use Rattle.block.specs.Block.{block_of, behind, is_i}
use Rattle.card_blocks.specs.declared.CardPhase.{CardPhase}
use Rattle.card_blocks.specs.declared.CardPhase.TheVariants.{Receiving, Owing, Waiting, Answering}
use Rattle.card_blocks.specs.declared.CardLink.{CardLink}
use Rattle.card_blocks.specs.declared.CardStep.{CardStep}
use Rattle.card_blocks.specs.CardRules.{card_at, card_joins, card_silent, card_sends, card_i, card_next, card_granted, card_takes_i, card_takes_ack, card_takes_nak, card_rules, owes, lent_for, card_takes}
use Rattle.card_blocks.specs.CardFrames.{card_hears, card_out, card_block}

-- of two steps that join nothing either joins nothing
neither : (t : Bool) (a b : CardStep) → a.joins ≡ false → b.joins ≡ false → (cond t a b).joins ≡ false
neither true a b h k = h
neither false a b h k = k

next_joins : (c : CardLink) (ph : CardPhase) (len : ℕ) → (card_next c ph len).joins ≡ false
unfolding card_i
next_joins c Receiving len = refl
next_joins c Owing len = refl
next_joins c (Waiting v) len = refl
next_joins c Answering len = refl

granted_joins : (c : CardLink) (ph : CardPhase) (w : ℕ) → (card_granted c ph w).joins ≡ false
granted_joins c Receiving w = refl
granted_joins c Owing w = refl
granted_joins c (Waiting v) w = neither (eqb w v) _ _ refl refl
granted_joins c Answering w = refl

-- only a payload that fits is joined
rules_join : (c : CardLink) (b : Block) (bytes room len : ℕ) → (card_rules c b bytes room len).joins ≡ true → fits (c.joined + bytes) room ≡ true
unfolding card_takes_i card_takes_ack card_takes_nak
rules_join c (I n chained) bytes room len e = go (fits (c.joined + bytes) room) e
  where
    go : (t : Bool) → (cond t (card_joins c (not c.number) chained (c.joined + bytes)) (card_silent c (Refused TooLong))).joins ≡ true → t ≡ true
    go true e = refl
    go false e = absurd (false≢true e)
rules_join c (Ack n) bytes room len e = absurd (false≢true (rw (neither (same n c.number) (card_sends c) (card_next c c.phase len) refl (next_joins c c.phase len)) at e))
rules_join c (Nak n) bytes room len e = absurd (false≢true (rw (neither (same n c.number) (card_sends c) (card_sends (card_at c c.number c.phase (Ack c.number) c.joined c.at)) refl refl) at e))
rules_join c Deselect bytes room len e = absurd (false≢true e)
rules_join c (Wtx w) bytes room len e = absurd (false≢true (rw (granted_joins c c.phase w) at e))
rules_join c Unknown bytes room len e = absurd (false≢true e)
rules_join c Nothing bytes room len e = absurd (false≢true e)

-- ---- the answer that is lent

-- what holds of a step, and of the card that declines it, holds of the step with the answer that is lent
pub lent_either : (P : CardStep → Type 0) (c : CardLink) (len : ℕ) (s : CardStep)
    → P (card_silent c (Refused Room)) → P (card_silent c (Refused TooLong)) → P s → P (lent_for c len s)
unfolding lent_for
lent_either P c len s x y z = go (is_i s.send) (ltb len s.link.at) (ltb message_max len)
  where
    go : (t u v : Bool) → P (cond t (cond u (card_silent c (Refused Room)) (cond v (card_silent c (Refused TooLong)) s)) s)
    go true true v = x
    go true false true = y
    go true false false = z
    go false u v = z

-- a step that sends no I goes with any answer
pub lent_any : (c : CardLink) (len : ℕ) (s : CardStep) → is_i s.send ≡ false → lent_for c len s ≡ s
unfolding lent_for
lent_any c len s e = rw e

-- one that sends an I goes with an answer of up to 4,096 bytes that does not end before the I
pub lent_fits : (c : CardLink) (len : ℕ) (s : CardStep) → s.link.at ≤ len → len ≤ message_max → lent_for c len s ≡ s
unfolding lent_for
lent_fits c len s h k = rw (le-ltb len s.link.at h, le-ltb message_max len k) (both (is_i s.send))
  where
    both : (t : Bool) → cond t s s ≡ s
    both true = refl
    both false = refl

-- one whose answer ends before it is declined with 1
pub lent_short : (c : CardLink) (len : ℕ) (s : CardStep) → is_i s.send ≡ true → len < s.link.at → lent_for c len s ≡ card_silent c (Refused Room)
unfolding lent_for
lent_short c len s e h = rw (e, lt-ltb len s.link.at h)

-- .. and with 10 where it is over 4,096 bytes
pub lent_long : (c : CardLink) (len : ℕ) (s : CardStep) → is_i s.send ≡ true → s.link.at ≤ len → message_max < len → lent_for c len s ≡ card_silent c (Refused TooLong)
unfolding lent_for
lent_long c len s e h k = rw (e, le-ltb len s.link.at h, lt-ltb message_max len k)

-- 1 of the next I, where the answer ends before the last one
pub next_short : (c : CardLink) (len : ℕ) → len < c.at → lent_for c len (card_silent c (Refused Room)) ≡ lent_for c len (card_next c Answering len)
unfolding card_i
next_short c len h = lent_any c len (card_silent c (Refused Room)) refl ∙ sym (lent_short c len (card_next c Answering len) refl (omega arith))

pub takes_join : (c : CardLink) (b : Block) (bytes room len : ℕ) → (card_takes c b bytes room len).joins ≡ true → fits (c.joined + bytes) room ≡ true
unfolding card_takes
takes_join c b bytes room len e = go (owes c.phase) e
  where
    go : (s : Bool) → (cond s (card_silent c (Refused NotDue)) (lent_for c len (card_rules c b bytes room len))).joins ≡ true → fits (c.joined + bytes) room ≡ true
    go true e = absurd (false≢true e)
    go false e =
        lent_either (λ s. s.joins ≡ true → fits (c.joined + bytes) room ≡ true) c len (card_rules c b bytes room len)
        (λ e. absurd (false≢true e)) (λ e. absurd (false≢true e)) (rules_join c b bytes room len) e

-- silence joins nothing
pub nothing_joins : (c : CardLink) (bytes room len : ℕ) → (card_takes c Nothing bytes room len).joins ≡ false
unfolding card_takes
nothing_joins c bytes room len = neither (owes c.phase) _ _ refl (lent_either (λ s. s.joins ≡ false) c len (card_rules c Nothing bytes room len) refl refl refl)

-- a frame by its number of bytes
pub hears_none : (c : CardLink) (l : List ℕ) (room len : ℕ) → length l ≡ 0 → card_takes c Nothing 0 room len ≡ card_hears c l room len
unfolding card_hears
hears_none c [] room len e = refl
hears_none c (f ∷ p) room len e = absurd (omega arith)

pub hears_some : (c : CardLink) (l : List ℕ) (room len : ℕ) → 0 < length l → card_takes c (block_of l) (length l - 1) room len ≡ card_hears c l room len
unfolding card_hears
hears_some c [] room len h = absurd (omega arith)
hears_some c (f ∷ p) room len h = let e : length (f ∷ p) - 1 ≡ length p = omega arith in rw e

-- what lies behind a frame's first byte is joined, where it is joined
pub hears_joined : (c : CardLink) (b : Block) (l buffer last : List ℕ) (r : Bool) (len : ℕ) → 0 < length l
    → (card_takes c b (length l - 1) (length buffer) len).joins ≡ true
    → r ≡ fits (c.joined + length (take (length l - 1) (drop 1 l))) (length buffer)
    → last ≡ cond r (overlay buffer c.joined (take (length l - 1) (drop 1 l))) buffer
    → last ≡ overlay buffer c.joined (behind l)
hears_joined c b [] buffer last r len h j er el = absurd (omega arith)
hears_joined c b (f ∷ p) buffer last r len h j er el =
    let e : length (f ∷ p) - 1 ≡ length p = omega arith in
    let t : take (length (f ∷ p) - 1) p ≡ p = take_all (length (f ∷ p) - 1) p (omega arith) in
    let k : fits (c.joined + length p) (length buffer) ≡ true = rw e at (takes_join c b (length (f ∷ p) - 1) (length buffer) len j) in
    el ∙ rw (er, t, k)

-- a frame by the bytes that it has if it is good
pub block_bytes_law : (c : CardLink) (v : Verdict) (m buffer : List ℕ)
    → card_block c v m buffer ≡ card_out (card_hears c (good_bytes v) (length buffer) (length m)) m buffer c.joined (behind (good_bytes v))
unfolding card_block card_hears
block_bytes_law c (Good l) m buffer = refl
block_bytes_law c (Fault e) m buffer = refl
