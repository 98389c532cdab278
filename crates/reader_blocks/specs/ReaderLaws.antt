-- Laws of the reader's steps. Assumes nothing.
use Rattle.std.specs.Prelude.{◌≡◌, refl, ℕ, ◌+◌, ◌-◌, ◌%◌, ◌≤◌, ◌<◌, Bool, true, false, cond, not, List, [], ◌∷◌, length, take, drop, ltb}
use Rattle.std.proofs.Common.{sym, ◌∙◌, arith, take_all, le-ltb, lt-ltb}
use Rattle.std.proofs.lemmas.Bool.{false≢true}
use Rattle.std.specs.Bool.{beq as same}
use Rattle.rows.specs.Rows.{overlay}
use Rattle.frame.specs.Frame.{Verdict, Good, Fault}
use Rattle.frame.specs.Calls.{good_bytes}
use Rattle.refusal.specs.declared.Refusal.TheVariants.{Room, Forbidden, TooLong}
use Rattle.block.specs.declared.Block.{Block}
use Rattle.block.specs.declared.Block.TheVariants.{I, Ack, Nak, Deselect, Wtx, Unknown, Nothing}
use Rattle.limits.specs.Limits.{message_max}
use Rattle.block.specs.Cut.{fits}
use Rattle.block.specs.Block.{block_of, behind, is_i, wtx_ok}
use Rattle.reader_blocks.specs.declared.Turn.{Turn}
use Rattle.reader_blocks.specs.declared.Turn.TheVariants.{Sending, Awaiting, Joining}
use Rattle.reader_blocks.specs.declared.ReaderPhase.{ReaderPhase}
use Rattle.reader_blocks.specs.declared.ReaderPhase.TheVariants.{Open, Talking, Leaving, Finished, Stopped}
use Rattle.reader_blocks.specs.declared.ReaderLink.{ReaderLink}
use Rattle.reader_blocks.specs.declared.ReaderStep.{ReaderStep}
use Rattle.reader_blocks.specs.ReaderRules.{reader_keeps, stops, reader_i, reader_again, ack_own, ack_other, reader_joins, awaits_i, reader_repeats, reader_echoes, reader_takes_i, reader_takes_ack, reader_rules, reader_leaves, lent_for, reader_takes}
use Rattle.reader_blocks.specs.ReaderFrames.{reader_hears, reader_out, reader_block}

-- of two steps that join nothing either joins nothing
neither : (t : Bool) (a b : ReaderStep) → a.joins ≡ false → b.joins ≡ false → (cond t a b).joins ≡ false
neither true a b h k = h
neither false a b h k = k

repeats_join : (r : ReaderLink) (ph : ReaderPhase) (b : Block) → (reader_repeats r ph b).joins ≡ false
unfolding reader_repeats
repeats_join r ph b = neither (ltb r.repeats 2) _ _ refl refl

again_joins : (r : ReaderLink) (t : Turn) (chained : Bool) → (reader_again r t chained).joins ≡ false
unfolding reader_again
again_joins r t chained = neither (ltb r.again 2) _ _ refl refl

echo_joins : (r : ReaderLink) (t : Turn) (v : ℕ) → (reader_echoes r t v).joins ≡ false
unfolding reader_echoes
echo_joins r t v = neither (wtx_ok (v % 64)) _ _ refl refl

own_joins : (r : ReaderLink) (t : Turn) (len : ℕ) → (ack_own r t len).joins ≡ false
unfolding reader_i
own_joins r Sending len = refl
own_joins r Awaiting len = refl
own_joins r Joining len = refl

other_joins : (r : ReaderLink) (t : Turn) → (ack_other r t).joins ≡ false
other_joins r Sending = again_joins r Sending true
other_joins r Awaiting = again_joins r Awaiting false
other_joins r Joining = refl

leaves_joins : (r : ReaderLink) (b : Block) → (reader_leaves r b).joins ≡ false
leaves_joins r Deselect = refl
leaves_joins r Nothing = repeats_join r Leaving Deselect
leaves_joins r (I n chained) = refl
leaves_joins r (Ack n) = refl
leaves_joins r (Nak n) = refl
leaves_joins r (Wtx v) = refl
leaves_joins r Unknown = refl

-- only a payload that fits is joined
rules_join : (r : ReaderLink) (t : Turn) (b : Block) (bytes room len : ℕ) → (reader_rules r t b bytes room len).joins ≡ true → fits (r.joined + bytes) room ≡ true
unfolding reader_takes_i reader_takes_ack
rules_join r t (I n chained) bytes room len e = go (awaits_i r t n) (fits (r.joined + bytes) room) e
  where
    go : (s u : Bool) → (cond s (cond u (reader_joins r (not r.number) chained (r.joined + bytes)) (stops TooLong)) (stops Forbidden)).joins ≡ true → u ≡ true
    go true true e = refl
    go true false e = absurd (false≢true e)
    go false u e = absurd (false≢true e)
rules_join r t (Ack n) bytes room len e =
    absurd (false≢true (rw (neither (same n r.number) (ack_own r t len) (ack_other r t) (own_joins r t len) (other_joins r t)) at e))
rules_join r t (Nak n) bytes room len e = absurd (false≢true e)
rules_join r t Deselect bytes room len e = absurd (false≢true e)
rules_join r t (Wtx v) bytes room len e = absurd (false≢true (rw (echo_joins r t v) at e))
rules_join r t Unknown bytes room len e = absurd (false≢true e)
rules_join r t Nothing bytes room len e = absurd (false≢true (rw repeats_join at e))

-- ---- the message that is lent

-- what holds of a step, and of the reader that declines it, holds of the step with the message that is lent
pub lent_either : (P : ReaderStep → Type 0) (r : ReaderLink) (len : ℕ) (s : ReaderStep)
    → P (reader_keeps r Room) → P (reader_keeps r TooLong) → P s → P (lent_for r len s)
unfolding lent_for
lent_either P r len s x y z = go (is_i s.send) (ltb len s.link.at) (ltb message_max len)
  where
    go : (t u v : Bool) → P (cond t (cond u (reader_keeps r Room) (cond v (reader_keeps r TooLong) s)) s)
    go true true v = x
    go true false true = y
    go true false false = z
    go false u v = z

-- a step that sends no I goes with any message
pub lent_any : (r : ReaderLink) (len : ℕ) (s : ReaderStep) → is_i s.send ≡ false → lent_for r len s ≡ s
unfolding lent_for
lent_any r len s e = rw e

-- one that sends an I goes with a message of up to 4,096 bytes that does not end before the I
pub lent_fits : (r : ReaderLink) (len : ℕ) (s : ReaderStep) → s.link.at ≤ len → len ≤ message_max → lent_for r len s ≡ s
unfolding lent_for
lent_fits r len s h k = rw (le-ltb len s.link.at h, le-ltb message_max len k) (both (is_i s.send))
  where
    both : (t : Bool) → cond t s s ≡ s
    both true = refl
    both false = refl

-- one whose message ends before it is declined with 1
pub lent_short : (r : ReaderLink) (len : ℕ) (s : ReaderStep) → is_i s.send ≡ true → len < s.link.at → lent_for r len s ≡ reader_keeps r Room
unfolding lent_for
lent_short r len s e h = rw (e, lt-ltb len s.link.at h)

-- .. and with 10 where it is over 4,096 bytes
pub lent_long : (r : ReaderLink) (len : ℕ) (s : ReaderStep) → is_i s.send ≡ true → s.link.at ≤ len → message_max < len → lent_for r len s ≡ reader_keeps r TooLong
unfolding lent_for
lent_long r len s e h k = rw (e, le-ltb len s.link.at h, lt-ltb message_max len k)

-- 1 of the next I, where the message ends before the last one
pub next_short : (r : ReaderLink) (len : ℕ) → len < r.at → lent_for r len (reader_keeps r Room) ≡ lent_for r len (ack_own r Sending len)
unfolding reader_i
next_short r len h = lent_any r len (reader_keeps r Room) refl ∙ sym (lent_short r len (ack_own r Sending len) refl (omega arith))

pub takes_join : (r : ReaderLink) (ph : ReaderPhase) (b : Block) (bytes room len : ℕ) → (reader_takes r ph b bytes room len).joins ≡ true → fits (r.joined + bytes) room ≡ true
takes_join r (Talking t) b bytes room len e =
    lent_either (λ s. s.joins ≡ true → fits (r.joined + bytes) room ≡ true) r len (reader_rules r t b bytes room len)
    (λ e. absurd (false≢true e)) (λ e. absurd (false≢true e)) (rules_join r t b bytes room len) e
takes_join r Leaving b bytes room len e = absurd (false≢true (rw (leaves_joins r b) at e))
takes_join r Open b bytes room len e = absurd (false≢true e)
takes_join r Finished b bytes room len e = absurd (false≢true e)
takes_join r Stopped b bytes room len e = absurd (false≢true e)

-- silence joins nothing
pub nothing_joins : (r : ReaderLink) (ph : ReaderPhase) (bytes room len : ℕ) → (reader_takes r ph Nothing bytes room len).joins ≡ false
nothing_joins r (Talking t) bytes room len =
    lent_either (λ s. s.joins ≡ false) r len (reader_rules r t Nothing bytes room len) refl refl (repeats_join r (Talking t) _)
nothing_joins r Leaving bytes room len = repeats_join r Leaving Deselect
nothing_joins r Open bytes room len = refl
nothing_joins r Finished bytes room len = refl
nothing_joins r Stopped bytes room len = refl

-- a frame by its number of bytes
pub hears_none : (r : ReaderLink) (l : List ℕ) (room len : ℕ) → length l ≡ 0 → reader_takes r r.phase Nothing 0 room len ≡ reader_hears r l room len
unfolding reader_hears
hears_none r [] room len e = refl
hears_none r (f ∷ p) room len e = absurd (omega arith)

pub hears_some : (r : ReaderLink) (l : List ℕ) (room len : ℕ) → 0 < length l → reader_takes r r.phase (block_of l) (length l - 1) room len ≡ reader_hears r l room len
unfolding reader_hears
hears_some r [] room len h = absurd (omega arith)
hears_some r (f ∷ p) room len h = let e : length (f ∷ p) - 1 ≡ length p = omega arith in rw e

-- what lies behind a frame's first byte is joined, where it is joined
pub hears_joined : (r : ReaderLink) (ph : ReaderPhase) (b : Block) (l buffer last : List ℕ) (t : Bool) (len : ℕ) → 0 < length l
    → (reader_takes r ph b (length l - 1) (length buffer) len).joins ≡ true
    → t ≡ fits (r.joined + length (take (length l - 1) (drop 1 l))) (length buffer)
    → last ≡ cond t (overlay buffer r.joined (take (length l - 1) (drop 1 l))) buffer
    → last ≡ overlay buffer r.joined (behind l)
hears_joined r ph b [] buffer last t len h j et el = absurd (omega arith)
hears_joined r ph b (f ∷ p) buffer last t len h j et el =
    let e : length (f ∷ p) - 1 ≡ length p = omega arith in
    let a : take (length (f ∷ p) - 1) p ≡ p = take_all (length (f ∷ p) - 1) p (omega arith) in
    let k : fits (r.joined + length p) (length buffer) ≡ true = rw e at (takes_join r ph b (length (f ∷ p) - 1) (length buffer) len j) in
    el ∙ rw (et, a, k)

-- a frame by the bytes that it has if it is good
pub block_bytes_law : (r : ReaderLink) (v : Verdict) (m buffer : List ℕ)
    → reader_block r v m buffer ≡ reader_out (reader_hears r (good_bytes v) (length buffer) (length m)) m buffer r.joined (behind (good_bytes v))
unfolding reader_block reader_hears
block_bytes_law r (Good l) m buffer = refl
block_bytes_law r (Fault e) m buffer = refl
