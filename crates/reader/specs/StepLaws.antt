-- The reader's rules, step by step: what each definition gives at a phase, at what was read, and in a call. Assumes nothing.
use Rattle.std.specs.Prelude.{◌≡◌, refl, Bool, true, false, cond, not, ◌&&◌, List, [], ◌∷◌, ◌++◌, ℕ, zero, suc, ◌+◌, ◌-◌, ◌*◌, ◌≤◌, ◌<◌, length, take, drop, replicate, get_or, ltb, Result, Ok}
use Rattle.std.proofs.Common.{sym, ap, ◌∙◌, arith, length-take, lt-ltb, le-ltb}
use Rattle.rows.specs.Rows.{overlay, is_nil}
use Rattle.rows.proofs.RowLaws.{overlay_nil, overlay_next}
use Rattle.uid.specs.FillLaws.{fill_zeros}
use Rattle.uid.specs.Uid.{place}
use Rattle.selection.specs.Heard.{read_atqa, read_rest, read_sak}
use Rattle.reader.specs.Reader.{frame, frame_in, turn, hear, hear_in, hear_atqa, after_atqa, hear_rest, after_rest, hear_sak, sak_heard, contradicts, after_sak, b3, hear_silence, sends, blank, stop, longer, uid}
use Rattle.limits.specs.Limits.{frame_room}
use Rattle.reader.specs.Calls.{call, row_after, turn_says, call_says}
use Rattle.uid.specs.declared.Level.{Level}
use Rattle.uid.specs.declared.Level.TheVariants.{One, Two, Three}
use Rattle.uid.specs.declared.Uid.{Uid}
use Rattle.uid.specs.declared.UidSize.{UidSize}
use Rattle.selection.specs.declared.Rest.{Rest}
use Rattle.selection.specs.declared.RestSays.{RestSays}
use Rattle.refusal.specs.Refusal.{declining}
use Rattle.refusal.specs.declared.Refusal.{Refusal}
use Rattle.refusal.specs.declared.Refusal.TheVariants.{Forbidden, Room, NotDue}
use Rattle.reader.specs.declared.Phase.{Phase}
use Rattle.reader.specs.declared.Phase.TheVariants.{ReqaSent}
use Rattle.reader.specs.declared.Reader.{Reader}
use Rattle.reader.specs.declared.Answer.TheVariants.{Declines}
use Rattle.reader.specs.declared.Turn.{Turn}

-- ---- at a phase

pub frame_at : (r : Reader) (p : Phase) → r.phase ≡ p → frame r ≡ frame_in p r
unfolding frame
frame_at r p e = ap (λ q. frame_in q r) e

pub hear_at : (r : Reader) (h : List ℕ) (p : Phase) → r.phase ≡ p → hear r h ≡ hear_in p r h
unfolding hear
hear_at r h p e = ap (λ q. hear_in q r h) e

-- ---- at what was read

pub atqa_at : (r : Reader) (h : List ℕ) (a : Result Unit Refusal) → (is_nil h && r.sweeps) ≡ false → read_atqa h ≡ a → hear_atqa r h ≡ after_atqa r.sweeps a
unfolding hear_atqa
atqa_at r h a n e = rw (n, e)

pub rest_at : (l : Level) (r : Reader) (h : List ℕ) (x : Rest) (s : RestSays) → x ≡ read_rest r.known r.five h → x.says ≡ s
    → hear_rest l r h ≡ after_rest l r x s
unfolding hear_rest
rest_at l r h x s e f = rw (← e) (ap (after_rest l r x) f)

pub sak_at : (l : Level) (r : Reader) (h : List ℕ) (a : Result ℕ Refusal) → read_sak h ≡ a → hear_sak l r h ≡ sak_heard l r a
unfolding hear_sak
sak_at l r h a e = ap (sak_heard l r) e

-- a good SAK that contradicts its level, and one that fits it
pub sak_contradicts : (l : Level) (r : Reader) (b : ℕ) → contradicts l (b3 b) (get_or r.five 0 0) ≡ true → sak_heard l r (Ok b) ≡ stop Forbidden
sak_contradicts l r b e = rw e

pub sak_fits : (l : Level) (r : Reader) (b : ℕ) → contradicts l (b3 b) (get_or r.five 0 0) ≡ false → sak_heard l r (Ok b) ≡ after_sak l r b (b3 b)
sak_fits l r b e = rw e

-- where levels remain, the SAK's other bits do not count
pub more_any : (l : Level) (r : Reader) (a b : ℕ) → after_sak l r a true ≡ after_sak l r b true
more_any One r a b = refl
more_any Two r a b = refl
more_any Three r a b = refl

pub silence_yes : (h : List ℕ) → is_nil h ≡ true → hear_silence h ≡ sends (blank ReqaSent true)
unfolding hear_silence
silence_yes h e = rw e

pub silence_no : (h : List ℕ) → is_nil h ≡ false → hear_silence h ≡ stop Forbidden
unfolding hear_silence
silence_no h e = rw e

-- ---- a call

pub call_not_due : (b : Bool) (r : Reader) (t : Turn) (n : ℕ) → b ≡ false → call b r t n ≡ turn r (Declines NotDue)
unfolding call
call_not_due b r t n e = rw e

pub call_room : (b : Bool) (r : Reader) (t : Turn) (n : ℕ) → b ≡ true → n < 81 → call b r t n ≡ turn r (Declines Room)
unfolding call
call_room b r t n e h = rw (e, lt-ltb n 81 h)

pub call_due : (b : Bool) (r : Reader) (t : Turn) (n : ℕ) → b ≡ true → 81 ≤ n → call b r t n ≡ t
unfolding call
call_due b r t n e h = rw (e, le-ltb n 81 h)

-- what it says
pub call_says_law : (b : Bool) (r : Reader) (t : Turn) (n : ℕ) (u : Turn) → u ≡ call b r t n → turn_says u ≡ call_says b t n
unfolding call
call_says_law b r t n u e = ap turn_says e ∙ go b (ltb n frame_room)
  where
    go : (b k : Bool) → turn_says (cond (not b) (turn r (Declines NotDue)) (cond k (turn r (Declines Room)) t)) ≡ cond (not b) (declining 11) (cond k (declining 1) (turn_says t))
    go true true = refl
    go true false = refl
    go false k = refl

-- a refusal writes nothing
pub row_declined : (t : Turn) (r : Reader) (e : Refusal) (out : List ℕ) → t ≡ turn r (Declines e) → out ≡ row_after t out
unfolding row_after
row_declined t r e out q = rw q (sym (overlay_nil out 0))

-- ---- the UID so far

pub place_most : (l : Level) → place l ≤ 2
place_most One = omega arith
place_most Two = omega arith
place_most Three = omega arith

pub drop_take : (n m : ℕ) (l : List ℕ) → drop n (take m l) ≡ take (m - n) (drop n l)
drop_take zero m l = let e : m - 0 ≡ m = omega arith in rw e
drop_take (suc n) zero l = let e : 0 - suc n ≡ 0 = omega arith in rw e
drop_take (suc n) (suc m) [] = let e : suc m - suc n ≡ m - n = omega arith in rw e (nils (m - n))
  where
    nils : (k : ℕ) → ◌≡◌ {A = List ℕ} [] (take k [])
    nils zero = refl
    nils (suc k) = refl
drop_take (suc n) (suc m) (x ∷ l) = let e : suc m - suc n ≡ m - n = omega arith in rw e (drop_take n m l)

-- the old bytes at the front, and the level's bytes behind them
pub longer_made : (z : UidSize) (l : Level) (r : Reader) (n at : ℕ) (b₁ b₂ : List ℕ) → n ≤ 1 → length r.uid.bytes ≡ 10 → length r.five ≡ 5 → at ≡ 3 * place l
    → b₁ ≡ overlay (replicate 10 0) 0 (take at r.uid.bytes) → b₂ ≡ overlay b₁ at (take (4 - n) (drop n r.five))
    → ◌≡◌ {A = Uid} (record { size = z; bytes = b₂ }) (uid z (longer l r n))
unfolding longer
longer_made z l r n at b₁ b₂ hn hu hf ha e₁ e₂ =
    let t : length (take at r.uid.bytes) ≡ at = rw length-take (omega (arith, place_most l)) in
    let s : length (take (4 - n) (drop n r.five)) ≤ 4 = rw length-take (omega arith) in
    let p : at ≡ 0 + length (take at r.uid.bytes) = omega (arith, t) in
    let q : b₂ ≡ overlay (replicate 10 0) 0 (take at r.uid.bytes ++ take (4 - n) (drop n r.five)) =
    e₂ ∙ ap (λ (k : ℕ). overlay b₁ k (take (4 - n) (drop n r.five))) p
    ∙ rw e₁ (overlay_next (replicate 10 0) 0 (take at r.uid.bytes) (take (4 - n) (drop n r.five)) (omega (arith, t, s, place_most l))) in
    ap (λ b. record { size = z; bytes = b })
    (q ∙ fill_zeros 10 (take at r.uid.bytes ++ take (4 - n) (drop n r.five))
    ∙ rw (ha, drop_take n 4 r.five))
