-- The path in its array, and what the reader hears, as the code has it. Assumes nothing.
use Rattle.std.specs.Prelude.{◌≡◌, refl, ℕ, ◌+◌, ◌-◌, ◌*◌, ◌≤◌, min, Bool, true, false, cond, List, [], ◌++◌, length, take, replicate}
use Rattle.std.proofs.Common.{sym, ap, ap₂, ◌∙◌, arith, true≢false, length-take, take_at, take_all}
use Rattle.std.proofs.lemmas.Bool.{false≢true}
use Rattle.rows.specs.Rows.{fill, overlay}
use Rattle.uid.specs.FillLaws.{fill_zeros}
use Rattle.uid.specs.Uid.{place}
use Rattle.selection.specs.Heard.{read_rest}
use Rattle.reader.specs.Reader as Plain
use Rattle.memory.specs.Memory.{Recall, recall, learnt, enters, enters_by, keeps, stays, hear_in, hear}
use Rattle.memory.specs.EnterLaws.{take_least}
use Rattle.memory.specs.Stored.{path_of, stored, Kept, is_sends, is_on, memory_of}
use Rattle.memory.specs.declared.Path.{Path}
use Rattle.memory.specs.declared.Memory.{Memory}
use Rattle.uid.specs.declared.Level.{Level}
use Rattle.reader.specs.declared.Phase.{Phase}
use Rattle.reader.specs.declared.Phase.TheVariants.{New, ReqaSent, AnticollisionSent, SelectSent, HltaSent, Selected, Finished, Stopped, WupaSent, UidSelectSent}
use Rattle.reader.specs.declared.Reader.{Reader}
use Rattle.reader.specs.declared.Turn.{Turn}
use Rattle.reader.specs.declared.Answer.{Answer}
use Rattle.reader.specs.declared.Answer.TheVariants.{Sends, Finds, Selects, Finishes, Declines}

path_stored : (w : List ℕ) → path_of (stored w) ≡ w
unfolding path_of stored fill
path_stored w = take_at w (replicate (120 - length w) 0) (length w) refl

pub kept_stored : (q : Path) (w : List ℕ) → q ≡ stored w → q.known ≤ 120 → Kept q
kept_stored q w e h = record { fits = h; zeros = e ∙ ap stored (sym (path_stored w) ∙ ap path_of (sym e)) }

pub made_memory : (t : Turn) (q : Path) (w : List ℕ) → q ≡ stored w → ◌≡◌ {A = Memory} (record { turn = t; path = q }) (memory_of (recall t w))
unfolding memory_of
made_memory t q w e = rw e

pub keeps_on : (a : Answer) (w : List ℕ) (b : Bool) → is_on a ≡ b → keeps a w ≡ cond b w []
keeps_on (Sends n) w true e = refl
keeps_on (Sends n) w false e = absurd (true≢false e)
keeps_on (Finds n) w true e = refl
keeps_on (Finds n) w false e = absurd (true≢false e)
keeps_on Selects w true e = absurd (false≢true e)
keeps_on Selects w false e = refl
keeps_on Finishes w true e = absurd (false≢true e)
keeps_on Finishes w false e = refl
keeps_on (Declines r) w true e = absurd (false≢true e)
keeps_on (Declines r) w false e = refl

pub enters_on : (a : Answer) (l : Level) (t : Turn) (w : List ℕ) (b : Bool) → is_sends a ≡ b → enters_by a l t w ≡ cond b (enters l t.reader w) t
enters_on (Sends n) l t w true e = refl
enters_on (Sends n) l t w false e = absurd (true≢false e)
enters_on (Finds n) l t w true e = absurd (false≢true e)
enters_on (Finds n) l t w false e = refl
enters_on Selects l t w true e = absurd (false≢true e)
enters_on Selects l t w false e = refl
enters_on Finishes l t w true e = absurd (false≢true e)
enters_on Finishes l t w false e = refl
enters_on (Declines r) l t w true e = absurd (false≢true e)
enters_on (Declines r) l t w false e = refl

pub path_at : (q : Path) (w : List ℕ) → q ≡ stored w → path_of q ≡ w
path_at q w e = ap path_of e ∙ path_stored w

-- the rules at the phase p gave u
pub heard_at : (r : Reader) (w h : List ℕ) (p : Phase) (u : Recall) (m : Memory) → r.phase ≡ p → m ≡ memory_of u → u ≡ hear_in p r w h → m ≡ memory_of (hear r w h)
unfolding hear
heard_at r w h p u m e q f = q ∙ ap memory_of (f ∙ ap (λ p. hear_in p r w h) (sym e))

-- no row is awaited in a sweep
pub else_heard : (r : Reader) (w h : List ℕ) (t : Turn) (m : Memory) → (r.phase ≡ ReqaSent → ⊥) → ((l : Level) → r.phase ≡ AnticollisionSent l → ⊥) → ((l : Level) → r.phase ≡ SelectSent l → ⊥) → (r.phase ≡ HltaSent → ⊥)
    → m ≡ memory_of (recall t w) → t ≡ Plain.hear r h → m ≡ memory_of (hear r w h)
unfolding hear
else_heard r w h t m a b c d e q = e ∙ ap memory_of (ap (λ u. recall u w) q ∙ go r.phase refl)
  where
    go : (p : Phase) → r.phase ≡ p → recall (Plain.hear r h) w ≡ hear_in p r w h
    go New z = refl
    go ReqaSent z = absurd (a z)
    go (AnticollisionSent l) z = absurd (b l z)
    go (SelectSent l) z = absurd (c l z)
    go HltaSent z = absurd (d z)
    go Selected z = refl
    go Finished z = refl
    go Stopped z = refl
    go WupaSent z = refl
    go (UidSelectSent l) z = refl

pub rest_heard : (l : Level) (r : Reader) (w h : List ℕ) (t : Turn) (m : Memory) → m ≡ memory_of (stays t (take (40 * place l + r.known) w ++ learnt r (read_rest r.known r.five h)))
    → t ≡ Plain.hear r h → r.phase ≡ AnticollisionSent l → m ≡ memory_of (hear r w h)
rest_heard l r w h t m e q p =
    let w' : List ℕ = take (40 * place l + r.known) w ++ learnt r (read_rest r.known r.five h) in
    heard_at r w h (AnticollisionSent l) (stays t w') m p e (ap (λ u. stays u w') q)

-- at most 120 bits of an array
pub made_tidy : (p : Path) (m : ℕ) (out : List ℕ) → length p.row ≡ 120 → m ≡ min p.known 120 → out ≡ overlay (replicate 120 0) 0 (take m p.row)
    → ◌≡◌ {A = Path} (record { row = out; known = m }) (stored (path_of p))
unfolding stored path_of
made_tidy p m out h e q =
    let t : take p.known p.row ≡ take m p.row = ap (take p.known) (sym (take_all 120 p.row (omega arith))) ∙ take_least p.known 120 p.row ∙ ap (λ i. take i p.row) (sym e) in
    ap₂ (λ (r : List ℕ) (k : ℕ). record { row = r; known = k }) (q ∙ fill_zeros 120 (take m p.row) ∙ ap (fill 120) (sym t)) (sym (rw (t, length-take) (omega arith)))
