-- The calls of the reader that remembers: which test applies; what it completes is valid. Assumes nothing.
use Rattle.std.specs.Prelude.{◌≡◌, ℕ, ◌≤◌, ◌<◌, Bool, not, List, ltb}
use Rattle.std.proofs.Math.Path.{refl, ap}
use Rattle.std.proofs.Common.{◌∙◌}
use Rattle.std.proofs.Math.Bool.{true, false, cond}
use borrow.Author.Tests.{lt-ltb, le-ltb}
use Rattle.limits.specs.Limits.{frame_room}
use Rattle.reader.specs.Calls.{Completed, awaits, row_after, turn_says}
use Rattle.reader.specs.StepLaws.{row_declined}
use Rattle.reader.specs.Reader as Plain
use Rattle.reader.specs.Reader.{sends}
use Rattle.refusal.specs.Refusal.{declining}
use Rattle.memory.specs.Calls.{refused, hear_call, hear_says}
use Rattle.memory.specs.Memory.{enters_by, enters, comes, stays, hear_in, hear}
use Rattle.memory.specs.Stored.{path_of, memory_of}
use Rattle.refusal.specs.declared.Refusal.{Refusal}
use Rattle.refusal.specs.declared.Refusal.TheVariants.{Room, NotDue}
use Rattle.memory.specs.declared.Memory.{Memory}
use Rattle.memory.specs.declared.Path.{Path}
use Rattle.uid.specs.declared.Level.{Level}
use Rattle.reader.specs.declared.Answer.{Answer}
use Rattle.reader.specs.declared.Answer.TheVariants.{Sends, Finds, Selects, Finishes, Declines}
use Rattle.reader.specs.declared.Phase.{Phase}
use Rattle.reader.specs.declared.Phase.TheVariants.{New, ReqaSent, AnticollisionSent, SelectSent, HltaSent, Selected, Finished, Stopped, WupaSent, UidSelectSent}
use Rattle.reader.specs.declared.Reader.{Reader}
use Rattle.reader.specs.declared.Turn.{Turn}

module _ (r : Reader) (p : Path) (h : List ℕ) (room : ℕ) where
  pub hear_not_due : awaits r.phase ≡ false → hear_call r p h room ≡ refused r p NotDue
  unfolding hear_call
  hear_not_due e = rw e

  pub hear_room : awaits r.phase ≡ true → room < 81 → hear_call r p h room ≡ refused r p Room
  unfolding hear_call
  hear_room e k = rw (e, lt-ltb room 81 k)

  pub hear_due : awaits r.phase ≡ true → 81 ≤ room → hear_call r p h room ≡ memory_of (hear r (path_of p) h)
  unfolding hear_call
  hear_due e k = rw (e, le-ltb room 81 k)

  -- in the table's numbers
  pub hear_says_law : (m : Memory) → m ≡ hear_call r p h room → turn_says m.turn ≡ hear_says r p h room
  unfolding hear_call refused memory_of
  hear_says_law m e = ap (λ m. turn_says m.turn) e ∙ go (awaits r.phase) (ltb room frame_room)
    where
      go : (b k : Bool) → turn_says (cond (not b) (refused r p NotDue) (cond k (refused r p Room) (memory_of (hear r (path_of p) h)))).turn
          ≡ cond (not b) (declining 11) (cond k (declining 1) (turn_says (hear r (path_of p) h).turn))
      go true true = refl
      go true false = refl
      go false k = refl

-- a refusal writes nothing
pub refused_row_law : (r : Reader) (p : Path) (e : Refusal) (m : Memory) (out : List ℕ) → m ≡ refused r p e → out ≡ row_after m.turn out
unfolding refused
refused_row_law r p e m out q = row_declined m.turn r e out (ap (λ m. m.turn) q)

-- ---- T-04: a UID that it completes is valid, since it completes what the plain reader completes

abbrev Valid : Turn → Type 0
Valid t = Completed t.answer t.reader

module _ (w : List ℕ) where
  by_answer : (l : Level) (t : Turn) (a : Answer) → t.answer ≡ a → Valid t → Valid (enters_by a l t w)
  unfolding enters sends
  by_answer l t (Sends n) e v = tt
  by_answer l t (Finds n) e v = v
  by_answer l t Selects e v = v
  by_answer l t Finishes e v = v
  by_answer l t (Declines x) e v = v

comes_valid : (l : Level) (t : Turn) (w : List ℕ) → Valid t → Valid (comes l t w).turn
unfolding comes
comes_valid l t w v = by_answer w l t t.answer refl v

recall_valid : (r : Reader) (w h : List ℕ) → Completed (Plain.hear r h).answer (Plain.hear r h).reader → Completed (hear r w h).turn.answer (hear r w h).turn.reader
unfolding hear
recall_valid r w h v = go r.phase
  where
    go : (p : Phase) → Valid (hear_in p r w h).turn
    go New = v
    go ReqaSent = comes_valid _ (Plain.hear r h) _ v
    go (AnticollisionSent l) = unfold stays in v
    go (SelectSent l) = comes_valid _ (Plain.hear r h) _ v
    go HltaSent = unfold stays in v
    go Selected = v
    go Finished = v
    go Stopped = v
    go WupaSent = v
    go (UidSelectSent l) = v

pub heard_valid : (r : Reader) (w h : List ℕ) (m : Memory) → m ≡ memory_of (hear r w h) → Completed (Plain.hear r h).answer (Plain.hear r h).reader → Completed m.turn.answer m.turn.reader
unfolding memory_of
heard_valid r w h m e v = rw e (recall_valid r w h v)

pub refused_valid : (r : Reader) (p : Path) (e : Refusal) (m : Memory) → m ≡ refused r p e → Completed m.turn.answer m.turn.reader
unfolding refused
refused_valid r p e m q = rw q tt
