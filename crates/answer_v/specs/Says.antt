-- What was heard, in the table's numbers.
use Rattle.std.specs.Prelude.{List, [], ◌∷◌, ℕ, Result, Ok, Err}
use Rattle.refusal.specs.Refusal.{Said, giving, refusal_says}
use Rattle.selection_b.specs.HeardB.{held_number}
use Rattle.selection_b.specs.declared.Held.{Held}
use Rattle.answer_v.specs.declared.SlotV.{SlotV}
use Rattle.answer_v.specs.declared.AnswerSays.{AnswerSays}
use Rattle.answer_v.specs.declared.AnswerSays.TheVariants.{Good, Fails, NotGood}
use Rattle.refusal.specs.declared.Refusal.{Refusal}

-- 0, 1 or 2 for none, one, more; of one its DSFID and its UID
abbrev pub held_says : Result Held Refusal → ℕ → List ℕ → Said
held_says (Ok k) dsfid uid = giving (held_number k ∷ dsfid ∷ uid)
held_says (Err e) dsfid uid = refusal_says e

abbrev pub slot_says : SlotV → Said
slot_says s = held_says s.says s.dsfid s.uid

-- done, with so many bytes; or an error of the tag: 1 and its code, no refusal
abbrev pub answer_says : AnswerSays → Said
answer_says (Good n) = giving (0 ∷ n ∷ [])
answer_says (Fails e) = giving (1 ∷ e ∷ [])
answer_says (NotGood e) = refusal_says e
