-- What a call of crate frame leaves, by what its answer says. Assumes nothing.
use Rattle.std.specs.Prelude.{◌≡◌, refl, false, List, ℕ, eqb, Result, Ok, Err}
use Rattle.std.proofs.Common.{ap, ◌∙◌, arith, ne_eqb}
use Rattle.refusal.specs.Refusal.{Said, number_of, place_of, refusal_says, number_says}
use Rattle.refusal.specs.declared.Refusal.{Refusal}
use Rattle.frame.specs.Calls.{row_after, good_bytes, bytes_after}
use Rattle.frame.specs.Frame.{Verdict}
use Rattle.kept.specs.Kept.{refused}
use Rattle.kept.specs.KeptLaws.{number_some}
use Rattle.lacrivosum.specs.SaysLaws.{refused_coded}
use Rattle.lacrivosum.specs.Frames.{said_number, said_left}

-- a refusal's number for C
pub refused_said : (s : Said) (e : Refusal) (n : ℕ) → s ≡ refusal_says e → n ≡ refused e → n ≡ said_number s
refused_said s e n h k = rw (h, k) (refused_coded e (place_of e))

some_refusal : (e : Refusal) → eqb (number_of e) 0 ≡ false
some_refusal e = let h = number_some e in ne_eqb (number_of e) 0 (λ z. absurd (omega arith))

row_after_law : (w : Result ℕ Refusal) (frame out : List ℕ) → row_after w frame out ≡ said_left (number_says w) frame out
row_after_law (Ok n) frame out = refl
row_after_law (Err e) frame out = rw (some_refusal e)

bytes_after_law : (r : Result ℕ Refusal) (v : Verdict) (out : List ℕ) → bytes_after r v out ≡ said_left (number_says r) (good_bytes v) out
bytes_after_law (Ok n) v out = refl
bytes_after_law (Err e) v out = rw (some_refusal e)

-- a frame written: the number n for C, and the row o that is left
pub written_said : (w : Result ℕ Refusal) (s : Said) (frame out o : List ℕ) (n : ℕ) → number_says w ≡ s → o ≡ row_after w frame out
    → n ≡ said_number (number_says w) → (n ≡ said_number s) × (o ≡ said_left s frame out)
written_said w s frame out o n e h k = (k ∙ ap said_number e, h ∙ row_after_law w frame out ∙ ap (λ (t : Said). said_left t frame out) e)

-- a frame read
pub received_said : (r : Result ℕ Refusal) (s : Said) (v : Verdict) (out o : List ℕ) (n : ℕ) → number_says r ≡ s → o ≡ bytes_after r v out
    → n ≡ said_number (number_says r) → (n ≡ said_number s) × (o ≡ said_left s (good_bytes v) out)
received_said r s v out o n e h k = (k ∙ ap said_number e, h ∙ bytes_after_law r v out ∙ ap (λ (t : Said). said_left t (good_bytes v) out) e)
