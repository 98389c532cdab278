-- Document 02, T-14: where the cards of a kept branch do not answer as they did. The refusals are the plain reader's: it stops, and nothing is
-- remembered. Assumes nothing.
use Rattle.std.specs.Prelude.{◌≡◌, ℕ, ◌<◌, false, get_or, Ok}
use Rattle.std.proofs.Math.Path.{ap}
use Rattle.std.proofs.Common.{◌∙◌}
use Rattle.std.proofs.Math.Bool.{true}
use mathlib.Core.List.{List, []}
use borrow.Author.Tests.{lt-ltb}
use Rattle.rows.specs.Rows.{is_nil}
use Rattle.uid.specs.Uid.{place}
use Rattle.selection.specs.Heard.{read_rest, read_sak}
use Rattle.reader.specs.Reader as Plain
use Rattle.reader.specs.Reader.{b3, contradicts, hear_rest, hear_sak, stop}
use Rattle.reader.specs.StepLaws as Steps
use Rattle.reader.specs.StepLaws.{sak_at, sak_contradicts}
use Rattle.memory.specs.Memory.{recall, comes, stays, hear_in, hear}
use Rattle.refusal.specs.declared.Refusal.TheVariants.{Silence, Forbidden}
use Rattle.uid.specs.declared.Level.{Level}
use Rattle.reader.specs.declared.Phase.TheVariants.{AnticollisionSent, SelectSent}
use Rattle.reader.specs.declared.Reader.{Reader}

module _ (l : Level) (r : Reader) (w : List ℕ) where
  -- "ANTICOLLISION of level l with k = p + 1": nobody answers, 7
  pub branch_silent : r.phase ≡ AnticollisionSent l → hear r w [] ≡ recall (stop Silence) []
  unfolding hear stays Plain.hear hear_rest read_rest is_nil
  branch_silent e = rw e

  -- a level that is sent straight: nobody answers, 7
  pub straight_silent : r.phase ≡ SelectSent l → hear r w [] ≡ recall (stop Silence) []
  unfolding hear comes Plain.hear hear_sak read_sak is_nil
  straight_silent e = rw e

  -- .. or a good SAK has b3 clear, where the level begins with 88, as every level does that another follows: 9
  pub straight_ends : r.phase ≡ SelectSent l → place l < 2 → get_or r.five 0 0 ≡ 0x88 → (h : List ℕ) (b : ℕ) → read_sak h ≡ Ok b → b3 b ≡ false → hear r w h ≡ recall (stop Forbidden) []
  unfolding hear comes
  straight_ends e k five h b s clear =
      let c : contradicts l (b3 b) (get_or r.five 0 0) ≡ true = unfold contradicts in rw (clear, five, lt-ltb (place l) 2 k) in
      let p : Plain.hear r h ≡ stop Forbidden = Steps.hear_at r h (SelectSent l) e ∙ sak_at l r h (Ok b) s ∙ sak_contradicts l r b c in
      let x : hear_in (SelectSent l) r w h ≡ recall (stop Forbidden) [] = rw p in
      ap (λ q. hear_in q r w h) e ∙ x
