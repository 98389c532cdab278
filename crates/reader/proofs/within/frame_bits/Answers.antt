-- `reader::within::frame_bits` meets its contract. Assumes nothing.
use Rattle.std.proofs.Common.{sym, ap, ◌∙◌, length}
use mathlib.Core.Logic.{inl, inr}
use Rattle.selection.specs.SelectionLaws.{length_reqa, length_wupa, length_hlta, length_select}
use Rattle.selection.specs.SentLaws.{anti_length}
use Rattle.reader.specs.StepLaws.{frame_at}
use borrow.Author.Rules.{rules}
use Rattle.reader.proofs.within.frame_bits.Goals as goal

pub returns-in-ReqaSent : goal.returns-in-ReqaSent
returns-in-ReqaSent c = elim c.in-ReqaSent.is [
  | inl e ↦ sym (ap length (frame_at c.args.r _ e) ∙ length_reqa)
  | inr e ↦ sym (ap length (frame_at c.args.r _ e) ∙ length_wupa)
]

pub returns-in-AnticollisionSent : goal.returns-in-AnticollisionSent
returns-in-AnticollisionSent c = c.anticollision_bits.ensures ∙ sym (ap length (frame_at c.args.r _ c.in-AnticollisionSent.is) ∙ anti_length _ _ _ (search rules))

pub returns-in-SelectSent : goal.returns-in-SelectSent
returns-in-SelectSent c = elim c.in-SelectSent.is [
  | inl e ↦ sym (ap length (frame_at c.args.r _ e.1) ∙ length_select _ _ (search rules))
  | inr e ↦ sym (ap length (frame_at c.args.r _ e.1) ∙ length_select _ _ (search rules))
]

pub returns-in-HltaSent : goal.returns-in-HltaSent
returns-in-HltaSent c = sym (ap length (frame_at c.args.r _ c.in-HltaSent.is) ∙ length_hlta)

pub returns-in-New : goal.returns-in-New
returns-in-New c = elim c.in-New.is [
  | inl e ↦ sym (ap length (frame_at c.args.r _ e))
  | inr d ↦ elim d [
    | inl e ↦ sym (ap length (frame_at c.args.r _ e))
    | inr d' ↦ elim d' [
      | inl e ↦ sym (ap length (frame_at c.args.r _ e))
      | inr e ↦ sym (ap length (frame_at c.args.r _ e))
    ]
  ]
]
