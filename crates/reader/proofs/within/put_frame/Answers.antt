-- `reader::within::put_frame` meets its contract: each phase writes its frame. Assumes nothing.
use Rattle.std.proofs.Common.{sym, ap, ◌∙◌}
use mathlib.Core.Logic.{inl, inr}
use Rattle.rows.specs.Rows.{overlay}
use Rattle.rows.proofs.RowLaws.{overlay_nil}
use Rattle.reader.specs.StepLaws.{frame_at}
use Rattle.reader.proofs.within.put_frame.Goals as goal

pub returns-in-ReqaSent : goal.returns-in-ReqaSent
returns-in-ReqaSent c = let a = c.args in c.put.ensures ∙ ap (overlay a.out.now 0) (c.reqa.ensures ∙ sym (frame_at a.r _ c.in-ReqaSent.is))

pub returns-in-WupaSent : goal.returns-in-WupaSent
returns-in-WupaSent c = let a = c.args in c.put-in-WupaSent.ensures ∙ ap (overlay a.out.now 0) (c.wupa.ensures ∙ sym (frame_at a.r _ c.in-WupaSent.is))

pub returns-in-AnticollisionSent : goal.returns-in-AnticollisionSent
returns-in-AnticollisionSent c = let a = c.args in c.put_anticollision.ensures ∙ ap (overlay a.out.now 0) (sym (frame_at a.r _ c.in-AnticollisionSent.is))

pub returns-in-SelectSent : goal.returns-in-SelectSent
returns-in-SelectSent c = let a = c.args in c.put-in-SelectSent.ensures ∙ ap (overlay a.out.now 0) (c.select.ensures ∙ elim c.in-SelectSent.is [
  | inl e ↦ sym (frame_at a.r _ e)
  | inr e ↦ sym (frame_at a.r _ e)
])

pub returns-in-HltaSent : goal.returns-in-HltaSent
returns-in-HltaSent c = let a = c.args in c.put-in-HltaSent.ensures ∙ ap (overlay a.out.now 0) (c.hlta.ensures ∙ sym (frame_at a.r _ c.in-HltaSent.is))

pub returns-in-New : goal.returns-in-New
returns-in-New c = let a = c.args in elim c.in-New.is [
  | inl e ↦ sym (ap (overlay a.out.now 0) (frame_at a.r _ e) ∙ overlay_nil a.out.now 0)
  | inr d ↦ elim d [
    | inl e ↦ sym (ap (overlay a.out.now 0) (frame_at a.r _ e) ∙ overlay_nil a.out.now 0)
    | inr d' ↦ elim d' [
      | inl e ↦ sym (ap (overlay a.out.now 0) (frame_at a.r _ e) ∙ overlay_nil a.out.now 0)
      | inr e ↦ sym (ap (overlay a.out.now 0) (frame_at a.r _ e) ∙ overlay_nil a.out.now 0)
    ]
  ]
]
