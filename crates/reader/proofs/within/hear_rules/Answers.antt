use mathlib.Core.Path.{sym, ◌∙◌}
use mathlib.Core.Logic.{inl, inr}
use Rattle.reader.specs.StepLaws.{hear_at}
use Rattle.reader.proofs.within.hear_rules.Goals as goal

pub returns-in-New : goal.returns-in-New
returns-in-New c = let a = c.args in c.not_due.ensures ∙ elim c.in-New.is [
  | inl e ↦ sym (hear_at a.r a.row.now _ e)
  | inr d ↦ elim d [
    | inl e ↦ sym (hear_at a.r a.row.now _ e)
    | inr d' ↦ elim d' [
      | inl e ↦ sym (hear_at a.r a.row.now _ e)
      | inr e ↦ sym (hear_at a.r a.row.now _ e)
    ]
  ]
]

pub returns-in-ReqaSent : goal.returns-in-ReqaSent
returns-in-ReqaSent c = let a = c.args in c.hear_atqa.ensures ∙ sym (hear_at a.r a.row.now _ c.in-ReqaSent.is)

pub returns-in-AnticollisionSent : goal.returns-in-AnticollisionSent
returns-in-AnticollisionSent c = let a = c.args in c.hear_rest.ensures ∙ sym (hear_at a.r a.row.now _ c.in-AnticollisionSent.is)

pub returns-in-SelectSent : goal.returns-in-SelectSent
returns-in-SelectSent c = let a = c.args in c.hear_sak.ensures ∙ sym (hear_at a.r a.row.now _ c.in-SelectSent.is)

pub returns-in-HltaSent : goal.returns-in-HltaSent
returns-in-HltaSent c = let a = c.args in c.hear_silence.ensures ∙ sym (hear_at a.r a.row.now _ c.in-HltaSent.is)

pub returns-in-WupaSent : goal.returns-in-WupaSent
returns-in-WupaSent c = let a = c.args in c.hear_wupa.ensures ∙ sym (hear_at a.r a.row.now _ c.in-WupaSent.is)

pub returns-in-UidSelectSent : goal.returns-in-UidSelectSent
returns-in-UidSelectSent c = let a = c.args in c.hear_uid_sak.ensures ∙ sym (hear_at a.r a.row.now _ c.in-UidSelectSent.is)
