-- `answer_v::within::slot_in` meets its contract: flags, DSFID and UID stand in the row. Assumes nothing.
use Rattle.std.proofs.Common.{◌-◌, length, sym, ◌∙◌, eq-eqb, arith, length-take, length-drop}
use Rattle.rows.specs.HeardLaws.{clean_take, clean_drop}
use Rattle.answer_v.specs.Heard.{slot_in}
use Rattle.answer_v.specs.HeardLaws.{uid_read}
use Rattle.answer_v.proofs.within.slot_in.Goals as goal

pub byte_at-flags-requires : goal.byte_at-flags-requires
byte_at-flags-requires c = (omega (arith, c.requires.0), clean_take 8 _ c.requires.1)

pub byte_at-dsfid-requires : goal.byte_at-dsfid-requires
byte_at-dsfid-requires c = (omega (arith, c.requires.0), clean_take 8 _ (clean_drop 8 _ c.requires.1))

pub bytes_of-requires : goal.bytes_of-requires
bytes_of-requires c = (rw (length-take, length-drop) (omega (arith, c.requires.0)), omega arith, clean_take (length c.args.row.now - 16) _ (clean_drop 16 _ c.requires.1))

pub returns : goal.returns
unfolding slot_in
returns c =
    let u = uid_read c.args.row.now _ c.requires.0 c.bytes_of.ensures in
    rw (sym c.is_good.ensures ∙ c.if-not-is_good.false, ← c.byte_at-flags.ensures, eq-eqb _ 0 c.if-flags-ne0.false, sym c.is_fitting.ensures ∙ c.if-not-is_fitting.false, ← c.byte_at-dsfid.ensures, u)
