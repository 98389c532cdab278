-- `air_log::reading::record_of` meets its contract, kind by kind. Assumes nothing.
use Rattle.std.proofs.Common.{◌≡◌, sym, ◌∙◌, arith, ne_eqb}
use borrow.Author.Rules.{rules}
use Rattle.air_log.specs.declared.Kind.TheVariants.{Sent, Clean, Collided}
use Rattle.air_log.specs.Calls.{kind_number}
use Rattle.air_log.specs.Reading.{record_of}
use Rattle.air_log.specs.UnpackLaws.{size_one, not_silence}
use Rattle.air_log.proofs.reading.record_of.Goals as goal

pub is_good_row-requires : goal.is_good_row-requires
is_good_row-requires c = let a = c.args in
    omega (arith, size_one (kind_number a.kind) a.n)

pub returns-in-Silence : goal.returns-in-Silence
unfolding record_of
returns-in-Silence c = rw (c.in-Silence.is, c.if-n-eq0.true)

pub returns-in-Silence-2 : goal.returns-in-Silence-2
unfolding record_of
returns-in-Silence-2 c = rw (c.in-Silence-2.is, ne_eqb _ _ c.if-n-eq0.false)

pub returns-in_default : goal.returns-in_default
unfolding record_of
returns-in_default c = rw (not_silence c.args.kind c.in_default.not-Silence, sym c.is_good_row.ensures ∙ c.if-not-is_good_row.true)

pub returns-in-Collided : goal.returns-in-Collided
unfolding record_of
returns-in-Collided c = let k : c.args.kind ≡ Collided = search rules in
    rw (k, sym c.is_good_row.ensures ∙ c.if-not-is_good_row.false, c.collided_of.ensures)

pub returns-in-Clean : goal.returns-in-Clean
unfolding record_of
returns-in-Clean c = let k : c.args.kind ≡ Clean = search rules in
    rw (k, sym c.is_good_row.ensures ∙ c.if-not-is_good_row.false)

pub returns-in-Sent : goal.returns-in-Sent
unfolding record_of
returns-in-Sent c = let k : c.args.kind ≡ Sent = search rules in
    rw (k, sym c.is_good_row.ensures ∙ c.if-not-is_good_row.false)
