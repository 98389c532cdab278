-- `parity::within::byte_at` meets its contract, by that of `wide_at`: the sums bring each bit to its place. Assumes nothing.
use mathlib.Core.Path.{refl}
use Rattle.parity.specs.WideLaws.{sums_fit, gathered}
use Rattle.parity.proofs.within.byte_at.Goals as goal

pub overflow_add-y : goal.overflow_add-y
overflow_add-y c = record { fits = (sums_fit c.args.row.now c.args.at c.requires.0 c.requires.1 _ _ _ c.wide_at-x.ensures refl refl).0 }

pub overflow_add-z : goal.overflow_add-z
overflow_add-z c = record { fits = (sums_fit c.args.row.now c.args.at c.requires.0 c.requires.1 _ _ _ c.wide_at-x.ensures refl refl).1 }

pub overflow_add-w : goal.overflow_add-w
overflow_add-w c = record { fits = (sums_fit c.args.row.now c.args.at c.requires.0 c.requires.1 _ _ _ c.wide_at-x.ensures refl refl).2 }

pub returns : goal.returns
returns c = gathered c.args.row.now c.args.at c.requires.0 c.requires.1 _ _ _ c.wide_at-x.ensures refl refl
