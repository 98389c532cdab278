use native.Mathlib.Omega.{arith}
use Rattle.selection.specs.Selection.{size}
use Rattle.selection.specs.SizeLaws.{size_small, size_large}
use Rattle.selection.proofs.numbers.size_of.Goals as goal

pub returns-then-i-lt8 : goal.returns-then-i-lt8
unfolding size
returns-then-i-lt8 c = size_small c.args.index (omega arith)

pub returns : goal.returns
returns c = size_large c.args.index (omega arith)
