use native.Mathlib.Omega.{arith}
use mathlib.Core.Path.{sym}
use Rattle.block.specs.Block.{kind}
use Rattle.block.specs.BlockLaws.{kind_other}
use Rattle.block.proofs.kind_of.Goals as goal

pub returns-in-2 : goal.returns-in-2
unfolding kind
returns-in-2 c = rw c.in-2.is

pub returns-in-3 : goal.returns-in-3
unfolding kind
returns-in-3 c = rw c.in-3.is

pub returns-in-18 : goal.returns-in-18
unfolding kind
returns-in-18 c = rw c.in-18.is

pub returns-in-19 : goal.returns-in-19
unfolding kind
returns-in-19 c = rw c.in-19.is

pub returns-in-162 : goal.returns-in-162
unfolding kind
returns-in-162 c = rw c.in-162.is

pub returns-in-163 : goal.returns-in-163
unfolding kind
returns-in-163 c = rw c.in-163.is

pub returns-in-178 : goal.returns-in-178
unfolding kind
returns-in-178 c = rw c.in-178.is

pub returns-in-179 : goal.returns-in-179
unfolding kind
returns-in-179 c = rw c.in-179.is

pub returns-in-194 : goal.returns-in-194
unfolding kind
returns-in-194 c = rw c.in-194.is

pub returns-in-242 : goal.returns-in-242
unfolding kind
returns-in-242 c = rw c.in-242.is

pub returns-in_default : goal.returns-in_default
returns-in_default c =
    sym (kind_other c.args.first (omega arith) (omega arith) (omega arith) (omega arith) (omega arith) (omega arith) (omega arith) (omega arith) (omega arith) (omega arith))
