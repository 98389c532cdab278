-- `memory::level::five_bytes` meets its contract. Assumes nothing.
use mathlib.Core.Path.{◌≡◌}
use native.Mathlib.Omega.{arith}
use borrow.Author.Rules.{rules}
use lib.ListN.{length, drop}
use Rattle.rows.specs.HeardLaws.{clean_take, clean_drop}
use Rattle.memory.specs.EnterLaws.{five_made}
use Rattle.memory.proofs.level.five_bytes.Goals as goal

pub byte_at-a-requires : goal.byte_at-a-requires
byte_at-a-requires c = let e = c.args.e in let n : length e ≡ 40 = search rules in (omega arith, clean_take 8 (drop 0 e) (clean_drop 0 e c.requires))

pub byte_at-b-requires : goal.byte_at-b-requires
byte_at-b-requires c = let e = c.args.e in let n : length e ≡ 40 = search rules in (omega arith, clean_take 8 (drop 8 e) (clean_drop 8 e c.requires))

pub byte_at-c-requires : goal.byte_at-c-requires
byte_at-c-requires c = let e = c.args.e in let n : length e ≡ 40 = search rules in (omega arith, clean_take 8 (drop 16 e) (clean_drop 16 e c.requires))

pub byte_at-d-requires : goal.byte_at-d-requires
byte_at-d-requires c = let e = c.args.e in let n : length e ≡ 40 = search rules in (omega arith, clean_take 8 (drop 24 e) (clean_drop 24 e c.requires))

pub byte_at-f-requires : goal.byte_at-f-requires
byte_at-f-requires c = let e = c.args.e in let n : length e ≡ 40 = search rules in (omega arith, clean_take 8 (drop 32 e) (clean_drop 32 e c.requires))

pub returns : goal.returns
returns c = five_made c.args.e c.byte_at-a.result c.byte_at-b.result c.byte_at-c.result c.byte_at-d.result c.byte_at-f.result
    c.byte_at-a.ensures c.byte_at-b.ensures c.byte_at-c.ensures c.byte_at-d.ensures c.byte_at-f.ensures
