-- `kept_memory::path_bytes` meets its contract, by the law `path_put`. Assumes nothing.
use mathlib.Core.Path.{◌≡◌}
use lib.ListN.{length}
use native.Mathlib.Omega.{arith}
use Rattle.kept_memory.specs.KeptMemoryLaws.{path_room, path_put}
use borrow.Author.Rules.{rules}
use Rattle.kept_memory.proofs.path_bytes.Goals as goal

pub put-requires-2 : goal.put-requires-2
put-requires-2 c = let n : length c.args.p.row ≡ 120 = search rules in omega (arith, path_room _ _ _ c.word.ensures c.put.ensures)

pub returns : goal.returns
returns c = let a = c.args in let n : length a.p.row ≡ 120 = search rules in record { value = path_put a.p _ _ _ c.word.ensures n c.put.ensures c.put-2.ensures; fits = (search rules, n) }
