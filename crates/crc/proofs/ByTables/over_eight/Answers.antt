-- `crc::ByTables::over_eight` meets its contract, by the rule of the table by half bytes. Assumes nothing.
use native.Mathlib.Omega.{arith}
use Rattle.crc.specs.TableLaws.{eight_by_table}
use Rattle.crc.proofs.ByTables.over_eight.Goals as goal

pub returns : goal.returns
returns c = eight_by_table c.args.self.over.now c.args.c c.args.self.over_eight (omega arith)
