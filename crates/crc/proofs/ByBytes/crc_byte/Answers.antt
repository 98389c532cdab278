-- `crc::ByBytes::crc_byte` meets its contract, by the table's rule. Assumes nothing.
use Rattle.crc.specs.TableLaws.{byte_by_table}
use Rattle.crc.proofs.ByBytes.crc_byte.Goals as goal

pub returns : goal.returns
returns c = rw c.entry.ensures (byte_by_table c.args.self.one.now c.args.c c.args.b c.args.self.one_byte)
