-- `kept_reader::select::selection_bytes` meets its contract, field by field. Assumes nothing.
use Rattle.kept.specs.Kept.{bytes_at}
use Rattle.kept_reader.specs.KeptReader.{selection_bytes}
use Rattle.kept_reader.proofs.select.selection_bytes.Goals as goal

pub returns-clause-value : goal.returns-clause-value
unfolding selection_bytes bytes_at
returns-clause-value c = simp (c.phase_tag-tag.ensures, c.phase_level-level.ensures, c.flag-sweeps.ensures, c.size_tag-size.ensures)
