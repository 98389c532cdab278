-- `lacrivosum::lac_reader_sak` meets its contract: the byte at 20 is the SAK of the reader that the bytes say. Assumes nothing.
use Rattle.kept_reader.specs.KeptReader.{selection_of}
use Rattle.lacrivosum.proofs.lac_reader_sak.Goals as goal

pub returns : goal.returns
unfolding selection_of
returns c = c.at.ensures
