-- Document 01, "RATS, ATS and blocks": the reader's end, with the bytes heard, sent and lent.
use Rattle.std.specs.Prelude.{ℕ, cond, List, [], length}
use Rattle.reader_blocks.specs.declared.ReaderLink.{ReaderLink}
use Rattle.reader_blocks.specs.declared.ReaderStep.{ReaderStep}
use Rattle.rows.specs.Rows.{overlay}
use Rattle.frame.specs.Frame.{Verdict}
use Rattle.block.specs.Cut.{part}
use Rattle.block.specs.Out.{Out}
use Rattle.block.specs.Block.{block_of, behind, heard_block, payload, block_bytes}
use Rattle.reader_blocks.specs.ReaderRules.{reader_parts, reader_starts, reader_takes}

-- a step with the message m and the buffer that are lent; p is the payload that goes behind the joined bytes
unfoldable pub reader_out : ReaderStep → List ℕ → List ℕ → ℕ → List ℕ → Out ReaderLink
reader_out s m buffer joined p =
    record {
      link = s.link;
      told = s.told;
      sent = block_bytes s.send (part s.link.card s.link.at m);
      buffer = cond s.joins (overlay buffer joined p) buffer;
    }

-- a frame's bytes l are heard, none where it is silence or damaged, with a buffer of room bytes and a message of len bytes
unfoldable pub reader_hears : ReaderLink → List ℕ → ℕ → ℕ → ReaderStep
reader_hears r l room len = reader_takes r r.phase (block_of l) (length (behind l)) room len

-- The reader hears a frame:
unfoldable pub reader_block : ReaderLink → Verdict → List ℕ → List ℕ → Out ReaderLink
reader_block r v m buffer =
    reader_out (reader_takes r r.phase (heard_block v) (length (payload v)) (length buffer) (length m)) m buffer r.joined (payload v)

-- .. its host hands in the message m:
unfoldable pub reader_send : ReaderLink → List ℕ → List ℕ → Out ReaderLink
reader_send r m buffer = reader_out (reader_starts r (length m)) m buffer 0 []

-- .. its host calls for DESELECT:
unfoldable pub reader_deselect : ReaderLink → List ℕ → Out ReaderLink
reader_deselect r buffer = reader_out (reader_parts r) [] buffer 0 []
