-- Document 01, "RATS, ATS and blocks": the card's end, with the bytes heard, sent and lent.
use Rattle.std.specs.Prelude.{ℕ, cond, List, [], length}
use Rattle.card_blocks.specs.declared.CardLink.{CardLink}
use Rattle.card_blocks.specs.declared.CardStep.{CardStep}
use Rattle.rows.specs.Rows.{overlay}
use Rattle.frame.specs.Frame.{Verdict}
use Rattle.block.specs.Cut.{part}
use Rattle.block.specs.Out.{Out}
use Rattle.block.specs.Block.{block_of, behind, heard_block, payload, block_bytes}
use Rattle.card_blocks.specs.CardRules.{card_asks, card_replies, card_takes}

-- a step with the answer m and the buffer that are lent; p is the payload that goes behind the joined bytes
unfoldable pub card_out : CardStep → List ℕ → List ℕ → ℕ → List ℕ → Out CardLink
card_out s m buffer joined p =
    record {
      link = s.link;
      told = s.told;
      sent = block_bytes s.send (part s.link.reader s.link.at m);
      buffer = cond s.joins (overlay buffer joined p) buffer;
    }

-- a frame's bytes l are heard, none where it is silence or damaged, with a buffer of room bytes and an answer of len bytes
unfoldable pub card_hears : CardLink → List ℕ → ℕ → ℕ → CardStep
card_hears c l room len = card_takes c (block_of l) (length (behind l)) room len

-- The card hears a frame:
unfoldable pub card_block : CardLink → Verdict → List ℕ → List ℕ → Out CardLink
card_block c v m buffer =
    card_out (card_takes c (heard_block v) (length (payload v)) (length buffer) (length m)) m buffer c.joined (payload v)

-- .. its host answers:
unfoldable pub card_reply : CardLink → List ℕ → List ℕ → Out CardLink
card_reply c m buffer = card_out (card_replies c (length m)) m buffer 0 []

-- .. its host asks for WTX:
unfoldable pub card_wtx : CardLink → ℕ → List ℕ → Out CardLink
card_wtx c v buffer = card_out (card_asks c v) [] buffer 0 []
