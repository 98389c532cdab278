-- The whole reader once it is linked, on rows: it does what the block rules say of the bytes that were sent. Assumes nothing.
use Rattle.std.specs.Prelude.{◌≡◌, ℕ, ◌≤◌, true, List, []}
use borrow.Author.Tests.{le-ltb}
use Rattle.rows.specs.Rows.{Bytes}
use Rattle.block.specs.Block.{verdict}
use Rattle.block.specs.Row.{block_row}
use Rattle.block.specs.HeardLaws.{heard_row_law}
use Rattle.reader_blocks.specs.declared.ReaderLink.{ReaderLink}
use Rattle.reader_link.specs.declared.Link.TheVariants.{Linked}
use Rattle.reader_link.specs.declared.LinkReader.{LinkReader}
use Rattle.reader_blocks.specs.ReaderRules.{is_open}
use Rattle.reader_blocks.specs.ReaderFrames.{reader_block, reader_send}
use Rattle.limits.specs.Limits.{row_room}
use Rattle.reader_link.specs.ReaderCalls.{tested, linking, awaits_block, hear_call, send_call}

module _ (x : LinkReader) (r : ReaderLink) (room : ℕ) (s : x.link ≡ Linked r) (h : row_room ≤ room) where
  -- a block's row, where one is awaited
  pub hear_block : (l m buffer : List ℕ) → Bytes l → awaits_block r.phase ≡ true
      → hear_call x (block_row l) m buffer room ≡ linking x.reader (reader_block r (verdict r.own l) m buffer)
  unfolding hear_call tested
  hear_block l m buffer b a = rw (s, a, le-ltb room row_room h, heard_row_law r.own l b)

  -- the host's message, where it is due
  pub send_block : (m : List ℕ) → is_open r.phase ≡ true → send_call x m room ≡ linking x.reader (reader_send r m [])
  unfolding send_call tested
  send_block m o = rw (s, o, le-ltb room row_room h)
