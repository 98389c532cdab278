-- The whole card in Protocol, on rows: it does what the block rules say of the bytes that were sent. Assumes nothing.
use Rattle.std.specs.Prelude.{◌≡◌, ℕ, ◌≤◌, Bool, List, []}
use Rattle.std.proofs.Math.Path.{refl}
use Rattle.std.proofs.Math.Bool.{true, false}
use borrow.Author.Tests.{le-ltb}
use Rattle.rows.specs.Rows.{Bytes}
use Rattle.frame.specs.Frame.{Verdict}
use Rattle.refusal.specs.declared.Refusal.TheVariants.{NotDue}
use Rattle.block.specs.declared.Told.TheVariants.{Refused}
use Rattle.card.specs.declared.CardState.TheVariants.{Protocol}
use Rattle.block.specs.Block.{verdict}
use Rattle.block.specs.Row.{block_row}
use Rattle.block.specs.HeardLaws.{heard_row_law}
use Rattle.card_blocks.specs.declared.CardLink.{CardLink}
use Rattle.card_link.specs.declared.LinkCard.{LinkCard}
use Rattle.card_blocks.specs.CardRules.{owes, card_takes}
use Rattle.card_blocks.specs.CardFrames.{card_out, card_block, card_reply}
use Rattle.limits.specs.Limits.{row_room}
use Rattle.card_link.specs.CardCalls.{with_row, called, takes_inside, take_call, reply_call}

-- a card that owes its host's answer takes no frame
pub owing_block : (c : CardLink) (v : Verdict) (m buffer : List ℕ) → owes c.phase ≡ true
    → card_block c v m buffer ≡ record { link = c; sent = []; told = Refused NotDue; buffer = buffer }
unfolding card_block card_takes card_out
owing_block c v m buffer o = rw o

module _ (x : LinkCard) (i room : ℕ) (s : x.card.state ≡ Protocol i) (h : row_room ≤ room) where
  -- a block's row
  pub take_block : (l m buffer : List ℕ) → Bytes l
      → take_call x (block_row l) m buffer room ≡ with_row x.card (card_block x.link (verdict x.link.own l) m buffer)
  unfolding take_call called takes_inside
  take_block l m buffer b = go (owes x.link.phase) refl
    where
      go : (t : Bool) → owes x.link.phase ≡ t
          → take_call x (block_row l) m buffer room ≡ with_row x.card (card_block x.link (verdict x.link.own l) m buffer)
      go false o = rw (s, o, le-ltb room row_room h, heard_row_law x.link.own l b)
      go true o = rw (s, o, owing_block x.link (verdict x.link.own l) m buffer o)

  -- the host's answer, where it is due
  pub reply_block : (m : List ℕ) → owes x.link.phase ≡ true → reply_call x m room ≡ with_row x.card (card_reply x.link m [])
  unfolding reply_call called
  reply_block m o = rw (s, o, le-ltb room row_room h)
