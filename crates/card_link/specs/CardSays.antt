-- Document 01, "When the core declines": what each call of the whole card answers in the table's numbers, by the call's own tests in their order.
-- "A call tests 11, 1, 6, 10".
use Rattle.std.specs.Prelude.{ℕ, not, List, [], length, ltb}
use Rattle.limits.specs.Limits.{row_room, message_max}
use Rattle.refusal.specs.Refusal.{Said, giving, decline_if}
use Rattle.block.specs.Block.{wtx_ok}
use Rattle.block.specs.Says.{told_says}
use Rattle.card_link.specs.declared.LinkCard.{LinkCard}
use Rattle.card_link.specs.CardCalls.{takes_in, owing}

-- a frame f: 11 while the card owes its host's answer, 1, then what its host is told
abbrev pub take_says : LinkCard → List ℕ → List ℕ → List ℕ → ℕ → Said
take_says x f m buffer room =
    decline_if (owing x) 11 (decline_if (ltb room row_room) 1 (told_says (takes_in x.card.state x f m buffer).told))

-- the host's answer m: 11 where none is owed, 1, 10
abbrev pub reply_says : LinkCard → List ℕ → ℕ → Said
reply_says x m room = decline_if (not (owing x)) 11 (decline_if (ltb room row_room) 1 (decline_if (ltb message_max (length m)) 10 (giving [])))

-- the host's WTX: 11, 1, 6
abbrev pub ask_says : LinkCard → ℕ → ℕ → Said
ask_says x v room = decline_if (not (owing x)) 11 (decline_if (ltb room row_room) 1 (decline_if (not (wtx_ok v)) 6 (giving [])))
