-- A whole card kept in lent bytes: a card (KeptCard.antt), its end of the block protocol (KeptLink.antt), and, where a reader's state has them,
-- at 45 the event that its host was told last and at 46 what came with it (eight bytes). Of the 64 bytes that a call asks for these are the
-- first 54; no call looks at those behind them.
use Rattle.std.specs.Prelude.{ℕ, cond, List, ◌∷◌, ◌++◌, ◌≡◌, length}
use Rattle.rows.specs.Rows.{overlay}
use Rattle.block.specs.declared.Told.{Told}
use Rattle.card_link.specs.declared.LinkCard.{LinkCard}
use Rattle.card_link.specs.declared.CardTurn.{CardTurn}
use Rattle.kept.specs.Kept.{word, event_of, length_of, told_refuses, told_event, told_length}
use Rattle.kept_card.specs.KeptCard.{card_bytes, card_in}
use Rattle.kept_card.specs.KeptLink.{link_bytes, link_in, Sized}

abbrev pub link_card_bytes : LinkCard → List ℕ
link_card_bytes x = card_bytes x.card ++ link_bytes x.link

-- every row of bytes is one card
abbrev pub link_card_of : List ℕ → LinkCard
link_card_of b = record { card = card_in b; link = link_in b }

-- what every card in memory has: an array of its length, numbers of 64 bits
abbrev pub Fits : LinkCard → Type 0
Fits x = (length x.card.uid.bytes ≡ 10) × Sized x.link

abbrev pub told_bytes : Told → List ℕ
told_bytes t = told_event t ∷ word 8 (told_length t)

-- ---- what a call leaves in the lent bytes: the card, then what its host is told. A call that is refused leaves the card what it was
-- (RefusedLaws.antt), and nothing is written

abbrev pub card_turn_bytes : CardTurn → List ℕ
card_turn_bytes t = link_card_bytes t.card ++ told_bytes t.told

unfoldable pub card_turn_left : List ℕ → CardTurn → List ℕ
card_turn_left b t = cond (told_refuses t.told) b (overlay b 0 (card_turn_bytes t))

-- ---- what lent bytes say: the card, and of the last call that wrote them the event and what came with it

pub record KeptCard : Type 0 where
  pub card : LinkCard
  pub event : ℕ
  pub length : ℕ

abbrev pub kept_card_in : List ℕ → KeptCard
kept_card_in b = record { card = link_card_of b; event = event_of b; length = length_of b }

-- .. what they say where a turn was written into them
abbrev pub kept_card_of : CardTurn → KeptCard
kept_card_of t = record { card = t.card; event = told_event t.told; length = told_length t.told }

-- .. and what the bytes b are to say after a call that gives t
unfoldable pub kept_card_after : List ℕ → CardTurn → KeptCard
kept_card_after b t = record {
  card = t.card;
  event = cond (told_refuses t.told) (event_of b) (told_event t.told);
  length = cond (told_refuses t.told) (length_of b) (told_length t.told);
}
