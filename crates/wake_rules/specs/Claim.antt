-- T-03, the claim: what waking the card with the UID u in a field within the terms of a sweep is. The one statement of it, over the rules of card
-- and reader; the contracts of the calls cite it.
use Rattle.std.specs.Prelude.{◌≡◌, ◌≢◌, ℕ, suc, ◌≤◌, false, cond, List, [], ◌∷◌, ◌++◌, length, replicate}
use Rattle.rows.specs.Rows.{All, Bytes}
use Rattle.uid.specs.Uid.{uid_bytes, levels}
use Rattle.card.specs.Card.{active_in, with_state}
use Rattle.reader.specs.Reader.{reader, turn, stop}
use Rattle.sweep_rules.specs.Run.{Out}
use Rattle.sweep_rules.specs.Terms.{is_halt}
use Rattle.uid.specs.declared.Uid.{Uid}
use Rattle.card.specs.declared.Card.{Card}
use Rattle.reader.specs.declared.Answer.TheVariants.{Selects}
use Rattle.reader.specs.declared.Phase.TheVariants.{Selected}
use Rattle.refusal.specs.declared.Refusal.TheVariants.{Silence}

-- what a UID's type says of its bytes
pub record Typed (u : Uid) : Type 0 where
  pub ten : length u.bytes ≡ 10
  pub bytes : Bytes u.bytes

-- a card's last SAK
abbrev pub last_sak : Card → ℕ
last_sak c = cond c.blocks 0x20 0x00

-- "leaves that card Active or Active*": Active* if it was halted
abbrev pub chosen : Card → Card
chosen c = with_state c (active_in (is_halt c.state))

-- the UID is that of the card c, which stands between the cards a and b
pub record Chosen (a : List Card) (c : Card) (b : List Card) (u : Uid) (o : Out) : Type 0 where
  -- "the reader as after any selection", with the UID and its last SAK
  pub reader_ends : o.last ≡ turn (reader Selected false (replicate 5 0) 0 u (last_sak c)) Selects
  -- "every other card as it was"
  pub cards : o.cards ≡ a ++ (chosen c ∷ b)
  -- WUPA, and SELECT once for each level
  pub frames : length o.exchanges ≡ suc (length (levels u))
  -- no UID is announced for a list
  pub unlisted : o.found ≡ []

-- no card has the UID
pub record Absent (cs : List Card) (u : Uid) (o : Out) : Type 0 where
  -- "A UID not there is 7, all cards as they were"
  pub reader_stops : o.last ≡ stop Silence
  pub cards : o.cards ≡ cs
  pub frames : length o.exchanges ≤ suc (length (levels u))
  pub unlisted : o.found ≡ []

-- a run that wakes u in the field cs, and gave o
pub record Wakes (cs : List Card) (u : Uid) (o : Out) : Type 0 where
  pub there : (a : List Card) (c : Card) (b : List Card) → cs ≡ a ++ (c ∷ b) → uid_bytes c.uid ≡ uid_bytes u → Chosen a c b u o
  pub absent : All (λ c. uid_bytes c.uid ≢ uid_bytes u) cs → Absent cs u o
