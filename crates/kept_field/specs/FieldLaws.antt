-- Cards that are kept in a row are read back: the laws of any row of states (crate kept), of cards. Assumes nothing.
use Rattle.std.specs.Prelude.{◌≡◌, List, ◌++◌, ℕ, ◌+◌, ◌-◌, ◌*◌, ◌<◌, ◌≤◌, min, length, take, drop, get_or, set, replicate}
use Rattle.std.proofs.Common.{◌∙◌, map-id, arith}
use Rattle.rows.specs.Rows.{overlay, All}
use Rattle.card.specs.declared.Card.{Card}
use Rattle.kept.specs.StatesLaws as states
use Rattle.kept_card.specs.KeptCard.{card_bytes, card_in}
use Rattle.kept_card.proofs.KeptCardLaws.{card_back, card_length}
use Rattle.kept_field.specs.KeptField.{no_card, cards_in, field_in, cards_left}

-- ---- the cards that a row of states says

-- a turn of the loop that decodes
pub field_turn : (b : List ℕ) (a : List Card) (i : ℕ) (c : Card) → i < 32 → a ≡ cards_in i b ++ replicate (32 - i) no_card → c ≡ card_in (drop (64 * i) b)
    → set a i c ≡ cards_in (i + 1) b ++ replicate (32 - (i + 1)) no_card
unfolding cards_in
field_turn b a i c h e k = states.array_turn (λ i. card_in) no_card 32 b a i c h e k

pub field_done_law : (n : ℕ) (b : List ℕ) (a : List Card) (m : ℕ) → m ≡ min n 32 → a ≡ cards_in m b ++ replicate (32 - m) no_card → a ≡ field_in n b
unfolding cards_in field_in
field_done_law n b a m e h = states.array_done (λ i. card_in) no_card 32 n b a m e h

pub length_field : (n : ℕ) (b : List ℕ) → length (field_in n b) ≡ 32
unfolding field_in
length_field n b = states.array_length (λ i. card_in) no_card 32 n b

-- of an array that holds them all the cards are the first
pub field_front : (n : ℕ) (b : List ℕ) → n ≤ 32 → take n (field_in n b) ≡ cards_in n b
unfolding cards_in field_in
field_front n b h = states.array_front (λ i. card_in) no_card 32 n b h

-- ---- cards written back

-- what every card in memory has: an array of its length
abbrev pub Whole : Card → Type 0
Whole c = length c.uid.bytes ≡ 10

short : (c : Card) → length (card_bytes c) ≤ 64
short c = omega (arith, card_length c)

pub put_turn : (b b₀ b₁ : List ℕ) (l : List Card) (i : ℕ) (c d : Card) (k : List ℕ) → i < length l → 64 * (i + 1) ≤ length b₀
    → b ≡ cards_left b₀ (take i l) → All Whole (take i l) → c ≡ get_or l i d → Whole c → k ≡ card_bytes c → b₁ ≡ overlay b (64 * i) k
    → (b₁ ≡ cards_left b₀ (take (i + 1) l)) × All Whole (take (i + 1) l)
unfolding cards_left
put_turn = states.put_turn card_bytes short (λ i. card_in) (λ c. c) Whole (λ i. card_back)

pub put_done : (n m : ℕ) (b b₀ : List ℕ) (l : List Card) → 64 * n ≤ length b₀ → length l ≡ 32 → m ≡ min n 32 → b ≡ cards_left b₀ (take m l)
    → All Whole (take m l) → (b ≡ cards_left b₀ (take n l)) × (cards_in (length (take n l)) b ≡ take n l)
unfolding cards_in cards_left
put_done n m b b₀ l r h e w a =
    let d = states.put_done card_bytes short (λ i. card_in) (λ c. c) Whole (λ i. card_back) 32 n m b b₀ l r h e w a in
    (d.0, d.1 ∙ map-id (take n l))
