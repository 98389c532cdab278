-- Laws of a row of Type B cards: the laws of any row of states (crate kept), of cards with their slot numbers; and the ATQB that a list has
-- of its last slot. Assumes nothing.
use Rattle.std.specs.Prelude.{◌≡◌, true, false, List, ◌++◌, map, ℕ, ◌+◌, ◌-◌, ◌*◌, ◌<◌, ◌≤◌, min, length, take, drop, get_or, set, replicate}
use Rattle.std.proofs.Common.{sym, ◌∙◌, arith}
use Rattle.std.proofs.lemmas.Bool.{false≢true}
use borrow.Author.Tests.{eq-eqb, ne_eqb, lt-ltb, le-ltb}
use Rattle.rows.specs.Rows.{overlay, All}
use Rattle.reader_b.specs.declared.ReaderB.{ReaderB}
use Rattle.field_b.specs.declared.Drawn.{Drawn}
use Rattle.slots.specs.declared.Inquired.{Inquired}
use Rattle.kept.specs.Kept.{bytes_at}
use Rattle.kept.specs.StatesLaws as states
use Rattle.kept_b.specs.KeptCardB.{card_in, Fits}
use Rattle.kept_b.specs.KeptCardBLaws.{card_back, card_length}
use Rattle.kept_b.specs.KeptReaderB.{stays}
use Rattle.kept_slots.specs.KeptSlots.{drawn_at, read_at, drawn_in, no_card, field_in, cards_in, card_of, drawn_bytes, cards_left, last_atqb, turn_by, row_left, Says}

-- ---- the cards that a row of states says

module _ (numbers b : List ℕ) where
  -- the array while the first i cards are decoded
  abbrev pub Filled : ℕ → List Drawn
  Filled i = states.Filled (read_at numbers) no_card 32 i b

  pub field_turn : (a : List Drawn) (i : ℕ) (d : Drawn) → i < 32 → a ≡ Filled i → d ≡ drawn_at (get_or numbers i 0) (drop (64 * i) b) → set a i d ≡ Filled (i + 1)
  field_turn a i d h e k = states.array_turn (read_at numbers) no_card 32 b a i d h e k

  pub field_done_law : (a : List Drawn) (m : ℕ) → m ≡ min (length numbers) 32 → a ≡ Filled m → a ≡ field_in numbers b
  unfolding field_in
  field_done_law a m e h = states.array_done (read_at numbers) no_card 32 (length numbers) b a m e h

  pub length_field : length (field_in numbers b) ≡ 32
  unfolding field_in
  length_field = states.array_length (read_at numbers) no_card 32 (length numbers) b

  -- of an array that holds them all the cards are the first
  pub field_front : length numbers ≤ 32 → take (length numbers) (field_in numbers b) ≡ drawn_in numbers b
  unfolding drawn_in field_in
  field_front h = states.array_front (read_at numbers) no_card 32 (length numbers) b h

-- ---- cards written back

-- what every card in memory has
abbrev pub Whole : Drawn → Type 0
Whole d = Fits d.card

short : (d : Drawn) → length (drawn_bytes d) ≤ 64
short d = omega (arith, card_length d.card)

back : (i : ℕ) (d : Drawn) (rest : List ℕ) → Whole d → card_in (drawn_bytes d ++ rest) ≡ card_of d
back i d rest w = card_back d.card rest w

pub put_turn : (b b₀ b₁ : List ℕ) (l : List Drawn) (i : ℕ) (c d : Drawn) (k : List ℕ) → i < length l → 64 * (i + 1) ≤ length b₀
    → b ≡ cards_left b₀ (take i l) → All Whole (take i l) → c ≡ get_or l i d → Whole c → k ≡ drawn_bytes c → b₁ ≡ overlay b (64 * i) k
    → (b₁ ≡ cards_left b₀ (take (i + 1) l)) × All Whole (take (i + 1) l)
unfolding cards_left
put_turn = states.put_turn drawn_bytes short (λ i. card_in) card_of Whole back

pub put_done : (n m : ℕ) (b b₀ : List ℕ) (l : List Drawn) → 64 * n ≤ length b₀ → length l ≡ 32 → m ≡ min n 32 → b ≡ cards_left b₀ (take m l)
    → All Whole (take m l) → (b ≡ cards_left b₀ (take n l)) × (cards_in (length (take n l)) b ≡ map card_of (take n l))
unfolding cards_in cards_left
put_done n m b b₀ l = states.put_done drawn_bytes short (λ i. card_in) card_of Whole back 32 n m b b₀ l

-- ---- the ATQB of the last slot

pub last_none : (slots : ℕ) (list : List ℕ) → slots ≡ 0 → replicate 12 0 ≡ last_atqb slots list
unfolding last_atqb
last_none slots list h = rw (eq-eqb slots 0 h)

module _ (slots : ℕ) (list : List ℕ) (some : slots ≡ 0 → ⊥) where
  pub last_many : 16 < slots → replicate 12 0 ≡ last_atqb slots list
  unfolding last_atqb
  last_many h = rw (ne_eqb slots 0 some, lt-ltb 16 slots h)

  pub last_some : slots ≤ 16 → bytes_at 12 list (13 * (slots - 1) + 1) ≡ last_atqb slots list
  unfolding last_atqb
  last_some h = rw (ne_eqb slots 0 some, le-ltb 16 slots h)

-- ---- what the call leaves

module _ (x : ReaderB) (n : ℕ) (s : Inquired) (list cards : List ℕ) where
  pub row_stays : stays x (turn_by s list) ≡ true → (cards ≡ row_left x n cards s list) × Says x n s list cards
  unfolding row_left
  row_stays h = (rw h, λ k. absurd (false≢true (sym k ∙ h)))

  pub row_kept : (cards₁ : List ℕ) → stays x (turn_by s list) ≡ false → cards₁ ≡ cards_left cards (take n s.cards)
      → cards_in (length (take n s.cards)) cards₁ ≡ map card_of (take n s.cards) → length s.cards ≡ 32
      → (cards₁ ≡ row_left x n cards s list) × Says x n s list cards₁
  unfolding row_left
  row_kept cards₁ h a b c = (rw h a, λ k. (b, c))
