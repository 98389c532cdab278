-- The kind of the reader's frame and its last data bit, found in its row. T-09: "REQA, WUPA, ANTICOLLISION and SELECT" are those frames that a card
-- takes for one: ANTICOLLISION and SELECT of a level by the card's own tests, with the five bytes that stand in the row itself. A damaged frame is
-- none of them. B is not looked at.
use Rattle.std.specs.Prelude.{ℕ, zero, suc, ◌-◌, ◌%◌, Bool, cond, ◌||◌, List, [], ◌∷◌, length, take, drop, ◌==◌, slice_index}
use Rattle.rows.specs.Rows.{same}
use Rattle.parity.specs.Bits.{unbits}
use Rattle.selection.specs.Selection.{reqa, wupa, select}
use Rattle.card.specs.Card.{matching}
use Rattle.uid.specs.declared.Level.TheVariants.{One, Two, Three}
use Rattle.delay.specs.declared.Kind.{Kind}
use Rattle.delay.specs.declared.Kind.TheVariants.{Reqa, Wupa, Anticollision, Select, Other}

-- n bytes with parity, as far as a row has them; bits that are not there are 0
unfoldable pub bytes_in : ℕ → List ℕ → List ℕ
bytes_in zero r = []
bytes_in (suc n) r = unbits (take 8 r) ∷ bytes_in n (drop 9 r)

-- the level's five bytes, behind SEL and NVB
unfoldable pub five_of : List ℕ → List ℕ
five_of f = bytes_in 5 (drop 18 f)

-- a card with these bytes at some level takes it for an ANTICOLLISION that matches
unfoldable pub is_anticollision : List ℕ → List ℕ → Bool
is_anticollision five f = matching One five f || (matching Two five f || matching Three five f)

-- .. for the SELECT of some level
unfoldable pub is_select : List ℕ → List ℕ → Bool
is_select five f = same f (select One five) || (same f (select Two five) || same f (select Three five))

unfoldable pub level_kind : List ℕ → Kind
level_kind f = cond (is_anticollision (five_of f) f) Anticollision (cond (is_select (five_of f) f) Select Other)

unfoldable pub kind_of : List ℕ → Kind
kind_of f = cond (same f reqa) Reqa (cond (same f wupa) Wupa (level_kind f))

-- "Parity is no data bit": where the row ends in whole bytes its last bit is parity. A short frame and a broken byte have none
abbrev pub last_bit : List ℕ → ℕ
last_bit f = slice_index f (length f - cond (length f % 9 == 0) 2 1)

-- a row that is empty, or whose last data bit collided, is judged as after a 0
unfoldable pub after_one : List ℕ → Bool
after_one f = last_bit f == 1
