-- Document 02, T-14: "The reader records there equal document 01's sum, each card's term less the whole levels, from the first on, that it
-- shares with the card before it, and with d counting only positions past where those two first differ."
use Rattle.std.specs.Prelude.{ℕ, suc, ◌+◌, ◌-◌, ◌*◌, Bool, false, cond, ◌&&◌, List, [], ◌∷◌, map, length, ltb}
use Rattle.rows.specs.Rows.{any, same}
use Rattle.uid.specs.Order.{Diff, on, off, diff, count, parts_at, parts}
use Rattle.uid.specs.Uid.{levels, row_of}
use Rattle.uid.specs.declared.Uid.{Uid}

-- ---- "the whole levels, from the first on, that it shares with the card before it"

unfoldable pub shared : List (List ℕ) → List (List ℕ) → ℕ
shared [] ms = 0
shared (l ∷ ls) [] = 0
shared (l ∷ ls) (m ∷ ms) = cond (same l m) (suc (shared ls ms)) 0

-- ---- "positions past where those two first differ"

-- the position q is past the first difference of two rows
unfoldable pub is_past : Diff → ℕ → Bool
is_past (on t) q = false
is_past (off p x) q = ltb p q

-- the number of distinct positions past where v and P first differ, at which P first differs from a row of S
unfoldable pub parts_past : List ℕ → List ℕ → List (List ℕ) → ℕ
parts_past v P S = count (length P) (λ q. is_past (diff v P) q && any (λ r. parts_at q (diff P r)) S)

-- ---- a card u: v is the card before it, us are those after it

unfoldable pub shared_levels : Uid → Uid → List Uid → ℕ
shared_levels v u us = shared (levels v) (levels u)

unfoldable pub new_collisions : Uid → Uid → List Uid → ℕ
new_collisions v u us = parts_past (row_of v) (row_of u) (map row_of us)

-- its frames: document 01 has 2 + 2L + d
unfoldable pub term : Uid → Uid → List Uid → ℕ
term v u us = 2 + 2 * length (levels u) - shared_levels v u us + new_collisions v u us

-- ---- all cards, in falling order

-- such a number added up over cards, v being the card before the first of them
unfoldable pub add_up : (Uid → Uid → List Uid → ℕ) → Uid → List Uid → ℕ
add_up f v [] = 0
add_up f v (u ∷ us) = f v u us + add_up f u us

-- "document 01's sum", 1 plus the terms; no card is before the first, so it shares nothing and all its collisions are new
unfoldable pub recall_sum : List Uid → ℕ
recall_sum [] = 1
recall_sum (u ∷ us) = 1 + (2 + 2 * length (levels u) + parts (row_of u) (map row_of us)) + add_up term u us

-- its three parts: the frames without collisions, the levels that are shared, the collisions
unfoldable pub level_frames : List Uid → ℕ
level_frames [] = 0
level_frames (u ∷ us) = 2 + 2 * length (levels u) + level_frames us

unfoldable pub all_shared : List Uid → ℕ
all_shared [] = 0
all_shared (u ∷ us) = add_up shared_levels u us

unfoldable pub collisions : List Uid → ℕ
collisions [] = 0
collisions (u ∷ us) = parts (row_of u) (map row_of us) + add_up new_collisions u us
