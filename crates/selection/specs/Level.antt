-- A level's 45 bits as they were sent and heard: where the first collided bit stands, and what they say.
use Rattle.std.specs.Prelude.{ℕ, suc, ◌+◌, ◌-◌, ◌*◌, ◌/◌, cond, not, ◌&&◌, List, [], ◌∷◌, length, take, drop, ltb}
use Rattle.rows.specs.Rows.{clean, next, same}
use Rattle.frame.specs.Frame.{data_of, bytes_of, faulty}
use Rattle.uid.specs.Uid.{level}
use Rattle.selection.specs.Heard.{not_rest, rest_place, rest_of}
use Rattle.refusal.specs.declared.Refusal.TheVariants.{Parity, Check, Collision}
use Rattle.selection.specs.declared.Rest.{Rest}
use Rattle.selection.specs.declared.RestSays.TheVariants.{Whole, Collided}

-- how many bits come before the first collided one, all of them where none collided
unfoldable pub first_collided : List ℕ → ℕ
first_collided [] = 0
first_collided (x ∷ h) = cond (ltb 1 x) 0 (suc (first_collided h))

-- the tests of `readRest` on the level's row w, behind silence and length
unfoldable pub level_says : ℕ → List ℕ → Rest
level_says k w =
    let d : List ℕ = data_of 5 w in
    let i : ℕ = (k + 7) / 8 in
    cond (not (clean d) && ltb 32 (length (next d))) (not_rest Collision)
    (cond (faulty (5 - i) (drop (9 * i) w)) (not_rest (Parity (rest_place k w)))
    (cond (clean d && not (same (bytes_of 5 d) (level (take 4 (bytes_of 5 d))))) (not_rest Check)
    (rest_of (cond (clean d) Whole Collided) (next d))))
