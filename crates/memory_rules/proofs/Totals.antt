-- The sum of T-14 by its three parts, and its bound. Assumes nothing.
use mathlib.Core.Path.{◌≡◌, refl}
use Prim.Native.Nat.{ℕ, suc, ◌+◌, ◌-◌, ◌*◌, ◌≤◌}
use mathlib.Core.Bool.{Bool, true, false, cond}
use mathlib.Core.List.{List, [], ◌∷◌, map}
use lib.ListN.{length}
use native.Mathlib.Omega.{arith}
use Rattle.rows.specs.Rows.{same}
use Rattle.uid.specs.Uid.{levels, row_of}
use Rattle.reader.specs.KnownLaws.{count_levels, count_most}
use Rattle.sweep_rules.proofs.Abstract.{Falling}
use Rattle.memory_rules.specs.Count.{shared, shared_levels, new_collisions, term, add_up, recall_sum, level_frames, all_shared, collisions}
use Rattle.memory_rules.proofs.Collisions.{all_met}
use Rattle.uid.specs.declared.Uid.{Uid}

-- no more levels are shared than there are
shared_le : (ls ms : List (List ℕ)) → shared ls ms ≤ length ms
unfolding shared
shared_le [] ms = omega arith
shared_le (l ∷ ls) [] = omega arith
shared_le (l ∷ ls) (m ∷ ms) = go (same l m) (shared_le ls ms)
  where
    go : (b : Bool) → shared ls ms ≤ length ms → cond b (suc (shared ls ms)) 0 ≤ suc (length ms)
    go true h = omega arith
    go false h = omega arith

parts_after : (v : Uid) (us : List Uid) → add_up term v us + add_up shared_levels v us ≡ level_frames us + add_up new_collisions v us
unfolding add_up term level_frames shared_levels
parts_after v [] = refl
parts_after v (u ∷ us) = omega (arith, shared_le (levels v) (levels u), parts_after u us)

-- the frames and what is shared are a card's 2 + 2L and one more for each card
pub total : (us : List Uid) → Falling (map row_of us) → 1 ≤ length us → recall_sum us + all_shared us ≡ length us + level_frames us
unfolding recall_sum all_shared level_frames collisions
total [] d h = absurd (omega arith)
total (u ∷ us) d h = omega (arith, parts_after u us, all_met (u ∷ us) d)

-- a card has at most 3 levels
levels_bound : (us : List Uid) → level_frames us ≤ 8 * length us
unfolding level_frames
levels_bound [] = omega arith
levels_bound (u ∷ us) = omega (arith, count_levels u, count_most u.size, levels_bound us)

pub most : (us : List Uid) → Falling (map row_of us) → 1 ≤ length us → recall_sum us ≤ 9 * length us
most us d h = omega (arith, total us d h, levels_bound us)
