-- How many bytes of log an exchange takes. Assumes nothing.
use mathlib.Core.Path.{◌≡◌, refl, ap}
use Prim.Native.Nat.{ℕ, zero, suc, ◌+◌, ◌-◌, ◌*◌, ◌/◌, ◌≤◌, ◌<◌}
use mathlib.Core.Bool.{Bool, true, false, cond, ◌&&◌}
use mathlib.Core.List.{List, [], ◌∷◌, ◌++◌}
use lib.ListN.{length, drop, length-append, length-map}
use lib.Dec.{leb, ltb}
use borrow.Author.Tests.{le-leb, leb-true, leb-false, lt-ltb, ltb-true}
use native.Mathlib.Omega.{arith}
use Rattle.rows.specs.EachLaws.{length_fill}
use Rattle.rows.specs.ListLaws.{both}
use Rattle.rows.specs.Rows.{All, clean, fill}
use Rattle.air_log.specs.Log.{tick_bytes, sent_record, heard_record, Exchange, sent_heard, exchange_bytes, log_bytes, exchange_size, log_size, list_bytes, entry_bytes}
use Rattle.air_log.proofs.RecordLaws.{length_tick, length_sent, length_heard_clean, length_heard_collided, log_size_next}

-- the bytes of n bits
abbrev bytes_for : ℕ → ℕ
bytes_for n = (n + 7) / 8

length_heard : (x h : List ℕ) → length (heard_record x h) ≤ 2 + length x + 2 * bytes_for (length h)
length_heard x h = go (clean h) refl
  where
    go : (b : Bool) → clean h ≡ b → length (heard_record x h) ≤ 2 + length x + 2 * bytes_for (length h)
    go true e = omega (arith, length_heard_clean x h e)
    go false e = omega (arith, length_heard_collided x h e)

-- a frame went out, and both records take at most 27 bytes
unfoldable pub small : Exchange → Bool
small e = ltb 0 (length e.sent) && leb (exchange_size e) 27

unfoldable pub all_small : List Exchange → Bool
all_small [] = true
all_small (e ∷ l) = small e && all_small l

-- by the lengths of the two records
sized : (f h : List ℕ) → 0 < length f → length (heard_record (tick_bytes 1) h) ≤ 21 - bytes_for (length f) → bytes_for (length f) ≤ 21 → small (sent_heard f h) ≡ true
unfolding small exchange_size exchange_bytes
sized f h s k m =
    let a : List ℕ = sent_record (tick_bytes 0) f in
    let b : List ℕ = heard_record (tick_bytes 1) h in
    rw (lt-ltb 0 (length f) s) (le-leb (length (a ++ b)) 27 (omega (arith, length-append a b, length_sent (tick_bytes 0) f, length_tick 0)))

-- by the lengths of the two rows; and where the answer is clean
pub small_any : (f h : List ℕ) → 0 < length f → bytes_for (length f) + 2 * bytes_for (length h) ≤ 15 → small (sent_heard f h) ≡ true
small_any f h s k = sized f h s (omega (arith, length_heard (tick_bytes 1) h, length_tick 1)) (omega arith)

pub small_clean : (f h : List ℕ) → 0 < length f → clean h ≡ true → bytes_for (length f) + bytes_for (length h) ≤ 15 → small (sent_heard f h) ≡ true
small_clean f h s c k = sized f h s (omega (arith, length_heard_clean (tick_bytes 1) h c, length_tick 1)) (omega arith)

-- an ANTICOLLISION and its answer
pub small_anti : (f h : List ℕ) (c : ℕ) → c ≤ 45 → length f ≡ 18 + c → length h ≡ 45 - c → small (sent_heard f h) ≡ true
small_anti f h c k ef eh = small_any f h (omega arith) (rw (ef, eh) (go (leb c 6) refl))
  where
    go : (b : Bool) → leb c 6 ≡ b → bytes_for (18 + c) + 2 * bytes_for (45 - c) ≤ 15
    go true e = omega (arith, leb-true c 6 e)
    go false e = omega (arith, leb-false c 6 e)

pub small_all : (l : List Exchange) → all_small l ≡ true → All (λ e. (0 < length e.sent) × (exchange_size e ≤ 27)) l
unfolding all_small small
small_all [] h = tt
small_all (e ∷ l) h =
    let b : (small e ≡ true) × (all_small l ≡ true) = both (small e) (all_small l) h in
    let c : (ltb 0 (length e.sent) ≡ true) × (leb (exchange_size e) 27 ≡ true) = both (ltb 0 (length e.sent)) (leb (exchange_size e) 27) b.0 in
    ((ltb-true 0 (length e.sent) c.0, leb-true (exchange_size e) 27 c.1), small_all l b.1)

pub log_length : (l : List Exchange) → All (λ e. exchange_size e ≤ 27) l → log_size l ≤ 27 * length l
unfolding log_size log_bytes
log_length [] h = omega arith
log_length (e ∷ l) h = omega (arith, log_size_next e l, h.0, log_length l h.1)

pub list_length : (l : List (List ℕ)) → All (λ u. length u ≤ 10) l → length (list_bytes l) ≡ 11 * length l
unfolding list_bytes entry_bytes
list_length [] h = refl
list_length (u ∷ l) h = rw (length-append (fill 10 u) (list_bytes l), length_fill 10 u h.0, list_length l h.1) (omega arith)
