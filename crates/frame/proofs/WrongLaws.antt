-- Where the parity broke: the place that is named is the first wrong one of the bytes, and no other place is. Assumes nothing.
use Rattle.std.specs.Prelude.{◌≡◌, refl, ℕ, zero, suc, ◌+◌, ◌*◌, ◌≤◌, ◌<◌, Bool, true, false, cond, ◌||◌, List, drop, ltb}
use Rattle.std.proofs.Common.{sym, ap, ◌∙◌, true≢false, drop-drop, lt-ltb, le-ltb, ltb-true, ltb-false, arith}
use Rattle.frame.specs.Frame.{wrong_byte, first_wrong, faulty}

-- ---- one byte after the other

pub faulty_none : (r : List ℕ) → faulty 0 r ≡ false
unfolding faulty first_wrong
faulty_none r = refl

ltb_suc : (a b : ℕ) → ltb (suc a) (suc b) ≡ ltb a b
ltb_suc a b = go (ltb a b) refl
  where
    go : (t : Bool) → ltb a b ≡ t → ltb (suc a) (suc b) ≡ t
    go true e = lt-ltb (suc a) (suc b) (omega (arith, ltb-true a b e))
    go false e = le-ltb (suc a) (suc b) (omega (arith, ltb-false a b e))

-- one of n + 1 bytes is wrong: the first is, or one of the others
pub faulty_step : (n : ℕ) (r : List ℕ) → faulty (suc n) r ≡ (wrong_byte r || faulty n (drop 9 r))
unfolding faulty first_wrong
faulty_step n r = go (wrong_byte r)
  where
    go : (b : Bool) → ltb (cond b 0 (suc (first_wrong n (drop 9 r)))) (suc n) ≡ (b || ltb (first_wrong n (drop 9 r)) n)
    go true = lt-ltb 0 (suc n) (omega arith)
    go false = ltb_suc (first_wrong n (drop 9 r)) n

-- the place is n at most: there none is wrong
pub first_most : (n : ℕ) (r : List ℕ) → first_wrong n r ≤ n
unfolding first_wrong
first_most zero r = omega arith
first_most (suc n) r = go (wrong_byte r) (first_most n (drop 9 r))
  where
    go : (b : Bool) → first_wrong n (drop 9 r) ≤ n → cond b 0 (suc (first_wrong n (drop 9 r))) ≤ suc n
    go true h = omega arith
    go false h = omega arith

-- a place that was found, and whether one is wrong
pub found_wrong : (n p : ℕ) (r : List ℕ) → p ≡ first_wrong n r → p < n → faulty n r ≡ true
unfolding faulty
found_wrong n p r e h = rw (← e) (lt-ltb p n h)

pub found_none : (n p : ℕ) (r : List ℕ) → p ≡ first_wrong n r → n ≤ p → faulty n r ≡ false
unfolding faulty
found_none n p r e h = rw (← e) (le-ltb p n h)

-- ---- the place

-- byte j is one of the n that are checked, its parity is wrong, and that of none before it is
pub record BrokeAt (n : ℕ) (r : List ℕ) (j : ℕ) : Type 0 where
  pub checked : j < n
  pub wrong : wrong_byte (drop (9 * j) r) ≡ true
  pub first : (i : ℕ) → i < j → wrong_byte (drop (9 * i) r) ≡ false

-- a byte behind the first
later : (i : ℕ) (r : List ℕ) → drop (9 * suc i) r ≡ drop (9 * i) (drop 9 r)
later i r = let e : 9 * suc i ≡ 9 + 9 * i = omega arith in rw (e, ← drop-drop (9 * i) 9 r)

-- the first byte is passed over
behind : (n : ℕ) (r : List ℕ) (j : ℕ) → wrong_byte r ≡ false → BrokeAt n (drop 9 r) j → BrokeAt (suc n) r (suc j)
behind n r j w b = record { checked = omega (arith, b.checked); wrong = rw (later j r) b.wrong; first = before }
  where
    before : (i : ℕ) → i < suc j → wrong_byte (drop (9 * i) r) ≡ false
    before zero h = w
    before (suc i) h = rw (later i r) (b.first i (omega arith))

ahead : (n : ℕ) (r : List ℕ) (j : ℕ) → BrokeAt (suc n) r (suc j) → BrokeAt n (drop 9 r) j
ahead n r j b = record { checked = omega (arith, b.checked); wrong = rw (later j r) at b.wrong; first = before }
  where
    before : (i : ℕ) → i < j → wrong_byte (drop (9 * i) (drop 9 r)) ≡ false
    before i h = rw (later i r) at (b.first (suc i) (omega arith))

-- the place that is named is such a one ..
pub first_broke : (n : ℕ) (r : List ℕ) → faulty n r ≡ true → BrokeAt n r (first_wrong n r)
unfolding first_wrong
first_broke zero r e = absurd (true≢false (sym e ∙ faulty_none r))
first_broke (suc n) r e = go (wrong_byte r) refl (sym (faulty_step n r) ∙ e) (first_broke n (drop 9 r))
  where
    go : (b : Bool) → wrong_byte r ≡ b → (b || faulty n (drop 9 r)) ≡ true → (faulty n (drop 9 r) ≡ true → BrokeAt n (drop 9 r) (first_wrong n (drop 9 r)))
        → BrokeAt (suc n) r (cond b 0 (suc (first_wrong n (drop 9 r))))
    go true w f ih = record { checked = omega arith; wrong = w; first = λ i h. absurd (omega arith) }
    go false w f ih = behind n r (first_wrong n (drop 9 r)) w (ih f)

-- .. and there is no other
pub broke_first : (n : ℕ) (r : List ℕ) (j : ℕ) → BrokeAt n r j → first_wrong n r ≡ j
unfolding first_wrong
broke_first zero r j b = absurd (omega (arith, b.checked))
broke_first (suc n) r zero b = rw b.wrong
broke_first (suc n) r (suc j) b = rw (b.first 0 (omega arith)) (ap suc (broke_first n (drop 9 r) j (ahead n r j b)))
