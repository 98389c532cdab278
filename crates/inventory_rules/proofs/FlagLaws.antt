-- The flags of the slots in which tags met: which is the first, and how they come and go. Assumes nothing.
use Rattle.std.specs.Prelude.{◌≡◌, ◌≢◌, Bool, ◌&&◌, List, [], ◌∷◌}
use Rattle.std.proofs.Math.Path.{refl, ap}
use Rattle.std.proofs.Common.{sym, ◌∙◌, arith, get_or-set_same, set-set, eq-eqb, ne_eqb}
use Prim.Native.Nat.{ℕ, zero, suc, ◌+◌, ◌≤◌, ◌<◌}
use Rattle.std.proofs.Math.Bool.{true, false, cond}
use Rattle.std.proofs.Math.ListN.{length, get_or, set, length-set}
use Rattle.std.proofs.Math.Seq.{get_or-set_other, set_comm}
use Rattle.std.proofs.lemmas.List.{set-get_or}
use Rattle.reader_v.specs.Met.{flag_of, first_met}
use Rattle.reader_v.specs.ReaderV.{is_more}
use Rattle.request_v.specs.declared.Tag.{Tag}
use Rattle.sent_v.specs.declared.Round.{Round}
use Rattle.inventory_rules.specs.Claim.{in_slot, told_of}
use Rattle.inventory_rules.specs.Rounds.{met_by, met_from}

-- no flag below i is set
abbrev pub Clear : ℕ → List ℕ → Type 0
Clear i m = (j : ℕ) → j < i → get_or m j 0 ≡ 0

-- ---- the first

pub first_least : (m : List ℕ) (i : ℕ) → i ≤ length m → Clear i m → i ≤ first_met m
unfolding first_met
first_least m zero h c = omega arith
first_least [] (suc i) h c = h
first_least (x ∷ m) (suc i) h c =
    let r : i ≤ first_met m = first_least m i (omega arith) (λ j l. c (suc j) (omega arith)) in
    rw (eq-eqb x 0 (c 0 (omega arith))) (omega arith)

pub first_is : (m : List ℕ) (i : ℕ) → i < length m → Clear i m → get_or m i 0 ≢ 0 → first_met m ≡ i
unfolding first_met
first_is [] i h c n = absurd (omega arith)
first_is (x ∷ m) zero h c n = rw (ne_eqb x 0 n)
first_is (x ∷ m) (suc i) h c n =
    rw (eq-eqb x 0 (c 0 (omega arith))) (ap suc (first_is m i (omega arith) (λ j l. c (suc j) (omega arith)) n))

-- ---- one flag set in flags m that are clear up to it

module _ (m : List ℕ) (i : ℕ) (h : i < length m) (c : Clear (i + 1) m) where
  pub first_set : first_met (set m i 1) ≡ i
  first_set =
      first_is (set m i 1) i (rw length-set h) (λ j l. get_or-set_other m i j 1 0 (λ e. omega arith) ∙ c j (omega arith))
      (λ e. let z : ◌≡◌ {A = ℕ} 1 0 = sym (get_or-set_same m i 1 0 h) ∙ e in omega arith)

  pub set_back : set (set m i 1) i 0 ≡ m
  set_back = set-set m i 1 0 ∙ ap (set m i) (sym (c i (omega arith))) ∙ set-get_or m i 0

-- ---- the flags of a round: those of slots s and more, behind index b + s

module _ (k : Round) (ts : List Tag) where
  pub met_length : (n s : ℕ) (m : List ℕ) → length (met_from true k ts s n m) ≡ length m
  unfolding met_from met_by
  met_length zero s m = refl
  met_length (suc n) s m = met_length n (s + 1) (met_by true k ts s m) ∙ go (is_more (told_of (in_slot k s ts)).held)
    where
      go : (x : Bool) → length (cond (true && x) (set m (flag_of k.len s) 1) m) ≡ length m
      go true = length-set m (flag_of k.len s) 1
      go false = refl

  met_other : (n s : ℕ) (m : List ℕ) (j : ℕ) → j < flag_of k.len s → get_or (met_from true k ts s n m) j 0 ≡ get_or m j 0
  unfolding met_from met_by
  met_other zero s m j l = refl
  met_other (suc n) s m j l = met_other n (s + 1) (met_by true k ts s m) j (omega arith) ∙ stays (is_more (told_of (in_slot k s ts)).held)
    where
      stays : (x : Bool) → get_or (cond (true && x) (set m (flag_of k.len s) 1) m) j 0 ≡ get_or m j 0
      stays true = get_or-set_other m (flag_of k.len s) j 1 0 (λ e. omega arith)
      stays false = refl

  pub met_clear : (n s : ℕ) (m : List ℕ) → Clear (flag_of k.len s) m → Clear (flag_of k.len s) (met_from true k ts s n m)
  met_clear n s m c = λ j l. met_other n s m j l ∙ c j l

  -- a flag that is set ahead of later slots is set behind them
  pub met_set : (n s i : ℕ) (m : List ℕ) → i < flag_of k.len s → met_from true k ts s n (set m i 1) ≡ set (met_from true k ts s n m) i 1
  unfolding met_from met_by
  met_set zero s i m h = refl
  met_set (suc n) s i m h = ap (met_from true k ts (s + 1) n) (go (is_more (told_of (in_slot k s ts)).held)) ∙ met_set n (s + 1) i (met_by true k ts s m) (omega arith)
    where
      go : (x : Bool) → cond (true && x) (set (set m i 1) (flag_of k.len s) 1) (set m i 1) ≡ set (cond (true && x) (set m (flag_of k.len s) 1) m) i 1
      go true = set_comm m i (flag_of k.len s) 1 1 (λ e. omega arith)
      go false = refl
