-- The sweep over a field: a round is finished, then its met slots are taken in rising order, each to its end; and every tag is what it was. Assumes nothing.
use Rattle.std.specs.Prelude.{◌≡◌, Bool, ◌&&◌, eqb}
use Rattle.std.proofs.Math.Path.{refl, sym, ap}
use Rattle.std.proofs.Common.{◌∙◌, true≢false, take_at, take-take}
use Prim.Native.Nat.{ℕ, zero, suc, ◌+◌, ◌-◌, ◌*◌, ◌/◌, ◌≤◌, ◌<◌}
use Rattle.std.proofs.Math.Nat.{zero-add}
use native.Mathlib.Omega.{arith}
use Rattle.std.proofs.Math.Bool.{true, false, cond}
use mathlib.Core.List.{List, [], ◌∷◌, ◌++◌, map}
use Rattle.std.proofs.Math.ListN.{length, take, set, length-append}
use Rattle.std.proofs.Math.Seq.{take-length}
use Rattle.std.proofs.Math.Dec.{ltb}
use borrow.Author.Tests.{lt-ltb, ltb-true, eqb-true, eqb-false}
use Rattle.rows.specs.Rows.{All, Bits, fill}
use Rattle.rows.specs.ListLaws.{all_append}
use Rattle.parity.specs.Bits.{bits_of}
use Rattle.parity.specs.BitLaws.{length_bits, bits_bits}
use Rattle.frame.specs.Frame.{bytes_of}
use Rattle.frame.specs.ByteLaws.{length_bytes}
use Rattle.reader_v.specs.Met.{flags, flag_of, length_of, first_met}
use Rattle.reader_v.specs.ReaderV.{blank, at_round, is_more, round_of}
use Rattle.sent_v.specs.declared.Round.{Round}
use Rattle.request_v.specs.declared.Tag.{Tag}
use Rattle.reader_v.specs.declared.PhaseV.TheVariants.{Ready, InSweep}
use Rattle.inventory_rules.specs.RunV.{Told, Out, before, ended, run}
use Rattle.inventory_rules.specs.Claim.{Typed, rests, apart, in_slot, told_of, slots_from, round_at, flat, sweep_told}
use Rattle.inventory_rules.specs.Rounds.{reader_at, tags_at, befores, met_by, met_from, after}
use Rattle.inventory_rules.proofs.RoundLaws.{round_run, tags_over}
use Rattle.inventory_rules.proofs.FlagLaws.{Clear, first_least, first_set, set_back, met_length, met_clear, met_set}
use Rattle.inventory_rules.proofs.MaskLaws.{round_same, round_grown, no_more, hears_sweep}

befores_append : (a b : List Told) (o : Out) → befores (a ++ b) o ≡ befores a (befores b o)
unfolding befores
befores_append [] b o = refl
befores_append (x ∷ a) b o = ap (before x) (befores_append a b o)

slots_length : (n s : ℕ) (f : ℕ → Told) → length (map f (slots_from s n)) ≡ n
unfolding slots_from
slots_length zero s f = refl
slots_length (suc n) s f = ap suc (slots_length n (s + 1) f)

module _ (asks : Bool) (afi : ℕ) (ha : afi < 256) (ts : List Tag) (ht : All Typed ts) (hr : All (λ t. rests t.state ≡ true) ts) (hp : apart ts ≡ true) where
  -- the sweep of a mask m with d half bytes left: what it tells, and then what the flags say
  abbrev pub Done : ℕ → Type 0
  Done d = (m F : List ℕ) (f : ℕ) → Bits m → length m + 4 * d ≡ 64 → length F ≡ 240 → Clear (16 * (15 - length m / 4)) F
      → run (length (sweep_told asks afi d m ts) + f) (reader_at true (round_at asks afi m) 0 F) ts ≡ befores (sweep_told asks afi d m ts) (after true (round_at asks afi m) F f ts)

  -- the path does not matter to flags of shallower rounds
  after_path : (m n F : List ℕ) (e f : ℕ) → Bits m → Bits n → length m ≡ 4 * e → e ≤ 15 → length n ≤ 64 → length m ≤ length n → take (length m) n ≡ m → length F ≡ 240 → Clear (16 * (15 - e)) F
      → after true (round_at asks afi n) F f ts ≡ after true (round_at asks afi m) F f ts
  unfolding after
  after_path m n F e f bm bn lm he hn k q lF c = go (ltb (first_met F) flags) refl
    where
      go : (x : Bool) → ltb (first_met F) flags ≡ x
          → cond (true && x) (run f (at_round InSweep (round_of (round_at asks afi n) (first_met F)) (set F (first_met F) 0)) ts) (ended ts (blank Ready) 0)
          ≡ cond (true && x) (run f (at_round InSweep (round_of (round_at asks afi m) (first_met F)) (set F (first_met F) 0)) ts) (ended ts (blank Ready) 0)
      go true x =
          let i : 16 * (15 - e) ≤ first_met F = first_least F (16 * (15 - e)) (omega arith) c in
          let j : first_met F < 240 = ltb-true (first_met F) flags x in
          let s : length_of (first_met F) ≤ length m = omega arith in
          let t : take (length_of (first_met F)) n ≡ take (length_of (first_met F)) m = sym (take-take (length_of (first_met F)) (length m) n s) ∙ ap (take (length_of (first_met F))) q in
          ap (λ y. run f (at_round InSweep y (set F (first_met F) 0)) ts) (round_same asks afi (first_met F) n m bn hn (omega arith) bm (omega arith) s t)
      go false x = refl

  -- a flag that is set ahead of the others is the next round's
  after_set : (p X : List ℕ) (i g : ℕ) (k : Round) → first_met (set X i 1) ≡ i → i < 240 → set (set X i 1) i 0 ≡ X → round_of (round_at asks afi p) i ≡ k
      → after true (round_at asks afi p) (set X i 1) g ts ≡ run g (reader_at true k 0 X) ts
  unfolding after
  after_set p X i g k a b c e = rw (a, lt-ltb i flags b, c, e)

  module _ (d : ℕ) (done : 1 ≤ d → Done d) (m F : List ℕ) (bm : Bits m) (lm : length m + 4 * suc d ≡ 64) (lF : length F ≡ 240) (cF : Clear (16 * (15 - length m / 4)) F) where
    of_slot : ℕ → List Told
    of_slot s = cond (is_more (told_of (in_slot (round_at asks afi m) s ts)).held) (sweep_told asks afi d (m ++ bits_of 4 s) ts) []

    rest : ℕ → ℕ → List Told
    rest s n = flat (map of_slot (slots_from s n))

    -- where tags met, the mask can grow
    can_grow : (s : ℕ) → s < 16 → is_more (told_of (in_slot (round_at asks afi m) s ts)).held ≡ true → length m + 4 ≤ 60
    can_grow s h x = go (eqb (length m) 60) refl
      where
        go : (b : Bool) → eqb (length m) 60 ≡ b → length m + 4 ≤ 60
        go true z = absurd (true≢false (sym x ∙ no_more (round_at asks afi m) s h (unfold round_at in eqb-true (length m) 60 z) ts ht hp))
        go false z = let n = eqb-false (length m) 60 z in omega (arith, n)

    grown_slot : (n s f : ℕ) (p : List ℕ) → s + suc n ≡ 16 → Bits p → length p ≤ 64 → length m ≤ length p → take (length m) p ≡ m
        → is_more (told_of (in_slot (round_at asks afi m) s ts)).held ≡ true
        → after true (round_at asks afi p) (met_from true (round_at asks afi m) ts (s + 1) n (set F (flag_of (length m) s) 1)) (length (sweep_told asks afi d (m ++ bits_of 4 s) ts) + f) ts
        ≡ befores (sweep_told asks afi d (m ++ bits_of 4 s) ts) (after true (round_at asks afi (m ++ bits_of 4 s)) (met_from true (round_at asks afi m) ts (s + 1) n F) f ts)
    unfolding round_at
    grown_slot n s f p h bp hp' k q x =
        let K : Round = round_at asks afi m in
        let w : length m + 4 ≤ 60 = can_grow s (omega arith) x in
        let X : List ℕ = met_from true K ts (s + 1) n F in
        let i : ℕ = flag_of (length m) s in
        let lX : length X ≡ 240 = met_length K ts n (s + 1) F ∙ lF in
        let cX : Clear (flag_of (length m) (s + 1)) X = met_clear K ts n (s + 1) F (λ j l. cF j (omega arith)) in
        let c₁ : Clear (flag_of (length m) s + 1) X = λ j l. cX j (omega arith) in
        let z : met_from true K ts (s + 1) n (set F (flag_of (length m) s) 1) ≡ set X (flag_of (length m) s) 1 = met_set K ts n (s + 1) (flag_of (length m) s) F (omega arith) in
        let r : round_of (round_at asks afi p) (flag_of (length m) s) ≡ round_at asks afi (m ++ bits_of 4 s) = round_grown asks afi (length m / 4) s m p (omega arith) (omega arith) bp hp' (omega arith) q k in
        let b : Bits (m ++ bits_of 4 s) = all_append (λ v. v < 2) m (bits_of 4 s) bm (bits_bits 4 s) in
        let y : length (m ++ bits_of 4 s) ≡ length m + 4 = rw (length-append, length_bits) in
        rw z (after_set p X (flag_of (length m) s) (length (sweep_told asks afi d (m ++ bits_of 4 s) ts) + f) (round_at asks afi (m ++ bits_of 4 s))
        (first_set X (flag_of (length m) s) (omega arith) c₁) (omega arith) (set_back X (flag_of (length m) s) (omega arith) c₁) r
        ∙ done (omega arith) (m ++ bits_of 4 s) X f b (omega arith) lX (λ j l. cX j (omega arith)))

    -- the slots from s on, n of them, whatever path was taken last
    slots_done : (n s f : ℕ) (p : List ℕ) → s + n ≡ 16 → Bits p → length p ≤ 64 → length m ≤ length p → take (length m) p ≡ m
        → after true (round_at asks afi p) (met_from true (round_at asks afi m) ts s n F) (length (rest s n) + f) ts ≡ befores (rest s n) (after true (round_at asks afi m) F f ts)
    unfolding rest of_slot slots_from met_from met_by flat befores round_at
    slots_done zero s f p h bp hp' k q = rw zero-add (after_path m p F (length m / 4) f bm bp (omega arith) (omega arith) hp' k q lF cF)
    slots_done (suc n) s f p h bp hp' k q = go (is_more (told_of (in_slot (round_at asks afi m) s ts)).held) refl (λ p b l k q. slots_done n (s + 1) f p (omega arith) b l k q)
      where
        go : (x : Bool) → is_more (told_of (in_slot (round_at asks afi m) s ts)).held ≡ x
            → ((p : List ℕ) → Bits p → length p ≤ 64 → length m ≤ length p → take (length m) p ≡ m
            → after true (round_at asks afi p) (met_from true (round_at asks afi m) ts (s + 1) n F) (length (rest (s + 1) n) + f) ts ≡ befores (rest (s + 1) n) (after true (round_at asks afi m) F f ts))
            → after true (round_at asks afi p) (met_from true (round_at asks afi m) ts (s + 1) n (cond (true && x) (set F (flag_of (round_at asks afi m).len s) 1) F))
            (length (cond x (sweep_told asks afi d (m ++ bits_of 4 s) ts) [] ++ rest (s + 1) n) + f) ts
            ≡ befores (cond x (sweep_told asks afi d (m ++ bits_of 4 s) ts) [] ++ rest (s + 1) n) (after true (round_at asks afi m) F f ts)
        go false x ih = ih p bp hp' k q
        go true x ih =
            let A : List Told = sweep_told asks afi d (m ++ bits_of 4 s) ts in
            let w : length m + 4 ≤ 60 = can_grow s (omega arith) x in
            let y : length (m ++ bits_of 4 s) ≡ length m + 4 = rw (length-append, length_bits) in
            let z : length (A ++ rest (s + 1) n) + f ≡ length A + (length (rest (s + 1) n) + f) = rw length-append (omega arith) in
            rw (z, befores_append A (rest (s + 1) n)) (grown_slot n s (length (rest (s + 1) n) + f) p h bp hp' k q x
            ∙ ap (befores A) (ih (m ++ bits_of 4 s) (all_append (λ v. v < 2) m (bits_of 4 s) bm (bits_bits 4 s)) (omega arith) (omega arith) (take_at m (bits_of 4 s) (length m) refl)))

    first_tells : List Told
    first_tells = map (λ s. told_of (in_slot (round_at asks afi m) s ts)) (slots_from 0 16)

    -- the round itself
    first_round_law : (f : ℕ) → run (suc (15 + f)) (reader_at true (round_at asks afi m) 0 F) ts ≡ befores first_tells (after true (round_at asks afi m) (met_from true (round_at asks afi m) ts 0 16 F) f ts)
    unfolding round_at tags_at first_tells
    first_round_law f =
        let M : List ℕ = bytes_of 8 (fill 64 m) in
        let hm : length (bytes_of 8 (fill 64 m)) ≡ 8 = length_bytes 8 (fill 64 m) in
        let hl : length m ≤ 60 = omega arith in
        round_run true asks afi (length m) (bytes_of 8 (fill 64 m)) ha hl hm ts (hears_sweep asks afi (length m) (bytes_of 8 (fill 64 m)) ha hl hm ts ht hp) 15 0 f F refl
        ∙ ap (λ us. befores (map (λ s. told_of (in_slot (round_at asks afi m) s ts)) (slots_from 0 16)) (after true (round_at asks afi m) (met_from true (round_at asks afi m) ts 0 16 F) f us)) (tags_over true asks afi (length m) (bytes_of 8 (fill 64 m)) ha hl hm ts hr)

    first_length : length first_tells ≡ 16
    unfolding first_tells
    first_length = slots_length 16 0 (λ s. told_of (in_slot (round_at asks afi m) s ts))

    -- and its met slots behind it
    all_told_law : (f : ℕ) → run (length (first_tells ++ rest 0 16) + f) (reader_at true (round_at asks afi m) 0 F) ts ≡ befores (first_tells ++ rest 0 16) (after true (round_at asks afi m) F f ts)
    all_told_law f =
        let z : length (first_tells ++ rest 0 16) + f ≡ suc (15 + (length (rest 0 16) + f)) = rw (length-append, first_length) (omega arith) in
        rw (z, befores_append first_tells (rest 0 16))
        (first_round_law (length (rest 0 16) + f) ∙ ap (befores first_tells) (slots_done 16 0 f m refl bm (omega arith) (omega arith) (take-length m)))

  pub sweep_done_law : (d : ℕ) → 1 ≤ d → Done d
  unfolding sweep_told rest of_slot first_tells
  sweep_done_law zero h = absurd (omega arith)
  sweep_done_law (suc d) h = λ m F f bm lm lF cF. all_told_law d (sweep_done_law d) m F bm lm lF cF f
