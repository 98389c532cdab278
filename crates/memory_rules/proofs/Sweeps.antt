-- The whole sweep that remembers, over the rows of the idle cards. Assumes nothing.
use mathlib.Core.Path.{◌≡◌, refl, ap, ◌∙◌}
use Prim.Native.Nat.{ℕ, zero, suc, ◌+◌, ◌-◌, ◌*◌, ◌/◌, ◌%◌, ◌≤◌, ◌<◌}
use native.Mathlib.Nat.{not-suc-le-zero, add-sub_of_le}
use native.Mathlib.Numerals.{one-add}
use mathlib.Core.List.{List, [], ◌∷◌, ◌++◌, map}
use lib.ListN.{length, length-append}
use native.Mathlib.Omega.{arith}
use Rattle.rows.specs.EachLaws.{all_weaken, all_zip, some_all}
use Rattle.rows.specs.Rows.{All}
use Rattle.uid.specs.CheckLaws.{Checked}
use Rattle.uid.specs.LevelLaws.{wide, InLevels}
use Rattle.uid.specs.Order.{Diff, on, off, diff, parts, sort_on}
use Rattle.uid.specs.OrderLaws.{Off}
use Rattle.uid.specs.UidLaws.{name, rows_never_in_check}
use Rattle.reader.specs.ReaderLaws.{asking}
use Rattle.memory.specs.Memory.{bits, branch}
use Rattle.memory.specs.EnterLaws.{length_bits}
use Rattle.sweep_rules.proofs.Abstract.{strips, rest, Up, Top, sort, levels, frames, Apart}
use Rattle.sweep_rules.proofs.First.{strips_nil}
use Rattle.sweep_rules.proofs.Idle.{idles, Fits}
use Rattle.sweep_rules.proofs.IdleRows.{whole_idles, checked_idles}
use Rattle.sweep_rules.proofs.Level.{all_strips}
use Rattle.sweep_rules.proofs.Sitting.{at, sound_halt, idles_halt, halted_at}
use Rattle.sweep_rules.proofs.Sort.{sort_first, all_rest, apart_rest, length_rest}
use Rattle.sweep_rules.proofs.Step.{top_nil}
use Rattle.memory_rules.specs.Count.{parts_past}
use Rattle.memory_rules.proofs.Frames.{goes, final, stop_law}
use Rattle.memory_rules.proofs.Branches.{Branch, branch_holds}
use Rattle.memory_rules.proofs.Marks.{marks, marks_rest, strips_rest, rest_off}
use Rattle.memory_rules.proofs.Past.{past_is, past_le, past_same}
use Rattle.memory_rules.proofs.Rounds.{Start, beyond, Beyond, beyond_holds, of_found, round_run}
use Rattle.card.specs.declared.Card.{Card}
use Rattle.card.specs.declared.CardState.TheVariants.{Halt}

-- ---- the number of frames, over rows in falling order

-- the whole levels before the first difference
unfoldable pub shared_at : Diff → ℕ
shared_at (on t) = 0
shared_at (off p x) = p / wide

-- v is the row before them
unfoldable pub frames_after : List ℕ → List (List ℕ) → ℕ
frames_after v [] = 1
frames_after v (r ∷ l) = 2 + 2 * levels r - shared_at (diff v r) + parts_past v r l + frames_after r l

unfoldable pub frames_first : List (List ℕ) → ℕ
frames_first [] = 1
frames_first (r ∷ l) = 2 + 2 * levels r + parts r l + frames_after r l

-- no more than the plain sweep's
after_le : (v : List ℕ) (l : List (List ℕ)) → frames_after v l ≤ frames l
unfolding frames_after frames
after_le v [] = omega arith
after_le v (r ∷ l) = omega (arith, past_le v r l, after_le r l)

pub first_le : (l : List (List ℕ)) → frames_first l ≤ frames l
unfolding frames_first frames
first_le [] = omega arith
first_le (r ∷ l) = omega (arith, after_le r l)

-- ---- between two rounds

-- v is the row that was found last, S are the rows of the cards that are idle
pub record After (v : List ℕ) (S : List (List ℕ)) : Type 0 where
  pub row : InLevels 3 v
  pub checked : Checked v
  pub off_heads : All (λ s. Off (diff s v)) S
  pub top : Top v S
  pub gone : strips v S ≡ []

module _ (v : List ℕ) (S : List (List ℕ)) (af : After v S) (wh : All (InLevels 3) S) (cs : All Checked S) (h : 1 ≤ length S) where
  b : List ℕ
  b = branch (marks v S)

  br : Branch v S b
  unfolding b
  br = branch_holds v S af.row.bits h (all_weaken S (λ s w. w.bits) wh) af.off_heads af.top af.gone

  -- every card that begins with the branch says where it ends
  within_row : (br.place % wide < 32) × (length (bits b) ≤ wide * 3)
  within_row =
      some_all (strips (bits b) S) _ br.left
      (all_strips (λ s. (InLevels 3 s × Checked s) × Off (diff s v)) (λ t. (br.place % wide < 32) × (length (bits b) ≤ wide * 3)) (bits b) S
      (λ t x. (
        unfold wide in rows_never_in_check v (bits b ++ t) br.place 1 af.checked x.0.1 (unfold wide in af.row.levels_only) (unfold wide in x.0.0.levels_only) x.1 (br.parted t),
        omega (arith, x.0.0.at_most, length-append (bits b) t),
      ))
      (all_zip S (λ s p q. (p, q)) (all_zip S (λ s p q. (p, q)) wh cs) af.off_heads))

  start : Start b S
  unfolding wide
  start =
      let n : length (bits b) ≡ suc br.place = length_bits b ∙ br.long in
      record {
        marked = br.marked;
        top = br.top;
        left = br.left;
        fits = omega (arith, within_row);
        early = omega (arith, within_row);
        inside = λ k. omega (arith, within_row);
      }

  module _ (a : Apart S) where
    found : List ℕ
    found = bits b ++ (beyond (bits b) S).0

    bh : Beyond (bits b) S (beyond (bits b) S)
    bh = beyond_holds b S start wh a

    -- the term of the card that is found
    count_after : frames_after v (sort S) ≡ 2 + (length (bits b) / wide + (beyond (bits b) S).1) + frames_after found (sort (rest found S))
    unfolding frames_after shared_at wide levels found
    count_after =
        let B : List ℕ = bits b in
        let Y : List ℕ = (beyond B S).0 in
        let n : length B ≡ suc br.place = length_bits b ∙ br.long in
        let l : List (List ℕ) = sort (rest (B ++ Y) S) in
        rw (sort_first (B ++ Y) S bh.top bh.only, br.parted Y, past_is v B Y l br.place 1 (br.parted Y) n, ← past_same B Y S bh.top bh.only)
        (omega (arith, bh.cost, n, within_row, length-append B Y))

-- ---- a round, and the rounds after it

after_round : (F : List Card) → All Fits F → Apart (idles F) → (P : List ℕ) → Top P (idles F) → strips P (idles F) ≡ [] ∷ [] → After P (rest P (idles F))
after_round F hF a P t e = record {
  row = of_found (InLevels 3) P (idles F) e (whole_idles F hF);
  checked = of_found Checked P (idles F) e (checked_idles F hF);
  off_heads = rest_off P (idles F) a e;
  top = all_rest (λ r. Up (diff P r)) P (idles F) t;
  gone = strips_rest P (idles F);
}

final_at : (P : List ℕ) (F : List Card) → final (at P Halt F) ≡ final F
unfolding final
final_at P F = rw halted_at

-- G frames after the round
round_step : (F : List Card) (hF : All Fits F) (w b : List ℕ) → branch w ≡ b → Start b (idles F) → Apart (idles F) → (G f : ℕ)
    → goes (G + f) asking (marks (bits b ++ (beyond (bits b) (idles F)).0) (rest (bits b ++ (beyond (bits b) (idles F)).0) (idles F))) (at (bits b ++ (beyond (bits b) (idles F)).0) Halt F)
    ≡ (map name (sort (rest (bits b ++ (beyond (bits b) (idles F)).0) (idles F))), G, final (at (bits b ++ (beyond (bits b) (idles F)).0) Halt F))
    → goes (2 + (length (bits b) / wide + (beyond (bits b) (idles F)).1) + G + f) asking w F
    ≡ (map name (sort (idles F)), 2 + (length (bits b) / wide + (beyond (bits b) (idles F)).1) + G, final F)
round_step F hF w b eb st a G f k =
    let P : List ℕ = bits b ++ (beyond (bits b) (idles F)).0 in
    let c : ℕ = 2 + (length (bits b) / wide + (beyond (bits b) (idles F)).1) in
    let bh : Beyond (bits b) (idles F) (beyond (bits b) (idles F)) = beyond_holds b (idles F) st (whole_idles F hF) a in
    let n : c + G + f ≡ c + (G + f) = omega arith in
    rw (n, sort_first P (idles F) bh.top bh.only)
    (round_run F hF w b eb st a (G + f) (map name (sort (rest P (idles F))), G, final F) (rw (marks_rest, final_at) at k))

-- the rounds after one that found P
Rests : ℕ → List Card → List ℕ → Type 0
Rests f F P =
    goes (frames_after P (sort (rest P (idles F))) + f) asking (marks P (rest P (idles F))) (at P Halt F)
    ≡ (map name (sort (rest P (idles F))), frames_after P (sort (rest P (idles F))), final (at P Halt F))

after_step : (F : List Card) → All Fits F → (v : List ℕ) → 1 ≤ length (idles F) → Apart (idles F) → After v (idles F) → (f : ℕ)
    → ((P : List ℕ) → After P (rest P (idles F)) → strips P (idles F) ≡ [] ∷ [] → Rests f F P)
    → goes (frames_after v (sort (idles F)) + f) asking (marks v (idles F)) F ≡ (map name (sort (idles F)), frames_after v (sort (idles F)), final F)
unfolding b found Rests
after_step F hF v h a af f ih =
    let S : List (List ℕ) = idles F in
    let wh : All (InLevels 3) S = whole_idles F hF in
    let cs : All Checked S = checked_idles F hF in
    let P : List ℕ = found v S af wh cs h a in
    let bh' : Beyond (bits (branch (marks v S))) S (beyond (bits (branch (marks v S))) S) = bh v S af wh cs h a in
    rw (count_after v S af wh cs h a)
    (round_step F hF (marks v S) (branch (marks v S)) refl (start v S af wh cs h) a (frames_after P (sort (rest P S))) f (ih P (after_round F hF a P bh'.top bh'.only) bh'.only))

after_run_law : (n f : ℕ) (F : List Card) (S : List (List ℕ)) (v : List ℕ) → All Fits F → idles F ≡ S → length S ≤ n → Apart S → After v S
    → goes (frames_after v (sort S) + f) asking (marks v S) F ≡ (map name (sort S), frames_after v (sort S), final F)
unfolding sort_on frames_after Rests
after_run_law zero f F [] v hF e h a af = rw one-add (stop_law f F (marks v []) hF e)
after_run_law zero f F (r ∷ S) v hF e h a af = absurd (not-suc-le-zero h)
after_run_law (suc n) f F [] v hF e h a af = rw one-add (stop_law f F (marks v []) hF e)
after_run_law (suc n) f F (r ∷ S) v hF e h a af =
    rw e at (after_step F hF v (rw e (omega arith)) (rw e a) (rw e af) f
    (λ P af' o. after_run_law n f (at P Halt F) (rest P (idles F)) P (sound_halt P F hF) (idles_halt P F hF)
    (omega (arith, length_rest P (idles F), ap length o, ap length e)) (apart_rest P (idles F) (rw e a)) af'))

-- ---- the first round: nothing is known

start_new : (S : List (List ℕ)) → 1 ≤ length S → Start [] S
unfolding bits marks wide
start_new S h = record { marked = refl; top = top_nil S; left = rw strips_nil h; fits = omega arith; early = omega arith; inside = λ k. omega arith }

count_first : (S : List (List ℕ)) → Beyond [] S (beyond [] S) → frames_first (sort S) ≡ 2 + (0 / wide + (beyond [] S).1) + frames_after (beyond [] S).0 (sort (rest (beyond [] S).0 S))
unfolding frames_first wide
count_first S bh₀ =
    let P : List ℕ = (beyond [] S).0 in
    rw (sort_first P S bh₀.top bh₀.only) (omega (arith, bh₀.cost, past_same [] P S bh₀.top bh₀.only, ap (parts P) (strips_nil (sort (rest P S)))))

first_step : (F : List Card) → All Fits F → 1 ≤ length (idles F) → Apart (idles F) → (f : ℕ)
    → goes (frames_first (sort (idles F)) + f) asking [] F ≡ (map name (sort (idles F)), frames_first (sort (idles F)), final F)
unfolding bits branch
first_step F hF h a f = rw (count_first S bh₀) (round_step F hF [] [] refl (start_new S h) a (frames_after P (sort (rest P S))) f
    (after_run_law (length S) f (at P Halt F) (rest P S) P (sound_halt P F hF) (idles_halt P F hF) (omega (arith, length_rest P S)) (apart_rest P S a) (after_round F hF a P bh₀.top bh₀.only)))
  where
    S : List (List ℕ)
    S = idles F

    P : List ℕ
    P = (beyond [] S).0

    bh₀ : Beyond [] S (beyond [] S)
    bh₀ = beyond_holds [] S (start_new S h) (whole_idles F hF) a

first_any : (f : ℕ) (F : List Card) (S : List (List ℕ)) → All Fits F → idles F ≡ S → Apart S → goes (frames_first (sort S) + f) asking [] F ≡ (map name (sort S), frames_first (sort S), final F)
unfolding sort_on frames_first
first_any f F [] hF e a = rw one-add (stop_law f F [] hF e)
first_any f F (r ∷ S) hF e a = rw e at (first_step F hF (rw e (omega arith)) (rw e a) f)

-- any fuel that is enough
pub first_run_law : (g : ℕ) (F : List Card) → All Fits F → Apart (idles F) → frames_first (sort (idles F)) ≤ g
    → goes g asking [] F ≡ (map name (sort (idles F)), frames_first (sort (idles F)), final F)
first_run_law g F hF a h = rw (add-sub_of_le h) at (first_any (g - frames_first (sort (idles F))) F (idles F) hF refl a)
