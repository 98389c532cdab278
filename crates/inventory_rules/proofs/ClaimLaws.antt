-- A round and a sweep over a field within the terms do what the claim says. Assumes nothing.
use Rattle.std.specs.Prelude.{◌≡◌, ℕ, ◌+◌, ◌≤◌, Bool, true, cond, not, ◌||◌, List, [], ◌∷◌, ◌++◌, length, replicate}
use Rattle.std.proofs.Math.Path.{refl}
use Rattle.std.proofs.Common.{ap, ◌∙◌, arith, true≢false, append-nil, le-ltb}
use Rattle.std.proofs.Math.Bool.{false}
use Rattle.std.proofs.lemmas.List.{length-replicate, get_or-replicate}
use Rattle.std.proofs.lemmas.Bool.{not-true}
use Rattle.rows.specs.Rows.{fill, any, same}
use Rattle.parity.specs.Bits.{unbits}
use Rattle.frame.specs.Frame.{bytes_of}
use Rattle.reader_v.specs.Met.{flags, first_met}
use Rattle.reader_v.specs.ReaderV.{blank}
use Rattle.reader_v.specs.CallsV.{first_round, round_for}
use Rattle.sent_v.specs.declared.Round.{Round}
use Rattle.request_v.specs.declared.Tag.{Tag}
use Rattle.reader_v.specs.declared.PhaseV.TheVariants as phases
use Rattle.inventory_rules.specs.RunV.{Told, Out, before, ended, run}
use Rattle.inventory_rules.specs.Claim.{apart, takes_part, round_at, sweep_told}
use Rattle.inventory_rules.specs.Rounds.{reader_at, tags_at, befores, met_from, after}
use Rattle.inventory_rules.proofs.SlotLaws.{hears_slot}
use Rattle.inventory_rules.proofs.RoundLaws.{round_run, tags_over}
use Rattle.inventory_rules.proofs.FlagLaws.{Clear, first_least}
use Rattle.inventory_rules.proofs.SweepLaws.{sweep_done_law}
use Rattle.inventory_rules.specs.Sweep.{Terms, round_over, sweep_over, Claim, round_told, all_told, SweepClaim}
use Rattle.inventory_rules.specs.Found.{found_in, count, part_of, uids_of}
use Rattle.inventory_rules.proofs.CountLaws.{sweep_count}
use Rattle.rows.specs.ListLaws.{both, same_sound}

-- what is told, and then the end
told_then : (l : List Told) (o : Out) → (befores l o).slots ≡ l ++ o.slots
unfolding befores before
told_then [] o = refl
told_then (x ∷ l) o = ap (λ r. x ∷ r) (told_then l o)

tags_then : (l : List Told) (o : Out) → (befores l o).tags ≡ o.tags
unfolding befores before
tags_then [] o = refl
tags_then (x ∷ l) o = tags_then l o

reader_then : (l : List Told) (o : Out) → (befores l o).reader ≡ o.reader
unfolding befores before
reader_then [] o = refl
reader_then (x ∷ l) o = reader_then l o

number_then : (l : List Told) (o : Out) → (befores l o).number ≡ o.number
unfolding befores before
number_then [] o = refl
number_then (x ∷ l) o = number_then l o

claimed : (l : List Told) (ts : List Tag) (o : Out) → o ≡ befores l (ended ts (blank phases.Ready) 0) → Claim l ts o
unfolding ended
claimed l ts o e =
    let z : Out = ended ts (blank phases.Ready) 0 in
    record {
      slots = ap (λ o. o.slots) e ∙ told_then l z ∙ append-nil l;
      tags = ap (λ o. o.tags) e ∙ tags_then l z;
      ready = ap (λ o. o.reader) e ∙ reader_then l z;
      number = ap (λ o. o.number) e ∙ number_then l z;
    }

-- ---- one round

pub round_claim : (asks : Bool) (afi len : ℕ) (mask : List ℕ) (ts : List Tag) → len ≤ 60 → length mask ≡ 8 → Terms afi ts → Claim (round_told asks afi len mask ts) ts (round_over asks afi len mask ts)
unfolding round_over
round_claim asks afi len mask ts hl hm t =
    claimed (round_told asks afi len mask ts) ts _
    (whole ∙ ap (λ us. befores (round_told asks afi len mask ts) (after false (round_for false asks afi len mask) (met_from false (round_for false asks afi len mask) ts 0 16 (replicate flags 0)) 0 us)) (tags_over false asks afi len mask t.afi_byte hl hm ts t.rest) ∙ (unfold after in refl))
  where
    whole : run 16 (reader_at false (round_for false asks afi len mask) 0 (replicate flags 0)) ts
        ≡ befores (round_told asks afi len mask ts) (after false (round_for false asks afi len mask) (met_from false (round_for false asks afi len mask) ts 0 16 (replicate flags 0)) 0 (tags_at (round_for false asks afi len mask) 16 ts))
    whole = unfold tags_at in round_run false asks afi len mask t.afi_byte hl hm ts (λ s b. hears_slot (round_for false asks afi len mask) s hl b ts t.typed t.different) 15 0 0 (replicate flags 0) refl

-- ---- a sweep

no_flags : Clear flags (replicate flags 0)
no_flags j h = get_or-replicate {A = ℕ} flags j 0 0 h

ends_clear : (k : Round) (f : ℕ) (ts : List Tag) → after true k (replicate flags 0) f ts ≡ ended ts (blank phases.Ready) 0
unfolding after
ends_clear k f ts =
    let h : flags ≤ first_met (replicate flags 0) = first_least (replicate flags 0) flags (omega (arith, length-replicate {A = ℕ} flags 0)) no_flags in
    rw (le-ltb (first_met (replicate flags 0)) flags h)

start : (asks : Bool) (afi : ℕ) → round_at asks afi [] ≡ first_round asks afi
unfolding round_at fill bytes_of unbits
start asks afi = refl

-- so many frames, or more
sweep_tells : (asks : Bool) (afi : ℕ) (ts : List Tag) (f : ℕ) → Terms afi ts → Claim (all_told asks afi ts) ts (sweep_over (length (all_told asks afi ts) + f) asks afi ts)
unfolding sweep_over
sweep_tells asks afi ts f t = claimed (all_told asks afi ts) ts _ (first ∙ over)
  where
    first : run (length (sweep_told asks afi 16 [] ts) + f) (reader_at true (first_round asks afi) 0 (replicate flags 0)) ts ≡ befores (sweep_told asks afi 16 [] ts) (after true (first_round asks afi) (replicate flags 0) f ts)
    first = rw (start asks afi) at (sweep_done_law asks afi t.afi_byte ts t.typed t.rest t.different 16 (omega arith) [] (replicate flags 0) f tt refl (length-replicate {A = ℕ} flags 0) no_flags)

    over : befores (sweep_told asks afi 16 [] ts) (after true (first_round asks afi) (replicate flags 0) f ts) ≡ befores (sweep_told asks afi 16 [] ts) (ended ts (blank phases.Ready) 0)
    over = ap (befores (sweep_told asks afi 16 [] ts)) (ends_clear (first_round asks afi) f ts)

-- ---- each once

none_there : (u : List ℕ) (k : Round) (ts : List Tag) → any (λ v. same u v.uid) ts ≡ false → count u (uids_of (part_of k ts)) ≡ 0
unfolding any part_of uids_of count
none_there u k [] e = refl
none_there u k (t ∷ ts) e = go (takes_part k t) (same u t.uid) refl e (none_there u k ts)
  where
    go : (b x : Bool) → same u t.uid ≡ x → (x || any (λ v. same u v.uid) ts) ≡ false → (any (λ v. same u v.uid) ts ≡ false → count u (uids_of (part_of k ts)) ≡ 0)
        → count u (uids_of (cond b (t ∷ part_of k ts) (part_of k ts))) ≡ 0
    go b true q z ih = absurd (true≢false z)
    go true false q z ih = rw (q, ih z)
    go false false q z ih = ih z

at_most_one : (u : List ℕ) (k : Round) (ts : List Tag) → apart ts ≡ true → count u (uids_of (part_of k ts)) ≤ 1
unfolding apart part_of uids_of count
at_most_one u k [] e = omega arith
at_most_one u k (t ∷ ts) e = go (takes_part k t) (same u t.uid) refl (at_most_one u k ts (both (not (any (λ v. same t.uid v.uid) ts)) (apart ts) e).1)
  where
    go : (b x : Bool) → same u t.uid ≡ x → count u (uids_of (part_of k ts)) ≤ 1 → count u (uids_of (cond b (t ∷ part_of k ts) (part_of k ts))) ≤ 1
    go true true q ih =
        let z : any (λ v. same u v.uid) ts ≡ false = rw (same_sound u t.uid q) (not-true (any (λ v. same t.uid v.uid) ts) (both (not (any (λ v. same t.uid v.uid) ts)) (apart ts) e).0) in
        rw (q, none_there u k ts z) (omega arith)
    go true false q ih = rw q (omega arith)
    go false x q ih = ih

pub sweep_claim : (asks : Bool) (afi : ℕ) (ts : List Tag) (f : ℕ) → Terms afi ts → SweepClaim asks afi ts (sweep_over (length (all_told asks afi ts) + f) asks afi ts)
sweep_claim asks afi ts f t = record { told = c; each = e; once = λ u. rw (e u) (at_most_one u (first_round asks afi) ts t.different) }
  where
    c : Claim (all_told asks afi ts) ts (sweep_over (length (all_told asks afi ts) + f) asks afi ts)
    c = sweep_tells asks afi ts f t

    e : (u : List ℕ) → count u (found_in (sweep_over (length (all_told asks afi ts) + f) asks afi ts).slots) ≡ count u (uids_of (part_of (first_round asks afi) ts))
    e u = ap (λ l. count u (found_in l)) c.slots ∙ rw (start asks afi) at (sweep_count u asks afi ts t.typed t.different 16 (omega arith) [] tt refl)
