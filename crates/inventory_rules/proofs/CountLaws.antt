-- What a sweep tells, counted: each tag that takes part once, and no other. Assumes nothing.
use Rattle.std.specs.Prelude.{◌≡◌, Bool, ◌&&◌, drop, replicate}
use Rattle.std.proofs.Math.Path.{refl, sym, ap, ap₂}
use Rattle.std.proofs.Common.{◌∙◌, zero-add, true≢false, length-take, length-drop}
use Prim.Native.Nat.{ℕ, zero, suc, ◌+◌, ◌-◌, ◌*◌, ◌≤◌, ◌<◌}
use native.Mathlib.Omega.{arith}
use Rattle.std.proofs.Math.Bool.{true, false, cond}
use mathlib.Core.List.{List, [], ◌∷◌, ◌++◌, append_assoc, map}
use Rattle.std.proofs.Math.ListN.{length, take, length-append}
use Rattle.std.proofs.Math.Seq.{take-append_seam}
use Rattle.std.proofs.Math.Dec.{eqb}
use borrow.Author.Tests.{ne_eqb, eqb-true, eqb-false}
use Rattle.rows.specs.Rows.{All, Bits, fill, same}
use Rattle.rows.specs.ListLaws.{all_append, all_take_law, all_drop, same_refl, same_ne}
use Rattle.parity.specs.Bits.{bits_of, unbits}
use Rattle.parity.specs.BitLaws.{length_bits, bits_bits, unbits_bits}
use Rattle.frame.specs.Frame.{air_bits, bytes_of}
use Rattle.frame.specs.ByteLaws.{length_air_bits, bits_air_bits}
use Rattle.request_v.specs.Inventory.{slot_of}
use Rattle.request_v.specs.Flags.{listens}
use Rattle.selection_b.specs.TakenB.{admits}
use Rattle.reader_v.specs.ReaderV.{is_more}
use Rattle.sent_v.specs.declared.Round.{Round}
use Rattle.request_v.specs.declared.Tag.{Tag}
use Rattle.inventory_rules.specs.RunV.{Told}
use Rattle.inventory_rules.specs.Claim.{Typed, apart, takes_part, place, in_slot, told_of, slots_from, round_at, flat, sweep_told}
use Rattle.inventory_rules.specs.Found.{found_of, found_in, count, part_of, uids_of}
use Rattle.inventory_rules.specs.TagLaws.{slot_lt}
use Rattle.inventory_rules.proofs.MaskLaws.{mask_air, no_more, four_back}

-- ---- sums over slots

unfoldable total : (ℕ → ℕ) → ℕ → ℕ → ℕ
total f s zero = 0
total f s (suc n) = f s + total f (s + 1) n

total_add : (f g : ℕ → ℕ) (n s : ℕ) → total f s n + total g s n ≡ total (λ i. f i + g i) s n
unfolding total
total_add f g zero s = refl
total_add f g (suc n) s = omega (arith, total_add f g n (s + 1))

total_same : (f g : ℕ → ℕ) (n s : ℕ) → ((i : ℕ) → i < s + n → f i ≡ g i) → total f s n ≡ total g s n
unfolding total
total_same f g zero s h = refl
total_same f g (suc n) s h = ap₂ (λ a b. a + b) (h s (omega arith)) (total_same f g n (s + 1) (λ i l. h i (omega arith)))

total_none : (p c n s : ℕ) → p < s → total (λ i. cond (eqb p i) c 0) s n ≡ 0
unfolding total
total_none p c zero s h = refl
total_none p c (suc n) s h = rw (ne_eqb p s (λ e. omega arith), total_none p c n (s + 1) (omega arith))

total_far : (p c n s : ℕ) → s + n ≤ p → total (λ i. cond (eqb p i) c 0) s n ≡ 0
unfolding total
total_far p c zero s h = refl
total_far p c (suc n) s h = rw (ne_eqb p s (λ e. omega arith), total_far p c n (s + 1) (omega arith))

total_one : (p c n s : ℕ) → s ≤ p → p < s + n → total (λ i. cond (eqb p i) c 0) s n ≡ c
unfolding total
total_one p c zero s h k = absurd (omega arith)
total_one p c (suc n) s h k = go (eqb p s) refl (λ x y. total_one p c n (s + 1) x y)
  where
    go : (b : Bool) → eqb p s ≡ b → (s + 1 ≤ p → p < s + 1 + n → total (λ i. cond (eqb p i) c 0) (s + 1) n ≡ c) → cond (eqb p s) c 0 + total (λ i. cond (eqb p i) c 0) (s + 1) n ≡ c
    go true e ih = rw (e, total_none p c n (s + 1) (omega (arith, eqb-true p s e))) (omega arith)
    go false e ih = let x = eqb-false p s e in rw (e, ih (omega (arith, x)) (omega arith)) (omega arith)

total_zero : (n s : ℕ) → total (λ i. 0) s n ≡ 0
unfolding total
total_zero zero s = refl
total_zero (suc n) s = rw (total_zero n (s + 1))

-- ---- counting

count_append : (u : List ℕ) (a b : List (List ℕ)) → count u (a ++ b) ≡ count u a + count u b
unfolding count
count_append u [] b = omega arith
count_append u (x ∷ a) b = omega (arith, count_append u a b)

found_append : (a b : List Told) → found_in (a ++ b) ≡ found_in a ++ found_in b
unfolding found_in
found_append [] b = refl
found_append (x ∷ a) b = ap (λ r. found_of x.held x.uid ++ r) (found_append a b) ∙ sym (append_assoc (found_of x.held x.uid) (found_in a) (found_in b))

module _ (u : List ℕ) where
  count_tells : (h : ℕ → Told) (n s : ℕ) → count u (found_in (map h (slots_from s n))) ≡ total (λ i. count u (found_of (h i).held (h i).uid)) s n
  unfolding total slots_from found_in
  count_tells h zero s = unfold count in refl
  count_tells h (suc n) s = count_append u (found_of (h s).held (h s).uid) _ ∙ ap (λ c. count u (found_of (h s).held (h s).uid) + c) (count_tells h n (s + 1))

  count_flat : (g : ℕ → List Told) (n s : ℕ) → count u (found_in (flat (map g (slots_from s n)))) ≡ total (λ i. count u (found_in (g i))) s n
  unfolding total slots_from flat
  count_flat g zero s = unfold found_in count in refl
  count_flat g (suc n) s = ap (count u) (found_append (g s) _) ∙ count_append u (found_in (g s)) _ ∙ ap (λ c. count u (found_in (g s)) + c) (count_flat g n (s + 1))

  -- a tag in its slot, and those behind it
  count_in_law : (k : Round) (t : Tag) (ts : List Tag) (i : ℕ) → count u (uids_of (in_slot k i (t ∷ ts))) ≡ cond (eqb (place k t) i) (cond (same u t.uid) 1 0) 0 + count u (uids_of (in_slot k i ts))
  unfolding in_slot uids_of count
  count_in_law k t ts i = go (eqb (place k t) i)
    where
      go : (b : Bool) → count u (uids_of (cond b (t ∷ in_slot k i ts) (in_slot k i ts))) ≡ cond b (cond (same u t.uid) 1 0) 0 + count u (uids_of (in_slot k i ts))
      go true = refl
      go false = omega arith

  count_part : (k : Round) (t : Tag) (ts : List Tag) → total (λ i. cond (eqb (place k t) i) (cond (same u t.uid) 1 0) 0) 0 16 + count u (uids_of (part_of k ts)) ≡ count u (uids_of (part_of k (t ∷ ts)))
  unfolding part_of uids_of count place
  count_part k t ts = go (takes_part k t)
    where
      go : (b : Bool) → total (λ i. cond (eqb (cond b (slot_of t.uid k.len) 16) i) (cond (same u t.uid) 1 0) 0) 0 16 + count u (uids_of (part_of k ts)) ≡ count u (uids_of (cond b (t ∷ part_of k ts) (part_of k ts)))
      go true = rw (total_one (slot_of t.uid k.len) (cond (same u t.uid) 1 0) 16 0 (omega arith) (omega (arith, slot_lt t.uid k.len)))
      go false = rw (total_far 16 (cond (same u t.uid) 1 0) 16 0 (omega arith)) (omega arith)

  -- the tags of all slots are those that take part
  count_slots : (k : Round) (ts : List Tag) → total (λ i. count u (uids_of (in_slot k i ts))) 0 16 ≡ count u (uids_of (part_of k ts))
  count_slots k [] = none
    where
      none : total (λ i. count u (uids_of (in_slot k i []))) 0 16 ≡ count u (uids_of (part_of k []))
      none = unfold in_slot part_of uids_of count in total_zero 16 0
  count_slots k (t ∷ ts) =
      total_same (λ i. count u (uids_of (in_slot k i (t ∷ ts)))) (λ i. cond (eqb (place k t) i) (cond (same u t.uid) 1 0) 0 + count u (uids_of (in_slot k i ts))) 16 0 (λ i l. count_in_law k t ts i)
      ∙ sym (total_add (λ i. cond (eqb (place k t) i) (cond (same u t.uid) 1 0) 0) (λ i. count u (uids_of (in_slot k i ts))) 16 0)
      ∙ ap (λ x. total (λ i. cond (eqb (place k t) i) (cond (same u t.uid) 1 0) 0) 0 16 + x) (count_slots k ts)
      ∙ count_part k t ts

-- ---- a mask that grows by a slot takes the tags of that slot

same_parts : (a b r : List ℕ) → length a + length b ≤ length r → same (a ++ b) (take (length a + length b) r) ≡ (same a (take (length a) r) && same b (take (length b) (drop (length a) r)))
unfolding same
same_parts [] b r h = rw zero-add
same_parts (x ∷ a) b [] h = absurd (omega arith)
same_parts (x ∷ a) b (y ∷ r) h =
    let e : suc (length a) + length b ≡ suc (length a + length b) = omega arith in
    rw (e, same_parts a b r (omega arith)) (go (eqb x y))
  where
    go : (z : Bool) → (z && (same a (take (length a) r) && same b (take (length b) (drop (length a) r)))) ≡ (z && same a (take (length a) r) && same b (take (length b) (drop (length a) r)))
    go true = refl
    go false = refl

same_four : (s : ℕ) (r : List ℕ) → s < 16 → Bits r → length r ≡ 4 → same (bits_of 4 s) r ≡ eqb (unbits r) s
same_four s r h b l = go (eqb (unbits r) s) refl
  where
    go : (x : Bool) → eqb (unbits r) s ≡ x → same (bits_of 4 s) r ≡ x
    go true e = rw (← eqb-true (unbits r) s e, four_back r b l) (same_refl r)
    go false e = same_ne (bits_of 4 s) r (λ q. eqb-false (unbits r) s e (ap unbits (sym q) ∙ unbits_bits 4 s (omega arith)))

module _ (asks : Bool) (afi : ℕ) where
  -- the mask of a round, as bits
  takes_as : (m : List ℕ) (t : Tag) → Bits m → length m ≤ 64
      → takes_part (round_at asks afi m) t ≡ (listens t.state && (cond asks (t.supports && admits afi t.afi) true && same m (take (length m) (air_bits t.uid))))
  unfolding takes_part round_at
  takes_as m t b h =
      let e : take (length m) (air_bits (bytes_of 8 (fill 64 m))) ≡ m = ap (take (length m)) (mask_air m b h) ∙ front m in
      rw e
    where
      front : (m : List ℕ) → take (length m) (fill 64 m) ≡ m
      front m = unfold fill in take-append_seam m (replicate (64 - length m) 0)

  one_slot : (l a b : Bool) (p s : ℕ) → s < 16 → (l && (a && (b && eqb p s))) ≡ eqb (cond (l && (a && b)) p 16) s
  one_slot true true true p s h = refl
  one_slot true true false p s h = sym (ne_eqb 16 s (λ e. omega arith))
  one_slot true false b p s h = sym (ne_eqb 16 s (λ e. omega arith))
  one_slot false a b p s h = sym (ne_eqb 16 s (λ e. omega arith))

  grown_part : (m : List ℕ) (s : ℕ) (t : Tag) → Bits m → length m + 4 ≤ 64 → s < 16 → Typed t → takes_part (round_at asks afi (m ++ bits_of 4 s)) t ≡ eqb (place (round_at asks afi m) t) s
  unfolding place
  grown_part m s t b h hs ty =
      let n : length (m ++ bits_of 4 s) ≡ length m + length (bits_of 4 s) = length-append m (bits_of 4 s) in
      let f : length (bits_of 4 s) ≡ 4 = length_bits 4 s in
      let q : length (air_bits t.uid) ≡ 64 = rw length_air_bits (omega (arith, ty.eight)) in
      let lf : length (take 4 (drop (length m) (air_bits t.uid))) ≡ 4 = rw (length-take, length-drop) (omega arith) in
      let bf : Bits (take 4 (drop (length m) (air_bits t.uid))) = all_take_law (λ v. v < 2) 4 (drop (length m) (air_bits t.uid)) (all_drop (λ v. v < 2) (length m) (air_bits t.uid) (bits_air_bits t.uid)) in
      let z : same (m ++ bits_of 4 s) (take (length (m ++ bits_of 4 s)) (air_bits t.uid)) ≡ (same m (take (length m) (air_bits t.uid)) && eqb (unbits (take 4 (drop (length m) (air_bits t.uid)))) s) =
      rw n (same_parts m (bits_of 4 s) (air_bits t.uid) (omega arith) ∙ rw f (ap (λ x. same m (take (length m) (air_bits t.uid)) && x) (same_four s (take 4 (drop (length m) (air_bits t.uid))) hs bf lf))) in
      takes_as (m ++ bits_of 4 s) t (all_append (λ v. v < 2) m (bits_of 4 s) b (bits_bits 4 s)) (omega arith)
      ∙ ap (λ x. listens t.state && (cond asks (t.supports && admits afi t.afi) true && x)) z
      ∙ one_slot (listens t.state) (cond asks (t.supports && admits afi t.afi) true) (same m (take (length m) (air_bits t.uid))) (unbits (take 4 (drop (length m) (air_bits t.uid)))) s hs
      ∙ ap (λ x. eqb (cond x (unbits (take 4 (drop (length m) (air_bits t.uid)))) 16) s) (sym (takes_as m t b (omega arith)))
      ∙ (unfold slot_of round_at in refl)

  -- the tags of a slot are those that take part in its round
  part_slot : (m : List ℕ) (s : ℕ) (ts : List Tag) → Bits m → length m + 4 ≤ 64 → s < 16 → All Typed ts → part_of (round_at asks afi (m ++ bits_of 4 s)) ts ≡ in_slot (round_at asks afi m) s ts
  unfolding part_of in_slot
  part_slot m s [] b h hs ty = refl
  part_slot m s (t ∷ ts) b h hs ty = rw (grown_part m s t b h hs ty.0, part_slot m s ts b h hs ty.1)

-- ---- a slot: one tag is told, of more the round of the lengthened mask tells

slot_count : (u : List ℕ) (cs : List Tag) (B : List Told) → (is_more (told_of cs).held ≡ true → count u (found_in B) ≡ count u (uids_of cs))
    → count u (found_of (told_of cs).held (told_of cs).uid) + count u (found_in (cond (is_more (told_of cs).held) B [])) ≡ count u (uids_of cs)
unfolding found_in uids_of count
slot_count u [] B h = refl
slot_count u (t ∷ []) B h = omega arith
slot_count u (t ∷ v ∷ cs) B h = rw zero-add (h refl)

module _ (u : List ℕ) (asks : Bool) (afi : ℕ) (ts : List Tag) (ht : All Typed ts) (hp : apart ts ≡ true) where
  pub sweep_count : (d : ℕ) → 1 ≤ d → (m : List ℕ) → Bits m → length m + 4 * d ≡ 64 → count u (found_in (sweep_told asks afi d m ts)) ≡ count u (uids_of (part_of (round_at asks afi m) ts))
  unfolding sweep_told
  sweep_count zero h m b l = absurd (omega arith)
  sweep_count (suc d) h m b l =
      ap (count u) (found_append (map (λ s. told_of (in_slot (round_at asks afi m) s ts)) (slots_from 0 16)) _)
      ∙ count_append u (found_in (map (λ s. told_of (in_slot (round_at asks afi m) s ts)) (slots_from 0 16))) _
      ∙ ap₂ (λ x y. x + y) (count_tells u (λ s. told_of (in_slot (round_at asks afi m) s ts)) 16 0)
      (count_flat u (λ s. cond (is_more (told_of (in_slot (round_at asks afi m) s ts)).held) (sweep_told asks afi d (m ++ bits_of 4 s) ts) []) 16 0)
      ∙ total_add (λ s. count u (found_of (told_of (in_slot (round_at asks afi m) s ts)).held (told_of (in_slot (round_at asks afi m) s ts)).uid))
      (λ s. count u (found_in (cond (is_more (told_of (in_slot (round_at asks afi m) s ts)).held) (sweep_told asks afi d (m ++ bits_of 4 s) ts) []))) 16 0
      ∙ total_same _ (λ s. count u (uids_of (in_slot (round_at asks afi m) s ts))) 16 0 (λ s i. each s i (λ k b' l'. sweep_count d k (m ++ bits_of 4 s) b' l'))
      ∙ count_slots u (round_at asks afi m) ts
    where
      each : (s : ℕ) → s < 0 + 16
          → (1 ≤ d → Bits (m ++ bits_of 4 s) → length (m ++ bits_of 4 s) + 4 * d ≡ 64 → count u (found_in (sweep_told asks afi d (m ++ bits_of 4 s) ts)) ≡ count u (uids_of (part_of (round_at asks afi (m ++ bits_of 4 s)) ts)))
          → count u (found_of (told_of (in_slot (round_at asks afi m) s ts)).held (told_of (in_slot (round_at asks afi m) s ts)).uid)
          + count u (found_in (cond (is_more (told_of (in_slot (round_at asks afi m) s ts)).held) (sweep_told asks afi d (m ++ bits_of 4 s) ts) []))
          ≡ count u (uids_of (in_slot (round_at asks afi m) s ts))
      each s i ih = slot_count u (in_slot (round_at asks afi m) s ts) (sweep_told asks afi d (m ++ bits_of 4 s) ts) (λ x. grown (eqb (length m) 60) refl x)
        where
          grown : (y : Bool) → eqb (length m) 60 ≡ y → is_more (told_of (in_slot (round_at asks afi m) s ts)).held ≡ true
              → count u (found_in (sweep_told asks afi d (m ++ bits_of 4 s) ts)) ≡ count u (uids_of (in_slot (round_at asks afi m) s ts))
          grown true e x = absurd (true≢false (sym x ∙ no_more (round_at asks afi m) s (omega arith) (unfold round_at in eqb-true (length m) 60 e) ts ht hp))
          grown false e x =
              let z = eqb-false (length m) 60 e in
              let n : length (m ++ bits_of 4 s) ≡ length m + 4 = rw (length-append, length_bits) in
              ih (omega (arith, z)) (all_append (λ v. v < 2) m (bits_of 4 s) b (bits_bits 4 s)) (omega arith)
              ∙ ap (λ l. count u (uids_of l)) (part_slot asks afi m s ts b (omega arith) (omega arith) ht)
