-- Masks of rounds: how they are held as bytes, how they grow, and that two tags that both fit 64 bits are one. Assumes nothing.
use Rattle.std.specs.Prelude.{◌≡◌, refl, Bool, List, [], ◌∷◌, ◌++◌, map, drop, replicate, leb}
use Rattle.std.proofs.Math.Path.{sym}
use Rattle.std.proofs.Common.{ap, ap₂, ◌∙◌, append-nil, length-append, length-take, length-drop, take-append-drop, take_all, leb-true}
use Prim.Native.Nat.{ℕ, ◌+◌, ◌-◌, ◌*◌, ◌≤◌, ◌<◌}
use native.Mathlib.Omega.{arith}
use Rattle.std.proofs.Math.Bool.{true, false}
use Rattle.std.proofs.Math.ListN.{length, take}
use Rattle.std.proofs.Math.Seq.{take-append-le}
use Rattle.rows.specs.Rows.{All, Bits, Bytes, fill}
use Rattle.rows.specs.ListLaws.{same_sound, all_take_law, all_drop}
use Rattle.parity.specs.Bits.{bits_of, unbits}
use Rattle.parity.specs.BitLaws.{length_bits, bits_unbits}
use Rattle.frame.specs.Frame.{air_bits, bytes_of}
use Rattle.frame.specs.ByteLaws.{length_air_bits, bits_air_bits, bits_bytes_all, bytes_bits}
use Rattle.field.specs.Merge.{merge}
use Rattle.field.specs.MergeLaws.{join_nil}
use Rattle.rows.specs.Rows.{is_nil}
use Rattle.request_v.specs.Inventory.{slot_of}
use Rattle.sent_v.specs.Sent.{grown_mask}
use Rattle.answer_v.specs.Heard.{read_slot}
use Rattle.reader_v.specs.Met.{flags, length_of, first_met}
use Rattle.reader_v.specs.Met as met
use Rattle.reader_v.specs.ReaderV.{round_of, is_more}
use Rattle.reader_v.specs.CallsV.{round_for}
use Rattle.sent_v.specs.declared.Round.{Round}
use Rattle.request_v.specs.declared.Tag.{Tag}
use Rattle.inventory_rules.specs.Claim.{Typed, apart, place, in_slot, told_of, round_at}
use Rattle.inventory_rules.specs.RequestLaws.{fill_bits, length_fill}
use Rattle.inventory_rules.proofs.SlotLaws.{row, sent, slot_v, awaited, Apart, part, masked, reads_one, merge_slot, slot_all, slot_place, apart_slot, hears_slot}
use Rattle.inventory_rules.proofs.RoundLaws.{Hears}

-- ---- bytes and bits of a mask

pub mask_air : (m : List ℕ) → Bits m → length m ≤ 64 → air_bits (bytes_of 8 (fill 64 m)) ≡ fill 64 m
mask_air m b h = bits_bytes_all 8 (fill 64 m) (fill_bits m b) (length_fill m h)

mask_front : (n : ℕ) (m : List ℕ) → Bits m → length m ≤ 64 → n ≤ length m → take n (air_bits (bytes_of 8 (fill 64 m))) ≡ take n m
mask_front n m b h k = ap (take n) (mask_air m b h) ∙ (unfold fill in take-append-le n m (replicate (64 - length m) 0) k)

module _ (asks : Bool) (afi : ℕ) where
  -- a round of a flag goes by the mask's first bits alone
  pub round_same : (i : ℕ) (m n : List ℕ) → Bits m → length m ≤ 64 → length_of i ≤ length m → Bits n → length n ≤ 64 → length_of i ≤ length n → take (length_of i) m ≡ take (length_of i) n
      → round_of (round_at asks afi m) i ≡ round_of (round_at asks afi n) i
  unfolding round_of round_at grown_mask
  round_same i m n bm hm km bn hn kn e =
      let q : take (length_of i) (air_bits (bytes_of 8 (fill 64 m))) ≡ take (length_of i) (air_bits (bytes_of 8 (fill 64 n))) = mask_front (length_of i) m bm hm km ∙ e ∙ sym (mask_front (length_of i) n bn hn kn) in
      rw q

  -- .. and is that of the mask lengthened by its slot
  pub round_grown : (e s : ℕ) (m n : List ℕ) → e ≤ 14 → s < 16 → Bits n → length n ≤ 64 → length m ≡ 4 * e → take (length m) n ≡ m → length m ≤ length n
      → round_of (round_at asks afi n) (16 * (14 - e) + s) ≡ round_at asks afi (m ++ bits_of 4 s)
  unfolding round_of round_at grown_mask
  round_grown e s m n he hs b h l q k =
      let i : ℕ = 16 * (14 - e) + s in
      let a : length_of (16 * (14 - e) + s) ≡ length m = omega arith in
      let c : met.slot_of (16 * (14 - e) + s) ≡ s = omega arith in
      let t : take (length m) (air_bits (bytes_of 8 (fill 64 n))) ≡ m = mask_front (length m) n b h k ∙ q in
      let z : length m + 4 ≡ length (m ++ bits_of 4 s) = rw (length-append, length_bits) in
      rw (a, c, t, z)

-- ---- 64 bits tell a tag

bits_tell : (x y : List ℕ) → Bytes x → Bytes y → length x ≡ 8 → length y ≡ 8 → air_bits x ≡ air_bits y → x ≡ y
bits_tell x y bx bh lx ly e = sym (rw lx at (bytes_bits x bx)) ∙ ap (bytes_of 8) e ∙ rw ly at (bytes_bits y bh)

pub four_back : (w : List ℕ) → Bits w → length w ≡ 4 → bits_of 4 (unbits w) ≡ w
unfolding fill
four_back w b l = bits_unbits 4 w b (omega arith) ∙ rw l (append-nil w)

four_tell : (u v : List ℕ) → Bits u → Bits v → length u ≡ 4 → length v ≡ 4 → unbits u ≡ unbits v → u ≡ v
four_tell u v bu bv lu lv e = sym (four_back u bu lu) ∙ ap (bits_of 4) e ∙ four_back v bv lv

module _ (k : Round) (s : ℕ) (hs : s < 16) (l : k.len ≡ 60) where
  same_tag : (t u : Tag) → Typed t → Typed u → place k t ≡ s → place k u ≡ s → t.uid ≡ u.uid
  same_tag t u ht hu et eu = bits_tell t.uid u.uid ht.bytes hu.bytes ht.eight hu.eight all_bits
    where
      last : Tag → List ℕ
      last x = take 4 (drop k.len (air_bits x.uid))

      parts : (x : Tag) → Typed x → take k.len (air_bits x.uid) ++ last x ≡ air_bits x.uid
      parts x h =
          ap (λ r. take k.len (air_bits x.uid) ++ r) (take_all 4 (drop k.len (air_bits x.uid)) (rw (length-drop, length_air_bits) (omega (arith, h.eight))))
          ∙ take-append-drop k.len (air_bits x.uid)

      last_bits : (x : Tag) → Bits (last x)
      last_bits x = all_take_law (λ v. v < 2) 4 (drop k.len (air_bits x.uid)) (all_drop (λ v. v < 2) k.len (air_bits x.uid) (bits_air_bits x.uid))

      last_four : (x : Tag) → Typed x → length (last x) ≡ 4
      last_four x h = rw (length-take, length-drop, length_air_bits) (omega (arith, h.eight))

      front : (x : Tag) → Typed x → place k x ≡ s → take k.len (air_bits k.mask) ≡ take k.len (air_bits x.uid)
      front x h e = same_sound _ _ (masked k false s x h (omega arith) hs e)

      slot : (x : Tag) → Typed x → place k x ≡ s → unbits (last x) ≡ s
      slot x h e = unfold slot_of in (part k false s x h (omega arith) hs e).1

      all_bits : air_bits t.uid ≡ air_bits u.uid
      all_bits =
          sym (parts t ht)
          ∙ ap₂ (λ a b. a ++ b) (sym (front t ht et) ∙ front u hu eu) (four_tell (last t) (last u) (last_bits t) (last_bits u) (last_four t ht) (last_four u hu) (slot t ht et ∙ sym (slot u hu eu)))
          ∙ parts u hu

  -- so that no slot of such a round holds two
  deep_slot : (ts : List Tag) → All Typed ts → All (λ t. place k t ≡ s) ts → Apart ts
      → (is_more (told_of ts).held ≡ false) × (read_slot (awaited k true s) (merge (map row ts)) ≡ slot_v (told_of ts))
  deep_slot [] h e a = (refl, unfold read_slot merge is_nil in refl)
  deep_slot (t ∷ []) h e a =
      let q : merge (map row (t ∷ [])) ≡ row t = unfold merge in join_nil (row t) in
      (refl, rw q (reads_one k true s t h.0 (omega arith) hs e.0))
  deep_slot (t ∷ u ∷ ts) h e a = absurd (a.0.0 (same_tag t u h.0 h.1.0 e.0 e.1.0))

  pub no_more : (ts : List Tag) → All Typed ts → apart ts ≡ true → is_more (told_of (in_slot k s ts)).held ≡ false
  no_more ts h a = (deep_slot (in_slot k s ts) (slot_all Typed k s ts h) (slot_place k s ts) (apart_slot k s ts a)).0

  hears_deep : (ts : List Tag) → All Typed ts → apart ts ≡ true → read_slot (awaited k true s) (merge (map (sent k s) ts)) ≡ slot_v (told_of (in_slot k s ts))
  hears_deep ts h a = rw (merge_slot k s ts) (deep_slot (in_slot k s ts) (slot_all Typed k s ts h) (slot_place k s ts) (apart_slot k s ts a)).1

-- what is heard in every slot of a sweep's round
pub hears_sweep : (asks : Bool) (afi len : ℕ) (mask : List ℕ) (ha : afi < 256) (l : len ≤ 60) (hm : length mask ≡ 8) (ts : List Tag) → All Typed ts → apart ts ≡ true → Hears true asks afi len mask ha l hm ts
hears_sweep asks afi len mask ha l hm ts h a s b = go (leb 60 len) refl
  where
    go : (x : Bool) → leb 60 len ≡ x → read_slot (awaited (round_for false asks afi len mask) x s) (merge (map (sent (round_for false asks afi len mask) s) ts)) ≡ slot_v (told_of (in_slot (round_for false asks afi len mask) s ts))
    go true e = hears_deep (round_for false asks afi len mask) s b (omega (arith, leb-true 60 len e)) ts h a
    go false e = hears_slot (round_for false asks afi len mask) s l b ts h a
