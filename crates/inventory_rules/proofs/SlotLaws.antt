-- What is heard in a slot: nothing of no tag, its UID of one, and a collision of more, since two UIDs that differ collide in some bit. Assumes nothing.
use Rattle.std.specs.Prelude.{◌≡◌, ◌≢◌, ℕ, ◌+◌, ◌/◌, ◌≤◌, ◌<◌, Bool, not, ◌&&◌, ◌||◌, take, drop, eqb, Ok}
use Rattle.std.proofs.Math.Path.{refl, ap}
use Rattle.std.proofs.Common.{sym, ◌∙◌, arith, true≢false, length-drop, drop-drop, drop_at}
use Rattle.std.proofs.Math.Bool.{true, false, cond}
use mathlib.Core.List.{List, [], ◌∷◌, ◌++◌, map}
use Rattle.std.proofs.Math.ListN.{length}
use Rattle.std.proofs.lemmas.List.{take-append-le, drop-append-le}
use borrow.Author.Tests.{eq-eqb, le-leb, not-true, eqb-true}
use Rattle.rows.specs.CleanLaws.{not_nil}
use Rattle.rows.specs.EachLaws.{all_weaken, all_map}
use Rattle.rows.specs.ListLaws.{both, same_eq, same_sound}
use Rattle.rows.specs.Rows.{All, Bytes, any, same, clean, is_nil}
use Rattle.parity.specs.Bits.{unbits}
use Rattle.crc.specs.CrcOf.{with_of, crc_bytes_b, crc_good_b}
use Rattle.crc.specs.CrcOfLaws.{good_with_of}
use Rattle.frame.specs.Frame.{air_bits, bytes_of}
use Rattle.frame.specs.ByteLaws.{length_air_bits, air_bits_append}
use Rattle.frame_b.specs.FrameB.{frame_b, byte_at}
use Rattle.frame_b.specs.FrameBLaws.{length_frame, clean_frame, bytes_frame, byte_behind, bytes_behind, frame_tells}
use Rattle.field.specs.Merge.{merge, join}
use Rattle.field.specs.MergeLaws.{join_nil, length_merge, clean_merge}
use Rattle.request_v.specs.Inventory.{matching, slot_of}
use Rattle.request_v.specs.Flags.{listens}
use Rattle.selection_b.specs.TakenB.{admits}
use Rattle.tag.specs.Tag.{told}
use Rattle.answer_v.specs.Heard.{nobody, fits, slot_in, read_slot}
use Rattle.answer_v.specs.declared.SlotV.{SlotV}
use Rattle.answer_v.specs.declared.Turn.{Turn}
use Rattle.selection_b.specs.declared.Held.TheVariants.{One, More}
use Rattle.sent_v.specs.declared.Round.{Round}
use Rattle.request_v.specs.declared.Tag.{Tag}
use Rattle.inventory_rules.specs.RunV.{Told}
use Rattle.inventory_rules.specs.Claim.{Typed, apart, takes_part, place, in_slot, told_of}

-- ---- a tag's answer

unfoldable pub row : Tag → List ℕ
row t = frame_b (told t)

told_bytes_law : (t : Tag) → Typed t → Bytes (told t)
told_bytes_law t h = (omega arith, (h.dsfid, h.bytes))

length_row : (t : Tag) → Typed t → length (row t) ≡ 96
unfolding row
length_row t h = rw length_frame (omega (arith, h.eight))

row_tells : (t u : Tag) → Typed t → Typed u → row t ≡ row u → t.uid ≡ u.uid
unfolding row
row_tells t u h k e = let q : told t ≡ told u = frame_tells (told t) (told u) (told_bytes_law t h) (told_bytes_law u k) e in cc

-- each UID is another than those behind it
abbrev pub Apart : List Tag → Type 0
Apart [] = Unit {0}
Apart (t ∷ ts) = All (λ u. t.uid ≢ u.uid) ts × Apart ts

-- two different tags collide in some bit, whoever sends beside them
tags_collide : (t u : Tag) (ts : List Tag) → All Typed (t ∷ u ∷ ts) → t.uid ≢ u.uid → clean (merge (map row (t ∷ u ∷ ts))) ≡ false
tags_collide t u ts a n = go (clean (merge (map row (t ∷ u ∷ ts)))) refl
  where
    T : List (List ℕ)
    T = map row (t ∷ u ∷ ts)

    go : (b : Bool) → clean (merge T) ≡ b → b ≡ false
    go true q =
        let c : All (λ r. r ≡ merge T) T = clean_merge 96 T (omega arith) (all_map {F = Typed} (λ r. length r ≡ 96) row (t ∷ u ∷ ts) length_row a) q in
        absurd (n (row_tells t u a.0 a.1.0 (c.0 ∙ sym c.1.0)))
    go false q = refl

-- ---- one tag

-- the bits behind flags and DSFID: the UID's, and CRC_B
behind : (t : Tag) → drop 16 (row t) ≡ air_bits t.uid ++ air_bits (crc_bytes_b (told t))
unfolding row frame_b with_of
behind t =
    let c : List ℕ = crc_bytes_b (told t) in
    let p : List ℕ = 0x00 ∷ t.dsfid ∷ [] in
    rw (air_bits_append p (t.uid ++ c), drop_at (air_bits p) (air_bits (t.uid ++ c)) 16 (length_air_bits p)) (air_bits_append t.uid c)

module _ (k : Round) (deep : Bool) (s : ℕ) where
  abbrev pub awaited : Turn
  awaited = record { one = false; deep = deep; len = k.len; mask = k.mask; slot = s }

  module _ (t : Tag) (h : Typed t) (l : k.len ≤ 60) (b : s < 16) (e : place k t ≡ s) where
    -- it takes part, and this is its slot
    pub part : (takes_part k t ≡ true) × (slot_of t.uid k.len ≡ s)
    part = go (takes_part k t) refl (unfold place in e)
      where
        go : (x : Bool) → takes_part k t ≡ x → cond x (slot_of t.uid k.len) 16 ≡ s → (takes_part k t ≡ true) × (slot_of t.uid k.len ≡ s)
        go true p q = (p, q)
        go false p q = absurd (omega arith)

    pub masked : same (take k.len (air_bits k.mask)) (take k.len (air_bits t.uid)) ≡ true
    masked =
        let a : Bool = cond k.asks (t.supports && admits k.afi t.afi) true in
        let m : Bool = same (take k.len (air_bits k.mask)) (take k.len (air_bits t.uid)) in
        (both a m (both (listens t.state) (a && m) (unfold takes_part in part.0)).1).1

    uid_front : take k.len (drop 16 (row t)) ≡ take k.len (air_bits t.uid)
    uid_front = ap (take k.len) (behind t) ∙ take-append-le k.len (air_bits t.uid) (air_bits (crc_bytes_b (told t))) (rw length_air_bits (omega (arith, h.eight)))

    slot_bits : take 4 (drop (16 + k.len) (row t)) ≡ take 4 (drop k.len (air_bits t.uid))
    slot_bits =
        let n : length (air_bits t.uid) ≡ 64 = rw length_air_bits (omega (arith, h.eight)) in
        ap (take 4) (sym (drop-drop k.len 16 (row t)) ∙ ap (drop k.len) (behind t) ∙ drop-append-le k.len (air_bits t.uid) (air_bits (crc_bytes_b (told t))) (omega arith))
        ∙ take-append-le 4 (drop k.len (air_bits t.uid)) (air_bits (crc_bytes_b (told t))) (rw length-drop (omega arith))

    tag_fits : fits awaited (row t) ≡ true
    unfolding fits matching
    tag_fits =
        let q : unbits (take 4 (drop (16 + k.len) (row t))) ≡ s = ap unbits slot_bits ∙ (unfold slot_of in part.1) in
        rw (le-leb k.len 64 (omega arith), uid_front, same_eq _ _ (sym (same_sound _ _ masked)), le-leb k.len 60 l, eq-eqb _ s q)

    pub reads_one : ◌≡◌ {A = SlotV} (read_slot awaited (row t)) (record { says = Ok One; dsfid = t.dsfid; uid = t.uid })
    unfolding read_slot slot_in
    reads_one =
        let n : length (row t) ≡ 96 = length_row t h in
        let g : crc_good_b (bytes_of (length (row t) / 8) (row t)) ≡ true = rw n (unfold row in rw (bytes_frame 10 (told t) (told_bytes_law t h) (omega (arith, h.eight))) (good_with_of 0xFFFF 0xFFFF (told t))) in
        let c : clean (row t) ≡ true = unfold row in clean_frame (told t) in
        let f : byte_at 0 (row t) ≡ 0x00 = unfold row in byte_behind [] _ 0x00 (omega arith) in
        let d : byte_at 1 (row t) ≡ t.dsfid = unfold row in byte_behind (0x00 ∷ []) _ t.dsfid h.dsfid in
        let u : bytes_of 8 (drop 16 (row t)) ≡ t.uid = unfold row in rw h.eight at (bytes_behind (0x00 ∷ t.dsfid ∷ []) t.uid h.bytes) in
        rw (not_nil (row t) (omega arith), g, n, c, f, tag_fits, d, u)

-- ---- the tags of a slot

-- what a slot held, as the reader reads it
abbrev pub slot_v : Told → SlotV
slot_v x = record { says = Ok x.held; dsfid = x.dsfid; uid = x.uid }

-- a row of an answer's length with a collided bit, where the mask can grow
reads_more : (k : Round) (s : ℕ) (h : List ℕ) → length h ≡ 96 → clean h ≡ false → read_slot (awaited k false s) h ≡ nobody (Ok More)
unfolding read_slot
reads_more k s h n c = rw (not_nil h (omega arith), n, c)

-- what the reader reads where the tags of a slot answer together
pub reads_slot : (k : Round) (s : ℕ) → k.len ≤ 60 → s < 16 → (ts : List Tag) → All Typed ts → All (λ t. place k t ≡ s) ts → Apart ts
    → read_slot (awaited k false s) (merge (map row ts)) ≡ slot_v (told_of ts)
reads_slot k s l b [] h e a = unfold read_slot merge is_nil in refl
reads_slot k s l b (t ∷ []) h e a =
    let q : merge (map row (t ∷ [])) ≡ row t = unfold merge in join_nil (row t) in
    rw q (reads_one k false s t h.0 l b e.0)
reads_slot k s l b (t ∷ u ∷ ts) h e a =
    reads_more k s (merge (map row (t ∷ u ∷ ts))) (length_merge row 96 (t ∷ u ∷ ts) (omega arith) (all_weaken {F = Typed} (t ∷ u ∷ ts) length_row h)) (tags_collide t u ts h a.0.0)

-- what is sent in slot s
unfoldable pub sent : Round → ℕ → Tag → List ℕ
sent k s t = cond (eqb (place k t) s) (row t) []

-- silent tags are not heard
pub merge_slot : (k : Round) (s : ℕ) (ts : List Tag) → merge (map (sent k s) ts) ≡ merge (map row (in_slot k s ts))
unfolding merge in_slot sent
merge_slot k s [] = refl
merge_slot k s (t ∷ ts) = go (eqb (place k t) s) (merge_slot k s ts)
  where
    go : (b : Bool) → merge (map (sent k s) ts) ≡ merge (map row (in_slot k s ts))
        → join (cond b (row t) []) (merge (map (sent k s) ts)) ≡ merge (map row (cond b (t ∷ in_slot k s ts) (in_slot k s ts)))
    go true e = ap (join (row t)) e
    go false e = unfold join in e

pub slot_all : (G : Tag → Type 0) (k : Round) (s : ℕ) (ts : List Tag) → All G ts → All G (in_slot k s ts)
unfolding in_slot
slot_all G k s [] h = tt
slot_all G k s (t ∷ ts) h = go (eqb (place k t) s) (slot_all G k s ts h.1)
  where
    go : (b : Bool) → All G (in_slot k s ts) → All G (cond b (t ∷ in_slot k s ts) (in_slot k s ts))
    go true e = (h.0, e)
    go false e = e

pub slot_place : (k : Round) (s : ℕ) (ts : List Tag) → All (λ t. place k t ≡ s) (in_slot k s ts)
unfolding in_slot
slot_place k s [] = tt
slot_place k s (t ∷ ts) = go (eqb (place k t) s) refl (slot_place k s ts)
  where
    go : (b : Bool) → eqb (place k t) s ≡ b → All (λ t. place k t ≡ s) (in_slot k s ts) → All (λ t. place k t ≡ s) (cond b (t ∷ in_slot k s ts) (in_slot k s ts))
    go true q e = (eqb-true (place k t) s q, e)
    go false q e = e

or_false : (a b : Bool) → (a || b) ≡ false → (a ≡ false) × (b ≡ false)
or_false true b e = absurd (true≢false e)
or_false false b e = (refl, e)

others : (p : List ℕ) (ts : List Tag) → any (λ u. same p u.uid) ts ≡ false → All (λ u. p ≢ u.uid) ts
unfolding any
others p [] e = tt
others p (t ∷ ts) e =
    let h = or_false (same p t.uid) (any (λ u. same p u.uid) ts) e in
    (λ q. true≢false (sym (same_eq p t.uid q) ∙ h.0), others p ts h.1)

pub apart_slot : (k : Round) (s : ℕ) (ts : List Tag) → apart ts ≡ true → Apart (in_slot k s ts)
unfolding in_slot apart
apart_slot k s [] e = tt
apart_slot k s (t ∷ ts) e = go (eqb (place k t) s) (apart_slot k s ts h.1)
  where
    h : (not (any (λ u. same t.uid u.uid) ts) ≡ true) × (apart ts ≡ true)
    h = both (not (any (λ u. same t.uid u.uid) ts)) (apart ts) e

    go : (b : Bool) → Apart (in_slot k s ts) → Apart (cond b (t ∷ in_slot k s ts) (in_slot k s ts))
    go true a = (slot_all (λ u. t.uid ≢ u.uid) k s ts (others t.uid ts (not-true (any (λ u. same t.uid u.uid) ts) h.0)), a)
    go false a = a

-- what is heard of a field in slot s
pub hears_slot : (k : Round) (s : ℕ) → k.len ≤ 60 → s < 16 → (ts : List Tag) → All Typed ts → apart ts ≡ true → read_slot (awaited k false s) (merge (map (sent k s) ts)) ≡ slot_v (told_of (in_slot k s ts))
hears_slot k s l b ts h a = rw (merge_slot k s ts) (reads_slot k s l b (in_slot k s ts) (slot_all Typed k s ts h) (slot_place k s ts) (apart_slot k s ts a))
