-- What is heard in a slot: nothing of no card, its ATQB of one card, and a collision of more, since two PUPIs that differ collide in some bit.
-- Assumes nothing.
use Rattle.std.specs.Prelude.{◌≡◌, ◌≢◌, ℕ, Bool, true, false, cond, not, ◌||◌, List, [], ◌∷◌, ◌++◌, map, length, eqb, Ok}
use Rattle.std.proofs.Math.Path.{refl}
use Rattle.std.proofs.Common.{sym, ap, ◌∙◌, true≢false, arith}
use Rattle.std.proofs.lemmas.Bool.{not-true}
use Rattle.rows.specs.CleanLaws.{not_nil}
use Rattle.rows.specs.EachLaws.{parts_equal, all_weaken, all_map}
use Rattle.rows.specs.ListLaws.{both, same_eq}
use Rattle.rows.specs.Rows.{All, any, same, clean, is_nil}
use Rattle.frame_b.specs.FrameB.{frame_b}
use Rattle.frame_b.specs.FrameBLaws.{length_frame, frame_tells}
use Rattle.selection_b.specs.TypeB.{Parts, atqb_bytes}
use Rattle.selection_b.specs.HeardB.{read_slot, nobody}
use Rattle.selection_b.specs.ReadBackBLaws.{length_atqb, bytes_atqb, reads_atqb}
use Rattle.card_b.specs.CardB.{atqb_of}
use Rattle.field.specs.Merge.{merge, join}
use Rattle.field.specs.MergeLaws.{join_nil, length_merge, clean_merge}
use Rattle.slots_rules.specs.TermsB.{apart}
use Rattle.slots_rules.specs.Claim.{in_slot, told}
use Rattle.selection_b.specs.declared.Held.TheVariants.{More}
use Rattle.selection_b.specs.declared.SlotRead.{SlotRead}
use Rattle.card_b.specs.declared.CardB.{CardB}
use Rattle.field_b.specs.declared.Drawn.{Drawn}

abbrev pub OfCard : CardB → Type 0
OfCard c = Parts c.pupi c.application c.protocol

-- the row of a card's ATQB
unfoldable pub atqb_row : CardB → List ℕ
atqb_row c = frame_b (atqb_of c)

length_row : (c : CardB) → OfCard c → length (atqb_row c) ≡ 112
unfolding atqb_row atqb_of
length_row c h = rw (length_frame, length_atqb c.pupi c.application c.protocol h)

-- an ATQB tells its PUPI
row_tells : (c e : CardB) → OfCard c → OfCard e → atqb_row c ≡ atqb_row e → c.pupi ≡ e.pupi
unfolding atqb_row atqb_of atqb_bytes
row_tells c e h k q =
    let x : List ℕ = c.application ++ c.protocol in
    let y : List ℕ = e.application ++ e.protocol in
    let t : 0x50 ∷ (c.pupi ++ x) ≡ 0x50 ∷ (e.pupi ++ y) = frame_tells (0x50 ∷ (c.pupi ++ x)) (0x50 ∷ (e.pupi ++ y)) (bytes_atqb c.pupi c.application c.protocol h) (bytes_atqb e.pupi e.application e.protocol k) q in
    let r : c.pupi ++ x ≡ e.pupi ++ y = cc in
    (parts_equal 4 c.pupi e.pupi x y h.four k.four r).0

-- each PUPI is another than those behind it
abbrev pub Apart : List CardB → Type 0
Apart [] = Unit {0}
Apart (c ∷ cs) = All (λ e. c.pupi ≢ e.pupi) cs × Apart cs

-- Two different ATQBs collide in some bit, whoever sends beside them. An ATQB is clean and ends with a CRC_B that its bytes fix, so rows that merge to
-- a clean row are one row, and one row is one ATQB.
pub atqbs_collide : (c e : CardB) (cs : List CardB) → All OfCard (c ∷ e ∷ cs) → c.pupi ≢ e.pupi → clean (merge (map atqb_row (c ∷ e ∷ cs))) ≡ false
atqbs_collide c e cs t n = go (clean (merge (map atqb_row (c ∷ e ∷ cs)))) refl
  where
    T : List (List ℕ)
    T = map atqb_row (c ∷ e ∷ cs)

    go : (b : Bool) → clean (merge T) ≡ b → b ≡ false
    go true q =
        let a : All (λ r. r ≡ merge T) T = clean_merge 112 T (omega arith) (all_map {F = OfCard} (λ r. length r ≡ 112) atqb_row (c ∷ e ∷ cs) length_row t) q in
        absurd (n (row_tells c e t.0 t.1.0 (a.0 ∙ sym a.1.0)))
    go false q = refl

-- a row of an ATQB's length with a collided bit
reads_more : (h : List ℕ) → length h ≡ 112 → clean h ≡ false → read_slot h ≡ nobody (Ok More)
unfolding read_slot
reads_more h n c = rw (not_nil h (omega arith), n, c)

-- what the reader reads where the cards of a slot answer together
pub reads_slot : (cs : List CardB) → All OfCard cs → Apart cs → ◌≡◌ {A = SlotRead} (read_slot (merge (map atqb_row cs))) (record { says = Ok (told cs).0; atqb = (told cs).1 })
reads_slot [] t a = unfold read_slot merge is_nil in refl
reads_slot (c ∷ []) t a =
    let e : merge (map atqb_row (c ∷ [])) ≡ atqb_row c = unfold merge in join_nil (atqb_row c) in
    rw e (unfold atqb_row atqb_of in reads_atqb c.pupi c.application c.protocol t.0)
reads_slot (c ∷ e ∷ cs) t a =
    reads_more (merge (map atqb_row (c ∷ e ∷ cs))) (length_merge atqb_row 112 (c ∷ e ∷ cs) (omega arith) (all_weaken {F = OfCard} (c ∷ e ∷ cs) length_row t))
    (atqbs_collide c e cs t a.0.0)

-- ---- the cards of a slot

-- what is sent in slot s
unfoldable pub sent : ℕ → Drawn → List ℕ
sent s d = cond (eqb d.number s) (atqb_row d.card) []

-- silent cards are not heard
pub merge_slot : (s : ℕ) (ds : List Drawn) → merge (map (sent s) ds) ≡ merge (map atqb_row (in_slot s ds))
unfolding merge in_slot sent
merge_slot s [] = refl
merge_slot s (d ∷ ds) = go (eqb d.number s) (merge_slot s ds)
  where
    go : (b : Bool) → merge (map (sent s) ds) ≡ merge (map atqb_row (in_slot s ds))
        → join (cond b (atqb_row d.card) []) (merge (map (sent s) ds)) ≡ merge (map atqb_row (cond b (d.card ∷ in_slot s ds) (in_slot s ds)))
    go true e = ap (join (atqb_row d.card)) e
    go false e = unfold join in e

pub slot_all : (G : CardB → Type 0) (s : ℕ) (ds : List Drawn) → All (λ d. G d.card) ds → All G (in_slot s ds)
unfolding in_slot
slot_all G s [] h = tt
slot_all G s (d ∷ ds) h = go (eqb d.number s) (slot_all G s ds h.1)
  where
    go : (b : Bool) → All G (in_slot s ds) → All G (cond b (d.card ∷ in_slot s ds) (in_slot s ds))
    go true e = (h.0, e)
    go false e = e

or_false : (a b : Bool) → (a || b) ≡ false → (a ≡ false) × (b ≡ false)
or_false true b e = absurd (true≢false e)
or_false false b e = (refl, e)

others : (p : List ℕ) (ds : List Drawn) → any (λ k. same p k.card.pupi) ds ≡ false → All (λ d. p ≢ d.card.pupi) ds
unfolding any
others p [] e = tt
others p (d ∷ ds) e =
    let h = or_false (same p d.card.pupi) (any (λ k. same p k.card.pupi) ds) e in
    (λ q. true≢false (sym (same_eq p d.card.pupi q) ∙ h.0), others p ds h.1)

pub apart_slot : (s : ℕ) (ds : List Drawn) → apart ds ≡ true → Apart (in_slot s ds)
unfolding in_slot apart
apart_slot s [] e = tt
apart_slot s (d ∷ ds) e = go (eqb d.number s) (apart_slot s ds h.1)
  where
    h : (not (any (λ k. same d.card.pupi k.card.pupi) ds) ≡ true) × (apart ds ≡ true)
    h = both (not (any (λ k. same d.card.pupi k.card.pupi) ds)) (apart ds) e

    go : (b : Bool) → Apart (in_slot s ds) → Apart (cond b (d.card ∷ in_slot s ds) (in_slot s ds))
    go true a = (slot_all (λ c. d.card.pupi ≢ c.pupi) s ds (others d.card.pupi ds (not-true _ h.0)), a)
    go false a = a
