-- The claim of document 02, T-05, holds. Assumes nothing.
use Rattle.std.specs.Prelude.{◌≡◌, Bool, true, get_or, Ok}
use Rattle.std.proofs.Math.Path.{refl, ap}
use Rattle.std.proofs.Common.{◌∙◌, add-one, not-suc-le-zero, length-append, lt-ltb, le-ltb, ne_eqb}
use Prim.Native.Nat.{ℕ, zero, suc, ◌+◌, ◌*◌, ◌≤◌, ◌<◌}
use mathlib.Core.List.{List, [], ◌∷◌, map}
use Rattle.std.proofs.Math.ListN.{length}
use native.Mathlib.Omega.{arith}
use Rattle.rows.specs.EachLaws.{all_weaken, all_zip}
use Rattle.rows.specs.Rows.{All}
use Rattle.selection_b.specs.TypeB.{is_slots, request, marker}
use Rattle.selection_b.specs.HeardB.{read_slot, entry}
use Rattle.selection_b.specs.SlotsLaws.{slots_least}
use Rattle.selection_b.specs.ReadBackBLaws.{length_atqb}
use Rattle.card_b.specs.CardB.{atqb_of}
use Rattle.reader_b.specs.ReaderB.{reader, blank, opens, next, held, hear}
use Rattle.field.specs.Merge.{merge}
use Rattle.field_b.specs.FieldB.{all_take, heard_from}
use Rattle.slots_rules.specs.RunB.{Told, Out, before, ended, out_frame, run, inquiry, list_bytes}
use Rattle.slots_rules.specs.TermsB.{apart}
use Rattle.slots_rules.specs.Claim.{in_slot, told, slots_from, Asked, Typed, Terms, Claim}
use Rattle.slots_rules.proofs.SlotLaws.{OfCard, sent, reads_slot, merge_slot, slot_all, apart_slot}
use Rattle.slots_rules.proofs.StepLaws.{Fits, at, first_cards, first_heard, next_cards, next_heard_law, last_cards}
use Rattle.selection_b.specs.declared.SlotRead.{SlotRead}
use Rattle.card_b.specs.declared.CardB.{CardB}
use Rattle.reader_b.specs.declared.PhaseB.TheVariants.{Ready, Slot}
use Rattle.reader_b.specs.declared.ReaderB.{ReaderB}
use Rattle.reader_b.specs.declared.AnswerB.TheVariants.{Marks, Ends}
use Rattle.reader_b.specs.declared.TurnB.{TurnB}
use Rattle.field_b.specs.declared.Drawn.{Drawn}

-- what is told of slot s
abbrev told_of : ℕ → List Drawn → Told
told_of s ds = told (in_slot s ds)

module _ (wake : Bool) (n afi : ℕ) (good : is_slots n ≡ true) (byte : afi < 256) (ds : List Drawn) (all : All (Fits n afi) ds) (different : apart ds ≡ true) where
  -- a run from some slot on, over the slots l
  record Runs (l : List ℕ) (o : Out) : Type 0 where
    slots : o.slots ≡ map (λ s. told_of s ds) l
    cards : o.cards ≡ map (at n) ds
    ended : o.last.reader ≡ blank Ready

  -- what the reader reads in slot s
  reads : (s : ℕ) → ◌≡◌ {A = SlotRead} (read_slot (merge (map (sent s) ds))) (record { says = Ok (told_of s ds).0; atqb = (told_of s ds).1 })
  reads s =
      ap read_slot (merge_slot s ds)
      ∙ reads_slot (in_slot s ds) (slot_all OfCard s ds (all_weaken {F = Fits n afi} ds (λ d h. h.parts) all)) (apart_slot s ds different)

  -- .. and what it does
  turns : (s : ℕ) (r : ReaderB) (f : List ℕ) (es : List Drawn) → r ≡ reader Slot n s → heard_from f es ≡ merge (map (sent s) ds)
      → hear r (heard_from f es) ≡ held (reader Slot n s) (told_of s ds).0 (told_of s ds).1
  unfolding hear
  turns s r f es e h = rw (e, h, reads s)

  -- the frame of a slot behind the first
  out_next : (s : ℕ) → 1 ≤ s → out_frame wake afi (reader Slot n (suc s)) ≡ marker (suc s)
  unfolding out_frame next
  out_next s a = rw (ne_eqb (suc s) 1 (λ e. omega arith))

  -- a slot that is not the last
  more : (k s : ℕ) (t : TurnB) (f : List ℕ) (es : List Drawn) (l : List ℕ) → s < n → t.reader ≡ reader Slot n s → out_frame wake afi t.reader ≡ f
      → heard_from f es ≡ merge (map (sent s) ds) → all_take f es ≡ map (at s) ds
      → ((t : TurnB) → t.reader ≡ reader Slot n (suc s) → Runs l (run wake afi k t (map (at s) ds)))
      → Runs (s ∷ l) (run wake afi (suc k) t es)
  unfolding run held before
  more k s t f es l b e o h c ih =
      let T : TurnB = record { reader = reader Slot n (suc s); answer = Marks (told_of s ds).0; atqb = (told_of s ds).1 } in
      let q : hear t.reader (heard_from f es) ≡ T = turns s t.reader f es e h ∙ rw (lt-ltb s n b, add-one) in
      let i : Runs l (run wake afi k T (map (at s) ds)) = ih T refl in
      rw (o, q, c) (record { slots = ap (λ x. told_of s ds ∷ x) i.slots; cards = i.cards; ended = i.ended })

  last : (k : ℕ) (t : TurnB) (f : List ℕ) (es : List Drawn) → t.reader ≡ reader Slot n n → out_frame wake afi t.reader ≡ f
      → heard_from f es ≡ merge (map (sent n) ds) → all_take f es ≡ map (at n) ds → Runs (n ∷ []) (run wake afi (suc k) t es)
  unfolding run held ended
  last k t f es e o h c =
      let T : TurnB = record { reader = blank Ready; answer = Ends (told_of n ds).0; atqb = (told_of n ds).1 } in
      let q : hear t.reader (heard_from f es) ≡ T = turns n t.reader f es e h ∙ rw (le-ltb n n (omega arith)) in
      rw (o, q, c) (record { slots = refl; cards = refl; ended = refl })

  -- from slot s on, k slots behind it
  slots_run : (k s : ℕ) (t : TurnB) (f : List ℕ) (es : List Drawn) → 1 ≤ s → s + k ≡ n → t.reader ≡ reader Slot n s → out_frame wake afi t.reader ≡ f
      → heard_from f es ≡ merge (map (sent s) ds) → all_take f es ≡ map (at s) ds → Runs (slots_from s (suc k)) (run wake afi (suc k) t es)
  unfolding slots_from
  slots_run zero s t f es a m e o h c =
      let z : s ≡ n = omega arith in
      rw z (last zero t f es (rw z at e) o (rw z at h) (rw z at c))
  slots_run (suc k) s t f es a m e o h c =
      more (suc k) s t f es (slots_from (suc s) (suc k)) (omega arith) e o h c
      (λ t e. slots_run k (suc s) t (marker (suc s)) (map (at s) ds) (omega arith) (omega arith) e (ap (out_frame wake afi) e ∙ out_next s a)
      (next_heard_law wake n afi good byte ds all s a (omega arith)) (next_cards wake n afi good byte ds all s a (omega arith)))

  -- ---- the list

  told_long : (cs : List CardB) → All OfCard cs → length (told cs).1 ≡ 12
  unfolding atqb_of
  told_long [] t = refl
  told_long (c ∷ []) t = length_atqb c.pupi c.application c.protocol t.0
  told_long (c ∷ e ∷ cs) t = refl

  length_list : (l : List ℕ) → length (list_bytes (map (λ s. told_of s ds) l)) ≡ 13 * length l
  unfolding list_bytes entry
  length_list [] = refl
  length_list (s ∷ l) =
      let e : length (told_of s ds).1 ≡ 12 = told_long (in_slot s ds) (slot_all OfCard s ds (all_weaken {F = Fits n afi} ds (λ d h. h.parts) all)) in
      rw (length-append, e, length_list l) (omega arith)

  length_from : (s k : ℕ) → length (slots_from s k) ≡ k
  unfolding slots_from
  length_from s zero = refl
  length_from s (suc k) = ap suc (length_from (suc s) k)

  -- ---- the request

  whole : (m : ℕ) → m ≡ n → 1 ≤ m → Runs (slots_from 1 m) (run wake afi m (opens n) ds)
  whole zero e h = absurd (omega arith)
  whole (suc k) e h =
      slots_run k 1 (opens n) (request wake n afi) ds (omega arith) (omega arith) refl (unfold out_frame in refl)
      (first_heard wake n afi good byte ds all) (first_cards wake n afi good byte ds all)

  heard : Claim n ds (inquiry wake n afi ds)
  unfolding inquiry
  heard =
      let w : Runs (slots_from 1 n) (run wake afi n (opens n) ds) = whole n refl (slots_least n good) in
      record {
        slots = w.slots;
        cards = w.cards ∙ last_cards wake n afi good byte ds all;
        ended = w.ended;
        list = ap (λ l. length (list_bytes l)) w.slots ∙ length_list (slots_from 1 n) ∙ ap (λ k. 13 * k) (length_from 1 n);
      }

-- the claim; that AFI and the cards' bytes are bytes is what their types say
pub claim : (wake : Bool) (n afi : ℕ) (ds : List Drawn) → afi < 256 → All Typed ds → Terms n afi ds → Claim n ds (inquiry wake n afi ds)
claim wake n afi ds byte typed t =
    heard wake n afi t.slots byte ds
    (all_zip {F = Asked n afi} {G = Typed} {H = Fits n afi} ds
    (λ d a p. record { idle = a.idle; admitted = a.admitted; marked = a.marked; least = a.least; most = a.most; parts = p }) t.all typed)
    t.different

-- ---- slot by slot

told_from : (g : ℕ → Told) (s k i : ℕ) (z : Told) → i < k → get_or (map g (slots_from s k)) i z ≡ g (s + i)
unfolding slots_from
told_from g s zero i z h = absurd (not-suc-le-zero h)
told_from g s (suc k) zero z h = ap g (omega arith)
told_from g s (suc k) (suc i) z h = told_from g (suc s) k i z (omega arith) ∙ ap g (omega arith)

-- what the request tells of slot 1 + i
pub slot_told : (n : ℕ) (ds : List Drawn) (o : Out) → Claim n ds o → (i : ℕ) (z : Told) → i < n → get_or o.slots i z ≡ told (in_slot (1 + i) ds)
slot_told n ds o h i z l = ap (λ r. get_or r i z) h.slots ∙ told_from (λ s. told (in_slot s ds)) 1 n i z l
