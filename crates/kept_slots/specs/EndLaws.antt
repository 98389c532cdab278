-- How a request ends: a reader that declines has stopped; and what its last turn tells of a slot is what the list has of it. Assumes nothing.
use Rattle.std.specs.Prelude.{◌≡◌, ◌⊎◌, Bool, true, false, cond, not, take, get_or, eqb, ltb, Result, Ok, Err}
use Rattle.std.proofs.Math.Path.{refl, sym, ap}
use Rattle.std.proofs.Common.{◌∙◌, inr, add-one, arith, length-append, length-take-le}
use Rattle.std.proofs.Math.Logic.{inl}
use Rattle.std.proofs.lemmas.Bool.{false≢true}
use mathlib.Core.List.{List, [], ◌∷◌, ◌++◌, append_assoc, append-nil}
use Prim.Native.Nat.{ℕ, zero, suc, ◌+◌, ◌-◌, ◌*◌, ◌≤◌}
use Rattle.std.proofs.Math.ListN.{length, drop}
use Rattle.rows.specs.Rows.{overlay, All, is_nil, clean}
use Rattle.frame.specs.ByteLaws.{length_bytes}
use Rattle.frame.specs.Frame.{bytes_of, Good, Fault}
use Rattle.crc.specs.CrcOf.{crc_good_b}
use Rattle.frame_b.specs.FrameB.{without_crc_b}
use Rattle.selection_b.specs.HeardB.{nobody, alone, slot_of, read_slot, held_number, entry}
use Rattle.refusal.specs.declared.Refusal.TheVariants.{Length, Crc, Forbidden}
use Rattle.selection_b.specs.declared.Held.{Held}
use Rattle.selection_b.specs.declared.Held.TheVariants.{None, More}
use Rattle.reader_b.specs.ReaderB.{reader, blank, opens, held, slot_turn, hear_in, hear}
use Rattle.reader_b.specs.declared.AnswerB.TheVariants.{Marks, Ends}
use Rattle.reader_b.specs.declared.PhaseB.TheVariants.{Ready, Slot, Stopped}
use Rattle.reader_b.specs.declared.ReaderB.{ReaderB}
use Rattle.reader_b.specs.declared.TurnB.{TurnB}
use Rattle.field_b.specs.FieldB.{all_take, heard_from}
use Rattle.field_b.specs.declared.Drawn.{Drawn}
use Rattle.slots_rules.specs.RunB.{Told, Out, before, ended, follow, out_frame, run, inquiry, list_bytes}
use Rattle.kept.specs.Kept.{bytes_at}
use Rattle.kept.specs.KeptLaws.{bytes_behind, bytes_front}
use Rattle.kept_b.specs.KeptReaderB.{answer_refuses}
use Rattle.kept_slots.specs.KeptSlots.{last_atqb, inquired_turn}
use Rattle.kept_slots.specs.SlotsLaws.{last_some}
use Rattle.refusal.specs.declared.Refusal.{Refusal}

-- ---- an ATQB has twelve bytes, and so have the zeros where there is none

abbrev pub Twelve : List ℕ → Type 0
Twelve l = length l ≡ 12

slot_long : (l : List ℕ) → length l ≡ 14 → Twelve (slot_of (without_crc_b l)).atqb
unfolding without_crc_b
slot_long l h = go (crc_good_b l)
  where
    k : List ℕ
    k = take (length l - 2) l

    first : (b : Bool) → Twelve (cond b (alone k) (nobody (Err Forbidden))).atqb
    first true = length-take-le (length l - 2) l (omega arith) ∙ omega arith
    first false = refl

    go : (c : Bool) → Twelve (slot_of (cond c (Good k) (Fault Crc))).atqb
    go true = first (eqb (get_or k 0 0) 0x50)
    go false = refl

atqb_long : (h : List ℕ) → Twelve (read_slot h).atqb
unfolding read_slot
atqb_long h = go (is_nil h) (not (eqb (length h) 112)) (not (clean h))
  where
    go : (a b c : Bool) → Twelve (cond a (nobody (Ok None)) (cond b (nobody (Err Length)) (cond c (nobody (Ok More)) (slot_of (without_crc_b (bytes_of 14 h)))))).atqb
    go true b c = refl
    go false true c = refl
    go false false true = refl
    go false false false = slot_long (bytes_of 14 h) (length_bytes 14 h)

-- ---- the run

-- a request's reader before it hears a slot
record Asking (t : TurnB) : Type 0 where
  phase : t.reader.phase ≡ Slot
  good : answer_refuses t.answer ≡ false

-- the last slot told of is that of the turn t
pub record Lastly (t : TurnB) (slots : List Told) : Type 0 where
  pub pre : List Told
  pub is : Held
  pub slots_are : slots ≡ pre ++ ((is, t.atqb) ∷ [])

-- how a run from the turn t ends: declined, the reader has stopped; else no slot came, or the last one is told of
pub record Finishes (t : TurnB) (o : Out) : Type 0 where
  pub stops : answer_refuses o.last.answer ≡ true → o.last.reader ≡ blank Stopped
  pub tells : answer_refuses o.last.answer ≡ false → ((o.slots ≡ []) × (o.last ≡ t)) ⊎ Lastly o.last o.slots
  pub long : All (λ s. Twelve s.1) o.slots

-- a slot in front of a run
tells_more : (t : TurnB) (k : Held) (o : Out) → ((o.slots ≡ []) × (o.last ≡ t)) ⊎ Lastly o.last o.slots → Lastly o.last ((k, t.atqb) ∷ o.slots)
tells_more t k o (inl (e, l)) = record { pre = []; is = k; slots_are = rw (e, l) }
tells_more t k o (inr x) = record { pre = (k, t.atqb) ∷ x.pre; is = x.is; slots_are = ap (λ r. (k, t.atqb) ∷ r) x.slots_are }

-- what a slot's row says is followed by the next slot, or ends the run
slot_finishes : (t : TurnB) (r : ReaderB) (s : Result Held Refusal) (q : List ℕ) (ds : List Drawn) (o : TurnB → Out) → Twelve q
    → ((u : TurnB) → Asking u → Finishes u (o u)) → Finishes t (follow (slot_turn r s q).answer (slot_turn r s q) ds (o (slot_turn r s q)))
unfolding held before ended
slot_finishes t r (Ok k) q ds o w after = go (ltb r.slot r.slots)
  where
    go : (b : Bool)
        → let u : TurnB = cond b (record { reader = reader Slot r.slots (r.slot + 1); answer = Marks k; atqb = q }) (record { reader = blank Ready; answer = Ends k; atqb = q }) in
        Finishes t (follow u.answer u ds (o u))
    go true =
        let u : TurnB = record { reader = reader Slot r.slots (r.slot + 1); answer = Marks k; atqb = q } in
        let f : Finishes u (o u) = after u (record { phase = refl; good = refl }) in
        record { stops = f.stops; tells = λ h. inr (tells_more u k (o u) (f.tells h)); long = (w, f.long) }
    go false = record { stops = λ h. absurd (false≢true h); tells = λ h. inr (record { pre = []; is = k; slots_are = refl }); long = (w, tt) }
slot_finishes t r (Err e) q ds o w after =
    record { stops = λ h. refl; tells = λ h. absurd (false≢true (sym h)); long = tt }

slot_heard : (r : ReaderB) (h : List ℕ) → r.phase ≡ Slot → hear r h ≡ slot_turn r (read_slot h).says (read_slot h).atqb
unfolding hear
slot_heard r h e = ap (λ p. hear_in p r h) e

module _ (wake : Bool) (afi : ℕ) where
  run_finishes : (fuel : ℕ) (t : TurnB) (ds : List Drawn) → Asking t → Finishes t (run wake afi fuel t ds)
  unfolding run ended
  run_finishes zero t ds a = record { stops = λ h. absurd (false≢true (sym a.good ∙ h)); tells = λ h. inl (refl, refl); long = tt }
  run_finishes (suc fuel) t ds a =
      let f = out_frame wake afi t.reader in
      let h = heard_from f ds in
      rw (slot_heard t.reader h a.phase)
      (slot_finishes t t.reader (read_slot h).says (read_slot h).atqb (all_take f ds) (λ u. run wake afi fuel u (all_take f ds)) (atqb_long h)
      (λ u k. run_finishes fuel u (all_take f ds) k))

  pub inquiry_finishes : (n : ℕ) (ds : List Drawn) → Finishes (opens n) (inquiry wake n afi ds)
  unfolding inquiry
  inquiry_finishes n ds = run_finishes n (opens n) ds (record { phase = refl; good = refl })

-- ---- the list

all_front : {A : Type 0} (F : A → Type 0) (l m : List A) → All F (l ++ m) → All F l
all_front F [] m h = tt
all_front F (x ∷ l) m h = (h.0, all_front F l m h.1)

all_back : {A : Type 0} (F : A → Type 0) (l : List A) (x : A) → All F (l ++ (x ∷ [])) → F x
all_back F [] x h = h.0
all_back F (y ∷ l) x h = all_back F l x h.1

list_more : (l : List Told) (s : Told) → list_bytes (l ++ (s ∷ [])) ≡ list_bytes l ++ entry s.0 s.1
unfolding list_bytes
list_more [] s = append-nil (entry s.0 s.1)
list_more (x ∷ l) s = ap (λ r. entry x.0 x.1 ++ r) (list_more l s) ∙ sym (append_assoc (entry x.0 x.1) (list_bytes l) (entry s.0 s.1))

list_long : (l : List Told) → All (λ s. Twelve s.1) l → length (list_bytes l) ≡ 13 * length l
unfolding list_bytes entry
list_long [] h = refl
list_long (s ∷ l) h = rw (length-append, h.0, list_long l h.1) (omega arith)

-- where so many slots are told of, the list has of the last one what its turn tells
module _ (l : List Told) (k : Held) (q list : List ℕ) (h : All (λ s. Twelve s.1) (l ++ ((k, q) ∷ []))) where
  front : List ℕ
  front = list_bytes l ++ (held_number k ∷ [])

  rest : List ℕ
  rest = drop (0 + length (list_bytes (l ++ ((k, q) ∷ [])))) list

  list_is : overlay list 0 (list_bytes (l ++ ((k, q) ∷ []))) ≡ front ++ (q ++ rest)
  unfolding overlay front rest entry
  list_is =
      ap (λ x. x ++ drop (0 + length (list_bytes (l ++ ((k, q) ∷ [])))) list) (list_more l (k, q))
      ∙ append_assoc (list_bytes l) (held_number k ∷ q) rest ∙ sym (append_assoc (list_bytes l) (held_number k ∷ []) (q ++ rest))

  front_long : length front ≡ 13 * length l + 1
  unfolding front
  front_long = rw (length-append, list_long l (all_front _ l _ h))

  pub last_is : suc (length l) ≤ 16 → last_atqb (suc (length l)) (overlay list 0 (list_bytes (l ++ ((k, q) ∷ [])))) ≡ q
  last_is few =
      let at : 13 * (suc (length l) - 1) + 1 ≡ length front + 0 = omega (arith, front_long) in
      let some : bytes_at 12 (overlay list 0 (list_bytes (l ++ ((k, q) ∷ [])))) (13 * (suc (length l) - 1) + 1) ≡ last_atqb (suc (length l)) (overlay list 0 (list_bytes (l ++ ((k, q) ∷ [])))) =
      last_some (suc (length l)) _ (λ z. absurd (omega arith)) few in
      sym some ∙ rw (list_is, at) (bytes_behind 12 front (q ++ rest) 0 ∙ bytes_front 12 q rest (all_back _ l (k, q) h))

with_atqb : (t : TurnB) (q : List ℕ) → q ≡ t.atqb → record { reader = t.reader; answer = t.answer; atqb = q } ≡ t
with_atqb t q e = rw e

-- so the turn that is kept is the run's last
pub kept_last : (t : TurnB) (o : Out) (list : List ℕ) → Finishes t o → answer_refuses o.last.answer ≡ false → 1 ≤ length o.slots → length o.slots ≤ 16
    → inquired_turn o.last.reader o.last.answer (length o.slots) (overlay list 0 (list_bytes o.slots)) ≡ o.last
unfolding inquired_turn
kept_last t o list f good least most = rw good (with_atqb o.last _ (go (f.tells good)))
  where
    go : ((o.slots ≡ []) × (o.last ≡ t)) ⊎ Lastly o.last o.slots → last_atqb (length o.slots) (overlay list 0 (list_bytes o.slots)) ≡ o.last.atqb
    go (inl (e, l)) = let z : length o.slots ≡ 0 = ap length e in absurd (omega arith)
    go (inr x) =
        let e = x.slots_are in
        let z : length o.slots ≡ suc (length x.pre) = ap length e ∙ length-append x.pre _ ∙ add-one (length x.pre) in
        let h : All (λ s. Twelve s.1) (x.pre ++ ((x.is, o.last.atqb) ∷ [])) = rw e at f.long in
        rw (z, e) (last_is x.pre x.is o.last.atqb list h (omega (arith, z)))
