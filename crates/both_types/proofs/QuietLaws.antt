-- Cards of Type B stay silent on frames of Type A, and do not move: on every short frame, on every standard frame, so on SELECT, HLTA, RATS and all
-- blocks, and on every ANTICOLLISION. A request is no such frame, so that 6 is not given either. Assumes nothing.
use Rattle.std.specs.Prelude.{◌≡◌, ◌≢◌, Bool, ◌&&◌, take, drop}
use Rattle.std.proofs.Math.Path.{refl}
use Rattle.std.proofs.Common.{sym, ap, ◌∙◌, leb-true, arith}
use Prim.Native.Nat.{ℕ, ◌*◌}
use Rattle.std.proofs.Math.Bool.{true, false}
use mathlib.Core.List.{List, [], ◌∷◌, ◌++◌}
use Rattle.std.proofs.Math.ListN.{length}
use Rattle.std.proofs.Math.Dec.{leb}
use Rattle.rows.specs.ListLaws.{same_ne}
use Rattle.rows.specs.Rows.{same}
use Rattle.frame.specs.Frame.{short, air_byte, standard, bytes_of}
use Rattle.frame.proofs.FrameLaws.{length_standard}
use Rattle.parity.specs.BitLaws.{length_bits}
use Rattle.selection.specs.Selection.{sel, anticollision}
use Rattle.frame_b.specs.FrameB.{frame_b}
use Rattle.frame_b.specs.FrameBLaws.{length_frame}
use Rattle.selection_b.specs.TypeB.{marker, attrib, hltb}
use Rattle.selection_b.proofs.TypeBLaws.{length_marker, length_attrib, length_hltb}
use Rattle.selection_b.specs.TakenB.{afi_in, param_in, is_request, is_marker, is_attrib}
use Rattle.frame.specs.ByteLaws.{length_bytes}
use Rattle.card_b.specs.CardB.{other, rules}
use Rattle.card_b.specs.declared.CardB.{CardB}
use Rattle.card_b.specs.declared.StateB.{StateB}
use Rattle.card_b.specs.declared.StateB.TheVariants.{Off, Idle, Requested, Declared, Active, Halt}
use Rattle.both_types.proofs.HeadLaws.{head_anti, headed_by, headed_marker}
use Rattle.uid.specs.declared.Level.{Level}

-- a row of Type A: short, of whole bytes with parity, or one that begins with SEL and its parity
pub data TypeA : List ℕ → Type 0 where
  seven : {f : List ℕ} → length f ≡ 7 → TypeA f
  whole : {f : List ℕ} (n : ℕ) → length f ≡ 9 * n → TypeA f
  headed : {f : List ℕ} (l : Level) → take 9 f ≡ air_byte (sel l) → TypeA f

pub type_short : (b : ℕ) → TypeA (short b)
unfolding short
type_short b = seven (length_bits 7 b)

pub type_standard : (l : List ℕ) → TypeA (standard l)
type_standard l = whole (length l) (length_standard l)

pub type_anticollision : (l : Level) (k : ℕ) (five : List ℕ) → TypeA (anticollision l k five)
type_anticollision l k five = headed l (head_anti l k five)

-- ---- no frame that a Type B card takes

differs : {f : List ℕ} → TypeA f → (g : List ℕ) → length g ≢ 7 → ((n : ℕ) → length g ≢ 9 * n) → ((l : Level) → take 9 g ≢ air_byte (sel l)) → f ≢ g
differs (seven e) g a b c q = a (sym (ap length q) ∙ e)
differs (whole n e) g a b c q = b n (sym (ap length q) ∙ e)
differs (headed l e) g a b c q = c l (sym (ap (take 9) q) ∙ e)

and_false : (a : Bool) → (a && false) ≡ false
and_false true = refl
and_false false = refl

module _ {f : List ℕ} (t : TypeA f) where
  pub no_request_law : is_request f ≡ false
  unfolding is_request
  no_request_law =
      let g : List ℕ = frame_b (0x05 ∷ afi_in f ∷ param_in f ∷ []) in
      let n : length g ≡ 40 = length_frame (0x05 ∷ afi_in f ∷ param_in f ∷ []) in
      rw (
        same_ne f g (differs t g (λ z. omega (arith, n)) (λ k z. omega (arith, n)) (headed_by 0x05 (afi_in f ∷ param_in f ∷ []) (omega arith))),
        and_false,
      )

  no_marker : (s : ℕ) → is_marker s f ≡ false
  unfolding is_marker
  no_marker s = go (leb 2 s) refl (leb s 16) refl
    where
      go : (a : Bool) → leb 2 s ≡ a → (b : Bool) → leb s 16 ≡ b → (a && b && same f (marker s)) ≡ false
      go true h true k =
          same_ne f (marker s) (differs t (marker s) (λ z. omega (arith, length_marker s)) (λ n z. omega (arith, length_marker s)) (headed_marker s (leb-true 2 s h) (leb-true s 16 k)))
      go true h false k = refl
      go false h b k = refl

  module _ (pupi : List ℕ) (four : length pupi ≡ 4) where
    no_attrib : is_attrib pupi f ≡ false
    unfolding is_attrib attrib
    no_attrib =
        let q : List ℕ = bytes_of 4 (drop 40 f) in
        let n : length (attrib pupi q) ≡ 88 = length_attrib pupi q four (length_bytes 4 (drop 40 f)) in
        same_ne f (attrib pupi q) (differs t (attrib pupi q) (λ z. omega (arith, n)) (λ k z. omega (arith, n)) (headed_by 0x1D (pupi ++ q) (omega arith)))

    no_hltb : same f (hltb pupi) ≡ false
    unfolding hltb
    no_hltb =
        let n : length (hltb pupi) ≡ 56 = length_hltb pupi four in
        same_ne f (hltb pupi) (differs t (hltb pupi) (λ z. omega (arith, n)) (λ k z. omega (arith, n)) (headed_by 0x50 pupi (omega arith)))

  -- what a card of Type B does with a frame of Type A: nothing
  pub quiet : (c : CardB) (y : StateB) (number : ℕ) → length c.pupi ≡ 4 → rules c y number f ≡ (y, [])
  unfolding rules other
  quiet c y number four = rw no_request_law (go y)
    where
      go : (y : StateB) → other c y f ≡ (y, [])
      go Off = refl
      go Idle = refl
      go (Requested s) = rw (no_marker s)
      go Declared = rw (no_attrib c.pupi four, no_hltb c.pupi four)
      go Active = refl
      go Halt = refl
