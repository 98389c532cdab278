-- Document 02, T-05: "Type A cards stay silent on these frames." Every frame that a Type A card answers, but the short ones and those of four
-- bytes, begins with SEL and its parity; no frame of Type B does, or is as long as one of the others. The state moves as on any other frame
-- that the card does not await. Assumes nothing.
use Rattle.std.specs.Prelude.{◌≡◌, refl, ◌≢◌, ℕ, ◌≤◌, ◌<◌, Bool, List, [], ◌∷◌, ◌++◌, length, take}
use Rattle.std.proofs.Common.{sym, ap, ◌∙◌, arith}
use Rattle.frame.specs.Frame.{air_byte}
use Rattle.selection.specs.Selection.{sel}
use Rattle.selection.specs.SelectionLaws.{length_reqa, length_wupa, length_hlta, length_rats}
use Rattle.card.specs.Card.{rules, bits_sent, fsdi}
use Rattle.card.proofs.ElseLaws.{else_of, five_at, Unawaited, else_is}
use Rattle.frame_b.specs.FrameB.{frame_b}
use Rattle.frame_b.specs.FrameBLaws.{length_frame}
use Rattle.selection_b.specs.TypeB.{Parts, request, param, marker, atqb_bytes, attrib, hltb, done}
use Rattle.selection_b.proofs.TypeBLaws.{length_request, length_marker, length_attrib, length_hltb, length_done}
use Rattle.selection_b.specs.ReadBackBLaws.{length_atqb}
use Rattle.both_types.proofs.HeadLaws.{head_anti, head_select, headed_by, headed_marker}
use Rattle.uid.specs.declared.Level.{Level}
use Rattle.card.specs.declared.Card.{Card}
use Rattle.card.specs.declared.CardState.{CardState}
use Rattle.card.specs.declared.CardState.TheVariants.{Off, Idle, Ready, Active, Halt, ReadyStar, ActiveStar, Protocol}

-- no frame that a Type A card answers
pub record Foreign (f : List ℕ) : Type 0 where
  pub not_short : length f ≢ 7
  pub not_four : length f ≢ 36
  pub headed : (l : Level) → take 9 f ≢ air_byte (sel l)

pub silent : (c : Card) (y : CardState) (f : List ℕ) → Foreign f → rules c y f ≡ (else_of y, [])
silent c y f h = else_is c y f (go y)
  where
    go : (y : CardState) → Unawaited c y f
    go Off = tt
    go Idle = (λ e. h.not_short (ap length e ∙ length_reqa), λ e. h.not_short (ap length e ∙ length_wupa))
    go (Ready l) = λ p. (λ k e. h.headed l (ap (take 9) e ∙ head_anti l (bits_sent f) (five_at c l)), λ e. h.headed l (ap (take 9) e ∙ head_select l (five_at c l)))
    go Active = (λ e. h.not_four (ap length e ∙ length_hlta), λ e. h.not_four (ap length e ∙ length_rats (fsdi f)))
    go Halt = λ e. h.not_short (ap length e ∙ length_wupa)
    go (ReadyStar l) = λ p. (λ k e. h.headed l (ap (take 9) e ∙ head_anti l (bits_sent f) (five_at c l)), λ e. h.headed l (ap (take 9) e ∙ head_select l (five_at c l)))
    go ActiveStar = (λ e. h.not_four (ap length e ∙ length_hlta), λ e. h.not_four (ap length e ∙ length_rats (fsdi f)))
    go (Protocol i) = tt

-- ---- the frames of Type B

foreign : (f l : List ℕ) (b n : ℕ) → f ≡ frame_b (b ∷ l) → b < 0x93 → length f ≡ n → n ≢ 7 → n ≢ 36 → Foreign f
foreign f l b n e h m p q = record { not_short = λ z. p (sym m ∙ z); not_four = λ z. q (sym m ∙ z); headed = λ v z. headed_by b l h v (ap (take 9) (sym e) ∙ z) }

pub foreign_request : (w : Bool) (n a : ℕ) → Foreign (request w n a)
foreign_request w n a = foreign (request w n a) (a ∷ param w n ∷ []) 0x05 40 (unfold request in refl) (omega arith) (length_request w n a) (λ z. omega arith) (λ z. omega arith)

pub foreign_marker : (s : ℕ) → 2 ≤ s → s ≤ 16 → Foreign (marker s)
foreign_marker s a b = record { not_short = λ z. omega (arith, length_marker s); not_four = λ z. omega (arith, length_marker s); headed = headed_marker s a b }

pub foreign_atqb : (u a p : List ℕ) → Parts u a p → Foreign (frame_b (atqb_bytes u a p))
foreign_atqb u a p h = foreign (frame_b (atqb_bytes u a p)) (u ++ (a ++ p)) 0x50 112 (unfold atqb_bytes in refl) (omega arith) (rw (length_frame, length_atqb u a p h)) (λ z. omega arith) (λ z. omega arith)

pub foreign_attrib : (p q : List ℕ) → length p ≡ 4 → length q ≡ 4 → Foreign (attrib p q)
foreign_attrib p q h k = foreign (attrib p q) (p ++ q) 0x1D 88 (unfold attrib in refl) (omega arith) (length_attrib p q h k) (λ z. omega arith) (λ z. omega arith)

pub foreign_hltb : (p : List ℕ) → length p ≡ 4 → Foreign (hltb p)
foreign_hltb p h = foreign (hltb p) p 0x50 56 (unfold hltb in refl) (omega arith) (length_hltb p h) (λ z. omega arith) (λ z. omega arith)

-- what a card answers to ATTRIB and HLTB
pub foreign_done : Foreign done
foreign_done = foreign done [] 0x00 24 (unfold done in refl) (omega arith) length_done (λ z. omega arith) (λ z. omega arith)
