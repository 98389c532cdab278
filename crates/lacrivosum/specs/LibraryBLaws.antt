-- A Type B call on a state that is too short, and on one that is not. Assumes nothing.
use Rattle.std.specs.Prelude.{◌≡◌, refl, Bool, true, false, cond, not, ◌&&◌, List, [], ◌∷◌, ℕ, ◌<◌, ◌≤◌, length, ltb, Err}
use Rattle.std.proofs.Common.{sym, ap, ◌∙◌, lt-ltb, le-ltb, eq-eqb, ne_eqb}
use Rattle.std.proofs.lemmas.Bool.{false≢true}
use Rattle.refusal.specs.declared.Refusal.TheVariants.{Room, Argument, NotDue}
use Rattle.rows.specs.Rows.{overlay}
use Rattle.frame_b.specs.LimitsB.{frame_room_b, answer_room_b}
use Rattle.selection_b.specs.TypeB.{request, attrib_for, hltb}
use Rattle.selection_b.specs.TakenB.{is_request, slots_in}
use Rattle.reader_b.specs.ReaderB.{is_ready, turn, requests, attaches, halts, awaits, hear, call_with, row_after}
use Rattle.reader_b.specs.declared.ReaderB.{ReaderB}
use Rattle.reader_b.specs.declared.AnswerB.{AnswerB}
use Rattle.reader_b.specs.declared.AnswerB.TheVariants.{Declines}
use Rattle.reader_b.specs.declared.TurnB.{TurnB}
use Rattle.card_b.specs.CardB.{drawn, rules}
use Rattle.card_b.specs.CallsB.{answer_of, taken, take_call}
use Rattle.card_b.specs.declared.CardB.{CardB}
use Rattle.card_b.specs.declared.StateB.TheVariants.{Off}
use Rattle.card_b.specs.declared.TakenB.{TakenB}
use Rattle.kept.specs.Kept.{refused, bytes_at}
use Rattle.kept.specs.KeptLaws.{bytes_whole}
use Rattle.kept_b.specs.KeptReaderB.{reader_in, answer_number, turn_left, atqb_in, kept_in, kept_after}
use Rattle.kept_b.specs.KeptCardB.{card_in, taken_number, taken_refuses, taken_left}
use Rattle.lacrivosum.specs.Library.{done}
use Rattle.lacrivosum.specs.CardLibrary.{speaks}
use Rattle.lacrivosum.specs.LibraryB.{reader_bdone, unfit, due, request_call, hear_call, halt_call, attach_call, atqb_done, card_bdone, silent, unmade, fitting, new_call}

-- ---- the reader

pub reader_short : (s o : List ℕ) (t : TurnB) (frame : List ℕ) (n : ℕ) → length s < 64 → n ≡ refused Room → reader_bdone s o t frame ≡ done n s o
unfolding reader_bdone
reader_short s o t frame n h e = rw (lt-ltb _ _ h, e)

reader_kept : (s o s' o' frame : List ℕ) (u : TurnB) (n : ℕ) → 64 ≤ length s → n ≡ answer_number u.answer → s' ≡ turn_left s u
    → o' ≡ row_after u.answer frame o → reader_bdone s o u frame ≡ done n s' o'
unfolding reader_bdone
reader_kept s o s' o' frame u n h a c f = rw (le-ltb _ _ h, a, c, f)

-- a call by value, f, on the reader that the bytes say, and the frame that a turn of it sends
pub reader_called : (s o s' o' : List ℕ) (f : ReaderB → TurnB) (g : TurnB → List ℕ) (x : ReaderB) (u : TurnB) (n : ℕ) → 64 ≤ length s
    → x ≡ reader_in s → u ≡ f x → o' ≡ row_after u.answer (g u) o → n ≡ answer_number u.answer → s' ≡ turn_left s u
    → reader_bdone s o (f (reader_in s)) (g (f (reader_in s))) ≡ done n s' o'
reader_called s o s' o' f g x u n h e t w a b = rw (← e, ← t) (reader_kept s o s' o' (g u) u n h a b w)

pub reader_says : (s s' : List ℕ) (f : ReaderB → TurnB) (x : ReaderB) (u : TurnB) → x ≡ reader_in s → u ≡ f x → kept_in s' ≡ kept_after s u
    → kept_in s' ≡ kept_after s (f (reader_in s))
reader_says s s' f x u e t b = b ∙ ap (kept_after s) (t ∙ ap f e)

pub hear_is : (x : ReaderB) (row : List ℕ) (room : ℕ) (t : TurnB) → t ≡ call_with (awaits x.phase) x room (hear x row) → t ≡ hear_call x row room
unfolding hear_call
hear_is x row room t e = e

pub request_is : (x : ReaderB) (wake n afi room : ℕ) (w : Bool) (t : TurnB) → w ≡ speaks wake → t ≡ due x room (requests x w n afi)
    → t ≡ request_call x wake n afi room
unfolding request_call
request_is x wake n afi room w t h e = rw (← h) e

pub request_row : (wake n afi : ℕ) (w : Bool) (a : AnswerB) (o o' : List ℕ) → w ≡ speaks wake → o' ≡ row_after a (request w n afi) o
    → o' ≡ row_after a (request (speaks wake) n afi) o
request_row wake n afi w a o o' h e = rw (← h) e

-- an argument that is refused: nothing goes out
unfit_row : (x : ReaderB) (room : ℕ) (frame o : List ℕ) → row_after (due x room (unfit x)).answer frame o ≡ o
unfolding call_with
unfit_row x room frame o = go (is_ready x.phase) (ltb room frame_room_b)
  where
    go : (d r : Bool) → row_after (cond d (cond r (turn x (Declines Room)) (unfit x)) (turn x (Declines NotDue))).answer frame o ≡ o
    go true true = refl
    go true false = refl
    go false r = refl

pub halt_unfit : (x : ReaderB) (pupi o : List ℕ) (t : TurnB) → (length pupi ≡ 4 → ⊥) → t ≡ due x (length o) (unfit x)
    → (t ≡ halt_call x pupi (length o)) × (o ≡ row_after t.answer (hltb pupi) o)
unfolding halt_call
halt_unfit x pupi o t h e = (rw (ne_eqb _ _ h) e, rw e (sym (unfit_row x (length o) (hltb pupi) o)))

pub halt_fit : (x : ReaderB) (pupi p o o' : List ℕ) (t : TurnB) → length pupi ≡ 4 → p ≡ bytes_at 4 pupi 0 → t ≡ due x (length o) (halts x)
    → o' ≡ row_after t.answer (hltb p) o → (t ≡ halt_call x pupi (length o)) × (o' ≡ row_after t.answer (hltb pupi) o)
unfolding halt_call
halt_fit x pupi p o o' t h q e w =
    let b : p ≡ pupi = q ∙ bytes_whole 4 pupi h in
    (rw (eq-eqb _ _ h) e, rw b at w)

pub attach_unfit : (x : ReaderB) (atqb : List ℕ) (index : ℕ) (o : List ℕ) (t : TurnB) → (length atqb ≡ 12 → ⊥) → t ≡ due x (length o) (unfit x)
    → (t ≡ attach_call x atqb index (length o)) × (o ≡ row_after t.answer (attrib_for atqb index) o)
unfolding attach_call
attach_unfit x atqb index o t h e = (rw (ne_eqb _ _ h) e, rw e (sym (unfit_row x (length o) (attrib_for atqb index) o)))

pub attach_fit : (x : ReaderB) (atqb p : List ℕ) (index : ℕ) (o o' : List ℕ) (t : TurnB) → length atqb ≡ 12 → p ≡ bytes_at 12 atqb 0
    → t ≡ due x (length o) (attaches x index) → o' ≡ row_after t.answer (attrib_for p index) o
    → (t ≡ attach_call x atqb index (length o)) × (o' ≡ row_after t.answer (attrib_for atqb index) o)
unfolding attach_call
attach_fit x atqb p index o o' t h q e w =
    let b : p ≡ atqb = q ∙ bytes_whole 12 atqb h in
    (rw (eq-eqb _ _ h) e, rw b at w)

-- ---- the ATQB

pub atqb_short : (s o : List ℕ) (n : ℕ) → length s < 64 → n ≡ refused Room → atqb_done s o ≡ done n s o
unfolding atqb_done
atqb_short s o n h e = rw (lt-ltb _ _ h, e)

pub atqb_no_room : (s o : List ℕ) (n : ℕ) → 64 ≤ length s → length o < 12 → n ≡ refused Room → atqb_done s o ≡ done n s o
unfolding atqb_done
atqb_no_room s o n h k e = rw (le-ltb _ _ h, lt-ltb _ _ k, e)

pub atqb_given : (s o o' q : List ℕ) → 64 ≤ length s → 12 ≤ length o → q ≡ atqb_in s → o' ≡ overlay o 0 q → atqb_done s o ≡ done 12 s o'
unfolding atqb_done
atqb_given s o o' q h k e w = rw (le-ltb _ _ h, le-ltb _ _ k, w, e)

-- ---- the card

pub card_short : (s o : List ℕ) (t : TakenB) (w : List ℕ) (n : ℕ) → length s < 64 → n ≡ refused Room → card_bdone s o t w ≡ done n s o
unfolding card_bdone
card_short s o t w n h e = rw (lt-ltb _ _ h, e)

card_kept : (s o s' o' : List ℕ) (u : TakenB) (n : ℕ) → 64 ≤ length s → n ≡ taken_number u.answer → s' ≡ taken_left s u
    → card_bdone s o u o' ≡ done n s' o'
unfolding card_bdone
card_kept s o s' o' u n h a c = rw (le-ltb _ _ h, a, c)

-- a call by value, f, on the card that the bytes say, which leaves the row as g says
pub card_called : (s o s' o' : List ℕ) (f : CardB → TakenB) (g : CardB → List ℕ) (x : CardB) (u : TakenB) (n : ℕ) → 64 ≤ length s
    → x ≡ card_in s → u ≡ f x → o' ≡ g x → n ≡ taken_number u.answer → s' ≡ taken_left s u
    → card_bdone s o (f (card_in s)) (g (card_in s)) ≡ done n s' o'
card_called s o s' o' f g x u n h e t w a b = rw (← e, ← t, ← w) (card_kept s o s' o' u n h a b)

pub card_says_law : (s s' : List ℕ) (f : CardB → TakenB) (x : CardB) (u : TakenB) → x ≡ card_in s → u ≡ f x → card_in s' ≡ u.card
    → card_in s' ≡ (f (card_in s)).card
card_says_law s s' f x u e t b = b ∙ ap (λ (y : TakenB). y.card) (t ∙ ap f e)

-- where it is refused, a call that gives t on the card x leaves x
abbrev pub Declined : CardB → TakenB → Type 0
Declined x t = taken_refuses t.answer ≡ true → t.card ≡ x

pub silent_declined : (x c : CardB) → Declined x (silent c)
silent_declined x c = λ h. absurd (false≢true h)

pub new_declined : (x : CardB) (pupi : List ℕ) (afi markers : ℕ) (application protocol : List ℕ)
    → Declined x (new_call x pupi afi markers application protocol)
unfolding new_call
new_declined x pupi afi markers application protocol = go (fitting pupi application protocol) _
  where
    go : (f : Bool) (c : CardB) → Declined x (cond f (silent c) (unmade x))
    go true c = λ h. absurd (false≢true h)
    go false c = λ h. refl

module _ (pupi application protocol : List ℕ) where
  pub no_pupi : (length pupi ≡ 4 → ⊥) → fitting pupi application protocol ≡ false
  no_pupi h = rw (ne_eqb _ _ h)

  pub no_application : length pupi ≡ 4 → (length application ≡ 4 → ⊥) → fitting pupi application protocol ≡ false
  no_application h k = rw (eq-eqb _ _ h, ne_eqb _ _ k)

  pub no_protocol : length pupi ≡ 4 → length application ≡ 4 → (length protocol ≡ 3 → ⊥) → fitting pupi application protocol ≡ false
  no_protocol h k l = rw (eq-eqb _ _ h, eq-eqb _ _ k, ne_eqb _ _ l)

pub new_unmade : (x : CardB) (pupi : List ℕ) (afi markers : ℕ) (application protocol : List ℕ) (t : TakenB)
    → fitting pupi application protocol ≡ false → t ≡ unmade x → t ≡ new_call x pupi afi markers application protocol
unfolding new_call
new_unmade x pupi afi markers application protocol t h e = rw h e

pub new_made : (x : CardB) (pupi : List ℕ) (afi markers : ℕ) (application protocol p a i : List ℕ) (m : Bool) (t : TakenB)
    → length pupi ≡ 4 → length application ≡ 4 → length protocol ≡ 3
    → p ≡ bytes_at 4 pupi 0 → a ≡ bytes_at 4 application 0 → i ≡ bytes_at 3 protocol 0 → m ≡ speaks markers
    → t ≡ silent (record { pupi = p; afi = afi; markers = m; application = a; protocol = i; state = Off })
    → t ≡ new_call x pupi afi markers application protocol
unfolding new_call
new_made x pupi afi markers application protocol p a i m t h k l e f g n w =
    let b : p ≡ pupi = e ∙ bytes_whole 4 pupi h in
    let c : a ≡ application = f ∙ bytes_whole 4 application k in
    let d : i ≡ protocol = g ∙ bytes_whole 3 protocol l in
    rw (eq-eqb _ _ h, eq-eqb _ _ k, eq-eqb _ _ l, w, b, c, d, n)

never : (row : List ℕ) → taken_refuses (answer_of row) ≡ false
never [] = refl
never (x ∷ row) = refl

pub take_declined : (x : CardB) (number : ℕ) (row : List ℕ) (room : ℕ) → Declined x (take_call x number row room)
unfolding take_call
take_declined x number row room = go (ltb room answer_room_b) (is_request row && not (drawn number (slots_in row)))
  where
    go : (a b : Bool)
        → Declined x
        (cond a (record { card = x; answer = Err Room })
        (cond b (record { card = x; answer = Err Argument }) (taken x (rules x x.state number row))))
    go true b = λ h. refl
    go false true = λ h. refl
    go false false = λ h. absurd (false≢true (sym (never (rules x x.state number row).1) ∙ h))

-- so the card of a refused call, t, is the one that the bytes say
pub refused_stays : (s : List ℕ) (x : CardB) (t u : TakenB) → x ≡ card_in s → t ≡ u → Declined x u → taken_refuses t.answer ≡ true → t.card ≡ card_in s
refused_stays s x t u e w d h =
    let r : taken_refuses u.answer ≡ true = sym (ap (λ (y : TakenB). taken_refuses y.answer) w) ∙ h in
    ap (λ (y : TakenB). y.card) w ∙ d r ∙ e
