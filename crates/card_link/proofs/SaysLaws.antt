-- What the whole card's calls answer is what they say in the table's numbers. Assumes nothing.
use Rattle.std.specs.Prelude.{◌≡◌, refl, ℕ, Bool, true, false, cond, not, List, [], length, leb, ltb}
use Rattle.std.proofs.Common.{ap, ◌∙◌, le-ltb, lt-ltb, leb-true, leb-false}
use Rattle.std.proofs.lemmas.Bool.{false≢true}
use Rattle.limits.specs.Limits.{row_room, message_max}
use Rattle.refusal.specs.Refusal.{Said, giving, decline_if}
use Rattle.refusal.specs.declared.Refusal.TheVariants.{Room, Argument, NotDue}
use Rattle.rows.specs.Rows.{overlay}
use Rattle.card.specs.declared.CardState.{CardState}
use Rattle.card.specs.declared.CardState.TheVariants.{Off, Idle, Ready, Active, Halt, ReadyStar, ActiveStar, Protocol}
use Rattle.block.specs.Block.{wtx_ok}
use Rattle.block.specs.Says.{told_says}
use Rattle.block.specs.Out.{Out}
use Rattle.block.specs.declared.Block.TheVariants.{Wtx}
use Rattle.block.specs.declared.Told.TheVariants.{Refused}
use Rattle.card_blocks.specs.declared.CardPhase.TheVariants.{Waiting}
use Rattle.card_blocks.specs.declared.CardLink.{CardLink}
use Rattle.card_blocks.specs.CardRules.{card_silent, card_sends, card_at, card_i, owes, card_replies, card_asks}
use Rattle.card_blocks.specs.CardFrames.{card_out, card_reply, card_wtx}
use Rattle.card_link.specs.declared.LinkCard.{LinkCard}
use Rattle.card_link.specs.declared.CardTurn.{CardTurn}
use Rattle.card_link.specs.CardCalls.{with_row, takes_in, owes_in, owing, declined, called, take_call, reply_call, ask_call, turn_of}
use Rattle.card_link.specs.CardSays.{take_says, reply_says, ask_says}

-- ---- the calls

-- 11 and 1 around what is due
called_says : (due : Bool) (x : LinkCard) (buffer : List ℕ) (room : ℕ) (o : Out LinkCard) (s : Said) → (due ≡ true → told_says o.told ≡ s)
    → told_says (called due x buffer room o).told ≡ decline_if (not due) 11 (decline_if (ltb room row_room) 1 s)
unfolding called
called_says due x buffer room o s k = go due (ltb room row_room) k
  where
    go : (d r : Bool) → (d ≡ true → told_says o.told ≡ s)
        → told_says (cond (not d) (declined x buffer NotDue) (cond r (declined x buffer Room) o)).told ≡ decline_if (not d) 11 (decline_if r 1 s)
    go false r k = refl
    go true true k = refl
    go true false k = k refl

not_not : (b : Bool) → not (not b) ≡ b
not_not true = refl
not_not false = refl

take_says_law : (x : LinkCard) (f m buffer : List ℕ) (room : ℕ) → told_says (take_call x f m buffer room).told ≡ take_says x f m buffer room
unfolding take_call
take_says_law x f m buffer room =
    rw (not_not (owing x)) at (called_says (not (owing x)) x buffer room (takes_in x.card.state x f m buffer) (told_says (takes_in x.card.state x f m buffer).told) (λ e. refl))

-- a card that owes its host's answer is in Protocol and owes it there
owing_owes : (s : CardState) (l : CardLink) → owes_in s l ≡ true → owes l.phase ≡ true
owing_owes (Protocol i) l e = e
owing_owes Off l e = absurd (false≢true e)
owing_owes Idle l e = absurd (false≢true e)
owing_owes (Ready k) l e = absurd (false≢true e)
owing_owes Active l e = absurd (false≢true e)
owing_owes Halt l e = absurd (false≢true e)
owing_owes (ReadyStar k) l e = absurd (false≢true e)
owing_owes ActiveStar l e = absurd (false≢true e)

reply_told : (l : CardLink) (m : List ℕ) → owes l.phase ≡ true → told_says (card_reply l m []).told ≡ decline_if (ltb message_max (length m)) 10 (giving [])
unfolding card_reply card_replies card_out card_i
reply_told l m o = go (leb (length m) message_max) refl
  where
    go : (t : Bool) → leb (length m) message_max ≡ t → told_says (card_reply l m []).told ≡ decline_if (ltb message_max (length m)) 10 (giving [])
    go true e = rw (o, e, le-ltb message_max (length m) (leb-true (length m) message_max e))
    go false e = rw (o, e, lt-ltb message_max (length m) (leb-false (length m) message_max e))

reply_says_law : (x : LinkCard) (m : List ℕ) (room : ℕ) → told_says (reply_call x m room).told ≡ reply_says x m room
unfolding reply_call
reply_says_law x m room =
    called_says (owing x) x [] room (with_row x.card (card_reply x.link m [])) (decline_if (ltb message_max (length m)) 10 (giving []))
    (λ e. reply_told x.link m (owing_owes x.card.state x.link e))

ask_told : (l : CardLink) (v : ℕ) → owes l.phase ≡ true → told_says (card_wtx l v []).told ≡ decline_if (not (wtx_ok v)) 6 (giving [])
unfolding card_wtx card_asks card_out
ask_told l v o = rw o (go (wtx_ok v))
  where
    go : (t : Bool) → told_says (cond t (card_sends (card_at l l.number (Waiting v) (Wtx v) 0 0)) (card_silent l (Refused Argument))).told ≡ decline_if (not t) 6 (giving [])
    go true = refl
    go false = refl

ask_says_law : (x : LinkCard) (v room : ℕ) → told_says (ask_call x v room).told ≡ ask_says x v room
unfolding ask_call
ask_says_law x v room =
    called_says (owing x) x [] room (with_row x.card (card_wtx x.link v [])) (decline_if (not (wtx_ok v)) 6 (giving []))
    (λ e. ask_told x.link v (owing_owes x.card.state x.link e))

-- ---- what is handed back says it

two_said : (out : List ℕ) (o : Out LinkCard) (s : Said) → told_says o.told ≡ s → {r : CardTurn} {out' : List ℕ}
    → (r ≡ turn_of o) × (out' ≡ overlay out 0 o.sent) → (r ≡ turn_of o) × ((out' ≡ overlay out 0 o.sent) × (told_says r.told ≡ s))
two_said out o s e h = (h.0, (h.1, ap (λ r. told_says r.told) h.0 ∙ e))

pub reply_said : (x : LinkCard) (m out : List ℕ) {r : CardTurn} {out' : List ℕ}
    → (r ≡ turn_of (reply_call x m (length out))) × (out' ≡ overlay out 0 (reply_call x m (length out)).sent)
    → (r ≡ turn_of (reply_call x m (length out))) × ((out' ≡ overlay out 0 (reply_call x m (length out)).sent) × (told_says r.told ≡ reply_says x m (length out)))
reply_said x m out h = two_said out (reply_call x m (length out)) (reply_says x m (length out)) (reply_says_law x m (length out)) h

pub ask_said : (x : LinkCard) (v : ℕ) (out : List ℕ) {r : CardTurn} {out' : List ℕ}
    → (r ≡ turn_of (ask_call x v (length out))) × (out' ≡ overlay out 0 (ask_call x v (length out)).sent)
    → (r ≡ turn_of (ask_call x v (length out))) × ((out' ≡ overlay out 0 (ask_call x v (length out)).sent) × (told_says r.told ≡ ask_says x v (length out)))
ask_said x v out h = two_said out (ask_call x v (length out)) (ask_says x v (length out)) (ask_says_law x v (length out)) h

pub take_said : (x : LinkCard) (f m buffer out : List ℕ) {r : CardTurn} {b' out' : List ℕ}
    → (r ≡ turn_of (take_call x f m buffer (length out))) × ((b' ≡ (take_call x f m buffer (length out)).buffer)
    × (out' ≡ overlay out 0 (take_call x f m buffer (length out)).sent))
    → (r ≡ turn_of (take_call x f m buffer (length out))) × ((b' ≡ (take_call x f m buffer (length out)).buffer)
    × ((out' ≡ overlay out 0 (take_call x f m buffer (length out)).sent) × (told_says r.told ≡ take_says x f m buffer (length out))))
take_said x f m buffer out h = (h.0, (h.1.0, (h.1.1, ap (λ r. told_says r.told) h.0 ∙ take_says_law x f m buffer (length out))))
