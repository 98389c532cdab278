-- A card's call that is refused leaves the card what it was, sends nothing and leaves the buffer: for every card, frame and answer. So nothing is
-- to be written. Assumes nothing.
use Rattle.std.specs.Prelude.{◌≡◌, refl, Bool, true, false, cond, not, List, [], ℕ, ◌+◌, length, eqb, leb, ltb}
use Rattle.std.proofs.Common.{sym, ap, ◌∙◌}
use Rattle.std.proofs.lemmas.Bool.{false≢true}
use Rattle.std.specs.Bool.{beq as same}
use Rattle.limits.specs.Limits.{row_room, message_max}
use Rattle.refusal.specs.declared.Refusal.TheVariants.{Room, NotDue}
use Rattle.frame.specs.Frame.{Verdict}
use Rattle.block.specs.declared.Block.{Block}
use Rattle.block.specs.declared.Block.TheVariants.{I, Ack, Nak, Deselect, Wtx, Unknown, Nothing}
use Rattle.block.specs.declared.Told.{Told}
use Rattle.block.specs.declared.Told.TheVariants.{Quiet, Message, Granted, Deselected, Refused}
use Rattle.block.specs.Out.{Out}
use Rattle.block.specs.Cut.{fits}
use Rattle.block.specs.Block.{heard_block, payload, wtx_ok}
use Rattle.block.specs.Row.{heard_row}
use Rattle.card.specs.declared.CardState.{CardState}
use Rattle.card.specs.declared.CardState.TheVariants.{Off, Idle, Ready, Active, Halt, ReadyStar, ActiveStar, Protocol}
use Rattle.card_blocks.specs.declared.CardPhase.{CardPhase}
use Rattle.card_blocks.specs.declared.CardPhase.TheVariants.{Receiving, Owing, Waiting, Answering}
use Rattle.card_blocks.specs.declared.CardLink.{CardLink}
use Rattle.card_blocks.specs.declared.CardStep.{CardStep}
use Rattle.card_blocks.specs.CardRules.{card_joins, card_silent, card_i, card_next, card_granted, card_takes_i, card_takes_ack, card_takes_nak, card_rules, owes, card_takes, card_replies, card_asks}
use Rattle.card_blocks.specs.CardLaws.{lent_either}
use Rattle.card_blocks.specs.CardFrames.{card_out, card_block, card_reply, card_wtx}
use Rattle.card_link.specs.declared.LinkCard.{LinkCard}
use Rattle.card_link.specs.declared.CardTurn.{CardTurn}
use Rattle.card_link.specs.CardCalls.{with_row, takes_outside, takes_inside, takes_in, owing, declined, called, take_call, reply_call, ask_call, turn_of}
use Rattle.kept.specs.Kept.{told_refuses}
use Rattle.kept_card.specs.KeptWhole.{link_card_of}

-- ---- the link's steps

abbrev Silent : CardLink → CardStep → Type 0
Silent c s = told_refuses s.told ≡ true → s ≡ card_silent c s.told

either : (c : CardLink) (t : Bool) (a b : CardStep) → Silent c a → Silent c b → Silent c (cond t a b)
either c true a b x y = x
either c false a b x y = y

joins_silent : (c : CardLink) (n chained : Bool) (end : ℕ) → Silent c (card_joins c n chained end)
joins_silent c n true end = λ h. absurd (false≢true h)
joins_silent c n false end = λ h. absurd (false≢true h)

next_silent : (c : CardLink) (p : CardPhase) (len : ℕ) → Silent c (card_next c p len)
unfolding card_i
next_silent c Answering len = λ h. absurd (false≢true h)
next_silent c Receiving len = λ h. refl
next_silent c Owing len = λ h. refl
next_silent c (Waiting v) len = λ h. refl

granted_silent : (c : CardLink) (p : CardPhase) (w : ℕ) → Silent c (card_granted c p w)
granted_silent c (Waiting v) w = either c (eqb w v) _ _ (λ h. absurd (false≢true h)) (λ h. refl)
granted_silent c Receiving w = λ h. refl
granted_silent c Owing w = λ h. refl
granted_silent c Answering w = λ h. refl

rules_silent : (c : CardLink) (b : Block) (bytes room len : ℕ) → Silent c (card_rules c b bytes room len)
unfolding card_takes_i card_takes_ack card_takes_nak
rules_silent c (I n chained) bytes room len =
    either c (fits (c.joined + bytes) room) _ _ (joins_silent c (not c.number) chained (c.joined + bytes)) (λ h. refl)
rules_silent c (Ack n) bytes room len = either c (same n c.number) _ _ (λ h. absurd (false≢true h)) (next_silent c c.phase len)
rules_silent c (Nak n) bytes room len = either c (same n c.number) _ _ (λ h. absurd (false≢true h)) (λ h. absurd (false≢true h))
rules_silent c Deselect bytes room len = λ h. absurd (false≢true h)
rules_silent c (Wtx w) bytes room len = granted_silent c c.phase w
rules_silent c Unknown bytes room len = λ h. refl
rules_silent c Nothing bytes room len = λ h. refl

takes_silent : (c : CardLink) (b : Block) (bytes room len : ℕ) → Silent c (card_takes c b bytes room len)
unfolding card_takes
takes_silent c b bytes room len =
    either c (owes c.phase) _ _ (λ h. refl)
    (lent_either (Silent c) c len (card_rules c b bytes room len) (λ h. refl) (λ h. refl) (rules_silent c b bytes room len))

replies_silent : (c : CardLink) (len : ℕ) → Silent c (card_replies c len)
unfolding card_replies card_i
replies_silent c len = either c (owes c.phase) _ _ (either c (leb len message_max) _ _ (λ h. absurd (false≢true h)) (λ h. refl)) (λ h. refl)

asks_silent : (c : CardLink) (v : ℕ) → Silent c (card_asks c v)
unfolding card_asks
asks_silent c v = either c (owes c.phase) _ _ (either c (wtx_ok v) _ _ (λ h. absurd (false≢true h)) (λ h. refl)) (λ h. refl)

-- ---- the whole card's calls

-- where it is refused, a call that gives o on the card x with this buffer lent declines, and no more
abbrev pub Declines : LinkCard → List ℕ → Out LinkCard → Type 0
Declines x buffer o = told_refuses o.told ≡ true → o ≡ record { link = x; sent = []; told = o.told; buffer = buffer }

silent_row : (x : LinkCard) (t : Told) (m buffer p : List ℕ) (j : ℕ) → told_refuses t ≡ true
    → with_row x.card (card_out (card_silent x.link t) m buffer j p) ≡ record { link = x; sent = []; told = t; buffer = buffer }
unfolding card_out
silent_row x Quiet m buffer p j h = absurd (false≢true h)
silent_row x (Message n) m buffer p j h = absurd (false≢true h)
silent_row x Granted m buffer p j h = absurd (false≢true h)
silent_row x Deselected m buffer p j h = absurd (false≢true h)
silent_row x (Refused e) m buffer p j h = refl

row_declines : (x : LinkCard) (s : CardStep) (m buffer p : List ℕ) (j : ℕ) → Silent x.link s
    → Declines x buffer (with_row x.card (card_out s m buffer j p))
unfolding card_out
row_declines x s m buffer p j q h = ap (λ (y : CardStep). with_row x.card (card_out y m buffer j p)) (q h) ∙ silent_row x s.told m buffer p j h

called_declines : (due : Bool) (x : LinkCard) (buffer : List ℕ) (room : ℕ) (o : Out LinkCard)
    → Declines x buffer o → Declines x buffer (called due x buffer room o)
unfolding called
called_declines due x buffer room o q = go (not due) (ltb room row_room)
  where
    go : (d r : Bool) → Declines x buffer (cond d (declined x buffer NotDue) (cond r (declined x buffer Room) o))
    go true r = λ h. refl
    go false true = λ h. refl
    go false false = q

inside_declines : (x : LinkCard) (f m buffer : List ℕ) → Declines x buffer (takes_inside x f m buffer)
unfolding takes_inside card_block
inside_declines x f m buffer =
    let v : Verdict = heard_row x.link.own f in
    row_declines x _ m buffer (payload v) x.link.joined (takes_silent x.link (heard_block v) (length (payload v)) (length buffer) (length m))

outside_declines : (x : LinkCard) (f buffer : List ℕ) → Declines x buffer (takes_outside x f buffer)
unfolding takes_outside
outside_declines x f buffer = λ h. absurd (false≢true h)

in_declines : (s : CardState) (x : LinkCard) (f m buffer : List ℕ) → Declines x buffer (takes_in s x f m buffer)
in_declines (Protocol i) x f m buffer = inside_declines x f m buffer
in_declines Off x f m buffer = outside_declines x f buffer
in_declines Idle x f m buffer = outside_declines x f buffer
in_declines (Ready l) x f m buffer = outside_declines x f buffer
in_declines Active x f m buffer = outside_declines x f buffer
in_declines Halt x f m buffer = outside_declines x f buffer
in_declines (ReadyStar l) x f m buffer = outside_declines x f buffer
in_declines ActiveStar x f m buffer = outside_declines x f buffer

pub take_declines : (x : LinkCard) (f m buffer : List ℕ) (room : ℕ) → Declines x buffer (take_call x f m buffer room)
unfolding take_call
take_declines x f m buffer room = called_declines (not (owing x)) x buffer room _ (in_declines x.card.state x f m buffer)

pub reply_declines : (x : LinkCard) (m : List ℕ) (room : ℕ) → Declines x [] (reply_call x m room)
unfolding reply_call card_reply
reply_declines x m room = called_declines (owing x) x [] room _ (row_declines x _ m [] [] 0 (replies_silent x.link (length m)))

pub ask_declines : (x : LinkCard) (v room : ℕ) → Declines x [] (ask_call x v room)
unfolding ask_call card_wtx
ask_declines x v room = called_declines (owing x) x [] room _ (row_declines x _ [] [] [] 0 (asks_silent x.link v))

-- so the card of a refused call is the one that the bytes say
pub refused_stays : (s b : List ℕ) (x : LinkCard) (o : Out LinkCard) (t : CardTurn) → x ≡ link_card_of s → t ≡ turn_of o → Declines x b o
    → told_refuses t.told ≡ true → t.card ≡ link_card_of s
refused_stays s b x o t e w d h =
    let r : told_refuses o.told ≡ true = sym (ap (λ (y : CardTurn). told_refuses y.told) w) ∙ h in
    ap (λ (y : CardTurn). y.card) w ∙ ap (λ (y : Out LinkCard). y.link) (d r) ∙ e
