-- The whole card's calls, step by step. Assumes nothing.
use Rattle.std.specs.Prelude.{◌≡◌, refl, ℕ, ◌≤◌, ◌<◌, Bool, true, false, cond, not, List, [], length, take}
use Rattle.std.proofs.Math.Path.{sym}
use Rattle.std.proofs.Common.{ap, ap₂, ◌∙◌}
use borrow.Author.Tests.{lt-ltb, le-ltb}
use Rattle.limits.specs.Limits.{row_room}
use Rattle.rows.specs.Rows.{overlay}
use Rattle.rows.proofs.RowLaws.{overlay_nil}
use Rattle.frame.specs.Calls.{good_bytes}
use Rattle.refusal.specs.declared.Refusal.TheVariants.{Room, NotDue}
use Rattle.card.specs.Card.{rules, takes, answers}
use Rattle.card.specs.Calls.{taken, bits_in}
use Rattle.card.specs.TakenLaws.{bits_answer}
use Rattle.card.specs.declared.Card.{Card}
use Rattle.card.specs.declared.CardState.{CardState}
use Rattle.card.specs.declared.Taken.{Taken}
use Rattle.block.specs.declared.BlockBytes.{BlockBytes}
use Rattle.block.specs.declared.Told.TheVariants.{Quiet}
use Rattle.block.specs.Block.{block_bytes, bytes_in, behind}
use Rattle.block.specs.Cut.{part}
use Rattle.block.specs.AirLaws.{made_row}
use Rattle.block.specs.Out.{Out}
use Rattle.block.specs.Row.{block_row, heard_row}
use Rattle.card_blocks.specs.declared.CardLink.{CardLink}
use Rattle.card_blocks.specs.declared.CardStep.{CardStep}
use Rattle.card_link.specs.declared.CardTurn.{CardTurn}
use Rattle.card_link.specs.declared.LinkCard.{LinkCard}
use Rattle.card_blocks.specs.CardFrames.{card_hears, card_out, card_block}
use Rattle.card_blocks.specs.CardLaws.{block_bytes_law}
use Rattle.card_link.specs.CardCalls.{with_row, link_in, left_by, takes_outside, takes_inside, takes_in, owing, declined, called, take_call, turn_of}

-- ---- a frame heard and a block sent

-- what is done with a frame's bytes is done with equal ones
pub heard_as_law : (c : CardLink) (room len : ℕ) (buffer : List ℕ) {l g b' : List ℕ} {s : CardStep} → l ≡ g
    → (s ≡ card_hears c l room len) × (b' ≡ cond s.joins (overlay buffer c.joined (behind l)) buffer)
    → (s ≡ card_hears c g room len) × (b' ≡ cond s.joins (overlay buffer c.joined (behind g)) buffer)
heard_as_law c room len buffer {l} {g} {b'} {s} e h =
    (h.0 ∙ ap (λ l. card_hears c l room len) e, h.1 ∙ ap (λ l. cond s.joins (overlay buffer c.joined (behind l)) buffer) e)

-- a step of the link, handed back
pub finished : (card : Card) (s : CardStep) (m out out' : List ℕ) (b : BlockBytes) (k : LinkCard) (bits : ℕ)
    → b ≡ bytes_in (block_bytes s.send (part s.link.reader s.link.at m)) → k ≡ left_by s.told card s.link
    → (bits ≡ length (block_row (take b.count b.bytes))) × (out' ≡ overlay out 0 (block_row (take b.count b.bytes)))
    → (◌≡◌ {A = CardTurn} (record { card = k; bits = bits; told = s.told }) (turn_of (with_row card (card_out s m [] 0 []))))
    × (out' ≡ overlay out 0 (with_row card (card_out s m [] 0 [])).sent)
unfolding card_out
finished card s m out out' b k bits eb ek h =
    let t = made_row b (block_bytes s.send (part s.link.reader s.link.at m)) eb in
    (ap₂ (λ k n. record { card = k; bits = n; told = s.told }) ek (h.0 ∙ ap (λ l. length (block_row l)) t), h.1 ∙ ap (λ l. overlay out 0 (block_row l)) t)

-- ---- what is handed back

-- what was handed back for what a definition gives is what is asked for what is equal
pub two : (out : List ℕ) {o p : Out LinkCard} {r : CardTurn} {out' : List ℕ} → o ≡ p
    → (r ≡ turn_of o) × (out' ≡ overlay out 0 o.sent) → (r ≡ turn_of p) × (out' ≡ overlay out 0 p.sent)
two out e h = (h.0 ∙ ap turn_of e, h.1 ∙ ap (λ o. overlay out 0 o.sent) e)

pub three : (out : List ℕ) {o p : Out LinkCard} {r : CardTurn} {b' out' : List ℕ} → o ≡ p
    → (r ≡ turn_of o) × ((b' ≡ o.buffer) × (out' ≡ overlay out 0 o.sent)) → (r ≡ turn_of p) × ((b' ≡ p.buffer) × (out' ≡ overlay out 0 p.sent))
three out e h = (h.0 ∙ ap turn_of e, (h.1.0 ∙ ap (λ o. o.buffer) e, h.1.1 ∙ ap (λ o. overlay out 0 o.sent) e))

-- ---- a frame

pub outside_made : (x : LinkCard) (f out out' : List ℕ) (t : Taken) (l : CardLink) (n : ℕ)
    → (t ≡ taken x.card (rules x.card x.card.state f)) × (out' ≡ overlay out 0 (rules x.card x.card.state f).1)
    → l ≡ link_in x.card t.card.state → n ≡ bits_in t.answer
    → (◌≡◌ {A = CardTurn} (record { card = record { card = t.card; link = l }; bits = n; told = Quiet }) (turn_of (takes_outside x f [])))
    × (out' ≡ overlay out 0 (takes_outside x f []).sent)
unfolding takes_outside takes answers
outside_made x f out out' t l n et el en =
    let k : Card = takes x.card f in
    let ec : t.card ≡ k = ap (λ t. t.card) et.0 in
    let e₁ : l ≡ link_in x.card k.state = el ∙ ap (λ c. link_in x.card c.state) ec in
    let e₂ : n ≡ length (answers x.card f) = en ∙ ap (λ t. bits_in t.answer) et.0 ∙ bits_answer (answers x.card f) in
    (ap₂ (λ (y : LinkCard) (n : ℕ). record { card = y; bits = n; told = Quiet }) (ap₂ (λ c l. record { card = c; link = l }) ec e₁) e₂, et.1)

pub inside_made : (x : LinkCard) (f m buffer out : List ℕ) (s : CardStep) {r : CardTurn} {b' out' : List ℕ}
    → (s ≡ card_hears x.link (good_bytes (heard_row x.link.own f)) (length buffer) (length m))
    × (b' ≡ cond s.joins (overlay buffer x.link.joined (behind (good_bytes (heard_row x.link.own f)))) buffer)
    → (r ≡ turn_of (with_row x.card (card_out s m [] 0 []))) × (out' ≡ overlay out 0 (with_row x.card (card_out s m [] 0 [])).sent)
    → (r ≡ turn_of (takes_inside x f m buffer)) × ((b' ≡ (takes_inside x f m buffer).buffer) × (out' ≡ overlay out 0 (takes_inside x f m buffer).sent))
unfolding takes_inside card_out
inside_made x f m buffer out s e h =
    let v = heard_row x.link.own f in
    let q : card_out s m buffer x.link.joined (behind (good_bytes v)) ≡ card_block x.link v m buffer =
    ap (λ s. card_out s m buffer x.link.joined (behind (good_bytes v))) e.0 ∙ sym (block_bytes_law x.link v m buffer) in
    three out (ap (with_row x.card) q) (h.0, (e.1, h.1))

-- by the card's state
module _ (x : LinkCard) (f m buffer out : List ℕ) {s : CardState} {r : CardTurn} {out' : List ℕ} (e : x.card.state ≡ s) where
  pub due_outside : takes_in s x f m buffer ≡ takes_outside x f buffer
      → (r ≡ turn_of (takes_outside x f [])) × (out' ≡ overlay out 0 (takes_outside x f []).sent)
      → (r ≡ turn_of (takes_in x.card.state x f m buffer)) × ((buffer ≡ (takes_in x.card.state x f m buffer).buffer)
      × (out' ≡ overlay out 0 (takes_in x.card.state x f m buffer).sent))
  unfolding takes_outside
  due_outside k h = three out (sym (ap (λ s. takes_in s x f m buffer) e ∙ k)) (h.0, (refl, h.1))

  pub due_inside : {b' : List ℕ} → takes_in s x f m buffer ≡ takes_inside x f m buffer
      → (r ≡ turn_of (takes_inside x f m buffer)) × ((b' ≡ (takes_inside x f m buffer).buffer) × (out' ≡ overlay out 0 (takes_inside x f m buffer).sent))
      → (r ≡ turn_of (takes_in x.card.state x f m buffer)) × ((b' ≡ (takes_in x.card.state x f m buffer).buffer)
      × (out' ≡ overlay out 0 (takes_in x.card.state x f m buffer).sent))
  due_inside k h = three out (sym (ap (λ s. takes_in s x f m buffer) e ∙ k)) h

-- ---- a call

module _ (due : Bool) (x : LinkCard) (buffer : List ℕ) (room : ℕ) (o : Out LinkCard) where
  call_not_due : due ≡ false → called due x buffer room o ≡ declined x buffer NotDue
  unfolding called
  call_not_due d = rw d

  call_room : due ≡ true → room < row_room → called due x buffer room o ≡ declined x buffer Room
  unfolding called
  call_room d h = rw (d, lt-ltb room row_room h)

  call_due : due ≡ true → row_room ≤ room → called due x buffer room o ≡ o
  unfolding called
  call_due d h = rw (d, le-ltb room row_room h)

-- a refused one of two rows changes neither
module _ (due : Bool) (x : LinkCard) (o : Out LinkCard) (out : List ℕ) {r : CardTurn} where
  pub two_not_due : due ≡ false → r ≡ turn_of (declined x [] NotDue)
      → (r ≡ turn_of (called due x [] (length out) o)) × (out ≡ overlay out 0 (called due x [] (length out) o).sent)
  two_not_due d h = two out (sym (call_not_due due x [] (length out) o d)) (h, sym (overlay_nil out 0))

  pub two_room : due ≡ true → length out < row_room → r ≡ turn_of (declined x [] Room)
      → (r ≡ turn_of (called due x [] (length out) o)) × (out ≡ overlay out 0 (called due x [] (length out) o).sent)
  two_room d n h = two out (sym (call_room due x [] (length out) o d n)) (h, sym (overlay_nil out 0))

  pub two_due : {out' : List ℕ} → due ≡ true → row_room ≤ length out → (r ≡ turn_of o) × (out' ≡ overlay out 0 o.sent)
      → (r ≡ turn_of (called due x [] (length out) o)) × (out' ≡ overlay out 0 (called due x [] (length out) o).sent)
  two_due d n h = two out (sym (call_due due x [] (length out) o d n)) h

module _ (x : LinkCard) (f m buffer out : List ℕ) {r : CardTurn} where
  pub take_not_due : owing x ≡ true → r ≡ turn_of (declined x [] NotDue)
      → (r ≡ turn_of (take_call x f m buffer (length out))) × ((buffer ≡ (take_call x f m buffer (length out)).buffer)
      × (out ≡ overlay out 0 (take_call x f m buffer (length out)).sent))
  unfolding take_call
  take_not_due w h = three out (sym (call_not_due (not (owing x)) x buffer (length out) _ (rw w))) (h, (refl, sym (overlay_nil out 0)))

  pub take_room : owing x ≡ false → length out < row_room → r ≡ turn_of (declined x [] Room)
      → (r ≡ turn_of (take_call x f m buffer (length out))) × ((buffer ≡ (take_call x f m buffer (length out)).buffer)
      × (out ≡ overlay out 0 (take_call x f m buffer (length out)).sent))
  unfolding take_call
  take_room w n h = three out (sym (call_room (not (owing x)) x buffer (length out) _ (rw w) n)) (h, (refl, sym (overlay_nil out 0)))

  pub take_due : {b' out' : List ℕ} → owing x ≡ false → row_room ≤ length out
      → (r ≡ turn_of (takes_in x.card.state x f m buffer)) × ((b' ≡ (takes_in x.card.state x f m buffer).buffer)
      × (out' ≡ overlay out 0 (takes_in x.card.state x f m buffer).sent))
      → (r ≡ turn_of (take_call x f m buffer (length out))) × ((b' ≡ (take_call x f m buffer (length out)).buffer)
      × (out' ≡ overlay out 0 (take_call x f m buffer (length out)).sent))
  unfolding take_call
  take_due w n h = three out (sym (call_due (not (owing x)) x buffer (length out) _ (rw w) n)) h
