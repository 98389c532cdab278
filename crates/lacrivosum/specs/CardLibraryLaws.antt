-- A card's call on a state that is too short, and on one that is not. Assumes nothing.
use Rattle.std.specs.Prelude.{◌≡◌, refl, Bool, true, false, cond, List, [], ℕ, ◌<◌, ◌≤◌, length, ltb, Result, Ok, Err}
use Rattle.std.proofs.Common.{sym, ap, ◌∙◌, lt-ltb, le-ltb}
use Rattle.std.proofs.lemmas.Bool.{false≢true}
use Rattle.refusal.specs.declared.Refusal.{Refusal}
use Rattle.refusal.specs.declared.Refusal.TheVariants.{Room}
use Rattle.rows.specs.Rows.{overlay}
use Rattle.rows.proofs.RowLaws.{overlay_nil}
use Rattle.block.specs.Out.{Out}
use Rattle.card.specs.Calls.{new_card}
use Rattle.card_link.specs.declared.LinkCard.{LinkCard}
use Rattle.card_link.specs.declared.CardTurn.{CardTurn}
use Rattle.card_link.specs.CardCalls.{without_link, turn_of}
use Rattle.kept.specs.Kept.{state_size, refused, told_number, told_refuses}
use Rattle.kept_card.specs.KeptWhole.{link_card_of, card_turn_left, kept_card_in, kept_card_after}
use Rattle.kept_card.specs.RefusedLaws.{Declines}
use Rattle.lacrivosum.specs.Library.{done, left}
use Rattle.lacrivosum.specs.CardLibrary.{card_done, quiet, speaks, new_by, new_call}

pub card_short : (s o : List ℕ) (t : Out LinkCard) (n : ℕ) → length s < 64 → n ≡ refused Room → card_done s o t ≡ done n s o
unfolding card_done
card_short s o t n h e = rw (lt-ltb _ _ h, e)

card_kept : (s o s' o' : List ℕ) (t : Out LinkCard) (u : CardTurn) (n : ℕ) → 64 ≤ length s → u ≡ turn_of t
    → n ≡ told_number u.bits u.told → s' ≡ card_turn_left s u → o' ≡ overlay o 0 t.sent
    → card_done s o t ≡ done n s' o'
unfolding card_done
card_kept s o s' o' t u n h e a c f = rw (le-ltb _ _ h, a, c, f, e)

-- a call by value, f, on the card that the bytes say
pub card_called : (s o s' o' : List ℕ) (f : LinkCard → Out LinkCard) (x : LinkCard) (u : CardTurn) (n : ℕ) → 64 ≤ length s → x ≡ link_card_of s
    → u ≡ turn_of (f x) → o' ≡ overlay o 0 (f x).sent → n ≡ told_number u.bits u.told → s' ≡ card_turn_left s u
    → card_done s o (f (link_card_of s)) ≡ done n s' o'
card_called s o s' o' f x u n h e t w a b = rw (← e) (card_kept s o s' o' (f x) u n h t a b w)

pub card_says_law : (s s' : List ℕ) (f : LinkCard → Out LinkCard) (x : LinkCard) (u : CardTurn) → x ≡ link_card_of s → u ≡ turn_of (f x)
    → kept_card_in s' ≡ kept_card_after s u → kept_card_in s' ≡ kept_card_after s (turn_of (f (link_card_of s)))
card_says_law s s' f x u e t b = b ∙ ap (kept_card_after s) (t ∙ ap (λ (y : LinkCard). turn_of (f y)) e)

pub card_left : (s b b' : List ℕ) (f : LinkCard → Out LinkCard) (x : LinkCard) → 64 ≤ length s → x ≡ link_card_of s → b' ≡ (f x).buffer
    → b' ≡ left s b (f (link_card_of s)).buffer
unfolding left
card_left s b b' f x h e w = rw (le-ltb _ _ h, ← e) w

-- a card's call that gives t, on the card x with the buffer b lent: refused, it leaves state, row and buffer (every call is of such a t, by the
-- laws `take_declines` and those beside it)
pub card_refused : (s o b : List ℕ) (x : LinkCard) (t : Out LinkCard) → Declines x b t → told_refuses t.told ≡ true
    → ((card_done s o t).state ≡ s) × (((card_done s o t).out ≡ o) × (t.buffer ≡ b))
unfolding card_done card_turn_left
card_refused s o b x t d h =
    let e = d h in
    let n : t.sent ≡ [] = ap (λ (y : Out LinkCard). y.sent) e in
    (rw h (state (ltb (length s) state_size)), (rw n (out (ltb (length s) state_size)), ap (λ (y : Out LinkCard). y.buffer) e))
  where
    state : (short : Bool) → (cond short (done (refused Room) s o) (done (told_number (length t.sent) t.told) s (overlay o 0 t.sent))).state ≡ s
    state true = refl
    state false = refl

    out : (short : Bool) → (cond short (done (refused Room) s o) (done (told_number 0 t.told) (card_turn_left s (turn_of t)) (overlay o 0 []))).out ≡ o
    out true = refl
    out false = overlay_nil o 0

-- ---- calls that send nothing

pub quiet_declines : (x y : LinkCard) → Declines x [] (quiet y)
quiet_declines x y = λ h. absurd (false≢true h)

by_declines : (x : LinkCard) (m : Result LinkCard Refusal) → Declines x [] (new_by x m)
by_declines x (Ok y) = λ h. absurd (false≢true h)
by_declines x (Err e) = λ h. refl

pub new_declines : (x : LinkCard) (uid : List ℕ) (blocks index : ℕ) → Declines x [] (new_call x uid blocks index)
unfolding new_call
new_declines x uid blocks index = by_declines x (without_link (new_card uid (speaks blocks) index))

by_sent : (x : LinkCard) (m : Result LinkCard Refusal) → (new_by x m).sent ≡ []
by_sent x (Ok y) = refl
by_sent x (Err e) = refl

pub new_sent : (x : LinkCard) (uid : List ℕ) (blocks index : ℕ) → (new_call x uid blocks index).sent ≡ []
unfolding new_call
new_sent x uid blocks index = by_sent x (without_link (new_card uid (speaks blocks) index))

pub nothing_put : (t : Out LinkCard) → t.sent ≡ [] → [] ≡ overlay [] 0 t.sent
nothing_put t e = rw e (sym (overlay_nil [] 0))

-- ---- a new card

pub new_turn : (x : LinkCard) (uid : List ℕ) (blocks index : ℕ) (b : Bool) (m : Result LinkCard Refusal) (t : CardTurn) → b ≡ speaks blocks
    → m ≡ without_link (new_card uid b index) → t ≡ turn_of (new_by x m) → t ≡ turn_of (new_call x uid blocks index)
unfolding new_call
new_turn x uid blocks index b m t e n w = w ∙ ap (λ q. turn_of (new_by x q)) (n ∙ ap (λ q. without_link (new_card uid q index)) e)
