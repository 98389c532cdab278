-- Small facts of a card's states. Assumes nothing.
use Rattle.std.specs.Prelude.{◌≡◌, refl, ℕ, suc, ◌≤◌, ◌<◌, Bool, cond, List, [], length}
use Rattle.std.proofs.Common.{ap, lt-ltb, le-ltb}
use Rattle.rows.specs.Rows.{same}
use Rattle.parity.specs.Bits.{bits_of}
use Rattle.frame.specs.Frame.{short}
use Rattle.uid.specs.Uid.{place, levels}
use Rattle.selection.specs.Selection.{reqa, wupa}
use Rattle.card.specs.Card.{ready_in, active_in, remain, sak, chosen, rules, with_state, takes, up}
use Rattle.uid.specs.declared.Level.{Level}
use Rattle.card.specs.declared.Card.{Card}
use Rattle.card.specs.declared.CardState.TheVariants.{Idle, Halt}

-- a card that comes back to Idle is as it was when it was Idle: nothing of a round stays
pub idle_again : (c : Card) (f : List ℕ) → (takes c f).state ≡ Idle → takes c f ≡ with_state c Idle
unfolding takes
idle_again c f e = ap (with_state c) e

-- "Halt: WUPA: ATQA, Ready at level 1. Else silent, Halt": REQA is passed over
pub halt_reqa : (c : Card) → rules c Halt reqa ≡ (Halt, [])
unfolding rules same reqa wupa short bits_of
halt_reqa c = refl

-- "SAK 04 while levels remain; at the end its last SAK, 20 if it speaks blocks, else 00", and the state that goes with it
pub sak_more : (c : Card) (w : Bool) (l : Level) → suc (place l) < length (levels c.uid) → (sak c l ≡ 0x04) × (chosen c w l ≡ ready_in w (up l))
unfolding sak chosen remain
sak_more c w l h = (rw (lt-ltb (suc (place l)) (length (levels c.uid)) h), rw (lt-ltb (suc (place l)) (length (levels c.uid)) h))

pub sak_last : (c : Card) (w : Bool) (l : Level) → length (levels c.uid) ≤ suc (place l) → (sak c l ≡ cond c.blocks 0x20 0x00) × (chosen c w l ≡ active_in w)
unfolding sak chosen remain
sak_last c w l h = (rw (le-ltb (suc (place l)) (length (levels c.uid)) h), rw (le-ltb (suc (place l)) (length (levels c.uid)) h))
