-- A Type B card that is kept is read back. Assumes nothing.
use Rattle.std.specs.Prelude.{◌≡◌, refl, Bool, true, false, List, ◌++◌, ℕ, ◌+◌, length, drop, replicate}
use Rattle.std.proofs.Common.{sym}
use Rattle.rows.specs.Rows.{overlay}
use Rattle.card_b.specs.declared.StateB.{StateB}
use Rattle.card_b.specs.declared.StateB.TheVariants.{Off, Idle, Requested, Declared, Active, Halt}
use Rattle.card_b.specs.declared.CardB.{CardB}
use Rattle.card_b.specs.declared.TakenB.{TakenB}
use Rattle.kept.specs.Kept.{bytes_at}
use Rattle.kept.specs.KeptLaws.{flag_back, bytes_whole}
use Rattle.kept_b.specs.KeptCardB.{state_tag, state_slot, state_in, card_bytes, card_in, Fits, taken_refuses, taken_left}

pub state_back : (s : StateB) → state_in (state_tag s) (state_slot s) ≡ s
state_back Off = refl
state_back Idle = refl
state_back (Requested n) = refl
state_back Declared = refl
state_back Active = refl
state_back Halt = refl

made : (c : CardB) (p a i : List ℕ) (m : Bool) (s : StateB) → p ≡ c.pupi → a ≡ c.application → i ≡ c.protocol → m ≡ c.markers → s ≡ c.state
    → record { pupi = p; afi = c.afi; markers = m; application = a; protocol = i; state = s } ≡ c
made c p a i m s e f g h k = rw (e, f, g, h, k)

-- "encoding then decoding gives the card back", whatever stands behind it
pub card_back : (c : CardB) (rest : List ℕ) → Fits c → card_in (card_bytes c ++ rest) ≡ c
unfolding card_bytes card_in bytes_at
card_back c rest f =
    made c _ _ _ _ _ (bytes_whole 4 c.pupi f.0) (bytes_whole 4 c.application f.1.0) (bytes_whole 3 c.protocol f.1.1)
    (flag_back c.markers) (state_back c.state)

-- zeros are a card without power
pub zeros_card : (card_in (replicate 64 0)).state ≡ Off
unfolding card_in
zeros_card = refl

pub card_length : (c : CardB) → length (card_bytes c) ≡ 15
unfolding card_bytes bytes_at
card_length c = refl

-- a card written to the front is read back
pub kept_back : (d : List ℕ) (c : CardB) → Fits c → card_in (overlay d 0 (card_bytes c)) ≡ c
unfolding overlay
kept_back d c f = card_back c (drop (0 + length (card_bytes c)) d) f

pub card_put : (d A : List ℕ) (c : CardB) (d' : List ℕ) → A ≡ card_bytes c → Fits c → d' ≡ overlay d 0 A
    → (d' ≡ overlay d 0 (card_bytes c)) × (card_in d' ≡ c)
card_put d A c d' a f e = let w : d' ≡ overlay d 0 (card_bytes c) = rw (← a) e in (w, rw w (kept_back d c f))

-- a refused call writes nothing
pub stayed : (b : List ℕ) (t : TakenB) → taken_refuses t.answer ≡ true → t.card ≡ card_in b → (b ≡ taken_left b t) × (card_in b ≡ t.card)
unfolding taken_left
stayed b t h e = (rw h, sym e)

-- any other writes the card
pub moved : (b b' : List ℕ) (t : TakenB) → taken_refuses t.answer ≡ false → b' ≡ overlay b 0 (card_bytes t.card) → card_in b' ≡ t.card
    → (b' ≡ taken_left b t) × (card_in b' ≡ t.card)
unfolding taken_left
moved b b' t h w k = (rw h w, k)
