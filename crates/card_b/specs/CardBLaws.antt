-- One Type B card and one frame of a request with its markers. Assumes nothing.
use Rattle.std.specs.Prelude.{◌≡◌, ◌≢◌, ℕ, ◌≤◌, ◌<◌, Bool, true, [], length}
use Rattle.std.proofs.Common.{ap, ◌∙◌, le-leb, arith}
use Rattle.rows.specs.ListLaws.{same_ne}
use Rattle.frame_b.specs.FrameB.{frame_b}
use Rattle.selection_b.specs.TypeB.{is_slots, request, marker, hltb}
use Rattle.selection_b.proofs.TypeBLaws.{length_marker, length_hltb, requests, request_length, attrib_length, marker_is, marker_other}
use Rattle.selection_b.specs.TakenB.{admits}
use Rattle.card_b.specs.CardB.{atqb_of, drawn, heeds, requested, asked, other, rules}
use Rattle.card_b.specs.declared.CardB.{CardB}
use Rattle.card_b.specs.declared.StateB.{StateB}
use Rattle.card_b.specs.declared.StateB.TheVariants.{Requested, Declared}

-- a request that the card takes
pub rules_request : (c : CardB) (y : StateB) (number : ℕ) (w : Bool) (n a : ℕ) → is_slots n ≡ true → a < 256 → heeds y w ≡ true → 1 ≤ number → number ≤ n
    → admits a c.afi ≡ true → rules c y number (request w n a) ≡ requested c number
unfolding rules asked drawn
rules_request c y number w n a e h k i j m =
    let q = requests w n a e h in
    rw (q.is, q.woken, q.slots, q.asked, k, le-leb 1 number i, le-leb number n j, m)

-- a marker is no request
pub rules_marker : (c : CardB) (y : StateB) (number s : ℕ) → rules c y number (marker s) ≡ other c y (marker s)
unfolding rules
rules_marker c y number s = rw (request_length (marker s) (λ e. omega (arith, e, length_marker s)))

-- the card's own marker
pub own_marker : (c : CardB) (number s : ℕ) → 2 ≤ s → s ≤ 16 → rules c (Requested s) number (marker s) ≡ (Declared, frame_b (atqb_of c))
own_marker c number s a b = rules_marker c (Requested s) number s ∙ (unfold other in rw (marker_is s a b))

-- another's
pub other_marker : (c : CardB) (number s t : ℕ) → 2 ≤ s → s ≤ 16 → 2 ≤ t → t ≤ 16 → s ≢ t → rules c (Requested s) number (marker t) ≡ (Requested s, [])
other_marker c number s t a b d e n = rules_marker c (Requested s) number t ∙ (unfold other in rw (marker_other s t (omega arith) b (omega arith) e n))

-- a card that has answered is silent on markers
pub declared_marker : (c : CardB) (number s : ℕ) → length c.pupi ≡ 4 → rules c Declared number (marker s) ≡ (Declared, [])
unfolding other
declared_marker c number s h =
    rules_marker c Declared number s
    ∙ rw (attrib_length c.pupi (marker s) h (λ e. omega (arith, e, length_marker s)), same_ne (marker s) (hltb c.pupi) (λ e. omega (arith, ap length e, length_marker s, length_hltb c.pupi h)))
