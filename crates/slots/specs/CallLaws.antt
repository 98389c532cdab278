-- Laws of the call of a request: which of its tests applies. Where it declines, the field or what was lent is not within the terms. Assumes nothing.
use Rattle.std.specs.Prelude.{◌≡◌, refl, ℕ, ◌≤◌, ◌<◌, Bool, true, false, cond, ◌||◌, List, [], ◌∷◌, length, take, ltb}
use Rattle.std.proofs.Common.{sym, ◌∙◌, arith, length-take-le}
use Rattle.std.proofs.Math.Path.{ap}
use Rattle.std.proofs.Math.Bool.{not, false≢true}
use borrow.Author.Tests.{lt-ltb, le-ltb, le-leb}
use Rattle.limits.specs.Limits.{most_cards}
use Rattle.frame_b.specs.LimitsB.{list_room_b}
use Rattle.rows.specs.Rows.{All, overlay}
use Rattle.refusal.specs.Refusal.{declining}
use Rattle.card_b.specs.CardB.{drawn}
use Rattle.reader_b.specs.ReaderB.{is_ready}
use Rattle.slots_rules.specs.Claim as claims
use Rattle.slots_rules.proofs.ClaimLaws.{claim}
use Rattle.slots_rules.specs.RunB.{Out, inquiry, list_bytes}
use Rattle.slots_rules.specs.TermsB.{idle_or_halted, card_fits, all_fit, within}
use Rattle.slots.specs.Inquiry.{call, refused, done, inquiry_of}
use Rattle.slots.specs.Promise.{Terms, answer_says, inquiry_says, Inquires}
use Rattle.slots.specs.Steps.{ends}
use Rattle.refusal.specs.declared.Refusal.{Refusal}
use Rattle.refusal.specs.declared.Refusal.TheVariants.{Room, Argument, NotDue}
use Rattle.reader_b.specs.declared.ReaderB.{ReaderB}
use Rattle.field_b.specs.declared.Drawn.{Drawn}
use Rattle.slots.specs.declared.Inquired.{Inquired}
use Rattle.slots.specs.declared.within.ProgressB.{ProgressB}

-- a field within the claim's terms is one that the request takes
fits : (n afi : ℕ) (ds : List Drawn) → All (claims.Asked n afi) ds → all_fit n ds ≡ true
unfolding all_fit card_fits drawn
fits n afi [] h = refl
fits n afi (d ∷ ds) h =
    let q : idle_or_halted d.card.state ≡ true = ap idle_or_halted h.0.idle in
    rw (q, le-leb 1 d.number h.0.least, le-leb d.number n h.0.most) (fits n afi ds h.1)

pub taken_field : (n afi : ℕ) (ds : List Drawn) → length ds ≤ most_cards → claims.Terms n afi ds → within n ds ≡ true
unfolding within
taken_field n afi ds few t = rw (t.slots, le-leb (length ds) most_cards few, fits n afi ds t.all, t.different)

-- what the contract says of a call that gave s and list₁
abbrev pub Promised : ReaderB → Bool → ℕ → ℕ → List Drawn → ℕ → List ℕ → Inquired → List ℕ → Type 0
Promised r wake n afi cards count list s list₁ =
    (call s list₁ ≡ inquiry_of r wake n afi cards count list) × Inquires r wake n afi cards count list s list₁

-- what the loop leaves is what the call gives
abbrev pub inquired_at : ProgressB → Inquired
inquired_at p = record { reader = p.turn.reader; answer = p.turn.answer; cards = p.cards; slots = p.slots }

pub ends_call : (cards : List Drawn) (count : ℕ) (list : List ℕ) (o : Out) (p : ProgressB) (list₁ : List ℕ) → p.turn ≡ o.last
    → p.cards ≡ ends cards count o → p.slots ≡ length o.slots → list₁ ≡ overlay list 0 (list_bytes o.slots) → call (inquired_at p) list₁ ≡ done cards count list o
unfolding done
ends_call cards count list o p list₁ t c s l = rw (t, c, s, l)

module _ (r : ReaderB) (wake : Bool) (n afi : ℕ) (cards : List Drawn) (count : ℕ) (list : List ℕ) (full : length cards ≡ most_cards) where
  -- the call's numbers
  call_says_law : (s : Inquired) (list₁ : List ℕ) → call s list₁ ≡ inquiry_of r wake n afi cards count list → answer_says s.answer ≡ inquiry_says r wake n afi cards count list
  unfolding inquiry_of done
  call_says_law s list₁ e =
      ap (λ c. answer_says c.inquired.answer) e
      ∙ go (not (is_ready r.phase)) (ltb (length list) list_room_b) (ltb most_cards count || not (within n (take count cards)))
    where
      o : Out
      o = inquiry wake n afi (take count cards)

      go : (a b d : Bool) → answer_says (cond a (call (refused r cards NotDue) list) (cond b (call (refused r cards Room) list)
          (cond d (call (refused r cards Argument) list) (done cards count list o)))).inquired.answer
          ≡ cond a (declining 11) (cond b (declining 1) (cond d (declining 6) (answer_says o.last.answer)))
      go true b d = refl
      go false true d = refl
      go false false true = refl
      go false false false = refl

  declines : (e : Refusal) (s : Inquired) → s ≡ refused r cards e → call (refused r cards e) list ≡ inquiry_of r wake n afi cards count list
      → (Terms r n afi cards count list → ⊥) → Promised r wake n afi cards count list s list
  declines e s h k never =
      let c = ap (λ x. call x list) h ∙ k in
      (c, record { says = call_says_law s list c; run = λ t. absurd (never t); claim = λ t. absurd (never t) })

  pub not_due : (s : Inquired) → s ≡ refused r cards NotDue → is_ready r.phase ≡ false → Promised r wake n afi cards count list s list
  unfolding inquiry_of
  not_due s h new = declines NotDue s h (rw new) (λ t. false≢true (sym new ∙ t.ready))

  module _ (ready : is_ready r.phase ≡ true) where
    pub no_list : (s : Inquired) → s ≡ refused r cards Room → length list < list_room_b → Promised r wake n afi cards count list s list
    unfolding inquiry_of
    no_list s h k = declines Room s h (rw (ready, lt-ltb (length list) list_room_b k)) (λ t. omega (arith, t.room))

    module _ (room : list_room_b ≤ length list) where
      pub too_many : (s : Inquired) → s ≡ refused r cards Argument → most_cards < count → Promised r wake n afi cards count list s list
      unfolding inquiry_of
      too_many s h k = declines Argument s h (rw (ready, le-ltb (length list) list_room_b room, lt-ltb most_cards count k)) (λ t. omega (arith, t.few))

      module _ (few : count ≤ most_cards) where
        pub no_field : (s : Inquired) → s ≡ refused r cards Argument → within n (take count cards) ≡ false → Promised r wake n afi cards count list s list
        unfolding inquiry_of
        no_field s h k =
            declines Argument s h (rw (ready, le-ltb (length list) list_room_b room, le-ltb most_cards count few, k))
            (λ t. false≢true (sym k ∙ taken_field n afi (take count cards) (rw (length-take-le count cards (omega arith)) few) t.field))

        -- the request is made
        pub made : afi < 256 → All claims.Typed (take count cards) → within n (take count cards) ≡ true → (s : Inquired) (list₁ : List ℕ)
            → call s list₁ ≡ done cards count list (inquiry wake n afi (take count cards)) → Promised r wake n afi cards count list s list₁
        unfolding inquiry_of
        made byte typed k s list₁ e =
            let c : call s list₁ ≡ inquiry_of r wake n afi cards count list = e ∙ rw (ready, le-ltb (length list) list_room_b room, le-ltb most_cards count few, k) in
            (c, record { says = call_says_law s list₁ c; run = λ t. e; claim = λ t. claim wake n afi (take count cards) byte typed t.field })
