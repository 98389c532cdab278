-- A whole card that is kept is read back, and so is what its host was told. Assumes nothing.
use Rattle.std.specs.Prelude.{◌≡◌, refl, true, false, List, ◌++◌, ℕ, ◌<◌, ◌≤◌, ◌+◌, length, drop, replicate}
use Rattle.std.proofs.Common.{sym, ap, ◌∙◌, append_assoc, arith}
use Rattle.rows.specs.Rows.{overlay}
use Rattle.block.specs.declared.Told.{Told}
use Rattle.card.specs.declared.Card.{Card}
use Rattle.card_blocks.specs.declared.CardLink.{CardLink}
use Rattle.card_link.specs.declared.LinkCard.{LinkCard}
use Rattle.card_link.specs.declared.CardTurn.{CardTurn}
use Rattle.card_link.specs.CardCalls.{no_link}
use Rattle.kept.specs.Kept.{bytes_at, word, number, event_of, length_of, told_refuses, told_event, told_length}
use Rattle.kept.specs.KeptLaws.{word_back, room, three_put}
use Rattle.kept_card.specs.KeptCard.{card_bytes, card_in}
use Rattle.kept_card.proofs.KeptCardLaws.{card_back, card_length, zero_card}
use Rattle.kept_card.specs.KeptLink.{link_bytes, link_in, Sized}
use Rattle.kept_card.proofs.KeptLinkLaws.{link_back, link_length}
use Rattle.kept_card.specs.KeptWhole.{link_card_bytes, link_card_of, Fits, told_bytes, card_turn_bytes, card_turn_left, KeptCard, kept_card_in, kept_card_of, kept_card_after}

-- "encoding then decoding gives the state back", whatever stands behind it
pub link_card_back : (x : LinkCard) (rest : List ℕ) → Fits x → link_card_of (link_card_bytes x ++ rest) ≡ x
link_card_back x rest f = rw (append_assoc, card_back x.card _ f.0, link_back x.card x.link rest f.1)

-- zeros are the card without power whose UID is four zeros, without a link
pub zeros_card : link_card_of (replicate 64 0) ≡ record { card = zero_card; link = no_link }
unfolding card_in link_in bytes_at number
zeros_card = refl

-- ---- what its host was told

event_back : (c : Card) (l : CardLink) (t : Told) (rest : List ℕ) → event_of (card_bytes c ++ (link_bytes l ++ (told_bytes t ++ rest))) ≡ told_event t
unfolding card_bytes link_bytes bytes_at word
event_back c l t rest = refl

length_back : (c : Card) (l : CardLink) (t : Told) (rest : List ℕ) → told_length t < 18446744073709551616
    → length_of (card_bytes c ++ (link_bytes l ++ (told_bytes t ++ rest))) ≡ told_length t
unfolding card_bytes link_bytes bytes_at word room
length_back c l t rest h = word_back 8 (told_length t) _ 46 h refl

told_length_law : (t : Told) → length (told_bytes t) ≡ 9
unfolding word
told_length_law t = refl

says : (b : List ℕ) (t : CardTurn) → card_in b ≡ t.card.card → link_in b ≡ t.card.link → event_of b ≡ told_event t.told
    → length_of b ≡ told_length t.told → kept_card_in b ≡ kept_card_of t
says b t e f g h = rw (e, f, g, h)

-- what is kept says the card and what its host was told, whatever stands behind it
kept_back : (d : List ℕ) (t : CardTurn) → Fits t.card → told_length t.told < 18446744073709551616
    → kept_card_in (overlay d 0 (card_turn_bytes t)) ≡ kept_card_of t
unfolding overlay
kept_back d t f n =
    let c = t.card.card in
    let l = t.card.link in
    let rest : List ℕ = drop (0 + length (card_turn_bytes t)) d in
    let e : card_turn_bytes t ++ rest ≡ card_bytes c ++ (link_bytes l ++ (told_bytes t.told ++ rest)) =
    append_assoc (link_card_bytes t.card) (told_bytes t.told) rest ∙ append_assoc (card_bytes c) (link_bytes l) (told_bytes t.told ++ rest) in
    rw e (says _ t (card_back c _ f.0) (link_back c l _ f.1) (event_back c l t.told rest) (length_back c l t.told rest n))

-- three rows written one behind the other keep a turn, and what it leaves is read back
pub settled : (t : CardTurn) (d A B C d₁ d₂ d₃ : List ℕ) → 64 ≤ length d
    → A ≡ card_bytes t.card.card → length t.card.card.uid.bytes ≡ 10
    → B ≡ link_bytes t.card.link → Sized t.card.link
    → C ≡ told_bytes t.told → told_length t.told < 18446744073709551616
    → d₁ ≡ overlay d 0 A → d₂ ≡ overlay d₁ 20 B → d₃ ≡ overlay d₂ 45 C
    → (d₃ ≡ overlay d 0 (card_turn_bytes t)) × (kept_card_in d₃ ≡ kept_card_of t)
settled t d A B C d₁ d₂ d₃ h a u b s c m e₁ e₂ e₃ =
    let n = told_length_law t.told in
    let w : d₃ ≡ overlay d 0 (card_turn_bytes t) =
    rw (e₃, e₂, e₁, a, b, c) (three_put 20 25 d _ _ _ (card_length t.card.card) (link_length t.card.link) (omega arith)) in
    (w, rw w (kept_back d t (u, s) m))

-- a refused call writes nothing
pub stayed : (b : List ℕ) (t : CardTurn) → told_refuses t.told ≡ true → t.card ≡ link_card_of b
    → (b ≡ card_turn_left b t) × (kept_card_in b ≡ kept_card_after b t)
unfolding card_turn_left kept_card_after
stayed b t h e =
    let k : LinkCard → KeptCard = λ x. record { card = x; event = event_of b; length = length_of b } in
    (rw h, rw h (ap k (sym e)))

-- any other writes a turn's bytes
pub moved : (b b' : List ℕ) (t : CardTurn) → told_refuses t.told ≡ false → b' ≡ overlay b 0 (card_turn_bytes t) → kept_card_in b' ≡ kept_card_of t
    → (b' ≡ card_turn_left b t) × (kept_card_in b' ≡ kept_card_after b t)
unfolding card_turn_left kept_card_after
moved b b' t h w k = (rw h w, rw h k)
