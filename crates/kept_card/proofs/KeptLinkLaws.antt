-- A link that is kept is read back. Assumes nothing.
use Rattle.std.specs.Prelude.{◌≡◌, refl, Bool, true, false, List, ◌++◌, ℕ, length}
use Rattle.std.proofs.Common.{ap, ap₂}
use Rattle.block.specs.declared.Block.{Block}
use Rattle.block.specs.declared.Block.TheVariants.{I, Ack, Nak, Deselect, Wtx, Unknown, Nothing}
use Rattle.card.specs.declared.Card.{Card}
use Rattle.card_blocks.specs.declared.CardPhase.{CardPhase}
use Rattle.card_blocks.specs.declared.CardPhase.TheVariants.{Receiving, Owing, Waiting, Answering}
use Rattle.card_blocks.specs.declared.CardLink.{CardLink}
use Rattle.kept.specs.Kept.{bytes_at, word}
use Rattle.kept.specs.KeptLaws.{flag_back, word_back, room}
use Rattle.kept_card.specs.KeptCard.{card_bytes}
use Rattle.kept_card.specs.KeptLink.{number_tag, number_in, phase_tag, phase_wtx, phase_in, block_tag, block_first, block_second, block_in, link_bytes, link_in, Sized}

number_back : (n : Bool) → number_in (number_tag n) ≡ n
number_back true = refl
number_back false = refl

phase_back : (p : CardPhase) → phase_in (phase_tag p) (phase_wtx p) ≡ p
phase_back Receiving = refl
phase_back Owing = refl
phase_back (Waiting w) = refl
phase_back Answering = refl

block_back : (b : Block) → block_in (block_tag b) (block_first b) (block_second b) ≡ b
block_back (I n chained) = ap₂ I (flag_back n) (flag_back chained)
block_back (Ack n) = ap Ack (flag_back n)
block_back (Nak n) = ap Nak (flag_back n)
block_back Deselect = refl
block_back (Wtx w) = refl
block_back Unknown = refl
block_back Nothing = refl

made : (l : CardLink) (n : Bool) (p : CardPhase) (b : Block) (j a : ℕ) → n ≡ l.number → p ≡ l.phase → b ≡ l.last → j ≡ l.joined → a ≡ l.at
    → record { own = l.own; reader = l.reader; number = n; phase = p; last = b; joined = j; at = a } ≡ l
made l n p b j a d e f g h = rw (d, e, f, g, h)

-- behind a card, whatever stands behind it
pub link_back : (c : Card) (l : CardLink) (rest : List ℕ) → Sized l → link_in (card_bytes c ++ (link_bytes l ++ rest)) ≡ l
unfolding card_bytes link_bytes link_in bytes_at word room
link_back c l rest h =
    let b : List ℕ = card_bytes c ++ (link_bytes l ++ rest) in
    made l _ _ _ _ _ (number_back l.number) (phase_back l.phase) (block_back l.last)
    (word_back 8 l.joined b 29 h.0 refl) (word_back 8 l.at b 37 h.1 refl)

pub link_length : (l : CardLink) → length (link_bytes l) ≡ 25
unfolding link_bytes word
link_length l = refl
