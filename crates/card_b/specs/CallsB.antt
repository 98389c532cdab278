-- The card's call: a frame, with the slot number that the host hands in, and lent room for the answer.
use Rattle.std.specs.Prelude.{ℕ, cond, not, ◌&&◌, List, [], ◌∷◌, length, ltb, Result, Ok, Err, Option, Some, None}
use Rattle.rows.specs.Rows.{overlay}
use Rattle.frame_b.specs.LimitsB.{answer_room_b}
use Rattle.selection_b.specs.TakenB.{is_request, slots_in}
use Rattle.card_b.specs.CardB.{Step, drawn, with_state, rules, answers}
use Rattle.refusal.specs.Refusal.{Said, decline_if, sent_says}
use Rattle.refusal.specs.declared.Refusal.TheVariants.{Room, Argument}
use Rattle.card_b.specs.declared.CardB.{CardB}
use Rattle.card_b.specs.declared.TakenB.{TakenB}
use Rattle.refusal.specs.declared.Refusal.{Refusal}

abbrev pub answer_of : List ℕ → Result (Option ℕ) Refusal
answer_of [] = Ok None
answer_of (x ∷ r) = Ok (Some (length (x ∷ r)))

-- the bits of an answer
abbrev pub bits_in : Result (Option ℕ) Refusal → ℕ
bits_in (Ok (Some n)) = n
bits_in (Ok None) = 0
bits_in (Err e) = 0

-- the card after a step of the rules, and its answer
abbrev pub taken : CardB → Step → TakenB
taken c s = record { card = with_state c s.0; answer = answer_of s.1 }

-- 1, then 6: "The host hands in slot numbers, 1 to N, ..; others are 6". Both change nothing
unfoldable pub take_call : CardB → ℕ → List ℕ → ℕ → TakenB
take_call c number f room =
    cond (ltb room answer_room_b) (record { card = c; answer = Err Room })
    (cond (is_request f && not (drawn number (slots_in f))) (record { card = c; answer = Err Argument })
    (taken c (rules c c.state number f)))

-- the lent row afterwards
unfoldable pub take_row : CardB → ℕ → List ℕ → List ℕ → List ℕ
take_row c number f out =
    cond (ltb (length out) answer_room_b) out
    (cond (is_request f && not (drawn number (slots_in f))) out
    (overlay out 0 (answers c number f)))

-- what an answer says, in the table's numbers: the bits that the card sends, if any. "A call tests .. 1, 6"
abbrev pub take_says : CardB → ℕ → List ℕ → ℕ → Said
take_says c number f room =
    decline_if (ltb room answer_room_b) 1
    (decline_if (is_request f && not (drawn number (slots_in f))) 6
    (sent_says (answer_of (answers c number f))))
