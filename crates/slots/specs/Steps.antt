-- One slot of a request over an array of cards, and how far a request is: the loop's state.
use Rattle.std.specs.Prelude.{ℕ, ◌+◌, Bool, ◌&&◌, List, [], ◌∷◌, ◌++◌, length, take, drop, ltb}
use Rattle.reader_b.specs.ReaderB.{goes, hear}
use Rattle.field_b.specs.CallsB.{cards_after}
use Rattle.field_b.specs.FieldB.{heard_from}
use Rattle.slots_rules.specs.RunB.{Told, Out, out_frame}
use Rattle.field_b.specs.declared.Drawn.{Drawn}
use Rattle.reader_b.specs.declared.ReaderB.{ReaderB}
use Rattle.reader_b.specs.declared.TurnB.{TurnB}
use Rattle.reader_b.specs.declared.AnswerB.{AnswerB}
use Rattle.reader_b.specs.declared.AnswerB.TheVariants.{Sends, Marks, Ends, Attached, Halted, Declines}
use Rattle.slots.specs.declared.within.ExchangedB.{ExchangedB}
use Rattle.slots.specs.declared.within.ProgressB.{ProgressB}

-- what a turn tells of its slot, one or none
abbrev pub told_in : AnswerB → List ℕ → List Told
told_in (Sends n) atqb = []
told_in (Marks k) atqb = (k, atqb) ∷ []
told_in (Ends k) atqb = (k, atqb) ∷ []
told_in (Attached m) atqb = []
told_in Halted atqb = []
told_in (Declines e) atqb = []

unfoldable pub told_by : TurnB → List Told
told_by t = told_in t.answer t.atqb

-- the frame f is out, over an array whose first cards are the field
unfoldable pub exchanged : ReaderB → List Drawn → ℕ → List ℕ → ExchangedB
exchanged r cards count f = record { turn = hear r (heard_from f (take count cards)); cards = cards_after cards count f }

-- one slot more
unfoldable pub stepped : ProgressB → Bool → ℕ → ℕ → ProgressB
stepped p wake afi count =
    let x : ExchangedB = exchanged p.turn.reader p.cards count (out_frame wake afi p.turn.reader) in
    record { turn = x.turn; cards = x.cards; frames = p.frames + 1; slots = p.slots + length (told_by x.turn) }

-- it goes on
unfoldable pub goes_on : ProgressB → ℕ → Bool
goes_on p n = ltb p.frames n && goes p.turn.answer

-- the cards of a run o, in their places; those that are not in the field are unchanged
abbrev pub ends : List Drawn → ℕ → Out → List Drawn
ends cards count o = o.cards ++ drop count cards
