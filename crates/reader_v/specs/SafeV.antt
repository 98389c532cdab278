-- What a turn hands over is there: a read's bytes in the row h and in the lent room, and a mask that a request can hold. The code leans on it.
use Rattle.std.specs.Prelude.{◌≡◌, ℕ, ◌+◌, ◌*◌, ◌≤◌, true, List, length}
use Rattle.rows.specs.Rows.{clean}
use Rattle.reader_v.specs.declared.ReaderV.{ReaderV}
use Rattle.reader_v.specs.declared.AnswerR.{AnswerR}
use Rattle.reader_v.specs.declared.AnswerR.TheVariants.{Sends, NextSlot, NextRound, Ends, Quieted, Data, Done, TagError, Declines}

abbrev pub Safe : AnswerR → ReaderV → List ℕ → ℕ → Type 0
Safe Sends r h room = Unit {0}
Safe (NextSlot k) r h room = Unit {0}
Safe (NextRound k) r h room = r.round.len ≤ 64
Safe (Ends k) r h room = Unit {0}
Safe Quieted r h room = Unit {0}
Safe (Data n) r h room = (8 * n + 8 ≤ length h) × (n ≤ room) × (clean h ≡ true)
Safe Done r h room = Unit {0}
Safe (TagError e) r h room = Unit {0}
Safe (Declines e) r h room = Unit {0}
