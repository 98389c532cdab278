-- T-12, the trace checker: a log is read record by record against the reader's own rules (crate reader). "The record named is the first that the
-- reader declines, with its number; a reader frame that ours would not have sent, or a record malformed or out of turn, is 9 ahead of the reader's tests,
-- a card that is repeated or past the limit is 6 at its last SAK, and bytes after the end, cut or not, are 11." "A cut record, ahead of its other faults, or a
-- log that stops before the sweep's end, is 2 at that index."
use Rattle.trace_rules.specs.Verdict.{Verdict, fault}
use Rattle.std.specs.Prelude.{ℕ, zero, suc, ◌+◌, Bool, true, false, cond, ◌||◌, List, [], ◌∷◌, length, take, replicate, set, eqb, leb, ltb, Result, Ok, Err}
use Rattle.rows.specs.Rows.{any, same}
use Rattle.limits.specs.Limits.{most_cards}
use Rattle.uid.specs.Uid.{uid_bytes}
use Rattle.reader.specs.Reader.{uid, blank, frame, hear}
use Rattle.air_log.specs.Calls.{tick_size}
use Rattle.air_log.specs.Reading.{row_at, record_at}
use Rattle.air_log.specs.declared.Record.{Record}
use Rattle.air_log.specs.declared.Record.TheVariants.{Sent, Clean, Collided, Silence, End, Cut, Malformed}
use Rattle.card.specs.declared.Card.{Card}
use Rattle.card.specs.declared.CardState.TheVariants.{Idle, Off}
use Rattle.reader.specs.declared.Phase.TheVariants.{ReqaSent}
use Rattle.reader.specs.declared.Reader.{Reader}
use Rattle.reader.specs.declared.Answer.{Answer}
use Rattle.reader.specs.declared.Answer.TheVariants.{Sends, Finds, Selects, Finishes, Declines}
use Rattle.reader.specs.declared.Turn.{Turn}
use Rattle.refusal.specs.declared.Refusal.{Refusal}
use Rattle.refusal.specs.declared.Refusal.TheVariants.{Length, Argument, Forbidden, NotDue}
use Rattle.uid.specs.declared.Uid.{Uid}
use Rattle.uid.specs.declared.UidSize.TheVariants.{Single}
use Rattle.trace_rules.specs.declared.Checked.{Checked}
use Rattle.trace_rules.specs.declared.Place.{Place}
use Rattle.trace_rules.specs.declared.Says.{Says}
use Rattle.trace_rules.specs.declared.Says.TheVariants.{Goes, Content, Faults}
use Rattle.trace_rules.specs.declared.Stepped.{Stepped}

-- "The first input byte, ahead of the log, is 0 for one without ticks, 1 with": the bytes between a record's header and its rows
abbrev pub stamp_size : ℕ → ℕ
stamp_size mode = cond (eqb mode 0) 0 tick_size

-- ---- the records that are due

-- a row with its collided bits, from the row that holds 0 at them and "an equally long row with 1 at them"
unfoldable pub marked : List ℕ → List ℕ → List ℕ
marked [] m = []
marked (x ∷ r) [] = x ∷ r
marked (x ∷ r) (y ∷ m) = cond (eqb y 0) x 2 ∷ marked r m

-- what was heard, by its record in the log l
abbrev pub heard_row : List ℕ → Record → List ℕ
heard_row l (Sent start bits next) = []
heard_row l (Clean start bits next) = row_at l start bits
heard_row l (Collided start marks bits next) = marked (row_at l start bits) (row_at l marks bits)
heard_row l (Silence next) = []
heard_row l End = []
heard_row l Cut = []
heard_row l Malformed = []

-- the reader's frame f is due
abbrev pub sent_passed : List ℕ → List ℕ → Record → Result ℕ Refusal
sent_passed l f (Sent start bits next) = cond (same (row_at l start bits) f) (Ok next) (Err Forbidden)
sent_passed l f (Clean start bits next) = Err Forbidden
sent_passed l f (Collided start marks bits next) = Err Forbidden
sent_passed l f (Silence next) = Err Forbidden
sent_passed l f End = Err Length
sent_passed l f Cut = Err Length
sent_passed l f Malformed = Err Forbidden

-- what was heard is due
abbrev pub heard_passed : Record → Result ℕ Refusal
heard_passed (Sent start bits next) = Err Forbidden
heard_passed (Clean start bits next) = Ok next
heard_passed (Collided start marks bits next) = Ok next
heard_passed (Silence next) = Ok next
heard_passed End = Err Length
heard_passed Cut = Err Length
heard_passed Malformed = Err Forbidden

-- ---- two records: the frame that the reader has sent, and what was heard

abbrev pub goes : Place → Stepped
goes p = record { place = p; says = Goes }

abbrev pub content : Place → Stepped
content p = record { place = p; says = Content }

-- the fault is so many records on
abbrev pub faults : Place → ℕ → Refusal → Stepped
faults p on e = record { place = p; says = Faults on e }

-- the reader has sent its next frame, whose record is due at a place
abbrev pub onward : Place → ℕ → Reader → Place
onward p at r = record { at = at; reader = r; cards = p.cards; found = p.found }

-- a card of the list: idle, "speaking blocks where the last SAK is 20"
abbrev pub listed : Reader → Card
listed r = record { uid = r.uid; blocks = eqb r.sak 0x20; index = 8; state = Idle }

-- the reader has found one more
abbrev pub with_card : Place → ℕ → Reader → Place
with_card p at r = record { at = at; reader = r; cards = set p.cards p.found (listed r); found = p.found + 1 }

-- the cards found so far
abbrev pub cards_in : Place → List Card
cards_in p = take p.found p.cards

-- one of these cards has that UID
unfoldable pub is_listed : Uid → List Card → Bool
is_listed u cs = any (λ c. same (uid_bytes u) (uid_bytes c.uid)) cs

-- "a card that is repeated or past the limit is 6 at its last SAK"
unfoldable pub lists : Place → ℕ → Reader → Stepped
lists p at r = cond (leb most_cards p.found || is_listed r.uid (cards_in p)) (faults p 1 Argument) (goes (with_card p at r))

-- silence after REQA ends the sweep: "bytes after the end, cut or not, are 11"
unfoldable pub ends : List ℕ → Place → ℕ → Reader → Stepped
ends l p at r = cond (ltb at (length l)) (faults p 2 NotDue) (content (onward p at r))

-- the reader's turn, the place behind what it heard being `at`. In a sweep it never selects
abbrev pub answered : List ℕ → Place → ℕ → Reader → Answer → Stepped
answered l p at r (Sends n) = goes (onward p at r)
answered l p at r (Finds n) = lists p at r
answered l p at r Selects = faults p 1 Forbidden
answered l p at r Finishes = ends l p at r
answered l p at r (Declines e) = faults p 1 e

unfoldable pub turned : List ℕ → Place → ℕ → Turn → Stepped
turned l p at t = answered l p at t.reader t.answer

-- what was heard stands in a record
abbrev pub heard_then : List ℕ → Place → Record → Result ℕ Refusal → Stepped
heard_then l p x (Ok next) = turned l p next (hear p.reader (heard_row l x))
heard_then l p x (Err e) = faults p 1 e

abbrev pub sent_then : ℕ → List ℕ → Place → Result ℕ Refusal → Stepped
sent_then w l p (Ok at) = heard_then l p (record_at w l at) (heard_passed (record_at w l at))
sent_then w l p (Err e) = faults p 0 e

-- in a log l whose records have stamps of w bytes
unfoldable pub step : ℕ → List ℕ → Place → Stepped
step w l p = sent_then w l p (sent_passed l (frame p.reader) (record_at w l p.at))

-- ---- all records

-- before the first record: REQA is due, and no card was found
abbrev pub no_card : Card
no_card = record { uid = uid Single []; blocks = false; index = 0; state = Off }

unfoldable pub start : Place
start = record { at = 0; reader = blank ReqaSent true; cards = replicate most_cards no_card; found = 0 }

abbrev pub checked : Verdict → Place → Checked
checked v p = record { verdict = v; cards = p.cards; found = p.found }

-- i records are before the two that say so
abbrev pub follow : ℕ → Place → Checked → Says → Checked
follow i p rest Goes = rest
follow i p rest Content = checked (Ok tt) p
follow i p rest (Faults on e) = checked (fault (i + on) e) p

-- from a place on, i records being before it, in at most so many turns. Each turn passes two records, and no record is without a byte
unfoldable pub walk : ℕ → ℕ → List ℕ → ℕ → Place → Checked
walk zero w l i p = checked (fault i Length) p
walk (suc most) w l i p = follow i (step w l p).place (walk most w l (i + 2) (step w l p).place) (step w l p).says
