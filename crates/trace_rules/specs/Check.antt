-- T-12: the check of a whole log. "If the reader is content throughout, it is the first record that differs from the sweep over the listed cards (speaking
-- blocks where the last SAK is 20), with 9." "The first input byte, ahead of the log, is 0 for one without ticks, 1 with; another or none is 6 at 0; a log over
-- 40,960 bytes is 1 at 0, ahead of all."
use Rattle.trace_rules.specs.Verdict.{Compared, Verdict, fault}
use Rattle.trace_rules.specs.declared.Differs.TheVariants.{First, Second}
use Rattle.std.specs.Prelude.{ℕ, suc, ◌+◌, cond, ◌||◌, List, [], ◌∷◌, ◌++◌, length, take, drop, get_or, leb, ltb, Result, Ok, Err}
use Rattle.rows.specs.Rows.{same, is_nil}
use Rattle.limits.specs.Limits.{log_room}
use Rattle.refusal.specs.Refusal.{Said, giving, number_of, place_of}
use Rattle.uid.specs.Uid.{uid_bytes}
use Rattle.air_log.specs.Log.{Exchange}
use Rattle.air_log.specs.Reading.{record_at}
use Rattle.sweep_rules.specs.Run.{sweep}
use Rattle.air_log.specs.declared.Record.{Record}
use Rattle.card.specs.declared.Card.{Card}
use Rattle.refusal.specs.declared.Refusal.{Refusal}
use Rattle.refusal.specs.declared.Refusal.TheVariants.{Room, Argument, Forbidden}
use Rattle.trace_rules.specs.declared.Checked.{Checked}
use Rattle.trace_rules.specs.Trace.{stamp_size, heard_row, sent_passed, heard_passed, start, checked, walk}

-- ---- the sweep over the listed cards

-- the record x holds the row h as what was heard
abbrev pub heard_as : List ℕ → List ℕ → Record → Result ℕ Refusal
heard_as l h x = cond (same (heard_row l x) h) (heard_passed x) (Err Forbidden)

-- the two records of an exchange, held to those at a place
abbrev pub heard_compared : Result ℕ Refusal → Compared
heard_compared (Ok at) = Ok at
heard_compared (Err e) = Err Second

abbrev pub sent_compared : ℕ → List ℕ → List ℕ → Result ℕ Refusal → Compared
sent_compared w l h (Ok at) = heard_compared (heard_as l h (record_at w l at))
sent_compared w l h (Err e) = Err First

unfoldable pub compared : ℕ → List ℕ → Exchange → ℕ → Compared
compared w l e at = sent_compared w l e.heard (sent_passed l e.sent (record_at w l at))

-- i records are before the two; what is behind them decides where they are as they should be
abbrev pub compared_then : ℕ → (ℕ → Verdict) → Compared → Verdict
compared_then i rest (Ok at) = rest at
compared_then i rest (Err First) = fault i Forbidden
compared_then i rest (Err Second) = fault (i + 1) Forbidden

-- "the first record that differs", ticks apart, from the records of these exchanges: from a place on, i records being before it
unfoldable pub differs : ℕ → List ℕ → ℕ → List Exchange → ℕ → Verdict
differs w l i [] at = cond (leb (length l) at) (Ok tt) (fault i Forbidden)
differs w l i (e ∷ es) at = compared_then i (differs w l (i + 2) es) (compared w l e at)

-- ---- the check

-- the cards that were found
abbrev pub cards_of : Checked → List Card
cards_of c = take c.found c.cards

abbrev pub judged : ℕ → List ℕ → Checked → Verdict → Checked
judged w l c (Ok u) = record { verdict = differs w l 0 (sweep (cards_of c)).exchanges 0; cards = c.cards; found = c.found }
judged w l c (Err e) = c

-- a log whose records have stamps of w bytes
unfoldable pub check_log : ℕ → List ℕ → Checked
check_log w l = judged w l (walk (suc (length l)) w l 0 start) (walk (suc (length l)) w l 0 start).verdict

-- refused before a record is read
unfoldable pub refused : Refusal → Checked
refused e = checked (fault 0 e) start

-- all of the input: the byte that says which kind of log, and the log
unfoldable pub check : List ℕ → Checked
check s =
    cond (ltb (suc log_room) (length s)) (refused Room)
    (cond (is_nil s || ltb 1 (get_or s 0 0)) (refused Argument)
    (check_log (stamp_size (get_or s 0 0)) (drop 1 s)))

-- ---- the verdict, in the table's numbers: of a fault the refusal's number, T-07's byte and the record's index; of a clean log for each card the
-- length of its UID, its bytes and its last SAK

unfoldable pub card_says : List Card → List ℕ
card_says [] = []
card_says (c ∷ cs) = length (uid_bytes c.uid) ∷ uid_bytes c.uid ++ cond c.blocks 0x20 0x00 ∷ card_says cs

abbrev pub verdict_says : List Card → Verdict → Said
verdict_says cs (Ok u) = giving (card_says cs)
verdict_says cs (Err f) = record { number = number_of f.refusal; values = place_of f.refusal ∷ f.index ∷ [] }

abbrev pub checked_says : Checked → Said
checked_says c = verdict_says (cards_of c) c.verdict

-- the same in the order of the tests: a refusal of the input is at record 0
abbrev pub fault_says : ℕ → Said
fault_says n = record { number = n; values = 0 ∷ 0 ∷ [] }

unfoldable pub check_says : List ℕ → Said
check_says s =
    cond (ltb (suc log_room) (length s)) (fault_says 1)
    (cond (is_nil s || ltb 1 (get_or s 0 0)) (fault_says 6)
    (checked_says (check_log (stamp_size (get_or s 0 0)) (drop 1 s))))
