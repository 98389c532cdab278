-- The tag's calls: a row with the memory, the locks and the room for the answer, all lent; an EOF; power.
use Rattle.std.specs.Prelude.{ℕ, ◌+◌, ◌*◌, max, Bool, cond, not, ◌||◌, List, length, eqb, ltb, Result, Ok, Err, Option, Some, None}
use Rattle.rows.specs.Rows.{overlay}
use Rattle.request_v.specs.Request.{deed_of}
use Rattle.request_v.specs.declared.Tag.{Tag}
use Rattle.tag.specs.Memory.{geometry}
use Rattle.tag.specs.Tag.{takes, answers, memory_after, locks_after, takes_eof, answers_eof}
use Rattle.refusal.specs.Refusal.{Said, decline_if, sent_says}
use Rattle.refusal.specs.declared.Refusal.{Refusal}
use Rattle.refusal.specs.declared.Refusal.TheVariants.{Room, Argument}
use Rattle.tag.specs.declared.TakenV.{TakenV}

-- the answer to an inventory has 12 bytes, the longest to a read all blocks with their status, in a frame
unfoldable pub room_for : Tag → ℕ
room_for t = max 96 (8 * (3 + t.blocks * (t.size + 1)))

-- the lent memory and locks are as long as the tag's geometry says, and the room is what its longest answer takes
unfoldable pub is_short : Tag → ℕ → ℕ → ℕ → Bool
is_short t memory locks room = ltb memory (t.blocks * t.size) || (ltb locks t.blocks || ltb room (room_for t))

-- so many bits at the front of the lent row
abbrev pub answer_of : ℕ → Result (Option ℕ) Refusal
answer_of n = cond (eqb n 0) (Ok None) (Ok (Some n))

abbrev pub taken : Tag → List ℕ → TakenV
taken t r = record { tag = t; answer = answer_of (length r) }

abbrev pub refused : Tag → Refusal → TakenV
refused t e = record { tag = t; answer = Err e }

-- 1: lent memory, locks or room shorter than asked; 6: "up to 256 blocks of up to 32 bytes"; both change nothing
abbrev pub tested {ℓ} : {A : Type ℓ} → Tag → List ℕ → List ℕ → List ℕ → A → A → A → A
tested t memory locks out short wrong good =
    cond (is_short t (length memory) (length locks) (length out)) short (cond (not (geometry t.blocks t.size)) wrong good)

unfoldable pub take_call : Tag → List ℕ → List ℕ → List ℕ → List ℕ → TakenV
take_call t f memory locks out =
    tested t memory locks out (refused t Room) (refused t Argument) (taken (takes t locks f) (answers t memory locks f))

-- the lent memory, locks and row afterwards
unfoldable pub take_memory : Tag → List ℕ → List ℕ → List ℕ → List ℕ → List ℕ
take_memory t f memory locks out = tested t memory locks out memory memory (memory_after t.size f (deed_of t locks f) memory)

unfoldable pub take_locks : Tag → List ℕ → List ℕ → List ℕ → List ℕ → List ℕ
take_locks t f memory locks out = tested t memory locks out locks locks (locks_after (deed_of t locks f) locks)

unfoldable pub take_row : Tag → List ℕ → List ℕ → List ℕ → List ℕ → List ℕ
take_row t f memory locks out = tested t memory locks out out out (overlay out 0 (answers t memory locks f))

-- an EOF asks for the room of an answer to an inventory
unfoldable pub eof_call : Tag → ℕ → TakenV
eof_call t room = cond (ltb room 96) (refused t Room) (taken (takes_eof t) (answers_eof t))

unfoldable pub eof_row : Tag → List ℕ → List ℕ
eof_row t out = cond (ltb (length out) 96) out (overlay out 0 (answers_eof t))

-- what an answer says, in the table's numbers: the bits that the tag sends, if any. "A call tests .. 1, 6"
abbrev pub take_says : Tag → List ℕ → List ℕ → List ℕ → List ℕ → Said
take_says t f memory locks out =
    decline_if (is_short t (length memory) (length locks) (length out)) 1
    (decline_if (not (geometry t.blocks t.size)) 6
    (sent_says (answer_of (length (answers t memory locks f)))))

abbrev pub eof_says : Tag → ℕ → Said
eof_says t room = decline_if (ltb room 96) 1 (sent_says (answer_of (length (answers_eof t))))
