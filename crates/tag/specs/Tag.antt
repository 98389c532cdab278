-- Document 02, T-10: a tag's rules: its next state, the row that it sends, its memory and its locks, by what a request makes it do.
use Rattle.std.specs.Prelude.{ℕ, ◌-◌, ◌*◌, cond, List, [], ◌∷◌, drop, eqb}
use Rattle.rows.specs.Rows.{overlay}
use Rattle.frame.specs.Frame.{bytes_of}
use Rattle.frame_b.specs.FrameB.{frame_b}
use Rattle.request_v.specs.Request.{deed_of}
use Rattle.request_v.specs.declared.Tag.{Tag}
use Rattle.request_v.specs.declared.StateV.{StateV}
use Rattle.request_v.specs.declared.StateV.TheVariants.{Off, Ready, Quiet, Selected}
use Rattle.request_v.specs.declared.Deed.{Deed}
use Rattle.request_v.specs.declared.Deed.TheVariants.{Nothing, Quiets, Drops, Tells, Waits, Fails, Reads, Writes, Locks, Selects, Resets}
use Rattle.tag.specs.Memory.{shown_from}

-- ---- states

abbrev pub with_state : Tag → StateV → Tag
with_state t y =
    record { uid = t.uid; dsfid = t.dsfid; supports = t.supports; afi = t.afi; blocks = t.blocks; size = t.size; state = y }

-- the tag waits for n EOFs; 0: it is in no round
abbrev pub waiting : ℕ → StateV → StateV
waiting n Off = Off
waiting n (Ready w) = Ready n
waiting n Quiet = Quiet
waiting n (Selected w) = Selected n

-- every row ends a round; stay quiet: Quiet; select: Selected; reset to ready: Ready; all else leaves the state as it is
abbrev pub state_after : Deed → StateV → StateV
state_after Nothing y = waiting 0 y
state_after Quiets y = Quiet
state_after Drops y = Ready 0
state_after Tells y = waiting 0 y
state_after (Waits n) y = waiting n y
state_after (Fails e) y = waiting 0 y
state_after (Reads a n s) y = waiting 0 y
state_after (Writes a n p) y = waiting 0 y
state_after (Locks b) y = waiting 0 y
state_after Selects y = Selected 0
state_after Resets y = Ready 0

-- ---- answers

-- to an inventory: 00, DSFID, UID
abbrev pub told : Tag → List ℕ
told t = 0x00 ∷ t.dsfid ∷ t.uid

-- the row that is sent; an empty one is silence. 00 where a request was done, with what a read shows; 01 and the code of an error
unfoldable pub row_of : Tag → List ℕ → List ℕ → Deed → List ℕ
row_of t memory locks Nothing = []
row_of t memory locks Quiets = []
row_of t memory locks Drops = []
row_of t memory locks Tells = frame_b (told t)
row_of t memory locks (Waits n) = []
row_of t memory locks (Fails e) = frame_b (0x01 ∷ e ∷ [])
row_of t memory locks (Reads a n s) = frame_b (0x00 ∷ shown_from s t.size memory locks a n)
row_of t memory locks (Writes a n p) = frame_b (0x00 ∷ [])
row_of t memory locks (Locks b) = frame_b (0x00 ∷ [])
row_of t memory locks Selects = frame_b (0x00 ∷ [])
row_of t memory locks Resets = frame_b (0x00 ∷ [])

-- ---- memory and locks

-- "a write without error makes the named blocks those sent and changes no other": the sent bytes stand from byte p of the row f on
abbrev pub memory_after : ℕ → List ℕ → Deed → List ℕ → List ℕ
memory_after size f Nothing memory = memory
memory_after size f Quiets memory = memory
memory_after size f Drops memory = memory
memory_after size f Tells memory = memory
memory_after size f (Waits n) memory = memory
memory_after size f (Fails e) memory = memory
memory_after size f (Reads a n s) memory = memory
memory_after size f (Writes a n p) memory = overlay memory (size * a) (bytes_of (size * n) (drop (8 * p) f))
memory_after size f (Locks b) memory = memory
memory_after size f Selects memory = memory
memory_after size f Resets memory = memory

-- a lock closes one block
abbrev pub locks_after : Deed → List ℕ → List ℕ
locks_after Nothing locks = locks
locks_after Quiets locks = locks
locks_after Drops locks = locks
locks_after Tells locks = locks
locks_after (Waits n) locks = locks
locks_after (Fails e) locks = locks
locks_after (Reads a n s) locks = locks
locks_after (Writes a n p) locks = locks
locks_after (Locks b) locks = overlay locks b (1 ∷ [])
locks_after Selects locks = locks
locks_after Resets locks = locks

-- ---- a row f, and an EOF

-- the tag after a row, and what it sends
unfoldable pub takes : Tag → List ℕ → List ℕ → Tag
takes t locks f = with_state t (state_after (deed_of t locks f) t.state)

unfoldable pub answers : Tag → List ℕ → List ℕ → List ℕ → List ℕ
answers t memory locks f = row_of t memory locks (deed_of t locks f)

-- how many EOFs a tag waits for
abbrev pub waits : StateV → ℕ
waits Off = 0
waits (Ready w) = w
waits Quiet = 0
waits (Selected w) = w

-- an EOF begins the next slot: the tag's own, another, or none
unfoldable pub takes_eof : Tag → Tag
takes_eof t = with_state t (waiting (waits t.state - 1) t.state)

unfoldable pub answers_eof : Tag → List ℕ
answers_eof t = cond (eqb (waits t.state) 1) (frame_b (told t)) []

-- ---- power

abbrev pub powered : StateV → StateV
powered Off = Ready 0
powered (Ready w) = Ready w
powered Quiet = Quiet
powered (Selected w) = Selected w

abbrev pub power_on : Tag → Tag
power_on t = with_state t (powered t.state)

abbrev pub power_off : Tag → Tag
power_off t = with_state t Off
