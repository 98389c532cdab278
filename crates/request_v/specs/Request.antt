-- Document 02, T-10: "stay quiet, select, reset to ready, read and write of single and several blocks, lock, and the error codes in its table 7".
-- What a request other than an inventory makes a tag do. Codes: 02 stay quiet, 20 and 23 read, 21 and 24 write, 22 lock, 25 select, 26 reset to ready;
-- 23 and 24 name several blocks, with their count less one.
use Rattle.std.specs.Prelude.{ℕ, ◌+◌, ◌-◌, ◌*◌, Bool, cond, not, ◌&&◌, ◌||◌, List, take, drop, eqb, leb, ltb, Result, Ok, Err}
use Rattle.rows.specs.Rows.{any}
use Rattle.frame_b.specs.FrameB.{byte_at}
use Rattle.frame_v.specs.FrameV.{bytes_in, sound}
use Rattle.request_v.specs.Flags.{flags_of, formed, is_off, is_quiet, is_selected}
use Rattle.request_v.specs.Inventory.{matching, inventory_deed}
use Rattle.request_v.specs.declared.Tag.{Tag}
use Rattle.request_v.specs.declared.Flags.{Flags}
use Rattle.request_v.specs.declared.Deed.{Deed}
use Rattle.request_v.specs.declared.Deed.TheVariants.{Nothing, Quiets, Drops, Fails, Reads, Writes, Locks, Selects, Resets}

-- ---- commands: a is the first byte of the parameters, b the second, m how many bytes of parameters there are

abbrev pub is_many : ℕ → Bool
is_many code = eqb code 0x23 || eqb code 0x24

abbrev pub is_write : ℕ → Bool
is_write code = eqb code 0x21 || eqb code 0x24

abbrev pub is_read : ℕ → Bool
is_read code = eqb code 0x20 || eqb code 0x23

abbrev pub is_command : ℕ → Bool
is_command code = leb 0x20 code && leb code 0x26

-- how many blocks a command names; select and reset to ready name none
unfoldable pub count_of : ℕ → ℕ → ℕ
count_of code b = cond (is_many code) (b + 1) (cond (leb code 0x22) 1 0)

-- how many bytes its parameters have: the first block; of 23 and 24 the count; of a write the blocks' bytes; select and reset to ready have none
unfoldable pub length_due : ℕ → ℕ → ℕ → ℕ
length_due size code b =
    cond (leb 0x25 code) 0
    (cond (eqb code 0x24) (2 + (b + 1) * size)
    (cond (eqb code 0x23) 2
    (cond (eqb code 0x21) (1 + size) 1)))

-- "names an absent block": n blocks from a on, where there are so many
unfoldable pub absent : ℕ → ℕ → ℕ → Bool
absent blocks a n = not (eqb n 0) && ltb blocks (a + n)

-- a lock is a byte for each block, 0 where it is open
abbrev pub is_lock : ℕ → Bool
is_lock l = not (eqb l 0)

-- one of the named blocks is locked
unfoldable pub any_locked : List ℕ → ℕ → ℕ → Bool
any_locked locks first count = any is_lock (take count (drop first locks))

-- 11: a lock of a locked block; "a write that names a locked one changes nothing and gets 12"
unfoldable pub lock_error : ℕ → Bool → ℕ
lock_error code locked = cond locked (cond (eqb code 0x22) 0x11 (cond (is_write code) 0x12 0)) 0

-- 03: only reads know the Option flag
unfoldable pub option_error : Flags → ℕ → ℕ
option_error q code = cond (q.option && not (is_read code)) 0x03 0

-- The error, 0 for none; the first that fits. 01: a code that is none of these; 02: a wrong length; "A request that names an absent block changes nothing and
-- gets 10; else a write that names a locked one changes nothing and gets 12"; the Option flag comes last
unfoldable pub error_of : Tag → Flags → List ℕ → ℕ → ℕ → ℕ → ℕ → ℕ
error_of t q locks code m a b =
    cond (not (is_command code)) 0x01
    (cond (not (eqb m (length_due t.size code b))) 0x02
    (cond (absent t.blocks a (count_of code b)) 0x10
    (let e : ℕ = lock_error code (any_locked locks a (count_of code b)) in
    cond (eqb e 0) (option_error q code) e)))

-- an error as the code has it: Err with its number, Ok for 0
abbrev pub unless : ℕ → Result Unit ℕ
unless e = cond (eqb e 0) (Ok tt) (Err e)

-- 01 and 02 are answered only where the Address flag or the Select flag is set
unfoldable pub fails_with : Flags → ℕ → Deed
fails_with q e = cond (leb e 0x02 && not (q.fifth || q.sixth)) Nothing (Fails e)

-- a command without error; its parameters begin at byte p of the row
unfoldable pub done_of : Flags → ℕ → ℕ → ℕ → ℕ → Deed
done_of q code p a b =
    cond (is_read code) (Reads a (count_of code b) q.option)
    (cond (eqb code 0x21) (Writes a 1 (p + 1))
    (cond (eqb code 0x24) (Writes a (count_of code b) (p + 2))
    (cond (eqb code 0x22) (Locks a)
    (cond (eqb code 0x25) Selects Resets))))

unfoldable pub command_deed : Tag → Flags → List ℕ → ℕ → ℕ → ℕ → ℕ → ℕ → Deed
command_deed t q locks code p m a b =
    let e : ℕ = error_of t q locks code m a b in
    cond (eqb e 0) (done_of q code p a b) (fails_with q e)

-- ---- requests

-- the row holds this UID behind its code
unfoldable pub is_own : List ℕ → List ℕ → Bool
is_own uid f = leb 10 (bytes_in f) && matching uid f 16 64

-- Address flag: only the tag with this UID; Select flag: only a selected tag; neither: every tag that is not quiet
unfoldable pub meant : Tag → Flags → List ℕ → Bool
meant t q f = cond q.sixth (is_own t.uid f) (cond q.fifth (is_selected t.state) (not (is_quiet t.state)))

-- addressed, no Option flag, a UID and nothing behind it: the one form that stay quiet and select have
unfoldable pub is_bare : Flags → ℕ → Bool
is_bare q n = q.sixth && (not q.option && eqb n 10)

-- the parameters stand behind the code, or behind the UID
abbrev pub parameters_at : Flags → ℕ
parameters_at q = cond q.sixth 10 2

-- stay quiet is never answered, and has no effect in any other form
abbrev pub quiet_deed : Bool → Deed
quiet_deed bare = cond bare Quiets Nothing

-- a select that is not addressed
abbrev pub lone_select : ℕ → Bool → Bool
lone_select code addressed = eqb code 0x25 && not addressed

-- a command, with its parameters
unfoldable pub asked_deed : Tag → Flags → List ℕ → ℕ → List ℕ → Deed
asked_deed t q locks code f =
    let p : ℕ = parameters_at q in
    command_deed t q locks code p (bytes_in f - p) (byte_at p f) (byte_at (p + 1) f)

-- a request that is meant for the tag; inventory without its flag is nothing
unfoldable pub own_deed : Tag → Flags → List ℕ → List ℕ → Deed
own_deed t q locks f =
    let code : ℕ = byte_at 1 f in
    cond (eqb code 0x01) Nothing
    (cond (eqb code 0x02) (quiet_deed (is_bare q (bytes_in f)))
    (cond (lone_select code q.sixth) Nothing
    (asked_deed t q locks code f)))

-- of requests for others a tag heeds one: a selected tag that hears another one selected is selected no more
unfoldable pub other_deed : Tag → Flags → List ℕ → Deed
other_deed t q f = cond (is_selected t.state && (eqb (byte_at 1 f) 0x25 && is_bare q (bytes_in f))) Drops Nothing

unfoldable pub request_deed : Tag → Flags → List ℕ → List ℕ → Deed
request_deed t q locks f = cond (meant t q f) (own_deed t q locks f) (other_deed t q f)

-- ---- every row

-- damage, and flags q that it cannot read, make a tag do nothing; nor does a tag without power
unfoldable pub deed_by : Tag → Flags → List ℕ → List ℕ → Deed
deed_by t q locks f = cond (not (is_off t.state) && (sound f && formed q)) (cond q.inventory (inventory_deed t q f) (request_deed t q locks f)) Nothing

unfoldable pub deed_of : Tag → List ℕ → List ℕ → Deed
deed_of t locks f = deed_by t (flags_of (byte_at 0 f)) locks f
