-- Laws for the tag's calls: rooms, and what a write leaves. Assumes nothing.
use Rattle.std.specs.Prelude.{◌≡◌, refl, ℕ, ◌+◌, ◌-◌, ◌*◌, ◌≤◌, ◌<◌, Bool, true, false, cond, not, ◌||◌, List, length, take, drop, ltb}
use Rattle.std.proofs.Common.{mul-le-mul_right, mul_comm, mul-add, mul-le-mul, le_trans, arith, true≢false, length-take, length-drop, take_all, ltb-false}
use Rattle.rows.specs.Rows.{clean}
use Rattle.rows.specs.HeardLaws.{clean_take, clean_drop}
use Rattle.frame_v.specs.FrameV.{bytes_in, sound}
use Rattle.frame_v.specs.FrameVLaws.{sound_is}
use Rattle.refusal.specs.Refusal.{declining, sent_says}
use Rattle.refusal.specs.declared.Refusal.TheVariants.{Room, Argument}
use Rattle.tag.specs.Memory.{geometry}
use Rattle.tag.specs.Tag.{takes, answers, takes_eof, answers_eof}
use Rattle.tag.specs.Calls.{room_for, is_short, answer_of, taken, refused, take_call, take_says, eof_call, eof_says}
use Rattle.request_v.specs.declared.Tag.{Tag}

-- ---- rooms

pub room_96 : (t : Tag) → 96 ≤ room_for t
unfolding room_for
room_96 t = omega arith

pub bytes_fit : (k n m : ℕ) → n ≤ m → n * k ≤ m * k
bytes_fit k n m h = mul-le-mul_right {m = n} {n = m} k h

-- a read of n blocks
pub room_read : (t : Tag) (n : ℕ) → n ≤ t.blocks → 8 * (3 + n * (t.size + 1)) ≤ room_for t
unfolding room_for
room_read t n h = omega (arith, bytes_fit (t.size + 1) n t.blocks h)

-- the bytes of at most 65,535 blocks of at most 256 bytes
pub small_room : (b s : ℕ) → b < 65536 → s ≤ 256 → b * s ≤ 16776960
small_room b s h k = le_trans (mul-le-mul {n₁ = b} {m₁ = s} {n₂ = 65535} {m₂ = 256} (omega arith) k) (omega arith)

-- ---- a write

-- the sent bytes stand in the row
pub sent_there : (f : List ℕ) (p k : ℕ) → sound f ≡ true → p + k ≤ bytes_in f → 8 * k ≤ length (take (length f - 8 * p) (drop (8 * p) f))
sent_there f p k s h = rw (length-take, length-drop) (omega (arith, (sound_is f s).long))

pub rest_clean : (f : List ℕ) (i : ℕ) → sound f ≡ true → clean (take (length f - i) (drop i f)) ≡ true
rest_clean f i s = clean_take (length f - i) (drop i f) (clean_drop i f (sound_is f s).clear)

pub rest_is : (f : List ℕ) (i : ℕ) → take (length f - i) (drop i f) ≡ drop i f
rest_is f i = take_all (length f - i) (drop i f) (rw length-drop (omega arith))

-- named blocks end within the memory
pub named_fit : (size a n blocks : ℕ) → a + n ≤ blocks → size * a + size * n ≤ blocks * size
named_fit size a n blocks h = rw (← mul-add size a n, mul_comm size (a + n)) (bytes_fit size (a + n) blocks h)

-- ---- 1 and 6

pub not_short : (t : Tag) (m l r : ℕ) → is_short t m l r ≡ false → (t.blocks * t.size ≤ m) × (t.blocks ≤ l) × (room_for t ≤ r)
unfolding is_short
not_short t m l r e =
    let a = neither (ltb m (t.blocks * t.size)) (ltb l t.blocks || ltb r (room_for t)) e in
    let b = neither (ltb l t.blocks) (ltb r (room_for t)) a.1 in
    (ltb-false m (t.blocks * t.size) a.0, ltb-false l t.blocks b.0, ltb-false r (room_for t) b.1)
  where
    neither : (a b : Bool) → (a || b) ≡ false → (a ≡ false) × (b ≡ false)
    neither true b e = absurd (true≢false e)
    neither false b e = (refl, e)

-- ---- what the answers say, in the table's numbers

pub take_says_law : (t : Tag) (f memory locks out : List ℕ) → sent_says (take_call t f memory locks out).answer ≡ take_says t f memory locks out
unfolding take_call
take_says_law t f memory locks out = go (is_short t (length memory) (length locks) (length out)) (not (geometry t.blocks t.size))
  where
    go : (a b : Bool)
        → sent_says (cond a (refused t Room) (cond b (refused t Argument) (taken (takes t locks f) (answers t memory locks f)))).answer
        ≡ cond a (declining 1) (cond b (declining 6) (sent_says (answer_of (length (answers t memory locks f)))))
    go true b = refl
    go false true = refl
    go false false = refl

pub eof_says_law : (t : Tag) (room : ℕ) → sent_says (eof_call t room).answer ≡ eof_says t room
unfolding eof_call
eof_says_law t room = go (ltb room 96)
  where
    go : (a : Bool) → sent_says (cond a (refused t Room) (taken (takes_eof t) (answers_eof t))).answer ≡ cond a (declining 1) (sent_says (answer_of (length (answers_eof t))))
    go true = refl
    go false = refl
