-- The reader in a sweep, by the row that it has found so far: what it holds, the UID's bytes of the levels before and the known bits of a
-- level, and what it does with each good answer. Assumes nothing.
use Rattle.std.specs.Prelude.{◌≡◌, refl, Bool, cond, List, [], ◌++◌, length, take, drop, replicate, get_or, Ok}
use Prim.Native.Nat.{ℕ, zero, suc, ◌+◌, ◌-◌, ◌*◌, ◌/◌, ◌≤◌, ◌<◌}
use Rattle.std.proofs.Math.Bool.{true, false}
use Rattle.std.proofs.Common.{length-append, length-take, length-drop, take_at, arith}
use Rattle.rows.specs.Rows.{is_nil, fill}
use Rattle.parity.specs.Bits.{unbits}
use Rattle.frame.specs.ByteLaws.{length_bytes}
use Rattle.frame.specs.Frame.{bytes_of}
use Rattle.uid.specs.LevelLaws.{InLevels, wide, lev_next, lev_head}
use Rattle.uid.specs.Uid.{byte_count, place, uid_bytes}
use Rattle.uid.specs.UidLaws.{so_far, name}
use Rattle.selection.specs.Heard.{read_rest, rest_of, read_atqa}
use Rattle.selection.specs.SakLaws.{reads_more, reads_last}
use Rattle.selection.specs.Selection.{sak_frame}
use Rattle.reader.specs.Reader.{reader, blank, hear, longer, after_sak, contradicts, hear_silence, hear_atqa, uid, opens, completes, sends, finds, hear_rest, hear_sak}
use Rattle.uid.specs.declared.Level.{Level}
use Rattle.uid.specs.declared.Level.TheVariants.{One, Two, Three}
use Rattle.uid.specs.declared.UidSize.{UidSize}
use Rattle.uid.specs.declared.UidSize.TheVariants.{Single, Double, Triple}
use Rattle.selection.specs.declared.RestSays.TheVariants.{Whole, Collided}
use Rattle.reader.specs.declared.Phase.{Phase}
use Rattle.reader.specs.declared.Phase.TheVariants.{ReqaSent, AnticollisionSent, SelectSent, HltaSent}
use Rattle.reader.specs.declared.Reader.{Reader}
use Rattle.reader.specs.declared.Turn.{Turn}

-- ---- levels by number

unfoldable pub lvl : ℕ → Level
lvl zero = One
lvl (suc zero) = Two
lvl (suc (suc j)) = Three

pub place_lvl : (j : ℕ) → j < 3 → place (lvl j) ≡ j
unfolding lvl
place_lvl zero h = refl
place_lvl (suc zero) h = refl
place_lvl (suc (suc zero)) h = refl
place_lvl (suc (suc (suc j))) h = absurd (omega arith)

unfoldable pub size_at : ℕ → UidSize
size_at zero = Single
size_at (suc zero) = Double
size_at (suc (suc j)) = Triple

bytes_at_law : (j : ℕ) → j < 3 → byte_count (size_at j) ≡ 4 + 3 * j
unfolding size_at
bytes_at_law zero h = refl
bytes_at_law (suc zero) h = refl
bytes_at_law (suc (suc zero)) h = refl
bytes_at_law (suc (suc (suc j))) h = absurd (omega arith)

-- ---- the UID that the reader holds

length_so_far : (j : ℕ) (r : List ℕ) → length (so_far j r) ≡ 3 * j
unfolding so_far
length_so_far zero r = refl
length_so_far (suc j) r = rw (length-append, length_so_far j r, length-drop, length-take, length_bytes) (omega arith)

so_far_head : (j : ℕ) (P X : List ℕ) → 40 * j ≤ length P → so_far j (P ++ X) ≡ so_far j P
unfolding so_far
so_far_head zero P X h = refl
so_far_head (suc j) P X h = rw (so_far_head j P X (omega arith), lev_head j P X h)

module _ (j : ℕ) (P X : List ℕ) (h_p : length P ≡ 40 * j) (h_x : length X ≡ 40) where
  so_far_next : so_far (suc j) (P ++ X) ≡ so_far j P ++ drop 1 (take 4 (bytes_of 5 X))
  unfolding so_far
  so_far_next = rw (so_far_head j P X (omega arith), lev_next j P X h_p h_x)

  last_level : length (P ++ X) / 40 - 1 ≡ j
  last_level = rw length-append (omega arith)

  name_next : name (P ++ X) ≡ so_far j P ++ take 4 (bytes_of 5 X)
  unfolding name
  name_next = rw (last_level, so_far_head j P X (omega arith), lev_next j P X h_p h_x)

-- a reader in a sweep that knows the bits d of a level and the UID's bytes u of the levels before
unfoldable pub knows : Phase → List ℕ → List ℕ → Reader
knows p u d = reader p true (bytes_of 5 d) (length d) (uid Single u) 0

-- the reader adds a level's bytes
longer_is : (j : ℕ) (P X : List ℕ) (n : ℕ) → j < 3 → longer (lvl j) (knows (SelectSent (lvl j)) (so_far j P) X) n ≡ so_far j P ++ drop n (take 4 (bytes_of 5 X))
unfolding longer knows fill
longer_is j P X n h = rw (place_lvl j h, take_at (so_far j P) (replicate (10 - length (so_far j P)) 0) (3 * j) (length_so_far j P))

-- the reader whose HLTA goes out: P is the row that was found, b its last SAK
unfoldable pub closing : List ℕ → ℕ → Reader
closing P b = reader HltaSent true (replicate 5 0) 0 (uid (size_at (length P / 40 - 1)) (name P)) b

module _ (P X : List ℕ) (b : ℕ) (h_x : length X ≡ 40) where
  after_more : (j : ℕ) → suc j < 3 → length P ≡ 40 * j
      → after_sak (lvl j) (knows (SelectSent (lvl j)) (so_far j P) X) b true ≡ sends (knows (AnticollisionSent (lvl (suc j))) (so_far (suc j) (P ++ X)) [])
  unfolding lvl opens knows bytes_of unbits
  after_more zero h h_p = rw (longer_is 0 P X 1 (omega arith), so_far_next 0 P X h_p h_x)
  after_more (suc zero) h h_p = rw (longer_is 1 P X 1 (omega arith), so_far_next 1 P X h_p h_x)
  after_more (suc (suc j)) h h_p = absurd (omega arith)

  after_last : (j : ℕ) → j < 3 → length P ≡ 40 * j → after_sak (lvl j) (knows (SelectSent (lvl j)) (so_far j P) X) b false ≡ finds (closing (P ++ X) b)
  unfolding lvl completes knows closing size_at
  after_last zero h h_p = rw (longer_is 0 P X 0 h, last_level 0 P X h_p h_x, name_next 0 P X h_p h_x)
  after_last (suc zero) h h_p = rw (longer_is 1 P X 0 h, last_level 1 P X h_p h_x, name_next 1 P X h_p h_x)
  after_last (suc (suc zero)) h h_p = rw (longer_is 2 P X 0 h, last_level 2 P X h_p h_x, name_next 2 P X h_p h_x)
  after_last (suc (suc (suc j))) h h_p = absurd (omega arith)

-- the UID that the reader has when HLTA goes out
pub found_closing : (P : List ℕ) (b : ℕ) → InLevels 3 P → uid_bytes (closing P b).uid ≡ name P
unfolding closing fill wide name uid_bytes
found_closing P b w =
    let j : ℕ = length P / 40 - 1 in
    let h : j < 3 = omega (arith, w.one_level, w.levels_only, w.at_most) in
    let n : length (name P) ≡ byte_count (size_at j) = rw (bytes_at_law j h, length-append, length_so_far, length-take, length_bytes) (omega arith) in
    take_at (name P) (replicate (10 - length (name P)) 0) (byte_count (size_at j)) n

-- ---- the turns of a reader in a sweep

-- REQA comes next
unfoldable pub asking : Turn
asking = sends (blank ReqaSent true)

-- ANTICOLLISION of level j with the bits K comes next, P being the levels before
unfoldable pub opened : ℕ → List ℕ → List ℕ → Turn
opened j P K = sends (knows (AnticollisionSent (lvl j)) (so_far j P) K)

-- SELECT of level j with the bits X comes next
unfoldable pub selecting : ℕ → List ℕ → List ℕ → Turn
selecting j P X = sends (knows (SelectSent (lvl j)) (so_far j P) X)

-- HLTA comes next, and the UID of the row P is announced
unfoldable pub closed : List ℕ → ℕ → Turn
closed P b = finds (closing P b)

-- ---- what it hears

pub hears_atqa : (h : List ℕ) → is_nil h ≡ false → read_atqa h ≡ (Ok tt) → hear (blank ReqaSent true) h ≡ opened 0 [] []
unfolding hear hear_atqa opens opened knows lvl so_far bytes_of unbits
hears_atqa h n e = rw (n, e)

pub hears_whole : (j : ℕ) (P K d h : List ℕ) → read_rest (length K) (bytes_of 5 K) h ≡ rest_of Whole d → hear (knows (AnticollisionSent (lvl j)) (so_far j P) K) h ≡ selecting j P d
unfolding hear hear_rest knows selecting rest_of
hears_whole j P K d h e = rw e

pub hears_collided : (j : ℕ) (P K d h : List ℕ) → read_rest (length K) (bytes_of 5 K) h ≡ rest_of Collided d → hear (knows (AnticollisionSent (lvl j)) (so_far j P) K) h ≡ opened j P d
unfolding hear hear_rest knows opened rest_of
hears_collided j P K d h e = rw e

module _ (j : ℕ) (P X : List ℕ) (h_p : length P ≡ 40 * j) (h_x : length X ≡ 40) where
  pub hears_more : suc j < 3 → contradicts (lvl j) true (get_or (bytes_of 5 X) 0 0) ≡ false
      → hear (knows (SelectSent (lvl j)) (so_far j P) X) (sak_frame 0x04) ≡ opened (suc j) (P ++ X) []
  unfolding hear hear_sak knows opened
  hears_more h fits = rw (reads_more, fits) (unfold knows in after_more P X 0x04 h_x j h h_p)

  pub hears_last : (b : Bool) → j < 3 → contradicts (lvl j) false (get_or (bytes_of 5 X) 0 0) ≡ false
      → hear (knows (SelectSent (lvl j)) (so_far j P) X) (sak_frame (cond b 0x20 0x00)) ≡ closed (P ++ X) (cond b 0x20 0x00)
  unfolding hear hear_sak knows closed
  hears_last true h fits = rw (reads_last true, fits) (after_last P X 0x20 h_x j h h_p)
  hears_last false h fits = rw (reads_last false, fits) (after_last P X 0x00 h_x j h h_p)

pub hears_silence : (P : List ℕ) (b : ℕ) → hear (closing P b) [] ≡ asking
unfolding hear hear_silence is_nil closing asking
hears_silence P b = refl
