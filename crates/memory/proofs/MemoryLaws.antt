-- The reader of a sweep that remembers, by the row that it has found so far: what it does with each good answer. Assumes nothing.
use Rattle.std.specs.Prelude.{◌≡◌, refl, ℕ, zero, suc, ◌+◌, ◌*◌, ◌≤◌, ◌<◌, Bool, true, false, cond, List, [], ◌++◌, length, take, drop, get_or, Ok}
use Rattle.std.proofs.Common.{ap, drop_at, arith}
use Rattle.std.proofs.Math.Seq.{take_at, take_all}
use borrow.Author.Tests.{lt-ltb, le-ltb}
use Rattle.rows.specs.Rows.{is_nil, Bits}
use Rattle.frame.specs.ByteLaws.{bits_bytes_take}
use Rattle.frame.specs.Frame.{air_bits, bytes_of}
use Rattle.uid.specs.Uid.{place}
use Rattle.uid.specs.UidLaws.{so_far}
use Rattle.selection.specs.Heard.{read_rest, rest_of, read_atqa}
use Rattle.selection.specs.Selection.{sak_frame}
use Rattle.reader.specs.Reader as Plain
use Rattle.reader.specs.Reader.{blank, turn, sends, finds, hear_atqa, contradicts}
use Rattle.reader.specs.ReaderLaws.{lvl, place_lvl, knows, closing, asking, opened, selecting, closed, hears_atqa, hears_whole, hears_collided, hears_more, hears_last, hears_silence}
use Rattle.memory.specs.Memory.{recall, bits, branch, known, keeping, learnt, enters, higher, comes, stays, hear}
use Rattle.selection.specs.declared.RestSays.TheVariants.{Whole, Collided}
use Rattle.reader.specs.declared.Phase.TheVariants.{ReqaSent, AnticollisionSent, SelectSent, Finished}
use Rattle.reader.specs.declared.Answer.TheVariants.{Finishes}
use Rattle.reader.specs.declared.Turn.{Turn}

-- ---- a level comes next

-- level j, P being the levels before, with the path w
unfoldable pub entering : ℕ → List ℕ → List ℕ → Turn
entering j P w = enters (lvl j) (knows (AnticollisionSent (lvl j)) (so_far j P) []) w

module _ (j : ℕ) (P w : List ℕ) (hj : j < 3) (h_p : length P ≡ 40 * j) where
  known_is : (Z : List ℕ) → bits w ≡ P ++ Z → known (lvl j) w ≡ take 40 Z
  unfolding known
  known_is Z e = rw (place_lvl j hj, e) (ap (take 40) (drop_at P Z (40 * j) h_p))

  -- some of its bits are known
  pub enters_open : (K : List ℕ) → bits w ≡ P ++ K → length K < 40 → entering j P w ≡ opened j P K
  unfolding entering enters opened knows
  enters_open K e h = rw (known_is K e, take_all 40 K (omega arith), lt-ltb (length K) 40 h)

  -- all are
  pub enters_known : (X Z : List ℕ) → bits w ≡ P ++ (X ++ Z) → length X ≡ 40 → entering j P w ≡ selecting j P X
  unfolding entering enters selecting knows
  enters_known X Z e h = rw (known_is (X ++ Z) e, take_at X Z 40 h, le-ltb (length X) 40 (omega arith))

-- ---- what it hears

pub recalls_atqa : (w h : List ℕ) → is_nil h ≡ false → read_atqa h ≡ (Ok tt) → hear (blank ReqaSent true) w h ≡ recall (entering 0 [] (branch w)) (branch w)
unfolding hear comes opened sends entering lvl
recalls_atqa w h n e = rw (hears_atqa h n e)

pub recalls_end : (w : List ℕ) → hear (blank ReqaSent true) w [] ≡ recall (turn (blank Finished false) Finishes) []
unfolding hear comes Plain.hear hear_atqa is_nil
recalls_end w = refl

pub learns : (K e : List ℕ) → Bits (K ++ e) → length (K ++ e) ≤ 40 → drop (length K) (take (length (K ++ e)) (air_bits (bytes_of 5 (K ++ e)))) ≡ e
learns K e b h = rw (bits_bytes_take 5 (K ++ e) b h) (drop_at K e (length K) refl)

module _ (j : ℕ) (P K e w h : List ℕ) (hj : j < 3) (hw : length w ≡ 40 * j + length K) (b : Bits (K ++ e)) (m : length (K ++ e) ≤ 40) where
  all_known : take (40 * place (lvl j) + length K) w ≡ w
  all_known = rw (place_lvl j hj) (take_all (40 * j + length K) w (omega arith))

  pub recalls_whole : read_rest (length K) (bytes_of 5 K) h ≡ rest_of Whole (K ++ e)
      → hear (knows (AnticollisionSent (lvl j)) (so_far j P) K) w h ≡ recall (selecting j P (K ++ e)) (w ++ e)
  unfolding hear stays knows learnt rest_of selecting sends
  recalls_whole r = rw (r, hears_whole j P K (K ++ e) h r, learns K e b m, all_known)

  pub recalls_collided : read_rest (length K) (bytes_of 5 K) h ≡ rest_of Collided (K ++ e)
      → hear (knows (AnticollisionSent (lvl j)) (so_far j P) K) w h ≡ recall (opened j P (K ++ e)) (w ++ keeping e)
  unfolding hear stays knows learnt rest_of opened sends
  recalls_collided r = rw (r, hears_collided j P K (K ++ e) h r, learns K e b m, all_known)

higher_lvl : (j : ℕ) → suc j < 3 → higher (lvl j) ≡ lvl (suc j)
unfolding lvl
higher_lvl zero h = refl
higher_lvl (suc zero) h = refl
higher_lvl (suc (suc j)) h = absurd (omega arith)

module _ (j : ℕ) (P X w : List ℕ) (h_p : length P ≡ 40 * j) (h_x : length X ≡ 40) where
  pub recalls_more : suc j < 3 → contradicts (lvl j) true (get_or (bytes_of 5 X) 0 0) ≡ false
      → hear (knows (SelectSent (lvl j)) (so_far j P) X) w (sak_frame 0x04) ≡ recall (entering (suc j) (P ++ X) w) w
  unfolding hear comes knows opened sends entering
  recalls_more h fits = rw (hears_more j P X h_p h_x h fits, higher_lvl j h)

  pub recalls_last : (b : Bool) → j < 3 → contradicts (lvl j) false (get_or (bytes_of 5 X) 0 0) ≡ false
      → hear (knows (SelectSent (lvl j)) (so_far j P) X) w (sak_frame (cond b 0x20 0x00)) ≡ recall (closed (P ++ X) (cond b 0x20 0x00)) w
  unfolding hear comes knows closed finds
  recalls_last b h fits = rw (hears_last j P X h_p h_x b h fits)

pub recalls_silence : (P w : List ℕ) (b : ℕ) → hear (closing P b) w [] ≡ recall asking w
unfolding hear stays closing asking sends
recalls_silence P w b = rw (hears_silence P b)
