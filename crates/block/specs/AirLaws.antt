-- A row that is read to lent bytes, and a block's row that is written. Assumes nothing.
use Rattle.std.specs.Prelude.{◌≡◌, refl, ℕ, ◌+◌, ◌*◌, ◌≤◌, ◌<◌, List, [], ◌∷◌, ◌++◌, length, take, drop, replicate, Result, Ok, Err}
use Rattle.std.specs.Result.{result_unwrap_or}
use Rattle.std.proofs.Common.{sym, ap, ◌∙◌, arith, length-append, length-take, length-take-le}
use Rattle.limits.specs.Limits.{row_room}
use Rattle.rows.specs.Rows.{overlay}
use Rattle.rows.proofs.RowLaws.{overlay_nil, overlay_next, overlay_front, overlay_fits}
use Rattle.crc.specs.Crc.{crc_bytes, with_crc}
use Rattle.frame.specs.Frame.{standard, read_crc}
use Rattle.frame.proofs.FrameLaws.{length_standard, standard_append}
use Rattle.frame.specs.Calls.{good_bytes, read_answer, bytes_after}
use Rattle.frame.proofs.CallLaws.{read_verdict, refused_verdict}
use Rattle.selection.specs.Selection.{size}
use Rattle.refusal.specs.declared.Refusal.{Refusal}
use Rattle.block.specs.declared.Block.{Block}
use Rattle.block.specs.declared.Block.TheVariants.{I, Ack, Nak, Deselect, Wtx, Unknown, Nothing}
use Rattle.block.specs.declared.BlockBytes.{BlockBytes}
use Rattle.block.specs.Block.{block_bytes, bytes_in}
use Rattle.block.specs.Cut.{payload_max, part}
use Rattle.block.specs.CutLaws.{payload_most}
use Rattle.block.specs.HeardLaws.{heard_good}
use Rattle.block.specs.Row.{block_row, heard_row}

-- ---- a row that is read

module _ (own most room : ℕ) (row out out' : List ℕ) (r : Result ℕ Refusal) (s : most ≡ size own) (h : 256 ≤ room) (a : r ≡ read_answer room (read_crc 3 most row)) (m : out' ≡ bytes_after r (read_crc 3 most row) out) where
  good : good_bytes (heard_row own row) ≡ good_bytes (read_crc 3 most row)
  good = heard_good own row ∙ ap (λ n. good_bytes (read_crc 3 n row)) (sym s)

  -- a frame that is not good has no bytes, and nothing is written
  pub row_none : (e : Refusal) → r ≡ Err e
      → (0 ≡ length (good_bytes (heard_row own row))) × (out' ≡ overlay out 0 (good_bytes (heard_row own row)))
  row_none e k =
      let g : good_bytes (heard_row own row) ≡ [] = good ∙ ap good_bytes (refused_verdict room (read_crc 3 most row) r e h a k) in
      (rw g, m ∙ rw (k, g) (sym (overlay_nil out 0)))

  -- the bytes of one that is stand at the front
  pub row_some : (n : ℕ) → r ≡ Ok n
      → (n ≡ length (good_bytes (heard_row own row))) × (out' ≡ overlay out 0 (good_bytes (heard_row own row)))
  row_some n k =
      let v = read_verdict room (read_crc 3 most row) r n out out' a k m in
      let g : good_bytes (heard_row own row) ≡ take n out' = good ∙ ap good_bytes v.0 in
      (sym (rw g v.1), m ∙ rw (k, good))

  pub row_read : (result_unwrap_or r 0 ≡ length (good_bytes (heard_row own row))) × (out' ≡ overlay out 0 (good_bytes (heard_row own row)))
  row_read = go r refl
    where
      go : (x : Result ℕ Refusal) → r ≡ x → (result_unwrap_or r 0 ≡ length (good_bytes (heard_row own row))) × (out' ≡ overlay out 0 (good_bytes (heard_row own row)))
      go (Err e) k = rw k (row_none e k)
      go (Ok n) k = rw k (row_some n k)

-- bytes read to the front of a row are no more than it holds, and are its first ones
pub read_fits : (n : ℕ) (out out' l : List ℕ) → n ≡ length l → out' ≡ overlay out 0 l → n ≤ length out'
read_fits n out out' l e m = rw (e, m) (overlay_fits out l)

pub read_front : (n : ℕ) (out out' l : List ℕ) → n ≡ length l → out' ≡ overlay out 0 l → take n out' ≡ l
read_front n out out' l e m = rw (e, m) (overlay_front out l)

-- ---- a row that is sent

row_is : (l : List ℕ) → 0 < length l → block_row l ≡ standard (with_crc l)
row_is [] h = absurd (omega arith)
row_is (f ∷ p) h = refl

pub row_put_none : (n : ℕ) (d out : List ℕ) → n ≡ 0 → (0 ≡ length (block_row (take n d))) × (out ≡ overlay out 0 (block_row (take n d)))
row_put_none n d out e = rw e (refl, sym (overlay_nil out 0))

pub count_is : (n : ℕ) (d : List ℕ) → n ≤ 254 → length d ≡ 256 → n ≡ length (take n d)
count_is n d h e = sym (length-take-le n d (omega arith))

-- bytes, and behind them their CRC_A
pub row_put : (l crc out q r : List ℕ) (n : ℕ) → 0 < n → n ≤ 254 → row_room ≤ length out → length l ≡ n → crc ≡ crc_bytes l
    → q ≡ overlay out 0 (standard l) → r ≡ overlay q (9 * n) (standard crc)
    → (9 * n + 18 ≡ length (block_row l)) × (r ≡ overlay out 0 (block_row l))
unfolding with_crc crc_bytes
row_put l crc out q r n h m room e k eq er =
    let b : block_row l ≡ standard l ++ standard crc = row_is l (omega arith) ∙ rw (← k) (standard_append l crc) in
    let c : length crc ≡ 2 = rw k in
    let a : 9 * n ≡ 0 + length (standard l) = omega (arith, length_standard l) in (
      rw (b, length-append) (omega (arith, length_standard l, length_standard crc)),
      er ∙ rw (b, eq, a) (overlay_next out 0 (standard l) (standard crc) (omega (arith, length_standard l, length_standard crc))),
    )

-- the bytes of a block, and how many there are at most
pub made_row : (b : BlockBytes) (l : List ℕ) → b ≡ bytes_in l → take b.count b.bytes ≡ l
unfolding bytes_in
made_row b l e = rw e (overlay_front (replicate 256 0) l)

block_most : (b : Block) (i at : ℕ) (m : List ℕ) → length (block_bytes b (part i at m)) ≤ 254
unfolding part
block_most (I n chained) i at m =
    let e : length (take (payload_max i) (drop at m)) ≤ payload_max i = rw length-take (omega arith) in
    omega (arith, e, payload_most i)
block_most (Ack n) i at m = omega arith
block_most (Nak n) i at m = omega arith
block_most Deselect i at m = omega arith
block_most (Wtx v) i at m = omega arith
block_most Unknown i at m = omega arith
block_most Nothing i at m = omega arith

pub sent_most : (b : BlockBytes) (k : Block) (i at : ℕ) (m : List ℕ) → b ≡ bytes_in (block_bytes k (part i at m)) → b.count ≤ 254
unfolding bytes_in
sent_most b k i at m e = rw e (block_most k i at m)
