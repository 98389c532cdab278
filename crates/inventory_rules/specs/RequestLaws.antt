-- What a round's request makes a tag do: the reader's writing read back by the tag. Assumes nothing.
use Rattle.std.specs.Prelude.{◌≡◌, refl, Bool, cond, not, ◌&&◌, drop, replicate}
use Rattle.std.proofs.Common.{sym, ◌∙◌, length-append, length-take, drop_at}
use Rattle.std.proofs.Math.Path.{ap}
use Prim.Native.Nat.{ℕ, zero, suc, ◌+◌, ◌-◌, ◌*◌, ◌/◌, ◌≤◌, ◌<◌}
use native.Mathlib.Omega.{arith}
use Rattle.std.proofs.Math.Bool.{true, false}
use mathlib.Core.List.{List, [], ◌∷◌, ◌++◌, append_assoc}
use Rattle.std.proofs.Math.ListN.{length, take}
use Rattle.std.proofs.lemmas.List.{length-replicate}
use Rattle.std.proofs.Math.Seq.{take-append-add, take_at, take-append-le, take-take}
use borrow.Author.Tests.{eq-eqb, le-leb}
use Rattle.rows.specs.Rows.{Bits, Bytes, fill, same}
use Rattle.rows.specs.ListLaws.{all_take_law, all_append}
use Rattle.parity.specs.Bits.{bits_of}
use Rattle.parity.specs.BitLaws.{length_bits}
use Rattle.crc.specs.CrcOf.{with_of, crc_bytes_b}
use Rattle.frame.specs.Frame.{air_bits}
use Rattle.frame.specs.ByteLaws.{length_air_bits, air_bits_append, bits_bytes_all, bytes_fit, length_bytes}
use Rattle.frame_b.specs.FrameB.{frame_b, byte_at}
use Rattle.frame_b.specs.FrameBLaws.{length_frame, byte_behind}
use Rattle.frame_v.specs.FrameV.{bytes_in, sound}
use Rattle.frame_v.specs.FrameVLaws.{sound_frame}
use Rattle.selection_b.specs.TakenB.{admits}
use Rattle.request_v.specs.Flags.{formed, is_off, listens}
use Rattle.request_v.specs.Inventory.{is_inventory, admitted, matching, slot_of, turn_in, inventory_deed}
use Rattle.request_v.specs.Request.{deed_by, deed_of}
use Rattle.request_v.specs.declared.Tag.{Tag}
use Rattle.request_v.specs.declared.StateV.{StateV}
use Rattle.request_v.specs.declared.StateV.TheVariants.{Off, Ready, Quiet, Selected}
use Rattle.request_v.specs.declared.Deed.{Deed}
use Rattle.request_v.specs.declared.Deed.TheVariants.{Nothing}
use Rattle.sent_v.specs.Sent.{cut_mask, round_bytes}
use Rattle.sent_v.specs.SentLaws.{cut_bits}
use Rattle.reader_v.specs.CallsV.{round_for, round_frame}
use Rattle.inventory_rules.specs.Claim.{takes_part}

-- ---- the mask on the air

air_bits_take : (n : ℕ) (l : List ℕ) → air_bits (take n l) ≡ take (8 * n) (air_bits l)
unfolding air_bits
air_bits_take zero l = refl
air_bits_take (suc n) [] = let e : 8 * suc n ≡ suc (7 + 8 * n) = omega arith in rw e
air_bits_take (suc n) (b ∷ l) =
    let e : 8 * suc n ≡ length (bits_of 8 b) + 8 * n = rw length_bits (omega arith) in
    rw e (ap (λ r. bits_of 8 b ++ r) (air_bits_take n l) ∙ sym (take-append-add (bits_of 8 b) (air_bits l) (8 * n)))

pub fill_bits : (l : List ℕ) → Bits l → Bits (fill 64 l)
unfolding fill
fill_bits l b = all_append (λ x. x < 2) l (replicate (64 - length l) 0) b (none (64 - length l))
  where
    none : (n : ℕ) → Bits (replicate n 0)
    none zero = tt
    none (suc n) = (omega arith, none n)

pub length_fill : (l : List ℕ) → length l ≤ 64 → length (fill 64 l) ≡ 64
unfolding fill
length_fill l h = rw (length-append, length-replicate) (omega arith)

module _ (mask : List ℕ) (len : ℕ) (h : len ≤ 64) (e : length mask ≡ 8) where
  mask_bits : List ℕ
  mask_bits = take len (air_bits mask)

  length_mask : length mask_bits ≡ len
  unfolding mask_bits
  length_mask = rw (length-take, length_air_bits) (omega arith)

  cut_air : air_bits (cut_mask mask len) ≡ fill 64 mask_bits
  unfolding cut_mask mask_bits
  cut_air = bits_bytes_all 8 (fill 64 (take len (air_bits mask))) (fill_bits _ (cut_bits mask len)) (length_fill _ (rw (length-take, length_air_bits) (omega arith)))

  length_cut : length (cut_mask mask len) ≡ 8
  unfolding cut_mask
  length_cut = length_bytes 8 (fill 64 (take len (air_bits mask)))

  pub length_sent : length (take ((len + 7) / 8) (cut_mask mask len)) ≡ (len + 7) / 8
  length_sent = rw (length-take, length_cut) (omega arith)

  pub bytes_sent : Bytes (take ((len + 7) / 8) (cut_mask mask len))
  unfolding cut_mask
  bytes_sent = all_take_law (λ x. x < 256) ((len + 7) / 8) _ (bytes_fit 8 (fill 64 (take len (air_bits mask))) (fill_bits _ (cut_bits mask len)))

  -- the mask bytes that are sent, and whatever is behind them
  pub mask_sent : (r : List ℕ) → take len (air_bits (take ((len + 7) / 8) (cut_mask mask len)) ++ r) ≡ take len (air_bits mask)
  unfolding mask_bits
  mask_sent r =
      let n : ℕ = (len + 7) / 8 in
      let a : air_bits (take n (cut_mask mask len)) ≡ take (8 * n) (fill 64 mask_bits) = air_bits_take n (cut_mask mask len) ∙ ap (take (8 * n)) cut_air in
      let b : len ≤ length (air_bits (take n (cut_mask mask len))) = rw (length_air_bits, length_sent) (omega arith) in
      take-append-le len (air_bits (take n (cut_mask mask len))) r b ∙ ap (take len) a ∙ take-take len (8 * n) (fill 64 mask_bits) (omega arith) ∙ front
    where
      front : take len (fill 64 mask_bits) ≡ take len (air_bits mask)
      front = unfold fill in take_at mask_bits (replicate (64 - length mask_bits) 0) len length_mask

-- ---- the request: flags x, 01, p (the AFI or nothing), the mask's length, its bytes mb

behind : (p l : List ℕ) → drop (8 * length p) (frame_b (p ++ l)) ≡ air_bits l ++ air_bits (crc_bytes_b (p ++ l))
unfolding frame_b with_of
behind p l =
    let c : List ℕ = crc_bytes_b (p ++ l) in
    rw (append_assoc p l c, air_bits_append p (l ++ c), drop_at (air_bits p) (air_bits (l ++ c)) (8 * length p) (length_air_bits p)) (air_bits_append l c)

bytes_in_law : (l : List ℕ) → bytes_in (frame_b l) ≡ length l
bytes_in_law l = omega (arith, length_frame l)

-- a tag without power, and a request that only a listening tag takes
off_too : (y : StateV) (b : Bool) (x : Deed) → cond (not (is_off y) && true) (cond (listens y && b) x Nothing) Nothing ≡ cond (listens y && b) x Nothing
off_too Off b x = refl
off_too (Ready w) b x = refl
off_too Quiet b x = refl
off_too (Selected w) b x = refl

module _ (afi len : ℕ) (mask : List ℕ) (ha : afi < 256) (h : len ≤ 60) (e : length mask ≡ 8) (t : Tag) where
  mb : List ℕ
  mb = take ((len + 7) / 8) (cut_mask mask len)

  all_bytes : (p : List ℕ) → Bytes p → Bytes (p ++ (len ∷ mb))
  unfolding mb
  all_bytes p b = all_append (λ x. x < 256) p (len ∷ take ((len + 7) / 8) (cut_mask mask len)) b (omega arith, bytes_sent mask len (omega arith) e)

  -- without an AFI
  plain : List ℕ
  plain = 0x06 ∷ 0x01 ∷ len ∷ mb

  plain_deed : deed_of t [] (frame_b plain) ≡ cond (listens t.state && same (take len (air_bits mask)) (take len (air_bits t.uid))) (turn_in false (slot_of t.uid len)) Nothing
  unfolding deed_of deed_by inventory_deed is_inventory admitted matching formed plain mb
  plain_deed =
      let f : List ℕ = frame_b (0x06 ∷ 0x01 ∷ len ∷ take ((len + 7) / 8) (cut_mask mask len)) in
      let b₀ : byte_at 0 f ≡ 0x06 = byte_behind [] _ 0x06 (omega arith) in
      let b₁ : byte_at 1 f ≡ 0x01 = byte_behind (0x06 ∷ []) _ 0x01 (omega arith) in
      let b₂ : byte_at 2 f ≡ len = byte_behind (0x06 ∷ 0x01 ∷ []) _ len (omega arith) in
      let n : bytes_in f ≡ 3 + (len + 7) / 8 = bytes_in_law _ ∙ omega (arith, length_sent mask len (omega arith) e) in
      let s : sound f ≡ true = sound_frame _ (all_bytes (0x06 ∷ 0x01 ∷ []) (omega arith, (omega arith, tt))) (omega arith) in
      let m : take len (drop 24 f) ≡ take len (air_bits mask) = ap (take len) (behind (0x06 ∷ 0x01 ∷ len ∷ []) _) ∙ mask_sent mask len (omega arith) e _ in
      rw (b₀, b₁, b₂, s, n, le-leb len 60 h, eq-eqb (3 + (len + 7) / 8) (2 + 1 + (len + 7) / 8) (omega arith), m)
      (off_too t.state (same (take len (air_bits mask)) (take len (air_bits t.uid))) (turn_in false (slot_of t.uid len)))

  -- with one
  asked : List ℕ
  asked = 0x16 ∷ 0x01 ∷ afi ∷ len ∷ mb

  asked_deed_law : deed_of t [] (frame_b asked)
      ≡ cond (listens t.state && ((t.supports && admits afi t.afi) && same (take len (air_bits mask)) (take len (air_bits t.uid)))) (turn_in false (slot_of t.uid len)) Nothing
  unfolding deed_of deed_by inventory_deed is_inventory admitted matching formed asked mb
  asked_deed_law =
      let f : List ℕ = frame_b (0x16 ∷ 0x01 ∷ afi ∷ len ∷ take ((len + 7) / 8) (cut_mask mask len)) in
      let b₀ : byte_at 0 f ≡ 0x16 = byte_behind [] _ 0x16 (omega arith) in
      let b₁ : byte_at 1 f ≡ 0x01 = byte_behind (0x16 ∷ []) _ 0x01 (omega arith) in
      let b₂ : byte_at 2 f ≡ afi = byte_behind (0x16 ∷ 0x01 ∷ []) _ afi ha in
      let b₃ : byte_at 3 f ≡ len = byte_behind (0x16 ∷ 0x01 ∷ afi ∷ []) _ len (omega arith) in
      let n : bytes_in f ≡ 4 + (len + 7) / 8 = bytes_in_law _ ∙ omega (arith, length_sent mask len (omega arith) e) in
      let s : sound f ≡ true = sound_frame _ (all_bytes (0x16 ∷ 0x01 ∷ afi ∷ []) (omega arith, (omega arith, (ha, tt)))) (omega arith) in
      let m : take len (drop 32 f) ≡ take len (air_bits mask) = ap (take len) (behind (0x16 ∷ 0x01 ∷ afi ∷ len ∷ []) _) ∙ mask_sent mask len (omega arith) e _ in
      rw (b₀, b₁, b₂, b₃, s, n, le-leb len 60 h, eq-eqb (4 + (len + 7) / 8) (3 + 1 + (len + 7) / 8) (omega arith), m)
      (off_too t.state ((t.supports && admits afi t.afi) && same (take len (air_bits mask)) (take len (air_bits t.uid))) (turn_in false (slot_of t.uid len)))

  -- either way
  pub round_deed : (asks : Bool) → deed_of t [] (round_frame (round_for false asks afi len mask)) ≡ cond (takes_part (round_for false asks afi len mask) t) (turn_in false (slot_of t.uid len)) Nothing
  unfolding round_bytes takes_part plain asked mb
  round_deed true = asked_deed_law
  round_deed false = plain_deed
