-- The frames of a selection: their lengths, and when a reader's ANTICOLLISION or SELECT is the one that a card awaits. Assumes nothing.
use Rattle.std.specs.Prelude.{◌≡◌, ℕ, ◌+◌, ◌-◌, ◌*◌, ◌≤◌, List, [], ◌∷◌, ◌++◌, length, take, drop, replicate}
use Rattle.std.proofs.Math.Path.{sym, ap}
use Rattle.std.proofs.Common.{ap₂, ◌∙◌, length-append, length-take, take-append-drop, length-take-le, arith}
use Rattle.std.proofs.lemmas.List.{append_cancel_left}
use Rattle.rows.specs.EachLaws.{parts_equal}
use Rattle.rows.specs.Rows.{Bits, fill}
use Rattle.parity.specs.BitLaws.{length_bits}
use Rattle.crc.specs.Crc.{with_crc, crc_bytes}
use Rattle.frame.specs.ByteLaws.{bits_bytes, length_bytes, length_air_bits, air_bits_append}
use Rattle.frame.specs.Frame.{air_bits, short, standard, bytes_of}
use Rattle.frame.proofs.FrameLaws.{length_standard}
use Rattle.crc.specs.CrcLaws.{length_with}
use Rattle.frame.proofs.TellLaws.{standard_bits}
use Rattle.selection.specs.SealLaws.{seal, standard_seal, take_seal, seal_same}
use Rattle.selection.specs.Selection.{rats, cut, sel, nvb, reqa, wupa, hlta, anticollision, select, sak_frame}
use Rattle.uid.specs.declared.Level.{Level}

pub length_reqa : length reqa ≡ 7
unfolding reqa short
length_reqa = length_bits 7 0x26

pub length_wupa : length wupa ≡ 7
unfolding wupa short
length_wupa = length_bits 7 0x52

pub length_hlta : length hlta ≡ 36
unfolding hlta
length_hlta = length_standard (with_crc (0x50 ∷ 0x00 ∷ [])) ∙ rw length_with

pub length_rats : (i : ℕ) → length (rats i) ≡ 36
unfolding rats
length_rats i = length_standard (with_crc (0xE0 ∷ 16 * i ∷ [])) ∙ rw length_with

pub length_anti : (l : Level) (k : ℕ) (five : List ℕ) → length five ≡ 5 → k ≤ 40 → length (anticollision l k five) ≡ 18 + cut k
unfolding anticollision
length_anti l k five h m = rw (length-append, length_standard, length-take, length_standard, h) (omega arith)

pub length_select : (l : Level) (five : List ℕ) → length five ≡ 5 → length (select l five) ≡ 81
unfolding select
length_select l five h = rw (length_standard, length_with) (omega arith)

pub length_sak : (b : ℕ) → length (sak_frame b) ≡ 27
unfolding sak_frame
length_sak b = length_standard (with_crc (b ∷ [])) ∙ rw length_with

-- ---- ANTICOLLISION: the level's row, cut

module _ (five K x : List ℕ) (h : length five ≡ 5) (e : air_bits five ≡ K ++ x) where
  row_is : standard five ≡ seal 5 (K ++ x)
  row_is = standard_seal five ∙ ap₂ seal h e

  sizes : length K + length x ≡ 40
  sizes = sym (length-append K x) ∙ ap length (sym e) ∙ length_air_bits five ∙ ap (λ n. 8 * n) h

  pub sent_is : take (cut (length K)) (standard five) ≡ seal 5 K
  sent_is = rw row_is (take_seal 5 K x sizes)

  pub rest_is : drop (cut (length K)) (standard five) ≡ drop (cut (length K)) (seal 5 (K ++ x))
  rest_is = rw row_is

-- what the reader sends of the bits K that it knows
pub sent_known : (K : List ℕ) → Bits K → length K ≤ 40 → take (cut (length K)) (standard (bytes_of 5 K)) ≡ seal 5 K
unfolding fill
sent_known K b h = sent_is (bytes_of 5 K) K (replicate (40 - length K) 0) (length_bytes 5 K) (bits_bytes 5 K b h)

module _ (l : Level) (five K : List ℕ) (h : length five ≡ 5) (b : Bits K) (m : length K ≤ 40) where
  pub anti_same : (x : List ℕ) → air_bits five ≡ K ++ x → anticollision l (length K) (bytes_of 5 K) ≡ anticollision l (length K) five
  unfolding anticollision
  anti_same x e = ap (λ r. standard (sel l ∷ nvb (length K) ∷ []) ++ r) (sent_known K b m ∙ sym (sent_is five K x h e))

-- an ANTICOLLISION tells its bits
pub anti_bits : (l : Level) (k : ℕ) (a c : List ℕ) → length a ≡ 5 → length c ≡ 5 → k ≤ 40 → anticollision l k a ≡ anticollision l k c → take k (air_bits a) ≡ take k (air_bits c)
unfolding anticollision
anti_bits l k a c ha hc m e =
    seal_same 5 (take k (air_bits a)) (take k (air_bits c)) (k_long a ha ∙ sym (k_long c hc)) (rw (k_long a ha) m)
    (sym (sent a ha) ∙ append_cancel_left (standard (sel l ∷ nvb k ∷ [])) _ _ e ∙ sent c hc)
  where
    k_long : (five : List ℕ) → length five ≡ 5 → length (take k (air_bits five)) ≡ k
    k_long five h = length-take-le k (air_bits five) (rw (length_air_bits, h) m)

    sent : (five : List ℕ) → length five ≡ 5 → take (cut k) (standard five) ≡ seal 5 (take k (air_bits five))
    sent five h = rw (k_long five h) at (sent_is five (take k (air_bits five)) (drop k (air_bits five)) h (sym (take-append-drop k (air_bits five))))

-- ---- SELECT

crc_tells : (l m : List ℕ) → length l ≡ length m → standard (with_crc l) ≡ standard (with_crc m) → air_bits l ≡ air_bits m
unfolding with_crc crc_bytes
crc_tells l m h e =
    let b : air_bits (l ++ crc_bytes l) ≡ air_bits (m ++ crc_bytes m) = standard_bits (l ++ crc_bytes l) (m ++ crc_bytes m) e in
    (parts_equal (8 * length l) (air_bits l) (air_bits m) (air_bits (crc_bytes l)) (air_bits (crc_bytes m)) (length_air_bits l) (rw (length_air_bits m) (omega arith))
    (sym (air_bits_append l (crc_bytes l)) ∙ b ∙ air_bits_append m (crc_bytes m))).0

pub select_tells : (l : Level) (a c : List ℕ) → length a ≡ 5 → length c ≡ 5 → select l a ≡ select l c → air_bits a ≡ air_bits c
unfolding select
select_tells l a c ha hc e =
    let H : List ℕ = sel l ∷ 0x70 ∷ [] in
    append_cancel_left (air_bits H) (air_bits a) (air_bits c)
    (sym (air_bits_append H a) ∙ crc_tells (H ++ a) (H ++ c) (omega arith) e ∙ air_bits_append H c)
