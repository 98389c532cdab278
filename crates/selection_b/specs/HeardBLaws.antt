-- Laws for the code that reads what the reader hears: the tests, one by one. Assumes nothing.
use Rattle.std.specs.Prelude.{◌≡◌, refl, ◌≢◌, ℕ, ◌-◌, ◌/◌, ◌%◌, true, false, List, [], ◌∷◌, take, get_or, replicate, eqb, Result, Ok, Err}
use Rattle.std.proofs.Common.{ap, ◌∙◌}
use Rattle.std.proofs.Math.ListN.{length}
use Rattle.std.proofs.lemmas.List.{length-replicate}
use Rattle.std.proofs.Math.Seq.{get_or-take}
use borrow.Author.Tests.{eq-eqb, ne_eqb}
use native.Mathlib.Omega.{arith}
use Rattle.std.proofs.lemmas.Bool.Decides.{nat_tests}
use Rattle.rows.proofs.RowLaws.{overlay_all}
use Rattle.rows.specs.Rows.{overlay, is_nil, clean}
use Rattle.crc.specs.CrcOf.{crc_good_b}
use Rattle.frame.specs.ByteLaws.{length_bytes}
use Rattle.frame.specs.Frame.{bytes_of}
use Rattle.frame_b.specs.FrameB.{without_crc_b, read_b}
use Rattle.selection_b.specs.HeardB.{nobody, alone, slot_of, read_slot, byte_of, read_byte, read_attrib, read_hltb}
use Rattle.refusal.specs.Refusal.{Said}
use Rattle.refusal.specs.declared.Refusal.{Refusal}
use Rattle.refusal.specs.declared.Refusal.TheVariants.{Length, Silence, Collision, Crc, Forbidden}
use Rattle.selection_b.specs.declared.Held.TheVariants.{None, More}

-- bytes that are written over a row of their number
pub bytes_whole : (n : ℕ) (f held : List ℕ) → held ≡ overlay (replicate n 0) 0 (bytes_of n f) → held ≡ bytes_of n f
bytes_whole n f held e = e ∙ overlay_all (replicate n 0) (bytes_of n f) (rw (length-replicate, length_bytes))

-- ---- a slot

pub is_nil_is : (h : List ℕ) → is_nil h ≡ eqb (length h) 0
unfolding is_nil
is_nil_is [] = refl
is_nil_is (x ∷ h) = grind (arith, nat_tests)

pub slot_none : (h : List ℕ) → eqb (length h) 0 ≡ true → nobody (Ok None) ≡ read_slot h
unfolding read_slot
slot_none h e = rw (is_nil_is h, e)

module _ (h : List ℕ) (some : eqb (length h) 0 ≡ false) where
  not_none : is_nil h ≡ false
  not_none = is_nil_is h ∙ some

  pub slot_length : length h ≢ 112 → nobody (Err Length) ≡ read_slot h
  unfolding read_slot
  slot_length n = rw (not_none, ne_eqb (length h) 112 n)

  pub slot_more : length h ≡ 112 → clean h ≡ false → nobody (Ok More) ≡ read_slot h
  unfolding read_slot
  slot_more n c = rw (not_none, eq-eqb (length h) 112 n, c)

  pub slot_clean : length h ≡ 112 → clean h ≡ true → slot_of (without_crc_b (bytes_of 14 h)) ≡ read_slot h
  unfolding read_slot
  slot_clean n c = rw (not_none, eq-eqb (length h) 112 n, c)

  pub byte_length : length h ≢ 24 → Err Length ≡ read_byte h
  unfolding read_byte read_b
  byte_length n = rw (not_none, ne_eqb (length h) 24 n)

  pub byte_collided : length h ≡ 24 → clean h ≡ false → Err Collision ≡ read_byte h
  unfolding read_byte read_b
  byte_collided n c = rw (not_none, eq-eqb (length h) 24 n, c)

  pub byte_clean : length h ≡ 24 → clean h ≡ true → byte_of (without_crc_b (bytes_of 3 h)) ≡ read_byte h
  unfolding read_byte read_b
  byte_clean n c = rw (not_none, eq-eqb (length h) 24 n, c)

pub byte_silence : (h : List ℕ) → eqb (length h) 0 ≡ true → Err Silence ≡ read_byte h
unfolding read_byte
byte_silence h e = rw (is_nil_is h, e)

-- ---- held bytes l that are those of a row

module _ (l m : List ℕ) (e : l ≡ m) where
  pub slot_crc : crc_good_b l ≡ false → nobody (Err Crc) ≡ slot_of (without_crc_b m)
  unfolding without_crc_b
  slot_crc c = rw (← e, c)

  pub slot_forbidden : length l ≡ 14 → crc_good_b l ≡ true → get_or l 0 0 ≢ 0x50 → nobody (Err Forbidden) ≡ slot_of (without_crc_b m)
  unfolding without_crc_b
  slot_forbidden n c f = rw (← e, c, get_or-take (length l - 2) l 0 0 (omega arith), ne_eqb (get_or l 0 0) 0x50 f)

  pub slot_one : length l ≡ 14 → crc_good_b l ≡ true → get_or l 0 0 ≡ 0x50 → (a : List ℕ) → a ≡ take 12 l → alone a ≡ slot_of (without_crc_b m)
  unfolding without_crc_b
  slot_one n c f a g =
      let z : length l - 2 ≡ 12 = omega arith in
      rw (← e, c, get_or-take (length l - 2) l 0 0 (omega arith), eq-eqb (get_or l 0 0) 0x50 f, z) (ap alone g)

  pub byte_crc : crc_good_b l ≡ false → Err Crc ≡ byte_of (without_crc_b m)
  unfolding without_crc_b
  byte_crc c = rw (← e, c)

  pub byte_one : length l ≡ 3 → crc_good_b l ≡ true → Ok (get_or l 0 0) ≡ byte_of (without_crc_b m)
  unfolding without_crc_b
  byte_one n c = rw (← e, c, get_or-take (length l - 2) l 0 0 (omega arith))

-- ---- answers of one byte

module _ (h : List ℕ) (a : Result ℕ Refusal) (e : a ≡ read_byte h) where
  pub attrib_forbidden : (b : ℕ) → a ≡ Ok b → b % 16 ≢ 0 → Err Forbidden ≡ read_attrib h
  unfolding read_attrib
  attrib_forbidden b f n = rw (← e, f, ne_eqb (b % 16) 0 n)

  pub attrib_mbli : (b : ℕ) → a ≡ Ok b → b % 16 ≡ 0 → Ok (b / 16) ≡ read_attrib h
  unfolding read_attrib
  attrib_mbli b f n = rw (← e, f, eq-eqb (b % 16) 0 n)

  pub attrib_not : (x : Refusal) → a ≡ Err x → Err x ≡ read_attrib h
  unfolding read_attrib
  attrib_not x f = rw (← e, f)

  pub hltb_forbidden : (b : ℕ) → a ≡ Ok b → b ≢ 0 → Err Forbidden ≡ read_hltb h
  unfolding read_hltb
  hltb_forbidden b f n = rw (← e, f, ne_eqb b 0 n)

  pub hltb_obeys : (b : ℕ) → a ≡ Ok b → b ≡ 0 → (Ok tt) ≡ read_hltb h
  unfolding read_hltb
  hltb_obeys b f n = rw (← e, f, eq-eqb b 0 n)

  pub hltb_not : (x : Refusal) → a ≡ Err x → Err x ≡ read_hltb h
  unfolding read_hltb
  hltb_not x f = rw (← e, f)

-- ---- what equals a definition says what it says

module _ {A : Type 0} (says : A → Said) where
  pub says_too : {r d : A} → r ≡ d → (r ≡ d) × (says r ≡ says d)
  says_too e = (e, ap says e)
