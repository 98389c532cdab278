-- Document 01, "The card": a frame with a collided bit, wrong parity, length, CRC_A or NVB, and one that does not match, is "else". The
-- rules say so by comparing with the awaited frames; here it is said in the paper's words. Assumes nothing.
use Rattle.std.specs.Prelude.{◌≡◌, refl, ◌≢◌, ◌%◌, ◌/◌, ◌*◌, ◌-◌, ℕ, ◌+◌, ◌≤◌, ◌<◌, not, ◌||◌, true, false, ◌&&◌, Bool, take, drop, eqb, leb, ltb}
use Rattle.std.proofs.Math.Path.{sym, ap}
use Rattle.std.proofs.Common.{◌∙◌, true≢false, length-append, length-take, le-leb, lt-ltb, ne_eqb}
use mathlib.Core.List.{List, [], ◌∷◌, ◌++◌}
use Rattle.std.proofs.Math.ListN.{get_or, length}
use Rattle.std.proofs.Math.Seq.{take-append-add}
use native.Mathlib.Omega.{arith}
use Rattle.rows.specs.CleanLaws.{bits_clean}
use Rattle.rows.specs.EachLaws.{parts_equal}
use Rattle.rows.specs.ListLaws.{all_drop, all_append, all_take_law}
use Rattle.rows.specs.Rows.{clean, same, Bits, Bytes}
use Rattle.parity.specs.BitLaws.{length_bits, bits_bits, unbits_lt}
use Rattle.crc.specs.Crc.{with_crc}
use Rattle.frame.specs.Frame.{standard, short, air_bits}
use Rattle.frame.proofs.FrameLaws.{length_standard, standard_append, bits_standard}
use Rattle.frame.proofs.WrongLaws.{faulty_none}
use Rattle.frame.proofs.ParityLaws.{whole_faulty, faulty_standard, faulty_cut}
use Rattle.crc.specs.CrcLaws.{length_with}
use Rattle.frame.proofs.TellLaws.{crc_right, standard_bytes, bytes_crc}
use Rattle.uid.specs.Uid.{levels, place}
use Rattle.uid.specs.UidLaws.{Sound, five_row}
use Rattle.selection.specs.Selection.{reqa, wupa, hlta, rats, sel, nvb, cut, anticollision, select}
use Rattle.selection.specs.SelectionLaws.{anti_bits, length_anti, length_select, select_tells, length_hlta, length_rats, length_reqa, length_wupa}
use Rattle.card.specs.Card.{home, ready_in, active_in, rules, bits_sent, fsdi}
use Rattle.card.proofs.ElseLaws.{else_of, five_at, Unready, Unactive, Unawaited, else_is, ready_else, active_else}
use Rattle.uid.specs.declared.Level.{Level}
use Rattle.uid.specs.declared.Level.TheVariants.{One, Two, Three}
use Rattle.card.specs.declared.Card.{Card}
use Rattle.card.specs.declared.CardState.{CardState}
use Rattle.card.specs.declared.CardState.TheVariants.{Idle, Ready, Active, Halt, ReadyStar, ActiveStar, Off, Protocol}

-- ---- a test that no awaited frame fails

-- no frame that a card awaits fails the test T
record Passed (T : List ℕ → Bool) : Type 0 where
  is_reqa : T reqa ≡ false
  is_wupa : T wupa ≡ false
  is_hlta : T hlta ≡ false
  is_anti : (l : Level) (k : ℕ) (five : List ℕ) → T (anticollision l k five) ≡ false
  is_select : (l : Level) (five : List ℕ) → T (select l five) ≡ false
  is_rats : (i : ℕ) → T (rats i) ≡ false

-- a frame that fails it is "else"
module _ (T : List ℕ → Bool) (a : Passed T) (f : List ℕ) (e : T f ≡ true) where
  unlike : (g : List ℕ) → T g ≡ false → f ≢ g
  unlike g h q = true≢false (sym e ∙ ap T q ∙ h)

  fails_ready : (c : Card) (l : Level) → Unready c l f
  fails_ready c l h = (λ k. unlike (anticollision l (bits_sent f) (five_at c l)) (a.is_anti l (bits_sent f) (five_at c l)), unlike (select l (five_at c l)) (a.is_select l (five_at c l)))

  fails_active : Unactive f
  fails_active = (unlike hlta a.is_hlta, unlike (rats (fsdi f)) (a.is_rats (fsdi f)))

  fails : (c : Card) (y : CardState) → Unawaited c y f
  fails c Off = tt
  fails c Idle = (unlike reqa a.is_reqa, unlike wupa a.is_wupa)
  fails c (Ready l) = fails_ready c l
  fails c Active = fails_active
  fails c Halt = unlike wupa a.is_wupa
  fails c (ReadyStar l) = fails_ready c l
  fails c ActiveStar = fails_active
  fails c (Protocol i) = tt

-- ---- a collided bit

is_clean : (r : List ℕ) → Bits r → not (clean r) ≡ false
is_clean r b = rw (bits_clean r b)

clean_passed : Passed (λ r. not (clean r))
unfolding reqa wupa hlta anticollision select rats short
clean_passed = record {
  is_reqa = is_clean _ (bits_bits 7 0x26);
  is_wupa = is_clean _ (bits_bits 7 0x52);
  is_hlta = is_clean _ (bits_standard _);
  is_anti = λ l k five. is_clean _ (all_append (λ x. x < 2) (standard (sel l ∷ nvb k ∷ [])) _ (bits_standard _) (all_take_law (λ x. x < 2) (cut k) (standard five) (bits_standard five)));
  is_select = λ l five. is_clean _ (bits_standard _);
  is_rats = λ i. is_clean _ (bits_standard _);
}

pub collided_else : (c : Card) (y : CardState) (f : List ℕ) → clean f ≡ false → rules c y f ≡ (else_of y, [])
collided_else c y f e = else_is c y f (fails (λ r. not (clean r)) clean_passed f (rw e) c y)

-- ---- wrong parity, of a byte that is whole

parity_passed : Passed whole_faulty
unfolding reqa wupa hlta anticollision select rats short whole_faulty
parity_passed = record {
  is_reqa = rw (length_bits 7 0x26) (faulty_none _);
  is_wupa = rw (length_bits 7 0x52) (faulty_none _);
  is_hlta = faulty_standard _;
  is_anti = λ l k five.
      let H : List ℕ = sel l ∷ nvb k ∷ [] in
      ap whole_faulty (sym (take-append-add (standard H) (standard five) (cut k)) ∙ ap (take (length (standard H) + cut k)) (sym (standard_append H five))) ∙ faulty_cut (H ++ five) (length (standard H) + cut k);
  is_select = λ l five. faulty_standard _;
  is_rats = λ i. faulty_standard _;
}

pub parity_else : (c : Card) (y : CardState) (f : List ℕ) → whole_faulty f ≡ true → rules c y f ≡ (else_of y, [])
parity_else c y f e = else_is c y f (fails whole_faulty parity_passed f e c y)

-- ---- wrong length

-- its length tells how many bits an ANTICOLLISION sends
pub bits_sent_law : (f : List ℕ) (k : ℕ) → length f ≡ 18 + cut k → bits_sent f ≡ k
bits_sent_law f k h = rw h (omega arith)

-- the lengths that a state awaits: a short frame; ANTICOLLISION of 0 to 39 bits and SELECT; four bytes
abbrev awaits_ready : ℕ → Bool
awaits_ready n = leb 18 n && ltb n 62 && not (eqb (n % 9) 8) || eqb n 81

abbrev pub awaits : CardState → ℕ → Bool
awaits Off n = false
awaits Idle n = eqb n 7
awaits (Ready l) n = awaits_ready n
awaits Active n = eqb n 36
awaits Halt n = eqb n 7
awaits (ReadyStar l) n = awaits_ready n
awaits ActiveStar n = eqb n 36
awaits (Protocol i) n = false

module _ (c : Card) (s : Sound c.uid) (l : Level) (h : place l < length (levels c.uid)) where
  level_full : length (five_at c l) ≡ 5
  level_full = (five_row c.uid s (place l) h).full

  level_bytes : Bytes (five_at c l)
  level_bytes = (five_row c.uid s (place l) h).fits

  awaits_anti : (k : ℕ) → k < 40 → awaits_ready (length (anticollision l k (five_at c l))) ≡ true
  awaits_anti k m =
      let n : ℕ = 18 + cut k in
      rw (length_anti l k (five_at c l) level_full (omega arith), le-leb 18 n (omega arith), lt-ltb n 62 (omega arith), ne_eqb (n % 9) 8 (omega arith))

  awaits_select : awaits_ready (length (select l (five_at c l))) ≡ true
  awaits_select = rw (length_select l (five_at c l) level_full)

-- rows of another length than an awaited one
of_length : (y : CardState) (f g : List ℕ) → awaits y (length f) ≡ false → awaits y (length g) ≡ true → f ≢ g
of_length y f g e t q = true≢false (sym t ∙ ap (λ r. awaits y (length r)) (sym q) ∙ e)

pub length_else : (c : Card) → Sound c.uid → (y : CardState) (f : List ℕ) → awaits y (length f) ≡ false → rules c y f ≡ (else_of y, [])
length_else c s y f e = else_is c y f (go y e)
  where
    of_ready : (y : CardState) → ((n : ℕ) → awaits y n ≡ awaits_ready n) → (l : Level) → awaits y (length f) ≡ false → Unready c l f
    of_ready y same l e h = (
      λ k. of_length y f (anticollision l (bits_sent f) (five_at c l)) e (same _ ∙ awaits_anti c s l h (bits_sent f) k),
      of_length y f (select l (five_at c l)) e (same _ ∙ awaits_select c s l h),
    )

    of_active : (y : CardState) → ((n : ℕ) → awaits y n ≡ eqb n 36) → awaits y (length f) ≡ false → Unactive f
    of_active y same e = (of_length y f hlta e (same _ ∙ rw length_hlta), of_length y f (rats (fsdi f)) e (same _ ∙ rw length_rats))

    go : (y : CardState) → awaits y (length f) ≡ false → Unawaited c y f
    go Off e = tt
    go Idle e = (of_length Idle f reqa e (rw length_reqa), of_length Idle f wupa e (rw length_wupa))
    go (Ready l) e = of_ready (Ready l) (λ n. refl) l e
    go Active e = of_active Active (λ n. refl) e
    go Halt e = of_length Halt f wupa e (rw length_wupa)
    go (ReadyStar l) e = of_ready (ReadyStar l) (λ n. refl) l e
    go ActiveStar e = of_active ActiveStar (λ n. refl) e
    go (Protocol i) e = tt

sel_fits : (l : Level) → sel l < 256
sel_fits One = omega arith
sel_fits Two = omega arith
sel_fits Three = omega arith

-- ---- wrong CRC_A, of bytes l: not their last two are the CRC_A of those before

module _ (l : List ℕ) (b : Bytes l) (wrong : same l (with_crc (take (length l - 2) l)) ≡ false) where
  -- no frame with CRC_A
  not_crc : (m : List ℕ) → Bytes m → standard l ≢ standard (with_crc m)
  not_crc m h e = true≢false (sym (crc_right l m (standard_bytes l (with_crc m) b (bytes_crc m h) e)) ∙ wrong)

  small_fsdi : fsdi (standard l) < 16
  small_fsdi = unbits_lt 4 (take 4 (drop 13 (standard l))) (all_take_law (λ x. x < 2) 4 (drop 13 (standard l)) (all_drop (λ x. x < 2) 13 (standard l) (bits_standard l))) (rw length-take (omega arith))

  pub crc_else_active : (c : Card) (w : Bool) → rules c (active_in w) (standard l) ≡ (home w, [])
  unfolding hlta rats
  crc_else_active c w = active_else c w (standard l) (
    not_crc (0x50 ∷ 0x00 ∷ []) (omega arith, (omega arith, tt)),
    not_crc (0xE0 ∷ 16 * fsdi (standard l) ∷ []) (omega arith, (omega (arith, small_fsdi), tt)),
  )

  -- in Ready: of more bytes than any ANTICOLLISION has, which bears no CRC_A
  pub crc_else_ready : (c : Card) → Sound c.uid → (w : Bool) (v : Level) → 7 ≤ length l → rules c (ready_in w v) (standard l) ≡ (home w, [])
  unfolding select
  crc_else_ready c s w v m = ready_else c w v (standard l) (λ h. (
    λ k e. omega (arith, k, ap length e, length_standard l, length_anti v (bits_sent (standard l)) (five_at c v) (level_full c s v h) (omega arith)),
    not_crc (sel v ∷ 0x70 ∷ five_at c v) (sel_fits v, (omega arith, level_bytes c s v h)),
  ))

-- ---- wrong NVB: a frame of less than a level's 45 bits behind SEL and NVB, in Ready

pub nvb_else : (c : Card) → Sound c.uid → (w : Bool) (l : Level) (a v : ℕ) (d : List ℕ) → a < 256 → v < 256 → length d < 45 → v ≢ nvb (length d - length d / 9)
    → rules c (ready_in w l) (standard (a ∷ v ∷ []) ++ d) ≡ (home w, [])
nvb_else c s w l a v d ha hv hd n = ready_else c w l f (λ h. (λ k e. n (sym (other h k e)), λ e. omega (arith, ap length e, length_f, length_select l (five_at c l) (level_full c s l h))))
  where
    f : List ℕ
    f = standard (a ∷ v ∷ []) ++ d

    length_f : length f ≡ 18 + length d
    length_f = length-append (standard (a ∷ v ∷ [])) d ∙ rw (length_standard (a ∷ v ∷ []))

    k_is : bits_sent f ≡ length d - length d / 9
    k_is = rw length_f (omega arith)

    other : place l < length (levels c.uid) → bits_sent f < 40 → f ≡ anticollision l (bits_sent f) (five_at c l) → nvb (length d - length d / 9) ≡ v
    other h k e =
        let H : List ℕ = sel l ∷ nvb (bits_sent f) ∷ [] in
        let p : standard (a ∷ v ∷ []) ≡ standard H = (parts_equal 18 (standard (a ∷ v ∷ [])) (standard H) d (take (cut (bits_sent f)) (standard (five_at c l))) (length_standard (a ∷ v ∷ [])) (length_standard H) (unfold anticollision in e)).0 in
        let q : a ∷ v ∷ [] ≡ H = standard_bytes (a ∷ v ∷ []) H (ha, (hv, tt)) (sel_fits l, (omega arith, tt)) p in
        ap nvb (sym k_is) ∙ sym (ap (λ r. get_or r 1 0) q)

-- .. of SELECT: a frame of nine bytes with right CRC_A whose NVB is not 70 (71 among them)
pub select_nvb_else : (c : Card) → Sound c.uid → (w : Bool) (l : Level) (a v : ℕ) (five : List ℕ) → a < 256 → v < 256 → Bytes five → length five ≡ 5 → v ≢ 0x70
    → rules c (ready_in w l) (standard (with_crc (a ∷ v ∷ five))) ≡ (home w, [])
unfolding select with_crc
select_nvb_else c s w l a v five ha hv b h n = ready_else c w l f (λ k. (
  λ m e. omega (arith, m, rw length_f at m),
  λ e. n (ap (λ r. get_or r 1 0) (standard_bytes (with_crc m) (with_crc (sel l ∷ 0x70 ∷ five_at c l)) (bytes_crc m (ha, (hv, b))) (bytes_crc (sel l ∷ 0x70 ∷ five_at c l) (sel_fits l, (omega arith, level_bytes c s l k))) e)),
))
  where
    m : List ℕ
    m = a ∷ v ∷ five

    f : List ℕ
    f = standard (with_crc m)

    length_f : length f ≡ 81
    length_f = length_standard (with_crc m) ∙ rw (length_with m, h) (omega arith)

-- ---- a mismatch: the card leaves Ready, a woken one for Halt

module _ (c : Card) (s : Sound c.uid) (w : Bool) (l : Level) where
  -- the k bits that are sent are not the card's
  pub anti_mismatch : (k : ℕ) (a : List ℕ) → length a ≡ 5 → k < 40 → (place l < length (levels c.uid) → take k (air_bits a) ≢ take k (air_bits (five_at c l)))
      → rules c (ready_in w l) (anticollision l k a) ≡ (home w, [])
  anti_mismatch k a ha m n = ready_else c w l (anticollision l k a) (λ h. (
    λ i e. n h (anti_bits l k a (five_at c l) ha (level_full c s l h) (omega arith) (e ∙ ap (λ j. anticollision l j (five_at c l)) k_is)),
    λ e. omega (arith, ap length e, length_anti l k a ha (omega arith), length_select l (five_at c l) (level_full c s l h)),
  ))
    where
      k_is : bits_sent (anticollision l k a) ≡ k
      k_is = bits_sent_law (anticollision l k a) k (length_anti l k a ha (omega arith))

  -- the 40 bits are not
  pub select_mismatch : (a : List ℕ) → length a ≡ 5 → (place l < length (levels c.uid) → air_bits a ≢ air_bits (five_at c l)) → rules c (ready_in w l) (select l a) ≡ (home w, [])
  select_mismatch a ha n = ready_else c w l (select l a) (λ h. (
    λ i e. omega (arith, i, rw (length_select l a ha) at i),
    λ e. n h (select_tells l a (five_at c l) ha (level_full c s l h) e),
  ))
