-- Laws of Type B's frames: how long they are, which of them are told apart, and that a card takes each for what it is. Assumes nothing.
use Rattle.std.specs.Prelude.{◌≡◌, refl, ◌≢◌, ℕ, ◌-◌, ◌*◌, ◌%◌, ◌≤◌, ◌<◌, Bool, true, false, ◌&&◌, List, [], ◌∷◌, ◌++◌, length, drop, leb, ltb}
use Rattle.std.proofs.Common.{sym, ap, ◌∙◌, length-append, lt-ltb, le-leb, arith}
use Rattle.std.proofs.Math.Bool.{and-false}
use Rattle.rows.specs.EachLaws.{parts_equal}
use Rattle.rows.specs.ListLaws.{both, same_eq, same_ne, same_sound, all_append, all_drop}
use Rattle.rows.specs.Rows.{Bytes, same}
use Rattle.frame.specs.Frame.{bytes_of}
use Rattle.frame.specs.ByteLaws.{length_bytes, bytes_fit}
use Rattle.frame_b.specs.FrameB.{frame_b}
use Rattle.frame_b.specs.FrameBLaws.{length_frame, bits_frame, frame_tells, byte_behind, bytes_behind}
use Rattle.selection_b.specs.TypeB.{is_slots, param, request, marker_byte, marker, attrib, hltb, done}
use Rattle.selection_b.specs.TakenB.{afi_in, param_in, is_request, wakes, slots_in, is_marker, is_attrib}
use Rattle.selection_b.specs.SlotsLaws.{param_is}

-- ---- lengths: 5, 3, 11, 7 and 3 bytes

pub length_request : (w : Bool) (n a : ℕ) → length (request w n a) ≡ 40
unfolding request
length_request w n a = length_frame (0x05 ∷ a ∷ param w n ∷ [])

pub length_marker : (s : ℕ) → length (marker s) ≡ 24
unfolding marker
length_marker s = length_frame (marker_byte s ∷ [])

pub length_attrib : (p q : List ℕ) → length p ≡ 4 → length q ≡ 4 → length (attrib p q) ≡ 88
unfolding attrib
length_attrib p q h k = rw (length_frame, length-append) (omega arith)

pub length_hltb : (p : List ℕ) → length p ≡ 4 → length (hltb p) ≡ 56
unfolding hltb
length_hltb p h = rw length_frame (omega arith)

pub length_done : length done ≡ 24
unfolding done
length_done = length_frame (0x00 ∷ [])

-- ---- a request

-- what a card reads of one
pub record Requests (wake : Bool) (n afi : ℕ) (f : List ℕ) : Type 0 where
  pub is : is_request f ≡ true
  pub woken : wakes f ≡ wake
  pub slots : slots_in f ≡ n
  pub asked : afi_in f ≡ afi

pub requests : (w : Bool) (n a : ℕ) → is_slots n ≡ true → a < 256 → Requests w n a (request w n a)
unfolding request is_request wakes slots_in
requests w n a e h =
    let q = param_is w n e in
    let m : ℕ = param w n in
    let f : List ℕ = frame_b (0x05 ∷ a ∷ m ∷ []) in
    let p₁ : afi_in f ≡ a = byte_behind (0x05 ∷ []) (m ∷ []) a h in
    let p₂ : param_in f ≡ m = byte_behind (0x05 ∷ a ∷ []) [] m (omega (arith, q.small)) in
    record {
      is = rw (p₁, p₂, lt-ltb m 16 q.small, le-leb (m % 8) 4 q.coded) (same_eq f f refl);
      woken = rw p₂ q.wakes;
      slots = rw p₂ q.slots;
      asked = p₁;
    }

-- a row that is taken for one is one
pub request_exact : (f : List ℕ) → is_request f ≡ true → f ≡ frame_b (0x05 ∷ afi_in f ∷ param_in f ∷ [])
unfolding is_request
request_exact f e =
    let g : List ℕ = frame_b (0x05 ∷ afi_in f ∷ param_in f ∷ []) in
    same_sound f g (both (ltb (param_in f) 16 && leb (param_in f % 8) 4) (same f g) e).1

pub not_request : (f : List ℕ) → f ≢ frame_b (0x05 ∷ afi_in f ∷ param_in f ∷ []) → is_request f ≡ false
unfolding is_request
not_request f n = rw (same_ne f (frame_b (0x05 ∷ afi_in f ∷ param_in f ∷ [])) n, and-false)

pub request_length : (f : List ℕ) → length f ≢ 40 → is_request f ≡ false
request_length f n = not_request f (λ e. n (ap length e ∙ length_frame (0x05 ∷ afi_in f ∷ param_in f ∷ [])))

-- ---- a marker

pub marker_is : (s : ℕ) → 2 ≤ s → s ≤ 16 → is_marker s (marker s) ≡ true
unfolding is_marker
marker_is s a b = rw (le-leb 2 s a, le-leb s 16 b, same_eq (marker s) (marker s) refl)

pub marker_tells : (s t : ℕ) → 1 ≤ s → s ≤ 16 → 1 ≤ t → t ≤ 16 → marker s ≡ marker t → s ≡ t
unfolding marker
marker_tells s t a b c d e =
    let q : marker_byte s ∷ [] ≡ marker_byte t ∷ [] = frame_tells (marker_byte s ∷ []) (marker_byte t ∷ []) (omega arith, tt) (omega arith, tt) e in
    let z : marker_byte s ≡ marker_byte t = cc in
    let x : (s - 1) % 16 ≡ s - 1 = omega arith in
    let y : (t - 1) % 16 ≡ t - 1 = omega arith in
    omega arith

pub marker_other : (s t : ℕ) → 1 ≤ s → s ≤ 16 → 1 ≤ t → t ≤ 16 → s ≢ t → is_marker s (marker t) ≡ false
unfolding is_marker
marker_other s t a b c d n = rw (same_ne (marker t) (marker s) (λ e. n (sym (marker_tells t s c d a b e))), and-false)

-- ---- ATTRIB and HLTB

pub attrib_is : (p q : List ℕ) → length p ≡ 4 → length q ≡ 4 → Bytes q → is_attrib p (attrib p q) ≡ true
unfolding is_attrib attrib
attrib_is p q h k b =
    let z : 40 ≡ 8 * length (0x1D ∷ p) = omega arith in
    let e : bytes_of 4 (drop 40 (frame_b (0x1D ∷ (p ++ q)))) ≡ q = rw (z, ← k) (bytes_behind (0x1D ∷ p) q b) in
    rw e (same_eq (frame_b (0x1D ∷ (p ++ q))) (frame_b (0x1D ∷ (p ++ q))) refl)

pub attrib_length : (p f : List ℕ) → length p ≡ 4 → length f ≢ 88 → is_attrib p f ≡ false
unfolding is_attrib
attrib_length p f h n = same_ne f (attrib p (bytes_of 4 (drop 40 f))) (λ e. n (ap length e ∙ length_attrib p (bytes_of 4 (drop 40 f)) h (length_bytes 4 (drop 40 f))))

-- the PUPI in it is told
pub attrib_tells : (p q a : List ℕ) → length p ≡ 4 → Bytes p → length q ≡ 4 → Bytes q → Bytes a → is_attrib p (attrib q a) ≡ true → p ≡ q
unfolding is_attrib attrib
attrib_tells p q a hp bp hq bq ba e =
    let f : List ℕ = attrib q a in
    let x : List ℕ = bytes_of 4 (drop 40 f) in
    let bx : Bytes x = bytes_fit 4 (drop 40 f) (all_drop (λ y. y < 2) 40 f (bits_frame (0x1D ∷ (q ++ a)))) in
    let g : f ≡ attrib p x = same_sound f (attrib p x) e in
    let t : 0x1D ∷ (q ++ a) ≡ 0x1D ∷ (p ++ x) =
    frame_tells (0x1D ∷ (q ++ a)) (0x1D ∷ (p ++ x)) (omega arith, all_append (λ y. y < 256) q a bq ba) (omega arith, all_append (λ y. y < 256) p x bp bx) g in
    let r : q ++ a ≡ p ++ x = cc in
    sym (parts_equal 4 q p a x hq hp r).0

pub hltb_tells : (p q : List ℕ) → Bytes p → Bytes q → hltb p ≡ hltb q → p ≡ q
unfolding hltb
hltb_tells p q b d e =
    let t : 0x50 ∷ p ≡ 0x50 ∷ q = frame_tells (0x50 ∷ p) (0x50 ∷ q) (omega arith, b) (omega arith, d) e in
    cc
