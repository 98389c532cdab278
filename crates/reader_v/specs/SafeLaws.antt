-- Every turn of the reader is safe. Assumes nothing.
use Rattle.std.specs.Prelude.{◌≡◌, refl, ℕ, ◌+◌, ◌-◌, ◌*◌, ◌/◌, ◌%◌, ◌≤◌, Bool, true, false, cond, not, ◌&&◌, ◌||◌, List, length, eqb, leb, Result, Ok, Err}
use Rattle.std.proofs.Common.{div-add-mod', mul-le-mul_right, mul_comm, arith, true≢false, eqb-true, leb-true, ltb-false}
use Rattle.std.proofs.Math.Dec.{ltb}
use Rattle.std.proofs.lemmas.Bool.{not-false}
use Rattle.rows.specs.ListLaws.{both}
use Rattle.rows.specs.Rows.{clean, is_nil}
use Rattle.crc.specs.CrcOf.{crc_good_b}
use Rattle.frame.specs.Frame.{bytes_of}
use Rattle.frame_b.specs.FrameB.{byte_at}
use Rattle.answer_v.specs.Heard.{is_code, is_data, fitting, is_length, value_of, answer_in, read_answer, read_slot}
use Rattle.answer_v.specs.HeardLaws.{length_whole}
use Rattle.answer_v.specs.declared.SlotV.{SlotV}
use Rattle.answer_v.specs.declared.AnswerSays.{AnswerSays}
use Rattle.answer_v.specs.declared.AnswerSays.TheVariants.{Good, Fails, NotGood}
use Rattle.refusal.specs.declared.Refusal.{Refusal}
use Rattle.refusal.specs.declared.Refusal.TheVariants.{Length, Silence, Collision, Crc, Forbidden}
use Rattle.selection_b.specs.declared.Held.{Held}
use Rattle.reader_v.specs.Met.{flags, first_met}
use Rattle.reader_v.specs.ReaderV.{round_of, finished, told, turn_of, met_after, slot_turn, hear_slot, hear_quiet, answer_turn, hear_in, hear}
use Rattle.reader_v.specs.HearV.{data_room, is_short}
use Rattle.reader_v.specs.SafeV.{Safe}
use Rattle.reader_v.specs.declared.PhaseV.{PhaseV}
use Rattle.reader_v.specs.declared.PhaseV.TheVariants.{Ready, InRound, InSweep, QuietSent, ReadSent, OtherSent, Stopped}
use Rattle.reader_v.specs.declared.ReaderV.{ReaderV}
use Rattle.reader_v.specs.declared.TurnV.{TurnV}

-- ---- a good answer

cond_good : (b : Bool) (e : Refusal) (x : AnswerSays) (n : ℕ) → cond b (NotGood e) x ≡ Good n → (b ≡ false) × (x ≡ Good n)
cond_good true e x n z = absurd (let w : ◌≡◌ {A = ℕ} 0 1 = cc in omega arith)
cond_good false e x n z = (refl, z)

value_good : (b d : Bool) (m code n : ℕ) → cond b (Good m) (cond d (Fails code) (NotGood Forbidden)) ≡ Good n → (b ≡ true) × (m ≡ n)
value_good true d m code n z = let w : m ≡ n = cc in (refl, w)
value_good false true m code n z = absurd (let w : ◌≡◌ {A = ℕ} 0 1 = cc in omega arith)
value_good false false m code n z = absurd (let w : ◌≡◌ {A = ℕ} 0 1 = cc in omega arith)

record Read (reads : Bool) (count : ℕ) (status : Bool) (h : List ℕ) (n : ℕ) : Type 0 where
  bytes : length h / 8 - 3 ≡ n
  long : 24 ≤ length h
  clear : clean h ≡ true
  fit : fitting reads count status n ≡ true

good_read : (reads : Bool) (count : ℕ) (status : Bool) (h : List ℕ) (n : ℕ) → read_answer reads count status h ≡ Good n → Read reads count status h n
unfolding read_answer answer_in value_of
good_read reads count status h n e =
    let m : ℕ = length h / 8 - 3 in
    let a = cond_good (is_nil h) Silence _ n e in
    let b = cond_good (not (is_length reads count status (length h))) Length _ n a.1 in
    let c = cond_good (not (clean h)) Collision _ n b.1 in
    let d = cond_good (not (crc_good_b (bytes_of (length h / 8) h))) Crc _ n c.1 in
    let v = value_good (eqb (byte_at 0 h) 0x00 && fitting reads count status m) (eqb (byte_at 0 h) 0x01 && (eqb m 1 && is_code (byte_at 1 h))) m (byte_at 1 h) n d.1 in
    record {
      bytes = v.1;
      long = (length_whole reads count status (length h) (not-false (is_length reads count status (length h)) b.0)).1;
      clear = not-false (clean h) c.0;
      fit = rw v.1 at (both (eqb (byte_at 0 h) 0x00) (fitting reads count status m) v.0).1;
    }

-- the blocks of a read fit into the room that was asked for
data_fits : (count : ℕ) (status : Bool) (n : ℕ) → is_data count status n ≡ true → n ≤ (count + 1) * cond status 33 32
unfolding is_data
data_fits count status n e =
    let a = both (eqb (n % (count + 1)) 0) (leb (cond status 2 1) (n / (count + 1)) && leb (n / (count + 1)) (cond status 33 32)) e in
    let z : n % (count + 1) ≡ 0 = eqb-true (n % (count + 1)) 0 a.0 in
    let k : n / (count + 1) ≤ cond status 33 32 = leb-true (n / (count + 1)) (cond status 33 32) (both (leb (cond status 2 1) (n / (count + 1))) (leb (n / (count + 1)) (cond status 33 32)) a.1).1 in
    let m : n / (count + 1) * (count + 1) ≤ cond status 33 32 * (count + 1) = mul-le-mul_right {m = n / (count + 1)} {n = cond status 33 32} (count + 1) k in
    omega (arith, div-add-mod' n (count + 1), mul_comm (count + 1) (cond status 33 32))

-- ---- turns

module _ (h : List ℕ) (room : ℕ) where
  safe_cond : (b : Bool) (x y : TurnV) → Safe x.answer x.reader h room → Safe y.answer y.reader h room → Safe (cond b x y).answer (cond b x y).reader h room
  safe_cond true x y p q = p
  safe_cond false x y p q = q

  finished_safe : (sweeps : Bool) (r : ReaderV) (k : Held) (s : SlotV) (m : List ℕ) → Safe (finished sweeps r k s m).answer (finished sweeps r k s m).reader h room
  unfolding finished round_of
  finished_safe sweeps r k s m = safe_cond (sweeps && ltb (first_met m) flags) _ _ (omega arith) tt

  told_safe : (sweeps : Bool) (r : ReaderV) (k : Held) (s : SlotV) → Safe (told sweeps r k s).answer (told sweeps r k s).reader h room
  unfolding told
  told_safe sweeps r k s =
      safe_cond (not r.round.one && ltb r.slot 15) _ (finished sweeps r k s (met_after sweeps r k)) tt (finished_safe sweeps r k s (met_after sweeps r k))

  slot_safe : (sweeps : Bool) (r : ReaderV) → Safe (hear_slot sweeps r h).answer (hear_slot sweeps r h).reader h room
  unfolding hear_slot
  slot_safe sweeps r = go (read_slot (turn_of sweeps r) h).says (read_slot (turn_of sweeps r) h)
    where
      go : (y : Result Held Refusal) (s : SlotV) → Safe (slot_turn sweeps r y s).answer (slot_turn sweeps r y s).reader h room
      go (Ok k) s = told_safe sweeps r k s
      go (Err e) s = tt

  answer_safe : (reads : Bool) (count : ℕ) (status : Bool) → (count + 1) * cond status 33 32 ≤ room
      → Safe (answer_turn reads (read_answer reads count status h)).answer (answer_turn reads (read_answer reads count status h)).reader h room
  answer_safe reads count status f = go reads (read_answer reads count status h) refl
    where
      go : (b : Bool) (a : AnswerSays) → read_answer b count status h ≡ a → Safe (answer_turn b a).answer (answer_turn b a).reader h room
      go true (Good n) e =
          let g = good_read true count status h n e in
          (omega (arith, g.bytes, g.long), omega (arith, data_fits count status n g.fit), g.clear)
      go false (Good n) e = tt
      go b (Fails x) e = tt
      go b (NotGood x) e = tt

  other_safe : (a : AnswerSays) → Safe (answer_turn false a).answer (answer_turn false a).reader h room
  other_safe (Good n) = tt
  other_safe (Fails e) = tt
  other_safe (NotGood e) = tt

  quiet_safe : Safe (hear_quiet h).answer (hear_quiet h).reader h room
  quiet_safe = safe_cond (is_nil h) _ _ tt tt

  in_safe : (y : PhaseV) (r : ReaderV) → data_room y r ≤ room → Safe (hear_in y r h).answer (hear_in y r h).reader h room
  in_safe Ready r f = tt
  in_safe InRound r f = slot_safe false r
  in_safe InSweep r f = slot_safe true r
  in_safe QuietSent r f = quiet_safe
  in_safe ReadSent r f = answer_safe true r.count r.status f
  in_safe OtherSent r f = other_safe (read_answer false 0 false h)
  in_safe Stopped r f = tt

  pub hear_safe : (r : ReaderV) → data_room r.phase r ≤ room → Safe (hear r h).answer (hear r h).reader h room
  unfolding hear
  hear_safe r f = in_safe r.phase r f

-- the rooms that were asked for are there
pub not_short : (r : ReaderV) (room out : ℕ) → is_short r room out ≡ false → (data_room r.phase r ≤ room) × (112 ≤ out)
unfolding is_short
not_short r room out e = go (ltb room (data_room r.phase r)) (ltb out 112) refl refl e
  where
    go : (a b : Bool) → ltb room (data_room r.phase r) ≡ a → ltb out 112 ≡ b → (a || b) ≡ false → (data_room r.phase r ≤ room) × (112 ≤ out)
    go true b p q z = absurd (true≢false z)
    go false true p q z = absurd (true≢false z)
    go false false p q z = (ltb-false room (data_room r.phase r) p, ltb-false out 112 q)
