-- T-04, a SAK against its level: valid cards never meet the test, and every UID that the reader completes is valid. Assumes nothing.
use Rattle.std.specs.Prelude.{◌≡◌, Bool, cond, not, ◌&&◌, ◌||◌, ℕ, zero, suc, ◌*◌, ◌≤◌, ◌<◌, length, take, drop, get_or, eqb, ltb, Result, Ok, Err}
use Rattle.std.proofs.Math.Path.{refl}
use Rattle.std.proofs.Common.{sym, ap, ◌∙◌, arith, length-take, drop-cons, lt-ltb, le-ltb, ltb-true, ltb-false}
use Rattle.std.proofs.Math.Bool.{true, false}
use mathlib.Core.List.{List, [], ◌∷◌, ◌++◌, append_assoc}
use Rattle.std.proofs.Math.Seq.{get_or-append_seam}
use Rattle.std.proofs.lemmas.Bool.{not-true}
use Rattle.frame.specs.ByteLaws.{bytes_bits}
use Rattle.frame.specs.Frame.{air_bits, bytes_of}
use Rattle.uid.specs.CheckLaws.{Five}
use Rattle.uid.specs.LevelLaws.{lev}
use Rattle.uid.specs.Uid.{level, levels, levels_of, place, row_of, valid, valid_of}
use Rattle.uid.specs.UidLaws.{Sound, five_row, lev_row, length_row}
use Rattle.limits.specs.Limits.{frame_room}
use Rattle.reader.specs.Calls.{Completed, call}
use Rattle.reader.specs.Reader.{picks, pick_next, after_wupa, hear_wupa, misfits, uid_sak_heard, hear_uid_sak, contradicts, b3, opens, sends, finds, completes, longer, stop, after_atqa, hear_atqa, after_rest, hear_rest, after_sak, sak_heard, hear_sak, hear_silence, hear_in, hear}
use Rattle.reader.specs.ReaderLaws.{lvl}
use Rattle.rows.specs.Rows.{fill, is_nil}
use Rattle.selection.specs.Heard.{read_atqa, read_rest, read_sak}
use Rattle.refusal.specs.declared.Refusal.TheVariants.{Forbidden}
use Rattle.selection.specs.declared.Rest.{Rest}
use Rattle.selection.specs.declared.RestSays.{RestSays}
use Rattle.selection.specs.declared.RestSays.TheVariants.{Whole, Collided, NotRest}
use Rattle.reader.specs.declared.Phase.{Phase}
use Rattle.reader.specs.declared.Phase.TheVariants.{New, ReqaSent, AnticollisionSent, SelectSent, HltaSent, Selected, Finished, Stopped, WupaSent, UidSelectSent}
use Rattle.reader.specs.declared.Reader.{Reader}
use Rattle.reader.specs.declared.Turn.{Turn}
use Rattle.uid.specs.declared.Level.{Level}
use Rattle.uid.specs.declared.Level.TheVariants.{One, Two, Three}
use Rattle.uid.specs.declared.Uid.{Uid}
use Rattle.uid.specs.declared.UidSize.{UidSize}
use Rattle.uid.specs.declared.UidSize.TheVariants.{Single, Double, Triple}
use Rattle.refusal.specs.declared.Refusal.{Refusal}

-- ---- valid cards never meet the test

-- the first byte of level j of a UID whose bytes are u
abbrev first_of : UidSize → List ℕ → ℕ → ℕ
first_of z u j = get_or (get_or (levels_of z u) j []) 0 0

first_plain : (u : List ℕ) (i : ℕ) → i < length u → get_or (level (take 4 (drop i u))) 0 0 ≡ get_or u i 0
unfolding level
first_plain u i h = rw (drop-cons u i 0 h)

fits_levels : (z : UidSize) (u : List ℕ) → length u ≡ 10 → valid_of z u ≡ true → (j : ℕ) → j < length (levels_of z u)
    → contradicts (lvl j) (ltb (suc j) (length (levels_of z u))) (first_of z u j) ≡ false
unfolding contradicts lvl level
fits_levels Single u ten v zero h = rw (first_plain u 0 (omega arith), not-true (eqb (get_or u 0 0) 0x88) v)
fits_levels Single u ten v (suc j) h = absurd (omega arith)
fits_levels Double u ten v zero h = refl
fits_levels Double u ten v (suc zero) h = rw (first_plain u 3 (omega arith), not-true (eqb (get_or u 3 0) 0x88) v)
fits_levels Double u ten v (suc (suc j)) h = absurd (omega arith)
fits_levels Triple u ten v zero h = refl
fits_levels Triple u ten v (suc zero) h = refl
fits_levels Triple u ten v (suc (suc zero)) h = refl
fits_levels Triple u ten v (suc (suc (suc j))) h = absurd (omega arith)

-- "Valid cards never meet it": b3 is set exactly where levels remain
pub valid_fits : (u : Uid) → Sound u → (j : ℕ) → j < length (levels u) → contradicts (lvl j) (ltb (suc j) (length (levels u))) (get_or (get_or (levels u) j []) 0 0) ≡ false
unfolding levels valid
valid_fits u s j h = fits_levels u.size u.bytes s.ten s.is_valid j h

-- the same over on-air rows: level j of the row r, of which others follow or not
abbrev pub Fitting : List ℕ → Type 0
Fitting r = (j : ℕ) → 40 * suc j ≤ length r → contradicts (lvl j) (ltb (40 * suc j) (length r)) (get_or (bytes_of 5 (lev j r)) 0 0) ≡ false

ltb_times : (a b : ℕ) → ltb (40 * a) (40 * b) ≡ ltb a b
ltb_times a b = go (ltb a b) refl
  where
    go : (t : Bool) → ltb a b ≡ t → ltb (40 * a) (40 * b) ≡ ltb a b
    go true e = lt-ltb (40 * a) (40 * b) (omega (arith, ltb-true a b e)) ∙ sym e
    go false e = le-ltb (40 * a) (40 * b) (omega (arith, ltb-false a b e)) ∙ sym e

pub fitting_row : (u : Uid) → Sound u → Fitting (row_of u)
fitting_row u s j h =
    let k : j < length (levels u) = omega (arith, length_row u s) in
    let f : Five (get_or (levels u) j []) = five_row u s j k in
    let b : bytes_of 5 (lev j (row_of u)) ≡ get_or (levels u) j [] = rw (lev_row u s j k) (ap (λ n. bytes_of n (air_bits (get_or (levels u) j []))) (sym f.full) ∙ bytes_bits _ f.fits) in
    rw (b, length_row u s, ltb_times (suc j) (length (levels u))) (valid_fits u s j k)

-- ---- every UID that the reader completes is valid

abbrev Good : Turn → Type 0
Good t = Completed t.answer t.reader

either : (b : Bool) (t u : Turn) → Good t → Good u → Good (cond b t u)
either true t u h k = h
either false t u h k = k

completes_good : (s : Bool) (u : Uid) (b : ℕ) → valid u ≡ true → Good (completes s u b)
unfolding completes finds
completes_good true u b h = h
completes_good false u b h = h

opens_good : (l : Level) (s : Bool) (u : Uid) → Good (opens l s u)
unfolding opens sends
opens_good l s u = tt

-- the UID's byte behind the n that are held is the level's first
first_added : (a five : List ℕ) (n : ℕ) → length a ≡ n → length five ≡ 5 → get_or (fill 10 (a ++ take 4 five)) n 0 ≡ get_or five 0 0
unfolding fill
first_added a [] n e f = absurd (omega arith)
first_added a (x ∷ five) n e f = rw (← e, append_assoc) (get_or-append_seam a x _ 0)

-- T-03: a known UID is tested where it completes
pick_good : (l : Level) (u : Uid) → Good (pick_next l u)
unfolding picks sends
pick_good One u = tt
pick_good Two u = tt
pick_good Three u = tt

wupa_good : (u : Uid) (a : Result Unit Refusal) → Good (after_wupa u a)
unfolding picks sends
wupa_good u (Ok tt) = tt
wupa_good u (Err e) = tt

uid_good : (l : Level) (u : Uid) (a : Result ℕ Refusal) → Good (uid_sak_heard l u a)
unfolding misfits
uid_good l u (Ok b) = go (valid u) refl
  where
    X : Bool
    X = cond (ltb (suc (place l)) (length (levels u))) (not (b3 b)) (b3 b)

    go : (v : Bool) → valid u ≡ v → Good (cond (not v || X) (stop Forbidden) (cond (b3 b) (pick_next l u) (completes false u b)))
    go true e = either X _ _ tt (either (b3 b) _ _ (pick_good l u) (completes_good false u b e))
    go false e = tt
uid_good l u (Err e) = tt

module _ (r : Reader) (five : length r.five ≡ 5) (ten : length r.uid.bytes ≡ 10) where
  sak_good : (l : Level) (b : ℕ) (more : Bool) → contradicts l more (get_or r.five 0 0) ≡ false → Good (after_sak l r b more)
  unfolding contradicts longer valid
  sak_good One b true h = opens_good Two r.sweeps _
  sak_good Two b true h = opens_good Three r.sweeps _
  sak_good Three b true h = tt
  sak_good One b false h = completes_good r.sweeps _ b (rw (first_added [] r.five 0 refl five, h))
  sak_good Two b false h = completes_good r.sweeps _ b (rw (first_added (take 3 r.uid.bytes) r.five 3 (rw (length-take, ten)) five, h))
  sak_good Three b false h = completes_good r.sweeps _ b refl

  heard_good : (l : Level) (a : Result ℕ Refusal) → Good (sak_heard l r a)
  heard_good l (Ok b) = go (contradicts l (b3 b) (get_or r.five 0 0)) refl
    where
      go : (t : Bool) → contradicts l (b3 b) (get_or r.five 0 0) ≡ t → Good (cond t (stop Forbidden) (after_sak l r b (b3 b)))
      go true e = tt
      go false e = sak_good l b (b3 b) e
  heard_good l (Err e) = tt

  atqa_good : (a : Result Unit Refusal) → Good (after_atqa r.sweeps a)
  atqa_good (Ok tt) = opens_good One r.sweeps _
  atqa_good (Err e) = tt

  rest_good : (l : Level) (x : Rest) (s : RestSays) → Good (after_rest l r x s)
  unfolding sends
  rest_good l x Whole = tt
  rest_good l x Collided = tt
  rest_good l x (NotRest e) = tt

  hear_good : (p : Phase) (h : List ℕ) → Good (hear_in p r h)
  unfolding hear_atqa hear_rest hear_sak hear_silence hear_wupa hear_uid_sak sends
  hear_good New h = tt
  hear_good ReqaSent h = either (is_nil h && r.sweeps) _ _ tt (atqa_good (read_atqa h))
  hear_good (AnticollisionSent l) h = rest_good l (read_rest r.known r.five h) (read_rest r.known r.five h).says
  hear_good (SelectSent l) h = heard_good l (read_sak h)
  hear_good HltaSent h = either (is_nil h) _ _ tt tt
  hear_good Selected h = tt
  hear_good Finished h = tt
  hear_good Stopped h = tt
  hear_good WupaSent h = wupa_good r.uid (read_atqa h)
  hear_good (UidSelectSent l) h = uid_good l r.uid (read_sak h)

  pub completed_valid : (h : List ℕ) → Completed (hear r h).answer (hear r h).reader
  unfolding hear
  completed_valid h = hear_good r.phase h

-- .. and so it is with a call
pub call_completed : (b : Bool) (r : Reader) (t : Turn) (n : ℕ) (u : Turn) → u ≡ call b r t n → Completed t.answer t.reader → Completed u.answer u.reader
unfolding call
call_completed b r t n u e h = rw e (either (not b) _ _ tt (either (ltb n frame_room) _ _ tt h))
