-- The reader of a sweep stays one: what it sends are the frames of a sweep, and its rows keep their lengths. Assumes nothing.
use Rattle.std.specs.Prelude.{◌≡◌, ℕ, ◌+◌, ◌-◌, ◌*◌, ◌/◌, ◌≤◌, ◌<◌, Bool, true, false, cond, not, ◌&&◌, List, [], ◌++◌, length, take, drop, get_or, eqb, ltb, Result, Ok, Err}
use Rattle.std.proofs.Math.Path.{refl}
use Rattle.std.proofs.Common.{arith, length-append, length-take, length-drop}
use Rattle.rows.specs.EachLaws.{length_fill}
use Rattle.rows.specs.Rows.{is_nil, clean, next, same, fill}
use Rattle.frame.specs.ByteLaws.{length_bytes}
use Rattle.frame.specs.Frame.{data_of, bytes_of, faulty, standard}
use Rattle.uid.specs.Uid.{place, level}
use Rattle.selection.specs.Heard.{read_atqa, read_rest, read_sak, not_rest, rest_of, rest_place}
use Rattle.reader.specs.CollisionLaws.{grows}
use Rattle.selection.specs.Selection.{cut}
use Rattle.selection.specs.SelectionLaws.{length_reqa, length_hlta, length_anti, length_select}
use Rattle.reader.specs.Reader.{frame_in, frame, uid, blank, sends, finds, opens, longer, completes, after_atqa, hear_atqa, after_rest, hear_rest, after_sak, b3, contradicts, sak_heard, hear_sak, hear_silence, hear_in, hear}
use Rattle.refusal.specs.declared.Refusal.TheVariants.{Silence, Length, Parity, Check, Collision}
use Rattle.selection.specs.declared.Rest.{Rest}
use Rattle.selection.specs.declared.RestSays.{RestSays}
use Rattle.selection.specs.declared.RestSays.TheVariants.{Whole, Collided, NotRest}
use Rattle.uid.specs.declared.Level.{Level}
use Rattle.uid.specs.declared.Level.TheVariants.{One, Two, Three}
use Rattle.uid.specs.declared.Uid.{Uid}
use Rattle.uid.specs.declared.UidSize.TheVariants.{Single}
use Rattle.reader.specs.declared.Phase.{Phase}
use Rattle.reader.specs.declared.Phase.TheVariants.{New, ReqaSent, AnticollisionSent, SelectSent, HltaSent, Selected, Finished, Stopped, WupaSent, UidSelectSent}
use Rattle.reader.specs.declared.Reader.{Reader}
use Rattle.reader.specs.declared.Answer.{Answer}
use Rattle.reader.specs.declared.Answer.TheVariants.{Sends, Finds, Selects, Finishes, Declines}
use Rattle.reader.specs.declared.Turn.{Turn}
use Rattle.refusal.specs.declared.Refusal.{Refusal}

-- REQA, ANTICOLLISION, SELECT or HLTA is out
abbrev pub InSweep : Phase → Type 0
InSweep New = ⊥
InSweep ReqaSent = Unit {0}
InSweep (AnticollisionSent l) = Unit {0}
InSweep (SelectSent l) = Unit {0}
InSweep HltaSent = Unit {0}
InSweep Selected = ⊥
InSweep Finished = ⊥
InSweep Stopped = ⊥
InSweep WupaSent = ⊥
InSweep (UidSelectSent l) = ⊥

-- ANTICOLLISION sends at most 40 bits of a level
abbrev pub Few : Phase → ℕ → Type 0
Few New k = Unit {0}
Few ReqaSent k = Unit {0}
Few (AnticollisionSent l) k = k ≤ 40
Few (SelectSent l) k = Unit {0}
Few HltaSent k = Unit {0}
Few Selected k = Unit {0}
Few Finished k = Unit {0}
Few Stopped k = Unit {0}
Few WupaSent k = Unit {0}
Few (UidSelectSent l) k = Unit {0}

pub record Sweeping (r : Reader) : Type 0 where
  pub phase_ok : InSweep r.phase
  pub sweeps : r.sweeps ≡ true
  pub five : length r.five ≡ 5
  pub ten : length r.uid.bytes ≡ 10
  pub few : Few r.phase r.known

-- .. wherever a frame is out after a turn
abbrev GoesIn : Answer → Reader → Type 0
GoesIn (Sends n) r = Sweeping r
GoesIn (Finds n) r = Sweeping r
GoesIn Selects r = Unit {0}
GoesIn Finishes r = Unit {0}
GoesIn (Declines e) r = Unit {0}

abbrev pub Stays : Turn → Type 0
Stays t = GoesIn t.answer t.reader

either : (b : Bool) (t u : Turn) → Stays t → Stays u → Stays (cond b t u)
either true t u x y = x
either false t u x y = y

-- ---- the level's bytes, and the UID's

five_rest : (k : ℕ) (five h : List ℕ) → length (read_rest k five h).five ≡ 5
unfolding read_rest rest_of
five_rest k five h =
    go (is_nil h) (not (eqb (cut k + length h) 45)) (not (clean d) && ltb 32 (length (next d))) (faulty (5 - i) (drop (9 * i) w))
    (clean d && not (same (bytes_of 5 d) (level (take 4 (bytes_of 5 d)))))
  where
    w : List ℕ
    w = take (cut k) (standard five) ++ h

    d : List ℕ
    d = data_of 5 w

    i : ℕ
    i = (k + 7) / 8

    x : Rest
    x = rest_of (cond (clean d) Whole Collided) (next d)

    go : (a b c e f : Bool) → length (cond a (not_rest Silence) (cond b (not_rest Length) (cond c (not_rest Collision) (cond e (not_rest (Parity (rest_place k w))) (cond f (not_rest Check) x))))).five ≡ 5
    go true b c e f = refl
    go false true c e f = refl
    go false false true e f = refl
    go false false false true f = refl
    go false false false false true = refl
    go false false false false false = length_bytes 5 (next d)

place_small : (l : Level) → 3 * place l ≤ 6
place_small One = omega arith
place_small Two = omega arith
place_small Three = omega arith

ten_longer : (l : Level) (r : Reader) (n : ℕ) → length (fill 10 (longer l r n)) ≡ 10
unfolding longer
ten_longer l r n =
    length_fill 10 (take (3 * place l) r.uid.bytes ++ drop n (take 4 r.five)) (rw (length-append, length-take, length-drop, length-take) (omega (arith, place_small l)))

-- ---- a turn

opens_stays : (l : Level) (s : Bool) (u : Uid) → s ≡ true → length u.bytes ≡ 10 → Stays (opens l s u)
unfolding opens sends
opens_stays l s u e h = record { phase_ok = tt; sweeps = e; five = refl; ten = h; few = omega arith }

completes_stays : (s : Bool) (u : Uid) (b : ℕ) → length u.bytes ≡ 10 → Stays (completes s u b)
unfolding completes finds
completes_stays true u b h = record { phase_ok = tt; sweeps = refl; five = refl; ten = h; few = tt }
completes_stays false u b h = tt

none_ten : length (fill 10 []) ≡ 10
unfolding fill
none_ten = refl

begin_stays : Stays (sends (blank ReqaSent true))
unfolding sends
begin_stays = record { phase_ok = tt; sweeps = refl; five = refl; ten = none_ten; few = tt }

module _ (r : Reader) (q : Sweeping r) (h : List ℕ) where
  atqa_stays : (a : Result Unit Refusal) → Stays (after_atqa r.sweeps a)
  atqa_stays (Ok tt) = opens_stays One r.sweeps (uid Single []) q.sweeps none_ten
  atqa_stays (Err e) = tt

  rest_stays : (l : Level) (s : RestSays) → (read_rest r.known r.five h).says ≡ s → Stays (after_rest l r (read_rest r.known r.five h) s)
  unfolding sends
  rest_stays l Whole e = record { phase_ok = tt; sweeps = q.sweeps; five = five_rest r.known r.five h; ten = q.ten; few = tt }
  rest_stays l Collided e =
      record { phase_ok = tt; sweeps = q.sweeps; five = five_rest r.known r.five h; ten = q.ten; few = omega (arith, (grows r.known r.five h q.five e).1) }
  rest_stays l (NotRest x) e = tt

  after_stays : (l : Level) (b : ℕ) (more : Bool) → Stays (after_sak l r b more)
  after_stays One b true = opens_stays Two r.sweeps _ q.sweeps (ten_longer One r 1)
  after_stays Two b true = opens_stays Three r.sweeps _ q.sweeps (ten_longer Two r 1)
  after_stays Three b true = tt
  after_stays One b false = completes_stays r.sweeps _ b (ten_longer One r 0)
  after_stays Two b false = completes_stays r.sweeps _ b (ten_longer Two r 0)
  after_stays Three b false = completes_stays r.sweeps _ b (ten_longer Three r 0)

  sak_stays : (l : Level) (a : Result ℕ Refusal) → Stays (sak_heard l r a)
  sak_stays l (Ok b) = either (contradicts l (b3 b) (get_or r.five 0 0)) _ _ tt (after_stays l b (b3 b))
  sak_stays l (Err e) = tt

  in_stays : (p : Phase) → InSweep p → Stays (hear_in p r h)
  unfolding hear_atqa hear_rest hear_sak hear_silence
  in_stays New x = absurd x
  in_stays ReqaSent x = either (is_nil h && r.sweeps) _ _ tt (atqa_stays (read_atqa h))
  in_stays (AnticollisionSent l) x = rest_stays l (read_rest r.known r.five h).says refl
  in_stays (SelectSent l) x = sak_stays l (read_sak h)
  in_stays HltaSent x = either (is_nil h) _ _ begin_stays tt
  in_stays Selected x = absurd x
  in_stays Finished x = absurd x
  in_stays Stopped x = absurd x
  in_stays WupaSent x = absurd x
  in_stays (UidSelectSent l) x = absurd x

  pub hear_stays : Stays (hear r h)
  unfolding hear
  hear_stays = in_stays r.phase q.phase_ok

pub begin_sweeping : Sweeping (blank ReqaSent true)
begin_sweeping = record { phase_ok = tt; sweeps = refl; five = refl; ten = none_ten; few = tt }

-- ---- its frame is not empty

some_in : (p : Phase) (r : Reader) → InSweep p → Few p r.known → length r.five ≡ 5 → 0 < length (frame_in p r)
some_in New r x f h = absurd x
some_in ReqaSent r x f h = rw length_reqa (omega arith)
some_in (AnticollisionSent l) r x f h = rw (length_anti l r.known r.five h f) (omega arith)
some_in (SelectSent l) r x f h = rw (length_select l r.five h) (omega arith)
some_in HltaSent r x f h = rw length_hlta (omega arith)
some_in Selected r x f h = absurd x
some_in Finished r x f h = absurd x
some_in Stopped r x f h = absurd x
some_in WupaSent r x f h = absurd x
some_in (UidSelectSent l) r x f h = absurd x

pub frame_some : (r : Reader) → Sweeping r → 0 < length (frame r)
unfolding frame
frame_some r q = some_in r.phase r q.phase_ok q.few q.five
