-- Document 02, T-14: "an answer with nothing kept starts anew". Where the path has nothing of the level that comes next the turn is the plain
-- reader's. Assumes nothing.
use Rattle.std.specs.Prelude.{◌≡◌, ℕ, suc, ◌*◌, ◌≤◌, Bool, ◌&&◌, length, take, drop, get_or, Result, Ok, Err}
use Rattle.std.proofs.Math.Path.{refl, ap}
use Rattle.std.proofs.Common.{◌∙◌, arith, length-drop, length-take}
use Rattle.std.proofs.Math.Bool.{true, false, cond}
use mathlib.Core.List.{List, []}
use Rattle.rows.specs.ListLaws.{is_nil_law}
use Rattle.rows.specs.Rows.{is_nil}
use Rattle.parity.specs.Bits.{unbits}
use Rattle.frame.specs.Frame.{bytes_of}
use Rattle.uid.specs.Uid.{place}
use Rattle.selection.specs.Heard.{read_atqa, read_sak}
use Rattle.reader.specs.Reader as Plain
use Rattle.reader.specs.Reader.{uid, turn, blank, stop, sends, finds, opens, completes, longer, after_atqa, hear_atqa, after_sak, b3, contradicts, sak_heard, hear_sak}
use Rattle.reader.specs.StepLaws.{hear_at}
use Rattle.memory.specs.EnterLaws.{length_bits}
use Rattle.memory.specs.Memory.{bits, branch, known, enters, enters_by, higher, comes, hear_in, hear}
use Rattle.uid.specs.declared.Level.{Level}
use Rattle.uid.specs.declared.Level.TheVariants.{One, Two, Three}
use Rattle.uid.specs.declared.Uid.{Uid}
use Rattle.uid.specs.declared.UidSize.TheVariants.{Single, Double, Triple}
use Rattle.refusal.specs.declared.Refusal.TheVariants.{Forbidden}
use Rattle.reader.specs.declared.Phase.TheVariants.{ReqaSent, SelectSent, Finished}
use Rattle.reader.specs.declared.Reader.{Reader}
use Rattle.reader.specs.declared.Answer.TheVariants.{Finishes}
use Rattle.refusal.specs.declared.Refusal.{Refusal}

known_none : (l : Level) (w : List ℕ) → length w ≤ 40 * place l → known l w ≡ []
unfolding known
known_none l w h = is_nil_law (take 40 (drop (40 * place l) (bits w))) (rw (length-take, length-drop, length_bits) (omega arith))

-- a level of which nothing is known is opened as the plain reader opens it
opens_anew : (l : Level) (w : List ℕ) (s : Bool) (u : Uid) → known l w ≡ [] → enters_by (opens l s u).answer l (opens l s u) w ≡ opens l s u
unfolding opens sends enters bytes_of unbits
opens_anew l w s u e = rw e

module _ (r : Reader) (w h : List ℕ) where
  pub starts_anew : r.phase ≡ ReqaSent → branch w ≡ [] → (hear r w h).turn ≡ Plain.hear r h
  unfolding hear comes Plain.hear hear_atqa
  starts_anew e k = rw (e, k) (go (is_nil h && r.sweeps) (read_atqa h))
    where
      go : (b : Bool) (a : Result Unit Refusal) → enters_by (cond b (turn (blank Finished false) Finishes) (after_atqa r.sweeps a)).answer One (cond b (turn (blank Finished false) Finishes) (after_atqa r.sweeps a)) []
          ≡ cond b (turn (blank Finished false) Finishes) (after_atqa r.sweeps a)
      go true a = refl
      go false (Ok tt) = opens_anew One [] r.sweeps (uid Single []) (known_none One [] (omega arith))
      go false (Err e) = refl

  pub goes_on_anew : (l : Level) → r.phase ≡ SelectSent l → length w ≤ 40 * suc (place l) → (hear r w h).turn ≡ Plain.hear r h
  unfolding hear comes hear_sak
  goes_on_anew l e k =
      let p : Plain.hear r h ≡ sak_heard l r (read_sak h) = hear_at r h (SelectSent l) e in
      let t : (hear_in (SelectSent l) r w h).turn ≡ Plain.hear r h = rw p (go (read_sak h)) in
      ap (λ q. (hear_in q r w h).turn) e ∙ t
    where
      ends : (s : Bool) (u : Uid) (b : ℕ) → enters_by (completes s u b).answer (higher l) (completes s u b) w ≡ completes s u b
      ends true u b = unfold completes finds in refl
      ends false u b = unfold completes in refl

      after : (m : Level) (b : ℕ) (c : Bool) → l ≡ m → length w ≤ 40 * suc (place m) → enters_by (after_sak m r b c).answer (higher m) (after_sak m r b c) w ≡ after_sak m r b c
      after One b true q k = opens_anew Two w r.sweeps (uid Single (longer One r 1)) (known_none Two w (omega arith))
      after Two b true q k = opens_anew Three w r.sweeps (uid Single (longer Two r 1)) (known_none Three w (omega arith))
      after Three b true q k = refl
      after One b false q k = rw q at (ends r.sweeps (uid Single (longer One r 0)) b)
      after Two b false q k = rw q at (ends r.sweeps (uid Double (longer Two r 0)) b)
      after Three b false q k = rw q at (ends r.sweeps (uid Triple (longer Three r 0)) b)

      fits : (c : Bool) (b : ℕ) → enters_by (cond c (stop Forbidden) (after_sak l r b (b3 b))).answer (higher l) (cond c (stop Forbidden) (after_sak l r b (b3 b))) w ≡ cond c (stop Forbidden) (after_sak l r b (b3 b))
      fits true b = refl
      fits false b = after l b (b3 b) refl k

      go : (a : Result ℕ Refusal) → enters_by (sak_heard l r a).answer (higher l) (sak_heard l r a) w ≡ sak_heard l r a
      go (Ok b) = fits (contradicts l (b3 b) (get_or r.five 0 0)) b
      go (Err e) = refl
