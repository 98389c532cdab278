-- The check of an input of bytes is faithful: what it calls clean is the log of a sweep, and what a sweep wrote comes out clean. Assumes nothing.
use Rattle.trace_rules.specs.Verdict.{Verdict}
use Rattle.std.specs.Prelude.{◌≡◌, refl, ℕ, suc, Bool, true, false, cond, ◌||◌, List, [], ◌∷◌, ltb, length, drop, get_or, Err, Ok}
use Rattle.std.proofs.Common.{arith, ltb-false}
use Rattle.rows.specs.Rows.{All, Bytes, is_nil}
use Rattle.limits.specs.Limits.{log_room}
use Rattle.sweep_rules.specs.Demand.{Typed}
use Rattle.sweep_rules.specs.Run.{sweep}
use Rattle.sweep_rules.specs.Terms.{within}
use Rattle.refusal.specs.declared.Refusal.TheVariants.{Room, Argument}
use Rattle.trace_rules.specs.Trace.{stamp_size, start, walk}
use Rattle.trace_rules.specs.Check.{cards_of, judged, check_log, refused, check, checked_says, check_says, fault_says}
use Rattle.trace_rules.specs.Promise.{LogOf, InputOf, ComesOut, Faithful}
use Rattle.trace_rules.specs.CleanLaws.{log_of}
use Rattle.trace_rules.proofs.SweepCleanLaws.{input_log, comes_clean, listed_uids, listed_kinds}
use Rattle.trace_rules.proofs.FieldLaws.{Field, walk_field, start_listing, start_sweeping}
use Rattle.card.specs.declared.Card.{Card}
use Rattle.trace_rules.specs.declared.Checked.{Checked}

-- what is known of a log that is called clean
record Sound (w : ℕ) (l : List ℕ) (c : Checked) : Type 0 where
  log : LogOf w (sweep (cards_of c)).exchanges l
  field : Field c

log_sound : (w : ℕ) (l : List ℕ) → Bytes l → (check_log w l).verdict ≡ Ok tt → Sound w l (check_log w l)
unfolding check_log
log_sound w l b h = go (walk (suc (length l)) w l 0 start) (walk_field (suc (length l)) w l 0 start start_sweeping start_listing) h
  where
    go : (c : Checked) → (c.verdict ≡ Ok tt → Field c) → (judged w l c c.verdict).verdict ≡ Ok tt → Sound w l (judged w l c c.verdict)
    go c f h = go₂ c.verdict refl h
      where
        go₂ : (v : Verdict) → c.verdict ≡ v → (judged w l c v).verdict ≡ Ok tt → Sound w l (judged w l c v)
        go₂ (Ok u) e h = record { log = log_of w l b 0 (sweep (cards_of c)).exchanges 0 h; field = let q = f e in record { field = q.field; idle = q.idle } }
        go₂ (Err x) e h = let z : ◌≡◌ {A = ℕ} 0 1 = cc in absurd (omega arith)

-- what is known of an input that is called clean
record Known (s : List ℕ) (c : Checked) : Type 0 where
  input : InputOf (sweep (cards_of c)).exchanges s
  field : Field c

known : (s : List ℕ) → Bytes s → (check s).verdict ≡ Ok tt → Known s (check s)
unfolding check refused is_nil
known [] b h = go (ltb (suc log_room) 0) h
  where
    go : (t : Bool) → (cond t (refused Room) (refused Argument)).verdict ≡ Ok tt → Known [] (cond t (refused Room) (refused Argument))
    go true h = let z : ◌≡◌ {A = ℕ} 0 1 = cc in absurd (omega arith)
    go false h = let z : ◌≡◌ {A = ℕ} 0 1 = cc in absurd (omega arith)
known (m ∷ l) b h = go (ltb (suc log_room) (length (m ∷ l))) (ltb 1 m) refl h
  where
    go : (t u : Bool) → ltb 1 m ≡ u → (cond t (refused Room) (cond u (refused Argument) (check_log (stamp_size m) l))).verdict ≡ Ok tt
        → Known (m ∷ l) (cond t (refused Room) (cond u (refused Argument) (check_log (stamp_size m) l)))
    go true u e h = let z : ◌≡◌ {A = ℕ} 0 1 = cc in absurd (omega arith)
    go false true e h = let z : ◌≡◌ {A = ℕ} 0 1 = cc in absurd (omega arith)
    go false false e h =
        let x : Sound (stamp_size m) l (check_log (stamp_size m) l) = log_sound (stamp_size m) l b.1 h in
        record { input = record { mode = m; log = l; mode_ok = ltb-false 1 m e; input = refl; records = x.log }; field = x.field }

pub comes_out : (s : List ℕ) (cs : List Card) → All Typed cs → within cs ≡ true → InputOf (sweep cs).exchanges s → ComesOut cs (check s)
comes_out s cs t w i =
    rw (input_log cs t w s i) (record {
      clean = comes_clean cs t w (stamp_size i.mode) i.log i.records;
      list = listed_uids cs t w (stamp_size i.mode) i.log i.records;
      saks = listed_kinds cs t w (stamp_size i.mode) i.log i.records;
    })

pub faithful : (s : List ℕ) → Bytes s → Faithful s (check s)
faithful s b =
    record {
      from_sweep = comes_out s;
      is_sweep = λ h. (known s b h).input;
      is_field = λ h. (known s b h).field.field;
      are_idle = λ h. (known s b h).field.idle;
    }

-- ---- the numbers

pub says : (s : List ℕ) → checked_says (check s) ≡ check_says s
unfolding check check_says refused
says s = go (ltb (suc log_room) (length s)) (is_nil s || ltb 1 (get_or s 0 0))
  where
    c : Checked
    c = check_log (stamp_size (get_or s 0 0)) (drop 1 s)

    go : (a b : Bool) → checked_says (cond a (refused Room) (cond b (refused Argument) c)) ≡ cond a (fault_says 1) (cond b (fault_says 6) (checked_says c))
    go true b = refl
    go false true = refl
    go false false = refl
