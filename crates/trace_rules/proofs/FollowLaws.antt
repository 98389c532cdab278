-- The two records of an exchange, where a log has them: they are read as that exchange. Assumes nothing.
use Rattle.std.specs.Prelude.{◌≡◌, refl, ℕ, ◌+◌, ◌*◌, ◌≤◌, ◌<◌, Bool, true, false, List, [], ◌∷◌, ◌++◌, length, drop, Ok}
use Rattle.std.proofs.Common.{sym, ap, ◌∙◌, arith, drop-drop, drop_at}
use Rattle.rows.specs.ListLaws.{same_refl}
use Rattle.rows.specs.Rows.{Bits, clean}
use Rattle.reader.specs.Reader.{frame, hear}
use Rattle.air_log.specs.Calls.{most_bits, row_size}
use Rattle.air_log.specs.Log.{Exchange, sent_record, heard_record}
use Rattle.air_log.specs.Reading.{record_at}
use Rattle.air_log.proofs.ReadBackLaws.{sent_back, silence_back, clean_back, collided_back}
use Rattle.air_log.proofs.RecordLaws.{length_sent, length_heard_silent, length_heard_clean, length_heard_collided}
use Rattle.trace_rules.specs.Trace.{heard_row, sent_passed, heard_passed, turned, step}
use Rattle.trace_rules.specs.Check.{compared}
use Rattle.trace_rules.specs.HeardLaws.{Three, marked_back}
use Rattle.trace_rules.specs.Promise.{Begins}
use Rattle.trace_rules.specs.declared.Place.{Place}

-- an exchange whose records can be read
pub record Readable (e : Exchange) : Type 0 where
  pub bits : Bits e.sent
  pub some : 0 < length e.sent
  pub sent_fits : length e.sent ≤ most_bits
  pub heard_fits : length e.heard ≤ most_bits
  pub three : Three e.heard

-- what stands behind some bytes
past : (l : List ℕ) (at : ℕ) (s q : List ℕ) → drop at l ≡ s ++ q → drop (at + length s) l ≡ q
past l at s q e = sym (drop-drop (length s) at l) ∙ ap (drop (length s)) e ∙ drop_at s q (length s) refl

-- what was heard, by a record of a place
record Heard (w : ℕ) (l : List ℕ) (at : ℕ) (h q : List ℕ) : Type 0 where
  next : ℕ
  passed : heard_passed (record_at w l at) ≡ Ok next
  row : heard_row l (record_at w l at) ≡ h
  behind : drop next l ≡ q

module _ (l : List ℕ) (at : ℕ) (x : List ℕ) where
  heard_there : (h q : List ℕ) → Three h → length h ≤ most_bits → drop at l ≡ heard_record x h ++ q → Heard (length x) l at h q
  heard_there [] q t n e =
      let r = silence_back l at x q e in
      let k : at + length (heard_record x []) ≡ at + 2 + length x = omega (arith, length_heard_silent x [] refl) in
      record { next = at + 2 + length x; passed = rw r; row = rw r; behind = rw k at (past l at (heard_record x []) q e) }
  heard_there (b ∷ h) q t n e = go (clean (b ∷ h)) refl
    where
      r : List ℕ
      r = b ∷ h

      go : (c : Bool) → clean r ≡ c → Heard (length x) l at r q
      go true c =
          let p = clean_back l at x r q c (omega arith) n e in
          let k : at + length (heard_record x r) ≡ at + 2 + length x + row_size (length r) = omega (arith, length_heard_clean x r c) in
          record { next = at + 2 + length x + row_size (length r); passed = rw p.0; row = rw p.0 p.1; behind = rw k at (past l at (heard_record x r) q e) }
      go false c =
          let p = collided_back l at x r q c n e in
          let k : at + length (heard_record x r) ≡ at + 2 + length x + 2 * row_size (length r) = omega (arith, length_heard_collided x r c) in
          record {
            next = at + 2 + length x + 2 * row_size (length r);
            passed = rw p.0;
            row = rw p.0 (rw (p.1, p.2) (marked_back r t));
            behind = rw k at (past l at (heard_record x r) q e);
          }

-- both records, from a place on
record Both (w : ℕ) (l : List ℕ) (at : ℕ) (e : Exchange) (q : List ℕ) : Type 0 where
  middle : ℕ
  sent : sent_passed l e.sent (record_at w l at) ≡ Ok middle
  heard : Heard w l middle e.heard q

both_there : (w : ℕ) (l : List ℕ) (at : ℕ) (e : Exchange) (F : List ℕ → Type 0) → Readable e → (b : Begins w F e (drop at l)) → Both w l at e b.rest
both_there w l at e F g b =
    let x : List ℕ = b.sent_stamp in
    let y : List ℕ = b.heard_stamp in
    let q : List ℕ = heard_record y e.heard ++ b.rest in
    let p = sent_back l at x e.sent q g.bits g.some g.sent_fits b.bytes in
    let m : ℕ = at + 2 + length x + row_size (length e.sent) in
    let k : at + length (sent_record x e.sent) ≡ m = omega (arith, length_sent x e.sent) in
    let d : drop m l ≡ heard_record y e.heard ++ b.rest = rw k at (past l at (sent_record x e.sent) q b.bytes) in
    record {
      middle = m;
      sent = rw (← b.sent_wide, p.0, p.1, same_refl e.sent);
      heard = rw b.heard_wide at (heard_there l m y e.heard b.rest g.three g.heard_fits d);
    }

module _ (w : ℕ) (l : List ℕ) (at : ℕ) (e : Exchange) (F : List ℕ → Type 0) (g : Readable e) (b : Begins w F e (drop at l)) where
  -- the place behind them, from which on the log has F
  both : Both w l at e b.rest
  both = both_there w l at e F g b

  pub beyond : ℕ
  beyond = both.heard.next

  pub beyond_has : F (drop beyond l)
  unfolding beyond
  beyond_has = rw both.heard.behind b.behind

  -- held to this exchange they are the same
  pub same_there : compared w l e at ≡ Ok beyond
  unfolding compared beyond
  same_there =
      let h = both.heard in
      rw (both.sent, h.row, same_refl e.heard, h.passed)

  -- a check whose reader has sent this frame goes on with what was heard
  pub step_there : (p : Place) → p.at ≡ at → frame p.reader ≡ e.sent → step w l p ≡ turned l p beyond (hear p.reader e.heard)
  unfolding step beyond
  step_there p k f =
      let h = both.heard in
      rw (k, f, both.sent, h.passed, h.row)
