-- Laws of one exchange: rows at the front of the arrays into which they were written, and the two records in the log. Assumes nothing.
use Rattle.std.specs.Prelude.{◌≡◌, ℕ, ◌+◌, ◌≤◌, List, length, take, replicate}
use Rattle.std.proofs.Common.{sym, ap, ◌∙◌, arith, length-append}
use Rattle.rows.specs.Rows.{overlay}
use Rattle.rows.proofs.RowLaws.{overlay_front, overlay_next}
use Rattle.reader.specs.Reader.{frame}
use Rattle.field.specs.Calls.{together}
use Rattle.field.specs.Field.{heard_from}
use Rattle.field.specs.TakeLaws.{front_fits}
use Rattle.field.specs.declared.within.Together.{Together}
use Rattle.air_log.specs.Log.{sent_heard, tick_bytes, exchange_bytes, exchange_size, sent_record, heard_record}
use Rattle.air_log.proofs.RecordLaws.{exchange_size_law}
use Rattle.card.specs.declared.Card.{Card}
use Rattle.reader.specs.declared.Reader.{Reader}
use Rattle.sweep_steps.specs.Steps.{aired}
use Rattle.sweep_steps.specs.declared.within.Aired.{Aired}

-- the first n bits of the row r are s
pub record Front (s : List ℕ) (n : ℕ) (r : List ℕ) : Type 0 where
  pub count : n ≡ length s
  pub fits : n ≤ length r
  pub bits : take n r ≡ s

pub front_of_law : (d s : List ℕ) (n : ℕ) (r : List ℕ) → n ≡ length s → r ≡ overlay d 0 s → Front s n r
front_of_law d s n r e o =
    record {
      count = e;
      fits = omega (arith, front_fits d s (length r) (sym (ap length o)));
      bits = rw (e, o) (overlay_front d s);
    }

-- what is heard, after the frame f that stands in the first bits of a row
pub heard_front : (f : List ℕ) (n : ℕ) (r : List ℕ) → Front f n r → (cards : List Card) (k : ℕ) (t : Together) → t ≡ together cards k (take n r)
    → (d h : List ℕ) → h ≡ overlay d 0 (heard_from (take n r) (take k cards)) → Front (heard_from f (take k cards)) t.bits h
heard_front f n r u cards k t e d h o =
    front_of_law d (heard_from f (take k cards)) t.bits h
    (ap (λ x. x.bits) e ∙ ap (λ x. length (heard_from x (take k cards))) u.bits)
    (o ∙ ap (λ x. overlay d 0 (heard_from x (take k cards))) u.bits)

pub heard_aired : (r : Reader) (cards : List Card) (k : ℕ) (x : Aired) → x ≡ aired r cards k → Front (heard_from (frame r) (take k cards)) x.bits x.heard
unfolding aired
heard_aired r cards k x e = front_of_law (replicate 45 0) (heard_from (frame r) (take k cards)) x.bits x.heard (ap (λ y. y.bits) e) (ap (λ y. y.heard) e)

-- the two records one behind the other
pub length_exchange : (t : ℕ) (f h : List ℕ) → exchange_size (sent_heard f h) ≡ length (sent_record (tick_bytes t) f) + length (heard_record (tick_bytes (t + 1)) h)
unfolding exchange_bytes
length_exchange t f h = sym (exchange_size_law t (sent_heard f h)) ∙ length-append (sent_record (tick_bytes t) f) (heard_record (tick_bytes (t + 1)) h)

pub exchange_written : (log : List ℕ) (at t : ℕ) (f h log₁ log₂ : List ℕ) (a : ℕ) → at + exchange_size (sent_heard f h) ≤ length log
    → a ≡ length (sent_record (tick_bytes t) f) → log₁ ≡ overlay log at (sent_record (tick_bytes t) f) → log₂ ≡ overlay log₁ (at + a) (heard_record (tick_bytes (t + 1)) h)
    → log₂ ≡ overlay log at (exchange_bytes t (sent_heard f h))
unfolding exchange_bytes
exchange_written log at t f h log₁ log₂ a room e o₁ o₂ =
    o₂ ∙ rw (o₁, e) (overlay_next log at (sent_record (tick_bytes t) f) (heard_record (tick_bytes (t + 1)) h) (omega (arith, length_exchange t f h)))
