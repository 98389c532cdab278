-- The log that a sweep writes from any tick, and the same records without ticks, are logs as the promise means them; and a field meets its terms.
-- Assumes nothing.
use Rattle.std.specs.Prelude.{◌≡◌, refl, ℕ, ◌+◌, Bool, true, false, List, [], ◌∷◌, ◌++◌}
use Rattle.std.proofs.Common.{append_assoc, arith}
use Rattle.rows.specs.Rows.{All, any, same}
use Rattle.uid.specs.Uid.{valid, uid_bytes}
use Rattle.air_log.specs.Log.{Exchange, tick_bytes, sent_record, heard_record, exchange_bytes, log_bytes}
use Rattle.air_log.proofs.RecordLaws.{length_tick}
use Rattle.sweep_rules.specs.Demand.{Typed}
use Rattle.sweep_rules.specs.Run.{sweep}
use Rattle.sweep_rules.specs.Terms.{card_fits, all_fit, apart, within}
use Rattle.uid.specs.declared.UidSize.{UidSize}
use Rattle.uid.specs.declared.UidSize.TheVariants.{Single, Double}
use Rattle.card.specs.declared.Card.{Card}
use Rattle.card.specs.declared.CardState.{CardState}
use Rattle.card.specs.declared.CardState.TheVariants.{Idle, Halt}
use Rattle.trace_rules.specs.Trace.{stamp_size}
use Rattle.trace_rules.specs.Check.{check}
use Rattle.trace_rules.proofs.FaithLaws.{comes_out}
use Rattle.trace_rules.specs.Promise.{LogOf, InputOf, ComesOut}

-- "A log that the plain sweep wrote": from any tick
ticked : (t : ℕ) (es : List Exchange) → LogOf (stamp_size 1) es (log_bytes t es)
unfolding log_bytes exchange_bytes
ticked t [] = refl
ticked t (e ∷ es) =
    record {
      sent_stamp = tick_bytes t;
      heard_stamp = tick_bytes (t + 1);
      rest = log_bytes (t + 2) es;
      sent_wide = length_tick t;
      heard_wide = length_tick (t + 1);
      bytes = append_assoc (sent_record (tick_bytes t) e.sent) (heard_record (tick_bytes (t + 1)) e.heard) (log_bytes (t + 2) es);
      behind = ticked (t + 2) es;
    }

pub with_ticks : (t : ℕ) (es : List Exchange) → InputOf es (1 ∷ log_bytes t es)
with_ticks t es = record { mode = 1; log = log_bytes t es; mode_ok = search arith; input = refl; records = ticked t es }

-- "and the same records without ticks"
unfoldable pub bare_bytes : List Exchange → List ℕ
bare_bytes [] = []
bare_bytes (e ∷ es) = sent_record [] e.sent ++ (heard_record [] e.heard ++ bare_bytes es)

bare : (es : List Exchange) → LogOf (stamp_size 0) es (bare_bytes es)
unfolding bare_bytes
bare [] = refl
bare (e ∷ es) = record { sent_stamp = []; heard_stamp = []; rest = bare_bytes es; sent_wide = refl; heard_wide = refl; bytes = refl; behind = bare es }

pub without_ticks : (es : List Exchange) → InputOf es (0 ∷ bare_bytes es)
without_ticks es = record { mode = 0; log = bare_bytes es; mode_ok = search arith; input = refl; records = bare es }

-- ---- a field within the terms

abbrev card : UidSize → List ℕ → Bool → CardState → Card
card z l blocks y = record { uid = record { size = z; bytes = l }; blocks = blocks; index = 8; state = y }

-- two idle cards, of which one speaks blocks, and one that is halted
abbrev field : List Card
field =
    card Single (0x11 ∷ 0x22 ∷ 0x33 ∷ 0x44 ∷ 0 ∷ 0 ∷ 0 ∷ 0 ∷ 0 ∷ 0 ∷ []) true Idle
    ∷ card Double (0x04 ∷ 0xA1 ∷ 0xB2 ∷ 0xC3 ∷ 0xD4 ∷ 0xE5 ∷ 0xF6 ∷ 0 ∷ 0 ∷ 0 ∷ []) false Idle
    ∷ card Single (0x11 ∷ 0x22 ∷ 0x33 ∷ 0x45 ∷ 0 ∷ 0 ∷ 0 ∷ 0 ∷ 0 ∷ 0 ∷ []) true Halt
    ∷ []

typed : All Typed field
typed = (record { ten = refl; bytes = search arith }, (record { ten = refl; bytes = search arith }, (record { ten = refl; bytes = search arith }, tt)))

meets : within field ≡ true
unfolding within all_fit card_fits apart any same valid uid_bytes
meets = refl

-- its log is clean, from any tick and without ticks
pub clean_ticked : (t : ℕ) → ComesOut field (check (1 ∷ log_bytes t (sweep field).exchanges))
clean_ticked t = comes_out (1 ∷ log_bytes t (sweep field).exchanges) field typed meets (with_ticks t (sweep field).exchanges)

pub clean_bare : ComesOut field (check (0 ∷ bare_bytes (sweep field).exchanges))
clean_bare = comes_out (0 ∷ bare_bytes (sweep field).exchanges) field typed meets (without_ticks (sweep field).exchanges)
