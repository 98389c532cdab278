-- The records of a run, by any reader, can be read back: each frame is bits, and short. Assumes nothing.
use mathlib.Core.Path.{◌≡◌, refl}
use Prim.Native.Nat.{ℕ, zero, suc, ◌+◌, ◌*◌, ◌≤◌, ◌<◌}
use native.Mathlib.Omega.{arith}
use mathlib.Core.Bool.{Bool, true, false}
use mathlib.Core.List.{List, [], ◌∷◌}
use lib.ListN.{length, length-append}
use Rattle.rows.specs.EachLaws.{all_zip}
use Rattle.rows.specs.Rows.{All, Bits, clean}
use Rattle.reader.specs.FrameLaws.{frame_bits}
use Rattle.reader.specs.Reader.{frame}
use Rattle.field.specs.Field.{all_take, heard_from}
use Rattle.air_log.specs.Calls.{row_size}
use Rattle.air_log.proofs.CountLaws.{Loggable}
use Rattle.air_log.specs.Log.{Exchange, tick_bytes, sent_record, heard_record, exchange_bytes, exchange_size}
use Rattle.air_log.proofs.RecordLaws.{length_sent, length_heard_clean, length_heard_collided}
use Rattle.sweep_rules.specs.Run.{Out, before, ended, follow, Runner, run_of, finding}
use Rattle.card.specs.declared.Card.{Card}
use Rattle.reader.specs.declared.Answer.{Answer}
use Rattle.reader.specs.declared.Answer.TheVariants.{Sends, Finds, Selects, Finishes, Declines}
use Rattle.reader.specs.declared.Turn.{Turn}

-- ---- each frame is bits

run_bits : {S : Type 0} (R : Runner S) (fuel : ℕ) (s : S) (cs : List Card) → All (λ e. Bits e.sent) (run_of R fuel s cs).exchanges
unfolding run_of before finding ended
run_bits R zero s cs = tt
run_bits {S = S} R (suc fuel) s cs =
    let f : List ℕ = frame (R.turn s).reader in
    let s' : S = R.hears s (heard_from f cs) in
    let cs' : List Card = all_take f cs in
    (frame_bits (R.turn s).reader, on (R.turn s').answer (R.turn s') cs' (run_of R fuel s' cs') (run_bits R fuel s' cs'))
  where
    on : (a : Answer) (t : Turn) (cs : List Card) (o : Out) → All (λ e. Bits e.sent) o.exchanges → All (λ e. Bits e.sent) (follow a t cs o).exchanges
    on (Sends n) t cs o h = h
    on (Finds n) t cs o h = h
    on Selects t cs o h = tt
    on Finishes t cs o h = tt
    on (Declines e) t cs o h = tt

-- ---- both rows are short

heard_least : (x h : List ℕ) → 2 + row_size (length h) ≤ length (heard_record x h)
heard_least x h = go (clean h) refl
  where
    go : (b : Bool) → clean h ≡ b → 2 + row_size (length h) ≤ length (heard_record x h)
    go true e = omega (arith, length_heard_clean x h e)
    go false e = omega (arith, length_heard_collided x h e)

loggable : (e : Exchange) → Bits e.sent → (0 < length e.sent) × (exchange_size e ≤ 27) → Loggable e
unfolding exchange_size exchange_bytes
loggable e b h =
    let s : List ℕ = sent_record (tick_bytes 0) e.sent in
    let r : List ℕ = heard_record (tick_bytes 1) e.heard in
    let n : length s + length r ≤ 27 = omega (arith, h.1, length-append s r) in
    record {
      bits = b;
      some = h.0;
      sent_fits = omega (arith, n, length_sent (tick_bytes 0) e.sent);
      heard_fits = omega (arith, n, heard_least (tick_bytes 1) e.heard);
    }

pub run_loggable : {S : Type 0} (R : Runner S) (fuel : ℕ) (s : S) (cs : List Card) → All (λ e. (0 < length e.sent) × (exchange_size e ≤ 27)) (run_of R fuel s cs).exchanges
    → All Loggable (run_of R fuel s cs).exchanges
run_loggable R fuel s cs h = all_zip (run_of R fuel s cs).exchanges loggable (run_bits R fuel s cs) h
