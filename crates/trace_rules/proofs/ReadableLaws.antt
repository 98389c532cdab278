-- The records of a sweep over a field within the terms can be read back. Assumes nothing.
use Rattle.std.specs.Prelude.{◌≡◌, refl, ℕ, zero, suc, ◌+◌, ◌≤◌, Bool, true, false, List, length}
use Rattle.std.proofs.Common.{arith, length-append}
use Rattle.rows.specs.Rows.{All, clean}
use Rattle.reader.specs.FrameLaws.{frame_bits}
use Rattle.reader.specs.Reader.{frame, hear}
use Rattle.field.specs.Field.{all_take, heard_from}
use Rattle.air_log.specs.Calls.{row_size}
use Rattle.air_log.specs.Log.{Exchange, sent_heard, tick_bytes, sent_record, heard_record, exchange_bytes}
use Rattle.air_log.proofs.RecordLaws.{length_sent, length_heard_clean, length_heard_collided}
use Rattle.sweep_rules.specs.Run.{before, finding, ended, follow, run_of, run}
use Rattle.card.specs.declared.Card.{Card}
use Rattle.reader.specs.declared.Answer.{Answer}
use Rattle.reader.specs.declared.Answer.TheVariants.{Sends, Finds, Selects, Finishes, Declines}
use Rattle.reader.specs.declared.Turn.{Turn}
use Rattle.trace_rules.proofs.FollowLaws.{Readable}
use Rattle.trace_rules.specs.HeardLaws.{heard_three}
use Rattle.trace_rules.proofs.SweptLaws.{Sweeping, Stays, hear_stays, frame_some}

-- an exchange takes at most 27 bytes of log
abbrev pub Short : Exchange → Type 0
Short e = length (exchange_bytes 0 e) ≤ 27

heard_least : (x h : List ℕ) → row_size (length h) ≤ length (heard_record x h)
heard_least x h = go (clean h) refl
  where
    go : (b : Bool) → clean h ≡ b → row_size (length h) ≤ length (heard_record x h)
    go true e = omega (arith, length_heard_clean x h e)
    go false e = omega (arith, length_heard_collided x h e)

one_readable : (t : Turn) (cs : List Card) → Sweeping t.reader → Short (sent_heard (frame t.reader) (heard_from (frame t.reader) cs))
    → Readable (sent_heard (frame t.reader) (heard_from (frame t.reader) cs))
unfolding exchange_bytes
one_readable t cs q h =
    let f : List ℕ = frame t.reader in
    let x : List ℕ = heard_from f cs in
    let s : List ℕ = sent_record (tick_bytes 0) f in
    let r : List ℕ = heard_record (tick_bytes (0 + 1)) x in
    let n : length s + length r ≤ 27 = omega (arith, h, length-append s r) in
    record {
      bits = frame_bits t.reader;
      some = frame_some t.reader q;
      sent_fits = omega (arith, n, length_sent (tick_bytes 0) f);
      heard_fits = omega (arith, n, heard_least (tick_bytes (0 + 1)) x);
      three = heard_three f cs;
    }

pub run_readable : (k : ℕ) (t : Turn) (cs : List Card) → Sweeping t.reader → All Short (run k t cs).exchanges → All Readable (run k t cs).exchanges
unfolding run run_of before finding ended
run_readable zero t cs q h = tt
run_readable (suc k) t cs q h = (one_readable t cs q h.0, go t'.answer (hear_stays t.reader q x) h.1 (run_readable k t' cs'))
  where
    x : List ℕ
    x = heard_from (frame t.reader) cs

    t' : Turn
    t' = hear t.reader x

    cs' : List Card
    cs' = all_take (frame t.reader) cs

    go : (y : Answer) → Stays (record { reader = t'.reader; answer = y }) → All Short (follow y t' cs' (run k t' cs')).exchanges
        → (Sweeping t'.reader → All Short (run k t' cs').exchanges → All Readable (run k t' cs').exchanges) → All Readable (follow y t' cs' (run k t' cs')).exchanges
    go (Sends n) s h ih = ih s h
    go (Finds n) s h ih = ih s h
    go Selects s h ih = tt
    go Finishes s h ih = tt
    go (Declines e) s h ih = tt
