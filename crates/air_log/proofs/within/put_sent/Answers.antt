-- `air_log::within::put_sent` meets its contract: a frame with no collided bit is shown as it is. Assumes nothing.
use native.Mathlib.Omega.{arith}
use Rattle.air_log.specs.Log.{tick_bytes}
use Rattle.air_log.proofs.RecordLaws.{length_sent, length_tick, sent_shown}
use Rattle.air_log.proofs.within.put_sent.Goals as goal

pub put_row-requires : goal.put_row-requires
put_row-requires c = let a = c.args in
    (omega arith, omega (arith, length_sent (tick_bytes a.tick) a.frame.now, length_tick a.tick))

pub returns : goal.returns
returns c = let p = c.put_row in record { value = omega (arith, p.ensures.value, length_sent (tick_bytes c.args.tick) c.args.frame.now, length_tick c.args.tick); out_after = rw (sent_shown (tick_bytes c.args.tick) c.args.frame.now c.requires.0) p.ensures.out_after }
