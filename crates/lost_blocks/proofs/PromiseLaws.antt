-- T-11 is carried from the run of the rules to the call that is that run. Assumes nothing.
use Rattle.std.specs.Prelude.{◌≡◌, refl, ℕ, false, List, replicate}
use Rattle.std.proofs.Common.{sym, ◌∙◌, arith}
use Rattle.std.proofs.Math.Path.{ap, subst}
use Rattle.std.proofs.Math.Nat.{zero-add}
use Rattle.std.proofs.Math.ListN.{length, length-replicate}
use Rattle.rows.specs.Rows.{Bytes}
use Rattle.limits.specs.Limits.{row_room}
use Rattle.card_link.specs.declared.LinkCard.{LinkCard}
use Rattle.reader_link.specs.declared.LinkReader.{LinkReader}
use Rattle.exchange.specs.declared.Outcome.{Outcome}
use Rattle.exchange.specs.RowExchange.{RowEnds, RowRun}
use Rattle.exchange.specs.Lossy.{RowRound, lossy_talk}
use Rattle.exchange.specs.Steps.{ends_of, last_of, sum_of, outcome_of, lossy_of}
use Rattle.lost_blocks.specs.Lost.{Ending}
use Rattle.lost_blocks.proofs.LostLaws.{ending_map}
use Rattle.lost_blocks.specs.RowLost.{RowStart, RowBrought, RowSafe, LostBlocks}
use Rattle.lost_blocks.proofs.RowLostLaws.{lost_blocks}
use Rattle.lost_blocks.specs.Promise.{Brings, Survives}

last_once : (n : ℕ) (m : List ℕ) → n ≡ 1 → last_of 0 (replicate n m) ≡ length m
unfolding last_of
last_once n m e = rw e refl

module _ (x : LinkReader) (y : LinkCard) (m before a : List ℕ) (xs : List RowRound) (down up down' up' : List ℕ) (o : Outcome)
    (eq : outcome_of o before a down' up' ≡ lossy_of x y m before a xs down up) where
  abbrev ends : RowEnds
  ends = ends_of x y down up false before a

  abbrev run : RowRun
  run = lossy_talk m a row_room xs ends

  counted : o.messages ≡ length run.got
  unfolding outcome_of lossy_of sum_of
  counted = ap (λ s. s.messages) eq ∙ zero-add _

  brings : (i j : ℕ) → RowBrought i j m a ends run → Brings i j m before a down up o down' up'
  unfolding outcome_of lossy_of sum_of last_of
  brings i j z =
      let b = z.ready in
      record {
        once = counted ∙ ap length z.got;
        whole = ap (λ s. s.last) eq ∙ ap (last_of 0) z.got;
        down_is = ap (λ s. s.ends.down) eq ∙ z.down;
        told = ap (λ s. s.told) eq ∙ z.told;
        up_is = ap (λ s. s.ends.up) eq ∙ z.up;
        ready = record {
          links = b.links;
          reader = ap (λ s. s.ends.reader.link) eq ∙ b.reader;
          card = ap (λ s. s.ends.card.link) eq ∙ b.card;
          index = b.index;
          protocol = ap (λ s. s.ends.card.card.state) eq ∙ b.protocol;
          between = b.between;
        };
      }

  pub survives : Bytes m → Bytes before → Bytes a → (i j : ℕ) → RowStart i j m a xs ends → Survives i j x y m before a xs down up o down' up'
  unfolding outcome_of lossy_of sum_of
  survives hm hb ha i j t =
      let k : LostBlocks i j m a row_room xs ends run = lost_blocks i j row_room m a xs ends (omega arith) hm ha hb t in
      let s : RowSafe i j m a ends run = k.safe in
      let n : o.messages ≡ s.times = counted ∙ ap length s.got ∙ length-replicate s.times m in
      record {
        run = k;
        once = omega (arith, s.once);
        whole = λ e. ap (λ s. s.last) eq ∙ ap (last_of 0) s.got ∙ last_once s.times m (sym n ∙ e);
        end = subst (Ending (Brings i j m before a down up o down' up')) (sym (ap (λ s. s.told) eq)) (ending_map (brings i j) run.told s.end);
        brought = λ f. brings i j (k.brought f);
      }
