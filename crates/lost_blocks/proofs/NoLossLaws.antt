-- Without losses: the terms of T-11's second claim are those of demand 2, and what demand 2 says of both messages follows from that claim. (How
-- many blocks went, and which, only demand 2 says.) Assumes nothing.
use Rattle.std.specs.Prelude.{◌≡◌, Bool, true, cond, List, [], ◌∷◌, replicate}
use Rattle.std.proofs.Math.Path.{refl}
use Rattle.std.proofs.Math.Bool.{false}
use Rattle.std.specs.Bool.{beq as same}
use Prim.Native.Nat.{ℕ, zero, suc, ◌+◌, ◌≤◌}
use Rattle.std.proofs.Common.{arith, le-leb}
use Rattle.std.proofs.lemmas.List.{length-replicate}
use Rattle.rows.specs.Rows.{is_nil, All, Bytes}
use Rattle.limits.specs.Limits.{row_room}
use Rattle.block.specs.declared.Told.{Told}
use Rattle.exchange.specs.Exchange.{Answers, is_quiet}
use Rattle.exchange.specs.RowExchange.{RowEnds, RowPassed, row_talk, number_in, Terms}
use Rattle.exchange.specs.Lossy.{row_clean, lossy_passes}
use Rattle.exchange.proofs.RunLaws.{talk_clean}
use Rattle.lost_blocks.specs.Lost.{Mark, most_lost, within, lost_all}
use Rattle.lost_blocks.specs.RowLost.{Noticed, RowBrought, row_marks, row_marks_of, RowFewLosses}
use Rattle.lost_blocks.proofs.RowLostLaws.{lost_blocks}

none_lost : (t : Bool) → ◌≡◌ {A = ℕ} (0 + cond t 0 0) 0
none_lost true = refl
none_lost false = refl

module _ (m a : List ℕ) (room : ℕ) where
  abbrev clean_marks : ℕ → RowPassed → List Mark
  clean_marks g p = row_marks m a room (replicate g row_clean) p.ends p.told p.next

  abbrev clean_mark : Bool → RowPassed → Mark
  clean_mark k p = record { number = k; lost = 0 + cond (is_nil p.reply) 0 0 }

  within_clean : (g left : ℕ) (n : Bool) (e : RowEnds) (t : Told) (f : List ℕ) → within left n (row_marks m a room (replicate g row_clean) e t f) ≡ true
  unfolding row_marks within
  within_clean zero left n e t f = refl
  within_clean (suc g) left n e t f = go (is_quiet t) (λ l. within_clean g l (number_in e.reader.link) p.ends p.told p.next)
    where
      p : RowPassed
      p = lossy_passes m a room row_clean e f

      k : Bool
      k = number_in e.reader.link

      go : (q : Bool) → ((l : ℕ) → within l k (clean_marks g p) ≡ true) → within left n (cond q (clean_mark k p ∷ clean_marks g p) []) ≡ true
      go true ih = rw (none_lost (is_nil p.reply), le-leb 0 (cond (same n k) left most_lost) (omega arith)) (ih _)
      go false ih = refl

  all_clean : (g : ℕ) (e : RowEnds) (t : Told) (f : List ℕ) → lost_all (row_marks m a room (replicate g row_clean) e t f) ≡ 0
  unfolding row_marks lost_all
  all_clean zero e t f = refl
  all_clean (suc g) e t f = go (is_quiet t) (all_clean g p.ends p.told p.next)
    where
      p : RowPassed
      p = lossy_passes m a room row_clean e f

      go : (q : Bool) → lost_all (clean_marks g p) ≡ 0 → lost_all (cond q (clean_mark (number_in e.reader.link) p ∷ clean_marks g p) []) ≡ 0
      go true ih = rw (none_lost (is_nil p.reply), ih)
      go false ih = refl

noticed_clean : (i j g : ℕ) → Noticed i j (replicate g row_clean)
noticed_clean i j zero = tt
noticed_clean i j (suc g) = ((refl, refl), noticed_clean i j g)

prompt_clean : (g : ℕ) → All (λ x. x.host ≡ Answers) (replicate g row_clean)
prompt_clean zero = tt
prompt_clean (suc g) = (refl, prompt_clean g)

module _ (i j : ℕ) (m a : List ℕ) (room g : ℕ) (e : RowEnds) (t : Terms i j m a g e) where
  -- so the terms are met wherever those of demand 2 are (`terms_met` of crate exchange)
  pub few_clean : RowFewLosses i j m a room (replicate g row_clean) e
  unfolding row_marks_of
  few_clean =
      record {
        prompt = prompt_clean g;
        down = t.down;
        up = t.up;
        few = within_clean m a room g most_lost false _ _ _;
        enough = rw (all_clean m a room g, length-replicate) (omega (arith, t.enough));
      }

  pub brought_clean : row_room ≤ room → Bytes m → Bytes a → Bytes e.lent → RowBrought i j m a e (row_talk m a room g e)
  brought_clean h hm ha hl =
      rw (talk_clean m a room g e) at
      ((lost_blocks i j room m a (replicate g row_clean) e h hm ha hl (record { ends = t.ends; message = t.message; answer = t.answer; damage = noticed_clean i j g })).brought few_clean)
