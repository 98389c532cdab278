-- Laws of a run by any reader. Assumes nothing.
use Rattle.std.specs.Prelude.{◌≡◌, refl, ℕ, zero, suc, List, length}
use Rattle.std.proofs.Common.{ap, ◌∙◌}
use Rattle.std.proofs.lemmas.List.{length-map}
use Rattle.reader.specs.Reader.{frame, hear}
use Rattle.field.specs.Field.{all_take, heard_from}
use Rattle.air_log.specs.Log.{sent_heard}
use Rattle.card.specs.declared.Card.{Card}
use Rattle.reader.specs.declared.Answer.{Answer}
use Rattle.reader.specs.declared.Answer.TheVariants.{Sends, Finds, Selects, Finishes, Declines}
use Rattle.reader.specs.declared.Turn.{Turn}
use Rattle.sweep_rules.specs.Run.{Out, before, finding, ended, follow, Runner, run_of, plain, run}

-- the plain reader's run, in its own words: a turn t whose reader's frame is out
pub run_plain : (fuel : ℕ) (t : Turn) (cs : List Card)
    → run (suc fuel) t cs ≡ before (sent_heard (frame t.reader) (heard_from (frame t.reader) cs))
    (follow (hear t.reader (heard_from (frame t.reader) cs)).answer (hear t.reader (heard_from (frame t.reader) cs)) (all_take (frame t.reader) cs)
    (run fuel (hear t.reader (heard_from (frame t.reader) cs)) (all_take (frame t.reader) cs)))
unfolding run run_of
run_plain fuel t cs = refl

-- ---- a run has as many cards at its end as at its start

follow_cards : (a : Answer) (t : Turn) (cs : List Card) (o : Out) → length o.cards ≡ length cs → length (follow a t cs o).cards ≡ length cs
unfolding finding ended
follow_cards (Sends n) t cs o e = e
follow_cards (Finds n) t cs o e = e
follow_cards Selects t cs o e = refl
follow_cards Finishes t cs o e = refl
follow_cards (Declines x) t cs o e = refl

pub run_cards : {S : Type 0} (R : Runner S) (fuel : ℕ) (s : S) (cs : List Card) → length (run_of R fuel s cs).cards ≡ length cs
unfolding run_of before ended all_take
run_cards R zero s cs = refl
run_cards {S = S} R (suc fuel) s cs =
    let f : List ℕ = frame (R.turn s).reader in
    let s' : S = R.hears s (heard_from f cs) in
    follow_cards (R.turn s').answer (R.turn s') (all_take f cs) (run_of R fuel s' (all_take f cs)) (run_cards R fuel s' (all_take f cs)) ∙ length-map cs _

-- ---- a reader that does what the plain one does, whatever else it has, runs as it does

pub run_as_plain : {S : Type 0} (R : Runner S) → ((s : S) (h : List ℕ) → R.turn (R.hears s h) ≡ hear (R.turn s).reader h)
    → (fuel : ℕ) (s : S) (cs : List Card) → run_of R fuel s cs ≡ run fuel (R.turn s) cs
unfolding run run_of
run_as_plain R same zero s cs = refl
run_as_plain {S = S} R same (suc fuel) s cs =
    let f : List ℕ = frame (R.turn s).reader in
    let h : List ℕ = heard_from f cs in
    let s' : S = R.hears s h in
    let cs' : List Card = all_take f cs in
    ap (λ o. before (sent_heard f h) (follow (R.turn s').answer (R.turn s') cs' o)) (run_as_plain R same fuel s' cs')
    ∙ ap (λ t. before (sent_heard f h) (follow t.answer t cs' (run fuel t cs'))) (same s h)
