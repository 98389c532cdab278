-- A row of at most the limit of cards as an array of as many as the limit, so that the laws of a sweep tell of it. Assumes nothing.
use Rattle.std.specs.Prelude.{◌≡◌, List, [], take, drop, get_or, set, replicate}
use Rattle.std.proofs.Math.Path.{refl}
use Rattle.std.proofs.Common.{sym, ap, subst, ◌∙◌, le_refl, append-nil, length-append, drop_of_length-le, take_at, drop_at}
use Prim.Native.Nat.{ℕ, suc, ◌-◌, ◌≤◌, ◌<◌}
use native.Mathlib.Omega.{arith}
use Rattle.std.proofs.Math.ListN.{length}
use Rattle.std.proofs.lemmas.List.{length-replicate, length-map}
use Rattle.std.proofs.Math.Seq.{take-length}
use Rattle.rows.specs.Rows.{overlay}
use Rattle.rows.proofs.RowLaws.{overlay_nil, overlay_front}
use Rattle.card.specs.Card.{takes, answers}
use Rattle.reader.specs.Reader.{frame}
use Rattle.field.specs.Calls.{cards_after}
use Rattle.field.specs.Field.{all_take, heard_from}
use Rattle.field.specs.Merge.{join}
use Rattle.field.specs.TakeLaws as take-laws
use Rattle.limits.specs.Limits.{most_cards}
use Rattle.card.specs.declared.Card.{Card}
use Rattle.sweep_row.specs.declared.within.Progress.{Progress}
use Rattle.sweep_row.specs.Row.{no_card, heard_in, heard_with, heard_card, air_with}
use Rattle.sweep_row.specs.Under.{padded}

module _ (n : ℕ) (cs : List Card) (e : length cs ≡ n) where
  pub take_padded : take n (padded n cs) ≡ cs
  take_padded = take_at cs (replicate (most_cards - n) no_card) n e

  pub drop_padded : drop n (padded n cs) ≡ replicate (most_cards - n) no_card
  drop_padded = drop_at cs (replicate (most_cards - n) no_card) n e

  pub length_padded : n ≤ most_cards → length (padded n cs) ≡ most_cards
  length_padded few = rw (length-append, length-replicate) (omega arith)

  -- a row is the whole of its cards
  pub take_row : take n cs ≡ cs
  take_row = subst (λ m. take m cs ≡ cs) e (take-length cs)

  pub drop_row : drop n cs ≡ []
  drop_row = drop_of_length-le cs {i = n} (omega (arith, e))

  -- all its cards take a frame
  pub row_after_law : (f : List ℕ) → cards_after cs n f ≡ all_take f cs
  unfolding cards_after
  row_after_law f = rw (take_row, drop_row, append-nil)

  pub padded_after : (f : List ℕ) → cards_after (padded n cs) n f ≡ padded n (all_take f cs)
  unfolding cards_after
  padded_after f = rw (take_padded, drop_padded)

pub length_after : (f : List ℕ) (cs : List Card) → length (all_take f cs) ≡ length cs
unfolding all_take
length_after f cs = length-map cs _

-- ---- a pass in which the cards take a frame

pub take_start : (f d : List ℕ) (cs : List Card) → take-laws.Under d cs (length cs) f d cs 0 (length cs)
take_start f d cs =
    let e : heard_from f (drop (length cs) (take (length cs) cs)) ≡ [] = take-laws.heard_none f (length cs) cs in
    record {
      count = rw e;
      row = rw e (sym (overlay_nil d 0));
      cards = take-laws.from_none (λ k. takes k f) (length cs) cs;
    }

-- the card at a place takes it
module _ (p : Progress) (d : List ℕ) (cs ws : List Card) (h : p.at < length cs)
    (u : take-laws.Under d cs (length cs) (frame p.swept.reader) p.air.heard ws p.air.bits (suc p.at)) where
  abbrev here : Card
  here = get_or ws p.at no_card

  abbrev f : List ℕ
  f = frame p.swept.reader

  pub take_next : take-laws.Under d cs (length cs) f (air_with p here).heard (set ws p.at (takes here f)) (air_with p here).bits p.at
  unfolding heard_card heard_with
  take_next =
      let e : suc p.at - 1 ≡ p.at = omega arith in
      rw e at (take-laws.under_turn d cs (length cs) f p.air.heard ws p.air.bits (suc p.at) u (omega arith) h (le_refl (length cs)) no_card
      (record { card = takes (get_or ws (suc p.at - 1) no_card) f; bits = length (join (answers (get_or ws (suc p.at - 1) no_card) f) (take p.air.bits p.air.heard)) }) refl
      (overlay p.air.heard 0 (join (answers (get_or ws (suc p.at - 1) no_card) f) (take p.air.bits p.air.heard))) refl)

  -- after the last card: what is heard, and the row
  module _ (z : p.at ≡ 0) where
    last : take-laws.Under d cs (length cs) f (air_with p here).heard (set ws p.at (takes here f)) (air_with p here).bits 0
    last = subst (take-laws.Under d cs (length cs) f (air_with p here).heard (set ws p.at (takes here f)) (air_with p here).bits) z take_next

    pub heard_all_law : heard_in (air_with p here) ≡ heard_from f cs
    heard_all_law =
        let e : heard_from f (take (length cs) cs) ≡ heard_from f cs = ap (heard_from f) (take_row (length cs) cs refl) in
        rw (last.row, last.count) (overlay_front d (heard_from f (take (length cs) cs))) ∙ e

    pub row_all : set ws p.at (takes here f) ≡ all_take f cs
    row_all = last.cards ∙ take-laws.from_done f (length cs) cs ∙ row_after_law (length cs) cs refl f
