-- How a sweep over a row begins: declined by the call's tests, over at once where the row is empty, or with the first pass. Assumes nothing.
use mathlib.Core.Path.{◌≡◌, refl, sym, ap, subst, ◌∙◌}
use Prim.Native.Nat.{ℕ, ◌≤◌, ◌<◌}
use native.Mathlib.Omega.{arith}
use mathlib.Core.Bool.{Bool, true, false}
use mathlib.Core.List.{List, [], ◌∷◌}
use lib.ListN.{length}
use Rattle.rows.specs.Rows.{overlay}
use Rattle.reader.specs.Reader.{is_new}
use Rattle.air_log.specs.Log.{log_bytes, log_size, list_bytes}
use Rattle.limits.specs.Limits.{most_cards, most_frames, log_room, list_room}
use Rattle.sweep_rules.specs.RunLaws.{run_cards}
use Rattle.sweep_rules.specs.Terms.{all_fit, apart, within}
use Rattle.sweep_steps.specs.Loop.{sweeper, first_recall, swept_if}
use Rattle.sweep.proofs.CallLaws.{Declined, ruled_out, not_due, no_log, no_list, too_many}
use Rattle.card.specs.declared.Card.{Card}
use Rattle.sweep.specs.declared.Start.{Start}
use Rattle.refusal.specs.declared.Refusal.{Refusal}
use Rattle.refusal.specs.declared.Refusal.TheVariants.{Room, Argument, NotDue}
use Rattle.sweep_row.specs.declared.RowSwept.{RowSwept}
use Rattle.sweep_row.specs.declared.within.Progress.{Progress}
use Rattle.sweep_row.specs.Row.{swept_row, refused_row, end_row, stopped, looks}
use Rattle.sweep_row.specs.Under.{Begun, Called, Under, Opened}
use Rattle.sweep_row.proofs.Carried.{row_log_fits, row_list_fits, carried}
use Rattle.sweep_row.proofs.Looking.{looking_first}

empty_within : within [] ≡ true
unfolding within all_fit apart
empty_within = refl

-- no card is there afterwards
empty_after : (cards : List Card) → length cards ≡ 0 → [] ≡ cards
empty_after [] e = refl
empty_after (c ∷ cards) e = absurd (omega (arith, e))

module _ (b : Bool) (start : Start) (n : ℕ) (log list : List ℕ) where
  stops : (p : Progress) (s : RowSwept) → p ≡ stopped s → (log₁ list₁ : List ℕ)
      → ((cards : List Card) → length cards ≡ n → Called b start cards (length cards) log list (swept_row s cards) log₁ list₁) → Opened b start n log list p log₁ list₁
  stops p s e log₁ list₁ k = record { begins = λ cards h. subst (λ q. Under b start cards log list q cards log₁ list₁) (sym e) (k cards h) }

  module _ (p : Progress) (s : RowSwept) (e : p ≡ stopped s) where
    declines : (x : Refusal) → s ≡ refused_row start.reader x → ((cards : List Card) → length cards ≡ n → Declined (swept_if b) start cards (length cards) log list (swept_row (refused_row start.reader x) cards)) → Opened b start n log list p log list
    declines x is k = stops p (refused_row start.reader x) (e ∙ ap stopped is) log list (λ cards h. ruled_out (swept_if b) start cards (length cards) log list (swept_row (refused_row start.reader x) cards) (k cards h))

    pub opens_not_due : s ≡ refused_row start.reader NotDue → is_new start.reader.phase ≡ false → Opened b start n log list p log list
    opens_not_due is new = declines NotDue is (λ cards h. not_due (swept_if b) start cards (length cards) log list (swept_row (refused_row start.reader NotDue) cards) refl new)

    module _ (new : is_new start.reader.phase ≡ true) where
      pub opens_no_log : s ≡ refused_row start.reader Room → length log < log_room → Opened b start n log list p log list
      opens_no_log is k = declines Room is (λ cards h. no_log (swept_if b) start cards (length cards) log list new (swept_row (refused_row start.reader Room) cards) refl k)

      module _ (hlog : log_room ≤ length log) where
        pub opens_no_list : s ≡ refused_row start.reader Room → length list < list_room → Opened b start n log list p log list
        opens_no_list is k = declines Room is (λ cards h. no_list (swept_if b) start cards (length cards) log list new hlog (swept_row (refused_row start.reader Room) cards) refl k)

        pub opens_too_many : list_room ≤ length list → s ≡ refused_row start.reader Argument → most_cards < n → Opened b start n log list p log list
        opens_too_many hlist is k =
            declines Argument is (λ cards h. too_many (swept_if b) start cards (length cards) log list new hlog hlist (swept_row (refused_row start.reader Argument) cards) refl (subst (λ m. most_cards < m) (sym h) k))

  module _ (new : is_new start.reader.phase ≡ true) (hlog : log_room ≤ length log) (hlist : list_room ≤ length list) where
    none : Begun start [] log list
    none = record { new = new; log_has_room = hlog; list_has_room = hlist; few = omega arith }

    pub empty_log_fits : log_size (swept_if b []).exchanges ≤ length log
    empty_log_fits = row_log_fits b start [] log list none tt empty_within

    pub empty_list_fits : length (list_bytes (swept_if b []).found) ≤ length list
    empty_list_fits = row_list_fits b start [] log list none tt empty_within

    pub opens_empty : n ≡ 0 → (p : Progress) (s : RowSwept) → p ≡ stopped s → s ≡ end_row (swept_if b []) → (log₁ list₁ : List ℕ)
        → log₁ ≡ overlay log 0 (log_bytes start.tick (swept_if b []).exchanges) → list₁ ≡ overlay list 0 (list_bytes (swept_if b []).found) → Opened b start n log list p log₁ list₁
    opens_empty z p s e es log₁ list₁ el ef = stops p s e log₁ list₁ go
      where
        no_cards_law : [] ≡ (swept_if b []).cards
        no_cards_law = unfold swept_if in empty_after (swept_if b []).cards (run_cards (sweeper b) most_frames first_recall [])

        go : (cards : List Card) → length cards ≡ n → Called b start cards (length cards) log list (swept_row s cards) log₁ list₁
        go [] h = carried b start [] log list none tt empty_within s [] log₁ list₁ es no_cards_law el ef
        go (c ∷ cards) h = absurd (omega (arith, h, z))

    pub opens_looks : n ≤ most_cards → (n ≡ 0 → ⊥) → (p : Progress) → p ≡ looks start n → Opened b start n log list p log list
    opens_looks few z p e =
        record {
          begins = λ cards h.
              subst (λ q. Under b start cards log list q cards log list) (ap (looks start) h ∙ sym e)
              (looking_first b start cards log list (record { new = new; log_has_room = hlog; list_has_room = hlist; few = omega (arith, h) }) (omega (arith, h, z)));
        }
