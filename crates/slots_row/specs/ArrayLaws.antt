-- A row that is the first n cards of an array: what the request's contract says of the row, it says of the array. Assumes nothing.
use Rattle.std.specs.Prelude.{◌≡◌, ℕ, ◌||◌, length, take, ltb}
use Rattle.std.proofs.Common.{sym, ap, subst, ◌∙◌, arith}
use Rattle.std.proofs.Math.Bool.{not}
use mathlib.Core.List.{List, [], ◌++◌, append-nil}
use Rattle.std.proofs.Math.ListN.{drop, take-append-drop, drop_of_length-le}
use Rattle.std.proofs.Math.Seq.{take-length}
use Rattle.limits.specs.Limits.{most_cards}
use Rattle.slots_rules.specs.Claim as claims
use Rattle.slots_rules.specs.TermsB.{within}
use Rattle.slots.specs.Inquiry.{done, inquiry_of}
use Rattle.slots.specs.Promise.{Terms}
use Rattle.slots.specs.declared.Inquired.{Inquired}
use Rattle.field_b.specs.declared.Drawn.{Drawn}
use Rattle.slots_row.specs.declared.RowInquired.{RowInquired}
use Rattle.slots_row.specs.declared.request.Request.{Request}
use Rattle.slots_row.specs.Row.{inquired_row, Promises}
use Rattle.slots_row.specs.RowLaws.{over, run_of, early, short, says_by_tests, same_tests}

module _ (k : Request) (cards : List Drawn) (n : ℕ) (list : List ℕ) (size : length (take n cards) ≡ n) where
  abbrev front : List Drawn
  front = take n cards

  -- the cards of the row, and those that follow it
  abbrev with_rest : Inquired → List Drawn
  with_rest s = s.cards ++ drop n cards

  again : take n front ≡ front
  again = subst (λ i. take i front ≡ front) size (take-length front)

  runs_on : over with_rest (done front n list (run_of k front)) ≡ done cards n list (run_of k front)
  unfolding done
  runs_on =
      let none : drop n front ≡ [] = drop_of_length-le front {i = n} (omega (arith, size)) in
      rw (none, append-nil)

  same_call : over with_rest (inquiry_of k.reader k.wake k.slots k.afi front n list) ≡ inquiry_of k.reader k.wake k.slots k.afi cards n list
  unfolding inquiry_of
  same_call =
      rw again (same_tests k with_rest front cards n list front (λ e. take-append-drop n cards) runs_on (early k) (short k list) (ltb most_cards n || not (within k.slots front)))

  terms : Terms k.reader k.slots k.afi cards n list → Terms k.reader k.slots k.afi front n list
  terms t = record { ready = t.ready; room = t.room; few = t.few; field = subst (claims.Terms k.slots k.afi) (sym again) t.field }

  pub array_promised : (s : RowInquired) (after : List Drawn) (list₁ : List ℕ) → Promises k front (length front) list (inquired_row s after) list₁
      → Promises k cards n list (inquired_row s (after ++ drop n cards)) list₁
  array_promised s after list₁ p = go (subst (λ m. Promises k front m list (inquired_row s after) list₁) size p)
    where
      go : Promises k front n list (inquired_row s after) list₁ → Promises k cards n list (inquired_row s (after ++ drop n cards)) list₁
      go m = (
        ap (over with_rest) m.0 ∙ same_call,
        record {
          says = m.1.says ∙ ap (λ x. says_by_tests k (early k) (short k list) (ltb most_cards n || not (within k.slots x)) x) again;
          run = λ t. ap (over with_rest) (m.1.run (terms t)) ∙ ap (λ x. over with_rest (done front n list (run_of k x))) again ∙ runs_on;
          claim = λ t. subst (λ x. claims.Claim k.slots x (run_of k x)) again (m.1.claim (terms t));
        },
      )
