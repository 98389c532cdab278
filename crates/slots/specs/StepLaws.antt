-- Laws of one slot of a request: what is heard stands at the row's front, a slot's entry of the list, and whether it goes on. Assumes nothing.
use mathlib.Core.Logic.{◌⊎◌, inl, inr}
use Rattle.std.specs.Prelude.{◌≡◌, ℕ, ◌+◌, ◌*◌, ◌≤◌, Bool, length, take}
use Rattle.std.proofs.Math.Path.{refl, ap}
use Rattle.std.proofs.Common.{sym, ◌∙◌, arith, eq-eqb, ne_eqb}
use mathlib.Core.List.{List, [], ◌∷◌, ◌++◌}
use Rattle.std.proofs.Math.ListN.{length-append}
use Rattle.rows.specs.Rows.{overlay}
use Rattle.rows.proofs.RowLaws.{overlay_front, overlay_nil, overlay_next}
use Rattle.selection_b.specs.HeardB.{held_number, entry}
use Rattle.selection_b.specs.TypeB.{request}
use Rattle.field.specs.TakeLaws.{front_fits}
use Rattle.reader_b.specs.ReaderB.{next}
use Rattle.slots_rules.specs.RunB.{out_frame, list_bytes}
use Rattle.slots.specs.Steps.{told_in, told_by}
use Rattle.selection_b.specs.declared.Held.{Held}
use Rattle.reader_b.specs.declared.ReaderB.{ReaderB}
use Rattle.reader_b.specs.declared.TurnB.{TurnB}
use Rattle.reader_b.specs.declared.AnswerB.{AnswerB}
use Rattle.reader_b.specs.declared.AnswerB.TheVariants.{Sends, Marks, Ends, Attached, Halted, Declines}

-- ---- what is heard: h, written at the front of a row

pub record Front (h : List ℕ) (n : ℕ) (row : List ℕ) : Type 0 where
  pub fits : n ≤ length row
  pub bits : take n row ≡ h

pub front_of_law : (d h : List ℕ) (n : ℕ) (row : List ℕ) → n ≡ length h → row ≡ overlay d 0 h → Front h n row
front_of_law d h n row e o =
    record {
      fits = omega (arith, front_fits d h (length row) (ap length (sym o)));
      bits = rw (e, o) (overlay_front d h);
    }

-- ---- the frame

pub out_request : (wake : Bool) (b : ℕ) (r : ReaderB) → r.slot ≡ 1 → request wake r.slots b ≡ out_frame wake b r
unfolding out_frame
out_request wake b r e = rw (eq-eqb r.slot 1 e)

pub out_marker : (wake : Bool) (b : ℕ) (r : ReaderB) → (r.slot ≡ 1 → ⊥) → next r ≡ out_frame wake b r
unfolding out_frame
out_marker wake b r e = rw (ne_eqb r.slot 1 e)

-- ---- an entry of the list

pub entry_put : (d : List ℕ) (at : ℕ) (k : Held) (atqb : List ℕ) → at + (1 + length atqb) ≤ length d
    → overlay (overlay d at (held_number k ∷ [])) (at + 1) atqb ≡ overlay d at (entry k atqb)
unfolding entry
entry_put d at k atqb h = overlay_next d at (held_number k ∷ []) atqb (omega arith)

-- what a turn tells, by its answer
pub record Puts (t : TurnB) (n : ℕ) (d d' : List ℕ) (at : ℕ) : Type 0 where
  pub count : n ≡ length (told_by t)
  pub row : d' ≡ overlay d at (list_bytes (told_by t))
  pub size : length (list_bytes (told_by t)) ≡ 13 * length (told_by t)

module _ (t : TurnB) (d : List ℕ) (at : ℕ) where
  puts_none : told_by t ≡ [] → Puts t 0 d d at
  unfolding list_bytes
  puts_none e = record { count = rw e; row = rw e (sym (overlay_nil d at)); size = rw e refl }

  puts_one : (k : Held) (d' : List ℕ) → told_by t ≡ (k, t.atqb) ∷ [] → length t.atqb ≡ 12 → d' ≡ overlay d at (entry k t.atqb) → Puts t 1 d d' at
  unfolding list_bytes entry
  puts_one k d' e l o =
      record {
        count = rw e;
        row = rw e (o ∙ ap (overlay d at) (sym (append_nil (entry k t.atqb))));
        size = rw e (rw length-append (omega arith));
      }
    where
      append_nil : (l : List ℕ) → l ++ [] ≡ l
      append_nil [] = refl
      append_nil (x ∷ l) = ap (λ r. x ∷ r) (append_nil l)

  module _ (a : AnswerB) (e : t.answer ≡ a) where
    told_by_law : told_by t ≡ told_in a t.atqb
    unfolding told_by
    told_by_law = ap (λ x. told_in x t.atqb) e

    pub puts_quiet : told_in a t.atqb ≡ [] → Puts t 0 d d at
    puts_quiet h = puts_none (told_by_law ∙ h)

    pub puts_told : (k : Held) (d' : List ℕ) → told_in a t.atqb ≡ (k, t.atqb) ∷ [] → length t.atqb ≡ 12 → d' ≡ overlay d at (entry k t.atqb) → Puts t 1 d d' at
    puts_told k d' h l o = puts_one k d' (told_by_law ∙ h) l o

-- what a slot held is told either way
pub puts_either : (t : TurnB) (d : List ℕ) (at : ℕ) (k : Held) (d' : List ℕ) → (t.answer ≡ Marks k) ⊎ (t.answer ≡ Ends k) → length t.atqb ≡ 12 → d' ≡ overlay d at (entry k t.atqb) → Puts t 1 d d' at
puts_either t d at k d' (inl e) l o = puts_told t d at (Marks k) e k d' refl l o
puts_either t d at k d' (inr e) l o = puts_told t d at (Ends k) e k d' refl l o

-- at most one
pub told_most : (t : TurnB) → length (told_by t) ≤ 1
unfolding told_by
told_most t = go t.answer
  where
    go : (a : AnswerB) → length (told_in a t.atqb) ≤ 1
    go (Sends n) = omega arith
    go (Marks k) = omega arith
    go (Ends k) = omega arith
    go (Attached m) = omega arith
    go Halted = omega arith
    go (Declines e) = omega arith
