-- A call by the tests that stand ahead of its rules. Assumes nothing.
use Rattle.std.specs.Prelude.{◌≡◌, refl, ℕ, Bool, true, false, cond, not, List, [], length, ltb, Ok, Err}
use Rattle.std.proofs.Common.{sym, ap, ◌∙◌}
use Rattle.limits.specs.Limits.{row_room}
use Rattle.rows.proofs.RowLaws.{overlay_nil}
use Rattle.refusal.specs.declared.Refusal.{Refusal}
use Rattle.refusal.specs.declared.Refusal.TheVariants.{Room, NotDue}
use Rattle.block.specs.Row as row
use Rattle.reader_link.specs.declared.Link.{Link}
use Rattle.reader_link.specs.declared.Link.TheVariants.{NoLink, RatsSent, Linked}
use Rattle.reader_link.specs.declared.LinkReader.{LinkReader}
use Rattle.reader_link.specs.declared.LinkTurn.{LinkTurn}
use Rattle.reader_link.specs.ReaderCalls.{Called, called, declined_by, tested}
use Rattle.reader_link.specs.WholeLaws.{Two, Three, two, three}

module _ (due : Bool) (x : LinkReader) (o : Called) (buffer : List ℕ) (room : ℕ) where
  tested_err : (e : Refusal) → row.tested due room ≡ Err e → tested due x buffer room o ≡ called x (declined_by x.link e) [] buffer
  unfolding tested
  tested_err e k = go due (ltb room row_room) k
    where
      go : (d r : Bool) → cond (not d) (Err NotDue) (cond r (Err Room) (Ok (tt {0}))) ≡ Err e
          → cond (not d) (called x (declined_by x.link NotDue) [] buffer) (cond r (called x (declined_by x.link Room) [] buffer) o) ≡ called x (declined_by x.link e) [] buffer
      go false r k = cc
      go true true k = cc
      go true false k = cc

  tested_ok : (u : Unit) → row.tested due room ≡ Ok u → tested due x buffer room o ≡ o
  unfolding tested
  tested_ok u k = go due (ltb room row_room) k
    where
      go : (d r : Bool) → cond (not d) (Err NotDue) (cond r (Err Room) (Ok (tt {0}))) ≡ Ok u
          → cond (not d) (called x (declined_by x.link NotDue) [] buffer) (cond r (called x (declined_by x.link Room) [] buffer) o) ≡ o
      go false r k = cc
      go true true k = cc
      go true false k = refl

-- a call that is declined there changes nothing; any other comes to its rules
module _ (due : Bool) (x : LinkReader) (o : Called) (buffer out : List ℕ) {t : LinkTurn} where
  pub err_three : (e : Refusal) → row.tested due (length out) ≡ Err e → t ≡ (called x (declined_by x.link e) [] []).turn → Three (tested due x buffer (length out) o) t buffer out out
  err_three e k h = three out (sym (tested_err due x o buffer (length out) e k)) (h, (refl, sym (overlay_nil out 0)))

  pub ok_three : {b' out' : List ℕ} (u : Unit) → row.tested due (length out) ≡ Ok u → Three o t b' out out' → Three (tested due x buffer (length out) o) t b' out out'
  ok_three u k h = three out (sym (tested_ok due x o buffer (length out) u k)) h

module _ (due : Bool) (x : LinkReader) (o : Called) (out : List ℕ) {t : LinkTurn} where
  pub err_two : (e : Refusal) → row.tested due (length out) ≡ Err e → t ≡ (called x (declined_by x.link e) [] []).turn → Two (tested due x [] (length out) o) t out out
  err_two e k h = two out (sym (tested_err due x o [] (length out) e k)) (h, sym (overlay_nil out 0))

  pub ok_two : {out' : List ℕ} (u : Unit) → row.tested due (length out) ≡ Ok u → Two o t out out' → Two (tested due x [] (length out) o) t out out'
  ok_two u k h = two out (sym (tested_ok due x o [] (length out) u k)) h

-- by the link, what is not due where there is none
pub declined_law : (g : Link → Called) (x : LinkReader) (k : Link) (out : List ℕ) {t : LinkTurn} → x.link ≡ k → ((l : _) → k ≡ Linked l → ⊥)
    → g NoLink ≡ called x (declined_by NoLink NotDue) [] [] → ((i : ℕ) → g (RatsSent i) ≡ called x (declined_by (RatsSent i) NotDue) [] [])
    → t ≡ (called x (declined_by x.link NotDue) [] []).turn → Two (g x.link) t out out
declined_law g x NoLink out e n a b q = two out (sym (ap g e ∙ a ∙ ap (λ k. called x (declined_by k NotDue) [] []) (sym e))) (q, sym (overlay_nil out 0))
declined_law g x (RatsSent i) out e n a b q = two out (sym (ap g e ∙ b i ∙ ap (λ k. called x (declined_by k NotDue) [] []) (sym e))) (q, sym (overlay_nil out 0))
declined_law g x (Linked l) out e n a b q = absurd (n l refl)
