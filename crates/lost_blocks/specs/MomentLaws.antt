-- "at most once": at every moment, since what the card's host has got over the first rounds stays the front of what it gets. Assumes nothing.
use Rattle.std.specs.Prelude.{◌≡◌, refl, Bool, true, false, List, [], ◌∷◌, ◌++◌, ℕ}
use Rattle.std.proofs.Common.{sym, ap, ◌∙◌, append_assoc}
use Rattle.block.specs.declared.Told.{Told}
use Rattle.exchange.specs.Exchange.{is_quiet}
use Rattle.exchange.specs.RowExchange.{RowEnds, RowPassed, RowRun}
use Rattle.exchange.specs.Lossy.{RowRound, lossy_passes, lossy_exchange, lossy_talk}

pub record Goes (r r' : RowRun) : Type 0 where
  pub more : List (List ℕ)
  pub got : r'.got ≡ r.got ++ more

first_rounds : (m a : List ℕ) (room : ℕ) (xs ys : List RowRound) (e : RowEnds) (t : Told) (f : List ℕ)
    → Goes (lossy_exchange m a room xs e t f) (lossy_exchange m a room (xs ++ ys) e t f)
unfolding lossy_exchange
first_rounds m a room [] ys e t f = record { more = (lossy_exchange m a room ys e t f).got; got = refl }
first_rounds m a room (x ∷ xs) ys e t f = go (is_quiet t) refl (first_rounds m a room xs ys p.ends p.told p.next)
  where
    p : RowPassed
    p = lossy_passes m a room x e f

    go : (q : Bool) → is_quiet t ≡ q → Goes (lossy_exchange m a room xs p.ends p.told p.next) (lossy_exchange m a room (xs ++ ys) p.ends p.told p.next)
        → Goes (lossy_exchange m a room (x ∷ xs) e t f) (lossy_exchange m a room (x ∷ (xs ++ ys)) e t f)
    go true q g = record { more = g.more; got = rw q (ap (λ l. p.got ++ l) g.got ∙ sym (append_assoc p.got _ g.more)) }
    go false q g = record { more = []; got = rw q refl }

pub moment : (m a : List ℕ) (room : ℕ) (xs ys : List RowRound) (e : RowEnds) → Goes (lossy_talk m a room xs e) (lossy_talk m a room (xs ++ ys) e)
unfolding lossy_talk
moment m a room xs ys e = first_rounds m a room xs ys _ _ _
