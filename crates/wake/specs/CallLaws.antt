-- Laws of the call: which of its tests applies. Where it declines, the reader, the UID or the field is not within the terms. Assumes nothing.
use Rattle.std.specs.Prelude.{◌≡◌, refl, ℕ, ◌≤◌, ◌<◌, Bool, true, false, cond, ◌||◌, List, length, take, eqb, Ok, Err}
use Rattle.std.proofs.Common.{sym, ◌∙◌, arith}
use Rattle.std.proofs.Math.Path.{ap}
use Rattle.std.proofs.Math.Bool.{not, false≢true}
use Rattle.std.proofs.Math.Dec.{ltb}
use borrow.Author.Tests.{lt-ltb, le-ltb}
use Rattle.limits.specs.Limits.{most_cards}
use Rattle.refusal.specs.Refusal.{declining}
use Rattle.uid.specs.Calls.{sized, checked, new_uid, valid_bytes, uid_of}
use Rattle.uid.specs.Uid.{valid}
use Rattle.reader.specs.Calls.{turn_says}
use Rattle.reader.specs.KnownLaws.{made_valid}
use Rattle.reader.specs.Reader.{is_new}
use Rattle.sweep_rules.specs.Run.{Out}
use Rattle.sweep_rules.specs.Terms.{within}
use Rattle.wake_rules.specs.Claim.{Wakes}
use Rattle.wake_rules.specs.Wake.{wake}
use Rattle.uid.specs.declared.Uid.{Uid}
use Rattle.uid.specs.declared.UidSize.TheVariants.{Single, Double, Triple}
use Rattle.card.specs.declared.Card.{Card}
use Rattle.reader.specs.declared.Reader.{Reader}
use Rattle.refusal.specs.declared.Refusal.{Refusal}
use Rattle.refusal.specs.declared.Refusal.TheVariants.{Argument, NotDue}
use Rattle.wake.specs.Promise.{Terms, woken_says, wake_says, Wakens}
use Rattle.wake.specs.Wake.{refused, done, wake_of}
use Rattle.wake.specs.declared.Woken.{Woken}

-- a UID that is made is valid, and one that is not is not
pub valid_made : (l : List ℕ) (u : Uid) → new_uid l ≡ Ok u → (valid_bytes l ≡ true) × (uid_of l ≡ u)
valid_made l u e = (go (valid_bytes l) (sym e ∙ made_valid l), rw e)
  where
    go : (v : Bool) → Ok u ≡ cond v (Ok (uid_of l)) (Err Argument) → v ≡ true
    go true h = refl
    go false h = cc

pub valid_not : (l : List ℕ) (x : Refusal) → new_uid l ≡ Err x → valid_bytes l ≡ false
valid_not l x e = go (valid_bytes l) (sym e ∙ made_valid l)
  where
    go : (v : Bool) → Err x ≡ cond v (Ok (uid_of l)) (Err Argument) → v ≡ false
    go true h = cc
    go false h = refl

pub valid_uid : (l : List ℕ) (u : Uid) → new_uid l ≡ Ok u → valid u ≡ true
unfolding new_uid checked
valid_uid l u = go (eqb (length l) 4) (eqb (length l) 7) (eqb (length l) 10)
  where
    made_of : (w : Uid) (v : Bool) → valid w ≡ v → cond v (Ok w) (Err Argument) ≡ Ok u → valid u ≡ true
    made_of w true e h = let z : w ≡ u = cc in rw z at e
    made_of w false e h = cc

    go : (a b c : Bool) → cond a (checked (sized Single l)) (cond b (checked (sized Double l)) (cond c (checked (sized Triple l)) (Err Argument))) ≡ Ok u → valid u ≡ true
    go true b c h = made_of (sized Single l) _ refl h
    go false true c h = made_of (sized Double l) _ refl h
    go false false true h = made_of (sized Triple l) _ refl h
    go false false false h = cc

-- what the contract says of a call that gave s
abbrev pub Promised : Reader → List ℕ → List Card → ℕ → Woken → Type 0
Promised r l cards n s = (s ≡ wake_of r l cards n) × Wakens r l cards n s

module _ (r : Reader) (l : List ℕ) (cards : List Card) (n : ℕ) where
  -- the call's numbers
  call_says_law : (s : Woken) → s ≡ wake_of r l cards n → woken_says s ≡ wake_says r l cards n
  unfolding wake_of done
  call_says_law s e = ap woken_says e ∙ go (not (is_new r.phase)) (not (valid_bytes l) || ltb most_cards n || not (within (take n cards)))
    where
      o : Out
      o = wake (uid_of l) (take n cards)

      go : (a b : Bool) → woken_says (cond a (refused r cards NotDue) (cond b (refused r cards Argument) (done cards n o))) ≡ cond a (declining 11) (cond b (declining 6) (turn_says o.last))
      go true b = refl
      go false true = refl
      go false false = refl

  declines : (e : Refusal) (s : Woken) → s ≡ refused r cards e → refused r cards e ≡ wake_of r l cards n → (Terms r l cards n → ⊥) → Promised r l cards n s
  declines e s h k never = (h ∙ k, record { says = call_says_law s (h ∙ k); run = λ t. absurd (never t); claim = λ t. absurd (never t) })

  pub not_due : (s : Woken) → s ≡ refused r cards NotDue → is_new r.phase ≡ false → Promised r l cards n s
  unfolding wake_of
  not_due s h new = declines NotDue s h (rw new) (λ t. false≢true (sym new ∙ t.new))

  module _ (new : is_new r.phase ≡ true) where
    pub no_uid : (s : Woken) → s ≡ refused r cards Argument → valid_bytes l ≡ false → Promised r l cards n s
    unfolding wake_of
    no_uid s h k = declines Argument s h (rw (new, k)) (λ t. false≢true (sym k ∙ t.uid))

    module _ (uid : valid_bytes l ≡ true) where
      pub too_many : (s : Woken) → s ≡ refused r cards Argument → most_cards < n → Promised r l cards n s
      unfolding wake_of
      too_many s h k = declines Argument s h (rw (new, uid, lt-ltb most_cards n k)) (λ t. omega (arith, t.few))

      module _ (few : n ≤ most_cards) where
        pub no_field : (s : Woken) → s ≡ refused r cards Argument → within (take n cards) ≡ false → Promised r l cards n s
        unfolding wake_of
        no_field s h k = declines Argument s h (rw (new, uid, le-ltb most_cards n few, k)) (λ t. false≢true (sym k ∙ t.field))

        -- the run of the rules, of which the claim holds
        pub runs : (s : Woken) → s ≡ done cards n (wake (uid_of l) (take n cards)) → within (take n cards) ≡ true
            → Wakes (take n cards) (uid_of l) (wake (uid_of l) (take n cards)) → Promised r l cards n s
        unfolding wake_of
        runs s e field c =
            let k : done cards n (wake (uid_of l) (take n cards)) ≡ wake_of r l cards n = rw (new, uid, le-ltb most_cards n few, field) in
            (e ∙ k, record { says = call_says_law s (e ∙ k); run = λ t. e; claim = λ t. c })
