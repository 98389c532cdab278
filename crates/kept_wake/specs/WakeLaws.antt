-- Laws of a row of cards of which one is woken. Assumes nothing.
use Rattle.std.specs.Prelude.{◌≡◌, refl, ◌≢◌, Bool, true, false, List, [], ◌∷◌, ◌++◌, ℕ, length, take}
use Rattle.std.proofs.Common.{sym, ap, ◌∙◌}
use Rattle.std.proofs.lemmas.Bool.{false≢true}
use Rattle.rows.specs.Rows.{All, same}
use Rattle.rows.specs.ListLaws.{same_sound, same_eq}
use Rattle.uid.specs.Uid.{uid_bytes}
use Rattle.uid.specs.declared.Uid.{Uid}
use Rattle.card.specs.declared.Card.{Card}
use Rattle.reader.specs.declared.Turn.{Turn}
use Rattle.sweep_rules.specs.Run.{Out}
use Rattle.wake_rules.specs.Claim.{Wakes, Absent}
use Rattle.wake.specs.declared.Woken.{Woken}
use Rattle.kept_reader.specs.KeptReader.{selection_number, selection_refuses}
use Rattle.kept_field.specs.KeptField.{cards_in, cards_left}
use Rattle.kept_wake.specs.KeptWake.{woken_number, row_left, Says}

-- ---- what the call leaves

pub woken_refused : (s : Woken) (n : ℕ) (cards : List ℕ) (x : ℕ) → selection_refuses s.answer ≡ true → x ≡ selection_number s.answer
    → (x ≡ woken_number s) × ((cards ≡ row_left n cards s) × Says n s cards)
unfolding row_left
woken_refused s n cards x h e = (rw h e, (rw h, λ k. absurd (false≢true (sym k ∙ h))))

pub woken_kept : (s : Woken) (n : ℕ) (cards cards₁ : List ℕ) → selection_refuses s.answer ≡ false → cards₁ ≡ cards_left cards (take n s.cards)
    → cards_in (length (take n s.cards)) cards₁ ≡ take n s.cards → length s.cards ≡ 32
    → (s.frames ≡ woken_number s) × ((cards₁ ≡ row_left n cards s) × Says n s cards₁)
unfolding row_left
woken_kept s n cards cards₁ h a b c = (rw h, (rw h a, λ k. (b, c)))

-- ---- a refusal leaves the cards

-- the UID u is that of a card of cs
abbrev There : Uid → List Card → Type 0 → Type 0
There u cs X = (a : List Card) (c : Card) (b : List Card) → cs ≡ a ++ (c ∷ b) → uid_bytes c.uid ≡ uid_bytes u → X

-- .. or of none
abbrev NotThere : Uid → List Card → Type 0
NotThere u cs = All (λ c. uid_bytes c.uid ≢ uid_bytes u) cs

either : (u : Uid) (cs : List Card) (X : Type 0) → There u cs X → (NotThere u cs → X) → X
either u [] X there absent = absent tt
either u (k ∷ cs) X there absent = go (same (uid_bytes k.uid) (uid_bytes u)) refl (either u cs X)
  where
    go : (t : Bool) → same (uid_bytes k.uid) (uid_bytes u) ≡ t → (There u cs X → (NotThere u cs → X) → X) → X
    go true e rest = there [] k cs refl (same_sound _ _ e)
    go false e rest =
        let other : uid_bytes k.uid ≢ uid_bytes u = λ q. false≢true (sym e ∙ same_eq _ _ q) in
        rest (λ a c b p q. there (k ∷ a) c b (ap (λ l. k ∷ l) p) q) (λ m. absent (other, m))

-- so a run that is refused found no such card
pub refused_absent : (cs : List Card) (u : Uid) (o : Out) → Wakes cs u o → selection_refuses o.last.answer ≡ true → Absent cs u o
refused_absent cs u o w h =
    either u cs _
    (λ a c b p q. absurd (false≢true (sym (ap (λ (t : Turn). selection_refuses t.answer) (w.there a c b p q).reader_ends) ∙ h)))
    (λ m. w.absent m)
