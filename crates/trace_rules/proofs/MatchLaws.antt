-- A field and a list of cards that has just its idle ones, in some order, mirror each other. Assumes nothing.
use Rattle.std.specs.Prelude.{◌≡◌, refl, ◌≢◌, ℕ, Bool, true, false, not, ◌&&◌, ◌||◌, List, [], ◌∷◌, ◌++◌}
use Rattle.std.proofs.Common.{sym, ap, ◌∙◌, true≢false}
use Rattle.std.proofs.lemmas.Bool.{false≢true, not-true}
use Rattle.rows.specs.EachLaws.{all_weaken}
use Rattle.rows.specs.ListLaws.{both, same_refl, same_sound}
use Rattle.rows.specs.Rows.{All, any, same}
use Rattle.uid.specs.Uid.{uid_bytes}
use Rattle.sweep_rules.specs.Demand.{is_idle_with, Distinct}
use Rattle.sweep_rules.specs.Terms.{is_idle, is_halt, apart}
use Rattle.card.specs.declared.Card.{Card}
use Rattle.card.specs.declared.CardState.{CardState}
use Rattle.card.specs.declared.CardState.TheVariants.{Off, Idle, Ready, Active, Halt, ReadyStar, ActiveStar, Protocol}
use Rattle.trace_rules.proofs.ContentLaws.{uids}
use Rattle.trace_rules.proofs.MirrorLaws.{Twin, Mirror, none, asleep, twin}

-- ---- one card taken out of a list

any_out : (t : Card → Bool) (G₁ : List Card) (g : Card) (G₂ : List Card) → any t (G₁ ++ g ∷ G₂) ≡ (t g || any t (G₁ ++ G₂))
unfolding any
any_out t [] g G₂ = refl
any_out t (x ∷ G₁) g G₂ = ap (λ b. t x || b) (any_out t G₁ g G₂) ∙ go (t x) (t g)
  where
    go : (a b : Bool) → (a || (b || any t (G₁ ++ G₂))) ≡ (b || (a || any t (G₁ ++ G₂)))
    go true true = refl
    go true false = refl
    go false true = refl
    go false false = refl

all_out : (F : Card → Type 0) (G₁ : List Card) (g : Card) (G₂ : List Card) → All F (G₁ ++ g ∷ G₂) → F g × All F (G₁ ++ G₂)
all_out F [] g G₂ h = h
all_out F (x ∷ G₁) g G₂ h = let p = all_out F G₁ g G₂ h.1 in (p.0, (h.0, p.1))

all_uids_out : (F : List ℕ → Type 0) (G₁ : List Card) (g : Card) (G₂ : List Card) → All F (uids (G₁ ++ g ∷ G₂)) → F (uid_bytes g.uid) × All F (uids (G₁ ++ G₂))
unfolding uids
all_uids_out F [] g G₂ h = h
all_uids_out F (x ∷ G₁) g G₂ h = let p = all_uids_out F G₁ g G₂ h.1 in (p.0, (h.0, p.1))

distinct_out : (G₁ : List Card) (g : Card) (G₂ : List Card) → Distinct (uids (G₁ ++ g ∷ G₂)) → All (λ v. uid_bytes g.uid ≢ v) (uids (G₁ ++ G₂)) × Distinct (uids (G₁ ++ G₂))
unfolding uids
distinct_out [] g G₂ h = h
distinct_out (x ∷ G₁) g G₂ h =
    let p = distinct_out G₁ g G₂ h.1 in
    let q = all_uids_out (λ v. uid_bytes x.uid ≢ v) G₁ g G₂ h.0 in
    ((λ e. q.0 (sym e), p.0), (q.1, p.1))

-- a list in which some card passes a test
record Split (t : Card → Bool) (G : List Card) : Type 0 where
  front : List Card
  here : Card
  back : List Card
  parts : G ≡ front ++ here ∷ back
  passes : t here ≡ true

split : (t : Card → Bool) (G : List Card) → any t G ≡ true → Split t G
unfolding any
split t [] h = absurd (false≢true h)
split t (g ∷ G) h = go (t g) refl h (split t G)
  where
    go : (b : Bool) → t g ≡ b → (b || any t G) ≡ true → (any t G ≡ true → Split t G) → Split t (g ∷ G)
    go true e h ih = record { front = []; here = g; back = G; parts = refl; passes = e }
    go false e h ih = let s = ih h in record { front = g ∷ s.front; here = s.here; back = s.back; parts = ap (λ q. g ∷ q) s.parts; passes = s.passes }

-- ---- tests

abbrev has : List ℕ → Card → Bool
has v g = same v (uid_bytes g.uid)

none_has : (v : List ℕ) (G : List Card) → All (λ x. v ≢ x) (uids G) → any (has v) G ≡ false
unfolding any uids
none_has v [] h = refl
none_has v (g ∷ G) h = go (same v (uid_bytes g.uid)) refl (none_has v G h.1)
  where
    go : (b : Bool) → same v (uid_bytes g.uid) ≡ b → any (has v) G ≡ false → (b || any (has v) G) ≡ false
    go true e ih = absurd (h.0 (same_sound v (uid_bytes g.uid) e))
    go false e ih = ih

-- no card has this UID, and so no idle one
none_idle : (v : List ℕ) (cs : List Card) → any (has v) cs ≡ false → any (is_idle_with v) cs ≡ false
unfolding any is_idle_with
none_idle v [] h = refl
none_idle v (c ∷ cs) h = go (has v c) (is_idle c.state) h (none_idle v cs)
  where
    go : (a b : Bool) → (a || any (has v) cs) ≡ false → (any (has v) cs ≡ false → any (is_idle_with v) cs ≡ false) → ((b && a) || any (is_idle_with v) cs) ≡ false
    go true b h ih = absurd (true≢false h)
    go false true h ih = ih h
    go false false h ih = ih h

-- ---- the mirror

-- Idle or Halt
abbrev pub Rests : Card → Type 0
Rests c = (is_idle c.state || is_halt c.state) ≡ true

halt_is : (s : CardState) → is_idle s ≡ false → (is_idle s || is_halt s) ≡ true → s ≡ Halt
halt_is Off e h = absurd (false≢true h)
halt_is Idle e h = absurd (true≢false e)
halt_is (Ready l) e h = absurd (false≢true h)
halt_is Active e h = absurd (false≢true h)
halt_is Halt e h = refl
halt_is (ReadyStar l) e h = absurd (false≢true h)
halt_is ActiveStar e h = absurd (false≢true h)
halt_is (Protocol i) e h = absurd (false≢true h)

-- the same UIDs, and of cards with the same UID the same kind
abbrev Match : List Card → List Card → Type 0
Match cs G = (v : List ℕ) → any (is_idle_with v) cs ≡ any (has v) G

abbrev pub Pairs : List Card → List Card → Type 0
Pairs cs G = All (λ c. All (λ g. is_idle c.state ≡ true → uid_bytes c.uid ≡ uid_bytes g.uid → Twin c g) G) cs

pub mirror_of : (cs G : List Card) → All Rests cs → apart cs ≡ true → Distinct (uids G) → ((v : List ℕ) → any (is_idle_with v) cs ≡ any (λ g. same v (uid_bytes g.uid)) G) → Pairs cs G → Mirror cs G
unfolding any apart is_idle_with
mirror_of [] [] r a d m p = none
mirror_of [] (g ∷ G) r a d m p =
    absurd (false≢true (m (uid_bytes g.uid) ∙ ap (λ b. b || any (has (uid_bytes g.uid)) G) (same_refl (uid_bytes g.uid))))
mirror_of (c ∷ cs) G r a d m p = go (is_idle c.state) refl (λ G' d' m' p'. mirror_of cs G' r.1 alone.1 d' m' p')
  where
    u : List ℕ
    u = uid_bytes c.uid

    alone : (any (has u) cs ≡ false) × (apart cs ≡ true)
    alone = let q = both (not (any (has u) cs)) (apart cs) a in (not-true (any (has u) cs) q.0, q.1)

    Rest : Type 0
    Rest = (G' : List Card) → Distinct (uids G') → ((v : List ℕ) → any (is_idle_with v) cs ≡ any (λ g. same v (uid_bytes g.uid)) G') → Pairs cs G' → Mirror cs G'

    -- the UIDs without that of c, which is the one of g
    others : (G₁ : List Card) (g : Card) (G₂ : List Card) → u ≡ uid_bytes g.uid → is_idle c.state ≡ true → All (λ v. uid_bytes g.uid ≢ v) (uids (G₁ ++ G₂))
        → ((v : List ℕ) → any (is_idle_with v) (c ∷ cs) ≡ any (λ g. same v (uid_bytes g.uid)) (G₁ ++ g ∷ G₂)) → (v : List ℕ) → any (is_idle_with v) cs ≡ any (λ g. same v (uid_bytes g.uid)) (G₁ ++ G₂)
    others G₁ g G₂ eu ei far m v = pick (same v u) refl
      where
        pick : (b : Bool) → same v u ≡ b → any (is_idle_with v) cs ≡ any (λ g. same v (uid_bytes g.uid)) (G₁ ++ G₂)
        pick true e =
            let k : v ≡ u = same_sound v u e in
            rw k (none_idle u cs alone.0 ∙ sym (none_has u (G₁ ++ G₂) (rw (← eu) at far)))
        pick false e =
            let z : any (is_idle_with v) (c ∷ cs) ≡ any (is_idle_with v) cs = rw (ei, e) in
            let w : any (has v) (G₁ ++ g ∷ G₂) ≡ any (has v) (G₁ ++ G₂) = any_out (has v) G₁ g G₂ ∙ rw (← eu, e) in
            sym z ∙ m v ∙ w

    found : (G₁ : List Card) (g : Card) (G₂ : List Card) → G ≡ G₁ ++ g ∷ G₂ → has u g ≡ true → is_idle c.state ≡ true → Rest → Mirror (c ∷ cs) G
    found G₁ g G₂ k h ei ih =
        let eu : u ≡ uid_bytes g.uid = same_sound u (uid_bytes g.uid) h in
        let dd = distinct_out G₁ g G₂ (rw k at d) in
        let tw = (all_out (λ g. is_idle c.state ≡ true → u ≡ uid_bytes g.uid → Twin c g) G₁ g G₂ (rw k at p.0)).0 in
        let ps : Pairs cs (G₁ ++ G₂) = all_weaken cs (λ c' z. (all_out (λ g. is_idle c'.state ≡ true → uid_bytes c'.uid ≡ uid_bytes g.uid → Twin c' g) G₁ g G₂ (rw k at z)).1) p.1 in
        rw k (twin G₁ G₂ (tw ei eu) (ih (G₁ ++ G₂) dd.1 (others G₁ g G₂ eu ei dd.0 (rw k at m)) ps))

    go : (b : Bool) → is_idle c.state ≡ b → Rest → Mirror (c ∷ cs) G
    go true e ih =
        let hit : any (has u) G ≡ true = sym (m u) ∙ rw (e, same_refl u) in
        let s : Split (has u) G = split (has u) G hit in
        found s.front s.here s.back s.parts s.passes e ih
    go false e ih =
        asleep (halt_is c.state e r.0) (ih G d (λ v. let z : any (is_idle_with v) (c ∷ cs) ≡ any (is_idle_with v) cs = rw e in sym z ∙ m v) p.1)
