-- The field while a known UID is selected: the cards whose rows begin with the UID's levels so far are in one state, the others where they were.
-- What each frame does to it. Assumes nothing.
use mathlib.Core.Path.{◌≡◌, refl, sym, ap, ap₂, ◌∙◌}
use mathlib.Core.Logic.{◌≢◌}
use Prim.Native.Nat.{ℕ, suc, ◌*◌, ◌≤◌, ◌<◌}
use native.Mathlib.Omega.{arith}
use mathlib.Core.Bool.{Bool, true, false, cond, ◌||◌, true≢false}
use mathlib.Core.Option.{Option, none, some}
use mathlib.Core.List.{List, [], ◌∷◌, ◌++◌, map, map-id, append-nil}
use lib.ListN.{length}
use Rattle.rows.specs.EachLaws.{all_weaken}
use Rattle.rows.specs.ListLaws.{same_refl}
use Rattle.rows.specs.Rows.{All, any, same}
use Rattle.parity.specs.Bits.{bits_of}
use Rattle.frame.specs.Frame.{short, bytes_of}
use Rattle.uid.specs.LevelLaws.{wide, lev}
use Rattle.uid.specs.Order.{diff}
use Rattle.uid.specs.StripLaws.{strip, shape}
use Rattle.uid.specs.Uid.{place, uid_bytes, levels, row_of}
use Rattle.uid.specs.UidLaws.{Sound, length_row, uid_in_levels}
use Rattle.selection.specs.Selection.{reqa, wupa, select, sak_frame, atqa}
use Rattle.card.specs.Card.{home, ready_in, active_in, up, rules, with_state, takes, answers}
use Rattle.card.proofs.CardLaws.{sit₁, saked, card_sel, rules_state}
use Rattle.reader.specs.ReaderLaws.{lvl, place_lvl}
use Rattle.field.specs.Field.{all_take, heard_from}
use Rattle.field.specs.Merge.{join, merge}
use Rattle.field.specs.MergeLaws.{join_nil, merge_same}
use Rattle.sweep_rules.specs.Terms.{is_halt}
use Rattle.sweep_rules.proofs.Model.{up_lvl}
use Rattle.sweep_rules.proofs.Idle.{Fits, Resting, idle, halt, resting}
use Rattle.wake_rules.specs.Claim.{last_sak}
use Rattle.wake_rules.proofs.Known.{heads, heads_next, heads_length, level_bits_law, level_full, own_left, other_left, more_left, last_left}
use Rattle.uid.specs.declared.Level.{Level}
use Rattle.uid.specs.declared.Level.TheVariants.{One}
use Rattle.uid.specs.declared.Uid.{Uid}
use Rattle.card.specs.declared.Card.{Card}
use Rattle.card.specs.declared.CardState.{CardState}

-- ---- a frame, by what it does to each card

module _ (f : List ℕ) (y y' : Card → CardState) (a : Card → List ℕ) where
  abbrev Each : List Card → Type 0
  Each cs = All (λ c. rules c (y c) f ≡ (y' c, a c)) cs

  pub turn_each : (cs : List Card) → Each cs → all_take f (map (λ c. with_state c (y c)) cs) ≡ map (λ c. with_state c (y' c)) cs
  unfolding all_take takes
  turn_each [] h = refl
  turn_each (c ∷ cs) h = ap₂ (λ z l. with_state c z ∷ l) (ap (λ z. z.0) (rules_state c (y c) (y c) f ∙ h.0)) (turn_each cs h.1)

  pub hear_each : (cs : List Card) → Each cs → heard_from f (map (λ c. with_state c (y c)) cs) ≡ merge (map a cs)
  unfolding heard_from answers merge
  hear_each [] h = refl
  hear_each (c ∷ cs) h = ap₂ join (ap (λ z. z.1) (rules_state c (y c) (y c) f ∙ h.0)) (hear_each cs h.1)

-- ---- what is heard where some send the same, and the others nothing

pub hear_some : (b : Card → Bool) (F : List ℕ) (cs : List Card) → merge (map (λ c. cond (b c) F []) cs) ≡ cond (any b cs) F []
unfolding merge join any
hear_some b F [] = refl
hear_some b F (c ∷ cs) = go (b c) (any b cs) (hear_some b F cs)
  where
    self : join F F ≡ F
    self = ap (join F) (sym (join_nil F)) ∙ merge_same {A = ℕ} (λ x. F) 0 F (0 ∷ 0 ∷ []) (omega arith) (refl, (refl, tt))

    go : (x y : Bool) → merge (map (λ c. cond (b c) F []) cs) ≡ cond y F [] → join (cond x F []) (merge (map (λ c. cond (b c) F []) cs)) ≡ cond (x || y) F []
    go true true e = rw e self
    go true false e = rw e (join_nil F)
    go false y e = e

pub hear_none : (a : Card → List ℕ) (cs : List Card) → All (λ c. a c ≡ []) cs → merge (map a cs) ≡ []
unfolding merge join
hear_none a [] h = refl
hear_none a (c ∷ cs) h = rw h.0 (hear_none a cs h.1)

pub hear_one : (a : Card → List ℕ) (l : List Card) (c : Card) (r : List Card) → All (λ k. a k ≡ []) l → All (λ k. a k ≡ []) r → merge (map a (l ++ (c ∷ r))) ≡ a c
unfolding merge join
hear_one a [] c r h k = rw (hear_none a r k) (join_nil (a c))
hear_one a (x ∷ l) c r h k = rw h.0 (hear_one a l c r h.1 k)

-- ---- one card

-- it was halted, and so is woken
abbrev pub woken : Card → Bool
woken c = is_halt c.state

-- it is as it was: Idle or Halt is where "else" leads
own_home : {y : CardState} → Resting y → home (is_halt y) ≡ y
own_home idle = refl
own_home halt = refl

pub as_was : (c : Card) → Fits c → with_state c (home (woken c)) ≡ c
as_was c h = ap (with_state c) (own_home (resting c.state h.rests))

-- what it does with WUPA
wupa_rest : (c : Card) {y : CardState} → Resting y → rules c y wupa ≡ (ready_in (is_halt y) One, atqa c.uid.size)
wupa_rest c idle = unfold rules same reqa wupa short bits_of in refl
wupa_rest c halt = unfold rules in rw (same_refl wupa)

-- has a row bits left, or even none, after those that are known: then the card is in
unfoldable pub inside : Option (List ℕ) → Bool
inside (some t) = true
inside none = false

-- SAK where levels of the UID remain, and at its end
saked_more : (w : Bool) (l : Level) (b : Bool) (o : Option (List ℕ)) → o ≢ some [] → saked w l b o ≡ (sit₁ w (ready_in w (up l)) o, cond (inside o) (sak_frame 0x04) [])
unfolding saked sit₁ inside
saked_more w l b (some []) h = absurd (h refl)
saked_more w l b (some (x ∷ t)) h = refl
saked_more w l b none h = refl

saked_last : (w : Bool) (l : Level) (b : Bool) (o : Option (List ℕ)) → ((t : List ℕ) → o ≡ some t → t ≡ []) → saked w l b o ≡ (sit₁ w (active_in w) o, cond (inside o) (sak_frame (cond b 0x20 0x00)) [])
unfolding saked sit₁ inside
saked_last w l b (some []) h = refl
saked_last w l b (some (x ∷ t)) h = let e : x ∷ t ≡ [] = h (x ∷ t) refl in cc
saked_last w l b none h = refl

-- ---- the field after j levels of u

-- a card that is in is in state x, another where it was
unfoldable pub stand : Uid → (Bool → CardState) → ℕ → Card → CardState
stand u x j c = sit₁ (woken c) (x (woken c)) (strip (heads u j) (row_of c.uid))

unfoldable pub standing : Uid → (Bool → CardState) → ℕ → List Card → List Card
unfolding stand
standing u x j cs = map (λ c. with_state c (stand u x j c)) cs

-- it is in
unfoldable pub is_in : Uid → ℕ → Card → Bool
is_in u j c = inside (strip (heads u j) (row_of c.uid))

abbrev pub ready_for : ℕ → Bool → CardState
ready_for j w = ready_in w (lvl j)

none_in : (u : Uid) (x : Bool → CardState) (j : ℕ) (c : Card) → Fits c → is_in u j c ≡ false → with_state c (stand u x j c) ≡ c
unfolding stand is_in inside sit₁
none_in u x j c f = go (strip (heads u j) (row_of c.uid))
  where
    go : (o : Option (List ℕ)) → inside o ≡ false → with_state c (sit₁ (woken c) (x (woken c)) o) ≡ c
    go (some t) e = absurd (true≢false e)
    go none e = as_was c f

-- all are as they were where none is in
pub standing_none : (u : Uid) (x : Bool → CardState) (j : ℕ) (cs : List Card) → All Fits cs → All (λ c. is_in u j c ≡ false) cs → standing u x j cs ≡ cs
unfolding standing
standing_none u x j [] f h = refl
standing_none u x j (c ∷ cs) f h = ap₂ ◌∷◌ (none_in u x j c f.0 h.0) (standing_none u x j cs f.1 h.1)

-- WUPA: all answer
first_stand : (u : Uid) (x : Bool → CardState) (c : Card) → stand u x 0 c ≡ x (woken c)
unfolding stand heads sit₁ strip shape diff
first_stand u x c = refl

module _ (u : Uid) (cs : List Card) (f : All Fits cs) where
  each_wupa : All (λ c. rules c c.state wupa ≡ (stand u (ready_for 0) 0 c, atqa c.uid.size)) cs
  unfolding lvl
  each_wupa = all_weaken cs (λ c k. wupa_rest c (resting c.state k.rests) ∙ ap (λ z. (z, atqa c.uid.size)) (sym (first_stand u (ready_for 0) c))) f

  pub turn_wupa : all_take wupa cs ≡ standing u (ready_for 0) 0 cs
  unfolding standing
  turn_wupa = ap (all_take wupa) (sym (map-id cs)) ∙ turn_each wupa (λ c. c.state) (stand u (ready_for 0) 0) (λ c. atqa c.uid.size) cs each_wupa

  pub hear_wupa_law : heard_from wupa cs ≡ merge (map (λ c. atqa c.uid.size) cs)
  hear_wupa_law = ap (heard_from wupa) (sym (map-id cs)) ∙ hear_each wupa (λ c. c.state) (stand u (ready_for 0) 0) (λ c. atqa c.uid.size) cs each_wupa

-- SELECT of level j
module _ (u : Uid) (s : Sound u) (j : ℕ) (h : j < length (levels u)) (cs : List Card) (f : All Fits cs) where
  few : length (levels u) ≤ 3
  unfolding wide
  few = omega (arith, length_row u s, (uid_in_levels u s).at_most)

  g : List ℕ
  g = select (lvl j) (bytes_of 5 (lev j (row_of u)))

  h_p : length (heads u j) ≡ wide * place (lvl j)
  unfolding wide
  h_p = rw (place_lvl j (omega (arith, few))) (heads_length u s j (omega arith))

  each : (c : Card) → Fits c → rules c (stand u (ready_for j) j c) g ≡ saked (woken c) (lvl j) c.blocks (strip (heads u (suc j)) (row_of c.uid))
  unfolding stand g
  each c k = rw (append-nil (heads u j), heads_next u s j) at (card_sel c k.sound (woken c) (lvl j) (heads u j) [] (lev j (row_of u)) h_p (level_bits_law u s j h) (sym (level_full u s j h)))

  -- levels remain
  module _ (more : suc j < length (levels u)) where
    each_more : All (λ c. rules c (stand u (ready_for j) j c) g ≡ (stand u (ready_for (suc j)) (suc j) c, cond (is_in u (suc j) c) (sak_frame 0x04) [])) cs
    unfolding stand is_in
    each_more = all_weaken cs (λ c k.
        unfold stand in each c k
        ∙ saked_more (woken c) (lvl j) c.blocks (strip (heads u (suc j)) (row_of c.uid)) (more_left u s c.uid k.sound (suc j) more)
        ∙ ap (λ l. (sit₁ (woken c) (ready_in (woken c) l) (strip (heads u (suc j)) (row_of c.uid)), cond (inside (strip (heads u (suc j)) (row_of c.uid))) (sak_frame 0x04) [])) (up_lvl j (omega (arith, few)))) f

    pub turn_more : all_take (select (lvl j) (bytes_of 5 (lev j (row_of u)))) (standing u (ready_for j) j cs) ≡ standing u (ready_for (suc j)) (suc j) cs
    unfolding standing g
    turn_more = turn_each g (stand u (ready_for j) j) (stand u (ready_for (suc j)) (suc j)) (λ c. cond (is_in u (suc j) c) (sak_frame 0x04) []) cs each_more

    pub hear_more : heard_from (select (lvl j) (bytes_of 5 (lev j (row_of u)))) (standing u (ready_for j) j cs) ≡ cond (any (is_in u (suc j)) cs) (sak_frame 0x04) []
    unfolding standing g
    hear_more = hear_each g (stand u (ready_for j) j) (stand u (ready_for (suc j)) (suc j)) (λ c. cond (is_in u (suc j) c) (sak_frame 0x04) []) cs each_more ∙ hear_some (is_in u (suc j)) (sak_frame 0x04) cs

  -- it is the last
  module _ (last : suc j ≡ length (levels u)) where
    each_last : All (λ c. rules c (stand u (ready_for j) j c) g ≡ (stand u active_in (suc j) c, cond (is_in u (suc j) c) (sak_frame (last_sak c)) [])) cs
    unfolding stand is_in
    each_last = all_weaken cs (λ c k.
        unfold stand in each c k
        ∙ saked_last (woken c) (lvl j) c.blocks (strip (heads u (suc j)) (row_of c.uid)) (λ t e. last_left u s c.uid k.sound t (ap (λ n. strip (heads u n) (row_of c.uid)) (sym last) ∙ e))) f

    pub turn_last : all_take (select (lvl j) (bytes_of 5 (lev j (row_of u)))) (standing u (ready_for j) j cs) ≡ standing u active_in (suc j) cs
    unfolding standing g
    turn_last = turn_each g (stand u (ready_for j) j) (stand u active_in (suc j)) (λ c. cond (is_in u (suc j) c) (sak_frame (last_sak c)) []) cs each_last

    pub hear_last : heard_from (select (lvl j) (bytes_of 5 (lev j (row_of u)))) (standing u (ready_for j) j cs) ≡ merge (map (λ c. cond (is_in u (suc j) c) (sak_frame (last_sak c)) []) cs)
    unfolding standing g
    hear_last = hear_each g (stand u (ready_for j) j) (stand u active_in (suc j)) (λ c. cond (is_in u (suc j) c) (sak_frame (last_sak c)) []) cs each_last

-- ---- who is in

module _ (u : Uid) (s : Sound u) (c : Card) (k : Fits c) where
  pub own_in : uid_bytes c.uid ≡ uid_bytes u → (j : ℕ) → is_in u j c ≡ true
  unfolding is_in inside
  own_in e j = go (strip (heads u j) (row_of c.uid)) (own_left u s c.uid k.sound e j)
    where
      go : (o : Option (List ℕ)) → o ≢ none → inside o ≡ true
      go (some t) n = refl
      go none n = absurd (n refl)

  pub other_out : uid_bytes c.uid ≢ uid_bytes u → is_in u (length (levels u)) c ≡ false
  unfolding is_in inside
  other_out n = rw (other_left u s c.uid k.sound n)

  own_stand : uid_bytes c.uid ≡ uid_bytes u → (x : Bool → CardState) (j : ℕ) → stand u x j c ≡ x (woken c)
  unfolding stand sit₁
  own_stand e x j = go (strip (heads u j) (row_of c.uid)) (own_left u s c.uid k.sound e j)
    where
      go : (o : Option (List ℕ)) → o ≢ none → sit₁ (woken c) (x (woken c)) o ≡ x (woken c)
      go (some t) n = refl
      go none n = absurd (n refl)

-- one card is in, the others are as they were
pub standing_one : (u : Uid) → Sound u → (x : Bool → CardState) (j : ℕ) (c : Card) → Fits c → uid_bytes c.uid ≡ uid_bytes u → (a b : List Card) → All Fits a → All Fits b
    → All (λ k. is_in u j k ≡ false) a → All (λ k. is_in u j k ≡ false) b → standing u x j (a ++ (c ∷ b)) ≡ a ++ (with_state c (x (woken c)) ∷ b)
unfolding standing
standing_one u s x j c fc it [] b fa fb oa ob = ap₂ (λ y l. with_state c y ∷ l) (own_stand u s c fc it x j) (unfold standing in standing_none u x j b fb ob)
standing_one u s x j c fc it (k ∷ a) b fa fb oa ob = ap₂ ◌∷◌ (none_in u x j k fa.0 oa.0) (standing_one u s x j c fc it a b fa.1 fb oa.1 ob)
