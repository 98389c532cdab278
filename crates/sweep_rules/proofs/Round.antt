-- Each frame of a round, over the whole field: the field after it, and what is heard. F is the field at the round's start.
-- Assumes nothing.
use mathlib.Core.Path.{◌≡◌, refl, sym, ap, ◌∙◌}
use mathlib.Core.Logic.{◌≢◌}
use Prim.Native.Nat.{ℕ, ◌+◌, ◌*◌, ◌≤◌, ◌<◌}
use mathlib.Core.Bool.{Bool, true, false, cond, false≢true}
use mathlib.Core.Option.{Option, none, some}
use mathlib.Core.List.{List, [], ◌∷◌, ◌++◌, map, map-map, cons≢nil}
use lib.ListN.{length, take, drop}
use native.Mathlib.Omega.{arith}
use Rattle.rows.specs.EachLaws.{all_zip, all_weaken}
use Rattle.rows.specs.ListLaws.{same_refl, map_all, all_of, all_unmap}
use Rattle.rows.specs.Rows.{All, is_nil, Bits}
use Rattle.frame.specs.ByteLaws.{length_bytes}
use Rattle.frame.specs.Frame.{bytes_of}
use Rattle.uid.specs.LevelLaws.{wide}
use Rattle.uid.specs.Order.{diff}
use Rattle.uid.specs.StripLaws.{strip, shape}
use Rattle.uid.specs.Uid.{place}
use Rattle.selection.specs.SealLaws.{seal}
use Rattle.selection.specs.Selection.{cut, reqa, hlta, anticollision, select, sak_frame, atqa}
use Rattle.selection.specs.SelectionLaws.{length_hlta, length_anti, length_select}
use Rattle.card.specs.Card.{Step, up, rules}
use Rattle.card.proofs.CardLaws.{sit₁, said, saked, card_anti, card_sel}
use Rattle.card.proofs.ElseLaws.{idle_else, halt_else}
use Rattle.card.proofs.StateLaws.{halt_reqa}
use Rattle.field.specs.Field.{all_take, heard_from}
use Rattle.field.specs.Merge.{join, merge}
use Rattle.field.specs.MergeLaws.{join_nil, merge_same}
use Rattle.sweep_rules.proofs.Abstract.{strips}
use Rattle.sweep_rules.proofs.First.{put}
use Rattle.sweep_rules.proofs.Idle.{Fits, idlers, row_in, idles, sizes, all_idle}
use Rattle.sweep_rules.proofs.Sitting.{turn_at, hear_at, hear_by, at, at_rest}
use Rattle.sweep_rules.proofs.Strip.{strips_put, all_unstrips}
use Rattle.uid.specs.declared.Level.{Level}
use Rattle.uid.specs.declared.Level.TheVariants.{One}
use Rattle.card.specs.declared.Card.{Card}
use Rattle.card.specs.declared.CardState.TheVariants.{Idle, Ready, Active, Halt}

idle_reqa : (c : Card) → rules c Idle reqa ≡ (Ready One, atqa c.uid.size)
unfolding rules
idle_reqa c = rw (same_refl reqa)

not_seven : (f : List ℕ) (n : ℕ) → length f ≡ n → 7 < n → length f ≢ 7
not_seven f n e h e' = omega arith

deaf_hlta : (c : Card) → rules c Halt hlta ≡ (Halt, [])
deaf_hlta c = halt_else c hlta (not_seven hlta 36 length_hlta (omega arith))

sit_hlta : (c : Card) (o : Option (List ℕ)) → rules c (sit₁ false Active o) hlta ≡ (sit₁ false Halt o, [])
unfolding sit₁ rules
sit_hlta c (some t) = rw (same_refl hlta)
sit_hlta c none = idle_else c hlta (not_seven hlta 36 length_hlta (omega arith))

merge_silent : {A : Type 0} (l : List A) → merge (map (λ a. []) l) ≡ []
unfolding merge join
merge_silent [] = refl
merge_silent (a ∷ l) = merge_silent l

said_sits : (l : Level) (n : ℕ) (K : List ℕ) (o : Option (List ℕ)) → (said false l n K o).0 ≡ sit₁ false (Ready l) o
unfolding said sit₁
said_sits l n K (some t) = refl
said_sits l n K none = refl

-- SAK while levels remain
onward : Level → Option (List ℕ) → Step
onward l (some t) = (Ready (up l), sak_frame 0x04)
onward l none = (Idle, [])

onward_sits : (l : Level) (o : Option (List ℕ)) → (onward l o).0 ≡ sit₁ false (Ready (up l)) o
unfolding onward sit₁
onward_sits l (some t) = refl
onward_sits l none = refl

saked_more : (l : Level) (b : Bool) (o : Option (List ℕ)) → ((t : List ℕ) → o ≡ some t → is_nil t ≡ false) → saked false l b o ≡ onward l o
unfolding saked onward is_nil
saked_more l b (some []) h = absurd (false≢true (sym (h [] refl)))
saked_more l b (some (x ∷ t)) h = refl
saked_more l b none h = refl

saked_last : (l : Level) (b : Bool) (o : Option (List ℕ)) → ((t : List ℕ) → o ≡ some t → is_nil t ≡ true) → (saked false l b o).0 ≡ sit₁ false Active o
unfolding saked sit₁ is_nil
saked_last l b (some []) h = refl
saked_last l b (some (x ∷ t)) h = absurd (false≢true (h (x ∷ t) refl))
saked_last l b none h = refl

-- the card whose row begins with W, if one does, speaks blocks
unfoldable pub this_or : Option (List ℕ) → Bool → Bool → Bool
this_or (some t) b d = b
this_or none b d = d

unfoldable pub speaks : List ℕ → List Card → Bool
unfolding this_or
speaks W [] = false
speaks W (c ∷ cs) = this_or (strip W (row_in c)) c.blocks (speaks W cs)

-- rows of which none begins with W are silent, and where one does it alone is heard
module _ (G : Bool → Option (List ℕ) → List ℕ) (W : List ℕ) where
  none_answers : (cs : List Card) → ((b : Bool) → G b none ≡ []) → strips W (map row_in cs) ≡ [] → merge (map (λ c. G c.blocks (strip W (row_in c))) cs) ≡ []
  unfolding merge join put
  none_answers [] z e = refl
  none_answers (c ∷ cs) z e = go (strip W (row_in c)) (rw strips_put at e) (none_answers cs z)
    where
      go : (o : Option (List ℕ)) → put o (strips W (map row_in cs)) ≡ [] → (strips W (map row_in cs) ≡ [] → merge (map (λ c. G c.blocks (strip W (row_in c))) cs) ≡ [])
          → join (G c.blocks o) (merge (map (λ c. G c.blocks (strip W (row_in c))) cs)) ≡ []
      go (some t) e ih = absurd (cons≢nil e)
      go none e ih = rw (z c.blocks) (ih e)

  one_answers : (cs : List Card) → ((b : Bool) → G b none ≡ []) → strips W (map row_in cs) ≡ [] ∷ []
      → merge (map (λ c. G c.blocks (strip W (row_in c))) cs) ≡ G (speaks W cs) (some [])
  unfolding merge join put strips speaks this_or
  one_answers [] z e = absurd (cons≢nil (sym e))
  one_answers (c ∷ cs) z e = go (strip W (row_in c)) (rw strips_put at e) (one_answers cs z)
    where
      go : (o : Option (List ℕ)) → put o (strips W (map row_in cs)) ≡ [] ∷ []
          → (strips W (map row_in cs) ≡ [] ∷ [] → merge (map (λ c. G c.blocks (strip W (row_in c))) cs) ≡ G (speaks W cs) (some []))
          → join (G c.blocks o) (merge (map (λ c. G c.blocks (strip W (row_in c))) cs)) ≡ G (this_or o c.blocks (speaks W cs)) (some [])
      go (some t) e ih =
          let e₁ : t ≡ [] = cc in
          let e₂ : strips W (map row_in cs) ≡ [] = cc in
          rw (none_answers cs z e₂, join_nil (G c.blocks (some t)), e₁)
      go none e ih = rw (z c.blocks) (ih e)

module _ (F : List Card) (hF : All Fits F) where
  pub turn_req : all_take reqa F ≡ at [] (Ready One) F
  unfolding sit₁ strip shape diff
  turn_req = ap (all_take reqa) (sym (at_rest [] F hF)) ∙ turn_at reqa halt_reqa [] [] Idle (Ready One) F hF (all_of (λ c. ap (λ z. z.0) (idle_reqa c)) (idlers F))

  pub hear_req : heard_from reqa F ≡ merge (map atqa (sizes F))
  unfolding sit₁ strip shape diff sizes
  hear_req = ap (heard_from reqa) (sym (at_rest [] F hF)) ∙ hear_at reqa halt_reqa [] Idle F hF
      ∙ ap merge (map_all (λ c. (rules c Idle reqa).1) (λ c. atqa c.uid.size) (idlers F) (all_of (λ c. ap (λ z. z.1) (idle_reqa c)) (idlers F))
      ∙ sym (map-map atqa (λ c. c.uid.size) (idlers F)))

  pub turn_hlt : (W : List ℕ) → all_take hlta (at W Active F) ≡ at W Halt F
  turn_hlt W = turn_at hlta deaf_hlta W W Active Halt F hF (all_of (λ c. ap (λ z. z.0) (sit_hlta c (strip W (row_in c)))) (idlers F))

  pub hear_hlt : (W : List ℕ) → heard_from hlta (at W Active F) ≡ []
  hear_hlt W = hear_at hlta deaf_hlta W Active F hF
      ∙ ap merge (map_all (λ c. (rules c (sit₁ false Active (strip W (row_in c))) hlta).1) (λ c. []) (idlers F) (all_of (λ c. ap (λ z. z.1) (sit_hlta c (strip W (row_in c)))) (idlers F)))
      ∙ merge_silent (idlers F)

  module _ (l : Level) (P Q R : List ℕ) (h_p : length P ≡ wide * place l) (b : Bits (Q ++ R)) where
    K : List ℕ
    K = Q ++ R

    -- ANTICOLLISION with K: those whose rows begin with it stay in
    module _ (n : ℕ) (hn : 40 ≡ length (Q ++ R) + n) (h1 : 1 ≤ n) (long : All (λ t. n ≤ length t) (strips (P ++ (Q ++ R)) (idles F))) where
      f : List ℕ
      f = anticollision l (length K) (bytes_of 5 K)

      deaf_f : (c : Card) → rules c Halt f ≡ (Halt, [])
      unfolding f K
      deaf_f c = halt_else c f (not_seven f _ (length_anti l (length K) (bytes_of 5 K) (length_bytes 5 K) (omega arith)) (omega arith))

      each : All (λ c. rules c (sit₁ false (Ready l) (strip (P ++ Q) (row_in c))) f ≡ said false l n K (strip (P ++ K) (row_in c))) (idlers F)
      unfolding f K idles
      each = all_zip (idlers F) (λ c s g. card_anti c s.sound false l P Q R h_p b n hn h1 g) (all_idle Fits F hF)
          (all_unmap (λ r. (t : List ℕ) → strip (P ++ K) r ≡ some t → n ≤ length t) row_in (idlers F) (all_unstrips (λ t. n ≤ length t) (P ++ K) (map row_in (idlers F)) long))

      pub turn_anti : all_take (anticollision l (length (Q ++ R)) (bytes_of 5 (Q ++ R))) (at (P ++ Q) (Ready l) F) ≡ at (P ++ (Q ++ R)) (Ready l) F
      unfolding f K
      turn_anti = turn_at f deaf_f (P ++ Q) (P ++ K) (Ready l) (Ready l) F hF
          (all_weaken (idlers F) (λ c e. ap (λ z. z.0) e ∙ said_sits l n K (strip (P ++ K) (row_in c))) each)

      pub hear_anti : heard_from (anticollision l (length (Q ++ R)) (bytes_of 5 (Q ++ R))) (at (P ++ Q) (Ready l) F)
          ≡ merge (map (λ t. drop (cut (length (Q ++ R))) (seal 5 (Q ++ R ++ take n t))) (strips (P ++ (Q ++ R)) (idles F)))
      unfolding f K said
      hear_anti = hear_by f deaf_f (P ++ Q) (P ++ K) (Ready l) F hF (λ o. (said false l n K o).1) refl (all_weaken (idlers F) (λ c e. ap (λ z. z.1) e) each)

    -- SELECT of K
    module _ (hn : 40 ≡ length (Q ++ R)) where
      g : List ℕ
      g = select l (bytes_of 5 K)

      deaf_g : (c : Card) → rules c Halt g ≡ (Halt, [])
      unfolding g K
      deaf_g c = halt_else c g (not_seven g 81 (length_select l (bytes_of 5 K) (length_bytes 5 K)) (omega arith))

      all_saked : All (λ c. rules c (sit₁ false (Ready l) (strip (P ++ Q) (row_in c))) g ≡ saked false l c.blocks (strip (P ++ K) (row_in c))) (idlers F)
      unfolding g K
      all_saked = all_weaken (idlers F) (λ c s. card_sel c s.sound false l P Q R h_p b hn) (all_idle Fits F hF)

      -- what holds of all that is left, for each card
      left : (G : List ℕ → Type 0) → All G (strips (P ++ (Q ++ R)) (idles F)) → All (λ c. (t : List ℕ) → strip (P ++ K) (row_in c) ≡ some t → G t) (idlers F)
      unfolding K idles
      left G h = all_unmap (λ r. (t : List ℕ) → strip (P ++ K) r ≡ some t → G t) row_in (idlers F) (all_unstrips G (P ++ K) (map row_in (idlers F)) h)

      module _ (more : All (λ t. is_nil t ≡ false) (strips (P ++ (Q ++ R)) (idles F))) where
        each_more : All (λ c. rules c (sit₁ false (Ready l) (strip (P ++ Q) (row_in c))) g ≡ onward l (strip (P ++ K) (row_in c))) (idlers F)
        each_more = all_zip (idlers F) (λ c e h. e ∙ saked_more l c.blocks (strip (P ++ K) (row_in c)) h) all_saked (left (λ t. is_nil t ≡ false) more)

        pub turn_more : all_take (select l (bytes_of 5 (Q ++ R))) (at (P ++ Q) (Ready l) F) ≡ at (P ++ (Q ++ R)) (Ready (up l)) F
        unfolding g K
        turn_more = turn_at g deaf_g (P ++ Q) (P ++ K) (Ready l) (Ready (up l)) F hF
            (all_weaken (idlers F) (λ c e. ap (λ z. z.0) e ∙ onward_sits l (strip (P ++ K) (row_in c))) each_more)

        pub hear_more : 1 ≤ length (strips (P ++ (Q ++ R)) (idles F)) → heard_from (select l (bytes_of 5 (Q ++ R))) (at (P ++ Q) (Ready l) F) ≡ sak_frame 0x04
        unfolding g K onward
        hear_more h = hear_by g deaf_g (P ++ Q) (P ++ K) (Ready l) F hF (λ o. (onward l o).1) refl (all_weaken (idlers F) (λ c e. ap (λ z. z.1) e) each_more)
            ∙ merge_same (λ t. sak_frame 0x04) 27 (sak_frame 0x04) (strips (P ++ K) (idles F)) h (all_of (λ t. refl) (strips (P ++ K) (idles F)))

      module _ (last : strips (P ++ (Q ++ R)) (idles F) ≡ [] ∷ []) where
        ends : All (λ c. (t : List ℕ) → strip (P ++ K) (row_in c) ≡ some t → is_nil t ≡ true) (idlers F)
        unfolding is_nil
        ends = left (λ t. is_nil t ≡ true) (rw last (refl, tt))

        pub turn_last : all_take (select l (bytes_of 5 (Q ++ R))) (at (P ++ Q) (Ready l) F) ≡ at (P ++ (Q ++ R)) Active F
        unfolding g K
        turn_last = turn_at g deaf_g (P ++ Q) (P ++ K) (Ready l) Active F hF
            (all_zip (idlers F) (λ c e h. ap (λ z. z.0) e ∙ saked_last l c.blocks (strip (P ++ K) (row_in c)) h) all_saked ends)

        -- one card answers
        pub hear_last : heard_from (select l (bytes_of 5 (Q ++ R))) (at (P ++ Q) (Ready l) F) ≡ sak_frame (cond (speaks (P ++ (Q ++ R)) (idlers F)) 0x20 0x00)
        unfolding g K idles saked
        hear_last =
            hear_at g deaf_g (P ++ Q) (Ready l) F hF
            ∙ ap merge (map_all (λ c. (rules c (sit₁ false (Ready l) (strip (P ++ Q) (row_in c))) g).1) (λ c. (saked false l c.blocks (strip (P ++ K) (row_in c))).1) (idlers F) (all_weaken (idlers F) (λ c e. ap (λ z. z.1) e) all_saked))
            ∙ one_answers (λ b o. (saked false l b o).1) (P ++ K) (idlers F) (λ b. refl) last
