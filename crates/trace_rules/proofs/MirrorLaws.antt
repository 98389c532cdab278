-- Two fields whose cards answer alike, whatever their order and whatever else is halted among them, are swept alike. Assumes nothing.
use Rattle.std.specs.Prelude.{◌≡◌, ℕ, zero, suc, Bool, cond, not, ◌&&◌, ◌||◌, List, [], ◌∷◌, ◌++◌, eqb, length}
use Rattle.std.proofs.Math.Path.{refl, sym, ap, ap₂}
use Rattle.std.proofs.Common.{◌∙◌, arith, eqb→eq}
use Rattle.std.proofs.Math.Bool.{true, false}
use Rattle.std.proofs.lemmas.Bool.{false≢true}
use Rattle.rows.specs.CleanLaws.{eqb_same}
use Rattle.rows.specs.ListLaws.{same_refl}
use Rattle.rows.specs.Rows.{same}
use Rattle.parity.specs.Bits.{bits_of}
use Rattle.crc.specs.Crc.{with_crc}
use Rattle.frame.specs.Frame.{air_byte, standard}
use Rattle.uid.specs.Uid.{levels}
use Rattle.selection.specs.Selection.{reqa, hlta, anticollision, select, rats, ats, at_most8}
use Rattle.selection.specs.SelectionLaws.{length_reqa, length_anti, length_select, length_hlta}
use Rattle.card.specs.Card.{Step, fsdi, remain, sak, home, chosen, ready, ready_at, active, rules, takes, answers}
use Rattle.card.proofs.ElseLaws.{halt_else}
use Rattle.card.specs.RatsLaws.{not_rats}
use Rattle.card.proofs.StateLaws.{halt_reqa}
use Rattle.reader.specs.Reader.{frame_in, frame, hear}
use Rattle.field.specs.Field.{all_take, heard_from}
use Rattle.field.specs.Merge.{meet, join, merge}
use Rattle.air_log.specs.Log.{sent_heard}
use Rattle.sweep_rules.specs.Run.{Out, before, finding, ended, follow, run_of, run}
use Rattle.card.specs.declared.Card.{Card}
use Rattle.card.specs.declared.CardState.{CardState}
use Rattle.card.specs.declared.CardState.TheVariants.{Off, Idle, Ready, Active, Halt, ReadyStar, ActiveStar, Protocol}
use Rattle.uid.specs.declared.Level.{Level}
use Rattle.uid.specs.declared.Level.TheVariants.{One, Two, Three}
use Rattle.reader.specs.declared.Answer.{Answer}
use Rattle.reader.specs.declared.Answer.TheVariants.{Sends, Finds, Selects, Finishes, Declines}
use Rattle.reader.specs.declared.Phase.{Phase}
use Rattle.reader.specs.declared.Phase.TheVariants.{New, ReqaSent, AnticollisionSent, SelectSent, HltaSent, Selected, Finished, Stopped, WupaSent, UidSelectSent}
use Rattle.reader.specs.declared.Reader.{Reader}
use Rattle.reader.specs.declared.Turn.{Turn}
use Rattle.trace_rules.proofs.SweptLaws.{InSweep, Few, Sweeping, Stays, hear_stays}

-- ---- answers in any order

meet_two : (x : ℕ) → meet x 2 ≡ 2
unfolding meet
meet_two x = go (eqb x 2) refl
  where
    go : (b : Bool) → eqb x 2 ≡ b → cond b x 2 ≡ 2
    go true e = eqb→eq x 2 (rw e tt)
    go false e = refl

meet_not : (x y : ℕ) → eqb x y ≡ false → meet x y ≡ 2
unfolding meet
meet_not x y e = rw e

eqb_back : (x y : ℕ) → eqb x y ≡ false → eqb y x ≡ false
eqb_back x y h = go (eqb y x) refl
  where
    go : (b : Bool) → eqb y x ≡ b → b ≡ false
    go true e = absurd (false≢true (sym h ∙ ap (eqb x) (eqb→eq y x (rw e tt)) ∙ eqb_same x))
    go false e = refl

meet_comm : (x y : ℕ) → meet x y ≡ meet y x
meet_comm x y = go (eqb x y) refl
  where
    go : (b : Bool) → eqb x y ≡ b → meet x y ≡ meet y x
    go true e = let k : x ≡ y = eqb→eq x y (rw e tt) in rw k
    go false e = meet_not x y e ∙ sym (meet_not y x (eqb_back x y e))

same_meet : (x : ℕ) → meet x x ≡ x
unfolding meet
same_meet x = rw (eqb_same x)

meet_swap : (x y z : ℕ) → meet x (meet y z) ≡ meet y (meet x z)
meet_swap x y z = go (eqb y z) (eqb x z) refl refl
  where
    go : (a b : Bool) → eqb y z ≡ a → eqb x z ≡ b → meet x (meet y z) ≡ meet y (meet x z)
    go true true e f = let k : y ≡ x = eqb→eq y z (rw e tt) ∙ sym (eqb→eq x z (rw f tt)) in rw k
    go true false e f =
        let k : y ≡ z = eqb→eq y z (rw e tt) in
        ap (meet x) (ap (λ u. meet u z) k ∙ same_meet z) ∙ meet_not x z f ∙ sym (ap (meet y) (meet_not x z f) ∙ meet_two y)
    go false true e f =
        let k : x ≡ z = eqb→eq x z (rw f tt) in
        ap (meet x) (meet_not y z e) ∙ meet_two x ∙ sym (ap (meet y) (ap (λ u. meet u z) k ∙ same_meet z) ∙ meet_not y z e)
    go false false e f = ap (meet x) (meet_not y z e) ∙ meet_two x ∙ sym (ap (meet y) (meet_not x z f) ∙ meet_two y)

join_comm : (a b : List ℕ) → join a b ≡ join b a
unfolding join
join_comm [] [] = refl
join_comm [] (y ∷ b) = refl
join_comm (x ∷ a) [] = refl
join_comm (x ∷ a) (y ∷ b) = ap₂ ◌∷◌ (meet_comm x y) (join_comm a b)

join_swap : (a b s : List ℕ) → join a (join b s) ≡ join b (join a s)
unfolding join
join_swap [] b s = refl
join_swap (x ∷ a) [] s = refl
join_swap (x ∷ a) (y ∷ b) [] = ap₂ ◌∷◌ (meet_comm x y) (join_comm a b)
join_swap (x ∷ a) (y ∷ b) (z ∷ s) = ap₂ ◌∷◌ (meet_swap x y z) (join_swap a b s)

heard_move : (f : List ℕ) (G₁ : List Card) (d : Card) (G₂ : List Card) → heard_from f (G₁ ++ d ∷ G₂) ≡ join (answers d f) (heard_from f (G₁ ++ G₂))
unfolding heard_from merge
heard_move f [] d G₂ = refl
heard_move f (g ∷ G₁) d G₂ = ap (join (answers g f)) (heard_move f G₁ d G₂) ∙ join_swap (answers g f) (answers d f) (heard_from f (G₁ ++ G₂))

take_move : (f : List ℕ) (G₁ : List Card) (G₂ : List Card) → all_take f (G₁ ++ G₂) ≡ all_take f G₁ ++ all_take f G₂
unfolding all_take
take_move f [] G₂ = refl
take_move f (g ∷ G₁) G₂ = ap (λ s. takes g f ∷ s) (take_move f G₁ G₂)

-- ---- frames of a sweep: a halted card does not hear them, and none is RATS but HLTA's own test comes first

abbrev Calm : List ℕ → Type 0
Calm f = (same f hlta || not (same f (rats (fsdi f)))) ≡ true

calm_not : (f : List ℕ) → same f (rats (fsdi f)) ≡ false → Calm f
calm_not f e = go (same f hlta) e
  where
    go : (b : Bool) → same f (rats (fsdi f)) ≡ false → (b || not (same f (rats (fsdi f)))) ≡ true
    go true e = refl
    go false e = rw e

-- SEL is odd, and E0 is not
anti_not_rats : (l : Level) (k : ℕ) (five : List ℕ) (i : ℕ) → same (anticollision l k five) (rats i) ≡ false
unfolding anticollision rats standard air_byte bits_of with_crc same
anti_not_rats One k five i = refl
anti_not_rats Two k five i = refl
anti_not_rats Three k five i = refl

calm_in : (p : Phase) (r : Reader) → InSweep p → length r.five ≡ 5 → Calm (frame_in p r)
calm_in New r x h = absurd x
calm_in ReqaSent r x h = calm_not reqa (not_rats reqa (λ e. omega (arith, length_reqa)))
calm_in (AnticollisionSent l) r x h = calm_not (anticollision l r.known r.five) (anti_not_rats l r.known r.five (fsdi (anticollision l r.known r.five)))
calm_in (SelectSent l) r x h = calm_not (select l r.five) (not_rats (select l r.five) (λ e. omega (arith, length_select l r.five h)))
calm_in HltaSent r x h = rw (same_refl hlta)
calm_in Selected r x h = absurd x
calm_in Finished r x h = absurd x
calm_in Stopped r x h = absurd x
calm_in WupaSent r x h = absurd x
calm_in (UidSelectSent l) r x h = absurd x

deaf_in : (p : Phase) (r : Reader) → InSweep p → Few p r.known → length r.five ≡ 5 → (c : Card) → rules c Halt (frame_in p r) ≡ (Halt, [])
deaf_in New r x k h c = absurd x
deaf_in ReqaSent r x k h c = halt_reqa c
deaf_in (AnticollisionSent l) r x k h c = halt_else c (anticollision l r.known r.five) (λ e. omega (arith, length_anti l r.known r.five h k))
deaf_in (SelectSent l) r x k h c = halt_else c (select l r.five) (λ e. omega (arith, length_select l r.five h))
deaf_in HltaSent r x k h c = halt_else c hlta (λ e. omega (arith, length_hlta))
deaf_in Selected r x k h c = absurd x
deaf_in Finished r x k h c = absurd x
deaf_in Stopped r x k h c = absurd x
deaf_in WupaSent r x k h c = absurd x
deaf_in (UidSelectSent l) r x k h c = absurd x

pub calm : (r : Reader) → Sweeping r → Calm (frame r)
unfolding frame
calm r q = calm_in r.phase r q.phase_ok q.five

pub deaf : (r : Reader) → Sweeping r → (c : Card) → rules c Halt (frame r) ≡ (Halt, [])
unfolding frame
deaf r q c = deaf_in r.phase r q.phase_ok q.few q.five c

-- ---- cards that answer alike

pub record Twin (c d : Card) : Type 0 where
  pub levels_same : levels c.uid ≡ levels d.uid
  pub size_same : c.uid.size ≡ d.uid.size
  pub blocks_same : c.blocks ≡ d.blocks
  pub state_same : c.state ≡ d.state

module _ (c d : Card) (t : Twin c d) (f : List ℕ) where
  sak_twin : (l : Level) → sak c l ≡ sak d l
  unfolding sak remain
  sak_twin l = rw (t.levels_same, t.blocks_same)

  chosen_twin : (w : Bool) (l : Level) → chosen c w l ≡ chosen d w l
  unfolding chosen remain
  chosen_twin w l = rw t.levels_same

  ready_twin : (w : Bool) (l : Level) → ready_at c w l f ≡ ready_at d w l f
  unfolding ready
  ready_twin w l = rw (t.levels_same, sak_twin l, chosen_twin w l)

  active_twin : Calm f → (w : Bool) → active c w f ≡ active d w f
  active_twin h w = go (same f hlta) (same f (rats (fsdi f))) c.blocks d.blocks h
    where
      go : (a b x y : Bool) → (a || not b) ≡ true
          → cond {A = Step} a (Halt, []) (cond (x && b) (Protocol (at_most8 (fsdi f)), ats (at_most8 c.index)) (home w, []))
          ≡ cond {A = Step} a (Halt, []) (cond (y && b) (Protocol (at_most8 (fsdi f)), ats (at_most8 d.index)) (home w, []))
      go true b x y h = refl
      go false true x y h = absurd (false≢true h)
      go false false true true h = refl
      go false false true false h = refl
      go false false false true h = refl
      go false false false false h = refl

  rules_twin : Calm f → (s : CardState) → rules c s f ≡ rules d s f
  unfolding rules
  rules_twin h Off = refl
  rules_twin h Idle = rw t.size_same
  rules_twin h (Ready l) = ready_twin false l
  rules_twin h Active = active_twin h false
  rules_twin h Halt = rw t.size_same
  rules_twin h (ReadyStar l) = ready_twin true l
  rules_twin h ActiveStar = active_twin h true
  rules_twin h (Protocol i) = refl

  both_twin : Calm f → rules c c.state f ≡ rules d d.state f
  both_twin h = rules_twin h c.state ∙ ap (λ s. rules d s f) t.state_same

  answer_twin : Calm f → answers c f ≡ answers d f
  unfolding answers
  answer_twin h = ap (λ s. s.1) (both_twin h)

  take_twin : Calm f → Twin (takes c f) (takes d f)
  unfolding takes
  take_twin h = record { levels_same = t.levels_same; size_same = t.size_same; blocks_same = t.blocks_same; state_same = ap (λ s. s.0) (both_twin h) }

-- ---- fields that answer alike

-- each card that is not halted has its twin, somewhere in the other field
pub data Mirror : List Card → List Card → Type 0 where
  none : Mirror [] []
  asleep : {c : Card} {F G : List Card} → c.state ≡ Halt → Mirror F G → Mirror (c ∷ F) G
  twin : {c d : Card} {F : List Card} (G₁ G₂ : List Card) → Twin c d → Mirror F (G₁ ++ G₂) → Mirror (c ∷ F) (G₁ ++ d ∷ G₂)

module _ (f : List ℕ) (h : Calm f) (q : (c : Card) → rules c Halt f ≡ (Halt, [])) where
  quiet : (c : Card) → c.state ≡ Halt → rules c c.state f ≡ (Halt, [])
  quiet c e = ap (λ s. rules c s f) e ∙ q c

  mirror_heard : {F G : List Card} → Mirror F G → heard_from f F ≡ heard_from f G
  unfolding heard_from merge join answers
  mirror_heard none = refl
  mirror_heard (asleep {c} {F} {G} e m) = ap (λ s. join s.1 (heard_from f F)) (quiet c e) ∙ mirror_heard m
  mirror_heard (twin {c} {d} {F} G₁ G₂ t m) = ap₂ join (answer_twin c d t f h) (mirror_heard m) ∙ sym (heard_move f G₁ d G₂)

  mirror_take : {F G : List Card} → Mirror F G → Mirror (all_take f F) (all_take f G)
  unfolding all_take takes
  mirror_take none = none
  mirror_take (asleep {c} {F} {G} e m) = asleep (ap (λ s. s.0) (quiet c e)) (mirror_take m)
  mirror_take (twin {c} {d} {F} G₁ G₂ t m) =
      rw (take_move f G₁ (d ∷ G₂)) (twin (all_take f G₁) (all_take f G₂) (take_twin c d t f h) (rw (take_move f G₁ G₂) at (mirror_take m)))

-- ---- and so are their sweeps

pub mirror_run : (k : ℕ) (t : Turn) (F G : List Card) → Sweeping t.reader → Mirror F G → (run k t F).exchanges ≡ (run k t G).exchanges
unfolding run run_of before finding ended
mirror_run zero t F G s m = refl
mirror_run (suc k) t F G s m =
    let f : List ℕ = frame t.reader in
    let e : heard_from f F ≡ heard_from f G = mirror_heard f (calm t.reader s) (deaf t.reader s) m in
    let t' : Turn = hear t.reader (heard_from f G) in
    let p : Out = run k t' (all_take f F) in
    let q : Out = run k t' (all_take f G) in
    rw e (ap (λ es. sent_heard f (heard_from f G) ∷ es)
    (go t'.answer t'.reader t' (all_take f F) (all_take f G) p q (hear_stays t.reader s (heard_from f G))
    (λ z. mirror_run k t' (all_take f F) (all_take f G) z (mirror_take f (calm t.reader s) (deaf t.reader s) m))))
  where
    go : (y : Answer) (r : Reader) (v : Turn) (A B : List Card) (p q : Out) → Stays (record { reader = r; answer = y }) → (Sweeping r → p.exchanges ≡ q.exchanges)
        → (follow y v A p).exchanges ≡ (follow y v B q).exchanges
    go (Sends n) r v A B p q z ih = ih z
    go (Finds n) r v A B p q z ih = ih z
    go Selects r v A B p q z ih = refl
    go Finishes r v A B p q z ih = refl
    go (Declines e) r v A B p q z ih = refl
