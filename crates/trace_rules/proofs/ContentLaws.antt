-- The reader is content with a log that the plain sweep wrote, and the list is that sweep's. Assumes nothing.
use Rattle.std.specs.Prelude.{◌≡◌, ◌≢◌, Bool, true, false, ◌||◌, length, drop, Ok}
use Rattle.std.proofs.Math.Path.{refl}
use Rattle.std.proofs.Common.{sym, ap, ◌∙◌, arith, length-append, length-drop, length-set, length-take-le, le-leb, le-ltb}
use Prim.Native.Nat.{ℕ, zero, suc, ◌+◌, ◌-◌, ◌≤◌, ◌<◌}
use mathlib.Core.List.{List, [], ◌∷◌, ◌++◌, map, append-nil, append_assoc}
use Rattle.std.proofs.lemmas.List.{length-map}
use Rattle.std.proofs.lemmas.Bool.{lt-leb}
use Rattle.rows.specs.ListLaws.{same_sound}
use Rattle.rows.specs.Rows.{All, any, same}
use Rattle.limits.specs.Limits.{most_cards}
use Rattle.uid.specs.Uid.{uid_bytes}
use Rattle.reader.specs.Reader.{blank, turn, frame, hear}
use Rattle.field.specs.Field.{all_take, heard_from}
use Rattle.air_log.specs.Log.{Exchange, sent_heard}
use Rattle.sweep_rules.specs.Demand.{Distinct}
use Rattle.sweep_rules.specs.Run.{Out, before, finding, ended, follow, run_of, run}
use Rattle.card.specs.declared.Card.{Card}
use Rattle.reader.specs.declared.Answer.{Answer}
use Rattle.reader.specs.declared.Answer.TheVariants.{Sends, Finds, Selects, Finishes, Declines}
use Rattle.reader.specs.declared.Phase.TheVariants.{Finished}
use Rattle.reader.specs.declared.Reader.{Reader}
use Rattle.reader.specs.declared.Turn.{Turn}
use Rattle.trace_rules.specs.Trace as T
use Rattle.trace_rules.specs.Trace.{onward, listed, with_card, cards_in, is_listed, lists, ends, answered, turned, step, walk}
use Rattle.trace_rules.specs.Check.{compared_then, differs, cards_of}
use Rattle.trace_rules.proofs.FieldLaws.{cards_more}
use Rattle.trace_rules.proofs.FollowLaws.{Readable, beyond, beyond_has, same_there, step_there}
use Rattle.trace_rules.specs.Promise.{Begins, LogOf}
use Rattle.trace_rules.specs.declared.Checked.{Checked}
use Rattle.trace_rules.specs.declared.Place.{Place}

-- ---- a log of some exchanges does not differ from them

nothing_left : (l : List ℕ) (at : ℕ) → drop at l ≡ [] → length l ≤ at
nothing_left l at e = let k : length l - at ≡ 0 = sym (length-drop at l) ∙ ap length e in omega arith

pub no_difference : (w : ℕ) (l : List ℕ) (i : ℕ) (es : List Exchange) (at : ℕ) → All Readable es → LogOf w es (drop at l) → differs w l i es at ≡ Ok tt
unfolding differs
no_difference w l i [] at g b = rw (le-leb (length l) at (nothing_left l at b))
no_difference w l i (e ∷ es) at (g, gs) b =
    ap (compared_then i (differs w l (i + 2) es)) (same_there w l at e (LogOf w es) g b)
    ∙ no_difference w l (i + 2) es (beyond w l at e (LogOf w es) g b) gs (beyond_has w l at e (LogOf w es) g b)

-- ---- the list

unfoldable pub uids : List Card → List (List ℕ)
uids cs = map (λ c. uid_bytes c.uid) cs

uids_more : (cs : List Card) (c : Card) (us : List (List ℕ)) → uids (cs ++ c ∷ []) ++ us ≡ uids cs ++ uid_bytes c.uid ∷ us
unfolding uids
uids_more [] c us = refl
uids_more (d ∷ cs) c us = ap (λ s. uid_bytes d.uid ∷ s) (uids_more cs c us)

-- a UID that comes later is not there yet
not_yet : (u : List ℕ) (cs : List Card) (us : List (List ℕ)) → Distinct (uids cs ++ u ∷ us) → any (λ c. same u (uid_bytes c.uid)) cs ≡ false
unfolding uids any
not_yet u [] us d = refl
not_yet u (c ∷ cs) us (a, d) = go (same u (uid_bytes c.uid)) refl (not_yet u cs us d)
  where
    here : (vs : List (List ℕ)) → All (λ v. uid_bytes c.uid ≢ v) (vs ++ u ∷ us) → uid_bytes c.uid ≢ u
    here [] (x, y) = x
    here (v ∷ vs) (x, y) = here vs y

    go : (b : Bool) → same u (uid_bytes c.uid) ≡ b → any (λ c. same u (uid_bytes c.uid)) cs ≡ false → (b || any (λ c. same u (uid_bytes c.uid)) cs) ≡ false
    go true e ih = absurd (here (uids cs) a (sym (same_sound u (uid_bytes c.uid) e)))
    go false e ih = ih

-- the cards that a run lists, as a check of its log does
abbrev pub listed_by : Answer → Reader → List Card → List Card
listed_by (Sends n) r L = L
listed_by (Finds n) r L = listed r ∷ L
listed_by Selects r L = []
listed_by Finishes r L = []
listed_by (Declines e) r L = []

unfoldable pub listing : ℕ → Turn → List Card → List Card
listing zero t cs = []
listing (suc k) t cs =
    let f : List ℕ = frame t.reader in
    let t' : Turn = hear t.reader (heard_from f cs) in
    listed_by t'.answer t'.reader (listing k t' (all_take f cs))

-- a frame is out
abbrev pub Goes : Answer → Type 0
Goes (Sends n) = Unit {0}
Goes (Finds n) = Unit {0}
Goes Selects = ⊥
Goes Finishes = ⊥
Goes (Declines e) = ⊥

-- ---- the check follows the run

module _ (w : ℕ) (l : List ℕ) (total : List (List ℕ)) (apart : Distinct total) (limit : length total ≤ most_cards) where
  -- where a check and a run are, with a turn t of the run and so much fuel
  pub record At (k : ℕ) (t : Turn) (cs : List Card) (p : Place) : Type 0 where
    pub same_reader_law : p.reader ≡ t.reader
    pub is_out : Goes t.answer
    pub full : length p.cards ≡ most_cards
    pub few : p.found ≤ most_cards
    pub log : LogOf w (run k t cs).exchanges (drop p.at l)
    pub readable : All Readable (run k t cs).exchanges
    pub ends_well : (run k t cs).last ≡ turn (blank Finished false) Finishes
    pub list : uids (cards_in p) ++ (run k t cs).found ≡ total

  -- how the check comes out
  pub record Comes (k : ℕ) (t : Turn) (cs : List Card) (p : Place) (c : Checked) : Type 0 where
    pub clean : c.verdict ≡ Ok tt
    pub cards : cards_of c ≡ cards_in p ++ listing k t cs

  pub follows : (k : ℕ) (t : Turn) (cs : List Card) (K i : ℕ) (p : Place) → At k t cs p → length (run k t cs).exchanges ≤ K → Comes k t cs p (walk K w l i p)
  unfolding run run_of before finding ended walk listing turned lists ends is_listed uids
  follows zero t cs K i p a h = absurd (never a.ends_well a.is_out)
    where
      never : t ≡ turn (blank Finished false) Finishes → Goes t.answer → ⊥
      never e g = rw e at g
  follows (suc k) t cs zero i p a h = absurd (omega arith)
  follows (suc k) t cs (suc K) i p a h = go t'.answer refl a.log a.readable a.ends_well a.list h (λ p' a' h'. follows k t' cs' K (i + 2) p' a' h')
    where
      f : List ℕ
      f = frame t.reader

      x : List ℕ
      x = heard_from f cs

      t' : Turn
      t' = hear t.reader x

      cs' : List Card
      cs' = all_take f cs

      o : Out
      o = run k t' cs'

      -- what the check makes of the two records
      stepped : (y : Answer) → t'.answer ≡ y → (F : List ℕ → Type 0) (g : Readable (sent_heard f x)) (b : Begins w F (sent_heard f x) (drop p.at l))
          → step w l p ≡ answered l p (beyond w l p.at (sent_heard f x) F g b) t'.reader y
      stepped y e F g b =
          let at : ℕ = beyond w l p.at (sent_heard f x) F g b in
          step_there w l p.at (sent_heard f x) F g b p refl (ap frame a.same_reader_law)
          ∙ ap (λ q. turned l p at (hear q x)) a.same_reader_law
          ∙ ap (answered l p at t'.reader) e

      -- what is listed from here on
      rest : (y : Answer) → t'.answer ≡ y → cards_in p ++ listed_by y t'.reader (listing k t' cs') ≡ cards_in p ++ listing (suc k) t cs
      rest y e = ap (λ z. cards_in p ++ listed_by z t'.reader (listing k t' cs')) (sym e)

      long : length (uids (cards_in p)) ≡ p.found
      long = length-map (cards_in p) (λ c. uid_bytes c.uid) ∙ length-take-le p.found p.cards (omega (arith, a.few, a.full))

      go : (y : Answer) → t'.answer ≡ y → LogOf w (sent_heard f x ∷ (follow y t' cs' o).exchanges) (drop p.at l) → All Readable (sent_heard f x ∷ (follow y t' cs' o).exchanges)
          → (follow y t' cs' o).last ≡ turn (blank Finished false) Finishes → uids (cards_in p) ++ (follow y t' cs' o).found ≡ total
          → length (sent_heard f x ∷ (follow y t' cs' o).exchanges) ≤ suc K
          → ((p' : Place) → At k t' cs' p' → length o.exchanges ≤ K → Comes k t' cs' p' (walk K w l (i + 2) p'))
          → Comes (suc k) t cs p (walk (suc K) w l i p)
      go (Sends n) e b g r u h ih =
          let F : List ℕ → Type 0 = LogOf w o.exchanges in
          let at : ℕ = beyond w l p.at (sent_heard f x) F g.0 b in
          let p' : Place = onward p at t'.reader in
          let c = ih p' (record { same_reader_law = refl; is_out = rw e tt; full = a.full; few = a.few; log = beyond_has w l p.at (sent_heard f x) F g.0 b; readable = g.1; ends_well = r; list = u }) (omega arith) in
          rw (stepped (Sends n) e F g.0 b) (record { clean = c.clean; cards = c.cards ∙ rest (Sends n) e })
      go (Finds n) e b g r u h ih =
          let F : List ℕ → Type 0 = LogOf w o.exchanges in
          let at : ℕ = beyond w l p.at (sent_heard f x) F g.0 b in
          let q : Reader = t'.reader in
          let p' : Place = with_card p at q in
          let v : List ℕ = uid_bytes q.uid in
          let m : p.found < most_cards = omega (arith, long, ap length u, length-append (uids (cards_in p)) (v ∷ o.found)) in
          let d : Distinct (uids (cards_in p) ++ v ∷ o.found) = rw u apart in
          let z : is_listed q.uid (cards_in p) ≡ false = not_yet v (cards_in p) o.found d in
          let s : lists p at q ≡ T.goes p' = rw (lt-leb most_cards p.found m, z) in
          let k' : cards_in p' ≡ cards_in p ++ listed q ∷ [] = cards_more p at q (omega (arith, a.full)) in
          let c = ih p' (record { same_reader_law = refl; is_out = rw e tt; full = length-set p.cards p.found (listed q) ∙ a.full; few = omega arith; log = beyond_has w l p.at (sent_heard f x) F g.0 b; readable = g.1; ends_well = r; list = rw k' (uids_more (cards_in p) (listed q) o.found ∙ u) }) (omega arith) in
          rw (stepped (Finds n) e F g.0 b, s) (record { clean = c.clean; cards = c.cards ∙ ap (λ y. y ++ listing k t' cs') k' ∙ append_assoc (cards_in p) (listed q ∷ []) (listing k t' cs') ∙ rest (Finds n) e })
      go Selects e b g r u h ih = let z : ◌≡◌ {A = ℕ} 0 1 = cc in absurd (omega arith)
      go Finishes e b g r u h ih =
          let F : List ℕ → Type 0 = LogOf w [] in
          let at : ℕ = beyond w l p.at (sent_heard f x) F g.0 b in
          let s : ends l p at t'.reader ≡ T.content (onward p at t'.reader) = rw (le-ltb at (length l) (nothing_left l at (beyond_has w l p.at (sent_heard f x) F g.0 b))) in
          rw (stepped Finishes e F g.0 b, s) (record { clean = refl; cards = sym (append-nil (cards_in p)) ∙ rest Finishes e })
      go (Declines z) e b g r u h ih = let q : ◌≡◌ {A = ℕ} 0 1 = cc in absurd (omega arith)
