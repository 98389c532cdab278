-- Document 02, T-14: a level that is sent straight begins with 88, whatever the reader heard since its sweep began, and so a SAK with b3 clear is 9
-- there. Assumes nothing.
use Rattle.std.specs.Prelude.{◌≡◌, ℕ, zero, suc, ◌+◌, ◌-◌, ◌*◌, ◌≤◌, ◌<◌, Bool, cond, ◌&&◌, take, eqb, ltb, Result, Ok, Err}
use Rattle.std.proofs.Math.Path.{refl, sym, ap, ap₂}
use Rattle.std.proofs.Common.{◌∙◌, subst, not-suc-le-zero, arith, true≢false, length-drop, take-take, take_at}
use Rattle.std.proofs.Math.Bool.{true, false, not}
use mathlib.Core.List.{List, [], ◌∷◌, ◌++◌}
use Rattle.std.proofs.Math.ListN.{length, drop, get_or, length-append, length-take}
use Rattle.std.proofs.Math.Seq.{take_all, drop-append-le}
use borrow.Author.Tests.{ltb-true, ltb-false, eqb-true}
use Rattle.rows.specs.ListLaws.{all_drop}
use Rattle.rows.specs.Rows.{is_nil, clean}
use Rattle.frame.specs.ByteLaws.{bits_bytes_take, length_air_bits, length_bytes}
use Rattle.frame.specs.Frame.{air_bits, bytes_of}
use Rattle.uid.specs.Uid.{place}
use Rattle.selection.specs.Heard.{read_atqa, read_rest, rest_of, read_sak}
use Rattle.reader.specs.Reader as Plain
use Rattle.reader.specs.Reader.{uid, turn, blank, begin, stop, sends, finds, opens, completes, after_atqa, hear_atqa, after_rest, hear_rest, after_sak, b3, contradicts, sak_heard, hear_sak, hear_silence}
use Rattle.reader.specs.StepLaws.{drop_take, hear_at, place_most}
use Rattle.memory.specs.EnterLaws.{length_bits, bits_are, bits_take, bits_append}
use Rattle.memory.specs.LevelReadLaws.{is_good, Grown, grown}
use Rattle.memory.proofs.MemoryLaws.{learns}
use Rattle.memory.specs.Memory.{Recall, recall, bits, branch, known, marked, learnt, enters, higher, comes, stays, hear_in, hear}
use Rattle.memory.proofs.RefusalLaws.{straight_ends}
use Rattle.selection.specs.declared.Rest.{Rest}
use Rattle.selection.specs.declared.RestSays.{RestSays}
use Rattle.selection.specs.declared.RestSays.TheVariants.{Whole, Collided, NotRest}
use Rattle.uid.specs.declared.Level.{Level}
use Rattle.uid.specs.declared.Level.TheVariants.{One, Two, Three}
use Rattle.uid.specs.declared.Uid.{Uid}
use Rattle.refusal.specs.declared.Refusal.TheVariants.{Forbidden}
use Rattle.reader.specs.declared.Phase.{Phase}
use Rattle.reader.specs.declared.Phase.TheVariants.{New, ReqaSent, AnticollisionSent, SelectSent, HltaSent, Selected, Finished, Stopped, WupaSent, UidSelectSent}
use Rattle.reader.specs.declared.Reader.{Reader}
use Rattle.reader.specs.declared.Answer.TheVariants.{Finishes}
use Rattle.reader.specs.declared.Turn.{Turn}
use Rattle.refusal.specs.declared.Refusal.{Refusal}

-- ---- the first byte of a level of the path

unfoldable tag : ℕ → List ℕ → ℕ
tag j w = get_or (bytes_of 5 (take 40 (drop (40 * j) (bits w)))) 0 0

-- it depends on the path up to the level's end
tag_front : (j m : ℕ) (v w : List ℕ) → 40 * suc j ≤ m → take m v ≡ take m w → tag j v ≡ tag j w
unfolding tag
tag_front j m v w h e = ap (λ l. get_or (bytes_of 5 l) 0 0) (sym (front v) ∙ ap (λ l. take 40 (drop (40 * j) (bits l))) e ∙ front w)
  where
    front : (v : List ℕ) → take 40 (drop (40 * j) (bits (take m v))) ≡ take 40 (drop (40 * j) (bits v))
    front v = ap (λ l. take 40 (drop (40 * j) l)) (sym (bits_take m v)) ∙ ap (take 40) (drop_take (40 * j) m (bits v)) ∙ take-take 40 (m - 40 * j) (drop (40 * j) (bits v)) (omega arith)

-- every level with something behind it begins with 88
record Good (w : List ℕ) : Type 0 where
  pub tags : (j : ℕ) → 40 * suc j < length w → tag j w ≡ 0x88
  pub short : length w ≤ 120

-- the first n levels do
abbrev Tagged : ℕ → List ℕ → Type 0
Tagged n w = (j : ℕ) → j < n → tag j w ≡ 0x88

-- ---- what holds of reader and path, by the frame that is out

record Asks (l : Level) (r : Reader) (w : List ℕ) : Type 0 where
  pub five : length r.five ≡ 5
  pub few : r.known ≤ 40
  pub long : length w ≡ 40 * place l + r.known
  pub same : take r.known (air_bits r.five) ≡ drop (40 * place l) (bits w)
  pub tags : Tagged (place l) w

record Picks (l : Level) (r : Reader) (w : List ℕ) : Type 0 where
  pub first : get_or r.five 0 0 ≡ tag (place l) w
  pub long : 40 * suc (place l) ≤ length w
  pub tags : Tagged (place l) w
  pub good : Good w

abbrev Holds : Phase → Reader → List ℕ → Type 0
Holds New r w = Unit {0}
Holds ReqaSent r w = Good w
Holds (AnticollisionSent l) r w = Asks l r w
Holds (SelectSent l) r w = Picks l r w
Holds HltaSent r w = Good w
Holds Selected r w = Unit {0}
Holds Finished r w = Unit {0}
Holds Stopped r w = Unit {0}
Holds WupaSent r w = ⊥
Holds (UidSelectSent l) r w = ⊥

abbrev State : Turn → List ℕ → Type 0
State t w = Holds t.reader.phase t.reader w

abbrev After : Recall → Type 0
After m = State m.turn m.path

-- ---- a level comes next

enters_holds : (l : Level) (r : Reader) (w : List ℕ) → Good w → Tagged (place l) w → 40 * place l ≤ length w → State (enters l r w) w
unfolding enters sends known
enters_holds l r w g t h = go (ltb (length d) 40) refl
  where
    d : List ℕ
    d = take 40 (drop (40 * place l) (bits w))

    n : length d ≤ 40
    n = rw length-take (omega arith)

    rest : length (drop (40 * place l) (bits w)) ≡ length w - 40 * place l
    rest = rw (length-drop, length_bits)

    go : (b : Bool) → ltb (length d) 40 ≡ b → Holds (cond b (AnticollisionSent l) (SelectSent l)) (Plain.reader (cond b (AnticollisionSent l) (SelectSent l)) r.sweeps (bytes_of 5 d) (length d) r.uid 0) w
    go true e =
        let k : length d < 40 = ltb-true (length d) 40 e in
        let m : length (drop (40 * place l) (bits w)) < 40 = omega (arith, length-take 40 (drop (40 * place l) (bits w))) in
        let a : d ≡ drop (40 * place l) (bits w) = take_all 40 (drop (40 * place l) (bits w)) (omega arith) in
        record {
          five = length_bytes 5 d;
          few = n;
          long = omega (arith, rest, ap length a);
          same = bits_bytes_take 5 d (rw a (all_drop (λ x. x < 2) (40 * place l) (bits w) (bits_are w))) (omega arith) ∙ a;
          tags = t;
        }
    go false e = record { first = unfold tag in refl; long = omega (arith, ltb-false (length d) 40 e, rest, length-take 40 (drop (40 * place l) (bits w))); tags = t; good = g }

-- ---- after REQA: the newest branch is the path up to it

branch_front : (m : ℕ) (w : List ℕ) → m < length (branch w) → (take m (branch w) ≡ take m w) × (length (branch w) ≤ length w)
unfolding branch
branch_front m [] h = absurd (not-suc-le-zero h)
branch_front m (x ∷ w) h = go (clean w) (ltb 1 x) m h (λ n. branch_front n w)
  where
    go : (a b : Bool) (m : ℕ) → m < length (cond a (cond b (0 ∷ []) []) (x ∷ branch w)) → ((n : ℕ) → n < length (branch w) → (take n (branch w) ≡ take n w) × (length (branch w) ≤ length w))
        → (take m (cond a (cond b (0 ∷ []) []) (x ∷ branch w)) ≡ take m (x ∷ w)) × (length (cond a (cond b (0 ∷ []) []) (x ∷ branch w)) ≤ suc (length w))
    go true true zero h ih = (refl, omega arith)
    go true true (suc m) h ih = absurd (omega arith)
    go true false m h ih = absurd (not-suc-le-zero h)
    go false b zero h ih = (refl, none (branch w) (λ l. (ih 0 l).1))
      where
        none : (v : List ℕ) → (0 < length v → length v ≤ length w) → suc (length v) ≤ suc (length w)
        none [] k = omega arith
        none (y ∷ v) k = omega (arith, k (omega arith))
    go false b (suc m) h ih = let i = ih m (omega arith) in (ap (λ l. x ∷ l) i.0, omega (arith, i.1))

good_branch : (w : List ℕ) → Good w → Good (branch w)
good_branch w g = record {
  tags = λ j h.
      let f : (take (40 * suc j) (branch w) ≡ take (40 * suc j) w) × (length (branch w) ≤ length w) = branch_front (40 * suc j) w h in
      tag_front j (40 * suc j) (branch w) w (omega arith) f.0 ∙ g.tags j (omega (arith, f.1));
  short = least (branch w) (λ h. (branch_front 0 w h).1) g.short;
}
  where
    least : (v : List ℕ) → (0 < length v → length v ≤ length w) → length w ≤ 120 → length v ≤ 120
    least [] k h = omega arith
    least (x ∷ v) k h = omega (arith, k (omega arith))

atqa_step : (b : Bool) (a : Result Unit Refusal) (s : Bool) (v : List ℕ) → Good v → After (comes One (cond b (turn (blank Finished false) Finishes) (after_atqa s a)) v)
unfolding comes opens sends
atqa_step true a s v g = tt
atqa_step false (Ok tt) s v g = enters_holds One _ v g (λ j h. absurd (not-suc-le-zero h)) (omega arith)
atqa_step false (Err e) s v g = tt

-- ---- after ANTICOLLISION: the path grows

module _ (l : Level) (r : Reader) (w h : List ℕ) (a : Asks l r w) (g : Grown r.known r.five h) where
  K : List ℕ
  K = take r.known (air_bits r.five)

  S : RestSays
  S = cond g.c Whole Collided

  w' : List ℕ
  w' = w ++ marked S g.e

  known_long : length K ≡ r.known
  unfolding K
  known_long = rw (length-take, length_air_bits, a.five) (omega (arith, a.few))

  -- the path then, and the level in it
  grows : take (40 * place l + r.known) w ++ learnt r (rest_of S (K ++ g.e)) ≡ w'
  unfolding w' S K learnt rest_of
  grows = ap₂ ◌++◌ (take_all (40 * place l + r.known) w (omega (arith, a.long)))
      (ap (marked S) (ap (λ n. drop n (take (length (K ++ g.e)) (air_bits (bytes_of 5 (K ++ g.e))))) (sym known_long) ∙ learns K g.e g.bits g.fit))

  level_is : drop (40 * place l) (bits w') ≡ K ++ g.e
  unfolding w' S K
  level_is =
      ap (drop (40 * place l)) (bits_append w (marked S g.e))
      ∙ drop-append-le (40 * place l) (bits w) (bits (marked S g.e)) (rw length_bits (omega (arith, a.long)))
      ∙ ap₂ ◌++◌ (sym a.same) g.path

  long_is : length w' ≡ 40 * place l + length (K ++ g.e)
  unfolding w' S
  long_is = rw (length-append, length-append, known_long) (omega (arith, a.long, g.long_path))

  tags_are : Tagged (place l) w'
  unfolding w'
  tags_are j k = tag_front j (length w) w' w (omega (arith, a.long)) (take_at w (marked S g.e) (length w) refl ∙ sym (take_all (length w) w (omega arith))) ∙ a.tags j k

  asks_next : g.c ≡ false → Asks l (Plain.reader (AnticollisionSent l) r.sweeps (bytes_of 5 (K ++ g.e)) (length (K ++ g.e)) r.uid 0) w'
  unfolding K
  asks_next z = record {
    five = length_bytes 5 (K ++ g.e);
    few = g.fit;
    long = long_is;
    same = bits_bytes_take 5 (K ++ g.e) g.bits g.fit ∙ sym level_is;
    tags = tags_are;
  }

  picks_next : g.c ≡ true → Picks l (Plain.reader (SelectSent l) r.sweeps (bytes_of 5 (K ++ g.e)) (length (K ++ g.e)) r.uid 0) w'
  unfolding K tag
  picks_next z =
      let m : length (K ++ g.e) ≡ 40 = g.whole z in
      record {
        first = ap (λ d. get_or (bytes_of 5 d) 0 0) (sym (ap (take 40) level_is ∙ take_all 40 (K ++ g.e) (omega arith)));
        long = omega (arith, long_is, m);
        tags = tags_are;
        good = record { tags = λ j k. tags_are j (omega (arith, long_is, m)); short = omega (arith, long_is, m, place_most l) };
      }

  rest_step : After (stays (after_rest l r (rest_of S (K ++ g.e)) S) w')
  unfolding S stays rest_of sends
  rest_step = go g.c refl
    where
      go : (c : Bool) → g.c ≡ c → After (stays (after_rest l r (rest_of (cond c Whole Collided) (K ++ g.e)) (cond c Whole Collided)) w')
      go true z = picks_next z
      go false z = asks_next z

-- ---- after SELECT: the next level, or the card is found

module _ (l : Level) (r : Reader) (w : List ℕ) (p : Picks l r w) where
  more_step : (b : ℕ) → get_or r.five 0 0 ≡ 0x88 → After (comes (higher l) (after_sak l r b true) w)
  more_step b f = go l p
    where
      next : (l : Level) → Picks l r w → Tagged (suc (place l)) w
      next l p j h = both (ltb j (place l)) refl
        where
          both : (b : Bool) → ltb j (place l) ≡ b → tag j w ≡ 0x88
          both true e = p.tags j (ltb-true j (place l) e)
          both false e = let q : j ≡ place l = omega (arith, ltb-false j (place l) e) in ap (λ i. tag i w) q ∙ sym p.first ∙ f

      go : (l : Level) → Picks l r w → After (comes (higher l) (after_sak l r b true) w)
      go One p = unfold comes opens sends in enters_holds Two _ w p.good (next One p) p.long
      go Two p = unfold comes opens sends in enters_holds Three _ w p.good (next Two p) p.long
      go Three p = unfold comes in tt

  ends_step : (m : Level) (s : Bool) (u : Uid) (b : ℕ) → After (comes m (completes s u b) w)
  unfolding comes completes finds
  ends_step m true u b = p.good
  ends_step m false u b = tt

  last_step : (b : ℕ) → After (comes (higher l) (after_sak l r b false) w)
  last_step b = go l
    where
      go : (m : Level) → After (comes (higher m) (after_sak m r b false) w)
      go One = ends_step Two _ _ b
      go Two = ends_step Three _ _ b
      go Three = ends_step Three _ _ b

  fits_step : (b : ℕ) (m : Bool) → contradicts l m (get_or r.five 0 0) ≡ false → After (comes (higher l) (after_sak l r b m) w)
  fits_step b true c = more_step b (eqb-true (get_or r.five 0 0) 0x88 (not_not (eqb (get_or r.five 0 0) 0x88) (unfold contradicts in c)))
    where
      not_not : (b : Bool) → not b ≡ false → b ≡ true
      not_not true e = refl
      not_not false e = absurd (true≢false e)
  fits_step b false c = last_step b

  sak_step : (a : Result ℕ Refusal) → After (comes (higher l) (sak_heard l r a) w)
  sak_step (Ok b) = go (contradicts l (b3 b) (get_or r.five 0 0)) refl
    where
      go : (c : Bool) → contradicts l (b3 b) (get_or r.five 0 0) ≡ c → After (comes (higher l) (cond c (stop Forbidden) (after_sak l r b (b3 b))) w)
      go true e = unfold comes in tt
      go false e = fits_step b (b3 b) e
  sak_step (Err e) = unfold comes in tt

-- ---- every row

silence_step : (b : Bool) (w : List ℕ) → Good w → After (stays (cond b (sends (blank ReqaSent true)) (stop Forbidden)) w)
unfolding stays sends
silence_step true w g = g
silence_step false w g = tt

anti_step : (l : Level) (r : Reader) (w h : List ℕ) → Asks l r w
    → After (stays (hear_rest l r h) (take (40 * place l + r.known) w ++ learnt r (read_rest r.known r.five h)))
unfolding hear_rest rest_of K S w'
anti_step l r w h a = go (is_good (read_rest r.known r.five h).says) refl
  where
    refused : (x : Rest) (s : RestSays) (v : List ℕ) → is_good s ≡ false → After (stays (after_rest l r x s) v)
    refused x Whole v e = absurd (true≢false e)
    refused x Collided v e = absurd (true≢false e)
    refused x (NotRest q) v e = unfold stays in tt

    go : (b : Bool) → is_good (read_rest r.known r.five h).says ≡ b
        → After (stays (after_rest l r (read_rest r.known r.five h) (read_rest r.known r.five h).says) (take (40 * place l + r.known) w ++ learnt r (read_rest r.known r.five h)))
    go true e =
        let g : Grown r.known r.five h = grown r.known r.five h a.five a.few e in
        rw (g.is, grows l r w h a g) (rest_step l r w h a g)
    go false e =
        let x : Rest = read_rest r.known r.five h in
        refused x x.says (take (40 * place l + r.known) w ++ learnt r x) e

phase_step : (r : Reader) (w h : List ℕ) (p : Phase) → r.phase ≡ p → Holds p r w → After (hear_in p r w h)
unfolding hear_atqa hear_sak hear_silence
phase_step r w h New e s = rw (hear_at r h New e, e) tt
phase_step r w h ReqaSent e s = rw (hear_at r h ReqaSent e) (atqa_step (is_nil h && r.sweeps) (read_atqa h) r.sweeps (branch w) (good_branch w s))
phase_step r w h (AnticollisionSent l) e s = rw (hear_at r h (AnticollisionSent l) e) (anti_step l r w h s)
phase_step r w h (SelectSent l) e s = rw (hear_at r h (SelectSent l) e) (sak_step l r w s (read_sak h))
phase_step r w h HltaSent e s = rw (hear_at r h HltaSent e) (silence_step (is_nil h) w s)
phase_step r w h Selected e s = rw (hear_at r h Selected e, e) tt
phase_step r w h Finished e s = rw (hear_at r h Finished e, e) tt
phase_step r w h Stopped e s = rw (hear_at r h Stopped e, e) tt
phase_step r w h WupaSent e s = absurd s
phase_step r w h (UidSelectSent l) e s = absurd s

step_holds : (r : Reader) (w h : List ℕ) → Holds r.phase r w → After (hear r w h)
unfolding hear
step_holds r w h s = phase_step r w h r.phase refl s

-- reader and path after rows that were heard one after the other
unfoldable pub heard_all : List (List ℕ) → Recall → Recall
heard_all [] m = m
heard_all (h ∷ hs) m = heard_all hs (hear m.turn.reader m.path h)

all_hold : (hs : List (List ℕ)) (m : Recall) → After m → After (heard_all hs m)
unfolding heard_all
all_hold [] m a = a
all_hold (h ∷ hs) m a = all_hold hs (hear m.turn.reader m.path h) (step_holds m.turn.reader m.path h a)

-- the sweep has begun, the rows hs were heard, and SELECT of level l is out though the path goes on behind that level: a good SAK with b3 clear is 9
pub straight_nine : (hs : List (List ℕ)) (m : Recall) → m ≡ heard_all hs (recall (begin true) []) → (l : Level) → m.turn.reader.phase ≡ SelectSent l → 40 * suc (place l) < length m.path
    → (h : List ℕ) (b : ℕ) → read_sak h ≡ Ok b → b3 b ≡ false → hear m.turn.reader m.path h ≡ recall (stop Forbidden) []
unfolding sends
straight_nine hs m em l e k h b s clear =
    let a : After m = rw em (all_hold hs (recall (begin true) []) (record { tags = λ j z. absurd (not-suc-le-zero z); short = omega arith })) in
    let p : Picks l m.turn.reader m.path = subst (λ q. Holds q m.turn.reader m.path) e a in
    straight_ends l m.turn.reader m.path e (omega (arith, p.good.short)) (p.first ∙ p.good.tags (place l) k) h b s clear
