-- What is heard from a field has 0, 1 and, where answers collide, 2. Such a row is known from what its record shows. Assumes nothing.
use Rattle.std.specs.Prelude.{◌≡◌, refl, ℕ, zero, suc, ◌<◌, Bool, true, false, cond, ◌&&◌, ◌||◌, List, [], ◌∷◌, eqb, ltb, length, get_or}
use Rattle.std.proofs.Common.{ap, arith}
use Rattle.rows.specs.ListLaws.{all_drop}
use Rattle.rows.specs.EachLaws.{all_weaken}
use Rattle.rows.specs.Rows.{All, Bits, same}
use Rattle.frame.specs.Frame.{standard}
use Rattle.frame.proofs.FrameLaws.{bits_standard}
use Rattle.uid.specs.Uid.{place, levels}
use Rattle.selection.specs.Selection.{cut, reqa, wupa, hlta, select, others, sak_frame, atqa, rats, ats, at_most8}
use Rattle.card.specs.Card.{Step, bits_sent, fsdi, sak, home, ready_in, chosen, matching, rules, ready, ready_at, active, answers}
use Rattle.field.specs.Field.{heard_from}
use Rattle.field.specs.Merge.{meet, join, merge}
use Rattle.air_log.specs.Log.{plain, marks}
use Rattle.card.specs.declared.Card.{Card}
use Rattle.card.specs.declared.CardState.{CardState}
use Rattle.card.specs.declared.CardState.TheVariants.{Off, Idle, Ready, Active, Halt, ReadyStar, ActiveStar, Protocol}
use Rattle.uid.specs.declared.Level.{Level}
use Rattle.uid.specs.declared.Level.TheVariants.{One}
use Rattle.uid.specs.declared.UidSize.{UidSize}
use Rattle.trace_rules.specs.Trace.{marked}

-- ---- a card's answer is bits

others_bits : (k : ℕ) (five : List ℕ) → Bits (others k five)
unfolding others
others_bits k five = all_drop (λ x. x < 2) (cut k) (standard five) (bits_standard five)

sak_bits : (b : ℕ) → Bits (sak_frame b)
unfolding sak_frame
sak_bits b = bits_standard _

atqa_bits : (z : UidSize) → Bits (atqa z)
unfolding atqa
atqa_bits z = bits_standard _

ats_bits : (i : ℕ) → Bits (ats i)
unfolding ats
ats_bits i = bits_standard _

ready_bits : (c : Card) (woken : Bool) (l : Level) (five f : List ℕ) → Bits (ready c woken l five f).1
unfolding ready
ready_bits c woken l five f = go (matching l five f) (same f (select l five))
  where
    go : (a b : Bool) → Bits (cond {A = Step} a (ready_in woken l, others (bits_sent f) five) (cond b (chosen c woken l, sak_frame (sak c l)) (home woken, []))).1
    go true b = others_bits (bits_sent f) five
    go false true = sak_bits (sak c l)
    go false false = tt

ready_at_bits : (c : Card) (woken : Bool) (l : Level) (f : List ℕ) → Bits (ready_at c woken l f).1
ready_at_bits c woken l f = go (ltb (place l) (length (levels c.uid)))
  where
    go : (a : Bool) → Bits (cond {A = Step} a (ready c woken l (get_or (levels c.uid) (place l) []) f) (home woken, [])).1
    go true = ready_bits c woken l (get_or (levels c.uid) (place l) []) f
    go false = tt

active_bits : (c : Card) (woken : Bool) (f : List ℕ) → Bits (active c woken f).1
active_bits c woken f = go (same f hlta) (c.blocks && same f (rats (fsdi f)))
  where
    go : (a b : Bool) → Bits (cond {A = Step} a (Halt, []) (cond b (Protocol (at_most8 (fsdi f)), ats (at_most8 c.index)) (home woken, []))).1
    go true b = tt
    go false true = ats_bits (at_most8 c.index)
    go false false = tt

woken_bits : (c : Card) (s t : CardState) (a : Bool) → Bits (cond {A = Step} a (s, atqa c.uid.size) (t, [])).1
woken_bits c s t true = atqa_bits c.uid.size
woken_bits c s t false = tt

rules_bits : (c : Card) (s : CardState) (f : List ℕ) → Bits (rules c s f).1
unfolding rules
rules_bits c Off f = tt
rules_bits c Idle f = woken_bits c (Ready One) Idle (same f reqa || same f wupa)
rules_bits c (Ready l) f = ready_at_bits c false l f
rules_bits c Active f = active_bits c false f
rules_bits c Halt f = woken_bits c (ReadyStar One) Halt (same f wupa)
rules_bits c (ReadyStar l) f = ready_at_bits c true l f
rules_bits c ActiveStar f = active_bits c true f
rules_bits c (Protocol i) f = tt

-- ---- together

abbrev pub Three : List ℕ → Type 0
Three h = All (λ x. x < 3) h

meet_three : (x y : ℕ) → x < 3 → meet x y < 3
unfolding meet
meet_three x y h = go (eqb x y)
  where
    go : (b : Bool) → cond b x 2 < 3
    go true = h
    go false = omega arith

join_three : (r s : List ℕ) → Three r → Three s → Three (join r s)
unfolding join
join_three [] s p q = q
join_three (x ∷ r) [] p q = p
join_three (x ∷ r) (y ∷ s) p q = (meet_three x y p.0, join_three r s p.1 q.1)

pub heard_three : (f : List ℕ) (cs : List Card) → Three (heard_from f cs)
unfolding heard_from merge answers
heard_three f [] = tt
heard_three f (c ∷ cs) = join_three _ _ (all_weaken (rules c c.state f).1 (λ x h. omega arith) (rules_bits c c.state f)) (heard_three f cs)

-- ---- a row from its record

pub marked_back : (h : List ℕ) → Three h → marked (plain h) (marks h) ≡ h
unfolding marked plain marks
marked_back [] p = refl
marked_back (zero ∷ h) p = ap (λ s. 0 ∷ s) (marked_back h p.1)
marked_back (suc zero ∷ h) p = ap (λ s. 1 ∷ s) (marked_back h p.1)
marked_back (suc (suc zero) ∷ h) p = ap (λ s. 2 ∷ s) (marked_back h p.1)
marked_back (suc (suc (suc x)) ∷ h) p = absurd (omega (arith, p.0))
