-- Every deed of a request is safe: it names only blocks that are there. Assumes nothing.
use Rattle.std.proofs.Math.Path.{◌≡◌, refl}
use Rattle.std.proofs.Common.{ap, ◌∙◌, arith}
use Prim.Native.Nat.{ℕ, ◌+◌, ◌-◌, ◌*◌, ◌≤◌, ◌<◌}
use Rattle.std.specs.Prelude.{Bool, cond, ◌&&◌, ◌||◌, List, eqb, leb}
use Rattle.std.proofs.Math.Bool.{true, false, not}
use borrow.Author.Tests.{eqb-true, not-false}
use Rattle.rows.specs.ListLaws.{both}
use Rattle.frame_b.specs.FrameB.{byte_at}
use Rattle.frame_v.specs.FrameV.{bytes_in, sound}
use Rattle.frame_v.specs.FrameVLaws.{sound_is}
use Rattle.request_v.specs.Flags.{flags_of, formed, is_off, listens, is_selected}
use Rattle.request_v.specs.Inventory.{length_at, is_inventory, admitted, matching, slot_of, turn_in, inventory_deed}
use Rattle.request_v.specs.Request.{is_command, is_read, count_of, length_due, absent, any_locked, lock_error, option_error, error_of, fails_with, done_of, command_deed, meant, is_bare, parameters_at, lone_select, asked_deed, own_deed, other_deed, request_deed, deed_by, deed_of}
use Rattle.request_v.proofs.RequestLaws.{not_absent, meant_long}
use Rattle.request_v.specs.declared.Tag.{Tag}
use Rattle.request_v.specs.declared.Flags.{Flags}
use Rattle.request_v.specs.declared.Deed.{Deed}
use Rattle.request_v.specs.declared.Deed.TheVariants.{Nothing, Quiets, Drops, Tells, Waits, Fails}
use Rattle.tag.specs.Safe.{Safe}

-- ---- no error

cond_zero : (b : Bool) (e r : ℕ) → 0 < e → cond b e r ≡ 0 → (b ≡ false) × (r ≡ 0)
cond_zero true e r h z = absurd (omega arith)
cond_zero false e r h z = (refl, z)

module _ (t : Tag) (q : Flags) (locks : List ℕ) (code m a b : ℕ) (e : error_of t q locks code m a b ≡ 0) where
  behind_length : ℕ
  behind_length = cond (absent t.blocks a (count_of code b)) 0x10 (cond (eqb (lock_error code (any_locked locks a (count_of code b))) 0) (option_error q code) (lock_error code (any_locked locks a (count_of code b))))

  right_length : (m ≡ length_due t.size code b) × (behind_length ≡ 0)
  unfolding error_of behind_length
  right_length =
      let x = cond_zero (not (is_command code)) 0x01 (cond (not (eqb m (length_due t.size code b))) 0x02 behind_length) (omega arith) e in
      let y = cond_zero (not (eqb m (length_due t.size code b))) 0x02 behind_length (omega arith) x.1 in
      (eqb-true m (length_due t.size code b) (not-false (eqb m (length_due t.size code b)) y.0), y.1)

  present : 0 < count_of code b → a + count_of code b ≤ t.blocks
  unfolding behind_length
  present h = not_absent t.blocks a (count_of code b) (cond_zero (absent t.blocks a (count_of code b)) 0x10 _ (omega arith) right_length.1).0 h

-- ---- a command without error

module _ (t : Tag) (f : List ℕ) where
  safe_cond : (b : Bool) (x y : Deed) → (b ≡ true → Safe t f x) → (b ≡ false → Safe t f y) → Safe t f (cond b x y)
  safe_cond true x y h k = h refl
  safe_cond false x y h k = k refl

  module _ (q : Flags) (locks : List ℕ) (code p m a b : ℕ) (s : sound f ≡ true) (n : p + m ≡ bytes_in f) (e : error_of t q locks code m a b ≡ 0) where
    count_is : (k : ℕ) → code ≡ k → count_of code b ≡ count_of k b
    count_is k h = ap (λ x. count_of x b) h

    due_is : (k : ℕ) → code ≡ k → m ≡ length_due t.size k b
    due_is k h = (right_length t q locks code m a b e).0 ∙ ap (λ x. length_due t.size x b) h

    here : (k : ℕ) → code ≡ k → 0 < count_of k b → a + count_of k b ≤ t.blocks
    here k h z = rw (count_is k h) at (present t q locks code m a b e (rw (count_is k h) z))

    read_safe : (b1 b2 : Bool) → eqb code 0x20 ≡ b1 → eqb code 0x23 ≡ b2 → (b1 || b2) ≡ true → a + count_of code b ≤ t.blocks
    unfolding count_of
    read_safe true b2 h k z = let c = eqb-true code 0x20 h in rw c (here 0x20 c (omega arith))
    read_safe false true h k z = let c = eqb-true code 0x23 k in rw c (here 0x23 c (omega arith))
    read_safe false false h k z = absurd (let w : ◌≡◌ {A = ℕ} 0 1 = cc in omega arith)

    done_safe : Safe t f (done_of q code p a b)
    unfolding done_of count_of length_due
    done_safe =
        safe_cond (is_read code) _ _ (λ h. read_safe _ _ refl refl h) (λ _.
        safe_cond (eqb code 0x21) _ _ (λ h. let c = eqb-true code 0x21 h in (here 0x21 c (omega arith), omega (arith, due_is 0x21 c), s)) (λ _.
        safe_cond (eqb code 0x24) _ _ (λ h. let c = eqb-true code 0x24 h in (rw c (here 0x24 c (omega arith)), rw c (omega (arith, due_is 0x24 c)), s)) (λ _.
        safe_cond (eqb code 0x22) _ _ (λ h. let c = eqb-true code 0x22 h in omega (arith, here 0x22 c (omega arith))) (λ _.
        safe_cond (eqb code 0x25) _ _ (λ _. tt) (λ _. tt)))))

  fails_safe : (q : Flags) (e : ℕ) → Safe t f (fails_with q e)
  unfolding fails_with
  fails_safe q e = safe_cond (leb e 0x02 && not (q.fifth || q.sixth)) Nothing (Fails e) (λ _. tt) (λ _. tt)

  command_safe : (q : Flags) (locks : List ℕ) (code p m a b : ℕ) → sound f ≡ true → p + m ≡ bytes_in f → Safe t f (command_deed t q locks code p m a b)
  unfolding command_deed
  command_safe q locks code p m a b s n =
      let e : ℕ = error_of t q locks code m a b in
      safe_cond (eqb e 0) (done_of q code p a b) (fails_with q e) (λ h. done_safe q locks code p m a b s n (eqb-true e 0 h)) (λ _. fails_safe q e)

  -- ---- requests

  asked_safe : (q : Flags) (locks : List ℕ) (code : ℕ) → sound f ≡ true → parameters_at q ≤ bytes_in f → Safe t f (asked_deed t q locks code f)
  unfolding asked_deed
  asked_safe q locks code s h = command_safe q locks code (parameters_at q) (bytes_in f - parameters_at q) (byte_at (parameters_at q) f) (byte_at (parameters_at q + 1) f) s (omega arith)

  own_safe : (q : Flags) (locks : List ℕ) → sound f ≡ true → parameters_at q ≤ bytes_in f → Safe t f (own_deed t q locks f)
  unfolding own_deed
  own_safe q locks s h =
      safe_cond (eqb (byte_at 1 f) 0x01) _ _ (λ _. tt) (λ _.
      safe_cond (eqb (byte_at 1 f) 0x02) _ _ (λ _. safe_cond (is_bare q (bytes_in f)) Quiets Nothing (λ _. tt) (λ _. tt)) (λ _.
      safe_cond (lone_select (byte_at 1 f) q.sixth) _ _ (λ _. tt) (λ _. asked_safe q locks (byte_at 1 f) s h)))

  other_safe : (q : Flags) → Safe t f (other_deed t q f)
  unfolding other_deed
  other_safe q = safe_cond (is_selected t.state && (eqb (byte_at 1 f) 0x25 && is_bare q (bytes_in f))) Drops Nothing (λ _. tt) (λ _. tt)

  request_safe : (q : Flags) (locks : List ℕ) → sound f ≡ true → Safe t f (request_deed t q locks f)
  unfolding request_deed
  request_safe q locks s =
      safe_cond (meant t q f) (own_deed t q locks f) (other_deed t q f) (λ h. own_safe q locks s (meant_long t q f (omega (arith, (sound_is f s).long)) h)) (λ _. other_safe q)

  inventory_safe : (q : Flags) → Safe t f (inventory_deed t q f)
  unfolding inventory_deed
  inventory_safe q =
      let len : ℕ = byte_at (length_at q) f in
      safe_cond (listens t.state && (is_inventory q (byte_at 1 f) (bytes_in f) len && (admitted t q (byte_at 2 f) && matching t.uid f (8 * (length_at q + 1)) len)))
      (turn_in q.sixth (slot_of t.uid len)) Nothing
      (λ _. safe_cond q.sixth Tells _ (λ _. tt) (λ _. safe_cond (eqb (slot_of t.uid len) 0) Tells (Waits (slot_of t.uid len)) (λ _. tt) (λ _. tt))) (λ _. tt)

  by_safe : (q : Flags) (locks : List ℕ) → Safe t f (deed_by t q locks f)
  unfolding deed_by
  by_safe q locks =
      safe_cond (not (is_off t.state) && (sound f && formed q)) (cond q.inventory (inventory_deed t q f) (request_deed t q locks f)) Nothing
      (λ h. safe_cond q.inventory (inventory_deed t q f) (request_deed t q locks f) (λ _. inventory_safe q)
      (λ _. request_safe q locks (both (sound f) (formed q) (both (not (is_off t.state)) (sound f && formed q) h).1).0)) (λ _. tt)

  pub deed_safe : (locks : List ℕ) → Safe t f (deed_of t locks f)
  unfolding deed_of
  deed_safe locks = by_safe (flags_of (byte_at 0 f)) locks
