-- Laws for the code that builds a row and compares with it. Assumes nothing.
use Rattle.std.specs.Prelude.{◌≡◌, ℕ, ◌+◌, ◌-◌, ◌*◌, ◌≤◌, List, [], ◌∷◌, ◌++◌, length, take, drop, get_or, replicate, None}
use Rattle.std.proofs.Math.Path.{refl}
use Rattle.std.proofs.Common.{sym, ap, ◌∙◌, true≢false, append_assoc, append-nil, length-append, length-drop, take_all, arith}
use Rattle.std.proofs.Math.Bool.{false}
use Rattle.std.proofs.lemmas.List.{length-replicate}
use Rattle.rows.specs.ListLaws.{same_ne}
use Rattle.rows.proofs.RowLaws.{overlay_all, overlay_next}
use Rattle.rows.specs.Rows.{overlay, clean}
use Rattle.frame.specs.ByteLaws.{length_bytes}
use Rattle.frame.specs.Frame.{bytes_of}
use Rattle.frame_b.specs.FrameB.{frame_b}
use Rattle.frame_b.specs.FrameBLaws.{length_frame, clean_frame}
use Rattle.selection_b.specs.TypeB.{attrib}
use Rattle.selection_b.specs.TakenB.{is_request, request_read, is_attrib}
use Rattle.selection_b.proofs.TypeBLaws.{not_request}

-- a frame written over a row of its length is the frame
pub framed : (n : ℕ) (l row : List ℕ) → n ≡ 8 * (length l + 2) → row ≡ overlay (replicate n 0) 0 (frame_b l) → row ≡ frame_b l
framed n l row h e = e ∙ overlay_all (replicate n 0) (frame_b l) (rw (length-replicate, length_frame) h)

-- bytes put together: a first byte and the parts behind it
module _ (b : ℕ) (u : List ℕ) (hu : length u ≡ 4) where
  pub joined : (d : List ℕ) → d ≡ overlay (replicate 5 b) 1 u → d ≡ b ∷ u
  unfolding overlay
  joined d e = e ∙ rw hu (ap (λ r. b ∷ r) (append-nil u))

  module _ (v : List ℕ) (hv : length v ≡ 4) where
    put_two : (n : ℕ) (d₁ d₂ : List ℕ) → 9 ≤ n → d₁ ≡ overlay (replicate n b) 1 u → d₂ ≡ overlay d₁ 5 v → d₂ ≡ overlay (replicate n b) 1 (u ++ v)
    put_two n d₁ d₂ m e₁ e₂ =
        let z : 5 ≡ 1 + length u = omega arith in
        e₂ ∙ rw (e₁, z) (overlay_next (replicate n b) 1 u v (rw length-replicate (omega arith)))

    pub joined_two : (d₁ d₂ : List ℕ) → d₁ ≡ overlay (replicate 9 b) 1 u → d₂ ≡ overlay d₁ 5 v → d₂ ≡ b ∷ (u ++ v)
    joined_two d₁ d₂ e₁ e₂ = put_two 9 d₁ d₂ (omega arith) e₁ e₂ ∙ (unfold overlay in rw (length-append, hu, hv) (ap (λ r. b ∷ r) (append-nil (u ++ v))))

    pub joined_three : (w : List ℕ) → length w ≡ 3 → (d₁ d₂ d₃ : List ℕ) → d₁ ≡ overlay (replicate 12 b) 1 u → d₂ ≡ overlay d₁ 5 v → d₃ ≡ overlay d₂ 9 w → d₃ ≡ b ∷ (u ++ (v ++ w))
    joined_three w hw d₁ d₂ d₃ e₁ e₂ e₃ =
        let z : 9 ≡ 1 + length (u ++ v) = rw length-append (omega arith) in
        let p : overlay d₂ 9 w ≡ overlay (replicate 12 b) 1 (u ++ v ++ w) =
        rw (put_two 12 d₁ d₂ (omega arith) e₁ e₂, z) (overlay_next (replicate 12 b) 1 (u ++ v) w (rw (length-append, length-replicate) (omega arith))) in
        e₃ ∙ p ∙ all_of_it (u ++ v ++ w) (rw (length-append, length-append) (omega arith)) ∙ ap (λ r. b ∷ r) (append_assoc u v w)
      where
        all_of_it : (r : List ℕ) → length r ≡ 11 → overlay (replicate 12 b) 1 r ≡ b ∷ r
        all_of_it r n = unfold overlay in rw n (ap (λ r. b ∷ r) (append-nil r))

-- ---- what a card reads

pub not_clean : (f : List ℕ) → clean f ≡ false → is_request f ≡ false
not_clean f e = not_request f (λ q. true≢false (sym (clean_frame _) ∙ ap clean (sym q) ∙ e))

-- what is no request
pub unread : (f : List ℕ) → is_request f ≡ false → None ≡ request_read f
unfolding request_read
unread f e = rw e

-- ---- ATTRIB

pub attrib_clean : (p f : List ℕ) → clean f ≡ false → is_attrib p f ≡ false
unfolding is_attrib attrib
attrib_clean p f e = same_ne f _ (λ q. true≢false (sym (clean_frame _) ∙ ap clean (sym q) ∙ e))

-- its parameters, read from the part behind the PUPI
pub parameters_are : (f q : List ℕ) → length f ≡ 88 → q ≡ overlay (replicate 4 0) 0 (bytes_of 4 (take (length f - 40) (drop 40 f))) → q ≡ bytes_of 4 (drop 40 f)
parameters_are f q n e =
    let t : take (length f - 40) (drop 40 f) ≡ drop 40 f = take_all (length f - 40) (drop 40 f) (rw length-drop (omega arith)) in
    e ∙ overlay_all (replicate 4 0) _ (sym (length_bytes 4 _)) ∙ ap (bytes_of 4) t

-- ---- PUPI in an ATQB

pub pupi_of : (l : List ℕ) → 5 ≤ length l → get_or l 1 0 ∷ get_or l 2 0 ∷ get_or l 3 0 ∷ get_or l 4 0 ∷ [] ≡ take 4 (drop 1 l)
pupi_of [] h = absurd (omega arith)
pupi_of (a ∷ []) h = absurd (omega arith)
pupi_of (a ∷ b ∷ []) h = absurd (omega arith)
pupi_of (a ∷ b ∷ c ∷ []) h = absurd (omega arith)
pupi_of (a ∷ b ∷ c ∷ d ∷ []) h = absurd (omega arith)
pupi_of (a ∷ b ∷ c ∷ d ∷ e ∷ l) h = refl
