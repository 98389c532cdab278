-- Laws of collected lines. Assumes nothing.
use Rattle.std.specs.Prelude.{◌≡◌, refl, Bool, true, false, cond, List, [], ◌∷◌, ◌++◌, ℕ, ◌+◌, ◌≤◌, ◌<◌, length, take, drop, ltb}
use Rattle.std.proofs.Common.{sym, ap, ◌∙◌, append_assoc, append-nil, zero-add, arith, length-append, length-drop, take-append-drop, length-take-le, lt-ltb, le-ltb, ne_eqb}
use Rattle.rows.specs.Rows.{overlay, All}
use Rattle.rows.specs.ListLaws.{all_take_law, all_drop}
use Rattle.rows.proofs.RowLaws.{length_overlay, overlay_nil, overlay_next}
use Rattle.bench.specs.declared.Line.{Line}
use Rattle.bench.specs.Lines.{no_line, fed, fed_bytes, fed_all, fed_all_bytes}

-- no line feed
abbrev pub Letters : List ℕ → Type 0
Letters l = All (λ b. b ≡ 10 → ⊥) l

abbrev collected : ℕ → Line
collected n = record { length = n; overlong = false; complete = false }

step_bytes : (d p : List ℕ) (b : ℕ) → (b ≡ 10 → ⊥) → length p < length d
    → fed_bytes (overlay d 0 p) (collected (length p)) b ≡ overlay d 0 (p ++ (b ∷ []))
unfolding fed_bytes
step_bytes d p b h k =
    let e : length (overlay d 0 p) ≡ length d = length_overlay d 0 p (omega arith) in
    simp (ne_eqb b 10 h, e, lt-ltb (length p) (length d) k) (rw zero-add at (overlay_next d 0 p (b ∷ []) (omega arith)))

step_line : (d p : List ℕ) (b : ℕ) → (b ≡ 10 → ⊥) → length p < length d
    → fed (length (overlay d 0 p)) (collected (length p)) b ≡ collected (length (p ++ (b ∷ [])))
unfolding fed
step_line d p b h k =
    let e : length (overlay d 0 p) ≡ length d = length_overlay d 0 p (omega arith) in
    simp (ne_eqb b 10 h, e, lt-ltb (length p) (length d) k, length-append)

-- p is collected already: the bytes behind it are collected too, as long as there is room
line_from : (d p l : List ℕ) → Letters l → length p + length l ≤ length d
    → (fed_all (overlay d 0 p) (collected (length p)) l ≡ collected (length (p ++ l)))
    × (fed_all_bytes (overlay d 0 p) (collected (length p)) l ≡ overlay d 0 (p ++ l))
unfolding fed_all fed_all_bytes
line_from d p [] h k = (rw append-nil, rw append-nil)
line_from d p (b ∷ l) h k =
    let e : length (p ++ (b ∷ [])) ≡ length p + 1 = simp length-append in
    let ih = line_from d (p ++ (b ∷ [])) l h.1 (omega arith) in
    let u = step_bytes d p b h.0 (omega arith) in
    let v = step_line d p b h.0 (omega arith) in
    (rw (u, v) (rw append_assoc at ih.0), rw (u, v) (rw append_assoc at ih.1))

-- a line for which there is room is collected whole
pub line_collected : (d l : List ℕ) → Letters l → length l ≤ length d
    → (fed_all d no_line l ≡ record { length = length l; overlong = false; complete = false }) × (fed_all_bytes d no_line l ≡ overlay d 0 l)
line_collected d l h k = rw (overlay_nil d 0) at (line_from d [] l h (rw zero-add k))

-- ---- a line for which there is no room is overlong

over_step : (room : ℕ) (s : Line) (b : ℕ) → (b ≡ 10 → ⊥) → s.overlong ≡ true → (fed room s b).overlong ≡ true
unfolding fed
over_step room s b h o = rw (ne_eqb b 10 h) (go (ltb s.length room))
  where
    go : (t : Bool)
        → (cond {A = Line} t (record { length = s.length + 1; overlong = s.overlong; complete = false })
        (record { length = s.length; overlong = true; complete = false })).overlong
        ≡ true
    go true = o
    go false = refl

over_stays : (d : List ℕ) (s : Line) (l : List ℕ) → Letters l → s.overlong ≡ true → (fed_all d s l).overlong ≡ true
unfolding fed_all
over_stays d s [] h o = o
over_stays d s (b ∷ l) h o = over_stays (fed_bytes d s b) (fed (length d) s b) l h.1 (over_step (length d) s b h.0 o)

over_full : (d : List ℕ) (s : Line) (l : List ℕ) → Letters l → s.length ≡ length d → 0 < length l → (fed_all d s l).overlong ≡ true
unfolding fed_all fed
over_full d s [] h e k = absurd (omega arith)
over_full d s (b ∷ l) h e k =
    let o : (fed (length d) s b).overlong ≡ true = rw (ne_eqb b 10 h.0, le-ltb s.length (length d) (omega arith)) in
    over_stays (fed_bytes d s b) (fed (length d) s b) l h.1 o

fed_append : (d : List ℕ) (s : Line) (p q : List ℕ) → fed_all d s (p ++ q) ≡ fed_all (fed_all_bytes d s p) (fed_all d s p) q
unfolding fed_all fed_all_bytes
fed_append d s [] q = refl
fed_append d s (b ∷ p) q = fed_append (fed_bytes d s b) (fed (length d) s b) p q

pub line_overlong : (d l : List ℕ) → Letters l → length d < length l → (fed_all d no_line l).overlong ≡ true
line_overlong d l h k =
    let n : ℕ = length d in
    let e : length (take n l) ≡ n = length-take-le n l (omega arith) in
    let f = line_collected d (take n l) (all_take_law (λ b. b ≡ 10 → ⊥) n l h) (omega arith) in
    let m : length (fed_all_bytes d no_line (take n l)) ≡ n = ap length f.1 ∙ length_overlay d 0 (take n l) (omega arith) in
    rw (← take-append-drop n l, fed_append d no_line (take n l) (drop n l))
    (over_full (fed_all_bytes d no_line (take n l)) (fed_all d no_line (take n l)) (drop n l) (all_drop (λ b. b ≡ 10 → ⊥) n l h)
    (rw f.0 (e ∙ sym m)) (rw length-drop (omega arith)))
