-- Laws of the found list: its entries, and how one is added. Assumes nothing.
use Rattle.std.specs.Prelude.{◌≡◌, refl, ℕ, suc, ◌*◌, ◌≤◌, List, [], ◌∷◌, length}
use Rattle.std.proofs.Common.{sym, ap, arith, append-nil, length-take}
use Rattle.rows.specs.Rows.{overlay}
use Rattle.rows.proofs.RowLaws.{overlay_nil}
use Rattle.rows.specs.EachLaws.{length_fill}
use Rattle.uid.specs.Uid.{uid_bytes}
use Rattle.uid.specs.declared.Uid.{Uid}
use Rattle.air_log.specs.Log.{list_bytes, entry_bytes}
use Rattle.reader.specs.declared.Answer.{Answer}
use Rattle.reader.specs.declared.Answer.TheVariants.{Sends, Finds, Selects, Finishes, Declines}
use Rattle.sweep_steps.specs.Steps.{found_in}

-- the found list grows by the UIDs us: their number, the list afterwards, and the bytes that they take
abbrev pub Grows : List (List ℕ) → ℕ → List ℕ → ℕ → List ℕ → Type 0
Grows us n list at list' = (n ≡ length us) × ((list' ≡ overlay list at (list_bytes us)) × (length (list_bytes us) ≡ 11 * length us))

pub found_none : (a : Answer) (u : List ℕ) → ((n : ℕ) → a ≡ Finds n → ⊥) → found_in a u ≡ []
found_none (Sends n) u h = refl
found_none (Finds n) u h = absurd (h n refl)
found_none Selects u h = refl
found_none Finishes u h = refl
found_none (Declines e) u h = refl

pub grows_none : (us : List (List ℕ)) (list : List ℕ) (at : ℕ) → us ≡ [] → Grows us 0 list at list
unfolding list_bytes
grows_none us list at e = rw e (refl, (sym (overlay_nil list at), refl))

length_uid : (u : Uid) → length u.bytes ≡ 10 → length (uid_bytes u) ≤ 10
unfolding uid_bytes
length_uid u l = rw length-take (omega arith)

length_entry : (u : Uid) → length u.bytes ≡ 10 → length (entry_bytes (uid_bytes u)) ≡ 11
unfolding entry_bytes
length_entry u l = ap suc (length_fill 10 (uid_bytes u) (length_uid u l))

pub grows_one : (us : List (List ℕ)) (u : Uid) (list : List ℕ) (at : ℕ) (list' : List ℕ) → us ≡ uid_bytes u ∷ [] → length u.bytes ≡ 10
    → list' ≡ overlay list at (entry_bytes (uid_bytes u)) → Grows us 1 list at list'
unfolding list_bytes
grows_one us u list at list' e l o = rw (e, append-nil) (refl, (o, length_entry u l))
