-- Document 02, T-10, of the claim: the sweep "lists every ready tag that the AFI admits, each once and no other". UIDs are counted: with different UIDs each of
-- those tags counts once, and every other UID not at all.
use Rattle.std.specs.Prelude.{ℕ, ◌+◌, cond, List, [], ◌∷◌, ◌++◌}
use Rattle.rows.specs.Rows.{same}
use Rattle.selection_b.specs.declared.Held.{Held}
use Rattle.selection_b.specs.declared.Held.TheVariants.{None, One, More}
use Rattle.sent_v.specs.declared.Round.{Round}
use Rattle.request_v.specs.declared.Tag.{Tag}
use Rattle.inventory_rules.specs.RunV.{Told}
use Rattle.inventory_rules.specs.Claim.{takes_part}

-- the UID that a slot tells
abbrev pub found_of : Held → List ℕ → List (List ℕ)
found_of None u = []
found_of One u = u ∷ []
found_of More u = []

-- .. that slots tell, in order
unfoldable pub found_in : List Told → List (List ℕ)
found_in [] = []
found_in (x ∷ l) = found_of x.held x.uid ++ found_in l

-- how often a UID is there
unfoldable pub count : List ℕ → List (List ℕ) → ℕ
count u [] = 0
count u (x ∷ l) = cond (same u x) 1 0 + count u l

-- the tags that take part in a round: with no mask, the ready ones that the AFI admits
unfoldable pub part_of : Round → List Tag → List Tag
part_of k [] = []
part_of k (t ∷ ts) = cond (takes_part k t) (t ∷ part_of k ts) (part_of k ts)

unfoldable pub uids_of : List Tag → List (List ℕ)
uids_of [] = []
uids_of (t ∷ ts) = t.uid ∷ uids_of ts
