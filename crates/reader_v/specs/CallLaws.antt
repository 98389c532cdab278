-- Laws of the arguments of the reader's calls. Assumes nothing.
use Rattle.std.specs.Prelude.{◌≡◌, ℕ, ◌≤◌, true, ◌||◌, leb, eqb}
use Rattle.std.proofs.Common.{leb-true}
use Rattle.request_v.specs.Inventory.{most_mask}
use Rattle.request_v.proofs.RequestLaws.{mask_64}
use Rattle.rows.specs.ListLaws.{both}
use Rattle.reader_v.specs.CallsV.{is_count, is_round}

pub count_least : (count : ℕ) → is_count count ≡ true → 1 ≤ count
unfolding is_count
count_least count e = leb-true 1 count (both (leb 1 count) (leb count 256) e).0

pub round_fits : (slots len : ℕ) → is_round slots len ≡ true → len ≤ 64
unfolding is_round
round_fits slots len e = mask_64 (eqb slots 1) len (leb-true len (most_mask (eqb slots 1)) (both (eqb slots 1 || eqb slots 16) (leb len (most_mask (eqb slots 1))) e).1)
