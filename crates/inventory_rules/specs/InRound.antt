-- A tag in a round: how many EOFs it still waits for. Named by the laws only.
use Rattle.std.specs.Prelude.{ℕ, ◌-◌, cond, eqb}
use Rattle.tag.specs.Tag.{with_state, waiting}
use Rattle.sent_v.specs.declared.Round.{Round}
use Rattle.request_v.specs.declared.Tag.{Tag}
use Rattle.inventory_rules.specs.Claim.{place}

-- of a tag in slot p, after the request and s EOFs; none of one that takes no part
unfoldable pub left : ℕ → ℕ → ℕ
left s p = cond (eqb p 16) 0 (p - s)

unfoldable pub in_round : Round → ℕ → Tag → Tag
in_round k s t = with_state t (waiting (left s (place k t)) t.state)
