-- A field within the terms (that of sweep_rules: UIDs of 4, 7 and 10 bytes, of which the last two share a level), so that what T-14 asks of a field
-- can be met, and its frames, counted. Assumes nothing.
use mathlib.Core.Path.{◌≡◌, refl, ◌∙◌}
use lib.ListN.{length}
use Rattle.rows.specs.Rows.{any, same}
use Rattle.parity.specs.Bits.{bits_of}
use Rattle.frame.specs.Frame.{air_bits}
use Rattle.uid.specs.Order.{diff, later, above, is_up, insert_on, sort_on, one, count, parts_at, parts}
use Rattle.uid.specs.Uid.{check, level, levels, air, row_of, falling, frame_sum}
use Rattle.sweep_rules.specs.Demand.{idle}
use Rattle.sweep_rules.specs.Run.{sweep}
use Rattle.sweep_rules.proofs.Example as Plain
use Rattle.sweep_rules.proofs.Example.{field, typed, meets}
use Rattle.memory_rules.specs.Count.{shared, is_past, parts_past, shared_levels, new_collisions, term, add_up, recall_sum}
use Rattle.memory_rules.specs.Promise.{Remembers}
use Rattle.memory_rules.specs.Run.{recalled}
use Rattle.memory_rules.proofs.Remembers.{remembers}

pub swept : Remembers field (recalled field)
swept = remembers field typed meets

pub frames : length (recalled field).exchanges ≡ 20
unfolding any same bits_of air_bits diff later above is_up insert_on sort_on one count parts_at parts check level levels air row_of falling idle shared is_past parts_past shared_levels new_collisions term add_up recall_sum
frames = swept.frames ∙ refl

pub plain_frames : length (sweep field).exchanges ≡ 21
unfolding any bits_of air_bits diff later above is_up insert_on sort_on one count parts_at parts check level levels air row_of falling frame_sum idle
plain_frames = (Plain.swept).frames ∙ refl
