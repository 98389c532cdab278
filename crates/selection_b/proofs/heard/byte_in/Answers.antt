-- `selection_b::heard::byte_in` meets its contract: the definition has the same tests. Assumes nothing.
use mathlib.Core.Path.{sym, ap, ◌∙◌}
use lib.ListN.{length}
use Rattle.frame.specs.ByteLaws.{length_bytes}
use Rattle.selection_b.specs.HeardBLaws.{bytes_whole, byte_crc, byte_one}
use Rattle.selection_b.proofs.heard.byte_in.Goals as goal

pub returns-then-not-is_good_b : goal.returns-then-not-is_good_b
returns-then-not-is_good_b c = byte_crc _ _ (bytes_whole 3 _ _ c.bytes_of.ensures) (sym c.is_good_b.ensures ∙ c.if-not-is_good_b.true)

pub returns : goal.returns
returns c = let e = bytes_whole 3 _ _ c.bytes_of.ensures in
    byte_one _ _ e (ap length e ∙ length_bytes 3 _) (sym c.is_good_b.ensures ∙ c.if-not-is_good_b.false)
