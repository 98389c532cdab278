-- Document 01, "When the core declines": what a host is told, in the table's numbers.
use Rattle.std.specs.Prelude.{[], ◌∷◌}
use Rattle.refusal.specs.Refusal.{Said, giving, refusal_says}
use Rattle.block.specs.declared.Told.{Told}
use Rattle.block.specs.declared.Told.TheVariants.{Quiet, Message, Granted, Deselected, Refused}

-- a message is told by how many bytes it has
abbrev pub told_says : Told → Said
told_says Quiet = giving []
told_says (Message n) = giving (n ∷ [])
told_says Granted = giving []
told_says Deselected = giving []
told_says (Refused e) = refusal_says e
