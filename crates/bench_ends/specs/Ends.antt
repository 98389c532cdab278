-- The refusal in an answer, where there is one, and the frame size that an answer of the reader tells.
use Rattle.std.specs.Prelude.{ℕ, Option, Some, None}
use Rattle.refusal.specs.declared.Refusal.{Refusal}
use Rattle.reader.specs.declared.Answer.{Answer}
use Rattle.reader.specs.declared.Answer.TheVariants.{Sends, Finds, Selects, Finishes, Declines}
use Rattle.block.specs.declared.Told.{Told}
use Rattle.block.specs.declared.Told.TheVariants.{Quiet, Message, Granted, Deselected, Refused}
use Rattle.selection.specs.Selection.{size}
use Rattle.reader_link.specs.declared.LinkAnswer.{LinkAnswer}
use Rattle.reader_link.specs.declared.LinkAnswer.TheVariants.{Selection, Opens, Blocks}

-- of a selection
abbrev pub declined_in : Answer → Option Refusal
declined_in (Declines e) = Some e
declined_in (Sends n) = None
declined_in (Finds n) = None
declined_in Selects = None
declined_in Finishes = None

-- in what is told to a host
abbrev pub refused_in : Told → Option Refusal
refused_in (Refused e) = Some e
refused_in Quiet = None
refused_in (Message n) = None
refused_in Granted = None
refused_in Deselected = None

-- of the whole reader
abbrev pub refusal_in : LinkAnswer → Option Refusal
refusal_in (Selection a) = declined_in a
refusal_in (Opens i) = None
refusal_in (Blocks n t) = refused_in t

-- the card's frame size, where the answer is that it has opened
abbrev pub size_in : LinkAnswer → Option ℕ
size_in (Opens i) = Some (size i)
size_in (Selection a) = None
size_in (Blocks n t) = None
