-- The number that a call gives is the one of the shared definition of answers (a reader's by `link_turn_says`, a card's by `told_says`); and a refusal
-- that leaves the reader what it was leaves every byte. Assumes nothing.
use Rattle.std.specs.Prelude.{◌≡◌, refl, true, List, ℕ}
use Rattle.std.proofs.Common.{arith, ne_eqb}
use Rattle.refusal.specs.Refusal.{number_of}
use Rattle.refusal.specs.declared.Refusal.{Refusal}
use Rattle.rows.specs.ListLaws.{same_refl}
use Rattle.block.specs.Says.{told_says}
use Rattle.block.specs.declared.Told.{Told}
use Rattle.block.specs.declared.Told.TheVariants.{Quiet, Message, Granted, Deselected, Refused}
use Rattle.reader.specs.declared.Reader.{Reader}
use Rattle.reader.specs.declared.Answer.TheVariants.{Sends, Finds, Selects, Finishes, Declines}
use Rattle.reader_link.specs.ReaderCalls.{bits_by}
use Rattle.reader_link.specs.ReaderSays.{link_says, link_turn_says}
use Rattle.reader_link.specs.declared.LinkReader.{LinkReader}
use Rattle.reader_link.specs.declared.LinkAnswer.{LinkAnswer}
use Rattle.reader_link.specs.declared.LinkAnswer.TheVariants.{Selection, Opens, Blocks}
use Rattle.reader_link.specs.declared.LinkTurn.{LinkTurn}
use Rattle.kept.specs.Kept.{refused, told_number}
use Rattle.kept.specs.KeptLaws.{number_some}
use Rattle.kept_reader.specs.KeptReader.{selection_bytes, link_bytes, answer_number, answer_refuses, reader_of, stays, turn_left}
use Rattle.lacrivosum.specs.Library.{coded}

pub refused_coded : (e : Refusal) (bits : ℕ) → refused e ≡ coded (number_of e) bits
refused_coded e bits = let h = number_some e in rw (ne_eqb (number_of e) 0 (λ z. absurd (omega arith)))

pub told_says_law : (t : Told) (bits : ℕ) → told_number bits t ≡ coded (told_says t).number bits
told_says_law Quiet bits = refl
told_says_law (Message k) bits = refl
told_says_law Granted bits = refl
told_says_law Deselected bits = refl
told_says_law (Refused e) bits = refused_coded e bits

answer_says_law : (a : LinkAnswer) (r : Reader) → answer_number a ≡ coded (link_says a r).number (bits_by a)
answer_says_law (Selection (Sends n)) r = refl
answer_says_law (Selection (Finds n)) r = refl
answer_says_law (Selection Selects) r = refl
answer_says_law (Selection Finishes) r = refl
answer_says_law (Selection (Declines e)) r = refused_coded e 0
answer_says_law (Opens i) r = refl
answer_says_law (Blocks n Quiet) r = refl
answer_says_law (Blocks n (Message k)) r = refl
answer_says_law (Blocks n Granted) r = refl
answer_says_law (Blocks n Deselected) r = refl
answer_says_law (Blocks n (Refused e)) r = refused_coded e n

pub number_says : (t : LinkTurn) → answer_number t.answer ≡ coded (link_turn_says t).number (bits_by t.answer)
number_says t = answer_says_law t.answer t.reader.reader

refused_stays : (x : LinkReader) (a : LinkAnswer) → answer_refuses a ≡ true → stays x (record { reader = x; answer = a }) ≡ true
unfolding stays
refused_stays x a h = rw (h, same_refl (selection_bytes x.reader), same_refl (link_bytes x.link))

pub refused_writes_nothing : (b : List ℕ) (a : LinkAnswer) → answer_refuses a ≡ true → turn_left b (record { reader = reader_of b; answer = a }) ≡ b
unfolding turn_left
refused_writes_nothing b a h = rw (refused_stays (reader_of b) a h)
