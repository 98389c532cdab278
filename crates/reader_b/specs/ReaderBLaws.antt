-- The reader's calls by what their tests told: 11, 1, or what the rules say. Assumes nothing.
use Rattle.std.specs.Prelude.{◌≡◌, ℕ, ◌≤◌, ◌<◌, Bool}
use Rattle.std.proofs.Math.Bool.{true, false}
use borrow.Author.Tests.{lt-ltb, le-ltb}
use Rattle.frame_b.specs.LimitsB.{frame_room_b}
use Rattle.reader_b.specs.ReaderB.{turn, call_with}
use Rattle.refusal.specs.declared.Refusal.TheVariants.{Room, NotDue}
use Rattle.reader_b.specs.declared.ReaderB.{ReaderB}
use Rattle.reader_b.specs.declared.AnswerB.TheVariants.{Declines}
use Rattle.reader_b.specs.declared.TurnB.{TurnB}

-- a call that is due or not, and the room that it is lent
module _ (isDue : Bool) (r : ReaderB) (room : ℕ) (t : TurnB) where
  pub not_due : isDue ≡ false → turn r (Declines NotDue) ≡ call_with isDue r room t
  unfolding call_with
  not_due e = rw e

  pub no_room : isDue ≡ true → room < frame_room_b → turn r (Declines Room) ≡ call_with isDue r room t
  unfolding call_with
  no_room e h = rw (e, lt-ltb room frame_room_b h)

  pub made : isDue ≡ true → frame_room_b ≤ room → t ≡ call_with isDue r room t
  unfolding call_with
  made e h = rw (e, le-ltb room frame_room_b h)
