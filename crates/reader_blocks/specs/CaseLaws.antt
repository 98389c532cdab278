-- Cases of document 01 as laws of the reader's end. Assumes nothing.
use Rattle.std.specs.Prelude.{◌≡◌, refl, ℕ, ◌+◌, ◌<◌, Bool, true, false}
use Rattle.std.proofs.Math.Path.{sym}
use Rattle.limits.specs.Limits.{message_max}
use Rattle.refusal.specs.declared.Refusal.TheVariants.{Forbidden, TooLong}
use Rattle.block.specs.declared.Block.TheVariants.{I}
use Rattle.block.specs.CutLaws.{fits_none}
use Rattle.reader_blocks.specs.declared.Turn.{Turn}
use Rattle.reader_blocks.specs.declared.ReaderPhase.TheVariants.{Talking}
use Rattle.reader_blocks.specs.declared.ReaderLink.{ReaderLink}
use Rattle.reader_blocks.specs.ReaderRules.{stops, awaits_i, reader_takes_i, reader_takes}
use Rattle.reader_blocks.specs.ReaderLaws.{lent_any}

module _ (r : ReaderLink) (t : Turn) (n chained : Bool) (bytes room len : ℕ) where
  -- "tested .. 9, 10": an I that is not due is 9, also where it is too long
  pub not_due : awaits_i r t n ≡ false → reader_takes r (Talking t) (I n chained) bytes room len ≡ stops Forbidden
  unfolding reader_takes_i
  not_due e = rw e (lent_any r len (stops Forbidden) refl)

  -- "message over 4,096 bytes": 10 in a buffer of any size; "reader stopped"
  pub too_long : awaits_i r t n ≡ true → message_max < r.joined + bytes → reader_takes r (Talking t) (I n chained) bytes room len ≡ stops TooLong
  unfolding reader_takes_i
  too_long e h = rw (e, sym (fits_none (r.joined + bytes) room h)) (lent_any r len (stops TooLong) refl)
