-- A reader's frame is bits: none of it collided. Assumes nothing.
use Rattle.std.specs.Prelude.{◌<◌, [], ◌∷◌}
use Rattle.rows.specs.ListLaws.{all_append, all_take_law}
use Rattle.rows.specs.Rows.{Bits}
use Rattle.parity.specs.BitLaws.{bits_bits}
use Rattle.frame.specs.Frame.{short, standard}
use Rattle.frame.proofs.FrameLaws.{bits_standard}
use Rattle.selection.specs.Selection.{reqa, wupa, hlta, sel, nvb, cut, anticollision, select}
use Rattle.reader.specs.Reader.{frame_in, frame}
use Rattle.reader.specs.declared.Phase.{Phase}
use Rattle.reader.specs.declared.Phase.TheVariants.{New, ReqaSent, AnticollisionSent, SelectSent, HltaSent, Selected, Finished, Stopped, WupaSent, UidSelectSent}
use Rattle.reader.specs.declared.Reader.{Reader}

bits_in_law : (p : Phase) (r : Reader) → Bits (frame_in p r)
unfolding reqa wupa hlta anticollision select short
bits_in_law New r = tt
bits_in_law ReqaSent r = bits_bits 7 0x26
bits_in_law (AnticollisionSent l) r =
    all_append (λ x. x < 2) (standard (sel l ∷ nvb r.known ∷ [])) _ (bits_standard _) (all_take_law (λ x. x < 2) (cut r.known) (standard r.five) (bits_standard r.five))
bits_in_law (SelectSent l) r = bits_standard _
bits_in_law HltaSent r = bits_standard _
bits_in_law Selected r = tt
bits_in_law Finished r = tt
bits_in_law Stopped r = tt
bits_in_law WupaSent r = bits_bits 7 0x52
bits_in_law (UidSelectSent l) r = bits_standard _

pub frame_bits : (r : Reader) → Bits (frame r)
unfolding frame
frame_bits r = bits_in_law r.phase r
