-- Document 02, T-14: a sweep "that keeps the branches it has not yet taken, sends known bits at once, and goes straight to SELECT for levels it
-- already has". Its reader is the plain one with a path beside it: what a row says, the refusals and their order are those of crate reader.
--
-- The path is the on-air row of the card under way, or of the one found last, as far as it is known. A 2 in it is a branch not yet taken: a 1
-- was sent there against a 0.
use Rattle.std.specs.Prelude.{ℕ, ◌+◌, ◌*◌, Bool, true, false, cond, List, [], ◌∷◌, ◌++◌, map, length, take, drop, ltb}
use Rattle.rows.specs.Rows.{clean, is_nil}
use Rattle.frame.specs.Frame.{air_bits, bytes_of}
use Rattle.uid.specs.Uid.{place}
use Rattle.selection.specs.Heard.{read_rest}
use Rattle.reader.specs.Reader as Plain
use Rattle.reader.specs.Reader.{reader, sends, turn}
use Rattle.selection.specs.declared.Rest.{Rest}
use Rattle.selection.specs.declared.RestSays.{RestSays}
use Rattle.selection.specs.declared.RestSays.TheVariants.{Whole, Collided, NotRest}
use Rattle.uid.specs.declared.Level.{Level}
use Rattle.uid.specs.declared.Level.TheVariants.{One, Two, Three}
use Rattle.reader.specs.declared.Phase.{Phase}
use Rattle.reader.specs.declared.Phase.TheVariants.{New, ReqaSent, AnticollisionSent, SelectSent, HltaSent, Selected, Finished, Stopped, WupaSent, UidSelectSent}
use Rattle.reader.specs.declared.Reader.{Reader}
use Rattle.reader.specs.declared.Answer.{Answer}
use Rattle.reader.specs.declared.Answer.TheVariants.{Sends, Finds, Selects, Finishes, Declines}
use Rattle.reader.specs.declared.Turn.{Turn}

-- the reader's turn, and the path
pub record Recall : Type 0 where
  pub turn : Turn
  pub path : List ℕ

abbrev pub recall : Turn → List ℕ → Recall
recall t w = record { turn = t; path = w }

-- ---- the path

-- its bits
unfoldable pub bits : List ℕ → List ℕ
bits w = map (λ x. cond (ltb 1 x) 1 x) w

-- the newest branch, which is the deepest: the path up to its last 2, and there a 0. Where none is kept nothing is known: "an answer with
-- nothing kept starts anew"
unfoldable pub branch : List ℕ → List ℕ
branch [] = []
branch (x ∷ w) = cond (clean w) (cond (ltb 1 x) (0 ∷ []) []) (x ∷ branch w)

-- what it has of level l
unfoldable pub known : Level → List ℕ → List ℕ
known l w = take 40 (drop (40 * place l) (bits w))

-- bits of which the last is a 1 sent against a 0
unfoldable pub keeping : List ℕ → List ℕ
keeping [] = []
keeping (x ∷ d) = cond (is_nil d) (2 ∷ []) (x ∷ keeping d)

abbrev pub marked : RestSays → List ℕ → List ℕ
marked Whole d = d
marked Collided d = keeping d
marked (NotRest e) d = d

-- the level's bits that an ANTICOLLISION answer x adds to those that r knew
unfoldable pub learnt : Reader → Rest → List ℕ
learnt r x = marked x.says (drop r.known (take x.known (air_bits x.five)))

-- ---- a row h is heard

-- Level l comes next: "sends known bits at once, and goes straight to SELECT for levels it already has"
unfoldable pub enters : Level → Reader → List ℕ → Turn
enters l r w =
    let d : List ℕ = known l w in
    sends (reader (cond (ltb (length d) 40) (AnticollisionSent l) (SelectSent l)) r.sweeps (bytes_of 5 d) (length d) r.uid 0)

-- .. where the plain reader opens it
abbrev pub enters_by : Answer → Level → Turn → List ℕ → Turn
enters_by (Sends n) l t w = enters l t.reader w
enters_by (Finds n) l t w = t
enters_by Selects l t w = t
enters_by Finishes l t w = t
enters_by (Declines e) l t w = t

-- nothing is remembered where the sweep ends
abbrev pub keeps : Answer → List ℕ → List ℕ
keeps (Sends n) w = w
keeps (Finds n) w = w
keeps Selects w = []
keeps Finishes w = []
keeps (Declines e) w = []

abbrev pub higher : Level → Level
higher One = Two
higher Two = Three
higher Three = Three

-- the plain reader's turn t, at level l, and the path w
unfoldable pub comes : Level → Turn → List ℕ → Recall
comes l t w = recall (enters_by t.answer l t w) (keeps t.answer w)

unfoldable pub stays : Turn → List ℕ → Recall
stays t w = recall t (keeps t.answer w)

-- what the reader r with the path w does with a row, by the frame that it sent last; outside a sweep the path stays
abbrev pub hear_in : Phase → Reader → List ℕ → List ℕ → Recall
hear_in New r w h = recall (Plain.hear r h) w
hear_in ReqaSent r w h = comes One (Plain.hear r h) (branch w)
hear_in (AnticollisionSent l) r w h = stays (Plain.hear r h) (take (40 * place l + r.known) w ++ learnt r (read_rest r.known r.five h))
hear_in (SelectSent l) r w h = comes (higher l) (Plain.hear r h) w
hear_in HltaSent r w h = stays (Plain.hear r h) w
hear_in Selected r w h = recall (Plain.hear r h) w
hear_in Finished r w h = recall (Plain.hear r h) w
hear_in Stopped r w h = recall (Plain.hear r h) w
hear_in WupaSent r w h = recall (Plain.hear r h) w
hear_in (UidSelectSent l) r w h = recall (Plain.hear r h) w

unfoldable pub hear : Reader → List ℕ → List ℕ → Recall
hear r w h = hear_in r.phase r w h

-- ---- the reader of any sweep: one that remembers, or the plain one, which has no path

abbrev pub hear_if : Bool → Reader → List ℕ → List ℕ → Recall
hear_if true r w h = hear r w h
hear_if false r w h = recall (Plain.hear r h) []
