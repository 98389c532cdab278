-- Document 02, T-05: "one request with all its markers", over the rules: each frame follows by the reader's rules from what was heard before
-- it, every card takes it by the card's rules, and the reader hears their merged bits.
use Rattle.std.specs.Prelude.{ℕ, zero, suc, Bool, cond, List, [], ◌∷◌, ◌++◌, eqb}
use Rattle.selection_b.specs.TypeB.{request}
use Rattle.selection_b.specs.HeardB.{entry}
use Rattle.reader_b.specs.ReaderB.{opens, next, hear}
use Rattle.field_b.specs.FieldB.{all_take, heard_from}
use Rattle.selection_b.specs.declared.Held.{Held}
use Rattle.reader_b.specs.declared.ReaderB.{ReaderB}
use Rattle.reader_b.specs.declared.AnswerB.{AnswerB}
use Rattle.reader_b.specs.declared.AnswerB.TheVariants.{Sends, Marks, Ends, Attached, Halted, Declines}
use Rattle.reader_b.specs.declared.TurnB.{TurnB}
use Rattle.field_b.specs.declared.Drawn.{Drawn}

-- what a slot held: no card, one or more, and the one's ATQB without CRC_B, else zeros
abbrev pub Told : Type 0
Told = Held × List ℕ

-- what each slot held, in order; the cards at the end; and the reader's last turn
pub record Out : Type 0 where
  pub slots : List Told
  pub cards : List Drawn
  pub last : TurnB

unfoldable pub before : Told → Out → Out
before s o = record { slots = s ∷ o.slots; cards = o.cards; last = o.last }

unfoldable pub ended : List Told → List Drawn → TurnB → Out
ended s ds t = record { slots = s; cards = ds; last = t }

-- the run goes on while frames go out
abbrev pub follow : AnswerB → TurnB → List Drawn → Out → Out
follow (Sends n) t ds o = o
follow (Marks k) t ds o = before (k, t.atqb) o
follow (Ends k) t ds o = ended ((k, t.atqb) ∷ []) ds t
follow (Attached m) t ds o = ended [] ds t
follow Halted t ds o = ended [] ds t
follow (Declines e) t ds o = ended [] ds t

-- the frame that is out: in slot 1 the request, in each other slot its marker
unfoldable pub out_frame : Bool → ℕ → ReaderB → List ℕ
out_frame wake afi r = cond (eqb r.slot 1) (request wake r.slots afi) (next r)

-- a turn of the reader, whose frame is out, and the field: what comes of it in so many frames
unfoldable pub run : Bool → ℕ → ℕ → TurnB → List Drawn → Out
run wake afi zero t ds = ended [] ds t
run wake afi (suc fuel) t ds =
    let f : List ℕ = out_frame wake afi t.reader in
    let t' : TurnB = hear t.reader (heard_from f ds) in
    let ds' : List Drawn = all_take f ds in
    follow t'.answer t' ds' (run wake afi fuel t' ds')

-- the request with n slots and all its markers: n frames
unfoldable pub inquiry : Bool → ℕ → ℕ → List Drawn → Out
inquiry wake n afi ds = run wake afi n (opens n) ds

-- "The list .. has 13 a slot"
unfoldable pub list_bytes : List Told → List ℕ
list_bytes [] = []
list_bytes (s ∷ l) = entry s.0 s.1 ++ list_bytes l
