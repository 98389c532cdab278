-- Document 01, "How tight the contracts are": a whole sweep, over the state rules. "Each reader frame follows by the reader's rules from
-- what was heard before it, every card of the field takes it by the card's rules, and the reader hears their merged bits."
use Rattle.std.specs.Prelude.{ℕ, zero, suc, true, List, [], ◌∷◌, ◌++◌}
use Rattle.uid.specs.Uid.{uid_bytes}
use Rattle.reader.specs.Reader.{blank, sends, frame, hear}
use Rattle.field.specs.Field.{all_take, heard_from}
use Rattle.air_log.specs.Log.{Exchange, sent_heard}
use Rattle.limits.specs.Limits.{most_frames}
use Rattle.card.specs.declared.Card.{Card}
use Rattle.reader.specs.declared.Reader.{Reader}
use Rattle.reader.specs.declared.Turn.{Turn}
use Rattle.reader.specs.declared.Phase.TheVariants.{ReqaSent}
use Rattle.reader.specs.declared.Answer.{Answer}
use Rattle.reader.specs.declared.Answer.TheVariants.{Sends, Finds, Selects, Finishes, Declines}

-- the frames, each with what was heard after it; the UIDs found; the cards at the end; and the reader at the end with its last answer,
-- which is Sends or Finds if the fuel ran out
pub record Out : Type 0 where
  pub exchanges : List Exchange
  pub found : List (List ℕ)
  pub cards : List Card
  pub last : Turn

-- one exchange before the rest of a run
unfoldable pub before : Exchange → Out → Out
before e o = record { exchanges = e ∷ o.exchanges; found = o.found; cards = o.cards; last = o.last }

-- a UID found before the rest of a run
unfoldable pub finding : List ℕ → Out → Out
finding u o = record { exchanges = o.exchanges; found = u ∷ o.found; cards = o.cards; last = o.last }

unfoldable pub ended : List Card → Turn → Out
ended cs t = record { exchanges = []; found = []; cards = cs; last = t }

-- the run goes on while the reader sends
abbrev pub follow : Answer → Turn → List Card → Out → Out
follow (Sends n) t cs o = o
follow (Finds n) t cs o = finding (uid_bytes t.reader.uid) o
follow Selects t cs o = ended cs t
follow Finishes t cs o = ended cs t
follow (Declines e) t cs o = ended cs t

-- a reader as a run sees it, whatever its state: the turn that it is at, and what comes of a row that it hears
pub record Runner (S : Type 0) : Type 0 where
  pub turn : S → Turn
  pub hears : S → List ℕ → S

-- a state s in which the reader's frame is out, and the field: what comes of it
unfoldable pub run_of : {S : Type 0} → Runner S → ℕ → S → List Card → Out
run_of R zero s cs = ended cs (R.turn s)
run_of R (suc fuel) s cs =
    let f : List ℕ = frame (R.turn s).reader in
    let h : List ℕ = heard_from f cs in
    let cs' : List Card = all_take f cs in
    let s' = R.hears s h in
    before (sent_heard f h) (follow (R.turn s').answer (R.turn s') cs' (run_of R fuel s' cs'))

-- the reader of document 01: its turn is all of its state
abbrev pub plain : Runner Turn
plain = record { turn = λ t. t; hears = λ t h. hear t.reader h }

unfoldable pub run : ℕ → Turn → List Card → Out
run fuel t cs = run_of plain fuel t cs

-- a sweep
unfoldable pub sweep : List Card → Out
sweep cs = run most_frames (sends (blank ReqaSent true)) cs
