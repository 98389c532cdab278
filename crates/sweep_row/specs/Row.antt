-- How far a sweep over a lent row is, and one card's turn. The cards of a row come one by one, the last first; the first pass looks whether
-- the row is a field that a sweep takes, in each pass after it the cards take the frame that is out. What a sweep is stands in sweep_rules, what
-- the call says in crate sweep.
use Rattle.std.specs.Prelude.{ℕ, ◌+◌, ◌-◌, ◌*◌, ◌≤◌, ◌<◌, Bool, true, false, not, cond, ◌&&◌, List, [], ◌≡◌, length, take, drop, set, replicate, ltb, eqb}
use Rattle.rows.specs.Rows.{overlay, any, same}
use Rattle.uid.specs.Uid.{uid_bytes}
use Rattle.card.specs.Card.{takes, answers}
use Rattle.reader.specs.Reader.{blank, sends, frame, uid}
use Rattle.memory.specs.Memory.{Recall, hear_if}
use Rattle.memory.specs.Stored.{path_of, stored, memory_of}
use Rattle.field.specs.Merge.{join}
use Rattle.air_log.specs.Log.{Exchange, sent_heard, exchange_bytes, exchange_size, log_size, list_bytes}
use Rattle.sweep_rules.specs.Demand.{Typed}
use Rattle.limits.specs.Limits.{most_cards, most_frames}
use Rattle.sweep_rules.specs.Run.{Out}
use Rattle.sweep_rules.specs.Terms.{card_fits}
use Rattle.sweep_steps.specs.Steps.{goes, found_by}
use Rattle.sweep.specs.declared.Start.{Start}
use Rattle.sweep.specs.declared.Swept.{Swept}
use Rattle.card.specs.declared.Card.{Card}
use Rattle.card.specs.declared.CardState.TheVariants.{Off}
use Rattle.memory.specs.declared.Path.{Path}
use Rattle.reader.specs.declared.Reader.{Reader}
use Rattle.reader.specs.declared.Turn.{Turn}
use Rattle.reader.specs.declared.Phase.TheVariants.{ReqaSent}
use Rattle.reader.specs.declared.Answer.TheVariants.{Declines}
use Rattle.refusal.specs.declared.Refusal.{Refusal}
use Rattle.refusal.specs.declared.Refusal.TheVariants.{Argument}
use Rattle.uid.specs.declared.UidSize.TheVariants.{Single}
use Rattle.sweep_row.specs.declared.RowSwept.{RowSwept}
use Rattle.sweep_row.specs.declared.air.Air.{Air}
use Rattle.sweep_row.specs.declared.air.HeardCard.{HeardCard}
use Rattle.sweep_row.specs.declared.seen.Seen.{Seen}
use Rattle.sweep_row.specs.declared.finish.Exchanged.{Exchanged}
use Rattle.sweep_row.specs.declared.finish.RowReached.{RowReached}
use Rattle.sweep_row.specs.declared.within.Progress.{Progress}
use Rattle.sweep_row.specs.declared.within.Turned.{Turned}

-- what the plain sweep gives, of a row that holds these cards afterwards
abbrev pub swept_row : RowSwept → List Card → Swept
swept_row s cards = record { reader = s.reader; answer = s.answer; cards = cards; frames = s.frames; logged = s.logged; found = s.found }

-- what stands past the end of a row
abbrev pub no_card : Card
no_card = record { uid = uid Single []; blocks = false; index = 0; state = Off }

-- ---- what is heard

abbrev pub silence : Air
silence = record { heard = replicate 45 0; bits = 0 }

-- the bits heard so far
abbrev pub heard_in : Air → List ℕ
heard_in a = take a.bits a.heard

-- .. and with one card's answer to the frame f
unfoldable pub heard_with : Air → List ℕ → Card → List ℕ
heard_with a f c = join (answers c f) (heard_in a)

unfoldable pub heard_card : Air → Reader → Card → HeardCard
heard_card a r c =
    record {
      card = takes c (frame r);
      air = record { heard = overlay a.heard 0 (heard_with a (frame r) c); bits = length (heard_with a (frame r) c) };
    }

-- ---- the cards seen

abbrev pub none_seen : Seen
none_seen = record { fits = true; uids = replicate most_cards (uid Single []) }

-- the card at a place of a row of n cards, after those behind it
unfoldable pub seen_with : Seen → ℕ → ℕ → Card → Seen
seen_with s at n c =
    record {
      fits = s.fits && card_fits c && not (any (λ v. same (uid_bytes c.uid) (uid_bytes v)) (drop (at + 1) (take n s.uids)));
      uids = set s.uids at c.uid;
    }

-- ---- the end of an exchange

unfoldable pub exchange_with : Reader → Air → Exchange
exchange_with r a = sent_heard (frame r) (heard_in a)

unfoldable pub exchanged_with : Bool → Reader → Path → Air → Exchanged
exchanged_with b r w a = record { memory = memory_of (hear_if b r (path_of w) (heard_in a)); bytes = exchange_size (exchange_with r a) }

-- the reader's turn and path after it; b says whether it remembers
unfoldable pub heard_by : Bool → Progress → Air → Recall
heard_by b p a = hear_if b p.swept.reader (path_of p.path) (heard_in a)

unfoldable pub finished : Bool → Progress → Air → RowReached
finished b p a =
    let m : Recall = heard_by b p a in
    record {
      swept = record {
        reader = m.turn.reader;
        answer = m.turn.answer;
        frames = p.swept.frames + 1;
        logged = p.swept.logged + exchange_size (exchange_with p.swept.reader a);
        found = p.swept.found + length (found_by m.turn);
      };
      path = stored m.path;
    }

-- T-09: the tick of its first record
abbrev pub row_tick : Progress → ℕ
row_tick p = p.tick + 2 * p.swept.frames

-- log and list have room for it
pub record Roomy (b : Bool) (p : Progress) (a : Air) (log list : List ℕ) : Type 0 where
  pub bits : a.bits ≤ length a.heard
  pub log_has_room : p.swept.logged + exchange_size (exchange_with p.swept.reader a) ≤ length log
  pub list_has_room : 11 * p.swept.found + 11 * length (found_by (heard_by b p a).turn) ≤ length list
  pub more : p.swept.frames < most_frames

unfoldable pub goes_on : RowSwept → Bool
goes_on s = ltb s.frames most_frames && goes s.answer

-- ---- before the first frame, and at the end

abbrev pub refused_row : Reader → Refusal → RowSwept
refused_row r e = record { reader = r; answer = Declines e; frames = 0; logged = 0; found = 0 }

abbrev pub row_of : Turn → RowSwept
row_of t = record { reader = t.reader; answer = t.answer; frames = 0; logged = 0; found = 0 }

-- nothing is known
abbrev pub no_path : Path
no_path = record { row = replicate 120 0; known = 0 }

unfoldable pub first_row : RowReached
first_row = record { swept = row_of (sends (blank ReqaSent true)); path = no_path }

abbrev pub end_row : Out → RowSwept
end_row o =
    record {
      reader = o.last.reader;
      answer = o.last.answer;
      frames = length o.exchanges;
      logged = log_size o.exchanges;
      found = length o.found;
    }

-- ---- how far it is

abbrev pub stopped : RowSwept → Progress
stopped s = record { going = false; at = 0; swept = s; looking = false; cards = 0; seen = none_seen; air = silence; tick = 0; path = no_path }

-- the first pass over a row of n cards
abbrev pub looks : Start → ℕ → Progress
looks start n =
    record {
      going = true;
      at = n - 1;
      swept = refused_row start.reader Argument;
      looking = true;
      cards = n;
      seen = none_seen;
      air = silence;
      tick = start.tick;
      path = no_path;
    }

-- the next pass over the row
abbrev pub again : Progress → RowReached → Progress
again p f =
    record {
      going = goes_on f.swept;
      at = p.cards - 1;
      swept = f.swept;
      looking = false;
      cards = p.cards;
      seen = p.seen;
      air = silence;
      tick = p.tick;
      path = f.path;
    }

-- the next card of a pass
abbrev onto : Progress → Seen → Air → Progress
onto p s a =
    record {
      going = p.going;
      at = p.at - 1;
      swept = p.swept;
      looking = p.looking;
      cards = p.cards;
      seen = s;
      air = a;
      tick = p.tick;
      path = p.path;
    }

abbrev pub onward : Progress → Air → Progress
onward p a = onto p p.seen a

abbrev pub back : Progress → Seen → Progress
back p s = onto p s p.air

-- all cards are seen
unfoldable pub decided : Progress → Seen → Progress
decided p s = cond s.fits (again p first_row) (stopped p.swept)

-- a card is looked at
unfoldable pub looked : Progress → Card → Progress
looked p c =
    let s : Seen = seen_with p.seen p.at p.cards c in
    cond (eqb p.at 0) (decided p s) (back p s)

-- a card takes the frame
abbrev pub air_with : Progress → Card → Air
air_with p c = (heard_card p.air p.swept.reader c).air

unfoldable pub took : Bool → Progress → Card → Progress
took b p c = cond (eqb p.at 0) (again p (finished b p (air_with p c))) (onward p (air_with p c))

unfoldable pub turn_of : Bool → Progress → Card → Turned
turn_of b p c =
    cond p.looking (record { card = c; next = looked p c })
    (record { card = takes c (frame p.swept.reader); next = took b p c })

-- log and list afterwards
unfoldable pub log_of : Progress → Card → List ℕ → List ℕ
log_of p c log = cond p.looking log (cond (eqb p.at 0) (overlay log p.swept.logged (exchange_bytes (row_tick p) (exchange_with p.swept.reader (air_with p c)))) log)

unfoldable pub list_of : Bool → Progress → Card → List ℕ → List ℕ
list_of b p c list = cond p.looking list (cond (eqb p.at 0) (overlay list (11 * p.swept.found) (list_bytes (found_by (heard_by b p (air_with p c)).turn))) list)

-- what a turn asks for: a place in the row, and room where it ends an exchange
pub record Ready (b : Bool) (p : Progress) (c : Card) (log list : List ℕ) : Type 0 where
  pub at : p.at < p.cards
  pub few : p.cards ≤ most_cards
  pub bits : p.air.bits ≤ length p.air.heard
  pub room : p.looking ≡ false → p.at ≡ 0 → Roomy b p (air_with p c) log list

-- a turn
pub record Turns (b : Bool) (p : Progress) (c : Card) (log list : List ℕ) (t : Turned) (log₁ list₁ : List ℕ) : Type 0 where
  pub is : t ≡ turn_of b p c
  pub log_row : log₁ ≡ log_of p c log
  pub list_row : list₁ ≡ list_of b p c list
  pub typed : (seen_with p.seen p.at p.cards c).fits ≡ true → p.looking ≡ true → Typed c
