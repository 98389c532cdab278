-- A whole reader kept in lent bytes, by places from the front:
--     0 phase, 1 its level, 2 in a sweep, 3 five bytes of the level, 8 known bits, 9 UID size, 10 ten bytes of the UID, 20 SAK,
--     21 link, 22 own size index, 23 the card's, 24 block number, 25 the link's phase, 26 its turn, 27 again, 28 repeats,
--     29 place in the message, 37 bytes joined (eight bytes each, the low byte first), 45 the last answer's event, 46 its length (eight bytes).
-- Of the 64 bytes that a call asks for these are the first 54; behind them a sweep over cards in lent bytes keeps its count of frames (crate kept_field).
use Rattle.std.specs.Prelude.{ℕ, ◌<◌, Bool, true, false, cond, ◌&&◌, List, [], ◌∷◌, ◌++◌, length, get_or, replicate, ◌≡◌, eqb}
use Rattle.refusal.specs.Refusal.{place_of}
use Rattle.rows.specs.Rows.{overlay, same}
use Rattle.reader.specs.declared.Phase.{Phase}
use Rattle.reader.specs.declared.Phase.TheVariants as phase
use Rattle.reader.specs.declared.Reader.{Reader}
use Rattle.reader.specs.declared.Answer.{Answer}
use Rattle.reader.specs.declared.Answer.TheVariants.{Sends, Finds, Selects, Finishes, Declines}
use Rattle.reader_blocks.specs.declared.Turn.{Turn}
use Rattle.reader_blocks.specs.declared.Turn.TheVariants.{Sending, Awaiting, Joining}
use Rattle.reader_blocks.specs.declared.ReaderPhase.{ReaderPhase}
use Rattle.reader_blocks.specs.declared.ReaderPhase.TheVariants.{Open, Talking, Leaving, Finished, Stopped}
use Rattle.reader_blocks.specs.declared.ReaderLink.{ReaderLink}
use Rattle.reader_link.specs.declared.Link.{Link}
use Rattle.reader_link.specs.declared.Link.TheVariants.{NoLink, RatsSent, Linked}
use Rattle.reader_link.specs.declared.LinkReader.{LinkReader}
use Rattle.reader_link.specs.declared.LinkAnswer.{LinkAnswer}
use Rattle.reader_link.specs.declared.LinkAnswer.TheVariants.{Selection, Opens, Blocks}
use Rattle.reader_link.specs.declared.LinkTurn.{LinkTurn}
use Rattle.kept.specs.Kept.{bytes_at, word, number, flag, flag_of, level_tag, level_of, size_tag, uid_in, event_of, length_of, refused, told_number, told_refuses, told_event, told_length}

-- ---- the selection

abbrev pub phase_tag : Phase → ℕ
phase_tag phase.New = 0
phase_tag phase.ReqaSent = 1
phase_tag (phase.AnticollisionSent l) = 2
phase_tag (phase.SelectSent l) = 3
phase_tag phase.HltaSent = 4
phase_tag phase.Selected = 5
phase_tag phase.Finished = 6
phase_tag phase.WupaSent = 7
phase_tag (phase.UidSelectSent l) = 8
phase_tag phase.Stopped = 9

abbrev pub phase_level : Phase → ℕ
phase_level phase.New = 0
phase_level phase.ReqaSent = 0
phase_level (phase.AnticollisionSent l) = level_tag l
phase_level (phase.SelectSent l) = level_tag l
phase_level phase.HltaSent = 0
phase_level phase.Selected = 0
phase_level phase.Finished = 0
phase_level phase.WupaSent = 0
phase_level (phase.UidSelectSent l) = level_tag l
phase_level phase.Stopped = 0

abbrev pub phase_of : ℕ → ℕ → Phase
phase_of t l =
    cond (eqb t 0) phase.New
    (cond (eqb t 1) phase.ReqaSent
    (cond (eqb t 2) (phase.AnticollisionSent (level_of l))
    (cond (eqb t 3) (phase.SelectSent (level_of l))
    (cond (eqb t 4) phase.HltaSent
    (cond (eqb t 5) phase.Selected
    (cond (eqb t 6) phase.Finished
    (cond (eqb t 7) phase.WupaSent
    (cond (eqb t 8) (phase.UidSelectSent (level_of l)) phase.Stopped))))))))

unfoldable pub selection_bytes : Reader → List ℕ
selection_bytes r =
    phase_tag r.phase ∷ phase_level r.phase ∷ flag r.sweeps
    ∷ (bytes_at 5 r.five 0 ++ (r.known ∷ size_tag r.uid.size ∷ (bytes_at 10 r.uid.bytes 0 ++ (r.sak ∷ []))))

unfoldable pub selection_of : List ℕ → Reader
selection_of b = record {
  phase = phase_of (get_or b 0 0) (get_or b 1 0);
  sweeps = flag_of (get_or b 2 0);
  five = bytes_at 5 b 3;
  known = get_or b 8 0;
  uid = uid_in b;
  sak = get_or b 20 0;
}

-- ---- the link

abbrev pub turn_tag : Turn → ℕ
turn_tag Sending = 0
turn_tag Awaiting = 1
turn_tag Joining = 2

abbrev pub turn_of : ℕ → Turn
turn_of b = cond (eqb b 0) Sending (cond (eqb b 1) Awaiting Joining)

abbrev pub link_phase_tag : ReaderPhase → ℕ
link_phase_tag Open = 0
link_phase_tag (Talking t) = 1
link_phase_tag Leaving = 2
link_phase_tag Finished = 3
link_phase_tag Stopped = 4

abbrev pub link_phase_turn : ReaderPhase → ℕ
link_phase_turn Open = 0
link_phase_turn (Talking t) = turn_tag t
link_phase_turn Leaving = 0
link_phase_turn Finished = 0
link_phase_turn Stopped = 0

abbrev pub link_phase_of : ℕ → ℕ → ReaderPhase
link_phase_of t u =
    cond (eqb t 0) Open (cond (eqb t 1) (Talking (turn_of u)) (cond (eqb t 2) Leaving (cond (eqb t 3) Finished Stopped)))

unfoldable pub linked_bytes : ReaderLink → List ℕ
linked_bytes l =
    2 ∷ l.own ∷ l.card ∷ flag l.number ∷ link_phase_tag l.phase ∷ link_phase_turn l.phase ∷ l.again ∷ l.repeats
    ∷ (word 8 l.at ++ word 8 l.joined)

abbrev pub link_bytes : Link → List ℕ
link_bytes NoLink = replicate 24 0
link_bytes (RatsSent i) = 1 ∷ i ∷ replicate 22 0
link_bytes (Linked l) = linked_bytes l

unfoldable pub linked_of : List ℕ → ReaderLink
linked_of b = record {
  own = get_or b 22 0;
  card = get_or b 23 0;
  number = flag_of (get_or b 24 0);
  phase = link_phase_of (get_or b 25 0) (get_or b 26 0);
  at = number 8 b 29;
  joined = number 8 b 37;
  again = get_or b 27 0;
  repeats = get_or b 28 0;
}

abbrev pub link_in : ℕ → ℕ → ReaderLink → Link
link_in t own l = cond (eqb t 0) NoLink (cond (eqb t 1) (RatsSent own) (Linked l))

unfoldable pub link_of : List ℕ → Link
link_of b = link_in (get_or b 21 0) (get_or b 22 0) (linked_of b)

-- ---- the whole reader

abbrev pub reader_bytes : LinkReader → List ℕ
reader_bytes x = selection_bytes x.reader ++ link_bytes x.link

-- every row of bytes is one reader
abbrev pub reader_of : List ℕ → LinkReader
reader_of b = record { reader = selection_of b; link = link_of b }

-- what every link in memory has: numbers of 64 bits
abbrev pub Sized : Link → Type 0
Sized NoLink = Unit {0}
Sized (RatsSent i) = Unit {0}
Sized (Linked l) = (l.at < 18446744073709551616) × (l.joined < 18446744073709551616)

-- .. and every reader: arrays of their length
abbrev pub Fits : LinkReader → Type 0
Fits x = (length x.reader.five ≡ 5) × ((length x.reader.uid.bytes ≡ 10) × Sized x.link)

-- ---- what a call answers: so many bits to send, or minus the refusal's number

abbrev pub selection_number : Answer → ℕ
selection_number (Sends n) = n
selection_number (Finds n) = n
selection_number Selects = 0
selection_number Finishes = 0
selection_number (Declines e) = refused e

abbrev pub answer_number : LinkAnswer → ℕ
answer_number (Selection a) = selection_number a
answer_number (Opens i) = 0
answer_number (Blocks n t) = told_number n t

abbrev pub selection_refuses : Answer → Bool
selection_refuses (Sends n) = false
selection_refuses (Finds n) = false
selection_refuses Selects = false
selection_refuses Finishes = false
selection_refuses (Declines e) = true

abbrev pub answer_refuses : LinkAnswer → Bool
answer_refuses (Selection a) = selection_refuses a
answer_refuses (Opens i) = false
answer_refuses (Blocks n t) = told_refuses t

-- the event: 1 a UID found in a sweep, 2 a card selected, 3 the sweep over, 4 a link opened, 5 a message, 7 deselected; none: 0
abbrev pub selection_event : Answer → ℕ
selection_event (Sends n) = 0
selection_event (Finds n) = 1
selection_event Selects = 2
selection_event Finishes = 3
selection_event (Declines e) = 0

abbrev pub answer_event : LinkAnswer → ℕ
answer_event (Selection a) = selection_event a
answer_event (Opens i) = 4
answer_event (Blocks n t) = told_event t

-- what comes with it: the length of a message, the size index of the card that opened, or the byte index of a refusal (T-07)
abbrev pub selection_length : Answer → ℕ
selection_length (Sends n) = 0
selection_length (Finds n) = 0
selection_length Selects = 0
selection_length Finishes = 0
selection_length (Declines e) = place_of e

abbrev pub answer_length : LinkAnswer → ℕ
answer_length (Selection a) = selection_length a
answer_length (Opens i) = i
answer_length (Blocks n t) = told_length t

-- ---- what a call leaves in the lent bytes: the reader, then what was answered. Nothing is written where a call is refused and the reader stays
-- what it was

abbrev pub answer_bytes : LinkAnswer → List ℕ
answer_bytes a = answer_event a ∷ word 8 (answer_length a)

abbrev pub turn_bytes : LinkTurn → List ℕ
turn_bytes t = reader_bytes t.reader ++ answer_bytes t.answer

-- two readers are one: they are kept as the same bytes (law `same_reader_law`)
abbrev pub same_reader : LinkReader → LinkReader → Bool
same_reader x y = same (selection_bytes x.reader) (selection_bytes y.reader) && same (link_bytes x.link) (link_bytes y.link)

-- a call on the reader x is refused, and x stays
unfoldable pub stays : LinkReader → LinkTurn → Bool
stays x t = answer_refuses t.answer && same_reader x t.reader

unfoldable pub turn_left : List ℕ → LinkTurn → List ℕ
turn_left b t = cond (stays (reader_of b) t) b (overlay b 0 (turn_bytes t))

-- ---- what lent bytes say: the reader, and of the last call that wrote them the event and what came with it

pub record Kept : Type 0 where
  pub reader : LinkReader
  pub event : ℕ
  pub length : ℕ

abbrev pub kept_in : List ℕ → Kept
kept_in b = record { reader = reader_of b; event = event_of b; length = length_of b }

-- .. what they say where a turn was written into them
abbrev pub kept_of : LinkTurn → Kept
kept_of t = record { reader = t.reader; event = answer_event t.answer; length = answer_length t.answer }

-- .. and what the bytes b are to say after a call that gives t
unfoldable pub kept_after : List ℕ → LinkTurn → Kept
kept_after b t = record {
  reader = t.reader;
  event = cond (stays (reader_of b) t) (event_of b) (answer_event t.answer);
  length = cond (stays (reader_of b) t) (length_of b) (answer_length t.answer);
}
