-- T-11 on small runs, both ends of size 16 after ATS. The second claim's terms are met by a run that loses two frames, in rounds that are just
-- enough. With three lost between two toggles a run can end in 12 and in 9, so "two" is the most. Assumes nothing.
use mathlib.Core.Path.{◌≡◌, refl}
use mathlib.Core.Bool.{Bool, true, false}
use mathlib.Core.List.{List, [], ◌∷◌, map}
use Prim.Native.Nat.{ℕ}
use lib.Dec.{lit≤}
use Rattle.limits.specs.Limits.{row_room}
use Rattle.rows.specs.Rows.{overlay, is_nil, clean}
use Rattle.parity.specs.Bits.{ones, odd}
use Rattle.refusal.specs.declared.Refusal.TheVariants.{Silence, Parity, Forbidden, TooLong, Repeats}
use Rattle.frame.specs.Frame.{whole_bytes, faulty, first_wrong, read_frame, read_crc}
use Rattle.card.specs.declared.Card.{Card}
use Rattle.card.specs.declared.CardState.TheVariants.{Protocol}
use Rattle.reader.specs.declared.Reader.{Reader}
use Rattle.block.specs.declared.Told.{Told}
use Rattle.block.specs.declared.Told.TheVariants.{Quiet, Message, Refused}
use Rattle.selection.specs.Selection.{size}
use Rattle.block.specs.Cut.{payload_max, follows, part, fewest, fits}
use Rattle.block.specs.Block.{kind, wtx_ok}
use Rattle.block.specs.Row.{heard_row}
use Rattle.card_blocks.specs.CardRules.{card_open, lent_for, card_takes, card_replies, card_asks, card_i, card_takes_i, card_takes_ack, card_takes_nak}
use Rattle.card_blocks.specs.CardFrames.{card_block, card_reply, card_wtx, card_out}
use Rattle.reader_blocks.specs.ReaderRules.{reader_open, reader_i, reader_again, reader_repeats, reader_echoes, reader_starts, reader_takes_i, reader_takes_ack, lent_for as messageFor}
use Rattle.reader_blocks.specs.ReaderFrames.{reader_block, reader_send, reader_out}
use Rattle.exchange.specs.Exchange.{Fate, Arrives, Fails, Act, Answers, Asks, Waits, Round, clean as whole, Ends, passes, exchange, talk}
use Rattle.exchange.proofs.ExchangeLaws.{after_ats_law}
use Rattle.exchange.proofs.RowExchangeLaws.{wide}
use Rattle.exchange.specs.Lossy.{Whole, Instead, RowRound, row_clean}
use Rattle.lost_blocks.specs.Lost.{within, few_lost, lost_all, marks, marks_of, FewLosses}
use Rattle.lost_blocks.specs.RowLost.{RowStart, RowFewLosses}
use Rattle.lost_blocks.proofs.RowLossLaws.{round_of}
use Rattle.lost_blocks.proofs.RowLostLaws.{few_rows}

-- both ends after ATS, with buffers of two bytes
abbrev ends : Ends
ends = record { reader = reader_open 0 0 false; card = card_open 0 0; down = 0 ∷ 0 ∷ []; up = 0 ∷ 0 ∷ []; lent = [] }

abbrev round : Fate → Act → Fate → Round
round d h u = record { down = d; host = h; up = u }

-- the reader's frame lost, and damaged; the card's frame lost
abbrev lost : Round
lost = round (Fails Silence) Answers Arrives

abbrev damaged : Round
damaged = round (Fails (Parity 0)) Answers Arrives

abbrev unheard : Round
unheard = round Arrives Answers (Fails Silence)

-- what the card's host got, what the reader's host was told, whether few frames were lost, and how many in all: for the command 1 and the answer a
abbrev seen : List ℕ → List Round → List (List ℕ) × Told × Bool × ℕ
seen a xs = ((talk (1 ∷ []) a xs ends).got, (talk (1 ∷ []) a xs ends).told, few_lost (marks_of (1 ∷ []) a xs ends), lost_all (marks_of (1 ∷ []) a xs ends))

abbrev answer : List ℕ
answer = 2 ∷ 3 ∷ []

-- the command came through
abbrev came : List (List ℕ)
came = (1 ∷ []) ∷ []

pub table :
    -- two lost: the I, asked for, damaged, asked for, and through, in just as many rounds as the claim has
    (seen answer (lost ∷ whole ∷ damaged ∷ whole ∷ whole ∷ []) ≡ (came, Message 2, true, 2))
    -- .. and one round less is not enough
    × (seen answer (lost ∷ whole ∷ damaged ∷ whole ∷ []) ≡ ([], Quiet, true, 2))
    -- one each way: the I, and the answer
    × (seen answer (lost ∷ whole ∷ unheard ∷ whole ∷ []) ≡ (came, Message 2, true, 2))
    -- three lost running: 12
    × (seen answer (lost ∷ damaged ∷ lost ∷ whole ∷ whole ∷ []) ≡ ([], Refused Repeats, false, 3))
    -- .. after the command came: 12
    × (seen answer (unheard ∷ unheard ∷ unheard ∷ whole ∷ []) ≡ (came, Refused Repeats, false, 3))
    -- the I lost three times, and each time told so by R(ACK) of the other number: 9
    × (seen answer (lost ∷ whole ∷ lost ∷ whole ∷ lost ∷ whole ∷ []) ≡ ([], Refused Forbidden, false, 3))
    -- an answer of three bytes, over the reader's buffer: 10
    × (seen (2 ∷ 3 ∷ 4 ∷ []) (lost ∷ whole ∷ whole ∷ []) ≡ (came, Refused TooLong, true, 1))
    -- a host that waits, asks for WTX and then answers: the command came once
    × (seen answer (round Arrives Waits Arrives ∷ round Arrives (Asks 5) Arrives ∷ whole ∷ []) ≡ (came, Message 2, true, 0))
unfolding talk exchange passes within marks_of marks lost_all card_block card_reply card_wtx card_out lent_for card_takes messageFor card_takes_i card_takes_ack card_takes_nak card_replies card_asks card_i size payload_max kind follows part fits wtx_ok overlay reader_block reader_takes_i reader_takes_ack reader_send reader_out reader_i reader_again reader_repeats reader_echoes reader_starts
table = (refl, refl, refl, refl, refl, refl, refl, refl)

-- ---- the terms of both claims on rows, met with two losses

-- a frame lost, and one of which the listener hears three bytes whose parity is wrong
abbrev rounds : List RowRound
rounds =
    record { down = Instead []; host = Answers; up = Whole } ∷ row_clean
    ∷ record { down = Instead (0 ∷ 0 ∷ 0 ∷ 0 ∷ 0 ∷ 0 ∷ 0 ∷ 0 ∷ 0 ∷ 0 ∷ 0 ∷ 0 ∷ 0 ∷ 0 ∷ 0 ∷ 0 ∷ 0 ∷ 0 ∷ 0 ∷ 0 ∷ 0 ∷ 0 ∷ 0 ∷ 0 ∷ 0 ∷ 0 ∷ 0 ∷ []); host = Answers; up = Whole }
    ∷ row_clean ∷ row_clean ∷ []

module _ (c : Card) (i : ℕ) (s : c.state ≡ Protocol i) (r : Reader) where
  pub starts : RowStart 0 0 (1 ∷ []) answer rounds (wide c r ends)
  unfolding heard_row is_nil read_crc read_frame whole_bytes size clean faulty first_wrong odd ones
  starts =
      record {
        ends = record { links = ends; reader = refl; card = refl; index = i; protocol = s; between = after_ats_law 0 0 (0 ∷ 0 ∷ []) (0 ∷ 0 ∷ []) };
        message = lit≤ tt;
        answer = lit≤ tt;
        damage = ((refl, refl), ((refl, refl), ((refl, refl), ((refl, refl), ((refl, refl), tt)))));
      }

  abbrev bytes_rounds : List Round
  bytes_rounds = map (round_of 0 0) rounds

  few_bytes : FewLosses 0 0 (1 ∷ []) answer bytes_rounds ends
  unfolding heard_row is_nil read_crc read_frame whole_bytes size clean faulty first_wrong odd ones talk exchange passes within marks_of marks lost_all card_block card_reply card_out lent_for card_takes messageFor card_takes_i card_takes_ack card_takes_nak card_replies card_i payload_max kind follows part fits fewest overlay reader_block reader_takes_i reader_takes_ack reader_send reader_out reader_i reader_again reader_repeats reader_starts
  few_bytes = record { prompt = (refl, (refl, (refl, (refl, (refl, tt))))); down = lit≤ tt; up = lit≤ tt; few = refl; enough = lit≤ tt }

  pub few : RowFewLosses 0 0 (1 ∷ []) answer row_room rounds (wide c r ends)
  few =
      few_rows c i s r row_room (lit≤ tt) (1 ∷ []) answer (lit≤ tt, tt) (lit≤ tt, (lit≤ tt, tt)) 0 0 ends tt (lit≤ tt) (lit≤ tt) (after_ats_law 0 0 (0 ∷ 0 ∷ []) (0 ∷ 0 ∷ [])) rounds starts.damage
      few_bytes (refl, (refl, (refl, (refl, (refl, tt)))))
