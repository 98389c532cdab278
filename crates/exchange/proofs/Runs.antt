-- Whole exchanges by computation, both ends of size 16 after ATS. The expected values come from an independent model of document 01.
use mathlib.Core.Path.{◌≡◌, refl}
use Prim.Native.Nat.{ℕ, zero, suc}
use mathlib.Core.Bool.{false}
use mathlib.Core.List.{List, [], ◌∷◌, ◌++◌}
use lib.ListN.{length, replicate}
use Rattle.refusal.specs.declared.Refusal.TheVariants.{Parity, Silence, Forbidden, TooLong, Repeats}
use Rattle.block.specs.declared.Told.{Told}
use Rattle.block.specs.declared.Told.TheVariants.{Quiet, Message, Refused}
use Rattle.rows.specs.Rows.{overlay}
use Rattle.selection.specs.Selection.{size}
use Rattle.block.specs.Cut.{payload_max, follows, part, fits}
use Rattle.block.specs.Block.{kind, wtx_ok}
use Rattle.card_blocks.specs.CardRules.{card_open, lent_for, card_takes, card_replies, card_asks, card_i, card_takes_i, card_takes_ack, card_takes_nak}
use Rattle.card_blocks.specs.CardFrames.{card_block, card_reply, card_wtx, card_out}
use Rattle.reader_blocks.specs.ReaderRules.{reader_open, reader_i, reader_again, reader_repeats, reader_echoes, reader_starts, reader_takes_i, reader_takes_ack, lent_for as messageFor}
use Rattle.reader_blocks.specs.ReaderFrames.{reader_block, reader_send, reader_out}
use Rattle.exchange.specs.Exchange.{Fate, Arrives, Fails, Act, Answers, Asks, Waits, Round, clean, passes, Run, exchange, talk}

-- n bytes that count up from b
from : ℕ → ℕ → List ℕ
from b zero = []
from b (suc n) = b ∷ from (suc b) n

-- a buffer that nothing was written to, and one with n such bytes in front of k that nothing was written to
unheld : ℕ → List ℕ
unheld k = replicate k 0xEE

held : ℕ → ℕ → ℕ → List ℕ
held b n k = from b n ++ unheld k

round : Fate → Act → Fate → Round
round d h u = record { down = d; host = h; up = u }

-- what the card's host got, what the reader's host was told, how many frames went down, the card's buffer and the reader's
seen : Run → List (List ℕ) × Told × ℕ × List ℕ × List ℕ
seen r = (r.got, r.told, length r.downs, r.ends.down, r.ends.up)

-- the run of a message and its answer, with buffers of d bytes and u bytes
runs : List ℕ → List ℕ → List Round → ℕ → ℕ → List (List ℕ) × Told × ℕ × List ℕ × List ℕ
runs m a xs d u = seen (talk m a xs (record { reader = reader_open 0 0 false; card = card_open 0 0; down = unheld d; up = unheld u; lent = [] }))

table :
    -- an empty message and an empty answer
    (runs [] [] (clean ∷ []) 4 4 ≡ ([] ∷ [], Message 0, 1, unheld 4, unheld 4))
    -- one full block each way
    × (runs (from 0x30 13) (from 0x30 13) (clean ∷ []) 13 13 ≡ ((from 0x30 13) ∷ [], Message 13, 1, held 0x30 13 0, held 0x30 13 0))
    -- one byte more: two blocks each way
    × (runs (from 0x30 14) (from 0x60 14) (clean ∷ clean ∷ clean ∷ []) 16 16 ≡ ((from 0x30 14) ∷ [], Message 14, 3, held 0x30 14 2, held 0x60 14 2))
    -- three blocks down, four up
    × (runs (from 0x30 30) (from 0x60 40) (clean ∷ clean ∷ clean ∷ clean ∷ clean ∷ clean ∷ clean ∷ clean ∷ []) 32 40 ≡ ((from 0x30 30) ∷ [], Message 40, 6, held 0x30 30 2, held 0x60 40 0))
    -- the rounds run out before the answer is whole
    × (runs (from 0x30 30) (from 0x30 30) (clean ∷ clean ∷ clean ∷ []) 32 32 ≡ ((from 0x30 30) ∷ [], Quiet, 3, held 0x30 30 2, held 0x30 13 19))
    -- the first I lost, asked for, and damaged
    × (runs (from 0x30 14) (0x30 ∷ []) (round (Fails Silence) Answers Arrives ∷ clean ∷ round (Fails (Parity 0)) Answers Arrives ∷ clean ∷ clean ∷ clean ∷ clean ∷ []) 16 16 ≡ ((from 0x30 14) ∷ [], Message 1, 6, held 0x30 14 2, held 0x30 1 15))
    -- two answers of the card lost
    × (runs (from 0x30 14) (from 0x30 14) (round Arrives Answers (Fails Silence) ∷ round Arrives Answers (Fails (Parity 0)) ∷ clean ∷ clean ∷ clean ∷ clean ∷ []) 16 16 ≡ ((from 0x30 14) ∷ [], Message 14, 5, held 0x30 14 2, held 0x30 14 2))
    -- three frames lost running: 12
    × (runs (0x30 ∷ []) (0x30 ∷ []) (round (Fails Silence) Answers Arrives ∷ round (Fails Silence) Answers Arrives ∷ round (Fails Silence) Answers Arrives ∷ clean ∷ []) 16 16 ≡ ([], Refused Repeats, 3, unheld 16, unheld 16))
    -- the same I asked for a third time: 9
    × (runs (0x30 ∷ []) (0x30 ∷ []) (round (Fails Silence) Answers Arrives ∷ clean ∷ round (Fails Silence) Answers Arrives ∷ clean ∷ round (Fails Silence) Answers Arrives ∷ clean ∷ clean ∷ []) 16 16 ≡ ([], Refused Forbidden, 6, unheld 16, unheld 16))
    -- losses each way, all made good; the answer is not whole yet
    × (runs (from 0x30 20) (from 0x30 20) (round (Fails Silence) Answers Arrives ∷ round Arrives Answers (Fails Silence) ∷ clean ∷ round Arrives Answers (Fails Silence) ∷ round (Fails (Parity 0)) Answers Arrives ∷ clean ∷ round (Fails (Parity 0)) Answers Arrives ∷ round Arrives Answers (Fails (Parity 0)) ∷ clean ∷ clean ∷ []) 32 32 ≡ ((from 0x30 20) ∷ [], Quiet, 10, held 0x30 20 12, held 0x30 13 19))
    -- WTX asked twice
    × (runs (from 0x30 3) (from 0x30 3) (round Arrives (Asks 59) Arrives ∷ round Arrives (Asks 1) Arrives ∷ clean ∷ []) 16 16 ≡ ((from 0x30 3) ∷ [], Message 3, 3, held 0x30 3 13, held 0x30 3 13))
    -- a WTX lost, and its reply
    × (runs (from 0x30 3) (from 0x30 3) (round Arrives (Asks 7) (Fails Silence) ∷ clean ∷ round (Fails Silence) Answers Arrives ∷ clean ∷ round Arrives Answers (Fails Silence) ∷ clean ∷ []) 16 16 ≡ ((from 0x30 3) ∷ [], Message 3, 6, held 0x30 3 13, held 0x30 3 13))
    -- WTX 60: 6 at the card, and then the answer
    × (runs (from 0x30 3) (from 0x30 3) (round Arrives (Asks 60) Arrives ∷ clean ∷ []) 16 16 ≡ ((from 0x30 3) ∷ [], Message 3, 2, held 0x30 3 13, held 0x30 3 13))
    -- a host that answers in the third round
    × (runs (from 0x30 3) (from 0x30 3) (round Arrives Waits Arrives ∷ round Arrives Waits Arrives ∷ clean ∷ []) 16 16 ≡ ((from 0x30 3) ∷ [], Message 3, 3, held 0x30 3 13, held 0x30 3 13))
    -- .. and one that never does: 12
    × (runs (from 0x30 3) (from 0x30 3) (round Arrives Waits Arrives ∷ round Arrives Waits Arrives ∷ round Arrives Waits Arrives ∷ round Arrives Waits Arrives ∷ []) 16 16 ≡ ((from 0x30 3) ∷ [], Refused Repeats, 3, held 0x30 3 13, unheld 16))
    -- a card's buffer that is too short: silence, and then 9
    × (runs (from 0x30 3) (from 0x30 3) (clean ∷ clean ∷ clean ∷ clean ∷ clean ∷ clean ∷ clean ∷ clean ∷ []) 2 16 ≡ ([], Refused Forbidden, 6, unheld 2, unheld 16))
    -- a reader's: 10
    × (runs (from 0x30 3) (from 0x30 3) (clean ∷ clean ∷ []) 16 2 ≡ ((from 0x30 3) ∷ [], Refused TooLong, 1, held 0x30 3 13, unheld 2))
unfolding from unheld held round runs seen talk exchange passes card_block card_reply card_wtx card_out lent_for card_takes messageFor card_takes_i card_takes_ack card_takes_nak card_replies card_asks card_i size payload_max kind follows part fits wtx_ok overlay reader_block reader_takes_i reader_takes_ack reader_send reader_out reader_i reader_again reader_repeats reader_echoes reader_starts
table = (refl, refl, refl, refl, refl, refl, refl, refl, refl, refl, refl, refl, refl, refl, refl, refl, refl)
