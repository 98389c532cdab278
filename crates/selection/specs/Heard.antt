-- Document 01, "The reader and the sweep", "RATS, ATS and blocks" and "When the core declines": what the reader makes of a received row,
-- by the frame that it awaits. "A received frame is tested 7, 2, 8, 3, 4 or 5, 9, 10": the first test that applies wins.
use Rattle.std.specs.Prelude.{ℕ, ◌+◌, ◌-◌, ◌*◌, ◌/◌, ◌%◌, Bool, cond, not, ◌&&◌, List, [], ◌∷◌, ◌++◌, length, take, drop, get_or, replicate, eqb, ltb, leb, Result, Ok, Err}
use Rattle.rows.specs.Rows.{is_nil, clean, next, same}
use Rattle.crc.specs.Crc.{with_crc}
use Rattle.frame.specs.Frame.{standard, data_of, bytes_of, first_wrong, faulty, Verdict, Good, Fault, read_crc}
use Rattle.uid.specs.Uid.{level}
use Rattle.selection.specs.Selection.{cut, at_most8, size}
use Rattle.refusal.specs.declared.Refusal.{Refusal}
use Rattle.refusal.specs.declared.Refusal.TheVariants.{Length, Parity, Crc, Check, Silence, Collision, Forbidden}
use Rattle.selection.specs.declared.RestSays.{RestSays}
use Rattle.selection.specs.declared.RestSays.TheVariants.{Whole, Collided, NotRest}
use Rattle.selection.specs.declared.Rest.{Rest}

-- a row of n bits is awaited: silence is 7, and any other row 2
abbrev pub awaited : ℕ → List ℕ → Result Unit Refusal
awaited n h = cond (is_nil h) (Err Silence) (cond (not (eqb (length h) n)) (Err Length) (Ok tt))

-- ATQA. "In ATQA collided bits count as 1, the length bits are not used, and at least one of b1 to b5 must be 1": b1 to b5 are all 0 only as
-- five zeros
unfoldable pub read_atqa : List ℕ → Result Unit Refusal
read_atqa h =
    cond (is_nil h) (Err Silence)
    (cond (not (eqb (length h) 18)) (Err Length)
    (cond (faulty 2 h) (Err (Parity (first_wrong 2 h)))
    (cond (same (take 5 h) (replicate 5 0)) (Err Forbidden)
    (Ok tt))))

abbrev pub not_rest : Refusal → Rest
not_rest e = record { says = NotRest e; five = replicate 5 0; known = 0 }

-- the bits d of a level are known, in front of the others
unfoldable pub rest_of : RestSays → List ℕ → Rest
rest_of s d = record { says = s; five = bytes_of 5 d; known = length d }

-- T-07: "In an ANTICOLLISION answer the index counts from the level's first byte": w is the level's row, of which the first k data bits were sent,
-- and byte i the first that is whole in the answer. 5 where none is wrong
unfoldable pub rest_place : ℕ → List ℕ → ℕ
rest_place k w = let i : ℕ = (k + 7) / 8 in i + first_wrong (5 - i) (drop (9 * i) w)

-- The answer to ANTICOLLISION with k bits of five: w is the level's row, as sent and as heard, and d its 40 data bits. Byte i is the first
-- that is whole in the answer: "parity is checked only on whole bytes with no collided data bit". `next d` are the bits before the first
-- collided one and then a 1; more than 32 mean that the collision is in B. "B is checked only on an answer with no collided data bit"
unfoldable pub read_rest : ℕ → List ℕ → List ℕ → Rest
read_rest k five h =
    let w : List ℕ = take (cut k) (standard five) ++ h in
    let d : List ℕ = data_of 5 w in
    let i : ℕ = (k + 7) / 8 in
    cond (is_nil h) (not_rest Silence)
    (cond (not (eqb (cut k + length h) 45)) (not_rest Length)
    (cond (not (clean d) && ltb 32 (length (next d))) (not_rest Collision)
    (cond (faulty (5 - i) (drop (9 * i) w)) (not_rest (Parity (rest_place k w)))
    (cond (clean d && not (same (bytes_of 5 d) (level (take 4 (bytes_of 5 d))))) (not_rest Check)
    (rest_of (cond (clean d) Whole Collided) (next d))))))

-- SAK and CRC_A
unfoldable pub read_sak : List ℕ → Result ℕ Refusal
read_sak h =
    let bytes : List ℕ = bytes_of 3 (data_of 3 h) in
    cond (is_nil h) (Err Silence) (cond (not (eqb (length h) 27)) (Err Length)
    (cond (not (clean h)) (Err Collision)
    (cond (faulty 3 h) (Err (Parity (first_wrong 3 h)))
    (cond (not (same bytes (with_crc (take 1 bytes)))) (Err Crc)
    (Ok (get_or bytes 0 0))))))

-- "T0 b5, b6, b7 announce TA, TB, TC": how many bytes
unfoldable pub announced : ℕ → ℕ
announced t0 = t0 / 16 % 2 + t0 / 32 % 2 + t0 / 64 % 2

-- good, t what follows T0: "TL counts itself but not CRC_A"; b8 of T0 clear; what it announces is there
unfoldable pub ats_fits : ℕ → ℕ → List ℕ → Bool
ats_fits tl t0 t = eqb tl (2 + length t) && ltb t0 0x80 && leb (announced t0) (length t)

-- "The reader reads any ATS"; "TL = 1 means size index 2"; "T0 b8 set, or TL not fitting the frame or T0: 9". Its low half is FSCI, of which
-- "9 to 15 read as 8"
abbrev pub ats_bytes : List ℕ → Result ℕ Refusal
ats_bytes [] = Err Forbidden
ats_bytes (tl ∷ []) = cond (eqb tl 1) (Ok 2) (Err Forbidden)
ats_bytes (tl ∷ t0 ∷ t) = cond (ats_fits tl t0 t) (Ok (at_most8 (t0 % 16))) (Err Forbidden)

abbrev pub ats_of : Verdict → Result ℕ Refusal
ats_of (Good l) = ats_bytes l
ats_of (Fault e) = Err e

-- ATS, heard by a reader of size index own
unfoldable pub read_ats : ℕ → List ℕ → Result ℕ Refusal
read_ats own h = cond (is_nil h) (Err Silence) (ats_of (read_crc 3 (size own) h))
