-- Document 01, "The reader and the sweep" and "When the core declines": what a reader does with a row. What the row says is the matter of
-- crate selection (specs/Heard.antt).
use Rattle.std.specs.Prelude.{ℕ, suc, ◌*◌, ◌/◌, ◌%◌, Bool, true, false, cond, not, ◌&&◌, ◌||◌, List, [], ◌++◌, length, take, drop, replicate, get_or, eqb, ltb, Result, Ok, Err}
use Rattle.rows.specs.Rows.{is_nil, fill}
use Rattle.uid.specs.Uid.{place, levels, three_levels, valid}
use Rattle.selection.specs.Selection.{reqa, wupa, hlta, anticollision, select}
use Rattle.selection.specs.Heard.{read_atqa, read_rest, read_sak}
use Rattle.selection.specs.declared.RestSays.{RestSays}
use Rattle.selection.specs.declared.RestSays.TheVariants.{Whole, Collided, NotRest}
use Rattle.selection.specs.declared.Rest.{Rest}
use Rattle.uid.specs.declared.Level.{Level}
use Rattle.uid.specs.declared.Level.TheVariants.{One, Two, Three}
use Rattle.uid.specs.declared.Uid.{Uid}
use Rattle.uid.specs.declared.UidSize.{UidSize}
use Rattle.uid.specs.declared.UidSize.TheVariants.{Single, Double, Triple}
use Rattle.refusal.specs.declared.Refusal.{Refusal}
use Rattle.refusal.specs.declared.Refusal.TheVariants.{Forbidden, NotDue}
use Rattle.reader.specs.declared.Phase.{Phase}
use Rattle.reader.specs.declared.Phase.TheVariants.{New, ReqaSent, AnticollisionSent, SelectSent, HltaSent, Selected, Finished, Stopped, WupaSent, UidSelectSent}
use Rattle.reader.specs.declared.Reader.{Reader}
use Rattle.reader.specs.declared.Answer.{Answer}
use Rattle.reader.specs.declared.Answer.TheVariants.{Sends, Finds, Selects, Finishes, Declines}
use Rattle.reader.specs.declared.Turn.{Turn}

-- ---- readers, phase by phase: what a phase does not need is zero

abbrev pub uid : UidSize → List ℕ → Uid
uid z l = record { size = z; bytes = fill 10 l }

abbrev pub reader : Phase → Bool → List ℕ → ℕ → Uid → ℕ → Reader
reader p s five k u b = record { phase = p; sweeps = s; five = five; known = k; uid = u; sak = b }

abbrev pub blank : Phase → Bool → Reader
blank p s = reader p s (replicate 5 0) 0 (uid Single []) 0

-- the frame that a reader has sent
abbrev pub frame_in : Phase → Reader → List ℕ
frame_in New r = []
frame_in ReqaSent r = reqa
frame_in (AnticollisionSent l) r = anticollision l r.known r.five
frame_in (SelectSent l) r = select l r.five
frame_in HltaSent r = hlta
frame_in Selected r = []
frame_in Finished r = []
frame_in Stopped r = []
frame_in WupaSent r = wupa
frame_in (UidSelectSent l) r = select l r.five

unfoldable pub frame : Reader → List ℕ
frame r = frame_in r.phase r

-- ---- what a reader answers

abbrev pub turn : Reader → Answer → Turn
turn r a = record { reader = r; answer = a }

-- its next frame goes out
unfoldable pub sends : Reader → Turn
sends r = turn r (Sends (length (frame r)))

-- .. and its UID is complete
unfoldable pub finds : Reader → Turn
finds r = turn r (Finds (length (frame r)))

-- declined: "reader stopped"
abbrev pub stop : Refusal → Turn
stop e = turn (blank Stopped false) (Declines e)

-- ---- a row h is heard

-- "then per level ANTICOLLISION with k = 0", the UID's bytes so far being u
unfoldable pub opens : Level → Bool → Uid → Turn
opens l s u = sends (reader (AnticollisionSent l) s (replicate 5 0) 0 u 0)

-- after REQA: "silence there ends the sweep, and outside a sweep is 7"
abbrev pub after_atqa : Bool → Result Unit Refusal → Turn
after_atqa s (Ok tt) = opens One s (uid Single [])
after_atqa s (Err e) = stop e

unfoldable pub hear_atqa : Reader → List ℕ → Turn
hear_atqa r h = cond (is_nil h && r.sweeps) (turn (blank Finished false) Finishes) (after_atqa r.sweeps (read_atqa h))

-- "at the first collided position p of the level .. the next frame sends the bits before p and then a 1; with none left, SELECT"
abbrev pub after_rest : Level → Reader → Rest → RestSays → Turn
after_rest l r x Whole = sends (reader (SelectSent l) r.sweeps x.five x.known r.uid 0)
after_rest l r x Collided = sends (reader (AnticollisionSent l) r.sweeps x.five x.known r.uid 0)
after_rest l r x (NotRest e) = stop e

unfoldable pub hear_rest : Level → Reader → List ℕ → Turn
hear_rest l r h = let x : Rest = read_rest r.known r.five h in after_rest l r x x.says

-- the UID's bytes with those of level l added, of which the first n are dropped
unfoldable pub longer : Level → Reader → ℕ → List ℕ
longer l r n = take (3 * place l) r.uid.bytes ++ drop n (take 4 r.five)

-- the UID u is complete, b its last SAK: "In a sweep the reader then sends HLTA"
unfoldable pub completes : Bool → Uid → ℕ → Turn
completes true u b = finds (reader HltaSent true (replicate 5 0) 0 u b)
completes false u b = turn (reader Selected false (replicate 5 0) 0 u b) Selects

-- "SAK bit b3 set: next level, the level's first byte dropped from the UID. Clear: the UID is complete"; "b3 set at level 3": 9
abbrev pub after_sak : Level → Reader → ℕ → Bool → Turn
after_sak One r b true = opens Two r.sweeps (uid Single (longer One r 1))
after_sak Two r b true = opens Three r.sweeps (uid Single (longer Two r 1))
after_sak Three r b true = stop Forbidden
after_sak One r b false = completes r.sweeps (uid Single (longer One r 0)) b
after_sak Two r b false = completes r.sweeps (uid Double (longer Two r 0)) b
after_sak Three r b false = completes r.sweeps (uid Triple (longer Three r 0)) b

-- b3 of a SAK
abbrev pub b3 : ℕ → Bool
b3 b = eqb (b / 4 % 2) 1

-- T-04: b3 (`more`) against the first byte of level l. "b3 is set and the level's first byte is not 88, or b3 is clear and it is 88 at level 1
-- or 2"; at level 3 b3 set is 9 by the rule above, and 88 with b3 clear is good, since u6 of a 10-byte UID may be 88
unfoldable pub contradicts : Level → Bool → ℕ → Bool
contradicts l more first = cond more (not (eqb first 0x88)) (ltb (place l) 2 && eqb first 0x88)

-- a good SAK b: 9 where it contradicts the level that was sent in SELECT
abbrev pub sak_heard : Level → Reader → Result ℕ Refusal → Turn
sak_heard l r (Ok b) = cond (contradicts l (b3 b) (get_or r.five 0 0)) (stop Forbidden) (after_sak l r b (b3 b))
sak_heard l r (Err e) = stop e

unfoldable pub hear_sak : Level → Reader → List ℕ → Turn
hear_sak l r h = sak_heard l r (read_sak h)

-- after HLTA: "takes silence (anything else is 9, ahead of other tests), and starts again with REQA"
unfoldable pub hear_silence : List ℕ → Turn
hear_silence h = cond (is_nil h) (sends (blank ReqaSent true)) (stop Forbidden)

-- ---- T-03: one known card. "sends WUPA once .., selects one given UID .. level by level without ANTICOLLISION"

-- SELECT of level l of the UID u, all of whose bits are known (five zeros for a level that u lacks)
unfoldable pub picks : Level → Uid → Turn
picks l u = sends (reader (UidSelectSent l) false (get_or (three_levels u) (place l) []) 40 u 0)

-- .. of the level after l
abbrev pub pick_next : Level → Uid → Turn
pick_next One u = picks Two u
pick_next Two u = picks Three u
pick_next Three u = stop Forbidden

-- after WUPA: ATQA is tested as after REQA outside a sweep
abbrev pub after_wupa : Uid → Result Unit Refusal → Turn
after_wupa u (Ok tt) = picks One u
after_wupa u (Err e) = stop e

unfoldable pub hear_wupa : Reader → List ℕ → Turn
hear_wupa r h = after_wupa r.uid (read_atqa h)

-- "a b3 that doesn't fit the UID": b3 (`more`) is set exactly if level l is not the last one of u. None fits a UID that is not valid, which only a
-- reader put together by hand holds
unfoldable pub misfits : Level → Uid → Bool → Bool
misfits l u more = not (valid u) || cond (ltb (suc (place l)) (length (levels u))) (not more) more

-- .. "is 9". Else the next level, or the selection ends as any other
abbrev pub uid_sak_heard : Level → Uid → Result ℕ Refusal → Turn
uid_sak_heard l u (Ok b) = cond (misfits l u (b3 b)) (stop Forbidden) (cond (b3 b) (pick_next l u) (completes false u b))
uid_sak_heard l u (Err e) = stop e

unfoldable pub hear_uid_sak : Level → Reader → List ℕ → Turn
hear_uid_sak l r h = uid_sak_heard l r.uid (read_sak h)

-- what a reader does with a row, by the frame that it sent last; where none is awaited nothing changes
abbrev pub hear_in : Phase → Reader → List ℕ → Turn
hear_in New r h = turn r (Declines NotDue)
hear_in ReqaSent r h = hear_atqa r h
hear_in (AnticollisionSent l) r h = hear_rest l r h
hear_in (SelectSent l) r h = hear_sak l r h
hear_in HltaSent r h = hear_silence h
hear_in Selected r h = turn r (Declines NotDue)
hear_in Finished r h = turn r (Declines NotDue)
hear_in Stopped r h = turn r (Declines NotDue)
hear_in WupaSent r h = hear_wupa r h
hear_in (UidSelectSent l) r h = hear_uid_sak l r h

unfoldable pub hear : Reader → List ℕ → Turn
hear r h = hear_in r.phase r h

-- ---- the host's calls: a selection, or the reader's part of a sweep, is due on a new reader

abbrev pub is_new : Phase → Bool
is_new New = true
is_new ReqaSent = false
is_new (AnticollisionSent l) = false
is_new (SelectSent l) = false
is_new HltaSent = false
is_new Selected = false
is_new Finished = false
is_new Stopped = false
is_new WupaSent = false
is_new (UidSelectSent l) = false

-- "REQA", outside a sweep (s false) or in one
abbrev pub begin : Bool → Turn
begin s = sends (blank ReqaSent s)

-- T-03: WUPA, for the one card with the UID u
abbrev pub wakes : Uid → Turn
wakes u = sends (reader WupaSent false (replicate 5 0) 0 u 0)
