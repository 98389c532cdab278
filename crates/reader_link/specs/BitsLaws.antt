-- The number of bits that an answer names is that of the frame that is sent. Assumes nothing.
use Rattle.std.specs.Prelude.{◌≡◌, refl, Bool, true, false, cond, not, ◌&&◌, List, [], ℕ, length, get_or, ltb, Result, Ok, Err}
use Rattle.limits.specs.Limits.{row_room}
use Rattle.rows.specs.Rows.{is_nil}
use Rattle.refusal.specs.declared.Refusal.{Refusal}
use Rattle.refusal.specs.declared.Refusal.TheVariants.{NotDue, Room}
use Rattle.uid.specs.declared.Level.{Level}
use Rattle.uid.specs.declared.Level.TheVariants.{One, Two, Three}
use Rattle.uid.specs.declared.Uid.{Uid}
use Rattle.selection.specs.Heard.{read_atqa, read_rest, read_sak, read_ats}
use Rattle.selection.specs.declared.Rest.{Rest}
use Rattle.selection.specs.declared.RestSays.{RestSays}
use Rattle.selection.specs.declared.RestSays.TheVariants.{Whole, Collided, NotRest}
use Rattle.reader.specs.declared.Phase.{Phase}
use Rattle.reader.specs.declared.Phase.TheVariants.{New, ReqaSent, AnticollisionSent, SelectSent, HltaSent, Selected, Finished, Stopped, WupaSent, UidSelectSent}
use Rattle.reader.specs.declared.Reader.{Reader}
use Rattle.reader.specs.declared.Turn.{Turn}
use Rattle.reader.specs.Reader.{sends, finds, opens, after_atqa, hear_atqa, after_rest, hear_rest, completes, after_sak, b3, contradicts, sak_heard, hear_sak, hear_silence, picks, pick_next, after_wupa, hear_wupa, misfits, uid_sak_heard, hear_uid_sak, hear_in, hear}
use Rattle.reader.specs.Calls.{sent_by}
use Rattle.block.specs.Out.{Out}
use Rattle.reader_blocks.specs.declared.ReaderLink.{ReaderLink}
use Rattle.reader_link.specs.declared.Link.{Link}
use Rattle.reader_link.specs.declared.Link.TheVariants.{NoLink, RatsSent, Linked}
use Rattle.reader_link.specs.declared.LinkReader.{LinkReader}
use Rattle.reader_link.specs.ReaderCalls.{bits_of, bits_by, Called, called, declined_by, tested, selecting, linking, after_ats, frame_due, hears_in, hear_call, between, send_in, send_call}

-- ---- a turn of a selection

abbrev Exact : Turn → Type 0
Exact t = bits_of t.answer ≡ length (sent_by t.answer t.reader)

either : (b : Bool) (s t : Turn) → Exact s → Exact t → Exact (cond b s t)
either true s t x y = x
either false s t x y = y

sends_exact : (r : Reader) → Exact (sends r)
unfolding sends
sends_exact r = refl

opens_exact : (l : Level) (s : Bool) (u : Uid) → Exact (opens l s u)
unfolding opens
opens_exact l s u = sends_exact _

completes_exact : (s : Bool) (u : Uid) (b : ℕ) → Exact (completes s u b)
unfolding completes finds
completes_exact true u b = refl
completes_exact false u b = refl

atqa_exact : (s : Bool) (a : Result Unit Refusal) → Exact (after_atqa s a)
atqa_exact s (Ok tt) = opens_exact One s _
atqa_exact s (Err e) = refl

rest_exact : (l : Level) (r : Reader) (x : Rest) (s : RestSays) → Exact (after_rest l r x s)
rest_exact l r x Whole = sends_exact _
rest_exact l r x Collided = sends_exact _
rest_exact l r x (NotRest e) = refl

sak_exact : (l : Level) (r : Reader) (b : ℕ) (more : Bool) → Exact (after_sak l r b more)
sak_exact One r b true = opens_exact Two r.sweeps _
sak_exact Two r b true = opens_exact Three r.sweeps _
sak_exact Three r b true = refl
sak_exact One r b false = completes_exact r.sweeps _ b
sak_exact Two r b false = completes_exact r.sweeps _ b
sak_exact Three r b false = completes_exact r.sweeps _ b

heard_exact : (l : Level) (r : Reader) (a : Result ℕ Refusal) → Exact (sak_heard l r a)
heard_exact l r (Ok b) = either (contradicts l (b3 b) (get_or r.five 0 0)) _ _ refl (sak_exact l r b (b3 b))
heard_exact l r (Err e) = refl

pick_exact : (l : Level) (u : Uid) → Exact (pick_next l u)
unfolding picks
pick_exact One u = sends_exact _
pick_exact Two u = sends_exact _
pick_exact Three u = refl

wupa_exact : (u : Uid) (a : Result Unit Refusal) → Exact (after_wupa u a)
unfolding picks
wupa_exact u (Ok tt) = sends_exact _
wupa_exact u (Err e) = refl

uid_exact : (l : Level) (u : Uid) (a : Result ℕ Refusal) → Exact (uid_sak_heard l u a)
uid_exact l u (Ok b) = either (misfits l u (b3 b)) _ _ refl (either (b3 b) _ _ (pick_exact l u) (completes_exact false u b))
uid_exact l u (Err e) = refl

hear_exact : (p : Phase) (r : Reader) (h : List ℕ) → Exact (hear_in p r h)
unfolding hear_atqa hear_rest hear_sak hear_silence hear_wupa hear_uid_sak
hear_exact New r h = refl
hear_exact ReqaSent r h = either (is_nil h && r.sweeps) _ _ refl (atqa_exact r.sweeps (read_atqa h))
hear_exact (AnticollisionSent l) r h = rest_exact l r (read_rest r.known r.five h) (read_rest r.known r.five h).says
hear_exact (SelectSent l) r h = heard_exact l r (read_sak h)
hear_exact HltaSent r h = either (is_nil h) _ _ (sends_exact _) refl
hear_exact Selected r h = refl
hear_exact Finished r h = refl
hear_exact Stopped r h = refl
hear_exact WupaSent r h = wupa_exact r.uid (read_atqa h)
hear_exact (UidSelectSent l) r h = uid_exact l r.uid (read_sak h)

-- ---- a call

abbrev pub Counted : Called → Type 0
Counted o = bits_by o.turn.answer ≡ length o.sent

declined_none : (k : Link) (e : Refusal) → bits_by (declined_by k e) ≡ 0
declined_none NoLink e = refl
declined_none (RatsSent i) e = refl
declined_none (Linked l) e = refl

tested_counted : (due : Bool) (x : LinkReader) (buffer : List ℕ) (room : ℕ) (o : Called) → Counted o → Counted (tested due x buffer room o)
unfolding tested
tested_counted due x buffer room o k = go due (ltb room row_room)
  where
    go : (d r : Bool) → Counted (cond (not d) (called x (declined_by x.link NotDue) [] buffer) (cond r (called x (declined_by x.link Room) [] buffer) o))
    go false r = declined_none x.link NotDue
    go true true = declined_none x.link Room
    go true false = k

linking_counted : (r : Reader) (o : Out ReaderLink) → Counted (linking r o)
unfolding linking
linking_counted r o = refl

ats_counted : (r : Reader) (own : ℕ) (a : Result ℕ Refusal) (buffer : List ℕ) → Counted (after_ats r own a buffer)
ats_counted r own (Ok i) buffer = refl
ats_counted r own (Err e) buffer = refl

hears_counted : (k : Link) (r : Reader) (h m buffer : List ℕ) → Counted (hears_in k r h m buffer)
unfolding selecting hear
hears_counted NoLink r h m buffer = hear_exact r.phase r h
hears_counted (RatsSent own) r h m buffer = ats_counted r own (read_ats own h) buffer
hears_counted (Linked l) r h m buffer = linking_counted r _

pub hear_counted : (x : LinkReader) (h m buffer : List ℕ) (room : ℕ) → Counted (hear_call x h m buffer room)
unfolding hear_call
hear_counted x h m buffer room = tested_counted (frame_due x.link x.reader) x buffer room _ (hears_counted x.link x.reader h m buffer)

send_in_counted : (k : Link) (x : LinkReader) (m : List ℕ) → Counted (send_in k x m)
send_in_counted NoLink x m = refl
send_in_counted (RatsSent i) x m = refl
send_in_counted (Linked l) x m = linking_counted x.reader _

pub send_counted : (x : LinkReader) (m : List ℕ) (room : ℕ) → Counted (send_call x m room)
unfolding send_call
send_counted x m room = tested_counted (between x.link) x [] room _ (send_in_counted x.link x m)
