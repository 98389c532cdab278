-- What the whole reader's calls answer is what they say in the table's numbers. Assumes nothing.
use Rattle.std.specs.Prelude.{◌≡◌, refl, ℕ, Bool, true, false, cond, not, List, [], ◌∷◌, length, leb, ltb}
use Rattle.std.proofs.Common.{ap, ◌∙◌, le-ltb, lt-ltb, leb-true, leb-false}
use Rattle.std.proofs.lemmas.Bool.{false≢true}
use Rattle.limits.specs.Limits.{row_room, message_max}
use Rattle.refusal.specs.Refusal.{Said, giving, refusal_says, decline_if}
use Rattle.refusal.specs.declared.Refusal.{Refusal}
use Rattle.refusal.specs.declared.Refusal.TheVariants.{Room, Argument, NotDue}
use Rattle.rows.specs.Rows.{overlay}
use Rattle.parity.specs.Bits.{bits_of}
use Rattle.crc.specs.Crc.{with_crc, crc_bytes}
use Rattle.frame.specs.Frame.{air_byte, standard, short}
use Rattle.selection.specs.Selection.{reqa, rats}
use Rattle.uid.specs.Calls.{valid_bytes, uid_of}
use Rattle.reader.specs.Calls.{wake_turn}
use Rattle.reader.specs.KnownLaws.{wake_turn_says, wakes_seven}
use Rattle.reader.specs.Reader.{blank, frame, sends, begin}
use Rattle.reader.specs.declared.Phase.TheVariants.{ReqaSent}
use Rattle.reader.specs.declared.Reader.{Reader}
use Rattle.block.specs.declared.Told.TheVariants.{Quiet}
use Rattle.reader_blocks.specs.declared.ReaderLink.{ReaderLink}
use Rattle.reader_blocks.specs.ReaderRules.{reader_i, reader_starts, reader_parts, is_open}
use Rattle.reader_blocks.specs.ReaderFrames.{reader_out, reader_send, reader_deselect}
use Rattle.reader_link.specs.declared.Link.{Link}
use Rattle.reader_link.specs.declared.Link.TheVariants.{NoLink, RatsSent, Linked}
use Rattle.reader_link.specs.declared.LinkReader.{LinkReader}
use Rattle.reader_link.specs.declared.LinkAnswer.TheVariants.{Blocks}
use Rattle.reader_link.specs.declared.LinkTurn.{LinkTurn}
use Rattle.reader_link.specs.ReaderCalls.{Called, called, declined_by, tested, selecting, linking, frame_due, hears_in, hear_call, is_new_in, start_call, wake_call, rats_due, rats_call, between, send_in, send_call, deselect_in, deselect_call}
use Rattle.reader_link.specs.ReaderSays.{link_says, link_turn_says, start_says, wake_says, rats_says, send_says, deselect_says, hear_says}
use Rattle.reader_link.specs.WholeLaws.{Two, Three}

abbrev answered : Called → Said
answered o = link_turn_says o.turn

-- a refusal says its number, however far the reader is
declined_says : (k : Link) (e : Refusal) (r : Reader) → link_says (declined_by k e) r ≡ refusal_says e
declined_says NoLink e r = refl
declined_says (RatsSent i) e r = refl
declined_says (Linked l) e r = refl

-- 11 and 1 around what is due
tested_says : (due : Bool) (x : LinkReader) (buffer : List ℕ) (room : ℕ) (o : Called) (s : Said) → (due ≡ true → answered o ≡ s)
    → answered (tested due x buffer room o) ≡ decline_if (not due) 11 (decline_if (ltb room row_room) 1 s)
unfolding tested
tested_says due x buffer room o s k = go due (ltb room row_room) k
  where
    go : (d r : Bool) → (d ≡ true → answered o ≡ s)
        → answered (cond (not d) (called x (declined_by x.link NotDue) [] buffer) (cond r (called x (declined_by x.link Room) [] buffer) o))
        ≡ decline_if (not d) 11 (decline_if r 1 s)
    go false r k = declined_says x.link NotDue x.reader
    go true true k = declined_says x.link Room x.reader
    go true false k = k refl

-- ---- REQA

begins : (s : Bool) → answered (selecting (sends (blank ReqaSent s)) []) ≡ giving (7 ∷ [])
unfolding selecting sends frame reqa short bits_of
begins s = refl

start_says_law : (s : Bool) (x : LinkReader) (room : ℕ) → answered (start_call s x room) ≡ start_says x room
unfolding start_call
start_says_law s x room =
    tested_says (is_new_in x.link x.reader) x [] room (selecting (begin s) []) (giving (7 ∷ []))
    (λ e. begins s)

-- ---- WUPA

wake_says_law : (x : LinkReader) (l : List ℕ) (room : ℕ) → answered (wake_call x l room) ≡ wake_says x l room
unfolding wake_call selecting
wake_says_law x l room =
    tested_says (is_new_in x.link x.reader) x [] room (selecting (wake_turn x.reader l) []) (decline_if (not (valid_bytes l)) 6 (giving (7 ∷ [])))
    (λ e. wake_turn_says x.reader l ∙ ap (decline_if (not (valid_bytes l)) 6) (wakes_seven (uid_of l)))

-- ---- RATS

rats_bits : (i : ℕ) → length (rats i) ≡ 36
unfolding rats with_crc crc_bytes standard air_byte bits_of
rats_bits i = refl

rats_says_law : (x : LinkReader) (index room : ℕ) → answered (rats_call x index room) ≡ rats_says x index room
unfolding rats_call
rats_says_law x index room =
    tested_says (rats_due x.link x.reader) x [] room _ (decline_if (ltb 8 index) 6 (giving (36 ∷ []))) (λ e. go (ltb 8 index))
  where
    go : (t : Bool)
        → answered (cond t (called x (declined_by x.link Argument) [] []) (called (record { reader = x.reader; link = RatsSent index }) (Blocks (length (rats index)) Quiet) (rats index) []))
        ≡ decline_if t 6 (giving (36 ∷ []))
    go true = declined_says x.link Argument x.reader
    go false = ap (λ n. giving (n ∷ [])) (rats_bits index)

-- ---- a message

send_linked : (r : Reader) (l : ReaderLink) (m : List ℕ) → is_open l.phase ≡ true
    → answered (linking r (reader_send l m [])) ≡ decline_if (ltb message_max (length m)) 10 (giving (length (linking r (reader_send l m [])).sent ∷ []))
unfolding linking reader_send reader_starts reader_out reader_i
send_linked r l m o = go (leb (length m) message_max) refl
  where
    go : (t : Bool) → leb (length m) message_max ≡ t
        → answered (linking r (reader_send l m [])) ≡ decline_if (ltb message_max (length m)) 10 (giving (length (linking r (reader_send l m [])).sent ∷ []))
    go true e = rw (o, e, le-ltb message_max (length m) (leb-true (length m) message_max e))
    go false e = rw (o, e, lt-ltb message_max (length m) (leb-false (length m) message_max e))

send_in_law : (k : Link) (x : LinkReader) (m : List ℕ) → between k ≡ true
    → answered (send_in k x m) ≡ decline_if (ltb message_max (length m)) 10 (giving (length (send_in k x m).sent ∷ []))
send_in_law (Linked l) x m e = send_linked x.reader l m e
send_in_law NoLink x m e = absurd (false≢true e)
send_in_law (RatsSent i) x m e = absurd (false≢true e)

send_says_law : (x : LinkReader) (m : List ℕ) (room : ℕ) → answered (send_call x m room) ≡ send_says x m room
unfolding send_call
send_says_law x m room = tested_says (between x.link) x [] room (send_in x.link x m) _ (send_in_law x.link x m)

-- ---- DESELECT

deselect_linked : (r : Reader) (l : ReaderLink) → is_open l.phase ≡ true → answered (linking r (reader_deselect l [])) ≡ giving (27 ∷ [])
unfolding linking reader_deselect reader_parts reader_out with_crc crc_bytes standard air_byte bits_of
deselect_linked r l o = rw o

deselect_in_law : (k : Link) (x : LinkReader) → between k ≡ true → answered (deselect_in k x) ≡ giving (27 ∷ [])
deselect_in_law (Linked l) x e = deselect_linked x.reader l e
deselect_in_law NoLink x e = absurd (false≢true e)
deselect_in_law (RatsSent i) x e = absurd (false≢true e)

deselect_says_law : (x : LinkReader) (room : ℕ) → answered (deselect_call x room) ≡ deselect_says x room
unfolding deselect_call
deselect_says_law x room = tested_says (between x.link) x [] room (deselect_in x.link x) (giving (27 ∷ [])) (deselect_in_law x.link x)

-- ---- a row

hear_says_law : (x : LinkReader) (h m buffer : List ℕ) (room : ℕ) → answered (hear_call x h m buffer room) ≡ hear_says x h m buffer room
unfolding hear_call
hear_says_law x h m buffer room =
    tested_says (frame_due x.link x.reader) x buffer room (hears_in x.link x.reader h m buffer) (answered (hears_in x.link x.reader h m buffer)) (λ e. refl)

-- ---- what is handed back says it

abbrev Said2 : Called → LinkTurn → List ℕ → List ℕ → Said → Type 0
Said2 o t out out' s = (t ≡ o.turn) × ((out' ≡ overlay out 0 o.sent) × (link_turn_says t ≡ s))

two_said : (out : List ℕ) (o : Called) (s : Said) → answered o ≡ s → {t : LinkTurn} {out' : List ℕ} → Two o t out out' → Said2 o t out out' s
two_said out o s e h = (h.0, (h.1, ap (λ t. link_turn_says t) h.0 ∙ e))

module _ (x : LinkReader) (out : List ℕ) {t : LinkTurn} {out' : List ℕ} where
  pub start_said : (s : Bool) → Two (start_call s x (length out)) t out out' → Said2 (start_call s x (length out)) t out out' (start_says x (length out))
  start_said s h = two_said out (start_call s x (length out)) (start_says x (length out)) (start_says_law s x (length out)) h

  pub wake_said : (l : List ℕ) → Two (wake_call x l (length out)) t out out' → Said2 (wake_call x l (length out)) t out out' (wake_says x l (length out))
  wake_said l h = two_said out (wake_call x l (length out)) (wake_says x l (length out)) (wake_says_law x l (length out)) h

  pub rats_said : (index : ℕ) → Two (rats_call x index (length out)) t out out' → Said2 (rats_call x index (length out)) t out out' (rats_says x index (length out))
  rats_said index h = two_said out (rats_call x index (length out)) (rats_says x index (length out)) (rats_says_law x index (length out)) h

  pub send_said : (m : List ℕ) → Two (send_call x m (length out)) t out out' → Said2 (send_call x m (length out)) t out out' (send_says x m (length out))
  send_said m h = two_said out (send_call x m (length out)) (send_says x m (length out)) (send_says_law x m (length out)) h

  pub deselect_said : Two (deselect_call x (length out)) t out out' → Said2 (deselect_call x (length out)) t out out' (deselect_says x (length out))
  deselect_said h = two_said out (deselect_call x (length out)) (deselect_says x (length out)) (deselect_says_law x (length out)) h

  pub hear_said : (f m buffer : List ℕ) {b' : List ℕ} → Three (hear_call x f m buffer (length out)) t b' out out'
      → (t ≡ (hear_call x f m buffer (length out)).turn) × ((b' ≡ (hear_call x f m buffer (length out)).buffer)
      × ((out' ≡ overlay out 0 (hear_call x f m buffer (length out)).sent) × (link_turn_says t ≡ hear_says x f m buffer (length out))))
  hear_said f m buffer h = (h.0, (h.1.0, (h.1.1, ap (λ t. link_turn_says t) h.0 ∙ hear_says_law x f m buffer (length out))))
