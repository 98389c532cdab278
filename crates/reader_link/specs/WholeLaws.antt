-- The whole reader's calls, step by step. Assumes nothing.
use Rattle.std.specs.Prelude.{◌≡◌, refl, ℕ, ◌≤◌, ◌<◌, Bool, true, false, cond, List, [], length, take, ltb, Result, Ok, Err}
use Rattle.std.proofs.Math.Path.{sym}
use Rattle.std.proofs.Common.{ap, ap₂, ◌∙◌}
use borrow.Author.Tests.{lt-ltb, le-ltb}
use Rattle.limits.specs.Limits.{row_room}
use Rattle.rows.specs.Rows.{overlay}
use Rattle.rows.proofs.RowLaws.{overlay_nil}
use Rattle.frame.specs.Calls.{good_bytes}
use Rattle.refusal.specs.declared.Refusal.TheVariants.{Room, Argument, NotDue}
use Rattle.selection.specs.Selection.{rats}
use Rattle.selection.specs.Heard.{read_ats}
use Rattle.reader.specs.Reader.{hear}
use Rattle.reader.specs.declared.Reader.{Reader}
use Rattle.block.specs.declared.BlockBytes.{BlockBytes}
use Rattle.block.specs.declared.Told.TheVariants.{Quiet}
use Rattle.block.specs.Block.{block_bytes, bytes_in, behind}
use Rattle.block.specs.Cut.{part}
use Rattle.block.specs.AirLaws.{made_row}
use Rattle.block.specs.Row.{block_row, heard_row}
use Rattle.reader_blocks.specs.declared.ReaderLink.{ReaderLink}
use Rattle.reader_blocks.specs.declared.ReaderStep.{ReaderStep}
use Rattle.reader_link.specs.declared.Link.{Link}
use Rattle.reader_link.specs.declared.Link.TheVariants.{NoLink, RatsSent, Linked}
use Rattle.reader_link.specs.declared.LinkReader.{LinkReader}
use Rattle.reader_link.specs.declared.LinkAnswer.TheVariants.{Blocks}
use Rattle.reader_link.specs.declared.LinkTurn.{LinkTurn}
use Rattle.reader_blocks.specs.ReaderFrames.{reader_hears, reader_out, reader_block}
use Rattle.reader_blocks.specs.ReaderLaws.{block_bytes_law}
use Rattle.reader_link.specs.ReaderCalls.{Called, called, declined_by, tested, selecting, linked, linking, after_ats, hears_in}
use Rattle.refusal.specs.declared.Refusal.{Refusal}

-- ---- what is handed back

-- an answer and a lent row are what a definition gives; .. and a lent buffer
abbrev pub Two : Called → LinkTurn → List ℕ → List ℕ → Type 0
Two o t out out' = (t ≡ o.turn) × (out' ≡ overlay out 0 o.sent)

abbrev pub Three : Called → LinkTurn → List ℕ → List ℕ → List ℕ → Type 0
Three o t b' out out' = (t ≡ o.turn) × ((b' ≡ o.buffer) × (out' ≡ overlay out 0 o.sent))

module _ (out : List ℕ) {o p : Called} (e : o ≡ p) {t : LinkTurn} {out' : List ℕ} where
  pub two : Two o t out out' → Two p t out out'
  two h = (h.0 ∙ ap (λ o. o.turn) e, h.1 ∙ ap (λ o. overlay out 0 o.sent) e)

  pub three : {b' : List ℕ} → Three o t b' out out' → Three p t b' out out'
  three h = (h.0 ∙ ap (λ o. o.turn) e, (h.1.0 ∙ ap (λ o. o.buffer) e, h.1.1 ∙ ap (λ o. overlay out 0 o.sent) e))

-- ---- a call: 11, 1, then what is due

module _ (due : Bool) (x : LinkReader) (o : Called) (buffer out : List ℕ) {t : LinkTurn} where
  pub not_due : due ≡ false → t ≡ (called x (declined_by x.link NotDue) [] []).turn → Three (tested due x buffer (length out) o) t buffer out out
  unfolding tested
  not_due d h = rw d (h, (refl, sym (overlay_nil out 0)))

  pub no_room : due ≡ true → length out < row_room → t ≡ (called x (declined_by x.link Room) [] []).turn → Three (tested due x buffer (length out) o) t buffer out out
  unfolding tested
  no_room d n h = rw (d, lt-ltb (length out) row_room n) (h, (refl, sym (overlay_nil out 0)))

  pub is_due : {b' out' : List ℕ} → due ≡ true → row_room ≤ length out → Three o t b' out out' → Three (tested due x buffer (length out) o) t b' out out'
  unfolding tested
  is_due d n h = rw (d, le-ltb (length out) row_room n) h

-- .. of a call that is lent no buffer
module _ (due : Bool) (x : LinkReader) (o : Called) (out : List ℕ) {t : LinkTurn} where
  pub two_not_due : due ≡ false → t ≡ (called x (declined_by x.link NotDue) [] []).turn → Two (tested due x [] (length out) o) t out out
  two_not_due d h = let k = not_due due x o [] out d h in (k.0, k.1.1)

  pub two_no_room : due ≡ true → length out < row_room → t ≡ (called x (declined_by x.link Room) [] []).turn → Two (tested due x [] (length out) o) t out out
  two_no_room d n h = let k = no_room due x o [] out d n h in (k.0, k.1.1)

  pub two_is_due : {out' : List ℕ} → due ≡ true → row_room ≤ length out → Two o t out out' → Two (tested due x [] (length out) o) t out out'
  unfolding tested
  two_is_due d n h = rw (d, le-ltb (length out) row_room n) h

-- by the link, what is not due with it
pub declined_at : (g : Link → Called) (x : LinkReader) (k : Link) (out : List ℕ) {t : LinkTurn} → x.link ≡ k → g k ≡ called x (declined_by k NotDue) [] []
    → t ≡ (called x (declined_by x.link NotDue) [] []).turn → Two (g x.link) t out out
declined_at g x k out e h q = two out (sym (ap g e ∙ h ∙ ap (λ k. called x (declined_by k NotDue) [] []) (sym e))) (q, sym (overlay_nil out 0))

-- ---- a step of the link, handed back

pub finished : (r : Reader) (s : ReaderStep) (m out out' : List ℕ) (b : BlockBytes) (k : LinkReader) (bits : ℕ)
    → b ≡ bytes_in (block_bytes s.send (part s.link.card s.link.at m)) → k ≡ linked r s.link.phase s.link
    → (bits ≡ length (block_row (take b.count b.bytes))) × (out' ≡ overlay out 0 (block_row (take b.count b.bytes)))
    → Two (linking r (reader_out s m [] 0 [])) (record { reader = k; answer = Blocks bits s.told }) out out'
unfolding reader_out linking
finished r s m out out' b k bits eb ek h =
    let t = made_row b (block_bytes s.send (part s.link.card s.link.at m)) eb in
    (ap₂ (λ k n. record { reader = k; answer = Blocks n s.told }) ek (h.0 ∙ ap (λ l. length (block_row l)) t), h.1 ∙ ap (λ l. overlay out 0 (block_row l)) t)

-- ---- a row that is heard

-- what is done with a frame's bytes is done with equal ones
pub heard_as_law : (k : ReaderLink) (room len : ℕ) (buffer : List ℕ) {l g b' : List ℕ} {s : ReaderStep} → l ≡ g
    → (s ≡ reader_hears k l room len) × (b' ≡ cond s.joins (overlay buffer k.joined (behind l)) buffer)
    → (s ≡ reader_hears k g room len) × (b' ≡ cond s.joins (overlay buffer k.joined (behind g)) buffer)
heard_as_law k room len buffer {l} {g} {b'} {s} e h =
    (h.0 ∙ ap (λ l. reader_hears k l room len) e, h.1 ∙ ap (λ l. cond s.joins (overlay buffer k.joined (behind l)) buffer) e)

pub block_made : (r : Reader) (k : ReaderLink) (f m buffer out : List ℕ) (s : ReaderStep) {t : LinkTurn} {b' out' : List ℕ}
    → (s ≡ reader_hears k (good_bytes (heard_row k.own f)) (length buffer) (length m))
    × (b' ≡ cond s.joins (overlay buffer k.joined (behind (good_bytes (heard_row k.own f)))) buffer)
    → Two (linking r (reader_out s m [] 0 [])) t out out'
    → Three (linking r (reader_block k (heard_row k.own f) m buffer)) t b' out out'
unfolding linking reader_out
block_made r k f m buffer out s e h =
    let v = heard_row k.own f in
    let q : reader_out s m buffer k.joined (behind (good_bytes v)) ≡ reader_block k v m buffer =
    ap (λ s. reader_out s m buffer k.joined (behind (good_bytes v))) e.0 ∙ sym (block_bytes_law k v m buffer) in
    three out (ap (linking r) q) (h.0, (e.1, h.1))

-- ATS leaves the buffer and the lent row alone
ats_leaves : (r : Reader) (own : ℕ) (a : Result ℕ Refusal) (buffer out : List ℕ) → Three (after_ats r own a buffer) (after_ats r own a []).turn buffer out out
ats_leaves r own (Ok i) buffer out = (refl, (refl, sym (overlay_nil out 0)))
ats_leaves r own (Err e) buffer out = (refl, (refl, sym (overlay_nil out 0)))

module _ (x : LinkReader) (f m buffer out : List ℕ) {t : LinkTurn} where
  pub hears_selecting : {out' : List ℕ} → x.link ≡ NoLink → Two (selecting (hear x.reader f) []) t out out'
      → Three (hears_in x.link x.reader f m buffer) t buffer out out'
  unfolding selecting
  hears_selecting e h = rw e (h.0, (refl, h.1))

  pub hears_ats : (own : ℕ) → x.link ≡ RatsSent own → t ≡ (after_ats x.reader own (read_ats own f) []).turn
      → Three (hears_in x.link x.reader f m buffer) t buffer out out
  hears_ats own e h = let k = ats_leaves x.reader own (read_ats own f) buffer out in rw e (h ∙ k.0, k.1)

  pub hears_block : (l : ReaderLink) {b' out' : List ℕ} → x.link ≡ Linked l → Three (linking x.reader (reader_block l (heard_row l.own f) m buffer)) t b' out out'
      → Three (hears_in x.link x.reader f m buffer) t b' out out'
  hears_block l e h = rw e h

-- ---- RATS

module _ (x : LinkReader) (index : ℕ) (out : List ℕ) where
  abbrev pub sent_or_not : Called
  sent_or_not =
      cond (ltb 8 index) (called x (declined_by x.link Argument) [] [])
      (called (record { reader = x.reader; link = RatsSent index }) (Blocks (length (rats index)) Quiet) (rats index) [])

  pub rats_index : {t : LinkTurn} → 8 < index → t ≡ (called x (declined_by x.link Argument) [] []).turn → Two sent_or_not t out out
  rats_index h q = rw (lt-ltb 8 index h) (q, sym (overlay_nil out 0))

  pub rats_sent : (row out' : List ℕ) → index ≤ 8 → length row ≡ 36 → row ≡ rats index → out' ≡ overlay out 0 row
      → Two sent_or_not (record { reader = record { reader = x.reader; link = RatsSent index }; answer = Blocks 36 Quiet }) out out'
  rats_sent row out' h n s q =
      rw (le-ltb 8 index h) (ap (λ n. record { reader = record { reader = x.reader; link = RatsSent index }; answer = Blocks n Quiet }) (sym n ∙ ap length s), q ∙ ap (overlay out 0) s)
