-- The log of a sweep over cards of one kind comes out clean, with that sweep's list. Assumes nothing.
use Rattle.std.specs.Prelude.{◌≡◌, ℕ, zero, suc, ◌+◌, ◌≤◌, Bool, true, false, cond, ◌&&◌, ◌||◌, eqb, leb, length, take, drop, Ok}
use Rattle.std.proofs.Math.Path.{refl, ap}
use Rattle.std.proofs.Common.{sym, ◌∙◌, arith, length-append, zero-add, length-take-le, take-take, leb-true, le-ltb}
use Rattle.std.proofs.lemmas.Bool.{false≢true}
use mathlib.Core.List.{List, [], ◌∷◌, ◌++◌, map, cons≢nil}
use Rattle.std.proofs.lemmas.List.{length-map}
use Rattle.std.proofs.Math.Seq.{take-nil}
use Rattle.rows.specs.EachLaws.{all_zip, all_weaken, all_map}
use Rattle.rows.specs.ListLaws.{both}
use Rattle.rows.specs.Rows.{All, any, same, is_nil, clean}
use Rattle.limits.specs.Limits.{most_cards, most_frames, log_room}
use Rattle.frame.specs.Frame.{air_bits}
use Rattle.uid.specs.SortLaws.{all_sort}
use Rattle.uid.specs.Uid.{byte_count, uid_bytes, level, levels_of, levels, air, row_of, falling, valid}
use Rattle.uid.specs.UidLaws.{name, name_row}
use Rattle.reader.specs.Reader.{blank, sends, frame, hear}
use Rattle.field.specs.Field.{all_take, heard_from}
use Rattle.air_log.specs.Calls.{tick_size}
use Rattle.air_log.specs.Log.{Exchange, tick_bytes, sent_record, heard_record, exchange_bytes, log_bytes}
use Rattle.air_log.proofs.RecordLaws.{length_sent, length_heard_clean, length_heard_collided, length_tick}
use Rattle.sweep_rules.specs.Demand.{Typed, idle, Demand3}
use Rattle.sweep_rules.specs.Run.{before, finding, ended, follow, run_of, run, sweep}
use Rattle.sweep_rules.specs.Terms.{is_idle, is_halt, card_fits, all_fit, apart, within}
use Rattle.sweep_rules.proofs.Abstract.{sort, Apart}
use Rattle.sweep_rules.proofs.Demand3.{demand3, length_falling, apart_idles, length_idles, few_idles}
use Rattle.sweep_rules.proofs.Idle.{Fits, idlers, idles, row_in, all_idle}
use Rattle.sweep_rules.proofs.IdleRows.{whole_idles}
use Rattle.sweep_rules.proofs.Round.{speaks}
use Rattle.sweep_rules.proofs.Sweep.{frames_small}
use Rattle.sweep_rules.proofs.Within.{Within, within_says}
use Rattle.card.specs.declared.Card.{Card}
use Rattle.card.specs.declared.CardState.{CardState}
use Rattle.card.specs.declared.CardState.TheVariants.{Off, Idle, Ready, Active, Halt, ReadyStar, ActiveStar, Protocol}
use Rattle.uid.specs.declared.Uid.{Uid}
use Rattle.uid.specs.declared.UidSize.{UidSize}
use Rattle.uid.specs.declared.UidSize.TheVariants.{Single, Double, Triple}
use Rattle.reader.specs.declared.Answer.{Answer}
use Rattle.reader.specs.declared.Answer.TheVariants.{Sends, Finds, Selects, Finishes, Declines}
use Rattle.reader.specs.declared.Phase.TheVariants.{ReqaSent}
use Rattle.reader.specs.declared.Turn.{Turn}
use Rattle.trace_rules.specs.Trace.{stamp_size, start, walk}
use Rattle.trace_rules.specs.Check.{cards_of, check_log, check}
use Rattle.trace_rules.proofs.ContentLaws.{uids, listing, listed_by, Comes, follows, no_difference}
use Rattle.trace_rules.proofs.FollowLaws.{Readable}
use Rattle.trace_rules.proofs.KindRunLaws.{item, told, kinds_listed}
use Rattle.trace_rules.proofs.MatchLaws.{Rests, Pairs, mirror_of}
use Rattle.trace_rules.proofs.MirrorLaws.{Twin, Mirror, mirror_run}
use Rattle.trace_rules.specs.Promise.{LogOf, InputOf}
use Rattle.trace_rules.proofs.ReadableLaws.{run_readable}
use Rattle.trace_rules.proofs.SweptLaws.{Sweeping, Stays, hear_stays, begin_sweeping}
use Rattle.trace_rules.specs.declared.Checked.{Checked}

-- ---- a UID's bytes tell its levels

part : (k n : ℕ) (l : List ℕ) → drop k (take (k + n) l) ≡ take n (drop k l)
part zero n l = ap (λ i. take i l) (zero-add n)
part (suc k) n [] = let e : suc k + n ≡ suc (k + n) = omega arith in rw e (sym (take-nil n))
part (suc k) n (x ∷ l) = let e : suc k + n ≡ suc (k + n) = omega arith in rw e (part k n l)

size_tells : (y z : UidSize) → byte_count y ≡ byte_count z → y ≡ z
size_tells Single Single e = refl
size_tells Double Double e = refl
size_tells Triple Triple e = refl
size_tells Single Double e = absurd (omega arith)
size_tells Single Triple e = absurd (omega arith)
size_tells Double Single e = absurd (omega arith)
size_tells Double Triple e = absurd (omega arith)
size_tells Triple Single e = absurd (omega arith)
size_tells Triple Double e = absurd (omega arith)

count_small : (z : UidSize) → byte_count z ≤ 10
count_small Single = omega arith
count_small Double = omega arith
count_small Triple = omega arith

levels_tell : (z : UidSize) (u v : List ℕ) → take (byte_count z) u ≡ take (byte_count z) v → levels_of z u ≡ levels_of z v
levels_tell Single u v e = ap (λ s. level s ∷ []) e
levels_tell Double u v e =
    let a : take 3 u ≡ take 3 v = sym (take-take 3 7 u (omega arith)) ∙ ap (take 3) e ∙ take-take 3 7 v (omega arith) in
    let b : take 4 (drop 3 u) ≡ take 4 (drop 3 v) = sym (part 3 4 u) ∙ ap (drop 3) e ∙ part 3 4 v in
    rw (a, b)
levels_tell Triple u v e =
    let a : take 3 u ≡ take 3 v = sym (take-take 3 10 u (omega arith)) ∙ ap (take 3) e ∙ take-take 3 10 v (omega arith) in
    let six : take 6 u ≡ take 6 v = sym (take-take 6 10 u (omega arith)) ∙ ap (take 6) e ∙ take-take 6 10 v (omega arith) in
    let b : take 3 (drop 3 u) ≡ take 3 (drop 3 v) = sym (part 3 3 u) ∙ ap (drop 3) six ∙ part 3 3 v in
    let c : take 4 (drop 6 u) ≡ take 4 (drop 6 v) = sym (part 6 4 u) ∙ ap (drop 6) e ∙ part 6 4 v in
    rw (a, b, c)

uid_tells : (u v : Uid) → length u.bytes ≡ 10 → length v.bytes ≡ 10 → uid_bytes u ≡ uid_bytes v → (u.size ≡ v.size) × (levels u ≡ levels v)
unfolding uid_bytes levels
uid_tells u v p q e =
    let m : length (take (byte_count u.size) u.bytes) ≡ byte_count u.size = length-take-le (byte_count u.size) u.bytes (omega (arith, count_small u.size)) in
    let n : length (take (byte_count v.size) v.bytes) ≡ byte_count v.size = length-take-le (byte_count v.size) v.bytes (omega (arith, count_small v.size)) in
    let s : u.size ≡ v.size = size_tells u.size v.size (sym m ∙ ap length e ∙ n) in
    (s, ap (λ z. levels_of z u.bytes) s ∙ levels_tell v.size u.bytes v.bytes (ap (λ z. take (byte_count z) u.bytes) (sym s) ∙ e))

-- ---- what a run lists

listing_found : (k : ℕ) (t : Turn) (F : List Card) → uids (listing k t F) ≡ (run k t F).found
unfolding listing run run_of before finding ended uids
listing_found zero t F = refl
listing_found (suc k) t F = go t'.answer (listing_found k t' (all_take (frame t.reader) F))
  where
    t' : Turn
    t' = hear t.reader (heard_from (frame t.reader) F)

    go : (y : Answer) → uids (listing k t' (all_take (frame t.reader) F)) ≡ (run k t' (all_take (frame t.reader) F)).found
        → uids (listed_by y t'.reader (listing k t' (all_take (frame t.reader) F))) ≡ (follow y t' (all_take (frame t.reader) F) (run k t' (all_take (frame t.reader) F))).found
    go (Sends n) ih = ih
    go (Finds n) ih = ap (λ s. uid_bytes t'.reader.uid ∷ s) ih
    go Selects ih = refl
    go Finishes ih = refl
    go (Declines e) ih = refl

-- idle, with ten bytes
record Plain (g : Card) : Type 0 where
  ten : length g.uid.bytes ≡ 10
  idle_is : g.state ≡ Idle

listing_plain : (k : ℕ) (t : Turn) (F : List Card) → Sweeping t.reader → All Plain (listing k t F)
unfolding listing
listing_plain zero t F s = tt
listing_plain (suc k) t F s = go t'.answer (hear_stays t.reader s (heard_from (frame t.reader) F)) (λ q. listing_plain k t' (all_take (frame t.reader) F) q)
  where
    t' : Turn
    t' = hear t.reader (heard_from (frame t.reader) F)

    go : (y : Answer) → Stays (record { reader = t'.reader; answer = y }) → (Sweeping t'.reader → All Plain (listing k t' (all_take (frame t.reader) F)))
        → All Plain (listed_by y t'.reader (listing k t' (all_take (frame t.reader) F)))
    go (Sends n) q ih = ih q
    go (Finds n) q ih = (record { ten = q.ten; idle_is = refl }, ih q)
    go Selects q ih = tt
    go Finishes q ih = tt
    go (Declines e) q ih = tt

-- ---- a field within the terms

fits_rest : (cs : List Card) → all_fit cs ≡ true → All Rests cs
unfolding all_fit card_fits
fits_rest [] h = tt
fits_rest (c ∷ cs) h =
    let p = both (valid c.uid && leb c.index 8 && (is_idle c.state || is_halt c.state)) (all_fit cs) h in
    ((both (valid c.uid && leb c.index 8) (is_idle c.state || is_halt c.state) p.0).1, fits_rest cs p.1)

few_idle : (cs : List Card) → length (idle cs) ≤ length cs
unfolding idle
few_idle [] = omega arith
few_idle (c ∷ cs) = go (is_idle c.state) (few_idle cs)
  where
    go : (b : Bool) → length (idle cs) ≤ length cs → length (cond b (c.uid ∷ idle cs) (idle cs)) ≤ suc (length cs)
    go true h = omega arith
    go false h = omega arith

any_uids : (v : List ℕ) (G : List Card) → any (same v) (uids G) ≡ any (λ g. same v (uid_bytes g.uid)) G
unfolding any uids
any_uids v [] = refl
any_uids v (g ∷ G) = ap (λ b. same v (uid_bytes g.uid) || b) (any_uids v G)

idle_state : (s : CardState) → is_idle s ≡ true → s ≡ Idle
idle_state Off e = absurd (false≢true e)
idle_state Idle e = refl
idle_state (Ready l) e = absurd (false≢true e)
idle_state Active e = absurd (false≢true e)
idle_state Halt e = absurd (false≢true e)
idle_state (ReadyStar l) e = absurd (false≢true e)
idle_state ActiveStar e = absurd (false≢true e)
idle_state (Protocol i) e = absurd (false≢true e)

-- a log has at least a byte for each exchange
log_long : (w : ℕ) (es : List Exchange) (l : List ℕ) → LogOf w es l → length es ≤ length l
log_long w [] l b = omega arith
log_long w (e ∷ es) l b =
    let s : List ℕ = sent_record b.sent_stamp e.sent in
    let q : List ℕ = heard_record b.heard_stamp e.heard ++ b.rest in
    omega (arith, ap length b.bytes, length-append s q, length-append (heard_record b.heard_stamp e.heard) b.rest, length_sent b.sent_stamp e.sent, log_long w es b.rest b.behind)

-- what holds of the idle cards
of_idle : (G : Card → Type 0) (cs : List Card) → All G (idlers cs) → All (λ c. is_idle c.state ≡ true → G c) cs
unfolding idlers
of_idle G [] h = tt
of_idle G (c ∷ cs) h = go (is_idle c.state) h (of_idle G cs)
  where
    go : (b : Bool) → All G (cond b (c ∷ idlers cs) (idlers cs)) → (All G (idlers cs) → All (λ c. is_idle c.state ≡ true → G c) cs) → (b ≡ true → G c) × All (λ c. is_idle c.state ≡ true → G c) cs
    go true h ih = (λ e. h.0, ih h.1)
    go false h ih = (λ e. absurd (false≢true e), ih h)

-- cards listed by their rows: the one with a row's name is of its kind
same_kind : (kind : List ℕ → Bool) (u r : List ℕ) (G : List Card) (S : List (List ℕ)) → map item G ≡ map (λ P. (name P, kind P)) S → All (λ P. name P ≡ u → P ≡ r) S
    → All (λ g. u ≡ uid_bytes g.uid → kind r ≡ g.blocks) G
same_kind kind u r [] S e a = tt
same_kind kind u r (g ∷ G) [] e a = absurd (cons≢nil e)
same_kind kind u r (g ∷ G) (P ∷ S) e a =
    let h : item g ≡ (name P, kind P) = cc in
    let t : map item G ≡ map (λ P. (name P, kind P)) S = cc in
    ((λ x. ap kind (sym (a.0 (sym (ap (λ z. z.0) h) ∙ sym x))) ∙ sym (ap (λ z. z.1) h)), same_kind kind u r G S t a.1)

-- REQA is out
abbrev first : Turn
first = sends (blank ReqaSent true)

first_sweeping : Sweeping first.reader
unfolding sends
first_sweeping = begin_sweeping

module _ (cs : List Card) (typed : All Typed cs) (terms : within cs ≡ true) where
  D : Demand3 cs (sweep cs)
  D = demand3 cs typed terms

  -- the parts of the terms
  parts : (leb (length cs) most_cards ≡ true) × (all_fit cs ≡ true) × (apart cs ≡ true)
  unfolding within
  parts =
      let p = both (leb (length cs) most_cards && all_fit cs) (apart cs) terms in
      let q = both (leb (length cs) most_cards) (all_fit cs) p.0 in
      (q.0, q.1, p.1)

  limit : length (sweep cs).found ≤ most_cards
  limit = rw (D.found, length-map (falling (idle cs)) uid_bytes, length_falling (idle cs)) (omega (arith, few_idle cs, leb-true (length cs) most_cards parts.0))

  -- the cards that a check of its log lists
  G : List Card
  G = listing most_frames first cs

  uids_are : uids G ≡ (sweep cs).found
  unfolding G sweep
  uids_are = listing_found most_frames first cs

  readable : All Readable (sweep cs).exchanges
  unfolding sweep
  readable = run_readable most_frames first cs first_sweeping (unfold sweep in D.short 0)

  module _ (w : ℕ) (l : List ℕ) (log : LogOf w (sweep cs).exchanges l) where
    out : Checked
    out = walk (suc (length l)) w l 0 start

    comes : Comes w l (sweep cs).found D.once limit most_frames first cs start out
    unfolding out sweep start sends uids
    comes =
        follows w l (sweep cs).found D.once limit most_frames first cs (suc (length l)) 0 start
        (record { same_reader_law = refl; is_out = tt; full = refl; few = omega arith; log = log; readable = readable; ends_well = D.finished; list = refl })
        (omega (arith, log_long w (sweep cs).exchanges l log))

    cards_are : cards_of out ≡ G
    unfolding G start
    cards_are = comes.cards

    cards_log : cards_of (check_log w l) ≡ G
    unfolding check_log out
    cards_log = rw comes.clean cards_are

    -- that sweep's list, whatever the SAKs
    pub listed_uids : map (λ d. uid_bytes d.uid) (cards_of (check_log w l)) ≡ (sweep cs).found
    unfolding uids
    listed_uids = rw cards_log uids_are

    module _ (m : Mirror cs G) where
      same_sweep : (sweep (cards_of out)).exchanges ≡ (sweep cs).exchanges
      unfolding sweep
      same_sweep = rw cards_are (sym (mirror_run most_frames first cs G first_sweeping m))

      clean_log : (check_log w l).verdict ≡ Ok tt
      unfolding check_log out
      clean_log = rw (comes.clean, same_sweep) (no_difference w l 0 (sweep cs).exchanges 0 readable log)

  -- ---- the kinds

  fit : Within cs
  fit = within_says cs typed terms

  apart_rows : Apart (idles cs)
  apart_rows = apart_idles cs fit.fits fit.few fit.differ

  kind : List ℕ → Bool
  kind P = speaks P (idlers cs)

  told_idle : All (λ c. kind (row_in c) ≡ c.blocks) (idlers cs)
  unfolding kind
  told_idle = told (idlers cs) (unfold idles in apart_rows)

  items : map item G ≡ map (λ P. (name P, kind P)) (sort (idles cs))
  unfolding G
  items =
      kinds_listed most_frames cs kind fit.fits told_idle apart_rows
      (frames_small most_cards (idles cs) (whole_idles cs fit.fits) (omega (arith, length_idles cs fit.fits fit.few fit.differ, few_idles cs fit.fits fit.few fit.differ)))

  -- a row that has the name of a card is its row
  rows_tell : (c : Card) → Typed c → All (λ P. name P ≡ uid_bytes c.uid → P ≡ row_in c) (idles cs)
  unfolding idles row_of
  rows_tell c t =
      all_map {F = Fits} (λ P. name P ≡ uid_bytes c.uid → P ≡ row_in c) row_in (idlers cs)
      (λ d h e. ap (λ l. air (map air_bits l)) (uid_tells d.uid c.uid h.sound.ten t.ten (sym (unfold row_of in name_row d.uid h.sound) ∙ e)).1) (all_idle Fits cs fit.fits)

  blocks_tell : (c : Card) → Typed c → All (λ g. uid_bytes c.uid ≡ uid_bytes g.uid → kind (row_in c) ≡ g.blocks) G
  blocks_tell c t = same_kind kind (uid_bytes c.uid) (row_in c) G (sort (idles cs)) items (all_sort (λ s. s) (λ P. name P ≡ uid_bytes c.uid → P ≡ row_in c) (idles cs) (rows_tell c t))

  twins : (c : Card) → Typed c → (is_idle c.state ≡ true → kind (row_in c) ≡ c.blocks) → (g : Card) → Plain g → (uid_bytes c.uid ≡ uid_bytes g.uid → kind (row_in c) ≡ g.blocks)
      → is_idle c.state ≡ true → uid_bytes c.uid ≡ uid_bytes g.uid → Twin c g
  twins c t k g p q e u =
      let z = uid_tells c.uid g.uid t.ten p.ten u in
      record { levels_same = z.1; size_same = z.0; blocks_same = sym (k e) ∙ q u; state_same = idle_state c.state e ∙ sym p.idle_is }

  plain_listed : All Plain G
  unfolding G
  plain_listed = listing_plain most_frames first cs first_sweeping

  pairs : Pairs cs G
  pairs =
      all_zip {F = Typed} {G = λ c. is_idle c.state ≡ true → kind (row_in c) ≡ c.blocks} cs
      (λ c t k. all_zip {F = Plain} {G = λ g. uid_bytes c.uid ≡ uid_bytes g.uid → kind (row_in c) ≡ g.blocks} G (λ g p q. twins c t k g p q) plain_listed (blocks_tell c t))
      typed (of_idle (λ c. kind (row_in c) ≡ c.blocks) cs told_idle)

  mirrored : Mirror cs G
  mirrored =
      mirror_of cs G (fits_rest cs parts.1) parts.2 (rw uids_are D.once)
      (λ v. sym (D.exactly v) ∙ ap (any (same v)) (sym uids_are) ∙ any_uids v G) pairs

  pub listed_kinds : (w : ℕ) (l : List ℕ) → LogOf w (sweep cs).exchanges l
      → All (λ d. All (λ g. is_idle d.state ≡ true → uid_bytes d.uid ≡ uid_bytes g.uid → d.blocks ≡ g.blocks) (cards_of (check_log w l))) cs
  listed_kinds w l log = rw (cards_log w l log) (all_weaken cs (λ d h. all_weaken G (λ g q e u. (q e u).blocks_same) h) pairs)

  pub comes_clean : (w : ℕ) (l : List ℕ) → LogOf w (sweep cs).exchanges l → (check_log w l).verdict ≡ Ok tt
  comes_clean w l log = clean_log w l log mirrored

-- ---- the input

heard_length : (x y h : List ℕ) → length (heard_record x h) + length y ≡ length (heard_record y h) + length x
heard_length x y h = go (clean h) refl
  where
    go : (c : Bool) → clean h ≡ c → length (heard_record x h) + length y ≡ length (heard_record y h) + length x
    go true c = omega (arith, length_heard_clean x h c, length_heard_clean y h c)
    go false c = omega (arith, length_heard_collided x h c, length_heard_collided y h c)

-- a log is no longer than the one with ticks
log_short : (w : ℕ) → w ≤ 4 → (t : ℕ) (es : List Exchange) (l : List ℕ) → LogOf w es l → length l ≤ length (log_bytes t es)
unfolding log_bytes exchange_bytes
log_short w m t [] l b = rw b (omega arith)
log_short w m t (e ∷ es) l b =
    let x : List ℕ = b.sent_stamp in
    let y : List ℕ = b.heard_stamp in
    let s : List ℕ = sent_record x e.sent in
    let h : List ℕ = heard_record y e.heard in
    let s' : List ℕ = sent_record (tick_bytes t) e.sent in
    let h' : List ℕ = heard_record (tick_bytes (t + 1)) e.heard in
    omega (
      arith,
      ap length b.bytes,
      length-append s (h ++ b.rest),
      length-append h b.rest,
      length-append (s' ++ h') (log_bytes (t + 2) es),
      length-append s' h',
      length_sent x e.sent,
      length_sent (tick_bytes t) e.sent,
      heard_length y (tick_bytes (t + 1)) e.heard,
      length_tick t,
      length_tick (t + 1),
      b.sent_wide,
      b.heard_wide,
      log_short w m (t + 2) es b.rest b.behind,
    )

stamp_small : (m : ℕ) → stamp_size m ≤ 4
stamp_small m = go (eqb m 0)
  where
    go : (b : Bool) → cond b 0 tick_size ≤ 4
    go true = omega arith
    go false = omega arith

-- the check of such an input is that of its log
pub input_log : (cs : List Card) → All Typed cs → within cs ≡ true → (s : List ℕ) → (i : InputOf (sweep cs).exchanges s) → check s ≡ check_log (stamp_size i.mode) i.log
unfolding check is_nil
input_log cs t w s i =
    let k : length i.log ≤ log_room = omega (arith, log_short (stamp_size i.mode) (stamp_small i.mode) 0 (sweep cs).exchanges i.log i.records, (demand3 cs t w).log_fits 0) in
    rw (i.input, le-ltb (suc log_room) (suc (length i.log)) (omega arith), le-ltb 1 i.mode i.mode_ok)
