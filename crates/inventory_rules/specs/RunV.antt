-- Document 02, T-10: a round of an inventory over the rules: each frame follows by the reader's rules from what was heard before it, every tag takes it by the
-- tag's rules, and the reader hears their merged bits. No tag's memory or locks are looked at by an inventory, so that none are named.
use Rattle.std.specs.Prelude.{ℕ, zero, suc, cond, List, [], ◌∷◌, map, eqb}
use Rattle.field.specs.Merge.{merge}
use Rattle.tag.specs.Tag.{takes, answers, takes_eof, answers_eof}
use Rattle.reader_v.specs.ReaderV.{hear}
use Rattle.reader_v.specs.CallsV.{round_frame}
use Rattle.refusal.specs.Refusal.{number_of}
use Rattle.selection_b.specs.declared.Held.{Held}
use Rattle.request_v.specs.declared.Tag.{Tag}
use Rattle.reader_v.specs.declared.ReaderV.{ReaderV}
use Rattle.reader_v.specs.declared.AnswerR.{AnswerR}
use Rattle.reader_v.specs.declared.AnswerR.TheVariants.{Sends, NextSlot, NextRound, Ends, Quieted, Data, Done, TagError, Declines}
use Rattle.reader_v.specs.declared.TurnV.{TurnV}

-- what a slot held: no tag, one or more, and the one's DSFID and UID, else zeros
pub record Told : Type 0 where
  pub held : Held
  pub dsfid : ℕ
  pub uid : List ℕ

-- what each slot held, in order; the tags at the end; the reader; and the number of a refusal, 0 for none
pub record Out : Type 0 where
  pub slots : List Told
  pub tags : List Tag
  pub reader : ReaderV
  pub number : ℕ

unfoldable pub before : Told → Out → Out
before s o = record { slots = s ∷ o.slots; tags = o.tags; reader = o.reader; number = o.number }

unfoldable pub ended : List Tag → ReaderV → ℕ → Out
ended ts r n = record { slots = []; tags = ts; reader = r; number = n }

abbrev pub tells : Held → TurnV → Told
tells k t = record { held = k; dsfid = t.dsfid; uid = t.uid }

-- in a round's first slot its request is out, in every other an EOF
unfoldable pub heard_of : ReaderV → List Tag → List ℕ
heard_of r ts = cond (eqb r.slot 0) (merge (map (λ t. answers t [] [] (round_frame r.round)) ts)) (merge (map answers_eof ts))

unfoldable pub tags_after : ReaderV → List Tag → List Tag
tags_after r ts = cond (eqb r.slot 0) (map (λ t. takes t [] (round_frame r.round)) ts) (map takes_eof ts)

-- the run goes on while requests or EOFs go out
abbrev pub follow : AnswerR → TurnV → List Tag → Out → Out
follow Sends t ts o = ended ts t.reader 0
follow (NextSlot k) t ts o = before (tells k t) o
follow (NextRound k) t ts o = before (tells k t) o
follow (Ends k) t ts o = before (tells k t) (ended ts t.reader 0)
follow Quieted t ts o = ended ts t.reader 0
follow (Data n) t ts o = ended ts t.reader 0
follow Done t ts o = ended ts t.reader 0
follow (TagError e) t ts o = ended ts t.reader 0
follow (Declines e) t ts o = ended ts t.reader (number_of e)

-- a reader whose frame is out, and the field: what comes of it in so many frames
unfoldable pub run : ℕ → ReaderV → List Tag → Out
run zero r ts = ended ts r 0
run (suc n) r ts =
    let t : TurnV = hear r (heard_of r ts) in
    follow t.answer t (tags_after r ts) (run n t.reader (tags_after r ts))
