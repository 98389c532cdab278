-- Document 02, T-10, of the claim: one round of 16 slots "over tags with different 64-bit UIDs, none selected, and a channel that only merges bits". Which tags
-- are to be heard, and in which slot.
use Rattle.std.specs.Prelude.{◌≡◌, ℕ, zero, suc, ◌+◌, ◌<◌, Bool, true, false, cond, not, ◌&&◌, List, [], ◌∷◌, ◌++◌, map, length, take, replicate, eqb}
use Rattle.rows.specs.Rows.{Bytes, any, same, fill}
use Rattle.parity.specs.Bits.{bits_of}
use Rattle.frame.specs.Frame.{air_bits, bytes_of}
use Rattle.selection_b.specs.TakenB.{admits}
use Rattle.request_v.specs.Flags.{listens}
use Rattle.request_v.specs.Inventory.{slot_of}
use Rattle.reader_v.specs.ReaderV.{is_more}
use Rattle.sent_v.specs.declared.Round.{Round}
use Rattle.selection_b.specs.declared.Held.TheVariants.{None, One, More}
use Rattle.request_v.specs.declared.Tag.{Tag}
use Rattle.request_v.specs.declared.StateV.{StateV}
use Rattle.request_v.specs.declared.StateV.TheVariants.{Off, Ready, Quiet, Selected}
use Rattle.inventory_rules.specs.RunV.{Told}

-- ---- the terms

-- "none selected", and none in a round that another reader left open
abbrev pub rests : StateV → Bool
rests Off = true
rests (Ready w) = eqb w 0
rests Quiet = true
rests (Selected w) = false

-- what its type says of a tag's bytes
pub record Typed (t : Tag) : Type 0 where
  pub eight : length t.uid ≡ 8
  pub bytes : Bytes t.uid
  pub dsfid : t.dsfid < 256

-- .. and of a round's
pub record TypedRound (k : Round) : Type 0 where
  pub eight : length k.mask ≡ 8
  pub bytes : Bytes k.mask
  pub afi : k.afi < 256

-- no UID is there twice
unfoldable pub apart : List Tag → Bool
apart [] = true
apart (t ∷ ts) = not (any (λ u. same t.uid u.uid) ts) && apart ts

-- ---- what is to be heard

-- a ready tag that the AFI admits and the mask fits
unfoldable pub takes_part : Round → Tag → Bool
takes_part k t =
    listens t.state
    && (cond k.asks (t.supports && admits k.afi t.afi) true && same (take k.len (air_bits k.mask)) (take k.len (air_bits t.uid)))

-- its slot, 0 to 15; 16 of a tag that takes no part
unfoldable pub place : Round → Tag → ℕ
place k t = cond (takes_part k t) (slot_of t.uid k.len) 16

-- the tags of slot s
unfoldable pub in_slot : Round → ℕ → List Tag → List Tag
in_slot k s [] = []
in_slot k s (t ∷ ts) = cond (eqb (place k t) s) (t ∷ in_slot k s ts) (in_slot k s ts)

-- what is to be told of a slot that holds these tags
abbrev pub told_of : List Tag → Told
told_of [] = record { held = None; dsfid = 0; uid = replicate 8 0 }
told_of (t ∷ []) = record { held = One; dsfid = t.dsfid; uid = t.uid }
told_of (t ∷ u ∷ ts) = record { held = More; dsfid = 0; uid = replicate 8 0 }

-- n slots from slot s on
unfoldable pub slots_from : ℕ → ℕ → List ℕ
slots_from s zero = []
slots_from s (suc n) = s ∷ slots_from (s + 1) n

-- ---- a sweep

-- the round with mask bits m
unfoldable pub round_at : Bool → ℕ → List ℕ → Round
round_at asks afi m = record { one = false; asks = asks; afi = afi; len = length m; mask = bytes_of 8 (fill 64 m) }

unfoldable pub flat {ℓ} : {A : Type ℓ} → List (List A) → List A
flat [] = []
flat (x ∷ l) = x ++ flat l

-- what is to be told of the tags that the mask m fits, d half bytes of the UID being left: "a round is finished, then its met slots are taken in rising order,
-- each to its end"
unfoldable pub sweep_told : Bool → ℕ → ℕ → List ℕ → List Tag → List Told
sweep_told asks afi zero m ts = []
sweep_told asks afi (suc d) m ts =
    map (λ s. told_of (in_slot (round_at asks afi m) s ts)) (slots_from 0 16)
    ++ flat (map (λ s. cond (is_more (told_of (in_slot (round_at asks afi m) s ts)).held) (sweep_told asks afi d (m ++ bits_of 4 s) ts) []) (slots_from 0 16))
