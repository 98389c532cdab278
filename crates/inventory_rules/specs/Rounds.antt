-- A round through its slots: the reader at each, the tags, the flags of the slots in which tags met. Named by the laws only.
use Rattle.std.specs.Prelude.{ℕ, zero, suc, ◌+◌, Bool, true, false, cond, ◌&&◌, List, [], ◌∷◌, map, set, ltb}
use Rattle.reader_v.specs.Met.{flags, flag_of, first_met}
use Rattle.reader_v.specs.ReaderV.{blank, at_round, is_more, round_of}
use Rattle.sent_v.specs.declared.Round.{Round}
use Rattle.request_v.specs.declared.Tag.{Tag}
use Rattle.reader_v.specs.declared.PhaseV.{PhaseV}
use Rattle.reader_v.specs.declared.PhaseV.TheVariants.{Ready, InRound, InSweep}
use Rattle.reader_v.specs.declared.ReaderV.{ReaderV}
use Rattle.inventory_rules.specs.RunV.{Told, Out, before, ended, run}
use Rattle.inventory_rules.specs.Claim.{in_slot, told_of}
use Rattle.inventory_rules.specs.InRound.{in_round}

abbrev pub phase_of : Bool → PhaseV
phase_of true = InSweep
phase_of false = InRound

-- the reader in slot s of a round, alone or of a sweep
abbrev pub reader_at : Bool → Round → ℕ → List ℕ → ReaderV
reader_at sweeps k s m = record { phase = phase_of sweeps; round = k; slot = s; count = 0; status = false; met = m }

-- the tags ahead of slot s
unfoldable pub tags_at : Round → ℕ → List Tag → List Tag
tags_at k zero ts = ts
tags_at k (suc s) ts = map (in_round k s) ts

unfoldable pub befores : List Told → Out → Out
befores [] o = o
befores (x ∷ l) o = before x (befores l o)

-- the flags after slot s
unfoldable pub met_by : Bool → Round → List Tag → ℕ → List ℕ → List ℕ
met_by sweeps k ts s m = cond (sweeps && is_more (told_of (in_slot k s ts)).held) (set m (flag_of k.len s) 1) m

-- .. after n slots from s on
unfoldable pub met_from : Bool → Round → List Tag → ℕ → ℕ → List ℕ → List ℕ
met_from sweeps k ts s zero m = m
met_from sweeps k ts s (suc n) m = met_from sweeps k ts (s + 1) n (met_by sweeps k ts s m)

-- what comes behind a round that left these flags
unfoldable pub after : Bool → Round → List ℕ → ℕ → List Tag → Out
after sweeps k m fuel ts =
    cond (sweeps && ltb (first_met m) flags) (run fuel (at_round InSweep (round_of k (first_met m)) (set m (first_met m) 0)) ts) (ended ts (blank Ready) 0)
