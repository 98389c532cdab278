-- Document 02, T-10: a request's flags, and the four states of a tag.
use Rattle.std.specs.Prelude.{ℕ, ◌/◌, ◌%◌, Bool, true, false, not, ◌&&◌, eqb}
use Rattle.request_v.specs.declared.Flags.{Flags}
use Rattle.request_v.specs.declared.StateV.{StateV}
use Rattle.request_v.specs.declared.StateV.TheVariants.{Off, Ready, Quiet, Selected}

-- b1 (sub-carriers) and b2 (rate) are of the radio: a tag does not look at them
abbrev pub flags_of : ℕ → Flags
flags_of x =
    record {
      inventory = eqb (x / 4 % 2) 1;
      extended = eqb (x / 8 % 2) 1;
      fifth = eqb (x / 16 % 2) 1;
      sixth = eqb (x / 32 % 2) 1;
      option = eqb (x / 64 % 2) 1;
      eighth = eqb (x / 128 % 2) 1;
    }

-- flags that a tag can read: no protocol extension, b8 clear, and outside an inventory not both Select and Address flag
unfoldable pub formed : Flags → Bool
formed q = not q.extended && (not q.eighth && not (not q.inventory && (q.fifth && q.sixth)))

-- ---- "the four states"

abbrev pub is_off : StateV → Bool
is_off Off = true
is_off (Ready w) = false
is_off Quiet = false
is_off (Selected w) = false

abbrev pub is_quiet : StateV → Bool
is_quiet Off = false
is_quiet (Ready w) = false
is_quiet Quiet = true
is_quiet (Selected w) = false

abbrev pub is_selected : StateV → Bool
is_selected Off = false
is_selected (Ready w) = false
is_selected Quiet = false
is_selected (Selected w) = true

-- the states that take an inventory
abbrev pub listens : StateV → Bool
listens Off = false
listens (Ready w) = true
listens Quiet = false
listens (Selected w) = true
