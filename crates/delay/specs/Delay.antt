-- T-09: "for REQA, WUPA, ANTICOLLISION and SELECT the due delay is 1236 carrier periods if the last data bit sent was 1, else 1172; for other frames it
-- is the nearest n*128 + 84 after a 1, or n*128 + 20 after a 0, with n at least 9, ties to the smaller n".
use Rattle.std.specs.Prelude.{ℕ, ◌+◌, ◌-◌, ◌*◌, ◌/◌, ◌%◌, max, Bool, cond}
use Rattle.delay.specs.declared.Kind.{Kind}
use Rattle.delay.specs.declared.Kind.TheVariants.{Reqa, Wupa, Anticollision, Select, Other}

-- "Ticks wrap": from the end of the reader's last pause to the start of the card's answer, "taken modulo 2^32"
abbrev pub delay : ℕ → ℕ → ℕ
delay sent heard = (heard + (4294967296 - sent)) % 4294967296

-- "+ 84 after a 1, or .. + 20 after a 0"
abbrev pub grid : Bool → ℕ
grid one = cond one 84 20

-- "n*128 + 84" or "n*128 + 20"
abbrev pub point : Bool → ℕ → ℕ
point one n = n * 128 + grid one

-- n of the nearest point, "with n at least 9, ties to the smaller n": 64 periods behind a point still belong to it, 65 to the next one
abbrev pub nearest : Bool → ℕ → ℕ
nearest one d = max 9 ((d + 63 - grid one) / 128)

-- "1236 carrier periods if the last data bit sent was 1, else 1172"
abbrev pub fixed : Bool → ℕ
fixed one = cond one 1236 1172

-- the due delay, where d was measured
abbrev pub due : Kind → Bool → ℕ → ℕ
due Reqa one d = fixed one
due Wupa one d = fixed one
due Anticollision one d = fixed one
due Select one d = fixed one
due Other one d = point one (nearest one d)
