-- `air_log::within::head_of` meets its contract. Assumes nothing.
use Rattle.std.proofs.Common.{◌≡◌, ◌/◌, ◌%◌, arith}
use Rattle.air_log.specs.Log.{header, tick_bytes}
use Rattle.air_log.proofs.within.head_of.Goals as goal

pub returns : goal.returns
unfolding header tick_bytes
returns c =
    let n = c.args.n in
    let t = c.args.tick in
    let high : n / 256 % 256 ≡ n / 256 = omega arith in
    let t₀ : t % 4294967296 / 16777216 % 256 ≡ t / 16777216 % 256 = omega arith in
    let t₁ : t % 4294967296 / 65536 % 256 ≡ t / 65536 % 256 = omega arith in
    let t₂ : t % 4294967296 / 256 % 256 ≡ t / 256 % 256 = omega arith in
    let t₃ : t % 4294967296 % 256 ≡ t % 256 = omega arith in
    rw (c.to_be_bytes.ensures, c.to_be_bytes-2.ensures, c.from.ensures, high, t₀, t₁, t₂, t₃)
