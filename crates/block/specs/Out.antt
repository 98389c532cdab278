-- What an end of the block protocol gives.
use Rattle.std.specs.Prelude.{ℕ, List}
use Rattle.block.specs.declared.Told.{Told}

-- an end after a frame or a host call: its link, the bytes that it sends (none: silence), what its host is told, its message buffer
pub record Out (L : Type 0) : Type 0 where
  pub link : L
  pub sent : List ℕ
  pub told : Told
  pub buffer : List ℕ
