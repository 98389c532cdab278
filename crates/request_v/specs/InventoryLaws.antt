-- Laws for the code that takes an inventory. Assumes nothing.
use Rattle.std.specs.Prelude.{◌≡◌, ℕ, true, List, length, replicate}
use Rattle.std.proofs.Common.{◌∙◌}
use Rattle.std.proofs.lemmas.List.{length-replicate}
use Rattle.rows.specs.Rows.{overlay, clean}
use Rattle.rows.specs.CleanLaws.{bits_clean}
use Rattle.rows.proofs.RowLaws.{overlay_all}
use Rattle.frame.specs.Frame.{air_bits}
use Rattle.frame.specs.ByteLaws.{length_air_bits, bits_air_bits}

-- a UID's bits written over a row of 64
pub bits_whole : (uid d : List ℕ) → length uid ≡ 8 → d ≡ overlay (replicate 64 0) 0 (air_bits uid) → d ≡ air_bits uid
bits_whole uid d n e = e ∙ overlay_all (replicate 64 0) (air_bits uid) (rw (length-replicate, length_air_bits, n))

pub uid_clean : (uid d : List ℕ) → d ≡ air_bits uid → clean d ≡ true
uid_clean uid d e = rw e (bits_clean (air_bits uid) (bits_air_bits uid))
