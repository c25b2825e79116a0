-- A node whose two words are in the room: the numbers by which code reaches them fit. For the proofs of functions that read nodes.
use Rattle.std.specs.Prelude.{ℕ, ◌+◌, ◌*◌, ◌^◌, ◌<◌, List, length}
use Rattle.std.proofs.Common.{Fits, arith}
use Rattle.std.specs.Int.{w64}

module _ (i : ℕ) (ws : List ℕ) (words : 2 * i + 1 < length ws) (room : length ws * 8 < 2 ^ 63) where
  pub fits_first : Fits w64 (2 * i)
  fits_first = omega arith

  pub fits_first_at : Fits w64 (2 * i * 8)
  fits_first_at = omega arith

  pub first_in : 2 * i < length ws
  first_in = omega arith

  pub fits_second : Fits w64 (2 * i + 1)
  fits_second = omega arith

  pub fits_second_at : Fits w64 ((2 * i + 1) * 8)
  fits_second_at = omega arith
