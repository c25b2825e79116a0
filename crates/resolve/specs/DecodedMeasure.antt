-- The measure of a text that was decoded, made and read.
use Rattle.std.specs.Prelude.{ℕ, ◌+◌, ◌*◌, ◌^◌, ◌<◌, ◌≤◌, true, ◌≡◌}
use borrow.Author.Tests.{le-leb}
use native.Mathlib.Omega.{arith}
use Rattle.resolve.specs.Shown.{was_decoded, place_in, lead_in, trail_in}

unfoldable pub measure_of : ℕ → ℕ → ℕ → ℕ
measure_of at lead trail = 2 ^ 62 + at + 2 ^ 17 * lead + 2 ^ 34 * trail

module _ (at lead trail : ℕ) where
  pub measure_least : 2 ^ 62 ≤ measure_of at lead trail
  unfolding measure_of
  measure_least = omega arith

  pub measure_decoded : was_decoded (measure_of at lead trail) ≡ true
  unfolding was_decoded
  measure_decoded = le-leb (2 ^ 62) (measure_of at lead trail) measure_least

  module _ (a : at ≤ 65536) (b : lead ≤ 65536) (c : trail ≤ 65536) where
    pub measure_most : measure_of at lead trail < 2 ^ 63
    unfolding measure_of
    measure_most = omega arith

    pub measure-place : place_in (measure_of at lead trail) ≡ at
    unfolding measure_of place_in
    measure-place = omega arith

    pub measure-lead : lead_in (measure_of at lead trail) ≡ lead
    unfolding measure_of lead_in
    measure-lead = omega arith

    pub measure-trail : trail_in (measure_of at lead trail) ≡ trail
    unfolding measure_of trail_in
    measure-trail = omega arith
