-- The refusals of a reading that the rules add to the Rust's: 1, 2 and 12 to 20. Where one is met nothing is promised of what was being read.
use Rattle.std.specs.Prelude.{ℕ, Bool, ◌&&◌, ◌||◌, eqb, leb}
use Rattle.refusal.specs.declared.Refusal.{Refusal}
use Rattle.refusal.specs.Numbers.{number_of}

abbrev pub added : ℕ → Bool
added n = eqb n 1 || (eqb n 2 || (leb 12 n && leb n 20))

abbrev pub added_refusal : Refusal → Bool
added_refusal why = added (number_of why).0
