-- What a leaf of the reader says of a literal: what it read, or the refusal with the place of its fault, counted from the start
-- of the literal's line (0 where a literal has no line).
use Rattle.std.specs.Prelude.{ℕ, Result, Ok, Err}
use Rattle.refusal.specs.declared.Refusal.{Refusal}

pub data Read (A : Type 0) : Type 0 where
  got : A → Read A
  refused : Refusal → ℕ → Read A

-- what a leaf's answer says where a refusal has its fault at the literal's start
abbrev pub answered : {A : Type 0} → Result A Refusal → Read A
answered (Ok x) = got x
answered (Err why) = refused why 0
