-- Bytes of a text that are listed as they are: what the functions that look for them promise.
use Rattle.std.specs.Prelude.{ℕ, ◌-◌, ◌≤◌, List, ◌≡◌, take, drop}
use Rattle.list.specs.Listing.{listed_text}

-- the n bytes from i on
abbrev pub Verbatim : List ℕ → ℕ → ℕ → Type 0
Verbatim t i n = listed_text (take n (drop i t)) ≡ take n (drop i t)

-- those from i to j, which is not past the end
pub record VerbatimTo (t : List ℕ) (i end j : ℕ) : Type 0 where
  pub ahead : i ≤ j
  pub within : j ≤ end
  pub same : Verbatim t i (j - i)
