-- What Rust's `i64::from_str` and `u32::from_str` read, and what de.rs's INT, LONG and memo numbers make of it.
-- RULES A7.2 and A7.3.
use Rattle.std.specs.Prelude.{ℕ, ◌+◌, ◌-◌, ◌*◌, ◌^◌, Bool, true, false, cond, ◌&&◌, List, [], ◌∷◌, leb, ltb, eqb, ℤ, pos, neg_ℤ, length, get_or, take}
use Rattle.refusal.specs.declared.Refusal.TheVariants.{InvalidLiteral}
use Rattle.input.specs.Long.{in_i64}
use Rattle.refusal.specs.Read.{Read, got, refused}
use Rattle.utf8.specs.Utf8.{valid}
use Rattle.number.specs.Space.{same, trimmed}

-- number 8 of RULES A4, at the start of the line
unfoldable pub invalid : {A : Type 0} → Read A
invalid = refused InvalidLiteral 0

-- what is read, turned into something else
unfoldable pub turned : {A B : Type 0} → (A → B) → Read A → Read B
turned f (got a) = got (f a)
turned f (refused why at) = refused why at

-- what is read, if it passes a test, else InvalidLiteral
unfoldable pub only : {A : Type 0} → (A → Bool) → Read A → Read A
only p (got a) = cond (p a) (got a) invalid
only p (refused why at) = refused why at

-- every byte is an ASCII digit
unfoldable pub digits : List ℕ → Bool
digits [] = true
digits (b ∷ s) = (leb 0x30 b && leb b 0x39) && digits s

-- the number that digits write: each digit times its power of ten
unfoldable pub decimal : List ℕ → ℕ
decimal [] = 0
decimal (b ∷ s) = (b - 0x30) * 10 ^ length s + decimal s

-- one or more digits
unfoldable pub natural : List ℕ → Read ℕ
natural [] = invalid
natural (b ∷ s) = cond (digits (b ∷ s)) (got (decimal (b ∷ s))) invalid

-- digits after an optional `+`
unfoldable pub plus : List ℕ → Read ℕ
plus [] = invalid
plus (b ∷ s) = cond (eqb b 0x2B) (natural s) (natural (b ∷ s))

-- an integer: `-` and digits, or digits after an optional `+`
unfoldable pub integer : List ℕ → Read ℤ
integer [] = invalid
integer (b ∷ s) = cond (eqb b 0x2D) (turned (λ n. neg_ℤ (pos n)) (natural s)) (turned pos (plus (b ∷ s)))

-- a u32
unfoldable pub in_u32 : ℕ → Bool
in_u32 n = ltb n (2 ^ 32)

-- de.rs, `parse::<i64>`: the line is UTF-8, and its text without White_Space at the ends is an i64
unfoldable pub parse_i64 : List ℕ → Read ℤ
parse_i64 line = cond (valid line) (only in_i64 (integer (trimmed line))) invalid

-- `parse::<u32>`, a memo number: the same, with a u32
unfoldable pub parse_u32 : List ℕ → Read ℕ
parse_u32 line = cond (valid line) (only in_u32 (plus (trimmed line))) invalid

-- what INT makes
pub data Int : Type 0 where
  truth : Bool → Int
  whole : ℤ → Int

-- INT: the raw lines `00` and `01` are false and true, before anything is trimmed; any other is an integer
unfoldable pub int_literal : List ℕ → Read Int
int_literal line =
    cond (same line (0x30 ∷ 0x30 ∷ [])) (got (truth false))
    (cond (same line (0x30 ∷ 0x31 ∷ [])) (got (truth true)) (turned whole (parse_i64 line)))

-- the bytes less one `L` that ends them
unfoldable pub less_l : List ℕ → List ℕ
less_l s = cond (eqb (get_or s (length s - 1) 0) 0x4C) (take (length s - 1) s) s

-- LONG: an integer, with or without an `L` as the line's last byte
unfoldable pub long_literal : List ℕ → Read ℤ
long_literal line = parse_i64 (less_l line)
