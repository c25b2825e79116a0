-- A text is read piece by piece: `head` says what stands at the start of the bytes that are left, and `form` how its value is written.
use Rattle.std.specs.Prelude.{ℕ, zero, suc, ◌≤◌, Bool, true, false, List, [], ◌∷◌, ◌++◌, ◌≡◌, length, drop, Option, None, Some}
use Rattle.refusal.specs.Read.{Read, got, refused}
use Rattle.refusal.specs.declared.Refusal.TheVariants.{InvalidLiteral}
use Rattle.text.specs.declared.TextPiece.{TextPiece}

-- bytes that stand before what is read after them
unfoldable pub bytes_before : List ℕ → Read (List ℕ) → Read (List ℕ)
bytes_before l (got v) = got (l ++ v)
bytes_before l (refused why at) = refused why at

-- a piece and what `rest` reads after it; an escape that cannot be is refused at its own place
unfoldable pub piece_then : (ℕ → List ℕ) → Option TextPiece → ℕ → (ℕ → Read (List ℕ)) → Read (List ℕ)
piece_then form (Some p) at rest = bytes_before (form p.value) (rest p.more)
piece_then form None at rest = refused InvalidLiteral at

-- the whole text, whose first byte stands at `at` of the line; its first n bytes belong to a piece before it
unfoldable pub texts : (List ℕ → Option TextPiece) → (ℕ → List ℕ) → ℕ → ℕ → List ℕ → Read (List ℕ)
texts head form n at [] = got []
texts head form zero at (b ∷ s) = piece_then form (head (b ∷ s)) at (λ more. texts head form more (suc at) s)
texts head form (suc n) at (b ∷ s) = texts head form n (suc at) s

-- whether a reading is no refusal
unfoldable pub is_read : Read (List ℕ) → Bool
is_read (got v) = true
is_read (refused why at) = false

-- its bytes; none of a refusal
unfoldable pub bytes_of : Read (List ℕ) → List ℕ
bytes_of (got v) = v
bytes_of (refused why at) = []

-- what a call that only measures is to say: the number of bytes instead of the bytes
unfoldable pub length_of : Read (List ℕ) → Read ℕ
length_of (got v) = got (length v)
length_of (refused why at) = refused why at

-- what a call that writes asks: that its text is no refusal, and that it has room
pub record RoomForText (text : Read (List ℕ)) (out : List ℕ) : Type 0 where
  pub is : is_read text ≡ true
  pub fits : length (bytes_of text) ≤ length out

-- and what it does: the bytes stand at the start, n of them, and the rest is as it was
pub record WroteText (text : Read (List ℕ)) (out out' : List ℕ) (n : ℕ) : Type 0 where
  pub count : n ≡ length (bytes_of text)
  pub bytes : out' ≡ bytes_of text ++ drop (length (bytes_of text)) out
