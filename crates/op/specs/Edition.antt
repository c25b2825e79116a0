-- The editions of the reader: which opcodes of the table each accepts, how it refuses the others, and the highest protocol that PROTO
-- accepts. `Full` is the reader of RULES, part A, `Plain` the profile for plain data of Ask 7.
use Rattle.std.specs.Prelude.{ℕ, Bool, false, cond, ◌||◌, Option, Some, None, List, [], ◌∷◌, ◌≡◌, refl, eqb}
use Rattle.op.specs.Table.{code_of, number_in, is_named, place}
use Rattle.op.specs.declared.Opcode.{Opcode}
use Rattle.op.specs.declared.Opcode.TheVariants.{REDUCE, BUILD, GLOBAL, GET, PUT, NEWOBJ}
use Rattle.op.specs.declared.Edition.{Edition}
use Rattle.op.specs.declared.Edition.TheVariants.{Full, Plain}
use Rattle.op.specs.declared.Objection.{Objection}
use Rattle.op.specs.declared.Objection.TheVariants.{Outside, Unknown}

-- the opcodes outside the edition: number 26
unfoldable pub outside : Edition → List Opcode
outside Full = []
outside Plain = GLOBAL ∷ REDUCE ∷ NEWOBJ ∷ BUILD ∷ PUT ∷ GET ∷ []

-- the opcodes of the table that it does not know: number 4, as a byte that is no opcode
unfoldable pub unknown : Edition → List Opcode
unknown Full = []
unknown Plain = []

unfoldable pub highest : Edition → ℕ
highest Full = 2
highest Plain = 2

-- a byte is the number of one of these
unfoldable pub is_one_of : List Opcode → ℕ → Bool
is_one_of [] b = false
is_one_of (o ∷ t) b = eqb b (code_of o) || is_one_of t b

-- what an edition may have against a byte
abbrev pub Against : Type 0
Against = Option Objection

-- what the edition has against an opcode's byte
unfoldable pub against : Edition → ℕ → Against
against e b = cond (is_one_of (outside e) b) (Some Outside) (cond (is_one_of (unknown e) b) (Some Unknown) None)

-- opens what examples compute with
unfoldable pub evaluates : Unit {0}
unfolding against outside unknown highest is_one_of code_of number_in is_named place
evaluates = tt

-- `c` is GLOBAL, `g` GET, `h` BINGET, `q` BINPUT; 0x82, EXT1, is no opcode, and so no edition's affair
pub some_bytes : (against Plain 0x63 ≡ Some Outside) × (against Plain 0x67 ≡ Some Outside) × (against Plain 0x68 ≡ None) × (against Plain 0x71 ≡ None) × (against Plain 0x82 ≡ None) × (against Full 0x63 ≡ None)
unfolding evaluates
some_bytes = (refl, refl, refl, refl, refl, refl)
