-- Worked pickles, of RULES A9.5, A10 and Ask 7.2, run.
use Rattle.std.specs.Prelude.{[], ◌∷◌, ◌≡◌, refl}
use Rattle.refusal.specs.declared.Refusal.TheVariants.{EndOfInput, UnsupportedOpcode, IntegerTooLarge, Invalid, OutsideProfile}
use Rattle.refusal.specs.declared.Wanted.TheVariants.{Length}
use Rattle.op.specs.Table.{row_in, row_of, known_name, opcode_of}
use Rattle.op.specs.Edition.{evaluates as edition-evaluates}
use Rattle.op.specs.declared.Edition.TheVariants.{Full, Plain}
use Rattle.input.specs.Bytes.{low_first}
use Rattle.input.specs.Line.{first_from, newline_of}
use Rattle.input.specs.Long.{evaluates as long-evaluates}
use Rattle.value.specs.Value.{I64L, ListL, TupleL}
use Rattle.steps.specs.State.{ok, no, ◌>>=◌, need, leaf, bytes, byte, line, pop, top, pop_mark, pop_many, push_id, push_node, push, link, extend, memo_find, memo_has, memo_insert, get, put}
use Rattle.steps.specs.Opcodes.{proto, low_bytes, binint1, long_n, signed_length, binstring, global, made, tuple_n, add_items, append, get_bytes, put_bytes}
use Rattle.steps.specs.Run.{going, does, decide, admit, step, runs, start, run}

-- opens what the examples compute with
unfoldable evaluates : Unit {0}
unfolding row_in row_of known_name opcode_of edition-evaluates low_first first_from newline_of long-evaluates ◌>>=◌ need leaf bytes byte line pop top pop_mark pop_many push_id push_node push link extend memo_find memo_has memo_insert get put proto low_bytes binint1 long_n signed_length binstring global made tuple_n add_items append get_bytes put_bytes going does decide admit step runs start run
evaluates = tt

-- the listing's input, 80 02 5D 71 00 68 00 4B 05 61 86 2E: a tuple of one list twice, the 5 appended after it was placed
pub shared : run Full (0x80 ∷ 0x02 ∷ 0x5D ∷ 0x71 ∷ 0x00 ∷ 0x68 ∷ 0x00 ∷ 0x4B ∷ 0x05 ∷ 0x61 ∷ 0x86 ∷ 0x2E ∷ [])
    ≡ ok (record {
      input = [];
      nodes = (record { label = ListL; kids = 1 ∷ [] }) ∷ (record { label = I64L 5; kids = [] }) ∷ (record { label = TupleL; kids = 0 ∷ 0 ∷ [] }) ∷ [];
      stack = 2 ∷ [];
      marks = [];
      memo = (0, 0) ∷ [];
      links = 3;
    })
unfolding evaluates
shared = refl

pub empty : run Full [] ≡ no EndOfInput
unfolding evaluates
empty = refl

-- 8A 09 00 00 00 00 00 00 00 80 00 2E
pub too_large : run Full (0x8A ∷ 0x09 ∷ 0 ∷ 0 ∷ 0 ∷ 0 ∷ 0 ∷ 0 ∷ 0 ∷ 0x80 ∷ 0 ∷ 0x2E ∷ []) ≡ no IntegerTooLarge
unfolding evaluates
too_large = refl

-- 54 FF FF FF FF 2E
pub negative_length : run Full (0x54 ∷ 0xFF ∷ 0xFF ∷ 0xFF ∷ 0xFF ∷ 0x2E ∷ []) ≡ no (Invalid Length)
unfolding evaluates
negative_length = refl

-- GLOBAL's byte alone: the profile refuses it before the operand is read; EXT1 is no opcode of either edition
pub global-alone : (run Full (0x63 ∷ []) ≡ no EndOfInput) × (run Plain (0x63 ∷ []) ≡ no (OutsideProfile 0x63)) × (run Plain (0x82 ∷ []) ≡ no (UnsupportedOpcode 0x82))
unfolding evaluates
global-alone = (refl, refl, refl)
