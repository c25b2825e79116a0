-- RULES A10: the nine pickles of the bench and their prefix readings, one table and one computed test. Then worked
-- cases of the open points on building (tests/oracle/points.txt).
use Rattle.std.specs.Prelude.{ℕ, true, false, List, [], ◌∷◌, ◌++◌, map, replicate, ◌≡◌, refl}
use Rattle.refusal.specs.declared.Refusal.TheVariants.{EndOfInput, StackUnderflow, IntegerTooLarge, Invalid}
use Rattle.refusal.specs.declared.Wanted.TheVariants.{Length}
use Rattle.op.specs.Table.{row_in, row_of, known_name, opcode_of}
use Rattle.op.specs.Edition.{evaluates as edition-evaluates}
use Rattle.utf8.specs.Utf8 as utf8
use Rattle.input.specs.Line.{first_from, newline_of, less_cr, line_of}
use Rattle.input.specs.Long.{evaluates as long-evaluates}
use Rattle.number.specs.Space.{white_space, spaces, same, one_of, space, width, strip, trim_start, trim_end, trimmed}
use Rattle.number.specs.Number.{invalid, turned, only, digits, decimal, natural, plus, integer, parse_i64, int_literal}
use Rattle.text.specs.Examples.{evaluates as text-evaluates}
use Rattle.value.specs.Value.{text, count, size, depth, table, NoneL, BoolL, I64L, BytesL, StringL, ListL, TupleL, SetL, DictL, ObjectL, nil, node}
use Rattle.value.specs.Order.{lex, labels, forests, order, ◌then◌}
use Rattle.steps.specs.State.{◌>>=◌, need, leaf, bytes, byte, line, pop, top, pop_mark, pop_many, push_id, push_node, push, link, extend, memo_find, memo_has, memo_insert, get, put}
use Rattle.steps.specs.Opcodes.{builtin, set_name, proto, pop_one, int_label, int, low_bytes, binint1, long_n, string, signed_length, binstring, short_binstring, unicode, binunicode, global, made, tuple_n, pairs, add_items, append, setitems, get_bytes, put_bytes, reduced, called, reduce, build_state, mark}
use Rattle.steps.specs.Run.{going, does, decide, admit, step, runs, start, run}
use Rattle.reading.specs.Build as Build
use Rattle.reading.specs.Measure.{measured}
use Rattle.reading.specs.Settle as Settle
use Rattle.reading.specs.Reading.{Reading, refuses, reads, reading_of, stopped, prefix_in, prefix}

-- opens what the pickles compute with: the leaves, the machine, the builder
unfoldable literals : Unit {0}
unfolding utf8.evaluates first_from newline_of less_cr line_of long-evaluates white_space spaces same one_of space width strip trim_start trim_end trimmed invalid turned only digits decimal natural plus integer parse_i64 int_literal text-evaluates
literals = tt

unfoldable machine : Unit {0}
unfolding row_in row_of known_name opcode_of edition-evaluates ◌>>=◌ need leaf bytes byte line pop top pop_mark pop_many push_id push_node push link extend memo_find memo_has memo_insert get put proto pop_one int_label int low_bytes binint1 long_n string signed_length binstring short_binstring unicode binunicode global made tuple_n pairs add_items append setitems get_bytes put_bytes reduced called reduce build_state mark going does decide admit step runs start run
machine = tt

unfoldable builder : Unit {0}
unfolding text count size depth table ◌then◌ lex labels forests order Build.first_taken Build.blocked Build.finish Build.each Build.build Build.tree measured Settle.by Settle.insert Settle.as_set Settle.enter Settle.as_dict Settle.items Settle.arrange Settle.settle reading_of stopped prefix_in
builder = tt

-- a pickle and its prefix reading
pub record Line : Type 0 where
  pub pickle : List ℕ
  pub reading : Reading

abbrev pub bench_line : List ℕ → Reading → Line
bench_line p r = record { pickle = p; reading = r }

-- the nine
abbrev pub bench : List Line
bench =
    bench_line [] (refuses EndOfInput)
    ∷ bench_line (0x2E ∷ []) (refuses StackUnderflow)
    ∷ bench_line (0x8A ∷ 0x09 ∷ 0x00 ∷ 0x00 ∷ 0x00 ∷ 0x00 ∷ 0x00 ∷ 0x00 ∷ 0x00 ∷ 0x80 ∷ 0x00 ∷ 0x2E ∷ []) (refuses IntegerTooLarge)
    ∷ bench_line (0x49 ∷ 0x30 ∷ 0x31 ∷ 0x0A ∷ 0x2E ∷ []) (reads 5 (node (BoolL true) nil nil))
    ∷ bench_line (0x49 ∷ 0x20 ∷ 0x30 ∷ 0x31 ∷ 0x0A ∷ 0x2E ∷ []) (reads 6 (node (I64L 1) nil nil))
    ∷ bench_line (0x53 ∷ 0x27 ∷ 0x5C ∷ 0x78 ∷ 0x2B ∷ 0x66 ∷ 0x27 ∷ 0x0A ∷ 0x2E ∷ []) (reads 9 (node (BytesL (0x0F ∷ [])) nil nil))
    ∷ bench_line (0x54 ∷ 0xFF ∷ 0xFF ∷ 0xFF ∷ 0xFF ∷ 0x2E ∷ []) (refuses (Invalid Length))
    ∷ bench_line (0x58 ∷ 0x03 ∷ 0x00 ∷ 0x00 ∷ 0x00 ∷ 0xED ∷ 0xA0 ∷ 0x80 ∷ 0x2E ∷ []) (reads 9 (node (StringL (0xEF ∷ 0xBF ∷ 0xBD ∷ 0xEF ∷ 0xBF ∷ 0xBD ∷ 0xEF ∷ 0xBF ∷ 0xBD ∷ [])) nil nil))
    ∷ bench_line (0x5D ∷ 0x71 ∷ 0x00 ∷ 0x5D ∷ 0x71 ∷ 0x01 ∷ 0x68 ∷ 0x00 ∷ 0x61 ∷ 0x61 ∷ 0x68 ∷ 0x01 ∷ 0x86 ∷ 0x2E ∷ []) (reads 14 (node TupleL (node ListL (node ListL (node NoneL nil nil) nil) (node ListL (node NoneL nil nil) nil)) nil))
    ∷ []

-- each pickle's prefix reading is the one that stands beside it
abbrev pub ReadAs : List Line → Type 0
ReadAs t = map prefix (map (λ (l : Line). l.pickle) t) ≡ map (λ (l : Line). l.reading) t

pub bench_holds : ReadAs bench
unfolding literals machine builder
bench_holds = refl

-- the open points on building
abbrev pub building : List Line
building =
    -- the listing's input: an item added to a shared list after it was placed
    bench_line (0x80 ∷ 0x02 ∷ 0x5D ∷ 0x71 ∷ 0x00 ∷ 0x68 ∷ 0x00 ∷ 0x4B ∷ 0x05 ∷ 0x61 ∷ 0x86 ∷ 0x2E ∷ []) (reads 12 (node TupleL (node ListL (node (I64L 5) nil nil) (node ListL (node (I64L 5) nil nil) nil)) nil))
    -- 1.2: the value left is the top, whatever marks are open
    ∷ bench_line (0x4E ∷ 0x28 ∷ 0x2E ∷ []) (reads 3 (node NoneL nil nil))
    -- 2.11: an argument inside itself is None, no List
    ∷ bench_line (0x5D ∷ 0x71 ∷ 0x00 ∷ 0x63 ∷ 0x5F ∷ 0x5F ∷ 0x62 ∷ 0x75 ∷ 0x69 ∷ 0x6C ∷ 0x74 ∷ 0x69 ∷ 0x6E ∷ 0x5F ∷ 0x5F ∷ 0x0A ∷ 0x73 ∷ 0x65 ∷ 0x74 ∷ 0x0A ∷ 0x68 ∷ 0x00 ∷ 0x85 ∷ 0x52 ∷ 0x61 ∷ 0x2E ∷ []) (reads 26 (node ListL (node SetL nil nil) nil))
    -- 2.12: a set without argument
    ∷ bench_line (0x63 ∷ 0x5F ∷ 0x5F ∷ 0x62 ∷ 0x75 ∷ 0x69 ∷ 0x6C ∷ 0x74 ∷ 0x69 ∷ 0x6E ∷ 0x5F ∷ 0x5F ∷ 0x0A ∷ 0x73 ∷ 0x65 ∷ 0x74 ∷ 0x0A ∷ 0x29 ∷ 0x52 ∷ 0x2E ∷ []) (reads 20 (node SetL nil nil))
    -- a set's items in order, each once
    ∷ bench_line (0x63 ∷ 0x5F ∷ 0x5F ∷ 0x62 ∷ 0x75 ∷ 0x69 ∷ 0x6C ∷ 0x74 ∷ 0x69 ∷ 0x6E ∷ 0x5F ∷ 0x5F ∷ 0x0A ∷ 0x73 ∷ 0x65 ∷ 0x74 ∷ 0x0A ∷ 0x5D ∷ 0x4B ∷ 0x02 ∷ 0x61 ∷ 0x4B ∷ 0x01 ∷ 0x61 ∷ 0x4B ∷ 0x02 ∷ 0x61 ∷ 0x85 ∷ 0x52 ∷ 0x2E ∷ []) (reads 30 (node SetL (node (I64L 1) nil (node (I64L 2) nil nil)) nil))
    -- 3.6: an Object reached first through its own arguments is None for good, its state unbuilt
    ∷ bench_line (0x63 ∷ 0x6D ∷ 0x0A ∷ 0x43 ∷ 0x0A ∷ 0x5D ∷ 0x71 ∷ 0x00 ∷ 0x85 ∷ 0x71 ∷ 0x02 ∷ 0x52 ∷ 0x71 ∷ 0x01 ∷ 0x55 ∷ 0x03 ∷ 0x61 ∷ 0x62 ∷ 0x63 ∷ 0x62 ∷ 0x68 ∷ 0x00 ∷ 0x68 ∷ 0x01 ∷ 0x61 ∷ 0x30 ∷ 0x30 ∷ 0x68 ∷ 0x02 ∷ 0x68 ∷ 0x01 ∷ 0x86 ∷ 0x2E ∷ []) (reads 33 (node TupleL (node TupleL (node ListL (node NoneL nil nil) nil) (node NoneL nil nil)) nil))
    -- 3.6: reached first from outside, only inside
    ∷ bench_line (0x63 ∷ 0x6D ∷ 0x0A ∷ 0x43 ∷ 0x0A ∷ 0x5D ∷ 0x71 ∷ 0x00 ∷ 0x85 ∷ 0x71 ∷ 0x02 ∷ 0x52 ∷ 0x71 ∷ 0x01 ∷ 0x68 ∷ 0x00 ∷ 0x68 ∷ 0x01 ∷ 0x61 ∷ 0x30 ∷ 0x30 ∷ 0x68 ∷ 0x01 ∷ 0x68 ∷ 0x02 ∷ 0x86 ∷ 0x2E ∷ []) (reads 27 (node TupleL (node (ObjectL (0x6D ∷ []) (0x43 ∷ []) false) (node TupleL (node ListL (node NoneL nil nil) nil) nil) (node TupleL (node ListL (node NoneL nil nil) nil) nil)) nil))
    -- 3.9: equal keys, the last value
    ∷ bench_line (0x7D ∷ 0x28 ∷ 0x58 ∷ 0x01 ∷ 0x00 ∷ 0x00 ∷ 0x00 ∷ 0xFF ∷ 0x4B ∷ 0x01 ∷ 0x56 ∷ 0x5C ∷ 0x75 ∷ 0x64 ∷ 0x38 ∷ 0x30 ∷ 0x30 ∷ 0x0A ∷ 0x4B ∷ 0x02 ∷ 0x75 ∷ 0x2E ∷ []) (reads 22 (node DictL (node (StringL (0xEF ∷ 0xBF ∷ 0xBD ∷ [])) nil (node (I64L 2) nil nil)) nil))
    ∷ []

pub building_holds : ReadAs building
unfolding literals machine builder
building_holds = refl

-- 3.1: a set costs its argument, so that set() in 62 tuples is 64 deep, and in 63 too deep. 3.7: a list inside itself at depth 65
abbrev set_in : ℕ → List ℕ
set_in n = (0x63 ∷ builtin) ++ (0x0A ∷ set_name) ++ (0x0A ∷ 0x29 ∷ 0x52 ∷ replicate n 0x85) ++ (0x2E ∷ [])

abbrev self_in : ℕ → List ℕ
self_in n = (0x5D ∷ 0x71 ∷ 0x00 ∷ replicate n 0x5D) ++ (0x68 ∷ 0x00 ∷ 0x61 ∷ replicate n 0x61) ++ (0x2E ∷ [])

pub deepest : map (λ (p : List ℕ). (prefix p).answer.number) (set_in 62 ∷ set_in 63 ∷ self_in 62 ∷ self_in 63 ∷ []) ≡ 0 ∷ 17 ∷ 0 ∷ 17 ∷ []
unfolding literals machine builder
deepest = refl
