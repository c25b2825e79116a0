-- The clinic's case: two sheets that share one record, their answers and reversed items, through the memo; of one the reversed item was
-- flipped before, of the other it was not. In each of the two pickles (samples/unflipped.pickle and samples/flipped.pickle) one of them is
-- scored: it has the record at the later place in the pickle, and holds the other, where the record stands first.
use Rattle.std.specs.Prelude.{ℕ, suc, zero, ◌<◌, ◌≤◌, Bool, true, false, not, ◌&&◌, List, [], ◌∷◌, ◌≡◌, refl, length, T, ltb}
use Rattle.std.proofs.Common.{sym, ◌∙◌, ap, ltb→lt, le-ltb, arith}
use Rattle.refusal.specs.declared.Answer.{Answer}
use Rattle.op.specs.Table as Table
use Rattle.op.specs.Edition.{evaluates as edition-evaluates}
use Rattle.op.specs.declared.Edition.TheVariants.{Full}
use Rattle.utf8.specs.Utf8 as utf8
use Rattle.input.specs.Bytes.{Bytes, last_byte, low_first}
use Rattle.input.specs.Line as Line
use Rattle.number.specs.Space as Space
use Rattle.value.specs.Value.{Label, Forest, Value, one, text, count, size, depth, table, BoolL, I64L, BytesL, ListL, TupleL, SetL, DictL, GlobalL, nil, node}
use Rattle.value.specs.Order as Order
use Rattle.value.specs.Shape.{shaped, and_l, and_r}
use Rattle.value.specs.WellFormed.{WellFormed, ascending, keys, settled, well_formed_one}
use Rattle.steps.specs.State as State
use Rattle.steps.specs.State.{Node, State, kidless, ok, ◌>>=◌, last}
use Rattle.steps.specs.Opcodes as Opcodes
use Rattle.steps.specs.Opcodes.{builtin, set_name}
use Rattle.steps.specs.Run as Run
use Rattle.steps.specs.Run.{run}
use Rattle.reading.specs.Measure.{measured}
use Rattle.reading.specs.Settle as Settle
use Rattle.reading.specs.Settle.{settle}
use Rattle.reading.specs.Unfold.{WritesOut, nothing, afresh, NothingContainsItself}
use Rattle.reading.specs.Reading.{Reading, reads, reading_of, consumed, prefix, whole, leaves, whole-prefix, pickle_limit, told_fits, sharing_never_shows}
use Rattle.outback.specs.WriteOut.{written_nothing_itself}
use Rattle.rooms.specs.Stated.{Slices, stated, short}
use Rattle.de.specs.Call.{ReadCall}
use Rattle.de.specs.Theorems.{call_never_shows_sharing, call_answer}
use Rattle.scorer.specs.Sheet as Sheet
use Rattle.scorer.specs.Sheet.{answers_key, reverse_key, max_key, flipped_key}
use Rattle.scorer.specs.Call.{tally_of, scored_of, scores_good}
use Rattle.scorer.specs.Flip.{value_formed, formed_value}
use Rattle.scorer.specs.Theorems.{scored, one_value}
use Rattle.scorer.specs.declared.Scored.{Scored}
use Rattle.std.specs.declared.option.Option.TheVariants.{Some}
use Rattle.scorer_calls.specs.Sharing.{ScoresLeft, ScoresPlain, shared_scores}

-- ---- what computes

unfoldable running : Unit {0}
unfolding last_byte low_first utf8.evaluates Line.first_from Line.newline_of Line.less_cr Line.line_of Space.same Table.row_in Table.row_of Table.known_name Table.opcode_of edition-evaluates ◌>>=◌ State.need State.leaf State.bytes State.byte State.line State.pop State.top State.pop_mark State.pop_many State.push_id State.push_node State.push State.link State.extend State.memo_find State.memo_has State.memo_insert State.get State.put Opcodes.proto Opcodes.mark Opcodes.low_bytes Opcodes.binint1 Opcodes.short_binstring Opcodes.global Opcodes.made Opcodes.tuple_n Opcodes.pairs Opcodes.add_items Opcodes.append Opcodes.setitems Opcodes.get_bytes Opcodes.put_bytes Opcodes.called Opcodes.reduced Opcodes.reduce Run.going Run.does Run.decide Run.admit Run.step Run.runs Run.start Run.run
running = tt

unfoldable shaping : Unit {0}
unfolding shaped settled ascending keys text count size depth table Order.◌then◌ Order.lex Order.labels Order.forests Order.order measured ◌>>=◌ State.need Settle.by Settle.insert Settle.as_set Settle.enter Settle.as_dict Settle.items Settle.arrange Settle.settle
shaping = tt

unfoldable scoring : Unit {0}
unfolding shaping scored_of tally_of Sheet.is_sheet Sheet.score_of Sheet.items_of Sheet.marked Sheet.answers_sum Sheet.under Sheet.is_key Sheet.in_range Sheet.all_answered Sheet.between Sheet.same_int Sheet.holds_int
scoring = tt

-- ---- the pickles

abbrev before_key : List ℕ
before_key = 0x62 ∷ 0x65 ∷ 0x66 ∷ 0x6F ∷ 0x72 ∷ 0x65 ∷ []

unfoldable all_bytes : List ℕ → Bool
all_bytes [] = true
all_bytes (x ∷ l) = ltb x 256 && all_bytes l

-- NEWTRUE, NEWFALSE
abbrev new_bool : Bool → ℕ
new_bool true = 0x88
new_bool false = 0x89

-- {'before': {'answers': {1: 3, 2: 0}, 'flipped': not mark, 'max': 4, 'reverse': set([2])}, ..}: then the same four keys again, with the mark
-- and, by GET, the answers and the set that stand there
abbrev pub sheet_pickle : Bool → List ℕ
sheet_pickle mark =
    0x80 ∷ 0x02 ∷ 0x7D ∷ 0x71 ∷ 0x00 ∷ 0x28
    ∷ 0x55 ∷ 0x06 ∷ 0x62 ∷ 0x65 ∷ 0x66 ∷ 0x6F ∷ 0x72 ∷ 0x65 ∷ 0x71 ∷ 0x01
    ∷ 0x7D ∷ 0x71 ∷ 0x02 ∷ 0x28
    ∷ 0x55 ∷ 0x07 ∷ 0x61 ∷ 0x6E ∷ 0x73 ∷ 0x77 ∷ 0x65 ∷ 0x72 ∷ 0x73 ∷ 0x71 ∷ 0x03
    ∷ 0x7D ∷ 0x71 ∷ 0x04 ∷ 0x28 ∷ 0x4B ∷ 0x01 ∷ 0x4B ∷ 0x03 ∷ 0x4B ∷ 0x02 ∷ 0x4B ∷ 0x00 ∷ 0x75
    ∷ 0x55 ∷ 0x07 ∷ 0x66 ∷ 0x6C ∷ 0x69 ∷ 0x70 ∷ 0x70 ∷ 0x65 ∷ 0x64 ∷ 0x71 ∷ 0x05 ∷ new_bool (not mark)
    ∷ 0x55 ∷ 0x03 ∷ 0x6D ∷ 0x61 ∷ 0x78 ∷ 0x71 ∷ 0x06 ∷ 0x4B ∷ 0x04
    ∷ 0x55 ∷ 0x07 ∷ 0x72 ∷ 0x65 ∷ 0x76 ∷ 0x65 ∷ 0x72 ∷ 0x73 ∷ 0x65 ∷ 0x71 ∷ 0x07
    ∷ 0x63 ∷ 0x5F ∷ 0x5F ∷ 0x62 ∷ 0x75 ∷ 0x69 ∷ 0x6C ∷ 0x74 ∷ 0x69 ∷ 0x6E ∷ 0x5F ∷ 0x5F ∷ 0x0A ∷ 0x73 ∷ 0x65 ∷ 0x74 ∷ 0x0A ∷ 0x71 ∷ 0x08
    ∷ 0x5D ∷ 0x71 ∷ 0x09 ∷ 0x4B ∷ 0x02 ∷ 0x61 ∷ 0x85 ∷ 0x71 ∷ 0x0A ∷ 0x52 ∷ 0x71 ∷ 0x0B ∷ 0x75
    ∷ 0x68 ∷ 0x03 ∷ 0x68 ∷ 0x04 ∷ 0x68 ∷ 0x05 ∷ new_bool mark ∷ 0x68 ∷ 0x06 ∷ 0x4B ∷ 0x04 ∷ 0x68 ∷ 0x07 ∷ 0x68 ∷ 0x0B ∷ 0x75 ∷ 0x2E ∷ []

-- ---- the machine's run

abbrev over : Label → List ℕ → Node
over l is = record { label = l; kids = is }

abbrev nodes : Bool → List Node
nodes mark =
    over DictL (1 ∷ 2 ∷ 3 ∷ 4 ∷ 9 ∷ 19 ∷ 11 ∷ 20 ∷ 13 ∷ 18 ∷ [])
    ∷ kidless (BytesL before_key)
    ∷ over DictL (3 ∷ 4 ∷ 9 ∷ 10 ∷ 11 ∷ 12 ∷ 13 ∷ 18 ∷ [])
    ∷ kidless (BytesL answers_key)
    ∷ over DictL (5 ∷ 6 ∷ 7 ∷ 8 ∷ [])
    ∷ kidless (I64L 1) ∷ kidless (I64L 3) ∷ kidless (I64L 2) ∷ kidless (I64L 0)
    ∷ kidless (BytesL flipped_key) ∷ kidless (BoolL (not mark))
    ∷ kidless (BytesL max_key) ∷ kidless (I64L 4)
    ∷ kidless (BytesL reverse_key)
    ∷ kidless (GlobalL builtin set_name)
    ∷ over ListL (16 ∷ [])
    ∷ kidless (I64L 2)
    ∷ over TupleL (15 ∷ [])
    ∷ over SetL (15 ∷ [])
    ∷ kidless (BoolL mark)
    ∷ kidless (I64L 4)
    ∷ []

-- the nodes at STOP; the sheet that is scored is the root
record Stops (mark : Bool) : Type 0 where
  state : State
  runs : run Full (sheet_pickle mark) ≡ ok state
  made : state.nodes ≡ nodes mark
  root : state.stack ≡ 0 ∷ []
  whole : state.input ≡ []

stops : (mark : Bool) → Stops mark
unfolding running
stops true = record { state = _; runs = refl; made = refl; root = refl; whole = refl }
stops false = record { state = _; runs = refl; made = refl; root = refl; whole = refl }

-- ---- its plain write-out

abbrev alone : Label → Forest → Forest
alone l r = node l nil r

abbrev given : Forest
given = alone (I64L 1) (alone (I64L 3) (alone (I64L 2) (alone (I64L 0) nil)))

-- the four keys, with the reversed items as a Set has them at STOP or in a table
abbrev fields : Bool → Forest → Forest
fields mark reversed =
    alone (BytesL answers_key) (node DictL given
    (alone (BytesL flipped_key) (alone (BoolL mark)
    (alone (BytesL max_key) (alone (I64L 4)
    (alone (BytesL reverse_key) (node SetL reversed nil)))))))

abbrev argument : Forest
argument = node ListL (alone (I64L 2) nil) nil

abbrev forest : Bool → Forest
forest mark = node DictL (alone (BytesL before_key) (node DictL (fields (not mark) argument) (fields mark argument))) nil

four_numbers : (mark : Bool) → WritesOut (nodes mark) (5 ∷ 6 ∷ 7 ∷ 8 ∷ []) given
four_numbers mark = afresh nothing (afresh nothing (afresh nothing (afresh nothing nothing)))

argument_out : (mark : Bool) → WritesOut (nodes mark) (15 ∷ []) argument
argument_out mark = afresh (afresh nothing nothing) nothing

before_out : (mark : Bool) → WritesOut (nodes mark) (3 ∷ 4 ∷ 9 ∷ 10 ∷ 11 ∷ 12 ∷ 13 ∷ 18 ∷ []) (fields (not mark) argument)
before_out mark = afresh nothing (afresh (four_numbers mark) (afresh nothing (afresh nothing (afresh nothing (afresh nothing (afresh nothing (afresh (argument_out mark) nothing)))))))

later_out : (mark : Bool) → WritesOut (nodes mark) (3 ∷ 4 ∷ 9 ∷ 19 ∷ 11 ∷ 20 ∷ 13 ∷ 18 ∷ []) (fields mark argument)
later_out mark = afresh nothing (afresh (four_numbers mark) (afresh nothing (afresh nothing (afresh nothing (afresh nothing (afresh nothing (afresh (argument_out mark) nothing)))))))

written : (mark : Bool) → WritesOut (nodes mark) (0 ∷ []) (forest mark)
written mark = afresh (afresh nothing (afresh (before_out mark) (later_out mark))) nothing

-- ---- its value, and what the score call answers of its table

abbrev items : Forest
items = alone (I64L 2) nil

abbrev value : Bool → Value
value mark =
    record {
      label = DictL;
      contents =
          alone (BytesL answers_key) (node DictL given
          (alone (BytesL before_key) (node DictL (fields (not mark) items)
          (alone (BytesL flipped_key) (alone (BoolL mark)
          (alone (BytesL max_key) (alone (I64L 4)
          (alone (BytesL reverse_key) (node SetL items nil)))))))));
    }

in_order : (mark : Bool) → settle (forest mark) ≡ one (value mark)
unfolding shaping
in_order true = refl
in_order false = refl

within : (mark : Bool) → measured (forest mark) ≡ ok tt
unfolding shaping
within true = refl
within false = refl

formed : (mark : Bool) → WellFormed (table (one (value mark)) 0) (size (one (value mark))) (text (one (value mark)))
unfolding shaping
formed true = value_formed (value true) _ tt tt refl (omega arith) (omega arith) (omega arith)
formed false = value_formed (value false) _ tt tt refl (omega arith) (omega arith) (omega arith)

-- its own value
formed_is : (mark : Bool) (g : WellFormed (table (one (value mark)) 0) (size (one (value mark))) (text (one (value mark)))) → g.value ≡ value mark
unfolding formed
formed_is true g = one_value g.value (value true) (well_formed_one _ _ _ g (formed true) ∙ ap one (formed_value (value true) _ _ _ _ _ _ _))
formed_is false g = one_value g.value (value false) (well_formed_one _ _ _ g (formed false) ∙ ap one (formed_value (value false) _ _ _ _ _ _ _))

-- 3 and 0; or, where the item 2 was not flipped before, 3 and 4
abbrev pub score_due : Bool → ℕ
score_due true = 3
score_due false = 7

tally : (mark : Bool) → tally_of (value mark) ≡ Some (score_due mark, 2)
unfolding scoring
tally true = refl
tally false = refl

plainly_scored : (mark : Bool) → ScoresPlain (forest mark) (scored (score_due mark) 2)
unfolding scored_of
plainly_scored mark = rw (in_order mark) (scores_good _ _ _ _ (formed mark) (λ g. sym (ap scored_of (ap tally_of (formed_is mark g) ∙ tally mark))))

-- ---- read and scored

every_byte : (l : List ℕ) → T (all_bytes l) → Bytes l
unfolding all_bytes
every_byte [] h i = omega arith
every_byte (x ∷ l) h zero = ltb→lt x 256 (and_l (ltb x 256) (all_bytes l) h)
every_byte (x ∷ l) h (suc i) = every_byte l (and_r (ltb x 256) (all_bytes l) h) i

sheet-bytes : (mark : Bool) → Bytes (sheet_pickle mark)
unfolding all_bytes
sheet-bytes true = every_byte (sheet_pickle true) tt
sheet-bytes false = every_byte (sheet_pickle false) tt

-- the reading of a pickle into slices that are long enough succeeds, and the score call answers this of what it left; nothing is left of the
-- pickle, so it is the whole reading too
pub record ReadsAndScores (p : List ℕ) (due : Scored) : Type 0 where
  pub accepted : (l l' : Slices) (a : Answer) → short stated l ≡ false → ReadCall (prefix p) l l' a → a.number ≡ 0
  pub scores : (l l' : Slices) (a : Answer) (r : Scored) → short stated l ≡ false → ReadCall (prefix p) l l' a → ScoresLeft l' a r → r ≡ due
  pub both : whole p ≡ prefix p

-- each of the two sheets is scored right: 3 of two items where the mark is set, and 7 where it is not
pub each_right : (mark : Bool) → ReadsAndScores (sheet_pickle mark) (scored (score_due mark) 2)
unfolding leaves
each_right mark = record { accepted = λ l l' a long c. read l l' a long c; scores = λ l l' a r long c q. shared_scores p (sheet-bytes mark) s fits e.runs left apart f w l l' a (read l l' a long c) c q (plainly_scored mark); both = whole-prefix Full p ends }
  where
    p : List ℕ
    p = sheet_pickle mark

    e : Stops mark
    e = stops mark

    s : State
    s = e.state

    f : Forest
    f = forest mark

    fits : length p ≤ pickle_limit
    fits = omega arith

    left : 0 < length s.stack
    left = rw e.root (omega arith)

    w : WritesOut s.nodes (last s.stack ∷ []) f
    w = rw (e.made, e.root) (written mark)

    apart : NothingContainsItself s.nodes (last s.stack)
    apart = written_nothing_itself w

    read : (l l' : Slices) (a : Answer) → short stated l ≡ false → ReadCall (prefix p) l l' a → a.number ≡ 0
    read l l' a long c =
        let call = call_never_shows_sharing Full p s fits e.runs left apart f w l l' a c in
        ap (λ (y : Answer). y.number) (call_answer (reading_of (consumed p s) f) l l' a call long) ∙ ap (λ (y : Reading). y.answer.number) (told_fits (consumed p s) f (within mark)).0

    ends : leaves p (prefix p) ≡ false
    ends =
        let x : prefix p ≡ reads (consumed p s) (settle f) = sharing_never_shows Full p s fits e.runs left f apart w ∙ (told_fits (consumed p s) f (within mark)).0 in
        rw (x, e.whole) (le-ltb (length p) (length p) (omega arith))
