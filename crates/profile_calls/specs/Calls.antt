-- The public calls of the profile against those of the full reader, on the same slices. What the profile accepts, the full reader accepts
-- with the same answer, table and text, and there is no Global, Object, Set or FrozenSet in it. Where the full reader accepts and the
-- profile does not, its answer is 26 with the byte of one of the six opcodes, at which the full reader executes a step.
use Rattle.std.specs.Prelude.{ℕ, false, List, [], ◌∷◌, ◌≡◌, refl}
use Rattle.std.proofs.Common.{sym, ◌∙◌, ap}
use Rattle.refusal.specs.declared.Refusal.TheVariants.{OutsideProfile}
use Rattle.refusal.specs.declared.Answer.{Answer}
use Rattle.refusal.specs.Numbers.{refused_answer}
use Rattle.rooms.specs.Stated.{Slices, stated, table_slice, text_slice, begun, short}
use Rattle.op.specs.Table.{row_in, row_of, known_name, opcode_of}
use Rattle.op.specs.Edition.{evaluates}
use Rattle.op.specs.declared.Edition.TheVariants.{Full, Plain}
use Rattle.utf8.specs.Utf8 as utf8
use Rattle.input.specs.Bytes.{Bytes, last_byte, low_first}
use Rattle.input.specs.Line.{first_from, newline_of, less_cr, line_of}
use Rattle.value.specs.Value.{text, count, size, depth, table, GlobalL, nil, node}
use Rattle.steps.specs.State.{State, ok, ◌>>=◌, need, leaf, bytes, byte, line, pop, top, pop_many, push_id, push_node, push, link, extend, memo_find, memo_has, memo_insert, get, put}
use Rattle.steps.specs.Opcodes.{proto, low_bytes, binint1, global, made, tuple_n, add_items, append, get_bytes, put_bytes}
use Rattle.steps.specs.Run.{going, does, decide, admit, step, runs, start, run}
use Rattle.reading.specs.Build as Build
use Rattle.reading.specs.Measure.{measured}
use Rattle.reading.specs.Settle as Settle
use Rattle.reading.specs.Reading.{Reading, refuses, reads, reading_of, stopped, prefix_in, whole_in, prefix, whole, leaves}
use Rattle.de.specs.Call.{reading, ReadCall, read_one}
use Rattle.de.specs.Theorems.{call_answer, call-table, call-text, call_long_enough, not_refused, Ends, refused as ends-refused, read as ends_read, prefix_ends, whole_ends}
use Rattle.de.specs.Shared.{shared}
use Rattle.profile_calls.specs.Alike.{Barred, Executes, executes}
use Rattle.profile_calls.specs.Readings.{ReadAlike, reads_as_full, reads_barred, prefix_alike, whole_alike}
use Rattle.profile_calls.specs.Classless.{Classless, built, ReadsClassless, refused, read, settled-classless, prefix-classless, whole-classless}

-- opens what the examples compute with
unfoldable machine : Unit {0}
unfolding last_byte low_first first_from newline_of less_cr line_of utf8.evaluates row_in row_of known_name opcode_of evaluates ◌>>=◌ need leaf bytes byte line pop top pop_many push_id push_node push link extend memo_find memo_has memo_insert get put proto low_bytes binint1 global made tuple_n add_items append get_bytes put_bytes going does decide admit step runs start run
machine = tt

unfoldable building : Unit {0}
unfolding text count size depth table Build.first_taken Build.blocked Build.finish Build.each Build.build Build.tree measured Settle.arrange Settle.settle reading_of stopped prefix_in
building = tt

-- the answer of the profile: 26, the byte of one of the six, and the step of it
pub record Outside (p : List ℕ) (a : Answer) : Type 0 where
  pub code : ℕ
  pub one_of_six : Barred code
  pub executed : Executes p code
  pub answer : a ≡ refused_answer (OutsideProfile code)

-- x is the profile's reading and y the full reader's, of the same pickle p; both calls were lent l
module _ (p : List ℕ) (x y : Reading) (same : ReadAlike p x y) (l l' l'' : Slices) (a b : Answer) (c : ReadCall x l l' a) (d : ReadCall y l l'' b) where
  call_accepted : a.number ≡ 0 → (b ≡ a) × (l'' ≡ l')
  call_accepted z = go same
    where
      go : ReadAlike p x y → (b ≡ a) × (l'' ≡ l')
      go (reads_as_full e) = read_one y l l'' l' b a d (c ∙ ap (λ (r : Reading). reading r l) e)
      go (reads_barred i o m e) = absurd (not_refused x l l' a c (OutsideProfile i) z e)

  call-outside : Ends Full p y → b.number ≡ 0 → ¬ (a.number ≡ 0) → Outside p a
  call-outside ends z n = go same ends
    where
      long : short stated l ≡ false
      long = call_long_enough y l l'' b d z

      go : ReadAlike p x y → Ends Full p y → Outside p a
      go (reads_as_full e) f = absurd (n (ap (λ (r : Answer). r.number) (sym (read_one y l l'' l' b a d (c ∙ ap (λ (r : Reading). reading r l) e)).0) ∙ z))
      go (reads_barred i o m e) (ends-refused why f) = absurd (not_refused y l l'' b d why z f)
      go (reads_barred i o m e) (ends_read s f r q) = record { code = i; one_of_six = o; executed = executes p i s r m; answer = call_answer x l l' a c long ∙ ap (λ (r : Reading). r.answer) e }

-- the value left at STOP contains no class, what collapses in it included, and the answer counts the records of what is left of it, whose
-- table and text the lent slices begin with; behind them they are as they were
pub record Fills (p : List ℕ) (l l' : Slices) (a : Answer) : Type 0 where
  pub state : State
  pub root : ℕ
  pub stops : stopped Plain p ≡ ok (state, root)
  pub contains : Classless (built state root)
  pub classless : Classless (Settle.settle (built state root))
  pub count_is : a.count ≡ size (Settle.settle (built state root))
  pub table_is : table_slice l' ≡ begun (table (Settle.settle (built state root)) 0) (table_slice l)
  pub text_is : text_slice l' ≡ begun (text (Settle.settle (built state root))) (text_slice l)

call_fills : (p : List ℕ) (x : Reading) (l l' : Slices) (a : Answer) → ReadCall x l l' a → a.number ≡ 0 → ReadsClassless p x → Fills p l l' a
call_fills p x l l' a c z (refused why e) = absurd (not_refused x l l' a c why z e)
call_fills p x l l' a c z (read s r d e h) =
    let long = call_long_enough x l l' a c z in
    record {
      state = s;
      root = r;
      stops = d;
      contains = h;
      classless = settled-classless (built s r) h;
      count_is = ap (λ (y : Answer). y.count) (call_answer x l l' a c long) ∙ ap (λ (y : Reading). y.answer.count) e;
      table_is = call-table x l l' a c long ∙ ap (λ (y : Reading). begun y.words (table_slice l)) e;
      text_is = call-text x l l' a c long ∙ ap (λ (y : Reading). begun y.bytes (text_slice l)) e;
    }

-- ---- the prefix reading, then the whole reading

module _ (p : List ℕ) (l l' : Slices) (a : Answer) (c : ReadCall (prefix_in Plain p) l l' a) where
  pub prefix_accepted : a.number ≡ 0 → (l'' : Slices) (b : Answer) → ReadCall (prefix p) l l'' b → (b ≡ a) × (l'' ≡ l')
  prefix_accepted z l'' b d = call_accepted p (prefix_in Plain p) (prefix p) (prefix_alike p) l l' l'' a b c d z

  pub prefix_fills : Bytes p → a.number ≡ 0 → Fills p l l' a
  prefix_fills h z = call_fills p (prefix_in Plain p) l l' a c z (prefix-classless p h)

  pub prefix-outside : (l'' : Slices) (b : Answer) → ReadCall (prefix p) l l'' b → b.number ≡ 0 → ¬ (a.number ≡ 0) → Outside p a
  prefix-outside l'' b d = call-outside p (prefix_in Plain p) (prefix p) (prefix_alike p) l l' l'' a b c d (prefix_ends Full p)

module _ (p : List ℕ) (l l' : Slices) (a : Answer) (c : ReadCall (whole_in Plain p) l l' a) where
  pub whole_accepted : a.number ≡ 0 → (l'' : Slices) (b : Answer) → ReadCall (whole p) l l'' b → (b ≡ a) × (l'' ≡ l')
  whole_accepted z l'' b d = call_accepted p (whole_in Plain p) (whole p) (whole_alike p) l l' l'' a b c d z

  pub whole_fills : Bytes p → a.number ≡ 0 → Fills p l l' a
  whole_fills h z = call_fills p (whole_in Plain p) l l' a c z (whole-classless p h)

  pub whole-outside : (l'' : Slices) (b : Answer) → ReadCall (whole p) l l'' b → b.number ≡ 0 → ¬ (a.number ≡ 0) → Outside p a
  whole-outside l'' b d = call-outside p (whole_in Plain p) (whole p) (whole_alike p) l l' l'' a b c d (whole_ends Full p)

-- ---- the premises are met

-- GLOBAL with an empty module and name, and STOP: the full reader reads it, the profile does not
abbrev empty_name : List ℕ
empty_name = 0x63 ∷ 0x0A ∷ 0x0A ∷ 0x2E ∷ []

pub told-apart : (prefix empty_name ≡ reads 4 (node (GlobalL [] []) nil nil)) × (prefix_in Plain empty_name ≡ refuses (OutsideProfile 0x63))
unfolding machine building
told-apart = (refl, refl)

-- the worked input of RULES A9.5, a list placed twice and 5 added after that: both read it
pub both_read : (prefix_in Plain shared ≡ prefix shared) × ((prefix shared).answer.number ≡ 0)
unfolding machine building
both_read = (refl, refl)

-- and so by the whole reading
pub told-apart-whole : (whole empty_name ≡ reads 4 (node (GlobalL [] []) nil nil)) × (whole_in Plain empty_name ≡ refuses (OutsideProfile 0x63))
unfolding machine building whole_in leaves
told-apart-whole = (refl, refl)

pub both-read-whole : (whole_in Plain shared ≡ whole shared) × ((whole shared).answer.number ≡ 0)
unfolding machine building whole_in leaves
both-read-whole = (refl, refl)
