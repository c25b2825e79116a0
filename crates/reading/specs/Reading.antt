-- The two readings (`from_bytes_prefix`, `from_bytes`) in any edition: from a pickle's bytes to number, detail, length, count, table and
-- text. Then demand 3 for the prefix reading. (ShortRoom, 1, is about the lent slices and is the code's affair.)
use Rattle.std.specs.Prelude.{ℕ, ◌-◌, ◌*◌, ◌<◌, ◌≤◌, Bool, true, false, cond, ◌&&◌, List, [], ◌∷◌, ◌≡◌, length, drop, leb, ltb, eqb}
use Rattle.std.proofs.Common.{sym, ◌∙◌, ap, length-drop, arith}
use borrow.Author.Tests.{le-leb, lt-leb, lt-ltb, le-ltb}
use Rattle.refusal.specs.declared.Refusal.{Refusal}
use Rattle.refusal.specs.declared.Refusal.TheVariants.{TooLong, StackUnderflow, TrailingData}
use Rattle.refusal.specs.declared.Answer.{Answer}
use Rattle.refusal.specs.Numbers.{refused_answer}
use Rattle.op.specs.declared.Edition.{Edition}
use Rattle.op.specs.declared.Edition.TheVariants.{Full}
use Rattle.value.specs.Value.{Forest, one, size, depth, text, table, table-length}
use Rattle.steps.specs.State.{State, Res, ok, no, ◌>>=◌, need, last, pop}
use Rattle.steps.specs.Run.{run}
use Rattle.steps.specs.Out.{of_out}
use Rattle.steps.specs.Shrinks.{Later, run_later}
use Rattle.reading.specs.Build.{tree}
use Rattle.reading.specs.Unfold.{WritesOut, NothingContainsItself, tree_writes_out, tree_is_write_out}
use Rattle.reading.specs.Measure.{depth_limit, values_limit, text_limit, measured, measured-within}
use Rattle.reading.specs.Settle.{settle}
use Rattle.reading.specs.Smaller.{settle_smaller}

-- what a reading gives: its answer, and what it fills of the lent table and text, from their beginnings
pub record Reading : Type 0 where
  pub answer : Answer
  pub words : List ℕ
  pub bytes : List ℕ

-- a refusal changes no output
abbrev pub refuses : Refusal → Reading
refuses why = record { answer = refused_answer why; words = []; bytes = [] }

-- success: number 0, detail 0, the bytes read, the records
abbrev pub reads : ℕ → Forest → Reading
reads n f = record { answer = record { number = 0; detail = 0; length = n; count = size f }; words = table f 0; bytes = text f }

-- what a tree comes to after n bytes: 17, 18, 19, or the value
unfoldable pub reading_of : ℕ → Forest → Reading
reading_of n f = elim (measured f) [ no why ↦ refuses why | ok u ↦ reads n (settle f) ]

abbrev pub pickle_limit : ℕ
pickle_limit = 65536

-- The machine at STOP and the value left, the top of the stack whatever lies below it and whatever marks are open: 2 for more bytes than
-- the limit, opcode by opcode, 6 for an empty stack.
unfoldable pub stopped : Edition → List ℕ → Res (State × ℕ)
stopped ed p = do
  _ ← need (leb (length p) pickle_limit) TooLong
  s ← run ed p
  (root, below) ← pop s
  ok (s, root)

-- the bytes up to STOP
abbrev pub consumed : List ℕ → State → ℕ
consumed p s = length p - length s.input

-- the prefix reading
unfoldable pub prefix_in : Edition → List ℕ → Reading
prefix_in ed p = elim (stopped ed p) [ no why ↦ refuses why | ok x ↦ reading_of (consumed p x.0) (one (tree x.0.nodes x.1)) ]

-- a reading that succeeds and leaves bytes
unfoldable pub leaves : List ℕ → Reading → Bool
leaves p r = eqb r.answer.number 0 && ltb r.answer.length (length p)

-- the whole reading: as the prefix reading, but 11 exactly when that one succeeds and leaves bytes
unfoldable pub whole_in : Edition → List ℕ → Reading
whole_in ed p = cond (leaves p (prefix_in ed p)) (refuses TrailingData) (prefix_in ed p)

-- those of RULES, part A: in the full edition
abbrev pub prefix : List ℕ → Reading
prefix p = prefix_in Full p

abbrev pub whole : List ℕ → Reading
whole p = whole_in Full p

-- ---- the readings, case by case

module _ (ed : Edition) (p : List ℕ) where
  pub stopped-long : pickle_limit < length p → stopped ed p ≡ no TooLong
  unfolding stopped ◌>>=◌ need
  stopped-long h = rw (lt-leb (length p) pickle_limit h)

  pub stopped_refused : (why : Refusal) → length p ≤ pickle_limit → run ed p ≡ no why → stopped ed p ≡ no why
  unfolding stopped ◌>>=◌ need
  stopped_refused why l e = rw (le-leb (length p) pickle_limit l, e)

  -- read to STOP with no value left
  pub stopped_empty : (s : State) → length p ≤ pickle_limit → run ed p ≡ ok s → length s.stack ≤ 0 → stopped ed p ≡ no StackUnderflow
  unfolding stopped pop ◌>>=◌ need
  stopped_empty s l e h = rw (le-leb (length p) pickle_limit l, e, le-ltb 0 (length s.stack) h)

  -- read to STOP with a value left
  pub stopped_with : (s : State) → length p ≤ pickle_limit → run ed p ≡ ok s → 0 < length s.stack → stopped ed p ≡ ok (s, last s.stack)
  unfolding stopped pop ◌>>=◌ need
  stopped_with s l e h = rw (le-leb (length p) pickle_limit l, e, lt-ltb 0 (length s.stack) h)

  pub prefix_refused : (why : Refusal) → stopped ed p ≡ no why → prefix_in ed p ≡ refuses why
  unfolding prefix_in
  prefix_refused why e = rw (e, prefix_in)

  pub prefix-told : (s : State) (root : ℕ) → stopped ed p ≡ ok (s, root) → prefix_in ed p ≡ reading_of (consumed p s) (one (tree s.nodes root))
  unfolding prefix_in
  prefix-told s root e = rw (e, prefix_in)

  pub whole-trailing : leaves p (prefix_in ed p) ≡ true → whole_in ed p ≡ refuses TrailingData
  unfolding whole_in
  whole-trailing e = rw e

  pub whole-prefix : leaves p (prefix_in ed p) ≡ false → whole_in ed p ≡ prefix_in ed p
  unfolding whole_in
  whole-prefix e = rw e

-- the bytes consumed are the pickle's beginning, of one at least; what the machine has left is the rest
pub consumed-rest : (ed : Edition) (p : List ℕ) (s : State) → run ed p ≡ ok s → (0 < consumed p s) × (consumed p s ≤ length p) × (s.input ≡ drop (consumed p s) p)
consumed-rest ed p s e = let l : Later 1 p s = of_out (Later 1 p) (run ed p) s (run_later ed p) e in go l.read l.enough l.inside l.left
  where
    go : (r : ℕ) → 1 ≤ r → r ≤ length p → s.input ≡ drop r p → (0 < consumed p s) × (consumed p s ≤ length p) × (s.input ≡ drop (consumed p s) p)
    go r a b i =
        let z : length s.input ≡ length p - r = ap length i ∙ rw length-drop in
        let c : consumed p s ≡ r = omega arith in
        (omega arith, omega arith, i ∙ ap (λ (n : ℕ). drop n p) (sym c))

-- what a reading that succeeds fills: no more than the caller lends
pub told_fits : (n : ℕ) (f : Forest) → measured f ≡ ok tt → (reading_of n f ≡ reads n (settle f)) × (length (table (settle f) 0) ≤ 4 * values_limit) × (length (text (settle f)) ≤ text_limit) × (depth (settle f) ≤ depth_limit)
unfolding reading_of
told_fits n f e =
    let w = measured-within f e in
    let s = settle_smaller f in
    let v = s.values in
    let d = s.deep in
    let t = s.texts in
    let a = w.0 in
    let b = w.1 in
    let c = w.2 in
    (rw (e, reading_of), rw table-length (omega arith), omega arith, omega arith)

-- ---- demand 3

-- Any pickle that is read to its STOP with a value left, where nothing reachable from that value contains itself: the prefix reading's
-- answer is that of the value written out plainly, same value, length, and refusal for depth, values or text.
module _ (ed : Edition) (p : List ℕ) (s : State) (short : length p ≤ pickle_limit) (stop : run ed p ≡ ok s) (left : 0 < length s.stack) where
  pub sharing_never_shows : (f : Forest) → NothingContainsItself s.nodes (last s.stack) → WritesOut s.nodes (last s.stack ∷ []) f → prefix_in ed p ≡ reading_of (consumed p s) f
  sharing_never_shows f h w = rw (prefix-told ed p s (last s.stack) (stopped_with ed p s short stop left)) (ap (reading_of (consumed p s)) (tree_is_write_out s.nodes (last s.stack) f h w))

  -- and such a write-out there is
  pub written_out : NothingContainsItself s.nodes (last s.stack) → (f : Forest) × WritesOut s.nodes (last s.stack ∷ []) f × (prefix_in ed p ≡ reading_of (consumed p s) f)
  written_out h = (one (tree s.nodes (last s.stack)), tree_writes_out s.nodes (last s.stack) h, prefix-told ed p s (last s.stack) (stopped_with ed p s short stop left))
