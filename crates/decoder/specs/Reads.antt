-- The parts of an opcode over rooms and counts: what it reads of the pickle and takes off the stack, case by case as the code tests them.
use Prim.Native.Nat.{ℕ, suc, ◌+◌, ◌-◌, ◌<◌, ◌≤◌}
use Rattle.std.specs.Prelude.{Bool, true, false, cond, ◌≡◌, refl, length, take, eqb, ltb}
use mathlib.Core.List.{List, [], ◌∷◌}
use Rattle.std.proofs.Common.{◌∙◌, ap₂, drop-drop, get_or-take, length-take-le}
use Rattle.std.proofs.Math.Path.{ap}
use Rattle.std.proofs.Math.ListN.{get_or, drop, length-drop}
use borrow.Author.Tests.{le-leb, lt-leb, lt-ltb}
use native.Mathlib.Omega.{arith}
use Rattle.refusal.specs.Read.{got, refused}
use Rattle.refusal.specs.declared.Refusal.TheVariants.{EndOfInput, StackUnderflow}
use Rattle.input.specs.Line.{first_from, newline_of, less_cr, line_of}
use Rattle.steps.specs.State.{ok, no, ◌>>=◌, need, leaf, with_input, with_stack, with_marks, last, bytes, line, pop, top, pop_mark, pop_many}
use Rattle.store.specs.declared.Counts.{Counts}
use Rattle.store.specs.Rooms.{Rooms, state_of, at_to, stack_to}
use Rattle.store.specs.RoomLaws.{read_more, stack_cut, marks_cut}
use Rattle.store.specs.RoomReads.{stack_length, marks_length, input_of, stack_of, marks_of}
use Rattle.store.specs.Effects.{Firm, above}

-- place, stack and marks moved
abbrev pub cut_to : Counts → ℕ → ℕ → ℕ → Counts
cut_to c a n m = record { at = a; nodes = c.nodes; links = c.links; stack = n; deepest = c.deepest; marks = m; most = c.most; memo = c.memo; greatest = c.greatest }

pub firm_cut : (r : Rooms) (c : Counts) (a n m : ℕ) → Firm r c → c.at ≤ a → a ≤ length r.pickle → n ≤ c.stack → m ≤ c.marks → Firm r (cut_to c a n m)
firm_cut r c a n m f h i k l = record {
  lengths = f.lengths;
  at = i;
  nodes = f.nodes;
  links = f.links;
  stack = let x = f.stack in omega arith;
  deepest = f.deepest;
  marks = let x = f.marks in omega arith;
  most = f.most;
  memo = f.memo;
  numbered = f.numbered;
  kept = f.kept;
  clean = record { nodes = f.clean.nodes; owners = f.clean.owners; children = f.clean.children; stack = f.clean.stack; marks = f.clean.marks; keys = f.clean.keys; held = f.clean.held };
}

-- ---- a search that began at k

shifted : (l : List ℕ) (k j i : ℕ) → first_from l k ≡ got i → (k ≤ i) × (first_from l j ≡ got (j + (i - k)))
unfolding first_from
shifted [] k j i e = let z : ◌≡◌ {A = ℕ} 0 1 = cc in absurd (omega arith)
shifted (b ∷ l) k j i e = by (eqb b 10) e (shifted l (suc k) (suc j) i)
  where
    by : (t : Bool) → cond t (got k) (first_from l (suc k)) ≡ got i → (first_from l (suc k) ≡ got i → (suc k ≤ i) × (first_from l (suc j) ≡ got (suc j + (i - suc k)))) → (k ≤ i) × (cond t (got j) (first_from l (suc j)) ≡ got (j + (i - k)))
    by true e f =
        let z : k ≡ i = cc in
        let y : j ≡ j + (i - k) = omega arith in
        (omega arith, ap got y)
    by false e f =
        let q = f e in
        let h = q.0 in
        let y : suc j + (i - suc k) ≡ j + (i - k) = omega arith in
        (omega arith, q.1 ∙ ap got y)

shifted_none : (l : List ℕ) (k j : ℕ) → first_from l k ≡ refused EndOfInput 0 → first_from l j ≡ refused EndOfInput 0
unfolding first_from
shifted_none [] k j e = refl
shifted_none (b ∷ l) k j e = by (eqb b 10) e (shifted_none l (suc k) (suc j))
  where
    by : (t : Bool) → cond t (got k) (first_from l (suc k)) ≡ refused EndOfInput 0 → (first_from l (suc k) ≡ refused EndOfInput 0 → first_from l (suc j) ≡ refused EndOfInput 0) → cond t (got j) (first_from l (suc j)) ≡ refused EndOfInput 0
    by true e f = let z : ◌≡◌ {A = ℕ} 0 1 = cc in absurd (omega arith)
    by false e f = f e

-- ---- reading

module _ (r : Rooms) (c : Counts) where
  left : length (state_of r c).input ≡ length r.pickle - c.at
  unfolding state_of
  left = rw length-drop

  pub bytes-short : (n : ℕ) → c.at ≤ length r.pickle → length r.pickle - c.at < n → bytes n (state_of r c) ≡ no EndOfInput
  unfolding bytes ◌>>=◌ need
  bytes-short n h k = rw (lt-leb n (length (state_of r c).input) (rw left k))

  pub bytes_got : (n : ℕ) → c.at ≤ length r.pickle → n ≤ length r.pickle - c.at → bytes n (state_of r c) ≡ ok (take n (drop c.at r.pickle), state_of r (at_to c (c.at + n)))
  unfolding bytes ◌>>=◌ need
  bytes_got n h k = rw (le-leb n (length (state_of r c).input) (rw left k), read_more r c n) (ap (λ (l : List ℕ). ok (take n l, with_input (state_of r c) (drop n (state_of r c).input))) (input_of r c))

  pub line-none : newline_of r.pickle c.at ≡ refused EndOfInput 0 → line (state_of r c) ≡ no EndOfInput
  unfolding line ◌>>=◌ leaf newline_of state_of
  line-none e = rw (shifted_none (drop c.at r.pickle) c.at 0 e)

  pub line_got : (i : ℕ) → newline_of r.pickle c.at ≡ got i → line (state_of r c) ≡ ok (line_of r.pickle c.at i, state_of r (at_to c (i + 1)))
  unfolding line ◌>>=◌ leaf newline_of line_of state_of
  line_got i e =
      let q = shifted (drop c.at r.pickle) c.at 0 i e in
      let h = q.0 in
      let y : c.at + suc (i - c.at) ≡ i + 1 = omega arith in
      let z : 0 + (i - c.at) ≡ i - c.at = omega arith in
      let x : i - c.at - 0 ≡ i - c.at = omega arith in
      rw (q.1 ∙ ap got z) (ap₂ (λ (n : ℕ) (l : List ℕ). ok (less_cr (take n (drop c.at r.pickle)), with_input (state_of r c) l)) x (drop-drop (suc (i - c.at)) c.at r.pickle ∙ ap (λ (n : ℕ). drop n r.pickle) y))

-- ---- taking off the stack

last-take : (n : ℕ) (l : List ℕ) → n ≤ length l → 0 < n → get_or (take n l) (length (take n l) - 1) 0 ≡ get_or l (n - 1) 0
last-take n l h k = rw (length-take-le n l h) (get_or-take n l (n - 1) 0 (omega arith))

module _ (r : Rooms) (c : Counts) (f : Firm r c) where
  room : c.stack ≤ length r.stack
  room = let a = f.lengths.stack in let b = f.stack in let d = f.deepest in omega arith

  held : length (state_of r c).stack ≡ c.stack
  held = stack_length r c room

  marks_room : c.marks ≤ length r.marks
  marks_room = let a = f.lengths.marks in let b = f.marks in let d = f.most in omega arith

  marked : length (state_of r c).marks ≡ c.marks
  marked = marks_length r c marks_room

  pub top_none : c.stack ≡ 0 → top (state_of r c) ≡ no StackUnderflow
  unfolding top ◌>>=◌ need
  top_none e = rw (held, e)

  topmost : 0 < c.stack → last (state_of r c).stack ≡ get_or r.stack (c.stack - 1) 0
  topmost h = rw (stack_of r c) (last-take c.stack r.stack room h)

  some : 0 < c.stack → ltb 0 (length (state_of r c).stack) ≡ true
  some h = lt-ltb 0 (length (state_of r c).stack) (rw held h)

  pub top_got : 0 < c.stack → top (state_of r c) ≡ ok (get_or r.stack (c.stack - 1) 0)
  unfolding top ◌>>=◌ need
  top_got h = rw (some h) (ap ok (topmost h))

  pub pop_none : c.stack ≡ 0 → pop (state_of r c) ≡ no StackUnderflow
  unfolding pop ◌>>=◌ need
  pop_none e = rw (held, e)

  pub pop_got : 0 < c.stack → pop (state_of r c) ≡ ok (get_or r.stack (c.stack - 1) 0, state_of r (stack_to c (c.stack - 1)))
  unfolding pop ◌>>=◌ need
  pop_got h =
      rw (some h, stack_cut r c (c.stack - 1) (omega arith))
      (ap₂ (λ (x n : ℕ). ok (x, with_stack (state_of r c) (take (n - 1) (state_of r c).stack))) (topmost h) held)

  -- the n topmost values, and the rest of them
  pub many-none : (n : ℕ) → c.stack < n → pop_many n (state_of r c) ≡ no StackUnderflow
  unfolding pop_many ◌>>=◌ need
  many-none n h = rw (lt-leb n (length (state_of r c).stack) (rw held h))

  pub many_got : (n : ℕ) → n ≤ c.stack → pop_many n (state_of r c) ≡ ok (above (c.stack - n) c.stack r.stack, state_of r (stack_to c (c.stack - n)))
  unfolding pop_many ◌>>=◌ need above
  many_got n h =
      rw (le-leb n (length (state_of r c).stack) (rw held h), stack_cut r c (c.stack - n) (omega arith))
      (ap₂ (λ (z : ℕ) (l : List ℕ). ok (drop (z - n) l, with_stack (state_of r c) (take (z - n) (state_of r c).stack))) held (stack_of r c))

  -- the values above the last mark
  pub mark-none : c.marks ≡ 0 → pop_mark (state_of r c) ≡ no StackUnderflow
  unfolding pop_mark ◌>>=◌ need
  mark-none e = rw (marked, e)

  last-mark : 0 < c.marks → last (state_of r c).marks ≡ get_or r.marks (c.marks - 1) 0
  last-mark h = rw (marks_of r c) (last-take c.marks r.marks marks_room h)

  pub mark-above : 0 < c.marks → c.stack < get_or r.marks (c.marks - 1) 0 → pop_mark (state_of r c) ≡ no StackUnderflow
  unfolding pop_mark ◌>>=◌ need
  mark-above h k = rw (lt-ltb 0 (length (state_of r c).marks) (rw marked h), last-mark h, lt-leb (get_or r.marks (c.marks - 1) 0) (length (state_of r c).stack) (rw held k))

  pub mark_got : 0 < c.marks → get_or r.marks (c.marks - 1) 0 ≤ c.stack
      → pop_mark (state_of r c) ≡ ok (above (get_or r.marks (c.marks - 1) 0) c.stack r.stack, state_of r (cut_to c c.at (get_or r.marks (c.marks - 1) 0) (c.marks - 1)))
  unfolding pop_mark ◌>>=◌ need above
  mark_got h k =
      let m = get_or r.marks (c.marks - 1) 0 in
      rw (lt-ltb 0 (length (state_of r c).marks) (rw marked h), last-mark h, le-leb m (length (state_of r c).stack) (rw held k), marks_cut r (stack_to c m) (c.marks - 1) (omega arith), stack_cut r c m k)
      (ap₂ (λ (z : ℕ) (l : List ℕ). ok (drop m l, with_marks (with_stack (state_of r c) (take m (state_of r c).stack)) (take (z - 1) (state_of r c).marks))) marked (stack_of r c))
