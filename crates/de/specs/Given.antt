-- What a reading in code gives: the definition's answer, and outputs that begin with what it fills.
use Rattle.std.specs.Prelude.{Result, Ok, Err, ℕ, ◌-◌, ◌*◌, ◌<◌, ◌≤◌, Bool, ◌&&◌, List, ◌++◌, ◌≡◌, get_or, drop}
use Rattle.std.proofs.Math.Bool.{true, false, cond}
use Rattle.std.proofs.Math.Path.{refl, sym, subst}
use Rattle.std.proofs.Common.{◌∙◌, ap₂, length-drop, length-take-le, get_or-take, arith}
use Rattle.std.proofs.Math.ListN.{length}
use Rattle.std.proofs.Math.Dec.{ltb}
use borrow.Author.Tests.{ne_eqb}
use Rattle.refusal.specs.declared.Refusal.{Refusal}
use Rattle.refusal.specs.declared.Refusal.TheVariants.{StackUnderflow, TrailingData}
use Rattle.refusal.specs.declared.Answer.{Answer}
use Rattle.refusal.specs.Numbers.{number_of, refused_answer}
use Rattle.op.specs.declared.Edition.{Edition}
use Rattle.value.specs.Value.{Forest, one, size, text, table, table-length}
use Rattle.steps.specs.State.{Res, ok, no, ◌>>=◌, need, last}
use Rattle.store.specs.declared.Counts.{Counts}
use Rattle.steps.specs.Run.{run}
use Rattle.store.specs.Rooms.{LentAs, Rooms, state_of}
use Rattle.store.specs.Effects.{Firm}
use Rattle.steps.specs.Out.{every_at}
use Rattle.store.specs.RoomReads.{input_of, stack_of, stack_length, nodes-length}
use Rattle.machine.specs.RoomsOf.{rooms_of}
use Rattle.machine.specs.Ran.{Ran, ended}
use Rattle.machine.specs.declared.Outcome.{Outcome}
use Rattle.store.specs.declared.NodeId.{NodeId}
use Rattle.reading.specs.Build.{tree}
use Rattle.reading.specs.Settle.{settle}
use Rattle.reading.specs.Measure.{measured}
use Rattle.reading.specs.Reading.{Reading, refuses, reads, reading_of, consumed, leaves, prefix_in, whole_in, pickle_limit, stopped_refused, stopped_empty, stopped_with, prefix_refused, prefix-told}
use Rattle.reading.specs.Success.{refusal_number}
use Rattle.de.specs.Rooms.{Zeros}
use Rattle.de.specs.Building.{At, due_of, Comes}

-- the reading that is asked for, in an edition
unfoldable pub due : Edition → Bool → List ℕ → Reading
due ed all p = cond all (whole_in ed p) (prefix_in ed p)

pub record Gives (x : Reading) (a : Answer) (o q o' q' : List ℕ) : Type 0 where
  pub answer : a ≡ x.answer
  pub table_is : o' ≡ x.words ++ drop (length x.words) o
  pub text_is : q' ≡ x.bytes ++ drop (length x.bytes) q

-- the rooms that a run left, of which these are lent; its log was zero
pub record RanIn (ed : Edition) (o : Outcome) (p nodes owners children stack : List ℕ) : Type 0 where
  pub before : LentAs
  pub marks : List ℕ
  pub keys : List ℕ
  pub held : List ℕ
  pub ran : Ran ed o p (rooms_of before p nodes owners children stack marks keys held)
  pub owners_zero : Zeros 8192 before.owners
  pub children_zero : Zeros 8192 before.children

-- a run that ended at STOP with these counts, or with a refusal
abbrev pub stopped : Counts → Outcome
stopped c = record { counts = c; ended = Ok tt }

abbrev pub refused_with : Counts → Refusal → Outcome
refused_with c why = record { counts = c; ended = Err why }

-- a run answers with a refusal: its own, or 6 where no value is left
unfoldable pub RefusesWith : Outcome → Refusal → Type 0
RefusesWith o x = by o.ended
  where
    by : Result (Unit {0}) Refusal → Type 0
    by (Err why) = x ≡ why
    by (Ok u) = (o.counts.stack ≡ 0) × (x ≡ StackUnderflow)

-- how it ended: with that, or with the value on top of its stack
unfoldable pub RunEnds : Outcome → List ℕ → Result NodeId Refusal → Type 0
RunEnds o stack (Err why) = RefusesWith o why
RunEnds o stack (Ok root) = (o ≡ stopped o.counts) × (0 < o.counts.stack) × (root.0 ≡ get_or stack (o.counts.stack - 1) 0)

pub refused_run : (o : Outcome) (stack : List ℕ) (why : Refusal) → o.ended ≡ Err why → RunEnds o stack (Err why)
unfolding RunEnds RefusesWith
refused_run o stack why e = rw e refl

module _ (o : Outcome) (stack : List ℕ) (u : Unit {0}) (e : o.ended ≡ Ok u) where
  pub empty_run : o.counts.stack ≡ 0 → RunEnds o stack (Err StackUnderflow)
  unfolding RunEnds RefusesWith
  empty_run z = rw e (z, refl)

  pub valued_run : (root : NodeId) → 0 < o.counts.stack → root.0 ≡ get_or stack (o.counts.stack - 1) 0 → RunEnds o stack (Ok root)
  unfolding RunEnds
  valued_run root z is = (λ i. record { counts = o.counts; ended = e i }, z, is)

-- the answer once a value is built, of a pickle read up to n
unfoldable pub told : Result ℕ Refusal → ℕ → Answer
told (Err why) n = refused_answer why
told (Ok records) n = record { number = 0; detail = 0; length = n; count = records }

-- ---- both readings from the prefix reading's answer

-- what a tree comes to after n bytes, where `left` says whether bytes are left that may not be
unfoldable pub told_left : Bool → ℕ → Forest → Reading
told_left left n f = elim (due_of left f) [ no why ↦ refuses why | ok u ↦ reads n (settle f) ]

module _ (left : Bool) (n : ℕ) (f : Forest) where
  pub left_refused : (why : Refusal) → due_of left f ≡ no why → told_left left n f ≡ refuses why
  unfolding told_left
  left_refused why e = rw (e, told_left)

  pub left_read : due_of left f ≡ ok tt → told_left left n f ≡ reads n (settle f)
  unfolding told_left
  left_read e = rw (e, told_left)

module _ (n : ℕ) (f : Forest) where
  over : (left : Bool) (why : Refusal) → measured f ≡ no why → told_left left n f ≡ refuses why
  unfolding due_of ◌>>=◌
  over left why m = left_refused left n f why (rw m)

  trailing : measured f ≡ ok tt → told_left true n f ≡ refuses TrailingData
  unfolding due_of ◌>>=◌ need
  trailing m = left_refused true n f TrailingData (rw m)

  within : measured f ≡ ok tt → told_left false n f ≡ reads n (settle f)
  unfolding due_of ◌>>=◌ need
  within m = left_read false n f (rw m)

  told_over : (why : Refusal) → measured f ≡ no why → reading_of n f ≡ refuses why
  unfolding reading_of
  told_over why m = rw (m, reading_of)

  told-within : measured f ≡ ok tt → reading_of n f ≡ reads n (settle f)
  unfolding reading_of
  told-within m = rw (m, reading_of)

module _ (ed : Edition) (p : List ℕ) where
  pub due_refused : (all : Bool) (why : Refusal) → prefix_in ed p ≡ refuses why → due ed all p ≡ refuses why
  unfolding due whole_in leaves
  due_refused false why e = e
  due_refused true why e = rw (e, ne_eqb (number_of why).0 0 (refusal_number why))

  whole-reads : (n : ℕ) (f : Forest) → prefix_in ed p ≡ reads n f → whole_in ed p ≡ cond (ltb n (length p)) (refuses TrailingData) (reads n f)
  unfolding whole_in leaves
  whole-reads n f e = rw e

  pub due_told : (all : Bool) (n : ℕ) (f : Forest) → prefix_in ed p ≡ reading_of n f → due ed all p ≡ told_left (all && ltb n (length p)) n f
  unfolding due
  due_told all n f e = go (measured f) refl
    where
      fits : measured f ≡ ok tt → (all : Bool) → due ed all p ≡ told_left (all && ltb n (length p)) n f
      fits m false = e ∙ told-within n f m ∙ sym (within n f m)
      fits m true = whole-reads n (settle f) (e ∙ told-within n f m) ∙ go (ltb n (length p))
        where
          go : (left : Bool) → cond left (refuses TrailingData) (reads n (settle f)) ≡ told_left left n f
          go true = sym (trailing n f m)
          go false = sym (within n f m)

      go : (r : Res (Unit {0})) → measured f ≡ r → due ed all p ≡ told_left (all && ltb n (length p)) n f
      go (no why) m = due_refused all why (e ∙ told_over n f why m) ∙ sym (over n f (all && ltb n (length p)) why m)
      go (ok u) m = fits m all

-- ---- what an answer in code gives

module _ (o q : List ℕ) where
  pub gives_refused : (x : Reading) (why : Refusal) → x ≡ refuses why → Gives x (refused_answer why) o q o q
  gives_refused x why e = rw e (record { answer = refl; table_is = refl; text_is = refl })

  pub gives-read : (x : Reading) (n : ℕ) (f : Forest) (m : ℕ) (o' q' : List ℕ) → x ≡ reads n f → m ≡ size f → o' ≡ table f 0 ++ drop (4 * size f) o → q' ≡ text f ++ drop (length (text f)) q
      → Gives x (record { number = 0; detail = 0; length = n; count = m }) o q o' q'
  gives-read x n f m o' q' e c t b = rw (e, c) (record { answer = refl; table_is = rw table-length t; text_is = b })

-- a run that left the value root
pub record Leaves (ed : Edition) (o : Outcome) (p nodes owners children stack : List ℕ) (root : ℕ) : Type 0 where
  pub ran : RanIn ed (stopped o.counts) p nodes owners children stack
  pub some : 0 < o.counts.stack
  pub is : root ≡ get_or stack (o.counts.stack - 1) 0

-- ---- by how the run ended

module _ {ed : Edition} {p nodes owners children stack : List ℕ} where
  abbrev pub rooms : {o : Outcome} → RanIn ed o p nodes owners children stack → Rooms
  rooms h = rooms_of h.before p nodes owners children stack h.marks h.keys h.held

  module _ (all : Bool) (o q : List ℕ) where
    -- the machine refuses
    gives_run : (c : Counts) (why : Refusal) → RanIn ed (refused_with c why) p nodes owners children stack → Gives (due ed all p) (refused_answer why) o q o q
    unfolding ended
    gives_run c why h = gives_refused o q (due ed all p) why (due_refused ed p all why (prefix_refused ed p why (stopped_refused ed p why h.ran.sound.firm.lengths.pickle (sym h.ran.means))))

  -- its links are in the log
  pub links_fit : (o : Outcome) → RanIn ed o p nodes owners children stack → (o.counts.links ≤ length owners) × (o.counts.links ≤ length children)
  links_fit o h = let f = h.ran.sound.firm in (omega (arith, f.links, f.lengths.owners), omega (arith, f.links, f.lengths.children))

  -- and what is on its stack in the stack's room
  pub stack_fits : (o : Outcome) → RanIn ed o p nodes owners children stack → o.counts.stack ≤ length stack
  stack_fits o h = let f = h.ran.sound.firm in omega (arith, f.stack, f.deepest, f.lengths.stack)

  module _ (c : Counts) (h : RanIn ed (stopped c) p nodes owners children stack) where
    short : length p ≤ pickle_limit
    short = h.ran.sound.firm.lengths.pickle

    firm : Firm (rooms h) c
    firm = h.ran.sound.firm

    stops : run ed p ≡ ok (state_of (rooms h) c)
    unfolding ended
    stops = sym h.ran.means

    deep : length (state_of (rooms h) c).stack ≡ c.stack
    deep = stack_length (rooms h) c (omega (arith, firm.stack, firm.deepest, firm.lengths.stack))

    -- no value is left
    gives_empty : (all : Bool) (o q : List ℕ) → c.stack ≡ 0 → Gives (due ed all p) (refused_answer StackUnderflow) o q o q
    gives_empty all o q e = gives_refused o q (due ed all p) StackUnderflow (due_refused ed p all StackUnderflow (prefix_refused ed p StackUnderflow (stopped_empty ed p (state_of (rooms h) c) short stops (omega (arith, deep, e)))))

    pub stopped_at : At p nodes owners children c.nodes c.links (rooms h) c
    stopped_at = record { ended = record { sound = h.ran.sound; words = refl; owners_are = refl; log_is = refl; count_is = refl; links_are = refl }; pickle = refl; owners_zero = h.owners_zero; log_zero = h.children_zero }

    -- a value is left
    module _ (z : 0 < c.stack) (root : ℕ) (is : root ≡ get_or stack (c.stack - 1) 0) where
      top_is : last (state_of (rooms h) c).stack ≡ root
      top_is = rw (stack_of (rooms h) c, length-take-le c.stack stack (omega (arith, firm.stack, firm.deepest, firm.lengths.stack))) (get_or-take c.stack stack (c.stack - 1) 0 (omega arith)) ∙ sym is

      pub root_known : root < c.nodes
      root_known = rw (top_is, nodes-length (rooms h) c) at below
        where
          below : last (state_of (rooms h) c).stack < length (state_of (rooms h) c).nodes
          below = every_at _ (length (state_of (rooms h) c).stack - 1) (state_of (rooms h) c).stack 0 h.ran.sound.range.on_stack (omega (arith, deep))

      consumed_at : consumed p (state_of (rooms h) c) ≡ c.at
      consumed_at = rw (input_of (rooms h) c, length-drop) (omega (arith, firm.at))

      reads_to : prefix_in ed p ≡ reading_of c.at (one (tree (state_of (rooms h) c).nodes root))
      reads_to =
          prefix-told ed p (state_of (rooms h) c) (last (state_of (rooms h) c).stack) (stopped_with ed p (state_of (rooms h) c) short stops (omega (arith, deep)))
          ∙ ap₂ (λ (n i : ℕ). reading_of n (one (tree (state_of (rooms h) c).nodes i))) consumed_at top_is

      pub gives-built : (all : Bool) (o q o' q' : List ℕ) (b : Result ℕ Refusal) → Comes (all && ltb c.at (length p)) (one (tree (state_of (rooms h) c).nodes root)) b o q o' q' → Gives (due ed all p) (told b c.at) o q o' q'
      unfolding Comes told
      gives-built all o q o' q' (Err why) x = rw (x.1, x.2) (gives_refused o q (due ed all p) why (due_told ed p all c.at _ reads_to ∙ left_refused _ c.at _ why x.0))
      gives-built all o q o' q' (Ok n) x = gives-read o q (due ed all p) c.at _ n o' q' (due_told ed p all c.at _ reads_to ∙ left_read _ c.at _ x.0) x.1 x.2 x.3

  pub leaves_value : (o : Outcome) (root : NodeId) → RanIn ed o p nodes owners children stack → RunEnds o stack (Ok root) → Leaves ed o p nodes owners children stack root.0
  unfolding RunEnds
  leaves_value o root h e = record { ran = subst (λ (x : Outcome). RanIn ed x p nodes owners children stack) e.0 h; some = e.1; is = e.2 }

  -- a refusal is the run's, or 6
  pub gives_refusal : (all : Bool) (o q : List ℕ) (u : Outcome) (why : Refusal) → RanIn ed u p nodes owners children stack → RefusesWith u why → Gives (due ed all p) (refused_answer why) o q o q
  unfolding RefusesWith
  gives_refusal all o q u why h e = go u.counts u.ended h e
    where
      go : (c : Counts) (r : Result (Unit {0}) Refusal) → RanIn ed (record { counts = c; ended = r }) p nodes owners children stack → RefusesWith (record { counts = c; ended = r }) why
          → Gives (due ed all p) (refused_answer why) o q o q
      go c (Err x) h e = rw e (gives_run all o q c x h)
      go c (Ok u) h e = rw e.1 (gives_empty c h all o q e.0)
