-- A step of the full edition by the opcode at hand, and the parts of steps: those that may meet an added refusal, and those that meet none where the stack and
-- the marks are as the writer's bytes leave them.
use Rattle.std.specs.Prelude.{ℕ, ◌+◌, ◌-◌, Bool, List, [], ◌∷◌, ◌++◌, ◌≡◌, refl, length, T, leb}
use Rattle.std.proofs.Math.Bool.{true, false}
use Rattle.std.proofs.Common.{◌∙◌, length-append, take_at, drop_at, le-leb, lt-ltb, arith}
use Rattle.std.proofs.lemmas.List.{get_or_at}
use Rattle.refusal.specs.declared.Refusal.{Refusal}
use Rattle.refusal.specs.declared.Refusal.TheVariants.{StackFull, MarksFull, NodesFull, LinksFull}
use Rattle.op.specs.Table.{code_of}
use Rattle.op.specs.Named.{named}
use Rattle.op.specs.Edition.{against, outside, unknown, is_one_of, highest}
use Rattle.op.specs.declared.Opcode.{Opcode}
use Rattle.op.specs.declared.Edition.TheVariants.{Full}
use Rattle.value.specs.Value.{Label}
use Rattle.steps.specs.State.{Node, State, Res, ok, no, ◌>>=◌, need, with_input, with_nodes, with_stack, with_marks, with_links, links_limit, bytes, byte, pop, top, pop_mark, pop_many, push_id, push_node, link}
use Rattle.steps.specs.Opcodes.{mark, made}
use Rattle.steps.specs.Run.{going, does, decide, admit, step}
use Rattle.steps.specs.Fuel.{finish-goes, finish_refused}
use Rattle.outback.specs.Added.{added_refusal}
use Rattle.outback.specs.Outcome.{LeadsTo, stops, comes}

pub bytes_ok : (s : State) (b r : List ℕ) (n : ℕ) → s.input ≡ b ++ r → length b ≡ n → bytes n s ≡ ok (b, with_input s r)
unfolding bytes need ◌>>=◌
bytes_ok s b r n e f =
    let y : length (b ++ r) ≡ length b + length r = length-append b r in
    rw (e, le-leb n (length (b ++ r)) (omega arith), take_at b r n f, drop_at b r n f)

pub step_op : (o : Opcode) (s : State) (r : List ℕ) → s.input ≡ code_of o ∷ r → step Full s ≡ does 2 o (with_input s r)
unfolding step byte ◌>>=◌ decide admit against outside unknown is_one_of highest
step_op o s r e = rw (bytes_ok s (code_of o ∷ []) r 1 e refl, named o)

-- R holds of the state that comes out, or an added refusal does
unfoldable pub After : (State → Type 0) → Res State → Type 0
After R (ok t) = R t
After R (no why) = T (added_refusal why)

pub by_op : {R : State → Type 0} (o : Opcode) (s : State) (r : List ℕ) → s.input ≡ code_of o ∷ r → (x : Res State) → does 2 o (with_input s r) ≡ going x → After R x → LeadsTo s R
unfolding After going
by_op o s r e (ok t) d h = comes t (finish-goes Full s t (step_op o s r e ∙ d)) h
by_op o s r e (no why) d h = stops why h (finish_refused Full s s why (step_op o s r e ∙ d))

-- ---- parts with a limit

module _ (R : State → Type 0) where
  after-need : (b : Bool) (why : Refusal) (f : Unit {0} → Res State) → T (added_refusal why) → After R (f tt) → After R (need b why >>= f)
  unfolding After need ◌>>=◌
  after-need true why f a h = h
  after-need false why f a h = a

  pub after_push : (n : Node) (s : State) → R (with_stack (with_nodes s (s.nodes ++ (n ∷ []))) (s.stack ++ (length s.nodes ∷ []))) → After R (push_node n s)
  unfolding push_node push_id After
  after_push n s h = after-need _ NodesFull _ tt (after-need _ StackFull _ tt h)

  pub after-link : (k : ℕ) (s : State) (f : State → Res State) → After R (f (with_links s (s.links + k))) → After R (link k s >>= f)
  unfolding link need ◌>>=◌ After
  after-link k s f h = go (leb (s.links + k) links_limit)
    where
      go : (b : Bool) → After R ((need b LinksFull >>= λ u. ok (with_links s (s.links + k))) >>= f)
      go true = h
      go false = tt

  pub after-mark : (s : State) → R (with_marks s (s.marks ++ (length s.stack ∷ []))) → After R (mark s)
  unfolding mark After
  after-mark s h = after-need _ MarksFull _ tt h

  pub after-made : (l : Label) (is : List ℕ) (s : State)
      → R (with_stack (with_nodes (with_links s (s.links + length is)) (s.nodes ++ (record { label = l; kids = is } ∷ []))) (s.stack ++ (length s.nodes ∷ [])))
      → After R (made l is s)
  unfolding made
  after-made l is s h = after-link (length is) s _ (after_push _ _ h)

-- ---- parts that succeed

pub pop_ok : (s : State) (b : List ℕ) (i : ℕ) → s.stack ≡ b ++ (i ∷ []) → pop s ≡ ok (i, with_stack s b)
unfolding pop need ◌>>=◌
pop_ok s b i e =
    let z : length (b ++ (i ∷ [])) ≡ length b + 1 = length-append b (i ∷ []) in
    let q : length b ≡ length (b ++ (i ∷ [])) - 1 = omega arith in
    rw (e, lt-ltb 0 (length (b ++ (i ∷ []))) (omega arith), get_or_at b i [] 0 (length (b ++ (i ∷ [])) - 1) q, take_at b (i ∷ []) (length (b ++ (i ∷ [])) - 1) q)

pub top_ok : (s : State) (b : List ℕ) (i : ℕ) → s.stack ≡ b ++ (i ∷ []) → top s ≡ ok i
unfolding top need ◌>>=◌
top_ok s b i e =
    let z : length (b ++ (i ∷ [])) ≡ length b + 1 = length-append b (i ∷ []) in
    let q : length b ≡ length (b ++ (i ∷ [])) - 1 = omega arith in
    rw (e, lt-ltb 0 (length (b ++ (i ∷ []))) (omega arith), get_or_at b i [] 0 (length (b ++ (i ∷ [])) - 1) q)

pub pop_mark_ok : (s : State) (b is m : List ℕ) → s.stack ≡ b ++ is → s.marks ≡ m ++ (length b ∷ []) → pop_mark s ≡ ok (is, with_marks (with_stack s b) m)
unfolding pop_mark need ◌>>=◌
pop_mark_ok s b is m e f =
    let z : length (m ++ (length b ∷ [])) ≡ length m + 1 = length-append m (length b ∷ []) in
    let y : length (b ++ is) ≡ length b + length is = length-append b is in
    let q : length m ≡ length (m ++ (length b ∷ [])) - 1 = omega arith in
    let g = get_or_at m (length b) [] 0 (length (m ++ (length b ∷ [])) - 1) q in
    rw (e, f, lt-ltb 0 (length (m ++ (length b ∷ []))) (omega arith), g, le-leb (length b) (length (b ++ is)) (omega arith), take_at m (length b ∷ []) (length (m ++ (length b ∷ [])) - 1) q, take_at b is (length b) refl, drop_at b is (length b) refl)

pub pop_many_ok : (n : ℕ) (s : State) (b is : List ℕ) → s.stack ≡ b ++ is → length is ≡ n → pop_many n s ≡ ok (is, with_stack s b)
unfolding pop_many need ◌>>=◌
pop_many_ok n s b is e f =
    let y : length (b ++ is) ≡ length b + length is = length-append b is in
    let q : length b ≡ length (b ++ is) - n = omega arith in
    rw (e, le-leb n (length (b ++ is)) (omega arith), take_at b is (length (b ++ is) - n) q, drop_at b is (length (b ++ is) - n) q)
