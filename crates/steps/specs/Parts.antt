-- The effect of each opcode of Opcodes.antt, its argument read, and what it takes from the stack and leaves on it.
use Rattle.std.specs.Prelude.{ℕ, ◌+◌, ◌-◌, ◌<◌, ◌≤◌, Bool, true, false, cond, ◌&&◌, List, [], ◌∷◌, ◌++◌, ◌≡◌, refl, length, get_or, take, drop, leb, T}
use Rattle.std.proofs.Common.{inl, inr, append-nil, sym, ap, ◌∙◌, length-take, take-take, get_or-take, leb→le, ltb→lt, eqb→eq, add-zero, arith}
use Rattle.std.proofs.Math.Seq.{take-length}
use Rattle.refusal.specs.declared.Refusal.{Refusal}
use Rattle.op.specs.Table.{Stack, values, to_mark, a_mark}
use Rattle.number.specs.Space.{same as same_text}
use Rattle.value.specs.Value.{Label, SetL, FrozenSetL, ListL, TupleL, DictL}
use Rattle.steps.specs.State.{Node, State, Res, ◌>>=◌, kidless, links_limit, with_stack, with_marks, with_links, last, but_last, pop, top, pop_mark, pop_many, push_id, push_node, push, link, node_by, extend, get, put}
use Rattle.steps.specs.Opcodes.{is_list, is_dict, is_tuple, mark, pop_one, pop_to_mark, dup, made, list, tuple, tuple_n, pairs, dict, add_items, append, appends, setitem, setitems, builtin, set_name, frozenset_name, object, set_of, reduced, called, reduce, newobj, build_state}
use Rattle.steps.specs.Out.{Out, out, bind_any, bind_need, join-need, Every, every_of}
use Rattle.steps.specs.Effect.{linked, linked-none, held, Right, Known, stacked, kept, inside, known_drop, BeginningOf, TakesItems, same, marked, cut, again, new, grown, state_set_lem, noted, moved, Stacks, Did}

-- ---- parts of a list

pub beginning_of_all : (l : List ℕ) → BeginningOf l l
unfolding BeginningOf
beginning_of_all l = (length l, sym (take-length l))

pub upto : (n : ℕ) (l : List ℕ) → BeginningOf (take n l) l
unfolding BeginningOf
upto n l = (n, refl)

last-take : (n : ℕ) (l : List ℕ) → 0 < n → n ≤ length l → last (take n l) ≡ get_or l (n - 1) 0
last-take n l z h =
    let e : length (take n l) ≡ n = simp length-take (omega arith) in
    let k : n - 1 < n = omega arith in
    rw (e, get_or-take n l (n - 1) 0 k)

but_last-take : (n : ℕ) (l : List ℕ) → n ≤ length l → but_last (take n l) ≡ take (n - 1) l
but_last-take n l h =
    let e : length (take n l) ≡ n = simp length-take (omega arith) in
    rw e (take-take (n - 1) n l (omega arith))

-- ---- the parts of a step, joined to what follows

module _ {B : Type 0} (Q : B → Type 0) (s : State) where
  bind_pop : (f : ℕ × State → Res B) → (0 < length s.stack → Out Q (f (last s.stack, with_stack s (but_last s.stack)))) → Out Q (pop s >>= f)
  unfolding pop ◌>>=◌
  bind_pop f k = join-need Q _ _ _ f (λ h. k (ltb→lt 0 (length s.stack) h))

  bind_top : (f : ℕ → Res B) → (0 < length s.stack → Out Q (f (last s.stack))) → Out Q (top s >>= f)
  unfolding top ◌>>=◌
  bind_top f k = join-need Q _ _ _ f (λ h. k (ltb→lt 0 (length s.stack) h))

  bind_pop_mark :
      (f : List ℕ × State → Res B)
      → (0 < length s.marks → last s.marks ≤ length s.stack → Out Q (f (drop (last s.marks) s.stack, with_marks (with_stack s (take (last s.marks) s.stack)) (but_last s.marks))))
      → Out Q (pop_mark s >>= f)
  unfolding pop_mark ◌>>=◌
  bind_pop_mark f k = join-need Q _ _ _ f λ h. join-need Q _ _ _ f λ u. k (ltb→lt 0 (length s.marks) h) (leb→le (last s.marks) (length s.stack) u)

  bind_pop_many :
      (n : ℕ) (f : List ℕ × State → Res B)
      → (n ≤ length s.stack → Out Q (f (drop (length s.stack - n) s.stack, with_stack s (take (length s.stack - n) s.stack))))
      → Out Q (pop_many n s >>= f)
  unfolding pop_many ◌>>=◌
  bind_pop_many n f k = join-need Q _ _ _ f λ h. k (leb→le n (length s.stack) h)

  bind_link : (n : ℕ) (f : State → Res B) → (s.links + n ≤ links_limit → Out Q (f (with_links s (s.links + n)))) → Out Q (link n s >>= f)
  unfolding link ◌>>=◌
  bind_link n f k = join-need Q _ _ _ f λ h. k (leb→le (s.links + n) links_limit h)

-- two pops
bind_pops :
    {B : Type 0} (Q : B → Type 0) (s : State) (g : ℕ × State → ℕ × State → Res B)
    → (2 ≤ length s.stack → Out Q (g (last s.stack, with_stack s (but_last s.stack)) (get_or s.stack (length s.stack - 2) 0, with_stack s (take (length s.stack - 2) s.stack))))
    → Out Q (pop s >>= λ p. pop p.1 >>= g p)
bind_pops Q s g k =
    bind_pop Q s _ λ h. bind_pop Q (with_stack s (but_last s.stack)) _ λ u.
    let z = rw length-take at u in
    let n : length s.stack - 1 - 1 ≡ length s.stack - 2 = omega arith in
    let a : last (but_last s.stack) ≡ get_or s.stack (length s.stack - 2) 0 = last-take (length s.stack - 1) s.stack (omega arith) (omega arith) ∙ ap (λ (i : ℕ). get_or s.stack i 0) n in
    let b : but_last (but_last s.stack) ≡ take (length s.stack - 2) s.stack = but_last-take (length s.stack - 1) s.stack (omega arith) ∙ ap (λ (i : ℕ). take i s.stack) n in
    rw (a, b) (k (omega arith))

-- ---- what they leave on the stack

-- n values and then x: what was taken and left, by numbers
by_values : (a b n : ℕ) (x : List ℕ) (s t : State) → a ≤ length s.stack → length s.stack - a ≤ n → n ≤ length s.stack → t.stack ≡ take n s.stack ++ x → n + length x ≡ length s.stack - a + b → t.marks ≡ s.marks → Stacks (values a) (values b) s t
unfolding Stacks
by_values a b n x s t h u v e c m = (h, moved s t (length s.stack - a) n b x u v e c, m)

-- the same with a mark
by_mark : (a b n : ℕ) (x : List ℕ) (s t : State) → 0 < length s.marks → last s.marks ≤ length s.stack → a ≤ last s.marks → last s.marks - a ≤ n → n ≤ length s.stack → t.stack ≡ take n s.stack ++ x → n + length x ≡ last s.marks - a + b → t.marks ≡ but_last s.marks → Stacks (to_mark a) (values b) s t
unfolding Stacks
by_mark a b n x s t z l h u v e c m = (z, l, h, moved s t (last s.marks - a) n b x u v e c, m)

-- ---- the opcodes

pub mark_did : (s : State) → Out (Did (values 0) a_mark s) (mark s)
unfolding mark Stacks
mark_did s = bind_need _ _ _ _ λ h. out _ _ (record { effect = marked (ltb→lt (length s.marks) _ h); stacks = (refl, refl, refl) })

pub pop_did : (s : State) → Out (Did (values 1) (values 0) s) (pop_one s)
unfolding pop_one
pop_did s = bind_pop _ s _ λ h. out _ _ (record {
  effect = cut (but_last s.stack) s.marks (upto (length s.stack - 1) s.stack) (beginning_of_all s.marks);
  stacks = by_values 1 0 (length s.stack - 1) [] s _ (omega arith) (omega arith) (omega arith) (sym (append-nil _)) (omega arith) refl;
})

pub pop_mark_did : (s : State) → Out (Did (to_mark 0) (values 0) s) (pop_to_mark s)
unfolding pop_to_mark
pop_mark_did s = bind_pop_mark _ s _ λ h u. out _ _ (record {
  effect = cut (take (last s.marks) s.stack) (but_last s.marks) (upto (last s.marks) s.stack) (upto (length s.marks - 1) s.marks);
  stacks = by_mark 0 0 (last s.marks) [] s _ h u (omega arith) (omega arith) u (sym (append-nil _)) (omega arith) refl;
})

-- the top is known
topmost : (s : State) → 0 < length s.stack → Known s (last s.stack)
topmost s h = stacked (length s.stack - 1) (omega arith)

-- one value more
one_more : (i : ℕ) (s t : State) → t.stack ≡ s.stack ++ (i ∷ []) → t.marks ≡ s.marks → Stacks (values 0) (values 1) s t
one_more i s t e m = by_values 0 1 (length s.stack) (i ∷ []) s t (omega arith) (omega arith) (omega arith) (rw take-length e) (omega arith) m

again_did : (i : ℕ) (s : State) → Known s i → Out (Did (values 0) (values 1) s) (push_id i s)
unfolding push_id
again_did i s k = bind_need _ _ _ _ λ h. out _ _ (record { effect = again i k (ltb→lt (length s.stack) _ h); stacks = one_more i s _ refl refl })

pub dup_did : (s : State) → Out (Did (values 1) (values 2) s) (dup s)
unfolding dup push_id
dup_did s = bind_top _ s _ λ u. bind_need _ _ _ _ λ h. out _ _ (record {
  effect = again (last s.stack) (topmost s u) (ltb→lt (length s.stack) _ h);
  stacks = by_values 1 2 (length s.stack) (last s.stack ∷ []) s _ (omega arith) (omega arith) (omega arith) (rw take-length) (omega arith) refl;
})

pub get_did : (k : ℕ) (s : State) → Out (Did (values 0) (values 1) s) (get k s)
unfolding get
get_did k s = bind_any _ _ _ λ i e. again_did i s (kept k i e)

-- no value more
no_more : (s t : State) → t.stack ≡ s.stack → t.marks ≡ s.marks → Stacks (values 0) (values 0) s t
no_more s t e m = by_values 0 0 (length s.stack) [] s t (omega arith) (omega arith) (omega arith) (rw take-length (e ∙ sym (append-nil s.stack))) (omega arith) m

pub same_did : (s : State) → Did (values 0) (values 0) s s
same_did s = record { effect = same; stacks = no_more s s refl refl }

pub put_did : (k : ℕ) (s : State) → Out (Did (values 0) (values 0) s) (put k s)
unfolding put
put_did k s = bind_top _ s _ λ u. bind_need _ _ _ _ λ h. out _ _ (record {
  effect = noted k (last s.stack) (topmost s u) h;
  stacks = no_more s _ refl refl;
})

-- a new node, on what is left of the stack
node_did :
    (tk : Stack) (s : State) (n : Node) (st ms : List ℕ) (lk : ℕ)
    → BeginningOf st s.stack → BeginningOf ms s.marks → Every (Known s) n.kids → Right s.nodes n.label n.kids → lk ≡ s.links + held n → (s.links ≤ links_limit → lk ≤ links_limit)
    → ((t : State) → t.stack ≡ st ++ (length s.nodes ∷ []) → t.marks ≡ ms → Stacks tk (values 1) s t)
    → Out (Did tk (values 1) s) (push_node n (record { input = s.input; nodes = s.nodes; stack = st; marks = ms; memo = s.memo; links = lk }))
unfolding push_node push_id
node_did tk s n st ms lk a b c d e r f =
    bind_need _ _ _ _ λ h. bind_need _ _ _ _ λ u.
    out _ _ (record { effect = new n st ms lk a b c d (ltb→lt (length s.nodes) _ h) (ltb→lt (length st) _ u) e r; stacks = f _ refl refl })

-- a value, or an empty container
pub push_did : (l : Label) (s : State) → Right s.nodes l [] → Out (Did (values 0) (values 1) s) (push l s)
unfolding push Every held
push_did l s r = node_did (values 0) s (kidless l) s.stack s.marks s.links (beginning_of_all s.stack) (beginning_of_all s.marks) tt r (rw (linked-none l) (omega arith)) (λ h. h) (one_more (length s.nodes) s)

-- a container with items: a link each
made_did :
    (tk : Stack) (s : State) (l : Label) (is st ms : List ℕ) → BeginningOf st s.stack → BeginningOf ms s.marks → Every (Known s) is → Right s.nodes l is → linked l (length is) ≡ length is
    → ((t : State) → t.stack ≡ st ++ (length s.nodes ∷ []) → t.marks ≡ ms → Stacks tk (values 1) s t)
    → Out (Did tk (values 1) s) (made l is (with_marks (with_stack s st) ms))
unfolding made held
made_did tk s l is st ms a b c d e f = bind_link _ (with_marks (with_stack s st) ms) (length is) _ λ h. node_did tk s (record { label = l; kids = is }) st ms (s.links + length is) a b c d (rw e) (λ u. h) f

-- LIST, TUPLE and DICT, the items being those above the mark
marked_did :
    (l : Label) (s : State) → Right s.nodes l (drop (last s.marks) s.stack) → ((n : ℕ) → linked l n ≡ n) → 0 < length s.marks → last s.marks ≤ length s.stack
    → Out (Did (to_mark 0) (values 1) s) (made l (drop (last s.marks) s.stack) (with_marks (with_stack s (take (last s.marks) s.stack)) (but_last s.marks)))
marked_did l s r e h u =
    let m = last s.marks in
    made_did (to_mark 0) s l (drop m s.stack) (take m s.stack) (but_last s.marks) (upto m s.stack) (upto (length s.marks - 1) s.marks) (known_drop s m) r (e _)
    λ t a b. by_mark 0 1 m (length s.nodes ∷ []) s t h u (omega arith) (omega arith) u a (omega arith) b

pub list_did : (s : State) → Out (Did (to_mark 0) (values 1) s) (list s)
unfolding list Right linked
list_did s = bind_pop_mark _ s _ λ h u. marked_did ListL s tt (λ n. refl) h u

pub tuple_did : (s : State) → Out (Did (to_mark 0) (values 1) s) (tuple s)
unfolding tuple Right linked
tuple_did s = bind_pop_mark _ s _ λ h u. marked_did TupleL s tt (λ n. refl) h u

pub dict_did : (s : State) → Out (Did (to_mark 0) (values 1) s) (dict s)
unfolding dict pairs Right linked
dict_did s = bind_pop_mark _ s _ λ h u. bind_need _ _ _ _ λ v. marked_did DictL s (eqb→eq _ 0 v) (λ n. refl) h u

pub tuple_n_did : (n : ℕ) (s : State) → Out (Did (values n) (values 1) s) (tuple_n n s)
unfolding tuple_n Right linked
tuple_n_did n s = bind_pop_many _ s n _ λ h.
    let z = length s.stack - n in
    made_did (values n) s TupleL (drop z s.stack) (take z s.stack) s.marks (upto z s.stack) (beginning_of_all s.marks) (known_drop s z) tt refl
    λ t a b. by_values n 1 z (length s.nodes ∷ []) s t h (omega arith) (omega arith) a (omega arith) b

-- APPEND, APPENDS, SETITEM, SETITEMS: n values are left, the container the last of them
added_did :
    (tk : Stack) (s : State) (right : Label → Bool) (why : Refusal) (is : List ℕ) (n : ℕ) (ms : List ℕ) → n ≤ length s.stack → BeginningOf ms s.marks → Every (Known s) is
    → ((l : Label) → T (right l) → TakesItems l (length is))
    → (0 < n → (t : State) → t.stack ≡ take n s.stack ++ [] → t.marks ≡ ms → Stacks tk (values 1) s t)
    → Out (Did tk (values 1) s) (add_items right why is (with_marks (with_stack s (take n s.stack)) ms))
unfolding add_items extend
added_did tk s right why is n ms h b c g f =
    bind_top _ (with_marks (with_stack s (take n s.stack)) ms) _ λ u. bind_need _ _ _ _ λ v. bind_link _ (with_marks (with_stack s (take n s.stack)) ms) (length is) _ λ w.
    let z = rw length-take at u in
    let e : last (take n s.stack) ≡ get_or s.stack (n - 1) 0 = last-take n s.stack (omega arith) h in
    out _ _ (record {
      effect = grown (last (take n s.stack)) is (take n s.stack) ms (upto n s.stack) b (rw e (stacked (n - 1) (omega arith))) (g _ v) c w;
      stacks = f (omega arith) _ (sym (append-nil _)) refl;
    })

-- the items that are above the mark
batch_did :
    (right : Label → Bool) (why : Refusal) (s : State) → 0 < length s.marks → last s.marks ≤ length s.stack
    → ((l : Label) → T (right l) → TakesItems l (length (drop (last s.marks) s.stack)))
    → Out (Did (to_mark 1) (values 1) s) (add_items right why (drop (last s.marks) s.stack) (with_marks (with_stack s (take (last s.marks) s.stack)) (but_last s.marks)))
batch_did right why s h u g =
    let m = last s.marks in
    added_did (to_mark 1) s right why (drop m s.stack) m (but_last s.marks) u (upto (length s.marks - 1) s.marks) (known_drop s m) g
    λ z t a b. by_mark 1 1 m [] s t h u (omega arith) (omega arith) u a (omega arith) b

pub append_did : (s : State) → Out (Did (values 2) (values 1) s) (append s)
unfolding append Every TakesItems
append_did s = bind_pop _ s _ λ h.
    let n = length s.stack - 1 in
    added_did (values 2) s is_list _ (last s.stack ∷ []) n s.marks (omega arith) (beginning_of_all s.marks) (topmost s h, tt) (λ l v. inl v)
    λ z t a b. by_values 2 1 n [] s t (omega arith) (omega arith) (omega arith) a (omega arith) b

pub appends_did : (s : State) → Out (Did (to_mark 1) (values 1) s) (appends s)
unfolding appends TakesItems
appends_did s = bind_pop_mark _ s _ λ h u. batch_did is_list _ s h u (λ l v. inl v)

pub setitem_did : (s : State) → Out (Did (values 3) (values 1) s) (setitem s)
unfolding setitem Every TakesItems
setitem_did s = bind_pops _ s _ λ h.
    let n = length s.stack - 2 in
    added_did (values 3) s is_dict _ (get_or s.stack n 0 ∷ last s.stack ∷ []) n s.marks (omega arith) (beginning_of_all s.marks) (stacked n (omega arith), (topmost s (omega arith), tt)) (λ l v. inr (v, refl))
    λ z t a b. by_values 3 1 n [] s t (omega arith) (omega arith) (omega arith) a (omega arith) b

pub setitems_did : (s : State) → Out (Did (to_mark 1) (values 1) s) (setitems s)
unfolding setitems pairs TakesItems
setitems_did s = bind_pop_mark _ s _ λ h u. bind_need _ _ _ _ λ v. batch_did is_dict _ s h u (λ l w. inr (w, eqb→eq _ 0 v))

pub build_did : (s : State) → Out (Did (values 2) (values 1) s) (build_state s)
unfolding build_state
build_did s = bind_pop _ s _ λ h. bind_top _ (with_stack s (but_last s.stack)) _ λ u. bind_need _ _ _ _ λ v.
    let n = length s.stack - 1 in
    let z = rw length-take at u in
    let e : last (take n s.stack) ≡ get_or s.stack (n - 1) 0 = last-take n s.stack (omega arith) (omega arith) in
    out _ _ (record {
      effect = state_set_lem (last (take n s.stack)) (last s.stack) (take n s.stack) (upto n s.stack) (rw e (stacked (n - 1) (omega arith))) (topmost s h) v;
      stacks = by_values 2 1 n [] s _ (omega arith) (omega arith) (omega arith) (sym (append-nil _)) (omega arith) refl;
    })

-- REDUCE and NEWOBJ: a set or an Object, which counts no links
record Calls (s : State) (n : Node) : Type 0 where
  known : Every (Known s) n.kids
  right : Right s.nodes n.label n.kids
  free : held n ≡ 0

called_did :
    (makes : List ℕ × List ℕ → ℕ → List ℕ → Node) (s : State)
    → ((c : List ℕ × List ℕ) (args : ℕ) → Known s args → T (is_tuple (node_by s args).label) → Calls s (makes c args (node_by s args).kids))
    → Out (Did (values 2) (values 1) s) (called makes s)
unfolding called
called_did makes s f = bind_pops _ s _ λ h. bind_any _ _ _ λ c e. bind_need _ _ _ _ λ v.
    let n = length s.stack - 2 in
    let k = f c (last s.stack) (topmost s (omega arith)) v in
    node_did (values 2) s (makes c (last s.stack) (node_by s (last s.stack)).kids) (take n s.stack) s.marks s.links (upto n s.stack) (beginning_of_all s.marks) k.known k.right (rw k.free (sym (add-zero s.links))) (λ u. u)
    λ t a b. by_values 2 1 n (length s.nodes ∷ []) s t (omega arith) (omega arith) (omega arith) a (omega arith) b

object_calls : (s : State) (c : List ℕ × List ℕ) (is_new : Bool) (args : ℕ) → Known s args → T (is_tuple (node_by s args).label) → Calls s (object c is_new args)
unfolding Every Right held linked
object_calls s c is_new args k v = record { known = (k, tt); right = (omega arith, omega arith, v); free = refl }

pub newobj_did : (s : State) → Out (Did (values 2) (values 1) s) (newobj s)
unfolding newobj
newobj_did s = called_did _ s λ c args k v. object_calls s c true args k v

pub reduce_did : (s : State) → Out (Did (values 2) (values 1) s) (reduce s)
unfolding reduce reduced Every Right held linked
reduce_did s = called_did reduced s λ c args k v. go c args k v (same_text c.0 builtin && leb (length (node_by s args).kids) 1) (same_text c.1 set_name) (same_text c.1 frozenset_name)
  where
    first : (args : ℕ) (l : List ℕ) → Known s args → Every (Known s) l → Known s (get_or l 0 args)
    first args [] k e = k
    first args (x ∷ l) k e = e.0

    kids : (args : ℕ) → Known s args → Known s (get_or (node_by s args).kids 0 args)
    kids args k = first args (node_by s args).kids k (every_of (Known s) (node_by s args).kids 0 (inside args))

    go : (c : List ℕ × List ℕ) (args : ℕ) → Known s args → T (is_tuple (node_by s args).label) → (a b d : Bool) → Calls s (cond a (cond b (set_of SetL args (node_by s args).kids) (cond d (set_of FrozenSetL args (node_by s args).kids) (object c false args))) (object c false args))
    go c args k v true true d = record { known = (kids args k, tt); right = refl; free = refl }
    go c args k v true false true = record { known = (kids args k, tt); right = refl; free = refl }
    go c args k v true false false = object_calls s c false args k v
    go c args k v false b d = object_calls s c false args k v
