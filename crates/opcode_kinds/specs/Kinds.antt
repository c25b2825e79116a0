-- Where the machine accepts an opcode, values of the kinds that its row of StackWords.antt names stand on the stack before it, and on it
-- behind it. How many are taken and left, and which nodes, is said by `does_fits` of steps: the two belong together.
use Rattle.std.specs.Prelude.{ℕ, suc, ◌+◌, ◌-◌, ◌<◌, ◌≤◌, Bool, true, false, cond, ◌&&◌, List, [], ◌∷◌, ◌++◌, ◌≡◌, refl, length, get_or, take, set, T, leb}
use Rattle.std.proofs.Math.Option.{Option, none, some}
use Rattle.std.proofs.Common.{ap, ◌∙◌, length-append, length-take, get_or-set_same, get_or-take, leb→le, ltb→lt, arith}
use Rattle.std.proofs.Math.Seq.{get_or-append_seam}
use Rattle.refusal.specs.declared.Refusal.{Refusal}
use Rattle.op.specs.Table.{Form, uint1, uint4, values, place, is_named, code_of}
use Rattle.op.specs.declared.Opcode.{Opcode}
use Rattle.op.specs.declared.Opcode.TheVariants.{MARK, STOP, POP, POP_MARK, DUP, FLOAT, INT, BININT, BININT1, LONG, BININT2, NONE, REDUCE, STRING, BINSTRING, SHORT_BINSTRING, UNICODE, BINUNICODE, APPEND, BUILD, GLOBAL, DICT, EMPTY_DICT, APPENDS, GET, BINGET, LONG_BINGET, LIST, EMPTY_LIST, PUT, BINPUT, LONG_BINPUT, SETITEM, TUPLE, EMPTY_TUPLE, SETITEMS, BINFLOAT, PROTO, NEWOBJ, TUPLE1, TUPLE2, TUPLE3, NEWTRUE, NEWFALSE, LONG1, LONG4}
use Rattle.number.specs.Number.{Int, truth, whole}
use Rattle.number.specs.Space.{same}
use Rattle.value.specs.Value.{Label, NoneL, BoolL, I64L, F64L, BytesL, StringL, ListL, TupleL, SetL, FrozenSetL, DictL, GlobalL, ObjectL}
use Rattle.steps.specs.State.{Node, State, Res, ok, no, ◌>>=◌, kidless, with_input, with_stack, with_marks, last, but_last, pop, top, pop_mark, pop_many, push_id, push_node, push, link, node_by, extend, get, put}
use Rattle.steps.specs.Opcodes.{class_of, proto, mark, pop_one, pop_to_mark, dup, int_label, int, binint, binint1, binint2, long, long_n, float, binfloat, string, binstring, short_binstring, unicode, binunicode, global, made, list, tuple, tuple_n, dict, add_items, append, appends, setitem, setitems, get_line, get_bytes, put_line, put_bytes, builtin, set_name, frozenset_name, object, set_of, reduced, called, reduce, newobj, build_state}
use Rattle.steps.specs.Run.{Next, stops, going, does}
use Rattle.steps.specs.Out.{Out, out, weaken, both_out, bind, bind_any, bind_need, join-need}
use Rattle.steps.specs.Effect.{labelled, values_count}
use Rattle.steps.specs.Arguments.{argument_length, Claim, put_line_claim, put_bytes_claim}
use Rattle.steps.specs.Keeps.{state_after}
use Rattle.opcode_kinds.specs.StackWords.{Word, any, None, bool as a_bool, int as an_int, int_or_bool, float as a_float, bytes_or_str, str, list as a_list, tuple as a_tuple, dict as a_dict, a_global, an_object, set_or_object, allows, Kinds, topmost, below_mark, mark_only, KindRow, kinds_in, kinds_of}

-- ---- values by their words

-- the values from place k of the stack on
unfoldable pub EachAllowed : List Word → ℕ → State → Type 0
EachAllowed [] k s = Unit {0}
EachAllowed (w ∷ ws) k s = T (allows w (node_by s (get_or s.stack k 0)).label) × EachAllowed ws (suc k) s

-- the values that end at place e
pub record EndAt (ws : List Word) (e : ℕ) (s : State) : Type 0 where
  pub start : ℕ
  pub reaches : start + length ws ≡ e
  pub inside : e ≤ length s.stack
  pub each : EachAllowed ws start s

unfoldable pub Stocked : Kinds → State → Type 0
Stocked (topmost ws) s = EndAt ws (length s.stack) s
Stocked (below_mark ws) s = (0 < length s.marks) × EndAt ws (last s.marks) s
Stocked mark_only s = 0 < length s.marks

-- from s to t: taken from s, left on t
unfoldable pub TakenAndLeft : Kinds → Kinds → State → State → Type 0
TakenAndLeft tk lv s t = Stocked tk s × Stocked lv t

-- ---- laws of words

nothing_ends : (e : ℕ) (s : State) → e ≤ length s.stack → EndAt [] e s
unfolding EachAllowed
nothing_ends e s h = record { start = e; reaches = omega arith; inside = h; each = tt }

nothing_stands : (s : State) → Stocked (topmost []) s
unfolding Stocked
nothing_stands s = nothing_ends (length s.stack) s (omega arith)

-- the top by itself
top_stands : (w : Word) (s : State) → 0 < length s.stack → T (allows w (node_by s (last s.stack)).label) → Stocked (topmost (w ∷ [])) s
unfolding Stocked EachAllowed
top_stands w s h a = record { start = length s.stack - 1; reaches = omega arith; inside = omega arith; each = (a, tt) }

any_stands : (s : State) → 0 < length s.stack → Stocked (topmost (any ∷ [])) s
unfolding allows
any_stands s h = top_stands any s h tt

-- one value more, above the others
each_more : (ws : List Word) (w : Word) (k : ℕ) (s : State) → EachAllowed ws k s → T (allows w (node_by s (get_or s.stack (k + length ws) 0)).label) → EachAllowed (ws ++ (w ∷ [])) k s
unfolding EachAllowed
each_more [] w k s h a = let e : k + 0 ≡ k = omega arith in (rw e at a, tt)
each_more (v ∷ ws) w k s h a = let e : k + suc (length ws) ≡ suc k + length ws = omega arith in (h.0, each_more ws w (suc k) s h.1 (rw e at a))

ends_more : (ws : List Word) (w : Word) (e : ℕ) (s : State) → EndAt ws e s → e < length s.stack → T (allows w (node_by s (get_or s.stack e 0)).label) → EndAt (ws ++ (w ∷ [])) (suc e) s
ends_more ws w e s h u a =
    let r = h.reaches in
    record { start = h.start; reaches = rw length-append (omega arith); inside = u; each = each_more ws w h.start s h.each (rw r a) }

-- what stands on a part of the stack stands on the stack
each-less : (ws : List Word) (n k : ℕ) (s t : State) → t.nodes ≡ s.nodes → t.stack ≡ take n s.stack → k + length ws ≤ n → EachAllowed ws k t → EachAllowed ws k s
unfolding EachAllowed
each-less [] n k s t e f h a = tt
each-less (w ∷ ws) n k s t e f h a =
    let l : k < n = omega arith in
    (rw (e, f, get_or-take n s.stack k 0 l) at a.0, each-less ws n (suc k) s t e f (omega arith) a.1)

ends_less : (ws : List Word) (n : ℕ) (s t : State) → t.nodes ≡ s.nodes → t.stack ≡ take n s.stack → n ≤ length s.stack → Stocked (topmost ws) t → EndAt ws n s
unfolding Stocked
ends_less ws n s t e f h a =
    let z : length t.stack ≡ n = rw f (simp length-take (omega arith)) in
    let r = a.reaches in
    record { start = a.start; reaches = omega arith; inside = h; each = each-less ws n a.start s t e f (omega arith) a.each }

-- ---- the parts of a step

-- what is given where the stack has enough
pop_gives : (s : State) → Out (λ (p : ℕ × State). (0 < length s.stack) × (p ≡ (last s.stack, with_stack s (but_last s.stack)))) (pop s)
unfolding pop
pop_gives s = bind_need _ _ _ _ λ h. out _ _ (ltb→lt 0 (length s.stack) h, refl)

top_gives : (s : State) → Out (λ (i : ℕ). (0 < length s.stack) × (i ≡ last s.stack)) (top s)
unfolding top
top_gives s = bind_need _ _ _ _ λ h. out _ _ (ltb→lt 0 (length s.stack) h, refl)

pop_mark-gives : (s : State) → Out (λ (p : List ℕ × State). (0 < length s.marks) × (last s.marks ≤ length s.stack) × (p.1 ≡ with_marks (with_stack s (take (last s.marks) s.stack)) (but_last s.marks))) (pop_mark s)
unfolding pop_mark
pop_mark-gives s = bind_need _ _ _ _ λ h. bind_need _ _ _ _ λ u. out _ _ (ltb→lt 0 (length s.marks) h, leb→le (last s.marks) (length s.stack) u, refl)

-- a new node is on top
push_node_stands : (w : Word) (n : Node) (s : State) → T (allows w n.label) → Out (Stocked (topmost (w ∷ []))) (push_node n s)
unfolding push_node push_id
push_node_stands w n s a =
    let z : length (s.stack ++ (length s.nodes ∷ [])) ≡ suc (length s.stack) = rw length-append (omega arith) in
    let i : length (s.stack ++ (length s.nodes ∷ [])) - 1 ≡ length s.stack = omega arith in
    bind_need _ _ _ _ λ h. bind_need _ _ _ _ λ u.
    out _ _ (top_stands w _ (omega arith) (rw (i, get_or-append_seam s.stack (length s.nodes) [] 0, get_or-append_seam s.nodes n [] (kidless NoneL)) a))

push_stands : (w : Word) (l : Label) (s : State) → T (allows w l) → Out (Stocked (topmost (w ∷ []))) (push l s)
unfolding push
push_stands w l s a = push_node_stands w (kidless l) s a

-- any number, once more
push_id_stands : (i : ℕ) (s : State) → Out (Stocked (topmost (any ∷ []))) (push_id i s)
unfolding push_id
push_id_stands i s = bind_need _ _ _ _ λ h. out _ _ (any_stands _ (rw length-append (omega arith)))

made_stands : (w : Word) (l : Label) (is : List ℕ) (s : State) → T (allows w l) → Out (Stocked (topmost (w ∷ []))) (made l is s)
unfolding made
made_stands w l is s a = bind_any _ _ _ λ t e. push_node_stands w _ t a

-- what has a label that is not None's keeps it, whatever its contents become
relabelled : (w : Word) (s : State) (i : ℕ) (ks : List ℕ) → (T (allows w NoneL) → ⊥) → T (allows w (node_by s i).label) → T (allows w (get_or (set s.nodes i (record { label = (node_by s i).label; kids = ks })) i (kidless NoneL)).label)
relabelled w s i ks z a = rw (get_or-set_same s.nodes i (record { label = (node_by s i).label; kids = ks }) (kidless NoneL) (labelled (λ (l : Label). T (allows w l)) s.nodes i z a)) a

-- a container on top, which gets items
added_kept : (w : Word) (why : Refusal) (is : List ℕ) (s : State) → (T (allows w NoneL) → ⊥) → Out (TakenAndLeft (topmost (w ∷ [])) (topmost (w ∷ [])) s) (add_items (allows w) why is s)
unfolding add_items extend link TakenAndLeft ◌>>=◌
added_kept w why is s z =
    bind _ _ _ _ (top_gives s) λ i h. bind_need _ _ _ _ λ a. join-need _ _ _ _ _ λ u.
    let b = rw h.1 at a in
    out _ _ (top_stands w s h.0 b, top_stands w _ h.0 (rw h.1 (relabelled w s (last s.stack) ((node_by s (last s.stack)).kids ++ is) z b)))

-- ---- the opcodes

-- nothing is taken
only-leaves : (lv : Kinds) (s : State) (r : Res State) → Out (Stocked lv) r → Out (TakenAndLeft (topmost []) lv s) r
unfolding TakenAndLeft
only-leaves lv s r h = weaken _ _ _ h λ t u. (nothing_stands s, u)

mark_kept : (s : State) → Out (TakenAndLeft (topmost []) mark_only s) (mark s)
unfolding mark TakenAndLeft Stocked
mark_kept s = bind_need _ _ _ _ λ h. out _ _ (nothing_stands s, rw length-append (omega arith))

pop_one_kept : (s : State) → Out (TakenAndLeft (topmost (any ∷ [])) (topmost []) s) (pop_one s)
unfolding pop_one TakenAndLeft
pop_one_kept s = bind _ _ _ _ (pop_gives s) λ p h. out _ _ (any_stands s h.0, nothing_stands p.1)

pop_to_mark_kept : (s : State) → Out (TakenAndLeft (below_mark []) (topmost []) s) (pop_to_mark s)
unfolding pop_to_mark TakenAndLeft Stocked
pop_to_mark_kept s = bind _ _ _ _ (pop_mark-gives s) λ p h. out _ _ ((h.0, nothing_ends _ s h.1), nothing_stands p.1)

dup_kept : (s : State) → Out (TakenAndLeft (topmost (any ∷ [])) (topmost (any ∷ any ∷ [])) s) (dup s)
unfolding dup push_id TakenAndLeft Stocked EachAllowed allows
dup_kept s = bind _ _ _ _ (top_gives s) λ i h. bind_need _ _ _ _ λ u.
    let z = h.0 in
    out _ _ (any_stands s z, record { start = length s.stack - 1; reaches = rw length-append (omega arith); inside = omega arith; each = (tt, (tt, tt)) })

-- LIST, TUPLE, DICT take whatever is above the mark
gathered_kept : (w : Word) (s : State) (f : List ℕ × State → Res State) → ((p : List ℕ × State) → Out (Stocked (topmost (w ∷ []))) (f p)) → Out (TakenAndLeft (below_mark []) (topmost (w ∷ [])) s) (pop_mark s >>= f)
unfolding TakenAndLeft Stocked
gathered_kept w s f k = bind _ _ _ _ (pop_mark-gives s) λ p h. weaken _ _ _ (k p) λ t u. ((h.0, nothing_ends _ s h.1), u)

list_kept : (s : State) → Out (TakenAndLeft (below_mark []) (topmost (a_list ∷ [])) s) (list s)
unfolding list allows
list_kept s = gathered_kept a_list s _ λ p. made_stands a_list ListL p.0 p.1 tt

tuple_kept : (s : State) → Out (TakenAndLeft (below_mark []) (topmost (a_tuple ∷ [])) s) (tuple s)
unfolding tuple allows
tuple_kept s = gathered_kept a_tuple s _ λ p. made_stands a_tuple TupleL p.0 p.1 tt

dict_kept : (s : State) → Out (TakenAndLeft (below_mark []) (topmost (a_dict ∷ [])) s) (dict s)
unfolding dict allows
dict_kept s = gathered_kept a_dict s _ λ p. bind_any _ _ _ λ x e. made_stands a_dict DictL p.0 p.1 tt

tuple_n_kept : (ws : List Word) (s : State) → ((k : ℕ) → EachAllowed ws k s) → Out (TakenAndLeft (topmost ws) (topmost (a_tuple ∷ [])) s) (tuple_n (length ws) s)
unfolding tuple_n pop_many TakenAndLeft Stocked allows
tuple_n_kept ws s a = join-need _ _ _ _ _ λ h.
    let n = leb→le (length ws) (length s.stack) h in
    bind_any _ _ _ λ p e. weaken _ _ _ (made_stands a_tuple TupleL p.0 p.1 tt) λ t u. (record { start = length s.stack - length ws; reaches = omega arith; inside = omega arith; each = a _ }, u)

-- APPENDS and SETITEMS: the container is below the mark
batch_kept : (w : Word) (s : State) (f : List ℕ × State → Res State) → ((p : List ℕ × State) → Out (TakenAndLeft (topmost (w ∷ [])) (topmost (w ∷ [])) p.1) (f p)) → Out (TakenAndLeft (below_mark (w ∷ [])) (topmost (w ∷ [])) s) (pop_mark s >>= f)
unfolding TakenAndLeft Stocked
batch_kept w s f k = bind _ _ _ _ (pop_mark-gives s) λ p h. weaken _ _ _ (k p) λ t u.
    ((h.0, ends_less (w ∷ []) (last s.marks) s p.1 (ap (λ (x : State). x.nodes) h.2) (ap (λ (x : State). x.stack) h.2) h.1 u.0), u.1)

appends_kept : (s : State) → Out (TakenAndLeft (below_mark (a_list ∷ [])) (topmost (a_list ∷ [])) s) (appends s)
unfolding appends allows
appends_kept s = batch_kept a_list s _ λ p. added_kept a_list _ p.0 p.1 (λ h. h)

setitems_kept : (s : State) → Out (TakenAndLeft (below_mark (a_dict ∷ [])) (topmost (a_dict ∷ [])) s) (setitems s)
unfolding setitems allows
setitems_kept s = batch_kept a_dict s _ λ p. bind_any _ _ _ λ x e. added_kept a_dict _ p.0 p.1 (λ h. h)

-- a value popped, and what stood below it
popped : (ws : List Word) (w : Word) (lv : Kinds) (s : State) (f : ℕ × State → Res State)
    → ((p : ℕ × State) → 0 < length s.stack → p ≡ (last s.stack, with_stack s (but_last s.stack)) → Out (λ (t : State). TakenAndLeft (topmost ws) lv p.1 t × T (allows w (node_by s p.0).label)) (f p))
    → Out (TakenAndLeft (topmost (ws ++ (w ∷ []))) lv s) (pop s >>= f)
unfolding TakenAndLeft Stocked
popped ws w lv s f k = bind _ _ _ _ (pop_gives s) λ p h. weaken _ _ _ (k p h.0 h.1) λ t u.
    let z = h.0 in
    let n : suc (length s.stack - 1) ≡ length s.stack = omega arith in
    let b : EndAt ws (length s.stack - 1) s = ends_less ws (length s.stack - 1) s p.1 (ap (λ (x : ℕ × State). x.1.nodes) h.1) (ap (λ (x : ℕ × State). x.1.stack) h.1) (omega arith) u.0.0 in
    let a : T (allows w (node_by s (last s.stack)).label) = rw (ap (λ (x : ℕ × State). x.0) h.1) at u.1 in
    (rw n at (ends_more ws w (length s.stack - 1) s b (omega arith) a), u.0.1)

-- a value of any kind
popped_any : (ws : List Word) (lv : Kinds) (s : State) (f : ℕ × State → Res State) → ((p : ℕ × State) → Out (TakenAndLeft (topmost ws) lv p.1) (f p)) → Out (TakenAndLeft (topmost (ws ++ (any ∷ []))) lv s) (pop s >>= f)
unfolding allows
popped_any ws lv s f k = popped ws any lv s f λ p h e. weaken _ _ _ (k p) λ t u. (u, tt)

append_kept : (s : State) → Out (TakenAndLeft (topmost (a_list ∷ any ∷ [])) (topmost (a_list ∷ [])) s) (append s)
unfolding append allows
append_kept s = popped_any (a_list ∷ []) _ s _ λ p. added_kept a_list _ _ p.1 (λ h. h)

setitem_kept : (s : State) → Out (TakenAndLeft (topmost (a_dict ∷ any ∷ any ∷ [])) (topmost (a_dict ∷ [])) s) (setitem s)
unfolding setitem allows
setitem_kept s = popped_any (a_dict ∷ any ∷ []) _ s _ λ p. popped_any (a_dict ∷ []) _ p.1 _ λ q. added_kept a_dict _ _ q.1 (λ h. h)

build_kept : (s : State) → Out (TakenAndLeft (topmost (an_object ∷ any ∷ [])) (topmost (an_object ∷ [])) s) (build_state s)
unfolding build_state TakenAndLeft allows
build_kept s = popped_any (an_object ∷ []) _ s _ λ p. bind _ _ _ _ (top_gives p.1) λ i h. bind_need _ _ _ _ λ a.
    let b = rw h.1 at a in
    out _ _ (top_stands an_object p.1 h.0 b, top_stands an_object _ h.0 (rw h.1 (relabelled an_object p.1 (last p.1.stack) _ (λ u. u) b)))

-- a class is a Global
refuses : {A : Type 0} {why : Refusal} {c : List ℕ × List ℕ} → ◌≡◌ {A = Res (List ℕ × List ℕ)} (no why) (ok c) → A
refuses e = let f : ◌≡◌ {A = ℕ} 0 1 = cc in absurd (omega arith)

class_global : (l : Label) (c : List ℕ × List ℕ) → class_of l ≡ ok c → T (allows a_global l)
unfolding allows
class_global NoneL c e = refuses e
class_global (BoolL b) c e = refuses e
class_global (I64L n) c e = refuses e
class_global (F64L n) c e = refuses e
class_global (BytesL t) c e = refuses e
class_global (StringL t) c e = refuses e
class_global ListL c e = refuses e
class_global TupleL c e = refuses e
class_global SetL c e = refuses e
class_global FrozenSetL c e = refuses e
class_global DictL c e = refuses e
class_global (GlobalL m n) c e = tt
class_global (ObjectL m n b) c e = refuses e

-- both pops, the class and the arguments, whatever is made of them
called_kept : (w : Word) (makes : List ℕ × List ℕ → ℕ → List ℕ → Node) (s : State) → ((c : List ℕ × List ℕ) (args : ℕ) (items : List ℕ) → T (allows w (makes c args items).label)) → Out (TakenAndLeft (topmost (a_global ∷ a_tuple ∷ [])) (topmost (w ∷ [])) s) (called makes s)
unfolding called TakenAndLeft allows
called_kept w makes s k = popped (a_global ∷ []) a_tuple _ s _ λ p h e.
    bind _ _ _ _ (pop_gives p.1) λ q g. bind_any _ _ _ λ c r. bind_need _ _ _ _ λ a.
    let n : q.1.nodes ≡ s.nodes = ap (λ (x : ℕ × State). x.1.nodes) g.1 ∙ ap (λ (x : ℕ × State). x.1.nodes) e in
    let m : q.1.nodes ≡ p.1.nodes = ap (λ (x : ℕ × State). x.1.nodes) g.1 in
    let i : q.0 ≡ last p.1.stack = ap (λ (x : ℕ × State). x.0) g.1 in
    weaken _ _ _ (push_node_stands w _ q.1 (k c p.0 (node_by q.1 p.0).kids)) λ t u.
    ((top_stands a_global p.1 g.0 (rw (m, i) at (class_global (node_by q.1 q.0).label c r)), u), rw n at a)

newobj_kept : (s : State) → Out (TakenAndLeft (topmost (a_global ∷ a_tuple ∷ [])) (topmost (an_object ∷ [])) s) (newobj s)
unfolding newobj allows
newobj_kept s = called_kept an_object _ s λ c args items. tt

reduce_kept : (s : State) → Out (TakenAndLeft (topmost (a_global ∷ a_tuple ∷ [])) (topmost (set_or_object ∷ [])) s) (reduce s)
unfolding reduce reduced allows
reduce_kept s = called_kept set_or_object reduced s λ c args items. go c args items (same c.0 builtin && leb (length items) 1) (same c.1 set_name) (same c.1 frozenset_name)
  where
    go : (c : List ℕ × List ℕ) (args : ℕ) (items : List ℕ) (a b d : Bool) → T (allows set_or_object (cond a (cond b (set_of SetL args items) (cond d (set_of FrozenSetL args items) (object c false args))) (object c false args)).label)
    go c args items true true d = tt
    go c args items true false true = tt
    go c args items true false false = tt
    go c args items false b d = tt

-- the PUTs ask for a top, and leave it
put_stands : (k : ℕ) (s : State) → Out (Stocked (topmost (any ∷ []))) (put k s)
unfolding put
put_stands k s = bind _ _ _ _ (top_gives s) λ i h. bind_need _ _ _ _ λ u. out _ _ (any_stands _ h.0)

put_kept : (f : Form) (s : State) (r : Res State) → Out (Claim f (values 0) (values 0) s) r → Out (Stocked (topmost (any ∷ []))) r → Out (TakenAndLeft (topmost (any ∷ [])) (topmost (any ∷ [])) s) r
unfolding TakenAndLeft Stocked
put_kept f s r c h = weaken _ _ _ (both_out _ _ r c h) λ t u.
    let n = values_count 0 0 u.0.then t u.0.did.stacks in
    let e : length u.0.then.stack ≡ length s.stack = ap (λ (x : State). length x.stack) u.0.reads.rest in
    let z = u.1.reaches in
    (any_stands s (omega arith), u.1)

put_line_kept : (s : State) → Out (TakenAndLeft (topmost (any ∷ [])) (topmost (any ∷ [])) s) (put_line s)
unfolding put_line
put_line_kept s = put_kept _ s _ (put_line_claim s) (bind_any _ _ _ λ p e. bind_any _ _ _ λ k e. put_stands k p.1)

put_bytes_kept : (n : ℕ) (f : Form) (s : State) → argument_length f s.input ≡ n → Out (TakenAndLeft (topmost (any ∷ [])) (topmost (any ∷ [])) s) (put_bytes n s)
unfolding put_bytes
put_bytes_kept n f s e = put_kept _ s _ (put_bytes_claim s n f e) (bind_any _ _ _ λ p e. put_stands p.0 p.1)

-- INT's word has two kinds
int_allowed : (v : Int) → T (allows int_or_bool (int_label v))
unfolding allows int_label
int_allowed (truth b) = tt
int_allowed (whole z) = tt

-- the values: an argument read, and pushed
module _ (s : State) where
  int_kept : Out (TakenAndLeft (topmost []) (topmost (int_or_bool ∷ [])) s) (int s)
  unfolding int
  int_kept = only-leaves _ s _ (bind_any _ _ _ λ p e. bind_any _ _ _ λ v e. push_stands int_or_bool (int_label v) p.1 (int_allowed v))

  binint_kept : Out (TakenAndLeft (topmost []) (topmost (an_int ∷ [])) s) (binint s)
  unfolding binint allows
  binint_kept = only-leaves _ s _ (bind_any _ _ _ λ p e. push_stands an_int _ p.1 tt)

  binint1_kept : Out (TakenAndLeft (topmost []) (topmost (an_int ∷ [])) s) (binint1 s)
  unfolding binint1 allows
  binint1_kept = only-leaves _ s _ (bind_any _ _ _ λ p e. push_stands an_int _ p.1 tt)

  binint2_kept : Out (TakenAndLeft (topmost []) (topmost (an_int ∷ [])) s) (binint2 s)
  unfolding binint2 allows
  binint2_kept = only-leaves _ s _ (bind_any _ _ _ λ p e. push_stands an_int _ p.1 tt)

  long_kept : Out (TakenAndLeft (topmost []) (topmost (an_int ∷ [])) s) (long s)
  unfolding long allows
  long_kept = only-leaves _ s _ (bind_any _ _ _ λ p e. bind_any _ _ _ λ v e. push_stands an_int _ p.1 tt)

  long_n_kept : (n : ℕ) → Out (TakenAndLeft (topmost []) (topmost (an_int ∷ [])) s) (long_n n s)
  unfolding long_n allows
  long_n_kept n = only-leaves _ s _ (bind_any _ _ _ λ p e. bind_any _ _ _ λ q e. bind_any _ _ _ λ v e. push_stands an_int _ q.1 tt)

  float_kept : Out (TakenAndLeft (topmost []) (topmost (a_float ∷ [])) s) (float s)
  unfolding float allows
  float_kept = only-leaves _ s _ (bind_any _ _ _ λ p e. bind_any _ _ _ λ v e. push_stands a_float _ p.1 tt)

  binfloat_kept : Out (TakenAndLeft (topmost []) (topmost (a_float ∷ [])) s) (binfloat s)
  unfolding binfloat allows
  binfloat_kept = only-leaves _ s _ (bind_any _ _ _ λ p e. push_stands a_float _ p.1 tt)

  string_kept : Out (TakenAndLeft (topmost []) (topmost (bytes_or_str ∷ [])) s) (string s)
  unfolding string allows
  string_kept = only-leaves _ s _ (bind_any _ _ _ λ p e. bind_any _ _ _ λ v e. push_stands bytes_or_str _ p.1 tt)

  binstring_kept : Out (TakenAndLeft (topmost []) (topmost (bytes_or_str ∷ [])) s) (binstring s)
  unfolding binstring allows
  binstring_kept = only-leaves _ s _ (bind_any _ _ _ λ p e. bind_any _ _ _ λ n e. bind_any _ _ _ λ q e. push_stands bytes_or_str _ q.1 tt)

  short_binstring_kept : Out (TakenAndLeft (topmost []) (topmost (bytes_or_str ∷ [])) s) (short_binstring s)
  unfolding short_binstring allows
  short_binstring_kept = only-leaves _ s _ (bind_any _ _ _ λ p e. bind_any _ _ _ λ q e. push_stands bytes_or_str _ q.1 tt)

  unicode_kept : Out (TakenAndLeft (topmost []) (topmost (str ∷ [])) s) (unicode s)
  unfolding unicode allows
  unicode_kept = only-leaves _ s _ (bind_any _ _ _ λ p e. bind_any _ _ _ λ v e. push_stands str _ p.1 tt)

  binunicode_kept : Out (TakenAndLeft (topmost []) (topmost (str ∷ [])) s) (binunicode s)
  unfolding binunicode allows
  binunicode_kept = only-leaves _ s _ (bind_any _ _ _ λ p e. bind_any _ _ _ λ q e. push_stands str _ q.1 tt)

  global_kept : Out (TakenAndLeft (topmost []) (topmost (a_global ∷ [])) s) (global s)
  unfolding global allows
  global_kept = only-leaves _ s _ (bind_any _ _ _ λ p e. bind_any _ _ _ λ q e. push_stands a_global _ q.1 tt)

  push_kept : (w : Word) (l : Label) → T (allows w l) → Out (TakenAndLeft (topmost []) (topmost (w ∷ [])) s) (push l s)
  push_kept w l a = only-leaves _ s _ (push_stands w l s a)

  get_line_kept : Out (TakenAndLeft (topmost []) (topmost (any ∷ [])) s) (get_line s)
  unfolding get_line get
  get_line_kept = only-leaves _ s _ (bind_any _ _ _ λ p e. bind_any _ _ _ λ k e. bind_any _ _ _ λ i e. push_id_stands i p.1)

  get_bytes_kept : (n : ℕ) → Out (TakenAndLeft (topmost []) (topmost (any ∷ [])) s) (get_bytes n s)
  unfolding get_bytes get
  get_bytes_kept n = only-leaves _ s _ (bind_any _ _ _ λ p e. bind_any _ _ _ λ i e. push_id_stands i p.1)

  proto_kept : (v : ℕ) → Out (TakenAndLeft (topmost []) (topmost []) s) (proto v s)
  unfolding proto
  proto_kept v = only-leaves _ s _ (bind_any _ _ _ λ p e. bind_any _ _ _ λ x e. out _ _ (nothing_stands p.1))

-- ---- every opcode, and a step

unfoldable pub FitsKinds : Option KindRow → State → Next → Type 0
FitsKinds none s n = ⊥
FitsKinds (some r) s n = TakenAndLeft r.takes r.leaves s (state_after n)

goes_kept : (r : KindRow) (s : State) (x : Res State) → Out (TakenAndLeft r.takes r.leaves s) x → Out (FitsKinds (some r) s) (going x)
unfolding Out FitsKinds going state_after
goes_kept r s (ok t) h = h
goes_kept r s (no why) h = tt

stop_kept : (r : KindRow) (s : State) → TakenAndLeft r.takes r.leaves s s → Out (FitsKinds (some r) s) (ok (stops s))
unfolding Out FitsKinds state_after
stop_kept r s h = h

pub does-kinds : (v : ℕ) (o : Opcode) (s : State) → Out (FitsKinds (kinds_of o) s) (does v o s)
unfolding does argument_length kinds_of kinds_in is_named place allows EachAllowed TakenAndLeft
does-kinds v MARK s = goes_kept _ s _ (mark_kept s)
does-kinds v STOP s = stop_kept _ s (nothing_stands s, nothing_stands s)
does-kinds v POP s = goes_kept _ s _ (pop_one_kept s)
does-kinds v POP_MARK s = goes_kept _ s _ (pop_to_mark_kept s)
does-kinds v DUP s = goes_kept _ s _ (dup_kept s)
does-kinds v FLOAT s = goes_kept _ s _ (float_kept s)
does-kinds v INT s = goes_kept _ s _ (int_kept s)
does-kinds v BININT s = goes_kept _ s _ (binint_kept s)
does-kinds v BININT1 s = goes_kept _ s _ (binint1_kept s)
does-kinds v LONG s = goes_kept _ s _ (long_kept s)
does-kinds v BININT2 s = goes_kept _ s _ (binint2_kept s)
does-kinds v NONE s = goes_kept _ s _ (push_kept s None NoneL tt)
does-kinds v REDUCE s = goes_kept _ s _ (reduce_kept s)
does-kinds v STRING s = goes_kept _ s _ (string_kept s)
does-kinds v BINSTRING s = goes_kept _ s _ (binstring_kept s)
does-kinds v SHORT_BINSTRING s = goes_kept _ s _ (short_binstring_kept s)
does-kinds v UNICODE s = goes_kept _ s _ (unicode_kept s)
does-kinds v BINUNICODE s = goes_kept _ s _ (binunicode_kept s)
does-kinds v APPEND s = goes_kept _ s _ (append_kept s)
does-kinds v BUILD s = goes_kept _ s _ (build_kept s)
does-kinds v GLOBAL s = goes_kept _ s _ (global_kept s)
does-kinds v DICT s = goes_kept _ s _ (dict_kept s)
does-kinds v EMPTY_DICT s = goes_kept _ s _ (push_kept s a_dict DictL tt)
does-kinds v APPENDS s = goes_kept _ s _ (appends_kept s)
does-kinds v GET s = goes_kept _ s _ (get_line_kept s)
does-kinds v BINGET s = goes_kept _ s _ (get_bytes_kept s 1)
does-kinds v LONG_BINGET s = goes_kept _ s _ (get_bytes_kept s 4)
does-kinds v LIST s = goes_kept _ s _ (list_kept s)
does-kinds v EMPTY_LIST s = goes_kept _ s _ (push_kept s a_list ListL tt)
does-kinds v PUT s = goes_kept _ s _ (put_line_kept s)
does-kinds v BINPUT s = goes_kept _ s _ (put_bytes_kept 1 uint1 s refl)
does-kinds v LONG_BINPUT s = goes_kept _ s _ (put_bytes_kept 4 uint4 s refl)
does-kinds v SETITEM s = goes_kept _ s _ (setitem_kept s)
does-kinds v TUPLE s = goes_kept _ s _ (tuple_kept s)
does-kinds v EMPTY_TUPLE s = goes_kept _ s _ (push_kept s a_tuple TupleL tt)
does-kinds v SETITEMS s = goes_kept _ s _ (setitems_kept s)
does-kinds v BINFLOAT s = goes_kept _ s _ (binfloat_kept s)
does-kinds v PROTO s = goes_kept _ s _ (proto_kept s v)
does-kinds v NEWOBJ s = goes_kept _ s _ (newobj_kept s)
does-kinds v TUPLE1 s = goes_kept _ s _ (tuple_n_kept (any ∷ []) s λ k. (tt, tt))
does-kinds v TUPLE2 s = goes_kept _ s _ (tuple_n_kept (any ∷ any ∷ []) s λ k. (tt, (tt, tt)))
does-kinds v TUPLE3 s = goes_kept _ s _ (tuple_n_kept (any ∷ any ∷ any ∷ []) s λ k. (tt, (tt, (tt, tt))))
does-kinds v NEWTRUE s = goes_kept _ s _ (push_kept s a_bool (BoolL true) tt)
does-kinds v NEWFALSE s = goes_kept _ s _ (push_kept s a_bool (BoolL false) tt)
does-kinds v LONG1 s = goes_kept _ s _ (long_n_kept s 1)
does-kinds v LONG4 s = goes_kept _ s _ (long_n_kept s 4)

-- a step reads an opcode's byte, and takes and leaves what its row names
pub record KindStepped (s : State) (n : Next) : Type 0 where
  pub opcode : Opcode
  pub rest : List ℕ
  pub input_is : s.input ≡ code_of opcode ∷ rest
  pub fits : FitsKinds (kinds_of opcode) (with_input s rest) n

-- STOP takes nothing, also where nothing stands
pub stop_takes_nothing : (v : ℕ) (s : State) → does v STOP s ≡ ok (stops s)
unfolding does
stop_takes_nothing v s = refl
