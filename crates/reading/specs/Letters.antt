-- The labels of the machine's nodes: what those that opcodes make have, every node's has, in any edition. So String and names are valid
-- UTF-8, whatever the pickle's bytes: BINUNICODE and GLOBAL repair, UNICODE encodes, and an Object has its class from a Global.
use Prim.Native.Nat.{ℕ, suc, zero, ◌-◌}
use Rattle.std.specs.Prelude.{Bool, false, cond, ◌&&◌, Some, None, ◌≡◌, length, get_or, take, drop, set, T, leb, eqb}
use Rattle.std.proofs.Math.Bool.{true}
use mathlib.Core.List.{List, [], ◌∷◌, ◌++◌}
use Rattle.std.proofs.Math.Option.{Option, none, some}
use Rattle.std.proofs.Math.Path.{refl}
use Rattle.refusal.specs.declared.Refusal.{Refusal}
use Rattle.op.specs.Table.{code_of, opcode_of}
use Rattle.op.specs.Edition.{Against, against, highest}
use Rattle.op.specs.declared.Edition.{Edition}
use Rattle.op.specs.declared.Objection.TheVariants.{Outside, Unknown}
use Rattle.op.specs.declared.Opcode.{Opcode}
use Rattle.op.specs.declared.Opcode.TheVariants.{MARK, STOP, POP, POP_MARK, DUP, FLOAT, INT, BININT, BININT1, LONG, BININT2, NONE, REDUCE, STRING, BINSTRING, SHORT_BINSTRING, UNICODE, BINUNICODE, APPEND, BUILD, GLOBAL, DICT, EMPTY_DICT, APPENDS, GET, BINGET, LONG_BINGET, LIST, EMPTY_LIST, PUT, BINPUT, LONG_BINPUT, SETITEM, TUPLE, EMPTY_TUPLE, SETITEMS, BINFLOAT, PROTO, NEWOBJ, TUPLE1, TUPLE2, TUPLE3, NEWTRUE, NEWFALSE, LONG1, LONG4}
use Rattle.utf8.specs.Utf8.{valid, repair}
use Rattle.utf8.specs.Laws.{valid-repair}
use Rattle.input.specs.Bytes.{Bytes, last_byte, bytes_take, bytes_drop}
use Rattle.input.specs.Line.{less_cr, line_of}
use Rattle.number.specs.Number.{Int, truth, whole}
use Rattle.number.specs.Space.{same}
use Rattle.text.specs.Pieces.{bytes_of}
use Rattle.text.specs.Laws.{unicode-valid}
use Rattle.value.specs.Value.{Label, NoneL, BoolL, I64L, F64L, BytesL, StringL, ListL, TupleL, SetL, FrozenSetL, DictL, GlobalL, ObjectL}
use Rattle.value.specs.Shape.{and_l, and_r}
use Rattle.steps.specs.State.{Node, State, Res, ok, no, kidless, node_by, bytes, byte, line, pop, pop_mark, pop_many, push_id, push_node, push, link, extend, get, put}
use Rattle.steps.specs.Opcodes.{is_tuple, class_of, proto, mark, pop_one, pop_to_mark, dup, int_label, int, low_bytes, binint, binint1, binint2, long, long_n, float, binfloat, string, binstring, short_binstring, unicode, binunicode, global, made, list, tuple, tuple_n, dict, add_items, append, appends, setitem, setitems, get_line, get_bytes, put_line, put_bytes, builtin, set_name, frozenset_name, object, set_of, reduced, called, reduce, newobj, build_state}
use Rattle.steps.specs.Run.{Next, goes, stops, going, does, decide, admit, step, runs, start, run}
use Rattle.steps.specs.Out.{Out, out, bind, bind_any, bind_need, bind_leaf, Every, every_append}
use Rattle.steps.specs.Pickletools.{decided_own}
use Rattle.steps.specs.Keeps.{state_after}
use Rattle.steps.specs.Shrinks.{Later, step_later}
use Rattle.reading.specs.Well.{valid_text, both_hold}

-- every node's label has P
unfoldable pub Labelled : (Label → Type 0) → List Node → Type 0
Labelled P l = Every (λ (n : Node). P n.label) l

module _ (P : Label → Type 0) where
  pub labelled_at : P NoneL → (l : List Node) (i : ℕ) → Labelled P l → P (get_or l i (kidless NoneL)).label
  unfolding Labelled Every
  labelled_at z [] i a = z
  labelled_at z (n ∷ l) zero a = a.0
  labelled_at z (n ∷ l) (suc i) a = labelled_at z l i a.1

  labelled_set : (l : List Node) (i : ℕ) (n : Node) → Labelled P l → P n.label → Labelled P (set l i n)
  unfolding Labelled Every
  labelled_set [] i n a h = tt
  labelled_set (m ∷ l) zero n a h = (h, a.1)
  labelled_set (m ∷ l) (suc i) n a h = (a.0, labelled_set l i n a.1 h)

  labelled_more : (l : List Node) (n : Node) → Labelled P l → P n.label → Labelled P (l ++ (n ∷ []))
  unfolding Labelled Every
  labelled_more l n a h = every_append _ l (n ∷ []) a (h, tt)

truly : (b : Bool) → b ≡ true → T b
truly b e = rw e tt

-- the line of a pickle of bytes
bytes-less_cr : (l : List ℕ) → Bytes l → Bytes (less_cr l)
unfolding less_cr
bytes-less_cr l b = go (eqb (last_byte l) 13)
  where
    go : (c : Bool) → Bytes (cond c (take (length l - 1) l) l)
    go true = bytes_take (length l - 1) l b
    go false = b

-- the labels that opcodes without classes make have P; a String's text is valid UTF-8
pub record PlainLabels (P : Label → Type 0) : Type 0 where
  pub none : P NoneL
  pub bool : (b : Bool) → P (BoolL b)
  pub int : (n : ℕ) → P (I64L n)
  pub float : (n : ℕ) → P (F64L n)
  pub bytes : (t : List ℕ) → P (BytesL t)
  pub string : (t : List ℕ) → T (valid t) → P (StringL t)
  pub list : P ListL
  pub tuple : P TupleL
  pub dict : P DictL

-- ---- any such P, kept by every step of an edition

module _ (P : Label → Type 0) (m : PlainLabels P) where
  -- a node's label has it, and so has what stands for a node that is not there
  held : (l : List Node) (i : ℕ) → Labelled P l → P (get_or l i (kidless NoneL)).label
  held l i a = labelled_at P m.none l i a

  -- ---- the parts of a step

  -- the state, and a state with something read or taken
  unfoldable L : State → Type 0
  L s = Labelled P s.nodes

  unfoldable L₂ : {A : Type 0} → A × State → Type 0
  L₂ p = Labelled P p.1.nodes

  module _ (s : State) (h : L s) where
    bytes_l : (n : ℕ) → Out L₂ (bytes n s)
    unfolding bytes L L₂
    bytes_l n = bind_need _ _ _ _ λ u. out _ _ h

    low_bytes_l : (n : ℕ) → Out L₂ (low_bytes n s)
    unfolding low_bytes L₂
    low_bytes_l n = bind _ _ _ _ (bytes_l n) λ p u. out _ _ u

    byte_l : Out L₂ (byte s)
    unfolding byte L₂
    byte_l = bind _ _ _ _ (bytes_l 1) λ p u. out _ _ u

    line_l : Out L₂ (line s)
    unfolding line L L₂
    line_l = bind_leaf _ _ _ λ i e. out _ _ h

    pop_l : Out L₂ (pop s)
    unfolding pop L L₂
    pop_l = bind_need _ _ _ _ λ u. out _ _ h

    pop_mark_l : Out L₂ (pop_mark s)
    unfolding pop_mark L L₂
    pop_mark_l = bind_need _ _ _ _ λ u. bind_need _ _ _ _ λ v. out _ _ h

    pop_many_l : (n : ℕ) → Out L₂ (pop_many n s)
    unfolding pop_many L L₂
    pop_many_l n = bind_need _ _ _ _ λ u. out _ _ h

    push_id_l : (i : ℕ) → Out L (push_id i s)
    unfolding push_id L
    push_id_l i = bind_need _ _ _ _ λ u. out _ _ h

    link_l : (n : ℕ) → Out L (link n s)
    unfolding link L
    link_l n = bind_need _ _ _ _ λ u. out _ _ h

    get_l : (k : ℕ) → Out L (get k s)
    unfolding get
    get_l k = bind_any _ _ _ λ i e. push_id_l i

    put_l : (k : ℕ) → Out L (put k s)
    unfolding put L
    put_l k = bind_any _ _ _ λ i e. bind_need _ _ _ _ λ u. out _ _ h

  push_node_l : (n : Node) (s : State) → L s → P n.label → Out L (push_node n s)
  unfolding push_node L
  push_node_l n s h v = bind_need _ _ _ _ λ u. push_id_l _ (labelled_more P s.nodes n h v) _

  push_l : (l : Label) (s : State) → L s → P l → Out L (push l s)
  unfolding push
  push_l l s h v = push_node_l (kidless l) s h v

  made_l : (l : Label) (is : List ℕ) (s : State) → L s → P l → Out L (made l is s)
  unfolding made
  made_l l is s h v = bind _ _ _ _ (link_l s h _) λ t u. push_node_l _ t u v

  added_l : (right : Label → Bool) (why : Refusal) (is : List ℕ) (s : State) → L s → Out L (add_items right why is s)
  unfolding add_items extend L
  added_l right why is s h = bind_any _ _ _ λ i e. bind_need _ _ _ _ λ u. bind _ _ _ _ (link_l s h _) λ t v. out _ _ (labelled_set P t.nodes i _ v (held t.nodes i v))

  -- ---- the opcodes

  module _ (s : State) (h : L s) where
    int_l : Out L (int s)
    unfolding int L₂ int_label L
    int_l = bind _ _ _ _ (line_l s h) λ p u. bind_leaf _ _ _ λ v e. push_l _ p.1 u (go v)
      where
        go : (v : Int) → P (int_label v)
        go (truth b) = m.bool b
        go (whole z) = m.int _

    binint_l : Out L (binint s)
    unfolding binint L₂ L
    binint_l = bind _ _ _ _ (bytes_l s h 4) λ p u. push_l _ p.1 u (m.int _)

    binint1_l : Out L (binint1 s)
    unfolding binint1 L₂ L
    binint1_l = bind _ _ _ _ (low_bytes_l s h 1) λ p u. push_l _ p.1 u (m.int _)

    binint2_l : Out L (binint2 s)
    unfolding binint2 L₂ L
    binint2_l = bind _ _ _ _ (low_bytes_l s h 2) λ p u. push_l _ p.1 u (m.int _)

    long_l : Out L (long s)
    unfolding long L₂ L
    long_l = bind _ _ _ _ (line_l s h) λ p u. bind_leaf _ _ _ λ v e. push_l _ p.1 u (m.int _)

    long_n_l : (n : ℕ) → Out L (long_n n s)
    unfolding long_n L₂ L
    long_n_l n = bind _ _ _ _ (low_bytes_l s h n) λ p u. bind _ _ _ _ (bytes_l p.1 u p.0) λ q v. bind_leaf _ _ _ λ z e. push_l _ q.1 v (m.int _)

    float_l : Out L (float s)
    unfolding float L₂ L
    float_l = bind _ _ _ _ (line_l s h) λ p u. bind_leaf _ _ _ λ v e. push_l _ p.1 u (m.float _)

    binfloat_l : Out L (binfloat s)
    unfolding binfloat L₂ L
    binfloat_l = bind _ _ _ _ (bytes_l s h 8) λ p u. push_l _ p.1 u (m.float _)

    string_l : Out L (string s)
    unfolding string L₂ L
    string_l = bind _ _ _ _ (line_l s h) λ p u. bind_leaf _ _ _ λ v e. push_l _ p.1 u (m.bytes _)

    binstring_l : Out L (binstring s)
    unfolding binstring L₂ L
    binstring_l = bind _ _ _ _ (bytes_l s h 4) λ p u. bind_any _ _ _ λ n e. bind _ _ _ _ (bytes_l p.1 u n) λ q v. push_l _ q.1 v (m.bytes _)

    short_binstring_l : Out L (short_binstring s)
    unfolding short_binstring L₂ L
    short_binstring_l = bind _ _ _ _ (low_bytes_l s h 1) λ p u. bind _ _ _ _ (bytes_l p.1 u p.0) λ q v. push_l _ q.1 v (m.bytes _)

    binunicode_l : Out L (binunicode s)
    unfolding binunicode L₂ L
    binunicode_l = bind _ _ _ _ (low_bytes_l s h 4) λ p u. bind _ _ _ _ (bytes_l p.1 u p.0) λ q v. push_l _ q.1 v (m.string _ (truly _ (valid-repair q.0)))

    list_l : Out L (list s)
    unfolding list L₂ L
    list_l = bind _ _ _ _ (pop_mark_l s h) λ p u. made_l _ _ p.1 u m.list

    tuple_l : Out L (tuple s)
    unfolding tuple L₂ L
    tuple_l = bind _ _ _ _ (pop_mark_l s h) λ p u. made_l _ _ p.1 u m.tuple

    tuple_n_l : (n : ℕ) → Out L (tuple_n n s)
    unfolding tuple_n L₂ L
    tuple_n_l n = bind _ _ _ _ (pop_many_l s h n) λ p u. made_l _ _ p.1 u m.tuple

    dict_l : Out L (dict s)
    unfolding dict L₂ L
    dict_l = bind _ _ _ _ (pop_mark_l s h) λ p u. bind_any _ _ _ λ x e. made_l _ _ p.1 u m.dict

    append_l : Out L (append s)
    unfolding append L₂ L
    append_l = bind _ _ _ _ (pop_l s h) λ p u. added_l _ _ _ p.1 u

    appends_l : Out L (appends s)
    unfolding appends L₂ L
    appends_l = bind _ _ _ _ (pop_mark_l s h) λ p u. added_l _ _ _ p.1 u

    setitem_l : Out L (setitem s)
    unfolding setitem L₂ L
    setitem_l = bind _ _ _ _ (pop_l s h) λ p u. bind _ _ _ _ (pop_l p.1 u) λ q v. added_l _ _ _ q.1 v

    setitems_l : Out L (setitems s)
    unfolding setitems L₂ L
    setitems_l = bind _ _ _ _ (pop_mark_l s h) λ p u. bind_any _ _ _ λ x e. added_l _ _ _ p.1 u

    get_line_l : Out L (get_line s)
    unfolding get_line L₂ L
    get_line_l = bind _ _ _ _ (line_l s h) λ p u. bind_leaf _ _ _ λ k e. get_l p.1 u k

    get_bytes_l : (n : ℕ) → Out L (get_bytes n s)
    unfolding get_bytes L₂ L
    get_bytes_l n = bind _ _ _ _ (low_bytes_l s h n) λ p u. get_l p.1 u p.0

    put_line_l : Out L (put_line s)
    unfolding put_line L₂ L
    put_line_l = bind _ _ _ _ (line_l s h) λ p u. bind_leaf _ _ _ λ k e. put_l p.1 u k

    put_bytes_l : (n : ℕ) → Out L (put_bytes n s)
    unfolding put_bytes L₂ L
    put_bytes_l n = bind _ _ _ _ (low_bytes_l s h n) λ p u. put_l p.1 u p.0

    proto_l : (v : ℕ) → Out L (proto v s)
    unfolding proto L₂ L
    proto_l v = bind _ _ _ _ (byte_l s h) λ p u. bind_need _ _ _ _ λ w. out _ _ u

    mark_l : Out L (mark s)
    unfolding mark L
    mark_l = bind_need _ _ _ _ λ u. out _ _ h

    pop_one_l : Out L (pop_one s)
    unfolding pop_one L₂ L
    pop_one_l = bind _ _ _ _ (pop_l s h) λ p u. out _ _ u

    pop_to_mark_l : Out L (pop_to_mark s)
    unfolding pop_to_mark L₂ L
    pop_to_mark_l = bind _ _ _ _ (pop_mark_l s h) λ p u. out _ _ u

    dup_l : Out L (dup s)
    unfolding dup
    dup_l = bind_any _ _ _ λ i e. push_id_l s h i

    build_l : Out L (build_state s)
    unfolding build_state L₂ L
    build_l = bind _ _ _ _ (pop_l s h) λ p u. bind_any _ _ _ λ o e. bind_need _ _ _ _ λ v. out _ _ (labelled_set P p.1.nodes o _ u (held p.1.nodes o u))

  line-bytes : (s : State) → Bytes s.input → L s → Out (λ (p : List ℕ × State). Bytes p.0 × L₂ p) (line s)
  unfolding line line_of L L₂
  line-bytes s b h = bind_leaf _ _ _ λ i e. out _ _ (bytes-less_cr (take (i - 0) (drop 0 s.input)) (bytes_take (i - 0) (drop 0 s.input) (bytes_drop 0 s.input b)), h)

  unicode_l : (s : State) → Bytes s.input → L s → Out L (unicode s)
  unfolding unicode bytes_of L₂ L
  unicode_l s b h = bind _ _ _ _ (line-bytes s b h) λ p u. bind_leaf _ _ _ λ t e.
      let v : valid t ≡ true = let w = unicode-valid p.0 u.0 in rw e at w in
      push_l _ p.1 u.1 (m.string t (truly (valid t) v))

  going_l : (r : Res State) → Out L r → Out (λ (n : Next). L (state_after n)) (going r)
  unfolding Out going state_after
  going_l (ok t) h = h
  going_l (no why) h = tt

  -- the opcodes that name and call classes, where the edition accepts them
  pub record Classes (ed : Edition) : Type 0 where
    pub globals : against ed (code_of GLOBAL) ≡ None → (s : State) → Labelled P s.nodes → Out (λ (t : State). Labelled P t.nodes) (global s)
    pub reduces : against ed (code_of REDUCE) ≡ None → (s : State) → Labelled P s.nodes → Out (λ (t : State). Labelled P t.nodes) (reduce s)
    pub newobjs : against ed (code_of NEWOBJ) ≡ None → (s : State) → Labelled P s.nodes → Out (λ (t : State). Labelled P t.nodes) (newobj s)

  -- the opcode's byte leaves bytes
  bytes-bytes : (n : ℕ) (s : State) → Bytes s.input → L s → Out (λ (p : List ℕ × State). Bytes p.1.input × L p.1) (bytes n s)
  unfolding bytes L
  bytes-bytes n s b h = bind_need _ _ _ _ λ u. out _ _ (bytes_drop n s.input b, h)

  byte-bytes : (s : State) → Bytes s.input → L s → Out (λ (p : ℕ × State). Bytes p.1.input × L p.1) (byte s)
  unfolding byte
  byte-bytes s b h = bind _ _ _ _ (bytes-bytes 1 s b h) λ p u. out _ _ u

  module _ (ed : Edition) (c : Classes ed) where
    does_l : (o : Opcode) → against ed (code_of o) ≡ None → (s : State) → Bytes s.input → L s → Out (λ (n : Next). L (state_after n)) (does (highest ed) o s)
    unfolding does state_after L
    does_l MARK free s b h = going_l _ (mark_l s h)
    does_l STOP free s b h = out _ _ h
    does_l POP free s b h = going_l _ (pop_one_l s h)
    does_l POP_MARK free s b h = going_l _ (pop_to_mark_l s h)
    does_l DUP free s b h = going_l _ (dup_l s h)
    does_l FLOAT free s b h = going_l _ (float_l s h)
    does_l INT free s b h = going_l _ (int_l s h)
    does_l BININT free s b h = going_l _ (binint_l s h)
    does_l BININT1 free s b h = going_l _ (binint1_l s h)
    does_l LONG free s b h = going_l _ (long_l s h)
    does_l BININT2 free s b h = going_l _ (binint2_l s h)
    does_l NONE free s b h = going_l _ (push_l NoneL s h m.none)
    does_l REDUCE free s b h = going_l _ (c.reduces free s h)
    does_l STRING free s b h = going_l _ (string_l s h)
    does_l BINSTRING free s b h = going_l _ (binstring_l s h)
    does_l SHORT_BINSTRING free s b h = going_l _ (short_binstring_l s h)
    does_l UNICODE free s b h = going_l _ (unicode_l s b h)
    does_l BINUNICODE free s b h = going_l _ (binunicode_l s h)
    does_l APPEND free s b h = going_l _ (append_l s h)
    does_l BUILD free s b h = going_l _ (build_l s h)
    does_l GLOBAL free s b h = going_l _ (c.globals free s h)
    does_l DICT free s b h = going_l _ (dict_l s h)
    does_l EMPTY_DICT free s b h = going_l _ (push_l DictL s h m.dict)
    does_l APPENDS free s b h = going_l _ (appends_l s h)
    does_l GET free s b h = going_l _ (get_line_l s h)
    does_l BINGET free s b h = going_l _ (get_bytes_l s h 1)
    does_l LONG_BINGET free s b h = going_l _ (get_bytes_l s h 4)
    does_l LIST free s b h = going_l _ (list_l s h)
    does_l EMPTY_LIST free s b h = going_l _ (push_l ListL s h m.list)
    does_l PUT free s b h = going_l _ (put_line_l s h)
    does_l BINPUT free s b h = going_l _ (put_bytes_l s h 1)
    does_l LONG_BINPUT free s b h = going_l _ (put_bytes_l s h 4)
    does_l SETITEM free s b h = going_l _ (setitem_l s h)
    does_l TUPLE free s b h = going_l _ (tuple_l s h)
    does_l EMPTY_TUPLE free s b h = going_l _ (push_l TupleL s h m.tuple)
    does_l SETITEMS free s b h = going_l _ (setitems_l s h)
    does_l BINFLOAT free s b h = going_l _ (binfloat_l s h)
    does_l PROTO free s b h = going_l _ (proto_l s h (highest ed))
    does_l NEWOBJ free s b h = going_l _ (c.newobjs free s h)
    does_l TUPLE1 free s b h = going_l _ (tuple_n_l s h 1)
    does_l TUPLE2 free s b h = going_l _ (tuple_n_l s h 2)
    does_l TUPLE3 free s b h = going_l _ (tuple_n_l s h 3)
    does_l NEWTRUE free s b h = going_l _ (push_l (BoolL true) s h (m.bool true))
    does_l NEWFALSE free s b h = going_l _ (push_l (BoolL false) s h (m.bool false))
    does_l LONG1 free s b h = going_l _ (long_n_l s h 1)
    does_l LONG4 free s b h = going_l _ (long_n_l s h 4)

    step_l : (s : State) → Bytes s.input → L s → Out (λ (n : Next). L (state_after n)) (step ed s)
    unfolding step Out decide admit
    step_l s b h = bind _ _ _ _ (byte-bytes s b h) λ p u. go p.0 p.1 (opcode_of p.0) refl (against ed p.0) refl u
      where
        go : (i : ℕ) (t : State) (o : Option Opcode) → opcode_of i ≡ o → (x : Against) → against ed i ≡ x → Bytes t.input × L t → Out (λ (n : Next). L (state_after n)) (admit x i (decide (highest ed) o i t))
        go i t none e None f u = tt
        go i t (some o) e None f u = does_l o (rw (decided_own i o e) f) t u.0 u.1
        go i t o e (Some Outside) f u = tt
        go i t o e (Some Unknown) f u = tt

    runs_l : (k : ℕ) (s : State) → Bytes s.input → L s → Out L (runs ed k s)
    unfolding runs Out state_after
    runs_l zero s b h = tt
    runs_l (suc k) s b h = go (step ed s) refl (step_l s b h) (step_later ed s) (runs_l k)
      where
        go : (r : Res Next) → step ed s ≡ r → Out (λ (n : Next). L (state_after n)) r → Out (λ (n : Next). Later 1 s.input (state_after n)) r → ((t : State) → Bytes t.input → L t → Out L (runs ed k t)) → Out L (runs ed (suc k) s)
        go (no why) e u l more = rw (e, runs) tt
        go (ok (stops t)) e u l more = rw (e, runs) u
        go (ok (goes t)) e u l more = rw (e, runs) (more t (rw l.left (bytes_drop l.read s.input b)) u)

    pub run_labelled : (p : List ℕ) → Bytes p → Out (λ (s : State). Labelled P s.nodes) (run ed p)
    unfolding run start L Labelled Every
    run_labelled p b = runs_l (suc (length p)) (start p) b tt

-- ---- valid text: so every node's label in any edition

abbrev HasValid : Label → Type 0
HasValid l = T (valid_text l)

unfoldable pub Lettered : List Node → Type 0
Lettered l = Labelled HasValid l

pub lettered_at : (l : List Node) (i : ℕ) → Lettered l → T (valid_text (get_or l i (kidless NoneL)).label)
unfolding Lettered
lettered_at l i a = labelled_at HasValid tt l i a

abbrev valid-made : PlainLabels HasValid
valid-made = record { none = tt; bool = λ b. tt; int = λ n. tt; float = λ n. tt; bytes = λ t. tt; string = λ t v. v; list = tt; tuple = tt; dict = tt }

global_l : (s : State) → L HasValid valid-made s → Out (L HasValid valid-made) (global s)
unfolding global L₂ L
global_l s h = bind _ _ _ _ (line_l HasValid valid-made s h) λ p u. bind _ _ _ _ (line_l HasValid valid-made p.1 u) λ q v. push_l HasValid valid-made _ q.1 v (both_hold (valid (repair p.0)) (valid (repair q.0)) (truly _ (valid-repair p.0)) (truly _ (valid-repair q.0)))

-- a class is a Global's module and name
class_valid : (l : Label) → T (valid_text l) → Out (λ (c : List ℕ × List ℕ). T (valid c.0) × T (valid c.1)) (class_of l)
unfolding Out
class_valid NoneL v = tt
class_valid (BoolL b) v = tt
class_valid (I64L n) v = tt
class_valid (F64L n) v = tt
class_valid (BytesL t) v = tt
class_valid (StringL t) v = tt
class_valid ListL v = tt
class_valid TupleL v = tt
class_valid SetL v = tt
class_valid FrozenSetL v = tt
class_valid DictL v = tt
class_valid (GlobalL m n) v = (and_l (valid m) (valid n) v, and_r (valid m) (valid n) v)
class_valid (ObjectL m n b) v = tt

called_l : (makes : List ℕ × List ℕ → ℕ → List ℕ → Node) → ((c : List ℕ × List ℕ) (a : ℕ) (is : List ℕ) → T (valid c.0) → T (valid c.1) → T (valid_text (makes c a is).label)) → (s : State) → L HasValid valid-made s → Out (L HasValid valid-made) (called makes s)
unfolding called L₂ L Lettered
called_l makes m s h =
    bind _ _ _ _ (pop_l HasValid valid-made s h) λ p u. bind _ _ _ _ (pop_l HasValid valid-made p.1 u) λ q v.
    bind (λ (c : List ℕ × List ℕ). T (valid c.0) × T (valid c.1)) (L HasValid valid-made) (class_of (node_by q.1 q.0).label) _ (class_valid (node_by q.1 q.0).label (lettered_at q.1.nodes q.0 v)) λ c w.
    bind_need (L HasValid valid-made) (is_tuple (node_by q.1 p.0).label) _ _ λ x.
    push_node_l HasValid valid-made (makes c p.0 (node_by q.1 p.0).kids) q.1 v (m c p.0 (node_by q.1 p.0).kids w.0 w.1)

reduce_l : (s : State) → L HasValid valid-made s → Out (L HasValid valid-made) (reduce s)
unfolding reduce reduced
reduce_l s h = called_l reduced makes s h
  where
    makes : (c : List ℕ × List ℕ) (a : ℕ) (is : List ℕ) → T (valid c.0) → T (valid c.1) → T (valid_text (reduced c a is).label)
    makes c a is m n = go (same c.0 builtin && leb (length is) 1) (same c.1 set_name) (same c.1 frozenset_name)
      where
        go : (x y z : Bool) → T (valid_text (cond x (cond y (set_of SetL a is) (cond z (set_of FrozenSetL a is) (object c false a))) (object c false a)).label)
        go true true z = tt
        go true false true = tt
        go true false false = both_hold (valid c.0) (valid c.1) m n
        go false y z = both_hold (valid c.0) (valid c.1) m n

newobj_l : (s : State) → L HasValid valid-made s → Out (L HasValid valid-made) (newobj s)
unfolding newobj
newobj_l s h = called_l _ (λ c a is m n. both_hold (valid c.0) (valid c.1) m n) s h

pub run_lettered : (ed : Edition) (p : List ℕ) → Bytes p → Out (λ (s : State). Lettered s.nodes) (run ed p)
unfolding Lettered L
run_lettered ed p b = run_labelled HasValid valid-made ed (record { globals = λ u. global_l; reduces = λ u. reduce_l; newobjs = λ u. newobj_l }) p b
