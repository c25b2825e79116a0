-- Every returnable value returns: by its label, from what returns of its contents, and so through all values.
use Rattle.std.specs.Prelude.{ℕ, ◌≤◌, Bool, true, false, ◌||◌, List, [], ◌∷◌, ◌++◌, ◌≡◌, refl, length, T, leb}
use Rattle.std.proofs.Common.{append_assoc, append-nil, ◌∙◌, ap, arith}
use Rattle.std.proofs.lemmas.Bool.{lt-leb}
use Rattle.op.specs.Table.{code_of}
use Rattle.op.specs.declared.Opcode.TheVariants.{MARK, TUPLE, TUPLE1, TUPLE2, TUPLE3, REDUCE, NEWOBJ, BUILD}
use Rattle.utf8.specs.Utf8.{valid, pieces, pieces_after, every, well_formed, some, whole_row, in_column, piece, longest, initial, begins}
use Rattle.input.specs.Bytes.{last_byte}
use Rattle.number.specs.Space.{same}
use Rattle.value.specs.Value.{Label, Forest, count, NoneL, BoolL, I64L, F64L, BytesL, StringL, ListL, TupleL, SetL, FrozenSetL, DictL, GlobalL, ObjectL, nil, node}
use Rattle.value.specs.Stands.{◌⊕◌}
use Rattle.steps.specs.State.{State}
use Rattle.steps.specs.Opcodes.{reduce, newobj, reduced, object, builtin, set_name, frozenset_name}
use Rattle.steps.specs.Run.{does}
use Rattle.ser.specs.Image.{opening, contents, batches, images, joined, items_image, tuple_image, tuple_mark, tuple_opcode, set_opening, object_image, object_opcode, state_image}
use Rattle.ser.specs.Writable.{has_newline, ends_cr, writable}
use Rattle.outback.specs.WriteOut.{append_nothing, writes_count}
use Rattle.outback.specs.Outcome.{LeadsTo, comes, leads_on, OneMore, many_one}
use Rattle.outback.specs.SetCalls.{set_class, enough_arguments, reduced-object}
use Rattle.outback.specs.Returnable.{Named, Arguments, arguments, Returnable, AllReturnable}
use Rattle.outback.specs.Settled.{in_node, unsettled, unsettled-count}
use Rattle.outback.specs.Leaves.{none_back, bool_back, int_back, float_back, bytes_back, string_back, global_back, list_back, dict_back, tuple_back}
use Rattle.outback.specs.Adding.{marked_of, mark_then}
use Rattle.outback.specs.Items.{Returns, AllReturn, many_back, batches_back, appends_back, holder, EvenIf}
use Rattle.outback.specs.Making.{tuple_few, tuple-many, object_on, set_on, build_on}

-- ---- tuples

tuple_returns : (c : Forest) → AllReturn c → Returns TupleL c
unfolding Returns opening contents tuple_image tuple_mark tuple_opcode images in_node unsettled joined does count
tuple_returns nil h s rest e = tuple_back s rest e
tuple_returns (node l c nil) h s rest e =
    leads_on (many_back (node l c nil) h s (code_of TUPLE1 ∷ rest) (e ∙ append_assoc (joined (images (node l c nil))) (code_of TUPLE1 ∷ []) rest)) (λ u y. tuple_few rest 1 TUPLE1 (λ v. refl) refl y)
tuple_returns (node l c (node l₁ c₁ nil)) h s rest e =
    let f = node l c (node l₁ c₁ nil) in
    leads_on (many_back f h s (code_of TUPLE2 ∷ rest) (e ∙ append_assoc (joined (images f)) (code_of TUPLE2 ∷ []) rest)) (λ u y. tuple_few rest 2 TUPLE2 (λ v. refl) refl y)
tuple_returns (node l c (node l₁ c₁ (node l₂ c₂ nil))) h s rest e =
    let f = node l c (node l₁ c₁ (node l₂ c₂ nil)) in
    leads_on (many_back f h s (code_of TUPLE3 ∷ rest) (e ∙ append_assoc (joined (images f)) (code_of TUPLE3 ∷ []) rest)) (λ u y. tuple_few rest 3 TUPLE3 (λ v. refl) refl y)
tuple_returns (node l c (node l₁ c₁ (node l₂ c₂ (node l₃ c₃ g)))) h s rest e =
    let f = node l c (node l₁ c₁ (node l₂ c₂ (node l₃ c₃ g))) in
    let r = joined (images f) ++ (code_of TUPLE ∷ rest) in
    let q : leb (length (images f)) 3 ≡ false = lt-leb (length (images f)) 3 (omega arith) in
    mark_then s r ((rw q at e) ∙ ap (λ (y : List ℕ). code_of MARK ∷ y) (append_assoc (joined (images f)) (code_of TUPLE ∷ []) rest))
    (leads_on (many_back f h (marked_of s r) (code_of TUPLE ∷ rest) refl) (λ u y. tuple-many rest r y))

-- ---- sets

builtin_named : Named builtin set_name
unfolding valid pieces pieces_after every well_formed some whole_row in_column piece longest initial begins writable has_newline ends_cr last_byte
builtin_named = record { module_line = tt; name-line = tt; module_valid = refl; name-valid = refl }

frozen_named : Named builtin frozenset_name
unfolding valid pieces pieces_after every well_formed some whole_row in_column piece longest initial begins writable has_newline ends_cr last_byte
frozen_named = record { module_line = tt; name-line = tt; module_valid = refl; name-valid = refl }

-- REDUCE of a class and a Tuple of one List
set_returns : (k : List ℕ) → Named builtin k → (l : Label) → ((i j : ℕ) → reduced (builtin, k) i (j ∷ []) ≡ record { label = l; kids = j ∷ [] }) → (c : Forest) → AllReturn c
    → (s : State) (rest : List ℕ) → s.input ≡ (set_opening k ++ (items_image (images c) ++ (code_of TUPLE1 ∷ code_of REDUCE ∷ []))) ++ rest → LeadsTo s (OneMore s rest l (node ListL (unsettled c) nil))
unfolding set_opening opening does reduce count
set_returns k w l q c h s rest e =
    let r₃ = code_of TUPLE1 ∷ code_of REDUCE ∷ rest in
    let r₂ = items_image (images c) ++ r₃ in
    leads_on (global_back s (opening ListL ++ r₂) builtin k w (e ∙ simp append_assoc))
    (λ t x.
    leads_on (leads_on (list_back t r₂ x.input) (λ t₁ y. appends_back c h r₃ y))
    (λ t₂ y.
    leads_on (tuple_few (code_of REDUCE ∷ rest) 1 TUPLE1 (λ v. refl) refl (many_one y))
    (λ u z. set_on rest REDUCE x z l (λ v. refl) refl q)))

-- ---- objects

-- BUILD, where there is a state
with_state_lem : {s t : State} {m k : List ℕ} {new : Bool} {c : Forest} (r : Forest) → count r ≤ 1 → AllReturn r → (rest : List ℕ) → count c ≡ 1 → OneMore s (state_image (images r) ++ rest) (ObjectL m k new) c t → LeadsTo t (OneMore s rest (ObjectL m k new) (c ⊕ unsettled r))
unfolding state_image images unsettled count
with_state_lem {s} {t} {m} {k} {new} {c} nil n h rest q x = comes t refl (rw (append_nothing c) x)
with_state_lem {s} {t} (node l d nil) n h rest q x =
    leads_on (many_back (node l d nil) h t (code_of BUILD ∷ rest) (x.input ∙ append_assoc (joined (images (node l d nil))) (code_of BUILD ∷ []) rest)) (λ u y. build_on rest x q refl y)
with_state_lem (node l d (node l₁ d₁ g)) n h rest q x = absurd (omega arith)

-- NEWOBJ or REDUCE
object-made : {s t u : State} {mid m k : List ℕ} (a : Forest) (new : Bool) (rest : List ℕ) → T (new || enough_arguments (set_class m k) (count a))
    → OneMore s mid (GlobalL m k) nil t → OneMore t (code_of (object_opcode new) ∷ rest) TupleL (unsettled a) u → LeadsTo u (OneMore s rest (ObjectL m k new) (node TupleL (unsettled a) nil))
unfolding object_opcode does reduce newobj
object-made a true rest q x z = object_on rest NEWOBJ x z true (λ c i ks. object c true i) (λ v. refl) refl
object-made {m = m} {k = k} a false rest q x z =
    object_on rest REDUCE x z false reduced (λ v. refl) (reduced-object m k z.id z.kids (rw (writes_count z.inside, unsettled-count a) q))

object_returns : (m k : List ℕ) (new : Bool) (c : Forest) → Arguments m k new c → Named m k → AllReturn c → Returns (ObjectL m k new) c
unfolding Returns opening contents object_image images in_node unsettled joined AllReturn ◌⊕◌ count
object_returns m k new nil x4 w h s rest e = elim x4 [ ]
object_returns m k new (node NoneL a r) x10 w h s rest e = elim x10 [ ]
object_returns m k new (node (BoolL _) a r) x12 w h s rest e = elim x12 [ ]
object_returns m k new (node (I64L _) a r) x13 w h s rest e = elim x13 [ ]
object_returns m k new (node (F64L _) a r) x14 w h s rest e = elim x14 [ ]
object_returns m k new (node (BytesL _) a r) x15 w h s rest e = elim x15 [ ]
object_returns m k new (node (StringL _) a r) x16 w h s rest e = elim x16 [ ]
object_returns m k new (node ListL a r) x16 w h s rest e = elim x16 [ ]
object_returns m k new (node SetL a r) x17 w h s rest e = elim x17 [ ]
object_returns m k new (node FrozenSetL a r) x18 w h s rest e = elim x18 [ ]
object_returns m k new (node DictL a r) x19 w h s rest e = elim x19 [ ]
object_returns m k new (node (GlobalL _ _) a r) x22 w h s rest e = elim x22 [ ]
object_returns m k new (node (ObjectL _ _ _) a r) x24 w h s rest e = elim x24 [ ]
object_returns m k new (node TupleL a r) (arguments n q) w h s rest e =
    let r₄ = state_image (images r) ++ rest in
    let r₃ = code_of (object_opcode new) ∷ r₄ in
    let r₂ = (opening TupleL ++ contents TupleL (images a)) ++ r₃ in
    leads_on (global_back s r₂ m k w (e ∙ simp (append_assoc, append-nil)))
    (λ t x.
    leads_on (h.0 t r₃ x.input)
    (λ u z. leads_on (object-made a new r₄ q x z) (λ v y. with_state_lem r n h.1 rest refl y)))

-- ---- by label

alone : (x rest : List ℕ) → (x ++ []) ++ rest ≡ x ++ rest
alone x rest = ap (λ (y : List ℕ). y ++ rest) (append-nil x)

label_returns : (l : Label) (c : Forest) → Returnable l c → AllReturn c → Returns l c
unfolding Returnable Returns opening contents images unsettled in_node reduced same holder EvenIf ◌⊕◌
label_returns NoneL c q h s rest e = rw q (none_back s rest (e ∙ alone (opening NoneL) rest))
label_returns (BoolL b) c q h s rest e = rw q (bool_back s rest b (e ∙ alone (opening (BoolL b)) rest))
label_returns (I64L i) c q h s rest e = rw q.0 (int_back s rest i q.1 (e ∙ alone (opening (I64L i)) rest))
label_returns (F64L i) c q h s rest e = rw q.0 (float_back s rest i q.1 (e ∙ alone (opening (F64L i)) rest))
label_returns (BytesL t) c q h s rest e = rw q.0 (bytes_back s rest t q.1 (e ∙ alone (opening (BytesL t)) rest))
label_returns (StringL t) c q h s rest e = rw q.0 (string_back s rest t (omega (arith, q.1)) q.2 (e ∙ alone (opening (StringL t)) rest))
label_returns ListL c q h s rest e = leads_on (list_back s (items_image (images c) ++ rest) e) (λ t x. appends_back c h rest x)
label_returns TupleL c q h s rest e = tuple_returns c h s rest e
label_returns SetL c q h s rest e = set_returns set_name builtin_named SetL (λ i j. refl) c h s rest e
label_returns FrozenSetL c q h s rest e = set_returns frozenset_name frozen_named FrozenSetL (λ i j. refl) c h s rest e
label_returns DictL c q h s rest e = leads_on (dict_back s (batches true (images c) ++ rest) e) (λ t x. batches_back true c h q rest x)
label_returns (GlobalL m k) c q h s rest e =
    rw q.0 (global_back s rest m k q.1 (e ∙ alone (opening (GlobalL m k)) rest))
label_returns (ObjectL m k b) c q h s rest e = object_returns m k b c q.0 q.1 h s rest e

pub all_return : (f : Forest) → AllReturnable f → AllReturn f
unfolding AllReturnable AllReturn
all_return nil g = tt
all_return (node l c r) g = (label_returns l c g.0 (all_return c g.1), all_return r g.2)
