-- The opcodes of marks, stack and containers over rooms and counts: one law for each way in which their code answers.
use Prim.Native.Nat.{ℕ, suc, zero, ◌-◌, ◌*◌, ◌%◌, ◌<◌, ◌≤◌}
use Rattle.std.proofs.Math.Bool.{cond}
use mathlib.Core.List.{List, [], ◌∷◌}
use Rattle.std.specs.Prelude.{Ok, Err, ◌≡◌, refl, ◌≢◌, length, get_or, take}
use Rattle.std.proofs.Math.Path.{sym, ap₂}
use Rattle.std.proofs.Common.{◌∙◌, ap, length-drop, drop_of_length-le, get_or-take}
use Rattle.std.proofs.Math.ListN.{drop}
use Rattle.std.proofs.Math.Seq.{drop-cons, length-take-le}
use Rattle.std.proofs.Math.Dec.{eqb}
use borrow.Author.Tests.{eq-eqb, ne_eqb}
use native.Mathlib.Omega.{arith}
use Rattle.refusal.specs.declared.Refusal.{Refusal}
use Rattle.refusal.specs.declared.Refusal.TheVariants.{Invalid, StackUnderflow}
use Rattle.refusal.specs.declared.Wanted.{Wanted}
use Rattle.refusal.specs.declared.Wanted.TheVariants.{DictItems, List as AList, Dict as ADict}
use Rattle.value.specs.Shape.{kind_in}
use Rattle.store.specs.declared.Effect.TheVariants.{Share, Go, Make, Extend}
use Rattle.steps.specs.State.{State, no, ◌>>=◌, need, node_by}
use Rattle.steps.specs.Opcodes.{pop_one, pop_to_mark, dup, tuple_n, pairs, dict, is_list, is_dict, add_items, append, appends, setitem, setitems}
use Rattle.steps.specs.Run.{going}
use Rattle.steps.specs.Out.{every_at}
use Rattle.store.specs.declared.Counts.{Counts}
use Rattle.store.specs.Rooms.{Rooms, kids_of, state_of, stack_to}
use Rattle.steps.specs.NodeWords.{first, second, node_is, HoldsLinks, a_list, a_tuple, a_dict, list-kind, dict-kind, node_label_lem}
use Rattle.store.specs.RoomReads.{stack_of, stack_length, nodes-length, node_at}
use Rattle.store.specs.Effects.{Firm, Sound, SomeRooms, Fits, IsStep, says_refused, enacted, container, grow, above}
use Rattle.decoder.specs.Reads.{cut_to, firm_cut, mark-none, mark-above, mark_got, top_none, top_got, pop_none, pop_got, many-none, many_got}
use Rattle.decoder.specs.Items.{Took, TakesMark, GrowingKind, lists, dicts, is_grown, gathered}

module _ (r : Rooms) (c : Counts) (s : Sound r c) where
  in_room : c.stack ≤ length r.stack
  in_room = let a = s.firm.lengths.stack in let b = s.firm.stack in let d = s.firm.deepest in omega arith

  -- what is on the stack is a node's number
  pub on_stack : (k : ℕ) → k < c.stack → get_or r.stack k 0 < c.nodes
  on_stack k h =
      rw (nodes-length r c, stack_of r c, get_or-take c.stack r.stack k 0 h) at
      (every_at (λ (i : ℕ). i < length (state_of r c).nodes) k (state_of r c).stack 0 s.range.on_stack (rw (stack_length r c in_room) h))

  cut_firm : (n m : ℕ) → n ≤ c.stack → m ≤ c.marks → Firm r (cut_to c c.at n m)
  cut_firm n m h k = firm_cut r c c.at n m s.firm (omega arith) s.firm.at h k

  -- ---- POP, POP_MARK, DUP

  pub pop_underflow : c.stack ≡ 0 → going (pop_one (state_of r c)) ≡ no StackUnderflow
  unfolding pop_one ◌>>=◌ going
  pop_underflow e = rw (pop_none r c s.firm e)

  pub pop_goes : c.stack ≢ 0 → IsStep (Ok (Go (cut_to c c.at (c.stack - 1) c.marks))) r c (going (pop_one (state_of r c)))
  unfolding pop_one ◌>>=◌ going enacted Fits
  pop_goes h = record { enacts = rw (pop_got r c s.firm (omega arith)); fits = cut_firm (c.stack - 1) c.marks (omega arith) (omega arith) }

  pub pop_mark_underflow : {why : Refusal} → Took (Err why) r c → going (pop_to_mark (state_of r c)) ≡ no why
  unfolding pop_to_mark ◌>>=◌ going Took
  pop_mark_underflow h = rw h

  pub pop_mark-goes : (m : ℕ) → Took (Ok m) r c → IsStep (Ok (Go (cut_to c c.at m (c.marks - 1)))) r c (going (pop_to_mark (state_of r c)))
  unfolding pop_to_mark ◌>>=◌ going Took enacted Fits
  pop_mark-goes m h = record { enacts = rw h.0; fits = cut_firm m (c.marks - 1) h.1 (omega arith) }

  pub dup_underflow : c.stack ≡ 0 → going (dup (state_of r c)) ≡ no StackUnderflow
  unfolding dup ◌>>=◌ going
  dup_underflow e = rw (top_none r c s.firm e)

  pub dup_shares : c.stack ≢ 0 → IsStep (Ok (Share c (record { 0 = get_or r.stack (c.stack - 1) 0 }))) r c (going (dup (state_of r c)))
  unfolding dup ◌>>=◌ going enacted Fits
  dup_shares h = record { enacts = rw (top_got r c s.firm (omega arith)); fits = (s.firm, on_stack (c.stack - 1) (omega arith)) }

  -- ---- containers made

  making : (n m k : ℕ) → n ≤ c.stack → m ≤ c.marks → HoldsLinks k → Fits (Make (cut_to c c.at n m) k) r c.stack
  unfolding Fits
  making n m k h l t = (cut_firm n m h l, h, s.firm.stack, t)

  pub gathered_underflow : (k : ℕ) {why : Refusal} → Took (Err why) r c → going (gathered k (state_of r c)) ≡ no why
  unfolding gathered ◌>>=◌ going Took
  gathered_underflow k h = rw h

  pub gathered_makes : (m k : ℕ) → HoldsLinks k → Took (Ok m) r c → IsStep (Ok (Make (cut_to c c.at m (c.marks - 1)) k)) r c (going (gathered k (state_of r c)))
  unfolding gathered ◌>>=◌ going Took enacted container
  gathered_makes m k t h = record { enacts = rw (h.0, node_label_lem r.pickle k 0 [] r.nodes t); fits = making m (c.marks - 1) k h.1 (omega arith) t }

  pub tuple_n_underflow : (n : ℕ) → c.stack < n → going (tuple_n n (state_of r c)) ≡ no StackUnderflow
  unfolding tuple_n ◌>>=◌ going
  tuple_n_underflow n h = rw (many-none r c s.firm n h)

  pub tuple_n_makes : (n : ℕ) → n ≤ c.stack → IsStep (Ok (Make (cut_to c c.at (c.stack - n) c.marks) 7)) r c (going (tuple_n n (state_of r c)))
  unfolding tuple_n ◌>>=◌ going enacted container node_is kind_in
  tuple_n_makes n h = record { enacts = rw (many_got r c s.firm n h); fits = making (c.stack - n) c.marks 7 (omega arith) (omega arith) (a_tuple refl) }

  -- keys and values in pairs
  above-length : (m : ℕ) → length (above m c.stack r.stack) ≡ c.stack - m
  unfolding above
  above-length m = rw (length-drop, length-take-le c.stack r.stack in_room)

  pub dict_underflow : {why : Refusal} → Took (Err why) r c → going (dict (state_of r c)) ≡ no why
  unfolding dict ◌>>=◌ going Took
  dict_underflow h = rw h

  pub dict_odd : (m : ℕ) → Took (Ok m) r c → (c.stack - m) % 2 ≢ 0 → going (dict (state_of r c)) ≡ no (Invalid DictItems)
  unfolding dict pairs ◌>>=◌ going need Took
  dict_odd m h o = rw (h.0, above-length m, ne_eqb ((c.stack - m) % 2) 0 o)

  pub dict_makes : (m : ℕ) → Took (Ok m) r c → (c.stack - m) % 2 ≡ 0 → IsStep (Ok (Make (cut_to c c.at m (c.marks - 1)) 10)) r c (going (dict (state_of r c)))
  unfolding dict pairs ◌>>=◌ going need Took enacted container node_is kind_in
  dict_makes m h e = record { enacts = rw (h.0, above-length m, e); fits = making m (c.marks - 1) 10 h.1 (omega arith) (a_dict refl) }

  -- ---- items added

  module _ (keep m k : ℕ) (why : Wanted) (is : List ℕ) (kin : GrowingKind k) (low : keep ≤ c.stack) (fewer : m ≤ c.marks) where
    abbrev pub owner : ℕ
    owner = get_or r.stack (keep - 1) 0

    abbrev pub t : State
    t = state_of r (cut_to c c.at keep m)

    pub added_underflow : keep ≡ 0 → going (add_items (is_grown k) (Invalid why) is t) ≡ no StackUnderflow
    unfolding add_items ◌>>=◌ going
    added_underflow e = rw (top_none r (cut_to c c.at keep m) (cut_firm keep m low fewer) e)

    right : keep ≢ 0 → is_grown k (node_by t owner).label ≡ eqb (kind_in (first r.nodes owner)) k
    unfolding is_grown
    right h = rw (node_at r (cut_to c c.at keep m) owner (on_stack (keep - 1) (omega arith))) (go kin)
      where
        go : GrowingKind k → cond (eqb k 6) (is_list (node_is r.pickle r.nodes (kids_of r c owner) (first r.nodes owner) (second r.nodes owner)).label) (is_dict (node_is r.pickle r.nodes (kids_of r c owner) (first r.nodes owner) (second r.nodes owner)).label) ≡ eqb (kind_in (first r.nodes owner)) k
        go (lists e) = rw e (list-kind r.pickle r.nodes (kids_of r c owner) (first r.nodes owner) (second r.nodes owner))
        go (dicts e) = rw e (dict-kind r.pickle r.nodes (kids_of r c owner) (first r.nodes owner) (second r.nodes owner))

    pub added_wrong : keep ≢ 0 → kind_in (first r.nodes owner) ≢ k → going (add_items (is_grown k) (Invalid why) is t) ≡ no (Invalid why)
    unfolding add_items ◌>>=◌ going need
    added_wrong h d = rw (top_got r (cut_to c c.at keep m) (cut_firm keep m low fewer) (omega arith), right h, ne_eqb (kind_in (first r.nodes owner)) k d)

    pub added_grows : keep ≢ 0 → kind_in (first r.nodes owner) ≡ k → going (add_items (is_grown k) (Invalid why) is t) ≡ going (grow owner is t)
    unfolding add_items grow ◌>>=◌ going need
    added_grows h e = rw (top_got r (cut_to c c.at keep m) (cut_firm keep m low fewer) (omega arith), right h, eq-eqb (kind_in (first r.nodes owner)) k e)

  grows_holds : (k a : ℕ) → GrowingKind k → kind_in a ≡ k → HoldsLinks a
  grows_holds k a (lists h) e = a_list (e ∙ h)
  grows_holds k a (dicts h) e = a_dict (e ∙ h)

  grows_other : (k a : ℕ) → GrowingKind k → kind_in a ≡ k → kind_in a ≢ 7
  grows_other k a (lists h) e z = omega arith
  grows_other k a (dicts h) e z = omega arith

  pub grown_extends : (keep m k : ℕ) (why : Wanted) → GrowingKind k → keep ≤ c.stack → m ≤ c.marks → keep ≢ 0 → kind_in (first r.nodes (get_or r.stack (keep - 1) 0)) ≡ k
      → IsStep (Ok (Extend (cut_to c c.at keep m) (record { 0 = get_or r.stack (keep - 1) 0 }))) r c (going (add_items (is_grown k) (Invalid why) (above keep c.stack r.stack) (state_of r (cut_to c c.at keep m))))
  unfolding enacted Fits
  grown_extends keep m k why g l f h e = record {
    enacts = sym (added_grows keep m k why (above keep c.stack r.stack) g l f h e);
    fits = (cut_firm keep m l f, l, s.firm.stack, on_stack (keep - 1) (omega arith), grows_holds k (first r.nodes (get_or r.stack (keep - 1) 0)) g e, grows_other k (first r.nodes (get_or r.stack (keep - 1) 0)) g e);
  }

  -- one value, two values
  above_one : c.stack ≢ 0 → above (c.stack - 1) c.stack r.stack ≡ get_or r.stack (c.stack - 1) 0 ∷ []
  unfolding above
  above_one h =
      let n = length-take-le c.stack r.stack in_room in
      let z : suc (c.stack - 1) ≡ c.stack = omega arith in
      drop-cons (take c.stack r.stack) (c.stack - 1) 0 (omega arith)
      ∙ ap₂ (λ (x : ℕ) (l : List ℕ). x ∷ l) (get_or-take c.stack r.stack (c.stack - 1) 0 (omega arith)) (drop_of_length-le (take c.stack r.stack) {i = suc (c.stack - 1)} (omega arith))

  above_two : 1 < c.stack → above (c.stack - 2) c.stack r.stack ≡ get_or r.stack (c.stack - 2) 0 ∷ get_or r.stack (c.stack - 1) 0 ∷ []
  unfolding above
  above_two h =
      let n = length-take-le c.stack r.stack in_room in
      let z : suc (c.stack - 2) ≡ c.stack - 1 = omega arith in
      drop-cons (take c.stack r.stack) (c.stack - 2) 0 (omega arith)
      ∙ ap₂ (λ (x : ℕ) (l : List ℕ). x ∷ l) (get_or-take c.stack r.stack (c.stack - 2) 0 (omega arith)) (ap (λ (m : ℕ). drop m (take c.stack r.stack)) z ∙ above_one (λ e. omega arith))

  -- APPEND, APPENDS, SETITEM, SETITEMS are `add_items`
  pub append_underflow : c.stack ≡ 0 → going (append (state_of r c)) ≡ no StackUnderflow
  unfolding append ◌>>=◌ going
  append_underflow e = rw (pop_none r c s.firm e)

  pub append_adds : c.stack ≢ 0 → going (add_items (is_grown 6) (Invalid AList) (above (c.stack - 1) c.stack r.stack) (state_of r (cut_to c c.at (c.stack - 1) c.marks))) ≡ going (append (state_of r c))
  unfolding append ◌>>=◌ is_grown
  append_adds h = rw (pop_got r c s.firm (omega arith), above_one h)

  pub appends_underflow : {why : Refusal} → Took (Err why) r c → going (appends (state_of r c)) ≡ no why
  unfolding appends ◌>>=◌ going Took
  appends_underflow h = rw h

  pub appends_adds : (m : ℕ) → Took (Ok m) r c → going (add_items (is_grown 6) (Invalid AList) (above m c.stack r.stack) (state_of r (cut_to c c.at m (c.marks - 1)))) ≡ going (appends (state_of r c))
  unfolding appends ◌>>=◌ is_grown Took
  appends_adds m h = rw h.0

  first-gone : c.stack ≡ 0 → going (setitem (state_of r c)) ≡ no StackUnderflow
  unfolding setitem ◌>>=◌ going
  first-gone e = rw (pop_none r c s.firm e)

  second-gone : c.stack ≡ 1 → going (setitem (state_of r c)) ≡ no StackUnderflow
  unfolding setitem ◌>>=◌ going
  second-gone e = rw (pop_got r c s.firm (omega arith), pop_none r (stack_to c (c.stack - 1)) (cut_firm (c.stack - 1) c.marks (omega arith) (omega arith)) (omega arith))

  pub setitem_underflow : c.stack < 2 → going (setitem (state_of r c)) ≡ no StackUnderflow
  setitem_underflow h = go c.stack refl h
    where
      go : (n : ℕ) → c.stack ≡ n → n < 2 → going (setitem (state_of r c)) ≡ no StackUnderflow
      go zero e l = first-gone e
      go (suc zero) e l = second-gone e
      go (suc (suc n)) e l = absurd (omega arith)

  pub setitem_adds : 2 ≤ c.stack → going (add_items (is_grown 10) (Invalid ADict) (above (c.stack - 2) c.stack r.stack) (state_of r (cut_to c c.at (c.stack - 2) c.marks))) ≡ going (setitem (state_of r c))
  unfolding setitem ◌>>=◌ is_grown
  setitem_adds h =
      let z : c.stack - 1 - 1 ≡ c.stack - 2 = omega arith in
      rw (pop_got r c s.firm (omega arith), pop_got r (stack_to c (c.stack - 1)) (cut_firm (c.stack - 1) c.marks (omega arith) (omega arith)) (omega arith), z, above_two h)

  pub setitems_underflow : {why : Refusal} → Took (Err why) r c → going (setitems (state_of r c)) ≡ no why
  unfolding setitems ◌>>=◌ going Took
  setitems_underflow h = rw h

  pub setitems_odd : (m : ℕ) → Took (Ok m) r c → (c.stack - m) % 2 ≢ 0 → going (setitems (state_of r c)) ≡ no (Invalid DictItems)
  unfolding setitems pairs ◌>>=◌ going need Took
  setitems_odd m h o = rw (h.0, above-length m, ne_eqb ((c.stack - m) % 2) 0 o)

  pub setitems_adds : (m : ℕ) → Took (Ok m) r c → (c.stack - m) % 2 ≡ 0 → going (add_items (is_grown 10) (Invalid ADict) (above m c.stack r.stack) (state_of r (cut_to c c.at m (c.marks - 1)))) ≡ going (setitems (state_of r c))
  unfolding setitems pairs ◌>>=◌ need is_grown Took
  setitems_adds m h e = rw (h.0, above-length m, e)

-- ---- what a lent room allows

module _ (c : Counts) (r : Rooms) (s : Sound r c) where
  pub stack_room : (l : List ℕ) → r.stack ≡ l → c.stack ≤ length l
  stack_room l e = let x = in_room r c s in let y : length r.stack ≡ length l = ap length e in omega arith

  pub marks_room : (l : List ℕ) → r.marks ≡ l → c.marks ≤ length l
  marks_room l e =
      let x = s.firm.lengths.marks in
      let y : length r.marks ≡ length l = ap length e in
      let a = s.firm.marks in
      let b = s.firm.most in
      omega arith

  -- a value of the stack has its words
  pub words_room : (n l : List ℕ) → r.nodes ≡ n → r.stack ≡ l → (k : ℕ) → k < c.stack → 2 * get_or l k 0 < length n
  words_room n l e q k h =
      let v = rw q at (on_stack r c s k h) in
      let x = s.firm.lengths.nodes in
      let z = s.firm.nodes in
      let y : length r.nodes ≡ length n = ap length e in
      omega arith

-- ---- the same of the lists that were lent

-- less said of the rooms
pub some-less : {c : Counts} {P Q : Rooms → Type 0} → ((r : Rooms) → P r → Q r) → SomeRooms c P → SomeRooms c Q
some-less f l = record { rooms = l.rooms; sound = l.sound; agrees = f l.rooms l.agrees }

module _ (c : Counts) (l : List ℕ) where
  pub took_below : (m : ℕ) → TakesMark c l (Ok m) → SomeRooms c (λ r. r.marks ≡ l) → (m ≤ c.stack) × (0 < c.marks)
  unfolding TakesMark Took
  took_below m t h = ((t h.rooms h.sound h.agrees).1, (t h.rooms h.sound h.agrees).2)

  module _ (r : Rooms) (s : Sound r c) (q : r.marks ≡ l) where
    pub took_none : c.marks ≡ 0 → Took (Err StackUnderflow) r c
    unfolding Took
    took_none e = mark-none r c s.firm e

    pub took_above : c.marks ≢ 0 → c.stack < get_or l (c.marks - 1) 0 → Took (Err StackUnderflow) r c
    unfolding Took
    took_above h k = mark-above r c s.firm (omega arith) (rw q k)

    pub took_from : c.marks ≢ 0 → get_or l (c.marks - 1) 0 ≤ c.stack → Took (Ok (get_or l (c.marks - 1) 0)) r c
    unfolding Took
    took_from h k = rw (← q) (mark_got r c s.firm (omega arith) (rw q k), rw q k, omega arith)

  module _ (r : Rooms) (s : Sound r c) (q : r.stack ≡ l) where
    pub dup_lent : c.stack ≢ 0 → IsStep (Ok (Share c (record { 0 = get_or l (c.stack - 1) 0 }))) r c (going (dup (state_of r c)))
    dup_lent h = rw (← q) (dup_shares r c s h)

  -- the owner's words are n
  module _ (n : List ℕ) (r : Rooms) (s : Sound r c) (a : r.nodes ≡ n) (b : r.stack ≡ l) (keep m k : ℕ) (why : Wanted) (g : GrowingKind k) (low : keep ≤ c.stack) (fewer : m ≤ c.marks) (h : keep ≢ 0) where
    pub wrong_lent : kind_in (first n (get_or l (keep - 1) 0)) ≢ k
        → IsStep (Err (Invalid why)) r c (going (add_items (is_grown k) (Invalid why) (above keep c.stack r.stack) (state_of r (cut_to c c.at keep m))))
    wrong_lent d = says_refused (Invalid why) r c (going (add_items (is_grown k) (Invalid why) (above keep c.stack r.stack) (state_of r (cut_to c c.at keep m)))) (added_wrong r c s keep m k why (above keep c.stack r.stack) g low fewer h (rw (a, b) d))

    pub extends_lent : kind_in (first n (get_or l (keep - 1) 0)) ≡ k
        → IsStep (Ok (Extend (cut_to c c.at keep m) (record { 0 = get_or l (keep - 1) 0 }))) r c (going (add_items (is_grown k) (Invalid why) (above keep c.stack r.stack) (state_of r (cut_to c c.at keep m))))
    extends_lent e = rw (← b) (grown_extends r c s keep m k why g low fewer h (rw (a, b) e))
