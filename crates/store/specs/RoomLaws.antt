-- Each kind of change of the rooms is the machine's change of the state.
use Prim.Native.Nat.{ℕ, suc, ◌+◌, ◌*◌, ◌<◌, ◌≤◌}
use mathlib.Core.List.{List, [], ◌∷◌, ◌++◌}
use Rattle.std.specs.Prelude.{◌≡◌, ◌≢◌, length, get_or, take, drop, set}
use Rattle.std.proofs.Common.{sym, ◌∙◌, ap₂, drop-drop, take-suc-set, take-take, arith}
use Rattle.std.proofs.Math.Path.{ap}
use Rattle.std.proofs.Math.Decide.{ℕ_discrete}
use Rattle.value.specs.Value.{NoneL}
use Rattle.value.specs.Shape.{kind_in}
use Rattle.steps.specs.State.{Node, kidless, with_input, with_nodes, with_stack, with_marks, with_memo, with_links, node_by, extend, memo_insert}
use Rattle.store.specs.RoomLists.{get_d_tab, tab_same, tab_set, items_own, items_other, items_new}
use Rattle.steps.specs.NodeWords.{first_other, second_other, first-set, second-set, words-second, holds_below, first, second, words_set, class_in, node_is, HoldsLinks, WithState, node_grown, node_count, node_with_state, node_words, words_other}
use Rattle.store.specs.RoomMemo.{insert_absent, insert_present}
use Rattle.store.specs.Rooms.{Rooms, Counts, tabulated, kids_of, node_of, nodes_of, state_of, words_in, log_in, stack_in, marks_in, memo_in, at_to, nodes_to, links_to, stack_to, marks_to, memo_to, Owned, Class, Classed, Absent}

-- ---- the pickle, the stack and the marks

module _ (r : Rooms) (c : Counts) where
  -- n bytes read
  pub read_more : (n : ℕ) → state_of r (at_to c (c.at + n)) ≡ with_input (state_of r c) (drop n (state_of r c).input)
  unfolding state_of
  read_more n = ap (with_input (state_of r c)) (sym (drop-drop n c.at r.pickle))

  -- a number pushed
  pub stack_more : (i : ℕ) → c.stack < length r.stack → state_of (stack_in r (set r.stack c.stack i)) (stack_to c (suc c.stack)) ≡ with_stack (state_of r c) ((state_of r c).stack ++ (i ∷ []))
  unfolding state_of
  stack_more i h = ap (with_stack (state_of r c)) (take-suc-set r.stack c.stack i h)

  -- the stack cut to m
  pub stack_cut : (m : ℕ) → m ≤ c.stack → state_of r (stack_to c m) ≡ with_stack (state_of r c) (take m (state_of r c).stack)
  unfolding state_of
  stack_cut m h = ap (with_stack (state_of r c)) (sym (take-take m c.stack r.stack h))

  pub marks_more : (i : ℕ) → c.marks < length r.marks → state_of (marks_in r (set r.marks c.marks i)) (marks_to c (suc c.marks)) ≡ with_marks (state_of r c) ((state_of r c).marks ++ (i ∷ []))
  unfolding state_of
  marks_more i h = ap (with_marks (state_of r c)) (take-suc-set r.marks c.marks i h)

  pub marks_cut : (m : ℕ) → m ≤ c.marks → state_of r (marks_to c m) ≡ with_marks (state_of r c) (take m (state_of r c).marks)
  unfolding state_of
  marks_cut m h = ap (with_marks (state_of r c)) (sym (take-take m c.marks r.marks h))

-- ---- a link more

module _ (r : Rooms) (c : Counts) where
  pub link_more : (o k : ℕ) → o < c.nodes → HoldsLinks (first r.nodes o) → c.links < length r.owners → c.links < length r.children
      → state_of (log_in r (set r.owners c.links o) (set r.children c.links k)) (links_to c (suc c.links)) ≡ extend o (k ∷ []) (with_links (state_of r c) (suc c.links))
  unfolding state_of extend
  link_more o k h t l l' = ap (with_nodes (with_links (state_of r c) (suc c.links))) (tab_set (node_of r c) (node_of r₁ c₁) c.nodes o (kidless NoneL) h other ∙ ap (set (nodes_of r c) o) own)
    where
      r₁ : Rooms
      r₁ = log_in r (set r.owners c.links o) (set r.children c.links k)

      c₁ : Counts
      c₁ = links_to c (suc c.links)

      of : List ℕ → ℕ → Node
      of ks i = node_is r.pickle r.nodes ks (first r.nodes i) (second r.nodes i)

      other : (i : ℕ) → i < c.nodes → i ≢ o → node_of r₁ c₁ i ≡ node_of r c i
      other i z d = ap (λ (ks : List ℕ). of ks i) (items_other r.owners r.children c.links o k l l' i d)

      own : node_of r₁ c₁ o ≡ record { label = (get_or (nodes_of r c) o (kidless NoneL)).label; kids = (get_or (nodes_of r c) o (kidless NoneL)).kids ++ (k ∷ []) }
      own =
          rw (get_d_tab (node_of r c) c.nodes o (kidless NoneL) h)
          (ap (λ (ks : List ℕ). of ks o) (items_own r.owners r.children c.links o k l l')
          ∙ node_grown r.pickle (first r.nodes o) (second r.nodes o) (kids_of r c o) r.nodes k t)

  -- ---- a node more

  pub node_more : (a b : ℕ) → suc (2 * c.nodes) < length r.nodes → c.links ≤ length r.owners → Owned r.owners c.links c.nodes → Classed r.nodes c.nodes → Class r.nodes c.nodes a
      → state_of (words_in r (words_set r.nodes c.nodes a b)) (nodes_to c (suc c.nodes)) ≡ with_nodes (state_of r c) ((state_of r c).nodes ++ (node_is r.pickle r.nodes [] a b ∷ []))
  unfolding state_of tabulated Owned Classed Class
  node_more a b h l own cl new = ap (with_nodes (state_of r c)) (ap₂ (λ (x : List Node) (y : Node). x ++ (y ∷ [])) (tab_same (node_of r c) (node_of r₁ c₁) c.nodes old) last)
    where
      r₁ : Rooms
      r₁ = words_in r (words_set r.nodes c.nodes a b)

      c₁ : Counts
      c₁ = nodes_to c (suc c.nodes)

      old : (i : ℕ) → i < c.nodes → node_of r₁ c₁ i ≡ node_of r c i
      old i z = words_other r.pickle (kids_of r c i) r.nodes c.nodes a b i (λ e. omega arith) (λ k e. let v = (cl i z k).0 in omega arith)

      last : node_of r₁ c₁ c.nodes ≡ node_is r.pickle r.nodes [] a b
      last =
          rw (first-set r.nodes c.nodes a b h, second-set r.nodes c.nodes a b h, items_new r.owners r.children c.links c.nodes (λ k z e. let v = own k z in omega arith) l)
          (node_words r.pickle a b [] r.nodes (words_set r.nodes c.nodes a b) (λ k. let v = (new k).0 in (first_other r.nodes c.nodes a b (class_in a) (λ e. omega arith), second_other r.nodes c.nodes a b (class_in a) (λ e. omega arith))))

  -- ---- the memo

  -- an entry more
  pub memo_more : (k i : ℕ) → c.memo < length r.keys → c.memo < length r.held → Absent r.keys c.memo k
      → state_of (memo_in r (set r.keys c.memo k) (set r.held c.memo i)) (memo_to c (suc c.memo)) ≡ with_memo (state_of r c) (memo_insert (state_of r c).memo k i)
  unfolding state_of
  memo_more k i h h' none = ap (with_memo (state_of r c)) (insert_absent r.keys r.held c.memo k (omega arith) (omega arith) none i h h')

  -- one replaced, which stands at j
  pub memo_replaced : (k i j : ℕ) → c.memo ≤ length r.keys → c.memo ≤ length r.held → j < c.memo → get_or r.keys j 0 ≡ k → Absent r.keys j k
      → state_of (memo_in r r.keys (set r.held j i)) c ≡ with_memo (state_of r c) (memo_insert (state_of r c).memo k i)
  unfolding state_of
  memo_replaced k i j h h' l e before = ap (with_memo (state_of r c)) (insert_present r.keys r.held c.memo k h h' j l e before i)

  -- ---- words of a node changed

  -- the number of a container's items does not count
  pub count_set : (o b : ℕ) → HoldsLinks (first r.nodes o) → suc (2 * o) < length r.nodes → Classed r.nodes c.nodes → state_of (words_in r (set r.nodes (suc (2 * o)) b)) c ≡ state_of r c
  unfolding state_of Classed Class
  count_set o b t h cl = rw (← whole) (ap (with_nodes (state_of r c)) (tab_same (node_of r c) (node_of r₁ c) c.nodes (λ i z. go i z (ℕ_discrete i o))))
    where
      a : ℕ
      a = first r.nodes o

      ws : List ℕ
      ws = words_set r.nodes o a b

      r₁ : Rooms
      r₁ = words_in r ws

      whole : ws ≡ set r.nodes (suc (2 * o)) b
      whole = words-second r.nodes o b

      class : (i : ℕ) → i < c.nodes → kind_in (first r.nodes i) ≡ 12 → class_in (first r.nodes i) ≢ o
      class i z k e = let v : kind_in (first r.nodes o) ≡ 11 = rw e at (cl i z k).1 in let u = holds_below (first r.nodes o) t in omega arith

      go : (i : ℕ) → i < c.nodes → Dec (i ≡ o) → node_of r₁ c i ≡ node_of r c i
      go i z (no d) = words_other r.pickle (kids_of r c i) r.nodes o a b i d (class i z)
      go i z (yes e) =
          rw (e, first-set r.nodes o a b h, second-set r.nodes o a b h)
          (node_words r.pickle a b (kids_of r c o) r.nodes ws (λ k. let v = holds_below a t in absurd (omega arith))
          ∙ node_count r.pickle a (second r.nodes o) (kids_of r c o) r.nodes b t)

  -- BUILD
  pub build-set : (o a b i : ℕ) → o < c.nodes → suc (2 * o) < length r.nodes → Classed r.nodes c.nodes → kind_in (first r.nodes o) ≡ 12 → WithState (first r.nodes o) (second r.nodes o) a b i
      → state_of (words_in r (words_set r.nodes o a b)) c ≡ with_nodes (state_of r c) (set (state_of r c).nodes o (record { label = (node_by (state_of r c) o).label; kids = get_or (node_by (state_of r c) o).kids 0 0 ∷ i ∷ [] }))
  unfolding state_of Classed Class
  build-set o a b i l h cl t new = ap (with_nodes (state_of r c)) (tab_set (node_of r c) (node_of r₁ c) c.nodes o (kidless NoneL) l other ∙ ap (set (nodes_of r c) o) own)
    where
      ws : List ℕ
      ws = words_set r.nodes o a b

      r₁ : Rooms
      r₁ = words_in r ws

      class : (j : ℕ) → j < c.nodes → kind_in (first r.nodes j) ≡ 12 → class_in (first r.nodes j) ≢ o
      class j z k e = let v : kind_in (first r.nodes o) ≡ 11 = rw e at (cl j z k).1 in omega arith

      other : (j : ℕ) → j < c.nodes → j ≢ o → node_of r₁ c j ≡ node_of r c j
      other j z d = words_other r.pickle (kids_of r c j) r.nodes o a b j d (class j z)

      apart : class_in a ≢ o
      apart = rw new.class (class o l t)

      own : node_of r₁ c o ≡ record { label = (get_or (nodes_of r c) o (kidless NoneL)).label; kids = get_or (get_or (nodes_of r c) o (kidless NoneL)).kids 0 0 ∷ i ∷ [] }
      own =
          rw (get_d_tab (node_of r c) c.nodes o (kidless NoneL) l, first-set r.nodes o a b h, second-set r.nodes o a b h)
          (node_words r.pickle a b (kids_of r c o) r.nodes ws (λ k. (first_other r.nodes o a b (class_in a) apart, second_other r.nodes o a b (class_in a) apart))
          ∙ node_with_state r.pickle (first r.nodes o) (second r.nodes o) (kids_of r c o) r.nodes a b i t new)
