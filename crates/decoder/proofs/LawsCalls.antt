-- What each return of the classes' opcodes says of their definitions. Assumes nothing.
use Prim.Native.Nat.{ℕ, suc, zero, ◌+◌, ◌-◌, ◌*◌, ◌^◌, ◌/◌, ◌%◌, ◌<◌, ◌≤◌}
use mathlib.Core.Bool.{Bool, true, false, cond, not, not-not, ◌&&◌}
use mathlib.Core.List.{List, [], ◌∷◌}
use mathlib.Core.Path.{◌≡◌, refl, sym, ◌∙◌, ap}
use mathlib.Core.Logic.{◌≢◌}
use lib.ListN.{length, get_or, take, drop}
use lib.Dec.{eqb, leb}
use lib.Pointwise.{pointwise}
use borrow.Author.Tests.{le-leb, lt-leb}
use native.Mathlib.Decide.{dec_lt}
use native.Mathlib.Omega.{arith}
use Rattle.std.specs.Prelude.{Result, Ok, Err}
use Rattle.refusal.specs.declared.Refusal.{Refusal}
use Rattle.refusal.specs.declared.Refusal.TheVariants.{StackUnderflow, Invalid}
use Rattle.refusal.specs.declared.Wanted.TheVariants.{Class as AClass, Arguments, Object}
use Rattle.number.specs.Space.{same}
use Rattle.value.specs.Value.{Label, SetL, FrozenSetL}
use Rattle.value.specs.Shape.{kind_in}
use Rattle.store.specs.declared.NodeId.{NodeId}
use Rattle.store.specs.declared.Effect.TheVariants.{Push, Build}
use Rattle.steps.specs.Opcodes.{builtin, set_name, frozenset_name, object, set_of, reduced, called, build_state}
use Rattle.steps.specs.Run.{going}
use Rattle.store.specs.declared.Counts.{Counts}
use Rattle.store.specs.Rooms.{Rooms, kids_of, state_of, Counted, Together, Placed}
use Rattle.steps.specs.NodeWords.{first, second, within, module_of, name_of, node_is, HoldsLinks, a_list, a_tuple, a_dict, holds_below, object_word, object-made, object_node}
use Rattle.store.specs.RoomKeeps.{class_none, class_made}
use Rattle.store.specs.Effects.{Firm, Sound, SomeRooms, IsStep, Fits, enacted, says_refused}
use Rattle.decoder.specs.Reads.{cut_to, firm_cut}
use Rattle.decoder.specs.StackSteps.{on_stack, stack_room}
use Rattle.decoder.specs.ReadsCalls.{MadeByCall, CallOnTop, CallSaid, ReadsCall, lower_node, upper_node, build-short, build_no_object, build-object, CallMakes, a_set, a_frozen_set, an_object, made_of, call-short, call_no_class, call_no_arguments, call-both, made_kind, same-builtin, same_set, same-frozenset}

-- ---- the two topmost values

pub node_room : (r : Rooms) (c : Counts) (i : ℕ) → Sound r c → i < c.nodes → suc (2 * i) < length r.nodes
node_room r c i s h = let a = s.firm.lengths.nodes in let b = s.firm.nodes in omega arith

-- a value on the stack is in it, and its node's words are among the nodes'
pub lent_node : (c : Counts) (ws st : List ℕ) (i : ℕ) → SomeRooms c (λ r. (r.nodes ≡ ws) × (r.stack ≡ st)) → i < c.stack → (i < length st) × (suc (2 * get_or st i 0) < length ws)
lent_node c ws st i l h =
    let r = l.rooms in
    let k : i < length r.stack = omega (arith, stack_room c r l.sound r.stack refl) in
    let n = node_room r c (get_or r.stack i 0) l.sound (on_stack r c l.sound i h) in
    (rw l.agrees.1 at k, rw (l.agrees.0, l.agrees.1) at n)

-- the two topmost
pub record Two (c : Counts) (ws st : List ℕ) : Type 0 where
  pub lower : c.stack - 2 < length st
  pub upper : c.stack - 1 < length st
  pub lower_node : suc (2 * get_or st (c.stack - 2) 0) < length ws
  pub upper_node : suc (2 * get_or st (c.stack - 1) 0) < length ws

pub lent_two : (c : Counts) (ws st : List ℕ) → SomeRooms c (λ r. (r.nodes ≡ ws) × (r.stack ≡ st)) → 2 ≤ c.stack → Two c ws st
lent_two c ws st l h =
    let a = lent_node c ws st (c.stack - 2) l (omega arith) in
    let b = lent_node c ws st (c.stack - 1) l (omega arith) in
    record { lower = a.0; upper = b.0; lower_node = a.1; upper_node = b.1 }

module _ (c : Counts) (ws st : List ℕ) where
  pub reads_short : c.stack < 2 → ReadsCall c ws st (Err StackUnderflow)
  unfolding ReadsCall CallSaid
  reads_short h r s e f = call-short r c s h

  at : (r : Rooms) (i : ℕ) → r.stack ≡ st → get_or r.stack i 0 ≡ get_or st i 0
  at r i f = ap (λ (l : List ℕ). get_or l i 0) f

  module _ (two : 2 ≤ c.stack) where
    pub reads_no_class : kind_in (first ws (get_or st (c.stack - 2) 0)) ≢ 11 → ReadsCall c ws st (Err (Invalid AClass))
    unfolding ReadsCall CallSaid
    reads_no_class d r s e f = call_no_class r c s two _ _ (at r (c.stack - 2) f) (at r (c.stack - 1) f) (rw e d)

    module _ (global : kind_in (first ws (get_or st (c.stack - 2) 0)) ≡ 11) where
      pub reads_no_arguments : kind_in (first ws (get_or st (c.stack - 1) 0)) ≢ 7 → ReadsCall c ws st (Err (Invalid Arguments))
      unfolding ReadsCall CallSaid
      reads_no_arguments d r s e f = call_no_arguments r c s two _ _ (at r (c.stack - 2) f) (at r (c.stack - 1) f) (rw e global) (rw e d)

      pub reads_both : (x y : NodeId) → get_or st (c.stack - 2) 0 ≡ x.0 → get_or st (c.stack - 1) 0 ≡ y.0 → kind_in (first ws (get_or st (c.stack - 1) 0)) ≡ 7 → ReadsCall c ws st (Ok (x, y))
      unfolding ReadsCall CallSaid
      reads_both x y p q t r s e f = rw (← p, ← q) (call-both r c s two _ _ (at r (c.stack - 2) f) (at r (c.stack - 1) f) (rw e global) (rw e t))

-- ---- texts

same_pointwise : (s w : List ℕ) → same s w ≡ pointwise eqb s w
unfolding same
same_pointwise [] [] = refl
same_pointwise [] (b ∷ w) = refl
same_pointwise (a ∷ s) [] = refl
same_pointwise (a ∷ s) (b ∷ w) = ap (λ x. eqb a b && x) (same_pointwise s w)

-- what a test of bytes says
module _ {s w x y : List ℕ} {b : Bool} (p : x ≡ s) (q : y ≡ w) where
  pub same_told : b ≡ pointwise eqb x y → same s w ≡ b
  same_told e = rw (same_pointwise s w, e, p, q)

  pub other_told : b ≡ not (pointwise eqb x y) → same s w ≡ not b
  other_told e = rw (same_pointwise s w, e, p, q) (sym (not-not (pointwise eqb s w)))

-- ---- what REDUCE makes

-- the module's text, and the name's, as they stand in the pickle
abbrev pub module_at : List ℕ → ℕ → List ℕ
module_at p a = take (a / 16 / 0x100_0000) (drop (a / 16 % 0x100_0000) p)

abbrev pub name_at : List ℕ → ℕ → List ℕ
name_at p b = take (b / 0x1_0000_0000) (drop (b % 0x1_0000_0000) p)

module _ (p : List ℕ) (a b n : ℕ) where
  kind_raw : made_kind (module_of p a) (name_of p b) n ≡ made_kind (module_at p a) (name_at p b) n
  unfolding made_kind module_of name_of within
  kind_raw = rw (same-builtin (module_at p a), same_set (name_at p b), same-frozenset (name_at p b))

  pub kind-many : 1 < n → made_kind (module_of p a) (name_of p b) n ≡ 12
  unfolding made_kind
  kind-many h = go (same (module_of p a) builtin)
    where
      go : (x : Bool) → cond {A = ℕ} (x && leb n 1) (cond (same (name_of p b) set_name) 8 (cond (same (name_of p b) frozenset_name) 9 12)) 12 ≡ 12
      go true = rw (lt-leb n 1 h)
      go false = refl

  module _ (few : n ≤ 1) where
    pub kind_other : same (module_at p a) builtin ≡ false → made_kind (module_of p a) (name_of p b) n ≡ 12
    unfolding made_kind
    kind_other e = rw (kind_raw, e)

    module _ (e : same (module_at p a) builtin ≡ true) where
      pub kind-set : same (name_at p b) set_name ≡ true → made_kind (module_of p a) (name_of p b) n ≡ 8
      unfolding made_kind
      kind-set f = rw (kind_raw, e, le-leb n 1 few, f)

      pub kind-frozenset : same (name_at p b) set_name ≡ false → same (name_at p b) frozenset_name ≡ true → made_kind (module_of p a) (name_of p b) n ≡ 9
      unfolding made_kind
      kind-frozenset f g = rw (kind_raw, e, le-leb n 1 few, f, g)

      pub kind_neither : same (name_at p b) set_name ≡ false → same (name_at p b) frozenset_name ≡ false → made_kind (module_of p a) (name_of p b) n ≡ 12
      unfolding made_kind
      kind_neither f g = rw (kind_raw, e, le-leb n 1 few, f, g)

-- ---- calls

-- what the code's answer says of rooms that it was read from
module _ (c : Counts) (ws st : List ℕ) (k : Result (NodeId × NodeId) Refusal) (reads : ReadsCall c ws st k) (r : Rooms) (s : Sound r c) (e : r.nodes ≡ ws) (f : r.stack ≡ st) where
  pub call_of : (x y : NodeId) → k ≡ Ok (x, y) → CallOnTop c r x.0 y.0
  unfolding ReadsCall CallSaid
  call_of x y d = rw d at (reads r s e f)

  pub call_refused : (makes : MadeByCall) (why : Refusal) → k ≡ Err why → IsStep (Err why) r c (going (called makes (state_of r c)))
  unfolding ReadsCall CallSaid going
  call_refused makes why d = says_refused why r c (going (called makes (state_of r c))) (rw ((rw d at (reads r s e f)) makes))

module _ (r : Rooms) (c : Counts) (s : Sound r c) (x y : ℕ) (call : CallOnTop c r x y) where
  -- the words of both nodes
  pub call-rooms : (suc (2 * x) < length r.nodes) × (suc (2 * y) < length r.nodes) × (x < 4096) × (y < 4096)
  call-rooms = let a = node_room r c x s call.class_node in let b = node_room r c y s call.args_node in let d = s.firm.nodes in let h = call.class_node in let i = call.args_node in omega arith

  -- the low half of the tuple's second word counts its items
  pub call-count : second r.nodes y % 2 ^ 32 ≡ length (kids_of r c y)
  unfolding Counted
  call-count = s.firm.kept.counted y call.args_node (a_tuple call.args_kind)

  firm_rest : Firm r (cut_to c c.at (c.stack - 2) c.marks)
  firm_rest = firm_cut r c c.at (c.stack - 2) c.marks s.firm (omega arith) s.firm.at (omega arith) (omega arith)

  -- the class's module and name
  abbrev name : List ℕ × List ℕ
  name = (module_of r.pickle (first r.nodes x), name_of r.pickle (second r.nodes x))

  pub says-object : (makes : MadeByCall) (new : Bool) (c₁ : Counts) (a b : ℕ) → makes name y (kids_of r c y) ≡ object name new y → c₁ ≡ cut_to c c.at (c.stack - 2) c.marks → a ≡ object_word new x → b ≡ y
      → IsStep (Ok (Push c₁ a b)) r c (going (called makes (state_of r c)))
  unfolding enacted Fits
  says-object makes new c₁ a b m e f g =
      let k = (object-made new x).0 in
      let h = call-rooms.3 in
      rw (e, f, g)
      (record {
        enacts = rw (call.step makes, m, object_node r.pickle r.nodes [] new x y (omega arith));
        fits = (firm_rest, class_made r.nodes c.nodes new x call.class_node call.class_kind, λ z. absurd (let v = holds_below (object_word new x) z in omega arith));
      })

  says-set : (l : Label) (c₁ : Counts) (k b : ℕ) → reduced name y (kids_of r c y) ≡ set_of l y (kids_of r c y) → c₁ ≡ cut_to c c.at (c.stack - 2) c.marks → b ≡ get_or (kids_of r c y) 0 y
      → node_is r.pickle r.nodes [] k b ≡ record { label = l; kids = b ∷ [] } → 7 < kind_in k → kind_in k < 10 → IsStep (Ok (Push c₁ k b)) r c (going (called reduced (state_of r c)))
  unfolding enacted Fits
  says-set l c₁ k b m e f n low high =
      rw e
      (record {
        enacts = rw (call.step reduced, m, n, f);
        fits = (firm_rest, class_none r.nodes c.nodes k (λ z. omega arith), holds k b low high);
      })
    where
      holds : (k b : ℕ) → 7 < kind_in k → kind_in k < 10 → HoldsLinks k → b ≡ 0
      holds k b low high (a_list e) = absurd (omega arith)
      holds k b low high (a_tuple e) = absurd (omega arith)
      holds k b low high (a_dict e) = absurd (omega arith)

  module _ (k : ℕ) (made : k ≡ made_kind name.0 name.1 (second r.nodes y % 2 ^ 32)) (c₁ : Counts) (rest : c₁ ≡ cut_to c c.at (c.stack - 2) c.marks) where
    view : CallMakes name y (kids_of r c y) (reduced name y (kids_of r c y)) k
    view = rw (made, call-count) (made_of name y (kids_of r c y))

    pub reduce-object : k ≡ 12 → (a b : ℕ) → a ≡ object_word false x → b ≡ y → IsStep (Ok (Push c₁ a b)) r c (going (called reduced (state_of r c)))
    reduce-object e a b f g = go view
      where
        go : CallMakes name y (kids_of r c y) (reduced name y (kids_of r c y)) k → IsStep (Ok (Push c₁ a b)) r c (going (called reduced (state_of r c)))
        go (a_set z m) = absurd (omega arith)
        go (a_frozen_set z m) = absurd (omega arith)
        go (an_object z m) = says-object reduced false c₁ a b m rest f g

    pub reduce-set : k ≢ 12 → (b : ℕ) → b ≡ get_or (kids_of r c y) 0 y → IsStep (Ok (Push c₁ k b)) r c (going (called reduced (state_of r c)))
    unfolding node_is kind_in
    reduce-set d b f = go view
      where
        go : CallMakes name y (kids_of r c y) (reduced name y (kids_of r c y)) k → IsStep (Ok (Push c₁ k b)) r c (going (called reduced (state_of r c)))
        go (a_set z m) = rw z (says-set SetL c₁ 8 b m rest f refl (omega arith) (omega arith))
        go (a_frozen_set z m) = rw z (says-set FrozenSetL c₁ 9 b m rest f refl (omega arith) (omega arith))
        go (an_object z m) = absurd (d z)

    -- a set has at most one argument
    pub reduce_few : k ≢ 12 → length (kids_of r c y) ≤ 1
    reduce_few d = go (dec_lt 1 (second r.nodes y % 2 ^ 32))
      where
        go : Dec (1 < second r.nodes y % 2 ^ 32) → length (kids_of r c y) ≤ 1
        go (yes h) = absurd (d (made ∙ kind-many r.pickle (first r.nodes x) (second r.nodes x) (second r.nodes y % 2 ^ 32) h))
        go (no h) = let e = call-count in omega arith

-- what REDUCE read of the rooms: w is the arguments' second word, k the kind of what is made
pub record Found (r : Rooms) (c : Counts) (x y w k : ℕ) : Type 0 where
  pub call : CallOnTop c r x y
  pub word : w ≡ second r.nodes y
  pub count : w % 2 ^ 32 ≡ length (kids_of r c y)
  pub kind : k ≡ made_kind (module_of r.pickle (first r.nodes x)) (name_of r.pickle (second r.nodes x)) (second r.nodes y % 2 ^ 32)

-- of the pickle p and the nodes' words ws: a and b are the class's words
pub found : (r : Rooms) (c : Counts) (p ws : List ℕ) (x y a b w k : ℕ) → Sound r c → r.pickle ≡ p → r.nodes ≡ ws → CallOnTop c r x y → a ≡ first ws x → b ≡ second ws x → w ≡ second ws y
    → k ≡ made_kind (module_of p a) (name_of p b) (w % 2 ^ 32) → Found r c x y w k
found r c p ws x y a b w k s e f call g h i j = record {
  call = call;
  word = i ∙ rw f;
  count = rw (i, ← f) (call-count r c s x y call);
  kind = j ∙ rw (g, h, i, e, f);
}

pub first-none : (l : List ℕ) (d : ℕ) → length l ≡ 0 → d ≡ get_or l 0 d
first-none [] d h = refl
first-none (x ∷ l) d h = absurd (omega arith)

first_some : (l : List ℕ) (d : ℕ) → length l ≡ 1 → get_or l 0 0 ≡ get_or l 0 d
first_some [] d h = absurd (omega arith)
first_some (x ∷ l) d h = refl

module _ (r : Rooms) (c : Counts) (x y w k : ℕ) (s : Sound r c) (f : Found r c x y w k) (d : k ≢ 12) (z : w % 2 ^ 32 ≢ 0) where
  -- an argument that is there is the only one
  one : length (kids_of r c y) ≡ 1
  one = go (length (kids_of r c y)) (reduce_few r c s x y f.call k f.kind (cut_to c c.at (c.stack - 2) c.marks) refl d) (λ e. z (f.count ∙ e))
    where
      go : (m : ℕ) → m ≤ 1 → m ≢ 0 → m ≡ 1
      go zero h v = absurd (v refl)
      go (suc m) h v = omega arith

  together : Together w (kids_of r c y) r.children c.links
  unfolding Placed
  together = rw f.word (s.firm.kept.placed y f.call.args_node f.call.args_kind)

  -- its link stands where the tuple's word says
  pub item_room : w / 2 ^ 32 < length r.children
  item_room =
      let a = together.ends in
      let b = f.count in
      let e = one in
      let l = s.firm.lengths.children in
      let m = s.firm.links in
      omega arith

  pub item_there : get_or r.children (w / 2 ^ 32) 0 ≡ get_or (kids_of r c y) 0 y
  item_there =
      let b = f.count in
      let e = one in
      let n : w / 2 ^ 32 + 0 ≡ w / 2 ^ 32 = omega arith in
      sym (rw n at (together.child 0 (omega arith))) ∙ first_some (kids_of r c y) y one

-- ---- BUILD

module _ (r : Rooms) (c : Counts) (s : Sound r c) (ws st : List ℕ) (e : r.nodes ≡ ws) (f : r.stack ≡ st) where
  pub says-build-short : c.stack < 2 → IsStep (Err StackUnderflow) r c (going (build_state (state_of r c)))
  unfolding going
  says-build-short h = says_refused StackUnderflow r c (going (build_state (state_of r c))) (rw (build-short r c s h))

  module _ (two : 2 ≤ c.stack) where
    pub says_no_object : kind_in (first ws (get_or st (c.stack - 2) 0)) ≢ 12 → IsStep (Err (Invalid Object)) r c (going (build_state (state_of r c)))
    unfolding going
    says_no_object d = says_refused (Invalid Object) r c (going (build_state (state_of r c))) (rw (build_no_object r c s two _ _ (at c ws st r (c.stack - 2) f) (at c ws st r (c.stack - 1) f) (rw e d)))

    pub says-build : (x y : NodeId) (c₁ : Counts) → get_or st (c.stack - 2) 0 ≡ x.0 → get_or st (c.stack - 1) 0 ≡ y.0 → kind_in (first ws (get_or st (c.stack - 2) 0)) ≡ 12 → c₁ ≡ cut_to c c.at (c.stack - 1) c.marks
        → IsStep (Ok (Build c₁ x y)) r c (going (build_state (state_of r c)))
    unfolding enacted Fits going
    says-build x y c₁ p q k g =
        let lower = at c ws st r (c.stack - 2) f ∙ p in
        let upper = at c ws st r (c.stack - 1) f ∙ q in
        let o : kind_in (first r.nodes x.0) ≡ 12 = rw (e, ← p) k in
        rw g
        (record {
          enacts = rw (build-object r c s two x.0 y.0 lower upper o);
          fits = (firm_cut r c c.at (c.stack - 1) c.marks s.firm (omega arith) s.firm.at (omega arith) (omega arith), lower_node r c s two x.0 y.0 lower upper, upper_node r c s two x.0 y.0 lower upper, o);
        })
