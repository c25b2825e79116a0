-- Every node number on the stack, in the memo and in the nodes is a node's.
use Rattle.std.specs.Prelude.{ℕ, suc, zero, ◌<◌, ◌≤◌, Bool, true, false, cond, List, [], ◌∷◌, ◌++◌, ◌≡◌, length, get_or, set, eqb}
use Rattle.std.proofs.Common.{length-append, length-set, arith}
use Rattle.op.specs.declared.Edition.{Edition}
use Rattle.value.specs.Value.{NoneL}
use Rattle.steps.specs.State.{Node, State, ok, kidless, with_input, node_by, memo_find, memo_insert}
use Rattle.steps.specs.Run.{Next, step, start, run}
use Rattle.steps.specs.Out.{Out, Every, every_append, every_take, every_at, every_more}
use Rattle.steps.specs.Effect.{Known, stacked, kept, inside, BeginningOf, object_inside, StateEffect, same, marked, cut, again, new, grown, state_set_lem, noted}
use Rattle.steps.specs.Keeps.{state_after, step_keeps, run_keeps}

-- numbers below n: in a list, in the memo's entries, in the nodes' contents
abbrev pub Below : ℕ → List ℕ → Type 0
Below n l = Every (λ (i : ℕ). i < n) l

abbrev pub Entries : ℕ → List (ℕ × ℕ) → Type 0
Entries n m = Every (λ (e : ℕ × ℕ). e.1 < n) m

abbrev pub Contents : ℕ → List Node → Type 0
Contents n l = Every (λ (x : Node). Below n x.kids) l

pub record InRange (s : State) : Type 0 where
  pub on_stack : Below (length s.nodes) s.stack
  pub in_memo : Entries (length s.nodes) s.memo
  pub in_nodes : Contents (length s.nodes) s.nodes

-- ---- what is known is in range

found : (n : ℕ) (m : List (ℕ × ℕ)) (k i : ℕ) → Entries n m → memo_find m k ≡ ok i → i < n
unfolding Every memo_find
found n [] k i a e = let c : ◌≡◌ {A = ℕ} 0 1 = cc in absurd (omega arith)
found n (x ∷ m) k i a e = go (eqb k x.0) e (found n m k i a.1)
  where
    go : (b : Bool) → cond b (ok x.1) (memo_find m k) ≡ ok i → (memo_find m k ≡ ok i → i < n) → i < n
    go true h f = let c : x.1 ≡ i = cc in rw c at a.0
    go false h f = f h

contents_at : (n : ℕ) (l : List Node) (i : ℕ) → Contents n l → Below n (get_or l i (kidless NoneL)).kids
unfolding Every
contents_at n [] i a = tt
contents_at n (x ∷ l) zero a = a.0
contents_at n (x ∷ l) (suc i) a = contents_at n l i a.1

pub known_below : (s : State) (i : ℕ) → InRange s → Known s i → i < length s.nodes
known_below s i r (stacked k h) = every_at _ k s.stack 0 r.on_stack h
known_below s i r (kept k j e) = found _ s.memo k j r.in_memo e
known_below s i r (inside j k h) = every_at _ k (node_by s j).kids 0 (contents_at _ s.nodes j r.in_nodes) h

knowns_below : (s : State) (l : List ℕ) → InRange s → Every (Known s) l → Below (length s.nodes) l
knowns_below s l r a = every_more (Known s) _ l (λ i k. known_below s i r k) a

-- ---- what the effects do

part_below : (n : ℕ) (a b : List ℕ) → BeginningOf a b → Below n b → Below n a
unfolding BeginningOf
part_below n a b p h = rw p.1 (every_take _ p.0 b h)

first_below : (n : ℕ) (l : List ℕ) → 0 < n → Below n l → get_or l 0 0 < n
unfolding Every
first_below n [] z a = z
first_below n (x ∷ l) z a = a.0

module _ (n m : ℕ) (le : n ≤ m) where
  below_more : (l : List ℕ) → Below n l → Below m l
  below_more l a = every_more _ _ l (λ i h. omega arith) a

  entries_more : (l : List (ℕ × ℕ)) → Entries n l → Entries m l
  entries_more l a = every_more _ _ l (λ e h. omega arith) a

  contents_more : (l : List Node) → Contents n l → Contents m l
  contents_more l a = every_more _ _ l (λ x h. below_more x.kids h) a

contents-set : (n : ℕ) (l : List Node) (i : ℕ) (x : Node) → Contents n l → Below n x.kids → Contents n (set l i x)
unfolding Every
contents-set n [] i x a b = tt
contents-set n (y ∷ l) zero x a b = (b, a.1)
contents-set n (y ∷ l) (suc i) x a b = (a.0, contents-set n l i x a.1 b)

entries-insert : (n : ℕ) (m : List (ℕ × ℕ)) (k i : ℕ) → Entries n m → i < n → Entries n (memo_insert m k i)
unfolding Every memo_insert
entries-insert n [] k i a h = (h, tt)
entries-insert n (e ∷ m) k i a h = go (eqb k e.0) (entries-insert n m k i a.1 h)
  where
    go : (b : Bool) → Entries n (memo_insert m k i) → Entries n (cond b ((k, i) ∷ m) (e ∷ memo_insert m k i))
    go true r = (h, a.1)
    go false r = (a.0, r)

-- other contents of a node that is there
range_set : (s : State) (o : ℕ) (x : Node) (st ms : List ℕ) (lk : ℕ) → InRange s → Below (length s.nodes) st → Below (length s.nodes) x.kids → InRange (record { input = s.input; nodes = set s.nodes o x; stack = st; marks = ms; memo = s.memo; links = lk })
range_set s o x st ms lk r a b = record { on_stack = rw length-set a; in_memo = rw length-set r.in_memo; in_nodes = rw length-set (contents-set _ s.nodes o x r.in_nodes b) }

pub range_effect : (s t : State) → InRange s → StateEffect s t → InRange t
unfolding Every
range_effect s t r same = r
range_effect s t r (marked h) = record { on_stack = r.on_stack; in_memo = r.in_memo; in_nodes = r.in_nodes }
range_effect s t r (cut st ms a b) = record { on_stack = part_below _ st s.stack a r.on_stack; in_memo = r.in_memo; in_nodes = r.in_nodes }
range_effect s t r (again i k h) = record { on_stack = every_append _ s.stack (i ∷ []) r.on_stack (known_below s i r k, tt); in_memo = r.in_memo; in_nodes = r.in_nodes }
range_effect s t r (new x st ms lk a b c d e f g h) =
    let n = length s.nodes in
    let z : length (s.nodes ++ (x ∷ [])) ≡ suc n = rw length-append (omega arith) in
    let l : n ≤ suc n = omega arith in
    record {
      on_stack = rw z (every_append _ st (n ∷ []) (below_more n (suc n) l st (part_below n st s.stack a r.on_stack)) (omega arith, tt));
      in_memo = rw z (entries_more n (suc n) l s.memo r.in_memo);
      in_nodes = rw z (every_append _ s.nodes (x ∷ []) (contents_more n (suc n) l s.nodes r.in_nodes) (below_more n (suc n) l x.kids (knowns_below s x.kids r c), tt));
    }
range_effect s t r (grown o is st ms a b c d e f) =
    range_set s o (record { label = (node_by s o).label; kids = (node_by s o).kids ++ is }) st ms _ r (part_below _ st s.stack a r.on_stack) (every_append _ (node_by s o).kids is (contents_at _ s.nodes o r.in_nodes) (knowns_below s is r e))
range_effect s t r (state_set_lem o i st a b c d) =
    let h = object_inside s.nodes o d in
    range_set s o (record { label = (node_by s o).label; kids = get_or (node_by s o).kids 0 0 ∷ i ∷ [] }) st s.marks s.links r (part_below _ st s.stack a r.on_stack) (first_below _ (node_by s o).kids (omega arith) (contents_at _ s.nodes o r.in_nodes), (known_below s i r c, tt))
range_effect s t r (noted k i a b) = record { on_stack = r.on_stack; in_memo = entries-insert _ s.memo k i r.in_memo (known_below s i r a); in_nodes = r.in_nodes }

pub range_reads : (s : State) (i : List ℕ) → InRange s → InRange (with_input s i)
range_reads s i r = record { on_stack = r.on_stack; in_memo = r.in_memo; in_nodes = r.in_nodes }

pub start_range : (p : List ℕ) → InRange (start p)
unfolding start Every
start_range p = record { on_stack = tt; in_memo = tt; in_nodes = tt }

pub step_range : (ed : Edition) (s : State) → InRange s → Out (λ (n : Next). InRange (state_after n)) (step ed s)
step_range = step_keeps InRange range_reads range_effect

pub run_range : (ed : Edition) (p : List ℕ) → Out InRange (run ed p)
run_range ed p = run_keeps InRange range_reads range_effect ed p (start_range p)
