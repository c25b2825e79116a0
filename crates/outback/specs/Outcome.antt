-- What a run comes to from a state on: an added refusal, or a state of which something holds. What will hold is that there are values more
-- on the stack, in nodes of their own, and that all that was there is as it was.
use Rattle.std.specs.Prelude.{ℕ, ◌+◌, ◌≤◌, ◌<◌, List, [], ◌∷◌, ◌++◌, ◌≡◌, refl, ◌≢◌, length, set, T}
use Rattle.std.proofs.Common.{append_assoc, append-nil, sym, ◌∙◌, ap, length-append, length-set, get_or-set_same, get_or-set_other, arith}
use Rattle.std.proofs.Math.ListN.{get_or-append}
use Rattle.std.proofs.Math.Seq.{get_or-append_seam}
use Rattle.refusal.specs.declared.Refusal.{Refusal}
use Rattle.op.specs.declared.Edition.TheVariants.{Full}
use Rattle.value.specs.Value.{Label, Forest, NoneL, nil, node}
use Rattle.value.specs.Stands.{◌⊕◌}
use Rattle.steps.specs.State.{Node, State, no, kidless}
use Rattle.steps.specs.Fuel.{run_from}
use Rattle.reading.specs.Build.{at}
use Rattle.outback.specs.Added.{added_refusal}
use Rattle.outback.specs.WriteOut.{WritesIn, none, more, writes_moved, writes_append}

-- the run from s on is an added refusal, or it is that from t on, and R holds of t
pub data LeadsTo (s : State) (R : State → Type 0) : Type 0 where
  stops : (why : Refusal) → T (added_refusal why) → run_from Full s ≡ no why → LeadsTo s R
  comes : (t : State) → run_from Full s ≡ run_from Full t → R t → LeadsTo s R

pub leads_on : {s : State} {R Q : State → Type 0} → LeadsTo s R → ((t : State) → R t → LeadsTo t Q) → LeadsTo s Q
leads_on (stops why a e) k = stops why a e
leads_on {s} {R} {Q} (comes t e r) k = go (k t r)
  where
    go : LeadsTo t Q → LeadsTo s Q
    go (stops why a f) = stops why a (e ∙ f)
    go (comes u f q) = comes u (e ∙ f) q

pub leads_weaken : {s : State} {R Q : State → Type 0} → ((t : State) → R t → Q t) → LeadsTo s R → LeadsTo s Q
leads_weaken h (stops why a e) = stops why a e
leads_weaken h (comes t e r) = comes t e (h t r)

-- ---- values more on the stack

-- a node from lo on and below hi
pub record Between (lo hi j : ℕ) : Type 0 where
  pub low : lo ≤ j
  pub high : j < hi

-- the same, other than i
pub record BetweenOthers (lo hi i j : ℕ) : Type 0 where
  pub low : lo ≤ j
  pub high : j < hi
  pub other : j ≢ i

-- From s to t: `rest` is left to read, the stack has one value more, and old nodes are as they were. The value is in new nodes; its write-out
-- has label l and contents c, and its contents keep off its own node, so that an opcode may still add to it.
pub record OneMore (s : State) (rest : List ℕ) (l : Label) (c : Forest) (t : State) : Type 0 where
  pub input : t.input ≡ rest
  pub marks : t.marks ≡ s.marks
  pub id : ℕ
  pub stack : t.stack ≡ s.stack ++ (id ∷ [])
  pub low : length s.nodes ≤ id
  pub high : id < length t.nodes
  pub old : (i : ℕ) → i < length s.nodes → at t.nodes i ≡ at s.nodes i
  pub kids : List ℕ
  pub here : at t.nodes id ≡ record { label = l; kids = kids }
  pub inside : WritesIn t.nodes (BetweenOthers (length s.nodes) (length t.nodes) id) kids c

-- the same of any number of values
pub record ManyMore (s : State) (rest : List ℕ) (f : Forest) (t : State) : Type 0 where
  pub input : t.input ≡ rest
  pub marks : t.marks ≡ s.marks
  pub ids : List ℕ
  pub stack : t.stack ≡ s.stack ++ ids
  pub more : length s.nodes ≤ length t.nodes
  pub old : (i : ℕ) → i < length s.nodes → at t.nodes i ≡ at s.nodes i
  pub values : WritesIn t.nodes (Between (length s.nodes) (length t.nodes)) ids f

pub many-none : (s : State) (rest : List ℕ) → s.input ≡ rest → ManyMore s rest nil s
many-none s rest e = record { input = e; marks = refl; ids = []; stack = sym (append-nil s.stack); more = omega arith; old = λ i h. refl; values = none }

pub many_more : {s t u : State} {mid rest : List ℕ} {l : Label} {c g : Forest} → OneMore s mid l c t → ManyMore t rest g u → ManyMore s rest (node l c g) u
many_more {s} {t} {u} {mid} {rest} {l} {c} {g} x y =
    record {
      input = y.input;
      marks = y.marks ∙ x.marks;
      ids = x.id ∷ y.ids;
      stack = y.stack ∙ rw x.stack (append_assoc s.stack (x.id ∷ []) y.ids);
      more = omega (arith, x.low, x.high, y.more);
      old = λ i h. y.old i (omega (arith, x.low, x.high)) ∙ x.old i h;
      values =
          more (record { low = x.low; high = omega (arith, x.high, y.more) }) (y.old x.id x.high ∙ x.here)
          (writes_moved (λ j a. record { low = a.low; high = omega (arith, a.high, y.more) }) (λ j a. y.old j a.high) x.inside)
          (writes_moved (λ j a. record { low = omega (arith, x.low, x.high, a.low); high = a.high }) (λ j a. refl) y.values);
    }

pub many_one : {s t : State} {rest : List ℕ} {l : Label} {c : Forest} → OneMore s rest l c t → ManyMore s rest (node l c nil) t
many_one {s} {t} {rest} x = many_more x (many-none t rest x.input)

-- ---- a new node over values that were read

abbrev pub state_with_node : State → List ℕ → Node → State → ℕ → List ℕ → State
state_with_node s i n t k m = record { input = i; nodes = t.nodes ++ (n ∷ []); stack = s.stack ++ (length t.nodes ∷ []); marks = m; memo = t.memo; links = k }

pub node_more : (s t : State) (rest : List ℕ) (l : Label) (f : Forest) (k : ℕ) (m ks : List ℕ) → m ≡ s.marks → length s.nodes ≤ length t.nodes → ((i : ℕ) → i < length s.nodes → at t.nodes i ≡ at s.nodes i)
    → WritesIn t.nodes (Between (length s.nodes) (length t.nodes)) ks f → OneMore s rest l f (state_with_node s rest (record { label = l; kids = ks }) t k m)
node_more s t rest l f k ms ks w m o v =
    let n : Node = record { label = l; kids = ks } in
    let z : length (t.nodes ++ (n ∷ [])) ≡ length t.nodes + 1 = length-append t.nodes (n ∷ []) in
    record {
      input = refl;
      marks = w;
      id = length t.nodes;
      stack = refl;
      low = m;
      high = omega arith;
      old = λ i h. get_or-append t.nodes (n ∷ []) (kidless NoneL) i (omega arith) ∙ o i h;
      kids = ks;
      here = get_or-append_seam t.nodes n [] (kidless NoneL);
      inside = writes_moved (λ j a. record { low = a.low; high = omega (arith, a.high); other = λ e. omega (arith, a.high) }) (λ j a. get_or-append t.nodes (n ∷ []) (kidless NoneL) j a.high) v;
    }

pub leaf_more : (s : State) (rest : List ℕ) (l : Label) → OneMore s rest l nil (state_with_node s rest (kidless l) s s.links s.marks)
leaf_more s rest l = node_more s s rest l nil s.links s.marks [] refl (omega arith) (λ i h. refl) none

-- ---- values added to the node on top

abbrev pub with_items : State → List ℕ → ℕ → Node → State → ℕ → List ℕ → State
with_items s i id n t k m = record { input = i; nodes = set t.nodes id n; stack = s.stack ++ (id ∷ []); marks = m; memo = t.memo; links = k }

module _ {s t u : State} {mid mid' : List ℕ} {l : Label} {c g : Forest} (rest : List ℕ) (x : OneMore s mid l c t) (marked : State)
    (same : marked.nodes ≡ t.nodes) (y : ManyMore marked mid' g u) (k : ℕ) (ms : List ℕ) (w : ms ≡ s.marks) where
  pub many-added : OneMore s rest l (c ⊕ g) (with_items s rest x.id (record { label = l; kids = x.kids ++ y.ids }) u k ms)
  many-added =
      let n : Node = record { label = l; kids = x.kids ++ y.ids } in
      let z : length (set u.nodes x.id n) ≡ length u.nodes = length-set u.nodes x.id n in
      let m : length t.nodes ≤ length u.nodes = rw same at y.more in
      let old : (i : ℕ) → i < length t.nodes → at u.nodes i ≡ at t.nodes i = λ i h. y.old i (rw same h) ∙ ap (λ (v : List Node). at v i) same in
      let other : (j : ℕ) → j ≢ x.id → at (set u.nodes x.id n) j ≡ at u.nodes j = λ j o. get_or-set_other u.nodes x.id j n (kidless NoneL) o in
      record {
        input = refl;
        marks = w;
        id = x.id;
        stack = refl;
        low = x.low;
        high = omega (arith, x.high);
        old = λ i h. other i (λ e. omega (arith, x.low)) ∙ old i (omega (arith, x.low, x.high)) ∙ x.old i h;
        kids = x.kids ++ y.ids;
        here = get_or-set_same u.nodes x.id n (kidless NoneL) (omega (arith, x.high));
        inside =
            writes_append (writes_moved (λ j a. record { low = a.low; high = omega (arith, a.high); other = a.other }) (λ j a. other j a.other ∙ old j a.high) x.inside)
            (writes_moved (λ j a. let q : length t.nodes ≤ j = rw same at a.low in record { low = omega (arith, x.low, x.high); high = omega (arith, a.high); other = λ e. omega (arith, x.high) })
            (λ j a. let q : length t.nodes ≤ j = rw same at a.low in other j (λ e. omega (arith, x.high))) y.values);
      }
