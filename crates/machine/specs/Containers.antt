-- A container made of its items, and one that grows.
use Rattle.std.specs.Prelude.{Result, Ok, Err, ℕ, ◌+◌, ◌-◌, ◌*◌, ◌^◌, ◌/◌, ◌%◌, ◌<◌, ◌≤◌, ◌≡◌, set}
use mathlib.Core.List.{List, [], ◌∷◌, ◌++◌}
use Rattle.std.proofs.Math.Path.{refl, sym}
use Rattle.std.proofs.Common.{◌∙◌, ap, length-drop}
use Rattle.std.proofs.Math.ListN.{length}
use Rattle.std.proofs.Math.Seq.{length-take-le}
use borrow.Author.Tests.{le-leb, lt-leb, lt-ltb, le-ltb}
use native.Mathlib.Omega.{arith}
use Rattle.refusal.specs.declared.Refusal.TheVariants.{LinksFull, NodesFull, StackFull}
use Rattle.value.specs.Value.{Label}
use Rattle.store.specs.declared.Counts.{Counts}
use Rattle.store.specs.declared.Effect.TheVariants.{Make, Extend}
use Rattle.steps.specs.State.{State, Node, kidless, ok, no, ◌>>=◌, need, nodes_limit, stack_limit, links_limit, with_nodes, with_links, push_id, push_node, link, extend}
use Rattle.steps.specs.Opcodes.{made}
use Rattle.steps.specs.Run.{going}
use Rattle.store.specs.Rooms.{Rooms, state_of, stack_in, links_to, Class}
use Rattle.steps.specs.NodeWords.{node_is, words_set, HoldsLinks, a_list, a_tuple, a_dict, first-set, second-set, holds_below, node_count}
use Rattle.store.specs.RoomReads.{nodes-length, stack_length, links_of_lem}
use Rattle.store.specs.RoomKeeps.{Empty, class_none}
use Rattle.store.specs.RoomLinks.{extend_new}
use Rattle.store.specs.Effects.{Firm, Fits, enacted, container, grow, above}
use Rattle.refusal.specs.declared.Refusal.{Refusal}
use Rattle.machine.specs.declared.Step.TheVariants as step
use Rattle.machine.specs.Done.{meant, Stays, Done, gone_on, done_refused, pushed_to, words-plus}
use Rattle.machine.specs.Push.{with_node, one_node, node_pushed, node_firm, id_pushed, id_firm}
use Rattle.machine.specs.Links.{linked_in, LinkedTo, Linkable, LinkAll}

-- ---- the functions' promises

pub record Makeable (nodes owners children stack : List ℕ) (c : Counts) (k had : ℕ) : Type 0 where
  pub rooms : Rooms
  pub nodes_are : rooms.nodes ≡ nodes
  pub owners_are : rooms.owners ≡ owners
  pub children_are : rooms.children ≡ children
  pub stack_is : rooms.stack ≡ stack
  pub fits : Fits (Make c k) rooms had

unfoldable pub MakesNode : List ℕ → List ℕ → List ℕ → List ℕ → Counts → ℕ → ℕ → List ℕ → List ℕ → List ℕ → List ℕ → Result Counts Refusal → Type 0
MakesNode nodes owners children stack c k had ns ws cs st t =
    (r : Rooms) → r.nodes ≡ nodes → r.owners ≡ owners → r.children ≡ children → r.stack ≡ stack → Fits (Make c k) r had → Done (gone_on t) r (stack_in (linked_in r ns ws cs) st) (enacted (Make c k) r had)

pub record Extendable (nodes owners children stack : List ℕ) (c : Counts) (o had : ℕ) : Type 0 where
  pub rooms : Rooms
  pub nodes_are : rooms.nodes ≡ nodes
  pub owners_are : rooms.owners ≡ owners
  pub children_are : rooms.children ≡ children
  pub stack_is : rooms.stack ≡ stack
  pub fits : Fits (Extend c (record { 0 = o })) rooms had

unfoldable pub Extends : List ℕ → List ℕ → List ℕ → List ℕ → Counts → ℕ → ℕ → List ℕ → List ℕ → List ℕ → Result Counts Refusal → Type 0
Extends nodes owners children stack c o had ns ws cs t =
    (r : Rooms) → r.nodes ≡ nodes → r.owners ≡ owners → r.children ≡ children → r.stack ≡ stack → Fits (Extend c (record { 0 = o })) r had
    → Done (gone_on t) r (linked_in r ns ws cs) (enacted (Extend c (record { 0 = o })) r had)

-- ---- links that are wanted

module _ (r : Rooms) (c : Counts) (had : ℕ) (f : Firm r c) (low : c.stack ≤ had) (high : had ≤ c.deepest) where
  abbrev xs : List ℕ
  xs = above c.stack had r.stack

  many : length xs ≡ had - c.stack
  unfolding above
  many = rw (length-drop, length-take-le had r.stack (let x = f.lengths.stack in let y = f.deepest in omega arith))

  pub links_short : links_limit - c.links < had - c.stack → link (length xs) (state_of r c) ≡ no LinksFull
  unfolding link ◌>>=◌ need
  links_short h = rw (many, links_of_lem r c, lt-leb (c.links + (had - c.stack)) links_limit (let x = f.links in omega arith))

  pub links_enough : had - c.stack ≤ links_limit - c.links → link (length xs) (state_of r c) ≡ ok (with_links (state_of r c) (c.links + (had - c.stack)))
  unfolding link ◌>>=◌ need
  links_enough h = rw (many, links_of_lem r c, le-leb (c.links + (had - c.stack)) links_limit (let x = f.links in omega arith))

-- ---- a container that grows

module _ (r : Rooms) (c : Counts) (o had : ℕ) (f : Fits (Extend c (record { 0 = o })) r had) where
  pub extend_full : links_limit - c.links < had - c.stack → Done (Err LinksFull) r r (enacted (Extend c (record { 0 = o })) r had)
  unfolding enacted Fits going grow ◌>>=◌
  extend_full h = done_refused LinksFull r (going (grow o (above c.stack had r.stack) (state_of r c))) (rw (links_short r c had f.0 f.1 f.2 h))

  pub extend-done : (ns ws cs : List ℕ) → had - c.stack ≤ links_limit - c.links → LinkedTo r c o (above c.stack had r.stack) (c.links + (had - c.stack)) ns ws cs
      → Done (Ok (step.Next (links_to c (c.links + (had - c.stack))))) r (linked_in r ns ws cs) (enacted (Extend c (record { 0 = o })) r had)
  unfolding enacted Fits going grow ◌>>=◌ meant Stays
  extend-done ns ws cs h l = record { means = rw (links_enough r c had f.0 f.1 f.2 h, l.state); stays = l.firm }

-- ---- pushes of any node

module _ (r : Rooms) (c : Counts) where
  crowded : (n : ℕ) (x : Node) → nodes_limit ≤ c.nodes → push_node x (with_links (state_of r c) n) ≡ no NodesFull
  unfolding push_node ◌>>=◌ need
  crowded n x l = rw (nodes-length r c, le-ltb c.nodes nodes_limit l)

  roomy : (n : ℕ) (x : Node) → c.nodes < nodes_limit → push_node x (with_links (state_of r c) n) ≡ push_id c.nodes (with_nodes (with_links (state_of r c) n) ((state_of r c).nodes ++ (x ∷ [])))
  unfolding push_node ◌>>=◌ need
  roomy n x l = rw (nodes-length r c, lt-ltb c.nodes nodes_limit l)

  pub piled : (i : ℕ) (s : State) → Firm r c → s.stack ≡ (state_of r c).stack → stack_limit ≤ c.stack → push_id i s ≡ no StackFull
  unfolding push_id ◌>>=◌ need
  piled i s f e m = rw (e, stack_length r c (let x = f.lengths.stack in let y = f.stack in let z = f.deepest in omega arith), le-ltb c.stack stack_limit m)

-- ---- a container made

-- without links it is its label alone
kidless-made : (p ws : List ℕ) (k b : ℕ) → HoldsLinks k → node_is p ws [] k b ≡ kidless (node_is p ws [] k b).label
unfolding node_is
kidless-made p ws k b (a_list e) = rw e
kidless-made p ws k b (a_tuple e) = rw e
kidless-made p ws k b (a_dict e) = rw e

module _ (r : Rooms) (c : Counts) (k had : ℕ) (f : Fits (Make c k) r had) where
  pub firm : Firm r c
  unfolding Fits
  firm = f.0

  low : c.stack ≤ had
  unfolding Fits
  low = f.1

  high : had ≤ c.deepest
  unfolding Fits
  high = f.2

  kin : HoldsLinks k
  unfolding Fits
  kin = f.3

  abbrev label : Label
  label = (node_is r.pickle r.nodes [] k 0).label

  abbrev is : List ℕ
  is = above c.stack had r.stack

  abbrev n : ℕ
  n = c.links + (had - c.stack)

  pub make_full : links_limit - c.links < had - c.stack → Done (Err LinksFull) r r (enacted (Make c k) r had)
  unfolding enacted going container made ◌>>=◌
  make_full h = done_refused LinksFull r (going (container k r is (state_of r c))) (rw (links_short r c had firm low high h))

  module _ (h : had - c.stack ≤ links_limit - c.links) where
    -- what is left behind the links
    rest : container k r is (state_of r c) ≡ push_node (record { label = label; kids = is }) (with_links (state_of r c) n)
    unfolding container made ◌>>=◌
    rest = rw (links_enough r c had firm low high h)

    pub make_crowded : nodes_limit ≤ c.nodes → Done (Err NodesFull) r r (enacted (Make c k) r had)
    unfolding enacted going
    make_crowded l = done_refused NodesFull r (going (container k r is (state_of r c))) (rw (rest, crowded r c n (record { label = label; kids = is }) l))

    module _ (l : c.nodes < nodes_limit) where
      -- the rest is a push of the node's number
      pushing : container k r is (state_of r c) ≡ push_id c.nodes (with_nodes (with_links (state_of r c) n) ((state_of r c).nodes ++ (record { label = label; kids = is } ∷ [])))
      pushing = rest ∙ roomy r c n (record { label = label; kids = is }) l

      pub make_high : stack_limit ≤ c.stack → Done (Err StackFull) r r (enacted (Make c k) r had)
      unfolding enacted going
      make_high m = done_refused StackFull r (going (container k r is (state_of r c))) (rw (pushing, piled r c c.nodes (with_nodes (with_links (state_of r c) n) ((state_of r c).nodes ++ (record { label = label; kids = is } ∷ []))) firm refl m))

      -- its second word, before it has links
      abbrev pub word : ℕ
      word = c.links * 2 ^ 32

      word_parts : (word % 2 ^ 32 ≡ 0) × (word / 2 ^ 32 ≡ c.links)
      word_parts = (omega arith, omega arith)

      -- the node without links
      abbrev pub r₁ : Rooms
      r₁ = with_node r c firm k word

      abbrev pub c₁ : Counts
      c₁ = one_node r c firm

      none : Class r.nodes c.nodes k
      none = class_none r.nodes c.nodes k (λ e. let v = holds_below k kin in omega arith)

      pub made_firm : Firm r₁ c₁
      unfolding Empty
      made_firm = node_firm r c firm l k word none (λ t. let x = word_parts.1 in (word_parts.0, omega arith))

      made_node : state_of r₁ c₁ ≡ with_nodes (state_of r c) ((state_of r c).nodes ++ (kidless label ∷ []))
      made_node = node_pushed r c firm l k word none ∙ ap (λ (x : Node). with_nodes (state_of r c) ((state_of r c).nodes ++ (x ∷ []))) (node_count r.pickle k 0 [] r.nodes word kin ∙ kidless-made r.pickle r.nodes k 0 kin)

      module _ (ns ws cs : List ℕ) (d : LinkedTo r₁ c₁ c.nodes is n ns ws cs) where
        filled : state_of (linked_in r₁ ns ws cs) (links_to c₁ n) ≡ with_nodes (with_links (state_of r c) n) ((state_of r c).nodes ++ (record { label = label; kids = is } ∷ []))
        filled =
            d.state ∙ ap (λ (x : State). extend c.nodes is (with_links x n)) made_node
            ∙ ap (λ (i : ℕ). extend i is (with_nodes (with_links (state_of r c) n) ((state_of r c).nodes ++ (kidless label ∷ [])))) (sym (nodes-length r c))
            ∙ extend_new is label (with_links (state_of r c) n)

        pub make_done : c.stack < stack_limit → Done (Ok (step.Next (pushed_to c (c.nodes + 1) n))) r (stack_in (linked_in r ns ws cs) (set r.stack c.stack c.nodes)) (enacted (Make c k) r had)
        unfolding enacted going meant Stays
        make_done m = record {
          means = rw (pushing, ← filled, id_pushed (linked_in r₁ ns ws cs) (links_to c₁ n) d.firm m c.nodes);
          stays = id_firm (linked_in r₁ ns ws cs) (links_to c₁ n) d.firm m c.nodes;
        }

-- ---- of the lists that were lent

module _ {nodes owners children stack : List ℕ} {c : Counts} {k had : ℕ} (a : Makeable nodes owners children stack c k had) where
  pub make_rooms : (8192 ≤ length nodes) × (2048 ≤ length stack) × (c.links ≤ 8192) × (c.stack ≤ had) × (had ≤ 2048)
  unfolding Fits
  make_rooms =
      let f = a.fits.0 in
      let x = a.fits.2 in
      let y = f.deepest in
      (rw a.nodes_are at f.lengths.nodes, rw a.stack_is at f.lengths.stack, f.links, a.fits.1, omega arith)

  pub make_linkable : had - c.stack ≤ links_limit - c.links → c.nodes < nodes_limit → Linkable (set (set nodes (2 * c.nodes) k) (2 * c.nodes + 1) (c.links * 2 ^ 32)) owners children stack c.stack had c.links c.nodes
  make_linkable h l =
      let v = make_rooms in
      let x = v.0 in
      let y = v.1 in
      let z = v.2 in
      let w = v.4 in
      let q = v.3 in
      rw (words-plus nodes c.nodes k (c.links * 2 ^ 32)) (record {
        rooms = r₁ a.rooms c k had a.fits h l;
        counts = c₁ a.rooms c k had a.fits h l;
        nodes_are = ap (λ (t : List ℕ). words_set t c.nodes k (c.links * 2 ^ 32)) a.nodes_are;
        owners_are = a.owners_are;
        children_are = a.children_are;
        stack_is = refl;
        links_are = refl;
        firm = made_firm a.rooms c k had a.fits h l;
        inside = omega arith;
        holds = rw (first-set nodes c.nodes k (c.links * 2 ^ 32) (omega arith)) (kin a.rooms c k had a.fits);
        end = rw (second-set nodes c.nodes k (c.links * 2 ^ 32) (omega arith)) (λ t. omega arith);
        low = q;
        high = omega arith;
        room = omega arith;
      })

  pub made_lent : (ns ws cs : List ℕ) (n : ℕ) → had - c.stack ≤ links_limit - c.links → c.nodes < nodes_limit → c.stack < stack_limit → n ≡ c.links + (had - c.stack)
      → LinkAll (set (set nodes (2 * c.nodes) k) (2 * c.nodes + 1) (c.links * 2 ^ 32)) owners children stack c.stack c.links c.nodes had ns ws cs n
      → MakesNode nodes owners children stack c k had ns ws cs (set stack c.stack c.nodes) (Ok (pushed_to c (c.nodes + 1) n))
  unfolding MakesNode LinkAll
  made_lent ns ws cs n h l m e d r p q s t f =
      let v = make_rooms in
      let x = v.0 in
      rw (e, ← t) (make_done r c k had f h l ns ws cs
      (rw (e, ← t) at (d (r₁ r c k had f h l) (c₁ r c k had f h l) (ap (λ (y : List ℕ). words_set y c.nodes k (c.links * 2 ^ 32)) p ∙ sym (words-plus nodes c.nodes k (c.links * 2 ^ 32))) q s refl refl (made_firm r c k had f h l) (omega arith)
      (rw (words-plus nodes c.nodes k (c.links * 2 ^ 32), first-set nodes c.nodes k (c.links * 2 ^ 32) (omega arith)) (kin r c k had f))
      (rw (words-plus nodes c.nodes k (c.links * 2 ^ 32), second-set nodes c.nodes k (c.links * 2 ^ 32) (omega arith)) (λ z. omega arith)))) m)

  pub make_full_lent : links_limit - c.links < had - c.stack → MakesNode nodes owners children stack c k had nodes owners children stack (Err LinksFull)
  unfolding MakesNode
  make_full_lent h r p q s t f = rw (← p, ← q, ← s, ← t) (make_full r c k had f h)

  pub make_crowded_lent : had - c.stack ≤ links_limit - c.links → nodes_limit ≤ c.nodes → MakesNode nodes owners children stack c k had nodes owners children stack (Err NodesFull)
  unfolding MakesNode
  make_crowded_lent h l r p q s t f = rw (← p, ← q, ← s, ← t) (make_crowded r c k had f h l)

  pub make_high_lent : had - c.stack ≤ links_limit - c.links → c.nodes < nodes_limit → stack_limit ≤ c.stack → MakesNode nodes owners children stack c k had nodes owners children stack (Err StackFull)
  unfolding MakesNode
  make_high_lent h l m r p q s t f = rw (← p, ← q, ← s, ← t) (make_high r c k had f h l m)

module _ {nodes owners children stack : List ℕ} {c : Counts} {o had : ℕ} (a : Extendable nodes owners children stack c o had) where
  pub extend-rooms : (c.links ≤ 8192) × (c.stack ≤ had)
  unfolding Fits
  extend-rooms = (a.fits.0.links, a.fits.1)

  pub extend_linkable : had - c.stack ≤ links_limit - c.links → Linkable nodes owners children stack c.stack had c.links o
  unfolding Fits
  extend_linkable h =
      let f = a.fits.0 in
      let z = f.links in
      let y = f.deepest in
      let x = a.fits.2 in
      let w : 2048 ≤ length stack = rw a.stack_is at f.lengths.stack in
      record { rooms = a.rooms; counts = c; nodes_are = a.nodes_are; owners_are = a.owners_are; children_are = a.children_are; stack_is = refl; links_are = refl; firm = f; inside = a.fits.3; holds = rw a.nodes_are at a.fits.4; end = λ z. absurd (a.fits.5 (rw a.nodes_are z)); low = a.fits.1; high = omega arith; room = omega arith }

  pub extended_lent : (ns ws cs : List ℕ) (n : ℕ) → had - c.stack ≤ links_limit - c.links → n ≡ c.links + (had - c.stack) → LinkAll nodes owners children stack c.stack c.links o had ns ws cs n
      → Extends nodes owners children stack c o had ns ws cs (Ok (links_to c n))
  unfolding Extends LinkAll Fits
  extended_lent ns ws cs n h e d r p q s t f = rw e (extend-done r c o had f ns ws cs h (rw (e, ← t) at (d r c p q s refl refl f.0 f.3 (rw p at f.4) (λ z. absurd (f.5 (rw p z))))))

  pub extend_full_lent : links_limit - c.links < had - c.stack → Extends nodes owners children stack c o had nodes owners children (Err LinksFull)
  unfolding Extends
  extend_full_lent h r p q s t f = rw (← p, ← q, ← s) (extend_full r c o had f h)
