-- Links to the items of a container, one after the other.
use Prim.Native.Nat.{ℕ, suc, zero, ◌+◌, ◌-◌, ◌*◌, ◌^◌, ◌/◌, ◌%◌, ◌<◌, ◌≤◌}
use Rattle.std.specs.Prelude.{Bool, true, false, cond, ◌≡◌, ◌≢◌, take, set, eqb}
use mathlib.Core.List.{List, [], ◌∷◌, ◌++◌}
use Rattle.std.proofs.Math.Path.{refl, sym}
use Rattle.std.proofs.Common.{◌∙◌, length-set, length-take, drop_of_length-le, take-suc, get_or-set_other}
use Rattle.std.proofs.Math.ListN.{length, get_or}
use Rattle.std.proofs.lemmas.List.{drop-append-le, places}
use Rattle.std.proofs.Math.Seq.{length-take-le, get_or-set_same, set-set, set-get_or}
use Rattle.std.proofs.Math.Numerals.{add-one}
use native.Mathlib.Omega.{arith}
use native.Mathlib.Decide.{dec_lt}
use borrow.Author.Rules.{rules}
use borrow.Rule.Slice.PartMut.{put_mid}
use Rattle.std.proofs.lemmas.Grind.{same_number_lists}
use Rattle.value.specs.Shape.{kind_in}
use Rattle.store.specs.declared.Counts.{Counts}
use Rattle.steps.specs.State.{links_limit, with_links, extend}
use Rattle.store.specs.Rooms.{Rooms, linked_items, state_of, words_in, log_in, links_to, Counted}
use Rattle.steps.specs.NodeWords.{first, second, HoldsLinks}
use Rattle.store.specs.RoomReads.{nodes-length}
use Rattle.store.specs.RoomKeeps.{kept_link, suc_low, suc_high}
use Rattle.store.specs.RoomLinks.{extend-none, link_next, link-counted}
use Rattle.store.specs.Effects.{Firm, above}
use Rattle.machine.specs.Done.{behind-set}

-- ---- one link after the other

-- the rooms with these words and this log
abbrev pub linked_in : Rooms → List ℕ → List ℕ → List ℕ → Rooms
linked_in r ns ws cs = words_in (log_in r ws cs) ns

-- xs are linked to o, and there are n links
pub record LinkedTo (r : Rooms) (c : Counts) (o : ℕ) (xs : List ℕ) (n : ℕ) (ns ws cs : List ℕ) : Type 0 where
  pub state : state_of (linked_in r ns ws cs) (links_to c n) ≡ extend o xs (with_links (state_of r c) n)
  pub firm : Firm (linked_in r ns ws cs) (links_to c n)
  pub holds : HoldsLinks (first ns o)
  pub end : kind_in (first ns o) ≡ 7 → second ns o / 2 ^ 32 + second ns o % 2 ^ 32 ≡ n

-- rooms in which o is a container, to which the values from `from` to `to` can be linked
pub record Linkable (nodes owners children stack : List ℕ) (from to links o : ℕ) : Type 0 where
  pub rooms : Rooms
  pub counts : Counts
  pub nodes_are : rooms.nodes ≡ nodes
  pub owners_are : rooms.owners ≡ owners
  pub children_are : rooms.children ≡ children
  pub stack_is : counts.stack ≡ from
  pub links_are : counts.links ≡ links
  pub firm : Firm rooms counts
  pub inside : o < counts.nodes
  pub holds : HoldsLinks (first nodes o)
  pub end : kind_in (first nodes o) ≡ 7 → second nodes o / 2 ^ 32 + second nodes o % 2 ^ 32 ≡ links
  pub low : from ≤ to
  pub high : to ≤ length stack
  pub room : links + (to - from) ≤ links_limit

-- what the loop keeps, and at its end promises: the values up to i are linked
unfoldable pub LinkAll : List ℕ → List ℕ → List ℕ → List ℕ → ℕ → ℕ → ℕ → ℕ → List ℕ → List ℕ → List ℕ → ℕ → Type 0
LinkAll nodes owners children stack from links o i ns ws cs n =
    (r : Rooms) (c : Counts) → r.nodes ≡ nodes → r.owners ≡ owners → r.children ≡ children → c.stack ≡ from → c.links ≡ links → Firm r c → o < c.nodes → HoldsLinks (first nodes o) → (kind_in (first nodes o) ≡ 7 → second nodes o / 2 ^ 32 + second nodes o % 2 ^ 32 ≡ links)
    → LinkedTo r c o (above from i stack) n ns ws cs

-- no more items than links
items_few : (ws cs : List ℕ) (o : ℕ) → length (linked_items ws cs o) ≤ length ws
unfolding linked_items
items_few [] cs o = omega arith
items_few (w ∷ ws) [] o = omega arith
items_few (w ∷ ws) (c ∷ cs) o = go (eqb w o) (items_few ws cs o)
  where
    go : (b : Bool) → length (linked_items ws cs o) ≤ length ws → length (cond b (c ∷ linked_items ws cs o) (linked_items ws cs o)) ≤ suc (length ws)
    go true h = omega arith
    go false h = omega arith

above-none : (n : ℕ) (l : List ℕ) → above n n l ≡ []
unfolding above
above-none n l = drop_of_length-le (take n l) {i = n} (let e = length-take n l in omega arith)

above_more : (n i : ℕ) (l : List ℕ) → n ≤ i → i < length l → above n (i + 1) l ≡ above n i l ++ (get_or l i 0 ∷ [])
unfolding above
above_more n i l h k =
    let e : length (take i l) ≡ i = length-take-le i l (omega arith) in
    rw (add-one i, take-suc l i 0 k) (drop-append-le n (take i l) (get_or l i 0 ∷ []) (omega arith))

module _ (r : Rooms) (c : Counts) (o : ℕ) where
  linked-start : Firm r c → HoldsLinks (first r.nodes o) → (kind_in (first r.nodes o) ≡ 7 → second r.nodes o / 2 ^ 32 + second r.nodes o % 2 ^ 32 ≡ c.links) → LinkedTo r c o [] c.links r.nodes r.owners r.children
  unfolding state_of
  linked-start f h e = record { state = sym (extend-none o (state_of r c)); firm = f; holds = h; end = e }

  module _ (xs : List ℕ) (n : ℕ) (ns ws cs : List ℕ) (l : LinkedTo r c o xs n ns ws cs) where
    -- the number of an owner's items is small
    pub count_small : o < c.nodes → second ns o % 2 ^ 32 ≤ n
    unfolding Counted
    count_small h =
        let few = items_few (take n ws) (take n cs) o in
        let m : length (take n ws) ≡ n = length-take-le n ws (let x = l.firm.lengths.owners in let y = l.firm.links in omega arith) in
        let v = l.firm.kept.counted o h l.holds in
        omega arith

    module _ (h : o < c.nodes) (z : n < links_limit) (k : ℕ) where
      abbrev r₁ : Rooms
      r₁ = linked_in r ns ws cs

      abbrev c₁ : Counts
      c₁ = links_to c n

      abbrev ns' : List ℕ
      ns' = set ns (suc (2 * o)) (suc (second ns o))

      room : suc (2 * o) < length ns
      room = let x = l.firm.lengths.nodes in let y = l.firm.nodes in omega arith

      owner_room : n < length ws
      owner_room = let x = l.firm.lengths.owners in omega arith

      child_room : n < length cs
      child_room = let x = l.firm.lengths.children in omega arith

      small : suc (second ns o % 2 ^ 32) < 2 ^ 32
      small = let x = count_small h in omega arith

      next_state : state_of (linked_in r ns' (set ws n o) (set cs n k)) (links_to c (suc n)) ≡ extend o (xs ++ (k ∷ [])) (with_links (state_of r c) (suc n))
      next_state =
          link_next o k xs n (suc n) (state_of r c) (state_of r₁ c₁) (state_of (linked_in r ns' (set ws n o) (set cs n k)) (links_to c (suc n))) (rw (nodes-length r₁ c₁) h) l.state
          (link-counted r₁ c₁ o k (suc (second ns o)) h l.holds owner_room child_room room l.firm.kept.classed)

      next_firm : Firm (linked_in r ns' (set ws n o) (set cs n k)) (links_to c (suc n))
      next_firm = let f = l.firm in record {
        lengths = record { pickle = f.lengths.pickle; nodes = rw length-set f.lengths.nodes; owners = rw length-set f.lengths.owners; children = rw length-set f.lengths.children; stack = f.lengths.stack; marks = f.lengths.marks; keys = f.lengths.keys; held = f.lengths.held };
        at = f.at;
        nodes = f.nodes;
        links = omega arith;
        stack = f.stack;
        deepest = f.deepest;
        marks = f.marks;
        most = f.most;
        memo = f.memo;
        numbered = f.numbered;
        kept = kept_link ns ws cs n c.nodes f.kept o k room h l.holds owner_room child_room small l.end;
        clean = record { nodes = behind-set f.clean.nodes (omega arith) (suc (2 * o)) (suc (second ns o)) (omega arith); owners = behind-set f.clean.owners (omega arith) n o (omega arith); children = behind-set f.clean.children (omega arith) n k (omega arith); stack = f.clean.stack; marks = f.clean.marks; keys = f.clean.keys; held = f.clean.held };
      }

      next_holds : HoldsLinks (first ns' o)
      unfolding first
      next_holds = rw (get_or-set_other ns (suc (2 * o)) (2 * o) (suc (second ns o)) 0 (λ e. omega arith)) l.holds

      next_end : kind_in (first ns' o) ≡ 7 → second ns' o / 2 ^ 32 + second ns' o % 2 ^ 32 ≡ suc n
      unfolding first second
      next_end =
          rw (get_or-set_other ns (suc (2 * o)) (2 * o) (suc (second ns o)) 0 (λ e. omega arith), get_or-set_same ns (suc (2 * o)) (suc (second ns o)) 0 room, suc_low (second ns o) small, suc_high (second ns o) small)
          (λ t. let e = l.end t in omega arith)

      pub linked_more : LinkedTo r c o (xs ++ (k ∷ [])) (n + 1) (set ns (2 * o + 1) (get_or ns (2 * o + 1) 0 + 1)) (set ws n o) (set cs n k)
      unfolding second
      linked_more = rw (add-one n, add-one (2 * o), add-one (get_or ns (suc (2 * o)) 0)) (record { state = next_state; firm = next_firm; holds = next_holds; end = next_end })

-- ---- many links

-- l with f 0, f 1, .., f (n - 1) from `at` on
unfoldable pub filled_by : List ℕ → ℕ → (ℕ → ℕ) → ℕ → List ℕ
filled_by l at f zero = l
filled_by l at f (suc n) = set (filled_by l at f n) (at + n) (f n)

filled-length : (l : List ℕ) (at : ℕ) (f : ℕ → ℕ) (n : ℕ) → length (filled_by l at f n) ≡ length l
unfolding filled_by
filled-length l at f zero = refl
filled-length l at f (suc n) = length-set (filled_by l at f n) (at + n) (f n) ∙ filled-length l at f n

module _ (l : List ℕ) (at : ℕ) (f : ℕ → ℕ) where
  filled-inside : (n k : ℕ) → k < n → at + n ≤ length l → get_or (filled_by l at f n) (at + k) 0 ≡ f k
  unfolding filled_by
  filled-inside zero k h r = absurd (omega arith)
  filled-inside (suc n) k h r = go (dec_lt k n) (filled-inside n k)
    where
      room : at + n < length (filled_by l at f n)
      room = rw (filled-length l at f n) (omega arith)

      go : Dec (k < n) → (k < n → at + n ≤ length l → get_or (filled_by l at f n) (at + k) 0 ≡ f k) → get_or (set (filled_by l at f n) (at + n) (f n)) (at + k) 0 ≡ f k
      go (yes m) i = rw (get_or-set_other (filled_by l at f n) (at + n) (at + k) (f n) 0 (λ e. omega arith)) (i m (omega arith))
      go (no m) i = let e : k ≡ n = omega arith in rw e (get_or-set_same (filled_by l at f n) (at + n) (f n) 0 room)

  filled-outside : (n j : ℕ) → ((k : ℕ) → k < n → j ≢ at + k) → get_or (filled_by l at f n) j 0 ≡ get_or l j 0
  unfolding filled_by
  filled-outside zero j d = refl
  filled-outside (suc n) j d = rw (get_or-set_other (filled_by l at f n) (at + n) j (f n) 0 (d n (omega arith))) (filled-outside n j (λ k h. d k (omega arith)))

  -- a part written at once
  pub filled_part : (n : ℕ) (part : List ℕ) → at + n ≤ length l → length part ≡ n → ((k : ℕ) → k < n → get_or part k 0 ≡ f k) → put_mid at n l part ≡ filled_by l at f n
  filled_part n part h e each = same_number_lists _ _ size same
    where
      size : length (put_mid at n l part) ≡ length (filled_by l at f n)
      size = rw (filled-length l at f n) (search (rules, places))

      same : (j : ℕ) → j < length (put_mid at n l part) → get_or (put_mid at n l part) j 0 ≡ get_or (filled_by l at f n) j 0
      same j m = go (dec_lt j at) (dec_lt j (at + n))
        where
          go : Dec (j < at) → Dec (j < at + n) → get_or (put_mid at n l part) j 0 ≡ get_or (filled_by l at f n) j 0
          go (yes x) y = rw (filled-outside n j (λ k z. λ q. omega arith)) (search (rules, places))
          go (no x) (yes y) =
              let z : at + (j - at) ≡ j = omega arith in
              let v : get_or part (j - at) 0 ≡ get_or (filled_by l at f n) j 0 = each (j - at) (omega arith) ∙ sym (rw z at (filled-inside n (j - at) (omega arith) h)) in
              rw (← v) (search (rules, places))
          go (no x) (no y) = rw (filled-outside n j (λ k z. λ q. omega arith)) (search (rules, places))

module _ (nodes owners children stack : List ℕ) (from links o : ℕ) where
  link-none : LinkAll nodes owners children stack from links o from nodes owners children links
  unfolding LinkAll
  link-none r c p q s t u f h k e = rw (above-none from stack, ← p, ← q, ← s, ← u) (linked-start r c o f (rw p k) (rw (p, u) e))

  link_one : (i : ℕ) (ns ws cs : List ℕ) (n : ℕ) → LinkAll nodes owners children stack from links o i ns ws cs n → from ≤ i → i < length stack → n < links_limit
      → LinkAll nodes owners children stack from links o (i + 1) (set ns (2 * o + 1) (get_or ns (2 * o + 1) 0 + 1)) (set ws n o) (set cs n (get_or stack i 0)) (n + 1)
  unfolding LinkAll
  link_one i ns ws cs n l a b z r c p q s t u f h k e = rw (above_more from i stack a b) (linked_more r c o (above from i stack) n ns ws cs (l r c p q s t u f h k e) h z (get_or stack i 0))

  -- the owner at the new places, the values beside it, and their number added to the owner's count
  abbrev owning : ℕ → List ℕ
  owning n = filled_by owners links (λ k. o) n

  abbrev holding : ℕ → List ℕ
  holding n = filled_by children links (λ k. get_or stack (from + k) 0) n

  abbrev counting : ℕ → List ℕ
  counting n = set nodes (2 * o + 1) (get_or nodes (2 * o + 1) 0 + n)

  pub link-many : (n : ℕ) → from + n ≤ length stack → links + n ≤ links_limit → 2 * o + 1 < length nodes → LinkAll nodes owners children stack from links o (from + n) (counting n) (owning n) (holding n) (links + n)
  unfolding filled_by
  link-many zero a b h =
      let x : from + 0 ≡ from = omega arith in
      let y : links + 0 ≡ links = omega arith in
      let z : get_or nodes (2 * o + 1) 0 + 0 ≡ get_or nodes (2 * o + 1) 0 = omega arith in
      rw (x, y, z, set-get_or nodes (2 * o + 1) 0) link-none
  link-many (suc n) a b h =
      let m = link-many n (omega arith) (omega arith) h in
      let x : from + n + 1 ≡ from + suc n = omega arith in
      let y : links + n + 1 ≡ links + suc n = omega arith in
      let z : get_or nodes (2 * o + 1) 0 + n + 1 ≡ get_or nodes (2 * o + 1) 0 + suc n = omega arith in
      rw (get_or-set_same nodes (2 * o + 1) (get_or nodes (2 * o + 1) 0 + n) 0 h, set-set nodes (2 * o + 1) (get_or nodes (2 * o + 1) 0 + n) (get_or nodes (2 * o + 1) 0 + n + 1), x, y, z) at
      (link_one (from + n) (counting n) (owning n) (holding n) (links + n) m (omega arith) (omega arith) (omega arith))

  module _ (to : ℕ) (a : Linkable nodes owners children stack from to links o) where
    -- what linking needs of its rooms
    pub link-rooms : (8192 ≤ length nodes) × (8192 ≤ length owners) × (8192 ≤ length children) × (get_or nodes (2 * o + 1) 0 % 2 ^ 32 ≤ links) × (o < 4096)
    unfolding second
    link-rooms =
        let f = a.firm in
        let x = a.inside in
        let y = f.nodes in
        let v = count_small a.rooms a.counts o [] a.counts.links a.rooms.nodes a.rooms.owners a.rooms.children (linked-start a.rooms a.counts o f (rw a.nodes_are a.holds) (rw (a.nodes_are, a.links_are) a.end)) x in
        (rw a.nodes_are at f.lengths.nodes, rw a.owners_are at f.lengths.owners, rw a.children_are at f.lengths.children, rw (a.nodes_are, a.links_are, ← add-one (2 * o)) at v, omega arith)

    pub link_end : LinkAll nodes owners children stack from links o to (counting (to - from)) (owning (to - from)) (holding (to - from)) (links + (to - from))
    link_end =
        let v = link-rooms in
        let l = a.low in
        let h = a.high in
        let r = a.room in
        let x : from + (to - from) ≡ to = omega arith in
        let y : 2 * o + 1 < length nodes = omega (arith, v.0, v.4) in
        rw x at (link-many (to - from) (omega arith) (omega arith) y)
