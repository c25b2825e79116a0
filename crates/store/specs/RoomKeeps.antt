-- What the code keeps of its rooms is kept by each change of them.
use Prim.Native.Nat.{ℕ, suc, ◌+◌, ◌*◌, ◌^◌, ◌/◌, ◌%◌, ◌<◌, ◌≤◌}
use Rattle.std.specs.Prelude.{Bool, ◌≡◌, refl, ◌≢◌, get_or, take, set}
use mathlib.Core.List.{List, [], ◌∷◌, ◌++◌}
use Rattle.std.proofs.Math.Path.{sym}
use Rattle.std.proofs.Common.{◌∙◌, ap, length-append, get_or-set_same, get_or-set_other, arith}
use Rattle.std.proofs.Math.ListN.{length, get_or-append}
use Rattle.std.proofs.lemmas.List.{get_or_at}
use Rattle.std.proofs.Math.Decide.{ℕ_discrete}
use Rattle.value.specs.Shape.{kind_in}
use Rattle.store.specs.Rooms.{linked_items, Owned, Holding, Class, Classed, Counted, Together, Placed, Kept}
use Rattle.steps.specs.NodeWords.{first, second, words_set, class_in, HoldsLinks, a_list, a_tuple, a_dict, WithState, first_other, second_other, first-set, second-set, words-second, holds_below, object_word, object-made}
use Rattle.store.specs.RoomLists.{items_own, items_other, items_new}

-- ---- owners

pub owned_node : (owners : List ℕ) (links n : ℕ) → Owned owners links n → Owned owners links (suc n)
unfolding Owned
owned_node owners links n h k l = let v = h k l in omega arith

pub owned_link : (owners : List ℕ) (links n o : ℕ) → links < length owners → o < n → Owned owners links n → Owned (set owners links o) (suc links) n
unfolding Owned
owned_link owners links n o r l h k m = go (ℕ_discrete k links)
  where
    go : Dec (k ≡ links) → get_or (set owners links o) k 0 < n
    go (yes e) = rw (e, get_or-set_same owners links o 0 r) l
    go (no d) = rw (get_or-set_other owners links k o 0 d) (h k (omega arith))

-- ---- owners' kinds

same_holds : (a b : ℕ) → kind_in b ≡ kind_in a → HoldsLinks a → HoldsLinks b
same_holds a b e (a_list h) = a_list (e ∙ h)
same_holds a b e (a_tuple h) = a_tuple (e ∙ h)
same_holds a b e (a_dict h) = a_dict (e ∙ h)

module _ (ws owners : List ℕ) (links n : ℕ) (own : Owned owners links n) (h : Holding ws owners links) where
  -- a node more
  pub holding_node : (a b : ℕ) → Holding (words_set ws n a b) owners links
  unfolding Holding Owned
  holding_node a b k l = let v = own k l in rw (first_other ws n a b (get_or owners k 0) (λ e. omega arith)) (h k l)

-- words changed of a node that stays of its kind
pub holding-words : (ws owners : List ℕ) (links o a b : ℕ) → suc (2 * o) < length ws → kind_in a ≡ kind_in (first ws o) → Holding ws owners links → Holding (words_set ws o a b) owners links
unfolding Holding
holding-words ws owners links o a b room kind h k l = go (ℕ_discrete (get_or owners k 0) o)
  where
    go : Dec (get_or owners k 0 ≡ o) → HoldsLinks (first (words_set ws o a b) (get_or owners k 0))
    go (yes e) = rw (e, first-set ws o a b room) (same_holds (first ws o) a kind (rw e at (h k l)))
    go (no d) = rw (first_other ws o a b (get_or owners k 0) d) (h k l)

-- a link more
pub holding-link : (ws owners : List ℕ) (links o : ℕ) → links < length owners → HoldsLinks (first ws o) → Holding ws owners links → Holding ws (set owners links o) (suc links)
unfolding Holding
holding-link ws owners links o r t h k m = go (ℕ_discrete k links)
  where
    go : Dec (k ≡ links) → HoldsLinks (first ws (get_or (set owners links o) k 0))
    go (yes e) = rw (e, get_or-set_same owners links o 0 r) t
    go (no d) = rw (get_or-set_other owners links k o 0 d) (h k (omega arith))

-- ---- classes

-- no Object
pub class_none : (ws : List ℕ) (n a : ℕ) → kind_in a ≢ 12 → Class ws n a
unfolding Class
class_none ws n a h k = absurd (h k)

-- an Object of the class that stands at `class`
pub class_made : (ws : List ℕ) (n : ℕ) (new : Bool) (class : ℕ) → class < n → kind_in (first ws class) ≡ 11 → Class ws n (object_word new class)
unfolding Class
class_made ws n new class h k z = rw (object-made new class).3 (h, k)

module _ (ws : List ℕ) (n a b : ℕ) where
  -- a node more
  pub classed_node : suc (2 * n) < length ws → Classed ws n → Class ws n a → Classed (words_set ws n a b) (suc n)
  unfolding Classed Class
  classed_node room h new i l = go (ℕ_discrete i n)
    where
      ws₁ : List ℕ
      ws₁ = words_set ws n a b

      stays : (x : ℕ) → Class ws n x → Class ws₁ (suc n) x
      stays x f k = let v = (f k).0 in (omega arith, rw (first_other ws n a b (class_in x) (λ e. omega arith)) (f k).1)

      go : Dec (i ≡ n) → Class ws₁ (suc n) (first ws₁ i)
      go (yes e) = rw (e, first-set ws n a b room) (stays a new)
      go (no d) = rw (first_other ws n a b i d) (stays (first ws i) (h i (omega arith)))

module _ (ws : List ℕ) (n o a b : ℕ) (room : suc (2 * o) < length ws) (kind : kind_in a ≡ kind_in (first ws o)) (class : class_in a ≡ class_in (first ws o)) where
  same_kind : (i : ℕ) → kind_in (first (words_set ws o a b) i) ≡ kind_in (first ws i)
  same_kind i = go (ℕ_discrete i o)
    where
      go : Dec (i ≡ o) → kind_in (first (words_set ws o a b) i) ≡ kind_in (first ws i)
      go (yes e) = rw (e, first-set ws o a b room) kind
      go (no d) = rw (first_other ws o a b i d)

  same_class : (i : ℕ) → class_in (first (words_set ws o a b) i) ≡ class_in (first ws i)
  same_class i = go (ℕ_discrete i o)
    where
      go : Dec (i ≡ o) → class_in (first (words_set ws o a b) i) ≡ class_in (first ws i)
      go (yes e) = rw (e, first-set ws o a b room) class
      go (no d) = rw (first_other ws o a b i d)

  -- words changed of a node that stays of its kind and class
  pub classed_words : Classed ws n → Classed (words_set ws o a b) n
  unfolding Classed Class
  classed_words h i l k =
      let v = h i l (sym (same_kind i) ∙ k) in
      rw (same_class i) (v.0, same_kind (class_in (first ws i)) ∙ v.1)

-- ---- the words that count items

-- no items yet, and none of the links there are
unfoldable pub Empty : ℕ → ℕ → ℕ → Type 0
Empty links a b = HoldsLinks a → (b % 2 ^ 32 ≡ 0) × (b / 2 ^ 32 ≤ links)

pub empty_zero : (links a b : ℕ) → (HoldsLinks a → b ≡ 0) → Empty links a b
unfolding Empty
empty_zero links a b z t = let e = z t in (omega arith, omega arith)

-- a word that counts one item more
module _ (b : ℕ) (small : suc (b % 2 ^ 32) < 2 ^ 32) where
  pub suc_low : suc b % 2 ^ 32 ≡ suc (b % 2 ^ 32)
  suc_low = omega arith

  pub suc_high : suc b / 2 ^ 32 ≡ b / 2 ^ 32
  suc_high = omega arith

module _ (ws owners children : List ℕ) (links n : ℕ) (h : Counted ws owners children links n) where
  -- words set for a node that is no container with items
  set-counted : (o a b : ℕ) → suc (2 * o) < length ws → (HoldsLinks a → b % 2 ^ 32 ≡ length (linked_items (take links owners) (take links children) o)) → (i : ℕ) → (i ≢ o → i < n)
      → HoldsLinks (first (words_set ws o a b) i) → second (words_set ws o a b) i % 2 ^ 32 ≡ length (linked_items (take links owners) (take links children) i)
  unfolding Counted
  set-counted o a b room new i l = go (ℕ_discrete i o)
    where
      go : Dec (i ≡ o) → HoldsLinks (first (words_set ws o a b) i) → second (words_set ws o a b) i % 2 ^ 32 ≡ length (linked_items (take links owners) (take links children) i)
      go (yes e) = rw (e, first-set ws o a b room, second-set ws o a b room) new
      go (no d) = rw (first_other ws o a b i d, second_other ws o a b i d) (h i (l d))

  -- a node more, which owns nothing yet
  pub counted_node : (a b : ℕ) → suc (2 * n) < length ws → linked_items (take links owners) (take links children) n ≡ [] → Empty links a b → Counted (words_set ws n a b) owners children links (suc n)
  unfolding Counted Empty
  counted_node a b room none new i z = set-counted n a b room (λ t. (new t).0 ∙ sym (ap length none)) i (λ d. omega arith)

  -- words changed of a node that is no container
  pub counted_words : (o a b : ℕ) → suc (2 * o) < length ws → (HoldsLinks a → ⊥) → Counted (words_set ws o a b) owners children links n
  unfolding Counted
  counted_words o a b room none i z = set-counted o a b room (λ t. absurd (none t)) i (λ d. z)

  -- a link more, and the owner's count with it
  pub counted-link : (o k : ℕ) → suc (2 * o) < length ws → o < n → links < length owners → links < length children → suc (second ws o % 2 ^ 32) < 2 ^ 32
      → Counted (set ws (suc (2 * o)) (suc (second ws o))) (set owners links o) (set children links k) (suc links) n
  unfolding Counted
  counted-link o k room z l l' small i y = rw (← words-second ws o (suc (second ws o))) (go (ℕ_discrete i o))
    where
      a : ℕ
      a = first ws o

      b : ℕ
      b = suc (second ws o)

      go : Dec (i ≡ o) → HoldsLinks (first (words_set ws o a b) i) → second (words_set ws o a b) i % 2 ^ 32 ≡ length (linked_items (take (suc links) (set owners links o)) (take (suc links) (set children links k)) i)
      go (yes e) = rw (e, first-set ws o a b room, second-set ws o a b room, items_own owners children links o k l l', length-append, suc_low (second ws o) small) (λ t. let v = h o z t in omega arith)
      go (no d) = rw (first_other ws o a b i d, second_other ws o a b i d, items_other owners children links o k l l' i d) (h i y)

-- ---- the links of Tuples

-- a link more that is not among them
together_more : (b k links : ℕ) (is children : List ℕ) → Together b is children links → Together b is (set children links k) (suc links)
together_more b k links is children t =
    let e = t.ends in
    record { ends = omega arith; child = λ j h. t.child j h ∙ sym (get_or-set_other children links (b / 2 ^ 32 + j) k 0 (λ z. omega arith)) }

-- a link more behind them
module _ (b k links : ℕ) (is children : List ℕ) (t : Together b is children links) (many : b % 2 ^ 32 ≡ length is) (end : b / 2 ^ 32 + b % 2 ^ 32 ≡ links) (room : links < length children) (small : suc (b % 2 ^ 32) < 2 ^ 32) where
  together_own : Together (suc b) (is ++ (k ∷ [])) (set children links k) (suc links)
  together_own = record {
    ends = rw (suc_low b small, suc_high b small) (omega arith);
    child = λ j h. rw (suc_high b small) (at j (rw (suc_low b small) at h) (ℕ_discrete j (b % 2 ^ 32)));
  }
    where
      at : (j : ℕ) → j < suc (b % 2 ^ 32) → Dec (j ≡ b % 2 ^ 32) → get_or (is ++ (k ∷ [])) j 0 ≡ get_or (set children links k) (b / 2 ^ 32 + j) 0
      at j h (yes e) = rw (e, end, get_or-set_same children links k 0 room) (get_or_at is k [] 0 (b % 2 ^ 32) (sym many))
      at j h (no d) = get_or-append is (k ∷ []) 0 j (omega arith) ∙ (together_more b k links is children t).child j (omega arith)

module _ (ws owners children : List ℕ) (links n : ℕ) (h : Placed ws owners children links n) where
  -- words set for a node that is no Tuple with items
  set-placed : (o a b : ℕ) → suc (2 * o) < length ws → (kind_in a ≡ 7 → Together b (linked_items (take links owners) (take links children) o) children links) → (i : ℕ) → (i ≢ o → i < n)
      → kind_in (first (words_set ws o a b) i) ≡ 7 → Together (second (words_set ws o a b) i) (linked_items (take links owners) (take links children) i) children links
  unfolding Placed
  set-placed o a b room new i l = go (ℕ_discrete i o)
    where
      go : Dec (i ≡ o) → kind_in (first (words_set ws o a b) i) ≡ 7 → Together (second (words_set ws o a b) i) (linked_items (take links owners) (take links children) i) children links
      go (yes e) = rw (e, first-set ws o a b room, second-set ws o a b room) new
      go (no d) = rw (first_other ws o a b i d, second_other ws o a b i d) (h i (l d))

  -- a node more, which owns nothing yet
  pub placed_node : (a b : ℕ) → suc (2 * n) < length ws → Empty links a b → Placed (words_set ws n a b) owners children links (suc n)
  unfolding Placed Empty
  placed_node a b room new i z =
      set-placed n a b room (λ t. let e = new (a_tuple t) in let u = e.0 in let v = e.1 in record { ends = omega arith; child = λ j y. absurd (omega arith) }) i (λ d. omega arith)

  -- words changed of a node that is no Tuple
  pub placed-words : (o a b : ℕ) → suc (2 * o) < length ws → kind_in a ≢ 7 → Placed (words_set ws o a b) owners children links n
  unfolding Placed
  placed-words o a b room none i z = set-placed o a b room (λ t. absurd (none t)) i (λ d. z)

  -- a link more: of a Tuple only behind its last
  pub placed-link : (o k : ℕ) → suc (2 * o) < length ws → o < n → links < length owners → links < length children → suc (second ws o % 2 ^ 32) < 2 ^ 32 → Counted ws owners children links n
      → (kind_in (first ws o) ≡ 7 → second ws o / 2 ^ 32 + second ws o % 2 ^ 32 ≡ links)
      → Placed (set ws (suc (2 * o)) (suc (second ws o))) (set owners links o) (set children links k) (suc links) n
  unfolding Placed Counted
  placed-link o k room z l l' small counted end i y = rw (← words-second ws o (suc (second ws o))) (go (ℕ_discrete i o))
    where
      a : ℕ
      a = first ws o

      b : ℕ
      b = suc (second ws o)

      go : Dec (i ≡ o) → kind_in (first (words_set ws o a b) i) ≡ 7 → Together (second (words_set ws o a b) i) (linked_items (take (suc links) (set owners links o)) (take (suc links) (set children links k)) i) (set children links k) (suc links)
      go (yes e) =
          rw (e, first-set ws o a b room, second-set ws o a b room, items_own owners children links o k l l')
          (λ t. together_own (second ws o) k links (linked_items (take links owners) (take links children) o) children (h o z t) (counted o z (a_tuple t)) (end t) l' small)
      go (no d) =
          rw (first_other ws o a b i d, second_other ws o a b i d, items_other owners children links o k l l' i d)
          (λ t. together_more (second ws i) k links (linked_items (take links owners) (take links children) i) children (h i y t))

-- ---- all of it together

pub kept_start : (ws owners children : List ℕ) → Kept ws owners children 0 0
unfolding Owned Holding Classed Counted Placed
kept_start ws owners children = record { owned = λ k l. absurd (omega arith); holding = λ k l. absurd (omega arith); classed = λ i l. absurd (omega arith); counted = λ i l. absurd (omega arith); placed = λ i l. absurd (omega arith) }

module _ (ws owners children : List ℕ) (links n : ℕ) (h : Kept ws owners children links n) where
  -- a node more
  pub kept_node : (a b : ℕ) → suc (2 * n) < length ws → links ≤ length owners → Class ws n a → Empty links a b → Kept (words_set ws n a b) owners children links (suc n)
  unfolding Owned
  kept_node a b room l class new = record {
    owned = owned_node owners links n h.owned;
    holding = holding_node ws owners links n h.owned h.holding a b;
    classed = classed_node ws n a b room h.classed class;
    counted = counted_node ws owners children links n h.counted a b room (items_new owners children links n (λ k y e. let v = h.owned k y in omega arith) l) new;
    placed = placed_node ws owners children links n h.placed a b room new;
  }

  -- a link more, with its owner's count
  pub kept_link : (o k : ℕ) → suc (2 * o) < length ws → o < n → HoldsLinks (first ws o) → links < length owners → links < length children → suc (second ws o % 2 ^ 32) < 2 ^ 32 → (kind_in (first ws o) ≡ 7 → second ws o / 2 ^ 32 + second ws o % 2 ^ 32 ≡ links)
      → Kept (set ws (suc (2 * o)) (suc (second ws o))) (set owners links o) (set children links k) (suc links) n
  kept_link o k room z t l l' small end = record {
    owned = owned_link owners links n o l z h.owned;
    holding = rw (← words-second ws o (suc (second ws o))) (holding-words ws (set owners links o) (suc links) o (first ws o) (suc (second ws o)) room refl (holding-link ws owners links o l t h.holding));
    classed = rw (← words-second ws o (suc (second ws o))) (classed_words ws n o (first ws o) (suc (second ws o)) room refl refl h.classed);
    counted = counted-link ws owners children links n h.counted o k room z l l' small;
    placed = placed-link ws owners children links n h.placed o k room z l l' small h.counted end;
  }

  -- BUILD
  pub kept_build : (o a b i : ℕ) → suc (2 * o) < length ws → kind_in (first ws o) ≡ 12 → WithState (first ws o) (second ws o) a b i → Kept (words_set ws o a b) owners children links n
  kept_build o a b i room k new =
      let e = new.kind in
      record {
        owned = h.owned;
        holding = holding-words ws owners links o a b room (e ∙ sym k) h.holding;
        classed = classed_words ws n o a b room (e ∙ sym k) new.class h.classed;
        counted = counted_words ws owners children links n h.counted o a b room (λ t. let v = holds_below a t in omega arith);
        placed = placed-words ws owners children links n h.placed o a b room (λ q. omega arith);
      }
