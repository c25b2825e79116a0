-- A node's two words, made and read: the one place that knows how kind, class, text places, counts and parts lie in them.
-- The first word's low four bits are the kind. A Global's holds above them the place (24 bits) and the length of its module; an Object's
-- whether NEWOBJ made it, whether it has a state, and above the sixth bit the node of its class. The second word is a value's own bits,
-- a text's place below its length (32 bits each), the argument of a set, an Object's arguments below its state, and the number of a
-- container's items below the place of its first link.
use Rattle.std.specs.Prelude.{ℕ, suc, ◌+◌, ◌*◌, ◌^◌, ◌/◌, ◌%◌, ◌<◌, ◌≤◌, Bool, true, false, List, [], ◌∷◌, ◌++◌, map, ◌≡◌, refl, ◌≢◌, length, take, drop, set, replicate, eqb}
use Rattle.std.proofs.Math.Bool.{cond}
use Rattle.std.proofs.Math.Path.{sym}
use Rattle.std.proofs.Common.{◌∙◌, ap, arith}
use Rattle.std.proofs.Math.ListN.{length-replicate, length-set, get_or, get_or-map, get_or-eq_default, get_or-replicate}
use Rattle.std.proofs.Math.Seq.{get_or-set_same, get_or-set_other}
use Rattle.std.proofs.lemmas.List.{set-get_or}
use Rattle.std.proofs.Math.Pow.{high, low}
use borrow.Author.Tests.{eq-eqb, ne_eqb, eqb-false}
use Rattle.std.proofs.Math.Decide.{dec_lt, ℕ_discrete}
use Rattle.refusal.specs.declared.Refusal.TheVariants.{Invalid}
use Rattle.refusal.specs.declared.Wanted.TheVariants.{Class}
use Rattle.utf8.specs.Utf8.{repair}
use Rattle.text.specs.Pieces.{bytes_of}
use Rattle.text.specs.Text.{unescape_string, unescape_unicode}
use Rattle.value.specs.Value.{Label, bit, NoneL, BoolL, I64L, F64L, BytesL, StringL, ListL, TupleL, SetL, FrozenSetL, DictL, GlobalL, ObjectL}
use Rattle.value.specs.Shape.{kind_in, fresh_in, state_in}
use Rattle.steps.specs.State.{Node, ok, kidless}
use Rattle.steps.specs.State as state
use Rattle.steps.specs.Opcodes.{is_list, is_tuple, is_dict, is_object, class_of, object}

-- ---- the words of all nodes

-- the first word of node i
unfoldable pub first : List ℕ → ℕ → ℕ
first ws i = get_or ws (2 * i) 0

-- its second
unfoldable pub second : List ℕ → ℕ → ℕ
second ws i = get_or ws (suc (2 * i)) 0

-- both set
unfoldable pub words_set : List ℕ → ℕ → ℕ → ℕ → List ℕ
words_set ws i a b = set (set ws (2 * i) a) (suc (2 * i)) b

-- ---- what they say

-- the text that a number says: its low k bits are the place, those above them the length
unfoldable pub within : ℕ → ℕ → List ℕ → List ℕ
within k w t = take (w / 2 ^ k) (drop (w % 2 ^ k) t)

-- the node of an Object's class
unfoldable pub class_in : ℕ → ℕ
class_in a = a / 64

-- the module and the name of a Global with the words a and b, of the pickle p
unfoldable pub module_of : List ℕ → ℕ → List ℕ
module_of p a = repair (within 24 (a / 16) p)

unfoldable pub name_of : List ℕ → ℕ → List ℕ
name_of p b = repair (within 32 b p)

-- an Object's arguments and any state
unfoldable pub parts_of : ℕ → ℕ → List ℕ
parts_of a b = b % 2 ^ 32 ∷ cond (state_in a) (b / 2 ^ 32 ∷ []) []

-- the nodes that the words a and b say for the kinds 0 to 14: p is the pickle, ws the words of all nodes, ks the children of the node's
-- links. 13 are Bytes of a STRING with an escape and 14 a String of UNICODE, both as their lines
abbrev pub choices : List ℕ → List ℕ → List ℕ → ℕ → ℕ → List Node
choices p ws ks a b =
    kidless NoneL
    ∷ kidless (BoolL (eqb b 1))
    ∷ kidless (I64L b)
    ∷ kidless (F64L b)
    ∷ kidless (BytesL (within 32 b p))
    ∷ kidless (StringL (repair (within 32 b p)))
    ∷ record { label = ListL; kids = ks }
    ∷ record { label = TupleL; kids = ks }
    ∷ record { label = SetL; kids = b ∷ [] }
    ∷ record { label = FrozenSetL; kids = b ∷ [] }
    ∷ record { label = DictL; kids = ks }
    ∷ kidless (GlobalL (module_of p a) (name_of p b))
    ∷ record { label = ObjectL (module_of p (first ws (class_in a))) (name_of p (second ws (class_in a))) (fresh_in a); kids = parts_of a b }
    ∷ kidless (BytesL (bytes_of (unescape_string (within 32 b p))))
    ∷ kidless (StringL (bytes_of (unescape_unicode (within 32 b p))))
    ∷ []

-- the one of the kind that a says
unfoldable pub node_is : List ℕ → List ℕ → List ℕ → ℕ → ℕ → Node
node_is p ws ks a b = get_or (choices p ws ks a b) (kind_in a) (kidless NoneL)

-- the first word of a node that holds links
pub data HoldsLinks (a : ℕ) : Type 0 where
  a_list : kind_in a ≡ 6 → HoldsLinks a
  a_tuple : kind_in a ≡ 7 → HoldsLinks a
  a_dict : kind_in a ≡ 10 → HoldsLinks a

-- an Object's first word
unfoldable pub object_word : Bool → ℕ → ℕ
object_word new class = 12 + 16 * bit new + 64 * class

-- the label of a container, by its first word
abbrev pub label_in : ℕ → Label
label_in a = (node_is [] [] [] a 0).label

-- the words a' and b' are those of an Object with a and b, but that its state is i
pub record WithState (a b a' b' i : ℕ) : Type 0 where
  pub kind : kind_in a' ≡ 12
  pub new : fresh_in a' ≡ fresh_in a
  pub state : state_in a' ≡ true
  pub class : class_in a' ≡ class_in a
  pub arguments : b' % 2 ^ 32 ≡ b % 2 ^ 32
  pub item : b' / 2 ^ 32 ≡ i

-- ---- words set

module _ (ws : List ℕ) (n a b : ℕ) where
  pub first_other : (i : ℕ) → i ≢ n → first (words_set ws n a b) i ≡ first ws i
  unfolding first words_set
  first_other i d = get_or-set_other (set ws (2 * n) a) (suc (2 * n)) (2 * i) b 0 (λ e. omega arith) ∙ get_or-set_other ws (2 * n) (2 * i) a 0 (λ e. d (omega arith))

  pub second_other : (i : ℕ) → i ≢ n → second (words_set ws n a b) i ≡ second ws i
  unfolding second words_set
  second_other i d = get_or-set_other (set ws (2 * n) a) (suc (2 * n)) (suc (2 * i)) b 0 (λ e. d (omega arith)) ∙ get_or-set_other ws (2 * n) (suc (2 * i)) a 0 (λ e. omega arith)

  module _ (room : suc (2 * n) < length ws) where
    pub first-set : first (words_set ws n a b) n ≡ a
    unfolding first words_set
    first-set = get_or-set_other (set ws (2 * n) a) (suc (2 * n)) (2 * n) b 0 (λ e. omega arith) ∙ get_or-set_same ws (2 * n) a 0 (omega arith)

    pub second-set : second (words_set ws n a b) n ≡ b
    unfolding second words_set
    second-set = get_or-set_same (set ws (2 * n) a) (suc (2 * n)) b 0 (rw length-set room)

-- the second word alone
pub words-second : (ws : List ℕ) (n b : ℕ) → words_set ws n (first ws n) b ≡ set ws (suc (2 * n)) b
unfolding words_set first
words-second ws n b = rw (set-get_or ws (2 * n) 0)

-- ---- texts

-- a number made of a length and a place says the text of that length there
pub within_at : (k place n : ℕ) (t : List ℕ) → place < 2 ^ k → within k (n * 2 ^ k + place) t ≡ take n (drop place t)
unfolding within
within_at k place n t h = rw (high n k h, low n k h)

-- ---- a node of a known kind, and tests of a node's label

itself : (t : Bool) → cond t true false ≡ t
itself true = refl
itself false = refl

module _ (p ws ks : List ℕ) (a b : ℕ) where
  pub node_kind : (k : ℕ) → kind_in a ≡ k → node_is p ws ks a b ≡ get_or (choices p ws ks a b) k (kidless NoneL)
  unfolding node_is
  node_kind k e = rw e

  -- what is d for all kinds but n, for which it is x
  alone : {B : Type 0} (f : Label → B) (n : ℕ) (x d : B) → n < 15 → f NoneL ≡ d → map (λ (l : Node). f l.label) (choices p ws ks a b) ≡ set (replicate 15 d) n x → f (node_is p ws ks a b).label ≡ cond (eqb (kind_in a) n) x d
  unfolding node_is
  alone f n x d h z e =
      sym (get_or-map (λ (l : Node). f l.label) (choices p ws ks a b) (kind_in a) (kidless NoneL))
      ∙ rw (e, z) (go (ℕ_discrete (kind_in a) n))
    where
      go : Dec (kind_in a ≡ n) → get_or (set (replicate 15 d) n x) (kind_in a) d ≡ cond (eqb (kind_in a) n) x d
      go (yes q) = rw (q, eq-eqb n n refl) (get_or-set_same (replicate 15 d) n x d (rw length-replicate h))
      go (no q) = rw (ne_eqb (kind_in a) n q) (get_or-set_other (replicate 15 d) n (kind_in a) x d q ∙ all (dec_lt (kind_in a) 15))
        where
          all : Dec (kind_in a < 15) → get_or (replicate 15 d) (kind_in a) d ≡ d
          all (yes l) = get_or-replicate 15 (kind_in a) d d l
          all (no l) = get_or-eq_default (replicate 15 d) d {n = kind_in a} (rw length-replicate (omega arith))

  pub list-kind : is_list (node_is p ws ks a b).label ≡ eqb (kind_in a) 6
  list-kind = alone is_list 6 true false (omega arith) refl refl ∙ itself (eqb (kind_in a) 6)

  pub tuple-kind : is_tuple (node_is p ws ks a b).label ≡ eqb (kind_in a) 7
  tuple-kind = alone is_tuple 7 true false (omega arith) refl refl ∙ itself (eqb (kind_in a) 7)

  pub dict-kind : is_dict (node_is p ws ks a b).label ≡ eqb (kind_in a) 10
  dict-kind = alone is_dict 10 true false (omega arith) refl refl ∙ itself (eqb (kind_in a) 10)

  pub object-kind : is_object (node_is p ws ks a b).label ≡ eqb (kind_in a) 12
  object-kind = alone is_object 12 true false (omega arith) refl refl ∙ itself (eqb (kind_in a) 12)

  pub class_kind : class_of (node_is p ws ks a b).label ≡ cond (eqb (kind_in a) 11) (ok (module_of p a, name_of p b)) (state.no (Invalid Class))
  class_kind = alone class_of 11 (ok (module_of p a, name_of p b)) (state.no (Invalid Class)) (omega arith) refl refl

-- ---- words made

pub kind-made : (k x : ℕ) → k < 16 → kind_in (k + 16 * x) ≡ k
unfolding kind_in
kind-made k x h = omega arith

pub rest-made : (k x : ℕ) → k < 16 → (k + 16 * x) / 16 ≡ x
rest-made k x h = omega arith

pub object-made : (new : Bool) (class : ℕ) → (kind_in (object_word new class) ≡ 12) × (fresh_in (object_word new class) ≡ new) × (state_in (object_word new class) ≡ false) × (class_in (object_word new class) ≡ class)
unfolding object_word kind_in fresh_in state_in class_in
object-made true class =
    (omega arith, eq-eqb ((12 + 16 * bit true + 64 * class) / 16 % 2) 1 (omega arith), ne_eqb ((12 + 16 * bit true + 64 * class) / 32 % 2) 1 (λ e. omega arith), omega arith)
object-made false class =
    (omega arith, ne_eqb ((12 + 16 * bit false + 64 * class) / 16 % 2) 1 (λ e. omega arith), ne_eqb ((12 + 16 * bit false + 64 * class) / 32 % 2) 1 (λ e. omega arith), omega arith)

-- an Object just made is one of its class, whose node's words stand at `class`
pub object_node : (p ws ks : List ℕ) (new : Bool) (class args : ℕ) → args < 2 ^ 32 → node_is p ws ks (object_word new class) args ≡ object (module_of p (first ws class), name_of p (second ws class)) new args
unfolding node_is parts_of
object_node p ws ks new class args h =
    let m = object-made new class in
    let e : args % 2 ^ 32 ≡ args = omega arith in
    rw (m.0, m.1, m.2, m.3, e)

-- an Object's words with the state i
pub state_set : (a b i : ℕ) → kind_in a ≡ 12 → WithState a b (cond (state_in a) a (a + 32)) (i * 2 ^ 32 + b % 2 ^ 32) i
unfolding kind_in fresh_in state_in class_in
state_set a b i k = go (eqb (a / 32 % 2) 1) refl
  where
    place : b % 2 ^ 32 < 2 ^ 32
    place = omega arith

    go : (t : Bool) → eqb (a / 32 % 2) 1 ≡ t → WithState a b (cond t a (a + 32)) (i * 2 ^ 32 + b % 2 ^ 32) i
    go true e = record { kind = k; new = refl; state = e; class = refl; arguments = low i 32 place; item = high i 32 place }
    go false e =
        let z = eqb-false (a / 32 % 2) 1 e in
        let e₁ : (a + 32) / 16 % 2 ≡ a / 16 % 2 = omega arith in
        let e₂ : (a + 32) / 32 % 2 ≡ 1 = omega arith in
        record { kind = omega arith; new = ap (λ (x : ℕ). eqb x 1) e₁; state = eq-eqb ((a + 32) / 32 % 2) 1 e₂; class = omega arith; arguments = low i 32 place; item = high i 32 place }

-- ---- one node, its words or its items changed

-- a container is neither Global nor Object nor a line: those kinds are above 10
pub holds_below : (a : ℕ) → HoldsLinks a → kind_in a ≤ 10
holds_below a (a_list e) = omega arith
holds_below a (a_tuple e) = omega arith
holds_below a (a_dict e) = omega arith

module _ (p : List ℕ) (a b : ℕ) where
  -- of the other nodes, only an Object's class counts
  pub node_words : (ks ws ws' : List ℕ) → (kind_in a ≡ 12 → (first ws' (class_in a) ≡ first ws (class_in a)) × (second ws' (class_in a) ≡ second ws (class_in a))) → node_is p ws' ks a b ≡ node_is p ws ks a b
  unfolding node_is
  node_words ks ws ws' h = go (ℕ_discrete (kind_in a) 12)
    where
      go : Dec (kind_in a ≡ 12) → get_or (choices p ws' ks a b) (kind_in a) (kidless NoneL) ≡ get_or (choices p ws ks a b) (kind_in a) (kidless NoneL)
      go (yes e) = rw ((h e).0, (h e).1)
      go (no d) = get_or-set_other (choices p ws ks a b) 12 (kind_in a) (get_or (choices p ws' ks a b) 12 (kidless NoneL)) (kidless NoneL) d

  -- a List, Tuple or Dict with a child more
  pub node_grown : (ks ws : List ℕ) (k : ℕ) → HoldsLinks a → node_is p ws (ks ++ (k ∷ [])) a b ≡ record { label = (node_is p ws ks a b).label; kids = (node_is p ws ks a b).kids ++ (k ∷ []) }
  unfolding node_is
  node_grown ks ws k (a_list e) = rw e
  node_grown ks ws k (a_tuple e) = rw e
  node_grown ks ws k (a_dict e) = rw e

  -- its label is its kind's alone
  pub node_label_lem : (ks ws : List ℕ) → HoldsLinks a → (node_is p ws ks a b).label ≡ label_in a
  node_label_lem ks ws = go
    where
      label : Node → Label
      label n = n.label

      go : HoldsLinks a → (node_is p ws ks a b).label ≡ label_in a
      go (a_list e) = ap label (node_kind p ws ks a b 6 e) ∙ sym (ap label (node_kind [] [] [] a 0 6 e))
      go (a_tuple e) = ap label (node_kind p ws ks a b 7 e) ∙ sym (ap label (node_kind [] [] [] a 0 7 e))
      go (a_dict e) = ap label (node_kind p ws ks a b 10 e) ∙ sym (ap label (node_kind [] [] [] a 0 10 e))

  -- its second word does not count
  pub node_count : (ks ws : List ℕ) (b' : ℕ) → HoldsLinks a → node_is p ws ks a b' ≡ node_is p ws ks a b
  unfolding node_is
  node_count ks ws b' (a_list e) = rw e
  node_count ks ws b' (a_tuple e) = rw e
  node_count ks ws b' (a_dict e) = rw e

  -- an Object with a state
  pub node_with_state : (ks ws : List ℕ) (a' b' i : ℕ) → kind_in a ≡ 12 → WithState a b a' b' i → node_is p ws ks a' b' ≡ record { label = (node_is p ws ks a b).label; kids = get_or (node_is p ws ks a b).kids 0 0 ∷ i ∷ [] }
  unfolding node_is parts_of
  node_with_state ks ws a' b' i k h = rw (k, h.kind, h.new, h.state, h.class, h.arguments, h.item)

-- words set for node n leave a node whose class is not n
pub words_other : (p ks ws : List ℕ) (n a b i : ℕ) → i ≢ n → (kind_in (first ws i) ≡ 12 → class_in (first ws i) ≢ n)
    → node_is p (words_set ws n a b) ks (first (words_set ws n a b) i) (second (words_set ws n a b) i) ≡ node_is p ws ks (first ws i) (second ws i)
words_other p ks ws n a b i d h =
    rw (first_other ws n a b i d, second_other ws n a b i d)
    (node_words p (first ws i) (second ws i) ks ws (words_set ws n a b) (λ e. (first_other ws n a b (class_in (first ws i)) (h e), second_other ws n a b (class_in (first ws i)) (h e))))
