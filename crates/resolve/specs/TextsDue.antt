-- The pass over all nodes: whose text is wanted, and what is true of the first n nodes when it has come so far.
use Prim.Native.Nat.{ℕ, suc, zero, ◌+◌, ◌*◌, ◌^◌, ◌<◌, ◌≤◌}
use Rattle.std.specs.Prelude.{Bool, true, false, cond, ◌&&◌, List, ◌++◌, ◌≡◌, ◌≢◌, ◌⊎◌, length, get_or, take, drop, set, eqb, ltb, leb}
use Rattle.std.proofs.Common.{append_assoc, sym, ◌∙◌, ap, inl, inr, length-append, length-set, length-take-le, take-take, take_at, drop_at, drop-drop, get_or-set_same, get_or-set_other}
use Rattle.std.proofs.Math.Path.{refl}
use Rattle.std.proofs.Math.Decide.{dec_lt, ℕ_discrete}
use native.Mathlib.Omega.{arith}
use Rattle.std.proofs.Math.Seq.{take-append_seam, drop-append_seam, length-sets}
use Rattle.std.proofs.lemmas.List.Edits.{sets, sets-eq}
use borrow.Author.Tests.{ltb-true, lt-ltb, le-ltb, le-leb, lt-leb, ne_eqb}
use Rattle.utf8.specs.Rows.{and_left}
use Rattle.value.specs.Value.{Label, NoneL}
use Rattle.value.specs.Shape.{kind_in}
use Rattle.steps.specs.NodeWords.{first, second, class_in}
use Rattle.resolve.specs.Noted.{is_container}
use Rattle.resolve.specs.Written.{drop-take}
use Rattle.resolve.specs.Shown.{node_labels, node_label, leading, trailing, label_has_text, was_decoded, place_in, lead_in, trail_in, raw_lead, raw_trail, lead_text, trail_text, Spelled}
use Rattle.resolve.specs.declared.texts.Spelling.{Spelling}
use Rattle.resolve.specs.DecodedMeasure.{measure_of, measure_least, measure_most, measure_decoded, measure-place, measure-lead, measure-trail}
use Rattle.resolve.specs.Spell.{TextRoom, StandsDecoded, stays, stands, SpellsNode}

-- ---- whose text is wanted

-- The text of node i with the measure m: the measure is a word, of a leaf not one that was looked up ahead for an Object's class.
unfoldable pub text_due : List ℕ → List ℕ → ℕ → ℕ → Bool
text_due p ws i m = label_has_text (node_label p ws i) && (leb 128 m && ltb m (cond (is_container (node_label p ws i)) (2 ^ 42) (2 ^ 41)))

-- how long it is
abbrev pub node_text_length : List ℕ → List ℕ → ℕ → ℕ
node_text_length p ws i = length (leading (node_label p ws i)) + length (trailing (node_label p ws i))

-- the texts of the first n nodes together
unfoldable pub due_text : List ℕ → List ℕ → List ℕ → ℕ → ℕ
due_text p ws measures zero = 0
due_text p ws measures (suc n) = due_text p ws measures n + cond (text_due p ws n (get_or measures n 0)) (node_text_length p ws n) 0

-- by the first word and the measure
unfoldable pub text_kind : ℕ → Bool
text_kind k = cond (ltb k 4) false (cond (ltb k 6) true (cond (ltb k 11) false (ltb k 15)))

unfoldable pub text_due_word : ℕ → ℕ → Bool
text_due_word a m = text_kind (kind_in a) && (leb 128 m && ltb m (cond (eqb (kind_in a) 12) (2 ^ 42) (2 ^ 41)))

module _ (p ws : List ℕ) (a b : ℕ) where
  abbrev nth : ℕ → Label
  nth k = get_or (node_labels p ws a b) k NoneL

  due_at : (k m : ℕ) → k < 16 → (text_kind k && (leb 128 m && ltb m (cond (eqb k 12) (2 ^ 42) (2 ^ 41)))) ≡ (label_has_text (nth k) && (leb 128 m && ltb m (cond (is_container (nth k)) (2 ^ 42) (2 ^ 41))))
  unfolding text_kind
  due_at zero m h = refl
  due_at (suc zero) m h = refl
  due_at (suc (suc zero)) m h = refl
  due_at (suc (suc (suc zero))) m h = refl
  due_at (suc (suc (suc (suc zero)))) m h = refl
  due_at (suc (suc (suc (suc (suc zero))))) m h = refl
  due_at (suc (suc (suc (suc (suc (suc zero)))))) m h = refl
  due_at (suc (suc (suc (suc (suc (suc (suc zero))))))) m h = refl
  due_at (suc (suc (suc (suc (suc (suc (suc (suc zero)))))))) m h = refl
  due_at (suc (suc (suc (suc (suc (suc (suc (suc (suc zero))))))))) m h = refl
  due_at (suc (suc (suc (suc (suc (suc (suc (suc (suc (suc zero)))))))))) m h = refl
  due_at (suc (suc (suc (suc (suc (suc (suc (suc (suc (suc (suc zero))))))))))) m h = refl
  due_at (suc (suc (suc (suc (suc (suc (suc (suc (suc (suc (suc (suc zero)))))))))))) m h = refl
  due_at (suc (suc (suc (suc (suc (suc (suc (suc (suc (suc (suc (suc (suc zero))))))))))))) m h = refl
  due_at (suc (suc (suc (suc (suc (suc (suc (suc (suc (suc (suc (suc (suc (suc zero)))))))))))))) m h = refl
  due_at (suc (suc (suc (suc (suc (suc (suc (suc (suc (suc (suc (suc (suc (suc (suc k))))))))))))))) m h = let e : k ≡ 0 = omega arith in rw e

pub due_word : (p ws : List ℕ) (i m : ℕ) → text_due_word (first ws i) m ≡ text_due p ws i m
unfolding text_due_word text_due node_label kind_in
due_word p ws i m = due_at p ws (first ws i) (second ws i) (kind_in (first ws i)) m (omega arith)

-- what is wanted has a text, and is not decoded yet
pub due_text_lem : (p ws : List ℕ) (i m : ℕ) → text_due p ws i m ≡ true → label_has_text (node_label p ws i) ≡ true
unfolding text_due
due_text_lem p ws i m e = and_left (label_has_text (node_label p ws i)) _ e

due_raw : (p ws : List ℕ) (i m : ℕ) → text_due p ws i m ≡ true → m < 2 ^ 62
unfolding text_due
due_raw p ws i m e = go (label_has_text (node_label p ws i)) (leb 128 m) (is_container (node_label p ws i)) e
  where
    go : (x y z : Bool) → (x && (y && ltb m (cond z (2 ^ 42) (2 ^ 41)))) ≡ true → m < 2 ^ 62
    go true true true e = let l = ltb-true m (2 ^ 42) e in omega arith
    go true true false e = let l = ltb-true m (2 ^ 41) e in omega arith
    go true false z e = absurd (let n : ◌≡◌ {A = ℕ} 0 1 = cc in omega arith)
    go false y z e = absurd (let n : ◌≡◌ {A = ℕ} 0 1 = cc in omega arith)

-- ---- the tests, as the code makes them

and-false : (x : Bool) → false ≡ (x && false)
and-false true = refl
and-false false = refl

and-true : (x : Bool) → x ≡ (x && true)
and-true true = refl
and-true false = refl

module _ (a m : ℕ) where
  pub due_early : m < 128 → false ≡ text_due_word a m
  unfolding text_due_word
  due_early h = rw (lt-leb 128 m h) (and-false (text_kind (kind_in a)))

  module _ (h : 128 ≤ m) where
    pub due_object : kind_in a ≡ 12 → ltb m (2 ^ 42) ≡ text_due_word a m
    unfolding text_due_word text_kind
    due_object e = rw (e, le-leb 128 m h)

    module _ (n : kind_in a ≢ 12) where
      pub due_late : 2 ^ 41 ≤ m → false ≡ text_due_word a m
      unfolding text_due_word
      due_late l = rw (ne_eqb _ _ n, le-leb 128 m h, le-ltb m (2 ^ 41) l) (and-false (text_kind (kind_in a)))

      pub due_leaf : m < 2 ^ 41 → text_kind (kind_in a) ≡ text_due_word a m
      unfolding text_due_word
      due_leaf l = rw (ne_eqb _ _ n, le-leb 128 m h, lt-ltb m (2 ^ 41) l) (and-true (text_kind (kind_in a)))

module _ (k : ℕ) where
  pub kind_below_4 : k < 4 → false ≡ text_kind k
  unfolding text_kind
  kind_below_4 h = rw (lt-ltb k 4 h)

  module _ (h : 4 ≤ k) where
    pub kind_below_6 : k < 6 → true ≡ text_kind k
    unfolding text_kind
    kind_below_6 l = rw (le-ltb k 4 h, lt-ltb k 6 l)

    module _ (l : 6 ≤ k) where
      pub kind_below_11 : k < 11 → false ≡ text_kind k
      unfolding text_kind
      kind_below_11 m = rw (le-ltb k 4 h, le-ltb k 6 l, lt-ltb k 11 m)

      pub kind-behind : 11 ≤ k → ltb k 15 ≡ text_kind k
      unfolding text_kind
      kind-behind m = rw (le-ltb k 4 h, le-ltb k 6 l, le-ltb k 11 m)

-- ---- one node

pub record DecodableOne (p ws : List ℕ) (i : ℕ) (d measures : List ℕ) (used : ℕ) : Type 0 where
  pub words : 2 * i + 1 < length ws
  pub class : kind_in (first ws i) ≡ 12 → 2 * class_in (first ws i) + 1 < length ws
  pub measured : i < length measures
  pub fits : text_due p ws i (get_or measures i 0) ≡ true → TextRoom (leading (node_label p ws i)) (trailing (node_label p ws i)) used d

pub data DecodesOne (p ws : List ℕ) (i : ℕ) (d measures : List ℕ) (used : ℕ) (d' measures' : List ℕ) (used' : ℕ) : Type 0 where
  passed : text_due p ws i (get_or measures i 0) ≡ false → d' ≡ d → measures' ≡ measures → used' ≡ used → DecodesOne p ws i d measures used d' measures' used'
  spelled : text_due p ws i (get_or measures i 0) ≡ true → (r : Spelling) → SpellsNode p ws i (get_or measures i 0) used d r d' → measures' ≡ set measures i r.measure → used' ≡ r.used → DecodesOne p ws i d measures used d' measures' used'

-- ---- all nodes

pub record Decodable (p ws : List ℕ) (n : ℕ) (d measures : List ℕ) : Type 0 where
  pub words : 2 * n ≤ length ws
  pub classes : (i : ℕ) → i < n → kind_in (first ws i) ≡ 12 → class_in (first ws i) < n
  pub measured : n ≤ length measures
  pub fits : due_text p ws measures n ≤ 65536
  pub room : 65536 ≤ length d

-- node i's text stands where its measure says, within what is used of the decoded text
pub record TextPlaced (p d ws measures : List ℕ) (i used : ℕ) : Type 0 where
  pub spelled : Spelled p d ws measures i (node_label p ws i)
  pub within : was_decoded (get_or measures i 0) ≡ true → place_in (get_or measures i 0) + lead_in (get_or measures i 0) + trail_in (get_or measures i 0) ≤ used

-- of the first n nodes, d₀ and measures₀ being the rooms as they were
pub record Decodes (p ws d₀ measures₀ : List ℕ) (n : ℕ) (d measures : List ℕ) (used : ℕ) : Type 0 where
  pub texts : (i : ℕ) → i < n → text_due p ws i (get_or measures₀ i 0) ≡ true → TextPlaced p d ws measures i used
  pub others : (i : ℕ) → i < n → text_due p ws i (get_or measures₀ i 0) ≡ false → get_or measures i 0 ≡ get_or measures₀ i 0
  pub later : (i : ℕ) → n ≤ i → get_or measures i 0 ≡ get_or measures₀ i 0
  pub changed : (i : ℕ) → (get_or measures i 0 ≡ get_or measures₀ i 0) ⊎ ((2 ^ 62 ≤ get_or measures i 0) × (get_or measures i 0 < 2 ^ 63))
  pub spent : used ≤ due_text p ws measures₀ n
  pub behind : drop used d ≡ drop used d₀
  pub same_room : length d ≡ length d₀
  pub same-measures : length measures ≡ length measures₀

-- ---- parts of lists that agree

part_same : (b a n : ℕ) (l m : List ℕ) → b + a ≤ n → n ≤ length l → n ≤ length m → take n l ≡ take n m → take a (drop b l) ≡ take a (drop b m)
part_same b a n l m h i j e =
    sym (drop-take b a l)
    ∙ ap (drop b) (sym (take-take (b + a) n l h) ∙ ap (take (b + a)) e ∙ take-take (b + a) n m h)
    ∙ drop-take b a m

-- two texts put one behind the other, and what is round them
module _ (lead trail d : List ℕ) (used : ℕ) (f : used + length lead + length trail ≤ length d) where
  abbrev put : List ℕ
  put = sets d used (lead ++ trail)

  abbrev rest : List ℕ
  rest = drop (used + length (lead ++ trail)) d

  put_eq : put ≡ take used d ++ (lead ++ (trail ++ rest))
  put_eq =
      let k : used + length (lead ++ trail) ≤ length d = rw length-append (omega arith) in
      sets-eq (lead ++ trail) d used k ∙ append_assoc (take used d) (lead ++ trail) rest ∙ ap (λ (l : List ℕ). take used d ++ l) (append_assoc lead trail rest)

  front_long : length (take used d) ≡ used
  front_long = length-take-le used d (omega arith)

  front_same : take used put ≡ take used d
  front_same = ap (take used) put_eq ∙ take_at (take used d) (lead ++ (trail ++ rest)) used front_long

  behind_front : drop used put ≡ lead ++ (trail ++ rest)
  behind_front = ap (drop used) put_eq ∙ drop_at (take used d) (lead ++ (trail ++ rest)) used front_long

  lead_there : take (length lead) (drop used put) ≡ lead
  lead_there = ap (take (length lead)) behind_front ∙ take-append_seam lead (trail ++ rest)

  behind-lead : drop (used + length lead) put ≡ trail ++ rest
  behind-lead = sym (drop-drop (length lead) used put) ∙ ap (drop (length lead)) behind_front ∙ drop-append_seam lead (trail ++ rest)

  trail_there : take (length trail) (drop (used + length lead) put) ≡ trail
  trail_there = ap (take (length trail)) behind-lead ∙ take-append_seam trail rest

  behind-both : drop (used + length lead + length trail) put ≡ drop (used + length lead + length trail) d
  behind-both =
      let k : used + length (lead ++ trail) ≡ used + length lead + length trail = rw length-append (omega arith) in
      sym (drop-drop (length trail) (used + length lead) put) ∙ ap (drop (length trail)) behind-lead ∙ drop-append_seam trail rest ∙ ap (λ (n : ℕ). drop n d) k

-- a text that is placed stays so, if its measure and what is used of the decoded text do
placed_stays : (p ws d measures d' measures' : List ℕ) (j used used' : ℕ) → TextPlaced p d ws measures j used → get_or measures' j 0 ≡ get_or measures j 0 → take used d' ≡ take used d → used ≤ used' → used ≤ length d → length d' ≡ length d → TextPlaced p d' ws measures' j used'
unfolding lead_text trail_text
placed_stays p ws d measures d' measures' j used used' x e f u v w = go (was_decoded (get_or measures j 0)) refl
  where
    go : (b : Bool) → was_decoded (get_or measures j 0) ≡ b → TextPlaced p d' ws measures' j used'
    go false q =
        let l : raw_lead p ws j ≡ leading (node_label p ws j) = rw q at x.spelled.lead in
        let t : raw_trail p ws j ≡ trailing (node_label p ws j) = rw q at x.spelled.trail in
        record {
          spelled = record { lead = rw (e, q) l; trail = rw (e, q) t; inside = rw (e, q) (λ z. absurd (let y : ◌≡◌ {A = ℕ} 0 1 = cc in omega arith)) };
          within = rw (e, q) (λ z. absurd (let y : ◌≡◌ {A = ℕ} 0 1 = cc in omega arith));
        }
    go true q =
        let m = get_or measures j 0 in
        let l : take (lead_in m) (drop (place_in m) d) ≡ leading (node_label p ws j) = rw q at x.spelled.lead in
        let t : take (trail_in m) (drop (place_in m + lead_in m) d) ≡ trailing (node_label p ws j) = rw q at x.spelled.trail in
        let k = x.within q in
        let l' = part_same (place_in m) (lead_in m) used d' d (omega arith) (omega arith) (omega arith) f ∙ l in
        let t' = part_same (place_in m + lead_in m) (trail_in m) used d' d (omega arith) (omega arith) (omega arith) f ∙ t in
        record {
          spelled = record { lead = rw (e, q) l'; trail = rw (e, q) t'; inside = rw (e, q) (λ z. omega arith) };
          within = rw (e, q) (λ z. omega arith);
        }

-- a text that was put is placed
own_stands : (p ws d measures : List ℕ) (i used : ℕ) (r : Spelling) (d' : List ℕ)
    → i < length measures
    → used + length (leading (node_label p ws i)) + length (trailing (node_label p ws i)) ≤ 65536
    → used + length (leading (node_label p ws i)) + length (trailing (node_label p ws i)) ≤ length d
    → StandsDecoded (leading (node_label p ws i)) (trailing (node_label p ws i)) used d r d'
    → TextPlaced p d' ws (set measures i r.measure) i r.used
unfolding lead_text trail_text
own_stands p ws d measures i used r d' here small f s =
    let lead = leading (node_label p ws i) in
    let trail = trailing (node_label p ws i) in
    let m : get_or (set measures i r.measure) i 0 ≡ measure_of used (length lead) (length trail) = get_or-set_same measures i r.measure 0 here ∙ s.measure in
    let q = measure_decoded used (length lead) (length trail) in
    let place = measure-place used (length lead) (length trail) (omega arith) (omega arith) (omega arith) in
    let a = measure-lead used (length lead) (length trail) (omega arith) (omega arith) (omega arith) in
    let b = measure-trail used (length lead) (length trail) (omega arith) (omega arith) (omega arith) in
    let y = s.bytes in
    record {
      spelled =
          record {
            lead = rw (m, q, place, a, y) (lead_there lead trail d used f);
            trail = rw (m, q, place, a, b, y) (trail_there lead trail d used f);
            inside = rw (m, place, a, b, y) (λ z. rw (length-sets d used (lead ++ trail)) f);
          };
      within = rw (m, place, a, b) (λ z. omega (arith, s.used_then));
    }

-- and so is one that is left in the pickle
own_stays : (p ws measures : List ℕ) (i : ℕ) (r : Spelling) (d' : List ℕ)
    → i < length measures
    → raw_lead p ws i ≡ leading (node_label p ws i)
    → raw_trail p ws i ≡ trailing (node_label p ws i)
    → r.measure < 2 ^ 62
    → TextPlaced p d' ws (set measures i r.measure) i r.used
unfolding lead_text trail_text was_decoded
own_stays p ws measures i r d' here a b small =
    let m = get_or-set_same measures i r.measure 0 here in
    let q = lt-leb (2 ^ 62) r.measure small in
    record {
      spelled = record { lead = rw (m, q) a; trail = rw (m, q) b; inside = rw (m, q) (λ z. absurd (let y : ◌≡◌ {A = ℕ} 0 1 = cc in omega arith)) };
      within = rw (m, q) (λ z. absurd (let y : ◌≡◌ {A = ℕ} 0 1 = cc in omega arith));
    }

-- lists that agree behind a place agree further behind
further : (n k m : ℕ) (l l' : List ℕ) → m ≡ n + k → drop n l ≡ drop n l' → drop m l ≡ drop m l'
further n k m l l' e q = rw e (sym (drop-drop k n l) ∙ ap (drop k) q ∙ drop-drop k n l')

-- ---- one node further

due_rises : (p ws measures : List ℕ) (i n : ℕ) → i ≤ n → due_text p ws measures i ≤ due_text p ws measures n
unfolding due_text
due_rises p ws measures i zero h = let e : i ≡ 0 = omega arith in rw e (omega arith)
due_rises p ws measures i (suc n) h = go (dec_lt i (suc n)) (λ l. due_rises p ws measures i n l)
  where
    go : Dec (i < suc n) → (i ≤ n → due_text p ws measures i ≤ due_text p ws measures n) → due_text p ws measures i ≤ due_text p ws measures n + cond (text_due p ws n (get_or measures n 0)) (node_text_length p ws n) 0
    go (yes l) r = let s = r (omega arith) in omega arith
    go (no l) r = let e : i ≡ suc n = omega arith in rw e (omega arith)

pub decodes_none : (p ws d measures : List ℕ) → Decodes p ws d measures 0 d measures 0
unfolding due_text
decodes_none p ws d measures =
    record {
      texts = λ i h. absurd (omega arith);
      others = λ i h. absurd (omega arith);
      later = λ i h. refl;
      changed = λ i. inl refl;
      spent = omega arith;
      behind = refl;
      same_room = refl;
      same-measures = refl;
    }

module _ (p ws d₀ measures₀ : List ℕ) (n : ℕ) (h : Decodable p ws n d₀ measures₀) (i : ℕ) (l : i < n) (d measures : List ℕ) (used : ℕ) (x : Decodes p ws d₀ measures₀ i d measures used) where
  as_it_was : text_due p ws i (get_or measures i 0) ≡ text_due p ws i (get_or measures₀ i 0)
  as_it_was = ap (text_due p ws i) (x.later i (omega arith))

  next_fits : text_due p ws i (get_or measures₀ i 0) ≡ true → used + length (leading (node_label p ws i)) + length (trailing (node_label p ws i)) ≤ due_text p ws measures₀ (suc i)
  unfolding due_text
  next_fits e = rw e (omega (arith, x.spent))

  all_fits : due_text p ws measures₀ (suc i) ≤ 65536
  all_fits = let r = due_rises p ws measures₀ (suc i) n (omega arith) in omega (arith, h.fits)

  next_spent : due_text p ws measures₀ i ≤ due_text p ws measures₀ (suc i)
  next_spent = due_rises p ws measures₀ i (suc i) (omega arith)

  pub turn_ready : DecodableOne p ws i d measures used
  turn_ready =
      record {
        words = omega (arith, h.words);
        class = λ k. (let c = h.classes i l k in omega (arith, h.words));
        measured = omega (arith, h.measured, x.same-measures);
        fits = λ e. record { fits = (let f = next_fits (sym as_it_was ∙ e) in omega (arith, all_fits)); room = omega (arith, h.room, x.same_room) };
      }

  turn_passed : text_due p ws i (get_or measures i 0) ≡ false → Decodes p ws d₀ measures₀ (suc i) d measures used
  turn_passed e =
      record {
        texts = λ j k q. texts' j q (ℕ_discrete j i) k;
        others = λ j k q. others' j q (ℕ_discrete j i) k;
        later = λ j k. x.later j (omega arith);
        changed = x.changed;
        spent = omega (arith, next_spent, x.spent);
        behind = x.behind;
        same_room = x.same_room;
        same-measures = x.same-measures;
      }
    where
      texts' : (j : ℕ) → text_due p ws j (get_or measures₀ j 0) ≡ true → Dec (j ≡ i) → j < suc i → TextPlaced p d ws measures j used
      texts' j q (yes y) k = let z : text_due p ws i (get_or measures₀ i 0) ≡ true = rw y at q in let w : text_due p ws i (get_or measures₀ i 0) ≡ false = sym as_it_was ∙ e in absurd (let v : ◌≡◌ {A = ℕ} 0 1 = cc in omega arith)
      texts' j q (no y) k = x.texts j (omega arith) q

      others' : (j : ℕ) → text_due p ws j (get_or measures₀ j 0) ≡ false → Dec (j ≡ i) → j < suc i → get_or measures j 0 ≡ get_or measures₀ j 0
      others' j q (yes y) k = x.later j (omega arith)
      others' j q (no y) k = x.others j (omega arith) q

  -- its measure is m, and what is used of the decoded text stays as it is
  module _ (e : text_due p ws i (get_or measures i 0) ≡ true) (m : ℕ) (d' : List ℕ) (used' : ℕ) where
    turn_placed :
        TextPlaced p d' ws (set measures i m) i used'
        → (m ≡ get_or measures₀ i 0) ⊎ ((2 ^ 62 ≤ m) × (m < 2 ^ 63))
        → take used d' ≡ take used d
        → used ≤ used'
        → used' ≤ due_text p ws measures₀ (suc i)
        → drop used' d' ≡ drop used' d₀
        → length d' ≡ length d
        → Decodes p ws d₀ measures₀ (suc i) d' (set measures i m) used'
    turn_placed own at-measure front more spent' behind' long =
        record {
          texts = λ j k q. texts' j q (ℕ_discrete j i) k;
          others = λ j k q. others' j q (ℕ_discrete j i) k;
          later = λ j k. (let y : j ≢ i = λ z. omega arith in rw (get_or-set_other measures i j m 0 y) (x.later j (omega arith)));
          changed = λ j. changed' j (ℕ_discrete j i);
          spent = spent';
          behind = behind';
          same_room = long ∙ x.same_room;
          same-measures = length-set measures i m ∙ x.same-measures;
        }
      where
        inside : i < length measures
        inside = omega (arith, h.measured, x.same-measures)

        used_inside : used ≤ length d
        used_inside = omega (arith, x.spent, next_spent, all_fits, h.room, x.same_room)

        texts' : (j : ℕ) → text_due p ws j (get_or measures₀ j 0) ≡ true → Dec (j ≡ i) → j < suc i → TextPlaced p d' ws (set measures i m) j used'
        texts' j q (yes y) k = rw y own
        texts' j q (no y) k = placed_stays p ws d measures d' (set measures i m) j used used' (x.texts j (omega arith) q) (get_or-set_other measures i j m 0 y) front more used_inside long

        others' : (j : ℕ) → text_due p ws j (get_or measures₀ j 0) ≡ false → Dec (j ≡ i) → j < suc i → get_or (set measures i m) j 0 ≡ get_or measures₀ j 0
        others' j q (yes y) k = let z : text_due p ws i (get_or measures₀ i 0) ≡ false = rw y at q in let w : text_due p ws i (get_or measures₀ i 0) ≡ true = sym as_it_was ∙ e in absurd (let v : ◌≡◌ {A = ℕ} 0 1 = cc in omega arith)
        others' j q (no y) k = rw (get_or-set_other measures i j m 0 y) (x.others j (omega arith) q)

        changed' : (j : ℕ) → Dec (j ≡ i) → (get_or (set measures i m) j 0 ≡ get_or measures₀ j 0) ⊎ ((2 ^ 62 ≤ get_or (set measures i m) j 0) × (get_or (set measures i m) j 0 < 2 ^ 63))
        changed' j (yes y) = rw (y, get_or-set_same measures i m 0 inside) at-measure
        changed' j (no y) = rw (get_or-set_other measures i j m 0 y) (x.changed j)

  -- it is put behind the others, or left in the pickle
  module _ (e : text_due p ws i (get_or measures i 0) ≡ true) (r : Spelling) (d' : List ℕ) where
    to_here : used + length (leading (node_label p ws i)) + length (trailing (node_label p ws i)) ≤ due_text p ws measures₀ (suc i)
    to_here = next_fits (sym as_it_was ∙ e)

    here : i < length measures
    here = omega (arith, h.measured, x.same-measures)

    turn_stands : StandsDecoded (leading (node_label p ws i)) (trailing (node_label p ws i)) used d r d' → Decodes p ws d₀ measures₀ (suc i) d' (set measures i r.measure) r.used
    turn_stands s =
        let lead = leading (node_label p ws i) in
        let trail = trailing (node_label p ws i) in
        let a : used + length lead + length trail ≤ 65536 = omega (arith, to_here, all_fits) in
        let f : used + length lead + length trail ≤ length d = omega (arith, h.room, x.same_room) in
        let b = s.bytes in
        let u = s.used_then in
        turn_placed e r.measure d' r.used
        (own_stands p ws d measures i used r d' here a f s)
        (inr (rw s.measure (measure_least used (length lead) (length trail), measure_most used (length lead) (length trail) (omega arith) (omega arith) (omega arith))))
        (rw b (front_same lead trail d used f))
        (omega arith)
        (omega (arith, to_here))
        (rw (u, b) (behind-both lead trail d used f ∙ further used (length lead + length trail) (used + length lead + length trail) d d₀ (omega arith) x.behind))
        (rw b (length-sets d used (lead ++ trail)))

    turn_stays : raw_lead p ws i ≡ leading (node_label p ws i) → raw_trail p ws i ≡ trailing (node_label p ws i) → r.measure ≡ get_or measures i 0 → r.used ≡ used → d' ≡ d → Decodes p ws d₀ measures₀ (suc i) d' (set measures i r.measure) r.used
    turn_stays a b m u q =
        turn_placed e r.measure d' r.used
        (own_stays p ws measures i r d' here a b (let z = due_raw p ws i (get_or measures i 0) e in omega arith))
        (inl (m ∙ x.later i (omega arith)))
        (rw q)
        (omega arith)
        (omega (arith, x.spent, next_spent))
        (rw (u, q) x.behind)
        (rw q)

  pub turn_more : (d' measures' : List ℕ) (used' : ℕ) → DecodesOne p ws i d measures used d' measures' used' → Decodes p ws d₀ measures₀ (suc i) d' measures' used'
  turn_more d' measures' used' (passed e a b c) = rw (a, b, c) (turn_passed e)
  turn_more d' measures' used' (spelled e r s b c) = rw (b, c) (go s)
    where
      go : SpellsNode p ws i (get_or measures i 0) used d r d' → Decodes p ws d₀ measures₀ (suc i) d' (set measures i r.measure) r.used
      go (stays a t m u q) = turn_stays e r d' a t m u q
      go (stands z) = turn_stands e r d' z
