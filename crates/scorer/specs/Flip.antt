-- A sheet whose mark is false, with its reversed answers flipped and the mark set: another value, whose table has the same form.
use Prim.Native.Nat.{ℕ, ◌+◌, ◌-◌, ◌*◌, ◌≤◌, Ordering}
use Rattle.std.specs.Prelude.{Bool, true, false, cond, ◌&&◌, List, [], ◌≡◌, refl, length, get_or, take, T}
use Rattle.std.proofs.Common.{append-nil, sym, ◌∙◌, ap₂, take_at, eqb-true, eq-eqb, le-leb, arith}
use Rattle.std.proofs.Math.Path.{ap}
use Rattle.std.proofs.Math.Dec.{eqb, compare_is_eq}
use Rattle.utf8.specs.Rows.{both}
use Rattle.value.specs.Value.{Label, Forest, Value, one, half, kind, text_of, text, count, size, depth, table, table-length, NoneL, BoolL, I64L, F64L, BytesL, StringL, ListL, TupleL, SetL, FrozenSetL, DictL, GlobalL, ObjectL, nil, node}
use Rattle.value.specs.Shape.{fitting, shaped}
use Rattle.value.specs.Order.{lex}
use Rattle.value.specs.OrderLaws.{lex_eq}
use Rattle.value.specs.WellFormed.{WellFormed, ascending, keys, proper, settled}
use Rattle.scorer.specs.Sheet.{bits, between, holds_int, answers_key, reverse_key, max_key, flipped_key, is_key, under, answers, reverse, highest_answer, flipped, in_range, all_answered, is_sheet, Sheet, counted, answers_sum, marked, score_of, items_of}
use Rattle.scorer.specs.Walk.{int_label_lem}

-- ---- a value's own table

-- within the limits of RULES A2.4 it is well formed, and of that value
pub value_formed : (v : Value) (n : ℕ) → T (shaped (one v)) → T (settled (one v)) → size (one v) ≡ n → n ≤ 2048 → depth (one v) ≤ 64 → length (text (one v)) ≤ 65536 → WellFormed (table (one v) 0) n (text (one v))
value_formed v n shape order counted few shallow short =
    let long : length (table (one v) 0) ≡ 4 * size (one v) = table-length (one v) 0 in
    record {
      value = v;
      shape = shape;
      settle = order;
      counted = counted;
      few = few;
      shallow = shallow;
      lent = omega arith;
      records = ap (take (4 * n)) (sym (append-nil (table (one v) 0))) ∙ take_at (table (one v) 0) [] (4 * n) (omega arith);
      texts = refl;
      short = short;
    }

pub formed_value : (v : Value) (n : ℕ) (a : T (shaped (one v))) (b : T (settled (one v))) (c : size (one v) ≡ n) (d : n ≤ 2048) (e : depth (one v) ≤ 64) (f : length (text (one v)) ≤ 65536) → (value_formed v n a b c d e f).value ≡ v
unfolding value_formed
formed_value v n a b c d e f = refl

-- the value of a well-formed table has one of its own
pub own_table : {w : List ℕ} {n : ℕ} {t : List ℕ} (f : WellFormed w n t) → WellFormed (table (one f.value) 0) n (text (one f.value))
own_table f = let e = ap length f.texts in let h = f.short in value_formed f.value _ f.shape f.settle f.counted f.few f.shallow (omega arith)

-- ---- the flipped value

-- the answers with m less the answer where the item is reversed
unfoldable pub turned_items : ℕ → Forest → Forest → Forest
turned_items m reversed nil = nil
turned_items m reversed (node l c nil) = node l c nil
turned_items m reversed (node l c (node a d r)) = node l c (node (cond (holds_int l reversed) (I64L (m - bits a)) a) d (turned_items m reversed r))

-- a Dict's contents with another value under a key
unfoldable pub put_under : List ℕ → Value → Forest → Forest
put_under k v nil = nil
put_under k v (node l c nil) = node l c nil
put_under k v (node l c (node m d r)) = cond (is_key k l) (node l c (node v.label v.contents r)) (node l c (node m d (put_under k v r)))

abbrev turned_answers : Value → Value
turned_answers v = record { label = (answers v).label; contents = turned_items (bits (highest_answer v).label) (reverse v).contents (answers v).contents }

abbrev marked-flag : Value → Value
marked-flag v = record { label = BoolL true; contents = (flipped v).contents }

abbrev pub flip : Value → Value
flip v = record { label = v.label; contents = put_under flipped_key (marked-flag v) (put_under answers_key (turned_answers v) v.contents) }

-- ---- values whose tables have the same form

record SameForm (f g : Forest) : Type 0 where
  sizes : size f ≡ size g
  counts : count f ≡ count g
  depths : depth f ≡ depth g
  texts : text f ≡ text g
  shapes : shaped f ≡ shaped g
  orders : settled f ≡ settled g

alike_same : (f : Forest) → SameForm f f
alike_same f = record { sizes = refl; counts = refl; depths = refl; texts = refl; shapes = refl; orders = refl }

alike_node : (l m : Label) (c d r s : Forest) → text_of l ≡ text_of m → fitting l (count c) ≡ fitting m (count d) → proper l c ≡ proper m d → SameForm c d → SameForm r s → SameForm (node l c r) (node m d s)
unfolding size count depth text shaped settled
alike_node l m c d r s t f p a b =
    record {
      sizes = rw (a.sizes, b.sizes);
      counts = rw b.counts;
      depths = rw (a.depths, b.depths);
      texts = rw (t, a.texts, b.texts);
      shapes = rw (f, a.shapes, b.shapes);
      orders = rw (p, a.orders, b.orders);
    }

-- two values that may stand for one another
record Like (v w : Value) : Type 0 where
  text : text_of v.label ≡ text_of w.label
  fits : fitting v.label (count v.contents) ≡ fitting w.label (count w.contents)
  order : proper v.label v.contents ≡ proper w.label w.contents
  inner : SameForm v.contents w.contents

put_alike : (k : List ℕ) (v : Value) (f : Forest) → Like (under k f) v → SameForm f (put_under k v f)
unfolding put_under under
put_alike k v nil h = alike_same nil
put_alike k v (node l c nil) h = alike_same (node l c nil)
put_alike k v (node l c (node m d r)) h = go (is_key k l) (put_alike k v r) h
  where
    go : (b : Bool) → (Like (under k r) v → SameForm r (put_under k v r)) → Like (cond b (record { label = m; contents = d }) (under k r)) v → SameForm (node l c (node m d r)) (cond b (node l c (node v.label v.contents r)) (node l c (node m d (put_under k v r))))
    go true g h = alike_node l l c c (node m d r) (node v.label v.contents r) refl refl refl (alike_same c) (alike_node m v.label d v.contents r r h.text h.fits h.order h.inner (alike_same r))
    go false g h = alike_node l l c c (node m d r) (node m d (put_under k v r)) refl refl refl (alike_same c) (alike_node m m d d r (put_under k v r) refl refl refl (alike_same d) (g h))

put_keys : (k : List ℕ) (v : Value) (f : Forest) → keys (put_under k v f) ≡ keys f
unfolding put_under keys
put_keys k v nil = refl
put_keys k v (node l c nil) = refl
put_keys k v (node l c (node m d r)) = go (is_key k l) (put_keys k v r)
  where
    go : (b : Bool) → keys (put_under k v r) ≡ keys r → keys (cond b (node l c (node v.label v.contents r)) (node l c (node m d (put_under k v r)))) ≡ node l c (keys r)
    go true e = refl
    go false e = ap (node l c) e

-- ---- what is under the keys then

put_same : (k : List ℕ) (v : Value) (f : Forest) → (kind (under k f).label ≡ 0 → ⊥) → under k (put_under k v f) ≡ v
unfolding put_under under
put_same k v nil h = absurd (h refl)
put_same k v (node l c nil) h = absurd (h refl)
put_same k v (node l c (node m d r)) h = go (is_key k l) refl (put_same k v r) h
  where
    go : (b : Bool) → is_key k l ≡ b → ((kind (under k r).label ≡ 0 → ⊥) → under k (put_under k v r) ≡ v) → (kind (cond b (record { label = m; contents = d }) (under k r)).label ≡ 0 → ⊥) → under k (cond b (node l c (node v.label v.contents r)) (node l c (node m d (put_under k v r)))) ≡ v
    go true e g h = rw e
    go false e g h = rw e (g h)

-- two keys that are not the same
not_both : (j k : List ℕ) (l : Label) → (j ≡ k → ⊥) → is_key j l ≡ true → is_key k l ≡ true → ⊥
unfolding is_key
not_both j k l n x y =
    let p = (both {a = eqb (kind l) 4} x).1 in
    let q = (both {a = eqb (kind l) 4} y).1 in
    n (equal j (text_of l) p ∙ sym (equal k (text_of l) q))
  where
    is : (o : Ordering) → compare_is_eq o ≡ true → o ≡ Ordering.eq
    is Ordering.lt e = cc
    is Ordering.eq e = refl
    is Ordering.gt e = cc

    equal : (s t : List ℕ) → compare_is_eq (lex s t) ≡ true → s ≡ t
    equal s t e = lex_eq s t (is (lex s t) e)

put_other : (j k : List ℕ) (v : Value) (f : Forest) → (j ≡ k → ⊥) → under j (put_under k v f) ≡ under j f
unfolding put_under under
put_other j k v nil n = refl
put_other j k v (node l c nil) n = refl
put_other j k v (node l c (node m d r)) n = go (is_key k l) (is_key j l) refl refl (put_other j k v r n)
  where
    go : (b x : Bool) → is_key k l ≡ b → is_key j l ≡ x → under j (put_under k v r) ≡ under j r → under j (cond b (node l c (node v.label v.contents r)) (node l c (node m d (put_under k v r)))) ≡ cond x (record { label = m; contents = d }) (under j r)
    go true true p q e = absurd (not_both j k l n q p)
    go true false p q e = rw q
    go false true p q e = rw q
    go false false p q e = rw q e

-- ---- labels by their kind

between_int : (a b : ℕ) (l : Label) → between a b l ≡ true → l ≡ I64L (bits l)
unfolding between
between_int a b l e = int_label_lem l (eqb-true (kind l) 2 (both {a = eqb (kind l) 2} e).0)

less_in : (m x : ℕ) → x ≤ m → between 0 m (I64L x) ≡ true
unfolding between
less_in m x h = rw (le-leb 0 x (omega arith), le-leb x m h)

bool_label : (l : Label) → kind l ≡ 1 → l ≡ BoolL (eqb (bits l) 1)
bool_label NoneL h = absurd (omega arith)
bool_label (BoolL true) h = refl
bool_label (BoolL false) h = refl
bool_label (I64L n) h = absurd (omega arith)
bool_label (F64L n) h = absurd (omega arith)
bool_label (BytesL t) h = absurd (omega arith)
bool_label (StringL t) h = absurd (omega arith)
bool_label ListL h = absurd (omega arith)
bool_label TupleL h = absurd (omega arith)
bool_label SetL h = absurd (omega arith)
bool_label FrozenSetL h = absurd (omega arith)
bool_label DictL h = absurd (omega arith)
bool_label (GlobalL m n) h = absurd (omega arith)
bool_label (ObjectL m n b) h = absurd (omega arith)

dict-label : (l : Label) → kind l ≡ 10 → l ≡ DictL
dict-label NoneL h = absurd (omega arith)
dict-label (BoolL b) h = absurd (omega arith)
dict-label (I64L n) h = absurd (omega arith)
dict-label (F64L n) h = absurd (omega arith)
dict-label (BytesL t) h = absurd (omega arith)
dict-label (StringL t) h = absurd (omega arith)
dict-label ListL h = absurd (omega arith)
dict-label TupleL h = absurd (omega arith)
dict-label SetL h = absurd (omega arith)
dict-label FrozenSetL h = absurd (omega arith)
dict-label DictL h = refl
dict-label (GlobalL m n) h = absurd (omega arith)
dict-label (ObjectL m n b) h = absurd (omega arith)

-- a Dict asks for its keys' order only
dict-proper : (l : Label) (c d : Forest) → kind l ≡ 10 → keys c ≡ keys d → proper l c ≡ proper l d
dict-proper l c d k e =
    let i = dict-label l k in
    ap (λ (x : Label). proper x c) i ∙ ap ascending e ∙ ap (λ (x : Label). proper x d) (sym i)

alike_through : (f g h : Forest) → SameForm f g → SameForm g h → SameForm f h
alike_through f g h a b =
    record {
      sizes = a.sizes ∙ b.sizes;
      counts = a.counts ∙ b.counts;
      depths = a.depths ∙ b.depths;
      texts = a.texts ∙ b.texts;
      shapes = a.shapes ∙ b.shapes;
      orders = a.orders ∙ b.orders;
    }

-- ---- the turned answers

turned_alike : (m : ℕ) (h f : Forest) → in_range m f ≡ true → SameForm f (turned_items m h f)
unfolding turned_items in_range
turned_alike m h nil e = alike_same nil
turned_alike m h (node l c nil) e = alike_same (node l c nil)
turned_alike m h (node l c (node a d r)) e =
    let p = both {a = between 1 200 l} e in
    let q = both {a = between 0 m a} p.1 in
    go (holds_int l h) (between_int 0 m a q.0) (turned_alike m h r q.1)
  where
    go : (b : Bool) → a ≡ I64L (bits a) → SameForm r (turned_items m h r) → SameForm (node l c (node a d r)) (node l c (node (cond b (I64L (m - bits a)) a) d (turned_items m h r)))
    go false i g = alike_node l l c c (node a d r) (node a d (turned_items m h r)) refl refl refl (alike_same c) (alike_node a a d d r (turned_items m h r) refl refl refl (alike_same d) g)
    go true i g = alike_node l l c c (node a d r) (node (I64L (m - bits a)) d (turned_items m h r)) refl refl refl (alike_same c) (alike_node a (I64L (m - bits a)) d d r (turned_items m h r) (ap text_of i) (ap (λ (x : Label). fitting x (count d)) i) (ap (λ (x : Label). proper x d) i) (alike_same d) g)

turned-keys : (m : ℕ) (h f : Forest) → keys (turned_items m h f) ≡ keys f
unfolding turned_items keys
turned-keys m h nil = refl
turned-keys m h (node l c nil) = refl
turned-keys m h (node l c (node a d r)) = ap (node l c) (turned-keys m h r)

turned_range : (m : ℕ) (h f : Forest) → in_range m f ≡ true → in_range m (turned_items m h f) ≡ true
unfolding turned_items in_range
turned_range m h nil e = refl
turned_range m h (node l c nil) e = e
turned_range m h (node l c (node a d r)) e =
    let p = both {a = between 1 200 l} e in
    let q = both {a = between 0 m a} p.1 in
    go (holds_int l h) p.0 q.0 (turned_range m h r q.1)
  where
    go : (b : Bool) → between 1 200 l ≡ true → between 0 m a ≡ true → in_range m (turned_items m h r) ≡ true → (between 1 200 l && (between 0 m (cond b (I64L (m - bits a)) a) && in_range m (turned_items m h r))) ≡ true
    go false x y z = rw (x, y, z)
    go true x y z = rw (x, less_in m (m - bits a) (omega arith), z)

-- with the mark set they sum up to what the answers do without it
turned-sum : (m : ℕ) (h f : Forest) → answers_sum m true h (turned_items m h f) ≡ answers_sum m false h f
unfolding turned_items answers_sum
turned-sum m h nil = refl
turned-sum m h (node l c nil) = refl
turned-sum m h (node l c (node a d r)) = go (holds_int l h) (turned-sum m h r)
  where
    go : (b : Bool) → answers_sum m true h (turned_items m h r) ≡ answers_sum m false h r → bits (cond b (I64L (m - bits a)) a) + answers_sum m true h (turned_items m h r) ≡ counted m false b (bits a) + answers_sum m false h r
    go true e = ap (λ (x : ℕ). m - bits a + x) e
    go false e = ap (λ (x : ℕ). bits a + x) e

-- ---- the flipped sheet

differ : (i : ℕ) (j k : List ℕ) → (get_or j i 0 ≡ get_or k i 0 → ⊥) → j ≡ k → ⊥
differ i j k n e = n (ap (λ (s : List ℕ). get_or s i 0) e)

-- what the conditions of a sheet are, one by one
pub record Holds (v : Value) : Type 0 where
  pub dict : kind v.label ≡ 10
  pub answers-dict : kind (answers v).label ≡ 10
  pub reverse-set : kind (reverse v).label ≡ 8
  pub flipped_bool : kind (flipped v).label ≡ 1
  pub max_range : between 1 100 (highest_answer v).label ≡ true
  pub range : in_range (bits (highest_answer v).label) (answers v).contents ≡ true
  pub all : all_answered (keys (answers v).contents) (reverse v).contents ≡ true

pub is_true : (b : Bool) → T b → b ≡ true
is_true true h = refl
is_true false h = absurd h

pub sheet_holds : (v : Value) → Sheet v → Holds v
unfolding is_sheet
sheet_holds v h =
    let a = both {a = eqb (kind v.label) 10} (is_true (is_sheet v) h) in
    let b = both {a = eqb (kind (answers v).label) 10} a.1 in
    let c = both {a = eqb (kind (reverse v).label) 8} b.1 in
    let d = both {a = eqb (kind (flipped v).label) 1} c.1 in
    let e = both {a = between 1 100 (highest_answer v).label} d.1 in
    let f = both {a = in_range (bits (highest_answer v).label) (answers v).contents} e.1 in
    record {
      dict = eqb-true (kind v.label) 10 a.0;
      answers-dict = eqb-true (kind (answers v).label) 10 b.0;
      reverse-set = eqb-true (kind (reverse v).label) 8 c.0;
      flipped_bool = eqb-true (kind (flipped v).label) 1 d.0;
      max_range = e.0;
      range = f.0;
      all = f.1;
    }

holds_sheet : (v : Value) → Holds v → is_sheet v ≡ true
unfolding is_sheet
holds_sheet v h =
    rw (eq-eqb (kind v.label) 10 h.dict, eq-eqb (kind (answers v).label) 10 h.answers-dict, eq-eqb (kind (reverse v).label) 8 h.reverse-set, eq-eqb (kind (flipped v).label) 1 h.flipped_bool, h.max_range, h.range, h.all)

module _ (v : Value) (s : Sheet v) where
  holds_all : Holds v
  holds_all = sheet_holds v s

  flipped-before : under flipped_key (put_under answers_key (turned_answers v) v.contents) ≡ flipped v
  flipped-before = put_other flipped_key answers_key (turned_answers v) v.contents (differ 0 flipped_key answers_key (λ e. omega arith))

  answers-flip : answers (flip v) ≡ turned_answers v
  answers-flip =
      put_other answers_key flipped_key (marked-flag v) (put_under answers_key (turned_answers v) v.contents) (differ 0 answers_key flipped_key (λ e. omega arith))
      ∙ put_same answers_key (turned_answers v) v.contents (λ e. let k = holds_all.answers-dict in omega arith)

  reverse-flip : reverse (flip v) ≡ reverse v
  reverse-flip =
      put_other reverse_key flipped_key (marked-flag v) (put_under answers_key (turned_answers v) v.contents) (differ 0 reverse_key flipped_key (λ e. omega arith))
      ∙ put_other reverse_key answers_key (turned_answers v) v.contents (differ 0 reverse_key answers_key (λ e. omega arith))

  highest-flip : highest_answer (flip v) ≡ highest_answer v
  highest-flip =
      put_other max_key flipped_key (marked-flag v) (put_under answers_key (turned_answers v) v.contents) (differ 0 max_key flipped_key (λ e. omega arith))
      ∙ put_other max_key answers_key (turned_answers v) v.contents (differ 0 max_key answers_key (λ e. omega arith))

  flipped-flip : flipped (flip v) ≡ marked-flag v
  flipped-flip = put_same flipped_key (marked-flag v) (put_under answers_key (turned_answers v) v.contents) (λ e. let k = holds_all.flipped_bool in let q = ap (λ (x : Value). kind x.label) flipped-before in omega arith)

  -- it is a sheet, and its mark is set
  pub flip-sheet : is_sheet (flip v) ≡ true
  flip-sheet =
      holds_sheet (flip v)
      (record {
        dict = holds_all.dict;
        answers-dict = ap (λ (x : Value). kind x.label) answers-flip ∙ holds_all.answers-dict;
        reverse-set = ap (λ (x : Value). kind x.label) reverse-flip ∙ holds_all.reverse-set;
        flipped_bool = ap (λ (x : Value). kind x.label) flipped-flip;
        max_range = ap (λ (x : Value). between 1 100 x.label) highest-flip ∙ holds_all.max_range;
        range = ap₂ (λ (x y : Value). in_range (bits x.label) y.contents) highest-flip answers-flip ∙ turned_range (bits (highest_answer v).label) (reverse v).contents (answers v).contents holds_all.range;
        all = ap₂ (λ (x y : Value). all_answered (keys x.contents) y.contents) answers-flip reverse-flip ∙ ap (λ (x : Forest). all_answered x (reverse v).contents) (turned-keys (bits (highest_answer v).label) (reverse v).contents (answers v).contents) ∙ holds_all.all;
      })

  pub flip-marked : marked (flip v) ≡ true
  unfolding marked
  flip-marked = ap (λ (x : Value). eqb (bits x.label) 1) flipped-flip

  -- its items are as many, and its score is what the sheet's is without a mark
  pub flip-items : items_of (flip v) ≡ items_of v
  unfolding items_of
  flip-items = ap (λ (x : Value). half (count x.contents)) answers-flip ∙ ap half (sym (turned_alike (bits (highest_answer v).label) (reverse v).contents (answers v).contents holds_all.range).counts)

  pub flip_score : marked v ≡ false → score_of (flip v) ≡ score_of v
  unfolding score_of
  flip_score e = rw (flip-marked, answers-flip, reverse-flip, highest-flip, e) (turned-sum (bits (highest_answer v).label) (reverse v).contents (answers v).contents)

  -- ---- its table

  flip_like : Like (flipped v) (marked-flag v)
  flip_like =
      let i = bool_label (flipped v).label holds_all.flipped_bool in
      record {
        text = ap text_of i;
        fits = ap (λ (x : Label). fitting x (count (flipped v).contents)) i;
        order = ap (λ (x : Label). proper x (flipped v).contents) i;
        inner = alike_same (flipped v).contents;
      }

  answers_like : Like (answers v) (turned_answers v)
  answers_like =
      let a = turned_alike (bits (highest_answer v).label) (reverse v).contents (answers v).contents holds_all.range in
      record {
        text = refl;
        fits = ap (fitting (answers v).label) a.counts;
        order = dict-proper (answers v).label (answers v).contents _ holds_all.answers-dict (sym (turned-keys (bits (highest_answer v).label) (reverse v).contents (answers v).contents));
        inner = a;
      }

  contents_alike : SameForm v.contents (flip v).contents
  contents_alike =
      alike_through v.contents (put_under answers_key (turned_answers v) v.contents) (flip v).contents (put_alike answers_key (turned_answers v) v.contents answers_like)
      (put_alike flipped_key (marked-flag v) (put_under answers_key (turned_answers v) v.contents) (rw flipped-before flip_like))

  flip_alike : SameForm (one v) (one (flip v))
  flip_alike =
      let a = contents_alike in
      let k : keys v.contents ≡ keys (flip v).contents = sym (put_keys flipped_key (marked-flag v) (put_under answers_key (turned_answers v) v.contents) ∙ put_keys answers_key (turned_answers v) v.contents) in
      alike_node v.label v.label v.contents (flip v).contents nil nil refl (ap (fitting v.label) a.counts) (dict-proper v.label v.contents (flip v).contents holds_all.dict k) a (alike_same nil)

  pub flip_formed : {w : List ℕ} {n : ℕ} {t : List ℕ} (f : WellFormed w n t) → f.value ≡ v → WellFormed (table (one (flip v)) 0) n (text (one (flip v)))
  flip_formed {w} {n} {t} f e =
      let a = flip_alike in
      let z : size (one (flip v)) ≡ n = sym a.sizes ∙ ap (λ (x : Value). size (one x)) (sym e) ∙ f.counted in
      let d : depth (one (flip v)) ≡ depth (one f.value) = sym a.depths ∙ ap (λ (x : Value). depth (one x)) (sym e) in
      let u : text (one (flip v)) ≡ t = sym a.texts ∙ ap (λ (x : Value). text (one x)) (sym e) ∙ sym f.texts in
      let deep = f.shallow in
      let brief = f.short in
      let len = ap length u in
      value_formed (flip v) n (rw (← a.shapes, ← e) f.shape) (rw (← a.orders, ← e) f.settle) z f.few (omega arith) (omega arith)

  pub flip-value : {w : List ℕ} {n : ℕ} {t : List ℕ} (f : WellFormed w n t) (e : f.value ≡ v) → (flip_formed f e).value ≡ flip v
  unfolding flip_formed
  flip-value f e = formed_value (flip v) _ _ _ _ _ _ _
