-- RULES, Ask 13, on the compare call: over well-formed tables its sign is turned round with its arguments, what is before what is
-- before another is before it, and the sign is 0 exactly for identical tables with identical texts. The laws are those of the order of
-- values (OrderLaws and Total of crate value). There `lex` has them for what a label is ordered by, a number or bytes, `forests` for what
-- is ordered part by part, and `then` joins the two. A kind is an instance by its `key`, `name` and `new`; only that these determine a
-- label goes by kinds (`make_is`).
use Prim.Native.Nat.{ℕ, suc, zero, ◌*◌, Ordering}
use Rattle.std.specs.Prelude.{List, ◌≡◌, ◌≢◌, take, ℤ, pos, negsuc, neg_ℤ}
use Rattle.std.proofs.Math.Path.{refl, sym, ap₂}
use Rattle.std.proofs.Common.{◌∙◌, ap}
use Rattle.value.specs.Value.{Label, Forest, Value, one, size, text, table, count}
use Rattle.value.specs.Tabled.{table_one}
use Rattle.value.specs.Order.{order}
use Rattle.value.specs.OrderLaws.{swap, order-swap}
use Rattle.value.specs.Total.{order_same, order_equal, order-less}
use Rattle.value.specs.WellFormed.{WellFormed}
use Rattle.table.specs.Compare.{Compares, sign_of}
use Rattle.table.specs.declared.Compared.{Compared}

-- ---- signs

sign_turned : (o : Ordering) → sign_of (swap o) ≡ neg_ℤ (sign_of o)
sign_turned Ordering.lt = refl
sign_turned Ordering.eq = refl
sign_turned Ordering.gt = refl

-- the order that a sign is of
order_of : ℤ → Ordering
order_of (pos zero) = Ordering.eq
order_of (pos (suc n)) = Ordering.gt
order_of (negsuc n) = Ordering.lt

sign_back : (o : Ordering) → order_of (sign_of o) ≡ o
unfolding order_of
sign_back Ordering.lt = refl
sign_back Ordering.eq = refl
sign_back Ordering.gt = refl

sign_one : (o p : Ordering) → sign_of o ≡ sign_of p → o ≡ p
sign_one o p e = sym (sign_back o) ∙ (ap order_of e ∙ sign_back p)

-- ---- identical

-- the same records up to their counts, and the same text; words behind the counts do not matter
pub record Identical (w : List ℕ) (n : ℕ) (t : List ℕ) (v : List ℕ) (m : ℕ) (u : List ℕ) : Type 0 where
  pub counts : n ≡ m
  pub records : take (4 * n) w ≡ take (4 * m) v
  pub texts : t ≡ u

module _ (w : List ℕ) (n : ℕ) (t : List ℕ) (v : List ℕ) (m : ℕ) (u : List ℕ) (a : WellFormed w n t) (b : WellFormed v m u) where
  same_identical : a.value ≡ b.value → Identical w n t v m u
  same_identical e =
      let f : one a.value ≡ one b.value = ap one e in
      record {
        counts = sym a.counted ∙ (ap size f ∙ b.counted);
        records = a.records ∙ (ap (λ (x : Forest). table x 0) f ∙ sym b.records);
        texts = a.texts ∙ (ap text f ∙ sym b.texts);
      }

  identical_same : Identical w n t v m u → a.value ≡ b.value
  unfolding count
  identical_same i =
      let r : table (one a.value) 0 ≡ table (one b.value) 0 = sym a.records ∙ (i.records ∙ b.records) in
      let x : text (one a.value) ≡ text (one b.value) = sym a.texts ∙ (i.texts ∙ b.texts) in
      let f : one a.value ≡ one b.value = table_one (one a.value) (one b.value) a.shape b.shape refl r x in
      let l : a.value.label ≡ b.value.label = cc in
      let c : a.value.contents ≡ b.value.contents = cc in
      ap₂ (λ (x : Label) (y : Forest). let z : Value = record { label = x; contents = y } in z) l c

-- ---- the laws

-- compare of two well-formed tables succeeds, with the sign of their values' order
module _ {w : List ℕ} {n : ℕ} {t : List ℕ} {v : List ℕ} {m : ℕ} {u : List ℕ} {r : Compared} (a : WellFormed w n t) (b : WellFormed v m u) (c : Compares w n t v m u r) where
  sign_is : r.sign ≡ sign_of (order a.value b.value)
  sign_is = ap (λ (x : Compared). x.sign) (c.both a b)

  -- exchanging the arguments reverses the sign
  pub compare_turned : (s : Compared) → Compares v m u w n t s → s.sign ≡ neg_ℤ r.sign
  compare_turned s d = ap (λ (x : Compared). x.sign) (d.both b a) ∙ (ap sign_of (order-swap a.value b.value) ∙ (sign_turned (order a.value b.value) ∙ ap neg_ℤ (sym sign_is)))

  -- 0 exactly for identical tables with identical texts
  pub compare_identical : Identical w n t v m u → r.sign ≡ pos 0
  compare_identical i = sign_is ∙ ap sign_of (ap (order a.value) (sym (identical_same w n t v m u a b i)) ∙ order_same a.value)

  pub compare_zero : r.sign ≡ pos 0 → Identical w n t v m u
  compare_zero z = same_identical w n t v m u a b (order_equal a.value b.value (sign_one (order a.value b.value) Ordering.eq (sym sign_is ∙ z)))

  -- so that sorting by the call is well defined: of two tables that are not identical one is before the other
  pub compare_decides : r.sign ≢ negsuc 0 → r.sign ≢ pos 1 → Identical w n t v m u
  compare_decides x y = compare_zero (go (order a.value b.value) sign_is)
    where
      go : (o : Ordering) → r.sign ≡ sign_of o → r.sign ≡ pos 0
      go Ordering.lt e = absurd (x e)
      go Ordering.eq e = e
      go Ordering.gt e = absurd (y e)

  -- from a before b and b before c follows a before c
  pub compare_through : {k : List ℕ} {l : ℕ} {j : List ℕ} {s q : Compared} → WellFormed k l j → Compares v m u k l j s → Compares w n t k l j q → r.sign ≡ negsuc 0 → s.sign ≡ negsuc 0 → q.sign ≡ negsuc 0
  compare_through {s = s} {q = q} g d e x y =
      let p : order a.value b.value ≡ Ordering.lt = sign_one (order a.value b.value) Ordering.lt (sym sign_is ∙ x) in
      let f : s.sign ≡ sign_of (order b.value g.value) = ap (λ (z : Compared). z.sign) (d.both b g) in
      let h : order b.value g.value ≡ Ordering.lt = sign_one (order b.value g.value) Ordering.lt (sym f ∙ y) in
      ap (λ (z : Compared). z.sign) (e.both a g) ∙ ap sign_of (order-less a.value b.value g.value p h)
