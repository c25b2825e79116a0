-- What the compare call answers: number, detail and sign by RULES A4.5, for any two lent tables.
use Prim.Native.Nat.{ℕ, ◌*◌, Ordering}
use Rattle.std.specs.Prelude.{Bool, true, false, List, [], ◌++◌, ◌≡◌, refl, ◌⊎◌, length, drop, ℤ, pos, negsuc, ltb, eqb}
use Rattle.std.proofs.Common.{append-nil, sym, ◌∙◌, ap, inl, inr, take-append-drop, ltb-true, ltb-false, eqb-true, arith}
use Rattle.std.proofs.lemmas.Bool.{eqb-false}
use Rattle.refusal.specs.Numbers.{number_of}
use Rattle.refusal.specs.declared.Which.{Which}
use Rattle.refusal.specs.declared.Which.TheVariants.{First, Second}
use Rattle.refusal.specs.declared.Refusal.TheVariants.{BadTable}
use Rattle.value.specs.Value.{Value, one, text, table}
use Rattle.value.specs.Stands.{Stands, Begins}
use Rattle.value.specs.Tabled.{table_stands}
use Rattle.value.specs.Order.{order}
use Rattle.value.specs.WellFormed.{WellFormed}
use Rattle.table.specs.Find.{find_many, find}
use Rattle.table.specs.Check.{Lent, checked_of}
use Rattle.table.specs.Verdict.{formed_found, found_formed}
use Rattle.table.specs.declared.Compared.{Compared}
use Rattle.std.specs.declared.option.Option.{Option}
use Rattle.std.specs.declared.option.Option.TheVariants.{None, Some}

-- -1, 0 or 1
abbrev pub sign_of : Ordering → ℤ
sign_of Ordering.lt = negsuc 0
sign_of Ordering.eq = pos 0
sign_of Ordering.gt = pos 1

-- BadTable, with the table as its detail, and sign 0
abbrev pub bad_table : Which → Compared
bad_table which = record { number = (number_of (BadTable which)).0; detail = (number_of (BadTable which)).1; sign = pos 0 }

-- number 0, and the sign
abbrev pub ordered : Ordering → Compared
ordered o = record { number = 0; detail = 0; sign = sign_of o }

-- the first table is looked at first; both well formed, the order of their values
pub record Compares (w : List ℕ) (n : ℕ) (t : List ℕ) (v : List ℕ) (m : ℕ) (u : List ℕ) (r : Compared) : Type 0 where
  pub first : (WellFormed w n t → ⊥) → r ≡ bad_table First
  pub second : WellFormed w n t → (WellFormed v m u → ⊥) → r ≡ bad_table Second
  pub both : (a : WellFormed w n t) (b : WellFormed v m u) → r ≡ ordered (order a.value b.value)

-- ---- a table is well formed or it is not

pub decided : (w : List ℕ) (n : ℕ) (t : List ℕ) → WellFormed w n t ⊎ (WellFormed w n t → ⊥)
decided w n t = go (ltb 2048 n) (ltb (length w) (4 * n)) (ltb 65536 (length t)) refl refl refl
  where
    last : Lent w n t → (s : Option (ℕ × ℕ)) → checked_of (find_many (find w n t 64) 1 0 0) ≡ s → WellFormed w n t ⊎ (WellFormed w n t → ⊥)
    last lent None e = inr (λ a. let x = formed_found w n t a in let z : ◌≡◌ {A = ℕ} 0 1 = cc in omega arith)
    last lent (Some (j, d)) e = ends (eqb j n) (eqb d (length t)) refl refl
      where
        same : WellFormed w n t → ◌≡◌ {A = ℕ × ℕ} (j, d) (n, length t)
        same a = cc (e, formed_found w n t a)

        ends : (p q : Bool) → eqb j n ≡ p → eqb d (length t) ≡ q → WellFormed w n t ⊎ (WellFormed w n t → ⊥)
        ends true true x y = inl (found_formed w n t lent (e ∙ rw (eqb-true j n x, eqb-true d (length t) y)))
        ends true false x y = inr (λ a. eqb-false d (length t) y (ap (λ x. x.1) (same a)))
        ends false q x y = inr (λ a. eqb-false j n x (ap (λ x. x.0) (same a)))

    go : (p q r : Bool) → ltb 2048 n ≡ p → ltb (length w) (4 * n) ≡ q → ltb 65536 (length t) ≡ r → WellFormed w n t ⊎ (WellFormed w n t → ⊥)
    go true q r x y z = inr (λ a. let f = a.few in let g = ltb-true 2048 n x in omega arith)
    go false true r x y z = inr (λ a. let f = a.lent in let g = ltb-true (length w) (4 * n) y in omega arith)
    go false false true x y z = inr (λ a. let f = a.short in let g = ltb-true 65536 (length t) z in omega arith)
    go false false false x y z = last (record { room = ltb-false (length w) (4 * n) y; few = ltb-false 2048 n x; short = ltb-false 65536 (length t) z }) (checked_of (find_many (find w n t 64) 1 0 0)) refl

-- the answer is determined
pub compare_one : (w : List ℕ) (n : ℕ) (t : List ℕ) (v : List ℕ) (m : ℕ) (u : List ℕ) (r s : Compared) → Compares w n t v m u r → Compares w n t v m u s → r ≡ s
compare_one w n t v m u r s x y = go (decided w n t) (decided v m u)
  where
    go : WellFormed w n t ⊎ (WellFormed w n t → ⊥) → WellFormed v m u ⊎ (WellFormed v m u → ⊥) → r ≡ s
    go (inr a) b = x.first a ∙ sym (y.first a)
    go (inl a) (inr b) = x.second a b ∙ sym (y.second a b)
    go (inl a) (inl b) = x.both a b ∙ sym (y.both a b)

-- the value of a well-formed table stands at its first record
pub formed_stands : (w : List ℕ) (n : ℕ) (t : List ℕ) (a : WellFormed w n t) → Stands w t 0 (one a.value)
formed_stands w n t a =
    let f = one a.value in
    let e : drop (4 * 0) w ≡ table f 0 ++ drop (4 * n) w = sym (take-append-drop (4 * n) w) ∙ rw a.records in
    let d : drop 0 t ≡ text f ++ [] = a.texts ∙ sym (append-nil (text f)) in
    table_stands w t f 0 0 (drop (4 * n) w) [] a.shape e d (omega arith)

pub formed_begins : (w : List ℕ) (n : ℕ) (t : List ℕ) → WellFormed w n t → Begins w t 0
formed_begins w n t a = record { value = a.value; stands = formed_stands w n t a }

-- ---- the code's answers

module _ (w : List ℕ) (n : ℕ) (t : List ℕ) (v : List ℕ) (m : ℕ) (u : List ℕ) (r : Compared) where
  pub compares_both : (o : Ordering) → WellFormed w n t → WellFormed v m u → r ≡ ordered o → ((x y : Value) → Stands w t 0 (one x) → Stands v u 0 (one y) → o ≡ order x y) → Compares w n t v m u r
  compares_both o a b e h =
      record {
        first = λ q. absurd (q a);
        second = λ x q. absurd (q b);
        both = λ x y. e ∙ ap ordered (h x.value y.value (formed_stands w n t x) (formed_stands v m u y));
      }
