-- A table is well formed exactly where one value is found in it that fills its records and its text.
use Rattle.std.specs.Prelude.{nat_eq, ◌&&◌, ℕ, ◌+◌, ◌*◌, ◌≡◌, take}
use mathlib.Core.List.{List, [], ◌++◌, append-nil}
use Rattle.std.proofs.Math.Path.{sym, ap}
use Rattle.std.proofs.Common.{◌∙◌, take-append-drop, eq-eqb}
use Rattle.std.proofs.lemmas.Bool.Decides.{nat_tests}
use Rattle.std.proofs.Math.ListN.{length, drop}
use Rattle.std.proofs.Math.Seq.{take_at, drop-length}
use native.Mathlib.Omega.{arith}
use Rattle.value.specs.Value.{Forest, one, text, count, size, table, table-length, nil, node}
use Rattle.value.specs.WellFormed.{WellFormed}
use Rattle.table.specs.Find.{good, find_many, find}
use Rattle.table.specs.Complete.{row_complete}
use Rattle.table.specs.Sound.{ValuesPlaced, contents-placed}
use Rattle.table.specs.Check.{Lent, checked_of, was_good}
use Rattle.table.specs.Decides.{YesIff}
use Rattle.std.specs.declared.option.Option.{Option}
use Rattle.std.specs.declared.option.Option.TheVariants.{None, Some}
use Rattle.std.specs.Option.{option_eq}

module _ (w : List ℕ) (n : ℕ) (t : List ℕ) where
  -- a well-formed table is found to be one
  pub formed_found : WellFormed w n t → checked_of (find_many (find w n t 64) 1 0 0) ≡ Some (n, length t)
  unfolding count checked_of
  formed_found a =
      let f = one a.value in
      let e : drop (4 * 0) w ≡ table f 0 ++ drop (4 * n) w = sym (take-append-drop (4 * n) w) ∙ rw a.records in
      let d : drop 0 t ≡ text f ++ [] = a.texts ∙ sym (append-nil (text f)) in
      let s : 0 + size f ≡ n = let q = a.counted in omega arith in
      let u : 0 + length (text f) ≡ length t = let q = ap length a.texts in omega arith in
      let r : find_many (find w n t 64) 1 0 0 ≡ good f n (length t) = row_complete w n t f 64 0 0 (drop (4 * n) w) [] a.shape a.settle a.shallow e d (omega arith) (omega arith) ∙ rw (s, u) in
      ap checked_of r

  -- what is found and fills the table makes it well formed
  module _ (lent : Lent w n t) where
    single : (f : Forest) → ValuesPlaced w n t 1 64 0 0 f n (length t) → WellFormed w n t
    unfolding count
    single nil q = let c = q.counted in absurd (omega arith)
    single (node l c (node m d r)) q = let c = q.counted in absurd (omega arith)
    single (node l c nil) q =
        let f = node l c nil in
        let len : length (table f 0) ≡ 4 * n = let x = q.next in table-length f 0 ∙ omega arith in
        record {
          value = record { label = l; contents = c };
          shape = q.shape;
          settle = q.settle;
          counted = let x = q.next in omega arith;
          few = lent.few;
          shallow = q.shallow;
          lent = lent.room;
          records = ap (take (4 * n)) q.records ∙ take_at (table f 0) (drop (4 * n) w) (4 * n) len;
          texts = q.texts ∙ rw (drop-length t) (append-nil (text f));
          short = lent.short;
        }

    pub found_formed : checked_of (find_many (find w n t 64) 1 0 0) ≡ Some (n, length t) → WellFormed w n t
    found_formed h =
        let a = was_good (find_many (find w n t 64) 1 0 0) h in
        single a.forest (contents-placed w n t lent.room 64 1 0 0 (omega arith) a.is)

-- whether what is found ends there
pub ends_at : (r : Option (ℕ × ℕ)) (n u : ℕ) → YesIff (option_eq (λ (x y : ℕ × ℕ). nat_eq x.0 y.0 && nat_eq x.1 y.1) r (Some (n, u))) (r ≡ Some (n, u))
ends_at None n u = record { yes = λ h. cc; always = λ h. cc }
ends_at (Some (j, e)) n u =
    record {
      yes = λ h. let p : j ≡ n = grind (arith, nat_tests) in let q : e ≡ u = grind (arith, nat_tests) in rw (p, q);
      always = λ h. let q : ◌≡◌ {A = ℕ × ℕ} (j, e) (n, u) = cc in rw (eq-eqb j n (ap (λ x. x.0) q), eq-eqb e u (ap (λ x. x.1) q));
    }
