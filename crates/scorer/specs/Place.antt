-- Values that lie in a table in the form of RULES A2, from a record on: what their records say, and where the next ones lie.
use Prim.Native.Nat.{ℕ, suc, ◌+◌, ◌-◌, ◌*◌, ◌≤◌, ◌<◌}
use Rattle.std.specs.Prelude.{Bool, true, false, ◌&&◌, ◌≡◌}
use mathlib.Core.List.{List, [], ◌++◌, append_assoc, append-nil}
use Rattle.std.proofs.Math.Path.{sym, ap}
use Rattle.std.proofs.Common.{◌∙◌, length-drop, take-append-drop, drop-drop, get_or-drop, lit<}
use Rattle.std.proofs.Math.ListN.{length, length-append, get_or, drop, get_or-append}
use Rattle.std.proofs.Math.Seq.{drop-append_seam, drop_at}
use Rattle.std.proofs.Math.Dec.{T}
use native.Mathlib.Omega.{arith}
use Rattle.value.specs.Value.{Label, Forest, one, text_of, text, count, size, record_of, record_length, table, table-length, nil, node}
use Rattle.value.specs.Shape.{fitting, shaped, and_l, and_r}
use Rattle.value.specs.Stands.{word_at, label_at, arity_at, Says}
use Rattle.value.specs.Tabled.{says_at}
use Rattle.value.specs.WellFormed.{WellFormed}
use Rattle.table.specs.Sound.{size_at, RecordWords, own, leaf-size}

pub record Lies (w t : List ℕ) (i : ℕ) (f : Forest) : Type 0 where
  pub place : ℕ
  pub more : List ℕ
  pub others : List ℕ
  pub shape : T (shaped f)
  pub records : drop (4 * i) w ≡ table f place ++ more
  pub texts : drop place t ≡ text f ++ others
  pub inside : place ≤ length t

-- the value of a well-formed table
pub formed_lies : {w : List ℕ} {n : ℕ} {t : List ℕ} (a : WellFormed w n t) → Lies w t 0 (one a.value)
formed_lies {w} {n} {t} a =
    record {
      place = 0;
      more = drop (4 * n) w;
      others = [];
      shape = a.shape;
      records = sym (take-append-drop (4 * n) w) ∙ rw a.records;
      texts = a.texts ∙ sym (append-nil (text (one a.value)));
      inside = omega arith;
    }

-- the first value, its contents, and those behind it
pub record FirstAndRest (w t : List ℕ) (i : ℕ) (l : Label) (c r : Forest) : Type 0 where
  pub says : Says w t i l (count c)
  pub sized : size_at w i ≡ suc (size c)
  pub fits : T (fitting l (count c))
  pub ends : 4 * (i + suc (size c)) ≤ length w
  pub contents : Lies w t (i + 1) c
  pub alone : Lies w t i (node l c nil)
  pub rest : Lies w t (i + 1 + size c) r

T-all : (a b : Bool) → T a → T b → T (a && (b && true))
T-all true true x y = tt
T-all true false x y = absurd y
T-all false b x y = absurd x

module _ {w t : List ℕ} {i : ℕ} {l : Label} {c r : Forest} where
  pub parts : Lies w t i (node l c r) → FirstAndRest w t i l c r
  unfolding table text shaped
  parts q =
      let p = q.place in
      let x = q.more in
      let s = q.others in
      let n = count c in
      let z = suc (size c) in
      let u = p + length (text_of l) in
      let v = u + length (text c) in
      let h = q.shape in
      let fits : T (fitting l n) = and_l (fitting l n) (shaped c && shaped r) h in
      let hc : T (shaped c) = and_l (shaped c) (shaped r) (and_r (fitting l n) (shaped c && shaped r) h) in
      let hr : T (shaped r) = and_r (shaped c) (shaped r) (and_r (fitting l n) (shaped c && shaped r) h) in
      let y = table c u ++ (table r v ++ x) in
      let e0 : drop (4 * i) w ≡ record_of l p n z ++ y = q.records ∙ rw (append_assoc (record_of l p n z), append_assoc (table c u)) in
      let d0 : drop p t ≡ text_of l ++ (text c ++ (text r ++ s)) = q.texts ∙ rw (append_assoc (text_of l), append_assoc (text c)) in
      let k1 : 4 * i + 4 ≡ 4 * (i + 1) = omega arith in
      let e1 : drop (4 * (i + 1)) w ≡ table c u ++ (table r v ++ x) = rw k1 at (sym (drop-drop 4 (4 * i) w) ∙ ap (drop 4) e0 ∙ drop_at (record_of l p n z) y 4 (record_length l p n z)) in
      let d1 : drop u t ≡ text c ++ (text r ++ s) = sym (drop-drop (length (text_of l)) p t) ∙ ap (drop (length (text_of l))) d0 ∙ drop-append_seam (text_of l) _ in
      let k2 : 4 * (i + 1) + length (table c u) ≡ 4 * (i + 1 + size c) = rw (table-length c u) (omega arith) in
      let e2 : drop (4 * (i + 1 + size c)) w ≡ table r v ++ x = rw k2 at (sym (drop-drop (length (table c u)) (4 * (i + 1)) w) ∙ ap (drop (length (table c u))) e1 ∙ drop-append_seam (table c u) _) in
      let d2 : drop v t ≡ text r ++ s = sym (drop-drop (length (text c)) u t) ∙ ap (drop (length (text c))) d1 ∙ drop-append_seam (text c) _ in
      let left0 : length t - p ≡ length (text_of l) + length (text c ++ (text r ++ s)) = sym (length-drop p t) ∙ ap length d0 ∙ length-append (text_of l) _ in
      let left1 : length t - u ≡ length (text c) + length (text r ++ s) = sym (length-drop u t) ∙ ap length d1 ∙ length-append (text c) _ in
      let b = q.inside in
      let whole : length w - 4 * i ≡ 4 + (4 * size c + length (table r v ++ x)) = sym (length-drop (4 * i) w) ∙ ap length e0 ∙ simp (length-append, record_length, table-length) in
      let u_in : u ≤ length t = omega arith in
      let v_in : v ≤ length t = omega arith in
      let says = says_at w t l p i n z y (text c ++ (text r ++ s)) fits e0 d0 b in
      let word : (k : ℕ) → word_at w i k ≡ get_or (record_of l p n z ++ y) k 0 = λ k. sym (get_or-drop (4 * i) w k 0) ∙ ap (λ (a : List ℕ). get_or a k 0) e0 in
      let same : (k : ℕ) → k < 4 → word_at w i k ≡ get_or (record_of l p n z) k 0 = λ k j. word k ∙ get_or-append (record_of l p n z) y 0 k (rw (record_length l p n z) j) in
      let here : RecordWords w i (record_of (label_at w t i) p (arity_at w i) z) = rw (says.label, says.arity) (record { w0 = same 0 (lit< tt); w1 = same 1 (lit< tt); w2 = same 2 (lit< tt); w3 = same 3 (lit< tt) }) in
      record {
        says = says;
        sized = (own w t i p z here).size (λ o. leaf-size c (arity_at w i) (sym says.arity) o);
        fits = fits;
        ends = omega arith;
        contents = record { place = u; more = table r v ++ x; others = text r ++ s; shape = hc; records = e1; texts = d1; inside = u_in };
        alone =
            record {
              place = p;
              more = table r v ++ x;
              others = text r ++ s;
              shape = T-all (fitting l n) (shaped c) fits hc;
              records = e0 ∙ rw (append-nil (table c u), append_assoc (record_of l p n z));
              texts = d0 ∙ rw (append-nil (text c), append_assoc (text_of l));
              inside = b;
            };
        rest = record { place = v; more = x; others = s; shape = hr; records = e2; texts = d2; inside = v_in };
      }
