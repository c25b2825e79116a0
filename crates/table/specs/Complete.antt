-- What stands in a table in the form of RULES A2 is found there.
use Prim.Native.Nat.{ℕ, suc, zero, ◌+◌, ◌-◌, ◌*◌, ◌≤◌, ◌<◌}
use Rattle.std.specs.Prelude.{Bool, true, false, ◌≡◌, refl, T}
use mathlib.Core.List.{List, ◌++◌, append_assoc}
use Rattle.std.proofs.Math.Path.{sym, ap}
use Rattle.std.proofs.Common.{◌∙◌, length-drop, drop-drop, get_or-drop, lit<}
use Rattle.std.proofs.Math.ListN.{length, length-append, get_or, drop, get_or-append}
use Rattle.std.proofs.Math.Seq.{drop-append_seam, drop_at}
use borrow.Author.Tests.{eq-eqb, lt-ltb}
use native.Mathlib.Omega.{arith}
use Rattle.value.specs.Value.{Label, Forest, text_of, text, count, size, depth, word0, words, record_of, words-length, record_length, table, table-length, nil, node}
use Rattle.value.specs.Shape.{fitting, shaped, and_l, and_r}
use Rattle.value.specs.Stands.{◌⊕◌, word_at, Says, Stands}
use Rattle.value.specs.Tabled.{table_stands}
use Rattle.value.specs.WellFormed.{proper, settled}
use Rattle.table.specs.Find.{Found, good, has_record, close, join, find_many, find}

pub T_true : (b : Bool) → T b → b ≡ true
T_true true h = refl
T_true false h = absurd h

-- the records and the text of the first value, of its contents, and of the values after it
pub record Parts (w t : List ℕ) (i p : ℕ) (l : Label) (c r : Forest) (x s : List ℕ) : Type 0 where
  pub own : drop (4 * i) w ≡ record_of l p (count c) (suc (size c)) ++ (table c (p + length (text_of l)) ++ (table r (p + length (text_of l) + length (text c)) ++ x))
  pub contents : drop (4 * (i + 1)) w ≡ table c (p + length (text_of l)) ++ (table r (p + length (text_of l) + length (text c)) ++ x)
  pub after : drop (4 * (i + 1 + size c)) w ≡ table r (p + length (text_of l) + length (text c)) ++ x
  pub contents-text : drop (p + length (text_of l)) t ≡ text c ++ (text r ++ s)
  pub after_text : drop (p + length (text_of l) + length (text c)) t ≡ text r ++ s
  pub contents_in : p + length (text_of l) ≤ length t
  pub after_in : p + length (text_of l) + length (text c) ≤ length t

module _ (w t : List ℕ) where
  pub parts : (i p : ℕ) (l : Label) (c r : Forest) (x s : List ℕ) → drop (4 * i) w ≡ table (node l c r) p ++ x → drop p t ≡ text (node l c r) ++ s → p ≤ length t → Parts w t i p l c r x s
  unfolding table text
  parts i p l c r x s e d b =
      let n = count c in
      let z = suc (size c) in
      let q = p + length (text_of l) in
      let u = q + length (text c) in
      let y = table c q ++ (table r u ++ x) in
      let e0 : drop (4 * i) w ≡ record_of l p n z ++ y = e ∙ rw (append_assoc (record_of l p n z), append_assoc (table c q)) in
      let d0 : drop p t ≡ text_of l ++ (text c ++ (text r ++ s)) = d ∙ rw (append_assoc (text_of l), append_assoc (text c)) in
      let k1 : 4 * i + 4 ≡ 4 * (i + 1) = omega arith in
      let e1 : drop (4 * (i + 1)) w ≡ table c q ++ (table r u ++ x) = rw k1 at (sym (drop-drop 4 (4 * i) w) ∙ ap (drop 4) e0 ∙ drop_at (record_of l p n z) y 4 (record_length l p n z)) in
      let d1 : drop q t ≡ text c ++ (text r ++ s) = sym (drop-drop (length (text_of l)) p t) ∙ ap (drop (length (text_of l))) d0 ∙ drop-append_seam (text_of l) _ in
      let k2 : 4 * (i + 1) + length (table c q) ≡ 4 * (i + 1 + size c) = rw (table-length c q) (omega arith) in
      let e2 : drop (4 * (i + 1 + size c)) w ≡ table r u ++ x = rw k2 at (sym (drop-drop (length (table c q)) (4 * (i + 1)) w) ∙ ap (drop (length (table c q))) e1 ∙ drop-append_seam (table c q) _) in
      let d2 : drop u t ≡ text r ++ s = sym (drop-drop (length (text c)) q t) ∙ ap (drop (length (text c))) d1 ∙ drop-append_seam (text c) _ in
      let left0 : length t - p ≡ length (text_of l) + length (text c ++ (text r ++ s)) = sym (length-drop p t) ∙ ap length d0 ∙ length-append (text_of l) _ in
      let q_in : q ≤ length t = omega arith in
      let left1 : length t - q ≡ length (text c) + length (text r ++ s) = sym (length-drop q t) ∙ ap length d1 ∙ length-append (text c) _ in
      record {
        own = e0;
        contents = e1;
        after = e2;
        contents-text = d1;
        after_text = d2;
        contents_in = q_in;
        after_in = omega arith;
      }

  pub same_at : (i p n z : ℕ) (l : Label) (y : List ℕ) → drop (4 * i) w ≡ record_of l p n z ++ y → has_record w i (record_of l p n z) ≡ true
  unfolding has_record
  same_at i p n z l y e =
      let word : (k : ℕ) → word_at w i k ≡ get_or (record_of l p n z ++ y) k 0 = λ k. sym (get_or-drop (4 * i) w k 0) ∙ ap (λ (v : List ℕ). get_or v k 0) e in
      let a1 : word_at w i 1 ≡ get_or (words l p n z) 0 0 = word 1 ∙ get_or-append (words l p n z) y 0 0 (rw words-length (lit< tt)) in
      let a2 : word_at w i 2 ≡ get_or (words l p n z) 1 0 = word 2 ∙ get_or-append (words l p n z) y 0 1 (rw words-length (lit< tt)) in
      let a3 : word_at w i 3 ≡ get_or (words l p n z) 2 0 = word 3 ∙ get_or-append (words l p n z) y 0 2 (rw words-length (lit< tt)) in
      rw (eq-eqb (word_at w i 0) (word0 l n) (word 0), eq-eqb (word_at w i 1) _ a1, eq-eqb (word_at w i 2) _ a2, eq-eqb (word_at w i 3) _ a3)

  pub says_first : (l : Label) (c r : Forest) (i : ℕ) → Stands w t i (node l c r) → Says w t i l (count c)
  unfolding Stands
  says_first l c r i h = h.0

-- a value, and then the rest
pub row_more : (g : ℕ → ℕ → Found) (m i p : ℕ) {l : Label} {c r : Forest} {j e h u : ℕ} → g i p ≡ good (node l c nil) j e → find_many g m j e ≡ good r h u → find_many g (suc m) i p ≡ good (node l c r) h u
unfolding find_many join ◌⊕◌
row_more g m i p first rest = rw (first, find_many) (rw rest)

module _ (w : List ℕ) (n : ℕ) (t : List ℕ) where
  -- a value whose contents are found
  pub find_node : (k i p : ℕ) (l : Label) (c : Forest) (y : List ℕ) (j e : ℕ) → Says w t i l (count c) → i < n → find_many (find w n t k) (count c) (i + 1) (p + length (text_of l)) ≡ good c j e → drop (4 * i) w ≡ record_of l p (count c) (suc (size c)) ++ y → T (proper l c) → find w n t (suc k) i p ≡ good (node l c nil) j e
  unfolding find close
  find_node k i p l c y j e says lt found own suits = rw (lt-ltb i n lt, says.label, says.arity, found, same_at w t i p (count c) (suc (size c)) l y own, T_true (proper l c) suits)

  pub row_complete : (f : Forest) (k i p : ℕ) (x s : List ℕ) → T (shaped f) → T (settled f) → depth f ≤ k → drop (4 * i) w ≡ table f p ++ x → drop p t ≡ text f ++ s → p ≤ length t → i + size f ≤ n → find_many (find w n t k) (count f) i p ≡ good f (i + size f) (p + length (text f))
  unfolding find_many shaped settled depth size count text
  row_complete nil k i p x s h o m e d b f = let a : i + 0 ≡ i = omega arith in let a2 : p + 0 ≡ p = omega arith in rw (a, a2)
  row_complete (node l c r) zero i p x s h o m e d b f = absurd (omega arith)
  row_complete (node l c r) (suc k) i p x s h o m e d b f =
      let q = parts w t i p l c r x s e d b in
      let says : Says w t i l (count c) = says_first w t l c r i (table_stands w t (node l c r) p i x s h e d b) in
      let inner = row_complete c k (i + 1) (p + length (text_of l)) _ _ (and_l (shaped c) _ (and_r (fitting l (count c)) _ h)) (and_l (settled c) _ (and_r (proper l c) _ o)) (omega arith) q.contents q.contents-text q.contents_in (omega arith) in
      let first : find w n t (suc k) i p ≡ good (node l c nil) (i + 1 + size c) (p + length (text_of l) + length (text c)) = find_node k i p l c _ _ _ says (omega arith) inner q.own (and_l (proper l c) _ o) in
      let rest = row_complete r (suc k) (i + 1 + size c) (p + length (text_of l) + length (text c)) x s (and_r (shaped c) _ (and_r (fitting l (count c)) _ h)) (and_r (settled c) _ (and_r (proper l c) _ o)) (omega arith) q.after q.after_text q.after_in (omega arith) in
      let a : i + 1 + size c + size r ≡ i + suc (size c + size r) = omega arith in
      let g : p + length (text_of l) + length (text c) + length (text r) ≡ p + length (text_of l ++ (text c ++ text r)) = rw (length-append, length-append) (omega arith) in
      row_more (find w n t (suc k)) (count r) i p first rest ∙ rw (a, g)
