-- A table in the form of RULES A2 is one in which its values stand; so table and text determine the value.
use Prim.Native.Nat.{ℕ, suc, ◌+◌, ◌-◌, ◌*◌, ◌^◌, ◌/◌, ◌%◌, ◌≤◌, ◌<◌}
use Rattle.std.specs.Prelude.{Bool, ◌≡◌, eqb, ltb}
use mathlib.Core.List.{List, [], ◌++◌, append_assoc, append-nil}
use Rattle.std.proofs.Math.Path.{sym, ap}
use Rattle.std.proofs.Common.{◌∙◌, length-drop, drop-drop, get_or-drop, ltb→lt, lit<}
use Rattle.std.proofs.Math.ListN.{length, length-append, get_or, drop, get_or-append}
use Rattle.std.proofs.Math.Seq.{drop-append_seam, drop_at}
use Rattle.std.proofs.Math.Dec.{T}
use Rattle.std.proofs.Math.Pow.{high, low}
use native.Mathlib.Omega.{arith}
use Rattle.value.specs.Value.{Label, Forest, text_of, text, count, size, word0, words, record_of, words-length, record_length, table, table-length, NoneL, BoolL, I64L, F64L, BytesL, StringL, ListL, TupleL, SetL, FrozenSetL, DictL, GlobalL, ObjectL, nil, node}
use Rattle.value.specs.Shape.{kind_in, label_of, fitting, shaped, and_l, and_r, arity_back, label_back}
use Rattle.value.specs.Stands.{word_at, label_at, arity_at, text_end, Says, Stands, stands_one}

-- A record at its text's place: what its words and the text say is the label, and its text ends inside.
module _ (p n z : ℕ) (t s : List ℕ) where
  label_at_lem : (l : Label) → T (fitting l n) → drop p t ≡ text_of l ++ s → label_of (word0 l n) (get_or (words l p n z) 0 0) (get_or (words l p n z) 1 0) (drop (get_or (words l p n z) 0 0) t) ≡ l
  label_at_lem NoneL h e = label_back NoneL p n z _ h
  label_at_lem (BoolL b) h e = label_back (BoolL b) p n z _ h
  label_at_lem (I64L i) h e = label_back (I64L i) p n z _ h
  label_at_lem (F64L i) h e = label_back (F64L i) p n z _ h
  label_at_lem (BytesL u) h e = rw e (label_back (BytesL u) p n z s h)
  label_at_lem (StringL u) h e = rw e (label_back (StringL u) p n z s h)
  label_at_lem ListL h e = label_back ListL p n z _ h
  label_at_lem TupleL h e = label_back TupleL p n z _ h
  label_at_lem SetL h e = label_back SetL p n z _ h
  label_at_lem FrozenSetL h e = label_back FrozenSetL p n z _ h
  label_at_lem DictL h e = label_back DictL p n z _ h
  label_at_lem (GlobalL m k) h e = rw e (label_back (GlobalL m k) p n z s h)
  label_at_lem (ObjectL m k b) h e = rw e (label_back (ObjectL m k b) p n z s h)

  names_end_lem : (m k : List ℕ) → length k < 2 ^ 32 → p + length (m ++ k) ≤ length t → p + ((length m * 2 ^ 32 + length k) / 2 ^ 32 + (length m * 2 ^ 32 + length k) % 2 ^ 32) ≤ length t
  names_end_lem m k q h = rw (high (length m) 32 q, low (length m) 32 q) (rw length-append at h)

  object-kind : (m k : List ℕ) (b : Bool) → kind_in (word0 (ObjectL m k b) n) ≡ 12
  unfolding kind_in
  object-kind m k b = omega arith

  object_end : (m k : List ℕ) (b : Bool) → T (fitting (ObjectL m k b) n) → p + length (m ++ k) ≤ length t → text_end (word0 (ObjectL m k b) n) p (length m * 2 ^ 32 + length k) ≤ length t
  unfolding text_end
  object_end m k b h e = rw (object-kind m k b) (names_end_lem m k (ltb→lt (length k) (2 ^ 32) (and_r (ltb n 3) _ (and_r (ltb 0 n) _ h))) e)

  end_at : (l : Label) → T (fitting l n) → p + length (text_of l) ≤ length t → text_end (word0 l n) (get_or (words l p n z) 0 0) (get_or (words l p n z) 1 0) ≤ length t
  unfolding text_end kind_in
  end_at NoneL h e = omega arith
  end_at (BoolL b) h e = omega arith
  end_at (I64L i) h e = omega arith
  end_at (F64L i) h e = omega arith
  end_at (BytesL u) h e = e
  end_at (StringL u) h e = e
  end_at ListL h e = omega arith
  end_at TupleL h e = omega arith
  end_at SetL h e = omega arith
  end_at FrozenSetL h e = omega arith
  end_at DictL h e = omega arith
  end_at (GlobalL m k) h e = names_end_lem m k (ltb→lt (length k) (2 ^ 32) (and_r (eqb n 0) _ h)) e
  end_at (ObjectL m k b) h e = object_end m k b h e

  known_at : (l : Label) → kind_in (word0 l n) < 13
  unfolding kind_in
  known_at NoneL = omega arith
  known_at (BoolL b) = omega arith
  known_at (I64L i) = omega arith
  known_at (F64L i) = omega arith
  known_at (BytesL u) = omega arith
  known_at (StringL u) = omega arith
  known_at ListL = omega arith
  known_at TupleL = omega arith
  known_at SetL = omega arith
  known_at FrozenSetL = omega arith
  known_at DictL = omega arith
  known_at (GlobalL m k) = omega arith
  known_at (ObjectL m k b) = omega arith

module _ (w t : List ℕ) where
  -- a record of a label, with its text at p
  pub says_at : (l : Label) (p i n z : ℕ) (y s : List ℕ) → T (fitting l n) → drop (4 * i) w ≡ record_of l p n z ++ y → drop p t ≡ text_of l ++ s → p ≤ length t → Says w t i l n
  unfolding label_at arity_at
  says_at l p i n z y s h e d b =
      let word : (k : ℕ) → word_at w i k ≡ get_or (record_of l p n z ++ y) k 0 = λ k. sym (get_or-drop (4 * i) w k 0) ∙ ap (λ (v : List ℕ). get_or v k 0) e in
      let a0 : word_at w i 0 ≡ word0 l n = word 0 in
      let a1 : word_at w i 1 ≡ get_or (words l p n z) 0 0 = word 1 ∙ get_or-append (words l p n z) y 0 0 (rw words-length (lit< tt)) in
      let a2 : word_at w i 2 ≡ get_or (words l p n z) 1 0 = word 2 ∙ get_or-append (words l p n z) y 0 1 (rw words-length (lit< tt)) in
      let len : length (drop (4 * i) w) ≡ 4 + length y = ap length e ∙ simp (length-append, record_length) in
      let left : length w - 4 * i ≡ 4 + length y = sym (length-drop (4 * i) w) ∙ len in
      let text_left : length t - p ≡ length (text_of l) + length s = sym (length-drop p t) ∙ ap length d ∙ length-append (text_of l) s in
      record {
        reads = record {
          inside = omega arith;
          known = rw a0 (known_at p n z t s l);
          texts = rw (a0, a1, a2) (end_at p n z t s l h (omega arith));
        };
        label = rw (a0, a1, a2) (label_at_lem p n z t s l h d);
        arity = rw (a0, a1) (arity_back l p n z h);
      }

  pub table_stands : (f : Forest) (p i : ℕ) (x s : List ℕ) → T (shaped f) → drop (4 * i) w ≡ table f p ++ x → drop p t ≡ text f ++ s → p ≤ length t → Stands w t i f
  unfolding Stands table text shaped size
  table_stands nil p i x s h e d b = tt
  table_stands (node l c r) p i x s h e d b =
      let n = count c in
      let z = suc (size c) in
      let q = p + length (text_of l) in
      let u = q + length (text c) in
      let fits : T (fitting l n) = and_l (fitting l n) _ h in
      let hc : T (shaped c) = and_l (shaped c) _ (and_r (fitting l n) _ h) in
      let hr : T (shaped r) = and_r (shaped c) _ (and_r (fitting l n) _ h) in
      let y = table c q ++ (table r u ++ x) in
      let e0 : drop (4 * i) w ≡ record_of l p n z ++ y = e ∙ rw (append_assoc (record_of l p n z), append_assoc (table c q)) in
      let d0 : drop p t ≡ text_of l ++ (text c ++ (text r ++ s)) = d ∙ rw (append_assoc (text_of l), append_assoc (text c)) in
      let e1 : drop (4 * (i + 1)) w ≡ table c q ++ (table r u ++ x) =
      let k : 4 * i + 4 ≡ 4 * (i + 1) = omega arith in
      rw k at (sym (drop-drop 4 (4 * i) w) ∙ ap (drop 4) e0 ∙ drop_at (record_of l p n z) y 4 (record_length l p n z)) in
      let d1 : drop q t ≡ text c ++ (text r ++ s) = sym (drop-drop (length (text_of l)) p t) ∙ ap (drop (length (text_of l))) d0 ∙ drop-append_seam (text_of l) _ in
      let e2 : drop (4 * (i + 1 + size c)) w ≡ table r u ++ x =
      let k : 4 * (i + 1) + length (table c q) ≡ 4 * (i + 1 + size c) = rw (table-length c q) (omega arith) in
      rw k at (sym (drop-drop (length (table c q)) (4 * (i + 1)) w) ∙ ap (drop (length (table c q))) e1 ∙ drop-append_seam (table c q) _) in
      let d2 : drop u t ≡ text r ++ s = sym (drop-drop (length (text c)) q t) ∙ ap (drop (length (text c))) d1 ∙ drop-append_seam (text c) _ in
      let left0 : length t - p ≡ length (text_of l) + length (text c ++ (text r ++ s)) = sym (length-drop p t) ∙ ap length d0 ∙ length-append (text_of l) _ in
      let left1 : length t - q ≡ length (text c) + length (text r ++ s) = sym (length-drop q t) ∙ ap length d1 ∙ length-append (text c) _ in
      let q_in : q ≤ length t = omega arith in
      (says_at l p i n z y _ fits e0 d0 b, table_stands c q (i + 1) _ _ hc e1 d1 q_in, table_stands r u (i + 1 + size c) x s hr e2 d2 (omega arith))

-- table and text determine the value
pub table_one : (f g : Forest) → T (shaped f) → T (shaped g) → count f ≡ count g → table f 0 ≡ table g 0 → text f ≡ text g → f ≡ g
table_one f g hf hg n e d =
    let w = table f 0 in
    let t = text f in
    let a : Stands w t 0 f = table_stands w t f 0 0 [] [] hf (sym (append-nil w)) (sym (append-nil t)) (omega arith) in
    let b : Stands w t 0 g = table_stands w t g 0 0 [] [] hg (e ∙ sym (append-nil (table g 0))) (d ∙ sym (append-nil (text g))) (omega arith) in
    stands_one w t f g 0 a b n
