-- The length of a table's text, found from its last record with text.
use Prim.Native.Nat.{ℕ, suc, zero, ◌+◌, ◌-◌, ◌*◌, ◌^◌, ◌/◌, ◌%◌, ◌≤◌, ◌<◌, min}
use Rattle.std.specs.Prelude.{Bool, true, false, List, [], ◌++◌, ◌≡◌, refl, T, ltb}
use Rattle.std.proofs.Math.Bool.{cond}
use Rattle.std.proofs.Common.{append-nil, sym, ◌∙◌, length-append, take-append-drop, add-one}
use Rattle.std.proofs.Math.Path.{ap}
use Rattle.std.proofs.Math.ListN.{length, drop}
use native.Mathlib.Omega.{arith}
use Rattle.value.specs.Value.{Label, Forest, one, text_of, text, count, size, record_of, table, nil, node}
use Rattle.value.specs.Shape.{kind_in, fitting, shaped, and_l, and_r}
use Rattle.value.specs.Stands.{word_at, label_at, arity_at, Says}
use Rattle.value.specs.Tabled.{table_stands}
use Rattle.value.specs.WellFormed.{WellFormed}
use Rattle.table.specs.Record.{EachBelow, each_below, right1, span_of, back1, back_text}
use Rattle.table.specs.Complete.{parts, same_at, says_first}
use Rattle.table.specs.Sound.{RecordWords, same-words, own}

-- Bytes, String, Global and Object have text
unfoldable pub has_text : ℕ → Bool
has_text k = cond (ltb k 4) false (cond (ltb k 6) true (cond (ltb k 11) false (ltb k 13)))

-- where a record's text ends: its place and its length or lengths; no more than a usize holds, which only a wrong record reaches
unfoldable pub end_of : ℕ → ℕ → ℕ → ℕ
end_of a b c = min (2 ^ 64 - 1) (b + span_of (kind_in a) c)

-- the end of the last text of the first k records, or 0
unfoldable pub last_end : List ℕ → ℕ → ℕ
last_end w zero = 0
last_end w (suc k) = cond (has_text (kind_in (word_at w k 0))) (end_of (word_at w k 0) (word_at w k 1) (word_at w k 2)) (last_end w k)

-- of n records, as far as the words have them whole
unfoldable pub text_length : List ℕ → ℕ → ℕ
text_length w n = last_end w (min n (length w / 4))

-- ---- in the form of RULES A2 it is the end of the text so far

end_by : (a b c p : ℕ) → kind_in a < 13 → b ≡ right1 (kind_in a) b p → p + span_of (kind_in a) c ≤ 65536 → cond (has_text (kind_in a)) (end_of a b c) p ≡ p + span_of (kind_in a) c
unfolding has_text end_of right1 span_of EachBelow
end_by a b c p known =
    each_below 13 (λ k. b ≡ right1 k b p → (let s = span_of k c in p + s ≤ 65536 → cond (has_text k) (min (2 ^ 64 - 1) (b + s)) p ≡ p + s))
    (none, (none, (none, (none, (some c, (some c, (none, (none, (none, (none, (none, (some (c / 2 ^ 32 + c % 2 ^ 32), (some (c / 2 ^ 32 + c % 2 ^ 32), tt))))))))))))) (kind_in a) known
  where
    none : {x : ℕ} → b ≡ x → p + 0 ≤ 65536 → p ≡ p + 0
    none e h = omega arith

    some : (s : ℕ) → b ≡ p → p + s ≤ 65536 → min (2 ^ 64 - 1) (b + s) ≡ p + s
    some s e h = omega arith

module _ (w t : List ℕ) (short : length t ≤ 65536) where
  -- a record, and then its contents and the rest
  record_end : (i p z : ℕ) (l : Label) (n : ℕ) (y : List ℕ) → Says w t i l n → drop (4 * i) w ≡ record_of l p n z ++ y → p + length (text_of l) ≤ length t → p ≤ length t → last_end w i ≡ p → last_end w (i + 1) ≡ p + length (text_of l)
  unfolding last_end label_at arity_at
  record_end i p z l n y says e b q last =
      let a = word_at w i 0 in
      let r : RecordWords w i (record_of (label_at w t i) p (arity_at w i) z) = rw (says.label, says.arity) (same-words w i (record_of l p n z) (same_at w t i p n z l y e)) in
      let o = own w t i p z r in
      let x = drop (word_at w i 1) t in
      let long : length (text_of l) ≡ span_of (kind_in a) (word_at w i 2) = ap (λ (m : Label). length (text_of m)) (sym says.label) ∙ back_text a (word_at w i 1) (word_at w i 2) p z x o.known o.fit in
      let placed : word_at w i 1 ≡ right1 (kind_in a) (word_at w i 1) p = r.w1 ∙ back1 a (word_at w i 1) (word_at w i 2) p z x o.known in
      rw (add-one, last, long) (end_by a (word_at w i 1) (word_at w i 2) p o.known placed (omega arith))

  forest_end : (f : Forest) (i p : ℕ) (x s : List ℕ) → T (shaped f) → drop (4 * i) w ≡ table f p ++ x → drop p t ≡ text f ++ s → p ≤ length t → last_end w i ≡ p → last_end w (i + size f) ≡ p + length (text f)
  unfolding shaped size text
  forest_end nil i p x s h e d b last = let a : i + 0 ≡ i = omega arith in let c : p + 0 ≡ p = omega arith in rw (a, c) last
  forest_end (node l c r) i p x s h e d b last =
      let q = parts w t i p l c r x s e d b in
      let says = says_first w t l c r i (table_stands w t (node l c r) p i x s h e d b) in
      let fits = and_r (fitting l (count c)) _ h in
      let first = record_end i p (suc (size c)) l (count c) _ says q.own q.contents_in b last in
      let inner = forest_end c (i + 1) (p + length (text_of l)) _ _ (and_l (shaped c) _ fits) q.contents q.contents-text q.contents_in first in
      let rest = forest_end r (i + 1 + size c) (p + length (text_of l) + length (text c)) x s (and_r (shaped c) _ fits) q.after q.after_text q.after_in inner in
      let u : i + suc (size c + size r) ≡ i + 1 + size c + size r = omega arith in
      let v : p + length (text_of l ++ (text c ++ text r)) ≡ p + length (text_of l) + length (text c) + length (text r) = rw (length-append, length-append) (omega arith) in
      rw (u, v) rest

-- a well-formed table's text is as long as that
pub text-length : (w : List ℕ) (n : ℕ) (t : List ℕ) → WellFormed w n t → text_length w n ≡ length t
unfolding text_length last_end
text-length w n t a =
    let f = one a.value in
    let e : drop (4 * 0) w ≡ table f 0 ++ drop (4 * n) w = sym (take-append-drop (4 * n) w) ∙ rw a.records in
    let d : drop 0 t ≡ text f ++ [] = a.texts ∙ sym (append-nil (text f)) in
    let room : min n (length w / 4) ≡ n = let x = a.lent in omega arith in
    let s : 0 + size f ≡ n = let q = a.counted in omega arith in
    let u : 0 + length (text f) ≡ length t = let q = ap length a.texts in omega arith in
    rw (room, ← s, ← u) (forest_end w t a.short f 0 0 (drop (4 * n) w) [] a.shape e d (omega arith) refl)

-- ---- the code's turns, from the last record on

module _ (w : List ℕ) (k : ℕ) (some : 0 < k) where
  opened : last_end w k ≡ cond (has_text (kind_in (word_at w (k - 1) 0))) (end_of (word_at w (k - 1) 0) (word_at w (k - 1) 1) (word_at w (k - 1) 2)) (last_end w (k - 1))
  unfolding last_end
  opened = go k some
    where
      go : (q : ℕ) → 0 < q → last_end w q ≡ cond (has_text (kind_in (word_at w (q - 1) 0))) (end_of (word_at w (q - 1) 0) (word_at w (q - 1) 1) (word_at w (q - 1) 2)) (last_end w (q - 1))
      go zero h = absurd (omega arith)
      go (suc q) h = let e : suc q - 1 ≡ q = omega arith in rw e

  pub end_here : has_text (kind_in (word_at w (k - 1) 0)) ≡ true → end_of (word_at w (k - 1) 0) (word_at w (k - 1) 1) (word_at w (k - 1) 2) ≡ last_end w k
  end_here h = sym (opened ∙ rw h)

  pub end_before : has_text (kind_in (word_at w (k - 1) 0)) ≡ false → last_end w (k - 1) ≡ last_end w k
  end_before h = sym (opened ∙ rw h)

pub end_none : (w : List ℕ) (k : ℕ) → k ≡ 0 → 0 ≡ last_end w k
unfolding last_end
end_none w k h = rw h
