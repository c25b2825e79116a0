-- What the code reads of a record. Assumes nothing.
use Prim.Native.Nat.{ℕ, suc, zero, ◌+◌, ◌-◌, ◌*◌, ◌^◌, ◌/◌, ◌%◌, ◌≤◌, ◌<◌}
use mathlib.Core.Bool.{Bool, true, false}
use mathlib.Core.List.{List, [], ◌∷◌, ◌++◌}
use mathlib.Core.Path.{◌≡◌, refl, sym, ◌∙◌, ap, subst}
use native.Mathlib.Nat.{add-zero}
use native.Mathlib.Omega.{arith}
use lib.Dec.{eqb}
use lib.ListN.{length, length-append, get_or, take, drop}
use lib.Seq.{drop-drop}
use Rattle.utf8.specs.Encode.{by_lt}
use Rattle.value.specs.declared.Head.{Head}
use Rattle.value.specs.Value.{bit, half}
use Rattle.value.specs.Shape.{kind_in, fresh_in, state_in, head_of, label_of, arity_of, names_end}
use Rattle.value.specs.Stands.{word_at, label_at, arity_at, Reads}
use Rattle.value.specs.Left.{kind_at}
use Rattle.value.specs.Labels.{text_inside, names_inside}
use Rattle.output.specs.Decimal.{decimal_text, signed_text, figures}
use Rattle.list.specs.Listing.{listed_text, kind_name, flag, listed_names, names_at, content_of, record_line, tab_byte}
use Rattle.output.specs.Put.{newline_byte, Room, room_first}

-- a fact of each number below a bound
abbrev Below : (ℕ → Type 0) → ℕ → Type 0
Below P zero = Unit {0}
Below P (suc n) = Below P n × P n

below : (P : ℕ → Type 0) (n : ℕ) → Below P n → (k : ℕ) → k < n → P k
below P zero b k h = absurd (omega arith)
below P (suc n) b k h = by_lt k n (below P n b.0 k) (λ l. let e : n ≡ k = omega arith in subst P e b.1)

half-double : (b : ℕ) → half (b + b) ≡ b
half-double zero = refl
half-double (suc b) = let e : suc b + suc b ≡ suc (suc (b + b)) = omega arith in rw e (ap suc (half-double b))

half_state : (s : Bool) → half (suc (bit s)) ≡ bit s
half_state true = refl
half_state false = refl

-- ---- a record's content, by its kind

-- the head was read of record i
pub record Opened (w t : List ℕ) (i : ℕ) (h : Head) : Type 0 where
  pub reads : Reads w t i
  pub head : h ≡ head_of (get_or w (4 * i) 0)

pub opened : {w t : List ℕ} {i : ℕ} {h : Head} → Reads w t i → h ≡ head_of (get_or w (4 * i) 0) → Opened w t i h
opened r e = record { reads = r; head = e }

module _ {w t : List ℕ} {i : ℕ} {h : Head} (x : Opened w t i h) where
  abbrev content : List ℕ
  content = content_of (label_at w t i) (arity_at w i)

  kind₀ : kind_in (word_at w i 0) ≡ h.kind
  kind₀ = rw (add-zero, x.head)

  pub known : h.kind < 13
  known = rw kind₀ at x.reads.known

  pub text_fits : 3 < h.kind → h.kind < 6 → word_at w i 1 + word_at w i 2 ≤ length t
  text_fits = text_inside w t i h.kind x.reads (ap (λ (y : Head). y.kind) x.head)

  pub names_fit : 10 < h.kind → names_end (word_at w i 1) (word_at w i 2) ≤ length t
  names_fit = names_inside w t i h.kind x.reads (ap (λ (y : Head). y.kind) x.head)

  pub content-none : h.kind ≡ 0 → content ≡ 0x2D ∷ []
  unfolding content_of label_at label_of
  content-none e = rw (kind₀, e)

  pub content_bool : h.kind ≡ 1 → content ≡ flag (eqb (word_at w i 1) 1) ∷ []
  unfolding content_of label_at label_of
  content_bool e = rw (kind₀, e)

  pub content_int : h.kind ≡ 2 → content ≡ signed_text (word_at w i 1)
  unfolding content_of label_at label_of
  content_int e = rw (kind₀, e)

  pub content-float : h.kind ≡ 3 → content ≡ figures 16 16 (word_at w i 1)
  unfolding content_of label_at label_of
  content-float e = rw (kind₀, e)

  pub content-text : 3 < h.kind → h.kind < 6 → content ≡ listed_text (take (word_at w i 2) (drop (word_at w i 1) t))
  unfolding content_of label_at label_of
  content-text g l =
      below (λ k. h.kind ≡ 4 + k → content ≡ listed_text (take (word_at w i 2) (drop (word_at w i 1) t))) 2
      ((tt, λ e. rw (kind₀, e)), λ e. rw (kind₀, e)) (h.kind - 4) (omega arith) (omega arith)

  pub content-count : 5 < h.kind → h.kind < 11 → content ≡ decimal_text (word_at w i 1)
  unfolding content_of label_at label_of arity_at arity_of
  content-count g l =
      below (λ k. h.kind ≡ 6 + k → content ≡ decimal_text (word_at w i 1)) 5
      (((((tt, λ e. rw (kind₀, e)), λ e. rw (kind₀, e)), λ e. rw (kind₀, e)), λ e. rw (kind₀, e)), λ e. rw (kind₀, e) (ap decimal_text (half-double (word_at w i 1))))
      (h.kind - 6) (omega arith) (omega arith)

  pub content-global : h.kind ≡ 11 → content ≡ names_at t (word_at w i 1) (word_at w i 2)
  unfolding content_of label_at label_of names_at
  content-global e = rw (kind₀, e)

  pub content-object : 11 < h.kind → content ≡ names_at t (word_at w i 1) (word_at w i 2) ++ (tab_byte ∷ flag h.new ∷ tab_byte ∷ flag h.state ∷ [])
  unfolding content_of label_at label_of arity_at arity_of names_at flag
  content-object g =
      let e : h.kind ≡ 12 = omega (arith, known) in
      let n : fresh_in (word_at w i 0) ≡ h.new = rw (add-zero, x.head) in
      let s : state_in (word_at w i 0) ≡ h.state = rw (add-zero, x.head) in
      rw (kind₀, e, n, s, half_state h.state)

  -- None and Bool have one byte
  pub content_one : h.kind < 2 → 1 ≡ length content
  content_one g =
      by_lt h.kind 1 (λ l. sym (ap length (content-none (omega arith)))) (λ l. sym (ap length (content_bool (omega arith))))

  pub content-flags : 11 < h.kind → length content ≡ length (names_at t (word_at w i 1) (word_at w i 2)) + 4
  content-flags g = ap length (content-object g) ∙ length-append (names_at t (word_at w i 1) (word_at w i 2)) _

  -- a module and a name take no more
  pub names_few : 10 < h.kind → length (names_at t (word_at w i 1) (word_at w i 2)) ≤ length content
  names_few g =
      by_lt h.kind 12 (λ l. omega (arith, ap length (content-global (omega arith)))) (λ l. omega (arith, content-flags l))

  -- a module and a name stand first in both
  pub names_room : {o : List ℕ} {at : ℕ} → 10 < h.kind → Room o at content → Room o at (names_at t (word_at w i 1) (word_at w i 2))
  names_room g m =
      by_lt h.kind 12 (λ l. rw (content-global (omega arith)) at m)
      (λ l. room_first _ (rw (content-object l) at m))

  -- its line
  pub line_parts : (d : ℕ) → record_line d (label_at w t i) (arity_at w i) ≡ decimal_text d ++ ((tab_byte ∷ []) ++ (kind_name h.kind ++ ((tab_byte ∷ []) ++ (content ++ (newline_byte ∷ [])))))
  unfolding record_line
  line_parts d = rw (kind_at w t i x.reads, kind₀)

  pub line-length : (d : ℕ) → length (record_line d (label_at w t i) (arity_at w i)) ≡ length (decimal_text d) + length (kind_name h.kind) + length content + 3
  line-length d =
      ap length (line_parts d) ∙ length-append (decimal_text d) _
      ∙ omega (arith, length-append (kind_name h.kind) ((tab_byte ∷ []) ++ (content ++ (newline_byte ∷ []))), length-append content (newline_byte ∷ []))

-- a module and a name, one behind the other
pub names_parts : (t : List ℕ) (b c : ℕ) → names_at t b c ≡ listed_text (take (c / 2 ^ 32) (drop b t)) ++ ((tab_byte ∷ []) ++ listed_text (take (c % 2 ^ 32) (drop (b + c / 2 ^ 32) t)))
unfolding names_at listed_names
names_parts t b c = rw drop-drop

pub names-length : (t : List ℕ) (b c : ℕ) → length (names_at t b c) ≡ length (listed_text (take (c / 2 ^ 32) (drop b t))) + 1 + length (listed_text (take (c % 2 ^ 32) (drop (b + c / 2 ^ 32) t)))
names-length t b c = ap length (names_parts t b c) ∙ length-append (listed_text (take (c / 2 ^ 32) (drop b t))) _ ∙ omega arith
