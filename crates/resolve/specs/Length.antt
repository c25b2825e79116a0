-- How long the text of a node is, off its words: no text is decoded for it.
use Rattle.std.specs.Prelude.{ℕ, ◌+◌, ◌-◌, ◌*◌, ◌/◌, ◌%◌, ◌<◌, ◌≤◌, List, ◌++◌, ◌≡◌, ◌≢◌, get_or, set, replicate, Result, Ok, Err}
use Rattle.std.proofs.Math.Path.{sym, ap}
use Rattle.std.proofs.Common.{◌∙◌, length-append, length-take, length-drop, get_or-set_other, add-one, arith}
use Rattle.std.proofs.Math.ListN.{length, get_or-map, get_or-eq_default}
use Rattle.std.proofs.lemmas.List.{length-replicate, get_or-replicate}
use Rattle.std.proofs.Math.Decide.{dec_lt}
use Rattle.std.specs.Result.{result_unwrap_or}
use Rattle.utf8.specs.Utf8.{repair}
use Rattle.utf8.specs.Laws.{repair-length}
use Rattle.refusal.specs.Read.{Read, refused}
use Rattle.refusal.specs.declared.Refusal.{Refusal}
use Rattle.refusal.specs.declared.Refusal.TheVariants.{InvalidLiteral}
use Rattle.text.specs.declared.FaultAt.{FaultAt}
use Rattle.text.specs.declared.Quoted.{Quoted}
use Rattle.text.specs.declared.Quoted.TheVariants as quoted
use Rattle.text.specs.Pieces.{bytes_of, length_of}
use Rattle.text.specs.Text.{inner, unescape_string, unescape_unicode, string_measured, quoted_says, decoded_says}
use Rattle.text.specs.Answers.{decoded_len, decoded_bad, quoted_plain, quoted_escaped, quoted_bad, quotes_two}
use Rattle.value.specs.Value.{Label, NoneL, text_of}
use Rattle.value.specs.Shape.{kind_in}
use Rattle.steps.specs.NodeWords.{first, second, within, class_in, module_of, name_of}
use Rattle.resolve.specs.Shown.{node_labels, node_label}

-- of node i's label
unfoldable pub text_bytes : List ℕ → List ℕ → ℕ → ℕ
text_bytes p ws i = length (text_of (node_label p ws i))

-- of the module and the name that the words a and b of a Global say
unfoldable pub names_len : List ℕ → ℕ → ℕ → ℕ
names_len p a b = length (module_of p a ++ name_of p b)

-- what the code needs to read it
pub record LengthReadable (p ws : List ℕ) (i : ℕ) : Type 0 where
  pub short : length p ≤ 65536
  pub words : 2 * i + 1 < length ws
  pub class : kind_in (first ws i) ≡ 12 → 2 * class_in (first ws i) + 1 < length ws

-- ---- kinds without text

-- of the label that the words a and b say
unfoldable len_is : List ℕ → List ℕ → ℕ → ℕ → ℕ
len_is p ws a b = length (text_of (get_or (node_labels p ws a b) (kind_in a) NoneL))

len_none : (p ws : List ℕ) (a b : ℕ) → a % 16 ≢ 4 → a % 16 ≢ 5 → a % 16 ≢ 11 → a % 16 ≢ 12 → a % 16 ≢ 13 → a % 16 ≢ 14 → len_is p ws a b ≡ 0
unfolding len_is kind_in
len_none p ws a b v w x y z t =
    let s₀ : List ℕ = replicate 15 0 in
    let s₁ = set s₀ 4 (length (within 32 b p)) in
    let s₂ = set s₁ 5 (length (repair (within 32 b p))) in
    let s₃ = set s₂ 11 (length (module_of p a ++ name_of p b)) in
    let s₄ = set s₃ 12 (length (module_of p (first ws (class_in a)) ++ name_of p (second ws (class_in a)))) in
    let s₅ = set s₄ 13 (length (bytes_of (unescape_string (within 32 b p)))) in
    sym (get_or-map (λ (l : Label). length (text_of l)) (node_labels p ws a b) (a % 16) NoneL)
    ∙ get_or-set_other s₅ 14 (a % 16) (length (bytes_of (unescape_unicode (within 32 b p)))) 0 t ∙ get_or-set_other s₄ 13 (a % 16) _ 0 z ∙ get_or-set_other s₃ 12 (a % 16) _ 0 y ∙ get_or-set_other s₂ 11 (a % 16) _ 0 x
    ∙ get_or-set_other s₁ 5 (a % 16) _ 0 w ∙ get_or-set_other s₀ 4 (a % 16) _ 0 v ∙ all (dec_lt (a % 16) 15)
  where
    all : Dec (a % 16 < 15) → ◌≡◌ {A = ℕ} (get_or (replicate 15 0) (a % 16) 0) 0
    all (yes l) = get_or-replicate 15 (a % 16) 0 0 l
    all (no l) = get_or-eq_default (replicate 15 0) 0 {n = a % 16} (rw length-replicate (omega arith))

-- ---- a text in the pickle, which may end before it

pub within-short : (p l : List ℕ) (k w m : ℕ) → length p ≤ m → l ≡ within k w p → length l ≤ m
unfolding within
within-short p l k w m h e = rw (e, length-take, length-drop) (omega arith)

-- ---- a line's text, by what the code finds out of it: a line that is refused has none

no_bytes : (r : Read (List ℕ)) (why : Refusal) (k : ℕ) → r ≡ refused why k → 0 ≡ length (bytes_of r)
unfolding bytes_of
no_bytes r why k e = rw e

module _ (l : List ℕ) (r : Result Quoted FaultAt) (y : quoted_says l r ≡ string_measured l) where
  pub plain_two : r ≡ Ok quoted.Plain → 2 ≤ length l
  plain_two z = quotes_two l (inner l) (quoted_plain l (rw z at y))

  pub plain_len : r ≡ Ok quoted.Plain → length l - 2 ≡ length (bytes_of (unescape_string l))
  unfolding bytes_of inner
  plain_len z =
      let v : length (inner l) ≡ length l - 2 = simp (length-take, length-drop) (omega arith) in
      sym v ∙ ap (λ (t : Read (List ℕ)). length (bytes_of t)) (sym (quoted_plain l (rw z at y)))

  pub escaped_len : (n : ℕ) → r ≡ Ok (quoted.Escaped n) → n ≡ length (bytes_of (unescape_string l))
  escaped_len n z = sym (quoted_escaped l n (rw z at y)).1

  pub unquoted_len : (k : FaultAt) → r ≡ Err k → 0 ≡ length (bytes_of (unescape_string l))
  unquoted_len k z = no_bytes (unescape_string l) InvalidLiteral k.0 (quoted_bad l k (rw z at y))

pub unicode_len : (l : List ℕ) (r : Result ℕ FaultAt) → decoded_says r ≡ length_of (unescape_unicode l) → result_unwrap_or r 0 ≡ length (bytes_of (unescape_unicode l))
unicode_len l (Ok n) y = sym (decoded_len (unescape_unicode l) n y).1
unicode_len l (Err k) y = no_bytes (unescape_unicode l) InvalidLiteral k.0 (decoded_bad (unescape_unicode l) k y)

-- ---- the code's returns, with the words as it reads them

module _ (p : List ℕ) (a b : ℕ) (l m : List ℕ) (x y : ℕ) (el : l ≡ within 24 (a / 16) p) (ex : x ≡ length (repair l)) (em : m ≡ within 32 b p) (ey : y ≡ length (repair m)) where
  pub names_len_lem : x + y ≡ names_len p a b
  unfolding names_len module_of name_of
  names_len_lem = rw (ex, ey, el, em) (sym (length-append (module_of p a) (name_of p b)))

  pub names-short : length p ≤ 65536 → x + y ≤ 393216
  names-short h = omega (arith, repair-length l, repair-length m, within-short p l 24 (a / 16) 65536 h el, within-short p m 32 b 65536 h em)

-- a and b are node i's words, n the text's length
module _ (p ws : List ℕ) (i a b : ℕ) (ea : a ≡ get_or ws (2 * i) 0) (eb : b ≡ get_or ws (2 * i + 1) 0) where
  of_words : len_is p ws a b ≡ text_bytes p ws i
  unfolding text_bytes len_is node_label first second
  of_words = rw (ea, eb, add-one)

  of_kind : (k : ℕ) → a % 16 ≡ k → length (text_of (get_or (node_labels p ws a b) k NoneL)) ≡ text_bytes p ws i
  unfolding len_is kind_in
  of_kind k e = rw (← e) of_words

  pub len_bytes : (l : List ℕ) → a % 16 ≡ 4 → l ≡ within 32 b p → length l ≡ text_bytes p ws i
  len_bytes l e x = ap length x ∙ of_kind 4 e

  pub len_string : (l : List ℕ) (n : ℕ) → a % 16 ≡ 5 → l ≡ within 32 b p → n ≡ length (repair l) → n ≡ text_bytes p ws i
  len_string l n e x y = y ∙ ap (λ (t : List ℕ). length (repair t)) x ∙ of_kind 5 e

  pub len_global : (n : ℕ) → a % 16 ≡ 11 → n ≡ names_len p a b → n ≡ text_bytes p ws i
  unfolding names_len
  len_global n e x = x ∙ of_kind 11 e

  pub len_object : (n : ℕ) → a % 16 ≡ 12 → n ≡ names_len p (get_or ws (2 * (a / 64)) 0) (get_or ws (2 * (a / 64) + 1) 0) → n ≡ text_bytes p ws i
  unfolding names_len first second class_in
  len_object n e x = x ∙ ap (λ (k : ℕ). names_len p (get_or ws (2 * (a / 64)) 0) (get_or ws k 0)) (add-one (2 * (a / 64))) ∙ of_kind 12 e

  pub len_escaped : (l : List ℕ) (n : ℕ) → a % 16 ≡ 13 → l ≡ within 32 b p → n ≡ length (bytes_of (unescape_string l)) → n ≡ text_bytes p ws i
  len_escaped l n e x y = y ∙ ap (λ (t : List ℕ). length (bytes_of (unescape_string t))) x ∙ of_kind 13 e

  pub len_unicode : (l : List ℕ) (n : ℕ) → a % 16 ≡ 14 → l ≡ within 32 b p → n ≡ length (bytes_of (unescape_unicode l)) → n ≡ text_bytes p ws i
  len_unicode l n e x y = y ∙ ap (λ (t : List ℕ). length (bytes_of (unescape_unicode t))) x ∙ of_kind 14 e

  pub len_nothing : a % 16 ≢ 4 → a % 16 ≢ 5 → a % 16 ≢ 11 → a % 16 ≢ 12 → a % 16 ≢ 13 → a % 16 ≢ 14 → 0 ≡ text_bytes p ws i
  len_nothing u v w x y z = sym (len_none p ws a b u v w x y z) ∙ of_words

  -- an Object's class has its words too
  pub class_words : LengthReadable p ws i → a % 16 ≡ 12 → 2 * (a / 64) + 1 < length ws
  unfolding first kind_in class_in
  class_words r e = rw ea (r.class (rw ea at e))
