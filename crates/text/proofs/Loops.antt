-- What the loops keep: what is left of a text, after what is counted or written so far, is the whole. Assumes nothing.
use mathlib.Core.Path.{◌≡◌, refl, sym, ap, ◌∙◌}
use mathlib.Core.Bool.{true}
use mathlib.Core.List.{List, []}
use Rattle.std.specs.Prelude.{Option, None, Some, IsSome}
use Prim.Native.Nat.{ℕ, suc, ◌+◌, ◌-◌, ◌*◌, ◌≤◌, ◌<◌}
use native.Mathlib.Nat.{zero-add}
use native.Mathlib.Omega.{arith}
use lib.ListN.{length, get_or, take, drop, length-append, length-drop}
use lib.Seq.{get_or-drop, sets, sets-eq, length-sets}
use Rattle.refusal.specs.Read.{Read, got, refused}
use Rattle.text.specs.declared.TextPiece.{TextPiece}
use Rattle.utf8.specs.Utf8.{scalar, encode}
use Rattle.utf8.specs.Stores.{sets_append}
use Rattle.text.specs.Escapes.{one, string_escape, string_head, unicode_head}
use Rattle.input.specs.Bytes.{Bytes}
use Rattle.text.specs.Laws.{Each, string-each, unicode-each, scalar_below, texts-piece}
use Rattle.text.proofs.Places.{rest, string_plain, string_slash, unicode_plain}
use Rattle.text.specs.Pieces.{bytes_before, texts, is_read, bytes_of, length_of, WroteText}

bytes-from : (s : List ℕ) (i : ℕ) → Bytes s → Bytes (drop i s)
bytes-from s i h j = rw (get_or-drop i s j 0) (h (i + j))

-- a piece stands at a place of the text, and ends inside it
pub record Piece-at (head : List ℕ → Option TextPiece) (Q : ℕ → ℕ → Type 0) (s : List ℕ) (i v w : ℕ) : Type 0 where
  pub here : i < length s
  pub is : head (drop i s) ≡ one v w
  pub inside : i + (w + 1) ≤ length s
  pub good : Q v w

abbrev pub In-string : List ℕ → ℕ → ℕ → ℕ → Type 0
In-string = Piece-at string_head (λ v w. v < 256)

abbrev pub In-unicode : List ℕ → ℕ → ℕ → ℕ → Type 0
In-unicode = Piece-at unicode_head (λ v w. (v < 0x110000) × (length (encode v) ≤ 2 * suc w))

module _ (s : List ℕ) (i v w : ℕ) (b : Bytes s) (h : i < length s) where
  pub in_string : string_head (drop i s) ≡ one v w → In-string s i v w
  unfolding Each
  in_string e =
      let k : (w < length (drop i s)) × (Bytes (drop i s) → v < 256) = rw e at (string-each (drop i s)) in
      record { here = h; is = e; inside = omega (arith, k.0, length-drop i s); good = k.1 (bytes-from s i b) }

  pub in_unicode : unicode_head (drop i s) ≡ one v w → In-unicode s i v w
  unfolding Each
  in_unicode e =
      let k : (w < length (drop i s)) × (Bytes (drop i s) → (scalar v ≡ true) × (length (encode v) ≤ 2 * suc w)) = rw e at (unicode-each (drop i s)) in
      let g = k.1 (bytes-from s i b) in
      record { here = h; is = e; inside = omega (arith, k.0, length-drop i s); good = (scalar_below v g.0, g.1) }

pub is_some : (o : Option TextPiece) → (o ≡ None → ⊥) → IsSome o
is_some None h = absurd (h refl)
is_some (Some p) h = refl

-- a byte that stands for itself, and an escape
module _ (s : List ℕ) (i : ℕ) (b : Bytes s) (h : i < length s) where
  pub byte_in_string : (get_or s i 0 ≡ 92 → ⊥) → In-string s i (get_or s i 0) 0
  byte_in_string k = in_string s i _ _ b h (string_plain s i h k)

  pub escape_in_string : get_or s i 0 ≡ 92 → {p : TextPiece} → string_escape (take (length s - (i + 1)) (drop (i + 1) s)) ≡ Some p → In-string s i p.value p.more
  escape_in_string k e = in_string s i _ _ b h (string_slash s i h k ∙ e)

  pub byte_in_unicode : (get_or s i 0 ≡ 92 → ⊥) → In-unicode s i (get_or s i 0) 0
  byte_in_unicode k = in_unicode s i _ _ b h (unicode_plain s i h k)

  pub piece_in_unicode : {p : TextPiece} → unicode_head (take (length s - i) (drop i s)) ≡ Some p → In-unicode s i p.value p.more
  piece_in_unicode e = in_unicode s i _ _ b h (rw rest at e)

-- n bytes and those that are read
unfoldable pub more : ℕ → Read (List ℕ) → Read ℕ
more n (got v) = got (n + length v)
more n (refused why at) = refused why at

pub more_none : (r : Read (List ℕ)) → more 0 r ≡ length_of r
unfolding more length_of
more_none (got v) = ap got (omega arith)
more_none (refused why at) = refl

more_before : (n : ℕ) (l : List ℕ) (r : Read (List ℕ)) → more n (bytes_before l r) ≡ more (n + length l) r
unfolding more bytes_before
more_before n l (got v) = ap got (omega (arith, length-append l v))
more_before n l (refused why at) = refl

pub more_end : (n : ℕ) (r : Read (List ℕ)) → r ≡ got [] → got n ≡ more n r
unfolding more
more_end n r e = rw e (ap got (omega arith))

pub more_bad : (n : ℕ) (r : Read (List ℕ)) {why : _} {at : ℕ} → r ≡ refused why at → refused why at ≡ more n r
unfolding more
more_bad n r e = rw e refl

-- `left` is what is left of `whole`; n bytes stand at the start of `out`, which was `out₀`
pub record Writing (whole left : Read (List ℕ)) (out₀ out : List ℕ) (n : ℕ) : Type 0 where
  pub is : is_read left ≡ true
  pub same : sets out n (bytes_of left) ≡ sets out₀ 0 (bytes_of whole)
  pub count : n + length (bytes_of left) ≡ length (bytes_of whole)
  pub long : length out ≡ length out₀

pub write_none : (r : Read (List ℕ)) (out : List ℕ) → is_read r ≡ true → Writing r r out out 0
write_none r out h = record { is = h; same = refl; count = omega arith; long = refl }

write_more : (whole next : Read (List ℕ)) (l out₀ out : List ℕ) (n : ℕ) → Writing whole (bytes_before l next) out₀ out n
    → Writing whole next out₀ (sets out n l) (n + length l)
unfolding bytes_before is_read bytes_of
write_more whole (got v) l out₀ out n w = record {
  is = refl;
  same = sets_append l v out n ∙ w.same;
  count = omega (arith, length-append l v, w.count);
  long = length-sets out n l ∙ w.long;
}
write_more whole (refused why at) l out₀ out n w = let h = w.is in let z : ◌≡◌ {A = ℕ} 0 1 = cc in absurd (omega arith)

-- there is room for the next bytes
write_room : (whole next : Read (List ℕ)) (l out₀ out : List ℕ) (n : ℕ) → Writing whole (bytes_before l next) out₀ out n
    → length (bytes_of whole) ≤ length out₀ → n + length l ≤ length out
unfolding bytes_before is_read bytes_of
write_room whole (got v) l out₀ out n w h = omega (arith, length-append l v, w.count, w.long)
write_room whole (refused why at) l out₀ out n w h = let k = w.is in let z : ◌≡◌ {A = ℕ} 0 1 = cc in absurd (omega arith)

pub write_end : (whole left : Read (List ℕ)) (out₀ out : List ℕ) (n : ℕ) → left ≡ got [] → length (bytes_of whole) ≤ length out₀
    → Writing whole left out₀ out n → WroteText whole out₀ out n
unfolding bytes_of
write_end whole left out₀ out n e h w =
    let c = rw e at w.count in
    let s = rw e at w.same in
    record { count = omega arith; bytes = s ∙ sets-eq (bytes_of whole) out₀ 0 (omega arith) ∙ rw zero-add }

-- no bad piece is left
pub write_bad : (whole left : Read (List ℕ)) (out₀ out : List ℕ) (n : ℕ) {why : _} {at : ℕ} → left ≡ refused why at → Writing whole left out₀ out n → ⊥
unfolding is_read
write_bad whole left out₀ out n e w = let k = rw e at w.is in let z : ◌≡◌ {A = ℕ} 0 1 = cc in omega arith

-- a piece is passed
module _ {head : List ℕ → Option TextPiece} {Q : ℕ → ℕ → Type 0} {s : List ℕ} {i v w : ℕ} (form : ℕ → List ℕ) (p : Piece-at head Q s i v w) (at at' i' : ℕ)
    (f : at + (w + 1) ≡ at') (g : i + (w + 1) ≡ i') where
  next : texts head form 0 at (drop i s) ≡ bytes_before (form v) (texts head form 0 at' (drop i' s))
  next = texts-piece head form s i at v w p.here p.is ∙ rw (f, g)

  pub counted : (n : ℕ) → more (n + length (form v)) (texts head form 0 at' (drop i' s)) ≡ more n (texts head form 0 at (drop i s))
  counted n = sym (ap (more n) next ∙ more_before n (form v) _)

  module _ {whole : Read (List ℕ)} {out₀ out : List ℕ} {n : ℕ} (k : Writing whole (texts head form 0 at (drop i s)) out₀ out n) where
    pub written : Writing whole (texts head form 0 at' (drop i' s)) out₀ (sets out n (form v)) (n + length (form v))
    written = write_more whole _ (form v) out₀ out n (rw next at k)

    pub roomy : length (bytes_of whole) ≤ length out₀ → n + length (form v) ≤ length out
    roomy l = write_room whole _ (form v) out₀ out n (rw next at k) l
