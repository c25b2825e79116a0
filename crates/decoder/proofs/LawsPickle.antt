-- The opcodes that read only the pickle: what each return of their functions has of its definition.
use Prim.Native.Nat.{ℕ, suc, zero, ◌+◌, ◌-◌, ◌*◌, ◌^◌, ◌<◌, ◌≤◌}
use mathlib.Core.Bool.{Bool, true}
use mathlib.Core.List.{List, [], ◌∷◌}
use mathlib.Core.Path.{◌≡◌, refl, sym, ◌∙◌, ap, ap₂, subst}
use lib.ListN.{length, get_or, take, drop, length-take}
use lib.IntN.{ℤ, pos, negsuc}
use lib.Seq.{drop-drop, take-take}
use native.Mathlib.Omega.{arith}
use borrow.Author.Tests.{le-leb, lt-leb, ltb-true, ltb-false}
use Rattle.std.specs.Prelude.{Result, Ok, Err}
use Rattle.refusal.specs.Read.{Read, got, refused, answered}
use Rattle.refusal.specs.declared.Refusal.{Refusal}
use Rattle.refusal.specs.declared.Refusal.TheVariants.{EndOfInput, UnsupportedProtocol, Invalid, InvalidLiteral}
use Rattle.refusal.specs.declared.Wanted.TheVariants.{Length}
use Rattle.utf8.specs.Utf8.{repair}
use Rattle.input.specs.Bytes.{Bytes, bytes_take, bytes_drop}
use Rattle.input.specs.Long.{denotes, in_i64, bits64, long_of, bits_sign, short_in}
use Rattle.number.specs.Number.{Int, truth, whole, turned, int_literal, long_literal}
use Rattle.number.specs.Literal.{IntBits, truth_bits, whole_bits, int_bits, int_read}
use Rattle.number.specs.declared.IntLiteral.{IntLiteral}
use Rattle.number.specs.declared.IntLiteral.TheVariants as ints
use Rattle.float.specs.Literal.{parse_f64}
use Rattle.input.specs.Line.{line_of, line-length}
use Rattle.text.specs.Pieces.{bytes_of, length_of}
use Rattle.text.specs.Text.{inner, unescape_string, unescape_unicode, string_measured, quoted_says, decoded_says}
use Rattle.text.specs.Answers.{got_bytes, decoded_len, decoded_bad, quoted_plain, quoted_escaped, quoted_bad}
use Rattle.text.specs.declared.FaultAt.{FaultAt}
use Rattle.text.specs.declared.Quoted.{Quoted}
use Rattle.text.specs.declared.Quoted.TheVariants as quoted
use Rattle.value.specs.Value.{Label, BoolL, I64L, F64L, BytesL, StringL, GlobalL}
use Rattle.store.specs.declared.Effect.TheVariants.{Push, Go}
use Rattle.steps.specs.State.{ok, no, ◌>>=◌, need, byte, bytes, push}
use Rattle.steps.specs.Opcodes.{int_label, signed_length, proto, binstring, global}
use Rattle.steps.specs.Run.{going}
use Rattle.store.specs.declared.Counts.{Counts}
use Rattle.store.specs.Rooms.{Rooms, state_of, at_to}
use Rattle.store.specs.Effects.{Sound, Decides}
use Rattle.decoder.specs.Reads.{cut_to, bytes-short, bytes_got, line-none, line_got}
use Rattle.decoder.specs.ReadsPickle.{ReadsPart, prefixed, ReadsLong, NoLine, long_got, long_large, Makes, refused_going, says_go, pushed_step, short, enough, ended, lined, first_byte, line_part, LineAt, makes_as, makes_bytes, makes_escaped, makes_unicode, makes_global}

-- ---- PROTO, with v as the highest protocol

module _ (c : Counts) (p : List ℕ) (v : ℕ) where
  pub proto_ends : length p - c.at < 1 → Decides c (λ r. r.pickle ≡ p) (λ s. going (proto v s)) (Err EndOfInput)
  unfolding Decides proto byte ◌>>=◌
  proto_ends h r s q = refused_going r c s EndOfInput (proto v (state_of r c)) (rw (short c p 1 h r s q))

  module _ (h : 1 ≤ length p - c.at) where
    read : (r : Rooms) → Sound r c → r.pickle ≡ p → byte (state_of r c) ≡ ok (get_or p c.at 0, state_of r (at_to c (c.at + 1)))
    unfolding byte ◌>>=◌
    read r s q = rw (enough c p 1 h r s q, first_byte p c.at)

    pub proto_new : v < get_or p c.at 0 → Decides c (λ r. r.pickle ≡ p) (λ s. going (proto v s)) (Err (UnsupportedProtocol (get_or p c.at 0)))
    unfolding Decides proto ◌>>=◌ need
    proto_new k r s q = refused_going r c s (UnsupportedProtocol (get_or p c.at 0)) (proto v (state_of r c)) (rw (read r s q, lt-leb (get_or p c.at 0) v k))

    pub proto_known : (c₁ : Counts) → get_or p c.at 0 ≤ v → c₁ ≡ cut_to c (c.at + 1) c.stack c.marks → Decides c (λ r. r.pickle ≡ p) (λ s. going (proto v s)) (Ok (Go c₁))
    unfolding Decides proto ◌>>=◌ need
    proto_known c₁ k e r s q = rw e (says_go r c s (c.at + 1) (proto v (state_of r c)) (rw (read r s q, le-leb (get_or p c.at 0) v k)) (omega arith) (rw q (omega arith)))

-- ---- what an answer of a literal's function says

-- INT's bits as a label
unfoldable bits_label : IntBits → Label
bits_label (truth_bits b) = BoolL b
bits_label (whole_bits n) = I64L n

int_bits_lem : (x : Read Int) → turned int_label x ≡ turned bits_label (turned int_bits x)
unfolding turned int_label int_bits bits_label
int_bits_lem (got (truth b)) = refl
int_bits_lem (got (whole z)) = refl
int_bits_lem (refused why j) = refl

module _ (l : List ℕ) (x : Result IntLiteral Refusal) (e : int_read x ≡ turned int_bits (int_literal l)) where
  int_says : turned int_label (int_literal l) ≡ turned bits_label (int_read x)
  int_says = int_bits_lem (int_literal l) ∙ ap (turned bits_label) (sym e)

  pub int_bool : (b : Bool) → x ≡ Ok (ints.Bool b) → turned int_label (int_literal l) ≡ got (BoolL b)
  unfolding turned int_read bits_label
  int_bool b d = int_says ∙ ap (λ (y : Result IntLiteral Refusal). turned bits_label (int_read y)) d

  pub int_whole : (v : ℕ) → x ≡ Ok (ints.I64 v) → turned int_label (int_literal l) ≡ got (I64L v)
  unfolding turned int_read bits_label
  int_whole v d = int_says ∙ ap (λ (y : Result IntLiteral Refusal). turned bits_label (int_read y)) d

  pub int_bad : (why : Refusal) → x ≡ Err why → turned int_label (int_literal l) ≡ refused why 0
  unfolding turned int_read bits_label
  int_bad why d = int_says ∙ ap (λ (y : Result IntLiteral Refusal). turned bits_label (int_read y)) d

turned-turned : {A B D : Type 0} (f : A → B) (g : B → D) (x : Read A) → turned (λ a. g (f a)) x ≡ turned g (turned f x)
unfolding turned
turned-turned f g (got a) = refl
turned-turned f g (refused why j) = refl

module _ (l : List ℕ) (x : Result ℕ Refusal) (e : answered x ≡ turned bits64 (long_literal l)) where
  long-says : turned (λ z. I64L (bits64 z)) (long_literal l) ≡ turned I64L (answered x)
  long-says = turned-turned bits64 I64L (long_literal l) ∙ ap (turned I64L) (sym e)

  pub long-whole : (v : ℕ) → x ≡ Ok v → turned (λ z. I64L (bits64 z)) (long_literal l) ≡ got (I64L v)
  unfolding turned
  long-whole v d = long-says ∙ ap (λ (y : Result ℕ Refusal). turned I64L (answered y)) d

  pub long_bad : (why : Refusal) → x ≡ Err why → turned (λ z. I64L (bits64 z)) (long_literal l) ≡ refused why 0
  unfolding turned
  long_bad why d = long-says ∙ ap (λ (y : Result ℕ Refusal). turned I64L (answered y)) d

module _ (l : List ℕ) (x : Result ℕ Refusal) (e : answered x ≡ parse_f64 l) where
  pub float-bits : (v : ℕ) → x ≡ Ok v → turned F64L (parse_f64 l) ≡ got (F64L v)
  unfolding turned
  float-bits v d = ap (turned F64L) (sym e ∙ ap answered d)

  pub float_bad : (why : Refusal) → x ≡ Err why → turned F64L (parse_f64 l) ≡ refused why 0
  unfolding turned
  float_bad why d = ap (turned F64L) (sym e ∙ ap answered d)

-- ---- LONG1, LONG4

-- a part from its place to its end
cut_part : (p : List ℕ) (a m : ℕ) → take (a + m - a) (drop a p) ≡ take m (drop a p)
cut_part p a m = let e : a + m - a ≡ m = omega arith in rw e

-- x is the integer of the part behind a length of n bytes
module _ (p : List ℕ) (n at : ℕ) (t : Result (ℕ × ℕ) Refusal) (h : ReadsPart at p (prefixed n) t) (a m : ℕ) (e : t ≡ Ok (a, m)) (x : Result ℕ Refusal) (d : answered x ≡ long_of (take (a + m - a) (drop a p))) where
  part_says : long_of (take m (drop a p)) ≡ answered x
  part_says = sym (d ∙ ap long_of (cut_part p a m))

  pub long-value : (v : ℕ) → x ≡ Ok v → ReadsLong n at p (Ok (a + m, v))
  long-value v k = long_got p n at t h a m e v (part_says ∙ ap answered k)

  pub long-outside : (why : Refusal) → x ≡ Err why → ReadsLong n at p (Err why)
  long-outside why k = long_large p n at t h a m e why (part_says ∙ ap answered k)

-- ---- a line's own part

-- what stands of the line l in the pickle
pub line_own : (p : List ℕ) (at i : ℕ) (l : List ℕ) → l ≡ line_of p at i → take (length l) (drop at p) ≡ l
line_own p at i l d = rw d (sym (line_part p at i))

pub line-size : {p : List ℕ} {at i : ℕ} {l : List ℕ} → LineAt p at i → l ≡ line_of p at i → length l < 65536
line-size {p = p} {at = at} {i = i} e d = rw d (let h = line-length p at i in omega arith)

-- ---- UNICODE

module _ (l : List ℕ) (x : Result ℕ FaultAt) (e : decoded_says x ≡ length_of (unescape_unicode l)) where
  pub unicode-some : (n : ℕ) → x ≡ Ok n → turned StringL (unescape_unicode l) ≡ got (StringL (bytes_of (unescape_unicode l)))
  unfolding turned
  unicode-some n d = ap (turned StringL) (got_bytes (unescape_unicode l) (decoded_len (unescape_unicode l) n (rw d at e)).0)

  pub unicode_bad : (f : FaultAt) → x ≡ Err f → turned StringL (unescape_unicode l) ≡ refused InvalidLiteral f.0
  unfolding turned
  unicode_bad f d = ap (turned StringL) (decoded_bad (unescape_unicode l) f (rw d at e))

-- a node that keeps its line
module _ {p : List ℕ} {at i w : ℕ} {l : List ℕ} (n : LineAt p at i) (d : l ≡ line_of p at i) (e : w ≡ length l * 2 ^ 32 + at) where
  pub makes_line : Makes p 14 w (StringL (bytes_of (unescape_unicode l)))
  makes_line =
      makes_as p 14 w (length l * 2 ^ 32 + at) _ e (subst (λ (t : List ℕ). Makes p 14 (length l * 2 ^ 32 + at) (StringL (bytes_of (unescape_unicode t)))) (line_own p at i l d) (makes_unicode p at (length l) (omega arith)))

  pub makes_string-line : Makes p 13 w (BytesL (bytes_of (unescape_string l)))
  makes_string-line =
      makes_as p 13 w (length l * 2 ^ 32 + at) _ e (subst (λ (t : List ℕ). Makes p 13 (length l * 2 ^ 32 + at) (BytesL (bytes_of (unescape_string t)))) (line_own p at i l d) (makes_escaped p at (length l) (omega arith)))

-- ---- STRING

drop_one : (n : ℕ) (d : List ℕ) → drop 1 (take (suc n) d) ≡ take n (drop 1 d)
drop_one zero [] = refl
drop_one (suc n) [] = refl
drop_one n (b ∷ d) = refl

inner_own : (l d : List ℕ) (n : ℕ) → l ≡ take (suc n) d → length l ≡ suc n → inner l ≡ take (suc n - 2) (drop 1 d)
unfolding inner
inner_own l d n e k = rw k (ap (λ (t : List ℕ). take (suc n - 2) (drop 1 t)) e ∙ ap (take (suc n - 2)) (drop_one n d) ∙ take-take (suc n - 2) n (drop 1 d) (omega arith))

module _ (l : List ℕ) (x : Result Quoted FaultAt) (e : quoted_says l x ≡ string_measured l) where
  pub string_plain : x ≡ Ok quoted.Plain → unescape_string l ≡ got (inner l)
  string_plain d = quoted_plain l (rw d at e)

  pub string_escaped : (n : ℕ) → x ≡ Ok (quoted.Escaped n) → turned BytesL (unescape_string l) ≡ got (BytesL (bytes_of (unescape_string l)))
  unfolding turned
  string_escaped n d = ap (turned BytesL) (got_bytes (unescape_string l) (quoted_escaped l n (rw d at e)).0)

  pub string_bad : (f : FaultAt) → x ≡ Err f → turned BytesL (unescape_string l) ≡ refused InvalidLiteral f.0
  unfolding turned
  string_bad f d = ap (turned BytesL) (quoted_bad l f (rw d at e))

pub plain_label : (l : List ℕ) → unescape_string l ≡ got (inner l) → turned BytesL (unescape_string l) ≡ got (BytesL (inner l))
unfolding turned
plain_label l e = ap (turned BytesL) e

pub makes_inner : {p : List ℕ} {at i w : ℕ} {l : List ℕ} → LineAt p at i → l ≡ line_of p at i → 2 ≤ length l → w ≡ (length l - 2) * 2 ^ 32 + (at + 1) → Makes p 4 w (BytesL (inner l))
makes_inner {p = p} {at = at} {i = i} {w = w} {l = l} n d k e =
    let y : suc (length l - 1) ≡ length l = omega arith in
    let x : suc (length l - 1) - 2 ≡ length l - 2 = omega arith in
    let q : inner l ≡ take (length l - 2) (drop (at + 1) p) = inner_own l (drop at p) (length l - 1) (sym (line_own p at i l d) ∙ ap (λ (n : ℕ). take n (drop at p)) (sym y)) (sym y) ∙ ap₂ take x (drop-drop 1 at p) in
    makes_as p 4 w ((length l - 2) * 2 ^ 32 + (at + 1)) _ e (subst (λ (t : List ℕ). Makes p 4 ((length l - 2) * 2 ^ 32 + (at + 1)) (BytesL t)) (sym q) (makes_bytes p (at + 1) (length l - 2) (omega arith)))

-- ---- BINSTRING

-- an i32's sign, by its 64 bits
length-below : (z : ℤ) → in_i64 z ≡ true → 0x7FFF_FFFF_FFFF_FFFF < bits64 z → signed_length z ≡ no (Invalid Length)
unfolding signed_length bits64
length-below (pos n) h k = let y = ltb-true n (2 ^ 63) (bits_sign (pos n) h) in absurd (omega arith)
length-below (negsuc n) h k = refl

length_is : (z : ℤ) → in_i64 z ≡ true → bits64 z ≤ 0x7FFF_FFFF_FFFF_FFFF → signed_length z ≡ ok (bits64 z)
unfolding signed_length bits64
length_is (pos n) h k = refl
length_is (negsuc n) h k = let y = ltb-false (2 ^ 64 - suc n) (2 ^ 63) (bits_sign (negsuc n) h) in absurd (omega arith)

module _ (c : Counts) (p : List ℕ) where
  pub binstring_ends : length p - c.at < 4 → Decides c (λ r. r.pickle ≡ p) (λ s. going (binstring s)) (Err EndOfInput)
  unfolding Decides binstring ◌>>=◌
  binstring_ends h r s q = refused_going r c s EndOfInput (binstring (state_of r c)) (rw (short c p 4 h r s q))

  module _ (B : Bytes p) (h : 4 ≤ length p - c.at) (v : ℕ) (e : v ≡ bits64 (denotes (take 4 (drop c.at p)))) where
    word : in_i64 (denotes (take 4 (drop c.at p))) ≡ true
    word = short_in (take 4 (drop c.at p)) (bytes_take 4 (drop c.at p) (bytes_drop c.at p B)) (simp length-take (omega arith))

    pub binstring-below : 0x7FFF_FFFF_FFFF_FFFF < v → Decides c (λ r. r.pickle ≡ p) (λ s. going (binstring s)) (Err (Invalid Length))
    unfolding Decides binstring ◌>>=◌
    binstring-below k r s q =
        refused_going r c s (Invalid Length) (binstring (state_of r c)) (rw (enough c p 4 h r s q, length-below (denotes (take 4 (drop c.at p))) word (rw e at k)))

    module _ (k : v ≤ 0x7FFF_FFFF_FFFF_FFFF) where
      behind : (r : Rooms) → Sound r c → r.pickle ≡ p → binstring (state_of r c) ≡ (bytes v (state_of r (at_to c (c.at + 4))) >>= λ x. push (BytesL x.0) x.1)
      unfolding binstring ◌>>=◌
      behind r s q = rw (enough c p 4 h r s q, length_is (denotes (take 4 (drop c.at p))) word (rw e at k), ← e)

      pub binstring-short : length p - c.at - 4 < v → Decides c (λ r. r.pickle ≡ p) (λ s. going (binstring s)) (Err EndOfInput)
      unfolding Decides ◌>>=◌
      binstring-short m r s q = refused_going r c s EndOfInput (binstring (state_of r c)) (behind r s q ∙ rw (bytes-short r (at_to c (c.at + 4)) v (rw q (omega arith)) (rw q (omega arith))))

      pub binstring-push : (w : ℕ) (c₁ : Counts) → v ≤ length p - c.at - 4 → w ≡ v * 2 ^ 32 + (c.at + 4) → c.at + 4 < 2 ^ 32 → c₁ ≡ cut_to c (c.at + 4 + v) c.stack c.marks
          → Decides c (λ r. r.pickle ≡ p) (λ s. going (binstring s)) (Ok (Push c₁ 4 w))
      unfolding ◌>>=◌
      binstring-push w c₁ m f g =
          pushed_step c p binstring (c.at + 4 + v) 4 w (BytesL (take v (drop (c.at + 4) p))) c₁
          (λ r s q. behind r s q ∙ rw (bytes_got r (at_to c (c.at + 4)) v (rw q (omega arith)) (rw q (omega arith)), q))
          (makes_as p 4 w (v * 2 ^ 32 + (c.at + 4)) _ f (makes_bytes p (c.at + 4) v g))
          (omega arith)
          (omega arith)

-- ---- GLOBAL

module _ (c : Counts) (p : List ℕ) where
  pub global_ends : {why : Refusal} → NoLine p c.at why → Decides c (λ r. r.pickle ≡ p) (λ s. going (global s)) (Err why)
  unfolding Decides global ◌>>=◌
  global_ends e r s q = rw e.is (refused_going r c s EndOfInput (global (state_of r c)) (rw (ended c p e.none r s q)))

  module _ {i : ℕ} (e : LineAt p c.at i) where
    pub global_cut : {why : Refusal} → NoLine p (i + 1) why → Decides c (λ r. r.pickle ≡ p) (λ s. going (global s)) (Err why)
    unfolding Decides global ◌>>=◌
    global_cut f r s q = rw f.is (refused_going r c s EndOfInput (global (state_of r c)) (rw (lined c p i e.found r s q, line-none r (at_to c (i + 1)) (rw q f.none))))

    module _ {j : ℕ} (f : LineAt p (i + 1) j) {l m : List ℕ} (d : l ≡ line_of p c.at i) (g : m ≡ line_of p (i + 1) j) where
      both : (r : Rooms) → Sound r c → r.pickle ≡ p → global (state_of r c) ≡ push (GlobalL (repair l) (repair m)) (state_of r (at_to c (j + 1)))
      unfolding global ◌>>=◌
      both r s q = rw (lined c p i e.found r s q, line_got r (at_to c (i + 1)) j (rw q f.found), q, d, g)

      pub global-push : {k w : ℕ} {c₁ : Counts} → k ≡ 11 + 16 * (length l * 2 ^ 24 + c.at) → w ≡ length m * 2 ^ 32 + (i + 1) → c₁ ≡ cut_to c (j + 1) c.stack c.marks
          → Decides c (λ r. r.pickle ≡ p) (λ s. going (global s)) (Ok (Push c₁ k w))
      global-push {k = k} {w = w} {c₁ = c₁} x y =
          pushed_step c p global (j + 1) k w (GlobalL (repair l) (repair m)) c₁ both
          (rw (x, y) (rw (line_own p c.at i l d, line_own p (i + 1) j m g) at (makes_global p c.at (length l) (i + 1) (length m) (omega arith) (omega arith))))
          (omega arith)
          (omega arith)
