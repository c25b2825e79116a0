-- What stands before a value's contents is read back: scalars, texts, classes, and containers that are still empty.
use Prim.Native.Nat.{ℕ, suc, zero, ◌+◌, ◌-◌, ◌*◌, ◌^◌, ◌/◌, ◌%◌, ◌≤◌, ◌<◌}
use Rattle.std.specs.Prelude.{Bool, List, [], ◌∷◌, ◌++◌, ◌≡◌, ℤ, pos, negsuc}
use Rattle.std.proofs.Math.Bool.{true, false, cond}
use Rattle.std.proofs.Common.{append_assoc, sym, ◌∙◌, ap, arith}
use Rattle.std.proofs.Math.Path.{refl}
use Rattle.std.proofs.Math.ListN.{length}
use Rattle.std.proofs.Math.Dec.{leb}
use borrow.Author.Tests.{leb-true, leb-false, le-leb, lt-ltb, le-ltb}
use Rattle.utf8.specs.Encode.{by_lt}
use Rattle.refusal.specs.Read.{got}
use Rattle.op.specs.Table.{code_of}
use Rattle.op.specs.declared.Opcode.{Opcode}
use Rattle.op.specs.declared.Opcode.TheVariants.{INT, BININT, BININT1, BININT2, NONE, BINSTRING, SHORT_BINSTRING, BINUNICODE, GLOBAL, EMPTY_DICT, EMPTY_LIST, EMPTY_TUPLE, BINFLOAT, NEWTRUE, NEWFALSE}
use Rattle.utf8.specs.Utf8.{valid}
use Rattle.utf8.specs.Laws.{repair-valid}
use Rattle.input.specs.Bytes.{low_first, last_byte}
use Rattle.input.specs.Long.{denotes, bits64, in_i64, less_greater}
use Rattle.number.specs.Space.{same}
use Rattle.number.specs.Trims.{same_is}
use Rattle.number.specs.Number.{whole, int_literal, turned, parse_i64, integer, natural, plus, digits, decimal}
use Rattle.output.specs.Decimal.{signed_text, signed_back}
use Rattle.output.specs.Parse.{parse_back}
use Rattle.output.specs.Put.{newline_byte}
use Rattle.value.specs.Value.{Label, NoneL, BoolL, I64L, F64L, BytesL, StringL, ListL, TupleL, DictL, GlobalL, nil}
use Rattle.steps.specs.State.{State, ◌>>=◌, leaf, with_input, push, kidless}
use Rattle.steps.specs.Opcodes.{low_bytes, binint, binint1, binint2, int, int_label, binfloat, signed_length, binstring, short_binstring, binunicode, global}
use Rattle.steps.specs.Run.{going, does}
use Rattle.ser.specs.Image.{low, high, in_i32, int_image, float_image, bytes_image, string_image, global_image, bool_image, opening}
use Rattle.ser.specs.Back.{low_back, high_back}
use Rattle.ser.specs.Short.{high-length}
use Rattle.outback.specs.Lines.{line_back, signed-writable}
use Rattle.outback.specs.Returnable.{Named}
use Rattle.outback.specs.Outcome.{LeadsTo, OneMore, leaf_more}
use Rattle.outback.specs.Steps.{by_op, after_push, bytes_ok}

-- an opcode that does nothing but push
pub pushes : (o : Opcode) (s : State) (r rest : List ℕ) (l : Label) → s.input ≡ code_of o ∷ r → does 2 o (with_input s r) ≡ going (push l (with_input s rest)) → LeadsTo s (OneMore s rest l nil)
unfolding push
pushes o s r rest l e d = by_op o s r e _ d (after_push (OneMore s rest l nil) (kidless l) (with_input s rest) (leaf_more s rest l))

low_length : (k n : ℕ) → length (low k n) ≡ k
unfolding low
low_length zero n = refl
low_length (suc k) n = ap suc (low_length k (n / 256))

-- ---- integers as they are written

-- the i64 of 64 bits
whole_of : (b : ℕ) → b < 2 ^ 64 → (z : ℤ) × (in_i64 z ≡ true) × (bits64 z ≡ b)
unfolding in_i64 bits64
whole_of b h =
    by_lt b (2 ^ 63) (λ l. (pos b, lt-ltb b (2 ^ 63) l, refl))
    (λ l. (negsuc (2 ^ 64 - suc b), rw (le-leb (2 ^ 64 - suc b) (2 ^ 63 - 1) (omega arith)), omega arith))

-- INT's two texts for Bools are those of no number that INT is written for
other_text : (b d : ℕ) → 65535 < b → b < 2 ^ 64 → integer (0x30 ∷ d ∷ []) ≡ got (pos (d - 0x30)) → d ≤ 0x39 → same (signed_text b) (0x30 ∷ d ∷ []) ≡ false
unfolding bits64
other_text b d g h i u = go (same (signed_text b) (0x30 ∷ d ∷ [])) refl
  where
    go : (x : Bool) → same (signed_text b) (0x30 ∷ d ∷ []) ≡ x → x ≡ false
    go false e = refl
    go true e =
        let z = whole_of b h in
        let t : signed_text (bits64 z.0) ≡ 0x30 ∷ d ∷ [] = rw z.2 (same_is (signed_text b) (0x30 ∷ d ∷ []) e) in
        let y : got z.0 ≡ got (pos (d - 0x30)) = sym (signed_back z.0 z.1) ∙ ap integer t ∙ i in
        let x : z.0 ≡ pos (d - 0x30) = cc in
        let w : bits64 z.0 ≡ d - 0x30 = ap bits64 x in
        absurd (omega (arith, z.2))

literal_back : (b : ℕ) (g : 65535 < b) (h : b < 2 ^ 64) → int_literal (signed_text b) ≡ got (whole (whole_of b h).0)
unfolding int_literal turned integer natural plus digits decimal
literal_back b g h =
    let z = whole_of b h in
    let p : parse_i64 (signed_text b) ≡ got z.0 = rw z.2 at (parse_back z.0 z.1) in
    rw (other_text b 0x30 g h refl (omega arith), other_text b 0x31 g h refl (omega arith), p)

-- BININT's four bytes, with their sign
four_back : (b : ℕ) → in_i32 b ≡ true → b < 2 ^ 64 → bits64 (denotes (low 4 b)) ≡ b
unfolding in_i32 denotes low low_first last_byte bits64
four_back b i h =
    by_lt b (2 ^ 31) (λ l. rw (lt-ltb (b / 256 / 256 / 256 % 256) 128 (omega arith)) (omega arith))
    (λ l.
    let u : 2 ^ 64 - 2 ^ 31 ≤ b = leb-true (2 ^ 64 - 2 ^ 31) b (rw (le-ltb b (2 ^ 31) l) at i) in
    let n = b % 256 + 256 * (b / 256 % 256 + 256 * (b / 256 / 256 % 256 + 256 * (b / 256 / 256 / 256 % 256 + 256 * 0))) in
    let m : n < 256 ^ 4 = omega arith in
    rw (le-ltb (b / 256 / 256 / 256 % 256) 128 (omega arith), less_greater n (256 ^ 4) m) (omega arith))

module _ (s : State) (rest : List ℕ) where
  pub none_back : s.input ≡ opening NoneL ++ rest → LeadsTo s (OneMore s rest NoneL nil)
  unfolding opening does
  none_back e = pushes NONE s rest rest NoneL e refl

  pub bool_back : (b : Bool) → s.input ≡ opening (BoolL b) ++ rest → LeadsTo s (OneMore s rest (BoolL b) nil)
  unfolding opening does bool_image
  bool_back true e = pushes NEWTRUE s rest rest (BoolL true) e refl
  bool_back false e = pushes NEWFALSE s rest rest (BoolL false) e refl

  pub list_back : s.input ≡ opening ListL ++ rest → LeadsTo s (OneMore s rest ListL nil)
  unfolding opening does
  list_back e = pushes EMPTY_LIST s rest rest ListL e refl

  pub dict_back : s.input ≡ opening DictL ++ rest → LeadsTo s (OneMore s rest DictL nil)
  unfolding opening does
  dict_back e = pushes EMPTY_DICT s rest rest DictL e refl

  pub tuple_back : s.input ≡ code_of EMPTY_TUPLE ∷ rest → LeadsTo s (OneMore s rest TupleL nil)
  unfolding does
  tuple_back e = pushes EMPTY_TUPLE s rest rest TupleL e refl

  pub float_back : (i : ℕ) → i < 2 ^ 64 → s.input ≡ opening (F64L i) ++ rest → LeadsTo s (OneMore s rest (F64L i) nil)
  unfolding opening does float_image binfloat ◌>>=◌
  float_back i h e = let r = high 8 i ++ rest in pushes BINFLOAT s r rest (F64L i) e (rw (bytes_ok (with_input s r) (high 8 i) rest 8 refl (high-length 8 i), high_back 8 i h))

  -- their length has one byte or four
  pub bytes_back : (t : List ℕ) → length t < 2 ^ 31 → s.input ≡ opening (BytesL t) ++ rest → LeadsTo s (OneMore s rest (BytesL t) nil)
  unfolding opening does bytes_image short_binstring low_bytes binstring signed_length denotes low low_first last_byte ◌>>=◌
  bytes_back t h = go (leb (length t) 255) refl
    where
      n : ℕ
      n = length t

      go : (b : Bool) → leb (length t) 255 ≡ b → s.input ≡ (cond b (code_of SHORT_BINSTRING ∷ low 1 (length t)) (code_of BINSTRING ∷ low 4 (length t)) ++ t) ++ rest → LeadsTo s (OneMore s rest (BytesL t) nil)
      go true q e =
          let r = low 1 n ++ (t ++ rest) in
          let z : low_first (low 1 n) ≡ n = low_back 1 n (omega (arith, leb-true n 255 q)) in
          pushes SHORT_BINSTRING s r rest (BytesL t) (e ∙ rw append_assoc)
          (rw (bytes_ok (with_input s r) (low 1 n) (t ++ rest) 1 refl refl, z, bytes_ok (with_input s (t ++ rest)) t rest n refl refl))
      go false q e =
          let r = low 4 n ++ (t ++ rest) in
          let z : low_first (low 4 n) ≡ n = low_back 4 n (omega (arith, h)) in
          let d : denotes (low 4 n) ≡ pos n = rw (lt-ltb (n / 256 / 256 / 256 % 256) 128 (omega (arith, h))) (ap pos z) in
          pushes BINSTRING s r rest (BytesL t) (e ∙ rw append_assoc)
          (rw (bytes_ok (with_input s r) (low 4 n) (t ++ rest) 4 refl refl, d, bytes_ok (with_input s (t ++ rest)) t rest n refl refl))

  pub string_back : (t : List ℕ) → length t < 2 ^ 32 → valid t ≡ true → s.input ≡ opening (StringL t) ++ rest → LeadsTo s (OneMore s rest (StringL t) nil)
  unfolding opening does string_image binunicode low_bytes ◌>>=◌
  string_back t h v e =
      let n = length t in
      let r = low 4 n ++ (t ++ rest) in
      pushes BINUNICODE s r rest (StringL t) (e ∙ rw append_assoc)
      (rw (bytes_ok (with_input s r) (low 4 n) (t ++ rest) 4 refl (low_length 4 n), low_back 4 n h, bytes_ok (with_input s (t ++ rest)) t rest n refl refl, repair-valid t v))

  pub global_back : (m k : List ℕ) → Named m k → s.input ≡ opening (GlobalL m k) ++ rest → LeadsTo s (OneMore s rest (GlobalL m k) nil)
  unfolding opening does global_image global ◌>>=◌
  global_back m k named e =
      let r₂ = k ++ (10 ∷ rest) in
      let r = m ++ (10 ∷ r₂) in
      pushes GLOBAL s r rest (GlobalL m k) (e ∙ simp append_assoc)
      (rw (line_back (with_input s r) m r₂ refl named.module_line, line_back (with_input s r₂) k rest refl named.name-line, repair-valid m named.module_valid, repair-valid k named.name-valid))

  -- ---- integers, by range

  small_back : (b : ℕ) → b < 256 ^ 1 → s.input ≡ code_of BININT1 ∷ (low 1 b ++ rest) → LeadsTo s (OneMore s rest (I64L b) nil)
  unfolding does binint1 low_bytes ◌>>=◌
  small_back b h e = let r = low 1 b ++ rest in pushes BININT1 s r rest (I64L b) e (rw (bytes_ok (with_input s r) (low 1 b) rest 1 refl (low_length 1 b), low_back 1 b h))

  short_back : (b : ℕ) → b < 256 ^ 2 → s.input ≡ code_of BININT2 ∷ (low 2 b ++ rest) → LeadsTo s (OneMore s rest (I64L b) nil)
  unfolding does binint2 low_bytes ◌>>=◌
  short_back b h e = let r = low 2 b ++ rest in pushes BININT2 s r rest (I64L b) e (rw (bytes_ok (with_input s r) (low 2 b) rest 2 refl (low_length 2 b), low_back 2 b h))

  binint_back : (b : ℕ) → in_i32 b ≡ true → b < 2 ^ 64 → s.input ≡ code_of BININT ∷ (low 4 b ++ rest) → LeadsTo s (OneMore s rest (I64L b) nil)
  unfolding does binint ◌>>=◌
  binint_back b i h e =
      let r = low 4 b ++ rest in
      pushes BININT s r rest (I64L b) e (rw (bytes_ok (with_input s r) (low 4 b) rest 4 refl (low_length 4 b), four_back b i h))

  text_back : (b : ℕ) → 65535 < b → b < 2 ^ 64 → s.input ≡ code_of INT ∷ (signed_text b ++ (10 ∷ rest)) → LeadsTo s (OneMore s rest (I64L b) nil)
  unfolding does int leaf int_label ◌>>=◌
  text_back b g h e =
      let r = signed_text b ++ (10 ∷ rest) in
      let z = whole_of b h in
      pushes INT s r rest (I64L b) e (rw (line_back (with_input s r) (signed_text b) rest refl (signed-writable b h), literal_back b g h, z.2))

  pub int_back : (b : ℕ) → b < 2 ^ 64 → s.input ≡ opening (I64L b) ++ rest → LeadsTo s (OneMore s rest (I64L b) nil)
  unfolding opening int_image
  int_back b h = go (leb b 255) refl (leb b 65535) refl (in_i32 b) refl
    where
      go : (x : Bool) → leb b 255 ≡ x → (y : Bool) → leb b 65535 ≡ y → (z : Bool) → in_i32 b ≡ z
          → s.input ≡ cond x (code_of BININT1 ∷ low 1 b) (cond y (code_of BININT2 ∷ low 2 b) (cond z (code_of BININT ∷ low 4 b) (code_of INT ∷ (signed_text b ++ (newline_byte ∷ []))))) ++ rest
          → LeadsTo s (OneMore s rest (I64L b) nil)
      go true p y q z r e = small_back b (omega (arith, leb-true b 255 p)) e
      go false p true q z r e = short_back b (omega (arith, leb-true b 65535 q)) e
      go false p false q true r e = binint_back b r h e
      go false p false q false r e = text_back b (leb-false b 65535 q) h (e ∙ rw append_assoc)
