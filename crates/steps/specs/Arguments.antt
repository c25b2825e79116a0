-- pickletools' forms of an argument: how many bytes each takes at the start of the input; and each opcode that has an argument, which
-- reads exactly these and then has its effect.
use Rattle.std.specs.Prelude.{ℕ, suc, ◌+◌, ◌-◌, ◌≤◌, ◌≡◌, length, get_or, take, drop, ℤ, pos, negsuc}
use mathlib.Core.List.{List, []}
use Rattle.std.proofs.Math.Path.{refl}
use Rattle.std.proofs.Common.{ap, subst, ◌∙◌, length-drop, drop-drop, leb→le, arith}
use Rattle.refusal.specs.Read.{Read, got, refused}
use Rattle.op.specs.Table.{Form, decimalnl_short, int4, uint1, uint2, decimalnl_long, long1, long4, stringnl, string4, string1, nothing, unicodestringnl, unicodestring4, floatnl, float8, uint4, stringnl_noescape_pair, stringnl_noescape, Stack, values}
use Rattle.input.specs.Bytes.{low_first}
use Rattle.input.specs.Long.{denotes}
use Rattle.input.specs.Line.{newline_of, newline_first}
use Rattle.number.specs.Number.{Int, truth, whole}
use Rattle.value.specs.Value.{I64L, F64L, BytesL, StringL, GlobalL}
use Rattle.steps.specs.State.{State, Res, ok, ◌>>=◌, leaf, with_input, bytes, byte, line}
use Rattle.steps.specs.Opcodes.{proto, int_label, int, low_bytes, binint, binint1, binint2, long, long_n, float, binfloat, string, signed_length, binstring, short_binstring, unicode, binunicode, global, get_line, get_bytes, put_line, put_bytes}
use Rattle.steps.specs.Out.{Out, out, weaken, bind, bind_any, bind_need, bind_leaf}
use Rattle.steps.specs.Effect.{Right, Did}
use Rattle.steps.specs.Parts.{get_did, put_did, push_did, same_did}

-- ---- pickletools' arguments

-- a line with its newline (0 stands where there is none: such a line is refused)
unfoldable pub past_newline : Read ℕ → ℕ
past_newline (got i) = suc i
past_newline (refused why p) = 0

unfoldable pub line_length : List ℕ → ℕ
line_length i = past_newline (newline_of i 0)

-- a length of n bytes, and so many bytes
unfoldable pub counted_length : ℕ → List ℕ → ℕ
counted_length n i = n + low_first (take n i)

-- string4 has a signed length
unfoldable pub magnitude : ℤ → ℕ
magnitude (pos n) = n
magnitude (negsuc n) = 0

-- the bytes of an argument at the start of the input
unfoldable pub argument_length : Form → List ℕ → ℕ
argument_length decimalnl_short i = line_length i
argument_length int4 i = 4
argument_length uint1 i = 1
argument_length uint2 i = 2
argument_length decimalnl_long i = line_length i
argument_length long1 i = counted_length 1 i
argument_length long4 i = counted_length 4 i
argument_length stringnl i = line_length i
argument_length string4 i = 4 + magnitude (denotes (take 4 i))
argument_length string1 i = counted_length 1 i
argument_length nothing i = 0
argument_length unicodestringnl i = line_length i
argument_length unicodestring4 i = counted_length 4 i
argument_length floatnl i = line_length i
argument_length float8 i = 8
argument_length uint4 i = 4
argument_length stringnl_noescape_pair i = line_length i + line_length (drop (line_length i) i)
argument_length stringnl_noescape i = line_length i

-- the first n bytes were read, and nothing else done
pub record ReadsOnly (n : ℕ) (s t : State) : Type 0 where
  pub fits : n ≤ length s.input
  pub rest : t ≡ with_input s (drop n s.input)

reads_more : (n m : ℕ) (s t u : State) → ReadsOnly n s t → ReadsOnly m t u → ReadsOnly (n + m) s u
reads_more n m s t u a b =
    let e = a.rest in
    let l : m ≤ length s.input - n = let z : m ≤ length (drop n s.input) = rw e at b.fits in rw length-drop at z in
    let h = a.fits in
    record { fits = omega arith; rest = b.rest ∙ rw (e, ← drop-drop m n s.input) }

bytes_read : (n : ℕ) (s : State) → Out (λ (p : List ℕ × State). (p.0 ≡ take n s.input) × ReadsOnly n s p.1) (bytes n s)
unfolding bytes
bytes_read n s = bind_need _ _ _ _ λ h. out _ _ (refl, record { fits = leb→le n (length s.input) h; rest = refl })

low_bytes-read : (n : ℕ) (s : State) → Out (λ (p : ℕ × State). (p.0 ≡ low_first (take n s.input)) × ReadsOnly n s p.1) (low_bytes n s)
unfolding low_bytes
low_bytes-read n s = bind _ _ _ _ (bytes_read n s) λ p h. out _ _ (ap low_first h.0, h.1)

pub byte-read : (s : State) → Out (λ (p : ℕ × State). (p.0 ≡ get_or (take 1 s.input) 0 0) × ReadsOnly 1 s p.1) (byte s)
unfolding byte
byte-read s = bind _ _ _ _ (bytes_read 1 s) λ p h. out _ _ (ap (λ (l : List ℕ). get_or l 0 0) h.0, h.1)

line_read : (s : State) → Out (λ (p : List ℕ × State). ReadsOnly (line_length s.input) s p.1) (line s)
unfolding line line_length past_newline
line_read s = bind_leaf _ _ _ λ i e. out _ _ (rw e (record { fits = (newline_first s.input 0 i e).inside; rest = refl }))

-- ---- an opcode against its row

-- its argument read, and then its effect, with what it takes and leaves
pub record Claim (f : Form) (tk lv : Stack) (s t : State) : Type 0 where
  pub then : State
  pub reads : ReadsOnly (argument_length f s.input) s then
  pub did : Did tk lv then t

claim : (f : Form) (tk lv : Stack) (s s₁ : State) (r : Res State) → ReadsOnly (argument_length f s.input) s s₁ → Out (Did tk lv s₁) r → Out (Claim f tk lv s) r
claim f tk lv s s₁ r h d = weaken _ _ _ d λ t u. record { then = s₁; reads = h; did = u }

-- no argument
pub without-argument : (tk lv : Stack) (s : State) (r : Res State) → Out (Did tk lv s) r → Out (Claim nothing tk lv s) r
unfolding argument_length
without-argument tk lv s r d = claim nothing tk lv s s r (record { fits = omega arith; rest = refl }) d

-- a line that a leaf reads
module _ (f : Form) (lv : Stack) (s : State) (is-line : argument_length f s.input ≡ line_length s.input) where
  of_line : {A : Type 0} (read : List ℕ → Read A) (g : A → State → Res State) → ((a : A) (t : State) → Out (Did (values 0) lv t) (g a t)) → Out (Claim f (values 0) lv s) (line s >>= λ p. leaf (read p.0) >>= λ a. g a p.1)
  of_line read g k = bind _ _ _ _ (line_read s) λ p h. bind_leaf _ _ _ λ a e. claim f (values 0) lv s p.1 _ (rw is-line h) (k a p.1)

-- a number of n bytes, low byte first
of_low : (n : ℕ) (f : Form) (lv : Stack) (s : State) (g : ℕ → State → Res State) → argument_length f s.input ≡ n → ((a : ℕ) (t : State) → Out (Did (values 0) lv t) (g a t)) → Out (Claim f (values 0) lv s) (low_bytes n s >>= λ p. g p.0 p.1)
of_low n f lv s g e k = bind _ _ _ _ (low_bytes-read n s) λ p h. claim f (values 0) lv s p.1 _ (rw e h.1) (k p.0 p.1)

of_bytes : (n : ℕ) (f : Form) (s : State) (g : List ℕ → State → Res State) → argument_length f s.input ≡ n → ((a : List ℕ) (t : State) → Out (Did (values 0) (values 1) t) (g a t)) → Out (Claim f (values 0) (values 1) s) (bytes n s >>= λ p. g p.0 p.1)
of_bytes n f s g e k = bind _ _ _ _ (bytes_read n s) λ p h. claim f (values 0) (values 1) s p.1 _ (rw e h.1) (k p.0 p.1)

-- bytes with their number before them
of_counted : (n : ℕ) (f : Form) (s : State) (g : List ℕ → State → Res State) → argument_length f s.input ≡ counted_length n s.input → ((a : List ℕ) (t : State) → Out (Did (values 0) (values 1) t) (g a t)) → Out (Claim f (values 0) (values 1) s) (low_bytes n s >>= λ p. bytes p.0 p.1 >>= λ q. g q.0 q.1)
unfolding counted_length
of_counted n f s g e k = bind _ _ _ _ (low_bytes-read n s) λ p h. bind _ _ _ _ (bytes_read p.0 p.1) λ q u. claim f (values 0) (values 1) s q.1 _ (rw (e, ← h.0) (reads_more n p.0 s p.1 q.1 h.1 u.1)) (k q.0 q.1)

sized : (z : ℤ) (n : ℕ) → signed_length z ≡ ok n → magnitude z ≡ n
unfolding signed_length magnitude
sized (pos m) n e = cc
sized (negsuc m) n e = let c : ◌≡◌ {A = ℕ} 0 1 = cc in absurd (omega arith)

module _ (s : State) where
  pub int_claim : Out (Claim decimalnl_short (values 0) (values 1) s) (int s)
  unfolding int argument_length int_label Right
  int_claim = of_line decimalnl_short (values 1) s refl _ _ λ v t. push_did (int_label v) t (none v t)
    where
      none : (v : Int) (t : State) → Right t.nodes (int_label v) []
      none (truth b) t = refl
      none (whole z) t = refl

  pub long_claim : Out (Claim decimalnl_long (values 0) (values 1) s) (long s)
  unfolding long argument_length Right
  long_claim = of_line decimalnl_long (values 1) s refl _ _ λ v t. push_did (I64L _) t refl

  pub float_claim : Out (Claim floatnl (values 0) (values 1) s) (float s)
  unfolding float argument_length Right
  float_claim = of_line floatnl (values 1) s refl _ _ λ v t. push_did (F64L _) t refl

  pub string_claim : Out (Claim stringnl (values 0) (values 1) s) (string s)
  unfolding string argument_length Right
  string_claim = of_line stringnl (values 1) s refl _ _ λ v t. push_did (BytesL _) t refl

  pub unicode_claim : Out (Claim unicodestringnl (values 0) (values 1) s) (unicode s)
  unfolding unicode argument_length Right
  unicode_claim = of_line unicodestringnl (values 1) s refl _ _ λ v t. push_did (StringL _) t refl

  pub binint_claim : Out (Claim int4 (values 0) (values 1) s) (binint s)
  unfolding binint argument_length Right
  binint_claim = of_bytes 4 int4 s _ refl λ v t. push_did (I64L _) t refl

  pub binfloat_claim : Out (Claim float8 (values 0) (values 1) s) (binfloat s)
  unfolding binfloat argument_length Right
  binfloat_claim = of_bytes 8 float8 s _ refl λ v t. push_did (F64L _) t refl

  pub binint1_claim : Out (Claim uint1 (values 0) (values 1) s) (binint1 s)
  unfolding binint1 argument_length Right
  binint1_claim = of_low 1 uint1 (values 1) s _ refl λ v t. push_did (I64L _) t refl

  pub binint2_claim : Out (Claim uint2 (values 0) (values 1) s) (binint2 s)
  unfolding binint2 argument_length Right
  binint2_claim = of_low 2 uint2 (values 1) s _ refl λ v t. push_did (I64L _) t refl

  pub short_binstring_claim : Out (Claim string1 (values 0) (values 1) s) (short_binstring s)
  unfolding short_binstring argument_length Right
  short_binstring_claim = of_counted 1 string1 s _ refl λ v t. push_did (BytesL _) t refl

  pub binunicode_claim : Out (Claim unicodestring4 (values 0) (values 1) s) (binunicode s)
  unfolding binunicode argument_length Right
  binunicode_claim = of_counted 4 unicodestring4 s _ refl λ v t. push_did (StringL _) t refl

  pub long_n_claim : (n : ℕ) (f : Form) → argument_length f s.input ≡ counted_length n s.input → Out (Claim f (values 0) (values 1) s) (long_n n s)
  unfolding long_n Right
  long_n_claim n f e = of_counted n f s _ e λ v t. bind_leaf _ _ _ λ z h. push_did (I64L z) t refl

  pub binstring_claim : Out (Claim string4 (values 0) (values 1) s) (binstring s)
  unfolding binstring argument_length Right
  binstring_claim =
      bind _ _ _ _ (bytes_read 4 s) λ p h. bind_any _ _ _ λ n e. bind _ _ _ _ (bytes_read n p.1) λ q u.
      claim string4 (values 0) (values 1) s q.1 _ (rw (← h.0, sized (denotes p.0) n e) (reads_more 4 n s p.1 q.1 h.1 u.1)) (push_did (BytesL q.0) q.1 refl)

  pub global_claim : Out (Claim stringnl_noescape_pair (values 0) (values 1) s) (global s)
  unfolding global argument_length Right
  global_claim =
      bind _ _ _ _ (line_read s) λ p h. bind _ _ _ _ (line_read p.1) λ q u.
      claim stringnl_noescape_pair (values 0) (values 1) s q.1 _ (reads_more _ _ s p.1 q.1 h (subst (λ (x : List ℕ). ReadsOnly (line_length x) p.1 q.1) (ap (λ (x : State). x.input) h.rest) u)) (push_did (GlobalL _ _) q.1 refl)

  pub proto_claim : (v : ℕ) → Out (Claim uint1 (values 0) (values 0) s) (proto v s)
  unfolding proto argument_length
  proto_claim v = bind _ _ _ _ (byte-read s) λ p r. bind_need _ _ _ _ λ u. claim uint1 (values 0) (values 0) s p.1 _ r.1 (out _ _ (same_did p.1))

  pub get_line_claim : Out (Claim decimalnl_short (values 0) (values 1) s) (get_line s)
  unfolding get_line argument_length
  get_line_claim = of_line decimalnl_short (values 1) s refl _ _ get_did

  pub put_line_claim : Out (Claim decimalnl_short (values 0) (values 0) s) (put_line s)
  unfolding put_line argument_length
  put_line_claim = of_line decimalnl_short (values 0) s refl _ _ put_did

  pub get_bytes_claim : (n : ℕ) (f : Form) → argument_length f s.input ≡ n → Out (Claim f (values 0) (values 1) s) (get_bytes n s)
  unfolding get_bytes
  get_bytes_claim n f e = of_low n f (values 1) s _ e get_did

  pub put_bytes_claim : (n : ℕ) (f : Form) → argument_length f s.input ≡ n → Out (Claim f (values 0) (values 0) s) (put_bytes n s)
  unfolding put_bytes
  put_bytes_claim n f e = of_low n f (values 0) s _ e put_did
