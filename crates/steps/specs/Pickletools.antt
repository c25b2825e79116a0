-- The machine against pickletools' table (crate op): an opcode that the machine accepts reads exactly its row's argument after its own
-- byte, and takes from the stack and leaves on it what its row says.
--
-- Where the Rust differs: STOP's value is still on the stack when the run ends (the reading takes it). PUT, BINPUT and LONG_BINPUT
-- ask for a value, which their rows do not name (`put_empty`). Marks are no values: they stand beside the stack, and only MARK,
-- POP_MARK and the opcodes that take all above a mark change them. The length of LONG4 is unsigned.
use Rattle.std.specs.Prelude.{ℕ, ◌<◌, Bool, true, false, cond, ◌&&◌, Some, None, List, [], ◌∷◌, ◌≡◌, refl, length, get_or, take, drop, eqb, T}
use Rattle.std.proofs.Math.Option.{Option, none, some}
use Rattle.std.proofs.Common.{sym, ap, ◌∙◌, drop-cons, get_or-take, eqb→eq, arith, eqb-true}
use Rattle.refusal.specs.declared.Refusal.TheVariants.{StackUnderflow}
use Rattle.op.specs.Table.{Name, known, refused as unknown, Form, uint1, long1, long4, uint4, Stack, Row, opcode_table, place, is_named, number_in, code_of, row_in, row_of, known_name, opcode_of}
use Rattle.op.specs.Edition.{Against, against, highest}
use Rattle.op.specs.declared.Opcode.{Opcode}
use Rattle.op.specs.declared.Opcode.TheVariants.{MARK, STOP, POP, POP_MARK, DUP, FLOAT, INT, BININT, BININT1, LONG, BININT2, NONE, REDUCE, STRING, BINSTRING, SHORT_BINSTRING, UNICODE, BINUNICODE, APPEND, BUILD, GLOBAL, DICT, EMPTY_DICT, APPENDS, GET, BINGET, LONG_BINGET, LIST, EMPTY_LIST, PUT, BINPUT, LONG_BINPUT, SETITEM, TUPLE, EMPTY_TUPLE, SETITEMS, BINFLOAT, PROTO, NEWOBJ, TUPLE1, TUPLE2, TUPLE3, NEWTRUE, NEWFALSE, LONG1, LONG4}
use Rattle.op.specs.declared.Edition.{Edition}
use Rattle.op.specs.declared.Objection.TheVariants.{Outside, Unknown}
use Rattle.value.specs.Value.{NoneL, BoolL, ListL, TupleL, DictL}
use Rattle.steps.specs.State.{State, Res, ok, no, ◌>>=◌, need, with_input, put, top}
use Rattle.steps.specs.Run.{Next, goes, stops, going, does, decide, admit, step}
use Rattle.steps.specs.Out.{Out, weaken, bind}
use Rattle.steps.specs.Arguments.{argument_length, ReadsOnly, byte-read, Claim, without-argument, int_claim, long_claim, float_claim, string_claim, unicode_claim, binint_claim, binfloat_claim, binint1_claim, binint2_claim, short_binstring_claim, binunicode_claim, long_n_claim, binstring_claim, global_claim, proto_claim, get_line_claim, put_line_claim, get_bytes_claim, put_bytes_claim}
use Rattle.steps.specs.Effect.{Right, effect_input}
use Rattle.steps.specs.Parts.{mark_did, pop_did, pop_mark_did, dup_did, push_did, list_did, tuple_did, dict_did, tuple_n_did, append_did, appends_did, setitem_did, setitems_did, build_did, newobj_did, reduce_did}

-- ---- every opcode, and a step

-- STOP stops with the machine as it is
unfoldable pub FitsRow : Option Row → State → Next → Type 0
FitsRow none s n = ⊥
FitsRow (some r) s (goes t) = Claim r.form r.takes r.leaves s t
FitsRow (some r) s (stops t) = (r.number ≡ 0x2E) × (t ≡ s)

goes_fits : (r : Row) (s : State) (x : Res State) → Out (Claim r.form r.takes r.leaves s) x → Out (FitsRow (some r) s) (going x)
unfolding Out FitsRow going
goes_fits r s (ok t) h = h
goes_fits r s (no why) h = tt

stops_fits : (r : Row) (s : State) → r.number ≡ 0x2E → Out (FitsRow (some r) s) (ok (stops s))
unfolding Out FitsRow
stops_fits r s e = (e, refl)

pub does_fits : (v : ℕ) (o : Opcode) (s : State) → Out (FitsRow (row_of (code_of o)) s) (does v o s)
unfolding does argument_length row_of row_in code_of number_in is_named place Right
does_fits v MARK s = goes_fits _ s _ (without-argument _ _ s _ (mark_did s))
does_fits v STOP s = stops_fits _ s refl
does_fits v POP s = goes_fits _ s _ (without-argument _ _ s _ (pop_did s))
does_fits v POP_MARK s = goes_fits _ s _ (without-argument _ _ s _ (pop_mark_did s))
does_fits v DUP s = goes_fits _ s _ (without-argument _ _ s _ (dup_did s))
does_fits v FLOAT s = goes_fits _ s _ (float_claim s)
does_fits v INT s = goes_fits _ s _ (int_claim s)
does_fits v BININT s = goes_fits _ s _ (binint_claim s)
does_fits v BININT1 s = goes_fits _ s _ (binint1_claim s)
does_fits v LONG s = goes_fits _ s _ (long_claim s)
does_fits v BININT2 s = goes_fits _ s _ (binint2_claim s)
does_fits v NONE s = goes_fits _ s _ (without-argument _ _ s _ (push_did NoneL s refl))
does_fits v REDUCE s = goes_fits _ s _ (without-argument _ _ s _ (reduce_did s))
does_fits v STRING s = goes_fits _ s _ (string_claim s)
does_fits v BINSTRING s = goes_fits _ s _ (binstring_claim s)
does_fits v SHORT_BINSTRING s = goes_fits _ s _ (short_binstring_claim s)
does_fits v UNICODE s = goes_fits _ s _ (unicode_claim s)
does_fits v BINUNICODE s = goes_fits _ s _ (binunicode_claim s)
does_fits v APPEND s = goes_fits _ s _ (without-argument _ _ s _ (append_did s))
does_fits v BUILD s = goes_fits _ s _ (without-argument _ _ s _ (build_did s))
does_fits v GLOBAL s = goes_fits _ s _ (global_claim s)
does_fits v DICT s = goes_fits _ s _ (without-argument _ _ s _ (dict_did s))
does_fits v EMPTY_DICT s = goes_fits _ s _ (without-argument _ _ s _ (push_did DictL s refl))
does_fits v APPENDS s = goes_fits _ s _ (without-argument _ _ s _ (appends_did s))
does_fits v GET s = goes_fits _ s _ (get_line_claim s)
does_fits v BINGET s = goes_fits _ s _ (get_bytes_claim s 1 uint1 refl)
does_fits v LONG_BINGET s = goes_fits _ s _ (get_bytes_claim s 4 uint4 refl)
does_fits v LIST s = goes_fits _ s _ (without-argument _ _ s _ (list_did s))
does_fits v EMPTY_LIST s = goes_fits _ s _ (without-argument _ _ s _ (push_did ListL s tt))
does_fits v PUT s = goes_fits _ s _ (put_line_claim s)
does_fits v BINPUT s = goes_fits _ s _ (put_bytes_claim s 1 uint1 refl)
does_fits v LONG_BINPUT s = goes_fits _ s _ (put_bytes_claim s 4 uint4 refl)
does_fits v SETITEM s = goes_fits _ s _ (without-argument _ _ s _ (setitem_did s))
does_fits v TUPLE s = goes_fits _ s _ (without-argument _ _ s _ (tuple_did s))
does_fits v EMPTY_TUPLE s = goes_fits _ s _ (without-argument _ _ s _ (push_did TupleL s tt))
does_fits v SETITEMS s = goes_fits _ s _ (without-argument _ _ s _ (setitems_did s))
does_fits v BINFLOAT s = goes_fits _ s _ (binfloat_claim s)
does_fits v PROTO s = goes_fits _ s _ (proto_claim s v)
does_fits v NEWOBJ s = goes_fits _ s _ (without-argument _ _ s _ (newobj_did s))
does_fits v TUPLE1 s = goes_fits _ s _ (without-argument _ _ s _ (tuple_n_did 1 s))
does_fits v TUPLE2 s = goes_fits _ s _ (without-argument _ _ s _ (tuple_n_did 2 s))
does_fits v TUPLE3 s = goes_fits _ s _ (without-argument _ _ s _ (tuple_n_did 3 s))
does_fits v NEWTRUE s = goes_fits _ s _ (without-argument _ _ s _ (push_did (BoolL true) s refl))
does_fits v NEWFALSE s = goes_fits _ s _ (without-argument _ _ s _ (push_did (BoolL false) s refl))
does_fits v LONG1 s = goes_fits _ s _ (long_n_claim s 1 long1 refl)
does_fits v LONG4 s = goes_fits _ s _ (long_n_claim s 4 long4 refl)

-- the byte of a name is its row's, for the whole table at once
own : Row → Bool
own r = elim r.name [ known o ↦ eqb (code_of o) r.number | unknown x ↦ true ]

all : List Row → Bool
all [] = true
all (r ∷ t) = own r && all t

owned : T (all opcode_table)
unfolding all own code_of number_in is_named place
owned = tt

number_of : (t : List Row) (b : ℕ) (o : Opcode) → T (all t) → known_name (row_in t b) ≡ some o → code_of o ≡ b
unfolding all own row_in known_name
number_of [] b o h e = let c : ◌≡◌ {A = ℕ} 0 1 = cc in absurd (omega arith)
number_of (r ∷ t) b o h e = go (eqb b r.number) refl e (number_of t b o (and_T (own r) (all t) h).1)
  where
    and_T : (x y : Bool) → T (x && y) → T x × T y
    and_T true y h = (tt, h)
    and_T false y h = absurd h

    named : (n : Name) → T (elim n [ known p ↦ eqb (code_of p) r.number | unknown x ↦ true ]) → ◌≡◌ {A = Option Opcode} (elim n [ known p ↦ some p | unknown x ↦ none ]) (some o) → code_of o ≡ r.number
    named (known p) a e = let q : p ≡ o = cc in rw q at (eqb→eq (code_of p) r.number a)
    named (unknown x) a e = let c : ◌≡◌ {A = ℕ} 0 1 = cc in absurd (omega arith)

    go : (c : Bool) → eqb b r.number ≡ c → known_name (cond c (some r) (row_in t b)) ≡ some o → (known_name (row_in t b) ≡ some o → code_of o ≡ b) → code_of o ≡ b
    go true q e k = named r.name (and_T (own r) (all t) h).0 e ∙ sym (eqb-true b r.number q)
    go false q e k = k e

-- a byte that is decided to be a name is that name's own
pub decided_own : (b : ℕ) (o : Opcode) → opcode_of b ≡ some o → code_of o ≡ b
unfolding opcode_of row_of
decided_own b o e = number_of opcode_table b o owned e

-- so the argument of the row is what an opcode reads, and nothing more
pub claim_reads : (f : Form) (tk lv : Stack) (s t : State) → Claim f tk lv s t → t.input ≡ drop (argument_length f s.input) s.input
claim_reads f tk lv s t c = effect_input c.then t c.did.effect ∙ ap (λ (x : State). x.input) c.reads.rest

-- the PUTs ask for a value, which their rows do not name
pub put_empty : (k : ℕ) (s : State) → s.stack ≡ [] → put k s ≡ no StackUnderflow
unfolding put top need ◌>>=◌
put_empty k s e = rw e

-- a byte that was read is the input's first
pub byte-leads : (s : State) (p : ℕ × State) → (p.0 ≡ get_or (take 1 s.input) 0 0) × ReadsOnly 1 s p.1 → s.input ≡ p.0 ∷ drop 1 s.input
byte-leads s p h =
    let l : 0 < length s.input = h.1.fits in
    let z : 0 < 1 = omega arith in
    drop-cons s.input 0 0 l ∙ ap (λ (x : ℕ). x ∷ drop 1 s.input) (sym (h.0 ∙ get_or-take 1 s.input 0 0 z))

-- what an edition has against a byte is a refusal
pub admit_out : (P : Next → Type 0) (x : Against) (b : ℕ) (r : Res Next) → Out P r → Out P (admit x b r)
unfolding admit Out
admit_out P None b r h = h
admit_out P (Some Outside) b r h = tt
admit_out P (Some Unknown) b r h = tt

-- a step reads a byte, and does what the byte's row says
pub record StepsByRow (s : State) (n : Next) : Type 0 where
  pub code : ℕ
  pub rest : List ℕ
  pub input_is : s.input ≡ code ∷ rest
  pub fits : FitsRow (row_of code) (with_input s rest) n

pub step_fits : (ed : Edition) (s : State) → Out (StepsByRow s) (step ed s)
unfolding step decide Out
step_fits ed s = bind _ _ _ _ (byte-read s) λ p h. admit_out _ (against ed p.0) p.0 _ (go p.0 p.1 (opcode_of p.0) refl h.1.rest (byte-leads s p h))
  where
    go : (b : ℕ) (t : State) (o : Option Opcode) → opcode_of b ≡ o → t ≡ with_input s (drop 1 s.input) → s.input ≡ b ∷ drop 1 s.input → Out (StepsByRow s) (decide (highest ed) o b t)
    go b t none q r c = tt
    go b t (some o) q r c = weaken (FitsRow (row_of (code_of o)) t) (StepsByRow s) (does (highest ed) o t) (does_fits (highest ed) o t) λ n f. record { code = b; rest = drop 1 s.input; input_is = c; fits = rw (← decided_own b o q, ← r) f }
