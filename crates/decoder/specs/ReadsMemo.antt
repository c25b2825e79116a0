-- The memo number that an opcode reads: its definition, and what an answer of the code's readers says of the rooms.
use Rattle.std.specs.Prelude.{ℕ, ◌≤◌, List, Result, Ok, Err, ◌≡◌, refl, length}
use Rattle.std.proofs.Common.{sym, arith}
use Rattle.refusal.specs.declared.Refusal.{Refusal}
use Rattle.number.specs.Number.{parse_u32}
use Rattle.store.specs.declared.MemoKey.{MemoKey}
use Rattle.decoder.specs.declared.KeyForm.{KeyForm}
use Rattle.decoder.specs.declared.KeyForm.TheVariants.{Line, Byte, Word}
use Rattle.steps.specs.State.{State, Res, ok, no, ◌>>=◌, leaf, line, get, put}
use Rattle.steps.specs.Opcodes.{low_bytes, get_line, get_bytes, put_line, put_bytes}
use Rattle.store.specs.declared.Counts.{Counts}
use Rattle.store.specs.Rooms.{Rooms, state_of}
use Rattle.steps.specs.Range.{range_reads}
use Rattle.store.specs.Effects.{Sound}
use Rattle.decoder.specs.Reads.{cut_to, firm_cut}

-- ---- the number

-- that of a line
unfoldable pub key_line : State → Res (ℕ × State)
key_line s = do
  (l, s₁) ← line s
  k ← leaf (parse_u32 l)
  ok (k, s₁)

-- a number read by f, then what an opcode does with it
unfoldable pub keyed : (State → Res (ℕ × State)) → (ℕ → State → Res State) → State → Res State
keyed f does s = do
  (k, s₁) ← f s
  does k s₁

line-keyed : (does : ℕ → State → Res State) (s : State) → keyed key_line does s ≡ (line s >>= λ (p : List ℕ × State). leaf (parse_u32 p.0) >>= λ (k : ℕ). does k p.1)
unfolding keyed key_line ◌>>=◌
line-keyed does s = whole (line s)
  where
    number : (t : State) (y : Res ℕ) → (y >>= (λ (k : ℕ). ok (k, t)) >>= λ (e : ℕ × State). does e.0 e.1) ≡ (y >>= λ (k : ℕ). does k t)
    number t (ok k) = refl
    number t (no why) = refl

    whole : (x : Res (List ℕ × State))
        → (x >>= (λ (p : List ℕ × State). leaf (parse_u32 p.0) >>= λ (k : ℕ). ok (k, p.1)) >>= λ (e : ℕ × State). does e.0 e.1) ≡ (x >>= λ (p : List ℕ × State). leaf (parse_u32 p.0) >>= λ (k : ℕ). does k p.1)
    whole (ok p) = number p.1 (leaf (parse_u32 p.0))
    whole (no why) = refl

-- the number, GET and PUT in each form
abbrev pub key_by : KeyForm → State → Res (ℕ × State)
key_by Line = key_line
key_by Byte = low_bytes 1
key_by Word = low_bytes 4

abbrev pub get_by : KeyForm → State → Res State
get_by Line = get_line
get_by Byte = get_bytes 1
get_by Word = get_bytes 4

abbrev pub put_by : KeyForm → State → Res State
put_by Line = put_line
put_by Byte = put_bytes 1
put_by Word = put_bytes 4

pub get_keyed : (form : KeyForm) (s : State) → get_by form s ≡ keyed (key_by form) get s
unfolding get_line get_bytes keyed
get_keyed Line s = sym (line-keyed get s)
get_keyed Byte s = refl
get_keyed Word s = refl

pub put_keyed : (form : KeyForm) (s : State) → put_by form s ≡ keyed (key_by form) put s
unfolding put_line put_bytes keyed
put_keyed Line s = sym (line-keyed put s)
put_keyed Byte s = refl
put_keyed Word s = refl

-- ---- what the code's readers answer

-- in the rooms r with the counts c: no number, or the number and the place behind it
unfoldable pub Key : (State → Res (ℕ × State)) → Counts → Rooms → Result (ℕ × MemoKey) Refusal → Type 0
Key f c r (Err why) = f (state_of r c) ≡ no why
Key f c r (Ok e) = (f (state_of r c) ≡ ok (e.1.0, state_of r (cut_to c e.0 c.stack c.marks))) × (c.at ≤ e.0) × (e.0 ≤ length r.pickle)

-- the same in all rooms with the pickle p
unfoldable pub ReadsKey : (State → Res (ℕ × State)) → Counts → List ℕ → Result (ℕ × MemoKey) Refusal → Type 0
ReadsKey f c p k = (r : Rooms) → Sound r c → r.pickle ≡ p → Key f c r k

-- ---- rooms and counts behind what was read

pub sound_read : (r : Rooms) (c : Counts) (a : ℕ) → Sound r c → c.at ≤ a → a ≤ length r.pickle → Sound r (cut_to c a c.stack c.marks)
unfolding state_of
sound_read r c a s h k = record {
  firm = firm_cut r c a c.stack c.marks s.firm h k (omega arith) (omega arith);
  range = range_reads (state_of r c) (state_of r (cut_to c a c.stack c.marks)).input s.range;
}
