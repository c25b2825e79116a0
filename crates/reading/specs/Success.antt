-- A reading that succeeds gives a well-formed table, whatever the pickle's bytes.
use Rattle.std.specs.Prelude.{ℕ, Bool, true, false, cond, List, ◌≡◌, refl}
use Rattle.std.proofs.Common.{arith}
use Rattle.refusal.specs.declared.Refusal.{Refusal}
use Rattle.refusal.specs.declared.Refusal.TheVariants.{ShortRoom, TooLong, EndOfInput, UnsupportedOpcode, UnsupportedProtocol, StackUnderflow, MissingMemo, InvalidLiteral, IntegerTooLarge, Invalid, TrailingData, StackFull, MarksFull, MemoFull, NodesFull, LinksFull, TooDeep, TooManyValues, TextFull, FloatOutside, BadTable, OutputFull, BadLengths, SheetShape, UnwritableName, OutsideProfile}
use Rattle.refusal.specs.Numbers.{number_of}
use Rattle.op.specs.declared.Edition.{Edition}
use Rattle.input.specs.Bytes.{Bytes}
use Rattle.value.specs.Value.{one}
use Rattle.value.specs.WellFormed.{WellFormed}
use Rattle.steps.specs.State.{State, Res, ok, no}
use Rattle.steps.specs.Run.{run}
use Rattle.steps.specs.Out.{Out, out, both_out, bind, bind_any, bind_need}
use Rattle.steps.specs.Shape.{Shaped, run_shaped}
use Rattle.reading.specs.Build.{tree}
use Rattle.reading.specs.Measure.{measured}
use Rattle.reading.specs.Reading.{Reading, refuses, reading_of, consumed, stopped, prefix_in, leaves, whole_in}
use Rattle.reading.specs.Well.{well_formed_lem}
use Rattle.reading.specs.Letters.{Lettered, lettered_at, run_lettered}

-- no refusal has number 0
pub refusal_number : (why : Refusal) → (number_of why).0 ≡ 0 → ⊥
refusal_number ShortRoom e = omega arith
refusal_number TooLong e = omega arith
refusal_number EndOfInput e = omega arith
refusal_number (UnsupportedOpcode code) e = omega arith
refusal_number (UnsupportedProtocol proto) e = omega arith
refusal_number StackUnderflow e = omega arith
refusal_number (MissingMemo index) e = omega arith
refusal_number InvalidLiteral e = omega arith
refusal_number IntegerTooLarge e = omega arith
refusal_number (Invalid what) e = omega arith
refusal_number TrailingData e = omega arith
refusal_number StackFull e = omega arith
refusal_number MarksFull e = omega arith
refusal_number MemoFull e = omega arith
refusal_number NodesFull e = omega arith
refusal_number LinksFull e = omega arith
refusal_number TooDeep e = omega arith
refusal_number TooManyValues e = omega arith
refusal_number TextFull e = omega arith
refusal_number FloatOutside e = omega arith
refusal_number (BadTable which) e = omega arith
refusal_number OutputFull e = omega arith
refusal_number BadLengths e = omega arith
refusal_number SheetShape e = omega arith
refusal_number UnwritableName e = omega arith
refusal_number (OutsideProfile code) e = omega arith

-- the nodes at STOP
Sound : State → Type 0
Sound s = Shaped s.nodes × Lettered s.nodes

stopped_sound : (ed : Edition) (p : List ℕ) → Bytes p → Out (λ (x : State × ℕ). Sound x.0) (stopped ed p)
unfolding stopped Sound
stopped_sound ed p b = bind_need _ _ _ _ λ l. bind _ _ _ _ (both_out _ _ (run ed p) (run_shaped ed p) (run_lettered ed p b)) λ s h. bind_any _ _ _ λ q e. out _ _ h

unfoldable pub Formed : Reading → Type 0
Formed r = r.answer.number ≡ 0 → WellFormed r.words r.answer.count r.bytes

refused_formed : (why : Refusal) → Formed (refuses why)
unfolding Formed
refused_formed why e = absurd (refusal_number why e)

told_formed : (n : ℕ) (s : State) (root : ℕ) → Sound s → Formed (reading_of n (one (tree s.nodes root)))
unfolding reading_of Formed Sound
told_formed n s root h = go (measured (one (tree s.nodes root))) refl
  where
    go : (r : Res (Unit {0})) → measured (one (tree s.nodes root)) ≡ r → Formed (reading_of n (one (tree s.nodes root)))
    go (no why) e = rw (e, reading_of) (refused_formed why)
    go (ok u) e = rw (e, reading_of) (λ z. well_formed_lem s.nodes root h.0 (λ i. lettered_at s.nodes i h.1) e)

pub prefix-well_formed : (ed : Edition) (p : List ℕ) → Bytes p → Formed (prefix_in ed p)
unfolding prefix_in Out
prefix-well_formed ed p b = go (stopped ed p) refl (stopped_sound ed p b)
  where
    go : (r : Res (State × ℕ)) → stopped ed p ≡ r → Out (λ (x : State × ℕ). Sound x.0) r → Formed (prefix_in ed p)
    go (no why) e h = rw (e, prefix_in) (refused_formed why)
    go (ok x) e h = rw (e, prefix_in) (told_formed (consumed p x.0) x.0 x.1 h)

pub whole-well_formed : (ed : Edition) (p : List ℕ) → Bytes p → Formed (whole_in ed p)
unfolding whole_in
whole-well_formed ed p b = go (leaves p (prefix_in ed p))
  where
    go : (c : Bool) → Formed (cond c (refuses TrailingData) (prefix_in ed p))
    go true = refused_formed TrailingData
    go false = prefix-well_formed ed p b
