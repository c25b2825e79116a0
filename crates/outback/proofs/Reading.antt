-- The reading of a returnable value's pickle, whatever follows it: an added refusal, or that value and as many bytes as its pickle has.
use Rattle.std.specs.Prelude.{ℕ, ◌≤◌, ◌<◌, Bool, true, false, ◌≡◌, ◌⊎◌, T, leb}
use mathlib.Core.List.{List, [], ◌∷◌, ◌++◌, append_assoc}
use Rattle.std.proofs.Math.Path.{refl}
use Rattle.std.proofs.Common.{◌∙◌, ap, inl, inr, T_not, arith}
use Rattle.std.proofs.Math.ListN.{length, length-append}
use Rattle.refusal.specs.declared.Refusal.{Refusal}
use Rattle.refusal.specs.declared.Refusal.TheVariants.{TooLong, TooDeep, TooManyValues, TextFull}
use Rattle.op.specs.Table.{code_of}
use Rattle.op.specs.declared.Opcode.TheVariants.{PROTO, STOP}
use Rattle.op.specs.declared.Edition.TheVariants.{Full}
use Rattle.input.specs.Bytes.{lt_or_le}
use Rattle.value.specs.Value.{Forest, Value, one, depth, size, text}
use Rattle.value.specs.WellFormed.{settled}
use Rattle.steps.specs.State.{State, Res, ok, no, ◌>>=◌, need, with_input, byte, last}
use Rattle.steps.specs.Opcodes.{proto}
use Rattle.steps.specs.Run.{does, start, run}
use Rattle.steps.specs.Fuel.{run_from, run_finish, finish_stops}
use Rattle.reading.specs.Measure.{measured, depth_limit, values_limit, text_limit}
use Rattle.reading.specs.Reading.{Reading, reads, reading_of, prefix, pickle_limit, consumed, stopped-long, stopped_refused, prefix_refused, sharing_never_shows}
use Rattle.ser.specs.Image.{images, joined, framed, pickled}
use Rattle.outback.specs.WriteOut.{WritesIn, none, more, writes_moved, writes_out, written_nothing_itself}
use Rattle.outback.specs.Added.{added_refusal}
use Rattle.outback.specs.Outcome.{Between, LeadsTo, stops, comes, leads_on, ManyMore}
use Rattle.outback.specs.Steps.{After, by_op, step_op, bytes_ok}
use Rattle.outback.specs.Items.{many_back}
use Rattle.outback.specs.Returnable.{AllReturnable}
use Rattle.outback.proofs.Values.{all_return}
use Rattle.outback.specs.Settled.{unsettled, settle-unsettled}
use Rattle.outback.specs.Reading.{ReadBack, refused as hindered, back, Unhindered}

-- ---- the run

-- PROTO 2
proto_on : (s : State) (r : List ℕ) → s.input ≡ code_of PROTO ∷ 2 ∷ r → LeadsTo s (λ (t : State). t ≡ with_input s r)
unfolding does proto byte need ◌>>=◌ After
proto_on s r e = by_op PROTO s (2 ∷ r) e (ok (with_input s r)) (rw (bytes_ok (with_input s (2 ∷ r)) (2 ∷ []) r 1 refl refl)) refl

stop_on : (t : State) (rest : List ℕ) → t.input ≡ code_of STOP ∷ rest → run_from Full t ≡ ok (with_input t rest)
unfolding does
stop_on t rest e = finish_stops Full t (with_input t rest) (step_op STOP t rest e)

-- at STOP: the value alone on the stack
record Stopped (v : Value) (rest : List ℕ) (t : State) : Type 0 where
  pub left : t.input ≡ rest
  pub root : ℕ
  pub stack : t.stack ≡ root ∷ []
  pub out : WritesIn t.nodes (λ (j : ℕ). Unit {0}) (root ∷ []) (unsettled (one v))

data RunBack (v : Value) (rest : List ℕ) (r : Res State) : Type 0 where
  refused : (why : Refusal) → T (added_refusal why) → r ≡ no why → RunBack v rest r
  stopped : (t : State) → r ≡ ok t → Stopped v rest t → RunBack v rest r

-- 17 to 19 are added refusals
measure-added : (f : Forest) (why : Refusal) → measured f ≡ no why → T (added_refusal why)
unfolding measured need ◌>>=◌
measure-added f why = go (leb (depth f) depth_limit) (leb (size f) values_limit) (leb (length (text f)) text_limit)
  where
    go : (a b c : Bool) → ◌≡◌ {A = Res (Unit {0})} (need a TooDeep >>= λ x. need b TooManyValues >>= λ y. need c TextFull) (no why) → T (added_refusal why)
    go false b c e = let q : TooDeep ≡ why = cc in rw (← q) tt
    go true false c e = let q : TooManyValues ≡ why = cc in rw (← q) tt
    go true true false e = let q : TextFull ≡ why = cc in rw (← q) tt
    go true true true e = absurd (let z : ◌≡◌ {A = ℕ} 0 1 = cc in omega arith)

module _ (v : Value) (good : AllReturnable (one v)) (rest : List ℕ) where
  -- what is read, and what is left of it behind PROTO 2
  followed : List ℕ
  followed = pickled v ++ rest

  after_proto : List ℕ
  after_proto = joined (images (one v)) ++ (code_of STOP ∷ rest)

  runs_back : LeadsTo (start followed) (ManyMore (with_input (start followed) after_proto) (code_of STOP ∷ rest) (unsettled (one v)))
  unfolding pickled framed start followed after_proto joined
  runs_back =
      leads_on (proto_on (start followed) after_proto (ap (λ (x : List ℕ). code_of PROTO ∷ 2 ∷ x) (append_assoc (joined (images (one v))) (code_of STOP ∷ []) rest)))
      (λ t e. rw e (many_back (one v) (all_return (one v) good) (with_input (start followed) after_proto) (code_of STOP ∷ rest) refl))

  stopped_at : (t : State) → ManyMore (with_input (start followed) after_proto) (code_of STOP ∷ rest) (unsettled (one v)) t → Stopped v rest (with_input t rest)
  unfolding unsettled start
  stopped_at t y = go y.ids y.stack y.values
    where
      go : (is : List ℕ) → t.stack ≡ is → WritesIn t.nodes (Between 0 (length t.nodes)) is (unsettled (one v)) → Stopped v rest (with_input t rest)
      go is e (more {i} a q c none) = record { left = refl; root = i; stack = e; out = writes_moved (λ j x. tt) (λ j x. refl) (more {i = i} a q c none) }

  run_back : RunBack v rest (run Full followed)
  run_back = go runs_back
    where
      go : LeadsTo (start followed) (ManyMore (with_input (start followed) after_proto) (code_of STOP ∷ rest) (unsettled (one v))) → RunBack v rest (run Full followed)
      go (stops why a e) = refused why a (run_finish Full followed ∙ e)
      go (comes t e y) = stopped (with_input t rest) (run_finish Full followed ∙ e ∙ stop_on t rest y.input) (stopped_at t y)

  -- ---- after STOP

  told_back : (n : ℕ) → n ≡ length (pickled v) → T (settled (one v)) → (r : Reading) → r ≡ reading_of n (unsettled (one v)) → ReadBack v r
  unfolding reading_of
  told_back n e h r q = go (measured (unsettled (one v))) refl
    where
      go : (m : Res (Unit {0})) → measured (unsettled (one v)) ≡ m → ReadBack v r
      go (no why) f = hindered why (measure-added (unsettled (one v)) why f) (q ∙ rw (f, reading_of))
      go (ok u) f = back (q ∙ rw (f, reading_of, settle-unsettled (one v) good h, e))

  stopped_back : T (settled (one v)) → length followed ≤ pickle_limit → (t : State) → run Full followed ≡ ok t → Stopped v rest t → ReadBack v (prefix followed)
  unfolding followed
  stopped_back h l t e x =
      let w = writes_out x.out in
      let a : last t.stack ≡ x.root = rw x.stack in
      let z : 0 < length t.stack = rw x.stack (omega arith) in
      let n : consumed followed t ≡ length (pickled v) = rw x.left (omega (arith, length-append (pickled v) rest)) in
      told_back (consumed followed t) n h (prefix followed) (sharing_never_shows Full followed t l e z (unsettled (one v)) (rw a (written_nothing_itself w)) (rw a w))

  answered : T (settled (one v)) → ReadBack v (prefix (pickled v ++ rest))
  unfolding followed
  answered h = go (lt_or_le pickle_limit (length followed))
    where
      ran : length followed ≤ pickle_limit → RunBack v rest (run Full followed) → ReadBack v (prefix followed)
      ran l (refused why a e) = hindered why a (prefix_refused Full followed why (stopped_refused Full followed why l e))
      ran l (stopped t e x) = stopped_back h l t e x

      go : (pickle_limit < length followed) ⊎ (length followed ≤ pickle_limit) → ReadBack v (prefix followed)
      go (inl l) = hindered TooLong tt (prefix_refused Full followed TooLong (stopped-long Full followed l))
      go (inr l) = ran l run_back

-- then it is the value's, and took exactly its pickle
pub value_back : (v : Value) → AllReturnable (one v) → T (settled (one v)) → (rest : List ℕ) → Unhindered (prefix (pickled v ++ rest)) → prefix (pickled v ++ rest) ≡ reads (length (pickled v)) (one v)
value_back v g h rest u = go (answered v g rest h)
  where
    go : ReadBack v (prefix (pickled v ++ rest)) → prefix (pickled v ++ rest) ≡ reads (length (pickled v)) (one v)
    go (hindered why a e) = absurd (T_not (added_refusal why) (rw e at u) a)
    go (back e) = e
