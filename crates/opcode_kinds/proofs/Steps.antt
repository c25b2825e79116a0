-- A step takes and leaves what its opcode's row names; and pickletools' own rows hold too, of every opcode but STOP.
use Rattle.std.specs.Prelude.{ℕ, suc, ◌-◌, Bool, true, false, cond, ◌||◌, List, [], ◌∷◌, ◌++◌, ◌≡◌, refl, length, drop, T}
use Rattle.std.proofs.Math.Option.{Option, none, some}
use Rattle.std.proofs.Common.{leb→le, arith, eqb-true}
use Rattle.op.specs.Table.{known, place, is_named, opcode_of}
use Rattle.op.specs.Edition.{against, highest}
use Rattle.op.specs.declared.Opcode.{Opcode}
use Rattle.op.specs.declared.Opcode.TheVariants.{STOP}
use Rattle.op.specs.declared.Edition.{Edition}
use Rattle.value.specs.Value.{Label}
use Rattle.value.specs.Shape.{and_l, and_r}
use Rattle.steps.specs.State.{State, with_input}
use Rattle.steps.specs.Run.{Next, does, decide, step}
use Rattle.steps.specs.Out.{Out, weaken, bind}
use Rattle.steps.specs.Arguments.{byte-read}
use Rattle.steps.specs.Pickletools.{decided_own, byte-leads, admit_out}
use Rattle.steps.specs.Keeps.{state_after}
use Rattle.opcode_kinds.specs.StackWords.{Word, any, None, bool as a_bool, int as an_int, int_or_bool, float as a_float, bytes_or_str, str, list as a_list, tuple as a_tuple, dict as a_dict, a_global, an_object, set_or_object, allows, Kinds, topmost, below_mark, mark_only, KindRow, pickletools, exceptions, kinds_in, kinds_of, is_any, all_any, says, says_row, say_more, exceptions-say_more}
use Rattle.opcode_kinds.specs.Kinds.{EachAllowed, Stocked, TakenAndLeft, FitsKinds, KindStepped, does-kinds}

pub step-kinds : (ed : Edition) (s : State) → Out (KindStepped s) (step ed s)
unfolding step decide Out
step-kinds ed s = bind _ _ _ _ (byte-read s) λ p h. admit_out _ (against ed p.0) p.0 _ (go p.0 p.1 (opcode_of p.0) refl h.1.rest (byte-leads s p h))
  where
    go : (b : ℕ) (t : State) (o : Option Opcode) → opcode_of b ≡ o → t ≡ with_input s (drop 1 s.input) → s.input ≡ b ∷ drop 1 s.input → Out (KindStepped s) (decide (highest ed) o b t)
    go b t none q r c = tt
    go b t (some o) q r c = weaken (FitsKinds (kinds_of o) t) (KindStepped s) (does (highest ed) o t) (does-kinds (highest ed) o t) λ n f. record { opcode = o; rest = drop 1 s.input; input_is = rw (decided_own b o q) c; fits = rw (← r) f }

-- ---- pickletools' own row, of every opcode but STOP

any_allowed : (w : Word) (l : Label) → T (is_any w) → T (allows w l)
unfolding is_any allows
any_allowed any l h = tt
any_allowed None l h = absurd h
any_allowed a_bool l h = absurd h
any_allowed an_int l h = absurd h
any_allowed int_or_bool l h = absurd h
any_allowed a_float l h = absurd h
any_allowed bytes_or_str l h = absurd h
any_allowed str l h = absurd h
any_allowed a_list l h = absurd h
any_allowed a_tuple l h = absurd h
any_allowed a_dict l h = absurd h
any_allowed a_global l h = absurd h
any_allowed an_object l h = absurd h
any_allowed set_or_object l h = absurd h

each-any : (ws : List Word) (k : ℕ) (s : State) → T (all_any ws) → EachAllowed ws k s
unfolding all_any EachAllowed
each-any [] k s h = tt
each-any (w ∷ ws) k s h = (any_allowed w _ (and_l (is_any w) (all_any ws) h), each-any ws (suc k) s (and_r (is_any w) (all_any ws) h))

said : (k j : Kinds) (s : State) → T (says k j) → Stocked k s → Stocked j s
unfolding says Stocked
said (topmost ws) (topmost vs) s h a =
    let n = leb→le (length vs) (length ws) (and_r (all_any vs) _ h) in
    let r = a.reaches in
    record { start = length s.stack - length vs; reaches = omega arith; inside = omega arith; each = each-any vs _ s (and_l (all_any vs) _ h) }
said (topmost ws) (below_mark vs) s h a = absurd h
said (topmost ws) mark_only s h a = absurd h
said (below_mark ws) j s h a = absurd h
said mark_only j s h a = absurd h

said_row : (k : KindRow) (r : Option KindRow) (s : State) (n : Next) → T (says_row k r) → FitsKinds (some k) s n → FitsKinds r s n
unfolding says_row FitsKinds TakenAndLeft
said_row k none s n h f = absurd h
said_row k (some r) s n h f =
    (said k.takes r.takes s (and_l (says k.takes r.takes) _ h) f.0, said k.leaves r.leaves (state_after n) (and_r (says k.takes r.takes) _ h) f.1)

-- a row is found by the place of a name
row_by_place : (l : List KindRow) (o p : Opcode) → place o ≡ place p → kinds_in l o ≡ kinds_in l p
unfolding kinds_in is_named
row_by_place [] o p e = refl
row_by_place (r ∷ l) o p e = rw (e, row_by_place l o p e)

or_right : (a b : Bool) → a ≡ false → T (a || b) → T b
or_right a b e h = rw e at h

said_all : (l m : List KindRow) (o : Opcode) (s : State) (n : Next) → is_named o (known STOP) ≡ false → T (say_more l m) → FitsKinds (kinds_in (l ++ m) o) s n → FitsKinds (kinds_in m o) s n
unfolding say_more kinds_in is_named
said_all [] m o s n z h f = f
said_all (k ∷ l) m o s n z h f = go (is_named o (known k.opcode)) refl f (said_all l m o s n z (and_r (is_named k.opcode (known STOP) || says_row k (kinds_in m k.opcode)) (say_more l m) h))
  where
    go : (b : Bool) → is_named o (known k.opcode) ≡ b → FitsKinds (cond b (some k) (kinds_in (l ++ m) o)) s n → (FitsKinds (kinds_in (l ++ m) o) s n → FitsKinds (kinds_in m o) s n) → FitsKinds (kinds_in m o) s n
    go true q f more =
        let e : place o ≡ place k.opcode = eqb-true (place o) (place k.opcode) q in
        let d : is_named k.opcode (known STOP) ≡ false = rw e at z in
        let c : T (says_row k (kinds_in m k.opcode)) = or_right (is_named k.opcode (known STOP)) _ d (and_l (is_named k.opcode (known STOP) || says_row k (kinds_in m k.opcode)) (say_more l m) h) in
        rw (row_by_place m o k.opcode e) (said_row k (kinds_in m k.opcode) s n c f)
    go false q f more = more f

pub does-pickletools : (v : ℕ) (o : Opcode) (s : State) → is_named o (known STOP) ≡ false → Out (FitsKinds (kinds_in pickletools o) s) (does v o s)
unfolding kinds_of
does-pickletools v o s z = weaken _ _ _ (does-kinds v o s) λ n f. said_all exceptions pickletools o s n z exceptions-say_more f
