-- The rooms that are lent, as one; and the opcode that is read of them.
use Rattle.std.specs.Prelude.{Result, Ok, Err, ℕ, suc, zero, ◌+◌, ◌-◌, ◌≤◌, ◌<◌, true, false, Some, None, List, [], ◌∷◌, ◌≢◌, drop}
use Rattle.std.proofs.Math.Option.{Option, none, some}
use Rattle.std.proofs.Math.Path.{◌≡◌, refl, sym, ap}
use Rattle.std.proofs.Common.{◌∙◌, get_or-take}
use Rattle.std.proofs.Math.ListN.{length, get_or}
use Rattle.std.proofs.Math.Seq.{get_or-drop}
use Rattle.std.proofs.Math.Decide.{ℕ_discrete}
use native.Mathlib.Omega.{arith}
use Rattle.refusal.specs.declared.Refusal.{Refusal}
use Rattle.refusal.specs.declared.Refusal.TheVariants.{EndOfInput, UnsupportedOpcode, OutsideProfile}
use Rattle.op.specs.Table.{code_of, number_in, is_named, place, opcode_of}
use Rattle.op.specs.Named.{named}
use Rattle.op.specs.Edition.{against, highest}
use Rattle.op.specs.declared.Edition.{Edition}
use Rattle.op.specs.declared.Objection.TheVariants.{Outside, Unknown}
use Rattle.op.specs.declared.Opcode.{Opcode}
use Rattle.op.specs.declared.Opcode.TheVariants.{MARK, STOP, POP, POP_MARK, DUP, FLOAT, INT, BININT, BININT1, LONG, BININT2, NONE, REDUCE, STRING, BINSTRING, SHORT_BINSTRING, UNICODE, BINUNICODE, APPEND, BUILD, GLOBAL, DICT, EMPTY_DICT, APPENDS, GET, BINGET, LONG_BINGET, LIST, EMPTY_LIST, PUT, BINPUT, LONG_BINPUT, SETITEM, TUPLE, EMPTY_TUPLE, SETITEMS, BINFLOAT, PROTO, NEWOBJ, TUPLE1, TUPLE2, TUPLE3, NEWTRUE, NEWFALSE, LONG1, LONG4}
use Rattle.store.specs.declared.Counts.{Counts}
use Rattle.store.specs.declared.Effect.{Effect}
use Rattle.store.specs.declared.Effect.TheVariants.{Push, Mark, Stop}
use Rattle.value.specs.Value.{Label, NoneL, BoolL, ListL, TupleL, DictL}
use Rattle.value.specs.Shape.{kind_in}
use Rattle.steps.specs.State.{State, ◌>>=◌, byte, kidless, push}
use Rattle.steps.specs.Opcodes.{tuple_n}
use Rattle.steps.specs.Run.{going, does, decide, admit, step}
use Rattle.store.specs.Rooms.{LentAs, Rooms, state_of}
use Rattle.steps.specs.NodeWords.{node_is, HoldsLinks, a_list, a_tuple, a_dict}
use Rattle.store.specs.RoomKeeps.{class_none}
use Rattle.steps.specs.Pickletools.{decided_own}
use Rattle.store.specs.Effects.{Sound, SomeRooms, Decides, Fits, enacted}
use Rattle.decoder.specs.Reads.{cut_to, bytes-short, bytes_got}
use Rattle.decoder.specs.ReadsMemo.{sound_read}

abbrev pub rooms_of : LentAs → List ℕ → List ℕ → List ℕ → List ℕ → List ℕ → List ℕ → List ℕ → List ℕ → Rooms
rooms_of l p n w c s m k h = record { lent = l; pickle = p; nodes = n; owners = w; children = c; stack = s; marks = m; keys = k; held = h }

abbrev pub lent_of : List ℕ → List ℕ → List ℕ → List ℕ → List ℕ → List ℕ → List ℕ → LentAs
lent_of n w c s m k h = record { nodes = n; owners = w; children = c; stack = s; marks = m; keys = k; held = h }

-- before anything is written
abbrev pub lent_rooms : List ℕ → List ℕ → List ℕ → List ℕ → List ℕ → List ℕ → List ℕ → List ℕ → Rooms
lent_rooms p n w c s m k h = rooms_of (lent_of n w c s m k h) p n w c s m k h

-- rooms with these lists
pub record Agrees (p n d s m k h : List ℕ) (r : Rooms) : Type 0 where
  pub pickle : r.pickle ≡ p
  pub nodes : r.nodes ≡ n
  pub children : r.children ≡ d
  pub stack : r.stack ≡ s
  pub marks : r.marks ≡ m
  pub keys : r.keys ≡ k
  pub held : r.held ≡ h

-- a number that is no name's decides to none
unknown : (b : ℕ) → ((o : Opcode) → b ≢ code_of o) → opcode_of b ≡ none
unknown b h = go (opcode_of b) refl
  where
    go : (x : Option Opcode) → opcode_of b ≡ x → x ≡ none
    go none e = refl
    go (some o) e = absurd (h o (sym (decided_own b o e)))

module _ (p n d s m k h : List ℕ) (c : Counts) where
  abbrev pub SameRooms : Rooms → Type 0
  SameRooms = Agrees p n d s m k h

  abbrev pub c₁ : Counts
  c₁ = cut_to c (c.at + 1) c.stack c.marks

  -- behind the opcode's byte
  module _ (l : c.at < length p) where
    next : (r : Rooms) → Sound r c → SameRooms r → Sound r c₁
    next r z a = let e : length r.pickle ≡ length p = ap length a.pickle in sound_read r c (c.at + 1) z (omega arith) (omega arith)

    pub lent : (Q : Rooms → Type 0) → SomeRooms c SameRooms → ((r : Rooms) → SameRooms r → Q r) → SomeRooms c₁ Q
    lent Q t f = record { rooms = t.rooms; sound = next t.rooms t.sound t.agrees; agrees = f t.rooms t.agrees }

  module _ (ed : Edition) where
    -- at the end of the pickle
    pub ended : length p ≤ c.at → Decides c SameRooms (step ed) (Err EndOfInput)
    unfolding Decides step byte ◌>>=◌ enacted Fits
    ended l r z a =
        let e : length r.pickle ≡ length p = ap length a.pickle in
        let t = z.firm.at in
        record { enacts = rw (bytes-short r c 1 t (omega arith)); fits = tt }

    module _ (l : c.at < length p) where
      -- the byte, and what the edition has against it
      abbrev code : ℕ
      code = get_or p c.at 0

      read : (r : Rooms) → Sound r c → SameRooms r → step ed (state_of r c) ≡ admit (against ed code) code (decide (highest ed) (opcode_of code) code (state_of r c₁))
      unfolding step byte ◌>>=◌
      read r z a =
          let e : length r.pickle ≡ length p = ap length a.pickle in
          let t = z.firm.at in
          let q : c.at + 0 ≡ c.at = omega arith in
          rw (bytes_got r c 1 t (omega arith)) (ap (λ (b : ℕ). admit (against ed b) b (decide (highest ed) (opcode_of b) b (state_of r c₁))) (get_or-take 1 (drop c.at r.pickle) 0 0 (omega arith) ∙ get_or-drop c.at r.pickle 0 0 ∙ rw (q, a.pickle)))

      -- outside the edition, or unknown to it
      pub outside_it : Some Outside ≡ against ed code → Decides c SameRooms (step ed) (Err (OutsideProfile code))
      unfolding Decides admit enacted Fits
      outside_it b r z a = record { enacts = sym (read r z a ∙ rw (← b)); fits = tt }

      pub unknown_to_it : Some Unknown ≡ against ed code → Decides c SameRooms (step ed) (Err (UnsupportedOpcode code))
      unfolding Decides admit enacted Fits
      unknown_to_it b r z a = record { enacts = sym (read r z a ∙ rw (← b)); fits = tt }

      -- nothing against it
      module _ (free : None ≡ against ed code) where
        -- the opcode o
        pub arm : (o : Opcode) (Q : Rooms → Type 0) (e : Result Effect Refusal) → code ≡ code_of o → ((r : Rooms) → SameRooms r → Q r) → Decides c₁ Q (does (highest ed) o) e → Decides c SameRooms (step ed) e
        unfolding Decides decide admit
        arm o Q e q f t r z a =
            let x = t r (next l r z a) (f r a) in
            record { enacts = x.enacts ∙ sym (read r z a ∙ rw (← free, q, named o)); fits = x.fits }

        -- no opcode
        pub unsupported : ((o : Opcode) → code ≢ code_of o) → Decides c SameRooms (step ed) (Err (UnsupportedOpcode code))
        unfolding Decides decide admit enacted Fits
        unsupported h r z a = record { enacts = sym (read r z a ∙ rw (← free, unknown code h)); fits = tt }

-- ---- opcodes that read nothing more

module _ (v : ℕ) (c : Counts) where
  pub marks : Decides c (λ r. Unit {0}) (does v MARK) (Ok (Mark c))
  unfolding Decides does enacted Fits
  marks r z a = record { enacts = refl; fits = z.firm }

  pub stop : Decides c (λ r. Unit {0}) (does v STOP) (Ok (Stop c))
  unfolding Decides does enacted Fits
  stop r z a = record { enacts = refl; fits = z.firm }

  -- a value without contents, of the kind a
  pushes : (o : Opcode) (l : Label) (a b : ℕ) → ((s : State) → does v o s ≡ going (push l s)) → ((p ws : List ℕ) → node_is p ws [] a b ≡ kidless l) → kind_in a < 11 → (HoldsLinks a → b ≡ 0) → Decides c (λ r. Unit {0}) (does v o) (Ok (Push c a b))
  unfolding Decides enacted Fits push
  pushes o l a b e n k t r z x = record {
    enacts = rw (e (state_of r c), n r.pickle r.nodes);
    fits = (z.firm, class_none r.nodes c.nodes a (λ q. omega arith), t);
  }

  pub none_pushed : Decides c (λ r. Unit {0}) (does v NONE) (Ok (Push c 0 0))
  unfolding does node_is kind_in
  none_pushed = pushes NONE NoneL 0 0 (λ s. refl) (λ p ws. refl) (omega arith) (λ t. refl)

  pub true_pushed : Decides c (λ r. Unit {0}) (does v NEWTRUE) (Ok (Push c 1 1))
  unfolding does node_is kind_in
  true_pushed = pushes NEWTRUE (BoolL true) 1 1 (λ s. refl) (λ p ws. refl) (omega arith) bool
    where
      bool : HoldsLinks 1 → ◌≡◌ {A = ℕ} 1 0
      bool (a_list e) = absurd (omega arith)
      bool (a_tuple e) = absurd (omega arith)
      bool (a_dict e) = absurd (omega arith)

  pub false_pushed : Decides c (λ r. Unit {0}) (does v NEWFALSE) (Ok (Push c 1 0))
  unfolding does node_is kind_in
  false_pushed = pushes NEWFALSE (BoolL false) 1 0 (λ s. refl) (λ p ws. refl) (omega arith) (λ t. refl)

  pub list_pushed : Decides c (λ r. Unit {0}) (does v EMPTY_LIST) (Ok (Push c 6 0))
  unfolding does node_is kind_in
  list_pushed = pushes EMPTY_LIST ListL 6 0 (λ s. refl) (λ p ws. refl) (omega arith) (λ t. refl)

  pub tuple_pushed : Decides c (λ r. Unit {0}) (does v EMPTY_TUPLE) (Ok (Push c 7 0))
  unfolding does node_is kind_in
  tuple_pushed = pushes EMPTY_TUPLE TupleL 7 0 (λ s. refl) (λ p ws. refl) (omega arith) (λ t. refl)

  pub dict_pushed : Decides c (λ r. Unit {0}) (does v EMPTY_DICT) (Ok (Push c 10 0))
  unfolding does node_is kind_in
  dict_pushed = pushes EMPTY_DICT DictL 10 0 (λ s. refl) (λ p ws. refl) (omega arith) (λ t. refl)

-- ---- TUPLE1 to TUPLE3, and what no arm takes

module _ (p n d s m k h : List ℕ) (c : Counts) (ed : Edition) (l : c.at < length p) (free : None ≡ against ed (get_or p c.at 0)) where
  pub tuples : (e : Result Effect Refusal) → 133 ≤ get_or p c.at 0 → get_or p c.at 0 < 136 → Decides (c₁ p n d s m k h c) (λ r. Unit {0}) (λ t. going (tuple_n (get_or p c.at 0 - 0x84) t)) e → Decides c (Agrees p n d s m k h) (step ed) e
  unfolding does code_of number_in is_named place
  tuples e a b t = go (get_or p c.at 0) refl
    where
      at : (o : Opcode) (i : ℕ) → get_or p c.at 0 ≡ i → i ≡ code_of o → Decides (c₁ p n d s m k h c) (λ r. Unit {0}) (does (highest ed) o) e → Decides c (Agrees p n d s m k h) (step ed) e
      at o i q z y = arm p n d s m k h c ed l free o (λ r. Unit {0}) e (q ∙ z) (λ r x. tt) y

      go : (i : ℕ) → get_or p c.at 0 ≡ i → Decides c (Agrees p n d s m k h) (step ed) e
      go i q = pick (ℕ_discrete i 133) (ℕ_discrete i 134)
        where
          pick : Dec (i ≡ 133) → Dec (i ≡ 134) → Decides c (Agrees p n d s m k h) (step ed) e
          pick (yes z) y = at TUPLE1 133 (q ∙ z) refl (rw (q ∙ z) at t)
          pick (no z) (yes y) = at TUPLE2 134 (q ∙ y) refl (rw (q ∙ y) at t)
          pick (no z) (no y) = let u : i ≡ 135 = omega arith in at TUPLE3 135 (q ∙ u) refl (rw (q ∙ u) at t)

-- the names that the other arms take, in their order
abbrev pub arms : List Opcode
arms =
    MARK ∷ STOP ∷ POP ∷ POP_MARK ∷ DUP ∷ FLOAT ∷ INT ∷ BININT ∷ BININT1 ∷ LONG ∷ BININT2 ∷ NONE ∷ REDUCE ∷ STRING ∷ BINSTRING ∷ SHORT_BINSTRING ∷ UNICODE ∷ BINUNICODE ∷ APPEND ∷ BUILD ∷ GLOBAL ∷ DICT
    ∷ EMPTY_DICT ∷ APPENDS ∷ GET ∷ BINGET ∷ LONG_BINGET ∷ LIST ∷ EMPTY_LIST ∷ PUT ∷ BINPUT ∷ LONG_BINPUT ∷ SETITEM ∷ TUPLE ∷ EMPTY_TUPLE ∷ SETITEMS ∷ BINFLOAT ∷ PROTO ∷ NEWOBJ ∷ NEWTRUE ∷ NEWFALSE ∷ LONG1 ∷ LONG4 ∷ []

-- none of them
abbrev pub NoneOf : ℕ → Type 0 → List Opcode → Type 0
NoneOf b A [] = A
NoneOf b A (o ∷ t) = NoneOf b (A × (b ≡ code_of o → ⊥)) t

none_at : (b : ℕ) (A : Type 0) (l : List Opcode) → NoneOf b A l → A × ((i : ℕ) → i < length l → b ≢ code_of (get_or l i MARK))
none_at b A [] x = (x, λ i h. absurd (omega arith))
none_at b A (o ∷ t) x =
    let y = none_at b (A × (b ≡ code_of o → ⊥)) t x in
    (y.0.0, λ i h. go i h y.0.1 y.1)
  where
    go : (i : ℕ) → i < suc (length t) → (b ≡ code_of o → ⊥) → ((i : ℕ) → i < length t → b ≢ code_of (get_or t i MARK)) → b ≢ code_of (get_or (o ∷ t) i MARK)
    go zero h f g = f
    go (suc i) h f g = g i (omega arith)

module _ (b : ℕ) (x : NoneOf b (Unit {0}) arms) (out : (133 ≤ b) → (b < 136) → ⊥) where
  nth : (i : ℕ) → i < 43 → b ≢ code_of (get_or arms i MARK)
  nth i h = (none_at b (Unit {0}) arms x).1 i h

  pub no_name : (o : Opcode) → b ≢ code_of o
  unfolding code_of number_in is_named place
  no_name MARK = nth 0 (omega arith)
  no_name STOP = nth 1 (omega arith)
  no_name POP = nth 2 (omega arith)
  no_name POP_MARK = nth 3 (omega arith)
  no_name DUP = nth 4 (omega arith)
  no_name FLOAT = nth 5 (omega arith)
  no_name INT = nth 6 (omega arith)
  no_name BININT = nth 7 (omega arith)
  no_name BININT1 = nth 8 (omega arith)
  no_name LONG = nth 9 (omega arith)
  no_name BININT2 = nth 10 (omega arith)
  no_name NONE = nth 11 (omega arith)
  no_name REDUCE = nth 12 (omega arith)
  no_name STRING = nth 13 (omega arith)
  no_name BINSTRING = nth 14 (omega arith)
  no_name SHORT_BINSTRING = nth 15 (omega arith)
  no_name UNICODE = nth 16 (omega arith)
  no_name BINUNICODE = nth 17 (omega arith)
  no_name APPEND = nth 18 (omega arith)
  no_name BUILD = nth 19 (omega arith)
  no_name GLOBAL = nth 20 (omega arith)
  no_name DICT = nth 21 (omega arith)
  no_name EMPTY_DICT = nth 22 (omega arith)
  no_name APPENDS = nth 23 (omega arith)
  no_name GET = nth 24 (omega arith)
  no_name BINGET = nth 25 (omega arith)
  no_name LONG_BINGET = nth 26 (omega arith)
  no_name LIST = nth 27 (omega arith)
  no_name EMPTY_LIST = nth 28 (omega arith)
  no_name PUT = nth 29 (omega arith)
  no_name BINPUT = nth 30 (omega arith)
  no_name LONG_BINPUT = nth 31 (omega arith)
  no_name SETITEM = nth 32 (omega arith)
  no_name TUPLE = nth 33 (omega arith)
  no_name EMPTY_TUPLE = nth 34 (omega arith)
  no_name SETITEMS = nth 35 (omega arith)
  no_name BINFLOAT = nth 36 (omega arith)
  no_name PROTO = nth 37 (omega arith)
  no_name NEWOBJ = nth 38 (omega arith)
  no_name NEWTRUE = nth 39 (omega arith)
  no_name NEWFALSE = nth 40 (omega arith)
  no_name LONG1 = nth 41 (omega arith)
  no_name LONG4 = nth 42 (omega arith)
  no_name TUPLE1 = λ e. out (omega arith) (omega arith)
  no_name TUPLE2 = λ e. out (omega arith) (omega arith)
  no_name TUPLE3 = λ e. out (omega arith) (omega arith)
