-- What each return of the memo's opcodes says of their definitions. Assumes nothing.
use Prim.Native.Nat.{ℕ, ◌+◌, ◌-◌, ◌<◌, ◌≤◌}
use mathlib.Core.List.{List}
use mathlib.Core.Path.{◌≡◌, ◌∙◌, ap}
use lib.ListN.{length, get_or, take, drop}
use native.Mathlib.Omega.{arith}
use Rattle.std.specs.Prelude.{Result, Ok, Err}
use Rattle.refusal.specs.Read.{got, refused}
use Rattle.refusal.specs.declared.Refusal.{Refusal}
use Rattle.refusal.specs.declared.Refusal.TheVariants.{EndOfInput, StackUnderflow, MissingMemo}
use Rattle.input.specs.Bytes.{low_first}
use Rattle.input.specs.Line.{newline_of, line_of, newline_first}
use Rattle.number.specs.Number.{parse_u32}
use Rattle.store.specs.declared.MemoKey.{MemoKey}
use Rattle.store.specs.declared.NodeId.{NodeId}
use Rattle.store.specs.declared.Effect.{Effect}
use Rattle.store.specs.declared.Effect.TheVariants.{Share, Remember}
use Rattle.steps.specs.State.{State, Res, ok, ◌>>=◌, leaf, memo_find, get, put}
use Rattle.steps.specs.Opcodes.{low_bytes}
use Rattle.steps.specs.Run.{going}
use Rattle.store.specs.declared.Counts.{Counts}
use Rattle.store.specs.Rooms.{Rooms, state_of, Absent, Numbered}
use Rattle.store.specs.RoomMemo.{find_absent, find_present}
use Rattle.store.specs.RoomReads.{memo_of_lem, nodes-length}
use Rattle.steps.specs.Effect.{kept}
use Rattle.steps.specs.Range.{known_below}
use Rattle.store.specs.Effects.{Sound, IsStep, Fits, SomeRooms, Decides, enacted, put_is, says_refused}
use Rattle.decoder.specs.Reads.{cut_to, bytes-short, bytes_got, line-none, line_got, top_none, top_got}
use Rattle.decoder.specs.ReadsMemo.{key_line, keyed, Key, ReadsKey, sound_read}
use Rattle.decoder.specs.StackSteps.{on_stack}

-- ---- reading the number

module _ (r : Rooms) (c : Counts) (p : List ℕ) (s : Sound r c) (q : r.pickle ≡ p) where
  pub key_short : (n : ℕ) → length p - c.at < n → Key (low_bytes n) c r (Err EndOfInput)
  unfolding Key low_bytes ◌>>=◌
  key_short n h = rw (bytes-short r c n s.firm.at (rw q h))

  pub key_bytes : (n : ℕ) (k : MemoKey) → n ≤ length p - c.at → k.0 ≡ low_first (take n (drop c.at p)) → Key (low_bytes n) c r (Ok (c.at + n, k))
  unfolding Key low_bytes ◌>>=◌
  key_bytes n k h e =
      let i = s.firm.at in
      let j : length r.pickle ≡ length p = ap length q in
      (rw (bytes_got r c n i (rw q h), q, e), omega arith, omega arith)

  pub key_none : newline_of p c.at ≡ refused EndOfInput 0 → Key key_line c r (Err EndOfInput)
  unfolding Key key_line ◌>>=◌
  key_none e = rw (line-none r c (rw q e))

  pub key_invalid : (i : ℕ) (why : Refusal) → newline_of p c.at ≡ got i → parse_u32 (line_of p c.at i) ≡ refused why 0 → Key key_line c r (Err why)
  unfolding Key key_line ◌>>=◌ leaf
  key_invalid i why e f = rw (line_got r c i (rw q e), q, f)

  pub key_line_lem : (i : ℕ) (k : MemoKey) → newline_of p c.at ≡ got i → parse_u32 (line_of p c.at i) ≡ got k.0 → Key key_line c r (Ok (i + 1, k))
  unfolding Key key_line ◌>>=◌ leaf
  key_line_lem i k e f =
      let l = newline_first p c.at i e in
      let j : length r.pickle ≡ length p = ap length q in
      (rw (line_got r c i (rw q e), q, f), omega arith, omega arith)

-- ---- an opcode that reads a number first

module _ (f : State → Res (ℕ × State)) (does : ℕ → State → Res State) (op : State → Res State) (is : (s : State) → op s ≡ keyed f does s) (r : Rooms) (c : Counts) where
  key_refused : (why : Refusal) → Key f c r (Err why) → IsStep (Err why) r c (going (op (state_of r c)))
  unfolding Key keyed ◌>>=◌ going
  key_refused why e = says_refused why r c (going (op (state_of r c))) (rw (is (state_of r c), e))

  key_went : (a : ℕ) (k : MemoKey) (e : Result Effect Refusal) → Key f c r (Ok (a, k)) → IsStep e r (cut_to c a c.stack c.marks) (going (does k.0 (state_of r (cut_to c a c.stack c.marks)))) → IsStep e r c (going (op (state_of r c)))
  unfolding Key keyed ◌>>=◌ going
  key_went a k e q s = record { enacts = s.enacts ∙ rw (is (state_of r c), q.0); fits = s.fits }

-- the same in all rooms: k is what was read of the pickle p, P what the opcode knows of the rooms, Q what is left for the rest of it
module _ (f : State → Res (ℕ × State)) (does : ℕ → State → Res State) (op : State → Res State) (is : (s : State) → op s ≡ keyed f does s) (c : Counts) (p : List ℕ) where
  pub op_refused : (P : Rooms → Type 0) → ((r : Rooms) → P r → r.pickle ≡ p) → (k : Result (ℕ × MemoKey) Refusal) → ReadsKey f c p k → (why : Refusal) → k ≡ Err why → Decides c P (λ s. going (op s)) (Err why)
  unfolding Decides ReadsKey
  op_refused P first k reads why e r s q = key_refused f does op is r c why (rw e at (reads r s (first r q)))

  module _ (P Q : Rooms → Type 0) (first : (r : Rooms) → P r → r.pickle ≡ p) (rest : (r : Rooms) → P r → Q r) (k : Result (ℕ × MemoKey) Refusal) (reads : ReadsKey f c p k) (a : ℕ) (m : MemoKey) (c₁ : Counts) where
    pub op_lent : k ≡ Ok (a, m) → c₁ ≡ cut_to c a c.stack c.marks → SomeRooms c P → SomeRooms c₁ Q
    unfolding ReadsKey Key
    op_lent e d l =
        let h = rw e at (reads l.rooms l.sound (first l.rooms l.agrees)) in
        rw d (record { rooms = l.rooms; sound = sound_read l.rooms c a l.sound h.1 h.2; agrees = rest l.rooms l.agrees })

    pub op_went : (e : Result Effect Refusal) → k ≡ Ok (a, m) → c₁ ≡ cut_to c a c.stack c.marks → Decides c₁ Q (λ s. going (does m.0 s)) e → Decides c P (λ s. going (op s)) e
    unfolding Decides ReadsKey Key
    op_went e x d n r s q =
        let h = rw x at (reads r s (first r q)) in
        key_went f does op is r c a m e h ((rw d at n) r (sound_read r c a s h.1 h.2) (rest r q))

-- ---- the memo

module _ (r : Rooms) (c : Counts) (s : Sound r c) (key : MemoKey) where
  pub memo_rooms : (c.memo ≤ length r.keys) × (c.memo ≤ length r.held)
  memo_rooms = let a = s.firm.lengths.keys in let b = s.firm.lengths.held in let d = s.firm.memo in omega arith

  -- what a look-up asks for
  pub slot_rooms : (keys : List ℕ) → r.keys ≡ keys → (c.memo ≤ length keys) × (0 < length keys) × Numbered keys c.memo c.greatest
  slot_rooms keys e = rw (← e) (memo_rooms.0, (let a = s.firm.lengths.keys in omega arith), s.firm.numbered)

  pub get_missing : Absent r.keys c.memo key.0 → IsStep (Err (MissingMemo key.0)) r c (going (get key.0 (state_of r c)))
  unfolding get ◌>>=◌ going
  get_missing h = says_refused (MissingMemo key.0) r c (going (get key.0 (state_of r c))) (rw (memo_of_lem r c, find_absent r.keys r.held c.memo key.0 memo_rooms.0 memo_rooms.1 h))

  pub get_found : (i : ℕ) (n : NodeId) → i < c.memo → get_or r.keys i 0 ≡ key.0 → Absent r.keys i key.0 → n.0 ≡ get_or r.held i 0 → IsStep (Ok (Share c n)) r c (going (get key.0 (state_of r c)))
  unfolding enacted Fits get ◌>>=◌ going
  get_found i n h e a m =
      let t : memo_find (state_of r c).memo key.0 ≡ ok n.0 = rw (memo_of_lem r c, m) (find_present r.keys r.held c.memo key.0 memo_rooms.0 memo_rooms.1 i h e a) in
      record { enacts = rw t; fits = (s.firm, rw (nodes-length r c) at (known_below (state_of r c) n.0 s.range (kept key.0 n.0 t))) }

  pub put_none : c.stack ≡ 0 → IsStep (Err StackUnderflow) r c (going (put key.0 (state_of r c)))
  unfolding ◌>>=◌ going
  put_none e = says_refused StackUnderflow r c (going (put key.0 (state_of r c))) (rw (put_is key.0 (state_of r c), top_none r c s.firm e))

  pub put_some : (n : NodeId) → 0 < c.stack → n.0 ≡ get_or r.stack (c.stack - 1) 0 → IsStep (Ok (Remember c n 0 key)) r c (going (put key.0 (state_of r c)))
  unfolding enacted Fits ◌>>=◌ going
  put_some n h e = record { enacts = rw (put_is key.0 (state_of r c), top_got r c s.firm h, e); fits = (s.firm, rw e (on_stack r c s (c.stack - 1) (omega arith))) }
