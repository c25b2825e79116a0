-- The loop over a container's children: the turns of the walk, on the rooms, with the code's sums.
use Rattle.std.specs.Prelude.{ℕ, suc, ◌+◌, ◌*◌, ◌<◌, ◌≤◌, min, max, true, ◌≡◌, refl, get_or, set, take}
use mathlib.Core.List.{List, [], ◌∷◌, ◌++◌}
use Rattle.std.proofs.Common.{sym, ◌∙◌, ap, length-append, get_or-drop, get_or-take, arith}
use Rattle.std.proofs.Math.ListN.{length}
use Rattle.std.proofs.Math.Seq.{slice, length-slice, get_or-append_seam}
use Rattle.value.specs.Value.{Value, text_of}
use Rattle.steps.specs.State.{Node}
use Rattle.reading.specs.Build.{Stage, taken, kept, stage, at}
use Rattle.reading.specs.Unfold.{In, here, there, Staged, same, other, staged}
use Rattle.reading.specs.Measures.{Measure, nil_m, push_m, value_measure, measure}
use Rattle.resolve.specs.MeasureWord.{pack_w, deep_w, values_w, texts_w, deep_pack, values_pack, texts_pack}
use Rattle.resolve.specs.Walk.{WalkState, WalkMade, overwrite, each_r, finish_r, walk}
use Rattle.resolve.specs.Resolves.{WalkCalled, old_taken}
use Rattle.resolve.specs.Resolving.{Resolved, each_resolves, walk_resolves}
use Rattle.resolve.specs.Turns.{Turn, turn_next, turn_end, turn_deep, push_nil}
use Rattle.resolve.specs.Dues.{dues}
use Rattle.resolve.specs.Noted.{is_container}
use Rattle.resolve.specs.Fits.{FitsState, fits_put, fits_same, fits_finish}
use Rattle.resolve.specs.Facts.{value_word, kind_at, Facts, Shallow, HoldsWalk, one_more, note_fits}
use Rattle.resolve.specs.DuesRoom.{Notes}

-- the rooms hold some state of a walk over some nodes, in which container n is at stage m with its children as they were; the room of dues, lent
-- as it was, has room
pub record AtStage (m : Stage) (p ws starts measures sorted room : List ℕ) (n : ℕ) : Type 0 where
  pub nodes : List Node
  pub facts : Facts p ws starts nodes
  pub state : WalkState
  pub lent : List ℕ
  pub roomy : length nodes < length lent
  pub holds : HoldsWalk nodes facts.beyond starts lent measures sorted room state
  pub below : n < length nodes
  pub container : is_container (at nodes n).label ≡ true
  pub stage_is : state.stages n ≡ m
  pub kids_are : state.kids n ≡ (at nodes n).kids

-- where the loop begins
abbrev pub LoopBegins : List ℕ → List ℕ → List ℕ → List ℕ → List ℕ → List ℕ → ℕ → Type 0
LoopBegins = AtStage taken

-- a child is done: w is the word of what the walk made of it, and the rooms hold the state after
pub record ChildWalked (t : List Node) (beyond : length t ≤ 4096) (starts lent : List ℕ) (k : ℕ) (m : WalkMade) (w : ℕ) (measures sorted room : List ℕ) : Type 0 where
  pub is : w ≡ value_word m.value
  pub shallow : (value_measure m.value).deep ≤ k
  pub holds : HoldsWalk t beyond starts lent measures sorted room m.after

-- ---- the child to come: what is left of a list

pub record StartsWith (js : List ℕ) (c : ℕ) : Type 0 where
  pub rest : List ℕ
  pub head_is : js ≡ c ∷ rest

headed : (f e : ℕ) (l is js : List ℕ) → slice f e l ≡ is ++ js → e ≤ length l → f + length is < e → StartsWith js (get_or l (f + length is) 0)
headed f e l is [] h b c =
    let x = length-slice f e l b in
    let y : length (slice f e l) ≡ length is + 0 = ap length h ∙ length-append is [] in
    absurd (omega arith)
headed f e l is (x ∷ js) h b c =
    let a : get_or (slice f e l) (length is) 0 ≡ x = ap (λ (y : List ℕ). get_or y (length is) 0) h ∙ get_or-append_seam is x js 0 in
    let d : get_or (slice f e l) (length is) 0 ≡ get_or l (f + length is) 0 = get_or-drop f (take e l) (length is) 0 ∙ get_or-take e l (f + length is) 0 c in
    record { rest = js; head_is = ap (λ (y : ℕ). y ∷ js) (sym a ∙ d) }

over : (f e : ℕ) (l is js : List ℕ) → slice f e l ≡ is ++ js → e ≤ length l → f ≤ e → e ≤ f + length is → js ≡ []
over f e l is [] h b g c = refl
over f e l is (x ∷ js) h b g c =
    let q = length-slice f e l b in
    let y : length (slice f e l) ≡ length is + suc (length js) = ap length h ∙ length-append is (x ∷ js) in
    absurd (omega arith)

put_there : (t : List Node) (beyond : length t ≤ 4096) (starts measures sorted : List ℕ) (n : ℕ) (is js : List ℕ) (s : WalkState) (i x place : ℕ)
    → i ≡ place → x ≡ 4096
    → FitsState t 4096 beyond value_word starts measures (set sorted place 4096) (overwrite n (is ++ (4096 ∷ js)) s)
    → FitsState t 4096 beyond value_word starts measures (set sorted i 4096) (overwrite n (is ++ (x ∷ js)) s)
put_there t beyond starts measures sorted n is js s i x place e f h = rw (e, f) h

module _ {p ws starts measures₀ sorted₀ room₀ : List ℕ} {n : ℕ} (I : LoopBegins p ws starts measures₀ sorted₀ room₀ n) (k : ℕ) where
  -- Before a turn: `done` children and those `todo`, the state, the sums so far beside what they measure, and the place of the next child.
  pub record Midway (len : ℕ) (measures sorted room : List ℕ) (deepest values texts i : ℕ) : Type 0 where
    pub done : List ℕ
    pub todo : List ℕ
    pub state : WalkState
    pub sum : Measure
    pub turn : Turn I.nodes 4096 I.facts.beyond (walk I.nodes 4096 k) n I.state done todo state sum
    pub holds : HoldsWalk I.nodes I.facts.beyond starts I.lent measures sorted room state
    pub place : i ≡ get_or starts n 0 + length done
    pub below : (j : ℕ) → In j todo → j < length I.nodes
    pub deep_is : deepest ≡ sum.deep
    pub shallow : sum.deep ≤ k
    pub values_are : min values 2049 ≡ min (suc sum.values) 2049
    pub texts_are : min texts 65537 ≡ min (len + sum.texts) 65537

  pub mid_start : (len : ℕ) → Midway len measures₀ sorted₀ room₀ 0 1 len (get_or starts n 0)
  mid_start len =
      record {
        done = [];
        todo = (at I.nodes n).kids;
        state = I.state;
        sum = nil_m;
        turn = record { resolves = I.holds.fits.resolves; open_still = I.stage_is; held = I.kids_are; rest = refl; sum = sym (push_nil _) };
        holds = I.holds;
        place = omega arith;
        below = λ j m. I.facts.inside n j m;
        deep_is = refl;
        shallow = omega arith;
        values_are = refl;
        texts_are = omega arith;
      }

  module _ {len : ℕ} {measures sorted room : List ℕ} {deepest values texts i : ℕ} (T : Midway len measures sorted room deepest values texts i) where
    lists : slice (get_or starts n 0) (get_or starts (suc n) 0) sorted ≡ T.done ++ T.todo
    lists = T.holds.fits.lies.lists n I.below ∙ T.turn.held

    pub next : i < get_or starts (suc n) 0 → StartsWith T.todo (get_or sorted i 0)
    next h =
        let e = T.place in
        let b = T.holds.fits.lies.bounds n I.below in
        rw e (headed (get_or starts n 0) (get_or starts (suc n) 0) sorted T.done T.todo lists b.1 (omega arith))

    pub none_left : get_or starts (suc n) 0 ≤ i → T.todo ≡ []
    none_left h =
        let e = T.place in
        let b = T.holds.fits.lies.bounds n I.below in
        over (get_or starts n 0) (get_or starts (suc n) 0) sorted T.done T.todo lists b.1 b.0 (omega arith)

    pub child_below : i < get_or starts (suc n) 0 → get_or sorted i 0 < length I.nodes
    child_below h = let a = next h in T.below (get_or sorted i 0) (rw a.head_is here)

    -- what the walk makes of the next child
    abbrev pub called : WalkMade
    called = walk I.nodes 4096 k (get_or sorted i 0) T.state

    called_is : WalkCalled I.nodes 4096 T.state called
    called_is = walk_resolves I.nodes 4096 I.facts.beyond k (get_or sorted i 0) T.state T.holds.fits.resolves

    module _ (h : i < get_or starts (suc n) 0) where
      turn_at : Turn I.nodes 4096 I.facts.beyond (walk I.nodes 4096 k) n I.state T.done (get_or sorted i 0 ∷ (next h).rest) T.state T.sum
      turn_at = let e = (next h).head_is in rw e at T.turn

      pub too_deep : (value_measure called.value).deep ≤ (measure (each_r (walk I.nodes 4096 k) n [] (at I.nodes n).kids I.state).0).deep
      too_deep = (turn_deep I.nodes 4096 I.facts.beyond (walk I.nodes 4096 k) n I.state T.done (get_or sorted i 0) (next h).rest T.state T.sum turn_at).0

      after_taken : called.after.stages n ≡ taken
      after_taken = called_is.later.stages_stay n (old_taken _ T.turn.open_still) ∙ T.turn.open_still

      after_kids : called.after.kids n ≡ T.done ++ (get_or sorted i 0 ∷ (next h).rest)
      after_kids = called_is.later.kids_stay n tt (old_taken _ T.turn.open_still) ∙ turn_at.held

      step : (k ≤ 64) → (w : ℕ) (measures' sorted' sorted'' room' : List ℕ)
          → ChildWalked I.nodes I.facts.beyond starts I.lent k called w measures' sorted' room'
          → FitsState I.nodes 4096 I.facts.beyond value_word starts measures' sorted'' (overwrite n (T.done ++ (called.slot ∷ (next h).rest)) called.after)
          → Midway len measures' sorted'' room' (max deepest (deep_w w)) (values + values_w w) (texts + texts_w w) (i + 1)
      step q w measures' sorted' sorted'' room' c f =
          let v = value_measure called.value in
          let d : deep_w w ≡ v.deep = ap deep_w c.is ∙ deep_pack v.deep v.values v.texts (omega (arith, c.shallow)) in
          let a : values_w w ≡ min v.values 2049 = ap values_w c.is ∙ values_pack v.deep v.values v.texts (omega (arith, c.shallow)) in
          let b : texts_w w ≡ min v.texts 65537 = ap texts_w c.is ∙ texts_pack v.deep v.values v.texts (omega (arith, c.shallow)) in
          record {
            done = T.done ++ (called.slot ∷ []);
            todo = (next h).rest;
            state = overwrite n (T.done ++ (called.slot ∷ (next h).rest)) called.after;
            sum = push_m T.sum v;
            turn = turn_next I.nodes 4096 I.facts.beyond (walk I.nodes 4096 k) n I.state T.done (get_or sorted i 0) (next h).rest T.state T.sum turn_at called_is;
            holds = record { fits = f; small = c.holds.small; within = c.holds.within; listed = c.holds.listed };
            place = let e = T.place in rw length-append (omega arith);
            below = λ j m. T.below j (rw (next h).head_is (there m));
            deep_is = omega (arith, T.deep_is, d);
            shallow = omega (arith, T.shallow, c.shallow);
            values_are = omega (arith, T.values_are, a);
            texts_are = omega (arith, T.texts_are, b);
          }

      -- the child stays what it is
      pub mid_same : (k ≤ 64) → (w : ℕ) (measures' sorted' room' : List ℕ)
          → ChildWalked I.nodes I.facts.beyond starts I.lent k called w measures' sorted' room' → called.slot ≡ get_or sorted i 0
          → Midway len measures' sorted' room' (max deepest (deep_w w)) (values + values_w w) (texts + texts_w w) (i + 1)
      mid_same q w measures' sorted' room' c e =
          step q w measures' sorted' sorted' room' c
          (fits_same I.nodes 4096 I.facts.beyond value_word starts measures' sorted' called.after c.holds.fits n after_taken (T.done ++ (called.slot ∷ (next h).rest)) (rw e after_kids))

      -- the child is None there
      pub mid_none : (k ≤ 64) → (w : ℕ) (measures' sorted' room' : List ℕ)
          → ChildWalked I.nodes I.facts.beyond starts I.lent k called w measures' sorted' room' → called.slot ≡ 4096
          → Midway len measures' (set sorted' i 4096) room' (max deepest (deep_w w)) (values + values_w w) (texts + texts_w w) (i + 1)
      mid_none q w measures' sorted' room' c e =
          step q w measures' sorted' (set sorted' i 4096) room' c
          (put_there I.nodes I.facts.beyond starts measures' sorted' n T.done (next h).rest called.after i called.slot _ T.place e (fits_put I.nodes 4096 I.facts.beyond value_word starts measures' sorted' called.after c.holds.fits n I.below after_taken T.done (next h).rest (get_or sorted i 0) 4096 after_kids))

    -- all are done
    module _ (h : get_or starts (suc n) 0 ≤ i) where
      turn_over : Turn I.nodes 4096 I.facts.beyond (walk I.nodes 4096 k) n I.state T.done [] T.state T.sum
      turn_over = let e = none_left h in rw e at T.turn

      ended : ((each_r (walk I.nodes 4096 k) n [] (at I.nodes n).kids I.state).1 ≡ T.state) × (measure (each_r (walk I.nodes 4096 k) n [] (at I.nodes n).kids I.state).0 ≡ T.sum)
      ended = turn_end I.nodes 4096 I.facts.beyond (walk I.nodes 4096 k) n I.state T.done T.state T.sum turn_over

      pub mid_word : (w : ℕ) → len ≡ min (length (text_of (at I.nodes n).label)) 65537
          → w ≡ deepest + 1 + 128 * min values 2049 + 524288 * min texts 65537
          → w ≡ value_word (finish_r I.nodes n (each_r (walk I.nodes 4096 k) n [] (at I.nodes n).kids I.state)).value
      unfolding finish_r pack_w
      mid_word w l e = let q = ended.1 in e ∙ rw q (omega (arith, T.deep_is, T.values_are, T.texts_are, l))

      pub mid_shallow : (value_measure (finish_r I.nodes n (each_r (walk I.nodes 4096 k) n [] (at I.nodes n).kids I.state)).value).deep ≤ k + 1
      unfolding finish_r
      mid_shallow = let q = ended.1 in rw q (omega (arith, T.shallow))

      -- the node's due noted, its measure the word
      pub mid_finish : (w : ℕ) (room' : List ℕ) → (k ≤ 63) → Notes (kind_at ws n) n room room'
          → w ≡ value_word (finish_r I.nodes n (each_r (walk I.nodes 4096 k) n [] (at I.nodes n).kids I.state)).value
          → HoldsWalk I.nodes I.facts.beyond starts I.lent (set measures n w) sorted room' (finish_r I.nodes n (each_r (walk I.nodes 4096 k) n [] (at I.nodes n).kids I.state)).after
      unfolding finish_r Notes dues
      mid_finish w room' b c e =
          let q = ended.0 in
          let s = each_r (walk I.nodes 4096 k) n [] (at I.nodes n).kids I.state in
          let r : Resolved I.nodes 4096 I.facts.beyond n [] I.state s = each_resolves I.nodes 4096 I.facts.beyond (walk I.nodes 4096 k) (λ j c. walk_resolves I.nodes 4096 I.facts.beyond k j c) n [] (at I.nodes n).kids I.state I.holds.fits.resolves I.stage_is I.kids_are in
          let f : FitsState I.nodes 4096 I.facts.beyond value_word starts measures sorted s.1 = rw q T.holds.fits in
          let o : s.1.stages n ≡ taken = rw q T.turn.open_still in
          let g = r.held in
          let d = I.facts.due_are n I.below in
          record {
            fits = rw e (fits_finish I.nodes 4096 I.facts.beyond value_word starts measures sorted s.1 f n I.below I.container o s.0 (rw g r.stands) (λ j m. r.final j (rw g at m)));
            small = small-finish s.0 s.1 q (mid_shallow);
            within = within-finish s.1 q;
            listed = rw (q, d) (c I.lent (dues I.nodes T.state.done) T.holds.listed (omega (arith, last_room, I.roomy)));
          }
        where
          last_room : length (dues I.nodes T.state.done) < length I.nodes
          last_room = one_more T.holds n I.below T.turn.open_still

          within-finish : (x : WalkState) → x ≡ T.state → (j : ℕ) → In j (n ∷ x.done) → j < length I.nodes
          within-finish x e j here = I.below
          within-finish x e j (there m) = T.holds.within j (rw e at m)

          small-finish : (c : _) (x : WalkState) → x ≡ T.state → (value_measure (record { label = (at I.nodes n).label; contents = c })).deep ≤ k + 1
              → Shallow (record { stages = stage n (kept (record { label = (at I.nodes n).label; contents = c })) x.stages; kids = x.kids; done = n ∷ x.done })
          small-finish c x e l j v y = pick (staged n (kept (record { label = (at I.nodes n).label; contents = c })) x.stages j)
            where
              u : Value
              u = record { label = (at I.nodes n).label; contents = c }

              pick : Staged n (kept u) x.stages j → (value_measure v).deep ≤ 64
              pick (same a d) = let z : u ≡ v = cc in rw (← z) (omega arith)
              pick (other a d) = let z : T.state.stages j ≡ kept v = ap (λ (m : WalkState). m.stages j) (sym e) ∙ (sym d ∙ y) in T.holds.small j v z

    -- there is room to note one
    pub mid_room : (n < 65536) × (get_or room 0 0 < 65535) × (get_or room 0 0 + 1 < length room)
    mid_room = note_fits T.holds n I.below T.turn.open_still I.roomy
