-- The rooms of the code hold a state of the walk: its stages as words, its lists side by side. A law for each store that the code makes.
use Rattle.std.specs.Prelude.{ℕ, ◌+◌, ◌<◌, ◌≤◌, true, List, ◌∷◌, ◌++◌, ◌≡◌, length, get_or, set}
use Rattle.std.proofs.Math.Bool.{false}
use Rattle.std.proofs.Math.Path.{refl}
use Rattle.std.proofs.Common.{sym, ◌∙◌, ap, length-append, arith}
use Rattle.std.proofs.Math.Decide.{ℕ_discrete}
use Rattle.value.specs.Value.{Forest, Value}
use Rattle.steps.specs.State.{Node}
use Rattle.steps.specs.Opcodes.{is_object}
use Rattle.reading.specs.Build.{fresh, taken, kept, none, at}
use Rattle.reading.specs.Graph.{Graph}
use Rattle.reading.specs.Unfold.{In, freshness}
use Rattle.resolve.specs.Resolved.{Stand}
use Rattle.resolve.specs.Ordered.{Final}
use Rattle.resolve.specs.Walk.{WalkState, with_list, gone, overwrite, stage_r, finish_r, walk_start}
use Rattle.resolve.specs.Resolves.{Resolves, with_list-same, put_other, own_stays, overwrite_resolves, stage_resolves, finish_resolves}
use Rattle.resolve.specs.Resolving.{object-gone, take_resolves}
use Rattle.resolve.specs.Tree.{start_resolves}
use Rattle.resolve.specs.Ranges.{ListsLie, graph_lies, lies_put}
use Rattle.resolve.specs.Noted.{is_container, Noted, unseen, noted-stage, noted-done}

module _ (t : List Node) (nowhere : ℕ) (beyond : length t ≤ nowhere) (word : Value → ℕ) (starts : List ℕ) where
  pub record FitsState (words sorted : List ℕ) (s : WalkState) : Type 0 where
    pub resolves : Resolves t nowhere s
    pub noted : Noted t word words s
    pub lies : ListsLie starts (length t) sorted s.kids

  -- before the walk
  pub fits_start : (words sorted : List ℕ) → Graph t starts sorted → length words ≡ length t → ((j : ℕ) → j < length t → get_or words j 0 ≡ 0)
      → FitsState words sorted (walk_start t)
  fits_start words sorted g n z =
      record {
        resolves = start_resolves t nowhere beyond;
        noted = record { long = n; container = λ j l c. z j l; leaf = λ j l c. unseen (z j l) (λ h m. elim m [ ]); calm = λ j c e. (let q : ◌≡◌ {A = ℕ} 0 1 = cc in omega arith) };
        lies = graph_lies t starts sorted g;
      }

  module _ (words sorted : List ℕ) (s : WalkState) (f : FitsState words sorted s) where
    -- measures[i] = 1
    pub fits_take : (i : ℕ) → i < length t → is_container (at t i).label ≡ true → s.stages i ≡ fresh → FitsState (set words i 1) sorted (stage_r i taken s)
    fits_take i l c e = record { resolves = take_resolves t nowhere beyond s i f.resolves e; noted = noted-stage t word words s i 1 taken f.noted l c refl; lies = f.lies }

    -- measures[i] = 3
    pub fits_block : (i : ℕ) → i < length t → is_container (at t i).label ≡ true → s.stages i ≡ fresh → is_object (at t i).label ≡ true
        → FitsState (set words i 3) sorted (stage_r i (kept none) s)
    unfolding freshness
    fits_block i l c e o =
        record { resolves = stage_resolves t nowhere beyond s i (kept none) f.resolves e refl (object-gone t i o); noted = noted-stage t word words s i 3 (kept none) f.noted l c (let o' = o in rw o'); lies = f.lies }

    -- children[starts[n] + the number of those before] = x
    pub fits_put : (n : ℕ) → n < length t → s.stages n ≡ taken → (is js : List ℕ) (c x : ℕ) → s.kids n ≡ is ++ (c ∷ js)
        → FitsState words (set sorted (get_or starts n 0 + length is) x) (overwrite n (is ++ (x ∷ js)) s)
    fits_put n l e is js c x h =
        record {
          resolves = overwrite_resolves t nowhere beyond s n (is ++ (x ∷ js)) f.resolves e (rw h (simp length-append));
          noted = record { long = f.noted.long; container = f.noted.container; leaf = f.noted.leaf; calm = f.noted.calm };
          lies = lies_put starts (length t) sorted s.kids f.lies n l is js c x h;
        }

    -- a child that stays is not stored
    pub fits_same : (n : ℕ) → s.stages n ≡ taken → (l : List ℕ) → s.kids n ≡ l → FitsState words sorted (overwrite n l s)
    fits_same n e l h =
        record {
          resolves = overwrite_resolves t nowhere beyond s n l f.resolves e (ap length (sym h));
          noted = record { long = f.noted.long; container = f.noted.container; leaf = f.noted.leaf; calm = f.noted.calm };
          lies = record { bounds = f.lies.bounds; lists = λ j m. f.lies.lists j m ∙ go j (ℕ_discrete j n) };
        }
      where
        go : (j : ℕ) → Dec (j ≡ n) → s.kids j ≡ with_list n l s.kids j
        go j (yes p) = ap s.kids p ∙ (h ∙ (sym (with_list-same n l s.kids) ∙ ap (with_list n l s.kids) (sym p)))
        go j (no p) = sym (put_other n l s.kids j p)

    -- measures[i] = the word of what it keeps
    pub fits_finish : (i : ℕ) → i < length t → is_container (at t i).label ≡ true → s.stages i ≡ taken → (c : Forest)
        → Stand t s.kids (s.kids i) c → ((j : ℕ) → In j (s.kids i) → Final nowhere s.done j)
        → let v : Value = record { label = (at t i).label; contents = c } in FitsState (set words i (word v)) sorted (finish_r t i (c, s)).after
    unfolding finish_r
    fits_finish i l b e c w z =
        let v : Value = record { label = (at t i).label; contents = c } in
        let o : gone t i v ≡ false = own_stays (at t i).label in
        let n : Noted t word (set words i (word v)) (stage_r i (kept v) s) = noted-stage t word words s i (word v) (kept v) f.noted l b (rw o) in
        record { resolves = finish_resolves t nowhere beyond s i c f.resolves e w z; noted = noted-done t word (set words i (word v)) (stage_r i (kept v) s) i n b; lies = f.lies }
