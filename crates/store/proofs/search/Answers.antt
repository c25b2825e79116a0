-- What `rposition` finds is the number; where it finds none, none of the numbers before those that were passed is.
use Rattle.std.proofs.Common.{◌≡◌, refl, ℕ, ◌<◌, Option, None, Some, get_or, take, MatchOption, arith, rules, get_or-take}
use Rattle.store.specs.Rooms.{Absent}
use Rattle.store.specs.RoomMemo.{passed_join}
use Rattle.store.proofs.search.Goals as goal

pub returns : goal.returns
unfolding Absent
returns c = go c.rposition.result refl
  where
    go : (r : Option ℕ) → c.rposition.result ≡ r
        → MatchOption r (Absent c.args.keys.now c.args.memo c.args.key.0) (λ i. (i < c.args.memo) × Absent c.args.keys.now i c.args.key.0 × (get_or c.args.keys.now i 0 ≡ c.args.key.0))
    go None e =
        let x = rw e at c.rposition.ensures.runs in
        let none : (j : ℕ) → j < c.passed-left.result → get_or (take c.passed-left.result c.args.keys.now) j 0 ≡ c.args.key.0 → ⊥ = search rules in
        let all = passed_join _ 0 _ _ _ _ (λ j z l m. none j l (rw get_or-take m)) c.passed-left.ensures.1 (omega arith) in
        λ j l. all j (omega arith) l
    go (Some i) e =
        let x = rw e at c.rposition.ensures.runs in
        let inside = rw e at c.rposition.ensures.bound in
        let found : get_or (take c.passed-left.result c.args.keys.now) i 0 ≡ c.args.key.0 = search rules in
        let before : i < c.passed-left.result = search rules in
        let is : get_or c.args.keys.now i 0 ≡ c.args.key.0 = rw get_or-take at found in
        (omega arith, rw is at (c.requires.distinct i (omega arith)), is)
