-- What a call that writes something of a well-formed table's value shows of it: it is one value, and bytes put from 0 on are the call's
-- answer.
use Rattle.std.specs.Prelude.{ℕ, ◌+◌, ◌≤◌, List, ◌++◌, ◌≡◌, refl, length, drop}
use Rattle.std.proofs.Common.{◌∙◌, arith}
use Rattle.std.proofs.lemmas.List.Edits.{sets-eq}
use Rattle.value.specs.Value.{one, count}
use Rattle.value.specs.WellFormed.{WellFormed}
use Rattle.table.specs.Call.{told, done, answered, answered-all}
use Rattle.output.specs.Put.{Put}

pub whole_one : (w : List ℕ) (n : ℕ) (t : List ℕ) (f : WellFormed w n t) → count (one f.value) ≡ 1
unfolding count
whole_one w n t f = refl

pub put_answered : (b o o' : List ℕ) (p : ℕ) → length b ≤ length o → Put o 0 b o' p → told (done p) o' ≡ answered b o
put_answered b o o' p long put =
    let e : p ≡ length b = omega (arith, put.ends) in
    let z : 0 + length b ≡ length b = omega arith in
    let front : o' ≡ b ++ drop (length b) o = put.wrote ∙ rw z at (sets-eq b o 0 (rw z long)) in
    rw (answered-all b o long, e, front)
