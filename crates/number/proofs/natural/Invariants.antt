-- The number so far with the rest of the digits reads as the whole.
use Rattle.std.proofs.Common.{◌≡◌, ◌≤◌, leb, drop}
use Rattle.number.specs.Number.{only, natural}
use Rattle.number.proofs.Number.{after}
use Rattle.number.proofs.natural.Given as goal

abbrev pub invariant-loop-b : goal.invariant-loop-b
invariant-loop-b l = record {
  whole : only (λ k. leb k l.most) (after l.n (drop l.b-index l.text)) ≡ only (λ k. leb k l.most) (natural l.text);
  small : l.n ≤ l.most;
}
