-- Counts that fit the words of a step.
use Rattle.std.specs.Prelude.{◌≤◌}
use Rattle.std.proofs.Common.{arith}
use Rattle.store.specs.declared.Counts.{Counts}
use Rattle.store.specs.Rooms.{Rooms}
use Rattle.store.specs.Effects.{Sound}

pub record CountsInRange (c : Counts) : Type 0 where
  pub at : c.at ≤ 65536
  pub links : c.links ≤ 8192
  pub stack : c.stack ≤ 2048
  pub marks : c.marks ≤ 256
  pub memo : c.memo ≤ 1024
  pub nodes : c.nodes ≤ 4096

pub shown : (r : Rooms) (c : Counts) → Sound r c → CountsInRange c
shown r c s =
    let f = s.firm in
    let p = f.lengths.pickle in
    let a = f.at in
    let x = f.stack in
    let y = f.deepest in
    let z = f.marks in
    let w = f.most in
    record { at = omega arith; links = f.links; stack = omega arith; marks = omega arith; memo = f.memo; nodes = f.nodes }
