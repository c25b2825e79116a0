-- Reading on from here gives what is asked.
use Rattle.std.proofs.Common.{◌≡◌, ◌≤◌, drop}
use Rattle.float.specs.Scan.{cap, run_of}
use Rattle.float.proofs.Scans.{onward}
use Rattle.float.proofs.digit_run.Given as goal

abbrev pub invariant-loop-count : goal.invariant-loop-count
invariant-loop-count l = record {
  small : l.value ≤ cap;
  whole : onward l.value l.count (drop l.count l.text) ≡ run_of l.start l.text;
}
