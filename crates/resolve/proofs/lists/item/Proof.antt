-- `lists::item` meets its contract. Assumes nothing.
use borrow.Author.Rules.{rules}
use Rattle.resolve.proofs.lists.item.Statement.{statement}
use Rattle.resolve.proofs.lists.item.Tie as tie
use Prim.Native.Nat.{◌<◌}
use lib.ListN.{length}

mul-t7 : tie.Need-offset_bounds-log-at
mul-t7 c =
    let e = c.if-in_log.true in
    let h : c.args.at < length c.args.log.now = rw e at c.requires in
    search rules

shared-slice-read-t9 : tie.Need-bounds-log-at
shared-slice-read-t9 c =
    let e = c.if-in_log.true in
    let h : c.args.at < length c.args.log.now = rw e at c.requires in
    search rules

mul-t11 : tie.Need-offset_bounds-sorted-at
mul-t11 c =
    let e = c.if-in_log.false in
    let h : c.args.at < length c.args.sorted.now = rw e at c.requires in
    search rules

shared-slice-read-t13 : tie.Need-bounds-sorted-at
shared-slice-read-t13 c =
    let e = c.if-in_log.false in
    let h : c.args.at < length c.args.sorted.now = rw e at c.requires in
    search rules

returns : tie.Need-returns-then-in_log
returns c = simp c.if-in_log.true

returns-2 : tie.Need-returns-else-in_log
returns-2 c = simp c.if-in_log.false

pub item_spec : {M : Type 1} → statement M
item_spec =
    tie.close
    (tie.spec
    mul-t7 shared-slice-read-t9 (λ c. search (rules, c.shared_slice_known-1.given c.args.at)) mul-t11 shared-slice-read-t13
    (λ c. search (rules, c.shared_slice_known-else-in_log-1.given c.args.at)) returns returns-2)
