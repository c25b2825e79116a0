-- The module's and the name's bytes are compared.
use Rattle.std.proofs.Common.{sym}
use Rattle.decoder.proofs.LawsCalls.{kind-many, kind_other, kind-set, kind-frozenset, kind_neither, same_told, other_told}
use Rattle.decoder.proofs.made_kind.Goals as goal

pub returns-then-n-gt1 : goal.returns-then-n-gt1
returns-then-n-gt1 c = sym (kind-many _ _ _ _ c.if-n-gt1.true)

pub returns-then-ne : goal.returns-then-ne
returns-then-ne c = sym (kind_other _ _ _ _ c.if-n-gt1.false (other_told c.cut.ensures c.as_slice.ensures c.if-ne.ensures))

pub returns-then-eq : goal.returns-then-eq
returns-then-eq c =
    let m = other_told c.cut.ensures c.as_slice.ensures c.if-ne.ensures in
    sym (kind-set _ _ _ _ c.if-n-gt1.false m (same_told c.cut-name.ensures c.as_slice-2.ensures c.if-eq.ensures))

pub returns-then-eq-2 : goal.returns-then-eq-2
returns-then-eq-2 c =
    let m = other_told c.cut.ensures c.as_slice.ensures c.if-ne.ensures in
    let s = same_told c.cut-name.ensures c.as_slice-2.ensures c.if-eq.ensures in
    sym (kind-frozenset _ _ _ _ c.if-n-gt1.false m s (same_told c.cut-name.ensures c.as_slice-else-eq.ensures c.if-eq-2.ensures))

pub returns-else-eq-2 : goal.returns-else-eq-2
returns-else-eq-2 c =
    let m = other_told c.cut.ensures c.as_slice.ensures c.if-ne.ensures in
    let s = same_told c.cut-name.ensures c.as_slice-2.ensures c.if-eq.ensures in
    sym (kind_neither _ _ _ _ c.if-n-gt1.false m s (same_told c.cut-name.ensures c.as_slice-else-eq.ensures c.if-eq-2.ensures))
