-- `resolve::global_text_len` meets its contract.
use Rattle.resolve.proofs.global_text_len.Statement.{statement}
use Rattle.resolve.proofs.global_text_len.Tie as tie
use native.Mathlib.Omega.{arith}
use Rattle.resolve.specs.Length.{within-short, names_len_lem, names-short}

add-result : tie.Need-overflow_add-result
add-result c =
    let m = c.before.before.before in
    let s = m.before.before in
    omega (arith, names-short s.args.pickle.now s.args.a s.args.b _ _ _ _ m.module_text.ensures c.repaired_len-module.ensures c.raw_text.ensures c.repaired_len-name.ensures s.requires)

returns : tie.Need-returns
returns c = let m = c.before.before.before in names_len_lem _ _ _ _ _ _ _ m.module_text.ensures c.repaired_len-module.ensures c.raw_text.ensures c.repaired_len-name.ensures

pub global_text_len_spec : {M : Type 1} → statement M
global_text_len_spec =
    tie.close
    (tie.spec
    (λ c κs. tt) (λ c κs. within-short _ _ 24 _ 65536 c.requires c.module_text.ensures) (λ c κs. tt)
    (λ c κs. within-short _ _ 32 _ 65536 c.requires c.raw_text.ensures) add-result returns)
