-- The module, and the name behind it.
use Rattle.std.proofs.Common.{ℕ, ◌≡◌, ◌+◌, ◌≤◌, List, length, refl, ap, arith}
use Rattle.std.proofs.Math.Seq.{length-sets}
use Rattle.resolve.specs.Kinds.{kind_of}
use Rattle.steps.specs.NodeWords.{first}
use Rattle.resolve.specs.Shown.{lead_text, trail_text}
use Rattle.emit.specs.Leaves.{TextReady, names_room, texts-names}
use Rattle.emit.proofs.put_names.Goals as goal

-- both texts have room
room : {p d ws measures : List ℕ} {i : ℕ} {bytes : List ℕ} {at : ℕ} → TextReady p d ws measures i bytes at → 11 ≤ kind_of (first ws i) → {lead trail : List ℕ} → lead ≡ lead_text p d ws measures i → trail ≡ trail_text p d ws measures i
    → (at + (length lead + length trail) ≤ length bytes) × (length lead + length trail ≤ 65536)
room g k e f = names_room _ _ _ _ _ _ _ g _ refl (omega arith) (omega arith) k _ _ e f

pub put_bytes-requires : goal.put_bytes-requires
put_bytes-requires c = let r = room c.requires.text_ready c.requires.kind_bound c.lead_part-module.ensures c.trail_part-name.ensures in omega (arith, r.0)

pub put_bytes-requires-2 : goal.put_bytes-requires-2
put_bytes-requires-2 c =
    let r = room c.requires.text_ready c.requires.kind_bound c.lead_part-module.ensures c.trail_part-name.ensures in
    omega (arith, r.0, simp length-sets at (ap length c.put_bytes.ensures))

pub overflow_mul-result : goal.overflow_mul-result
overflow_mul-result c = let r = room c.requires.text_ready c.requires.kind_bound c.lead_part-module.ensures c.trail_part-name.ensures in omega (arith, r.1)

pub overflow_add-result : goal.overflow_add-result
overflow_add-result c = let r = room c.requires.text_ready c.requires.kind_bound c.lead_part-module.ensures c.trail_part-name.ensures in omega (arith, r.1)

pub returns : goal.returns
returns c =
    let k = c.requires.kind_bound in
    texts-names _ _ _ _ _ _ _ c.requires.text_ready _ refl (omega arith) (omega arith) k _ _ c.lead_part-module.ensures c.trail_part-name.ensures _ _ c.put_bytes.ensures c.put_bytes-2.ensures
