-- Where nothing but zeros came together, each is zero.
use Rattle.std.proofs.Common.{ℕ, ◌+◌, ◌<◌, ◌≡◌, ◌∙◌, sym, ap₂, List, [], ◌∷◌, ◌++◌, length, get_or, take, replicate}
use Rattle.std.proofs.lemmas.List.{take_more, replicate_more}
use Rattle.rooms.proofs.are_zero.Goals as goal

-- one more that is z, of a list that begins with i of them
more : {A : Type 0} (l : List A) (i : ℕ) (x z : A) → i < length l → x ≡ get_or l i x → take i l ≡ replicate i z → x ≡ z → take (i + 1) l ≡ replicate (i + 1) z
more {A = A} l i x z h g e q = take_more l i x h ∙ ap₂ (λ (m : List A) (y : A). m ++ y ∷ []) e (sym g ∙ q) ∙ replicate_more i z

pub loop-x-preserved : goal.loop-x-preserved
loop-x-preserved g c z =
    let both = g.met.T.Unsigned.or_law _ _ _ c.bitor-any.ensures z in
    more _ _ _ _ c.loop-x-test.true c.x-item.is (c.loop-x.invariant both.0) both.1
