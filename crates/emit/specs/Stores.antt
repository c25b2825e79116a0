-- A run of stores into a room: what stands there, before it and behind it.
use Rattle.std.specs.Prelude.{ℕ, suc, ◌+◌, ◌-◌, ◌<◌, ◌≤◌, List, [], ◌∷◌, ◌++◌, ◌≡◌, refl, length, get_or, take, drop, set}
use Rattle.std.proofs.Common.{append_assoc, sym, ◌∙◌, ap, drop-set-lt, get_or-take, drop_at, length-take-le, length-drop, take-take, drop-drop, arith}
use Rattle.std.proofs.lemmas.List.Edits.{sets, sets-eq}
use Rattle.std.proofs.lemmas.List.{take-set-le}
use Rattle.std.specs.List.{copy_within}
use borrow.Rule.Slice.PartMut.{put_mid}
use Rattle.std.proofs.Math.Seq.{take-append_seam}
use Rattle.resolve.specs.Written.{HasAt}

pub sets_before : (l : List ℕ) (i : ℕ) (vs : List ℕ) (n : ℕ) → n ≤ i → take n (sets l i vs) ≡ take n l
sets_before l i [] n h = refl
sets_before l i (a ∷ vs) n h = sets_before (set l i a) (suc i) vs n (omega arith) ∙ take-set-le n l i a h

pub sets_behind : (l : List ℕ) (i : ℕ) (vs : List ℕ) (n : ℕ) → i + length vs ≤ n → drop n (sets l i vs) ≡ drop n l
sets_behind l i [] n h = refl
sets_behind l i (a ∷ vs) n h = sets_behind (set l i a) (suc i) vs n (omega arith) ∙ drop-set-lt n l i a (omega arith)

pub sets_there : (l : List ℕ) (i : ℕ) (vs : List ℕ) → i + length vs ≤ length l → HasAt (sets l i vs) i vs
sets_there l i vs h =
    let n : length (take i l) ≡ i = length-take-le i l (omega arith) in
    rw (sets-eq vs l i h, append_assoc, drop_at (take i l) (vs ++ drop (i + length vs) l) i n) (take-append_seam vs (drop (i + length vs) l))

-- ---- what a slice's own stores leave: s into its part from i on, and its part from i to j once more from `to` on

pub put_mid_sets : (l s new : List ℕ) (i k : ℕ) → new ≡ s → k ≡ length s → i + length s ≤ length l → put_mid i k l new ≡ sets l i s
put_mid_sets l s new i k e n h = rw (e, n, drop-drop (length s) i l, sets-eq s l i h, append_assoc)

pub copy_within_sets : (l : List ℕ) (i j n to : ℕ) → j ≡ i + n → j ≤ length l → to + n ≤ length l → copy_within l i j to ≡ sets l to (take n (drop i l))
copy_within_sets l i j n to e h r =
    let a : j - i ≡ n = omega arith in
    let b : length (take n (drop i l)) ≡ n = length-take-le n (drop i l) (simp length-drop (omega arith)) in
    rw (a, sets-eq (take n (drop i l)) l to (omega arith), b)

-- ---- rooms that agree up to e, or from e on

pub early : (r s : List ℕ) (e k : ℕ) → take e s ≡ take e r → k < e → get_or s k 0 ≡ get_or r k 0
early r s e k h l = sym (get_or-take e s k 0 l) ∙ ap (λ (x : List ℕ). get_or x k 0) h ∙ get_or-take e r k 0 l

pub earlier : (r s : List ℕ) (e n : ℕ) → take e s ≡ take e r → n ≤ e → take n s ≡ take n r
earlier r s e n h l = sym (take-take n e s l) ∙ (ap (take n) h ∙ take-take n e r l)

pub later : (r s : List ℕ) (e n : ℕ) → drop e s ≡ drop e r → e ≤ n → drop n s ≡ drop n r
later r s e n h l = from s ∙ (ap (drop (n - e)) h ∙ sym (from r))
  where
    from : (x : List ℕ) → drop n x ≡ drop (n - e) (drop e x)
    from x = sym (let q : e + (n - e) ≡ n = omega arith in rw (drop-drop (n - e) e x, q))

pub part_late : (r s : List ℕ) (e a : ℕ) (l : List ℕ) → drop e s ≡ drop e r → e ≤ a → HasAt r a l → HasAt s a l
part_late r s e a l h k p = ap (take (length l)) (later r s e a h k) ∙ p
