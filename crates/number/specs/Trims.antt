-- What `trimmed` means: what is cut off at either end is a run of White_Space characters, and what is left
-- neither begins nor ends with one. Assumes nothing.
use Prim.Native.Nat.{ℕ, zero, suc, ◌≤◌, ◌<◌}
use Rattle.std.specs.Prelude.{Bool, ◌&&◌, ◌||◌, T, eqb, leb, length, drop}
use Rattle.std.proofs.Math.Bool.{true, false, cond}
use Rattle.std.proofs.lemmas.Bool.{false≢true}
use mathlib.Core.List.{List, [], ◌∷◌, ◌++◌, reverse, reverse-append, reverse-reverse, append_assoc, append-nil}
use Rattle.std.proofs.Math.Path.{◌≡◌, refl, sym, ap, subst}
use Rattle.std.proofs.Common.{◌∙◌, not-suc-le-zero, eqb-true, leb→le, take-append-drop}
use native.Mathlib.Omega.{arith}
use Rattle.std.proofs.Math.ListN.{take}
use Rattle.std.proofs.lemmas.List.{length-reverse}
use Rattle.std.proofs.Math.Seq.{drop-nil}
use Rattle.utf8.specs.Utf8.{encode, trail}
use Rattle.number.specs.Space.{white_space, spaces, same, one_of, space, width, strip, trim_start, trim_end, trimmed}

-- a run of White_Space characters
pub data Blank : List ℕ → Type 0 where
  none : Blank []
  more : (f t : List ℕ) → space f ≡ true → Blank t → Blank (f ++ t)

-- t is s without the White_Space at both ends
pub record Trims (s t : List ℕ) : Type 0 where
  pub left : List ℕ
  pub right : List ℕ
  pub cut : s ≡ left ++ (t ++ right)
  pub left_blank : Blank left
  pub right_blank : Blank right
  pub starts : (f r : List ℕ) → t ≡ f ++ r → space f ≡ true → ⊥
  pub ends : (f r : List ℕ) → t ≡ r ++ f → space f ≡ true → ⊥

blank-append : (s t : List ℕ) → Blank s → Blank t → Blank (s ++ t)
blank-append s t none k = k
blank-append s t (more f r h b) k = rw append_assoc (more f (r ++ t) h (blank-append r t b k))

blank_one : (f : List ℕ) → space f ≡ true → Blank f
blank_one f h = rw append-nil at (more f [] h none)

pub same_is : (s t : List ℕ) → same s t ≡ true → s ≡ t
unfolding same
same_is [] [] h = refl
same_is [] (b ∷ t) h = cc
same_is (a ∷ s) [] h = cc
same_is (a ∷ s) (b ∷ t) h = go (eqb a b) refl h (same_is s t)
  where
    go : (x : Bool) → eqb a b ≡ x → (x && same s t) ≡ true → (same s t ≡ true → s ≡ t) → a ∷ s ≡ b ∷ t
    go true e k i = let p : a ≡ b = eqb-true a b e in let q : s ≡ t = i k in cc
    go false e k i = cc

pub and_parts : (x y : Bool) → T (x && y) → T x × T y
and_parts true y p = (tt, p)
and_parts false y p = absurd p

-- a test that each of the listed passes
abbrev pub all_pass : (List ℕ → Bool) → List (List ℕ) → Bool
all_pass p [] = true
all_pass p (f ∷ t) = p f && all_pass p t

one_all : (p : List ℕ → Bool) (t : List (List ℕ)) (s : List ℕ) → T (all_pass p t) → one_of t s ≡ true → T (p s)
unfolding one_of
one_all p [] s k h = absurd (false≢true h)
one_all p (f ∷ t) s k h = go (same s f) refl h (one_all p t s (and_parts (p f) (all_pass p t) k).1)
  where
    go : (x : Bool) → same s f ≡ x → (x || one_of t s) ≡ true → (one_of t s ≡ true → T (p s)) → T (p s)
    go true e q i = rw (same_is s f e) (and_parts (p f) (all_pass p t) k).0
    go false e q i = i q

-- what a test of the 25 forms says of each
pub space-all : (p : List ℕ → Bool) → T (all_pass p spaces) → (s : List ℕ) → space s ≡ true → T (p s)
unfolding space
space-all p k s h = one_all p spaces s k h

-- no form is empty or has more than three bytes
pub space_sized : (s : List ℕ) → space s ≡ true → (1 ≤ length s) × (length s ≤ 3)
unfolding spaces white_space encode trail
space_sized s h =
    let k = and_parts (leb 1 (length s)) (leb (length s) 3) (space-all (λ f. leb 1 (length f) && leb (length f) 3) tt s h) in
    (leb→le 1 (length s) k.0, leb→le (length s) 3 k.1)

module _ (read : List ℕ → List ℕ) where
  -- the character lies within the list
  pub width_le : space (read []) ≡ false → (s : List ℕ) → width read s ≤ length s
  unfolding width
  width_le e [] = rw e (omega arith)
  width_le e (a ∷ []) = go (space (read (a ∷ [])))
    where
      go : (x : Bool) → cond x 1 (cond x 2 (cond x 3 0)) ≤ 1
      go true = omega arith
      go false = omega arith
  width_le e (a ∷ b ∷ []) = go (space (read (a ∷ []))) (space (read (a ∷ b ∷ [])))
    where
      go : (x y : Bool) → cond x 1 (cond y 2 (cond y 3 0)) ≤ 2
      go true y = omega arith
      go false true = omega arith
      go false false = omega arith
  width_le e (a ∷ b ∷ c ∷ s) = go (space (read (a ∷ []))) (space (read (a ∷ b ∷ []))) (space (read (a ∷ b ∷ c ∷ [])))
    where
      go : (x y z : Bool) → cond x 1 (cond y 2 (cond z 3 0)) ≤ suc (suc (suc (length s)))
      go true y z = omega arith
      go false true z = omega arith
      go false false true = omega arith
      go false false false = omega arith

  -- bytes that belong to a character are left out
  strip_skip : (n : ℕ) (s : List ℕ) → strip read n s ≡ strip read 0 (drop n s)
  unfolding strip
  strip_skip zero s = refl
  strip_skip (suc n) [] = refl
  strip_skip (suc n) (b ∷ s) = strip_skip n s

  -- what is left after a character strips to the same
  pub strip_more : (s : List ℕ) (k : ℕ) → k ≡ width read s → 0 < k → strip read 0 (drop k s) ≡ strip read 0 s
  unfolding strip
  strip_more s zero e h = absurd (not-suc-le-zero h)
  strip_more [] (suc k) e h = refl
  strip_more (b ∷ s) (suc k) e h = rw (← e, strip) (sym (strip_skip k s))

  pub strip-stop : (s : List ℕ) → 0 ≡ width read s → strip read 0 s ≡ s
  unfolding strip
  strip-stop [] e = refl
  strip-stop (b ∷ s) e = rw (← e, strip) refl

  -- a run of characters that are read so
  data Run : List ℕ → Type 0 where
    stop : Run []
    next : (f t : List ℕ) → space (read f) ≡ true → Run t → Run (f ++ t)

  -- the width is that of a character
  pub width-space : (s : List ℕ) (k : ℕ) → width read s ≡ suc k → space (read (take (suc k) s)) ≡ true
  unfolding width
  width-space s k = go (space (read (take 1 s))) (space (read (take 2 s))) (space (read (take 3 s))) refl refl refl
    where
      go : (x y z : Bool) → space (read (take 1 s)) ≡ x → space (read (take 2 s)) ≡ y → space (read (take 3 s)) ≡ z
          → cond x 1 (cond y 2 (cond z 3 0)) ≡ suc k → space (read (take (suc k) s)) ≡ true
      go true y z a b c e = subst (λ n. space (read (take n s)) ≡ true) e a
      go false true z a b c e = subst (λ n. space (read (take n s)) ≡ true) e b
      go false false true a b c e = subst (λ n. space (read (take n s)) ≡ true) e c
      go false false false a b c e = absurd (omega arith)

  -- what is cut off is a run of characters
  record Cut (s t : List ℕ) : Type 0 where
    run : List ℕ
    is : s ≡ run ++ t
    all : Run run

  strip_cut : (n : ℕ) (s : List ℕ) → Cut (drop n s) (strip read n s)
  unfolding strip
  strip_cut n [] = record { run = []; is = drop-nil n; all = stop }
  strip_cut zero (b ∷ s) = go (width read (b ∷ s)) refl (λ k. strip_cut k s)
    where
      go : (k : ℕ) → width read (b ∷ s) ≡ k → ((k : ℕ) → Cut (drop k s) (strip read k s))
          → Cut (b ∷ s) (elim k [ zero ↦ b ∷ s | suc n ↦ strip read n s ])
      go zero e h = record { run = []; is = refl; all = stop }
      go (suc k) e h =
          record {
            run = (b ∷ take k s) ++ (h k).run;
            is = ap (b ∷◌) (sym (take-append-drop k s) ∙ ap (take k s ++◌) (h k).is ∙ sym (append_assoc (take k s) (h k).run _));
            all = next (b ∷ take k s) (h k).run (width-space (b ∷ s) k e) (h k).all;
          }
  strip_cut (suc n) (b ∷ s) = strip_cut n s

  -- what is left begins with no character
  strip-done : space (read []) ≡ false → (n : ℕ) (s : List ℕ) → width read (strip read n s) ≡ 0
  unfolding strip width
  strip-done z n [] = simp z
  strip-done z zero (b ∷ s) = go (width read (b ∷ s)) refl (λ k. strip-done z k s)
    where
      go : (k : ℕ) → width read (b ∷ s) ≡ k → ((k : ℕ) → width read (strip read k s) ≡ 0)
          → width read (elim k [ zero ↦ b ∷ s | suc n ↦ strip read n s ]) ≡ 0
      go zero e h = e
      go (suc k) e h = h k
  strip-done z (suc n) (b ∷ s) = strip-done z n s

  pub width_finds : (f r : List ℕ) → space (read f) ≡ true → (1 ≤ length f) × (length f ≤ 3) → width read (f ++ r) ≡ 0 → ⊥
  unfolding width
  width_finds [] r h k e = omega arith
  width_finds (a ∷ []) r h k e = let z : ◌≡◌ {A = ℕ} 1 0 = rw h at e in omega arith
  width_finds (a ∷ b ∷ []) r h k e = go (space (read (a ∷ []))) (rw h at e)
    where
      go : (x : Bool) → ◌≡◌ {A = ℕ} (cond x 1 2) 0 → ⊥
      go true q = omega arith
      go false q = omega arith
  width_finds (a ∷ b ∷ c ∷ []) r h k e = go (space (read (a ∷ []))) (space (read (a ∷ b ∷ []))) (rw h at e)
    where
      go : (x y : Bool) → ◌≡◌ {A = ℕ} (cond x 1 (cond y 2 3)) 0 → ⊥
      go true y q = omega arith
      go false true q = omega arith
      go false false q = omega arith
  width_finds (a ∷ b ∷ c ∷ d ∷ f) r h k e = omega arith

run_blank : (s : List ℕ) → Run (λ p. p) s → Blank s
run_blank s stop = none
run_blank s (next f t h r) = more f t h (run_blank t r)

run_reverse : (s : List ℕ) → Run reverse s → Blank (reverse s)
run_reverse s stop = none
run_reverse s (next f t h r) = rw (reverse-append f t) (blank-append (reverse t) (reverse f) (run_reverse t r) (blank_one (reverse f) h))

pub no_space : space [] ≡ false
unfolding space spaces white_space encode trail one_of same
no_space = refl

-- what is left before a run at the end
end_cut : (t : List ℕ) (b : Cut reverse (reverse t) (strip reverse 0 (reverse t))) → t ≡ trim_end t ++ reverse b.run
unfolding trim_end
end_cut t b = sym (reverse-reverse t) ∙ ap reverse b.is ∙ reverse-append b.run _

-- what a text without characters at its start begins with, and one without characters at its end ends with
start_none : (s f r : List ℕ) → trim_start s ≡ f ++ r → space f ≡ true → ⊥
unfolding trim_start
start_none s f r e h = width_finds (λ p. p) f r h (space_sized f h) (rw e at (strip-done (λ p. p) no_space 0 s))

end_none : (t f r : List ℕ) → trim_end t ≡ r ++ f → space f ≡ true → ⊥
unfolding trim_end
end_none t f r e h =
    let y : strip reverse 0 (reverse t) ≡ reverse f ++ reverse r = sym (reverse-reverse _) ∙ ap reverse e ∙ reverse-append r f in
    width_finds reverse (reverse f) (reverse r) (rw (reverse-reverse f) h) (rw (length-reverse f) (space_sized f h))
    (rw y at (strip-done reverse no_space 0 (reverse t)))

pub trimmed_is : (s : List ℕ) → Trims s (trimmed s)
unfolding trimmed trim_start
trimmed_is s =
    let a = strip_cut (λ p. p) 0 s in
    let b = strip_cut reverse 0 (reverse (trim_start s)) in
    record {
      left = a.run;
      right = reverse b.run;
      cut = start s a ∙ ap (a.run ++◌) (end_cut (trim_start s) b);
      left_blank = run_blank _ a.all;
      right_blank = run_reverse _ b.all;
      starts = λ f r e h. start_none s f (r ++ reverse b.run) (end_cut (trim_start s) b ∙ ap (◌++ reverse b.run) e ∙ append_assoc f r _) h;
      ends = λ f r e h. end_none (trim_start s) f r e h;
    }
  where
    start : (s : List ℕ) (a : Cut (λ p. p) s (strip (λ p. p) 0 s)) → s ≡ a.run ++ trim_start s
    start s a = a.is
