-- Laws of the lists that are read off rooms: tables and the log of links.
use Prim.Native.Nat.{ℕ, suc, zero, ◌<◌, ◌≤◌}
use Rattle.std.specs.Prelude.{Bool, true, false, cond, ◌≡◌, ◌≢◌, length, take, set, eqb}
use mathlib.Core.List.{List, [], ◌∷◌, ◌++◌, append-nil}
use Rattle.std.proofs.Math.Path.{refl}
use Rattle.std.proofs.Common.{sym, ◌∙◌, ap, length-set, take-suc-set, length-take-le, get_or-take, get_or-set_same, get_or-set_other, ext_get_or, eq-eqb, ne_eqb}
use Rattle.std.proofs.Math.ListN.{length-append, get_or, get_or-append}
use Rattle.std.proofs.lemmas.List.{get_or_at}
use Rattle.std.proofs.Math.Decide.{dec_lt, ℕ_discrete}
use native.Mathlib.Omega.{arith}
use Rattle.store.specs.Rooms.{tabulated, linked_items}

-- ---- tables

module _ {A : Type 0} where
  pub length_tab : (f : ℕ → A) (n : ℕ) → length (tabulated f n) ≡ n
  unfolding tabulated
  length_tab f zero = refl
  length_tab f (suc n) = rw length-append (omega (arith, length_tab f n))

  pub get_d_tab : (f : ℕ → A) (n i : ℕ) (d : A) → i < n → get_or (tabulated f n) i d ≡ f i
  unfolding tabulated
  get_d_tab f zero i d h = absurd (omega arith)
  get_d_tab f (suc n) i d h = go (dec_lt i n) (get_d_tab f n i d)
    where
      go : Dec (i < n) → (i < n → get_or (tabulated f n) i d ≡ f i) → get_or (tabulated f n ++ (f n ∷ [])) i d ≡ f i
      go (yes l) ih = get_or-append (tabulated f n) (f n ∷ []) d i (rw length_tab l) ∙ ih l
      go (no l) ih = let e : i ≡ n = omega arith in rw e (get_or_at (tabulated f n) (f n) [] d n (length_tab f n))

  -- two tables that agree below n
  pub tab_same : (f g : ℕ → A) (n : ℕ) → ((i : ℕ) → i < n → g i ≡ f i) → tabulated g n ≡ tabulated f n
  unfolding tabulated
  tab_same f g zero h = refl
  tab_same f g (suc n) h = rw (tab_same f g n (λ i l. h i (omega arith)), h n (omega arith))

  -- two that agree below n but for one place
  pub tab_set : (f g : ℕ → A) (n o : ℕ) (d : A) → o < n → ((i : ℕ) → i < n → i ≢ o → g i ≡ f i) → tabulated g n ≡ set (tabulated f n) o (g o)
  tab_set f g n o d l h = ext_get_or d (tabulated g n) (set (tabulated f n) o (g o)) (length_tab g n ∙ sym (length-set (tabulated f n) o (g o) ∙ length_tab f n)) (λ i k. go i (rw length_tab at k) (ℕ_discrete i o))
    where
      go : (i : ℕ) → i < n → Dec (i ≡ o) → get_or (tabulated g n) i d ≡ get_or (set (tabulated f n) o (g o)) i d
      go i k (yes e) = rw (get_d_tab g n i d k, e, get_or-set_same (tabulated f n) o (g o) d (rw length_tab l))
      go i k (no e) = rw (get_d_tab g n i d k, get_or-set_other (tabulated f n) o i (g o) d e, get_d_tab f n i d k) (h i k e)

-- ---- the log

items-append : (ws cs : List ℕ) (w c o : ℕ) → length ws ≡ length cs → linked_items (ws ++ (w ∷ [])) (cs ++ (c ∷ [])) o ≡ linked_items ws cs o ++ cond (eqb w o) (c ∷ []) []
unfolding linked_items
items-append [] [] w c o h = refl
items-append [] (d ∷ cs) w c o h = absurd (omega arith)
items-append (v ∷ ws) [] w c o h = absurd (omega arith)
items-append (v ∷ ws) (d ∷ cs) w c o h = go (eqb v o) (items-append ws cs w c o (omega arith))
  where
    go : (b : Bool) → linked_items (ws ++ (w ∷ [])) (cs ++ (c ∷ [])) o ≡ linked_items ws cs o ++ cond (eqb w o) (c ∷ []) []
        → cond b (d ∷ linked_items (ws ++ (w ∷ [])) (cs ++ (c ∷ [])) o) (linked_items (ws ++ (w ∷ [])) (cs ++ (c ∷ [])) o)
        ≡ cond b (d ∷ linked_items ws cs o) (linked_items ws cs o) ++ cond (eqb w o) (c ∷ []) []
    go true e = ap (d ∷◌) e
    go false e = e

-- a link more, of w to c: w's items have c at their end, no other node's change
module _ (owners children : List ℕ) (n w c : ℕ) (h : n < length owners) (k : n < length children) where
  more : (o : ℕ) → linked_items (take (suc n) (set owners n w)) (take (suc n) (set children n c)) o ≡ linked_items (take n owners) (take n children) o ++ cond (eqb w o) (c ∷ []) []
  more o = rw (take-suc-set owners n w h, take-suc-set children n c k) (items-append (take n owners) (take n children) w c o (length-take-le n owners (omega arith) ∙ sym (length-take-le n children (omega arith))))

  pub items_own : linked_items (take (suc n) (set owners n w)) (take (suc n) (set children n c)) w ≡ linked_items (take n owners) (take n children) w ++ (c ∷ [])
  items_own = more w ∙ rw (eq-eqb w w refl)

  pub items_other : (o : ℕ) → o ≢ w → linked_items (take (suc n) (set owners n w)) (take (suc n) (set children n c)) o ≡ linked_items (take n owners) (take n children) o
  items_other o d = more o ∙ rw (ne_eqb w o (λ e. d (sym e))) (append-nil _)

-- a node that owns no link has no items
items-none : (ws cs : List ℕ) (o : ℕ) → ((k : ℕ) → k < length ws → get_or ws k 0 ≢ o) → linked_items ws cs o ≡ []
unfolding linked_items
items-none [] cs o h = refl
items-none (w ∷ ws) [] o h = refl
items-none (w ∷ ws) (c ∷ cs) o h = rw (ne_eqb w o (h 0 (omega arith))) (items-none ws cs o (λ k l. h (suc k) (omega arith)))

pub items_new : (owners children : List ℕ) (n o : ℕ) → ((k : ℕ) → k < n → get_or owners k 0 ≢ o) → n ≤ length owners → linked_items (take n owners) (take n children) o ≡ []
items_new owners children n o h l = items-none (take n owners) (take n children) o (λ k m. let u : k < n = rw (length-take-le n owners l) at m in rw (get_or-take n owners k 0 u) (h k u))
