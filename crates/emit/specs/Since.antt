-- Measures while a value is written: each is as it was, or of a container that is written, where its records and its text stand.
use Rattle.std.specs.Prelude.{ℕ, suc, ◌+◌, ◌*◌, ◌^◌, ◌<◌, ◌≤◌, true, false, List, [], ◌∷◌, ◌≡◌, refl, ◌⊎◌, length, get_or, take, drop, set}
use Rattle.std.proofs.Common.{◌∙◌, inl, inr, get_or-set_same, get_or-set_other, arith}
use Rattle.std.proofs.Math.Decide.{ℕ_discrete}
use Rattle.value.specs.Value.{Value, one, size, text, table}
use Rattle.steps.specs.State.{Node}
use Rattle.reading.specs.Build.{at}
use Rattle.resolve.specs.Resolved.{Kids}
use Rattle.resolve.specs.Noted.{is_container}
use Rattle.resolve.specs.Written.{Written, written_stays}
use Rattle.emit.specs.Stores.{part_late}
use Rattle.emit.specs.Words.{written_w}

-- the measure m of node j says where its value is written: from record e on, before record u and text place v
pub record Stored (t : List Node) (h : Kids) (records bytes : List ℕ) (e u v j m : ℕ) : Type 0 where
  pub container : is_container (at t j).label ≡ true
  pub value : Value
  pub a : ℕ
  pub p : ℕ
  pub written : Written t h records bytes (j ∷ []) (one value) a p
  pub measure : m ≡ written_w a (size (one value)) p (length (text (one value)))
  pub later : e ≤ a
  pub records_end : a + size (one value) ≤ u
  pub text_ends : p + length (text (one value)) ≤ v

-- the measures m, and now m'
abbrev pub Since : List Node → Kids → List ℕ → List ℕ → ℕ → ℕ → ℕ → List ℕ → List ℕ → Type 0
Since t h records bytes e u v m m' = (j : ℕ) → (get_or m' j 0 ≡ get_or m j 0) ⊎ Stored t h records bytes e u v j (get_or m' j 0)

module _ (t : List Node) (h : Kids) where
  -- in rooms that agree so far
  pub stored_more : {records bytes : List ℕ} {e u v j m : ℕ} (records' bytes' : List ℕ) (e' u' v' : ℕ) → take (4 * u) records' ≡ take (4 * u) records → take v bytes' ≡ take v bytes → e' ≤ e → u ≤ u' → v ≤ v'
      → Stored t h records bytes e u v j m → Stored t h records' bytes' e' u' v' j m
  stored_more {u = u} {v = v} records' bytes' e' u' v' r b k l n s =
      record {
        container = s.container;
        value = s.value;
        a = s.a;
        p = s.p;
        written = written_stays records' bytes' s.a s.p u v s.written r b s.records_end s.text_ends;
        measure = s.measure;
        later = omega (arith, s.later);
        records_end = omega (arith, s.records_end);
        text_ends = omega (arith, s.text_ends);
      }

  -- one after the other
  pub since_then : (r b r' b' : List ℕ) (e e' u v u' v' : ℕ) (m m' m'' : List ℕ) → take (4 * u) r' ≡ take (4 * u) r → take v b' ≡ take v b → e ≤ e' → u ≤ u' → v ≤ v'
      → Since t h r b e u v m m' → Since t h r' b' e' u' v' m' m'' → Since t h r' b' e u' v' m m''
  since_then r b r' b' e e' u v u' v' m m' m'' x y k l n f g j = go (f j) (g j)
    where
      go : (get_or m' j 0 ≡ get_or m j 0) ⊎ Stored t h r b e u v j (get_or m' j 0) → (get_or m'' j 0 ≡ get_or m' j 0) ⊎ Stored t h r' b' e' u' v' j (get_or m'' j 0) → (get_or m'' j 0 ≡ get_or m j 0) ⊎ Stored t h r' b' e u' v' j (get_or m'' j 0)
      go w (inr s) = inr (stored_more r' b' e u' v' refl refl k (omega arith) (omega arith) s)
      go (inl w) (inl s) = inl (s ∙ w)
      go (inr w) (inl s) = inr (rw s (stored_more r' b' e u' v' x y (omega arith) l n w))

  -- the record before e is written
  pub since_late : (r b r' : List ℕ) (e u v : ℕ) (m m' : List ℕ) → drop (4 * suc e) r' ≡ drop (4 * suc e) r → Since t h r b (suc e) u v m m' → Since t h r' b e u v m m'
  since_late r b r' e u v m m' x f j = go (f j)
    where
      go : (get_or m' j 0 ≡ get_or m j 0) ⊎ Stored t h r b (suc e) u v j (get_or m' j 0) → (get_or m' j 0 ≡ get_or m j 0) ⊎ Stored t h r' b e u v j (get_or m' j 0)
      go (inl w) = inl w
      go (inr s) = inr (record {
        container = s.container;
        value = s.value;
        a = s.a;
        p = s.p;
        written = record { stands = s.written.stands; table_is = part_late r r' (4 * suc e) (4 * s.a) (table (one s.value) s.p) x (omega (arith, s.later)) s.written.table_is; text_is = s.written.text_is };
        measure = s.measure;
        later = omega (arith, s.later);
        records_end = s.records_end;
        text_ends = s.text_ends;
      })

  -- a container gets its measure
  pub since_measure : (r b : List ℕ) (e u v : ℕ) (m m' : List ℕ) (i w : ℕ) → i < length m' → Since t h r b e u v m m' → Stored t h r b e u v i w → Since t h r b e u v m (set m' i w)
  since_measure r b e u v m m' i w l f s j = go (ℕ_discrete j i) (f j)
    where
      go : Dec (j ≡ i) → (get_or m' j 0 ≡ get_or m j 0) ⊎ Stored t h r b e u v j (get_or m' j 0) → (get_or (set m' i w) j 0 ≡ get_or m j 0) ⊎ Stored t h r b e u v j (get_or (set m' i w) j 0)
      go (yes q) x = inr (rw (q, get_or-set_same m' i w 0 l) s)
      go (no q) x = rw (get_or-set_other m' i j w 0 q) x

  module _ (r b : List ℕ) (e u v : ℕ) (m m' : List ℕ) (f : Since t h r b e u v m m') (j : ℕ) where
    -- what is not written is as it was
    pub since_fresh : get_or m' j 0 < 2 ^ 63 → get_or m' j 0 ≡ get_or m j 0
    since_fresh l = go (f j)
      where
        go : (get_or m' j 0 ≡ get_or m j 0) ⊎ Stored t h r b e u v j (get_or m' j 0) → get_or m' j 0 ≡ get_or m j 0
        go (inl x) = x
        go (inr s) = absurd (omega (arith, s.measure))

    pub since_leaf : is_container (at t j).label ≡ false → get_or m' j 0 ≡ get_or m j 0
    since_leaf c = go (f j)
      where
        go : (get_or m' j 0 ≡ get_or m j 0) ⊎ Stored t h r b e u v j (get_or m' j 0) → get_or m' j 0 ≡ get_or m j 0
        go (inl x) = x
        go (inr s) = let d = s.container in absurd (let z : ◌≡◌ {A = ℕ} 0 1 = cc in omega arith)

    pub since_stored : get_or m j 0 < 2 ^ 63 → 2 ^ 63 ≤ get_or m' j 0 → Stored t h r b e u v j (get_or m' j 0)
    since_stored l k = go (f j)
      where
        go : (get_or m' j 0 ≡ get_or m j 0) ⊎ Stored t h r b e u v j (get_or m' j 0) → Stored t h r b e u v j (get_or m' j 0)
        go (inl x) = absurd (omega arith)
        go (inr s) = s
