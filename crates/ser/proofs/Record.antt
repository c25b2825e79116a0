-- What is written of a record, by its kind: what stands before its contents, and what is made of those. Assumes nothing.
use Prim.Native.Nat.{ℕ, suc, ◌+◌, ◌*◌, ◌≤◌, ◌<◌}
use mathlib.Core.Bool.{true, false, not, ◌&&◌}
use mathlib.Core.Logic.{◌≢◌}
use mathlib.Core.List.{List, [], ◌∷◌, ◌++◌}
use mathlib.Core.Path.{◌≡◌, refl, sym}
use native.Mathlib.Nat.{add-zero}
use native.Mathlib.Omega.{arith}
use lib.Dec.{eqb, ltb, ltb→lt}
use lib.ListN.{get_or, take, drop}
use Rattle.utf8.specs.Encode.{by_lt}
use Rattle.value.specs.declared.Head.{Head}
use Rattle.value.specs.Value.{Label, bit, NoneL}
use Rattle.value.specs.Shape.{kind_in, fresh_in, state_in, head_of, holding, labels_of, label_of, arity_of, module_part, name_part, and_l, nothing_held}
use Rattle.value.specs.Stands.{word_at, label_at, arity_at, Reads}
use Rattle.table.specs.Record.{EachBelow, each_below}
use Rattle.output.specs.Put.{Put}
use Rattle.ser.specs.Image.{int_image, float_image, bytes_image, string_image, global_image, set, frozenset, set_opening, bool_image, opening, items_image, tuple_image, object_image, batches, contents, joined}
use Rattle.ser.specs.Parts.{Same, followed_by, wrote_none, value_wrote}
use Rattle.ser.specs.Walk.{Wrote}
use Rattle.ser.specs.Writable.{writable, writable_label}
use Rattle.ser.proofs.Laws.{numbers}

never : {A : Type 0} → true ≡ false → A
never e = let z : ◌≡◌ {A = ℕ} 0 1 = cc in absurd (omega arith)

module _ {w t : List ℕ} {i : ℕ} (r : Reads w t i) {h : Head} (q : h ≡ head_of (get_or w (4 * i) 0)) where
  abbrev label : Label
  label = label_at w t i

  abbrev names : List ℕ
  names = global_image (module_part (word_at w i 2) (drop (word_at w i 1) t)) (name_part (word_at w i 2) (drop (word_at w i 1) t))

  kind₀ : kind_in (word_at w i 0) ≡ h.kind
  kind₀ = rw (add-zero, q)

  pub known : h.kind < 13
  known = rw kind₀ at r.known

  -- ---- before the contents

  pub opens_names : 10 < h.kind → names ≡ opening label
  unfolding opening label_at label_of
  opens_names g =
      by_lt h.kind 12 (λ l. let e : h.kind ≡ 11 = omega arith in sym (rw (kind₀, e)))
      (λ l. let e : h.kind ≡ 12 = omega (arith, known) in sym (rw (kind₀, e)))

  -- whether they can be read back; no other label has any
  pub names-writable : 10 < h.kind → (writable (module_part (word_at w i 2) (drop (word_at w i 1) t)) && writable (name_part (word_at w i 2) (drop (word_at w i 1) t))) ≡ writable_label label
  unfolding writable_label label_at label_of
  names-writable g =
      by_lt h.kind 12 (λ l. let e : h.kind ≡ 11 = omega arith in sym (rw (kind₀, e)))
      (λ l. let e : h.kind ≡ 12 = omega (arith, known) in sym (rw (kind₀, e)))

  pub no_names : h.kind ≤ 10 → true ≡ writable_label label
  unfolding writable_label label_at label_of EachBelow
  no_names g =
      let a = word_at w i 0 in
      let b = word_at w i 1 in
      let c = word_at w i 2 in
      rw kind₀ (each_below 11 (λ k. true ≡ writable_label (get_or (labels_of a b c (drop b t)) k NoneL)) (refl, (refl, (refl, (refl, (refl, (refl, (refl, (refl, (refl, (refl, (refl, tt))))))))))) h.kind (omega arith))

  pub opens_list : h.kind ≡ 6 → 0x5D ∷ [] ≡ opening label
  unfolding opening label_at label_of numbers
  opens_list e = sym (rw (kind₀, e))

  pub opens_tuple : h.kind ≡ 7 → [] ≡ opening label
  unfolding opening label_at label_of
  opens_tuple e = sym (rw (kind₀, e))

  pub opens_set : h.kind ≡ 8 → set_opening set ≡ opening label
  unfolding opening label_at label_of
  opens_set e = sym (rw (kind₀, e))

  pub opens_frozenset : h.kind ≡ 9 → set_opening frozenset ≡ opening label
  unfolding opening label_at label_of
  opens_frozenset e = sym (rw (kind₀, e))

  pub opens_dict : h.kind ≡ 10 → 0x7D ∷ [] ≡ opening label
  unfolding opening label_at label_of numbers
  opens_dict e = sym (rw (kind₀, e))

  pub opens_none : h.kind ≡ 0 → 0x4E ∷ [] ≡ opening label
  unfolding opening label_at label_of numbers
  opens_none e = sym (rw (kind₀, e))

  pub opens_bool : h.kind ≡ 1 → bool_image (eqb (word_at w i 1) 1) ≡ opening label
  unfolding opening label_at label_of
  opens_bool e = sym (rw (kind₀, e))

  pub opens_int : h.kind ≡ 2 → int_image (word_at w i 1) ≡ opening label
  unfolding opening label_at label_of
  opens_int e = sym (rw (kind₀, e))

  pub opens_float : h.kind ≡ 3 → float_image (word_at w i 1) ≡ opening label
  unfolding opening label_at label_of
  opens_float e = sym (rw (kind₀, e))

  module _ (s : List ℕ) (p : s ≡ take (word_at w i 2) (drop (word_at w i 1) t)) where
    pub opens_bytes : h.kind ≡ 4 → bytes_image s ≡ opening label
    unfolding opening label_at label_of
    opens_bytes e = rw p (sym (rw (kind₀, e)))

    pub opens_string : h.kind ≡ 5 → string_image s ≡ opening label
    unfolding opening label_at label_of
    opens_string e = rw p (sym (rw (kind₀, e)))

  -- ---- the contents

  none_made : (k : ℕ) → k < 13 → holding k ≡ false → contents (get_or (labels_of (word_at w i 0) (word_at w i 1) (word_at w i 2) (drop (word_at w i 1) t)) k NoneL) [] ≡ []
  unfolding contents EachBelow
  none_made =
      each_below 13 (λ k. holding k ≡ false → contents (get_or (labels_of (word_at w i 0) (word_at w i 1) (word_at w i 2) (drop (word_at w i 1) t)) k NoneL) [] ≡ [])
      ((λ e. refl), ((λ e. refl), ((λ e. refl), ((λ e. refl), ((λ e. refl), ((λ e. refl), ((λ e. never e), ((λ e. never e), ((λ e. never e), ((λ e. never e), ((λ e. never e), ((λ e. refl), ((λ e. never e), tt)))))))))))))

  -- a record with nothing in it is written with its opening
  pub leaf_wrote : {at p : ℕ} {o o₁ : List ℕ} → holding h.kind ≡ false → Put o at (opening label) o₁ p → Wrote joined w t i 1 o at o₁ (i + 1) p
  unfolding label_at label_of arity_at
  leaf_wrote e x =
      let f : holding (kind_in (word_at w i 0)) ≡ false = rw kind₀ e in
      value_wrote x (wrote_none (omega (arith, nothing_held (word_at w i 0) (word_at w i 1) f)) (none_made (kind_in (word_at w i 0)) r.known f))

  pub object_arity : h.kind ≡ 12 → arity_at w i ≡ suc (bit h.state)
  unfolding arity_at arity_of
  object_arity e = let s : state_in (word_at w i 0) ≡ h.state = rw (add-zero, q) in rw (kind₀, e, s)

  module _ {n : ℕ} where
    pub makes_object : h.kind ≡ 12 → Same n (contents label) (object_image h.new)
    unfolding contents label_at label_of
    makes_object e = let b : fresh_in (word_at w i 0) ≡ h.new = rw (add-zero, q) in record { same = λ s l. rw (kind₀, e, b) }

    pub makes_list : h.kind ≡ 6 → Same n (contents label) items_image
    unfolding contents label_at label_of
    makes_list e = record { same = λ s l. rw (kind₀, e) }

    pub makes_tuple : h.kind ≡ 7 → Same n (contents label) tuple_image
    unfolding contents label_at label_of
    makes_tuple e = record { same = λ s l. rw (kind₀, e) }

    pub makes_dict : h.kind ≡ 10 → Same n (contents label) (batches true)
    unfolding contents label_at label_of
    makes_dict e = record { same = λ s l. rw (kind₀, e) }

    pub makes_set : holding h.kind ≡ true → h.kind ≢ 12 → h.kind ≢ 6 → h.kind ≢ 7 → h.kind ≢ 10 → Same n (contents label) (followed_by items_image ((0x85 ∷ []) ++ (0x52 ∷ [])))
    unfolding contents label_at label_of followed_by numbers
    makes_set e object list tuple dict =
        let l = ltb→lt 5 h.kind (and_l (ltb 5 h.kind) (not (eqb h.kind 11)) (rw e tt)) in
        let global : h.kind ≢ 11 = λ f. never (sym (rw f at e)) in
        by_lt h.kind 9 (λ m. let f : h.kind ≡ 8 = omega arith in record { same = λ s u. rw (kind₀, f) })
        (λ m. let f : h.kind ≡ 9 = omega (arith, known) in record { same = λ s u. rw (kind₀, f) })
