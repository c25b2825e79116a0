-- If each of some values returns, all of them do, side by side, and into a list or a dict, batch by batch.
use Rattle.std.specs.Prelude.{ℕ, suc, zero, ◌-◌, ◌%◌, ◌≤◌, min, Bool, true, false, cond, List, [], ◌∷◌, ◌++◌, ◌≡◌, refl, length, take, drop, eqb}
use Rattle.std.proofs.Common.{append_assoc, sym, ◌∙◌, ap, subst, arith, eqb-true}
use Rattle.op.specs.Table.{code_of}
use Rattle.op.specs.declared.Opcode.TheVariants.{MARK, APPEND, APPENDS, SETITEM, SETITEMS}
use Rattle.value.specs.Value.{Label, Forest, count, ListL, DictL, nil, node}
use Rattle.value.specs.Stands.{◌⊕◌}
use Rattle.value.specs.Walk.{first_values}
use Rattle.steps.specs.State.{State}
use Rattle.ser.specs.Image.{opening, contents, images, joined, list_batch, dict_batch, one_batch, batch_size, batches_up_to, batches, items_image}
use Rattle.ser.specs.Parts.{images-length, size-some}
use Rattle.outback.specs.WriteOut.{append_nothing}
use Rattle.outback.specs.Outcome.{LeadsTo, comes, leads_on, leads_weaken, OneMore, ManyMore, many-none, many_more}
use Rattle.outback.specs.Settled.{in_node, unsettled, unsettled-count}
use Rattle.outback.specs.Adding.{marked_of, mark_then, appends_on, setitems_on, append_on, setitem_on}

-- ---- one value, and all of them

-- a run over a value's image, from any state, has that value more on the stack, or meets an added refusal
unfoldable pub Returns : Label → Forest → Type 0
Returns l c = (s : State) (rest : List ℕ) → s.input ≡ (opening l ++ contents l (images c)) ++ rest → LeadsTo s (OneMore s rest l (in_node l (unsettled c)))

-- each of the values, by itself
unfoldable pub AllReturn : Forest → Type 0
AllReturn nil = Unit {0}
AllReturn (node l c r) = Returns l c × AllReturn r

pub many_back : (f : Forest) → AllReturn f → (s : State) (rest : List ℕ) → s.input ≡ joined (images f) ++ rest → LeadsTo s (ManyMore s rest (unsettled f))
unfolding AllReturn Returns images joined unsettled
many_back nil h s rest e = comes s refl (many-none s rest e)
many_back (node l c r) h s rest e =
    leads_on (h.0 s (joined (images r) ++ rest) (e ∙ append_assoc (opening l ++ contents l (images c)) (joined (images r)) rest))
    (λ t x. leads_weaken (λ u y. many_more x y) (many_back r h.1 t rest x.input))

-- ---- the first k values, and those behind them

unfoldable dropped : ℕ → Forest → Forest
dropped zero f = f
dropped (suc k) nil = nil
dropped (suc k) (node l c r) = dropped k r

first-images : (k : ℕ) (f : Forest) → images (first_values k f) ≡ take k (images f)
unfolding first_values images
first-images zero f = refl
first-images (suc k) nil = refl
first-images (suc k) (node l c r) = ap (λ (x : List (List ℕ)). (opening l ++ contents l (images c)) ∷ x) (first-images k r)

dropped-images : (k : ℕ) (f : Forest) → images (dropped k f) ≡ drop k (images f)
unfolding dropped images
dropped-images zero f = refl
dropped-images (suc k) nil = refl
dropped-images (suc k) (node l c r) = dropped-images k r

first_return : (k : ℕ) (f : Forest) → AllReturn f → AllReturn (first_values k f)
unfolding first_values AllReturn
first_return zero f h = tt
first_return (suc k) nil h = tt
first_return (suc k) (node l c r) h = (h.0, first_return k r h.1)

dropped_return : (k : ℕ) (f : Forest) → AllReturn f → AllReturn (dropped k f)
unfolding dropped AllReturn
dropped_return zero f h = h
dropped_return (suc k) nil h = tt
dropped_return (suc k) (node l c r) h = dropped_return k r h.1

first_count : (k : ℕ) (f : Forest) → count (first_values k f) ≡ min k (count f)
unfolding first_values count
first_count zero f = omega arith
first_count (suc k) nil = omega arith
first_count (suc k) (node l c r) = omega (arith, first_count k r)

dropped-count : (k : ℕ) (f : Forest) → count (dropped k f) ≡ count f - k
unfolding dropped count
dropped-count zero f = omega arith
dropped-count (suc k) nil = omega arith
dropped-count (suc k) (node l c r) = omega (arith, dropped-count k r)

cut_unsettled : (k : ℕ) (f : Forest) → unsettled (first_values k f) ⊕ unsettled (dropped k f) ≡ unsettled f
unfolding first_values dropped unsettled ◌⊕◌
cut_unsettled zero f = refl
cut_unsettled (suc k) nil = refl
cut_unsettled (suc k) (node l c r) = ap (node l (in_node l (unsettled c))) (cut_unsettled k r)

append_associates : (f g h : Forest) → (f ⊕ g) ⊕ h ≡ f ⊕ (g ⊕ h)
unfolding ◌⊕◌
append_associates nil g h = refl
append_associates (node l c r) g h = ap (node l c) (append_associates r g h)

-- ---- batches, of a dict's entries or a list's items

-- what they go into, and that entries come in pairs
unfoldable pub holder : Bool → Label
holder true = DictL
holder false = ListL

unfoldable pub EvenIf : Bool → ℕ → Type 0
EvenIf true n = n % 2 ≡ 0
EvenIf false n = Unit {0}

paired_cut : (e : Bool) (n : ℕ) → EvenIf e n → EvenIf e (min (batch_size e) n) × EvenIf e (n - batch_size e)
unfolding EvenIf batch_size
paired_cut true n h = (omega arith, omega arith)
paired_cut false n h = (tt, tt)

batch_back : (e : Bool) (f : Forest) → AllReturn f → EvenIf e (count f) → {s t : State} {c : Forest} (rest : List ℕ) → OneMore s (one_batch e (images f) ++ rest) (holder e) c t → LeadsTo t (OneMore s rest (holder e) (c ⊕ unsettled f))
unfolding holder EvenIf one_batch list_batch dict_batch
batch_back false f h p {s} {t} {c} rest x =
    let r = joined (images f) ++ (code_of APPENDS ∷ rest) in
    mark_then t r (x.input ∙ ap (λ (y : List ℕ). code_of MARK ∷ y) (append_assoc (joined (images f)) (code_of APPENDS ∷ []) rest))
    (leads_on (many_back f h (marked_of t r) (code_of APPENDS ∷ rest) refl) (λ u y. appends_on r x y))
batch_back true f h p {s} {t} {c} rest x = go (eqb (length (images f)) 2) refl x.input
  where
    go : (b : Bool) → eqb (length (images f)) 2 ≡ b
        → t.input ≡ cond b (joined (images f) ++ (code_of SETITEM ∷ [])) (code_of MARK ∷ (joined (images f) ++ (code_of SETITEMS ∷ []))) ++ rest
        → LeadsTo t (OneMore s rest DictL (c ⊕ unsettled f))
    go true q e =
        let z : count (unsettled f) ≡ 2 = unsettled-count f ∙ sym (images-length f) ∙ eqb-true (length (images f)) 2 q in
        leads_on (many_back f h t (code_of SETITEM ∷ rest) (e ∙ append_assoc (joined (images f)) (code_of SETITEM ∷ []) rest)) (λ u y. setitem_on x z y)
    go false q e =
        let r = joined (images f) ++ (code_of SETITEMS ∷ rest) in
        let z : count (unsettled f) % 2 ≡ 0 = rw (unsettled-count f) p in
        mark_then t r (e ∙ ap (λ (y : List ℕ). code_of MARK ∷ y) (append_assoc (joined (images f)) (code_of SETITEMS ∷ []) rest))
        (leads_on (many_back f h (marked_of t r) (code_of SETITEMS ∷ rest) refl) (λ u y. setitems_on r x z y))

none-added : {s t : State} {l : Label} {c : Forest} (rest : List ℕ) → OneMore s rest l c t → LeadsTo t (OneMore s rest l (c ⊕ nil))
none-added {s} {t} {l} {c} rest x = comes t refl (rw (append_nothing c) x)

up_to_back : (k : ℕ) (e : Bool) (f : Forest) → count f ≤ k → AllReturn f → EvenIf e (count f) → {s t : State} {c : Forest} (rest : List ℕ)
    → OneMore s (batches_up_to k e (images f) ++ rest) (holder e) c t → LeadsTo t (OneMore s rest (holder e) (c ⊕ unsettled f))
unfolding batches_up_to images unsettled count
up_to_back zero e nil l h p rest x = none-added rest x
up_to_back zero e (node m d r) l h p rest x = absurd (let z : suc (count r) ≤ 0 = l in omega arith)
up_to_back (suc k) e nil l h p rest x = none-added rest x
up_to_back (suc k) e (node m d r) l h p {s} {t} {c} rest x =
    let f = node m d r in
    let n = batch_size e in
    let more = batches_up_to k e (drop n (images f)) ++ rest in
    let y : OneMore s (one_batch e (images (first_values n f)) ++ more) (holder e) c t = rw (first-images n f, ← append_assoc (one_batch e (take n (images f))) (batches_up_to k e (drop n (images f))) rest) x in
    let z = paired_cut e (count f) p in
    let w : (c ⊕ unsettled (first_values n f)) ⊕ unsettled (dropped n f) ≡ c ⊕ unsettled f = append_associates c (unsettled (first_values n f)) (unsettled (dropped n f)) ∙ ap (λ (x : Forest). c ⊕ x) (cut_unsettled n f) in
    leads_on (batch_back e (first_values n f) (first_return n f h) (rw (first_count n f) z.0) more y)
    (λ u v.
    subst (λ (g : Forest). LeadsTo u (OneMore s rest (holder e) g)) w
    (up_to_back k e (dropped n f) (omega (arith, dropped-count n f, size-some e)) (dropped_return n f h) (rw (dropped-count n f) z.1) rest (rw (dropped-images n f) v)))

pub batches_back : (e : Bool) (f : Forest) → AllReturn f → EvenIf e (count f) → {s t : State} {c : Forest} (rest : List ℕ) → OneMore s (batches e (images f) ++ rest) (holder e) c t → LeadsTo t (OneMore s rest (holder e) (c ⊕ unsettled f))
unfolding batches
batches_back e f h p rest x = up_to_back (length (images f)) e f (omega (arith, images-length f)) h p rest x

-- a list's items, one alone with APPEND
pub appends_back : (f : Forest) → AllReturn f → {s t : State} (rest : List ℕ) → OneMore s (items_image (images f) ++ rest) ListL nil t → LeadsTo t (OneMore s rest ListL (unsettled f))
unfolding items_image images unsettled holder EvenIf ◌⊕◌ count
appends_back nil h {s} {t} rest x = comes t refl x
appends_back (node l c nil) h {s} {t} rest x =
    leads_on (many_back (node l c nil) h t (code_of APPEND ∷ rest) (x.input ∙ append_assoc (joined (images (node l c nil))) (code_of APPEND ∷ []) rest)) (λ u y. append_on x refl y)
appends_back (node l c (node m d r)) h rest x = batches_back false (node l c (node m d r)) h tt rest x
