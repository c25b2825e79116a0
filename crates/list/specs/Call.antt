-- The list call: 21, then 22 exactly where the listing is longer than the lent output; else the listing, and its length.
use Rattle.std.specs.Prelude.{ℕ, ◌^◌, ◌≤◌, ◌<◌, Bool, true, false, cond, List, ◌++◌, ◌⊎◌, ◌≡◌, refl, leb, length, take, drop}
use Rattle.std.proofs.Common.{inl, inr, sym, ◌∙◌, ap, arith}
use Rattle.std.proofs.Math.Seq.{take-append_seam}
use Rattle.refusal.specs.declared.Answer.{Answer}
use Rattle.refusal.specs.declared.Refusal.TheVariants.{BadTable, OutputFull}
use Rattle.refusal.specs.declared.Which.TheVariants.{First}
use Rattle.refusal.specs.Numbers.{refused_answer}
use Rattle.input.specs.Bytes.{Bytes}
use Rattle.value.specs.Value.{Value, Forest, one}
use Rattle.value.specs.WellFormed.{WellFormed}
use Rattle.table.specs.Compare.{decided, formed_stands}
use Rattle.table.specs.CompareLaws.{Identical}
use Rattle.table.specs.Call.{told, done, answered, answered_full, Call, call_one, call_good}
use Rattle.output.specs.Whole.{whole_one, put_answered}
use Rattle.list.specs.Listing.{listing, listing-short}
use Rattle.value.specs.Shape.{Words}
use Rattle.list.specs.One.{listing_one}
use Rattle.list.specs.Walk.{ReadyToList, PutsListing, Countable, CountsListing}

-- the listing of a value
unfoldable pub listed : Value → List ℕ
listed v = listing 0 (one v)

abbrev pub ListCall : List ℕ → ℕ → List ℕ → List ℕ → List ℕ → Answer → Type 0
ListCall w n t o o' r = Call (λ v. answered (listed v)) w n t o o' r

-- the answer and the output are determined
pub list_one : (w : List ℕ) (n : ℕ) (t o p q : List ℕ) (r s : Answer) → ListCall w n t o p r → ListCall w n t o q s → (r ≡ s) × (p ≡ q)
list_one w n t o p q r s x y = call_one x y

-- ---- one listing, one value

-- a call that succeeds was given a value, and wrote its listing
record ListedRight (w : List ℕ) (n : ℕ) (t o : List ℕ) (r : Answer) : Type 0 where
  pub formed : WellFormed w n t
  pub bytes : take r.length o ≡ listed formed.value

succeeded : (w : List ℕ) (n : ℕ) (t o p : List ℕ) (r : Answer) → ListCall w n t o p r → r.number ≡ 0 → ListedRight w n t p r
unfolding answered
succeeded w n t o p r x s = go (decided w n t)
  where
    put : (f : WellFormed w n t) (b : List ℕ) → b ≡ listed f.value → (c : Bool) → told r p ≡ cond c (told (done (length b)) (b ++ drop (length b) o)) (told (refused_answer OutputFull) o) → ListedRight w n t p r
    put f b l true e =
        let a : r ≡ done (length b) = cc in
        let q : p ≡ b ++ drop (length b) o = cc in
        record { formed = f; bytes = rw (a, q) (take-append_seam b _) ∙ l }
    put f b l false e =
        let a : r ≡ refused_answer OutputFull = cc in
        let z : ◌≡◌ {A = ℕ} 22 0 = ap (λ (v : Answer). v.number) (sym a) ∙ s in
        absurd (omega arith)

    go : WellFormed w n t ⊎ (WellFormed w n t → ⊥) → ListedRight w n t p r
    go (inl f) = put f (listed f.value) refl (leb (length (listed f.value)) (length o)) (x.good f)
    go (inr h) =
        let e = x.bad h in
        let a : r ≡ refused_answer (BadTable First) = cc in
        let z : ◌≡◌ {A = ℕ} 21 0 = ap (λ (v : Answer). v.number) (sym a) ∙ s in
        absurd (omega arith)

-- Two calls that succeed with the same bytes were given the same value. Words and bytes are what the lent slices are of.
pub listed_one : (w : List ℕ) (n : ℕ) (t o p : List ℕ) (r : Answer) (w' : List ℕ) (n' : ℕ) (t' o' p' : List ℕ) (r' : Answer)
    → Words w → Bytes t → Words w' → Bytes t' → ListCall w n t o p r → ListCall w' n' t' o' p' r'
    → r.number ≡ 0 → r'.number ≡ 0 → take r.length p ≡ take r'.length p' → Identical w n t w' n' t'
unfolding listed
listed_one w n t o p r w' n' t' o' p' r' W B W' B' x y s s' e =
    let a = succeeded w n t o p r x s in
    let b = succeeded w' n' t' o' p' r' y s' in
    (listing_one w n t w' n' t' a.formed b.formed W B W' B' (sym a.bytes ∙ e ∙ b.bytes)).1

-- ---- the call measures, then writes

module _ (w : List ℕ) (n : ℕ) (t : List ℕ) where
  module _ (f : WellFormed w n t) where
    abbrev all : Forest
    all = one f.value

    listed_few : length (listing 0 all) < 2 ^ 64
    listed_few = omega (arith, listing-short 0 all, f.counted, f.few, f.short, ap length f.texts)

    pub ready_all : (o : List ℕ) → length (listing 0 all) ≤ length o → ReadyToList w t 0 1 0 o 0
    ready_all o h =
        record {
          values = all;
          stands = formed_stands w n t f;
          counted = whole_one w n t f;
          few = omega (arith, f.counted, f.lent);
          shallow = omega (arith, f.shallow);
          room = record { fits = omega arith };
        }

    pub countable_all : Countable w t 0 1 0 0
    countable_all = record { out = listing 0 all; short = listed_few; ready = ready_all (listing 0 all) (omega arith) }

  module _ {i m : ℕ} (measured : CountsListing w t 0 1 0 0 i m) where
    measure : (f : WellFormed w n t) → m ≡ length (listing 0 (one f.value))
    measure f = omega (arith, (measured (one f.value) (formed_stands w n t f) (whole_one w n t f)).1)

    pub measured_ready : (o : List ℕ) → WellFormed w n t → m ≤ length o → ReadyToList w t 0 1 0 o 0
    measured_ready o f h = ready_all f o (omega (arith, measure f))

    -- the output is too short
    pub list_full : (o : List ℕ) (r : Answer) → WellFormed w n t → length o < m → r ≡ refused_answer OutputFull → ListCall w n t o o r
    unfolding listed
    list_full o r f h e = call_good (λ v. answered (listed v)) w n t o o r f (λ g. rw e (sym (answered_full (listing 0 (one g.value)) o (omega (arith, measure g)))))

    -- the listing goes to its front
    pub list_all : (o o' : List ℕ) (j p : ℕ) → WellFormed w n t → m ≤ length o → PutsListing w t 0 1 0 o 0 o' j p → ListCall w n t o o' (done p)
    unfolding listed
    list_all o o' j p f h x =
        call_good (λ v. answered (listed v)) w n t o o' (done p) f
        (λ g. put_answered (listing 0 (one g.value)) o o' p (omega (arith, measure g)) (x (one g.value) (formed_stands w n t g) (whole_one w n t g)).put)
