-- What the opcodes that read only the pickle come to: a line's literal, so many bytes, or a length and so many bytes.
use Rattle.std.specs.Prelude.{ℕ, suc, zero, ◌+◌, ◌-◌, ◌*◌, ◌^◌, ◌<◌, ◌≤◌, Bool, cond, ◌||◌, ◌≡◌, length, get_or, take, drop, eqb, leb, Result, Ok, Err}
use Rattle.std.proofs.Math.Bool.{true, false}
use mathlib.Core.List.{List, [], ◌∷◌}
use Rattle.std.proofs.Math.Path.{refl, sym, ap}
use Rattle.std.proofs.Common.{◌∙◌, length-take, take-take, get_or-take, get_or-drop}
use native.Mathlib.Omega.{arith}
use mir.Val.{bool_byte}
use Rattle.refusal.specs.Read.{Read, got, refused}
use Rattle.refusal.specs.declared.Refusal.{Refusal}
use Rattle.refusal.specs.declared.Refusal.TheVariants.{EndOfInput}
use Rattle.input.specs.Line.{first_from, newline_of, line_of, less_cr, newline_first}
use Rattle.input.specs.Bytes.{low_first, last_byte}
use Rattle.input.specs.Long.{long_of}
use Rattle.number.specs.Number.{turned}
use Rattle.utf8.specs.Utf8.{repair}
use Rattle.text.specs.Pieces.{bytes_of}
use Rattle.text.specs.Text.{unescape_string, unescape_unicode}
use Rattle.value.specs.Value.{Label, BoolL, I64L, F64L, BytesL, StringL, GlobalL}
use Rattle.value.specs.Shape.{kind_in}
use Rattle.store.specs.declared.Effect.{Effect}
use Rattle.store.specs.declared.Effect.TheVariants.{Push, Go}
use Rattle.steps.specs.State.{State, Res, ok, no, ◌>>=◌, leaf, kidless, bytes, line, push}
use Rattle.steps.specs.Opcodes.{low_bytes, long_n}
use Rattle.steps.specs.Run.{going}
use Rattle.store.specs.declared.Counts.{Counts}
use Rattle.store.specs.Rooms.{Rooms, state_of, at_to}
use Rattle.steps.specs.NodeWords.{module_of, name_of, node_is, HoldsLinks, a_list, a_tuple, a_dict, within_at, node_kind, kind-made, rest-made}
use Rattle.store.specs.RoomKeeps.{class_none}
use Rattle.store.specs.Effects.{Firm, Sound, IsStep, Fits, SomeRooms, Decides, enacted, says_refused}
use Rattle.decoder.specs.Reads.{cut_to, firm_cut, bytes-short, bytes_got, line-none, line_got}

-- ---- what the parts of the code answer

-- a length of n bytes, and so many bytes
unfoldable pub prefixed : ℕ → State → Res (List ℕ × State)
prefixed n s = do
  (z, s₁) ← low_bytes n s
  bytes z s₁

-- a part of the pickle is what m reads
unfoldable pub Is : Result (ℕ × ℕ) Refusal → Rooms → Counts → Res (List ℕ × State) → Type 0
Is (Err why) r c m = m ≡ no why
Is (Ok part) r c m = m ≡ ok (take part.1 (drop part.0 r.pickle), state_of r (at_to c (part.0 + part.1)))

-- it stands at or behind a place, inside the pickle
unfoldable pub Behind : ℕ → List ℕ → Result (ℕ × ℕ) Refusal → Type 0
Behind at p (Err why) = Unit
Behind at p (Ok part) = (at ≤ part.0) × (part.0 + part.1 ≤ length p)

-- in all rooms with the pickle p and with all counts at this place, t is what `reads` reads
pub record ReadsPart (at : ℕ) (p : List ℕ) (reads : State → Res (List ℕ × State)) (t : Result (ℕ × ℕ) Refusal) : Type 0 where
  pub behind : Behind at p t
  pub is : (c : Counts) → c.at ≡ at → (r : Rooms) → Sound r c → r.pickle ≡ p → Is t r c (reads (state_of r c))

-- the integer of a part whose length is told in n bytes
unfoldable pub long_read : ℕ → State → Res (ℕ × State)
long_read n s = do
  (b, s₁) ← prefixed n s
  v ← leaf (long_of b)
  ok (v, s₁)

-- what the code says of it: why there is none, or the place behind it and the integer
unfoldable pub IsLong : Result (ℕ × ℕ) Refusal → Rooms → Counts → Res (ℕ × State) → Type 0
IsLong (Err why) r c m = m ≡ no why
IsLong (Ok x) r c m = m ≡ ok (x.1, state_of r (at_to c x.0))

-- that place is behind this one, inside the pickle
unfoldable pub EndsBehind : ℕ → List ℕ → Result (ℕ × ℕ) Refusal → Type 0
EndsBehind at p (Err why) = Unit
EndsBehind at p (Ok x) = (at ≤ x.0) × (x.0 ≤ length p)

-- in all rooms with the pickle p and with all counts at this place, x is what `long_read` gives
pub record ReadsLong (n at : ℕ) (p : List ℕ) (x : Result (ℕ × ℕ) Refusal) : Type 0 where
  pub behind : EndsBehind at p x
  pub is : (c : Counts) → c.at ≡ at → (r : Rooms) → Sound r c → r.pickle ≡ p → IsLong x r c (long_read n (state_of r c))

-- ---- what they are put together to

-- a line's literal
abbrev pub literal : {A : Type 0} → (List ℕ → Read A) → (A → Label) → State → Res State
literal read label s = line s >>= λ q. leaf (read q.0) >>= λ v. push (label v) q.1

-- n bytes
abbrev pub fixed : ℕ → (List ℕ → Label) → State → Res State
fixed n label s = bytes n s >>= λ q. push (label q.0) q.1

-- a length of n bytes, and of so many bytes a value
abbrev pub texted : ℕ → (List ℕ → Label) → State → Res State
texted n label s = low_bytes n s >>= λ q. bytes q.0 q.1 >>= λ b. push (label b.0) b.1

-- n bytes as an integer, low byte first
abbrev pub unsigned : ℕ → State → Res State
unsigned n s = low_bytes n s >>= λ q. push (I64L q.0) q.1

-- the kinds of values and Globals
unfoldable pub leafy : ℕ → Bool
leafy j = leb j 5 || (eqb j 11 || (eqb j 13 || eqb j 14))

-- the words k and b are those of a value or a Global
pub record Makes (p : List ℕ) (k b : ℕ) (l : Label) : Type 0 where
  pub kind : leafy (kind_in k) ≡ true
  pub node : (ws : List ℕ) → node_is p ws [] k b ≡ kidless l

wrong : (j m : ℕ) → leafy j ≡ true → leafy m ≡ false → j ≡ m → ⊥
wrong j m t f e = let z : ◌≡◌ {A = ℕ} 0 1 = cc in omega arith

no_links : (k : ℕ) → leafy (kind_in k) ≡ true → HoldsLinks k → ⊥
unfolding leafy
no_links k t (a_list e) = wrong (kind_in k) 6 t refl e
no_links k t (a_tuple e) = wrong (kind_in k) 7 t refl e
no_links k t (a_dict e) = wrong (kind_in k) 10 t refl e

module _ (r : Rooms) (c : Counts) (s : Sound r c) where
  pub refused_going : (why : Refusal) (m : Res State) → m ≡ no why → IsStep (Err why) r c (going m)
  unfolding going
  refused_going why m e = says_refused why r c (going m) (rw e)

  pub firm_read : (a : ℕ) → c.at ≤ a → a ≤ length r.pickle → Firm r (cut_to c a c.stack c.marks)
  firm_read a h k = firm_cut r c a c.stack c.marks s.firm h k (omega arith) (omega arith)

  pub says_go : (a : ℕ) (m : Res State) → m ≡ ok (state_of r (at_to c a)) → c.at ≤ a → a ≤ length r.pickle → IsStep (Ok (Go (cut_to c a c.stack c.marks))) r c (going m)
  unfolding enacted Fits going
  says_go a m e h k = record { enacts = rw e; fits = firm_read a h k }

  pub says-push : (a k b : ℕ) (l : Label) (m : Res State) → m ≡ push l (state_of r (at_to c a)) → Makes r.pickle k b l → c.at ≤ a → a ≤ length r.pickle → IsStep (Ok (Push (cut_to c a c.stack c.marks) k b)) r c (going m)
  unfolding enacted Fits leafy push
  says-push a k b l m e n h i = record {
    enacts = rw (e, n.node r.nodes);
    fits = (firm_read a h i, class_none r.nodes c.nodes k (wrong (kind_in k) 12 n.kind refl), λ x. absurd (no_links k n.kind x));
  }

-- ---- what the code knows of the pickle

-- the line at `at` ends at i
pub record LineAt (p : List ℕ) (at i : ℕ) : Type 0 where
  pub found : newline_of p at ≡ got i
  pub low : at ≤ i
  pub inside : i < length p
  pub size : length p ≤ 65536

-- m bytes at a, behind a length of n bytes at `at`
pub record TextAt (p : List ℕ) (n at a m : ℕ) : Type 0 where
  pub reads : ReadsPart at p (prefixed n) (Ok (a, m))
  pub inside : a + m ≤ length p
  pub size : length p ≤ 65536

-- the line at `at` is l, and b is the place behind its newline
pub record LineTo (p : List ℕ) (at : ℕ) (l : List ℕ) (b : ℕ) : Type 0 where
  pub end : ℕ
  pub found : newline_of p at ≡ got end
  pub line : l ≡ line_of p at end
  pub behind : b ≡ end + 1

-- there is none, and so the input ended
pub record NoLine (p : List ℕ) (at : ℕ) (why : Refusal) : Type 0 where
  pub none : newline_of p at ≡ refused EndOfInput 0
  pub is : why ≡ EndOfInput

first_refused : (l : List ℕ) (k : ℕ) {why : Refusal} → first_from l k ≡ refused why 0 → why ≡ EndOfInput
unfolding first_from
first_refused [] k e = cc
first_refused (b ∷ t) k {why} e = go (eqb b 10) e (first_refused t (suc k))
  where
    go : (x : Bool) → cond x (got k) (first_from t (suc k)) ≡ refused why 0 → (first_from t (suc k) ≡ refused why 0 → why ≡ EndOfInput) → why ≡ EndOfInput
    go true e f = let z : ◌≡◌ {A = ℕ} 0 1 = cc in absurd (omega arith)
    go false e f = f e

pub no_line : (p : List ℕ) (at : ℕ) {why : Refusal} → newline_of p at ≡ refused why 0 → NoLine p at why
unfolding newline_of
no_line p at e = let w = first_refused (drop at p) at e in record { none = rw w at e; is = w }

-- where it ends in the lent pickle
pub line_found : {p : List ℕ} {at b : ℕ} {l : List ℕ} {c : Counts} → (t : LineTo p at l b) → SomeRooms c (λ r. r.pickle ≡ p) → LineAt p at t.end
line_found {p = p} {at = at} t s =
    let f = newline_first p at t.end t.found in
    record { found = t.found; low = f.low; inside = f.inside; size = rw s.agrees at s.sound.firm.lengths.pickle }

-- the counts behind it
pub counts_behind : {p : List ℕ} {at b : ℕ} {l : List ℕ} (c : Counts) → (t : LineTo p at l b) → cut_to c b c.stack c.marks ≡ cut_to c (t.end + 1) c.stack c.marks
counts_behind c t = ap (λ (a : ℕ). cut_to c a c.stack c.marks) t.behind

-- ---- a step in all rooms that have the pickle

pub same_step : (c : Counts) (P : Rooms → Type 0) (f g : State → Res State) (e : Result Effect Refusal) → ((s : State) → f s ≡ g s) → Decides c P (λ s. going (g s)) e → Decides c P (λ s. going (f s)) e
unfolding Decides
same_step c P f g e h d r s q = rw (h (state_of r c)) (d r s q)

-- what follows of a reading that was refused, or not
pub leaf_bad : {A : Type 0} (label : A → Label) (x : Read A) (why : Refusal) (j : ℕ) (s : State) → turned label x ≡ refused why j → (leaf x >>= λ v. push (label v) s) ≡ no why
unfolding turned leaf ◌>>=◌
leaf_bad label (got a) why j s e = let z : ◌≡◌ {A = ℕ} 0 1 = cc in absurd (omega arith)
leaf_bad label (refused w k) why j s e = let z : w ≡ why = cc in ap no z

pub leaf_got : {A : Type 0} (label : A → Label) (x : Read A) (l : Label) (s : State) → turned label x ≡ got l → (leaf x >>= λ v. push (label v) s) ≡ push l s
unfolding turned leaf ◌>>=◌
leaf_got label (got a) l s e = let z : label a ≡ l = cc in rw z
leaf_got label (refused w k) l s e = let z : ◌≡◌ {A = ℕ} 0 1 = cc in absurd (omega arith)

module _ (c : Counts) (p : List ℕ) where
  pub lent_at : SomeRooms c (λ r. r.pickle ≡ p) → c.at ≤ length p
  lent_at l = rw l.agrees at l.sound.firm.at

  pub lent_size : SomeRooms c (λ r. r.pickle ≡ p) → length p ≤ 65536
  lent_size l = rw l.agrees at l.sound.firm.lengths.pickle

  -- a step whose first part is refused
  pub refused_step : {A : Type 0} (m : State → Res A) (f : A → Res State) (why : Refusal) → ((r : Rooms) → Sound r c → r.pickle ≡ p → m (state_of r c) ≡ no why) → Decides c (λ r. r.pickle ≡ p) (λ s. going (m s >>= f)) (Err why)
  unfolding Decides ◌>>=◌
  refused_step m f why h r s q = refused_going r c s why (m (state_of r c) >>= f) (rw (h r s q))

  -- a step that reads to a, and has a node of no children
  pub pushed_step : (m : State → Res State) (a k b : ℕ) (l : Label) (c₁ : Counts) → ((r : Rooms) → Sound r c → r.pickle ≡ p → m (state_of r c) ≡ push l (state_of r (at_to c a)))
      → Makes p k b l → c.at ≤ a → a ≤ length p → c₁ ≡ cut_to c a c.stack c.marks → Decides c (λ r. r.pickle ≡ p) (λ s. going (m s)) (Ok (Push c₁ k b))
  unfolding Decides
  pushed_step m a k b l c₁ h n i j d r s q = rw d (says-push r c s a k b l (m (state_of r c)) (h r s q) (rw q n) i (rw q j))

  -- ---- lines

  pub ended : newline_of p c.at ≡ refused EndOfInput 0 → (r : Rooms) → Sound r c → r.pickle ≡ p → line (state_of r c) ≡ no EndOfInput
  ended e r s q = line-none r c (rw q e)

  pub lined : (i : ℕ) → newline_of p c.at ≡ got i → (r : Rooms) → Sound r c → r.pickle ≡ p → line (state_of r c) ≡ ok (line_of p c.at i, state_of r (at_to c (i + 1)))
  lined i e r s q = rw (line_got r c i (rw q e), q)

  module _ {A : Type 0} (read : List ℕ → Read A) (label : A → Label) where
    pub line_ends : {why : Refusal} → NoLine p c.at why → Decides c (λ r. r.pickle ≡ p) (λ s. going (literal read label s)) (Err why)
    line_ends e = rw e.is (refused_step line (λ q. leaf (read q.0) >>= λ v. push (label v) q.1) EndOfInput (ended e.none))

    -- l is the line to the newline at i
    module _ {i : ℕ} (e : LineAt p c.at i) {l : List ℕ} (d : l ≡ line_of p c.at i) where
      pub line_bad : {why : Refusal} {j : ℕ} → turned label (read l) ≡ refused why j → Decides c (λ r. r.pickle ≡ p) (λ s. going (literal read label s)) (Err why)
      unfolding Decides ◌>>=◌
      line_bad {why = why} {j = j} f r s q =
          refused_going r c s why (literal read label (state_of r c)) (rw (lined i e.found r s q, ← d) (leaf_bad label (read l) why j (state_of r (at_to c (i + 1))) f))

      pub line-push : {k b : ℕ} {n : Label} {c₁ : Counts} → turned label (read l) ≡ got n → Makes p k b n → c₁ ≡ cut_to c (i + 1) c.stack c.marks
          → Decides c (λ r. r.pickle ≡ p) (λ s. going (literal read label s)) (Ok (Push c₁ k b))
      unfolding ◌>>=◌
      line-push {k = k} {b = b} {n = n} {c₁ = c₁} f m =
          pushed_step (literal read label) (i + 1) k b n c₁ (λ r s q. rw (lined i e.found r s q, ← d) (leaf_got label (read l) n (state_of r (at_to c (i + 1))) f)) m (omega arith) (omega arith)

  -- ---- so many bytes

  pub short : (n : ℕ) → length p - c.at < n → (r : Rooms) → Sound r c → r.pickle ≡ p → bytes n (state_of r c) ≡ no EndOfInput
  short n h r s q = bytes-short r c n s.firm.at (rw q h)

  pub enough : (n : ℕ) → n ≤ length p - c.at → (r : Rooms) → Sound r c → r.pickle ≡ p → bytes n (state_of r c) ≡ ok (take n (drop c.at p), state_of r (at_to c (c.at + n)))
  enough n h r s q = rw (bytes_got r c n s.firm.at (rw q h), q)

  module _ (n : ℕ) (label : List ℕ → Label) where
    pub bytes_end : length p - c.at < n → Decides c (λ r. r.pickle ≡ p) (λ s. going (fixed n label s)) (Err EndOfInput)
    bytes_end h = refused_step (bytes n) (λ q. push (label q.0) q.1) EndOfInput (short n h)

    pub bytes-push : (k b : ℕ) (c₁ : Counts) → c.at ≤ length p → n ≤ length p - c.at → Makes p k b (label (take n (drop c.at p))) → c₁ ≡ cut_to c (c.at + n) c.stack c.marks
        → Decides c (λ r. r.pickle ≡ p) (λ s. going (fixed n label s)) (Ok (Push c₁ k b))
    unfolding ◌>>=◌
    bytes-push k b c₁ i h m = pushed_step (fixed n label) (c.at + n) k b (label (take n (drop c.at p))) c₁ (λ r s q. rw (enough n h r s q)) m (omega arith) (omega arith)

-- ---- a part

bind_assoc : {A B D : Type 0} (m : Res A) (f : A → Res B) (g : B → Res D) → (m >>= f >>= g) ≡ (m >>= λ a. f a >>= g)
unfolding ◌>>=◌
bind_assoc (ok a) f g = refl
bind_assoc (no why) f g = refl

-- a number of n bytes is what n bytes say
pub low_is : {A : Type 0} (n : ℕ) (s : State) (f : ℕ × State → Res A) → (low_bytes n s >>= f) ≡ (bytes n s >>= λ q. f (low_first q.0, q.1))
unfolding low_bytes ◌>>=◌
low_is n s f = bind_assoc (bytes n s) (λ q. ok (low_first q.0, q.1)) f

pub prefixed_is : {A : Type 0} (n : ℕ) (s : State) (f : List ℕ × State → Res A) → (low_bytes n s >>= λ q. bytes q.0 q.1 >>= f) ≡ (prefixed n s >>= f)
unfolding prefixed
prefixed_is n s f = sym (bind_assoc (low_bytes n s) (λ q. bytes q.0 q.1) f)

module _ (p : List ℕ) (n : ℕ) where
  -- z is the number of the n bytes at the counts' place
  module _ (c : Counts) (z : ℕ) (h : n ≤ length p - c.at) (e : z ≡ low_first (take n (drop c.at p))) where
    behind-length : (r : Rooms) → Sound r c → r.pickle ≡ p → prefixed n (state_of r c) ≡ bytes z (state_of r (at_to c (c.at + n)))
    unfolding prefixed ◌>>=◌
    behind-length r s q = low_is n (state_of r c) (λ x. bytes x.0 x.1) ∙ rw (enough c p n h r s q, e)

  -- likewise at any place
  module _ (at z : ℕ) (l : at ≤ length p) (h : n ≤ length p - at) (e : z ≡ low_first (take n (drop at p))) where
    pub prefixed-short : length p - at - n < z → ReadsPart at p (prefixed n) (Err EndOfInput)
    unfolding Behind Is
    prefixed-short k = record {
      behind = tt;
      is = λ c d r s q. behind-length c z (rw d h) (rw d e) r s q ∙ bytes-short r (at_to c (c.at + n)) z (rw (q, d) (omega arith)) (rw (q, d) (omega arith));
    }

    pub prefixed_got : z ≤ length p - at - n → ReadsPart at p (prefixed n) (Ok (at + n, z))
    unfolding Behind Is
    prefixed_got k = record {
      behind = (omega arith, omega arith);
      is = λ c d r s q. rw (← d) (behind-length c z (rw d h) (rw d e) r s q ∙ bytes_got r (at_to c (c.at + n)) z (rw (q, d) (omega arith)) (rw (q, d) (omega arith)));
    }

  pub none-prefixed : (at : ℕ) → length p - at < n → ReadsPart at p (prefixed n) (Err EndOfInput)
  unfolding Behind Is prefixed ◌>>=◌
  none-prefixed at h = record {
    behind = tt;
    is = λ c d r s q. low_is n (state_of r c) (λ x. bytes x.0 x.1) ∙ rw (short c p n (rw d h) r s q);
  }

-- t is the part behind a length of n bytes
module _ (p : List ℕ) (n at : ℕ) (t : Result (ℕ × ℕ) Refusal) (h : ReadsPart at p (prefixed n) t) where
  module _ (why : Refusal) (e : t ≡ Err why) where
    none_found : (c : Counts) → c.at ≡ at → (r : Rooms) → Sound r c → r.pickle ≡ p → prefixed n (state_of r c) ≡ no why
    unfolding Is
    none_found c d r s q = (rw e at h).is c d r s q

  module _ (a m : ℕ) (e : t ≡ Ok (a, m)) where
    found : (c : Counts) → c.at ≡ at → (r : Rooms) → Sound r c → r.pickle ≡ p → prefixed n (state_of r c) ≡ ok (take m (drop a p), state_of r (at_to c (a + m)))
    unfolding Is
    found c d r s q = (rw e at h).is c d r s q ∙ ap (λ (l : List ℕ). ok (take m (drop a l), state_of r (at_to c (a + m)))) q

    pub part_inside : (at ≤ a) × (a + m ≤ length p)
    unfolding Behind
    part_inside = (rw e at h).behind

-- a step that makes a value of the part: `label` of it
module _ (c : Counts) (p : List ℕ) (n : ℕ) where
  text_is : (label : List ℕ → Label) (s : State) → texted n label s ≡ (prefixed n s >>= λ q. push (label q.0) q.1)
  text_is label s = prefixed_is n s (λ q. push (label q.0) q.1)

  module _ {t : Result (ℕ × ℕ) Refusal} (h : ReadsPart c.at p (prefixed n) t) where
    pub text_ends : (label : List ℕ → Label) (why : Refusal) → t ≡ Err why → Decides c (λ r. r.pickle ≡ p) (λ s. going (texted n label s)) (Err why)
    text_ends label why e = same_step c (λ r. r.pickle ≡ p) (texted n label) (λ s. prefixed n s >>= λ q. push (label q.0) q.1) (Err why) (text_is label) (refused_step c p (prefixed n) (λ q. push (label q.0) q.1) why (none_found p n c.at t h why e c refl))

    pub text_found : {a m : ℕ} → SomeRooms c (λ r. r.pickle ≡ p) → t ≡ Ok (a, m) → TextAt p n c.at a m
    text_found {a = a} {m = m} l e = record { reads = rw e at h; inside = (part_inside p n c.at t h a m e).1; size = lent_size c p l }

  -- its words: the kind k, and its length and place
  pub text-push : {a m w k : ℕ} {c₁ : Counts} (label : List ℕ → Label) → ((a m : ℕ) → a < 2 ^ 32 → Makes p k (m * 2 ^ 32 + a) (label (take m (drop a p)))) → TextAt p n c.at a m → w ≡ m * 2 ^ 32 + a → c₁ ≡ cut_to c (a + m) c.stack c.marks
      → Decides c (λ r. r.pickle ≡ p) (λ s. going (texted n label s)) (Ok (Push c₁ k w))
  unfolding ◌>>=◌
  text-push {a = a} {m = m} {w = w} {k = k} {c₁ = c₁} label makes t e =
      let i = (part_inside p n c.at (Ok (a, m)) t.reads a m refl).0 in
      pushed_step c p (texted n label) (a + m) k w (label (take m (drop a p))) c₁ (λ r s q. text_is label (state_of r c) ∙ rw (found p n c.at (Ok (a, m)) t.reads a m refl c refl r s q)) (rw e (makes a m (omega arith))) (omega arith) t.inside

-- ---- the words of values and Globals

module _ (p : List ℕ) where
  pub makes_as : (k a b : ℕ) (l : Label) → a ≡ b → Makes p k b l → Makes p k a l
  makes_as k a b l e m = rw e m

  pub makes_bool : (b : Bool) → Makes p 1 (bool_byte b) (BoolL b)
  unfolding leafy kind_in node_is
  makes_bool true = record { kind = refl; node = λ ws. refl }
  makes_bool false = record { kind = refl; node = λ ws. refl }

  pub makes_i64 : (b : ℕ) → Makes p 2 b (I64L b)
  unfolding leafy kind_in node_is
  makes_i64 b = record { kind = refl; node = λ ws. refl }

  pub makes_f64 : (b : ℕ) → Makes p 3 b (F64L b)
  unfolding leafy kind_in node_is
  makes_f64 b = record { kind = refl; node = λ ws. refl }

  -- a text at `at`, of n bytes
  module _ (at n : ℕ) (h : at < 2 ^ 32) where
    pub makes_bytes : Makes p 4 (n * 2 ^ 32 + at) (BytesL (take n (drop at p)))
    unfolding leafy kind_in node_is
    makes_bytes = record { kind = refl; node = λ ws. ap (λ (t : List ℕ). kidless (BytesL t)) (within_at 32 at n p h) }

    pub makes_string : Makes p 5 (n * 2 ^ 32 + at) (StringL (repair (take n (drop at p))))
    unfolding leafy kind_in node_is
    makes_string = record { kind = refl; node = λ ws. ap (λ (t : List ℕ). kidless (StringL (repair t))) (within_at 32 at n p h) }

    pub makes_escaped : Makes p 13 (n * 2 ^ 32 + at) (BytesL (bytes_of (unescape_string (take n (drop at p)))))
    unfolding leafy kind_in node_is
    makes_escaped = record { kind = refl; node = λ ws. ap (λ (t : List ℕ). kidless (BytesL (bytes_of (unescape_string t)))) (within_at 32 at n p h) }

    pub makes_unicode : Makes p 14 (n * 2 ^ 32 + at) (StringL (bytes_of (unescape_unicode (take n (drop at p)))))
    unfolding leafy kind_in node_is
    makes_unicode = record { kind = refl; node = λ ws. ap (λ (t : List ℕ). kidless (StringL (bytes_of (unescape_unicode t)))) (within_at 32 at n p h) }

  -- the lines of a Global: a module of m bytes at `at`, and a name of n at `from`
  pub makes_global : (at m from n : ℕ) → at < 2 ^ 24 → from < 2 ^ 32 → Makes p (11 + 16 * (m * 2 ^ 24 + at)) (n * 2 ^ 32 + from) (GlobalL (repair (take m (drop at p))) (repair (take n (drop from p))))
  unfolding leafy module_of name_of
  makes_global at m from n h k =
      let w = m * 2 ^ 24 + at in
      let e = kind-made 11 w (omega arith) in
      record {
        kind = rw e;
        node = λ ws. rw (node_kind p ws [] (11 + 16 * w) (n * 2 ^ 32 + from) 11 e, rest-made 11 w (omega arith), within_at 24 at m p h, within_at 32 from n p k);
      }

-- ---- LONG1, LONG4

-- t is the part behind a length of n bytes
module _ (p : List ℕ) (n at : ℕ) (t : Result (ℕ × ℕ) Refusal) (h : ReadsPart at p (prefixed n) t) where
  pub long-short : (why : Refusal) → t ≡ Err why → ReadsLong n at p (Err why)
  unfolding EndsBehind IsLong long_read ◌>>=◌
  long-short why e = record { behind = tt; is = λ c d r s q. rw (none_found p n at t h why e c d r s q) }

  module _ (a m : ℕ) (e : t ≡ Ok (a, m)) where
    pub long_large : (why : Refusal) → long_of (take m (drop a p)) ≡ refused why 0 → ReadsLong n at p (Err why)
    unfolding EndsBehind IsLong long_read leaf ◌>>=◌
    long_large why k = record { behind = tt; is = λ c d r s q. rw (found p n at t h a m e c d r s q, k) }

    pub long_got : (v : ℕ) → long_of (take m (drop a p)) ≡ got v → ReadsLong n at p (Ok (a + m, v))
    unfolding EndsBehind IsLong long_read leaf ◌>>=◌
    long_got v k =
        let i = part_inside p n at t h a m e in
        let x = i.0 in
        record { behind = (omega arith, i.1); is = λ c d r s q. rw (found p n at t h a m e c d r s q, k) }

-- and what its opcode does with it
long_is : (n : ℕ) (s : State) → long_n n s ≡ (long_read n s >>= λ (x : ℕ × State). push (I64L x.0) x.1)
unfolding long_n long_read ◌>>=◌
long_is n s = prefixed_is n s (λ q. leaf (long_of q.0) >>= λ v. push (I64L v) q.1) ∙ go (prefixed n s)
  where
    integer : (q : List ℕ × State) → Res (ℕ × State)
    integer q = leaf (long_of q.0) >>= λ (v : ℕ). ok (v, q.1)

    go : (m : Res (List ℕ × State)) → (m >>= λ q. leaf (long_of q.0) >>= λ (v : ℕ). push (I64L v) q.1) ≡ (m >>= integer >>= λ (x : ℕ × State). push (I64L x.0) x.1)
    go (no why) = refl
    go (ok q) = sym (bind_assoc (leaf (long_of q.0)) (λ (v : ℕ). ok (v, q.1)) (λ (x : ℕ × State). push (I64L x.0) x.1))

module _ (c : Counts) (x : Result (ℕ × ℕ) Refusal) (n : ℕ) (p : List ℕ) (h : ReadsLong n c.at p x) where
  pub long-none : (why : Refusal) → x ≡ Err why → Decides c (λ r. r.pickle ≡ p) (λ s. going (long_n n s)) (Err why)
  unfolding Decides IsLong ◌>>=◌
  long-none why e r s q = refused_going r c s why (long_n n (state_of r c)) (long_is n (state_of r c) ∙ rw ((rw e at h).is c refl r s q))

  pub long-push : (a v : ℕ) → x ≡ Ok (a, v) → (c₁ : Counts) → c₁ ≡ cut_to c a c.stack c.marks → Decides c (λ r. r.pickle ≡ p) (λ s. going (long_n n s)) (Ok (Push c₁ 2 v))
  unfolding EndsBehind IsLong ◌>>=◌
  long-push a v e c₁ d =
      let b = (rw e at h).behind in
      pushed_step c p (long_n n) a 2 v (I64L v) c₁ (λ r s q. long_is n (state_of r c) ∙ rw ((rw e at h).is c refl r s q)) (makes_i64 p v) b.0 b.1 d

-- ---- a line as a place and a length

take_own : (n : ℕ) (l : List ℕ) → take n l ≡ take (length (take n l)) l
take_own zero l = refl
take_own (suc n) [] = refl
take_own (suc n) (b ∷ l) = ap (λ (t : List ℕ). b ∷ t) (take_own n l)

less_part : (t : Bool) (k : ℕ) (d : List ℕ) → cond t (take (length (take k d) - 1) (take k d)) (take k d) ≡ take (length (cond t (take (length (take k d) - 1) (take k d)) (take k d))) d
less_part true k d = take_own (length (take k d) - 1) (take k d) ∙ take-take (length (take (length (take k d) - 1) (take k d))) k d (simp length-take (omega arith))
less_part false k d = take_own k d

pub line_part : (p : List ℕ) (at i : ℕ) → line_of p at i ≡ take (length (line_of p at i)) (drop at p)
unfolding line_of less_cr
line_part p at i = less_part (eqb (last_byte (take (i - at) (drop at p))) 13) (i - at) (drop at p)

-- ---- one byte

pub first_byte : (p : List ℕ) (at : ℕ) → get_or (take 1 (drop at p)) 0 0 ≡ get_or p at 0
first_byte p at = let e : at + 0 ≡ at = omega arith in get_or-take 1 (drop at p) 0 0 (omega arith) ∙ get_or-drop at p 0 0 ∙ ap (λ (n : ℕ). get_or p n 0) e
