-- RULES, Ask 6, of the two public calls. What `qelemvir_to_bytes` wrote, followed by any bytes, is read by
-- `qelemvir_from_bytes_prefix` as exactly the table and text that were written, and exactly what was written is consumed, unless the
-- reading's number is that of an added refusal. That a writing's number is 0 says at once that the table is well formed, that Ask 5 does not
-- refuse it, and that there was room.
use Rattle.std.specs.Prelude.{ℕ, ◌*◌, ◌≤◌, Bool, true, false, cond, not, List, [], ◌++◌, ◌⊎◌, ◌≡◌, refl, length, take, drop, T, leb}
use Rattle.std.proofs.Common.{append-nil, inl, inr, sym, ◌∙◌, ap, subst, take_at, length-take-le, arith}
use Rattle.refusal.specs.declared.Answer.{Answer}
use Rattle.refusal.specs.declared.Refusal.{Refusal}
use Rattle.refusal.specs.declared.Refusal.TheVariants.{ShortRoom, BadTable, OutputFull, UnwritableName}
use Rattle.refusal.specs.declared.Which.TheVariants.{First}
use Rattle.refusal.specs.Numbers.{number_of, refused_answer}
use Rattle.value.specs.Value.{one}
use Rattle.value.specs.Shape.{Words}
use Rattle.value.specs.WellFormed.{WellFormed}
use Rattle.table.specs.Compare.{decided}
use Rattle.table.specs.CompareLaws.{Identical}
use Rattle.table.specs.Call.{told, done, answered, answered-all}
use Rattle.reading.specs.Reading.{Reading, prefix}
use Rattle.ser.specs.Image.{pickled}
use Rattle.ser.specs.Writable.{writable_in}
use Rattle.ser.specs.Call.{written, WriteCall}
use Rattle.rooms.specs.Stated.{Slices, stated, table_slice, text_slice, begun, short}
use Rattle.de.specs.Call.{Left, reading, ReadCall}
use Rattle.de.specs.Theorems.{call_answer, call-table, call-text}
use Rattle.outback.specs.Added.{added}
use Rattle.outback.specs.SetCalls.{two_arguments_in}
use Rattle.outback.specs.Tables.{true_of}
use Rattle.outback.specs.Theorem.{Outgoing, image, gives}
use Rattle.outback.proofs.Theorem.{out_and_back, no_beginning}

-- ---- the writing

-- The write call was lent n records in w, the text t and the output o, and left o' with the answer r: nothing is refused. Where the table
-- is well formed, its Objects keep to the premise on them.
pub record WriteAccepted (w : List ℕ) (n : ℕ) (t o o' : List ℕ) (r : Answer) : Type 0 where
  pub words : Words w
  pub called : WriteCall w n t o o' r
  pub accepted : r.number ≡ 0
  pub objects : (f : WellFormed w n t) → T (two_arguments_in (one f.value))

-- the bytes written
abbrev pub written_bytes : List ℕ → Answer → List ℕ
written_bytes o' r = take r.length o'

-- so it is for a well-formed table that Ask 5 does not refuse, written with room
pub accepts : (w : List ℕ) (n : ℕ) (t o o' : List ℕ) (r : Answer) → WriteCall w n t o o' r → (f : WellFormed w n t) → T (writable_in (one f.value)) → length (pickled f.value) ≤ length o → r.number ≡ 0
unfolding written
accepts w n t o o' r c f names room =
    let b = pickled f.value in
    let e : told r o' ≡ told (done (length b)) (b ++ drop (length b) o) = c.good f ∙ rw (true_of (writable_in (one f.value)) names) (answered-all b o room) in
    let z : r ≡ done (length b) = cc in
    ap (λ (a : Answer). a.number) z

-- and for no other: the premises of the theorem over the definitions hold, and its image is what was written
record WroteImage (w : List ℕ) (n : ℕ) (t o' : List ℕ) (r : Answer) : Type 0 where
  pub out : Outgoing w n t
  pub bytes : written_bytes o' r ≡ image out
  pub long : r.length ≡ length (image out)

wrote : {w : List ℕ} {n : ℕ} {t o o' : List ℕ} {r : Answer} → WriteAccepted w n t o o' r → WroteImage w n t o' r
unfolding written answered
wrote {w} {n} {t} {o} {o'} {r} x = go (decided w n t)
  where
    refuses : (why : Refusal) → told r o' ≡ told (refused_answer why) o → (number_of why).0 ≡ 0
    refuses why e = let z : r ≡ refused_answer why = cc in sym (ap (λ (a : Answer). a.number) z) ∙ x.accepted

    room : (f : WellFormed w n t) → T (writable_in (one f.value)) → (b : Bool)
        → told r o' ≡ cond b (told (done (length (pickled f.value))) (pickled f.value ++ drop (length (pickled f.value)) o)) (told (refused_answer OutputFull) o) → WroteImage w n t o' r
    room f h false e = absurd (let z : (number_of OutputFull).0 ≡ 0 = refuses OutputFull e in omega arith)
    room f h true e =
        let p = pickled f.value in
        let a : r ≡ done (length p) = cc in
        let q : o' ≡ p ++ drop (length p) o = cc in
        record {
          out = record { formed = f; words = x.words; names = h; objects = x.objects f };
          bytes = rw (a, q) (take_at p (drop (length p) o) (length p) refl);
          long = ap (λ (y : Answer). y.length) a;
        }

    names : (f : WellFormed w n t) (b : Bool) → writable_in (one f.value) ≡ b → told r o' ≡ cond b (answered (pickled f.value) o) (told (refused_answer UnwritableName) o) → WroteImage w n t o' r
    names f false q e = absurd (let z : (number_of UnwritableName).0 ≡ 0 = refuses UnwritableName e in omega arith)
    names f true q e = room f (rw q tt) (leb (length (pickled f.value)) (length o)) e

    go : WellFormed w n t ⊎ (WellFormed w n t → ⊥) → WroteImage w n t o' r
    go (inl f) = names f (writable_in (one f.value)) refl (x.called.good f)
    go (inr h) = absurd (let z : (number_of (BadTable First)).0 ≡ 0 = refuses (BadTable First) (x.called.bad h) in omega arith)

-- ---- the reading

-- where no slice is too short the call answers with its reading, and fills table and text with what that says
own_answer : (x : Reading) (l l' : Slices) (a : Answer) → ReadCall x l l' a → T (not (added a.number)) → (a ≡ x.answer) × (table_slice l' ≡ begun x.words (table_slice l)) × (text_slice l' ≡ begun x.bytes (text_slice l))
unfolding reading
own_answer x l l' a c free = go (short stated l) refl
  where
    go : (b : Bool) → short stated l ≡ b → (a ≡ x.answer) × (table_slice l' ≡ begun x.words (table_slice l)) × (text_slice l' ≡ begun x.bytes (text_slice l))
    go false e = (call_answer x l l' a c e, call-table x l l' a c e, call-text x l l' a c e)
    go true e =
        let q : ◌≡◌ {A = Left} (record { answer = a; slices = l' }) (record { answer = refused_answer ShortRoom; slices = l }) = c ∙ rw e in
        let z : a ≡ refused_answer ShortRoom = ap (λ (y : Left). y.answer) q in
        absurd (rw z at free)

-- the reading that was lent l left l' with the answer a: exactly the table and text written, and as many bytes as were written
pub record Returned (w : List ℕ) (n : ℕ) (t : List ℕ) (r : Answer) (l l' : Slices) (a : Answer) : Type 0 where
  pub answer : a ≡ record { number = 0; detail = 0; length = r.length; count = n }
  pub table : table_slice l' ≡ take (4 * n) w ++ drop (4 * n) (table_slice l)
  pub text : text_slice l' ≡ begun t (text_slice l)

pub calls_out_and_back : {w : List ℕ} {n : ℕ} {t o o' : List ℕ} {r : Answer} → WriteAccepted w n t o o' r → (rest : List ℕ) (l l' : Slices) (a : Answer)
    → ReadCall (prefix (written_bytes o' r ++ rest)) l l' a → T (not (added a.number)) → Returned w n t r l l' a
calls_out_and_back {w} {n} {t} {o} {o'} {r} x rest l l' a c free =
    let y = wrote x in
    let z = own_answer (prefix (written_bytes o' r ++ rest)) l l' a c free in
    let moved : prefix (written_bytes o' r ++ rest) ≡ prefix (image y.out ++ rest) = ap (λ (b : List ℕ). prefix (b ++ rest)) y.bytes in
    let unhindered = subst (λ (b : Reading). T (not (added b.answer.number))) moved (rw z.0 at free) in
    let q : prefix (written_bytes o' r ++ rest) ≡ gives (length (image y.out)) w n t = moved ∙ out_and_back w n t y.out rest unhindered in
    let k : length (take (4 * n) w) ≡ 4 * n = length-take-le (4 * n) w y.out.formed.lent in
    record {
      answer = z.0 ∙ ap (λ (b : Reading). b.answer) q ∙ ap (λ (k : ℕ). (gives k w n t).answer) (sym y.long);
      table = z.1 ∙ ap (λ (b : Reading). begun b.words (table_slice l)) q ∙ rw k;
      text = z.2 ∙ ap (λ (b : Reading). begun b.bytes (text_slice l)) q;
    }

-- ---- two writings, the second's bytes read without an added refusal

module _ {w : List ℕ} {n : ℕ} {t o o' : List ℕ} {r : Answer} {v : List ℕ} {m : ℕ} {u p p' : List ℕ} {s : Answer} (x : WriteAccepted w n t o o' r) (y : WriteAccepted v m u p p' s)
    (l l' : Slices) (a : Answer) (called : ReadCall (prefix (written_bytes p' s)) l l' a) (free : T (not (added a.number))) where
  -- they do not begin with the first's, or they are these, of an identical table
  pub calls_no_beginning : (rest : List ℕ) → written_bytes p' s ≡ written_bytes o' r ++ rest → (rest ≡ []) × Identical w n t v m u
  calls_no_beginning rest e =
      let z = own_answer (prefix (written_bytes p' s)) l l' a called free in
      let unhindered = subst (λ (b : List ℕ). T (not (added (prefix b).answer.number))) (wrote y).bytes (rw z.0 at free) in
      no_beginning w n t v m u (wrote x).out (wrote y).out rest (sym (wrote y).bytes ∙ e ∙ ap (λ (b : List ℕ). b ++ rest) (wrote x).bytes) unhindered

  -- different tables, different bytes
  pub calls_different : (Identical w n t v m u → ⊥) → written_bytes o' r ≡ written_bytes p' s → ⊥
  calls_different d e = d (calls_no_beginning [] (sym e ∙ sym (append-nil (written_bytes o' r)))).1
