-- The write call: a table's value as a pickle. 21, then 25 exactly where the value has a name that cannot be read back, then 22
-- exactly where the pickle is longer than the lent output.
use Rattle.std.specs.Prelude.{ℕ, ◌+◌, ◌^◌, ◌≤◌, ◌<◌, true, false, cond, List, ◌≡◌, length}
use Rattle.std.proofs.Common.{sym, ◌∙◌, arith}
use Rattle.refusal.specs.declared.Answer.{Answer}
use Rattle.refusal.specs.declared.Refusal.TheVariants.{OutputFull, UnwritableName}
use Rattle.refusal.specs.Numbers.{refused_answer}
use Rattle.value.specs.Value.{Value, one}
use Rattle.value.specs.WellFormed.{WellFormed}
use Rattle.table.specs.Call.{Told, told, done, answered, answered_full, Call, call_one, call_good}
use Rattle.table.specs.Compare.{formed_stands}
use Rattle.output.specs.Whole.{whole_one, put_answered}
use Rattle.ser.specs.Image.{framed, pickled}
use Rattle.ser.specs.Walk.{ReadyToWrite, Puts}
use Rattle.ser.specs.Short.{written-short}
use Rattle.ser.specs.Length.{records_take, pickled-length}
use Rattle.ser.specs.Writable.{writable_in, writable_from, from_values, RecordsReadable, values_read}

-- of a well-formed table's value, and the output that is lent
unfoldable pub written : Value → List ℕ → Told
written v o = cond (writable_in (one v)) (answered (pickled v) o) (told (refused_answer UnwritableName) o)

abbrev pub WriteCall : List ℕ → ℕ → List ℕ → List ℕ → List ℕ → Answer → Type 0
WriteCall w n t o o' r = Call written w n t o o' r

-- any two results that the call may have are one
pub write_one : (w : List ℕ) (n : ℕ) (t o p q : List ℕ) (r s : Answer) → WriteCall w n t o p r → WriteCall w n t o q s → (r ≡ s) × (p ≡ q)
write_one w n t o p q r s x y = call_one x y

-- ---- the call looks at the names, measures, then writes

module _ (w : List ℕ) (n : ℕ) (t : List ℕ) where
  -- every record can be looked at
  pub read_all : WellFormed w n t → RecordsReadable w t 0 n
  read_all f = rw f.counted at (values_read w t (one f.value) 0 (formed_stands w n t f) (omega (arith, f.counted, f.few, f.lent)))

  pub length_few : WellFormed w n t → records_take w 0 n + 3 < 2 ^ 64
  length_few f = omega (arith, pickled-length w n t f, written-short w n t f)

  pub ready_all : (o : List ℕ) → WellFormed w n t → records_take w 0 n + 3 ≤ length o → ReadyToWrite framed w t 0 1 o 0
  unfolding pickled
  ready_all o f h = record { values = one f.value; stands = formed_stands w n t f; counted = whole_one w n t f; room = record { fits = omega (arith, pickled-length w n t f, h) } }

  -- the records say whether all names can be read back
  names-all : (f : WellFormed w n t) → writable_in (one f.value) ≡ writable_from w t 0 n
  names-all f = sym (from_values w t (one f.value) 0 (formed_stands w n t f)) ∙ rw f.counted

  pub write_unwritable : (o : List ℕ) (r : Answer) → WellFormed w n t → writable_from w t 0 n ≡ false → r ≡ refused_answer UnwritableName → WriteCall w n t o o r
  unfolding written
  write_unwritable o r f h e = call_good written w n t o o r f (λ g. rw (names-all g, h, e))

  module _ (f : WellFormed w n t) (names : writable_from w t 0 n ≡ true) (o : List ℕ) where
    pub write_full : (r : Answer) → length o < records_take w 0 n + 3 → r ≡ refused_answer OutputFull → WriteCall w n t o o r
    unfolding written
    write_full r h e = call_good written w n t o o r f (λ g. rw (names-all g, names, e) (sym (answered_full (pickled g.value) o (omega (arith, pickled-length w n t g)))))

    pub write_all : (o' : List ℕ) (p : ℕ) → records_take w 0 n + 3 ≤ length o → Puts framed w t 0 1 o 0 o' p → WriteCall w n t o o' (done p)
    unfolding written pickled
    write_all o' p h x = call_good written w n t o o' (done p) f (λ g. rw (names-all g, names) (put_answered (pickled g.value) o o' p (omega (arith, pickled-length w n t g)) (x (one g.value) (formed_stands w n t g) (whole_one w n t g))))
