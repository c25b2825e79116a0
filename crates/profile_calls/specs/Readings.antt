-- Both readings of the profile against the full reader's: the same answer, table and text, or 26 with the byte of one of the six opcodes, to
-- which the full reader comes.
use Rattle.std.specs.Prelude.{ℕ, Bool, true, false, cond, List, ◌≡◌, refl, length, leb}
use Rattle.std.proofs.Common.{sym, ◌∙◌, ap, leb-true, leb-false}
use Rattle.refusal.specs.declared.Refusal.TheVariants.{TooLong, TrailingData, OutsideProfile}
use Rattle.op.specs.declared.Edition.TheVariants.{Full, Plain}
use Rattle.steps.specs.State.{State, Res, ok, no}
use Rattle.steps.specs.Run.{run}
use Rattle.reading.specs.Reading.{Reading, refuses, pickle_limit, stopped, prefix_in, whole_in, prefix, whole, leaves, stopped-long, stopped_refused, prefix_refused, prefix-told}
use Rattle.profile_calls.specs.Alike.{Barred, Meets, RunAlike, runs_as_full, runs_barred, run_alike}

-- x is the profile's reading, y the full reader's
pub data ReadAlike (p : List ℕ) (x y : Reading) : Type 0 where
  reads_as_full : x ≡ y → ReadAlike p x y
  reads_barred : (b : ℕ) → Barred b → Meets p b → x ≡ refuses (OutsideProfile b) → ReadAlike p x y

stopped-same : (p : List ℕ) → run Plain p ≡ run Full p → stopped Plain p ≡ stopped Full p
unfolding stopped
stopped-same p e = rw e

prefix_same : (p : List ℕ) → run Plain p ≡ run Full p → prefix_in Plain p ≡ prefix p
prefix_same p e = go (stopped Full p) refl
  where
    go : (r : Res (State × ℕ)) → stopped Full p ≡ r → prefix_in Plain p ≡ prefix p
    go (no why) f = prefix_refused Plain p why (stopped-same p e ∙ f) ∙ sym (prefix_refused Full p why f)
    go (ok x) f = prefix-told Plain p x.0 x.1 (stopped-same p e ∙ f) ∙ sym (prefix-told Full p x.0 x.1 f)

pub prefix_alike : (p : List ℕ) → ReadAlike p (prefix_in Plain p) (prefix p)
prefix_alike p = go (leb (length p) pickle_limit) refl (run_alike p)
  where
    go : (b : Bool) → leb (length p) pickle_limit ≡ b → RunAlike p → ReadAlike p (prefix_in Plain p) (prefix p)
    go false h r = let l = leb-false (length p) pickle_limit h in reads_as_full (prefix_refused Plain p TooLong (stopped-long Plain p l) ∙ sym (prefix_refused Full p TooLong (stopped-long Full p l)))
    go true h (runs_as_full e) = reads_as_full (prefix_same p e)
    go true h (runs_barred b o m e) = reads_barred b o m (prefix_refused Plain p (OutsideProfile b) (stopped_refused Plain p (OutsideProfile b) (leb-true (length p) pickle_limit h) e))

-- the whole reading by the prefix reading
abbrev whole_of : List ℕ → Reading → Reading
whole_of p x = cond (leaves p x) (refuses TrailingData) x

pub whole_alike : (p : List ℕ) → ReadAlike p (whole_in Plain p) (whole p)
unfolding whole_in leaves
whole_alike p = go (prefix_alike p)
  where
    go : ReadAlike p (prefix_in Plain p) (prefix p) → ReadAlike p (whole_of p (prefix_in Plain p)) (whole_of p (prefix p))
    go (reads_as_full e) = reads_as_full (ap (whole_of p) e)
    go (reads_barred b o m e) = reads_barred b o m (ap (whole_of p) e)
