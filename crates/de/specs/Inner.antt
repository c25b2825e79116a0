-- The inner reading: rooms whose stated parts are zero, lent, and zero again.
use Rattle.std.specs.Prelude.{ℕ, ◌*◌, ◌≤◌, ◌<◌, Bool, List, [], ◌∷◌, ◌≡◌, length, take, replicate}
use Rattle.std.proofs.Common.{sym, ◌∙◌, arith}
use Rattle.refusal.specs.declared.Answer.{Answer}
use Rattle.refusal.specs.declared.Refusal.TheVariants.{TooLong}
use Rattle.refusal.specs.Numbers.{refused_answer}
use Rattle.op.specs.declared.Edition.{Edition}
use Rattle.rooms.specs.Cleared.{cleared}
use Rattle.rooms.specs.Stated.{Slices, machine_lengths, stated, AllZero, Ready, begun, filled, filled_none, long, rooms_zero}
use Rattle.store.specs.Effects.{Lengths, AsLentBehind}
use Rattle.machine.specs.RoomsOf.{rooms_of, lent_of, lent_rooms}
use Rattle.machine.specs.Ran.{Ran}
use Rattle.machine.specs.declared.Outcome.{Outcome}
use Rattle.reading.specs.Reading.{Reading, pickle_limit, stopped-long, prefix_refused}
use Rattle.de.specs.Rooms.{zeros_long, front_cleared}
use Rattle.de.specs.Building.{Working}
use Rattle.de.specs.Given.{RanIn, due, due_refused}

-- the inner reading x in the slices l leaves l' and answers a
pub record InnerReads (x : Reading) (l l' : Slices) (a : Answer) : Type 0 where
  pub answer : a ≡ x.answer
  pub slices : l' ≡ filled x.words x.bytes l

-- a pickle that is too long: 2, and every slice as it came
pub reads-long : (ed : Edition) (all : Bool) (p : List ℕ) (l : Slices) (a : Answer) → pickle_limit < length p → a ≡ refused_answer TooLong → InnerReads (due ed all p) l l a
reads-long ed all p l a h e =
    rw (due_refused ed p all TooLong (prefix_refused ed p TooLong (stopped-long ed p h))) (record { answer = e; slices = sym (filled_none l) })

-- a room that has become s': its first k cleared, it is s again
pub record ClearsTo (k : ℕ) (s s' : List ℕ) : Type 0 where
  pub fits : k ≤ length s'
  pub again : cleared k s' ≡ s

module _ {k : ℕ} {s s' : List ℕ} (b : ClearsTo k s s') (j : ℕ) (e : j ≡ k) where
  pub back_fits : j ≤ length s'
  back_fits = rw e b.fits

  pub back_again : (t : List ℕ) → t ≡ cleared j s' → t ≡ s
  back_again t q = q ∙ rw e b.again

-- what a run leaves of the machine's rooms: what the answer asks, and how each is as it came again
pub record Runs (ed : Edition) (o : Outcome) (p nodes owners children stack marks keys held nodes' owners' children' stack' marks' keys' held' : List ℕ) : Type 0 where
  pub ran : RanIn ed o p nodes' owners' children' stack'
  pub nodes_back : ClearsTo (2 * o.counts.nodes) nodes nodes'
  pub owners_back : ClearsTo o.counts.links owners owners'
  pub children_back : ClearsTo o.counts.links children children'
  pub stack_back : ClearsTo o.counts.deepest stack stack'
  pub marks_back : ClearsTo o.counts.most marks marks'
  pub keys_back : ClearsTo o.counts.memo keys keys'
  pub held_back : ClearsTo o.counts.memo held held'

-- ---- the run

-- of a room whose first n are zero, k of them are used
clears : {k : ℕ} {s s' : List ℕ} (n : ℕ) → take n s ≡ replicate n 0 → k ≤ n → k ≤ length s' → AsLentBehind k s s' → ClearsTo k s s'
clears {k} {s} {s'} n z few fits b = record { fits = fits; again = front_cleared n k s s' (record { zero = z }) few b.same }

zero_long : (n : ℕ) (room : List ℕ) → take n room ≡ replicate n 0 → n ≤ length room
zero_long n room e = zeros_long (record { zero = e })

module _ (p nodes owners children stack marks keys held : List ℕ) (z : AllZero machine_lengths (nodes ∷ owners ∷ children ∷ stack ∷ marks ∷ keys ∷ held ∷ [])) where
  -- what it asks
  pub begins : length p ≤ 65536 → Lengths (lent_rooms p nodes owners children stack marks keys held)
  begins h = record {
    pickle = h;
    nodes = zero_long 8192 nodes z.0;
    owners = zero_long 8192 owners z.1.0;
    children = zero_long 8192 children z.1.1.0;
    stack = zero_long 2048 stack z.1.1.1.0;
    marks = zero_long 256 marks z.1.1.1.1.0;
    keys = omega (arith, zero_long 2048 keys z.1.1.1.1.1.0);
    held = zero_long 1024 held z.1.1.1.1.1.1.0;
  }

  -- what it leaves
  pub runs : (ed : Edition) (o : Outcome) (nodes' owners' children' stack' marks' keys' held' : List ℕ)
      → Ran ed o p (rooms_of (lent_of nodes owners children stack marks keys held) p nodes' owners' children' stack' marks' keys' held')
      → Runs ed o p nodes owners children stack marks keys held nodes' owners' children' stack' marks' keys' held'
  runs ed o nodes' owners' children' stack' marks' keys' held' r =
      let f = r.sound.firm in
      record {
        ran = record { before = _; marks = _; keys = _; held = _; ran = r; owners_zero = record { zero = z.1.0 }; children_zero = record { zero = z.1.1.0 } };
        nodes_back = clears 8192 z.0 (omega (arith, f.nodes)) (omega (arith, f.nodes, f.lengths.nodes)) f.clean.nodes;
        owners_back = clears 8192 z.1.0 f.links (omega (arith, f.links, f.lengths.owners)) f.clean.owners;
        children_back = clears 8192 z.1.1.0 f.links (omega (arith, f.links, f.lengths.children)) f.clean.children;
        stack_back = clears 2048 z.1.1.1.0 f.deepest (omega (arith, f.deepest, f.lengths.stack)) f.clean.stack;
        marks_back = clears 256 z.1.1.1.1.0 f.most (omega (arith, f.most, f.lengths.marks)) f.clean.marks;
        keys_back = clears 2048 z.1.1.1.1.1.0 (omega (arith, f.memo)) (omega (arith, f.memo, f.lengths.keys)) f.clean.keys;
        held_back = clears 1024 z.1.1.1.1.1.1.0 f.memo (omega (arith, f.memo, f.lengths.held)) f.clean.held;
      }

-- ---- the answer

module _ (nodes owners children stack marks keys held unescaped starts sorted measures table text : List ℕ) (r : Ready (nodes ∷ owners ∷ children ∷ stack ∷ marks ∷ keys ∷ held ∷ unescaped ∷ starts ∷ sorted ∷ measures ∷ table ∷ text ∷ [])) where
  -- the machine's rooms are zero up to their stated lengths
  pub machine_zero : AllZero machine_lengths (nodes ∷ owners ∷ children ∷ stack ∷ marks ∷ keys ∷ held ∷ [])
  machine_zero =
      let z = rooms_zero _ r in
      (z.0, (z.1.0, (z.1.1.0, (z.1.1.1.0, (z.1.1.1.1.0, (z.1.1.1.1.1.0, (z.1.1.1.1.1.1.0, tt)))))))

  -- and the answer of its own
  pub working : (list : List ℕ) → list ≡ keys → Working list unescaped starts sorted measures table text
  working list e =
      let z = rooms_zero _ r in
      let b = z.1.1.1.1.1.1.1 in
      let o = (long stated _ r.long).1.1.1.1.1.1.1.1.1.1.1 in
      record {
        list_zero = rw e (record { zero = z.1.1.1.1.1.0 });
        decoded_zero = record { zero = b.0 };
        starts_zero = record { zero = b.1.0 };
        sorted_zero = record { zero = b.1.1.0 };
        measures_zero = record { zero = b.1.1.1.0 };
        table_room = o.0;
        text_room = o.1.0;
      }

-- what is left, slice by slice: every room as it came, the outputs begun with the reading's
pub reads_all : (x : Reading) (a : Answer) {nodes owners children stack marks keys held unescaped starts sorted measures table text nodes' owners' children' stack' marks' keys' held' unescaped' starts' sorted' measures' table' text' : List ℕ}
    → a ≡ x.answer → nodes' ≡ nodes → owners' ≡ owners → children' ≡ children → stack' ≡ stack → marks' ≡ marks → keys' ≡ keys → held' ≡ held → unescaped' ≡ unescaped → starts' ≡ starts → sorted' ≡ sorted → measures' ≡ measures
    → table' ≡ begun x.words table → text' ≡ begun x.bytes text
    → InnerReads x (nodes ∷ owners ∷ children ∷ stack ∷ marks ∷ keys ∷ held ∷ unescaped ∷ starts ∷ sorted ∷ measures ∷ table ∷ text ∷ [])
    (nodes' ∷ owners' ∷ children' ∷ stack' ∷ marks' ∷ keys' ∷ held' ∷ unescaped' ∷ starts' ∷ sorted' ∷ measures' ∷ table' ∷ text' ∷ []) a
unfolding filled
reads_all x a e f0 f1 f2 f3 f4 f5 f6 f7 f8 f9 f10 f11 f12 = record { answer = e; slices = rw (f0, f1, f2, f3, f4, f5, f6, f7, f8, f9, f10, f11, f12) }
