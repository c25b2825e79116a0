-- A list that holds one empty list twice: rooms that meet what `write_root` asks for, and the table that it makes, the shared list whole at
-- both places.
use Rattle.std.specs.Prelude.{ℕ, suc, zero, ◌^◌, ◌<◌, ◌≤◌, true, false, List, [], ◌∷◌, ◌≡◌, refl, ◌⊎◌, length, get_or, replicate}
use Rattle.std.proofs.Common.{sym, inl, inr, arith}
use Rattle.std.proofs.lemmas.List.{length-replicate}
use Rattle.value.specs.Value.{Value, one, nil, node, kind, ListL, text, size, count, depth, table}
use Rattle.value.specs.Shape.{kind_in}
use Rattle.steps.specs.State.{Node}
use Rattle.steps.specs.NodeWords.{first, second}
use Rattle.reading.specs.Build.{at}
use Rattle.reading.specs.Unfold.{In, here, there}
use Rattle.resolve.specs.Resolved.{Kids, s_nil, s_node}
use Rattle.resolve.specs.Ordered.{Final}
use Rattle.resolve.specs.Noted.{is_container}
use Rattle.resolve.specs.Shown.{Shown, node_label, label_has_text, Spelled, sorted_in, from_in, many_in, room_of, list_of, Inside}
use Rattle.emit.specs.Roots.{Rooted}

nodes : List Node
nodes = record { label = ListL; kids = 1 ∷ 1 ∷ [] } ∷ record { label = ListL; kids = [] } ∷ []

graph : Kids
graph zero = 1 ∷ 1 ∷ []
graph (suc i) = []

done : List ℕ
done = 0 ∷ 1 ∷ []

-- two words a node; where their children begin; the children; a word of the measuring for each
words : List ℕ
words = 6 ∷ 2 ∷ 6 ∷ 0 ∷ []

starts : List ℕ
starts = 0 ∷ 2 ∷ 2 ∷ []

sorted : List ℕ
sorted = 1 ∷ 1 ∷ []

measures : List ℕ
measures = 386 ∷ 129 ∷ []

value : Value
value = record { label = ListL; contents = node ListL nil (node ListL nil nil) }

-- of each of two
two : (P : ℕ → Type 0) → P 0 → P 1 → (i : ℕ) → i < 2 → P i
two P a b zero h = a
two P a b (suc zero) h = b
two P a b (suc (suc i)) h = absurd (omega arith)

-- the graph's nodes
in_graph : (j i : ℕ) → In j (graph i) → Final 4096 done j
unfolding graph done
in_graph j zero here = inr (there here)
in_graph j zero (there here) = inr (there here)
in_graph j zero (there (there m)) = elim m [ ]
in_graph j (suc i) m = elim m [ ]

is_node : (i : ℕ) → Final 4096 done i → (i ≡ 4096) ⊎ (i < 2)
unfolding done
is_node i (inl e) = inl e
is_node i (inr here) = inr (omega arith)
is_node i (inr (there here)) = inr (omega arith)
is_node i (inr (there (there m))) = elim m [ ]

never : {A : Type 0} → true ≡ false → A
never e = absurd (let z : ◌≡◌ {A = ℕ} 0 1 = cc in omega arith)

shown : Shown nodes graph (Final 4096 done) [] [] words starts sorted [] measures
unfolding nodes graph words starts sorted measures node_label first second kind_in Inside from_in many_in room_of list_of sorted_in
shown = record {
  beyond = omega arith;
  short = omega arith;
  words_long = omega arith;
  starts_long = omega arith;
  measures_long = omega arith;
  rising = two (λ i. get_or starts i 0 ≤ get_or starts (suc i) 0) (omega arith) (omega arith);
  labels_are = two (λ i. (at nodes i).label ≡ node_label [] words i) refl refl;
  classes = two (λ i. kind_in (first words i) ≡ 12 → _) (λ e. absurd (omega arith)) (λ e. absurd (omega arith));
  nodes = is_node;
  closed = λ i k j m. in_graph j i m;
  none = refl;
  leaves = λ i k. two (λ i. is_container (at nodes i).label ≡ false → graph i ≡ []) never never i;
  inside = λ i k. two (λ i. is_container (at nodes i).label ≡ true → Inside words starts sorted [] measures i) (λ e. omega arith) (λ e. omega arith) i;
  lists = λ i k. two (λ i. is_container (at nodes i).label ≡ true → list_of words starts sorted [] measures i ≡ graph i) (λ e. refl) (λ e. refl) i;
  spelled = λ i k. two (λ i. label_has_text (at nodes i).label ≡ true → Spelled [] [] words measures i (at nodes i).label) (λ e. never (sym e)) (λ e. never (sym e)) i;
}

few : (i : ℕ) → Final 4096 done i → kind (at nodes i).label ≡ 12 → length (graph i) ≤ 2
unfolding graph
few zero k e = omega arith
few (suc i) k e = omega arith

low : (j : ℕ) → get_or measures j 0 < 2 ^ 63
unfolding measures
low zero = omega arith
low (suc zero) = omega arith
low (suc (suc j)) = omega arith

rooted : Rooted [] [] words starts sorted [] 0 measures (replicate 8192 0) (replicate 65536 0)
unfolding nodes graph done value size text depth
rooted = record {
  t = nodes;
  h = graph;
  done = done;
  v = value;
  begun = record { shown = shown; few = few; unwritten = low };
  known = inr here;
  stands = s_node (s_node s_nil (s_node s_nil s_nil)) s_nil;
  deep = omega arith;
  records = omega arith;
  texts = omega arith;
  table-long = rw (length-replicate {A = ℕ} 8192 0) (omega arith);
  text-long = rw (length-replicate {A = ℕ} 65536 0) (omega arith);
}

shared_twice : table (one value) 0 ≡ 6 ∷ 2 ∷ 3 ∷ 0 ∷ 6 ∷ 0 ∷ 1 ∷ 0 ∷ 6 ∷ 0 ∷ 1 ∷ 0 ∷ []
unfolding table value text size count
shared_twice = refl
