-- The slices of what a reading is lent, in the order in which Stated has their lengths.
use Rattle.std.specs.Prelude.{[], ◌∷◌, ◌≡◌}
use Rattle.rooms.specs.declared.lending.Lent.{Lent}
use Rattle.rooms.specs.Stated.{Slices}

abbrev pub slices_of : Lent → Slices
slices_of r =
    r.nodes.now ∷ r.owners.now ∷ r.children.now ∷ r.stack.now ∷ r.marks.now ∷ r.keys.now ∷ r.held.now
    ∷ r.unescaped.now ∷ r.starts.now ∷ r.sorted.now ∷ r.measures.now ∷ r.table.now ∷ r.text.now ∷ []

-- each name holds the slice that it held, whatever has become of what is in it
pub record SameSlices (r s : Lent) : Type 0 where
  pub nodes : s.nodes.ghost_name ≡ r.nodes.ghost_name
  pub owners : s.owners.ghost_name ≡ r.owners.ghost_name
  pub children : s.children.ghost_name ≡ r.children.ghost_name
  pub stack : s.stack.ghost_name ≡ r.stack.ghost_name
  pub marks : s.marks.ghost_name ≡ r.marks.ghost_name
  pub keys : s.keys.ghost_name ≡ r.keys.ghost_name
  pub held : s.held.ghost_name ≡ r.held.ghost_name
  pub unescaped : s.unescaped.ghost_name ≡ r.unescaped.ghost_name
  pub starts : s.starts.ghost_name ≡ r.starts.ghost_name
  pub sorted : s.sorted.ghost_name ≡ r.sorted.ghost_name
  pub measures : s.measures.ghost_name ≡ r.measures.ghost_name
  pub table : s.table.ghost_name ≡ r.table.ghost_name
  pub text : s.text.ghost_name ≡ r.text.ghost_name
