-- Links one after the other: a container grows by all its items.
use Rattle.std.specs.Prelude.{ℕ, suc, ◌*◌, ◌<◌, List, [], ◌∷◌, ◌++◌, ◌≡◌, length, set}
use Rattle.std.proofs.Common.{append-nil, append_assoc, ◌∙◌, ap, length-set, set-set, get_or-set_same}
use Rattle.std.proofs.lemmas.List.{set-get_or}
use Rattle.std.proofs.Math.Seq.{set-append_seam, get_or-append_seam}
use Rattle.value.specs.Value.{Label, NoneL}
use Rattle.steps.specs.State.{Node, State, kidless, with_nodes, with_links, node_by, extend}
use Rattle.store.specs.Rooms.{Rooms, Counts, state_of, words_in, log_in, links_to, Classed}
use Rattle.steps.specs.NodeWords.{first, HoldsLinks}
use Rattle.store.specs.RoomLaws.{link_more, count_set}

-- ---- items one after the other

pub extend-none : (o : ℕ) (s : State) → extend o [] s ≡ s
unfolding extend
extend-none o s = rw (append-nil (node_by s o).kids) (ap (with_nodes s) (set-get_or s.nodes o (kidless NoneL)))

pub extend_more : (o : ℕ) (xs : List ℕ) (k m m' : ℕ) (s : State) → o < length s.nodes → extend o (k ∷ []) (with_links (extend o xs (with_links s m)) m') ≡ extend o (xs ++ (k ∷ [])) (with_links s m')
unfolding extend
extend_more o xs k m m' s h =
    let n = node_by s o in
    let g : Node = record { label = n.label; kids = n.kids ++ xs } in
    ap (with_nodes (with_links s m'))
    (rw (get_or-set_same s.nodes o g (kidless NoneL) h, append_assoc n.kids xs (k ∷ [])) (set-set s.nodes o g (record { label = n.label; kids = n.kids ++ (xs ++ (k ∷ [])) })))

-- a node that was just made
pub extend_new : (xs : List ℕ) (l : Label) (s : State) → extend (length s.nodes) xs (with_nodes s (s.nodes ++ (kidless l ∷ []))) ≡ with_nodes s (s.nodes ++ (record { label = l; kids = xs } ∷ []))
unfolding extend
extend_new xs l s = ap (with_nodes s) (rw (get_or-append_seam s.nodes (kidless l) [] (kidless NoneL)) (set-append_seam s.nodes (kidless l) [] (record { label = l; kids = xs })))

extend-length : (o : ℕ) (xs : List ℕ) (s : State) → length (extend o xs s).nodes ≡ length s.nodes
unfolding extend
extend-length o xs s = length-set s.nodes o (record { label = (node_by s o).label; kids = (node_by s o).kids ++ xs })

-- a loop's step: xs are linked in u already, and t is u with a link to k
pub link_next : (o k : ℕ) (xs : List ℕ) (m m' : ℕ) (s u t : State) → o < length u.nodes → u ≡ extend o xs (with_links s m) → t ≡ extend o (k ∷ []) (with_links u m') → t ≡ extend o (xs ++ (k ∷ [])) (with_links s m')
link_next o k xs m m' s u t h e f =
    f ∙ ap (λ (x : State). extend o (k ∷ []) (with_links x m')) e
    ∙ extend_more o xs k m m' s (rw (ap (λ (x : State). length x.nodes) e ∙ extend-length o xs (with_links s m)) at h)

-- a link more, and the owner's count with it
pub link-counted : (r : Rooms) (c : Counts) (o k b : ℕ) → o < c.nodes → HoldsLinks (first r.nodes o) → c.links < length r.owners → c.links < length r.children → suc (2 * o) < length r.nodes → Classed r.nodes c.nodes
    → state_of (words_in (log_in r (set r.owners c.links o) (set r.children c.links k)) (set r.nodes (suc (2 * o)) b)) (links_to c (suc c.links)) ≡ extend o (k ∷ []) (with_links (state_of r c) (suc c.links))
link-counted r c o k b h t l l' room cl =
    count_set (log_in r (set r.owners c.links o) (set r.children c.links k)) (links_to c (suc c.links)) o b t room cl
    ∙ link_more r c o k h t l l'
