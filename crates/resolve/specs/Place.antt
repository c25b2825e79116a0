-- Where a node's text stands, by its measure and its words.
use Rattle.std.specs.Prelude.{ℕ, ◌+◌, ◌^◌, ◌/◌, ◌%◌, ◌<◌, ◌≤◌, List, [], ◌≡◌, ◌≢◌, get_or, take, drop}
use borrow.Author.Tests.{le-leb, lt-leb, ne_eqb}
use Rattle.value.specs.Shape.{kind_in}
use Rattle.steps.specs.NodeWords.{first, second, within, class_in}
use Rattle.resolve.specs.Shown.{was_decoded, place_in, lead_in, trail_in, raw_lead, raw_trail, lead_text, trail_text}

module _ (p d ws measures : List ℕ) (i : ℕ) where
  -- ---- decoded

  module _ (h : 2 ^ 62 ≤ get_or measures i 0) where
    pub lead_decoded : take (get_or measures i 0 / 2 ^ 17 % 2 ^ 17) (drop (get_or measures i 0 % 2 ^ 17) d) ≡ lead_text p d ws measures i
    unfolding lead_text was_decoded place_in lead_in
    lead_decoded = rw (le-leb (2 ^ 62) (get_or measures i 0) h)

    pub trail_decoded : take (get_or measures i 0 / 2 ^ 34 % 2 ^ 17) (drop (get_or measures i 0 % 2 ^ 17 + get_or measures i 0 / 2 ^ 17 % 2 ^ 17) d) ≡ trail_text p d ws measures i
    unfolding trail_text was_decoded place_in lead_in trail_in
    trail_decoded = rw (le-leb (2 ^ 62) (get_or measures i 0) h)

  -- ---- as it stands in the pickle

  module _ (h : get_or measures i 0 < 2 ^ 62) where
    raw_lead_lem : lead_text p d ws measures i ≡ raw_lead p ws i
    unfolding lead_text was_decoded
    raw_lead_lem = rw (lt-leb (2 ^ 62) (get_or measures i 0) h)

    raw_trail_lem : trail_text p d ws measures i ≡ raw_trail p ws i
    unfolding trail_text was_decoded
    raw_trail_lem = rw (lt-leb (2 ^ 62) (get_or measures i 0) h)

    pub lead-global : kind_in (first ws i) ≡ 11 → within 24 (first ws i / 16) p ≡ lead_text p d ws measures i
    unfolding raw_lead
    lead-global k = rw (raw_lead_lem, k)

    pub lead-object : kind_in (first ws i) ≡ 12 → within 24 (first ws (class_in (first ws i)) / 16) p ≡ lead_text p d ws measures i
    unfolding raw_lead
    lead-object k = rw (raw_lead_lem, k)

    pub lead-leaf : kind_in (first ws i) ≢ 11 → kind_in (first ws i) ≢ 12 → within 32 (second ws i) p ≡ lead_text p d ws measures i
    unfolding raw_lead
    lead-leaf k l = rw (raw_lead_lem, ne_eqb _ _ k, ne_eqb _ _ l)

    pub trail-global : kind_in (first ws i) ≡ 11 → within 32 (second ws i) p ≡ trail_text p d ws measures i
    unfolding raw_trail
    trail-global k = rw (raw_trail_lem, k)

    pub trail-object : kind_in (first ws i) ≡ 12 → within 32 (second ws (class_in (first ws i))) p ≡ trail_text p d ws measures i
    unfolding raw_trail
    trail-object k = rw (raw_trail_lem, k)

    pub trail-leaf : kind_in (first ws i) ≢ 11 → kind_in (first ws i) ≢ 12 → [] ≡ trail_text p d ws measures i
    unfolding raw_trail
    trail-leaf k l = rw (raw_trail_lem, ne_eqb _ _ k, ne_eqb _ _ l)
