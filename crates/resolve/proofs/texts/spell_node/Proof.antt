-- `texts::spell_node` meets its contract: each return by the law of its kind. Assumes nothing.
use Prim.Native.Nat.{ℕ, ◌+◌, ◌*◌, ◌^◌, ◌<◌}
use lib.ListN.{length}
use Rattle.resolve.proofs.texts.spell_node.Statement.{statement}
use Rattle.resolve.proofs.texts.spell_node.Tie as tie
use native.Mathlib.Omega.{arith}
use Rattle.value.specs.Shape.{kind_in}
use Rattle.steps.specs.NodeWords.{first, class_in}
use Rattle.resolve.specs.Spell.{stands, fits_as, spells_as, word_at, texts-string, texts-global, texts-object, texts-line, texts-unicode, bytes_stay}
use Rattle.store.specs.NodeFits.{fits_first, fits_first_at, first_in, fits_second, fits_second_at}

-- ---- the places: the node's words are read, and the tests behind that

abbrev start : tie.After-shared_slice_known-4-1 → tie.Start
start c = c.before.before.before.before.before

abbrev second : tie.Else-kind-eq-KIND_GLOBAL → tie.After-shared_slice_known-4-1
second c = c.before.before

abbrev third : tie.Else-kind-eq-KIND_OBJECT → tie.After-shared_slice_known-4-1
third c = second c.before

module _ (s : tie.Start) where
  abbrev room : length s.args.nodes.now * 8 < 2 ^ 63
  room = s.well_formed.1.1.1.0.1

  -- the class of an Object
  abbrev class : ℕ
  class = class_in (first s.args.nodes.now s.args.node.0)

-- an Object, and its class's words
abbrev object : tie.After-struct_known-1 → tie.Start
object c = start (second c.before.before)

words : (c : tie.After-struct_known-1) → 2 * class (object c) + 1 < length (object c).args.nodes.now
unfolding kind_in first class_in
words c = (object c).requires.class c.if-kind-eq-KIND_OBJECT.true

-- ---- the needs

spell-text-requires : tie.Need-spell_text-requires
unfolding kind_in first class_in
spell-text-requires c κs =
    let s = start c.before.before.before in
    fits_as (texts-string _ _ _ _ _ (word_at _ _) c.raw_text.ensures c.if-kind-eq-KIND_STRING.true) s.requires.fits

returns : tie.Need-returns-then-kind-eq-KIND_STRING
unfolding kind_in first class_in
returns c =
    let o = c.before.before.before.before in
    spells_as (texts-string _ _ _ _ _ (word_at _ _) o.raw_text.ensures o.if-kind-eq-KIND_STRING.true) c.spell_text.ensures

spell-names-requires : tie.Need-spell_names-requires
unfolding kind_in first class_in
spell-names-requires c κs =
    let m = c.before.before in
    let s = start m.before.before.before in
    fits_as (texts-global _ _ _ _ _ (word_at _ _) c.raw_text-then-kind-eq-KIND_GLOBAL.ensures m.if-kind-eq-KIND_GLOBAL.true _ m.module_text.ensures) s.requires.fits

returns-2 : tie.Need-returns-then-kind-eq-KIND_GLOBAL
unfolding kind_in first class_in
returns-2 c =
    let o = c.before.before.before.before in
    let m = o.before in
    spells_as (texts-global _ _ _ _ _ (word_at _ _) o.raw_text-then-kind-eq-KIND_GLOBAL.ensures m.if-kind-eq-KIND_GLOBAL.true _ m.module_text.ensures) c.spell_names.ensures

mul-module-text : tie.Need-overflow_mul-class
unfolding first class_in
mul-module-text c = let s = object c in fits_first (class s) s.args.nodes.now (words c) (room s)

mul-module-text-2 : tie.Need-offset_bounds-nodes-class
unfolding first class_in
mul-module-text-2 c = let s = object c in fits_first_at (class s) s.args.nodes.now (words c) (room s)

shared-slice-read-module-text : tie.Need-bounds-nodes-class
unfolding first class_in
shared-slice-read-module-text c = let s = object c.before in first_in (class s) s.args.nodes.now (words c.before) (room s)

mul-raw-text : tie.Need-overflow_mul-class-then-kind-eq-KIND_OBJECT
unfolding first class_in
mul-raw-text c = let s = object c.before.before.before in fits_first (class s) s.args.nodes.now (words c.before.before.before) (room s)

add-raw-text : tie.Need-overflow_add-class
unfolding first class_in
add-raw-text c = let s = object c.before.before.before in fits_second (class s) s.args.nodes.now (words c.before.before.before) (room s)

mul-raw-text-2 : tie.Need-offset_bounds-nodes-class-then-kind-eq-KIND_OBJECT
unfolding first class_in
mul-raw-text-2 c = let s = object c.before.before.before in fits_second_at (class s) s.args.nodes.now (words c.before.before.before) (room s)

shared-slice-read-raw-text : tie.Need-bounds-nodes-class-then-kind-eq-KIND_OBJECT
unfolding first class_in
shared-slice-read-raw-text c = words c.before.before.before.before

spell-names-requires-2 : tie.Need-spell_names-requires-then-kind-eq-KIND_OBJECT
unfolding kind_in first class_in
spell-names-requires-2 c κs =
    let o = c.before in
    let m = o.before.before.before in
    let t = m.before.before in
    let s = object t in
    fits_as (texts-object _ _ _ t.if-kind-eq-KIND_OBJECT.true _ _ (word_at _ (class s)) o.raw_text-then-kind-eq-KIND_OBJECT.ensures _ m.module_text-then-kind-eq-KIND_OBJECT.ensures) s.requires.fits

returns-3 : tie.Need-returns-then-kind-eq-KIND_OBJECT
unfolding kind_in first class_in
returns-3 c =
    let o = c.before.before.before.before in
    let m = o.before.before.before in
    let t = m.before.before in
    spells_as (texts-object _ _ _ t.if-kind-eq-KIND_OBJECT.true _ _ (word_at _ (class (object t))) o.raw_text-then-kind-eq-KIND_OBJECT.ensures _ m.module_text-then-kind-eq-KIND_OBJECT.ensures) c.spell_names-then-kind-eq-KIND_OBJECT.ensures

spell-string-requires : tie.Need-spell_string-requires
unfolding kind_in first class_in
spell-string-requires c κs =
    let o = c.before in
    let s = start (third o.before.before) in
    fits_as (texts-line _ _ _ _ _ (word_at _ _) o.raw_text-then-kind-eq-KIND_ESCAPED.ensures o.if-kind-eq-KIND_ESCAPED.true) s.requires.fits

returns-4 : tie.Need-returns-then-kind-eq-KIND_ESCAPED
unfolding kind_in first class_in
returns-4 c =
    let o = c.before.before.before.before in
    spells_as (texts-line _ _ _ _ _ (word_at _ _) o.raw_text-then-kind-eq-KIND_ESCAPED.ensures o.if-kind-eq-KIND_ESCAPED.true) (stands c.spell_string.ensures)

spell-unicode-requires : tie.Need-spell_unicode-requires
unfolding kind_in first class_in
spell-unicode-requires c κs =
    let o = c.before in
    let s = start (third o.before.before.before) in
    fits_as (texts-unicode _ _ _ _ _ (word_at _ _) o.raw_text-then-kind-eq-KIND_UNICODE.ensures o.if-kind-eq-KIND_UNICODE.true) s.requires.fits

returns-5 : tie.Need-returns-then-kind-eq-KIND_UNICODE
unfolding kind_in first class_in
returns-5 c =
    let o = c.before.before.before.before in
    spells_as (texts-unicode _ _ _ _ _ (word_at _ _) o.raw_text-then-kind-eq-KIND_UNICODE.ensures o.if-kind-eq-KIND_UNICODE.true) (stands c.spell_unicode.ensures)

returns-6 : tie.Need-returns
unfolding kind_in first class_in
returns-6 c =
    let e = c.before.before in
    let n = e.before in
    bytes_stay _ _ _ _ _ _ (start (third e)).requires.text n.if-kind-eq-KIND_STRING.false (λ a b. omega (arith, n.if-kind-eq-KIND_GLOBAL.false, e.if-kind-eq-KIND_OBJECT.false, c.if-kind-eq-KIND_ESCAPED.false, c.if-kind-eq-KIND_UNICODE.false))

pub spell_node_spec : {M : Type 1} → statement M
spell_node_spec =
    tie.close
    (tie.spec
    (λ c. let s = c.before.before.before in fits_first s.args.node.0 s.args.nodes.now s.requires.words (room s)) (λ c. let s = c.before.before.before in fits_first_at s.args.node.0 s.args.nodes.now s.requires.words (room s)) (λ c. let s = c.before.before.before.before in first_in s.args.node.0 s.args.nodes.now s.requires.words (room s)) (λ c. let s = c.before.before.before.before in fits_first s.args.node.0 s.args.nodes.now s.requires.words (room s)) (λ c. let s = c.before.before.before.before in fits_second s.args.node.0 s.args.nodes.now s.requires.words (room s)) (λ c. let s = c.before.before.before.before in fits_second_at s.args.node.0 s.args.nodes.now s.requires.words (room s)) (λ c. c.requires.words) (λ c κs. tt)
    spell-text-requires (λ c. c.spell_text.auto.decoded) returns (λ c κs. tt) (λ c κs. tt) spell-names-requires (λ c. c.spell_names.auto.decoded) returns-2 mul-module-text
    mul-module-text-2 shared-slice-read-module-text (λ c κs. tt) mul-raw-text add-raw-text mul-raw-text-2 shared-slice-read-raw-text (λ c κs. tt)
    spell-names-requires-2 (λ c. c.spell_names-then-kind-eq-KIND_OBJECT.auto.decoded) returns-3 (λ c κs. tt) spell-string-requires (λ c. c.spell_string.auto.decoded) returns-4 (λ c κs. tt)
    spell-unicode-requires (λ c. c.spell_unicode.auto.decoded) returns-5 returns-6)
