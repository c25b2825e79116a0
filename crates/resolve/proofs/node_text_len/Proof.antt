-- `resolve::node_text_len` meets its contract: one law for each kind.
use Rattle.resolve.proofs.node_text_len.Statement.{statement}
use Rattle.resolve.proofs.node_text_len.Tie as tie
use Prim.Native.Nat.{◌+◌, ◌*◌, ◌^◌, ◌/◌, ◌<◌}
use lib.ListN.{length, get_or}
use mathlib.Core.Path.{refl}
use Rattle.resolve.specs.Length.{within-short, len_bytes, len_string, len_global, len_object, len_escaped, len_unicode, len_nothing, class_words}
use Rattle.store.specs.NodeFits.{fits_first, fits_first_at, first_in, fits_second, fits_second_at}

-- ---- the places: the node's words are read, and the tests behind that

abbrev start : tie.After-shared_slice_known-4-1 → tie.Start
start c = c.before.before.before.before

abbrev second : tie.Else-kind-eq-KIND_STRING → tie.Start
second c = start c.before.before

abbrev object : tie.After-struct_known-1 → tie.Start
object c = second c.before.before.before

-- an Object's class is one of the nodes
class : (c : tie.After-struct_known-1) → let s = object c in 2 * (get_or s.args.nodes.now (2 * s.args.node.0) 0 / 64) + 1 < length s.args.nodes.now
class c = class_words _ _ _ _ _ refl refl (object c).requires c.if-kind-eq-KIND_OBJECT.true

abbrev room : (s : tie.Start) → length s.args.nodes.now * 8 < 2 ^ 63
room s = s.well_formed.1.0.1

-- ---- the needs

returns : tie.Need-returns-then-kind-eq-KIND_BYTES
returns c = len_bytes _ _ _ _ _ refl refl _ c.if-kind-eq-KIND_BYTES.true c.raw_text-bytes.ensures

returns-2 : tie.Need-returns-then-kind-eq-KIND_STRING
returns-2 c = len_string _ _ _ _ _ refl refl _ _ c.if-kind-eq-KIND_STRING.true c.raw_text.ensures c.repaired_len.ensures

returns-3 : tie.Need-returns-then-kind-eq-KIND_GLOBAL
returns-3 c = len_global _ _ _ _ _ refl refl _ c.if-kind-eq-KIND_GLOBAL.true c.global_text_len.ensures

mul-global-text-len-4 : tie.Need-offset_bounds-nodes-class-then-kind-eq-KIND_OBJECT
mul-global-text-len-4 c = let s = object c.before.before in fits_second_at _ s.args.nodes.now (class c.before.before) (room s)

returns-4 : tie.Need-returns-then-kind-eq-KIND_OBJECT
returns-4 c = len_object _ _ _ _ _ refl refl _ c.if-kind-eq-KIND_OBJECT.true c.global_text_len-then-kind-eq-KIND_OBJECT.ensures

returns-5 : tie.Need-returns-then-kind-eq-KIND_ESCAPED
returns-5 c = len_escaped _ _ _ _ _ refl refl _ _ c.if-kind-eq-KIND_ESCAPED.true c.raw_text-then-kind-eq-KIND_ESCAPED.ensures c.string_text_len.ensures

returns-6 : tie.Need-returns-then-kind-eq-KIND_UNICODE
returns-6 c = len_unicode _ _ _ _ _ refl refl _ _ c.if-kind-eq-KIND_UNICODE.true c.raw_text-then-kind-eq-KIND_UNICODE.ensures c.unicode_text_len.ensures

returns-7 : tie.Need-returns
returns-7 c =
    let e = c.before.before in
    len_nothing _ _ _ _ _ refl refl e.if-kind-eq-KIND_BYTES.false e.if-kind-eq-KIND_STRING.false e.if-kind-eq-KIND_GLOBAL.false e.if-kind-eq-KIND_OBJECT.false c.if-kind-eq-KIND_ESCAPED.false c.if-kind-eq-KIND_UNICODE.false

pub node_text_len_spec : {M : Type 1} → statement M
node_text_len_spec =
    tie.close
    (tie.spec
    (λ c. let s = c.before.before in fits_first s.args.node.0 s.args.nodes.now s.requires.words (room s))
    (λ c. let s = c.before.before in fits_first_at s.args.node.0 s.args.nodes.now s.requires.words (room s))
    (λ c. let s = c.before.before.before in first_in s.args.node.0 s.args.nodes.now s.requires.words (room s))
    (λ c. let s = c.before.before.before in fits_first s.args.node.0 s.args.nodes.now s.requires.words (room s))
    (λ c. let s = c.before.before.before in fits_second s.args.node.0 s.args.nodes.now s.requires.words (room s))
    (λ c. let s = c.before.before.before in fits_second_at s.args.node.0 s.args.nodes.now s.requires.words (room s))
    (λ c. c.requires.words) (λ c κs. tt) returns (λ c κs. tt)
    (λ c κs. within-short _ _ 32 _ 65536 (start c.before.before.before).requires.short c.raw_text.ensures) returns-2
    (λ c κs. (start c.before.before.before).requires.short) returns-3 (λ c. let s = object c in fits_first _ s.args.nodes.now (class c) (room s))
    (λ c. let s = object c in fits_first_at _ s.args.nodes.now (class c) (room s))
    (λ c. let s = object c.before in first_in _ s.args.nodes.now (class c.before) (room s))
    (λ c. let s = object c.before.before in fits_first _ s.args.nodes.now (class c.before.before) (room s))
    (λ c. let s = object c.before.before in fits_second _ s.args.nodes.now (class c.before.before) (room s)) mul-global-text-len-4
    (λ c. class c.before.before.before) (λ c κs. (object c.before.before.before).requires.short) returns-4 (λ c κs. tt) (λ c κs. tt) returns-5
    (λ c κs. tt) (λ c κs. tt) returns-6 returns-7)
