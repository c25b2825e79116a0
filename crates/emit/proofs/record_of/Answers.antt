-- The record of each kind.
use Rattle.std.proofs.Common.{◌<◌, arith}
use Rattle.value.specs.Shape.{fresh_in}
use Rattle.resolve.specs.Kinds.{kind-small}
use Rattle.emit.specs.Words.{from-object, from-none, from_bool, from-dict, from-names, from_number, from-text, from-items}
use Rattle.emit.proofs.record_of.Goals as goal

pub plain_word-word-requires : goal.plain_word-word-requires
plain_word-word-requires c = rw c.value_kind-kind.ensures (omega (arith, kind-small c.args.first))

pub returns-then-kind-eq-KIND_OBJECT : goal.returns-then-kind-eq-KIND_OBJECT
returns-then-kind-eq-KIND_OBJECT c = let a = c.args in let k = c.value_kind-kind.result in let e = c.value_kind-kind.ensures in let h = c.head_of-head.ensures in let w = rw h at c.word_of-word.ensures in let f = rw (← e) at c.requires in rw (← e) (from-object k (fresh_in a.first) a.second a.lengths a.at a.values a.size c.word_of-word.result w c.if-kind-eq-KIND_OBJECT.true (f c.if-kind-eq-KIND_OBJECT.true))

pub returns-then-kind-eq-KIND_NONE : goal.returns-then-kind-eq-KIND_NONE
returns-then-kind-eq-KIND_NONE c = let a = c.args in let k = c.value_kind-kind.result in let e = c.value_kind-kind.ensures in rw (← e) (from-none k (fresh_in a.first) a.second a.lengths a.at a.values a.size c.plain_word-word.result c.plain_word-word.ensures c.if-kind-eq-KIND_NONE.true)

pub returns-then-kind-eq-KIND_BOOL : goal.returns-then-kind-eq-KIND_BOOL
returns-then-kind-eq-KIND_BOOL c = let a = c.args in let k = c.value_kind-kind.result in let e = c.value_kind-kind.ensures in rw (← e) (from_bool k (fresh_in a.first) a.second a.lengths a.at a.values a.size c.plain_word-word.result c.plain_word-word.ensures c.if-kind-eq-KIND_BOOL.true)

pub returns-then-kind-lt-KIND_BYTES : goal.returns-then-kind-lt-KIND_BYTES
returns-then-kind-lt-KIND_BYTES c = let a = c.args in let k = c.value_kind-kind.result in let e = c.value_kind-kind.ensures in rw (← e) (from_number k (fresh_in a.first) a.second a.lengths a.at a.values a.size c.plain_word-word.result c.plain_word-word.ensures c.if-kind-eq-KIND_NONE.false c.if-kind-eq-KIND_BOOL.false c.if-kind-lt-KIND_BYTES.true)

pub returns-then-kind-lt-KIND_LIST : goal.returns-then-kind-lt-KIND_LIST
returns-then-kind-lt-KIND_LIST c = let a = c.args in let k = c.value_kind-kind.result in let e = c.value_kind-kind.ensures in rw (← e) (from-text k (fresh_in a.first) a.second a.lengths a.at a.values a.size c.plain_word-word.result c.plain_word-word.ensures c.if-kind-eq-KIND_NONE.false c.if-kind-eq-KIND_BOOL.false c.if-kind-lt-KIND_BYTES.false c.if-kind-lt-KIND_LIST.true)

pub returns-then-kind-lt-KIND_DICT : goal.returns-then-kind-lt-KIND_DICT
returns-then-kind-lt-KIND_DICT c = let a = c.args in let k = c.value_kind-kind.result in let e = c.value_kind-kind.ensures in rw (← e) (from-items k (fresh_in a.first) a.second a.lengths a.at a.values a.size c.plain_word-word.result c.plain_word-word.ensures c.if-kind-eq-KIND_NONE.false c.if-kind-eq-KIND_BOOL.false c.if-kind-lt-KIND_LIST.false c.if-kind-lt-KIND_DICT.true)

pub returns-then-kind-eq-KIND_DICT : goal.returns-then-kind-eq-KIND_DICT
returns-then-kind-eq-KIND_DICT c = let a = c.args in let k = c.value_kind-kind.result in let e = c.value_kind-kind.ensures in rw (← e) (from-dict k (fresh_in a.first) a.second a.lengths a.at a.values a.size c.plain_word-word.result c.plain_word-word.ensures c.if-kind-eq-KIND_DICT.true)

pub returns : goal.returns
returns c = let a = c.args in let k = c.value_kind-kind.result in let e = c.value_kind-kind.ensures in let s : k < 13 = rw e (kind-small a.first) in rw (← e) (from-names k (fresh_in a.first) a.second a.lengths a.at a.values a.size c.plain_word-word.result c.plain_word-word.ensures s c.if-kind-eq-KIND_OBJECT.false c.if-kind-lt-KIND_DICT.false c.if-kind-eq-KIND_DICT.false)
