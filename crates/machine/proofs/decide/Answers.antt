-- The match over the opcode byte: what the edition has against it, or each arm its opcode's definition.
use Rattle.std.proofs.Common.{◌≡◌, Option, None, Some, ℕ, ◌<◌, ◌≤◌, Result, List, length, get_or, sym, ◌∙◌, arith, rules}
use Rattle.refusal.specs.declared.Refusal.{Refusal}
use Rattle.op.specs.Edition.{against, highest}
use Rattle.op.specs.Table.{code_of, number_in, is_named, place}
use Rattle.op.specs.declared.Edition.{Edition}
use Rattle.op.specs.declared.Objection.{Objection}
use Rattle.op.specs.declared.Objection.TheVariants.{Outside, Unknown}
use Rattle.op.specs.declared.Opcode.{Opcode}
use Rattle.op.specs.declared.Opcode.TheVariants.{MARK, STOP, POP, POP_MARK, DUP, FLOAT, INT, BININT, BININT1, LONG, BININT2, NONE, REDUCE, STRING, BINSTRING, SHORT_BINSTRING, UNICODE, BINUNICODE, APPEND, BUILD, GLOBAL, DICT, EMPTY_DICT, APPENDS, GET, BINGET, LONG_BINGET, LIST, EMPTY_LIST, PUT, BINPUT, LONG_BINPUT, SETITEM, TUPLE, EMPTY_TUPLE, SETITEMS, BINFLOAT, PROTO, NEWOBJ, NEWTRUE, NEWFALSE, LONG1, LONG4}
use Rattle.steps.specs.Opcodes.{binint1, binint2}
use Rattle.steps.specs.Run.{does, step}
use Rattle.store.specs.declared.Counts.{Counts}
use Rattle.store.specs.declared.Effect.{Effect}
use Rattle.store.specs.Rooms.{Rooms}
use Rattle.store.specs.Effects.{Decides}
use Rattle.machine.specs.RoomsOf.{Agrees, c₁, ended, lent, outside_it, unknown_to_it, arm, unsupported, tuples, no_name, marks, stop, none_pushed, true_pushed, false_pushed, list_pushed, tuple_pushed, dict_pushed}
use Rattle.machine.proofs.decide.Goals as goal

apart : {m n : ℕ} → m ≤ n → n < m → ⊥
apart h l = omega arith

-- the arm of the opcode o; those that read nothing more are the same for every highest protocol, so 0 is as good
says : (p n d s m k h : List ℕ) (c : Counts) (ed : Edition) (x : Option Objection) → c.at < length p → x ≡ None → x ≡ against ed (get_or p c.at 0)
    → (o : Opcode) (Q : Rooms → Type 0) (e : Result Effect Refusal) → get_or p c.at 0 ≡ code_of o → ((r : Rooms) → Agrees p n d s m k h r → Q r)
    → Decides (c₁ p n d s m k h c) Q (does (highest ed) o) e → Decides c (Agrees p n d s m k h) (step ed) e
says p n d s m k h c ed x l i j = arm p n d s m k h c ed l (sym i ∙ j)

pub returns-then-pickle-c : goal.returns-then-pickle-c
returns-then-pickle-c c = ended _ _ _ _ _ _ _ _ _ c.if-pickle-c.true

pub returns-in-Some-Outside : goal.returns-in-Some-Outside
returns-in-Some-Outside c =
    let e : c.against.result ≡ Some Outside = search rules in
    outside_it _ _ _ _ _ _ _ _ _ c.if-pickle-c.false (sym e ∙ c.against.ensures)

pub returns-in-Some-Unknown : goal.returns-in-Some-Unknown
returns-in-Some-Unknown c =
    let e : c.against.result ≡ Some Unknown = search rules in
    unknown_to_it _ _ _ _ _ _ _ _ _ c.if-pickle-c.false (sym e ∙ c.against.ensures)

pub pop_mark-requires : goal.pop_mark-requires
pop_mark-requires c = lent _ _ _ _ _ _ _ _ c.if-pickle-c.false _ c.requires (λ r a. a.marks)

pub dup-requires : goal.dup-requires
dup-requires c = lent _ _ _ _ _ _ _ _ c.if-pickle-c.false _ c.requires (λ r a. a.stack)

pub float-requires : goal.float-requires
float-requires c = lent _ _ _ _ _ _ _ _ c.if-pickle-c.false _ c.requires (λ r a. a.pickle)

pub int-requires : goal.int-requires
int-requires c = lent _ _ _ _ _ _ _ _ c.if-pickle-c.false _ c.requires (λ r a. a.pickle)

pub binint-requires : goal.binint-requires
binint-requires c = lent _ _ _ _ _ _ _ _ c.if-pickle-c.false _ c.requires (λ r a. a.pickle)

pub long-requires : goal.long-requires
long-requires c = lent _ _ _ _ _ _ _ _ c.if-pickle-c.false _ c.requires (λ r a. a.pickle)

pub reduce-requires : goal.reduce-requires
reduce-requires c = lent _ _ _ _ _ _ _ _ c.if-pickle-c.false _ c.requires (λ r a. (a.pickle, a.nodes, a.children, a.stack))

pub string-requires : goal.string-requires
string-requires c = lent _ _ _ _ _ _ _ _ c.if-pickle-c.false _ c.requires (λ r a. a.pickle)

pub binstring-requires : goal.binstring-requires
binstring-requires c = lent _ _ _ _ _ _ _ _ c.if-pickle-c.false _ c.requires (λ r a. a.pickle)

pub short_binstring-requires : goal.short_binstring-requires
short_binstring-requires c = lent _ _ _ _ _ _ _ _ c.if-pickle-c.false _ c.requires (λ r a. a.pickle)

pub unicode-requires : goal.unicode-requires
unicode-requires c = lent _ _ _ _ _ _ _ _ c.if-pickle-c.false _ c.requires (λ r a. a.pickle)

pub binunicode-requires : goal.binunicode-requires
binunicode-requires c = lent _ _ _ _ _ _ _ _ c.if-pickle-c.false _ c.requires (λ r a. a.pickle)

pub append-requires : goal.append-requires
append-requires c = lent _ _ _ _ _ _ _ _ c.if-pickle-c.false _ c.requires (λ r a. (a.nodes, a.stack))

pub build_state-requires : goal.build_state-requires
build_state-requires c = lent _ _ _ _ _ _ _ _ c.if-pickle-c.false _ c.requires (λ r a. (a.nodes, a.stack))

pub dict-requires : goal.dict-requires
dict-requires c = lent _ _ _ _ _ _ _ _ c.if-pickle-c.false _ c.requires (λ r a. a.marks)

pub appends-requires : goal.appends-requires
appends-requires c = lent _ _ _ _ _ _ _ _ c.if-pickle-c.false _ c.requires (λ r a. (a.nodes, a.stack, a.marks))

pub list-requires : goal.list-requires
list-requires c = lent _ _ _ _ _ _ _ _ c.if-pickle-c.false _ c.requires (λ r a. a.marks)

pub setitem-requires : goal.setitem-requires
setitem-requires c = lent _ _ _ _ _ _ _ _ c.if-pickle-c.false _ c.requires (λ r a. (a.nodes, a.stack))

pub tuple-requires : goal.tuple-requires
tuple-requires c = lent _ _ _ _ _ _ _ _ c.if-pickle-c.false _ c.requires (λ r a. a.marks)

pub setitems-requires : goal.setitems-requires
setitems-requires c = lent _ _ _ _ _ _ _ _ c.if-pickle-c.false _ c.requires (λ r a. (a.nodes, a.stack, a.marks))

pub binfloat-requires : goal.binfloat-requires
binfloat-requires c = lent _ _ _ _ _ _ _ _ c.if-pickle-c.false _ c.requires (λ r a. a.pickle)

pub proto-requires : goal.proto-requires
proto-requires c = lent _ _ _ _ _ _ _ _ c.if-pickle-c.false _ c.requires (λ r a. a.pickle)

pub newobj-requires : goal.newobj-requires
newobj-requires c = lent _ _ _ _ _ _ _ _ c.if-pickle-c.false _ c.requires (λ r a. (a.nodes, a.stack))

pub global-requires : goal.global-requires
global-requires c = lent _ _ _ _ _ _ _ _ c.if-pickle-c.false _ c.requires (λ r a. a.pickle)

pub unsigned-requires : goal.unsigned-requires
unsigned-requires c = (lent _ _ _ _ _ _ _ _ c.if-pickle-c.false _ c.requires (λ r a. a.pickle), omega arith)

pub unsigned-requires-in-77 : goal.unsigned-requires-in-77
unsigned-requires-in-77 c = (lent _ _ _ _ _ _ _ _ c.if-pickle-c.false _ c.requires (λ r a. a.pickle), omega arith)

pub get_by-requires : goal.get_by-requires
get_by-requires c = lent _ _ _ _ _ _ _ _ c.if-pickle-c.false _ c.requires (λ r a. (a.pickle, a.keys, a.held))

pub get_by-requires-in-104 : goal.get_by-requires-in-104
get_by-requires-in-104 c = lent _ _ _ _ _ _ _ _ c.if-pickle-c.false _ c.requires (λ r a. (a.pickle, a.keys, a.held))

pub get_by-requires-in-106 : goal.get_by-requires-in-106
get_by-requires-in-106 c = lent _ _ _ _ _ _ _ _ c.if-pickle-c.false _ c.requires (λ r a. (a.pickle, a.keys, a.held))

pub put_by-requires : goal.put_by-requires
put_by-requires c = lent _ _ _ _ _ _ _ _ c.if-pickle-c.false _ c.requires (λ r a. (a.pickle, a.stack))

pub put_by-requires-in-113 : goal.put_by-requires-in-113
put_by-requires-in-113 c = lent _ _ _ _ _ _ _ _ c.if-pickle-c.false _ c.requires (λ r a. (a.pickle, a.stack))

pub put_by-requires-in-114 : goal.put_by-requires-in-114
put_by-requires-in-114 c = lent _ _ _ _ _ _ _ _ c.if-pickle-c.false _ c.requires (λ r a. (a.pickle, a.stack))

pub returns-in-40 : goal.returns-in-40
unfolding does code_of number_in is_named place binint1 binint2
returns-in-40 c = says _ _ _ _ _ _ _ _ _ _ c.if-pickle-c.false c.in-None.is c.against.ensures MARK _ _ c.in-40.is (λ r a. tt) (marks 0 _)

pub returns-in-46 : goal.returns-in-46
unfolding does code_of number_in is_named place binint1 binint2
returns-in-46 c = says _ _ _ _ _ _ _ _ _ _ c.if-pickle-c.false c.in-None.is c.against.ensures STOP _ _ c.in-46.is (λ r a. tt) (stop 0 _)

pub returns-in-48 : goal.returns-in-48
unfolding does code_of number_in is_named place binint1 binint2
returns-in-48 c = says _ _ _ _ _ _ _ _ _ _ c.if-pickle-c.false c.in-None.is c.against.ensures POP _ _ c.in-48.is (λ r a. tt) c.pop.ensures

pub returns-in-49 : goal.returns-in-49
unfolding does code_of number_in is_named place binint1 binint2
returns-in-49 c = says _ _ _ _ _ _ _ _ _ _ c.if-pickle-c.false c.in-None.is c.against.ensures POP_MARK _ _ c.in-49.is (λ r a. a.marks) c.pop_mark.ensures

pub returns-in-50 : goal.returns-in-50
unfolding does code_of number_in is_named place binint1 binint2
returns-in-50 c = says _ _ _ _ _ _ _ _ _ _ c.if-pickle-c.false c.in-None.is c.against.ensures DUP _ _ c.in-50.is (λ r a. a.stack) c.dup.ensures

pub returns-in-70 : goal.returns-in-70
unfolding does code_of number_in is_named place binint1 binint2
returns-in-70 c = says _ _ _ _ _ _ _ _ _ _ c.if-pickle-c.false c.in-None.is c.against.ensures FLOAT _ _ c.in-70.is (λ r a. a.pickle) c.float.ensures

pub returns-in-73 : goal.returns-in-73
unfolding does code_of number_in is_named place binint1 binint2
returns-in-73 c = says _ _ _ _ _ _ _ _ _ _ c.if-pickle-c.false c.in-None.is c.against.ensures INT _ _ c.in-73.is (λ r a. a.pickle) c.int.ensures

pub returns-in-74 : goal.returns-in-74
unfolding does code_of number_in is_named place binint1 binint2
returns-in-74 c = says _ _ _ _ _ _ _ _ _ _ c.if-pickle-c.false c.in-None.is c.against.ensures BININT _ _ c.in-74.is (λ r a. a.pickle) c.binint.ensures

pub returns-in-75 : goal.returns-in-75
unfolding does code_of number_in is_named place binint1 binint2
returns-in-75 c = says _ _ _ _ _ _ _ _ _ _ c.if-pickle-c.false c.in-None.is c.against.ensures BININT1 _ _ c.in-75.is (λ r a. a.pickle) c.unsigned.ensures

pub returns-in-76 : goal.returns-in-76
unfolding does code_of number_in is_named place binint1 binint2
returns-in-76 c = says _ _ _ _ _ _ _ _ _ _ c.if-pickle-c.false c.in-None.is c.against.ensures LONG _ _ c.in-76.is (λ r a. a.pickle) c.long.ensures

pub returns-in-77 : goal.returns-in-77
unfolding does code_of number_in is_named place binint1 binint2
returns-in-77 c = says _ _ _ _ _ _ _ _ _ _ c.if-pickle-c.false c.in-None.is c.against.ensures BININT2 _ _ c.in-77.is (λ r a. a.pickle) c.unsigned-in-77.ensures

pub returns-in-78 : goal.returns-in-78
unfolding does code_of number_in is_named place binint1 binint2
returns-in-78 c = says _ _ _ _ _ _ _ _ _ _ c.if-pickle-c.false c.in-None.is c.against.ensures NONE _ _ c.in-78.is (λ r a. tt) (none_pushed 0 _)

pub returns-in-82 : goal.returns-in-82
unfolding does code_of number_in is_named place binint1 binint2
returns-in-82 c = says _ _ _ _ _ _ _ _ _ _ c.if-pickle-c.false c.in-None.is c.against.ensures REDUCE _ _ c.in-82.is (λ r a. (a.pickle, a.nodes, a.children, a.stack)) c.reduce.ensures

pub returns-in-83 : goal.returns-in-83
unfolding does code_of number_in is_named place binint1 binint2
returns-in-83 c = says _ _ _ _ _ _ _ _ _ _ c.if-pickle-c.false c.in-None.is c.against.ensures STRING _ _ c.in-83.is (λ r a. a.pickle) c.string.ensures

pub returns-in-84 : goal.returns-in-84
unfolding does code_of number_in is_named place binint1 binint2
returns-in-84 c = says _ _ _ _ _ _ _ _ _ _ c.if-pickle-c.false c.in-None.is c.against.ensures BINSTRING _ _ c.in-84.is (λ r a. a.pickle) c.binstring.ensures

pub returns-in-85 : goal.returns-in-85
unfolding does code_of number_in is_named place binint1 binint2
returns-in-85 c = says _ _ _ _ _ _ _ _ _ _ c.if-pickle-c.false c.in-None.is c.against.ensures SHORT_BINSTRING _ _ c.in-85.is (λ r a. a.pickle) c.short_binstring.ensures

pub returns-in-86 : goal.returns-in-86
unfolding does code_of number_in is_named place binint1 binint2
returns-in-86 c = says _ _ _ _ _ _ _ _ _ _ c.if-pickle-c.false c.in-None.is c.against.ensures UNICODE _ _ c.in-86.is (λ r a. a.pickle) c.unicode.ensures

pub returns-in-88 : goal.returns-in-88
unfolding does code_of number_in is_named place binint1 binint2
returns-in-88 c = says _ _ _ _ _ _ _ _ _ _ c.if-pickle-c.false c.in-None.is c.against.ensures BINUNICODE _ _ c.in-88.is (λ r a. a.pickle) c.binunicode.ensures

pub returns-in-97 : goal.returns-in-97
unfolding does code_of number_in is_named place binint1 binint2
returns-in-97 c = says _ _ _ _ _ _ _ _ _ _ c.if-pickle-c.false c.in-None.is c.against.ensures APPEND _ _ c.in-97.is (λ r a. (a.nodes, a.stack)) c.append.ensures

pub returns-in-98 : goal.returns-in-98
unfolding does code_of number_in is_named place binint1 binint2
returns-in-98 c = says _ _ _ _ _ _ _ _ _ _ c.if-pickle-c.false c.in-None.is c.against.ensures BUILD _ _ c.in-98.is (λ r a. (a.nodes, a.stack)) c.build_state.ensures

pub returns-in-99 : goal.returns-in-99
unfolding does code_of number_in is_named place binint1 binint2
returns-in-99 c = says _ _ _ _ _ _ _ _ _ _ c.if-pickle-c.false c.in-None.is c.against.ensures GLOBAL _ _ c.in-99.is (λ r a. a.pickle) c.global.ensures

pub returns-in-100 : goal.returns-in-100
unfolding does code_of number_in is_named place binint1 binint2
returns-in-100 c = says _ _ _ _ _ _ _ _ _ _ c.if-pickle-c.false c.in-None.is c.against.ensures DICT _ _ c.in-100.is (λ r a. a.marks) c.dict.ensures

pub returns-in-125 : goal.returns-in-125
unfolding does code_of number_in is_named place binint1 binint2
returns-in-125 c = says _ _ _ _ _ _ _ _ _ _ c.if-pickle-c.false c.in-None.is c.against.ensures EMPTY_DICT _ _ c.in-125.is (λ r a. tt) (dict_pushed 0 _)

pub returns-in-101 : goal.returns-in-101
unfolding does code_of number_in is_named place binint1 binint2
returns-in-101 c = says _ _ _ _ _ _ _ _ _ _ c.if-pickle-c.false c.in-None.is c.against.ensures APPENDS _ _ c.in-101.is (λ r a. (a.nodes, a.stack, a.marks)) c.appends.ensures

pub returns-in-103 : goal.returns-in-103
unfolding does code_of number_in is_named place binint1 binint2
returns-in-103 c = says _ _ _ _ _ _ _ _ _ _ c.if-pickle-c.false c.in-None.is c.against.ensures GET _ _ c.in-103.is (λ r a. (a.pickle, a.keys, a.held)) c.get_by.ensures

pub returns-in-104 : goal.returns-in-104
unfolding does code_of number_in is_named place binint1 binint2
returns-in-104 c = says _ _ _ _ _ _ _ _ _ _ c.if-pickle-c.false c.in-None.is c.against.ensures BINGET _ _ c.in-104.is (λ r a. (a.pickle, a.keys, a.held)) c.get_by-in-104.ensures

pub returns-in-106 : goal.returns-in-106
unfolding does code_of number_in is_named place binint1 binint2
returns-in-106 c = says _ _ _ _ _ _ _ _ _ _ c.if-pickle-c.false c.in-None.is c.against.ensures LONG_BINGET _ _ c.in-106.is (λ r a. (a.pickle, a.keys, a.held)) c.get_by-in-106.ensures

pub returns-in-108 : goal.returns-in-108
unfolding does code_of number_in is_named place binint1 binint2
returns-in-108 c = says _ _ _ _ _ _ _ _ _ _ c.if-pickle-c.false c.in-None.is c.against.ensures LIST _ _ c.in-108.is (λ r a. a.marks) c.list.ensures

pub returns-in-93 : goal.returns-in-93
unfolding does code_of number_in is_named place binint1 binint2
returns-in-93 c = says _ _ _ _ _ _ _ _ _ _ c.if-pickle-c.false c.in-None.is c.against.ensures EMPTY_LIST _ _ c.in-93.is (λ r a. tt) (list_pushed 0 _)

pub returns-in-112 : goal.returns-in-112
unfolding does code_of number_in is_named place binint1 binint2
returns-in-112 c = says _ _ _ _ _ _ _ _ _ _ c.if-pickle-c.false c.in-None.is c.against.ensures PUT _ _ c.in-112.is (λ r a. (a.pickle, a.stack)) c.put_by.ensures

pub returns-in-113 : goal.returns-in-113
unfolding does code_of number_in is_named place binint1 binint2
returns-in-113 c = says _ _ _ _ _ _ _ _ _ _ c.if-pickle-c.false c.in-None.is c.against.ensures BINPUT _ _ c.in-113.is (λ r a. (a.pickle, a.stack)) c.put_by-in-113.ensures

pub returns-in-114 : goal.returns-in-114
unfolding does code_of number_in is_named place binint1 binint2
returns-in-114 c = says _ _ _ _ _ _ _ _ _ _ c.if-pickle-c.false c.in-None.is c.against.ensures LONG_BINPUT _ _ c.in-114.is (λ r a. (a.pickle, a.stack)) c.put_by-in-114.ensures

pub returns-in-115 : goal.returns-in-115
unfolding does code_of number_in is_named place binint1 binint2
returns-in-115 c = says _ _ _ _ _ _ _ _ _ _ c.if-pickle-c.false c.in-None.is c.against.ensures SETITEM _ _ c.in-115.is (λ r a. (a.nodes, a.stack)) c.setitem.ensures

pub returns-in-116 : goal.returns-in-116
unfolding does code_of number_in is_named place binint1 binint2
returns-in-116 c = says _ _ _ _ _ _ _ _ _ _ c.if-pickle-c.false c.in-None.is c.against.ensures TUPLE _ _ c.in-116.is (λ r a. a.marks) c.tuple.ensures

pub returns-in-41 : goal.returns-in-41
unfolding does code_of number_in is_named place binint1 binint2
returns-in-41 c = says _ _ _ _ _ _ _ _ _ _ c.if-pickle-c.false c.in-None.is c.against.ensures EMPTY_TUPLE _ _ c.in-41.is (λ r a. tt) (tuple_pushed 0 _)

pub returns-in-117 : goal.returns-in-117
unfolding does code_of number_in is_named place binint1 binint2
returns-in-117 c = says _ _ _ _ _ _ _ _ _ _ c.if-pickle-c.false c.in-None.is c.against.ensures SETITEMS _ _ c.in-117.is (λ r a. (a.nodes, a.stack, a.marks)) c.setitems.ensures

pub returns-in-71 : goal.returns-in-71
unfolding does code_of number_in is_named place binint1 binint2
returns-in-71 c = says _ _ _ _ _ _ _ _ _ _ c.if-pickle-c.false c.in-None.is c.against.ensures BINFLOAT _ _ c.in-71.is (λ r a. a.pickle) c.binfloat.ensures

pub returns-in-128 : goal.returns-in-128
unfolding does code_of number_in is_named place binint1 binint2
returns-in-128 c = says _ _ _ _ _ _ _ _ _ _ c.if-pickle-c.false c.in-None.is c.against.ensures PROTO _ _ c.in-128.is (λ r a. a.pickle) (rw c.highest.ensures at c.proto.ensures)

pub returns-in-129 : goal.returns-in-129
unfolding does code_of number_in is_named place binint1 binint2
returns-in-129 c = says _ _ _ _ _ _ _ _ _ _ c.if-pickle-c.false c.in-None.is c.against.ensures NEWOBJ _ _ c.in-129.is (λ r a. (a.nodes, a.stack)) c.newobj.ensures

pub returns-in-136 : goal.returns-in-136
unfolding does code_of number_in is_named place binint1 binint2
returns-in-136 c = says _ _ _ _ _ _ _ _ _ _ c.if-pickle-c.false c.in-None.is c.against.ensures NEWTRUE _ _ c.in-136.is (λ r a. tt) (true_pushed 0 _)

pub returns-in-137 : goal.returns-in-137
unfolding does code_of number_in is_named place binint1 binint2
returns-in-137 c = says _ _ _ _ _ _ _ _ _ _ c.if-pickle-c.false c.in-None.is c.against.ensures NEWFALSE _ _ c.in-137.is (λ r a. tt) (false_pushed 0 _)

pub returns-in-138 : goal.returns-in-138
unfolding does code_of number_in is_named place binint1 binint2
returns-in-138 c = says _ _ _ _ _ _ _ _ _ _ c.if-pickle-c.false c.in-None.is c.against.ensures LONG1 _ _ c.in-138.is (λ r a. a.pickle) (c.long_n.ensures _ _ c.long_at.ensures)

pub returns-in-139 : goal.returns-in-139
unfolding does code_of number_in is_named place binint1 binint2
returns-in-139 c = says _ _ _ _ _ _ _ _ _ _ c.if-pickle-c.false c.in-None.is c.against.ensures LONG4 _ _ c.in-139.is (λ r a. a.pickle) (c.long_n-in-139.ensures _ _ c.long_at-in-139.ensures)

pub returns-in-133-to-135 : goal.returns-in-133-to-135
returns-in-133-to-135 c = tuples _ _ _ _ _ _ _ _ _ c.if-pickle-c.false (sym c.in-None.is ∙ c.against.ensures) _ c.in-133-to-135.if-code-lt133-own.false c.in-133-to-135.if-code-lt136-own.true c.small_tuple.ensures

pub returns-in_default : goal.returns-in_default
unfolding code_of number_in is_named place
returns-in_default c = unsupported _ _ _ _ _ _ _ _ _ c.if-pickle-c.false (sym c.in-None.is ∙ c.against.ensures) (no_name _ c.in_default.in_default-own.rest (λ x y. apart x c.in_default.if-code-lt133-own.true))

pub returns-in_default-2 : goal.returns-in_default-2
unfolding code_of number_in is_named place
returns-in_default-2 c = unsupported _ _ _ _ _ _ _ _ _ c.if-pickle-c.false (sym c.in-None.is ∙ c.against.ensures) (no_name _ c.in_default.in_default-own.rest (λ x y. apart c.in_default.if-code-lt136-own.false y))
