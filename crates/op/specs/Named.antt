-- A name's own number decides to it.
use Rattle.std.proofs.Math.Option.{some}
use Rattle.std.specs.Prelude.{◌≡◌, refl}
use Rattle.op.specs.Table.{code_of, number_in, is_named, place, opcode_of, known_name, row_of, row_in}
use Rattle.op.specs.declared.Opcode.{Opcode}
use Rattle.op.specs.declared.Opcode.TheVariants.{MARK, STOP, POP, POP_MARK, DUP, FLOAT, INT, BININT, BININT1, LONG, BININT2, NONE, REDUCE, STRING, BINSTRING, SHORT_BINSTRING, UNICODE, BINUNICODE, APPEND, BUILD, GLOBAL, DICT, EMPTY_DICT, APPENDS, GET, BINGET, LONG_BINGET, LIST, EMPTY_LIST, PUT, BINPUT, LONG_BINPUT, SETITEM, TUPLE, EMPTY_TUPLE, SETITEMS, BINFLOAT, PROTO, NEWOBJ, TUPLE1, TUPLE2, TUPLE3, NEWTRUE, NEWFALSE, LONG1, LONG4}

pub named : (o : Opcode) → opcode_of (code_of o) ≡ some o
unfolding opcode_of known_name row_of row_in code_of number_in is_named place
named MARK = refl
named STOP = refl
named POP = refl
named POP_MARK = refl
named DUP = refl
named FLOAT = refl
named INT = refl
named BININT = refl
named BININT1 = refl
named LONG = refl
named BININT2 = refl
named NONE = refl
named REDUCE = refl
named STRING = refl
named BINSTRING = refl
named SHORT_BINSTRING = refl
named UNICODE = refl
named BINUNICODE = refl
named APPEND = refl
named BUILD = refl
named GLOBAL = refl
named DICT = refl
named EMPTY_DICT = refl
named APPENDS = refl
named GET = refl
named BINGET = refl
named LONG_BINGET = refl
named LIST = refl
named EMPTY_LIST = refl
named PUT = refl
named BINPUT = refl
named LONG_BINPUT = refl
named SETITEM = refl
named TUPLE = refl
named EMPTY_TUPLE = refl
named SETITEMS = refl
named BINFLOAT = refl
named PROTO = refl
named NEWOBJ = refl
named TUPLE1 = refl
named TUPLE2 = refl
named TUPLE3 = refl
named NEWTRUE = refl
named NEWFALSE = refl
named LONG1 = refl
named LONG4 = refl
