-- RULES A4.1 and A4.2: number and detail of each refusal, and the answer that carries them.
use Rattle.std.specs.Prelude.{ℕ}
use Rattle.refusal.specs.declared.Wanted.{Wanted}
use Rattle.refusal.specs.declared.Wanted.TheVariants.{Length, DictItems, List, Dict, Class, Arguments, Object}
use Rattle.refusal.specs.declared.Which.{Which}
use Rattle.refusal.specs.declared.Which.TheVariants.{First, Second}
use Rattle.refusal.specs.declared.Refusal.{Refusal}
use Rattle.refusal.specs.declared.Refusal.TheVariants.{ShortRoom, TooLong, EndOfInput, UnsupportedOpcode, UnsupportedProtocol, StackUnderflow, MissingMemo, InvalidLiteral, IntegerTooLarge, Invalid, TrailingData, StackFull, MarksFull, MemoFull, NodesFull, LinksFull, TooDeep, TooManyValues, TextFull, FloatOutside, BadTable, OutputFull, BadLengths, SheetShape, UnwritableName, OutsideProfile}
use Rattle.refusal.specs.declared.Answer.{Answer}

-- the details of number 10
abbrev pub wanted_detail : Wanted → ℕ
wanted_detail Length = 1
wanted_detail DictItems = 2
wanted_detail List = 3
wanted_detail Dict = 4
wanted_detail Class = 5
wanted_detail Arguments = 6
wanted_detail Object = 7

-- the details of number 21
abbrev pub which_detail : Which → ℕ
which_detail First = 1
which_detail Second = 2

-- number and detail
abbrev pub number_of : Refusal → ℕ × ℕ
number_of ShortRoom = (1, 0)
number_of TooLong = (2, 0)
number_of EndOfInput = (3, 0)
number_of (UnsupportedOpcode code) = (4, code)
number_of (UnsupportedProtocol proto) = (5, proto)
number_of StackUnderflow = (6, 0)
number_of (MissingMemo index) = (7, index)
number_of InvalidLiteral = (8, 0)
number_of IntegerTooLarge = (9, 0)
number_of (Invalid what) = (10, wanted_detail what)
number_of TrailingData = (11, 0)
number_of StackFull = (12, 0)
number_of MarksFull = (13, 0)
number_of MemoFull = (14, 0)
number_of NodesFull = (15, 0)
number_of LinksFull = (16, 0)
number_of TooDeep = (17, 0)
number_of TooManyValues = (18, 0)
number_of TextFull = (19, 0)
number_of FloatOutside = (20, 0)
number_of (BadTable which) = (21, which_detail which)
number_of OutputFull = (22, 0)
number_of BadLengths = (23, 0)
number_of SheetShape = (24, 0)
number_of UnwritableName = (25, 0)
number_of (OutsideProfile code) = (26, code)

-- a refusal has length 0 and count 0
abbrev pub refused_answer : Refusal → Answer
refused_answer why = record { number = (number_of why).0; detail = (number_of why).1; length = 0; count = 0 }
