-- Written bytes by computation, as Python and the Rust write them.
use Rattle.std.specs.Prelude.{ℕ, ◌-◌, ◌^◌, true, List, [], ◌∷◌, ◌++◌, ◌≡◌, refl, replicate}
use Rattle.op.specs.Table.{code_of, number_in, is_named, place}
use Rattle.value.specs.Value.{Forest, NoneL, I64L, ListL, TupleL, SetL, DictL, ObjectL, nil, node}
use Rattle.output.specs.Decimal.{figure, figures, no_zeros, decimal_text, signed_text}
use Rattle.ser.specs.Image.{low, high, in_i32, int_image, float_image, bytes_image, string_image, global_image, set_opening, bool_image, opening, joined, list_batch, dict_batch, one_batch, batch_size, batches_up_to, batches, items_image, tuple_mark, tuple_opcode, tuple_image, object_opcode, state_image, object_image, contents, images, framed, pickled}

-- what computes on given values
unfoldable evaluates : Unit {0}
unfolding code_of number_in is_named place figure figures no_zeros decimal_text signed_text low high in_i32 int_image float_image bytes_image string_image global_image set_opening bool_image opening joined list_batch dict_batch one_batch batch_size batches_up_to batches items_image tuple_mark tuple_opcode tuple_image object_opcode state_image object_image contents images framed pickled
evaluates = tt

abbrev i64 : ℕ → Forest → Forest
i64 b r = node (I64L b) nil r

-- [1, (2, None)], {1: -3000000000} and set([5])
pub list : pickled (record { label = ListL; contents = i64 1 (node TupleL (i64 2 (node NoneL nil nil)) nil) })
    ≡ 0x80 ∷ 2 ∷ 0x5D ∷ 0x28 ∷ 0x4B ∷ 1 ∷ 0x4B ∷ 2 ∷ 0x4E ∷ 0x86 ∷ 0x65 ∷ 0x2E ∷ []
unfolding evaluates
list = refl

pub dict : pickled (record { label = DictL; contents = i64 1 (i64 (2 ^ 64 - 3000000000) nil) })
    ≡ 0x80 ∷ 2 ∷ 0x7D ∷ 0x4B ∷ 1 ∷ 0x49 ∷ 0x2D ∷ 0x33 ∷ 0x30 ∷ 0x30 ∷ 0x30 ∷ 0x30 ∷ 0x30 ∷ 0x30 ∷ 0x30 ∷ 0x30 ∷ 0x30 ∷ 0x0A ∷ 0x73 ∷ 0x2E ∷ []
unfolding evaluates
dict = refl

pub a_set : pickled (record { label = SetL; contents = i64 5 nil })
    ≡ 0x80 ∷ 2 ∷ 0x63 ∷ 0x5F ∷ 0x5F ∷ 0x62 ∷ 0x75 ∷ 0x69 ∷ 0x6C ∷ 0x74 ∷ 0x69 ∷ 0x6E ∷ 0x5F ∷ 0x5F ∷ 0x0A ∷ 0x73 ∷ 0x65 ∷ 0x74 ∷ 0x0A ∷ 0x5D ∷ 0x4B ∷ 5 ∷ 0x61 ∷ 0x85 ∷ 0x52 ∷ 0x2E ∷ []
unfolding evaluates
a_set = refl

-- a new m.C() with the state {}
pub an_object : pickled (record { label = ObjectL (0x6D ∷ []) (0x43 ∷ []) true; contents = node TupleL nil (node DictL nil nil) })
    ≡ 0x80 ∷ 2 ∷ 0x63 ∷ 0x6D ∷ 0x0A ∷ 0x43 ∷ 0x0A ∷ 0x29 ∷ 0x81 ∷ 0x7D ∷ 0x62 ∷ 0x2E ∷ []
unfolding evaluates
an_object = refl

-- integers at the ends of their ranges: 255, 256, 65535, 65536, -1, the ends of i32 and the numbers behind them
pub ints : int_image 255 ∷ int_image 256 ∷ int_image 65535 ∷ int_image 65536 ∷ int_image (2 ^ 64 - 1) ∷ int_image (2 ^ 31 - 1) ∷ int_image (2 ^ 31) ∷ int_image (2 ^ 64 - 2 ^ 31) ∷ int_image (2 ^ 64 - 2 ^ 31 - 1) ∷ []
    ≡ (0x4B ∷ 0xFF ∷ [])
    ∷ (0x4D ∷ 0 ∷ 1 ∷ [])
    ∷ (0x4D ∷ 0xFF ∷ 0xFF ∷ [])
    ∷ (0x4A ∷ 0 ∷ 0 ∷ 1 ∷ 0 ∷ [])
    ∷ (0x4A ∷ 0xFF ∷ 0xFF ∷ 0xFF ∷ 0xFF ∷ [])
    ∷ (0x4A ∷ 0xFF ∷ 0xFF ∷ 0xFF ∷ 0x7F ∷ [])
    ∷ (0x49 ∷ 0x32 ∷ 0x31 ∷ 0x34 ∷ 0x37 ∷ 0x34 ∷ 0x38 ∷ 0x33 ∷ 0x36 ∷ 0x34 ∷ 0x38 ∷ 0x0A ∷ [])
    ∷ (0x4A ∷ 0 ∷ 0 ∷ 0 ∷ 0x80 ∷ [])
    ∷ (0x49 ∷ 0x2D ∷ 0x32 ∷ 0x31 ∷ 0x34 ∷ 0x37 ∷ 0x34 ∷ 0x38 ∷ 0x33 ∷ 0x36 ∷ 0x34 ∷ 0x39 ∷ 0x0A ∷ [])
    ∷ []
unfolding evaluates
ints = refl

-- 1.0, and 'a' and u'a'
pub a_float : float_image 0x3FF0_0000_0000_0000 ≡ 0x47 ∷ 0x3F ∷ 0xF0 ∷ 0 ∷ 0 ∷ 0 ∷ 0 ∷ 0 ∷ 0 ∷ []
unfolding evaluates
a_float = refl

pub texts : bytes_image (0x61 ∷ []) ++ string_image (0x61 ∷ []) ≡ 0x55 ∷ 1 ∷ 0x61 ∷ 0x58 ∷ 1 ∷ 0 ∷ 0 ∷ 0 ∷ 0x61 ∷ []
unfolding evaluates
texts = refl

-- 255 bytes are short, 256 are not
pub short : bytes_image (replicate 255 0x78) ≡ 0x55 ∷ 0xFF ∷ replicate 255 0x78
unfolding evaluates
short = refl

pub long : bytes_image (replicate 256 0x78) ≡ 0x54 ∷ 0 ∷ 1 ∷ 0 ∷ 0 ∷ replicate 256 0x78
unfolding evaluates
long = refl

-- 1,000 and 1,001 items, and 1,001 entries, of one byte each
abbrev nones : ℕ → List (List ℕ)
nones n = replicate n (0x4E ∷ [])

pub thousand : items_image (nones 1000) ≡ 0x28 ∷ replicate 1000 0x4E ++ (0x65 ∷ [])
unfolding evaluates
thousand = refl

pub one_more : items_image (nones 1001) ≡ 0x28 ∷ replicate 1000 0x4E ++ (0x65 ∷ 0x28 ∷ 0x4E ∷ 0x65 ∷ [])
unfolding evaluates
one_more = refl

pub entries : batches true (nones 2002) ≡ 0x28 ∷ replicate 2000 0x4E ++ (0x75 ∷ 0x4E ∷ 0x4E ∷ 0x73 ∷ [])
unfolding evaluates
entries = refl
