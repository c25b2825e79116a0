-- A measure as one word: depth + 128 * values + 2^19 * text, values and text capped.
use Rattle.std.specs.Prelude.{ℕ, ◌+◌, ◌*◌, ◌/◌, ◌%◌, ◌<◌, ◌≤◌, min, ◌≡◌}
use Rattle.std.proofs.Common.{arith}
use Rattle.reading.specs.Measures.{Measure}

unfoldable pub pack_w : ℕ → ℕ → ℕ → ℕ
pack_w d v t = d + 128 * min v 2049 + 524288 * min t 65537

abbrev pub deep_w : ℕ → ℕ
deep_w w = w % 128

abbrev pub values_w : ℕ → ℕ
values_w w = w / 128 % 4096

abbrev pub texts_w : ℕ → ℕ
texts_w w = w / 524288 % 131072

abbrev pub measure_word : Measure → ℕ
measure_word m = pack_w m.deep m.values m.texts

-- ---- a word gives its parts back

pub deep_pack : (d v t : ℕ) → d < 128 → deep_w (pack_w d v t) ≡ d
unfolding pack_w
deep_pack d v t h = omega arith

pub values_pack : (d v t : ℕ) → d < 128 → values_w (pack_w d v t) ≡ min v 2049
unfolding pack_w
values_pack d v t h = omega arith

pub texts_pack : (d v t : ℕ) → d < 128 → texts_w (pack_w d v t) ≡ min t 65537
unfolding pack_w
texts_pack d v t h = omega arith

pub word_large : (m : Measure) → 1 ≤ m.values → 128 ≤ measure_word m
unfolding pack_w
word_large m h = omega arith
