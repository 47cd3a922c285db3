-- The number of a row, made from its last bit to its first.
use Rattle.std.proofs.Common.{◌≡◌, ℕ, suc, ◌+◌, ◌*◌, ◌%◌, ◌<◌, ◌≤◌, List, [], ◌∷◌, length, get_or, reverse, fold, refl, ap, ◌∙◌, arith, pow_mono}
use lib.Bits.{bit_or}
use Rattle.std.proofs.lemmas.Grind.{or_after_shift, reverse_onto}
use Rattle.std.proofs.lemmas.List.{length-map}
use Rattle.std.proofs.lemmas.List.Sums.{fold-append}
use Rattle.machine.specs.Rows.{bit, bits}
use Rattle.machine.proofs.RowBits.{byte_bit}
use Rattle.table_format.specs.Stepping.{number}
use Rattle.table_format.proofs.Numbers.{number_below}

-- a word with one bit more below its own
abbrev pub with_bit : ℕ → ℕ → ℕ
with_bit sum byte = bit_or (sum * 2 % 18446744073709551616) byte

pub number_folded : (ys : List ℕ) → length ys ≤ 10 → ((k : ℕ) → k < length ys → get_or ys k 0 < 2) → fold with_bit 0 (reverse ys) ≡ number (bits ys)
number_folded [] few small = refl
number_folded (y ∷ ys) few small =
    let rest : fold with_bit 0 (reverse ys) ≡ number (bits ys) = number_folded ys (omega arith) (λ k l. small (suc k) (omega arith)) in
    let y< : y < 2 = small 0 (omega arith) in
    let size : length (bits ys) ≤ 10 = omega (arith, length-map ys bit) in
    let low : number (bits ys) * 2 < 18446744073709551616 = omega (arith, number_below (bits ys), pow_mono size) in
    let last : with_bit (number (bits ys)) y ≡ number (bits ys) * 2 + y = or_after_shift (number (bits ys)) 2 18446744073709551616 y refl y< low in
    ap (fold with_bit 0) (reverse_onto ys y []) ∙ fold-append with_bit 0 (reverse ys) (y ∷ []) ∙ ap (λ a. with_bit a y) rest ∙ omega (arith, last, byte_bit y y<)
