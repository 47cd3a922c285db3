-- Rows of bytes and of bits.
use Rattle.std.proofs.Common.{◌≡◌, ℕ, zero, suc, ◌/◌, ◌<◌, Bool, true, false, List, [], ◌∷◌, length, get_or, take, drop, sym, refl, ap, ◌∙◌, arith}
use Rattle.std.proofs.lemmas.List.{ext_get_or, length-map, get_or-take, take-map, drop-map}
use Rattle.resolution.proofs.Settings.{true_same}
use Rattle.machine.specs.Meaning.{lit}
use Rattle.machine.specs.Rows.{bit, byte, bits}

pub get_or_bits : (bs : List ℕ) (k : ℕ) → get_or (bits bs) k false ≡ bit (get_or bs k 0)
get_or_bits [] k = refl
get_or_bits (b ∷ bs) zero = refl
get_or_bits (b ∷ bs) (suc k) = get_or_bits bs k

pub bit_byte : (b : Bool) → bit (byte b) ≡ b
bit_byte true = refl
bit_byte false = refl

pub byte_small : (b : Bool) → byte b < 2
byte_small true = omega arith
byte_small false = omega arith

-- a byte that is 0 or 1 is the byte of its bit
pub byte_bit : (b : ℕ) → b < 2 → byte (bit b) ≡ b
byte_bit zero h = refl
byte_bit (suc zero) h = refl
byte_bit (suc (suc b)) h = absurd (omega arith)

-- a literal has the same value under a longer row
pub lit_front : (w : List Bool) (n l : ℕ) → l / 2 < n → lit (take n w) l ≡ lit w l
lit_front w n l h = true_same (λ k. get_or (take n w) k false) (λ k. get_or w k false) l l refl (get_or-take n w (l / 2) false h)

pub lit_taken : (row : List ℕ) (n l : ℕ) → l / 2 < n → lit (bits (take n row)) l ≡ lit (bits row) l
lit_taken row n l h = ap (λ (w : List Bool). lit w l) (sym (take-map bit n row)) ∙ lit_front (bits row) n l h

-- bytes that hold these bits
pub bits_from : (bs : List ℕ) (w : List Bool) → length bs ≡ length w → ((k : ℕ) → k < length bs → get_or bs k 0 ≡ byte (get_or w k false)) → bits bs ≡ w
bits_from bs w n h =
    ext_get_or false (bits bs) w (length-map bs bit ∙ n)
    (λ k l. let k< : k < length bs = omega (arith, length-map bs bit) in get_or_bits bs k ∙ ap bit (h k k<) ∙ bit_byte (get_or w k false))

-- the bits of a part
pub part_bits : (row : List ℕ) (a n : ℕ) → take n (drop a (bits row)) ≡ bits (take n (drop a row))
part_bits row a n = ap (take n) (drop-map bit a row) ∙ take-map bit n (drop a row)
