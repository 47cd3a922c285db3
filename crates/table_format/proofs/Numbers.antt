-- The bits of numbers, and the number of a row.
use Rattle.std.proofs.Common.{◌≡◌, ℕ, zero, suc, ◌+◌, ◌*◌, ◌/◌, ◌%◌, ◌^◌, ◌<◌, Bool, false, eqb, List, [], ◌∷◌, ◌++◌, length, get_or, sym, refl, ap, ◌∙◌, mul-add, arith}
use native.Mathlib.Nat.{two-pow-succ}
use lib.Lanes.{mask_l}
use Rattle.std.proofs.lemmas.Nat.{shr-shr}
use Rattle.std.proofs.lemmas.Simd.{mask_l-lt, bit_mask_l}
use Rattle.std.proofs.lemmas.List.{length-append}
use Rattle.machine.specs.Rows.{bit, byte}
use Rattle.machine.proofs.RowBits.{bit_byte, byte_bit}
use Rattle.table_format.specs.Tables.{Table, rows}
use Rattle.table_format.specs.Stepping.{binary_digit, number, row_of}

number_mask : (bs : List Bool) → number bs ≡ mask_l bs
number_mask [] = refl
number_mask (b ∷ bs) = ap (λ (n : ℕ). byte b + 2 * n) (number_mask bs)

pub number_below : (bs : List Bool) → number bs < 2 ^ length bs
number_below bs = omega (arith, number_mask bs, mask_l-lt bs)

-- the bits of the number with these bits
pub bit_number : (bs : List Bool) (k : ℕ) → binary_digit (number bs) k ≡ get_or bs k false
unfolding binary_digit
bit_number bs k =
    ap (λ (n : ℕ). eqb (n / 2 ^ k % 2) 1) (number_mask bs) ∙ ap (λ (n : ℕ). eqb n 1) (bit_mask_l bs k) ∙ bit_byte (get_or bs k false)

number_append : (x s : List Bool) → number (x ++ s) ≡ number s * 2 ^ length x + number x
number_append [] s = omega arith
number_append (b ∷ x) s =
    let twice : number s * 2 ^ suc (length x) ≡ number s * 2 ^ length x + number s * 2 ^ length x =
    ap (λ (n : ℕ). number s * n) (two-pow-succ (length x)) ∙ mul-add (number s) (2 ^ length x) (2 ^ length x) in
    omega (arith, number_append x s)

-- the bits of half a number are those of the number, one further
bit_half : (a k : ℕ) → binary_digit (a / 2) k ≡ binary_digit a (suc k)
unfolding binary_digit
bit_half a k =
    let on : 1 + k ≡ suc k = omega arith in
    ap (λ (n : ℕ). eqb (n % 2) 1) (shr-shr a 1 k ∙ ap (λ (j : ℕ). a / 2 ^ j) on)

bit_lowest : (a b : ℕ) → binary_digit a 0 ≡ binary_digit b 0 → a % 2 ≡ b % 2
unfolding binary_digit
bit_lowest a b e =
    let p : a / 2 ^ 0 ≡ a = omega arith in
    let q : b / 2 ^ 0 ≡ b = omega arith in
    sym (byte_bit (a % 2) (omega arith)) ∙ ap (λ (n : ℕ). byte (bit (n % 2))) (sym p)
    ∙ ap byte e ∙ ap (λ (n : ℕ). byte (bit (n % 2))) q ∙ byte_bit (b % 2) (omega arith)

-- two numbers of n bits that have the same bits are the same
pub same_from_bits : (n a b : ℕ) → a < 2 ^ n → b < 2 ^ n → ((k : ℕ) → k < n → binary_digit a k ≡ binary_digit b k) → a ≡ b
same_from_bits zero a b la lb h = omega arith
same_from_bits (suc n) a b la lb h =
    let two = two-pow-succ n in
    let halves : a / 2 ≡ b / 2 =
    same_from_bits n (a / 2) (b / 2) (omega arith) (omega arith) (λ k l. bit_half a k ∙ h (suc k) (omega arith) ∙ sym (bit_half b k)) in
    omega (arith, bit_lowest a b (h 0 (omega arith)))

row_number : (t : Table) (s x : List Bool) → length x ≡ t.inputs → number (x ++ s) ≡ row_of t s x
row_number t s x lx = number_append x s ∙ ap (λ (n : ℕ). number s * 2 ^ n + number x) lx

-- the bits of a row are the inputs and then the state
pub row_bit : (t : Table) (s x : List Bool) (k : ℕ) → length x ≡ t.inputs → binary_digit (row_of t s x) k ≡ get_or (x ++ s) k false
row_bit t s x k lx = ap (λ (n : ℕ). binary_digit n k) (sym (row_number t s x lx)) ∙ bit_number (x ++ s) k

pub row_below : (t : Table) (s x : List Bool) → length s ≡ t.state_bits → length x ≡ t.inputs → row_of t s x < rows t
row_below t s x ls lx =
    let both : length (x ++ s) ≡ t.inputs + t.state_bits = omega (arith, length-append x s) in
    omega (arith, number_below (x ++ s), row_number t s x lx, ap (λ (n : ℕ). 2 ^ n) both)

-- the row with these bits is the row of this state and these inputs
pub row_from_bits : (t : Table) (s x : List Bool) (r : ℕ) → length s ≡ t.state_bits → length x ≡ t.inputs → r < rows t →
    ((k : ℕ) → k < t.inputs + t.state_bits → get_or (x ++ s) k false ≡ binary_digit r k) → r ≡ row_of t s x
row_from_bits t s x r ls lx l h =
    same_from_bits (t.inputs + t.state_bits) r (row_of t s x) l (row_below t s x ls lx) (λ k m. sym (row_bit t s x k lx ∙ h k m))
