-- What a record does at each phase, and what it leaves in the byte area.
use Rattle.std.proofs.Common.{◌≡◌, ℕ, ◌+◌, ◌-◌, ◌<◌, ◌≤◌, Bool, cond, List, [], ◌∷◌, ◌++◌, length, get_or, take, drop, set, Ok, Err, sym, ap, ◌∙◌, ⊎_elim, arith}
use Rattle.std.proofs.lemmas.List.{length-take, length-drop, length-map, map-append, take_more_set, drop-set-add, drop-set-lt}
use Rattle.std.proofs.lemmas.Bool.{cases_lt}
use Rattle.std.proofs.lemmas.Bool.Decides.{nat_tests}
use Rattle.refusal.specs.declared.faults.CertificateFault.TheVariants.{OutOfPlace, WrongNumber, Unbroken}
use Rattle.machine.specs.Meaning.{Meaning}
use Rattle.machine.specs.Rows.{bit, bits, Fillable}
use Rattle.machine.proofs.RowBits.{part_bits}
use Rattle.certificate.specs.Area.{part, SmallInputs, SmallState}
use Rattle.certificate.specs.Steps.{in_row, closing, bit_set, row_ended, claimed}

-- a bit
pub bit_late : (m : Meaning) (b left : ℕ) (x s : List Bool) → m.inputs ≤ length x → bit_set m b left x s ≡ Err OutOfPlace
bit_late m b left x s h = grind (arith, nat_tests)

pub bit_wrong : (m : Meaning) (b left : ℕ) (x s : List Bool) → length x < m.inputs → 2 ≤ b → bit_set m b left x s ≡ Err WrongNumber
bit_wrong m b left x s h k = grind (arith, nat_tests)

pub bit_goes : (m : Meaning) (b left : ℕ) (x s : List Bool) → length x < m.inputs → b < 2 → bit_set m b left x s ≡ Ok (in_row left (x ++ bit b ∷ []) s)
bit_goes m b left x s h k = grind (arith, nat_tests)

-- the end of a row
pub row_early : (m : Meaning) (o left : ℕ) (x s : List Bool) → (length x ≡ m.inputs → ⊥) → row_ended m o left x s ≡ Err OutOfPlace
row_early m o left x s h = grind (arith, nat_tests)

pub row_goes : (m : Meaning) (o left : ℕ) (x s : List Bool) → length x ≡ m.inputs → 1 < left → row_ended m o left x s ≡ Ok (in_row (left - 1) [] (m.step s x))
row_goes m o left x s h k = grind (arith, nat_tests)

pub row_last : (m : Meaning) (o left : ℕ) (x s : List Bool) (b : Bool) → length x ≡ m.inputs → left ≤ 1 → b ≡ m.broken o s x → row_ended m o left x s ≡ cond b (Ok closing) (Err Unbroken)
row_last m o left x s b h k e =
    let f : row_ended m o left x s ≡ cond (m.broken o s x) (Ok closing) (Err Unbroken) = grind (arith, nat_tests) in
    f ∙ ap (λ (y : Bool). cond y (Ok closing) (Err Unbroken)) (sym e)

-- the claim
pub claim_goes : (m : Meaning) (n : ℕ) → 1 ≤ n → n ≤ 4096 → claimed m 3 n ≡ Ok (in_row n [] m.start)
claim_goes m n a b = grind (arith, nat_tests)

-- parts of the area
pub length_part : (area : List ℕ) (a n : ℕ) → a + n ≤ length area → length (part a n area) ≡ n
length_part area a n h = omega (arith, length-take n (drop a (bits area)), length-drop a (bits area), length-map area bit)

pub part_more : (area : List ℕ) (n v : ℕ) → 1 + n < length area → part 1 (n + 1) (set area (1 + n) v) ≡ part 1 n area ++ bit v ∷ []
part_more area n v h =
    let l : n < length (drop 1 area) = omega (arith, length-drop 1 area) in
    part_bits (set area (1 + n) v) 1 (n + 1)
    ∙ ap (λ (y : List ℕ). bits (take (n + 1) y)) (drop-set-add 1 area n v)
    ∙ ap bits (take_more_set (drop 1 area) n v l)
    ∙ map-append bit (take n (drop 1 area)) (v ∷ [])
    ∙ ap (λ (y : List Bool). y ++ bit v ∷ []) (sym (part_bits area 1 n))

pub part_kept : (area : List ℕ) (a n i v : ℕ) → i < a → part a n (set area i v) ≡ part a n area
part_kept area a n i v h =
    part_bits (set area i v) a n ∙ ap (λ (y : List ℕ). bits (take n y)) (drop-set-lt a area i v h) ∙ sym (part_bits area a n)

-- a row with all its bits can be filled
pub fillable : (m : Meaning) (area : List ℕ) (n : ℕ) → m.variables ≤ length area → n ≡ m.inputs → SmallInputs n area → SmallState m area → Fillable m area
fillable m area n room e x s = record {
  room = room;
  small = λ k l.
      ⊎_elim
      (λ (a : k < m.inputs). x k (omega arith))
      (λ (b : m.inputs ≤ k). let p : 1 + m.inputs + (k - m.inputs) ≡ 1 + k = omega arith in let q = ap (λ (i : ℕ). get_or area i 0) p in omega (arith, s (k - m.inputs) (omega arith)))
      (cases_lt k m.inputs);
}
