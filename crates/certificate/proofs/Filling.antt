-- Rows in the byte area: single bytes, the parts they make, and the fit.
use Rattle.std.proofs.Common.{◌≡◌, ℕ, ◌+◌, ◌-◌, ◌/◌, ◌%◌, ◌<◌, ◌≤◌, Bool, true, false, ◌≢◌, List, length, get_or, take, drop, set, is_some, Some, Ok, Option, Result, sym, refl, ap, ◌∙◌, subst, arith, below_more}
use mir.Val.{bool_byte}
use Rattle.std.proofs.lemmas.List.{length-take, length-drop, length-map, get_or-take, get_or-drop, get_or-map, get_or-set_same, get_or-set_other}
use Rattle.refusal.specs.declared.faults.DocketFault.{DocketFault}
use Rattle.resolution.specs.Clauses.{literal_true}
use Rattle.resolution.proofs.Settings.{true_same}
use Rattle.machine.specs.Lists.{entry}
use Rattle.machine.specs.Meaning.{Meaning, Lawful, lit}
use Rattle.machine.specs.Rows.{bit, byte, bits, row_inputs, row_state, Filled, Fill}
use Rattle.machine.proofs.Entries.{entry_at}
use Rattle.machine.proofs.RowBits.{get_or_bits, bits_from, part_bits, lit_taken, byte_small}
use Rattle.certificate.specs.Area.{part, low}
use Rattle.certificate.proofs.Codes.{some_same}

-- below the length an entry is there, and it is what stands there
pub there : {A : Type 0} (xs : List A) (i : ℕ) (d : A) (r : Option A) → i < length xs → r ≡ entry xs i → is_some r ≡ true
there xs i d r l e = ap is_some (e ∙ entry_at xs i d l)

pub got : {A : Type 0} (xs : List A) (i : ℕ) (d : A) (r : Option A) (x : A) → i < length xs → r ≡ entry xs i → r ≡ Some x → x ≡ get_or xs i d
got xs i d r x l e f = some_same (sym f ∙ e ∙ entry_at xs i d l)

-- so many bytes from a place on
pub span_size : (row : List ℕ) (a n : ℕ) → a + n ≤ length row → length (take (a + n - a) (drop a row)) ≡ n
span_size row a n h = omega (arith, length-take (a + n - a) (drop a row), length-drop a row)

-- one byte more
pub one_more : (P : ℕ → ℕ → Type 0) (row : List ℕ) (a p i v : ℕ) → p ≡ a + i → p < length row → P i v →
    ((j : ℕ) → j < i → P j (get_or row (a + j) 0)) → (j : ℕ) → j < i + 1 → P j (get_or (set row p v) (a + j) 0)
one_more P row a p i v e l here below =
    below_more (λ j. P j (get_or (set row p v) (a + j) 0)) i
    (λ j h. let ne : a + j ≢ p = λ q. omega arith in subst (P j) (sym (get_or-set_other row p (a + j) v 0 ne)) (below j h))
    (subst (P i) (sym (ap (λ (q : ℕ). get_or (set row p v) q 0) (sym e) ∙ get_or-set_same row p v 0 l)) here)

-- the bytes after it stay
pub ahead : (P : ℕ → ℕ → Type 0) (row : List ℕ) (a p i v : ℕ) → p ≡ a + i →
    ((j : ℕ) → i ≤ j → P j (get_or row (a + j) 0)) → (j : ℕ) → i + 1 ≤ j → P j (get_or (set row p v) (a + j) 0)
ahead P row a p i v e after j h = let ne : a + j ≢ p = λ q. omega arith in subst (P j) (sym (get_or-set_other row p (a + j) v 0 ne)) (after j (omega arith))

pub byte_of : (b : Bool) → bool_byte b ≡ byte b
byte_of true = refl
byte_of false = refl

-- bytes that are these bits make the part
pub part_from : (row : List ℕ) (a n : ℕ) (s : List Bool) → length s ≡ n → a + n ≤ length row →
    ((k : ℕ) → k < n → get_or row (a + k) 0 ≡ byte (get_or s k false)) → part a n row ≡ s
part_from row a n s e l h =
    let w : length (take n (drop a row)) ≡ n = omega (arith, length-take n (drop a row), length-drop a row) in
    part_bits row a n ∙ bits_from (take n (drop a row)) s (w ∙ sym e)
    (λ k i. get_or-take n (drop a row) k 0 (omega arith) ∙ get_or-drop a row k 0 ∙ h k (omega arith))

pub small_from : (row : List ℕ) (a n : ℕ) (s : List Bool) → ((k : ℕ) → k < n → get_or row (a + k) 0 ≡ byte (get_or s k false)) → (k : ℕ) → k < n → get_or row (a + k) 0 < 2
small_from row a n s h k l = omega (arith, h k l, byte_small (get_or s k false))

-- a literal by the lowest bits
pub low_lit : (row old : List ℕ) (l : ℕ) → get_or row (l / 2) 0 % 2 ≡ get_or old (l / 2) 0 → literal_true (low row) l ≡ lit (bits old) l
low_lit row old l e = true_same (low row) (λ k. get_or (bits old) k false) l l refl (ap bit e ∙ sym (get_or_bits old (l / 2)))

pub small_low : (row : List ℕ) (k : ℕ) → get_or row k 0 < 2 → get_or row k 0 % 2 ≡ get_or row k 0
small_low row k h = omega arith

-- the filled row
pub was_filled : (m : Meaning) (old new : List ℕ) (r : Result (Unit {0}) DocketFault) (u : Unit {0}) → r ≡ Ok u → Fill m old new r → Filled m old new
was_filled m old new r u e h = (subst (Fill m old new) e h).1

module _ (m : Meaning) (law : Lawful m) (old new : List ℕ) (filled : Filled m old new) where
  -- the next literals under the filled row are the step
  pub next_is : (k : ℕ) → k < m.state_bits → lit (bits new) (get_or m.next k 0) ≡ get_or (m.step (row_state m old) (row_inputs m old)) k false
  next_is k l =
      let low = law.next_low k l in
      sym (lit_taken new m.variables (get_or m.next k 0) (omega arith))
      ∙ sym (get_or-map (lit (bits (take m.variables new))) m.next k 0 false (omega (arith, law.next_size)))
      ∙ sym (ap (λ (s : List Bool). get_or s k false) (law.steps (row_state m old) (row_inputs m old) (bits (take m.variables new)) filled.fits))

  pub step_size : length (m.step (row_state m old) (row_inputs m old)) ≡ m.state_bits
  step_size =
      ap length (law.steps (row_state m old) (row_inputs m old) (bits (take m.variables new)) filled.fits)
      ∙ length-map m.next (lit (bits (take m.variables new))) ∙ law.next_size

  -- the rule's literal says whether it is broken
  pub rule_is : (o : ℕ) → o < m.rules → lit (bits new) (get_or m.rule o 0) ≡ m.broken o (row_state m old) (row_inputs m old)
  rule_is o l =
      let low = law.rule_low o l in
      sym (lit_taken new m.variables (get_or m.rule o 0) (omega arith))
      ∙ sym (law.breaks (row_state m old) (row_inputs m old) (bits (take m.variables new)) o l filled.fits)
