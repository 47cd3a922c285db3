-- A step goes exactly where every question at its record is answered yes.
use Rattle.std.proofs.Common.{◌≡◌, ℕ, ◌<◌, ◌≤◌, Bool, true, false, ◌≢◌, List, length, Ok, Err, Result, sym, refl, subst, ⊎_elim, arith}
use Rattle.std.proofs.lemmas.Bool.{cases_lt, cases_eq}
use Rattle.std.proofs.lemmas.Bool.Decides.{nat_tests}
use Rattle.refusal.specs.declared.faults.CertificateFault.{CertificateFault}
use Rattle.refusal.specs.declared.faults.CertificateFault.TheVariants.{OutOfPlace, WrongNumber}
use Rattle.machine.specs.Meaning.{Meaning}
use Rattle.certificate.specs.declared.record.Record.{Record}
use Rattle.certificate.specs.declared.record.Record.TheVariants.{Claim, Literal, ClauseEnd, FrameEnd, Take, Resolve, RefutationEnd, Bit, RowEnd, End}
use Rattle.certificate.specs.Steps.{View, opening, in_row, closing, closed, claimed, bit_set, row_ended, step}
use Rattle.certificate.specs.Counterexamples.{Goes, claims, sets, turns, breaks, ends, MayCome, claim_first, bit_missing, row_full, end_last, Right, No, misplaced, misnumbered, unbroken}
use Rattle.certificate.proofs.Laws.{bit_late, bit_wrong, bit_goes, row_early, row_goes, row_last, claim_goes}

-- what a step answers, told by the questions
pub data Told (m : Meaning) (o : ℕ) (v : View) (r : Record) : Result View CertificateFault → Type 0 where
  yes : {u : View} → Goes m o v r u → Told m o v r (Ok u)
  not : {f : CertificateFault} → No m o v r f → Told m o v r (Err f)

out : {m : Meaning} {o : ℕ} {v : View} {r : Record} → (MayCome m v r → ⊥) → Told m o v r (Err OutOfPlace)
out h = not (misplaced h)

-- which records a counterexample has
abbrev Used : Record → Type 0
Used (Claim claim n) = Unit {0}
Used (Literal l) = ⊥
Used ClauseEnd = ⊥
Used FrameEnd = ⊥
Used (Take n) = ⊥
Used (Resolve l r p) = ⊥
Used RefutationEnd = ⊥
Used (Bit b) = Unit {0}
Used RowEnd = Unit {0}
Used End = Unit {0}

used : {m : Meaning} {v : View} {r : Record} → MayCome m v r → Used r
used claim_first = tt
used (bit_missing l) = tt
used (row_full l) = tt
used end_last = tt

module _ (m : Meaning) (o : ℕ) where
  claim_told : (claim n : ℕ) → Told m o opening (Claim claim n) (claimed m claim n)
  claim_told claim n =
      ⊎_elim
      (λ (a : claim ≡ 3). ⊎_elim
      (λ (b : n < 1). wrong (λ h. omega arith) (grind (arith, nat_tests)))
      (λ (b : 1 ≤ n). ⊎_elim
      (λ (c : 4096 < n). wrong (λ h. omega arith) (grind (arith, nat_tests)))
      (λ (c : n ≤ 4096). subst (λ k. Told m o opening (Claim k n) (claimed m k n)) (sym a) (subst (Told m o opening (Claim 3 n)) (sym (claim_goes m n b c)) (yes (claims b c))))
      (cases_lt 4096 n))
      (cases_lt n 1))
      (λ (a : claim ≢ 3). wrong (λ h. a h.0) (grind (arith, nat_tests)))
      (cases_eq claim 3)
    where
      wrong : (Right (Claim claim n) → ⊥) → claimed m claim n ≡ Err WrongNumber → Told m o opening (Claim claim n) (claimed m claim n)
      wrong h e = subst (Told m o opening (Claim claim n)) (sym e) (not (misnumbered claim_first h))

  bit_told : (b left : ℕ) (x s : List Bool) → Told m o (in_row left x s) (Bit b) (bit_set m b left x s)
  bit_told b left x s =
      ⊎_elim
      (λ (h : length x < m.inputs). ⊎_elim
      (λ (k : b < 2). subst (Told m o (in_row left x s) (Bit b)) (sym (bit_goes m b left x s h k)) (yes (sets h k)))
      (λ (k : 2 ≤ b). subst (Told m o (in_row left x s) (Bit b)) (sym (bit_wrong m b left x s h k)) (not (misnumbered (bit_missing h) (λ z. omega arith))))
      (cases_lt b 2))
      (λ (h : m.inputs ≤ length x). subst (Told m o (in_row left x s) (Bit b)) (sym (bit_late m b left x s h)) (out (λ z. late z h)))
      (cases_lt (length x) m.inputs)
    where
      late : MayCome m (in_row left x s) (Bit b) → m.inputs ≤ length x → ⊥
      late (bit_missing l) h = omega arith

  last_told : (left : ℕ) (x s : List Bool) (b : Bool) → length x ≡ m.inputs → left ≤ 1 → b ≡ m.broken o s x → Told m o (in_row left x s) RowEnd (row_ended m o left x s)
  last_told left x s true h k e = subst (Told m o (in_row left x s) RowEnd) (sym (row_last m o left x s true h k e)) (yes (breaks h k (sym e)))
  last_told left x s false h k e = subst (Told m o (in_row left x s) RowEnd) (sym (row_last m o left x s false h k e)) (not (unbroken (row_full h) k (sym e)))

  row_told : (left : ℕ) (x s : List Bool) → Told m o (in_row left x s) RowEnd (row_ended m o left x s)
  row_told left x s =
      ⊎_elim
      (λ (h : length x ≡ m.inputs). ⊎_elim
      (λ (k : 1 < left). subst (Told m o (in_row left x s) RowEnd) (sym (row_goes m o left x s h k)) (yes (turns h k)))
      (λ (k : left ≤ 1). last_told left x s (m.broken o s x) h k refl)
      (cases_lt 1 left))
      (λ (h : length x ≢ m.inputs). subst (Told m o (in_row left x s) RowEnd) (sym (row_early m o left x s h)) (out (λ z. early z h)))
      (cases_eq (length x) m.inputs)
    where
      early : MayCome m (in_row left x s) RowEnd → (length x ≡ m.inputs → ⊥) → ⊥
      early (row_full l) h = h l

  pub told : (v : View) (r : Record) → Told m o v r (step m o v r)
  told opening (Claim claim n) = claim_told claim n
  told (in_row left x s) (Claim claim n) = out (λ z. elim z [ ])
  told closing (Claim claim n) = out (λ z. elim z [ ])
  told closed (Claim claim n) = out (λ z. elim z [ ])
  told v (Literal l) = out used
  told v ClauseEnd = out used
  told v FrameEnd = out used
  told v (Take n) = out used
  told v (Resolve l r p) = out used
  told v RefutationEnd = out used
  told opening (Bit b) = out (λ z. elim z [ ])
  told (in_row left x s) (Bit b) = bit_told b left x s
  told closing (Bit b) = out (λ z. elim z [ ])
  told closed (Bit b) = out (λ z. elim z [ ])
  told opening RowEnd = out (λ z. elim z [ ])
  told (in_row left x s) RowEnd = row_told left x s
  told closing RowEnd = out (λ z. elim z [ ])
  told closed RowEnd = out (λ z. elim z [ ])
  told opening End = out (λ z. elim z [ ])
  told (in_row left x s) End = out (λ z. elim z [ ])
  told closing End = yes ends
  told closed End = out (λ z. elim z [ ])

  went : (v u : View) (r : Record) → Told m o v r (Ok u) → Goes m o v r u
  went v u r (yes g) = g

  refused : (v : View) (f : CertificateFault) (r : Record) → Told m o v r (Err f) → No m o v r f
  refused v f r (not n) = n

  pub step_goes : (v u : View) (r : Record) → step m o v r ≡ Ok u → Goes m o v r u
  step_goes v u r e = went v u r (subst (Told m o v r) e (told v r))

  pub step_stops : (v : View) (f : CertificateFault) (r : Record) → step m o v r ≡ Err f → No m o v r f
  step_stops v f r e = refused v f r (subst (Told m o v r) e (told v r))

  pub goes_step : {v u : View} {r : Record} → Goes m o v r u → step m o v r ≡ Ok u
  goes_step (claims {n = n} a b) = claim_goes m n a b
  goes_step (sets {left = left} {b = b} {bits = x} {state = s} h k) = bit_goes m b left x s h k
  goes_step (turns {left = left} {bits = x} {state = s} h k) = row_goes m o left x s h k
  goes_step (breaks {left = left} {bits = x} {state = s} h k e) = row_last m o left x s true h k (sym e)
  goes_step ends = refl
