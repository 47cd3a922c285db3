-- Records that lead to the end are the certificate of a run that breaks the rule, and the other way round.
use Rattle.std.proofs.Common.{◌≡◌, ℕ, zero, suc, ◌+◌, ◌-◌, ◌≤◌, Bool, true, List, [], ◌∷◌, ◌++◌, length, get_or, sym, refl, ap, ◌∙◌, subst, append_assoc, arith}
use Rattle.std.proofs.lemmas.List.{length-append, append-nil}
use Rattle.std.specs.List.{AllByRecursion}
use Rattle.machine.specs.Meaning.{Meaning}
use Rattle.machine.specs.Rows.{bit, byte}
use Rattle.machine.specs.Runs.{Run, Breaks, state_at}
use Rattle.machine.proofs.RowBits.{bit_byte, byte_bit, byte_small}
use Rattle.certificate.specs.declared.record.Record.{Record}
use Rattle.certificate.specs.declared.record.Record.TheVariants.{Claim, Bit, RowEnd, End}
use Rattle.certificate.specs.Steps.{View, opening, in_row, closing, closed}
use Rattle.certificate.specs.Counterexamples.{row_records, rows_records, certificate, Goes, claims, sets, turns, breaks, ends, Leads}

-- the state of row t of a run that begins in state s
abbrev state_from : Meaning → List Bool → List (List Bool) → ℕ → List Bool
state_from m s rows zero = s
state_from m s rows (suc t) = m.step (state_from m s rows t) (get_or rows t [])

at_from : (m : Meaning) (rows : List (List Bool)) (t : ℕ) → state_at m rows t ≡ state_from m m.start rows t
at_from m rows zero = refl
at_from m rows (suc t) = ap (λ (s : List Bool). m.step s (get_or rows t [])) (at_from m rows t)

from_next : (m : Meaning) (s x : List Bool) (rows : List (List Bool)) (t : ℕ) → state_from m s (x ∷ rows) (suc t) ≡ state_from m (m.step s x) rows t
from_next m s x rows zero = refl
from_next m s x rows (suc t) = ap (λ (y : List Bool). m.step y (get_or rows t [])) (from_next m s x rows t)

-- whether the rule is broken in the last of some rows
abbrev broken_last : Meaning → ℕ → List Bool → List Bool → List (List Bool) → Bool
broken_last m o s x [] = m.broken o s x
broken_last m o s x (y ∷ ys) = broken_last m o (m.step s x) y ys

last_is : (m : Meaning) (o : ℕ) (s x : List Bool) (rest : List (List Bool)) →
    broken_last m o s x rest ≡ m.broken o (state_from m s (x ∷ rest) (length rest)) (get_or (x ∷ rest) (length rest) [])
last_is m o s x [] = refl
last_is m o s x (y ∷ ys) =
    last_is m o (m.step s x) y ys
    ∙ ap (λ (z : List Bool). m.broken o z (get_or (y ∷ ys) (length ys) [])) (sym (from_next m s x (y ∷ ys) (length ys)))

breaks_is : (m : Meaning) (o : ℕ) (x : List Bool) (rest : List (List Bool)) →
    broken_last m o m.start x rest ≡ m.broken o (state_at m (x ∷ rest) (length (x ∷ rest) - 1)) (get_or (x ∷ rest) (length (x ∷ rest) - 1) [])
breaks_is m o x rest =
    let n : length (x ∷ rest) - 1 ≡ length rest = omega arith in
    last_is m o m.start x rest
    ∙ ap (λ (z : List Bool). m.broken o z (get_or (x ∷ rest) (length rest) [])) (sym (at_from m (x ∷ rest) (length rest)))
    ∙ ap (λ (i : ℕ). m.broken o (state_at m (x ∷ rest) i) (get_or (x ∷ rest) i [])) (sym n)

push : (bits more : List Bool) (b : Bool) → (bits ++ b ∷ []) ++ more ≡ bits ++ (b ∷ more)
push bits more b = simp append_assoc

length_push : (bits : List Bool) (b : Bool) → length (bits ++ b ∷ []) ≡ length bits + 1
length_push bits b = simp length-append (omega arith)

-- what is left of the records in a row
record Tail (m : Meaning) (o left : ℕ) (bits s : List Bool) (rs : List Record) : Type 0 where
  more : List Bool
  rest : List (List Bool)
  wrote : rs ≡ row_records more (rows_records rest (End ∷ []))
  wide : length bits + length more ≡ m.inputs
  after_rows : AllByRecursion (λ x. length x ≡ m.inputs) rest
  count : left ≡ suc (length rest)
  last : broken_last m o s (bits ++ more) rest ≡ true

module _ (m : Meaning) (o : ℕ) where
  stuck : {r : Record} {u : View} → Goes m o closed r u → ⊥
  stuck g = elim g [ ]

  apart : {left : ℕ} {bits s : List Bool} → in_row left bits s ≡ closed → ⊥
  apart e = let z : ◌≡◌ {A = ℕ} 0 1 = cc in omega arith

  -- after the last row
  only_end : (rs : List Record) → Leads m o closed rs closed → rs ≡ []
  only_end [] e = refl
  only_end (r ∷ rs) p = absurd (stuck p.1)

  ended : {r : Record} {u : View} (rs : List Record) → Goes m o closing r u → Leads m o u rs closed → r ∷ rs ≡ End ∷ []
  ended rs ends p = ap (λ (x : List Record). End ∷ x) (only_end rs p)

  closing_end : (rs : List Record) → Leads m o closing rs closed → rs ≡ End ∷ []
  closing_end [] e = let z : ◌≡◌ {A = ℕ} 0 1 = cc in absurd (omega arith)
  closing_end (r ∷ rs) p = ended rs p.1 p.2

  by_goes : {left : ℕ} {bits s : List Bool} {r : Record} {u : View} (rs : List Record) → 1 ≤ left → Goes m o (in_row left bits s) r u → Leads m o u rs closed →
      ((left : ℕ) (bits s : List Bool) → 1 ≤ left → Leads m o (in_row left bits s) rs closed → Tail m o left bits s rs) → Tail m o left bits s (r ∷ rs)
  by_goes rs pos (sets {left = left} {b = b} {bits = bits} {state = s} h k) p tail =
      let t = tail left (bits ++ bit b ∷ []) s pos p in
      let w = t.wide in
      record {
        more = bit b ∷ t.more;
        rest = t.rest;
        wrote = ap (λ (x : ℕ). Bit x ∷ rs) (sym (byte_bit b k)) ∙ ap (λ (x : List Record). Bit (byte (bit b)) ∷ x) t.wrote;
        wide = omega (arith, length_push bits (bit b));
        after_rows = t.after_rows;
        count = t.count;
        last = ap (λ (x : List Bool). broken_last m o s x t.rest) (sym (push bits t.more (bit b))) ∙ t.last;
      }
  by_goes rs pos (turns {left = left} {bits = bits} {state = s} h k) p tail =
      let t = tail (left - 1) [] (m.step s bits) (omega arith) p in
      let w = t.wide in
      let c = t.count in
      record {
        more = [];
        rest = t.more ∷ t.rest;
        wrote = ap (λ (x : List Record). RowEnd ∷ x) t.wrote;
        wide = omega arith;
        after_rows = (omega arith, t.after_rows);
        count = omega arith;
        last = ap (λ (x : List Bool). broken_last m o (m.step s x) t.more t.rest) (append-nil bits) ∙ t.last;
      }
  by_goes rs pos (breaks {left = left} {bits = bits} {state = s} h k e) p tail = record {
    more = [];
    rest = [];
    wrote = ap (λ (x : List Record). RowEnd ∷ x) (closing_end rs p);
    wide = omega arith;
    after_rows = tt;
    count = omega arith;
    last = ap (λ (x : List Bool). m.broken o s x) (append-nil bits) ∙ e;
  }

  tail : (rs : List Record) (left : ℕ) (bits s : List Bool) → 1 ≤ left → Leads m o (in_row left bits s) rs closed → Tail m o left bits s rs
  tail [] left bits s pos e = absurd (apart e)
  tail (r ∷ rs) left bits s pos p = by_goes rs pos p.1 p.2 (tail rs)

-- the rows of records that lead to the end
pub record Certified (m : Meaning) (o : ℕ) (rs : List Record) : Type 0 where
  pub rows : List (List Bool)
  pub run : Run m rows
  pub few : length rows ≤ 4096
  pub breaks : Breaks m o rows
  pub is : rs ≡ certificate rows

module _ (m : Meaning) (o : ℕ) where
  from_tail : (n : ℕ) (rs : List Record) → n ≤ 4096 → Tail m o n [] m.start rs → Certified m o (Claim 3 n ∷ rs)
  from_tail n rs few t =
      let w = t.wide in
      let c = t.count in
      record {
        rows = t.more ∷ t.rest;
        run = record { some = omega arith; wide = (omega arith, t.after_rows) };
        few = omega arith;
        breaks = sym (breaks_is m o t.more t.rest) ∙ t.last;
        is = ap (λ (x : List Record). Claim 3 n ∷ x) t.wrote ∙ ap (λ (k : ℕ). Claim 3 k ∷ row_records t.more (rows_records t.rest (End ∷ []))) c;
      }

  claimed_first : {r : Record} {u : View} (rs : List Record) → Goes m o opening r u → Leads m o u rs closed → Certified m o (r ∷ rs)
  claimed_first rs (claims {n = n} a b) p = from_tail n rs b (tail m o rs n [] m.start a p)

  pub certified : (rs : List Record) → Leads m o opening rs closed → Certified m o rs
  certified [] e = let z : ◌≡◌ {A = ℕ} 0 1 = cc in absurd (omega arith)
  certified (r ∷ rs) p = claimed_first rs p.1 p.2

  -- the other way round
  row_leads : (more bits s : List Bool) (left : ℕ) (rs : List Record) → length bits + length more ≡ m.inputs →
      Leads m o (in_row left (bits ++ more) s) (RowEnd ∷ rs) closed → Leads m o (in_row left bits s) (row_records more rs) closed
  row_leads [] bits s left rs l p = subst (λ (x : List Bool). Leads m o (in_row left x s) (RowEnd ∷ rs) closed) (append-nil bits) p
  row_leads (b ∷ more) bits s left rs l p =
      let same : (bits ++ bit (byte b) ∷ []) ++ more ≡ bits ++ (b ∷ more) = ap (λ (x : Bool). (bits ++ x ∷ []) ++ more) (bit_byte b) ∙ push bits more b in (
        in_row left (bits ++ bit (byte b) ∷ []) s,
        sets (omega arith) (byte_small b),
        row_leads more (bits ++ bit (byte b) ∷ []) s left rs (omega (arith, length_push bits (bit (byte b))))
            (subst (λ (x : List Bool). Leads m o (in_row left x s) (RowEnd ∷ rs) closed) (sym same) p),
      )

  rows_lead : (rest : List (List Bool)) (x s : List Bool) → length x ≡ m.inputs → AllByRecursion (λ x. length x ≡ m.inputs) rest → broken_last m o s x rest ≡ true →
      Leads m o (in_row (suc (length rest)) [] s) (row_records x (rows_records rest (End ∷ []))) closed
  rows_lead [] x s h a e = row_leads x [] s 1 (End ∷ []) (omega arith) (closing, breaks h (omega arith) e, (closed, ends, refl))
  rows_lead (y ∷ ys) x s h a e =
      let one : suc (suc (length ys)) - 1 ≡ suc (length ys) = omega arith in
      row_leads x [] s (suc (suc (length ys))) (row_records y (rows_records ys (End ∷ []))) (omega arith) (
        in_row (suc (suc (length ys)) - 1) [] (m.step s x),
        turns h (omega arith),
        subst (λ (n : ℕ). Leads m o (in_row n [] (m.step s x)) (row_records y (rows_records ys (End ∷ []))) closed) (sym one) (rows_lead ys y (m.step s x) a.0 a.1 e),
      )

  pub leads : (rows : List (List Bool)) → Run m rows → length rows ≤ 4096 → Breaks m o rows → Leads m o opening (certificate rows) closed
  leads [] run few e = absurd (omega (arith, run.some))
  leads (x ∷ rest) run few e = (
    in_row (suc (length rest)) [] m.start,
    claims (omega arith) few,
    rows_lead rest x m.start run.wide.0 run.wide.1 (breaks_is m o x rest ∙ e),
  )
