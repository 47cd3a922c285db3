-- A number is read exactly where it stands in decimal.
use Rattle.std.proofs.Common.{◌≡◌, ℕ, ◌^◌, ◌<◌, ◌≤◌, Bool, true, false, cond, ◌&&◌, ltb, ◌⊎◌, List, [], ◌∷◌, ◌++◌, length, get_or, Some, None, decimal, Option, sym, refl, ap, ◌∙◌, inl, inr, arith, rules}
use Rattle.std.proofs.lemmas.Bool.{cases_lt, and_parts}
use Rattle.std.proofs.lemmas.Bool.Decides.{nat_tests}
use Rattle.std.proofs.lemmas.List.{get_or_append_left}
use Rattle.std.proofs.lemmas.Str.Parse.{IsNumeralModel, numerals_by_fold}
use Rattle.std.proofs.lemmas.Fmt.{digits_decimal, digits_value-decimal, decimal_nonempty, first_decimal, decimal_digit, decimal-digits_value}
use Rattle.std.specs.Bool.{then_some}
use Rattle.decimal.specs.Number.{is_digit, leading, value_on, fitting, plain, number_of, Stops, Number}

abbrev digits : List ℕ → Bool
digits [] = true
digits (c ∷ cs) = is_digit c && digits cs

own : IsNumeralModel (λ ds. digits ds ≡ true) (value_on 0)
own = numerals_by_fold _ (search rules) value_on (search rules)

stop_leading : (rest : List ℕ) → Stops rest → leading rest ≡ []
stop_leading [] s = refl
stop_leading (c ∷ cs) s = rw s refl

-- digits, then none: these digits lead
leading_run : (ds rest : List ℕ) → digits ds ≡ true → Stops rest → leading (ds ++ rest) ≡ ds
leading_run [] rest d s = stop_leading rest s
leading_run (c ∷ cs) rest d s =
    let h = and_parts (is_digit c) (digits cs) d in
    rw h.0 (ap (λ (l : List ℕ). c ∷ l) (leading_run cs rest h.1 s))

-- each text is its leading digits and then a stop
split : (text : List ℕ) → (rest : List ℕ) × (text ≡ leading text ++ rest) × (digits (leading text) ≡ true) × Stops rest
split [] = ([], refl, refl, refl)
split (c ∷ cs) =
    let way : (b : Bool) → is_digit c ≡ b → (rest : List ℕ) × (c ∷ cs ≡ cond b (c ∷ leading cs) [] ++ rest) × (digits (cond b (c ∷ leading cs) []) ≡ true) × Stops rest
    = λ b. elim b as (λ x. is_digit c ≡ x → (rest : List ℕ) × (c ∷ cs ≡ cond x (c ∷ leading cs) [] ++ rest) × (digits (cond x (c ∷ leading cs) []) ≡ true) × Stops rest) [
      | true ↦ λ e. let p = split cs in (p.0, ap (λ (l : List ℕ). c ∷ l) p.1, rw e p.2, p.3)
      | false ↦ λ e. (c ∷ cs, refl, refl, e)
    ] in
    way (is_digit c) refl

abbrev outcome : ℕ → ℕ → ℕ → Option (ℕ × ℕ)
outcome first value size = cond (plain first size) (cond (ltb value (2 ^ 32)) (Some (value, size)) None) None

outcome_some : (f v k : ℕ) → 1 ≤ k → v < 2 ^ 32 → (k ≡ 1) ⊎ (48 < f) → outcome f v k ≡ Some (v, k)
outcome_some f v k lo hi (inl e) = grind (arith, nat_tests)
outcome_some f v k lo hi (inr l) = grind (arith, nat_tests)

outcome_back : (f v k n m : ℕ) → outcome f v k ≡ Some (n, m) → (v ≡ n) × (k ≡ m) × (1 ≤ k) × (v < 2 ^ 32) × (f ≡ 48 → k ≡ 1)
outcome_back f v k n m e =
    (grind (arith, nat_tests), grind (arith, nat_tests), grind (arith, nat_tests), grind (arith, nat_tests), λ z. grind (arith, nat_tests))

first_in : (ds rest : List ℕ) → 0 < length ds → get_or (ds ++ rest) 0 0 ≡ get_or ds 0 0
first_in ds rest l = get_or_append_left ds rest 0 0 l

plain_first : (n : ℕ) → n < 2 ^ 32 → (length (decimal n) ≡ 1) ⊎ (48 < get_or (decimal n) 0 0)
plain_first n small =
    elim (cases_lt 0 n) [ inl l ↦ inr (first_decimal n l (omega arith)) | inr h ↦ inl (ap length (decimal_digit n (omega arith))) ]

-- a number in decimal, and no digit after it, is read
pub reads_number : (n : ℕ) (rest : List ℕ) → n < 2 ^ 32 → Stops rest → number_of (decimal n ++ rest) ≡ Some (n, length (decimal n))
unfolding number_of
reads_number n rest small s =
    let some = decimal_nonempty n (omega arith) in
    let f = get_or (decimal n ++ rest) 0 0 in
    let pf : (length (decimal n) ≡ 1) ⊎ (48 < f) = rw (first_in (decimal n) rest some) (plain_first n small) in
    let value = digits_value-decimal own n (omega arith) in
    ap (λ (ds : List ℕ). outcome f (value_on 0 ds) (length ds)) (leading_run (decimal n) rest (digits_decimal own n (omega arith)) s)
    ∙ (outcome_some f (value_on 0 (decimal n)) (length (decimal n)) (omega arith) (omega arith) pf
    ∙ ap (λ (x : ℕ). Some (x, length (decimal n))) value)

pub number_reads : (text : List ℕ) (n k : ℕ) → Number text n k → number_of text ≡ Some (n, k)
number_reads text n k r =
    ap number_of r.here ∙ (reads_number n r.rest r.fits r.stops ∙ ap (λ (m : ℕ). Some (n, m)) (sym r.size))

-- and nothing else is
pub number_written : (text : List ℕ) (n k : ℕ) → number_of text ≡ Some (n, k) → Number text n k
unfolding number_of
number_written text n k e =
    let p = split text in
    let ds = leading text in
    let b = outcome_back (get_or text 0 0) (value_on 0 ds) (length ds) n k e in
    let some : 0 < length ds = omega (arith, b.2) in
    let first : get_or text 0 0 ≡ get_or ds 0 0 = ap (λ (l : List ℕ). get_or l 0 0) p.1 ∙ first_in ds p.0 some in
    let d : decimal (value_on 0 ds) ≡ ds = decimal-digits_value own ds p.2 some (λ z. b.4 (first ∙ z)) (omega (arith, b.3)) in
    let dn : decimal n ≡ ds = ap decimal (sym b.0) ∙ d in
    record {
      rest = p.0;
      here = p.1 ∙ ap (λ (l : List ℕ). l ++ p.0) (sym dn);
      size = sym b.1 ∙ ap length (sym dn);
      fits = omega (arith, b.0, b.3);
      stops = p.3;
    }

-- what is asked of the digits that lead
pub number_none : None ≡ number_of []
unfolding number_of
number_none = refl

pub number_unfit : (text : List ℕ) → None ≡ fitting (leading text) → None ≡ number_of text
unfolding number_of
number_unfit text e = grind (arith, nat_tests, e)

pub number_asked : (text : List ℕ) (first v k : ℕ) → first ≡ get_or text 0 0 → Some (v, k) ≡ fitting (leading text) → then_some (plain first k) (v, k) ≡ number_of text
unfolding number_of
number_asked text first v k f e = grind (arith, nat_tests, f, e)

-- the three clauses, from the first
pub clauses : (text : List ℕ) (r : Option (ℕ × ℕ)) → r ≡ number_of text →
    (r ≡ number_of text) × ((n k : ℕ) → r ≡ Some (n, k) → Number text n k) × ((n k : ℕ) → Number text n k → r ≡ Some (n, k))
clauses text r v = (v, λ n k e. number_written text n k (sym v ∙ e), λ n k s. v ∙ number_reads text n k s)
