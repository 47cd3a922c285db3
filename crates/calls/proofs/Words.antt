-- Words of a line: what stands before and after a separator, and numbers among them.
use Rattle.std.proofs.Common.{◌≡◌, ℕ, zero, suc, ◌+◌, ◌%◌, ◌^◌, ◌<◌, ◌≤◌, eqb, List, [], ◌∷◌, ◌++◌, length, get_or, Some, None, decimal, Option, unwrap_or, sym, refl, ap, ◌∙◌, subst, ⊎_elim, arith}
use Rattle.std.proofs.lemmas.Bool.{cases_eq, cases_lt, eq-eqb, ne_eqb, cond-true, cond-false, cond_both}
use Rattle.std.proofs.lemmas.List.{length-append, append-nil}
use Rattle.std.proofs.lemmas.Fmt.{decimal_nonempty, decimal_by_steps}
use Rattle.decimal.specs.Number.{Number}
use Rattle.calls.specs.declared.answer.Lengths.{Lengths}
use Rattle.calls.specs.Cuts.{before, after}
use Rattle.calls.specs.Lines.{Lendable, lengths_text}
use Rattle.calls.proofs.CutAt.{uncut}

-- s stands nowhere in xs
abbrev pub Lacks : ℕ → List ℕ → Type 0
Lacks s xs = (k : ℕ) → k < length xs → get_or xs k 0 ≡ s → ⊥

pub none_left : (xs : List ℕ) → length xs ≡ 0 → xs ≡ []
none_left [] e = refl
none_left (x ∷ xs) e = absurd (omega arith)

-- what stands after the first separator is shorter
pub after_less : (s : ℕ) (xs : List ℕ) → 0 < length xs → length (after s xs) < length xs
after_less s [] h = absurd (omega arith)
after_less s (x ∷ xs) h =
    cond_both (eqb x s) xs (after s xs) (λ (ys : List ℕ). length ys < length (x ∷ xs)) (λ _. omega arith) (λ _. omega (arith, after_most s xs))
  where
    after_most : (s : ℕ) (xs : List ℕ) → length (after s xs) ≤ length xs
    after_most s [] = omega arith
    after_most s (y ∷ ys) = cond_both (eqb y s) ys (after s ys) (λ (zs : List ℕ). length zs ≤ length (y ∷ ys)) (λ _. omega arith) (λ _. omega (arith, after_most s ys))

-- cut where it was joined
pub joined : (s : ℕ) (xs ys : List ℕ) → Lacks s xs → (before s (xs ++ (s ∷ ys)) ≡ xs) × (after s (xs ++ (s ∷ ys)) ≡ ys)
joined s [] ys none = let e = eq-eqb s s refl in (cond-true (eqb s s) [] (s ∷ before s ys) e, cond-true (eqb s s) ys (after s ys) e)
joined s (x ∷ xs) ys none =
    let e = ne_eqb x s (none 0 (omega arith)) in
    let more = joined s xs ys (λ k h. none (suc k) (omega arith)) in
    (cond-false (eqb x s) [] (x ∷ before s (xs ++ (s ∷ ys))) e ∙ ap (λ (zs : List ℕ). x ∷ zs) more.0, cond-false (eqb x s) (xs ++ (s ∷ ys)) (after s (xs ++ (s ∷ ys))) e ∙ more.1)

-- what is its own front lacks the separator
pub whole_lacks : (s : ℕ) (xs : List ℕ) → length xs ≤ length (before s xs) → Lacks s xs
whole_lacks s [] h = λ k l e. absurd (omega arith)
whole_lacks s (x ∷ xs) h = ⊎_elim here (λ ne. later ne (λ g. whole_lacks s xs g)) (cases_eq x s)
  where
    here : x ≡ s → Lacks s (x ∷ xs)
    here q k l e = omega (arith, ap length (cond-true (eqb x s) [] (x ∷ before s xs) (eq-eqb x s q)))

    later : (x ≡ s → ⊥) → (length xs ≤ length (before s xs) → Lacks s xs) → Lacks s (x ∷ xs)
    later ne ih zero l e = ne e
    later ne ih (suc k) l e = ih (omega (arith, ap length (cond-false (eqb x s) [] (x ∷ before s xs) (ne_eqb x s ne)))) k (omega arith) e

-- joined where it was cut
pub rejoined : (s : ℕ) (xs : List ℕ) → length (before s xs) < length xs → xs ≡ before s xs ++ (s ∷ after s xs)
rejoined s [] h = absurd (omega arith)
rejoined s (x ∷ xs) h = ⊎_elim here (λ ne. later ne (λ g. rejoined s xs g)) (cases_eq x s)
  where
    both : {p q r t : List ℕ} → p ≡ r → q ≡ t → p ++ (s ∷ q) ≡ r ++ (s ∷ t)
    both e f = cc

    here : x ≡ s → x ∷ xs ≡ before s (x ∷ xs) ++ (s ∷ after s (x ∷ xs))
    here e =
        let t = eq-eqb x s e in
        ap (λ (y : ℕ). y ∷ xs) e ∙ sym (both (cond-true (eqb x s) [] (x ∷ before s xs) t) (cond-true (eqb x s) xs (after s xs) t))

    later : (x ≡ s → ⊥) → (length (before s xs) < length xs → xs ≡ before s xs ++ (s ∷ after s xs)) → x ∷ xs ≡ before s (x ∷ xs) ++ (s ∷ after s (x ∷ xs))
    later ne ih =
        let t = ne_eqb x s ne in
        let a : after s (x ∷ xs) ≡ after s xs = cond-false (eqb x s) xs (after s xs) t in
        let b : before s (x ∷ xs) ≡ x ∷ before s xs = cond-false (eqb x s) [] (x ∷ before s xs) t in
        ap (λ (zs : List ℕ). x ∷ zs) (ih (omega (arith, ap length b))) ∙ sym (both b a)

-- what stands before the separator is not longer
pub front_most : (s : ℕ) (xs : List ℕ) → length (before s xs) ≤ length xs
front_most s [] = omega arith
front_most s (x ∷ xs) = cond_both (eqb x s) [] (x ∷ before s xs) (λ (ys : List ℕ). length ys ≤ length (x ∷ xs)) (λ _. omega arith) (λ _. omega (arith, front_most s xs))

-- and it is shorter where something stands after the separator
front_less : (s : ℕ) (xs : List ℕ) → 0 < length (after s xs) → length (before s xs) < length xs
front_less s xs h =
    ⊎_elim (λ l. l) (λ l. absurd (omega (arith, ap length (uncut s xs (whole_lacks s xs l)).1))) (cases_lt (length (before s xs)) (length xs))

-- a number in decimal has no space
pub decimal_lacks : (n : ℕ) → n < 2 ^ 32 → Lacks 32 (decimal n)
decimal_lacks n h =
    decimal_by_steps (λ _ ds. Lacks 32 ds)
    (λ d l. push [] (48 + d) (λ k l e. absurd (omega arith)) (λ e. omega arith))
    (λ m ds ten more. push ds (48 + m % 10) more (λ e. omega arith))
    n (omega arith)
  where
    push : (xs : List ℕ) (x : ℕ) → Lacks 32 xs → (x ≡ 32 → ⊥) → Lacks 32 (xs ++ x ∷ [])
    push [] x none ne zero l e = ne e
    push [] x none ne (suc k) l e = absurd (omega arith)
    push (y ∷ xs) x none ne zero l e = none 0 (omega arith) e
    push (y ∷ xs) x none ne (suc k) l e = push xs x (λ j h. none (suc j) (omega arith)) ne k (omega arith) e

-- a word is the number that it begins with where that takes it whole
pub whole_number : (word : List ℕ) (n k : ℕ) → Number word n k → k ≡ length word → word ≡ decimal n
whole_number word n k w e =
    w.here ∙ ap (λ (ys : List ℕ). decimal n ++ ys) (none_left w.rest (omega (arith, w.size, ap length w.here, length-append (decimal n) w.rest))) ∙ append-nil (decimal n)

-- and a number in decimal is read whole
pub number_whole : (word : List ℕ) (n : ℕ) → n < 2 ^ 32 → word ≡ decimal n → Number word n (length (decimal n))
number_whole word n h e = record { rest = []; here = e ∙ sym (append-nil (decimal n)); size = refl; fits = h; stops = refl }

both : {a b c d : List ℕ} → a ≡ b → c ≡ d → a ++ (32 ∷ c) ≡ b ++ (32 ∷ d)
both e f = cc

-- a line is its verb, a space and the rest
pub is_verb : (line w rest : List ℕ) → before 32 line ≡ w → after 32 line ≡ rest → 0 < length rest → line ≡ w ++ (32 ∷ rest)
is_verb line w rest v r h = rejoined 32 line (front_less 32 line (subst (λ (ys : List ℕ). 0 < length ys) (sym r) h)) ∙ both v r

abbrev pub Parts : List ℕ → Lengths → Type 0
Parts words l = (before 32 words ≡ decimal l.bytes) × (before 32 (after 32 words) ≡ decimal l.literals) × (after 32 (after 32 words) ≡ decimal l.places)

-- three lengths, cut apart
pub lengths_cut : (words : List ℕ) (l : Lengths) → Lendable l → words ≡ lengths_text l → Parts words l
lengths_cut words l h e =
    let first = joined 32 (decimal l.bytes) (decimal l.literals ++ (32 ∷ decimal l.places)) (decimal_lacks l.bytes (omega (arith, h.0))) in
    let second = joined 32 (decimal l.literals) (decimal l.places) (decimal_lacks l.literals (omega (arith, h.1))) in
    let rest : after 32 words ≡ decimal l.literals ++ (32 ∷ decimal l.places) = ap (after 32) e ∙ first.1 in
    (ap (before 32) e ∙ first.0, ap (before 32) rest ∙ second.0, ap (after 32) rest ∙ second.1)

-- and joined again
pub lengths_join : (words : List ℕ) (l : Lengths) → Lendable l → Parts words l → words ≡ lengths_text l
lengths_join words l h p =
    let tail : List ℕ = decimal l.literals ++ (32 ∷ decimal l.places) in
    let rest : after 32 words ≡ tail = is_verb (after 32 words) (decimal l.literals) (decimal l.places) p.1 p.2 (decimal_nonempty l.places (omega (arith, h.2))) in
    is_verb words (decimal l.bytes) tail p.0 rest (omega (arith, length-append (decimal l.literals) (32 ∷ decimal l.places)))

-- what two answers of a reader have in common
pub no_answer : {A : Type 0} {x : A} {o : Option A} → o ≡ Some x → o ≡ None → ⊥
no_answer e f = let z : ◌≡◌ {A = ℕ} 0 1 = cc in omega arith

pub same_size : {o : Option (ℕ × ℕ)} {n k m j : ℕ} → o ≡ Some (n, k) → o ≡ Some (m, j) → k ≡ j
same_size e f = ap (λ (o : Option (ℕ × ℕ)). (unwrap_or o (0, 0)).1) (sym e ∙ f)
