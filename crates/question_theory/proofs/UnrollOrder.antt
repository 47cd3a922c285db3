-- The clauses of an unrolling, one by one.
use Rattle.std.proofs.Common.{◌≡◌, ℕ, zero, suc, ◌+◌, ◌*◌, ◌<◌, ◌≤◌, List, [], ◌∷◌, ◌++◌, map, length, get_or, sym, refl, ap, ◌∙◌, subst, ap₂, ⊎_elim, suc-mul, zero-mul, arith}
use Rattle.std.specs.List.{AllByRecursion}
use Rattle.std.proofs.lemmas.List.{length-append, length-map, get_or-map, get_or_append_left, get_or-append-add}
use Rattle.std.proofs.ByRecursion.{All-append, All-map, All-weaker, All-from_get_or}
use Rattle.std.proofs.lemmas.Bool.{cases_lt}
use Rattle.std.proofs.lemmas.Nat.{mul-le}
use Rattle.resolution.specs.Clauses.{denial, Rising}
use Rattle.resolution.proofs.Settings.{denial_near}
use Rattle.machine.specs.Meaning.{Meaning, Lawful}
use Rattle.question_theory.specs.Unrolling.{moved, clauses_at, clauses_upto, literal_of_state, tie, ties, unroll}
use Rattle.question_theory.specs.Shapes.{UnrollInOrder}
use Rattle.question_theory.proofs.LinkedRows.{lows}
use Rattle.question_theory.proofs.FineClauses.{fine_from}

count_upto : (m : Meaning) (n : ℕ) → length (clauses_upto m n) ≡ suc n * length m.clauses
unfolding clauses_upto
count_upto m zero = length-map m.clauses (map (moved m zero)) ∙ (let a = suc-mul 0 (length m.clauses) in let b = zero-mul (length m.clauses) in omega arith)
count_upto m (suc n) =
    let a = length-append (clauses_upto m n) (clauses_at m (suc n)) in
    let b = length-map m.clauses (map (moved m (suc n))) in
    let c = count_upto m n in
    let d = suc-mul (suc n) (length m.clauses) in
    omega arith

count_tie : (m : Meaning) (t i : ℕ) (xs : List ℕ) → length (tie m t i xs) ≡ 2 * length xs
count_tie m t i [] = refl
count_tie m t i (x ∷ xs) = let h = count_tie m t (i + 1) xs in omega arith

count_ties : (m : Meaning) → Lawful m → (n : ℕ) → length (ties m n) ≡ n * (2 * m.state_bits)
unfolding ties
count_ties m law zero = sym (zero-mul (2 * m.state_bits))
count_ties m law (suc n) =
    let a = length-append (ties m n) (tie m n 0 m.next) in
    let b = count_tie m n 0 m.next in
    let c = count_ties m law n in
    let d = suc-mul n (2 * m.state_bits) in
    let e = law.next_size in
    omega arith

-- block t of n blocks of the same size, one after another
module _ {X : Type 0} (all part : ℕ → List X) (size : ℕ) (count : (n : ℕ) → length (all n) ≡ n * size) (more : (n : ℕ) → all (suc n) ≡ all n ++ part n) (d : X) where
  block_at : (n t k : ℕ) → t < n → k < size → get_or (all n) (t * size + k) d ≡ get_or (part t) k d
  block_at zero t k h l = let none : ⊥ = omega arith in absurd none
  block_at (suc n) t k h l =
      let ih : t < n → get_or (all n) (t * size + k) d ≡ get_or (part t) k d = λ a. block_at n t k a l in
      ap (λ (xs : List X). get_or xs (t * size + k) d) (more n)
      ∙ ⊎_elim
      (λ (a : t < n).
      let s = mul-le (suc t) size n size (omega arith) (omega arith) in
      let q = suc-mul t size in
      let c = count n in
      get_or_append_left (all n) (part n) d (t * size + k) (omega arith) ∙ ih a)
      (λ (b : n ≤ t).
      let e : n ≡ t = omega arith in
      subst (λ (j : ℕ). get_or (all n ++ part n) (j * size + k) d ≡ get_or (part j) k d) e
      (let c : n * size + k ≡ length (all n) + k = ap (λ (j : ℕ). j + k) (sym (count n)) in
      ap (λ (j : ℕ). get_or (all n ++ part n) j d) c ∙ get_or-append-add (all n) (part n) k d))
      (cases_lt t n)

-- the clauses moved to the frames before n
abbrev earlier : Meaning → ℕ → List (List ℕ)
earlier m zero = []
earlier m (suc n) = earlier m n ++ clauses_at m n

earlier_is : (m : Meaning) (n : ℕ) → clauses_upto m n ≡ earlier m (suc n)
unfolding clauses_upto
earlier_is m zero = refl
earlier_is m (suc n) = ap (λ (xs : List (List ℕ)). xs ++ clauses_at m (suc n)) (earlier_is m n)

earlier_count : (m : Meaning) (n : ℕ) → length (earlier m n) ≡ n * length m.clauses
earlier_count m zero = sym (zero-mul (length m.clauses))
earlier_count m (suc n) = ap length (sym (earlier_is m n)) ∙ count_upto m n

tie_at : (m : Meaning) (t i : ℕ) (xs : List ℕ) (j : ℕ) → j < length xs →
    (get_or (tie m t i xs) (2 * j) [] ≡ moved m t (get_or xs j 0) ∷ denial (moved m (suc t) (literal_of_state m (i + j))) ∷ []) ×
    (get_or (tie m t i xs) (2 * j + 1) [] ≡ denial (moved m t (get_or xs j 0)) ∷ moved m (suc t) (literal_of_state m (i + j)) ∷ [])
tie_at m t i [] j l = let none : ⊥ = omega arith in absurd none
tie_at m t i (x ∷ xs) zero l =
    let e : i ≡ i + zero = omega arith in
    (ap (λ (k : ℕ). moved m t x ∷ denial (moved m (suc t) (literal_of_state m k)) ∷ []) e, ap (λ (k : ℕ). denial (moved m t x) ∷ moved m (suc t) (literal_of_state m k) ∷ []) e)
tie_at m t i (x ∷ xs) (suc j) l =
    let e : i + 1 + j ≡ i + suc j = omega arith in
    let a : 2 * suc j ≡ suc (suc (2 * j)) = omega arith in
    let b : 2 * suc j + 1 ≡ suc (suc (2 * j + 1)) = omega arith in
    let ih = tie_at m t (i + 1) xs j (omega arith) in (
      ap (λ (k : ℕ). get_or (tie m t i (x ∷ xs)) k []) a ∙ ih.0 ∙ ap (λ (k : ℕ). moved m t (get_or xs j 0) ∷ denial (moved m (suc t) (literal_of_state m k)) ∷ []) e,
      ap (λ (k : ℕ). get_or (tie m t i (x ∷ xs)) k []) b ∙ ih.1 ∙ ap (λ (k : ℕ). denial (moved m t (get_or xs j 0)) ∷ moved m (suc t) (literal_of_state m k) ∷ []) e,
    )

-- Rising and low

rising_moved : (a : ℕ) (c : List ℕ) → Rising c → Rising (map (λ (l : ℕ). a + l) c)
rising_moved a [] h = tt
rising_moved a (x ∷ c) h = (All-map (λ y. a + x < y) (λ (l : ℕ). a + l) c (All-weaker (λ y. x < y) (λ y. a + x < a + y) (λ y k. omega arith) c h.0), rising_moved a c h.1)

low_moved : (a b n : ℕ) (c : List ℕ) → a + b ≤ n → AllByRecursion (λ l. l < b) c → AllByRecursion (λ l. l < n) (map (λ (l : ℕ). a + l) c)
low_moved a b n c h k = All-map (λ l. l < n) (λ (l : ℕ). a + l) c (All-weaker (λ l. l < b) (λ l. a + l < n) (λ l j. omega arith) c k)

upto_all : (m : Meaning) (P : List ℕ → Type 0) (n : ℕ) → ((t : ℕ) → t ≤ n → AllByRecursion P (clauses_at m t)) → AllByRecursion P (clauses_upto m n)
unfolding clauses_upto
upto_all m P zero h = h zero (omega arith)
upto_all m P (suc n) h = All-append P (clauses_upto m n) (clauses_at m (suc n)) (upto_all m P n (λ t l. h t (omega arith))) (h (suc n) (omega arith))

ties_all : (m : Meaning) (P : List ℕ → Type 0) (n : ℕ) → ((t : ℕ) → t < n → AllByRecursion P (tie m t 0 m.next)) → AllByRecursion P (ties m n)
unfolding ties
ties_all m P zero h = tt
ties_all m P (suc n) h = All-append P (ties m n) (tie m n 0 m.next) (ties_all m P n (λ t l. h t (omega arith))) (h n (omega arith))

tie_all : (m : Meaning) (P : List ℕ → Type 0) (t i : ℕ) (xs : List ℕ) →
    ((j : ℕ) → j < length xs → P (moved m t (get_or xs j 0) ∷ denial (moved m (suc t) (literal_of_state m (i + j))) ∷ []) × P (denial (moved m t (get_or xs j 0)) ∷ moved m (suc t) (literal_of_state m (i + j)) ∷ [])) →
    AllByRecursion P (tie m t i xs)
tie_all m P t i [] h = tt
tie_all m P t i (x ∷ xs) h =
    let e : i + 0 ≡ i = omega arith in
    let p = h 0 (omega arith) in (
      subst (λ (k : ℕ). P (moved m t x ∷ denial (moved m (suc t) (literal_of_state m k)) ∷ [])) e p.0,
      (
        subst (λ (k : ℕ). P (denial (moved m t x) ∷ moved m (suc t) (literal_of_state m k) ∷ [])) e p.1,
        tie_all m P t (i + 1) xs (λ j l.
            let d : i + suc j ≡ i + 1 + j = omega arith in
            subst (λ (k : ℕ). P (moved m t (get_or xs j 0) ∷ denial (moved m (suc t) (literal_of_state m k)) ∷ []) × P (denial (moved m t (get_or xs j 0)) ∷ moved m (suc t) (literal_of_state m k) ∷ [])) d (h (suc j) (omega arith))),
      ),
    )

ties_more : (m : Meaning) (n : ℕ) → ties m (suc n) ≡ ties m n ++ tie m n 0 m.next
unfolding ties
ties_more m n = refl

pub unroll_in_order : UnrollInOrder
unfolding unroll
unroll_in_order m law n = record {
  count = length-append (clauses_upto m n) (ties m n) ∙ ap₂ ◌+◌ (count_upto m n) (count_ties m law n);
  machine = λ k t c e h l.
      let cf = count_upto m n in
      let s = mul-le (suc t) C (suc n) C (omega arith) (omega arith) in
      let q = suc-mul t C in
      ap at e
      ∙ get_or_append_left (clauses_upto m n) (ties m n) [] (t * C + c) (omega arith)
      ∙ ap (λ (xs : List (List ℕ)). get_or xs (t * C + c) []) (earlier_is m n)
      ∙ block_at (earlier m) (clauses_at m) C (earlier_count m) (λ _. refl) [] (suc n) t c (omega arith) l
      ∙ get_or-map (map (moved m t)) m.clauses c [] [] l;
  only_if = λ k t i e h l.
      let i< = law.next_size in
      ap at e ∙ second t (2 * i) h (omega arith) ∙ (tie_at m t 0 m.next i (omega arith)).0
      ∙ ap (λ (j : ℕ). moved m t (get_or m.next i 0) ∷ denial (moved m (suc t) (literal_of_state m j)) ∷ []) (none i);
  true_if = λ k t i e h l.
      let i< = law.next_size in
      ap at e ∙ second t (2 * i + 1) h (omega arith) ∙ (tie_at m t 0 m.next i (omega arith)).1
      ∙ ap (λ (j : ℕ). denial (moved m t (get_or m.next i 0)) ∷ moved m (suc t) (literal_of_state m j) ∷ []) (none i);
  fine = fine_from (2 * (suc n * m.variables)) (clauses_upto m n ++ ties m n) rise low;
}
  where
    at : ℕ → List ℕ
    at j = get_or (clauses_upto m n ++ ties m n) j []

    C : ℕ
    C = length m.clauses

    none : (i : ℕ) → 0 + i ≡ i
    none i = omega arith

    second : (t k : ℕ) → t < n → k < 2 * m.state_bits → get_or (clauses_upto m n ++ ties m n) (suc n * length m.clauses + (t * (2 * m.state_bits) + k)) [] ≡ get_or (tie m t 0 m.next) k []
    second t k h l =
        let e : suc n * length m.clauses + (t * (2 * m.state_bits) + k) ≡ length (clauses_upto m n) + (t * (2 * m.state_bits) + k) = ap (λ (j : ℕ). j + (t * (2 * m.state_bits) + k)) (sym (count_upto m n)) in
        ap (λ (j : ℕ). get_or (clauses_upto m n ++ ties m n) j []) e
        ∙ get_or-append-add (clauses_upto m n) (ties m n) (t * (2 * m.state_bits) + k) []
        ∙ block_at (ties m) (λ t. tie m t 0 m.next) (2 * m.state_bits) (count_ties m law) (ties_more m) [] n t k h l

    bounds : (t : ℕ) → t < n → (j : ℕ) → j < length m.next →
        (moved m t (get_or m.next j 0) < 2 * (suc t * m.variables)) × (denial (moved m t (get_or m.next j 0)) < 2 * (suc t * m.variables)) ×
        (2 * (suc t * m.variables) ≤ moved m (suc t) (literal_of_state m (0 + j))) × (moved m (suc t) (literal_of_state m (0 + j)) < denial (moved m (suc t) (literal_of_state m (0 + j)))) ×
        (denial (moved m (suc t) (literal_of_state m (0 + j))) < 2 * (suc n * m.variables))
    bounds t h j g =
        let few = law.next_size in
        let room = law.room in
        let low = law.next_low j (omega arith) in
        let a = denial_near (moved m t (get_or m.next j 0)) in
        let b = denial_near (moved m (suc t) (literal_of_state m (0 + j))) in
        let s = mul-le (suc (suc t)) m.variables (suc n) m.variables (omega arith) (omega arith) in
        let q = suc-mul t m.variables in
        let r = suc-mul (suc t) m.variables in
        (omega arith, omega arith, omega arith, omega arith, omega arith)

    low : AllByRecursion (AllByRecursion (λ l. l < 2 * (suc n * m.variables))) (clauses_upto m n ++ ties m n)
    low =
        All-append (AllByRecursion (λ l. l < 2 * (suc n * m.variables))) (clauses_upto m n) (ties m n)
        (upto_all m (AllByRecursion (λ l. l < 2 * (suc n * m.variables))) n (λ t h.
        let s = mul-le (suc t) m.variables (suc n) m.variables (omega arith) (omega arith) in
        let q = suc-mul t m.variables in
        All-map (AllByRecursion (λ l. l < 2 * (suc n * m.variables))) (map (moved m t)) m.clauses
        (All-weaker (AllByRecursion (λ l. l < 2 * m.variables)) (λ c. AllByRecursion (λ l. l < 2 * (suc n * m.variables)) (map (moved m t) c)) (λ c k. low_moved (2 * (t * m.variables)) (2 * m.variables) (2 * (suc n * m.variables)) c (omega arith) k) m.clauses (lows m law))))
        (ties_all m (AllByRecursion (λ l. l < 2 * (suc n * m.variables))) n (λ t h. tie_all m (AllByRecursion (λ l. l < 2 * (suc n * m.variables))) t 0 m.next (λ j g.
        let b = bounds t h j g in
        ((omega arith, (omega arith, tt)), (omega arith, (omega arith, tt))))))

    rise : AllByRecursion Rising (clauses_upto m n ++ ties m n)
    rise =
        All-append Rising (clauses_upto m n) (ties m n)
        (upto_all m Rising n (λ t h. All-map Rising (map (moved m t)) m.clauses
        (All-weaker Rising (λ c. Rising (map (moved m t) c)) (rising_moved (2 * (t * m.variables))) m.clauses (All-from_get_or Rising m.clauses [] law.clause_rises))))
        (ties_all m Rising n (λ t h. tie_all m Rising t 0 m.next (λ j g.
        let b = bounds t h j g in
        (((omega arith, tt), (tt, tt)), ((omega arith, tt), (tt, tt))))))
