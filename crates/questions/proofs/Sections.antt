-- Copies of clauses from a list of three sections.
use Rattle.std.proofs.Common.{◌≡◌, ℕ, ◌+◌, ◌<◌, ◌≤◌, List, [], ◌++◌, length, get_or, Result, Ok, Err, sym, refl, subst, ⊎_elim, arith}
use Rattle.std.proofs.lemmas.Bool.{cases_lt}
use Rattle.refusal.specs.declared.faults.Full.{Full as NoPlace}
use Rattle.refusal.specs.declared.faults.RefutationFault.{RefutationFault}
use Rattle.refusal.specs.declared.faults.RefutationFault.TheVariants.{NoClause, NoPivot, Full, NotRefuted}
use Rattle.stack.specs.Pushes.{PushedAs}
use Rattle.resolution.specs.Lists.{CopiedAs}
use Rattle.resolution.proofs.Copies.{as_copy, copied}
use Rattle.question_theory.proofs.OneByOne.{parts_count, first_at, second_at, third_at}

-- clause n of one list is clause j of another
pub copied_as : (cs ds : List (List ℕ)) (n j used end : ℕ) (ls ms : List ℕ) (r : Result (Unit {0}) RefutationFault) →
    (j < length ds → n < length cs) → (n < length cs → j < length ds) → (j < length ds → get_or cs n [] ≡ get_or ds j []) →
    CopiedAs ds j used end ls ms r → CopiedAs cs n used end ls ms r
copied_as cs ds n j used end ls ms (Ok u) there back same p = (there p.0, subst (λ (c : List ℕ). PushedAs c used end ls ms (Ok u)) (sym (same p.0)) p.1)
copied_as cs ds n j used end ls ms (Err NoClause) there back same p =
    (⊎_elim (λ (l : n < length cs). let k = back l in let no : ⊥ = omega (arith, p.0) in absurd no) (λ (g : length cs ≤ n). g) (cases_lt n (length cs)), p.1, p.2)
copied_as cs ds n j used end ls ms (Err Full) there back same p = (there p.0, subst (λ (c : List ℕ). length ls < used + length c) (sym (same p.0)) p.1, p.2, p.3)
copied_as cs ds n j used end ls ms (Err NoPivot) there back same p = absurd p
copied_as cs ds n j used end ls ms (Err NotRefuted) there back same p = absurd p

-- none is past the end
pub copied_none : (cs : List (List ℕ)) (n used : ℕ) (ls : List ℕ) (t : Result (Unit {0}) RefutationFault) → length cs ≤ n → Err NoClause ≡ t → CopiedAs cs n used used ls ls t
copied_none cs n used ls t h is = subst (λ x. CopiedAs cs n used used ls ls x) is (h, refl, refl)

-- a clause that is pushed is copied, and where it finds no room the copy is refused for that
pub copied_push : (cs : List (List ℕ)) (n used end : ℕ) (ls ms : List ℕ) (r : Result (Unit {0}) NoPlace) (t : Result (Unit {0}) RefutationFault) (c : List ℕ) →
    n < length cs → get_or cs n [] ≡ c → PushedAs c used end ls ms r → as_copy r ≡ t → CopiedAs cs n used end ls ms t
copied_push cs n used end ls ms r t c h e p is = subst (λ x. CopiedAs cs n used end ls ms x) is (copied cs n used end ls ms r c h e p)

module _ (xs ys zs : List (List ℕ)) (a b n used end : ℕ) (ls ms : List ℕ) (r : Result (Unit {0}) RefutationFault) (first : length xs ≡ a) (second : length ys ≡ b) where
  pub copied_first : n < a → CopiedAs xs n used end ls ms r → CopiedAs (xs ++ ys ++ zs) n used end ls ms r
  copied_first h =
      let size = parts_count xs ys zs a b first second in
      copied_as (xs ++ ys ++ zs) xs n n used end ls ms r (λ l. omega arith) (λ l. omega arith) (λ _. first_at xs ys zs a b first second n [] h)

  pub copied_second : (j : ℕ) → n ≡ a + j → j < b → CopiedAs ys j used end ls ms r → CopiedAs (xs ++ ys ++ zs) n used end ls ms r
  copied_second j e h =
      let size = parts_count xs ys zs a b first second in
      copied_as (xs ++ ys ++ zs) ys n j used end ls ms r (λ l. omega arith) (λ l. omega arith) (λ _. second_at xs ys zs a b first second n j [] e h)

  pub copied_third : (j : ℕ) → n ≡ a + b + j → CopiedAs zs j used end ls ms r → CopiedAs (xs ++ ys ++ zs) n used end ls ms r
  copied_third j e =
      let size = parts_count xs ys zs a b first second in
      copied_as (xs ++ ys ++ zs) zs n j used end ls ms r (λ l. omega arith) (λ l. omega arith) (λ _. third_at xs ys zs a b first second n j [] e)
