-- The sections of step and safe questions: rows, a frame, and what is asked of them.
use Rattle.std.proofs.Common.{◌≡◌, ℕ, ◌+◌, ◌<◌, ◌≤◌, List, [], ◌∷◌, ◌++◌, map, length, get_or, Result, sym, refl, ap, ◌∙◌, ⊎_elim, arith}
use Rattle.std.proofs.lemmas.List.{length-map, get_or-map}
use Rattle.std.proofs.lemmas.Bool.{cases_eq}
use Rattle.refusal.specs.declared.faults.Full.{Full as NoPlace}
use Rattle.refusal.specs.declared.faults.RefutationFault.{RefutationFault}
use Rattle.stack.specs.Pushes.{PushedAs}
use Rattle.resolution.specs.Lists.{CopiedAs}
use Rattle.resolution.proofs.Copies.{as_copy}
use Rattle.machine.specs.Meaning.{Meaning, Lawful}
use Rattle.question_theory.specs.Unrolling.{unroll}
use Rattle.question_theory.proofs.OneByOne.{parts_count}
use Rattle.question_theory.proofs.UnrollOrder.{unroll_in_order}
use Rattle.questions.specs.Lists.{denied_next}
use Rattle.questions.proofs.Sections.{copied_push, copied_first, copied_second, copied_third}

-- one row and two rows have few clauses
pub rows_few : (m : Meaning) → Lawful m → (d : ℕ) → d ≤ 1 → length (unroll m d) ≤ 163840
rows_few m law d h =
    let few = law.few in
    let room = law.room in
    let some = law.clauses_few in
    ⊎_elim
    (λ (e : d ≡ 0). omega (arith, ap (λ k. length (unroll m k)) e, (unroll_in_order m law 0).count))
    (λ (e : d ≡ 0 → ⊥). let one : d ≡ 1 = omega arith in omega (arith, ap (λ k. length (unroll m k)) one, (unroll_in_order m law 1).count))
    (cases_eq d 0)

module _ (m : Meaning) (d : ℕ) (cs zs : List (List ℕ)) where
  pub sections_count : length (unroll m d ++ cs ++ zs) ≡ length (unroll m d) + length cs + length zs
  sections_count = parts_count (unroll m d) cs zs (length (unroll m d)) (length cs) refl refl

  module _ (n used end : ℕ) (ls ms : List ℕ) (t : Result (Unit {0}) RefutationFault) where
    pub copied_row : n < length (unroll m d) → CopiedAs (unroll m d) n used end ls ms t → CopiedAs (unroll m d ++ cs ++ zs) n used end ls ms t
    copied_row = copied_first (unroll m d) cs zs (length (unroll m d)) (length cs) n used end ls ms t refl refl

    pub copied_framed : (j : ℕ) → n ≡ length (unroll m d) + j → j < length cs → CopiedAs cs j used end ls ms t → CopiedAs (unroll m d ++ cs ++ zs) n used end ls ms t
    copied_framed = copied_second (unroll m d) cs zs (length (unroll m d)) (length cs) n used end ls ms t refl refl

    pub copied_asked : (j : ℕ) → n ≡ length (unroll m d) + length cs + j → CopiedAs zs j used end ls ms t → CopiedAs (unroll m d ++ cs ++ zs) n used end ls ms t
    copied_asked = copied_third (unroll m d) cs zs (length (unroll m d)) (length cs) n used end ls ms t refl refl

-- a denial that is pushed
pub copied_denied : (m : Meaning) (c : List ℕ) (n used end : ℕ) (ls ms : List ℕ) (r : Result (Unit {0}) NoPlace) (t : Result (Unit {0}) RefutationFault) (x : ℕ) →
    n < length c → x ∷ [] ≡ denied_next m (get_or c n 0) → PushedAs (x ∷ []) used end ls ms r → as_copy r ≡ t → CopiedAs (map (denied_next m) c) n used end ls ms t
copied_denied m c n used end ls ms r t x h e p is =
    copied_push (map (denied_next m) c) n used end ls ms r t (x ∷ []) (omega (arith, length-map c (denied_next m))) (get_or-map (denied_next m) c n 0 [] h ∙ sym e) p is
