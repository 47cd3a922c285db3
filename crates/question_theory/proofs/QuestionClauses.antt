-- The clauses of step, safe, base and last questions by their numbers.
use Rattle.std.proofs.Common.{◌≡◌, ℕ, zero, suc, ◌+◌, ◌<◌, Bool, false, List, [], ◌∷◌, map, length, get_or, refl, ap, ◌∙◌, arith}
use Rattle.std.proofs.lemmas.List.{length-map, get_or-map}
use Rattle.resolution.specs.Clauses.{denial}
use Rattle.machine.specs.Meaning.{Meaning}
use Rattle.question_theory.specs.Unrolling.{moved, unroll}
use Rattle.question_theory.specs.Traces.{step_question, safe_question}
use Rattle.question_theory.specs.Inductions.{bit_literal, units, unbroken, base_question, last_question}
use Rattle.question_theory.specs.Shapes.{unroll_size, StepInOrder, SafeInOrder, BaseInOrder, LastInOrder}
use Rattle.question_theory.proofs.OneByOne.{each_count, each_at, parts_count, first_at, second_at, third_at}
use Rattle.question_theory.proofs.UnrollOrder.{unroll_in_order}

pub step_in_order : StepInOrder
unfolding step_question
step_in_order m law frame c = record {
  count = parts_count U frame D (unroll_size m 1) (length frame) size refl ∙ ap (λ (k : ℕ). unroll_size m 1 + length frame + k) (length-map c unit);
  unrolled = λ k h. first_at U frame D (unroll_size m 1) (length frame) size refl k [] h;
  framed = λ k j e h. second_at U frame D (unroll_size m 1) (length frame) size refl k j [] e h;
  denied = λ k j e h. third_at U frame D (unroll_size m 1) (length frame) size refl k j [] e ∙ get_or-map unit c j 0 [] h;
}
  where
    unit : ℕ → List ℕ
    unit l = denial (moved m 1 l) ∷ []

    U : List (List ℕ)
    U = unroll m 1

    D : List (List ℕ)
    D = map unit c

    size : length U ≡ unroll_size m 1
    size = (unroll_in_order m law 1).count

pub safe_in_order : SafeInOrder
unfolding safe_question
safe_in_order m law o frame = record {
  count = parts_count U frame R (unroll_size m 0) (length frame) size refl;
  unrolled = λ k h. first_at U frame R (unroll_size m 0) (length frame) size refl k [] h;
  framed = λ k j e h. second_at U frame R (unroll_size m 0) (length frame) size refl k j [] e h;
  broken = λ k e. third_at U frame R (unroll_size m 0) (length frame) size refl k 0 [] (omega arith);
}
  where
    U : List (List ℕ)
    U = unroll m 0

    R : List (List ℕ)
    R = (get_or m.rule o 0 ∷ []) ∷ []

    size : length U ≡ unroll_size m 0
    size = (unroll_in_order m law 0).count

units_count : (m : Meaning) (i : ℕ) (bs : List Bool) → length (units m i bs) ≡ length bs
units_count m i [] = refl
units_count m i (b ∷ bs) = ap suc (units_count m (i + 1) bs)

unit_at : (m : Meaning) (i : ℕ) (bs : List Bool) (j : ℕ) → j < length bs → get_or (units m i bs) j [] ≡ bit_literal m (i + j) (get_or bs j false) ∷ []
unit_at m i [] j h = let none : ⊥ = omega arith in absurd none
unit_at m i (b ∷ bs) zero h = let e : i ≡ i + zero = omega arith in ap (λ (k : ℕ). bit_literal m k b ∷ []) e
unit_at m i (b ∷ bs) (suc j) h =
    let e : i + 1 + j ≡ i + suc j = omega arith in
    unit_at m (i + 1) bs j (omega arith) ∙ ap (λ (k : ℕ). bit_literal m k (get_or bs j false) ∷ []) e

pub base_in_order : BaseInOrder
unfolding base_question
base_in_order m law o i = record {
  count = parts_count U S R (unroll_size m i) m.state_bits size start;
  unrolled = λ k h. first_at U S R (unroll_size m i) m.state_bits size start k [] h;
  started = λ k j e h.
      let bits = law.start_size in
      let none : 0 + j ≡ j = omega arith in
      second_at U S R (unroll_size m i) m.state_bits size start k j [] e h
      ∙ unit_at m 0 m.start j (omega arith) ∙ ap (λ (b : ℕ). bit_literal m b (get_or m.start j false) ∷ []) none;
  broken = λ k e. third_at U S R (unroll_size m i) m.state_bits size start k 0 [] (omega arith);
}
  where
    U : List (List ℕ)
    U = unroll m i

    S : List (List ℕ)
    S = units m 0 m.start

    R : List (List ℕ)
    R = (moved m i (get_or m.rule o 0) ∷ []) ∷ []

    size : length U ≡ unroll_size m i
    size = (unroll_in_order m law i).count

    start : length S ≡ m.state_bits
    start = units_count m 0 m.start ∙ law.start_size

pub last_in_order : LastInOrder
unfolding last_question
last_in_order m law o n = record {
  count = parts_count U N R (unroll_size m n) n size rows;
  unrolled = λ k h. first_at U N R (unroll_size m n) n size rows k [] h;
  unbroken = λ k t e h. second_at U N R (unroll_size m n) n size rows k t [] e h ∙ each_at unit (unbroken m o) refl (λ _. refl) n t [] h;
  broken = λ k e. third_at U N R (unroll_size m n) n size rows k 0 [] (omega arith);
}
  where
    unit : ℕ → List ℕ
    unit t = denial (moved m t (get_or m.rule o 0)) ∷ []

    U : List (List ℕ)
    U = unroll m n

    N : List (List ℕ)
    N = unbroken m o n

    R : List (List ℕ)
    R = (moved m n (get_or m.rule o 0) ∷ []) ∷ []

    size : length U ≡ unroll_size m n
    size = (unroll_in_order m law n).count

    rows : length N ≡ n
    rows = each_count unit (unbroken m o) refl (λ _. refl) n
