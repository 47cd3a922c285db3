-- The clauses of the closing question by their numbers.
use Rattle.std.proofs.Common.{◌≡◌, ℕ, zero, suc, ◌+◌, ◌-◌, ◌*◌, ◌<◌, ◌≤◌, ltb, List, [], ◌∷◌, map, length, get_or, take, sym, refl, ap, ◌∙◌, ap₂, ⊎_elim, arith}
use Rattle.std.proofs.lemmas.List.{length-append, length-map, get_or-map, get_or_append_left, get_or-append_right}
use Rattle.std.proofs.lemmas.Bool.{cases_lt, cond-true, cond-false, lt-ltb, le-ltb}
use Rattle.resolution.specs.Clauses.{denial}
use Rattle.question_theory.specs.Traces.{before, selectors, choices, denials, closing_question}
use Rattle.question_theory.specs.Shapes.{flat, owner, SelectorsInOrder, DenialsInOrder, LiteralPlace, LiteralsInOrder, ClosingInOrder}
use Rattle.question_theory.proofs.OneByOne.{each_count, each_at, parts_count, first_at, second_at, third_at}

selectors_count : (a : ℕ) (cs : List (List ℕ)) → length (selectors a cs) ≡ length cs
selectors_count a [] = refl
selectors_count a (c ∷ cs) = ap suc (selectors_count (a + 1) cs)

selector_at : (a : ℕ) (cs : List (List ℕ)) (j : ℕ) → j < length cs → get_or (selectors a cs) j 0 ≡ 2 * (a + j)
selector_at a [] j h = let none : ⊥ = omega arith in absurd none
selector_at a (c ∷ cs) zero h = omega arith
selector_at a (c ∷ cs) (suc j) h = let e = selector_at (a + 1) cs j (omega arith) in omega arith

pub selectors_in_order : SelectorsInOrder
selectors_in_order a cs = (selectors_count a cs, selector_at a cs)

denials_count : (a : ℕ) (cs : List (List ℕ)) → length (denials a cs) ≡ length (flat cs)
denials_count a [] = refl
denials_count a (c ∷ cs) =
    length-append (map (λ (x : ℕ). denial x ∷ (2 * a + 1) ∷ []) c) (denials (a + 1) cs)
    ∙ ap₂ ◌+◌ (length-map c (λ (x : ℕ). denial x ∷ (2 * a + 1) ∷ [])) (denials_count (a + 1) cs) ∙ sym (length-append c (flat cs))

denial_at : (a : ℕ) (cs : List (List ℕ)) (q : ℕ) → q < length (flat cs) → get_or (denials a cs) q [] ≡ denial (get_or (flat cs) q 0) ∷ (2 * (a + owner cs q) + 1) ∷ []
denial_at a [] q h = let none : ⊥ = omega arith in absurd none
denial_at a (c ∷ cs) q h =
    let f : ℕ → List ℕ = λ (x : ℕ). denial x ∷ (2 * a + 1) ∷ [] in
    let size = length-map c f in
    let all = length-append c (flat cs) in
    let ih : q - length c < length (flat cs) → get_or (denials (a + 1) cs) (q - length c) [] ≡ denial (get_or (flat cs) (q - length c) 0) ∷ (2 * (a + 1 + owner cs (q - length c)) + 1) ∷ [] = denial_at (a + 1) cs (q - length c) in
    ⊎_elim
    (λ (x : q < length c).
    let o : owner (c ∷ cs) q ≡ 0 = cond-true (ltb q (length c)) zero (suc (owner cs (q - length c))) (lt-ltb q (length c) x) in
    let e : a ≡ a + owner (c ∷ cs) q = omega arith in
    get_or_append_left (map f c) (denials (a + 1) cs) [] q (omega arith)
    ∙ get_or-map f c q 0 [] x
    ∙ ap₂ (λ (y k : ℕ). denial y ∷ (2 * k + 1) ∷ []) (sym (get_or_append_left c (flat cs) 0 q x)) e)
    (λ (x : length c ≤ q).
    let o : owner (c ∷ cs) q ≡ suc (owner cs (q - length c)) = cond-false (ltb q (length c)) zero (suc (owner cs (q - length c))) (le-ltb q (length c) x) in
    let e : a + 1 + owner cs (q - length c) ≡ a + owner (c ∷ cs) q = omega arith in
    get_or-append_right (map f c) (denials (a + 1) cs) (length c) q [] size x
    ∙ ih (omega arith)
    ∙ ap₂ (λ (y k : ℕ). denial y ∷ (2 * k + 1) ∷ []) (sym (get_or-append_right c (flat cs) (length c) q 0 refl x)) e)
    (cases_lt q (length c))

pub denials_in_order : DenialsInOrder
denials_in_order a cs = (denials_count a cs, denial_at a cs)

pub literals_in_order : LiteralsInOrder
literals_in_order [] q c j e h l = let none : ⊥ = omega arith in absurd none
literals_in_order (d ∷ cs) q zero j e h l =
    let all = length-append d (flat cs) in
    let j< : j < length d = l in
    let q< : q < length d = omega arith in
    let same : q ≡ j = omega arith in
    record {
      within = omega arith;
      literal = get_or_append_left d (flat cs) 0 q q< ∙ ap (λ (k : ℕ). get_or d k 0) same;
      clause = cond-true (ltb q (length d)) zero (suc (owner cs (q - length d))) (lt-ltb q (length d) q<);
    }
literals_in_order (d ∷ cs) q (suc c) j e h l =
    let all = length-append d (flat cs) in
    let some = length-append d (flat (take c cs)) in
    let past : length d ≤ q = omega arith in
    let ih : LiteralPlace cs (q - length d) c j = literals_in_order cs (q - length d) c j (omega arith) (omega arith) l in
    let w : q - length d < length (flat cs) = ih.within in
    record {
      within = omega arith;
      literal = get_or-append_right d (flat cs) (length d) q 0 refl past ∙ ih.literal;
      clause = cond-false (ltb q (length d)) zero (suc (owner cs (q - length d))) (le-ltb q (length d) past) ∙ ap suc ih.clause;
    }

pub closing_in_order : ClosingInOrder
unfolding closing_question
closing_in_order m F n = record {
  count = parts_count (F n) C D (length (F n)) n refl chosen ∙ ap (λ (k : ℕ). length (F n) + n + k) (denials_in_order m.variables (before F n)).0;
  framed = λ k h. first_at (F n) C D (length (F n)) n refl chosen k [] h;
  choice = λ k j e h. second_at (F n) C D (length (F n)) n refl chosen k j [] e h ∙ each_at pick (choices m F) refl (λ _. refl) n j [] h;
  denied = λ k q e h. third_at (F n) C D (length (F n)) n refl chosen k q [] e ∙ (denials_in_order m.variables (before F n)).1 q h;
}
  where
    pick : ℕ → List ℕ
    pick j = selectors (m.variables + length (before F j)) (F j)

    C : List (List ℕ)
    C = choices m F n

    D : List (List ℕ)
    D = denials m.variables (before F n)

    chosen : length C ≡ n
    chosen = each_count pick (choices m F) refl (λ _. refl) n
