-- The digits that a text begins with, a byte at a time.
use Rattle.std.proofs.Common.{◌≡◌, ℕ, ◌+◌, ◌-◌, ◌*◌, ◌^◌, ◌<◌, ◌≤◌, List, [], ◌∷◌, length, get_or, drop, Some, None, sym, ap, ◌∙◌, arith}
use Rattle.std.proofs.lemmas.Bool.Decides.{nat_tests}
use Rattle.std.proofs.lemmas.Bool.{le-ltb, lt-ltb, cond-true, cond-false}
use Rattle.std.proofs.lemmas.List.{drop_more, drop_all}
use Rattle.decimal.specs.Number.{leading, value_on, fitting}

digit_here : (c : ℕ) (cs : List ℕ) → 48 ≤ c → c ≤ 57 → leading (c ∷ cs) ≡ c ∷ leading cs
digit_here c cs lo hi = grind (arith, nat_tests)

-- a digit stands at e
pub leading_more : (text : List ℕ) (e : ℕ) → e < length text → 48 ≤ get_or text e 0 → get_or text e 0 ≤ 57
    → leading (drop e text) ≡ get_or text e 0 ∷ leading (drop (e + 1) text)
leading_more text e l lo hi = ap leading (drop_more text e 0 l) ∙ digit_here (get_or text e 0) (drop (e + 1) text) lo hi

pub leading_low : (text : List ℕ) (e : ℕ) → e < length text → get_or text e 0 < 48 → leading (drop e text) ≡ []
leading_low text e l h = ap leading (drop_more text e 0 l) ∙ grind (arith, nat_tests)

pub leading_high : (text : List ℕ) (e : ℕ) → e < length text → 57 < get_or text e 0 → leading (drop e text) ≡ []
leading_high text e l h = ap leading (drop_more text e 0 l) ∙ grind (arith, nat_tests)

pub leading_end : (text : List ℕ) (e : ℕ) → length text ≤ e → leading (drop e text) ≡ []
leading_end text e h = ap leading (drop_all e text h)

-- more digits never make a value smaller
pub value_grows : (v : ℕ) (ds : List ℕ) → v ≤ value_on v ds
value_grows v [] = omega arith
value_grows v (c ∷ cs) = omega (arith, value_grows (v * 10 + (c - 48)) cs)

-- a digit more makes the value too large
pub too_large : (text : List ℕ) (i value : ℕ) → i < length text → 48 ≤ get_or text i 0 → get_or text i 0 ≤ 57
    → value_on value (leading (drop i text)) ≡ value_on 0 (leading text) → 2 ^ 32 ≤ value * 10 + (get_or text i 0 - 48)
    → 2 ^ 32 ≤ value_on 0 (leading text)
too_large text i value l lo hi inv big =
    let step = ap (value_on value) (leading_more text i l lo hi) in
    omega (arith, inv, step, value_grows (value * 10 + (get_or text i 0 - 48)) (leading (drop (i + 1) text)))

pub fitting_none : (ds : List ℕ) → 2 ^ 32 ≤ value_on 0 ds → None ≡ fitting ds
fitting_none ds h = sym (cond-false _ _ _ (le-ltb (value_on 0 ds) (2 ^ 32) h))

pub fitting_some : (ds : List ℕ) (v k : ℕ) → v ≡ value_on 0 ds → k ≡ length ds → v < 2 ^ 32 → Some (v, k) ≡ fitting ds
fitting_some ds v k e s h =
    ap (λ (p : ℕ × ℕ). Some p) (let q : (v, k) ≡ (value_on 0 ds, length ds) = cc in q) ∙ sym (cond-true _ _ _ (lt-ltb (value_on 0 ds) (2 ^ 32) (omega arith)))
