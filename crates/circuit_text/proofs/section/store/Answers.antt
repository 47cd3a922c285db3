use Rattle.std.proofs.Common.{◌≡◌, ℕ, ◌+◌, ◌≤◌, List, [], ◌∷◌, ◌++◌, length, take, drop, set, sym, ap, ◌∙◌, arith}
use Rattle.std.proofs.lemmas.List.{append_assoc, take_more_set, length-set, drop-set-lt}
use Rattle.circuit_text.specs.Lines.{listed}
use Rattle.circuit_text.proofs.section.store.Goals as goal

take_two : (xs : List ℕ) (n a b : ℕ) → n + 2 ≤ length xs → take (n + 2) (set (set xs n a) (n + 1) b) ≡ take n xs ++ (a ∷ b ∷ [])
take_two xs n a b l =
    let n2 : n + 2 ≡ n + 1 + 1 = omega arith in
    ap (λ (m : ℕ). take m (set (set xs n a) (n + 1) b)) n2 ∙ (take_more_set (set xs n a) (n + 1) b (simp length-set (omega arith))
    ∙ (ap (λ (ys : List ℕ). ys ++ (b ∷ [])) (take_more_set xs n a (omega arith)) ∙ append_assoc (take n xs) (a ∷ []) (b ∷ [])))

drop_two : (xs : List ℕ) (n a b : ℕ) → drop (n + 2) (set (set xs n a) (n + 1) b) ≡ drop (n + 2) xs
drop_two xs n a b = drop-set-lt (n + 2) (set xs n a) (n + 1) b (omega arith) ∙ drop-set-lt (n + 2) xs n a (omega arith)

pub returns-in-One : goal.returns-in-One
returns-in-One c =
    let area = c.args.area.now in
    let n = c.args.used in
    let a = c.in-One.literal in
    let is : listed c.args.kept ≡ a ∷ [] = ap listed c.in-One.is in
    let size = ap length is in
    record {
      used = omega arith;
      stored = take_more_set area n a (omega (arith, c.requires)) ∙ ap (λ (l : List ℕ). take n area ++ l) (sym is);
      rest = drop-set-lt (n + 1) area n a (omega arith);
    }

pub returns-in-Two : goal.returns-in-Two
returns-in-Two c =
    let area = c.args.area.now in
    let n = c.args.used in
    let a = c.in-Two.a in
    let b = c.in-Two.b in
    let is : listed c.args.kept ≡ a ∷ b ∷ [] = ap listed c.in-Two.is in
    let size = ap length is in
    record {
      used = omega arith;
      stored = take_two area n a b (omega (arith, c.requires)) ∙ ap (λ (l : List ℕ). take n area ++ l) (sym is);
      rest = drop_two area n a b;
    }
