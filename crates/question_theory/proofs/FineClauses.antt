-- Lists of clauses that rise and have low literals.
use Rattle.std.proofs.Common.{ℕ, ◌<◌, ◌≤◌, List, [], ◌∷◌, ◌++◌, arith}
use Rattle.std.specs.List.{AllByRecursion}
use Rattle.std.proofs.ByRecursion.{All-append, All-weaker}
use Rattle.resolution.specs.Clauses.{Rising}
use Rattle.question_theory.specs.Shapes.{Fine}

pub fine_from : (n : ℕ) (cs : List (List ℕ)) → AllByRecursion Rising cs → AllByRecursion (AllByRecursion (λ l. l < n)) cs → Fine n cs
fine_from n [] r l = tt
fine_from n (c ∷ cs) r l = ((r.0, l.0), fine_from n cs r.1 l.1)

-- a higher bound
pub fine_more : (n k : ℕ) (cs : List (List ℕ)) → n ≤ k → Fine n cs → Fine k cs
fine_more n k cs h f =
    All-weaker (λ c. Rising c × AllByRecursion (λ l. l < n) c) (λ c. Rising c × AllByRecursion (λ l. l < k) c)
    (λ c p. (p.0, All-weaker (λ l. l < n) (λ l. l < k) (λ l q. omega arith) c p.1)) cs f

pub fine_join : (n : ℕ) (xs ys : List (List ℕ)) → Fine n xs → Fine n ys → Fine n (xs ++ ys)
fine_join n xs ys f g = All-append (λ c. Rising c × AllByRecursion (λ l. l < n) c) xs ys f g

pub fine_unit : (n l : ℕ) → l < n → Fine n ((l ∷ []) ∷ [])
fine_unit n l h = (((tt, tt), (h, tt)), tt)
