-- The search for the span that a literal lies in.
use Rattle.std.proofs.Common.{◌≡◌, ℕ, zero, suc, ◌+◌, ◌-◌, ◌^◌, ◌<◌, ◌≤◌, min, Bool, true, false, cond, Some, None, Option, ◌&&◌, ltb, leb, List, length, get_or, take, sym, refl, ap, ◌∙◌, subst, pow-suc, arith}
use Rattle.std.specs.Option.{MatchOption}
use Rattle.std.proofs.lemmas.List.{length-take, get_or-take, get_or_read}
use Rattle.std.proofs.lemmas.Bool.{cond_both, cond-true, cond-false, lt-ltb, le-ltb, and_left}
use Rattle.stack.specs.declared.spans.Span.{Span}
use Rattle.frames.specs.Held.{span_at}
use Rattle.questions.specs.Places.{begun, halved}

-- a span p that is there has begun or not by its start
pub begun_there : (n : ℕ) (ps : List Span) (q k : ℕ) (p : Span) → k < min n (length ps) → p ≡ get_or ps k p → leb p.start q ≡ begun (take n ps) q k
unfolding begun
begun_there n ps q k p h e =
    let l : k < length (take n ps) = simp length-take h in
    let d : Span = record { start = 0; length = 0 } in
    ap (λ (s : Span). leb s.start q) (get_or_read ps k p (omega arith) e d ∙ sym (get_or-take n ps k d (omega arith)))
    ∙ ap (λ (b : Bool). b && leb (span_at (take n ps) k).start q) (sym (lt-ltb k (length (take n ps)) l))

-- one that is not there has not
pub begun_past : (n : ℕ) (ps : List Span) (q k : ℕ) → min n (length ps) ≤ k → false ≡ begun (take n ps) q k
unfolding begun
begun_past n ps q k h =
    let l : length (take n ps) ≤ k = simp length-take h in
    sym (and_left (ltb k (length (take n ps))) (leb (span_at (take n ps) k).start q) (le-ltb k (length (take n ps)) l))

-- what a read of a span tells of it
pub begun_read : (n u : ℕ) (ps : List Span) (q k : ℕ) (o : Option Span) (b : Bool) (P : Span → Type 0) → u ≡ n →
    MatchOption o (min u (length ps) ≤ k) (λ p. (k < min u (length ps)) × (p ≡ get_or ps k p)) → MatchOption o (b ≡ false) P → ((p : Span) → P p → b ≡ leb p.start q) → b ≡ begun (take n ps) q k
begun_read n u ps q k (Some p) b P e h is told = told p is ∙ begun_there n ps q k p (omega (arith, h.0)) h.1
begun_read n u ps q k None b P e h is told = is ∙ begun_past n ps q k (omega arith)

-- one halving
pub halved_more : (ps : List Span) (q b k : ℕ) → halved ps q (suc b) k ≡ halved ps q b (cond (begun ps q (k + 2 ^ b)) (k + 2 ^ b) k)
unfolding halved
halved_more ps q b k = refl

pub halved_done : (ps : List Span) (q k : ℕ) → halved ps q 0 k ≡ k
unfolding halved
halved_done ps q k = refl

-- the search ends at a span that has begun, before one that has not
pub halved_ends : (ps : List Span) (q b k : ℕ) → begun ps q k ≡ true → begun ps q (k + 2 ^ b) ≡ false →
    (begun ps q (halved ps q b k) ≡ true) × (begun ps q (halved ps q b k + 1) ≡ false)
unfolding halved
halved_ends ps q zero k h l = (h, l)
halved_ends ps q (suc b) k h l =
    let twice = pow-suc 2 b in
    let e : k + 2 ^ suc b ≡ k + 2 ^ b + 2 ^ b = omega arith in
    cond_both (begun ps q (k + 2 ^ b)) (k + 2 ^ b) k (λ j. (begun ps q (halved ps q b j) ≡ true) × (begun ps q (halved ps q b j + 1) ≡ false))
    (λ y. halved_ends ps q b (k + 2 ^ b) y (ap (begun ps q) (sym e) ∙ l))
    (λ n. halved_ends ps q b k h n)

-- a turn of the search
pub half : (b : ℕ) → 0 < b → 2 ^ b ≡ 2 ^ (b - 1) + 2 ^ (b - 1)
half zero h = let no : ⊥ = omega arith in absurd no
half (suc b) h =
    let e : suc b - 1 ≡ b = omega arith in
    let twice = pow-suc 2 b in
    let d : 2 ^ suc b ≡ 2 ^ b + 2 ^ b = omega arith in
    subst (λ (k : ℕ). 2 ^ suc b ≡ 2 ^ k + 2 ^ k) (sym e) d

module _ (ps : List Span) (q b k whole : ℕ) (h : 0 < b) (inv : whole ≡ halved ps q b k) where
  turn : whole ≡ halved ps q (b - 1) (cond (begun ps q (k + 2 ^ (b - 1))) (k + 2 ^ (b - 1)) k)
  turn = let e : b ≡ suc (b - 1) = omega arith in inv ∙ ap (λ n. halved ps q n k) e ∙ halved_more ps q (b - 1) k

  pub turn_on : (n : ℕ) → n ≡ k + 2 ^ (b - 1) → true ≡ begun ps q n → whole ≡ halved ps q (b - 1) n
  turn_on n e y =
      turn ∙ ap (halved ps q (b - 1)) (cond-true (begun ps q (k + 2 ^ (b - 1))) (k + 2 ^ (b - 1)) k (sym (y ∙ ap (begun ps q) e)) ∙ sym e)

  pub turn_off : (n : ℕ) → n ≡ k + 2 ^ (b - 1) → false ≡ begun ps q n → whole ≡ halved ps q (b - 1) k
  turn_off n e y =
      turn ∙ ap (halved ps q (b - 1)) (cond-false (begun ps q (k + 2 ^ (b - 1))) (k + 2 ^ (b - 1)) k (sym (y ∙ ap (begun ps q) e)))
