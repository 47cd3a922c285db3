-- Clauses and frames stay as more is written behind them.
use Rattle.std.proofs.Common.{◌≡◌, ℕ, zero, suc, ◌+◌, ◌-◌, ◌<◌, ◌≤◌, List, [], ◌∷◌, ◌++◌, length, get_or, take, drop, sym, refl, ap, ◌∙◌, ap₂, arith}
use Rattle.std.proofs.lemmas.List.{length-drop, length-map, get_or-map, take-take, drop-take, take-append-le, drop-append-le, same_lists, flat_map_more}
use Rattle.stack.specs.declared.spans.Span.{Span}
use Rattle.stack.specs.Runs.{run, runs}
use Rattle.frames.specs.declared.frames.Mark.{Mark}
use Rattle.frames.specs.declared.frames.Frames.{Frames}
use Rattle.frames.specs.Held.{none, marked, clauses_of, before_frame, frame, flat, span_at}

-- a span that ends within the first n
run_within : (ls : List ℕ) (n : ℕ) (p : Span) → p.start + p.length ≤ n → run (take n ls) p ≡ run ls p
run_within ls n p h =
    let e : n ≡ p.start + (n - p.start) = omega arith in
    ap (λ (k : ℕ). take p.length (drop p.start (take k ls))) e
    ∙ ap (take p.length) (drop-take p.start (n - p.start) ls)
    ∙ take-take p.length (n - p.start) (drop p.start ls) (omega arith)

-- spans that end within the first n mark out the same where more literals are there
pub runs_within : (ls : List ℕ) (n m : ℕ) (ps : List Span) → n ≤ m → ((k : ℕ) → k < length ps → (span_at ps k).start + (span_at ps k).length ≤ n) → runs (take m ls) ps ≡ runs (take n ls) ps
runs_within ls n m ps h w =
    same_lists (runs (take m ls) ps) (runs (take n ls) ps) (length-map ps (run (take m ls)) ∙ sym (length-map ps (run (take n ls)))) (λ k d b.
    let l : k < length ps = omega (arith, length-map ps (run (take m ls))) in
    get_or-map (run (take m ls)) ps k (record { start = 0; length = 0 }) d l
    ∙ run_within ls m (span_at ps k) (omega (arith, w k l))
    ∙ sym (run_within ls n (span_at ps k) (w k l))
    ∙ sym (get_or-map (run (take n ls)) ps k (record { start = 0; length = 0 }) d l))

-- one clause more
pub flat_more : (cs : List (List ℕ)) (c : List ℕ) → flat (cs ++ c ∷ []) ≡ flat cs ++ c
flat_more cs c = sym (flat_map_more (λ (x : List ℕ). x) [] cs c)

-- the clauses between two marks
abbrev pub cut : Mark → Mark → List (List ℕ) → List (List ℕ)
cut a b cs = take (b.clauses - a.clauses) (drop a.clauses cs)

pub cut_front : (a b : Mark) (cs ds : List (List ℕ)) → a.clauses ≤ length cs → b.clauses ≤ length cs → cut a b (cs ++ ds) ≡ cut a b cs
cut_front a b cs ds h k =
    ap (take (b.clauses - a.clauses)) (drop-append-le a.clauses cs ds h)
    ∙ take-append-le (b.clauses - a.clauses) (drop a.clauses cs) ds (omega (arith, length-drop a.clauses cs))

-- frames with the same marks
module _ (f g : Frames) (e : marked g ≡ marked f) where
  pub same_before : (i : ℕ) → before_frame g i ≡ before_frame f i
  same_before zero = refl
  same_before (suc i) = ap (λ (ms : List Mark). get_or ms i none) e

  pub same_cut : (ms : List ℕ) (qs : List Span) (i : ℕ) → frame g ms qs i ≡ cut (before_frame f i) (before_frame f (suc i)) (clauses_of g ms qs)
  unfolding frame
  same_cut ms qs i = ap₂ (λ (a b : Mark). cut a b (clauses_of g ms qs)) (same_before i) (same_before (suc i))
