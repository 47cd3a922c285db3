-- The selectors of a frame's clauses, by the marks of the frame.
use Rattle.std.proofs.Common.{◌%◌, arith, ◌≡◌, ℕ, suc, ◌+◌, ◌-◌, ◌*◌, ◌<◌, map, length, get_or, refl, ap, ◌∙◌}
use Rattle.std.specs.List.{range_with_len}
use Rattle.std.proofs.lemmas.List.FromFn.{length-map-range_with_len, get_or-map-range_with_len}
use Rattle.std.proofs.lemmas.Bool.{eq-eqb}
use Rattle.resolution.specs.Clauses.{denial}
use Rattle.frames.specs.declared.frames.Frames.{Frames}
use Rattle.frames.specs.Held.{before_frame}
use Rattle.questions.specs.Closing.{selecting}

-- the denial of a selector
pub selector_denied : (k : ℕ) → denial (2 * k) ≡ 2 * k + 1
unfolding denial
selector_denied k = rw (eq-eqb (2 * k % 2) 0 (omega arith))

module _ (a : ℕ) (f : Frames) (j : ℕ) where
  pub selecting_count : length (selecting a f j) ≡ (before_frame f (suc j)).clauses - (before_frame f j).clauses
  unfolding selecting
  selecting_count = length-map-range_with_len (λ k. 2 * (a + k)) (before_frame f j).clauses ((before_frame f (suc j)).clauses - (before_frame f j).clauses)

  pub selecting_is : (first size : ℕ) → first ≡ (before_frame f j).clauses → size ≡ (before_frame f (suc j)).clauses - (before_frame f j).clauses → map (λ k. 2 * (a + k)) (range_with_len first size) ≡ selecting a f j
  unfolding selecting
  selecting_is first size d e = ap (λ n. map (λ k. 2 * (a + k)) (range_with_len n size)) d ∙ ap (λ n. map (λ k. 2 * (a + k)) (range_with_len (before_frame f j).clauses n)) e

  pub selecting_at : (k : ℕ) → k < (before_frame f (suc j)).clauses - (before_frame f j).clauses → get_or (selecting a f j) k 0 ≡ 2 * (a + ((before_frame f j).clauses + k))
  unfolding selecting
  selecting_at k h = get_or-map-range_with_len (λ i. 2 * (a + i)) (before_frame f j).clauses ((before_frame f (suc j)).clauses - (before_frame f j).clauses) k ((before_frame f j).clauses + k) 0 h refl
