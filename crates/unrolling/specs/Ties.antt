-- The clauses that tie a frame to the next, by number.
use Rattle.std.specs.Prelude.{ℕ, suc, ◌/◌, ◌%◌, cond, List, [], ◌∷◌, ◌==◌, slice_index}
use Rattle.resolution.specs.Clauses.{denial}
use Rattle.machine.specs.Meaning.{Meaning}
use Rattle.question_theory.specs.Unrolling.{moved, literal_of_state}

-- tie j of frame t: state bit j / 2 of the next frame is true only if, or, where j is odd, is true if, its next literal is
unfoldable pub tie_at : Meaning → ℕ → ℕ → List ℕ
tie_at m t j =
    cond (j % 2 == 0)
    (moved m t (slice_index m.next (j / 2)) ∷ denial (moved m (suc t) (literal_of_state m (j / 2))) ∷ [])
    (denial (moved m t (slice_index m.next (j / 2))) ∷ moved m (suc t) (literal_of_state m (j / 2)) ∷ [])
