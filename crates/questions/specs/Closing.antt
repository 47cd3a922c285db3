-- The closing question of a trace, by where its frames and literals stand on the stacks.
use Rattle.std.specs.Prelude.{ℕ, suc, ◌+◌, ◌-◌, ◌*◌, List, [], ◌∷◌, ◌++◌, map, take, slice_index}
use Rattle.std.specs.List.{range_with_len}
use Rattle.resolution.specs.Clauses.{denial}
use Rattle.stack.specs.declared.spans.Span.{Span}
use Rattle.frames.specs.declared.frames.Frames.{Frames}
use Rattle.frames.specs.Held.{ended_frames, before_frame, frame}
use Rattle.questions.specs.Places.{place}

-- the number of the last frame
abbrev pub last_frame : Frames → ℕ
last_frame f = ended_frames f - 1

-- one of the clauses of frame j is selected: the selector of clause k is variable a + k
unfoldable pub selecting : ℕ → Frames → ℕ → List ℕ
selecting a f j = map (λ k. 2 * (a + k)) (range_with_len (before_frame f j).clauses ((before_frame f (suc j)).clauses - (before_frame f j).clauses))

-- where the clause of literal q is selected, the literal is denied
unfoldable pub denying : ℕ → List ℕ → List Span → ℕ → List ℕ
denying a ls ps q = denial (slice_index ls q) ∷ (2 * (a + place ps q) + 1) ∷ []

-- the last frame, a choice for each frame before it, a denial for each of their literals
unfoldable pub closing_clauses : ℕ → Frames → List ℕ → List Span → List (List ℕ)
closing_clauses a f ls ps =
    frame f ls ps (last_frame f)
    ++ map (selecting a f) (range_with_len 0 (last_frame f))
    ++ map (denying a (take f.ended ls) (take f.spans.used ps)) (range_with_len 0 (before_frame f (last_frame f)).literals)
