-- The frames of an opening, by number.
use Rattle.std.proofs.Common.{ℕ, ◌<◌, List, [], sym, ◌∙◌, subst, arith}
use Rattle.std.specs.List.{AllByRecursion}
use Rattle.std.proofs.ByRecursion.{All-get_or}
use Rattle.resolution.specs.Clauses.{Rising}
use Rattle.machine.specs.Meaning.{Meaning}
use Rattle.question_theory.specs.Traces.{StateClauses, In}
use Rattle.stack.specs.declared.spans.Span.{Span}
use Rattle.frames.specs.Held.{ended_frames, frame}
use Rattle.opening.specs.declared.opening.Opening.{Opening}
use Rattle.opening.specs.Steps.{Room}
use Rattle.opening.specs.Views.{held, Settled}
use Rattle.opening.specs.Openings.{Proper, Framed}
use Rattle.opening.proofs.HeldFrames.{held_count, held_at}

pub by_number : (m : Meaning) (room : Room) (o : Opening) (ls : List ℕ) (ps : List Span) → Settled o.frames ls ps → Proper m room o.claim o.size (held o.frames ls ps) → Framed m o ls ps
by_number m room o ls ps s p =
    let f = o.frames in
    let count = held_count f ls ps in
    let each : (P : List (List ℕ) → Type 0) → AllByRecursion P (held f ls ps) → (i : ℕ) → i < ended_frames f → P (frame f ls ps i) =
    λ P a i h. subst P (held_at f ls ps i h) (All-get_or P (held f ls ps) i [] (omega arith) a) in
    record {
      settled = s;
      count = sym count ∙ p.framed;
      rising = each (AllByRecursion Rising) p.rising;
      of_state = each (StateClauses m) p.of_state;
      starts = λ h. subst (λ (F : List (List ℕ)). In m F m.start) (held_at f ls ps 0 h) p.starts;
    }
