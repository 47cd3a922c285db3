use Rattle.std.proofs.Common.{◌≡◌, map, take}
use Rattle.machine.specs.Clauses.{listed}
use Rattle.question_theory.specs.Unrolling.{moved}
use Rattle.unrolling.proofs.rows.Unrolling.row_clause.Given as goal

abbrev pub invariant-loop-literal : goal.invariant-loop-literal
invariant-loop-literal g l = listed l.there ≡ map (moved (g.M.Machine.meaning l.self.machine.now) l.row) (take l.literal-index l.literal-items)
