use Rattle.std.proofs.Common.{◌≡◌, ◌+◌, ◌*◌, map}
use Rattle.std.specs.List.{range_with_len}
use Rattle.stack.specs.Pushes.{placed}
use Rattle.questions.proofs.list.TraceList.push_selectors.Given as goal

abbrev pub invariant-loop-k : goal.invariant-loop-k
invariant-loop-k g l = l.literals ≡ placed l.start (map (λ n. 2 * (l.variables + n)) (range_with_len l.first l.k)) l.initial.literals
