use Rattle.std.proofs.Common.{◌++◌, take, codes, decimal}
use Rattle.std.specs.Fmt.{IsPlainFormatter, HasWritten}
use Rattle.std.specs.List.{flat_map}
use Rattle.calls.proofs.clause_line.ClauseLineDisplay.fmt.Given as goal

-- the literals so far are written
abbrev pub invariant-loop-literal : goal.invariant-loop-literal
invariant-loop-literal g l = IsPlainFormatter l.initial.f → HasWritten g.W.Write.write_str_gives l.initial.f (flat_map (λ k. codes " " ++ decimal k) (take l.literal-index l.literals)) l.f
