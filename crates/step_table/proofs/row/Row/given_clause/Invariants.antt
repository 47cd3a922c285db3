use Rattle.std.proofs.Common.{◌≡◌, ◌+◌, map}
use Rattle.std.specs.List.{range_with_len}
use Rattle.resolution.specs.Clauses.{denial}
use Rattle.machine.specs.Clauses.{listed}
use Rattle.table_format.specs.Stepping.{valued, binary_digit}
use Rattle.step_table.proofs.row.Row.given_clause.Given as goal

abbrev pub invariant-loop-bit : goal.invariant-loop-bit
invariant-loop-bit l = listed l.clause ≡ map denial (map (λ k. valued (1 + k) (binary_digit l.self.number k)) (range_with_len 0 l.bit))
