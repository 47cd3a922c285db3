use Rattle.std.proofs.Common.{length, vec_items}
use Rattle.refutation_files.proofs.ManyClauses.{Filed}
use Rattle.refutation_files.proofs.clauses.read_clauses.Given as goal

abbrev pub invariant-loop-cursor : goal.invariant-loop-cursor
invariant-loop-cursor l = Filed l.bytes l.cursor.rest.now (vec_items l.literals) (vec_items l.spans)

abbrev pub decreases-loop-cursor : goal.decreases-loop-cursor
decreases-loop-cursor l = length l.cursor.rest.now
