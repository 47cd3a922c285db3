use Rattle.std.proofs.Common.{◌≤◌, length, vec_items, vec_len}
use Rattle.refutation_files.proofs.OneClause.{Begun}
use Rattle.refutation_files.proofs.clauses.read_clause.Given as goal

abbrev pub invariant-loop-record : goal.invariant-loop-record
invariant-loop-record l =
    (l.start ≤ vec_len l.literals)
    × Begun l.initial.cursor.rest.now l.cursor.rest.now (vec_items l.initial.literals) (vec_items l.literals)

abbrev pub decreases-loop-record : goal.decreases-loop-record
decreases-loop-record l = length l.cursor.rest.now
