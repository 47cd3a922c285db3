use Rattle.std.proofs.Common.{arith}
use Rattle.machine.specs.Clauses.{listed}
use Rattle.unrolling.proofs.UnrolledNumbers.{row_clause, tie_clause_is, no_clause}
use Rattle.unrolling.proofs.rows.Unrolling.clause.Goals as goal

pub returns-in-None : goal.returns-in-None
returns-in-None g c =
    let self = c.args.self.now in
    let m = g.M.Machine.meaning self.machine.now in
    row_clause m (g.M.Machine.lawful self.machine.now) self.depth c.args.number c.clauses-clauses.result c.clauses-clauses.ensures (grind arith) (listed c.row_clause.result) c.row_clause.ensures

pub returns-in-Some : goal.returns-in-Some
returns-in-Some g c =
    let self = c.args.self.now in
    let m = g.M.Machine.meaning self.machine.now in
    tie_clause_is m (g.M.Machine.lawful self.machine.now) self.depth c.args.number c.clauses-clauses.result c.state_bits-ties.result c.in-Some.tie c.clauses-clauses.ensures c.state_bits-ties.ensures
    (grind arith) (listed c.tie_clause.result) (grind arith) c.tie_clause.ensures

pub returns-in-Some-2 : goal.returns-in-Some-2
returns-in-Some-2 g c =
    let self = c.args.self.now in
    let m = g.M.Machine.meaning self.machine.now in
    no_clause m (g.M.Machine.lawful self.machine.now) self.depth c.args.number c.clauses-clauses.result c.state_bits-ties.result c.in-Some.tie c.clauses-clauses.ensures c.state_bits-ties.ensures
    (grind arith) c.if-tie-self.false
