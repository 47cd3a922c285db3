use Rattle.std.proofs.Common.{vec_items, rules}
use Rattle.std.proofs.lemmas.Result.{err_from_is_err_and}
use Rattle.refutation_files.proofs.ManyClauses.{filed_none, filed_more, filed_whole, unlisted, clause_shorter, clause_longer}
use Rattle.refutation_files.proofs.clauses.read_clauses.Goals as goal

pub loop-cursor-init : goal.loop-cursor-init
loop-cursor-init c = filed_none _ _ _ _ c.new-cursor.ensures.rest c.new-literals.ensures.items c.new-spans.ensures.items

pub returns-in_err-read_clause : goal.returns-in_err-read_clause
returns-in_err-read_clause c =
    let p = err_from_is_err_and c.from_residual.result c.from_residual.ensures.1 in
    rw (p.1, p.2) (unlisted _ _ _ _ c.loop-cursor.invariant (search rules) c.read_clause.new.cursor.rest.now (vec_items c.read_clause.new.literals) c.in_err-read_clause.field-0.0 c.in_err-read_clause.ensures)

pub span-requires : goal.span-requires
span-requires c =
    let r = clause_longer _ _ _ _ c.in_ok-read_clause.ensures in
    search rules

pub loop-cursor-smaller : goal.loop-cursor-smaller
loop-cursor-smaller c = clause_shorter _ _ _ _ c.in_ok-read_clause.ensures

pub loop-cursor-preserved : goal.loop-cursor-preserved
loop-cursor-preserved c =
    filed_more _ _ _ _ c.loop-cursor.invariant (search rules) _ _ c.in_ok-read_clause.ensures
    c.in_ok-clause.clause (search rules) (search rules) _ (search rules)

pub returns : goal.returns
returns c = filed_whole _ _ _ _ c.loop-cursor.invariant (search rules)
