use Rattle.std.proofs.Common.{◌≡◌, ℕ, ◌+◌, ◌*◌, sym, ◌∙◌}
use Rattle.table_format.specs.Tables.{table_of}
use Rattle.table_format.proofs.RowClauses.{clauses_count}
use Rattle.step_table.proofs.StepTableMachine.clauses.Goals as goal

pub returns : goal.returns
returns c = both c.rows.ensures c.clauses_per_row.ensures ∙ sym (clauses_count (table_of c.args.self.now.bytes.now))
  where
    both : {a a' b b' : ℕ} → a ≡ a' → b ≡ b' → 1 + a * b ≡ 1 + a' * b'
    both e d = cc
