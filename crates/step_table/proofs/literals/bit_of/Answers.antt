use Rattle.std.proofs.Common.{ℕ, ◌/◌, ◌^◌, eqb, ap}
use Rattle.std.proofs.lemmas.Nat.{and_mask}
use Rattle.table_format.specs.Stepping.{binary_digit}
use Rattle.step_table.proofs.literals.bit_of.Goals as goal

pub returns : goal.returns
unfolding binary_digit
returns c = ap (λ (b : ℕ). eqb b 1) (and_mask (c.args.number / 2 ^ c.args.bit) 1)
