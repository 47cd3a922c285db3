use Rattle.std.proofs.Common.{◌≡◌, ◌%◌, Bool, true, false, cond, not, eqb, sym, refl, ap, ◌∙◌}
use mathlib.Core.Bool.{beq}
use Rattle.resolution.specs.Clauses.{literal_true}
use Rattle.resolution.proofs.is_true.Goals as goal

-- a literal with an even number is its variable, one with an odd number its denial
signed : (set even : Bool) → beq set even ≡ cond even set (not set)
signed true true = refl
signed true false = refl
signed false true = refl
signed false false = refl

pub returns : goal.returns
unfolding literal_true
returns c v e = signed c.args.set (eqb (c.args.literal % 2) 0) ∙ ap (λ b. cond (eqb (c.args.literal % 2) 0) b (not b)) (sym e)
