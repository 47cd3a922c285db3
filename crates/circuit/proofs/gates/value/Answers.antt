use Rattle.std.proofs.Common.{◌≡◌, ℕ, zero, suc, ◌/◌, ◌%◌, ◌<◌, Bool, cond, not, eqb, get_or, sym, refl, ap, ◌∙◌, arith}
use lib.Bits.{bit_xor}
use Rattle.std.proofs.lemmas.Nat.{and_mask}
use Rattle.resolution.specs.Clauses.{literal_true}
use Rattle.machine.specs.Rows.{bit, byte}
use Rattle.machine.proofs.RowBits.{get_or_bits}
use Rattle.circuit.proofs.gates.value.Goals as goal

-- a byte x of a variable, turned where the literal is odd
turned : (x odd : ℕ) → x < 2 → odd < 2 → bit_xor x odd ≡ byte (cond (eqb odd 0) (bit x) (not (bit x)))
turned zero zero h k = refl
turned zero (suc zero) h k = refl
turned zero (suc (suc odd)) h k = absurd (omega arith)
turned (suc zero) zero h k = refl
turned (suc zero) (suc zero) h k = refl
turned (suc zero) (suc (suc odd)) h k = absurd (omega arith)
turned (suc (suc x)) odd h k = absurd (omega arith)

pub returns : goal.returns
unfolding literal_true
returns c =
    let row = c.args.row.now in
    let l = c.args.literal in
    ap (bit_xor (get_or row (l / 2) 0)) (and_mask l 1) ∙ turned (get_or row (l / 2) 0) (l % 2) c.requires.1 (omega arith)
    ∙ ap (λ (b : Bool). byte (cond (eqb (l % 2) 0) b (not b))) (sym (get_or_bits row (l / 2)))
