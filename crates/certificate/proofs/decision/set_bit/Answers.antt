use Rattle.std.proofs.Common.{◌+◌, Bool, List, [], ◌∷◌, ◌++◌, set, Ok, sym, ap, ◌∙◌, arith}
use Rattle.machine.specs.Rows.{bit, row_state}
use Rattle.certificate.specs.Area.{part}
use Rattle.certificate.specs.Steps.{in_row}
use Rattle.certificate.proofs.Laws.{bit_goes, length_part, part_more, part_kept}
use Rattle.certificate.proofs.decision.set_bit.Goals as goal

pub returns-clause-is : goal.returns-clause-is
returns-clause-is c = λ m few.
    let area = c.args.row.now in
    let n = c.args.bits in
    let v = c.args.value in
    let l = length_part area 1 n (omega arith) in
    ap (λ (x : List Bool). Ok (in_row c.args.left x (row_state m (set area (1 + n) v)))) (part_more area n v (omega arith))
    ∙ ap (λ (s : List Bool). Ok (in_row c.args.left (part 1 n area ++ bit v ∷ []) s)) (part_kept area (1 + m.inputs) m.state_bits (1 + n) v (omega arith))
    ∙ sym (bit_goes m v c.args.left (part 1 n area) (row_state m area) (omega arith) (omega arith))
