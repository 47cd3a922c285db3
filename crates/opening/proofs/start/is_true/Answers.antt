use Rattle.std.proofs.Common.{◌+◌, ◌-◌, ◌/◌, sym, arith}
use Rattle.question_theory.specs.Traces.{state_setting}
use Rattle.opening.proofs.InStart.{bit_at}
use Rattle.opening.proofs.start.is_true.Goals as goal

pub returns : goal.returns
returns g c =
    let m = g.M.Machine.meaning c.args.machine.now in
    c.is_true.ensures (state_setting m m.start)
    (sym (bit_at m.start (c.args.literal / 2 - (1 + m.inputs)) c.saturating_sub-bit.result c.start_bit.result c.unwrap_or.result
    (omega arith) c.start_bit.ensures c.unwrap_or.ensures))
