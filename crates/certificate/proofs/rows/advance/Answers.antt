use Rattle.std.proofs.Common.{◌≡◌, ℕ, ◌+◌, ◌-◌, ◌/◌, ◌<◌, Bool, false, List, get_or, ap, ◌∙◌, rules, arith}
use borrow.Rule.Slice.PartMut.{put_mid}
use Rattle.std.proofs.lemmas.List.{places}
use Rattle.machine.specs.Rows.{byte, row_inputs, row_state}
use Rattle.certificate.proofs.Filling.{span_size, part_from, small_from, was_filled, next_is, step_size}
use Rattle.certificate.proofs.rows.advance.Goals as goal

pub returns : goal.returns
returns g c =
    let m = g.M.Machine.meaning c.args.machine.now in
    let law = g.M.Machine.lawful c.args.machine.now in
    let old = c.args.row.now in
    let filled = was_filled m old c.fill.new.row c.fill.result c.unwrap.result c.unwrap.ensures c.fill.ensures in
    let s : List Bool = m.step (row_state m old) (row_inputs m old) in
    let first = 1 + c.inputs-first.result in
    let size = span_size c.mark_next.new.row first c.state_bits.result (omega (arith, law.room)) in
    let new = put_mid first (first + c.state_bits.result - first) c.mark_next.new.row c.shift.new.bytes in
    let halved : (k : ℕ) → k < m.state_bits → get_or new (1 + m.inputs + k) 0 ≡ get_or c.mark_next.new.row (1 + m.inputs + k) 0 / 2 = λ k l. search (rules, places, c.shift.ensures k) in
    let h : (k : ℕ) → k < m.state_bits → get_or new (1 + m.inputs + k) 0 ≡ byte (get_or s k false) =
    λ k l. halved k l ∙ c.mark_next.ensures k l ∙ ap byte (next_is m law old c.fill.new.row filled k l) in
    record {
      state = part_from new (1 + m.inputs) m.state_bits s (step_size m law old c.fill.new.row filled) (search (rules, law.room)) h;
      small = small_from new (1 + m.inputs) m.state_bits s h;
    }
