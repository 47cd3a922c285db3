use Rattle.std.proofs.Common.{◌+◌, false, ap, ◌∙◌, rules, arith}
use Rattle.std.proofs.lemmas.List.{places}
use Rattle.machine.specs.Rows.{byte}
use Rattle.certificate.proofs.Filling.{there, got, span_size, byte_of, part_from, small_from}
use Rattle.certificate.proofs.rows.begin.Goals as goal

pub unwrap-requires : goal.unwrap-requires
unwrap-requires g c =
    let law = g.M.Machine.lawful c.args.machine.now in
    let size = span_size c.args.row.now (1 + c.inputs-first.result) c.state_bits.result (omega (arith, law.room)) in
    there (g.M.Machine.meaning c.args.machine.now).start c.loop-bit.bit false c.start_bit.result (omega (arith, law.start_size)) c.start_bit.ensures

pub loop-bit-preserved : goal.loop-bit-preserved
loop-bit-preserved g c =
    let m = g.M.Machine.meaning c.args.machine.now in
    let law = g.M.Machine.lawful c.args.machine.now in
    let size = span_size c.args.row.now (1 + c.inputs-first.result) c.state_bits.result (omega (arith, law.room)) in
    let v = got m.start c.loop-bit.bit false c.start_bit.result c.unwrap.result (omega (arith, law.start_size)) c.start_bit.ensures c.unwrap.ensures in
    search (rules, byte_of c.unwrap.result ∙ ap byte v)

pub returns : goal.returns
returns g c =
    let m = g.M.Machine.meaning c.args.machine.now in
    let law = g.M.Machine.lawful c.args.machine.now in
    let size = span_size c.args.row.now (1 + c.inputs-first.result) c.state_bits.result (omega (arith, law.room)) in
    record {
      state = part_from _ (1 + m.inputs) m.state_bits m.start law.start_size (search (rules, law.room)) (λ k l. search (rules, places, c.loop-bit.invariant k));
      small = small_from _ (1 + m.inputs) m.state_bits m.start (λ k l. search (rules, places, c.loop-bit.invariant k));
    }
