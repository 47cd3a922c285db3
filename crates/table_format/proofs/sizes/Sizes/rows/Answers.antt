use Rattle.std.proofs.Common.{◌+◌, ◌^◌, ◌≤◌, arith, pow_mono}
use Rattle.table_format.proofs.sizes.Sizes.rows.Goals as goal

pub returns-clause-few : goal.returns-clause-few
returns-clause-few c =
    let s = c.args.self.now in
    let p : 2 ^ (s.inputs + s.state_bits) ≤ 2 ^ 10 = pow_mono s.few_bits in
    omega (arith, c.args.self.now.few_bits)
