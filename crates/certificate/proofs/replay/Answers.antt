use Rattle.std.proofs.Common.{◌≡◌, length, Ok, sym, ◌∙◌, subst, arith, rules}
use Rattle.certificate.specs.Verdict.{replayed}
use Rattle.certificate.specs.Counterexamples.{Shows}
use Rattle.certificate.proofs.Showing.{shows, taken}
use Rattle.certificate.proofs.replay.Goals as goal

pub returns-in_err-run : goal.returns-in_err-run
returns-in_err-run g c =
    let m = g.M.Machine.meaning c.args.machine.now in
    let area = length c.args.row.now in
    let is : c.from_residual-in_err-run.result ≡ replayed m c.args.rule c.args.bytes.now area = search rules in
    record {
      is = is;
      cleared = search rules;
      shown = subst (Shows m c.args.rule c.args.bytes.now area) (sym is) (shows m c.args.rule c.args.bytes.now area (λ i. let t = c.type_inv.bytes i in omega arith));
      taken = λ k h. is ∙ taken m c.args.rule c.args.bytes.now area k h;
    }

pub returns : goal.returns
returns g c =
    let m = g.M.Machine.meaning c.args.machine.now in
    let area = length c.args.row.now in
    let is : Ok c.in_ok-run.field-0 ≡ replayed m c.args.rule c.args.bytes.now area = search rules in
    record {
      is = is;
      cleared = search rules;
      shown = subst (Shows m c.args.rule c.args.bytes.now area) (sym is) (shows m c.args.rule c.args.bytes.now area (λ i. let t = c.type_inv.bytes i in omega arith));
      taken = λ k h. is ∙ taken m c.args.rule c.args.bytes.now area k h;
    }
