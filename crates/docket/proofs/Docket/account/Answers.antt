use Rattle.docket.proofs.Answering.{law_kept}
use Rattle.docket.proofs.Docket.account.Goals as goal

pub returns-clause-law : goal.returns-clause-law
returns-clause-law g c = λ h reached.
    let m = c.args.self.now.machine.now in
    rw (c.rules.ensures, c.tally.ensures.said) (law_kept (g.M.Machine.meaning m) (g.M.Machine.lawful m) h c.args.self.now.book reached)
