use Rattle.std.proofs.Common.{◌<◌, arith}
use Rattle.std.proofs.lemmas.Grind.{common_steps}
use Rattle.docket.proofs.Keeping.{sound_after_strike}
use Rattle.docket.proofs.Docket.strike.Goals as goal

pub invariant_of-self : goal.invariant_of-self
invariant_of-self g c =
    let inside : c.in_ok-place.place < 32 = grind (arith, common_steps, (g.M.Machine.lawful c.args.self.now.machine.now).rules_few) in
    record { sound = sound_after_strike c.args.self.now.book c.strike_out.new.self c.in_ok-place.place c.strike_out.ensures c.args.self.now.sound inside c.if-not-is_entered.ensures }
