use Rattle.std.proofs.Common.{length}
use Rattle.checking.specs.Verdicts.{Areas}
use Rattle.docket.proofs.Keeping.{sound_after_note, accepted_inside}
use Rattle.docket.proofs.Docket.hand_in.Goals as goal

pub invariant_of-self : goal.invariant_of-self
invariant_of-self g c =
    let m = c.args.self.now.machine.now in
    let areas : Areas = record { row = length c.args.row.now; literals = length c.args.literals.now; spans = length c.args.spans.now } in
    let inside = accepted_inside (g.M.Machine.meaning m) (g.M.Machine.lawful m) c.args.rule c.args.bytes.now areas c.check-result.result c.check-result.ensures.answer in
    record { sound = sound_after_note c.args.self.now.book c.note.new.self c.args.rule c.check-result.result c.note.ensures c.args.self.now.sound c.if-not-has_room.ensures inside }
