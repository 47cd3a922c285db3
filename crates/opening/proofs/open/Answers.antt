use Rattle.std.proofs.Common.{◌≡◌, ℕ, List, length, None, Ok, Err, sym, ap, ◌∙◌, subst, ap₂, rules, of_calls}
use Rattle.refusal.specs.declared.faults.CertificateFault.{CertificateFault}
use Rattle.refusal.specs.declared.faults.CertificateFault.TheVariants.{NoRecord}
use Rattle.certificate.specs.Verdict.{at_offset}
use Rattle.opening.specs.Steps.{room_in, step}
use Rattle.opening.specs.Reading.{Answer, reading}
use Rattle.opening.specs.Views.{held, view, Steady, Comes}
use Rattle.opening.proofs.Framing.{by_number}
use Rattle.certificate.proofs.Nexts.{came, none_came}
use Rattle.opening.proofs.Loop.{unopened, going_more, out_none, out_stops, out_over}
use Rattle.opening.proofs.Accepting.{only}
use Rattle.opening.proofs.open.Goals as goal

pub returns-in-Opened : goal.returns-in-Opened
returns-in-Opened g c =
    let m = g.M.Machine.meaning c.args.machine.now in
    let room = room_in (length c.args.literals.now) (length c.args.spans.now) in
    let l = c.loop-phase in
    let w = c.in-Opened in
    let first = c.args.cursor.now.offset in
    let bytes = c.args.cursor.now.rest.now in
    let p = out_over m room first bytes l.cursor.rest.now l.cursor.offset l.records (view l.phase l.frames l.literals l.spans) l.invariant.0
    w.claim w.size (held l.frames l.literals l.spans) (ap (λ p. view p l.frames l.literals l.spans) w.is) in
    let settled = subst (λ p. Steady p l.frames l.literals l.spans) w.is l.invariant.1 in
    record {
      is = sym (ap (λ (a : Answer). a.0) p.0);
      rest = sym (ap (λ (a : Answer). a.1) p.0);
      offset = l.invariant.0.taken;
      frames = by_number m room _ l.literals l.spans settled p.1.proper;
      opens = p.1;
      taken = λ k rest o. only m room first bytes l.cursor.rest.now _ p.0 k rest o;
    }

pub returns-in_err-record : goal.returns-in_err-record
returns-in_err-record g c =
    let m = g.M.Machine.meaning c.args.machine.now in
    let room = room_in (length c.args.literals.now) (length c.args.spans.now) in
    let l = c.loop-phase in
    let e = c.next.ensures in
    let first = c.args.cursor.now.offset in
    let bytes = c.args.cursor.now.rest.now in
    let none : c.next.result ≡ None = search rules in
    let is : c.from_residual.result ≡ Err (at_offset NoRecord l.cursor.offset) = search rules in
    let n = none_came l.cursor.rest.now c.next.new.self.rest.now c.next.result e.value e.rest e.exact none in
    let q : reading m room first bytes ≡ (Err (at_offset NoRecord l.cursor.offset), c.next.new.self.rest.now) =
    out_none m room first bytes l.cursor.rest.now l.cursor.offset l.records (view l.phase l.frames l.literals l.spans) l.invariant.0
    (unopened l.phase l.frames l.literals l.spans c.in_default.not-Opened) n.1
    ∙ ap (λ (y : List ℕ). (Err (at_offset NoRecord l.cursor.offset), y)) (sym n.0) in
    rw is (record {
      is = sym (ap (λ (a : Answer). a.0) q);
      rest = sym (ap (λ (a : Answer). a.1) q);
      offset = e.offset ∙ l.invariant.0.taken;
      frames = tt;
      opens = tt;
      taken = only m room first bytes c.next.new.self.rest.now (Err (at_offset NoRecord l.cursor.offset)) q;
    })

pub returns-in_err-phase : goal.returns-in_err-phase
returns-in_err-phase g c =
    let m = g.M.Machine.meaning c.args.machine.now in
    let room = room_in (length c.args.literals.now) (length c.args.spans.now) in
    let l = c.loop-phase in
    let e = c.next.ensures in
    let first = c.args.cursor.now.offset in
    let bytes = c.args.cursor.now.rest.now in
    let v = view l.phase l.frames l.literals l.spans in
    let stop : (f : CertificateFault) × (c.step-stepped.result ≡ Err f) × (c.from_residual-in_err-phase.result ≡ Err (at_offset f l.cursor.offset)) = search (rules, of_calls) in
    let n = came l.cursor.rest.now c.next.new.self.rest.now c.next.result e.value e.rest e.exact c.in_ok-record.record c.in_ok-record.ensures.ok_part in
    let comes = subst (λ r. Comes r c.step-stepped.new.frames c.step-stepped.new.literals c.step-stepped.new.spans (step m (room_in (length l.literals) (length l.spans)) v c.in_ok-record.record)) stop.1 (c.step-stepped.ensures l.invariant.1) in
    let stops : step m room v c.in_ok-record.record ≡ Err stop.0 =
    ap₂ (λ (a b : ℕ). step m (room_in a b) v c.in_ok-record.record) (sym l.auto.literals) (sym l.auto.spans) ∙ sym comes.is in
    let q : reading m room first bytes ≡ (Err (at_offset stop.0 l.cursor.offset), c.next.new.self.rest.now) =
    out_stops m room first bytes l.cursor.rest.now l.cursor.offset l.records v l.invariant.0 c.in_ok-record.record c.next.new.self.rest.now stop.0
    (unopened l.phase l.frames l.literals l.spans c.in_default.not-Opened) n.is stops in
    rw stop.2 (record {
      is = sym (ap (λ (a : Answer). a.0) q);
      rest = sym (ap (λ (a : Answer). a.1) q);
      offset = e.offset ∙ l.invariant.0.taken;
      frames = tt;
      opens = tt;
      taken = only m room first bytes c.next.new.self.rest.now (Err (at_offset stop.0 l.cursor.offset)) q;
    })

pub loop-phase-preserved : goal.loop-phase-preserved
loop-phase-preserved g c =
    let m = g.M.Machine.meaning c.args.machine.now in
    let room = room_in (length c.args.literals.now) (length c.args.spans.now) in
    let l = c.loop-phase in
    let e = c.next.ensures in
    let v = view l.phase l.frames l.literals l.spans in
    let w = view c.in_ok-phase.phase c.step-stepped.new.frames c.step-stepped.new.literals c.step-stepped.new.spans in
    let went : c.step-stepped.result ≡ Ok c.in_ok-phase.phase = search (rules, of_calls) in
    let comes = subst (λ r. Comes r c.step-stepped.new.frames c.step-stepped.new.literals c.step-stepped.new.spans (step m (room_in (length l.literals) (length l.spans)) v c.in_ok-record.record)) went (c.step-stepped.ensures l.invariant.1) in
    let n = came l.cursor.rest.now c.next.new.self.rest.now c.next.result e.value e.rest e.exact c.in_ok-record.record c.in_ok-record.ensures.ok_part in
    let goes : step m room v c.in_ok-record.record ≡ Ok w =
    ap₂ (λ (a b : ℕ). step m (room_in a b) v c.in_ok-record.record) (sym l.auto.literals) (sym l.auto.spans) ∙ sym comes.is in (
      going_more m room c.args.cursor.now.offset c.args.cursor.now.rest.now l.cursor.rest.now l.cursor.offset l.records v l.invariant.0
          c.in_ok-record.record c.next.new.self.rest.now w c.next.new.self.offset
          (unopened l.phase l.frames l.literals l.spans c.in_default.not-Opened)
          n.is n.wrote n.shorter e.offset goes,
      comes.steady,
    )
