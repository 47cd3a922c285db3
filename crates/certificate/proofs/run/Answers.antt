use Rattle.std.proofs.Common.{◌≡◌, ◌≢◌, ℕ, ◌<◌, List, length, Some, None, Ok, Err, Result, sym, refl, ap, ◌∙◌, subst, rules}
use Rattle.refusal.specs.declared.faults.CertificateFault.{CertificateFault}
use Rattle.refusal.specs.declared.faults.CertificateFault.TheVariants.{NoRecord}
use Rattle.certificate.specs.declared.phase.Phase.{Phase}
use Rattle.certificate.specs.declared.phase.Phase.TheVariants.{Closed}
use Rattle.certificate.specs.Records.{read, Taken}
use Rattle.certificate.specs.Verdict.{at_offset}
use Rattle.certificate.specs.Views.{view, seen, Steadily}
use Rattle.certificate.proofs.Codes.{read_some, read_none, longer}
use Rattle.certificate.proofs.Loop.{not_closed, now_closed, going_more, out_none, out_stop, out_end}
use Rattle.certificate.proofs.run.Goals as goal

pub returns-in_err-record : goal.returns-in_err-record
returns-in_err-record g c =
    let m = g.M.Machine.meaning c.args.machine.now in
    let l = c.loop-phase in
    let on : l.phase ≢ Closed = search rules in
    let none : c.next.result ≡ None = search rules in
    let is : c.from_residual.result ≡ Err (at_offset NoRecord l.cursor.offset) = search rules in
    is ∙ out_none m c.args.rule c.args.bytes.now l.cursor.rest.now l.cursor.offset l.records (view m l.phase l.row) l.invariant.0
    (not_closed m l.phase l.row on) (read_none _ (sym none ∙ c.next.ensures.value))

pub returns-in_err-phase : goal.returns-in_err-phase
returns-in_err-phase g c =
    let m = g.M.Machine.meaning c.args.machine.now in
    let l = c.loop-phase in
    let on : l.phase ≢ Closed = search rules in
    let some : c.next.result ≡ Some c.in_ok-record.record = search rules in
    let stop : (x : CertificateFault) × (c.step.result ≡ Err x) × (c.in_err-phase.field-0.0 ≡ at_offset x l.cursor.offset) = by c.step.result refl in
    let is : c.from_residual-in_err-phase.result ≡ Err c.in_err-phase.field-0.0 = search rules in
    is ∙ ap Err stop.2 ∙ out_stop m c.args.rule c.args.bytes.now l.cursor.rest.now l.cursor.offset l.records (view m l.phase l.row) l.invariant.0
    c.in_ok-record.record _ stop.0
    (not_closed m l.phase l.row on) (read_some _ c.in_ok-record.record (sym some ∙ c.next.ensures.value)) (sym c.step.ensures.is ∙ ap (λ (s : Result Phase CertificateFault). seen m s c.step.new.row) stop.1)
  where
    by : (s : Result Phase CertificateFault) → c.step.result ≡ s → (x : CertificateFault) × (c.step.result ≡ Err x) × (c.in_err-phase.field-0.0 ≡ at_offset x c.loop-phase.cursor.offset)
    by (Ok p) e = absurd (let h = c.map_err.ensures.variant in let w = c.in_err-phase.was in grind rules)
    by (Err x) e = (x, e, search rules)

pub loop-phase-preserved : goal.loop-phase-preserved
loop-phase-preserved g c =
    let m = g.M.Machine.meaning c.args.machine.now in
    let l = c.loop-phase in
    let e = c.next.ensures in
    let on : l.phase ≢ Closed = search rules in
    let some : c.next.result ≡ Some c.in_ok-record.record = search rules in
    let went : c.step.result ≡ Ok c.in_ok-phase.phase = search rules in
    let r : read l.cursor.rest.now ≡ Some (c.in_ok-record.record, c.next.new.self.rest.now) =
    read_some _ c.in_ok-record.record (sym some ∙ e.value) ∙ ap (λ (x : List ℕ). Some (c.in_ok-record.record, x)) (sym e.rest) in
    let taken = subst (Taken l.cursor.rest.now c.next.new.self.rest.now) some e.exact in
    let shorter : length c.next.new.self.rest.now < length l.cursor.rest.now = longer c.in_ok-record.record _ _ taken.0 in (
      going_more m c.args.rule c.args.bytes.now l.cursor.rest.now l.cursor.offset l.records (view m l.phase l.row) l.invariant.0
          c.in_ok-record.record c.next.new.self.rest.now (view m c.in_ok-phase.phase c.step.new.row) c.next.new.self.offset
          (not_closed m l.phase l.row on) r shorter e.offset (sym c.step.ensures.is ∙ ap (λ (s : Result Phase CertificateFault). seen m s c.step.new.row) went),
      subst (λ (s : Result Phase CertificateFault). Steadily m s c.step.new.row) went c.step.ensures.steady,
    )

pub returns : goal.returns
returns g c =
    let m = g.M.Machine.meaning c.args.machine.now in
    let l = c.loop-phase in
    c.finish.ensures
    ∙ out_end m c.args.rule c.args.bytes.now l.cursor.rest.now l.cursor.offset l.records (view m l.phase l.row) l.invariant.0
    (now_closed m l.phase l.row (search rules))
