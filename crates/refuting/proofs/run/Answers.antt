use Rattle.std.proofs.Common.{◌≡◌, None, Ok, Err, refl, ◌∙◌, rules, of_calls, arith}
use Rattle.refusal.specs.declared.faults.CertificateFault.{CertificateFault}
use Rattle.refusal.specs.declared.faults.CertificateFault.TheVariants.{NoRecord}
use Rattle.certificate.specs.declared.record.Record.TheVariants.{RefutationEnd}
use Rattle.refuting.specs.Rooms.{room_of}
use Rattle.certificate.proofs.Nexts.{came, none_came}
use Rattle.refuting.proofs.Loop.{begins, out_none, out_stop, out_end, goes}
use Rattle.refuting.proofs.run.Goals as goal

pub loop-record-init : goal.loop-record-init
loop-record-init g c = (
  omega arith,
  refl,
  λ h. begins _ _ _ c.args.question c.args.cursor.now.offset c.args.cursor.now.rest.now c.args.refutation.now c.args.literals.now c.args.spans.now c.requires h,
)

pub returns-in_err-record-clause-checked : goal.returns-in_err-record-clause-checked
returns-in_err-record-clause-checked g c h =
    let l = c.loop-record in
    let e = c.next.ensures in
    let none : c.next.result ≡ None = search rules in
    let is : c.from_residual.result ≡ Err (record { fault = NoRecord; offset = l.cursor.offset; question = c.args.question }) = search rules in
    let n = none_came l.cursor.rest.now c.next.new.self.rest.now c.next.result e.value e.rest e.exact none in
    rw is
    (out_none (g.L.ClauseList.clauses c.args.list.now) (g.L.ClauseList.literal_mark c.args.list.now) (g.L.ClauseList.span_mark c.args.list.now) (g.L.ClauseList.stands c.args.list.now)
    (room_of c.args.refutation.now c.args.literals.now c.args.spans.now) c.args.question c.args.cursor.now.offset c.args.cursor.now.rest.now c.args.literals.now c.args.spans.now h
    l.refutation l.literals l.spans l.cursor.rest.now l.cursor.offset l.records l.invariant.1 (l.invariant.2 h) c.next.new.self.rest.now n.0 n.1)

pub returns-in_err-map_err-clause-checked : goal.returns-in_err-map_err-clause-checked
returns-in_err-map_err-clause-checked g c h =
    let l = c.loop-record in
    let e = c.next.ensures in
    let stop : (f : CertificateFault) × (c.apply-applied.result ≡ Err f) × (c.from_residual-in_err-map_err.result ≡ Err (record { fault = f; offset = l.cursor.offset; question = c.args.question })) = search (rules, of_calls) in
    let n = came l.cursor.rest.now c.next.new.self.rest.now c.next.result e.value e.rest e.exact c.in_ok-record.record c.in_ok-record.ensures.ok_part in
    let q = l.invariant.2 h in
    rw stop.2
    (out_stop (g.L.ClauseList.clauses c.args.list.now) (g.L.ClauseList.literal_mark c.args.list.now) (g.L.ClauseList.span_mark c.args.list.now) (g.L.ClauseList.stands c.args.list.now)
    (room_of c.args.refutation.now c.args.literals.now c.args.spans.now) c.args.question c.args.cursor.now.offset c.args.cursor.now.rest.now c.args.literals.now c.args.spans.now h
    l.refutation l.literals l.spans l.cursor.rest.now l.cursor.offset l.records l.invariant.1 q
    c.apply-applied.new.refutation c.apply-applied.new.literals c.apply-applied.new.spans c.in_ok-record.record c.next.new.self.rest.now n.is
    stop.0 (rw (← stop.1) (c.apply-applied.ensures.moved q.stands)))

pub returns-then-eq-clause-checked : goal.returns-then-eq-clause-checked
returns-then-eq-clause-checked g c h =
    let l = c.loop-record in
    let e = c.next.ensures in
    let went : c.apply-applied.result ≡ Ok tt = search (rules, of_calls) in
    let ends : c.in_ok-record.record ≡ RefutationEnd = search rules in
    let n = came l.cursor.rest.now c.next.new.self.rest.now c.next.result e.value e.rest e.exact c.in_ok-record.record c.in_ok-record.ensures.ok_part in
    let q = l.invariant.2 h in
    out_end (g.L.ClauseList.clauses c.args.list.now) (g.L.ClauseList.literal_mark c.args.list.now) (g.L.ClauseList.span_mark c.args.list.now) (g.L.ClauseList.stands c.args.list.now)
    (room_of c.args.refutation.now c.args.literals.now c.args.spans.now) c.args.question c.args.cursor.now.offset c.args.cursor.now.rest.now c.args.literals.now c.args.spans.now h
    l.refutation l.literals l.spans l.cursor.rest.now l.cursor.offset l.records l.invariant.1 q
    c.apply-applied.new.refutation c.apply-applied.new.literals c.apply-applied.new.spans c.in_ok-record.record c.next.new.self.rest.now n.is
    n.wrote ends (rw (← went) (c.apply-applied.ensures.moved q.stands))

pub loop-record-preserved : goal.loop-record-preserved
loop-record-preserved g c =
    let l = c.loop-record in
    let e = c.next.ensures in
    let went : c.apply-applied.result ≡ Ok tt = search (rules, of_calls) in
    let more : c.in_ok-record.record ≡ RefutationEnd → ⊥ = search rules in
    let n = came l.cursor.rest.now c.next.new.self.rest.now c.next.result e.value e.rest e.exact c.in_ok-record.record c.in_ok-record.ensures.ok_part in (
      omega (arith, l.invariant.0, e.offset, n.shorter),
      e.offset ∙ l.invariant.1,
      λ h.
          let q = l.invariant.2 h in
          goes (g.L.ClauseList.clauses c.args.list.now) (g.L.ClauseList.literal_mark c.args.list.now) (g.L.ClauseList.span_mark c.args.list.now) (g.L.ClauseList.stands c.args.list.now)
          (room_of c.args.refutation.now c.args.literals.now c.args.spans.now) c.args.question c.args.cursor.now.offset c.args.cursor.now.rest.now c.args.literals.now c.args.spans.now h
          l.refutation l.literals l.spans l.cursor.rest.now l.cursor.offset l.records l.invariant.1 q
          c.apply-applied.new.refutation c.apply-applied.new.literals c.apply-applied.new.spans c.in_ok-record.record c.next.new.self.rest.now n.is
          more n.shorter c.apply-applied.auto.literals c.apply-applied.auto.spans n.wrote (rw (← went) (c.apply-applied.ensures.moved q.stands)),
    )
