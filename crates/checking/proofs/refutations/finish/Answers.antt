use Rattle.std.proofs.Common.{◌≡◌, None, Err, sym, ap, ◌∙◌, rules, arith}
use Rattle.refusal.specs.declared.faults.CertificateFault.TheVariants.{NoRecord, OutOfPlace}
use Rattle.certificate.specs.declared.record.Record.TheVariants.{End}
use Rattle.certificate.proofs.Nexts.{came, none_came}
use Rattle.checking.specs.Verdicts.{is_ending}
use Rattle.checking.proofs.Endings.{no_ending, no_end, other_record, byte_after, at_end}
use Rattle.checking.proofs.refutations.finish.Goals as goal

pub returns-in_err-record : goal.returns-in_err-record
returns-in_err-record c =
    let e = c.next.ensures in
    let none : c.next.result ≡ None = search rules in
    let is : c.from_residual.result ≡ Err (record { fault = NoRecord; offset = c.args.cursor.now.offset; question = c.args.question }) = search rules in
    is ∙ no_end c.args.question _ c.args.cursor.now.rest.now c.args.records c.args.cursor.now.offset (omega arith)
    (none_came c.args.cursor.now.rest.now c.next.new.self.rest.now c.next.result e.value e.rest e.exact none).1

pub returns-then-ne : goal.returns-then-ne
returns-then-ne c =
    let e = c.next.ensures in
    let other : c.in_ok-record.record ≡ End → ⊥ = search rules in
    let n = came c.args.cursor.now.rest.now c.next.new.self.rest.now c.next.result e.value e.rest e.exact c.in_ok-record.record c.in_ok-record.ensures.ok_part in
    let is : c.at-then-ne.result ≡ record { fault = OutOfPlace; offset = c.args.cursor.now.offset; question = c.args.question } = search rules in
    ap Err is ∙ other_record c.args.question _ c.args.cursor.now.rest.now c.args.records c.in_ok-record.record _ n.is c.args.cursor.now.offset (omega arith) (no_ending c.in_ok-record.record other)

pub returns-then-not-at_end : goal.returns-then-not-at_end
returns-then-not-at_end c =
    let e = c.next.ensures in
    let ends : c.in_ok-record.record ≡ End = search rules in
    let n = came c.args.cursor.now.rest.now c.next.new.self.rest.now c.next.result e.value e.rest e.exact c.in_ok-record.record c.in_ok-record.ensures.ok_part in
    let is : c.at-then-not-at_end.result ≡ record { fault = OutOfPlace; offset = c.next.new.self.offset; question = c.args.question } = search rules in
    ap Err is ∙ byte_after c.args.question _ c.args.cursor.now.rest.now c.args.records c.in_ok-record.record _ n.is c.next.new.self.offset (let t = e.offset in omega arith) (ap is_ending ends) (sym c.if-not-at_end.ensures)

pub returns : goal.returns
returns c =
    let e = c.next.ensures in
    let ends : c.in_ok-record.record ≡ End = search rules in
    let n = came c.args.cursor.now.rest.now c.next.new.self.rest.now c.next.result e.value e.rest e.exact c.in_ok-record.record c.in_ok-record.ensures.ok_part in
    at_end c.args.question _ c.args.cursor.now.rest.now c.args.records c.in_ok-record.record _ n.is (ap is_ending ends) (sym c.if-not-at_end.ensures)
