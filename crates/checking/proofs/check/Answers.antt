use Rattle.std.proofs.Common.{◌≡◌, Ok, Err, ap, ◌∙◌, arith}
use Rattle.std.proofs.lemmas.Result.{err_from_is_err_and}
use Rattle.certificate.specs.Records.{Bytes}
use Rattle.checking.specs.Asked.{areas_of}
use Rattle.checking.specs.Verdicts.{verdict}
use Rattle.checking.proofs.Certified.{shows, taken}
use Rattle.checking.proofs.Checking.{call_refused, opening_refused, begins, whole, claim_said}
use Rattle.checking.proofs.check.Goals as goal

pub returns-in_err-admit : goal.returns-in_err-admit
returns-in_err-admit g c =
    let m = g.M.Machine.meaning c.args.machine.now in
    let areas = areas_of c.args.row.now c.args.literals.now c.args.spans.now in
    let of_bytes : Bytes c.args.bytes.now = λ i. let t = c.type_inv.bytes i in omega arith in
    let p = err_from_is_err_and c.from_residual.result c.from_residual.ensures.1 in
    let is : c.from_residual.result ≡ verdict m c.args.rule c.args.bytes.now areas =
    p.1 ∙ ap Err p.2 ∙ call_refused m c.args.rule c.args.bytes.now areas of_bytes c.in_err-admit.field-0.0 c.in_err-admit.ensures in
    record {
      answer = is;
      shown = shows m (g.M.Machine.lawful c.args.machine.now) c.args.rule c.args.bytes.now areas c.from_residual.result is;
      taken = taken m c.args.rule c.args.bytes.now areas c.from_residual.result is;
    }

pub returns-in_err-opening : goal.returns-in_err-opening
returns-in_err-opening g c =
    let m = g.M.Machine.meaning c.args.machine.now in
    let areas = areas_of c.args.row.now c.args.literals.now c.args.spans.now in
    let of_bytes : Bytes c.args.bytes.now = λ i. let t = c.type_inv.bytes i in omega arith in
    let p = err_from_is_err_and c.from_residual-in_err-opening.result c.from_residual-in_err-opening.ensures.1 in
    let is : c.from_residual-in_err-opening.result ≡ verdict m c.args.rule c.args.bytes.now areas =
    p.1 ∙ ap Err p.2 ∙ opening_refused m c.args.rule c.args.bytes.now areas of_bytes c.in_ok-admit.ensures c.new-cursor.result c.open.new.cursor c.new-cursor.ensures.rest c.new-cursor.ensures.offset c.open.new.literals c.open.new.spans c.in_err-opening.field-0.0 c.in_err-opening.ensures in
    record {
      answer = is;
      shown = shows m (g.M.Machine.lawful c.args.machine.now) c.args.rule c.args.bytes.now areas c.from_residual-in_err-opening.result is;
      taken = taken m c.args.rule c.args.bytes.now areas c.from_residual-in_err-opening.result is;
    }

pub check_claim-requires : goal.check_claim-requires
check_claim-requires g c =
    let m = g.M.Machine.meaning c.args.machine.now in
    let areas = areas_of c.args.row.now c.args.literals.now c.args.spans.now in
    let of_bytes : Bytes c.args.bytes.now = λ i. let t = c.type_inv.bytes i in omega arith in
    record {
      opened = begins m c.args.rule c.args.bytes.now areas of_bytes c.in_ok-admit.ensures c.new-cursor.result c.open.new.cursor c.new-cursor.ensures.rest c.new-cursor.ensures.offset c.open.new.literals c.open.new.spans c.in_ok-opening.opening c.in_ok-opening.ensures c.open.auto.literals c.open.auto.spans;
      whole = whole m c.args.rule c.args.bytes.now areas of_bytes c.in_ok-admit.ensures c.new-cursor.result c.open.new.cursor c.new-cursor.ensures.rest c.new-cursor.ensures.offset c.open.new.literals c.open.new.spans c.in_ok-opening.opening c.in_ok-opening.ensures c.open.auto.literals c.open.auto.spans;
    }

pub returns-in_err-records : goal.returns-in_err-records
returns-in_err-records g c =
    let m = g.M.Machine.meaning c.args.machine.now in
    let areas = areas_of c.args.row.now c.args.literals.now c.args.spans.now in
    let of_bytes : Bytes c.args.bytes.now = λ i. let t = c.type_inv.bytes i in omega arith in
    let p = err_from_is_err_and c.from_residual-in_err-records.result c.from_residual-in_err-records.ensures.1 in
    let is : c.from_residual-in_err-records.result ≡ verdict m c.args.rule c.args.bytes.now areas =
    p.1 ∙ ap Err p.2 ∙ claim_said m c.args.rule c.args.bytes.now areas of_bytes c.in_ok-admit.ensures c.new-cursor.result c.open.new.cursor c.new-cursor.ensures.rest c.new-cursor.ensures.offset c.open.new.literals c.open.new.spans c.in_ok-opening.opening c.in_ok-opening.ensures c.open.auto.literals c.open.auto.spans (Err c.in_err-records.field-0.0) c.in_err-records.ensures in
    record {
      answer = is;
      shown = shows m (g.M.Machine.lawful c.args.machine.now) c.args.rule c.args.bytes.now areas c.from_residual-in_err-records.result is;
      taken = taken m c.args.rule c.args.bytes.now areas c.from_residual-in_err-records.result is;
    }

pub returns : goal.returns
returns g c =
    let m = g.M.Machine.meaning c.args.machine.now in
    let areas = areas_of c.args.row.now c.args.literals.now c.args.spans.now in
    let of_bytes : Bytes c.args.bytes.now = λ i. let t = c.type_inv.bytes i in omega arith in
    let is : Ok (record { claim = c.in_ok-opening.opening.claim; records = c.in_ok-records.records }) ≡ verdict m c.args.rule c.args.bytes.now areas =
    claim_said m c.args.rule c.args.bytes.now areas of_bytes c.in_ok-admit.ensures c.new-cursor.result c.open.new.cursor c.new-cursor.ensures.rest c.new-cursor.ensures.offset c.open.new.literals c.open.new.spans c.in_ok-opening.opening c.in_ok-opening.ensures c.open.auto.literals c.open.auto.spans (Ok c.in_ok-records.records) c.in_ok-records.ensures in
    record {
      answer = is;
      shown = shows m (g.M.Machine.lawful c.args.machine.now) c.args.rule c.args.bytes.now areas (Ok (record { claim = c.in_ok-opening.opening.claim; records = c.in_ok-records.records })) is;
      taken = taken m c.args.rule c.args.bytes.now areas (Ok (record { claim = c.in_ok-opening.opening.claim; records = c.in_ok-records.records })) is;
    }
