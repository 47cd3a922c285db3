use Rattle.std.proofs.Common.{◌+◌, ◌*◌, Err, ap, ◌∙◌, arith, rules}
use Rattle.std.proofs.lemmas.Result.{err_from_is_err_and}
use Rattle.refusal.proofs.Passed.{passed_ok, passed_err}
use Rattle.table_format.proofs.Walk.{opened, unopened, walked_none, walked_more, walked_not, walked_all}
use Rattle.table_format.proofs.Encoding.{answered}
use Rattle.table_format.proofs.examine.Goals as goal

pub returns-in_err-sizes-clause-answer : goal.returns-in_err-sizes-clause-answer
returns-in_err-sizes-clause-answer c =
    let p = err_from_is_err_and c.from_residual.result c.from_residual.ensures.1 in
    let q = passed_err _ c.map_err.result c.first.result (λ fault. record { fault = fault; offset = 0 }) c.in_err-sizes.field-0.0 (λ e v h. search rules)
    c.map_err.ensures.cases c.in_err-sizes.was in
    p.1 ∙ (ap (λ e. Err e) (p.2 ∙ q.2) ∙ unopened c.args.bytes.now q.0 (rw q.1 at c.first.ensures))

pub loop-r-init : goal.loop-r-init
loop-r-init c =
    let bs = c.args.bytes.now in
    let s = c.in_ok-sizes.sizes in
    let rest = c.in_ok-sizes.rest.now in
    let q = passed_ok _ c.map_err.result c.first.result _ c.map_err.ensures.cases c.in_ok-sizes.was in
    let o = opened bs rest (s.inputs, s.state_bits, s.rules) (rw q at c.first.ensures) in
    record { sizes = o.sizes; walked = walked_none bs rest (s.inputs, s.state_bits, s.rules) c.rows-rows.result o c.rows-rows.ensures.count }

pub returns-in_err-rest : goal.returns-in_err-rest
returns-in_err-rest c =
    let bs = c.args.bytes.now in
    let r = c.loop-r.r-counter in
    let s = c.in_ok-sizes.sizes in
    let p = err_from_is_err_and c.from_residual-in_err-rest.result c.from_residual-in_err-rest.ensures.1 in
    let q = passed_err _ c.map_err-in-loop-r.result c.row.result (λ fault. record { fault = fault; offset = 4 + 7 * r }) c.in_err-rest.field-0.0 (λ e v h. search rules)
    c.map_err-in-loop-r.ensures.cases c.in_err-rest.was in
    let not = walked_not bs c.loop-r.rest.now c.rows-rows.result r c.loop-r.invariant.walked (s.inputs, s.state_bits, s.rules) c.loop-r.invariant.sizes (omega arith) q.0 (rw q.1 at c.row.ensures) in
    let is = p.1 ∙ (ap (λ e. Err e) (p.2 ∙ q.2) ∙ not) in
    let z = answered bs (λ i. let t = c.type_inv.bytes i in omega arith) c.from_residual-in_err-rest.result is in
    record { answer = is; exactly = z.0; table = z.1 }

pub loop-r-preserved : goal.loop-r-preserved
loop-r-preserved c =
    let s = c.in_ok-sizes.sizes in
    let q = passed_ok _ c.map_err-in-loop-r.result c.row.result _ c.map_err-in-loop-r.ensures.cases c.in_ok-rest.was in
    let sizes = c.loop-r.invariant.sizes in
    record {
      sizes = sizes;
      walked = walked_more c.args.bytes.now c.loop-r.rest.now c.rows-rows.result c.loop-r.r-counter c.loop-r.invariant.walked (s.inputs, s.state_bits, s.rules) sizes
          (omega arith) c.in_ok-rest.rest.now (rw q at c.row.ensures);
    }

pub returns : goal.returns
returns c =
    let bs = c.args.bytes.now in
    let is = c.end.ensures ∙ walked_all bs c.loop-r.rest.now c.rows-rows.result c.loop-r.r-counter c.loop-r.invariant.walked (omega arith) (omega arith) in
    let z = answered bs (λ i. let t = c.type_inv.bytes i in omega arith) c.end.result is in
    record { answer = is; exactly = z.0; table = z.1 }
