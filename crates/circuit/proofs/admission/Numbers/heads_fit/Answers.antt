use Rattle.std.proofs.Common.{◌+◌, ◌*◌, ◌<◌, ◌≤◌, get_or, take, arith, rules, tests}
use Rattle.std.proofs.lemmas.Bool.{le-leb, lt-leb}
use Rattle.std.proofs.lemmas.Iterator.{cases_from_all, YieldsList-from_slice}
use Rattle.std.proofs.lemmas.List.{length-take-le, get_or-take}
use Rattle.circuit.specs.Admission.{head_fits}
use Rattle.circuit.proofs.Judged.{below_from_cases}
use Rattle.circuit.proofs.admission.Numbers.heads_fit.Goals as goal

pub returns : goal.returns
returns c =
    let h = c.args.self.now.header in
    let area = c.args.self.now.area.now in
    let top = 2 * h.maximum + 1 in
    let cases = cases_from_all _ _ _ (λ x. x ≤ top) (λ x. top < x) c.all.ensures.ran (YieldsList-from_slice (take c.heads.result area) cc) (λ x q k. search (rules, tests)) (λ x q k. search (rules, tests)) in
    below_from_cases _ _ 0 (h.latches + h.outputs) (head_fits h area) (λ x. x ≤ top) (λ x. top < x)
    (omega (arith, length-take-le c.heads.result area (omega (arith, c.heads.ensures)), c.heads.ensures)) cases
    (λ k l low. let k< : k < c.heads.result = omega (arith, c.heads.ensures) in le-leb (get_or area k 0) top (omega (arith, get_or-take c.heads.result area k 0 k<)))
    (λ k l high. let k< : k < c.heads.result = omega (arith, c.heads.ensures) in lt-leb (get_or area k 0) top (omega (arith, get_or-take c.heads.result area k 0 k<)))
