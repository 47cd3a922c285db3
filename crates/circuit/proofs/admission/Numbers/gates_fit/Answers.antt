use Rattle.std.proofs.Common.{◌≡◌, true, false, get_or, sym, ap, ◌∙◌, arith, rules, tests}
use Rattle.std.specs.List.{range_with_len}
use Rattle.std.proofs.lemmas.Iterator.{cases_from_all, YieldsList-from_range}
use Rattle.std.proofs.lemmas.List.FromFn.{length-range_with_len, get_or-range_with_len}
use Rattle.circuit.specs.Admission.{gate_fits}
use Rattle.circuit.proofs.Judged.{below_from_cases}
use Rattle.circuit.proofs.admission.Numbers.gates_fit.Goals as goal

pub returns : goal.returns
returns c =
    let h = c.args.self.now.header in
    let area = c.args.self.now.area.now in
    let cases = cases_from_all _ _ _ (λ j. gate_fits h area j ≡ true) (λ j. gate_fits h area j ≡ false) c.all.ensures.ran (YieldsList-from_range 0 h.gates h.gates (cc) (omega arith))
    (λ x q k. search (rules, tests)) (λ x q k. search (rules, tests)) in
    below_from_cases _ (range_with_len 0 h.gates) 0 h.gates (gate_fits h area) (λ j. gate_fits h area j ≡ true) (λ j. gate_fits h area j ≡ false) (length-range_with_len 0 h.gates) cases
    (λ k l fits. let e : get_or (range_with_len 0 h.gates) k 0 ≡ k = omega (arith, get_or-range_with_len 0 h.gates k 0 l) in ap (gate_fits h area) (sym e) ∙ fits)
    (λ k l fails. let e : get_or (range_with_len 0 h.gates) k 0 ≡ k = omega (arith, get_or-range_with_len 0 h.gates k 0 l) in ap (gate_fits h area) (sym e) ∙ fails)
