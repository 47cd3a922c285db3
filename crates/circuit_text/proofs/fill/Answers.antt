use Rattle.std.proofs.Common.{◌≡◌, ℕ, length, take, drop, Ok, Err, sym, ap, ◌∙◌, arith}
use Rattle.std.proofs.lemmas.Result.{err_from_is_err_and}
use Rattle.aiger.specs.Numbers.{needed}
use Rattle.circuit_text.proofs.Texts.{circuit_refused, circuit_on}
use Rattle.circuit_text.proofs.fill.Goals as goal

pub returns-in_err-header : goal.returns-in_err-header
returns-in_err-header c =
    let p = err_from_is_err_and c.from_residual.result c.from_residual.ensures.1 in
    rw (p.1, p.2) (circuit_refused c.args.text.now (length c.args.area.now) c.in_err-header.field-0.0 (sym c.in_err-header.ensures.value))

pub returns-in_err-sections : goal.returns-in_err-sections
returns-in_err-sections c =
    let p = err_from_is_err_and c.from_residual-in_err-sections.result c.from_residual-in_err-sections.ensures.1 in
    rw (p.1, p.2) (circuit_on c.args.text.now (length c.args.area.now) c.in_ok-header.header c.in_ok-header.start (Err c.in_err-sections.field-0.0)
    (sym c.in_ok-header.ensures.value) c.in_err-sections.ensures.read)

pub returns : goal.returns
returns c =
    let h = c.in_ok-header.header in
    let p = c.in_ok-sections.field-0 in
    let stores = c.in_ok-sections.ensures.read in
    let all : p.used ≡ needed h = c.in_ok-sections.ensures.used in
    let area = c.sections.new.area in
    record {
      room = omega (arith, c.in_ok-header.ensures.admitted);
      stored =
          circuit_on c.args.text.now (length c.args.area.now) h c.in_ok-header.start (Ok (take p.used area, p.offset))
          (sym c.in_ok-header.ensures.value) stores.stored
          ∙ ap (λ (n : ℕ). Ok (h, take n area)) all;
      rest = ap (λ (n : ℕ). drop n area) (sym all) ∙ (stores.rest ∙ ap (λ (n : ℕ). drop n c.args.area.now) all);
    }
