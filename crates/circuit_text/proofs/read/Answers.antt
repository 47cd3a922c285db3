use Rattle.std.proofs.Common.{◌≡◌, ℕ, length, replicate, sym, ap, ◌∙◌, arith}
use Rattle.circuit_text.specs.Texts.{circuit_of, answer_of, area_of}
use Rattle.circuit_text.proofs.Texts.{answer_is, area_kept, area_cleared}
use Rattle.circuit_text.proofs.GoodArea.{exact}
use Rattle.circuit_text.proofs.read.Goals as goal

pub returns-then-is_err : goal.returns-then-is_err
returns-then-is_err c =
    let text = c.args.text.now in
    let size = length c.args.area.now in
    let same : length c.clear.new.area ≡ size = omega arith in
    let filled : length c.fill-answer.new.area ≡ size = omega arith in
    let circuit = circuit_of text (length c.clear.new.area) in
    let r = c.fill-answer.result in
    let value = answer_is circuit c.clear.new.area c.fill-answer.new.area r c.fill-answer.ensures ∙ ap (λ (n : ℕ). answer_of (circuit_of text n)) same in
    let clear = c.clear-then-is_err.ensures ∙ (ap (λ (n : ℕ). replicate n 0) filled
    ∙ (area_cleared circuit c.clear.new.area c.fill-answer.new.area r size (sym c.is_err.ensures.value ∙ c.if-is_err.true) c.fill-answer.ensures
    ∙ ap (λ (n : ℕ). area_of size (circuit_of text n)) same)) in
    let e = exact text size r c.clear-then-is_err.new.area value clear in
    record { value = value; area = clear; good = e.0; written = e.1; reads = e.2 }

pub returns-else-is_err : goal.returns-else-is_err
returns-else-is_err c =
    let text = c.args.text.now in
    let size = length c.args.area.now in
    let same : length c.clear.new.area ≡ size = omega arith in
    let circuit = circuit_of text (length c.clear.new.area) in
    let r = c.fill-answer.result in
    let value = answer_is circuit c.clear.new.area c.fill-answer.new.area r c.fill-answer.ensures ∙ ap (λ (n : ℕ). answer_of (circuit_of text n)) same in
    let kept = area_kept circuit c.clear.new.area c.fill-answer.new.area r size (sym c.is_err.ensures.value ∙ c.if-is_err.false) c.fill-answer.ensures c.clear.ensures
    ∙ ap (λ (n : ℕ). area_of size (circuit_of text n)) same in
    let e = exact text size r c.fill-answer.new.area value kept in
    record { value = value; area = kept; good = e.0; written = e.1; reads = e.2 }
