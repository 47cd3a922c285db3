use Rattle.std.proofs.Common.{◌≡◌, ◌+◌, length, drop, decimal, ap, ◌∙◌, arith}
use Rattle.std.proofs.lemmas.List.{length-append, length-drop}
use Rattle.circuit_text.proofs.fields.number.Goals as goal

pub overflow_add-at : goal.overflow_add-at
overflow_add-at c =
    let text = c.args.text.now in
    let n = c.number.ensures.written c.in_ok-value.value c.in_ok-value.size c.in_ok-value.was in
    let size : length (drop c.args.at text) ≡ length (decimal c.in_ok-value.value) + length n.rest =
    ap length n.here ∙ length-append (decimal c.in_ok-value.value) n.rest in
    omega (arith, size, length-drop c.args.at text, n.size)
