use Rattle.std.proofs.Common.{length, decimal, sym, ap, ◌∙◌, ⊎_elim}
use Rattle.std.proofs.lemmas.Bool.{cases_eq, eq-eqb, ne_eqb}
use Rattle.calls.proofs.Words.{whole_number, number_whole, no_answer, same_size}
use Rattle.calls.proofs.lines.number_word.Goals as goal

pub returns-in_err-value : goal.returns-in_err-value
returns-in_err-value c =
    rw c.from_residual.ensures (λ n h e.
    no_answer (c.number.ensures.reads n (length (decimal n)) (number_whole c.args.word.now n h e)) c.in_err-value.was)

pub returns : goal.returns
returns c =
    let word = c.args.word.now in
    let value = c.in_ok-value.value in
    let size = c.in_ok-value.size in
    rw c.then_some.ensures
    (⊎_elim
    (λ whole. rw (eq-eqb size (length word) whole) (whole_number word value size (c.number.ensures.written _ _ c.in_ok-value.was) whole))
    (λ part. rw (ne_eqb size (length word) part) (λ n h e.
    part (same_size c.in_ok-value.was (c.number.ensures.reads n (length (decimal n)) (number_whole word n h e)) ∙ sym (ap length e))))
    (cases_eq size (length word)))
