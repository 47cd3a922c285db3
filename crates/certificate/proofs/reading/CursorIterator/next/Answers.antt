use Rattle.std.proofs.Common.{◌≡◌, ℕ, List, Some, None, Option, sym, ap, ◌∙◌, arith, rules, Bor}
use Rattle.std.specs.Option.{option_map}
use Rattle.certificate.specs.declared.record.Record.{Record}
use Rattle.certificate.specs.Records.{read}
use Rattle.certificate.proofs.Codes.{none_taken, some_taken, read_shorter, longer}
use Rattle.certificate.proofs.reading.CursorIterator.next.Goals as goal

abbrev behind : Option (Record × Bor (List ℕ)) → Option (Record × List ℕ)
behind = option_map (λ p. (p.0, p.1.now))

went : (bs : List ℕ) (o : Option (Record × Bor (List ℕ))) (r : Record) (rest : Bor (List ℕ)) → behind o ≡ read bs → o ≡ Some (r, rest) → read bs ≡ Some (r, rest.now)
went bs o r rest e w = sym (sym (ap behind w) ∙ e)

pub returns-in_err-record-clause-exact : goal.returns-in_err-record-clause-exact
returns-in_err-record-clause-exact c =
    let bs = c.args.self.now.rest.now in
    let e : read bs ≡ None = sym (sym (ap behind c.in_err-record.was) ∙ c.first.ensures.value) in
    (none_taken bs c.from_residual.result e c.from_residual.ensures).2

pub overflow_sub-self : goal.overflow_sub-self
overflow_sub-self c = omega (arith, read_shorter _ _ _ c.first.ensures.bytes (went c.args.self.now.rest.now _ _ _ c.first.ensures.value c.in_ok-record.was))

pub invariant_of-self : goal.invariant_of-self
invariant_of-self c = record { counted = omega (arith, read_shorter _ _ _ c.first.ensures.bytes (went c.args.self.now.rest.now _ _ _ c.first.ensures.value c.in_ok-record.was)) }

pub returns : goal.returns
returns c =
    let bs = c.args.self.now.rest.now in
    let e = went bs _ _ _ c.first.ensures.value c.in_ok-record.was in
    let t = some_taken bs c.in_ok-record.record c.in_ok-record.rest.now c.first.ensures.bytes e in
    let s = read_shorter _ _ _ c.first.ensures.bytes e in
    let n = longer c.in_ok-record.record _ _ t.2.0 in
    record { goes = search (rules, n); value = t.0; rest = t.1; offset = omega arith; exact = t.2 }
