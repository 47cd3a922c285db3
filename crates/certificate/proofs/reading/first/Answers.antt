use Rattle.std.proofs.Common.{rules}
use Rattle.std.proofs.lemmas.List.{take_rest}
use Rattle.certificate.specs.Records.{read}
use Rattle.certificate.proofs.reading.first.Goals as goal

pub returns-in-1-clause-value : goal.returns-in-1-clause-value
unfolding read
returns-in-1-clause-value c = simp take_rest (search rules)

pub returns-in-2-clause-value : goal.returns-in-2-clause-value
unfolding read
returns-in-2-clause-value c = simp take_rest (search rules)

pub returns-in-5-clause-value : goal.returns-in-5-clause-value
unfolding read
returns-in-5-clause-value c = simp take_rest (search rules)

pub returns-in-8-clause-value : goal.returns-in-8-clause-value
unfolding read
returns-in-8-clause-value c = simp take_rest (search rules)
