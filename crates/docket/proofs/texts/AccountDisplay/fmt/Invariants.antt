use Rattle.std.proofs.Common.{length}
use Rattle.std.specs.Fmt.{IsPlainFormatter, HasWritten}
use Rattle.docket.specs.Texts.{rules_text}
use Rattle.docket.proofs.texts.AccountDisplay.fmt.Given as goal

-- the rules so far are written
abbrev pub invariant-loop-rule : goal.invariant-loop-rule
invariant-loop-rule g l = IsPlainFormatter l.initial.f → HasWritten g.W.Write.write_str_gives l.initial.f (rules_text l.self.standings (length l.yielded)) l.f
