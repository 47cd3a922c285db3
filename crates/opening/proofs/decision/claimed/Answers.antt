use Rattle.std.proofs.Common.{◌≡◌, ◌<◌, ◌⊎◌, Err, inl, inr, sym, ◌∙◌, arith, rules}
use Rattle.certificate.specs.Claims.{most}
use Rattle.opening.proofs.Arms.{claim_known, fresh_unknown, fresh_outside, fresh_trace, fresh_opened}
use Rattle.opening.proofs.decision.claimed.Goals as goal
use Rattle.opening.proofs.decision.claimed.Goals.{then-size-lt1-via-then-size-lt1, then-size-lt1-via-else-size-lt1+then-size-most}

pub returns-in_err-claim : goal.returns-in_err-claim
returns-in_err-claim c =
    let same : c.from_residual.result ≡ Err c.in_err-claim.field-0.0 = search rules in
    λ m f ls ps e. fresh_unknown f ls ps e c.args.claim c.args.size c.in_err-claim.field-0.0 c.from_residual.result (sym c.in_err-claim.was ∙ c.try_from.ensures) same

pub returns-then-size-lt1 : goal.returns-then-size-lt1
returns-then-size-lt1 c =
    let claim = c.in_ok-claim.claim in
    let is = claim_known c.args.claim claim (sym c.in_ok-claim.was ∙ c.try_from.ensures) in
    let outside : (c.args.size < 1) ⊎ (most claim < c.args.size) =
    elim c.then-size-lt1.branch [ then-size-lt1-via-then-size-lt1 w ↦ inl w.if-size-lt1.true | then-size-lt1-via-else-size-lt1+then-size-most w ↦ inr (omega (arith, w.most.ensures, w.if-size-most.true)) ] in
    λ m f ls ps e. fresh_outside f ls ps e c.args.claim c.args.size claim is outside

pub returns-in-Trace : goal.returns-in-Trace
returns-in-Trace c =
    let claim = c.in_ok-claim.claim in
    let is = claim_known c.args.claim claim (sym c.in_ok-claim.was ∙ c.try_from.ensures) in
    λ m f ls ps e. fresh_trace f ls ps e c.args.claim c.args.size claim c.in-Trace.is is (omega arith) (omega (arith, c.most.ensures))

pub returns-in-Induction : goal.returns-in-Induction
returns-in-Induction c =
    let claim = c.in_ok-claim.claim in
    let is = claim_known c.args.claim claim (sym c.in_ok-claim.was ∙ c.try_from.ensures) in
    λ m f ls ps e. fresh_opened f ls ps e c.args.claim c.args.size claim c.in-Induction.is is (omega arith) (omega (arith, c.most.ensures))
