-- What a `Result` was before its error got an offset.
use Rattle.std.proofs.Common.{◌≡◌, Ok, Err, Result, MatchResult, refl, ap, ◌∙◌}
use Rattle.std.specs.Result.{IsErrAnd}
use Rattle.std.proofs.lemmas.Result.{err_from_is_err_and}

module _ {T E D : Type 0} (Q : E → D → Type 0) (m : Result T D) where
  -- it was the same value
  pub passed_ok : (r : Result T E) (x : T) → MatchResult r (λ y. m ≡ Ok y) (λ e. IsErrAnd m (Q e)) → m ≡ Ok x → r ≡ Ok x
  passed_ok (Ok y) x h e = let same : y ≡ x = cc (h, e) in ap Ok same
  passed_ok (Err y) x h e = let p = err_from_is_err_and m h in cc (e, p.1)

  -- it was the error that this one is made of
  pub passed_err : (r : Result T E) (f : E → D) (d : D) → ((e : E) (v : D) → Q e v → v ≡ f e) → MatchResult r (λ y. m ≡ Ok y) (λ e. IsErrAnd m (Q e)) → m ≡ Err d →
      (e : E) × (r ≡ Err e) × (d ≡ f e)
  passed_err (Ok y) f d g h e = cc (h, e)
  passed_err (Err y) f d g h e = let p = err_from_is_err_and m h in (y, refl, let same : d ≡ p.0 = cc (e, p.1) in same ∙ g y p.0 p.2)
