use Rattle.std.proofs.Common.{◌≡◌, ℕ, ◌+◌, ◌-◌, ◌<◌, ◌≤◌, min, List, length, get_or, take, drop, sym, ap, ◌∙◌, arith}
use Rattle.std.proofs.lemmas.List.{get_or-take, get_or-drop, length-take, length-drop, same_lists}
use Rattle.stack.specs.declared.spans.Span.{Span}
use Rattle.stack.specs.Runs.{part, run}
use Rattle.stack.proofs.spans.Span.bounds.Goals as goal

mins : (l s n len a b : ℕ) → n ≤ len → a ≡ min s n → b ≡ min l (n - a) → min l (min n len - s) ≡ min (a + b - a) (len - a)
mins l s n len a b h e f =
    let x : min n len ≡ n = omega arith in
    let y : n - s ≡ n - a = omega arith in
    let z : min l (n - a) ≡ b = omega arith in
    let w : a + b - a ≡ b = omega arith in
    let v : b ≤ n - a = omega arith in
    let u : min b (len - a) ≡ b = omega arith in
    ap (λ k. min l (k - s)) x ∙ ap (min l) y ∙ z ∙ sym u ∙ ap (λ k. min k (len - a)) (sym w)

marked : (area : List ℕ) (n : ℕ) (p : Span) (a b : ℕ) → n ≤ length area → a ≡ min p.start n → b ≡ min p.length (n - a) → part area a (a + b) ≡ run (take n area) p
unfolding part
marked area n p a b h e f =
    sym (same_lists _ _ (simp (length-take, length-drop) (mins p.length p.start n (length area) a b h e f)) (λ k d l.
    let m : k < min p.length (min n (length area) - p.start) = simp (length-take, length-drop) at l in
    let v : k < p.length = omega arith in
    let u : k < n - p.start = omega arith in
    let q : a ≡ p.start = omega arith in
    let w : k < b = omega arith in
    get_or-take p.length (drop p.start (take n area)) k d (omega arith)
    ∙ get_or-drop p.start (take n area) k d
    ∙ get_or-take n area (p.start + k) d (omega arith)
    ∙ ap (λ s. get_or area (s + k) d) (sym q)
    ∙ sym (get_or-drop a area k d)
    ∙ sym (get_or-take (a + b - a) (drop a area) k d (omega arith))))

pub returns : goal.returns
returns c =
    record {
      order = (omega arith, omega arith);
      marks = λ area h. marked area c.args.n c.args.self c.min-start.result c.min-length.result h c.min-start.ensures c.min-length.ensures;
    }
