-- Parts of an area, and a merge that goes through two of them.
use Rattle.std.proofs.Common.{◌≡◌, ℕ, suc, ◌+◌, ◌-◌, ◌<◌, ◌≤◌, min, not, cond, eqb, ltb, List, [], ◌∷◌, ◌++◌, length, get_or, take, drop, set, option_to_list, sym, refl, ap, ◌∙◌, ⊎_elim, arith}
use Rattle.std.specs.Bool.{then_some}
use Rattle.std.proofs.lemmas.Bool.{eq-eqb, ne_eqb, cond-true, cond-false, cond_both, cases_eq, lt-ltb, le-ltb}
use Rattle.std.proofs.lemmas.List.{take_more_set, take-take, drop-take, drop_more, drop-drop, drop-set-add, drop-set-lt, set-get_or, length-drop, length-take, append_assoc, append-nil, take-append-drop, length-append, take-set-le}
use Rattle.stack.specs.Pushes.{placed}
use Rattle.stack.specs.Runs.{part}
use Rattle.resolution.specs.Resolvents.{merge_with, merge, without}
use Rattle.resolution.specs.Merging.{rest, Moves, skip_left, skip_right, keep_left, keep_right, keep_both}

pub part_more : (ls : List ℕ) (i e : ℕ) → i < e → e ≤ length ls → part ls i e ≡ get_or ls i 0 ∷ part ls (i + 1) e
unfolding part
part_more ls i e h k =
    let q : e - i ≡ suc (e - (i + 1)) = omega arith in
    ap (λ n. take n (drop i ls)) q ∙ ap (take (suc (e - (i + 1)))) (drop_more ls i 0 (omega arith))

pub part_none : (ls : List ℕ) (i e : ℕ) → e ≤ i → part ls i e ≡ []
unfolding part
part_none ls i e h = let q : e - i ≡ 0 = omega arith in ap (λ n. take n (drop i ls)) q

pub part_push : (ls : List ℕ) (i e x : ℕ) → i ≤ e → e < length ls → part (set ls e x) i (e + 1) ≡ part ls i e ++ x ∷ []
unfolding part
part_push ls i e x h k =
    let q : e + 1 - i ≡ (e - i) + 1 = omega arith in
    let r : e ≡ i + (e - i) = omega arith in
    let l : e - i < length (drop i ls) = simp length-drop (omega arith) in
    ap (λ n. take n (drop i (set ls e x))) q
    ∙ ap (λ m. take (e - i + 1) (drop i (set ls m x))) r
    ∙ ap (take (e - i + 1)) (drop-set-add i ls (e - i) x)
    ∙ take_more_set (drop i ls) (e - i) x l

pub part_kept : (n : ℕ) (ls ms : List ℕ) (i e : ℕ) → i ≤ e → e ≤ n → take n ms ≡ take n ls → part ms i e ≡ part ls i e
unfolding part
part_kept n ls ms i e h k t =
    let b : i + (e - i) ≤ n = omega arith in
    sym (drop-take i (e - i) ms)
    ∙ ap (drop i) (sym (take-take (i + (e - i)) n ms b) ∙ ap (take (i + (e - i))) t ∙ take-take (i + (e - i)) n ls b)
    ∙ drop-take i (e - i) ls

without_skip : (p x : ℕ) (xs : List ℕ) → x ≡ p → without p (x ∷ xs) ≡ without p xs
without_skip p x xs h = cond-true (eqb x p) (without p xs) (x ∷ without p xs) (eq-eqb x p h)

without_keep : (p x : ℕ) (xs : List ℕ) → (x ≡ p → ⊥) → without p (x ∷ xs) ≡ x ∷ without p xs
without_keep p x xs h = cond-false (eqb x p) (without p xs) (x ∷ without p xs) (ne_eqb x p h)

merge_lt : (x y : ℕ) (xs ys : List ℕ) → x < y → merge (x ∷ xs) (y ∷ ys) ≡ x ∷ merge xs (y ∷ ys)
merge_lt x y xs ys h = cond-true (ltb x y) _ _ (lt-ltb x y h)

merge_gt : (x y : ℕ) (xs ys : List ℕ) → y < x → merge (x ∷ xs) (y ∷ ys) ≡ y ∷ merge (x ∷ xs) ys
merge_gt x y xs ys h = cond-false (ltb x y) _ _ (le-ltb x y (omega arith)) ∙ cond-true (ltb y x) _ _ (lt-ltb y x h)

merge_eq : (x y : ℕ) (xs ys : List ℕ) → x ≤ y → y ≤ x → merge (x ∷ xs) (y ∷ ys) ≡ x ∷ merge xs ys
merge_eq x y xs ys h k = cond-false (ltb x y) _ _ (le-ltb x y k) ∙ cond-false (ltb y x) _ _ (le-ltb y x h)

skip : (ls : List ℕ) (p i e : ℕ) → i < e → e ≤ length ls → get_or ls i 0 ≡ p → without p (part ls i e) ≡ without p (part ls (i + 1) e)
skip ls p i e h k s = ap (without p) (part_more ls i e h k) ∙ without_skip p (get_or ls i 0) (part ls (i + 1) e) s

keep : (ls : List ℕ) (p i e : ℕ) → i < e → e ≤ length ls → (get_or ls i 0 ≡ p → ⊥) → without p (part ls i e) ≡ get_or ls i 0 ∷ without p (part ls (i + 1) e)
keep ls p i e h k s = ap (without p) (part_more ls i e h k) ∙ without_keep p (get_or ls i 0) (part ls (i + 1) e) s

none : (ls : List ℕ) (p i e : ℕ) → e ≤ i → without p (part ls i e) ≡ []
none ls p i e h = ap (without p) (part_none ls i e h)

module _ (ls : List ℕ) (p q i e j f : ℕ) where
  pub rest_none : e ≤ i → f ≤ j → rest ls p q i e j f ≡ []
  unfolding rest
  rest_none h k = rw (none ls p i e h) (none ls q j f k)

  pub rest_skip_left : i < e → e ≤ length ls → get_or ls i 0 ≡ p → rest ls p q i e j f ≡ rest ls p q (i + 1) e j f
  unfolding rest
  rest_skip_left h k s = ap (λ a. merge a (without q (part ls j f))) (skip ls p i e h k s)

  pub rest_skip_right : j < f → f ≤ length ls → get_or ls j 0 ≡ q → rest ls p q i e j f ≡ rest ls p q i e (j + 1) f
  unfolding rest
  rest_skip_right h k s = ap (merge (without p (part ls i e))) (skip ls q j f h k s)

  pub rest_left : i < e → e ≤ length ls → (get_or ls i 0 ≡ p → ⊥) → f ≤ j → rest ls p q i e j f ≡ get_or ls i 0 ∷ rest ls p q (i + 1) e j f
  unfolding rest
  rest_left h k s m = simp (keep ls p i e h k s, none ls q j f m)

  pub rest_right : e ≤ i → j < f → f ≤ length ls → (get_or ls j 0 ≡ q → ⊥) → rest ls p q i e j f ≡ get_or ls j 0 ∷ rest ls p q i e (j + 1) f
  unfolding rest
  rest_right m h k s = simp (none ls p i e m, keep ls q j f h k s)

  module _ (h : i < e) (k : e ≤ length ls) (s : get_or ls i 0 ≡ p → ⊥) (m : j < f) (n : f ≤ length ls) (t : get_or ls j 0 ≡ q → ⊥) where
    pub rest_lt : get_or ls i 0 < get_or ls j 0 → rest ls p q i e j f ≡ get_or ls i 0 ∷ rest ls p q (i + 1) e j f
    unfolding rest
    rest_lt o =
        ap (λ a. merge a (without q (part ls j f))) (keep ls p i e h k s)
        ∙ ap (merge (get_or ls i 0 ∷ without p (part ls (i + 1) e))) (keep ls q j f m n t)
        ∙ merge_lt (get_or ls i 0) (get_or ls j 0) (without p (part ls (i + 1) e)) (without q (part ls (j + 1) f)) o
        ∙ ap (λ b. get_or ls i 0 ∷ merge (without p (part ls (i + 1) e)) b) (sym (keep ls q j f m n t))

    pub rest_gt : get_or ls j 0 < get_or ls i 0 → rest ls p q i e j f ≡ get_or ls j 0 ∷ rest ls p q i e (j + 1) f
    unfolding rest
    rest_gt o =
        ap (λ a. merge a (without q (part ls j f))) (keep ls p i e h k s)
        ∙ ap (merge (get_or ls i 0 ∷ without p (part ls (i + 1) e))) (keep ls q j f m n t)
        ∙ merge_gt (get_or ls i 0) (get_or ls j 0) (without p (part ls (i + 1) e)) (without q (part ls (j + 1) f)) o
        ∙ ap (λ a. get_or ls j 0 ∷ merge a (without q (part ls (j + 1) f))) (sym (keep ls p i e h k s))

    pub rest_eq : get_or ls i 0 ≤ get_or ls j 0 → get_or ls j 0 ≤ get_or ls i 0 → rest ls p q i e j f ≡ get_or ls i 0 ∷ rest ls p q (i + 1) e (j + 1) f
    unfolding rest
    rest_eq o u =
        ap (λ a. merge a (without q (part ls j f))) (keep ls p i e h k s)
        ∙ ap (merge (get_or ls i 0 ∷ without p (part ls (i + 1) e))) (keep ls q j f m n t)
        ∙ merge_eq (get_or ls i 0) (get_or ls j 0) (without p (part ls (i + 1) e)) (without q (part ls (j + 1) f)) o u

-- one step of a merge: of the one clause that has a literal left
module _ (ls : List ℕ) (p q i e j f : ℕ) where
  pub rest_one_left : i < e → e ≤ length ls → f ≤ j → rest ls p q i e j f ≡ option_to_list (then_some (not (eqb (get_or ls i 0) p)) (get_or ls i 0)) ++ rest ls p q (i + 1) e j f
  rest_one_left h k m =
      ⊎_elim
      (λ (s : get_or ls i 0 ≡ p). let t = eq-eqb _ _ s in rw t (rest_skip_left ls p q i e j f h k s))
      (λ (s : get_or ls i 0 ≡ p → ⊥). let t = ne_eqb _ _ s in rw t (rest_left ls p q i e j f h k s m))
      (cases_eq (get_or ls i 0) p)

  pub rest_one_right : e ≤ i → j < f → f ≤ length ls → rest ls p q i e j f ≡ option_to_list (then_some (not (eqb (get_or ls j 0) q)) (get_or ls j 0)) ++ rest ls p q i e (j + 1) f
  rest_one_right m h k =
      ⊎_elim
      (λ (s : get_or ls j 0 ≡ q). let t = eq-eqb _ _ s in rw t (rest_skip_right ls p q i e j f h k s))
      (λ (s : get_or ls j 0 ≡ q → ⊥). let t = ne_eqb _ _ s in rw t (rest_right ls p q i e j f m h k s))
      (cases_eq (get_or ls j 0) q)

  -- of both
  rest_on : (l r k v i' j' : ℕ) (o : List ℕ) → i + l ≡ i' → j + r ≡ j' → option_to_list (then_some (eqb k 1) v) ≡ o → rest ls p q i e j f ≡ o ++ rest ls p q i' e j' f → rest ls p q i e j f ≡ option_to_list (then_some (eqb k 1) v) ++ rest ls p q (i + l) e (j + r) f
  rest_on l r k v i' j' o x y z t = rw (x, y, z) t

  kept_none : (k v : ℕ) → k ≡ 0 → option_to_list (then_some (eqb k 1) v) ≡ []
  kept_none k v h = rw h refl

  kept_one : (k v w : ℕ) → k ≡ 1 → v ≡ w → option_to_list (then_some (eqb k 1) v) ≡ w ∷ []
  kept_one k v w h x = rw (h, x) refl

  pub rest_pace : i < e → e ≤ length ls → j < f → f ≤ length ls → (l r k : ℕ) → Moves (get_or ls i 0) (get_or ls j 0) p q l r k
      → rest ls p q i e j f ≡ option_to_list (then_some (eqb k 1) (min (get_or ls i 0) (get_or ls j 0))) ++ rest ls p q (i + l) e (j + r) f
  rest_pace h m n o l r k (skip_left x a b c) = rest_on l r k _ (i + 1) j _ (omega arith) (omega arith) (kept_none k _ c) (rest_skip_left ls p q i e j f h m x)
  rest_pace h m n o l r k (skip_right y a b c) = rest_on l r k _ i (j + 1) _ (omega arith) (omega arith) (kept_none k _ c) (rest_skip_right ls p q i e j f n o y)
  rest_pace h m n o l r k (keep_left x y z a b c) = rest_on l r k _ (i + 1) j _ (omega arith) (omega arith) (kept_one k _ (get_or ls i 0) c (omega arith)) (rest_lt ls p q i e j f h m x n o y z)
  rest_pace h m n o l r k (keep_right x y z a b c) = rest_on l r k _ i (j + 1) _ (omega arith) (omega arith) (kept_one k _ (get_or ls j 0) c (omega arith)) (rest_gt ls p q i e j f h m x n o y z)
  rest_pace h m n o l r k (keep_both x y z w a b c) = rest_on l r k _ (i + 1) (j + 1) _ (omega arith) (omega arith) (kept_one k _ (get_or ls i 0) c (omega arith)) (rest_eq ls p q i e j f h m x n o y z w)

pub rest_kept : (n : ℕ) (ls ms : List ℕ) (p q i e j f : ℕ) → i ≤ e → e ≤ n → j ≤ f → f ≤ n → take n ms ≡ take n ls → rest ms p q i e j f ≡ rest ls p q i e j f
unfolding rest
rest_kept n ls ms p q i e j f h k l m t =
    ap (λ a. merge (without p a) (without q (part ms j f))) (part_kept n ls ms i e h k t)
    ∙ ap (λ b. merge (without p (part ls i e)) (without q b)) (part_kept n ls ms j f l m t)

-- the turns of the loop of join: ls as it began, ms as it is
module _ (n : ℕ) (ls ms : List ℕ) (p q i e j f i' j' at : ℕ) (whole : List ℕ)
    (hi : i' ≤ e) (he : e ≤ n) (hj : j' ≤ f) (hf : f ≤ n) (li : i ≤ i') (lj : j ≤ j')
    (front : take n ms ≡ take n ls) (inv : part ms n at ++ rest ls p q i e j f ≡ whole) where
  pub turn_skip : rest ms p q i e j f ≡ rest ms p q i' e j' f → part ms n at ++ rest ls p q i' e j' f ≡ whole
  turn_skip s =
      ap (λ r. part ms n at ++ r) (sym (rest_kept n ls ms p q i' e j' f hi he hj hf front) ∙ sym s ∙ rest_kept n ls ms p q i e j f (omega arith) he (omega arith) hf front)
      ∙ inv

  pub turn_keep : (x : ℕ) → n ≤ at → at < length ms → rest ms p q i e j f ≡ x ∷ rest ms p q i' e j' f → part (set ms at x) n (at + 1) ++ rest ls p q i' e j' f ≡ whole
  turn_keep x h k s =
      ap (λ a. a ++ rest ls p q i' e j' f) (part_push ms n at x h k)
      ∙ append_assoc (part ms n at) (x ∷ []) (rest ls p q i' e j' f)
      ∙ ap (λ r. part ms n at ++ r) (ap (λ r. x ∷ r) (sym (rest_kept n ls ms p q i' e j' f hi he hj hf front)) ∙ sym s ∙ rest_kept n ls ms p q i e j f (omega arith) he (omega arith) hf front)
      ∙ inv

pub turn_end : (n : ℕ) (ls ms : List ℕ) (p q i e j f at : ℕ) (whole : List ℕ) → i ≤ e → e ≤ n → j ≤ f → f ≤ n → take n ms ≡ take n ls → part ms n at ++ rest ls p q i e j f ≡ whole → rest ms p q i e j f ≡ [] → part ms n at ≡ whole
turn_end n ls ms p q i e j f at whole hi he hj hf t inv s =
    sym (append-nil (part ms n at)) ∙ ap (λ r. part ms n at ++ r) (sym s ∙ rest_kept n ls ms p q i e j f hi he hj hf t) ∙ inv

pub length_part : (ls : List ℕ) (i e : ℕ) → i ≤ e → e ≤ length ls → length (part ls i e) ≡ e - i
unfolding part
length_part ls i e h k = simp (length-take, length-drop) (omega arith)

pub take_part : (ls : List ℕ) (i e : ℕ) → i ≤ e → take e ls ≡ take i ls ++ part ls i e
unfolding part
take_part ls i e h =
    let q : i + (e - i) ≡ e = omega arith in
    sym (take-append-drop i (take e ls))
    ∙ ap (λ a. a ++ drop i (take e ls)) (take-take i e ls h)
    ∙ ap (λ n. take i ls ++ drop i (take n ls)) (sym q)
    ∙ ap (λ a. take i ls ++ a) (drop-take i (e - i) ls)

part_set : (ms : List ℕ) (n at v : ℕ) → n ≤ at → part (set ms at v) n at ≡ part ms n at
part_set ms n at v h = part_kept at ms (set ms at v) n at h (omega arith) (take-set-le at ms at v (omega arith))

-- a move reads and keeps at most one
pub moved : (x y p q l r k : ℕ) → Moves x y p q l r k → (l ≤ 1) × (r ≤ 1) × (k ≤ 1) × (1 ≤ l + r)
moved x y p q l r k (skip_left _ a b c) = (omega arith, omega arith, omega arith, omega arith)
moved x y p q l r k (skip_right _ a b c) = (omega arith, omega arith, omega arith, omega arith)
moved x y p q l r k (keep_left _ _ _ a b c) = (omega arith, omega arith, omega arith, omega arith)
moved x y p q l r k (keep_right _ _ _ a b c) = (omega arith, omega arith, omega arith, omega arith)
moved x y p q l r k (keep_both _ _ _ _ a b c) = (omega arith, omega arith, omega arith, omega arith)

-- a turn of the quick loop
module _ (n : ℕ) (ls ms : List ℕ) (p q i e j f at : ℕ) (whole : List ℕ)
    (hi : i < e) (he : e ≤ n) (hj : j < f) (hf : f ≤ n) (hn : n ≤ at) (ha : at < length ms)
    (front : take n ms ≡ take n ls) (inv : part ms n at ++ rest ls p q i e j f ≡ whole) where
  turn_none : (v i' j' : ℕ) → i ≤ i' → i' ≤ e → j ≤ j' → j' ≤ f → rest ms p q i e j f ≡ rest ms p q i' e j' f → part (set ms at v) n at ++ rest ls p q i' e j' f ≡ whole
  turn_none v i' j' a b c d s =
      ap (λ r. r ++ rest ls p q i' e j' f) (part_set ms n at v hn)
      ∙ turn_skip n ls ms p q i e j f i' j' at whole b he d hf a c front inv s

  turn_one : (v i' j' : ℕ) → i ≤ i' → i' ≤ e → j ≤ j' → j' ≤ f → rest ms p q i e j f ≡ v ∷ rest ms p q i' e j' f → part (set ms at v) n (at + 1) ++ rest ls p q i' e j' f ≡ whole
  turn_one v i' j' a b c d s = turn_keep n ls ms p q i e j f i' j' at whole b he d hf a c front inv v hn ha s

  pub turn_quick : e ≤ length ms → f ≤ length ms → (l r k v : ℕ) → Moves (get_or ms i 0) (get_or ms j 0) p q l r k → (k ≡ 1 → v ≡ min (get_or ms i 0) (get_or ms j 0)) → part (set ms at v) n (at + k) ++ rest ls p q (i + l) e (j + r) f ≡ whole
  turn_quick le lf l r k v m t =
      let b = moved _ _ _ _ _ _ _ m in
      let s = rest_pace ms p q i e j f hi le hj lf l r k m in
      ⊎_elim
      (λ (z : k ≡ 0). let a : at + k ≡ at = omega arith in rw a (turn_none v (i + l) (j + r) (omega arith) (omega arith) (omega arith) (omega arith) (rw z at s)))
      (λ (z : k ≡ 0 → ⊥). let u : k ≡ 1 = omega arith in let a : at + k ≡ at + 1 = omega arith in
      rw a (turn_one v (i + l) (j + r) (omega arith) (omega arith) (omega arith) (omega arith) ((rw u at s) ∙ ap (λ w. w ∷ rest ms p q (i + l) e (j + r) f) (sym (t u)))))
      (cases_eq k 0)

-- the entries past a write stay
pub tail_more : (ls ms : List ℕ) (at v : ℕ) → drop at ms ≡ drop at ls → drop (at + 1) (set ms at v) ≡ drop (at + 1) ls
tail_more ls ms at v h =
    drop-set-lt (at + 1) ms at v (omega arith) ∙ sym (drop-drop 1 at ms) ∙ ap (drop 1) h ∙ drop-drop 1 at ls

pub tail_quick : (ls ms : List ℕ) (at k v : ℕ) → k ≤ 1 → (k ≡ 0 → v ≡ get_or ms at 0) → drop at ms ≡ drop at ls → drop (at + k) (set ms at v) ≡ drop (at + k) ls
tail_quick ls ms at k v h o t =
    ⊎_elim
    (λ (e : k ≡ 0). let z : at + k ≡ at = omega arith in
    ap (λ w. drop (at + k) (set ms at w)) (o e) ∙ ap (drop (at + k)) (set-get_or ms at 0) ∙ ap (λ w. drop w ms) z ∙ t ∙ ap (λ w. drop w ls) (sym z))
    (λ (e : k ≡ 0 → ⊥). let z : at + k ≡ at + 1 = omega arith in
    ap (λ w. drop w (set ms at v)) z ∙ tail_more ls ms at v t ∙ ap (λ w. drop w ls) (sym z))
    (cases_eq k 0)

-- what is written, at the end
pub joined : (n at : ℕ) (ls ms whole : List ℕ) → n ≤ at → at ≤ length ms → take n ms ≡ take n ls → drop at ms ≡ drop at ls → part ms n at ≡ whole → (at ≡ n + length whole) × (ms ≡ placed n whole ls)
joined n at ls ms whole h k t d p =
    let q : length (part ms n at) ≡ length whole = ap length p in
    let r = length_part ms n at h k in
    let z : at ≡ n + length whole = omega arith in (
      z,
      sym (take-append-drop at ms)
          ∙ ap (λ a. a ++ drop at ms) (take_part ms n at h ∙ ap (λ a. a ++ part ms n at) t ∙ ap (λ a. take n ls ++ a) p)
          ∙ ap (λ a. (take n ls ++ whole) ++ a) (d ∙ ap (λ w. drop w ls) z),
    )

-- where a literal is still to be written, an entry is free
pub unwritten : (n at x : ℕ) (ms more less whole : List ℕ) → n ≤ at → at ≤ length ms → part ms n at ++ more ≡ whole → more ≡ x ∷ less → n + length whole ≤ length ms → at < length ms
unwritten n at x ms more less whole h k p m r =
    let u = length_part ms n at h k in
    let s : length (part ms n at ++ more) ≡ length whole = ap length p in
    let v = length-append (part ms n at) more in
    let w : length more ≡ suc (length less) = ap length m in
    omega arith

-- a merge has no more literals than both lists
short_merge_with : (x h : ℕ) (k : List ℕ → List ℕ) → ((zs : List ℕ) → length (k zs) ≤ h + length zs) → (ys : List ℕ) → length (merge_with x k ys) ≤ suc h + length ys
short_merge_with x h k hk [] = let a = hk [] in omega arith
short_merge_with x h k hk (y ∷ ys) =
    cond_both (ltb x y) (x ∷ k (y ∷ ys)) (cond (ltb y x) (y ∷ merge_with x k ys) (x ∷ k ys)) (λ l. length l ≤ suc h + length (y ∷ ys))
    (λ _. let a = hk (y ∷ ys) in omega arith)
    (λ _. cond_both (ltb y x) (y ∷ merge_with x k ys) (x ∷ k ys) (λ l. length l ≤ suc h + length (y ∷ ys))
    (λ _. let a = short_merge_with x h k hk ys in omega arith)
    (λ _. let a = hk ys in omega arith))

short_merge : (xs ys : List ℕ) → length (merge xs ys) ≤ length xs + length ys
short_merge [] ys = omega arith
short_merge (x ∷ xs) ys = short_merge_with x (length xs) (merge xs) (short_merge xs) ys

short_without : (p : ℕ) (xs : List ℕ) → length (without p xs) ≤ length xs
short_without p [] = omega arith
short_without p (x ∷ xs) =
    let a = short_without p xs in
    cond_both (eqb x p) (without p xs) (x ∷ without p xs) (λ l. length l ≤ length (x ∷ xs)) (λ _. omega arith) (λ _. omega arith)

pub rest_short : (ls : List ℕ) (p q i e j f : ℕ) → i ≤ e → e ≤ length ls → j ≤ f → f ≤ length ls → length (rest ls p q i e j f) ≤ (e - i) + (f - j)
unfolding rest
rest_short ls p q i e j f a b c d =
    let x = length_part ls i e a b in
    let y = length_part ls j f c d in
    let z = short_without p (part ls i e) in
    let w = short_without q (part ls j f) in
    let v = short_merge (without p (part ls i e)) (without q (part ls j f)) in
    omega arith
