-- An area that holds a printed circuit meets the conditions on the numbers of a circuit.
use Rattle.std.proofs.Common.{◌≡◌, ℕ, zero, suc, ◌+◌, ◌-◌, ◌*◌, ◌<◌, List, [], ◌∷◌, ◌++◌, length, get_or, replicate, IfOk, Ok, Err, Result, sym, refl, ap, ◌∙◌, subst, inl, inr, arith}
use Rattle.std.proofs.lemmas.List.{append_assoc, get_or_append_left, get_or-append-add}
use Rattle.std.proofs.lemmas.Bool.{cases_lt}
use Rattle.std.specs.List.{flat_map}
use Rattle.refusal.specs.declared.faults.TextRefusal.{TextRefusal}
use Rattle.aiger.specs.declared.header.Header.{Header}
use Rattle.aiger.specs.Numbers.{needed, Heads, Gates, Good}
use Rattle.circuit_text.specs.declared.line.LineKind.{LineKind}
use Rattle.circuit_text.specs.declared.line.LineKind.TheVariants.{Latch, Output, Gate}
use Rattle.circuit_text.specs.Printed.{Entry, InRange, numbers, AllInRange, Prints}
use Rattle.circuit_text.specs.Texts.{circuit_of, answer_of, area_of}
use Rattle.circuit_text.proofs.Chains.{carried_came}
use Rattle.circuit_text.proofs.TextExact.{prints_read, read_prints}

all_at : (h : Header) (kind : LineKind) (d : Entry kind) (xs : List (Entry kind)) (i k : ℕ) → AllInRange h kind i xs → k < length xs → InRange h kind (i + k) (get_or xs k d)
unfolding AllInRange
all_at h kind d [] i k range l = absurd (omega arith)
all_at h kind d (x ∷ xs) i zero range l = let same : i ≡ i + 0 = omega arith in subst (λ (n : ℕ). InRange h kind n x) same range.0
all_at h kind d (x ∷ xs) i (suc k) range l =
    let same : i + 1 + k ≡ i + suc k = omega arith in
    subst (λ (n : ℕ). InRange h kind n (get_or xs k d)) same (all_at h kind d xs (i + 1) k range.1 (omega arith))

-- the operands of gate j
pair_at : (gates : List (ℕ × ℕ)) (rest : List ℕ) (j : ℕ) → j < length gates
    → (get_or (flat_map (numbers Gate) gates ++ rest) (2 * j) 0 ≡ (get_or gates j (0, 0)).0) × (get_or (flat_map (numbers Gate) gates ++ rest) (2 * j + 1) 0 ≡ (get_or gates j (0, 0)).1)
pair_at [] rest j l = absurd (omega arith)
pair_at (g ∷ gates) rest zero l = (refl, refl)
pair_at (g ∷ gates) rest (suc j) l =
    let p = pair_at gates rest j (omega arith) in
    let two : 2 * suc j ≡ suc (suc (2 * j)) = omega arith in
    let three : 2 * suc j + 1 ≡ suc (suc (2 * j + 1)) = omega arith in
    let all = flat_map (numbers Gate) (g ∷ gates) ++ rest in
    (ap (λ (n : ℕ). get_or all n 0) two ∙ p.0, ap (λ (n : ℕ). get_or all n 0) three ∙ p.1)

module _ (text : List ℕ) (h : Header) (area : List ℕ) (p : Prints text h area) where
  zeros : List ℕ
  zeros = replicate (length area - needed h) 0

  in_order : area ≡ p.nexts ++ (p.outputs ++ (flat_map (numbers Gate) p.gates ++ zeros))
  unfolding zeros
  in_order =
      p.holds ∙ (append_assoc p.nexts (p.outputs ++ flat_map (numbers Gate) p.gates) (replicate (length area - needed h) 0)
      ∙ ap (λ (l : List ℕ). p.nexts ++ l) (append_assoc p.outputs (flat_map (numbers Gate) p.gates) (replicate (length area - needed h) 0)))

  -- an entry after the next literals and the outputs
  later : (m : ℕ) → get_or area (h.latches + h.outputs + m) 0 ≡ get_or (flat_map (numbers Gate) p.gates ++ zeros) m 0
  later m =
      let at : h.latches + h.outputs + m ≡ length p.nexts + (length p.outputs + m) = omega (arith, p.nexts_count, p.outputs_count) in
      ap (λ (n : ℕ). get_or area n 0) at ∙ (ap (λ (l : List ℕ). get_or l (length p.nexts + (length p.outputs + m)) 0) in_order
      ∙ (get_or-append-add p.nexts (p.outputs ++ (flat_map (numbers Gate) p.gates ++ zeros)) (length p.outputs + m) 0
      ∙ get_or-append-add p.outputs (flat_map (numbers Gate) p.gates ++ zeros) m 0))

  heads : Heads h area
  heads k l =
      elim (cases_lt k h.latches) [
        | inl low ↦
            let at : get_or area k 0 ≡ get_or p.nexts k 0 =
            ap (λ (l : List ℕ). get_or l k 0) in_order
            ∙ get_or_append_left p.nexts (p.outputs ++ (flat_map (numbers Gate) p.gates ++ zeros)) 0 k (omega (arith, p.nexts_count)) in
            omega (arith, at, all_at h Latch 0 p.nexts 0 k p.nexts_in_range (omega (arith, p.nexts_count)))
        | inr high ↦
            let m = k - h.latches in
            let same : k ≡ length p.nexts + m = omega (arith, p.nexts_count) in
            let inside : m < length p.outputs = omega (arith, p.outputs_count) in
            let at : get_or area k 0 ≡ get_or p.outputs m 0 =
            ap (λ (n : ℕ). get_or area n 0) same ∙ (ap (λ (l : List ℕ). get_or l (length p.nexts + m) 0) in_order
            ∙ (get_or-append-add p.nexts (p.outputs ++ (flat_map (numbers Gate) p.gates ++ zeros)) m 0
            ∙ get_or_append_left p.outputs (flat_map (numbers Gate) p.gates ++ zeros) 0 m inside)) in
            omega (arith, at, all_at h Output 0 p.outputs 0 m p.outputs_in_range inside)
      ]

  gates_fall : Gates h area
  gates_fall j l =
      let inside : j < length p.gates = omega (arith, p.gates_count) in
      let range = all_at h Gate (0, 0) p.gates 0 j p.gates_in_range inside in
      let pair = pair_at p.gates zeros j inside in
      let a = later (2 * j) ∙ pair.0 in
      let b = later (2 * j + 1) ∙ pair.1 in
      (omega (arith, a, range.0), omega (arith, a, b, range.1))

  pub prints_good : Good h area
  prints_good = (p.admitted, heads, gates_fall)

-- what the definitions say of each answer, in the circuit's words
abbrev pub Exact : List ℕ → ℕ → Result Header TextRefusal → List ℕ → Type 0
Exact text size r area =
    IfOk r (λ h. Good h area)
    × ((h : Header) → r ≡ Ok h → Prints text h area)
    × ((h : Header) (given : List ℕ) → length given ≡ size → Prints text h given → (r ≡ Ok h) × (area ≡ given))

made_good : (r : Result Header TextRefusal) (area : List ℕ) → ((h : Header) → r ≡ Ok h → Good h area) → IfOk r (λ h. Good h area)
made_good (Ok h) area f = f h refl
made_good (Err e) area f = tt

pub exact : (text : List ℕ) (size : ℕ) (r : Result Header TextRefusal) (area : List ℕ) → r ≡ answer_of (circuit_of text size) → area ≡ area_of size (circuit_of text size)
    → Exact text size r area
exact text size r area answer filled =
    let printed : (h : Header) → r ≡ Ok h → Prints text h area =
    λ h e.
    let c = carried_came (circuit_of text size) (λ p. Ok p.0) h (sym answer ∙ e) in
    let same : c.0.0 ≡ h = cc c.2 in
    subst (λ (g : Header). Prints text g area) same
    (subst (λ (l : List ℕ). Prints text c.0.0 l) (sym (filled ∙ ap (area_of size) c.1)) (read_prints text size c.0.0 c.0.1 c.1)) in (
      made_good r area (λ h e. prints_good text h area (printed h e)),
      printed,
      λ h given same p.
          let back = prints_read text h given p in
          let at : circuit_of text (length given) ≡ circuit_of text size = ap (circuit_of text) same in
          (answer ∙ (ap answer_of (sym at) ∙ back.0), filled ∙ (ap (area_of size) (sym at) ∙ (ap (λ (n : ℕ). area_of n (circuit_of text (length given))) (sym same) ∙ back.1))),
    )
