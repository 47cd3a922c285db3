-- A text is accepted exactly when it begins with a printed circuit, and then the area holds that circuit.
use Rattle.std.proofs.Common.{◌≡◌, ℕ, ◌+◌, ◌-◌, ◌*◌, List, [], ◌∷◌, ◌++◌, length, drop, replicate, Ok, sym, refl, ap, ◌∙◌, subst, arith}
use Rattle.std.proofs.lemmas.List.{append_assoc, length-append, length-replicate}
use Rattle.std.specs.List.{flat_map}
use Rattle.aiger.specs.declared.header.Header.{Header}
use Rattle.aiger.specs.Numbers.{Admitted, needed}
use Rattle.circuit_text.specs.declared.line.LineKind.{LineKind}
use Rattle.circuit_text.specs.declared.line.LineKind.TheVariants.{Input, Latch, Output, Gate}
use Rattle.circuit_text.specs.Sections.{Read, lines_of, lines_on, section_on, sections_read}
use Rattle.circuit_text.specs.Printed.{Entry, numbers, lines, AllInRange, written_header, held, Prints}
use Rattle.circuit_text.specs.Texts.{opening_of, circuit_of, answer_of, area_of}
use Rattle.circuit_text.proofs.Chains.{carried_came}
use Rattle.circuit_text.proofs.Places.{Here, here_from, here_join, here_split}
use Rattle.circuit_text.proofs.SectionsExact.{lines_in, lines_out, Section}
use Rattle.circuit_text.proofs.HeaderExact.{Short, opening_in, opening_out}
use Rattle.circuit_text.proofs.Sections.{lines_few, sections_on}
use Rattle.circuit_text.proofs.Texts.{circuit_on}

-- inputs keep no numbers, latches and outputs one each, gates two each
none_kept : (xs : List (Unit {0})) → flat_map (numbers Input) xs ≡ []
none_kept [] = refl
none_kept (x ∷ xs) = none_kept xs

one_kept : (xs : List ℕ) → flat_map (λ x. x ∷ []) xs ≡ xs
one_kept [] = refl
one_kept (x ∷ xs) = ap (λ (l : List ℕ). x ∷ l) (one_kept xs)

two_kept : (gs : List (ℕ × ℕ)) → length (flat_map (numbers Gate) gs) ≡ 2 * length gs
two_kept [] = refl
two_kept (g ∷ gs) = omega (arith, two_kept gs)

units : (xs : List (Unit {0})) (n : ℕ) → length xs ≡ n → xs ≡ replicate n tt
units [] n e = ap (λ (k : ℕ). replicate k tt) e
units (x ∷ xs) n e = ap (λ (l : List (Unit {0})). tt ∷ l) (units xs (length xs) refl) ∙ ap (λ (k : ℕ). replicate k tt) e

all_units : (h : Header) (i : ℕ) (xs : List (Unit {0})) → AllInRange h Input i xs
unfolding AllInRange
all_units h i [] = tt
all_units h i (x ∷ xs) = (tt, all_units h (i + 1) xs)

pub held_size : (h : Header) (nexts outputs : List ℕ) (gates : List (ℕ × ℕ)) → length nexts ≡ h.latches → length outputs ≡ h.outputs → length gates ≡ h.gates
    → length (held nexts outputs gates) ≡ needed h
held_size h nexts outputs gates n o g =
    omega (arith, length-append nexts (outputs ++ flat_map (numbers Gate) gates), length-append outputs (flat_map (numbers Gate) gates), two_kept gates)

-- the numbers of all sections, in their order
in_order : (inputs : List (Unit {0})) (nexts outputs : List ℕ) (gates : List (ℕ × ℕ))
    → ((([] ++ flat_map (numbers Input) inputs) ++ flat_map (numbers Latch) nexts) ++ flat_map (numbers Output) outputs) ++ flat_map (numbers Gate) gates ≡ held nexts outputs gates
in_order inputs nexts outputs gates =
    simp (none_kept inputs, one_kept nexts, one_kept outputs, append_assoc)

section_in : (h : Header) (text : List ℕ) (size : ℕ) → Admitted h size → (kind : LineKind) (xs : List (Entry kind)) (at end : ℕ) (got : List ℕ)
    → length xs ≡ lines_of h kind → AllInRange h kind 0 xs → Here text at (lines h kind 0 xs) end
    → section_on h kind text (got, at) ≡ Ok (got ++ flat_map (numbers kind) xs, end)
section_in h text size a kind xs at end got count range here =
    let few = lines_few h size kind a in
    ap (λ (n : ℕ). lines_on h kind text n 0 (got, at)) (sym count)
    ∙ lines_in h kind text xs 0 at end got (omega arith) (omega (arith, few.0, few.1)) range here

-- the sections as bytes, from `start` to `end`
record Sections (h : Header) (text : List ℕ) (start : ℕ) (nexts outputs : List ℕ) (gates : List (ℕ × ℕ)) (end : ℕ) : Type 0 where
  nexts_count : length nexts ≡ h.latches
  outputs_count : length outputs ≡ h.outputs
  gates_count : length gates ≡ h.gates
  nexts_in_range : AllInRange h Latch 0 nexts
  outputs_in_range : AllInRange h Output 0 outputs
  gates_in_range : AllInRange h Gate 0 gates
  here : Here text start (lines h Input 0 (replicate h.inputs tt) ++ (lines h Latch 0 nexts ++ (lines h Output 0 outputs ++ lines h Gate 0 gates))) end

sections_in : (h : Header) (text : List ℕ) (start : ℕ) (nexts outputs : List ℕ) (gates : List (ℕ × ℕ)) (end size : ℕ) → Admitted h size
    → Sections h text start nexts outputs gates end → sections_read h text start ≡ Ok (held nexts outputs gates, end)
sections_in h text start nexts outputs gates end size a s =
    let inputs = replicate h.inputs tt in
    let x = here_split text start (lines h Input 0 inputs) (lines h Latch 0 nexts ++ (lines h Output 0 outputs ++ lines h Gate 0 gates)) end s.here in
    let y = here_split text x.0 (lines h Latch 0 nexts) (lines h Output 0 outputs ++ lines h Gate 0 gates) end x.2 in
    let z = here_split text y.0 (lines h Output 0 outputs) (lines h Gate 0 gates) end y.2 in
    let got1 = [] ++ flat_map (numbers Input) inputs in
    let got2 = got1 ++ flat_map (numbers Latch) nexts in
    let got3 = got2 ++ flat_map (numbers Output) outputs in
    let i = section_in h text size a Input inputs start x.0 [] (length-replicate h.inputs tt) (all_units h 0 inputs) x.1 in
    let l = section_in h text size a Latch nexts x.0 y.0 got1 s.nexts_count s.nexts_in_range y.1 in
    let o = section_in h text size a Output outputs y.0 z.0 got2 s.outputs_count s.outputs_in_range z.1 in
    let g = section_in h text size a Gate gates z.0 end got3 s.gates_count s.gates_in_range z.2 in
    sections_on h text start (got1, x.0) (got2, y.0) (got3, z.0) i l o
    ∙ (g ∙ ap (λ (ns : List ℕ). Ok (ns, end)) (in_order inputs nexts outputs gates))

-- the four sections, each where the one before ends
sections_join : (h : Header) (text : List ℕ) (start m1 m2 m3 end : ℕ) (n1 n2 n3 ns : List ℕ)
    → Section h Input text h.inputs 0 start m1 [] n1 → Section h Latch text h.latches 0 m1 m2 n1 n2
    → Section h Output text h.outputs 0 m2 m3 n2 n3 → Section h Gate text h.gates 0 m3 end n3 ns
    → (nexts outputs : List ℕ) × (gates : List (ℕ × ℕ)) × Sections h text start nexts outputs gates end × (ns ≡ held nexts outputs gates)
sections_join h text start m1 m2 m3 end n1 n2 n3 ns (inputs, count, _, here, kept) (nexts, count1, range1, here1, kept1) (outputs, count2, range2, here2, kept2) (gates, count3, range3, here3, kept3) =
    let all-inputs = replicate h.inputs tt in
    let first : Here text start (lines h Input 0 all-inputs) m1 = subst (λ (xs : List (Unit {0})). Here text start (lines h Input 0 xs) m1) (units inputs h.inputs count) here in
    let last = here_join text m2 (lines h Output 0 outputs) m3 (lines h Gate 0 gates) end here2 here3 in
    let later = here_join text m1 (lines h Latch 0 nexts) m2 (lines h Output 0 outputs ++ lines h Gate 0 gates) end here1 last in (
      nexts,
      outputs,
      gates,
      record {
        nexts_count = count1;
        outputs_count = count2;
        gates_count = count3;
        nexts_in_range = range1;
        outputs_in_range = range2;
        gates_in_range = range3;
        here = here_join text start (lines h Input 0 all-inputs) m1 (lines h Latch 0 nexts ++ (lines h Output 0 outputs ++ lines h Gate 0 gates)) end first later;
      },
      rw (kept3, kept2, kept1, kept) (in_order inputs nexts outputs gates),
    )

sections_out : (h : Header) (text : List ℕ) (start : ℕ) (ns : List ℕ) (end : ℕ) → sections_read h text start ≡ Ok (ns, end)
    → (nexts outputs : List ℕ) × (gates : List (ℕ × ℕ)) × Sections h text start nexts outputs gates end × (ns ≡ held nexts outputs gates)
sections_out h text start ns end e =
    let r : Read = (ns, end) in
    let i = carried_came (section_on h Input text ([], start)) _ r e in
    let l = carried_came (section_on h Latch text i.0) _ r i.2 in
    let o = carried_came (section_on h Output text l.0) _ r l.2 in
    sections_join h text start i.0.1 l.0.1 o.0.1 end i.0.0 l.0.0 o.0.0 ns
    (lines_out h Input text h.inputs 0 start i.0.1 [] i.0.0 i.1)
    (lines_out h Latch text h.latches 0 i.0.1 l.0.1 i.0.0 l.0.0 l.1)
    (lines_out h Output text h.outputs 0 l.0.1 o.0.1 l.0.0 o.0.0 o.1)
    (lines_out h Gate text h.gates 0 o.0.1 end o.0.0 ns o.2)

-- a printed circuit is read
prints_in : (text : List ℕ) (h : Header) (area : List ℕ) (p : Prints text h area) → circuit_of text (length area) ≡ Ok (h, held p.nexts p.outputs p.gates)
prints_in text h area p =
    let body = lines h Input 0 (replicate h.inputs tt) ++ (lines h Latch 0 p.nexts ++ (lines h Output 0 p.outputs ++ lines h Gate 0 p.gates)) in
    let all = here_from text 0 (written_header h ++ body) p.rest p.begins in
    let end = 0 + length (written_header h ++ body) in
    let s = here_split text 0 (written_header h) body end all in
    let short : Short h = (omega arith, omega arith, omega arith, omega arith, omega arith) in
    circuit_on text (length area) h s.0 (Ok (held p.nexts p.outputs p.gates, end))
    (opening_in text (length area) h s.0 short s.1 p.admitted)
    (sections_in h text s.0 p.nexts p.outputs p.gates end (length area) p.admitted
    record {
      nexts_count = p.nexts_count;
      outputs_count = p.outputs_count;
      gates_count = p.gates_count;
      nexts_in_range = p.nexts_in_range;
      outputs_in_range = p.outputs_in_range;
      gates_in_range = p.gates_in_range;
      here = s.2;
    })

pub prints_read : (text : List ℕ) (h : Header) (area : List ℕ) → Prints text h area
    → (answer_of (circuit_of text (length area)) ≡ Ok h) × (area_of (length area) (circuit_of text (length area)) ≡ area)
prints_read text h area p =
    let c = prints_in text h area p in
    let size = held_size h p.nexts p.outputs p.gates p.nexts_count p.outputs_count p.gates_count in (
      ap answer_of c,
      ap (area_of (length area)) c ∙ (ap (λ (n : ℕ). held p.nexts p.outputs p.gates ++ replicate (length area - n) 0) size ∙ sym p.holds),
    )

-- what is read is a printed circuit
circuit_came : (text : List ℕ) (size : ℕ) (h : Header) (ns : List ℕ) → circuit_of text size ≡ Ok (h, ns)
    → (start end : ℕ) × (opening_of text size ≡ Ok (h, start)) × (sections_read h text start ≡ Ok (ns, end))
unfolding circuit_of
circuit_came text size h ns e =
    let o = carried_came (opening_of text size) _ (h, ns) e in
    let s = carried_came (sections_read o.0.0 text o.0.1) _ (h, ns) o.2 in
    let both : ◌≡◌ {A = Header × List ℕ} (o.0.0, s.0.0) (h, ns) = cc s.2 in (
      o.0.1,
      s.0.1,
      o.1 ∙ ap (λ (p : Header × List ℕ). Ok (p.0, o.0.1)) both,
      ap (λ (p : Header × List ℕ). sections_read p.0 text o.0.1) (sym both) ∙ (s.1 ∙ ap (λ (p : Header × List ℕ). Ok (p.1, s.0.1)) both),
    )

read_prints_at : (text : List ℕ) (size : ℕ) (h : Header) (ns : List ℕ) (start end : ℕ) (nexts outputs : List ℕ) (gates : List (ℕ × ℕ))
    → Here text 0 (written_header h) start → Admitted h size → Sections h text start nexts outputs gates end → ns ≡ held nexts outputs gates
    → Prints text h (ns ++ replicate (size - length ns) 0)
read_prints_at text size h ns start end nexts outputs gates top a s is =
    let all_held : length ns ≡ needed h = ap length is ∙ held_size h nexts outputs gates s.nexts_count s.outputs_count s.gates_count in
    let same : length (ns ++ replicate (size - length ns) 0) ≡ size =
    omega (arith, length-append ns (replicate (size - length ns) 0), length-replicate {A = ℕ} (size - length ns) 0) in
    let body = lines h Input 0 (replicate h.inputs tt) ++ (lines h Latch 0 nexts ++ (lines h Output 0 outputs ++ lines h Gate 0 gates)) in
    record {
      nexts = nexts;
      outputs = outputs;
      gates = gates;
      rest = drop end text;
      admitted = rw same a;
      nexts_count = s.nexts_count;
      outputs_count = s.outputs_count;
      gates_count = s.gates_count;
      nexts_in_range = s.nexts_in_range;
      outputs_in_range = s.outputs_in_range;
      gates_in_range = s.gates_in_range;
      begins = (here_join text 0 (written_header h) start body end top s.here).bytes_here;
      holds = ap (λ (l : List ℕ). l ++ replicate (size - length ns) 0) is
          ∙ ap (λ (n : ℕ). held nexts outputs gates ++ replicate n 0) (let k : size - length ns ≡ length (ns ++ replicate (size - length ns) 0) - needed h = omega arith in k);
    }

pub read_prints : (text : List ℕ) (size : ℕ) (h : Header) (ns : List ℕ) → circuit_of text size ≡ Ok (h, ns) → Prints text h (ns ++ replicate (size - length ns) 0)
read_prints text size h ns e =
    let c = circuit_came text size h ns e in
    let o = opening_out text size h c.0 c.2 in
    let s = sections_out h text c.0 ns c.1 c.3 in
    read_prints_at text size h ns c.0 c.1 s.0 s.1 s.2 o.0 o.1 s.3 s.4
