-- The encoding of an opening is read as that opening.
use Rattle.std.proofs.Common.{◌≡◌, ℕ, zero, suc, ◌+◌, ◌<◌, ◌≤◌, true, ltb, List, [], ◌∷◌, ◌++◌, map, length, get_or, Ok, Err, Result, sym, refl, ap, ◌∙◌, subst, append_assoc, append-nil, arith}
use Rattle.std.specs.List.{flat_map, AllByRecursion}
use Rattle.std.proofs.lemmas.List.{length-append}
use Rattle.std.proofs.lemmas.Bool.{cond-true, cond-false, lt-ltb, le-ltb}
use Rattle.refusal.specs.declared.faults.CertificateFault.{CertificateFault}
use Rattle.refusal.specs.declared.faults.CertificateRefusal.{CertificateRefusal}
use Rattle.resolution.specs.Clauses.{Rising}
use Rattle.machine.specs.Meaning.{Meaning}
use Rattle.question_theory.specs.Traces.{OfState, StateClauses, state_setting, In}
use Rattle.question_theory.proofs.Satisfied.{all_from_models}
use Rattle.frames.specs.Held.{flat}
use Rattle.certificate.specs.declared.record.Record.{Record}
use Rattle.certificate.specs.declared.record.Record.TheVariants.{Claim as Claim-record, Literal, ClauseEnd, FrameEnd, Take, Resolve, RefutationEnd, Bit, RowEnd, End}
use Rattle.certificate.specs.Records.{encode, encodes}
use Rattle.certificate.proofs.Codes.{reads, longer}
use Rattle.certificate.specs.declared.claim.Claim.{Claim}
use Rattle.certificate.specs.declared.claim.Claim.TheVariants.{Trace, Induction, Counterexample}
use Rattle.opening.specs.Steps.{Room, View, opening, framing, opened, clauses_in, clause_count, literal_count, is_next_literal, stands, literal_added, clause_ended, frame_ended, step}
use Rattle.opening.specs.Reading.{Contents, Answer, from_here, reading}
use Rattle.opening.specs.Openings.{clause_records, frame_records, opening_records, Proper, Opens}
use Rattle.opening.proofs.Arms.{claim_trace, claim_opened}
use Rattle.opening.proofs.Counts.{literals_push, clauses_among, literals_among, clause_within, literals_within}
use Rattle.opening.proofs.Orders.{rises_next}
use Rattle.opening.proofs.Loop.{Unopened, here_over, here_goes}

-- records that lead from one view to another
abbrev Leads : Meaning → Room → View → List Record → View → Type 0
Leads m room v [] w = v ≡ w
Leads m room v (r ∷ rs) w = (u : View) × (step m room v r ≡ Ok u) × Leads m room u rs w

module _ (m : Meaning) (room : Room) (w : View) (n : ℕ) where
  literals_lead : (Fs : List (List (List ℕ))) (F : List (List ℕ)) (more c : List ℕ) (rs : List Record) → Rising (c ++ more) → AllByRecursion (OfState m) more →
      literal_count Fs F c + length more ≤ room.literals → Leads m room (framing n Fs F (c ++ more)) rs w → Leads m room (framing n Fs F c) (map Literal more ++ rs) w
  unfolding literal_added
  literals_lead Fs F [] c rs r s h p = subst (λ (x : List ℕ). Leads m room (framing n Fs F x) rs w) (append-nil c) p
  literals_lead Fs F (l ∷ more) c rs r s h p =
      let same : (c ++ l ∷ []) ++ more ≡ c ++ (l ∷ more) = append_assoc c (l ∷ []) more in (
        framing n Fs F (c ++ l ∷ []),
        cond-true (is_next_literal m c l) _ _ (rises_next m c more l r s.0) ∙ cond-true (ltb (literal_count Fs F c) room.literals) _ _ (lt-ltb (literal_count Fs F c) room.literals (omega arith)),
        literals_lead Fs F more (c ++ l ∷ []) rs (subst Rising (sym same) r) s.1 (omega (arith, literals_push Fs F c l))
            (subst (λ (x : List ℕ). Leads m room (framing n Fs F x) rs w) (sym same) p),
      )

  clause_leads : (Fs : List (List (List ℕ))) (F : List (List ℕ)) (c : List ℕ) (rs : List Record) → Rising c → AllByRecursion (OfState m) c → literal_count Fs F c ≤ room.literals →
      clause_count Fs F < room.clauses → stands m Fs c ≡ true → Leads m room (framing n Fs (F ++ c ∷ []) []) rs w → Leads m room (framing n Fs F []) (clause_records c ++ rs) w
  unfolding clause_ended
  clause_leads Fs F c rs r s h k e p =
      subst (λ (x : List Record). Leads m room (framing n Fs F []) x w) (sym (append_assoc (map Literal c) (ClauseEnd ∷ []) rs))
      (literals_lead Fs F c [] (ClauseEnd ∷ rs) r s (omega arith) (
        framing n Fs (F ++ c ∷ []) [],
        cond-true (ltb (clause_count Fs F) room.clauses) _ _ (lt-ltb (clause_count Fs F) room.clauses k) ∙ cond-true (stands m Fs c) _ _ e,
        p,
      ))

  clauses_lead : (Fs : List (List (List ℕ))) (G F : List (List ℕ)) (rs : List Record) → AllByRecursion Rising G → StateClauses m G → literal_count Fs (F ++ G) [] ≤ room.literals →
      clause_count Fs (F ++ G) ≤ room.clauses → AllByRecursion (λ c. stands m Fs c ≡ true) G → Leads m room (framing n Fs (F ++ G) []) rs w →
      Leads m room (framing n Fs F []) (flat_map clause_records G ++ rs) w
  clauses_lead Fs [] F rs r s h k e p = subst (λ (x : List (List ℕ)). Leads m room (framing n Fs x []) rs w) (append-nil F) p
  clauses_lead Fs (c ∷ G) F rs r s h k e p =
      let same : (F ++ c ∷ []) ++ G ≡ F ++ (c ∷ G) = append_assoc F (c ∷ []) G in
      subst (λ (x : List Record). Leads m room (framing n Fs F []) x w) (sym (append_assoc (clause_records c) (flat_map clause_records G) rs))
      (clause_leads Fs F c (flat_map clause_records G ++ rs) r.0 s.0 (omega (arith, literals_within Fs F c G)) (omega (arith, clause_within Fs F c G)) e.0
      (clauses_lead Fs G (F ++ c ∷ []) rs r.1 s.1
      (subst (λ (x : List (List ℕ)). literal_count Fs x [] ≤ room.literals) (sym same) h)
      (subst (λ (x : List (List ℕ)). clause_count Fs x ≤ room.clauses) (sym same) k) e.1
      (subst (λ (x : List (List ℕ)). Leads m room (framing n Fs x []) rs w) (sym same) p)))

-- the clauses of the first frame hold in the start
all_stand : (m : Meaning) (Fs : List (List (List ℕ))) (G : List (List ℕ)) (Gs : List (List (List ℕ))) → In m (get_or (Fs ++ G ∷ Gs) 0 []) m.start → AllByRecursion (λ c. stands m Fs c ≡ true) G
unfolding stands
all_stand m [] G Gs s = all_from_models (state_setting m m.start) G s
all_stand m (F ∷ Fs) G Gs s = each G
  where
    each : (G : List (List ℕ)) → AllByRecursion (λ c. stands m (F ∷ Fs) c ≡ true) G
    each [] = tt
    each (c ∷ G) = (refl, each G)

module _ (m : Meaning) (room : Room) (n : ℕ) where
  -- the frames of a trace from one on, the last of which is frame n
  frames_lead : (G : List (List ℕ)) (Gs Fs : List (List (List ℕ))) → AllByRecursion (AllByRecursion Rising) (G ∷ Gs) → AllByRecursion (StateClauses m) (G ∷ Gs) → length Fs + length (G ∷ Gs) ≡ n + 1 →
      In m (get_or (Fs ++ G ∷ Gs) 0 []) m.start → length (flat (clauses_in (Fs ++ G ∷ Gs))) ≤ room.literals → length (clauses_in (Fs ++ G ∷ Gs)) ≤ room.clauses →
      Leads m room (framing n Fs [] []) (flat_map frame_records (G ∷ Gs)) (opened Trace n (Fs ++ G ∷ Gs))
  unfolding frame_ended
  frames_lead G [] Fs r s z st h k =
      subst (λ (x : List Record). Leads m room (framing n Fs [] []) x (opened Trace n (Fs ++ G ∷ []))) (sym (append-nil (frame_records G)))
      (clauses_lead m room (opened Trace n (Fs ++ G ∷ [])) n Fs G [] (FrameEnd ∷ []) r.0 s.0 (omega (arith, literals_among Fs G [])) (omega (arith, clauses_among Fs G [])) (all_stand m Fs G [] st) (
        opened Trace n (Fs ++ G ∷ []),
        cond-false (ltb (length Fs) n) _ _ (le-ltb (length Fs) n (omega arith)),
        refl,
      ))
  frames_lead G (H ∷ Gs) Fs r s z st h k =
      let same : (Fs ++ G ∷ []) ++ (H ∷ Gs) ≡ Fs ++ (G ∷ H ∷ Gs) = append_assoc Fs (G ∷ []) (H ∷ Gs) in
      subst (λ (x : List Record). Leads m room (framing n Fs [] []) x (opened Trace n (Fs ++ G ∷ H ∷ Gs)))
      (sym (append_assoc (flat_map clause_records G) (FrameEnd ∷ []) (flat_map frame_records (H ∷ Gs))))
      (clauses_lead m room (opened Trace n (Fs ++ G ∷ H ∷ Gs)) n Fs G [] (FrameEnd ∷ flat_map frame_records (H ∷ Gs)) r.0 s.0
      (omega (arith, literals_among Fs G (H ∷ Gs))) (omega (arith, clauses_among Fs G (H ∷ Gs))) (all_stand m Fs G (H ∷ Gs) st) (
        framing n (Fs ++ G ∷ []) [] [],
        cond-true (ltb (length Fs) n) _ _ (lt-ltb (length Fs) n (omega arith)),
        subst (λ (x : List (List (List ℕ))). Leads m room (framing n (Fs ++ G ∷ []) [] []) (flat_map frame_records (H ∷ Gs)) (opened Trace n x)) same
            (frames_lead H Gs (Fs ++ G ∷ []) r.1 s.1 (omega (arith, length-append Fs (G ∷ [])))
            (subst (λ (x : List (List (List ℕ))). In m (get_or x 0 []) m.start) (sym same) st)
            (subst (λ (x : List (List (List ℕ))). length (flat (clauses_in x)) ≤ room.literals) (sym same) h)
            (subst (λ (x : List (List (List ℕ))). length (clauses_in x) ≤ room.clauses) (sym same) k)),
      ))

  leads : (claim : Claim) (Fs : List (List (List ℕ))) → Proper m room claim n Fs → Leads m room opening (opening_records claim n Fs) (opened claim n Fs)
  leads Trace [] p = absurd (omega (arith, p.framed))
  leads Trace (F ∷ Fs) p = (framing n [] [] [], claim_trace n p.some p.few, frames_lead F Fs [] p.rising p.of_state (omega (arith, p.framed)) p.starts p.literals_fit p.clauses_fit)
  leads Induction [] p = (opened Induction n [], claim_opened Induction n (λ e. cc) p.some p.few, refl)
  leads Induction (F ∷ Fs) p = absurd (omega (arith, p.framed))
  leads Counterexample [] p = (opened Counterexample n [], claim_opened Counterexample n (λ e. cc) p.some p.few, refl)
  leads Counterexample (F ∷ Fs) p = absurd (omega (arith, p.framed))

module _ (m : Meaning) (room : Room) where
  err_ok : {u : View} {e : CertificateFault} → ◌≡◌ {A = Result View CertificateFault} (Err e) (Ok u) → ⊥
  err_ok h = let z : ◌≡◌ {A = ℕ} 0 1 = cc in omega arith

  unopened_yet : (v u : View) (r : Record) → step m room v r ≡ Ok u → Unopened v
  unopened_yet opening u r e = tt
  unopened_yet (framing n Fs F c) u r e = tt
  unopened_yet (opened claim n Fs) u (Claim-record k l) e = err_ok e
  unopened_yet (opened claim n Fs) u (Literal l) e = err_ok e
  unopened_yet (opened claim n Fs) u ClauseEnd e = err_ok e
  unopened_yet (opened claim n Fs) u FrameEnd e = err_ok e
  unopened_yet (opened claim n Fs) u (Take k) e = err_ok e
  unopened_yet (opened claim n Fs) u (Resolve l r p) e = err_ok e
  unopened_yet (opened claim n Fs) u RefutationEnd e = err_ok e
  unopened_yet (opened claim n Fs) u (Bit b) e = err_ok e
  unopened_yet (opened claim n Fs) u RowEnd e = err_ok e
  unopened_yet (opened claim n Fs) u End e = err_ok e

  took : (end fuel : ℕ) (rest : List ℕ) (claim : Claim) (n : ℕ) (Fs : List (List (List ℕ))) (rs : List Record) (k : ℕ) (v : View) → length rs ≤ fuel →
      Leads m room v rs (opened claim n Fs) →
      from_here m room end (suc fuel) (encodes rs ++ rest) k v ≡ (Ok (record { claim = claim; size = n; frames = Fs; records = k + length rs }), rest)
  took end fuel rest claim n Fs [] k v h p =
      let e : k ≡ k + 0 = omega arith in
      ap (from_here m room end (suc fuel) rest k) p ∙ here_over m room end fuel rest k claim n Fs
      ∙ ap (λ (i : ℕ). (Ok (record { claim = claim; size = n; frames = Fs; records = i }), rest)) e
  took end zero rest claim n Fs (r ∷ rs) k v h p = absurd (omega arith)
  took end (suc fuel) rest claim n Fs (r ∷ rs) k v h p =
      let e : k + 1 + length rs ≡ k + length (r ∷ rs) = omega arith in
      ap (λ (x : List ℕ). from_here m room end (suc (suc fuel)) x k v) (append_assoc (encode r) (encodes rs) rest)
      ∙ here_goes m room end (suc fuel) (encode r ++ (encodes rs ++ rest)) k v r (encodes rs ++ rest) p.0 (unopened_yet v p.0 r p.1) (reads r (encodes rs ++ rest)) p.1
      ∙ took end fuel rest claim n Fs rs (k + 1) p.0 (omega arith) p.2
      ∙ ap (λ (i : ℕ). (Ok (record { claim = claim; size = n; frames = Fs; records = i }), rest)) e

  enough : (rs : List Record) → length rs ≤ length (encodes rs)
  enough [] = omega arith
  enough (r ∷ rs) = omega (arith, enough rs, longer r (encodes (r ∷ rs)) (encodes rs) refl)

  pub accepts : (at : ℕ) (bytes rest : List ℕ) (k : Contents) → Opens m room bytes rest k → reading m room at bytes ≡ (Ok k, rest)
  accepts at bytes rest k o =
      let rs = opening_records k.claim k.size k.frames in
      let same : 0 + length rs ≡ k.records = omega (arith, o.counted) in
      let fuel : length rs ≤ length bytes = omega (arith, enough rs, ap length o.written, length-append (encodes rs) rest) in
      ap (λ (x : List ℕ). from_here m room (at + length bytes) (suc (length bytes)) x 0 opening) o.written
      ∙ took (at + length bytes) (length bytes) rest k.claim k.size k.frames rs 0 opening fuel (leads m room k.size k.claim k.frames o.proper)
      ∙ ap (λ (i : ℕ). (Ok (record { claim = k.claim; size = k.size; frames = k.frames; records = i }), rest)) same

  -- what is read is the only opening that the bytes begin with
  pub only : (at : ℕ) (bytes left : List ℕ) (answer : Result Contents CertificateRefusal) → reading m room at bytes ≡ (answer, left) →
      (k : Contents) (rest : List ℕ) → Opens m room bytes rest k → (answer ≡ Ok k) × (left ≡ rest)
  only at bytes left answer e k rest o =
      let q = sym e ∙ accepts at bytes rest k o in
      (ap (λ (a : Answer). a.0) q, ap (λ (a : Answer). a.1) q)
