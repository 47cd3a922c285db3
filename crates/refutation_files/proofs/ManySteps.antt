-- Reading steps one after another.
use Rattle.std.proofs.Common.{◌≡◌, ℕ, ◌+◌, ◌<◌, ◌≤◌, List, [], ◌∷◌, ◌++◌, map, length, Some, None, Option, sym, ap, ◌∙◌, subst, arith}
use Rattle.std.proofs.lemmas.List.{append-nil, map_push, nil_from_length}
use Rattle.certificate.specs.declared.record.Record.{Record}
use Rattle.certificate.specs.declared.record.Record.TheVariants.{RefutationEnd}
use Rattle.certificate.specs.Records.{encode, encodes, Taken}
use Rattle.certificate.proofs.Codes.{longer}
use Rattle.refute.specs.declared.steps.Step.{Step}
use Rattle.refutation_files.specs.declared.proof_file.Ending.{Ending}
use Rattle.refutation_files.specs.declared.proof_file.Ending.TheVariants.{Whole, Cut, More}
use Rattle.refutation_files.specs.ProofFiles.{step_record, EndsAs, ProofOf, NextStep, NextEnding}
use Rattle.refutation_files.proofs.Fronts.{more_records}

-- the steps that have been read, and the record after them, which has been taken too
pub record Stepped (bytes rest : List ℕ) (steps : List Step) (next : Option Record) : Type 0 where
  pub before : List ℕ
  pub read : bytes ≡ encodes (map step_record steps) ++ before
  pub taken : Taken before rest next

pub stepped_none : (bytes after : List ℕ) (steps : List Step) (next : Option Record) → steps ≡ [] → Taken bytes after next → Stepped bytes after steps next
stepped_none bytes after steps next e t = record { before = bytes; read = sym (ap (λ (x : List Step). encodes (map step_record x) ++ bytes) e); taken = t }

-- turns that are left at most
abbrev pub left : List ℕ → Option Record → ℕ
left rest None = length rest
left rest (Some r) = length rest + 1

module _ (bytes rest : List ℕ) (steps : List Step) (next : Option Record) (g : Stepped bytes rest steps next) where
  pub stepped_more : (s : Step) → next ≡ Some (step_record s) → (longer : List Step) → longer ≡ steps ++ s ∷ [] → (after : List ℕ) (more : Option Record) → Taken rest after more → Stepped bytes after longer more
  stepped_more s e longer f after more t =
      let w : g.before ≡ encode (step_record s) ++ rest = (subst (Taken g.before rest) e g.taken).0 in
      record {
        before = rest;
        read = more_records (map step_record steps) (step_record s ∷ []) bytes g.before rest g.read (w ∙ ap (λ (x : List ℕ). x ++ rest) (sym (append-nil (encode (step_record s)))))
            ∙ ap (λ (x : List Record). encodes x ++ rest) (sym (ap (map step_record) f ∙ map_push step_record steps s));
        taken = t;
      }

  -- the record is neither a step nor the end of the refutation
  cut : (n : Option Record) → Taken g.before rest n → ((s : Step) → n ≡ Some (step_record s) → ⊥) → (n ≡ Some RefutationEnd → ⊥) → EndsAs g.before Cut
  cut None t no_step no_end = (λ s after. t.1 (step_record s) after, t.1 RefutationEnd)
  cut (Some r) t no_step no_end = (
    λ s after w. no_step s (ap (λ (x : Record). Some x) (sym (t.1 (step_record s) after w).0)),
    λ after w. no_end (ap (λ (x : Record). Some x) (sym (t.1 RefutationEnd after w).0)),
  )

  ended : next ≡ Some RefutationEnd → g.before ≡ encode RefutationEnd ++ rest
  ended e = (subst (Taken g.before rest) e g.taken).0

  ends : (e : Ending) → NextStep next None → NextEnding next (length rest) e → EndsAs g.before e
  ends Whole n h = ended h.0 ∙ ap (λ (x : List ℕ). encode RefutationEnd ++ x) (nil_from_length rest h.1)
  ends Cut n h = cut next g.taken n h
  ends More n h = by rest h.1 (ended h.0)
    where
      by : (xs : List ℕ) → 1 ≤ length xs → g.before ≡ encode RefutationEnd ++ xs → EndsAs g.before More
      by [] l w = absurd (omega arith)
      by (b ∷ more) l w = (b, more, w)

  pub stepped_whole : (e : Ending) → NextStep next None → NextEnding next (length rest) e → ProofOf bytes steps e
  stepped_whole e n h = (g.before, g.read, ends e n h)

-- a record that is taken leaves fewer bytes
pub left_less : (rest after : List ℕ) (next more : Option Record) (s : Step) → next ≡ Some (step_record s) → Taken rest after more → left after more < left rest next
left_less rest after next more s e t = subst (λ (x : Option Record). left after more < left rest x) (sym e) (by more t)
  where
    by : (more : Option Record) → Taken rest after more → left after more < left rest (Some (step_record s))
    by None t = omega (arith, ap length t.0)
    by (Some r) t = omega (arith, longer r rest after t.0)
