-- Verbs: a line is read by the one that it begins with.
use Rattle.std.proofs.Common.{◌≡◌, ℕ, ◌+◌, ◌*◌, cond, eqb, List, ◌∷◌, ◌++◌, length, get_or, None, codes, sym, refl, ap, ◌∙◌, arith}
use Rattle.std.proofs.lemmas.List.{length-append}
use Rattle.calls.specs.Cuts.{before, after}
use Rattle.calls.specs.declared.call.Verb.{Verb}
use Rattle.calls.specs.declared.call.Verb.TheVariants as verb
use Rattle.calls.specs.declared.call.Call.{Call}
use Rattle.calls.specs.declared.call.Call.TheVariants.{Circuit, Table, Areas, Replay, Question, Refute, HandIn, LookUp, Tally, Strike, Account}
use Rattle.calls.specs.Lines.{verb_text, written, Read}
use Rattle.calls.specs.Arguments.{verb_of, argument, followed, bare_call}
use Rattle.calls.proofs.CutAt.{uncut}
use Rattle.calls.proofs.Words.{no_answer, whole_lacks, front_most, rejoined}

-- a call as a line begins with its verb
front_written : (call : Call) → before 32 (written call) ≡ verb_text (verb_of call)
front_written (Circuit file) = refl
front_written (Table file) = refl
front_written (Areas l) = refl
front_written (Replay rule file) = refl
front_written (Question rule file number) = refl
front_written (Refute clauses proof) = refl
front_written (HandIn rule file) = refl
front_written (LookUp rule) = refl
front_written Tally = refl
front_written (Strike rule) = refl
front_written Account = refl

-- the verb does not stand alone
abbrev pub Followed : Verb → Type 0
Followed v = bare_call v ≡ None

-- a call whose verb does not stand alone is the verb, a space and the rest
written_followed : (call : Call) → Followed (verb_of call) → written call ≡ followed (verb_of call) (argument call)
written_followed (Circuit file) f = refl
written_followed (Table file) f = refl
written_followed (Areas l) f = refl
written_followed (Replay rule file) f = refl
written_followed (Question rule file number) f = refl
written_followed (Refute clauses proof) f = refl
written_followed (HandIn rule file) f = refl
written_followed (LookUp rule) f = refl
written_followed Tally f = absurd (no_answer refl f)
written_followed (Strike rule) f = refl
written_followed Account f = absurd (no_answer refl f)

-- verbs are told apart by their first and third byte
abbrev key : List ℕ → ℕ
key xs = get_or xs 0 0 * 256 + get_or xs 2 0

verb_at : ℕ → Verb
verb_at k =
    cond (eqb k (key (codes "circuit"))) verb.Circuit
    (cond (eqb k (key (codes "table"))) verb.Table
    (cond (eqb k (key (codes "areas"))) verb.Areas
    (cond (eqb k (key (codes "replay"))) verb.Replay
    (cond (eqb k (key (codes "question"))) verb.Question
    (cond (eqb k (key (codes "refute"))) verb.Refute
    (cond (eqb k (key (codes "hand"))) verb.Hand
    (cond (eqb k (key (codes "look"))) verb.Look
    (cond (eqb k (key (codes "tally"))) verb.Tally
    (cond (eqb k (key (codes "strike"))) verb.Strike verb.Account)))))))))

verb_back : (v : Verb) → verb_at (key (verb_text v)) ≡ v
unfolding verb_at
verb_back verb.Circuit = refl
verb_back verb.Table = refl
verb_back verb.Areas = refl
verb_back verb.Replay = refl
verb_back verb.Question = refl
verb_back verb.Refute = refl
verb_back verb.Hand = refl
verb_back verb.Look = refl
verb_back verb.Tally = refl
verb_back verb.Strike = refl
verb_back verb.Account = refl

-- a call as a line that begins with a verb has that verb
same_verb : (line : List ℕ) (v : Verb) (call : Call) → before 32 line ≡ verb_text v → line ≡ written call → verb_of call ≡ v
same_verb line v call w e =
    let texts : verb_text (verb_of call) ≡ verb_text v = sym (front_written call) ∙ ap (before 32) (sym e) ∙ w in
    sym (verb_back (verb_of call)) ∙ ap (λ (xs : List ℕ). verb_at (key xs)) texts ∙ verb_back v

-- a line whose first word is no verb is no call
pub no_verb : (line : List ℕ) → ((v : Verb) → before 32 line ≡ verb_text v → ⊥) → Read line None
no_verb line none call p e = none (verb_of call) (ap (before 32) e ∙ front_written call)

-- a line that is longer than its verb is the verb, a space and the rest
pub longer_line : (line rest : List ℕ) (v : Verb) → before 32 line ≡ verb_text v → rest ≡ after 32 line → (length (before 32 line) ≡ length line → ⊥) → followed v rest ≡ line
longer_line line rest v w r h =
    ap (followed v) r ∙ ap (λ (word : List ℕ). word ++ (32 ∷ after 32 line)) (sym w) ∙ sym (rejoined 32 line (omega (arith, front_most 32 line)))

-- a word that is the whole line
pub whole_line : (line : List ℕ) → length (before 32 line) ≡ length line → before 32 line ≡ line
whole_line line e = (uncut 32 line (whole_lacks 32 line (omega arith))).0

-- a verb alone is no call where it does not stand alone
unfollowed : (line : List ℕ) (v : Verb) → Followed v → before 32 line ≡ verb_text v → line ≡ verb_text v → Read line None
unfollowed line v f w e call p q =
    let same : verb_of call ≡ v = same_verb line v call w q in
    let long : verb_text v ≡ followed v (argument call) =
    sym e ∙ q ∙ written_followed call (ap bare_call same ∙ f) ∙ ap (λ (u : Verb). followed u (argument call)) same in
    omega (arith, ap length long, length-append (verb_text v) (32 ∷ argument call))

-- a line that is a verb is read as the call of the verb alone
pub read_bare : (line : List ℕ) (v : Verb) → before 32 line ≡ verb_text v → line ≡ verb_text v → Read line (bare_call v)
read_bare line verb.Circuit w e = unfollowed line verb.Circuit refl w e
read_bare line verb.Table w e = unfollowed line verb.Table refl w e
read_bare line verb.Areas w e = unfollowed line verb.Areas refl w e
read_bare line verb.Replay w e = unfollowed line verb.Replay refl w e
read_bare line verb.Question w e = unfollowed line verb.Question refl w e
read_bare line verb.Refute w e = unfollowed line verb.Refute refl w e
read_bare line verb.Hand w e = unfollowed line verb.Hand refl w e
read_bare line verb.Look w e = unfollowed line verb.Look refl w e
read_bare line verb.Tally w e = (tt, e)
read_bare line verb.Strike w e = unfollowed line verb.Strike refl w e
read_bare line verb.Account w e = (tt, e)
