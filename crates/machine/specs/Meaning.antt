-- What a rule machine means, and the law that every machine keeps.
use Rattle.std.specs.Prelude.{◌≡◌, ℕ, ◌+◌, ◌*◌, ◌<◌, ◌≤◌, Bool, true, false, List, [], ◌∷◌, ◌++◌, map, length, get_or, take, slice_index, slice_index_or}
use Rattle.resolution.specs.Clauses.{literal_true, models, Rising}

-- variable 0 is false, variables 1 to inputs are the inputs, the next are the state bits, the rest are internal
pub record Meaning : Type 0 where
  pub inputs : ℕ
  pub state_bits : ℕ
  pub rules : ℕ
  pub variables : ℕ
  -- the first state
  pub start : List Bool
  -- the next state, by state and inputs
  pub step : List Bool → List Bool → List Bool
  -- whether a rule is broken, by state and inputs
  pub broken : ℕ → List Bool → List Bool → Bool
  pub clauses : List (List ℕ)
  -- the literal that gives each bit of the next state
  pub next : List ℕ
  -- the literal that says that each rule is broken
  pub rule : List ℕ

-- the value of a literal under a row
abbrev pub lit : List Bool → ℕ → Bool
lit w l = literal_true (λ k. get_or w k false) l

-- every clause holds under a row
abbrev pub sat : List Bool → List (List ℕ) → Bool
sat w cs = models (λ k. get_or w k false) cs

-- w is the fit of state s and inputs x: variable 0 is false, inputs and state are these, every clause holds
pub record Fits (m : Meaning) (s x w : List Bool) : Type 0 where
  pub state : length s ≡ m.state_bits
  pub given : length x ≡ m.inputs
  pub size : length w ≡ m.variables
  pub front : take (1 + m.inputs + m.state_bits) w ≡ false ∷ (x ++ s)
  pub holds : sat w m.clauses ≡ true

-- the law of machines
pub record Lawful (m : Meaning) : Type 0 where
  -- the limits
  pub room : 1 + m.inputs + m.state_bits ≤ m.variables
  pub few : m.variables ≤ 16384
  pub rules_some : 1 ≤ m.rules
  pub rules_few : m.rules ≤ 32
  pub clauses_few : length m.clauses ≤ 65535
  pub clause_short : (c : ℕ) → c < length m.clauses → length (slice_index_or m.clauses c []) ≤ 16
  -- a start bit and a next literal for each state bit, a literal for each rule
  pub start_size : length m.start ≡ m.state_bits
  pub next_size : length m.next ≡ m.state_bits
  pub rule_size : length m.rule ≡ m.rules
  -- literals are of the row's variables, and clauses rise
  pub next_low : (i : ℕ) → i < m.state_bits → slice_index m.next i < 2 * m.variables
  pub rule_low : (i : ℕ) → i < m.rules → slice_index m.rule i < 2 * m.variables
  pub clause_low : (c k : ℕ) → c < length m.clauses → k < length (slice_index_or m.clauses c []) → slice_index (slice_index_or m.clauses c []) k < 2 * m.variables
  pub clause_rises : (c : ℕ) → c < length m.clauses → Rising (slice_index_or m.clauses c [])
  -- the clauses make variable 0 false
  pub zero : (w : List Bool) → length w ≡ m.variables → sat w m.clauses ≡ true → slice_index_or w 0 false ≡ false
  -- exactly one fit for every state and inputs
  pub fit : (s x : List Bool) → length s ≡ m.state_bits → length x ≡ m.inputs → (w : List Bool) × Fits m s x w
  pub unique : (s x w w' : List Bool) → Fits m s x w → Fits m s x w' → w ≡ w'
  -- under the fit the next literals give the step, and a rule's literal says whether it is broken
  pub steps : (s x w : List Bool) → Fits m s x w → m.step s x ≡ map (lit w) m.next
  pub breaks : (s x w : List Bool) (o : ℕ) → o < m.rules → Fits m s x w → m.broken o s x ≡ lit w (slice_index m.rule o)
