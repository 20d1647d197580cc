-- What is reached from the front of a pattern: the values of the admitted patterns that go on from there, one for each item that is
-- still open. A core is any `admits` and any cost of a pattern.
use Rattle.std.specs.Prelude.{◌≡◌, ℕ, suc, ◌<◌, ◌≤◌, Bool, true, false, ◌&&◌, List, [], ◌∷◌, ◌++◌}
use Rattle.assignment.specs.Keys.{plan_key}
use Rattle.assignment.specs.Values.{Value, pair}

-- what one core may run, with so many levels, and what it costs
pub record OneCore : Type 0 where
  pub levels : ℕ
  pub admits : List ℕ → Bool
  pub cost : List ℕ → ℕ

unfoldable pub worth_on : OneCore → List ℕ → Value
worth_on core pattern = pair (core.cost pattern) (plan_key pattern)

-- the core that admits only those of a core's patterns that pass a further test
abbrev pub passing : (List ℕ → Bool) → OneCore → OneCore
passing passes core = record { levels = core.levels; admits = λ pattern. core.admits pattern && passes pattern; cost = core.cost }

-- from the front q, with the flags T of the items after it, the first of them from a level on
pub data Reached (core : OneCore) : (q : List ℕ) → (T : List Bool) → (level : ℕ) → Value → Type 0 where
  whole : {q : List ℕ} {level : ℕ} → core.admits q ≡ true → Reached core q [] level (worth_on core q)
  passed : {q : List ℕ} {T : List Bool} {level : ℕ} {v : Value} → Reached core (q ++ (0 ∷ [])) T 0 v → Reached core q (false ∷ T) level v
  runs : {q : List ℕ} {T : List Bool} {level : ℕ} {v : Value} (l : ℕ) → level ≤ l → l < core.levels →
      Reached core (q ++ (suc l ∷ [])) T 0 v → Reached core q (true ∷ T) level v
