-- The least of what is reached.
use Rattle.std.specs.Prelude.{ℕ, Bool, List, ◌⊎◌, ◌≡◌}
use Rattle.assignment.specs.Values.{Value, AtMost}
use Rattle.lagrangian.specs.Reached.{OneCore, Reached, passing}

-- the least of a value that is known and of what is reached by patterns that pass a test; it may be what another pattern reaches
pub record LeastFrom (passes : List ℕ → Bool) (core : OneCore) (q : List ℕ) (T : List Bool) (level : ℕ) (known v : Value) : Type 0 where
  pub no_later : AtMost v known
  pub below : (u : Value) → Reached (passing passes core) q T level u → AtMost v u
  pub attained : (v ≡ known) ⊎ Reached core q T level v
