-- The table of one core: for each set of items the least value of running exactly that set.
use Rattle.std.specs.Prelude.{ℕ, ◌≡◌, Bool, true, List, length}
use Rattle.assignment.specs.Assignment.{Options}
use Rattle.assignment.specs.Keys.{plan_key}
use Rattle.assignment.specs.Keeping.{Keeps}
use Rattle.assignment.specs.Values.{Value, none, pair, AtMost, Least}

-- a pattern that a core admits and that keeps exactly the items of the set
pub record Admitted (o : Options) (T : List Bool) (pattern : List ℕ) : Type 0 where
  pub keeps : Keeps o.levels T pattern
  pub admitted : o.admits pattern ≡ true

unfoldable pub pattern_worth : Options → List ℕ → Value
pattern_worth o pattern = pair (o.core_cost pattern) (plan_key pattern)

-- the table holds, for every set, the least value over the admitted patterns that keep exactly that set
pub record CoreTable (o : Options) (table : List Bool → Value) : Type 0 where
  pub least : (T : List Bool) → length T ≡ length o.items → Least (Admitted o T) (pattern_worth o) (table T)

-- none, or a value with the key of a pattern that keeps exactly that set
pub data Keyed (levels : ℕ) (T : List Bool) : Value → Type 0 where
  absent : Keyed levels T none
  present : (cost : ℕ) {pattern : List ℕ} → Keeps levels T pattern → Keyed levels T (pair cost (plan_key pattern))

-- a table that is nowhere above the one of least values
pub record LowerTable (o : Options) (table : List Bool → Value) : Type 0 where
  pub keyed : (T : List Bool) → length T ≡ length o.items → Keyed o.levels T (table T)
  pub lower : (T : List Bool) → length T ≡ length o.items → (pattern : List ℕ) → Admitted o T pattern →
      AtMost (table T) (pattern_worth o pattern)
