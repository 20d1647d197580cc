-- Plans that keep exactly a set of the items, and what they are worth. A set is a list of flags, one beside each item.
use Rattle.std.specs.Prelude.{ℕ, suc, ◌*◌, ◌<◌, ◌≡◌, Bool, true, false, not, List, [], ◌∷◌, eqb}
use Rattle.assignment.specs.Assignment.{Options, core_pattern, cores_cost, total_cost}
use Rattle.assignment.specs.Keys.{plan_key}
use Rattle.assignment.specs.Values.{Value, pair}

-- the plan keeps exactly the items of the set, with no choice above `most`
pub data Keeps (most : ℕ) : List Bool → List ℕ → Type 0 where
  done : Keeps most [] []
  refused : {S : List Bool} {plan : List ℕ} → Keeps most S plan → Keeps most (false ∷ S) (0 ∷ plan)
  kept : {S : List Bool} {plan : List ℕ} (d : ℕ) → d < most → Keeps most S plan → Keeps most (true ∷ S) (suc d ∷ plan)

-- the items that a plan keeps
unfoldable pub kept_items : List ℕ → List Bool
kept_items [] = []
kept_items (c ∷ plan) = not (eqb c 0) ∷ kept_items plan

-- those that core k runs
unfoldable pub core_set : ℕ → ℕ → List ℕ → List Bool
core_set levels k plan = kept_items (core_pattern levels k plan)

-- on the cores below `cores`, each of which admits what it runs
pub record Runs (o : Options) (cores : ℕ) (S : List Bool) (plan : List ℕ) : Type 0 where
  pub keeps : Keeps (cores * o.levels) S plan
  pub cores_admit : (k : ℕ) → k < cores → o.admits (core_pattern o.levels k plan) ≡ true

-- what these cores cost: a plan's cost without its refusals
unfoldable pub kept_worth : Options → ℕ → List ℕ → Value
kept_worth o cores plan = pair (cores_cost o cores plan) (plan_key plan)

unfoldable pub plan_worth : Options → List ℕ → Value
plan_worth o plan = pair (total_cost o plan) (plan_key plan)
