-- What a cost and a key tell of the best plan.
use Rattle.std.specs.Prelude.{ℕ, ◌^◌, ◌<◌, ◌≡◌}
use Rattle.assignment.specs.Assignment.{Options, total_cost, Best}
use Rattle.assignment.specs.Keys.{key_base, digits}
use Rattle.values.specs.declared.value.Worth.{Worth}

-- the key of the best plan of n items, and its cost
pub record BestKey (o : Options) (n : ℕ) (worth : Worth) : Type 0 where
  pub is_best : Best o (digits n worth.key)
  pub costs : total_cost o (digits n worth.key) ≡ worth.cost
  pub key_below : worth.key < key_base ^ n
