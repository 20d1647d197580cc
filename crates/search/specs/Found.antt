-- What the search answers, the cost of the best plan or none, first by the value that its table comes to, then in terms of plans and costs alone.
use Rattle.std.specs.Prelude.{ℕ, pred, ◌≡◌, Bool, List, Option, Some, None}
use Rattle.laws.specs.Lists.{onto}
use Rattle.assignment.specs.Assignment.{Options, total_cost, Allowed, Best}
use Rattle.assignment.specs.Keys.{digits}
use Rattle.assignment.specs.Values.{Value, none, pair}
use Rattle.assignment.specs.Sets.{table_at}
use Rattle.assignment.specs.Choice.{chosen}
use Rattle.values.specs.Items.{items_of}
use Rattle.search.specs.declared.Shape.{Shape}

-- the least value over all sets that may be kept, on all cores
unfoldable pub found_value : Shape → List ℕ → List Bool → (core_costs core_keys : List ℕ) → Value
found_value shape refusal must core_costs core_keys =
    chosen shape.levels (items_of refusal must shape.items) (table_at shape.items core_costs core_keys) (pred shape.cores)

-- what is answered, and written to the front of the lent plan, where this is the value
abbrev pub Tells : ℕ → Value → (before after : List ℕ) → Option ℕ → Type 0
Tells n none before after found = (found ≡ None) × (after ≡ before)
Tells n (pair cost key) before after found = (found ≡ Some cost) × (after ≡ onto (digits n key) before)

pub record Searched (shape : Shape) (refusal : List ℕ) (must : List Bool) (core_costs core_keys before after : List ℕ) (found : Option ℕ) :
    Type 0 where
  pub told : Tells shape.items (found_value shape refusal must core_costs core_keys) before after found

-- the best plan, at the front of the lent one, and its cost
pub record BestWritten (o : Options) (cost : ℕ) (before after : List ℕ) : Type 0 where
  pub plan : List ℕ
  pub is_best : Best o plan
  pub costs : total_cost o plan ≡ cost
  pub written : after ≡ onto plan before

-- the best plan is found, or there is none
abbrev pub BestFound : Options → (before after : List ℕ) → Option ℕ → Type 0
BestFound o before after (Some least) = BestWritten o least before after
BestFound o before after None = ((plan : List ℕ) → ¬ (Allowed o plan)) × (after ≡ before)
