-- What filling a branch of the sets asks for, and what it does.
use Rattle.std.specs.Prelude.{ℕ, suc, ◌+◌, ◌*◌, ◌-◌, ◌^◌, ◌≤◌, ◌<◌, ◌≡◌, List, length}
use Rattle.knapsack_tables.specs.FilledTables.{Filled}
use Rattle.choice_lists.specs.Listed.{Falling, FrontListed}
use Rattle.assignment.specs.Limits.{most_items}
use Rattle.knapsack.specs.Offered.{offer_at, Affordable}
use Rattle.assignment.specs.Keys.{key_base}
use Rattle.knapsack.specs.KnapsackWords.{KnapsackHeld, knapsack_of}
use Rattle.knapsack_tables.specs.declared.filling.Branch.{Branch}
use Rattle.knapsack.specs.declared.relaxing.Choice.{Choice}
use Rattle.knapsack.specs.declared.relaxing.Front.{Front}

-- with the next item settled
abbrev pub settled : Branch → ℕ → Branch
settled branch index =
    record {
      core = branch.core;
      listed = branch.listed;
      ahead = branch.ahead - 1;
      places = suc branch.places;
      bit = branch.bit * 2;
      digit = branch.digit * key_base;
      index = index;
    }

abbrev pub without_next : Branch → Branch
without_next branch = settled branch branch.index

abbrev pub with_next : Branch → Branch
with_next branch = settled branch (branch.index + branch.bit)

-- the item that is settled next
abbrev pub next_item : Branch → Front
next_item branch = record { core = branch.core; item = branch.ahead - 1; places = branch.places; digit = branch.digit }

-- there is one, and what settling it makes fits 64 bits
pub record NextFits (branch : Branch) : Type 0 where
  pub some_ahead : 0 < branch.ahead
  pub places_fit : branch.places + 1 < 2 ^ 64
  pub bit_fits : branch.bit * 2 < 2 ^ 64
  pub digit_fits : branch.digit * key_base < 2 ^ 64
  pub index_fits : branch.index + branch.bit < 2 ^ 64

pub record BranchFits (branch : Branch) (load cost : List ℕ) (points : List Choice) (starts knapsack_costs knapsack_keys costs keys : List ℕ) : Type 0 where
  pub items_limited : branch.ahead + branch.places ≤ most_items
  pub affordable : Affordable branch.ahead branch.core.levels branch.core.capacity load cost
  pub bit_is : branch.bit ≡ 2 ^ branch.places
  pub digit_is : branch.digit ≡ key_base ^ branch.places
  pub index_below : branch.index < branch.bit
  pub knapsack_held : KnapsackHeld branch.places branch.core.capacity knapsack_costs knapsack_keys
  pub knapsack_falls : Falling branch.core.capacity (knapsack_of knapsack_costs knapsack_keys)
  pub listed_ahead : branch.listed ≤ branch.ahead
  pub front_listed :
      FrontListed branch.core load cost branch.listed (branch.ahead + branch.places - branch.listed) points starts
  pub costs_for_all : 2 ^ (branch.ahead + branch.places) ≤ length costs
  pub keys_for_all : 2 ^ (branch.ahead + branch.places) ≤ length keys

-- the entries of the branch's sets hold their knapsacks, the others what they held
abbrev pub BranchFilled : Branch → (load cost knapsack_costs knapsack_keys costs₀ keys₀ costs keys : List ℕ) → Type 0
BranchFilled branch load cost knapsack_costs knapsack_keys =
    Filled branch.core.levels branch.core.capacity (offer_at load cost) branch.ahead branch.places branch.bit branch.index
    (knapsack_of knapsack_costs knapsack_keys)
