-- A branch of the sets whose items ahead are all listed: each set's knapsack is read from its list.
use Rattle.std.specs.Prelude.{ℕ, suc, ◌+◌, ◌*◌, ◌-◌, ◌^◌, ◌<◌, ◌≡◌, List, length, get_or, set}
use Rattle.std.proofs.Common.{sym, ap, ◌∙◌, zero-add, suc-mul, mul-le-mul_right, arith, pow-add}
use Rattle.knapsack_tables.specs.Branches.{BranchFits}
use Rattle.choice_lists.specs.Listed.{part, Listed}
use Rattle.choice_lists.specs.PointLaws.{listed_part}
use Rattle.knapsack.specs.Offered.{offer_at}
use Rattle.knapsack.specs.declared.relaxing.Choice.{Choice}
use Rattle.knapsack_tables.specs.FilledTables.{Holds, FilledTo, one_more_filled}
use Rattle.knapsack.specs.FrontKnapsacks.{knapsack_before-items}
use Rattle.knapsack_tables.specs.ListReads.{ListRead}
use Rattle.knapsack.specs.KnapsackSteps.{knapsack_before}
use Rattle.knapsack.specs.KnapsackWords.{knapsack_of}
use Rattle.assignment.specs.Values.{Value}
use Rattle.knapsack_tables.specs.declared.filling.Branch.{Branch}
use Rattle.values.specs.declared.value.Worth.{Worth}

-- the knapsack of set number k of the items ahead, before another knapsack
abbrev pub ahead_knapsack : Branch → (load cost : List ℕ) (k : ℕ) → (ℕ → Value) → ℕ → Value
ahead_knapsack branch load cost k =
    knapsack_before branch.core.levels (λ i. offer_at load cost (0 + i)) branch.ahead branch.places k

-- the entries of the first n sets hold their knapsacks
abbrev pub ReadFirst : Branch → (load cost knapsack_costs knapsack_keys costs₀ keys₀ : List ℕ) (n : ℕ) (costs keys : List ℕ) → Type 0
ReadFirst branch load cost knapsack_costs knapsack_keys costs₀ keys₀ n costs keys =
    FilledTo branch.core.levels branch.core.capacity (offer_at load cost) n branch.ahead branch.places branch.bit
    branch.index (knapsack_of knapsack_costs knapsack_keys) costs₀ keys₀ costs keys

module _ {branch : Branch} {load cost : List ℕ} {points : List Choice} {starts knapsack_costs knapsack_keys costs₀ keys₀ : List ℕ}
    (fits : BranchFits branch load cost points starts knapsack_costs knapsack_keys costs₀ keys₀) {k : ℕ} (there : k < 2 ^ branch.ahead) where
  -- the place of set number k
  pub place_below : k * branch.bit + branch.index < 2 ^ (branch.ahead + branch.places)
  place_below =
      let all = pow-add 2 branch.ahead branch.places ∙ ap (λ (b : ℕ). 2 ^ branch.ahead * b) (sym fits.bit_is) in
      omega (arith, all, fits.index_below, suc-mul k branch.bit, mul-le-mul_right branch.bit there)

  module _ (all_listed : branch.ahead ≡ branch.listed) where
    -- the list of set number k
    list_there : Listed branch.core.capacity branch.ahead branch.places (ahead_knapsack branch load cost k) points
        (get_or starts k 0) (get_or starts (suc k) 0)
    list_there =
        let behind : branch.ahead + branch.places - branch.ahead ≡ branch.places = omega arith in
        rw behind at ((rw (← all_listed) at fits.front_listed).each k there)

    abbrev pub set_list : List Choice
    set_list = part points (get_or starts k 0) (get_or starts (suc k) 0)

    pub list_read : ListRead branch.core.capacity 0 (length set_list) set_list knapsack_costs knapsack_keys branch.ahead branch.places
        (ahead_knapsack branch load cost k)
    list_read =
        record {
          items_limited = fits.items_limited;
          listed = listed_part list_there;
          knapsack_held = fits.knapsack_held;
          knapsack_falls = fits.knapsack_falls;
        }

    -- the knapsack of one set more
    pub one_more_read : {costs keys : List ℕ} {worth : Worth} → length costs ≡ length costs₀ → length keys ≡ length keys₀ →
        ReadFirst branch load cost knapsack_costs knapsack_keys costs₀ keys₀ k costs keys →
        ((n places : ℕ) (f : (ℕ → Value) → ℕ → Value) →
        ListRead branch.core.capacity 0 (length set_list) set_list knapsack_costs knapsack_keys n places f →
        Holds (n + places) (f (knapsack_of knapsack_costs knapsack_keys) branch.core.capacity) worth.cost worth.key) →
        ReadFirst branch load cost knapsack_costs knapsack_keys costs₀ keys₀ (suc k)
        (set costs (k * branch.bit + branch.index) worth.cost) (set keys (k * branch.bit + branch.index) worth.key)
    one_more_read same_costs same_keys sofar least =
        let place = place_below in
        let held = least _ _ _ list_read in
        one_more_filled branch.core.levels branch.core.capacity (offer_at load cost) (omega (arith, fits.index_below))
        (omega (arith, fits.costs_for_all)) (omega (arith, fits.keys_for_all)) sofar
        record {
          is =
              held.is
              ∙ ap (λ (f : ℕ → Value). f branch.core.capacity)
              (knapsack_before-items branch.core.levels _ _ branch.ahead branch.places k
              (knapsack_of knapsack_costs knapsack_keys) (λ i h. rw zero-add));
          small = held.small;
        }
