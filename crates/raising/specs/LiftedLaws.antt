-- Entries that are lifted to a bound of every admitted pattern stay nowhere above the least values.
use Rattle.std.specs.Prelude.{ℕ, ◌+◌, ◌^◌, ◌≤◌, ◌<◌, Bool, List, ◌⊎◌, ◌≡◌, length, get_or}
use Rattle.std.proofs.Math.Logic.{inl, inr}
use Rattle.std.proofs.Common.{ap₂}
use native.Mathlib.Omega.{arith}
use Rattle.assignment.specs.Assignment.{Options}
use Rattle.assignment.specs.CoreTables.{Admitted, pattern_worth, Keyed}
use Rattle.assignment.specs.Keys.{key_base, weight}
use Rattle.assignment.specs.Limits.{most_core_cost}
use Rattle.assignment.specs.SetLaws.{set_number-below, numbered}
use Rattle.assignment.specs.Sets.{set_number, table_at}
use Rattle.assignment.specs.Values.{pair, AtMost, Least}
use Rattle.assignment.specs.Words.{no_cost, value_of, words_pair}
use Rattle.core_tables.specs.AwakeCores.{surplus}
use Rattle.core_tables.specs.SetSizes.{items_in}
use Rattle.partition.specs.Tables.{SmallTable}
use Rattle.lagrangian.specs.LagrangianLaws.{lagrangian_bound}
use Rattle.lagrangian.specs.Lagrangians.{least_priced, Relaxes}
use Rattle.lagrangian.specs.TimedCores.{timed_options}
use Rattle.lagrangian.specs.declared.Lagrangian.{Lagrangian}
use Rattle.raising.specs.LeastKeys.{weight_digits, weight_keyed, weight_first}
use Rattle.set_tables.specs.LiftedTables.{LiftedTo, stays, lifted, LiftReady, LiftedBelow}
use Rattle.raising.specs.RaisedTables.{Raised}
use Rattle.raising.specs.RaisingLaws.{least_real}
use Rattle.raising.specs.TimedSites.{timed_of, core_of, SiteReady, SiteRaised}
use Rattle.raising.specs.declared.Site.{Site}

module _ {o : Options} {whole n : ℕ} {relaxed : Lagrangian} {costs₀ keys₀ costs keys left : List ℕ} (some_level : 1 ≤ o.levels)
    (bound : (S : List Bool) → length S ≡ n → (pattern : List ℕ) → Admitted o S pattern →
    least_priced relaxed.least 0 S ≤ o.core_cost pattern + relaxed.budget)
    (raised : Raised o whole n costs₀ keys₀ left) (above : LiftedBelow n relaxed (2 ^ n) costs₀ keys₀ costs keys) where
  entry : (S : List Bool) → length S ≡ n →
      LiftedTo (least_priced relaxed.least 0 S) (weight S) relaxed.budget (get_or costs₀ (set_number n S) 0) (get_or keys₀ (set_number n S) 0)
      (get_or costs (set_number n S) 0) (get_or keys (set_number n S) 0)
  entry S of_items = above.below S of_items (set_number-below n S)

  -- of numbers instead of sets
  at_number : (P : ℕ → ℕ → ℕ → Type 0) → ((S : List Bool) → length S ≡ n → P (set_number n S) (get_or costs (set_number n S) 0) (get_or keys (set_number n S) 0)) →
      (x : ℕ) → x < 2 ^ n → P x (get_or costs x 0) (get_or keys x 0)
  at_number P all x under = let s = numbered n x under in rw s.number at (all s.set s.of_items)

  small : SmallTable n most_core_cost costs keys
  unfolding key_base
  small =
      record {
        costs_for_all = omega (arith, above.costs_places, raised.small.costs_for_all);
        keys_for_all = omega (arith, above.keys_places, raised.small.keys_for_all);
        cost_bound = at_number (λ x c k. c ≤ no_cost) (λ S of_items. cost_bound (set_number-below n S) (entry S of_items));
        real_bound = at_number (λ x c k. c < no_cost → c ≤ most_core_cost) (λ S of_items. real_bound (set_number-below n S) (entry S of_items));
        key_bound_lem = at_number (λ x c k. k < key_base ^ n) (λ S of_items. key_bound_lem S of_items (entry S of_items));
      }
    where
      cost_bound : {x sum least c k : ℕ} → x < 2 ^ n → LiftedTo sum least relaxed.budget (get_or costs₀ x 0) (get_or keys₀ x 0) c k → c ≤ no_cost
      cost_bound {x} under (stays why cost_same key_same) = omega (arith, raised.small.cost_bound x under)
      cost_bound under (lifted less fits cost key) = omega arith

      real_bound : {x sum least c k : ℕ} → x < 2 ^ n → LiftedTo sum least relaxed.budget (get_or costs₀ x 0) (get_or keys₀ x 0) c k → c < no_cost → c ≤ most_core_cost
      real_bound {x} under (stays why cost_same key_same) real = omega (arith, raised.small.real_bound x under (omega arith))
      real_bound under (lifted less fits cost key) real = omega arith

      key_bound_lem : (S : List Bool) → length S ≡ n → {sum c k : ℕ} →
          LiftedTo sum (weight S) relaxed.budget (get_or costs₀ (set_number n S) 0) (get_or keys₀ (set_number n S) 0) c k → k < key_base ^ n
      key_bound_lem S of_items (stays why cost_same key_same) = rw key_same (raised.small.key_bound_lem (set_number n S) (set_number-below n S))
      key_bound_lem S of_items (lifted less fits cost key) = rw key (weight_digits S of_items)

  -- a value is as it was, or lifted
  abbrev SameOrLifted : List Bool → Type 0
  SameOrLifted S =
      (table_at n costs keys S ≡ table_at n costs₀ keys₀ S)
      ⊎ ((c : ℕ) × (table_at n costs keys S ≡ pair c (weight S)) × (get_or costs₀ (set_number n S) 0 < c) × (c ≤ most_core_cost)
      × (c + relaxed.budget ≡ least_priced relaxed.least 0 S))

  value : (S : List Bool) → length S ≡ n → SameOrLifted S
  unfolding table_at
  value S of_items = go (entry S of_items)
    where
      go : {c₀ k₀ c k : ℕ} → LiftedTo (least_priced relaxed.least 0 S) (weight S) relaxed.budget c₀ k₀ c k →
          (value_of c k ≡ value_of c₀ k₀)
          ⊎ ((d : ℕ) × (value_of c k ≡ pair d (weight S)) × (c₀ < d) × (d ≤ most_core_cost) × (d + relaxed.budget ≡ least_priced relaxed.least 0 S))
      go (stays why cost_same key_same) = inl (ap₂ value_of cost_same key_same)
      go {c = c} (lifted less fits cost key) =
          inr (c, rw key (words_pair c (weight S) (omega arith)), omega arith, omega arith, cost)

  keyed : (S : List Bool) → length S ≡ n → Keyed o.levels S (table_at n costs keys S)
  keyed S of_items = go (value S of_items)
    where
      go : SameOrLifted S → Keyed o.levels S (table_at n costs keys S)
      go (inl same) = rw same (raised.keyed S of_items)
      go (inr (c, new, more, fits, sum)) = rw new (weight_keyed some_level S c)

  lower : (S : List Bool) → length S ≡ n → (pattern : List ℕ) → Admitted o S pattern → AtMost (table_at n costs keys S) (pattern_worth o pattern)
  lower S of_items pattern admitted = go (value S of_items)
    where
      go : SameOrLifted S → AtMost (table_at n costs keys S) (pattern_worth o pattern)
      go (inl same) = rw same (raised.lower S of_items pattern admitted)
      go (inr (c, new, more, fits, sum)) = rw new (weight_first o admitted.keeps (omega (arith, sum, bound S of_items pattern admitted)))

  least_where_settled : (S : List Bool) → length S ≡ n → get_or left (set_number n S) 0 ≡ 0 →
      Least (Admitted o S) (pattern_worth o) (table_at n costs keys S)
  unfolding table_at
  least_where_settled S of_items settled = go (value S of_items)
    where
      before : Least (Admitted o S) (pattern_worth o) (value_of (get_or costs₀ (set_number n S) 0) (get_or keys₀ (set_number n S) 0))
      before = raised.least_where_settled S of_items settled

      go : SameOrLifted S → Least (Admitted o S) (pattern_worth o) (table_at n costs keys S)
      go (inl same) = rw same before
      go (inr (c, new, more, fits, sum)) =
          let (pattern, admitted, costs_so) = least_real (get_or costs₀ (set_number n S) 0) (get_or keys₀ (set_number n S) 0) before (omega arith) in
          absurd (omega (arith, bound S of_items pattern admitted))

  pub lifted_raised : Raised o whole n costs keys left
  lifted_raised =
      record {
        small = small;
        keyed = keyed;
        lower = lower;
        surplus_counted = at_number (λ x c k. c < no_cost → surplus whole (items_in n x) ≤ c) (λ S of_items. counted (set_number-below n S) (entry S of_items));
        tries_for_all = raised.tries_for_all;
        few_tries = raised.few_tries;
        least_where_settled = least_where_settled;
      }
    where
      counted : {x sum least c k : ℕ} → x < 2 ^ n → LiftedTo sum least relaxed.budget (get_or costs₀ x 0) (get_or keys₀ x 0) c k →
          c < no_cost → surplus whole (items_in n x) ≤ c
      counted {x} under (stays why cost_same key_same) real = omega (arith, raised.surplus_counted x under (omega arith))
      counted {x} under (lifted less fits cost key) real = omega (arith, raised.surplus_counted x under (omega arith))

module _ {site : Site} {timings cost : List ℕ} {relaxed : Lagrangian} {costs keys left : List ℕ} (ready : SiteReady site timings cost)
    (relaxes : Relaxes (timed_of site) timings cost relaxed) (raised : SiteRaised site timings cost costs keys left) where
  pub ready_to_lift : LiftReady site.items relaxed costs keys
  ready_to_lift =
      record {
        few_items = ready.limits.items;
        table = raised.small;
        places = relaxes.places;
        low = relaxes.low;
        low_budget = relaxes.budgeted.low_budget;
      }

  pub site_lifted : {costs' keys' : List ℕ} → LiftedBelow site.items relaxed (2 ^ site.items) costs keys costs' keys' →
      SiteRaised site timings cost costs' keys' left
  unfolding core_of timed_options
  site_lifted =
      lifted_raised ready.some_level (λ S of_items pattern admitted. lagrangian_bound ready.timed relaxes S of_items pattern admitted.keeps admitted.admitted)
      raised
