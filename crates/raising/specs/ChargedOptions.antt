-- Cores that owe the idle energy of a whole span once, from options in which each item of a pattern has counted it.
use Rattle.std.specs.Prelude.{ℕ, ◌+◌, ◌-◌, ◌≤◌, ◌≡◌, refl, Bool, List, length}
use Rattle.std.proofs.Common.{arith}
use Rattle.assignment.specs.Assignment.{Item, Options}
use Rattle.assignment.specs.CoreTables.{Admitted, pattern_worth}
use Rattle.assignment.specs.Keeping.{kept_items}
use Rattle.assignment.specs.KeepingLaws.{kept_items_lem}
use Rattle.assignment.specs.Limits.{most_core_cost}
use Rattle.assignment.specs.Values.{Value, none, pair, AtMost, Least}
use Rattle.assignment.specs.ValueLaws.{none_above}
use Rattle.core_tables.specs.AwakeCores.{size, surplus, take_off}
use Rattle.core_tables.specs.AwakeLaws.{least_less, taken_off}

-- these cores and items, and of a core what `o` says
abbrev pub with_items : (cores : ℕ) → List Item → Options → Options
with_items cores items o =
    record {
      cores = cores;
      levels = o.levels;
      items = items;
      admits = o.admits;
      core_cost = o.core_cost;
    }

-- the same but for costs, each less what its pattern has counted too often
unfoldable pub charged_once : (whole : ℕ) → Options → Options
charged_once whole o =
    record {
      cores = o.cores;
      levels = o.levels;
      items = o.items;
      admits = o.admits;
      core_cost = λ pattern. o.core_cost pattern - surplus whole (size (kept_items pattern));
    }

-- no admitted pattern of n items costs less than that, nor more than a core may
pub record CostsCounted (whole n : ℕ) (o : Options) : Type 0 where
  pub at_least : (T : List Bool) → length T ≡ n → (pattern : List ℕ) → Admitted o T pattern → surplus whole (size T) ≤ o.core_cost pattern
  pub at_most : (T : List Bool) → length T ≡ n → (pattern : List ℕ) → Admitted o T pattern → o.core_cost pattern ≤ most_core_cost

-- entry by entry, the least values and the lower ones stay so

module _ {whole n : ℕ} {o : Options} (counted : CostsCounted whole n o) (cores : ℕ) (items : List Item) (T : List Bool) (of_items : length T ≡ n) where
  once : Options
  once = charged_once whole (with_items cores items o)

  once_admitted : {pattern : List ℕ} → Admitted o T pattern → Admitted once T pattern
  unfolding once charged_once
  once_admitted admitted = record { keeps = admitted.keeps; admitted = admitted.admitted }

  admitted_before : {pattern : List ℕ} → Admitted once T pattern → Admitted o T pattern
  unfolding once charged_once
  admitted_before admitted = record { keeps = admitted.keeps; admitted = admitted.admitted }

  cost_before : {pattern : List ℕ} → Admitted o T pattern → o.core_cost pattern ≡ surplus whole (size T) + once.core_cost pattern
  unfolding once charged_once
  cost_before {pattern} admitted =
      rw (kept_items_lem admitted.keeps) (omega (arith, counted.at_least T of_items pattern admitted))

  pub least_charged : {v : Value} → Least (Admitted o T) (pattern_worth o) v →
      Least (Admitted (charged_once whole (with_items cores items o)) T) (pattern_worth (charged_once whole (with_items cores items o)))
      (take_off (surplus whole (size T)) v)
  unfolding once pattern_worth
  least_charged = least_less (surplus whole (size T)) (λ a. once_admitted) (λ a. admitted_before) (λ a. cost_before)

  pub lower_charged : {v : Value} → ((cost key : ℕ) → v ≡ pair cost key → surplus whole (size T) ≤ cost) →
      ((pattern : List ℕ) → Admitted o T pattern → AtMost v (pattern_worth o pattern)) →
      (pattern : List ℕ) → Admitted (charged_once whole (with_items cores items o)) T pattern →
      AtMost (take_off (surplus whole (size T)) v) (pattern_worth (charged_once whole (with_items cores items o)) pattern)
  unfolding once pattern_worth take_off
  lower_charged {v} enough lower pattern admitted = go v enough (lower pattern before)
    where
      before : Admitted o T pattern
      before = admitted_before admitted

      go : (u : Value) → ((cost key : ℕ) → u ≡ pair cost key → surplus whole (size T) ≤ cost) → AtMost u (pattern_worth o pattern) →
          AtMost (take_off (surplus whole (size T)) u) (pattern_worth once pattern)
      go none enough lower = absurd (none_above lower)
      go (pair cost key) enough lower = taken_off (surplus whole (size T)) _ (enough cost key refl) (cost_before before) lower
