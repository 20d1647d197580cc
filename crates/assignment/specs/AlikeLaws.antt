-- Options that differ only in patterns that no core runs, and in the costs of patterns that none admits, have the same least
-- values, allowed plans, costs and best plan.
use Prim.Native.Nat.{ℕ, ◌+◌}
use Rattle.std.specs.Prelude.{Bool, ◌≡◌, length}
use mathlib.Core.List.{List}
use Rattle.std.proofs.Common.{inl, inr, sym, ◌∙◌}
use Rattle.std.proofs.Math.Path.{ap, ap₂}
use Rattle.assignment.specs.Assignment.{Item, Options, cores_cost, refused_cost, total_cost, Allowed, Best}
use Rattle.assignment.specs.Values.{Value, none, pair, AtMost, Attained}
use Rattle.assignment.specs.Keeping.{Keeps}
use Rattle.assignment.specs.CoreTables.{Admitted, pattern_worth, CoreTable}
use Rattle.assignment.specs.PartitionLaws.{cores_cost_same}
use Rattle.assignment.specs.AllowedLaws.{core_admitted, core_set_of_items}
use Rattle.assignment.specs.SearchTheorem.{BestAnswers}

pub record Alike (o o' : Options) : Type 0 where
  pub same_cores : o.cores ≡ o'.cores
  pub same_levels : o.levels ≡ o'.levels
  pub same_items : o.items ≡ o'.items
  -- cores admit the same of the patterns that keep a set
  pub same_admits : (T : List Bool) → length T ≡ length o.items → (pattern : List ℕ) → Keeps o.levels T pattern →
      o.admits pattern ≡ o'.admits pattern
  pub same_cost : (T : List Bool) → length T ≡ length o.items → (pattern : List ℕ) → Admitted o T pattern →
      o.core_cost pattern ≡ o'.core_cost pattern

module _ {o o' : Options} (alike : Alike o o') where
  admitted_alike : (T : List Bool) → length T ≡ length o.items → {pattern : List ℕ} → Admitted o T pattern → Admitted o' T pattern
  admitted_alike T of_items {pattern} admitted =
      record {
        keeps = rw (← alike.same_levels) admitted.keeps;
        admitted = sym (alike.same_admits T of_items pattern admitted.keeps) ∙ admitted.admitted;
      }

  admitted_back : (T : List Bool) → length T ≡ length o.items → {pattern : List ℕ} → Admitted o' T pattern → Admitted o T pattern
  admitted_back T of_items {pattern} admitted =
      let keeps = rw (← alike.same_levels) at admitted.keeps in
      record { keeps = keeps; admitted = alike.same_admits T of_items pattern keeps ∙ admitted.admitted }

  pub alike_sym : Alike o' o
  alike_sym =
      record {
        same_cores = sym alike.same_cores;
        same_levels = sym alike.same_levels;
        same_items = sym alike.same_items;
        same_admits = λ T of_items pattern keeps.
            sym (alike.same_admits T (rw alike.same_items of_items) pattern (rw alike.same_levels keeps));
        same_cost = λ T of_items pattern admitted.
            let here : length T ≡ length o.items = rw alike.same_items of_items in
            sym (alike.same_cost T here pattern (admitted_back T here admitted));
      }

  pattern_worth_alike : (T : List Bool) → length T ≡ length o.items → {pattern : List ℕ} → Admitted o T pattern →
      pattern_worth o pattern ≡ pattern_worth o' pattern
  unfolding pattern_worth
  pattern_worth_alike T of_items {pattern} admitted = rw (alike.same_cost T of_items pattern admitted)

  pub core_table_alike : {table : List Bool → Value} → CoreTable o table → CoreTable o' table
  core_table_alike {table} core =
      record {
        least = λ T of_items.
            let here : length T ≡ length o.items = rw alike.same_items of_items in
            record { below = below T here; attained = attained T here (core.least T here).attained };
      }
    where
      below : (T : List Bool) → length T ≡ length o.items → (pattern : List ℕ) → Admitted o' T pattern →
          AtMost (table T) (pattern_worth o' pattern)
      below T here pattern admitted =
          let back = admitted_back T here admitted in
          rw (pattern_worth_alike T here back) at ((core.least T here).below pattern back)

      attained : (T : List Bool) → length T ≡ length o.items → {v : Value} → Attained (Admitted o T) (pattern_worth o) v →
          Attained (Admitted o' T) (pattern_worth o') v
      attained T here (inl e) = inl e
      attained T here (inr (pattern, admitted, e)) =
          inr (pattern, admitted_alike T here admitted, e ∙ pattern_worth_alike T here admitted)

module _ {o o' : Options} (alike : Alike o o') {plan : List ℕ} (allowed : Allowed o plan) where
  pub allowed_alike : Allowed o' plan
  allowed_alike =
      record {
        choices = rw (← alike.same_cores, ← alike.same_levels, ← alike.same_items) allowed.choices;
        cores_admit = λ k h.
            let here = rw (← alike.same_cores) at h in
            rw alike.same_levels at
            (admitted_alike alike _ (core_set_of_items allowed k) (core_admitted allowed k here)).admitted;
      }

  pub cost_alike : total_cost o plan ≡ total_cost o' plan
  unfolding total_cost
  cost_alike =
      let cores =
      cores_cost_same o o' o.cores plan plan
      (λ k h.
      rw (← alike.same_levels) (alike.same_cost _ (core_set_of_items allowed k) _ (core_admitted allowed k h))) in
      ap₂ ◌+◌ (cores ∙ ap (λ (k : ℕ). cores_cost o' k plan) alike.same_cores)
      (ap (λ (items : List Item). refused_cost items plan) alike.same_items)

pub best_alike : {o o' : Options} → Alike o o' → {plan : List ℕ} → Best o plan → Best o' plan
best_alike alike best =
    record {
      allowed = allowed_alike alike best.allowed;
      no_worse = λ other rival.
          let same = allowed_alike (alike_sym alike) rival in
          rw (cost_alike alike best.allowed, cost_alike alike same) at (best.no_worse other same);
    }

pub answers_alike : {o o' : Options} → Alike o o' → (v : Value) → BestAnswers o v → BestAnswers o' v
answers_alike alike none nothing = λ plan allowed. nothing plan (allowed_alike (alike_sym alike) allowed)
answers_alike alike (pair cost key) (best, costs) =
    let same_length = ap (λ (items : List Item). length items) alike.same_items in
    rw (← same_length) (best_alike alike best, sym (cost_alike alike best.allowed) ∙ costs)
