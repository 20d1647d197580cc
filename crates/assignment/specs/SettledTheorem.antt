-- A table that is nowhere above the least values finds the best plan already where its entries for the found plan are exact.
use Rattle.std.specs.Prelude.{ℕ, pred, ◌*◌, ◌<◌, refl, Bool, true, false, List, eqb, length}
use Rattle.std.proofs.Math.Path.{◌≡◌, ap₂}
use Rattle.std.proofs.Common.{sym, ap, ◌∙◌, inl, inr, arith, eqb-true, eq-eqb}
use Rattle.std.proofs.Math.Nat.{mul-le-mul_right}
use Rattle.assignment.specs.Assignment.{Options, core_pattern, total_cost, Allowed}
use Rattle.assignment.specs.Values.{Value, none, pair, AtMost, to_none, Attained}
use Rattle.assignment.specs.ValueLaws.{at_most-refl, at_most-antisym}
use Rattle.assignment.specs.Keys.{key_base, plan_key, digits}
use Rattle.assignment.specs.Keeping.{Keeps, kept_items, core_set, plan_worth}
use Rattle.assignment.specs.KeyLaws.{keeps_in_base, keeps_length, digits_key}
use Rattle.assignment.specs.KeepingLaws.{kept_items_lem}
use Rattle.assignment.specs.CoreTables.{Admitted, pattern_worth, CoreTable, Keyed, absent, present, LowerTable}
use Rattle.assignment.specs.PartitionLaws.{cores_cost_same}
use Rattle.assignment.specs.Choice.{chosen}
use Rattle.assignment.specs.ChoiceLaws.{chosen_least, chosen_mono}
use Rattle.assignment.specs.AllowedLaws.{allowed_in_base, allowed_length, core_set_of_items, core_admitted}

-- Every keyed table is exact for some cores: those that run, of each set, only the pattern that the table's key stands for, at
-- the table's cost.

has_key : ℕ → Value → Bool
has_key key none = false
has_key key (pair c k) = eqb k key

cost_of : Value → ℕ
cost_of none = 0
cost_of (pair c k) = c

abbrev keyed_options : Options → (List Bool → Value) → Options
keyed_options o table =
    record {
      cores = o.cores;
      levels = o.levels;
      items = o.items;
      admits = λ pattern. has_key (plan_key pattern) (table (kept_items pattern));
      core_cost = λ pattern. cost_of (table (kept_items pattern));
    }

has_key_lem : (key : ℕ) (v : Value) → has_key key v ≡ true → v ≡ pair (cost_of v) key
unfolding has_key cost_of
has_key_lem key none e = let z : ◌≡◌ {A = ℕ} 0 1 = cc in absurd (omega arith)
has_key_lem key (pair c k) e = ap (pair c) (eqb-true k key e)

keyed_exact : (o : Options) {table : List Bool → Value} →
    ((T : List Bool) → length T ≡ length o.items → Keyed o.levels T (table T)) → CoreTable (keyed_options o table) table
unfolding pattern_worth has_key cost_of
keyed_exact o {table} keyed =
    record {
      least = λ T of_items. record { below = below T; attained = attained T (keyed T of_items) refl };
    }
  where
    below : (T : List Bool) (pattern : List ℕ) → Admitted (keyed_options o table) T pattern →
        AtMost (table T) (pattern_worth (keyed_options o table) pattern)
    below T pattern admitted =
        let this = kept_items_lem admitted.keeps in
        let has : has_key (plan_key pattern) (table T) ≡ true = rw this at admitted.admitted in
        rw this (rw (← has_key_lem (plan_key pattern) (table T) has) (at_most-refl (table T)))

    attained : (T : List Bool) {v : Value} → Keyed o.levels T v → table T ≡ v →
        Attained (Admitted (keyed_options o table) T) (pattern_worth (keyed_options o table)) v
    attained T absent e = inl refl
    attained T (present cost {pattern} keeps) e =
        inr (
          pattern,
          record { keeps = keeps; admitted = rw (kept_items_lem keeps, e) (eq-eqb (plan_key pattern) (plan_key pattern) refl) },
          rw (kept_items_lem keeps, e),
        )

-- one pattern of a set for a key
same_pattern : {levels : ℕ} {T : List Bool} {pattern other : List ℕ} → levels < key_base → Keeps levels T pattern →
    Keeps levels T other → plan_key pattern ≡ plan_key other → pattern ≡ other
same_pattern small keeps keeps_other same =
    sym (digits_key (keeps_in_base small keeps))
    ∙ ap₂ digits (keeps_length keeps ∙ sym (keeps_length keeps_other)) same
    ∙ digits_key (keeps_in_base small keeps_other)

module _ {o : Options} {exact table : List Bool → Value} (core : CoreTable o exact) (lower : LowerTable o table) where
  table_below : (T : List Bool) → length T ≡ length o.items → AtMost (table T) (exact T)
  table_below T of_items = go (core.least T of_items).attained
    where
      go : {v : Value} → Attained (Admitted o T) (pattern_worth o) v → AtMost (table T) v
      go (inl e) = rw e to_none
      go (inr (pattern, admitted, e)) = rw e (lower.lower T of_items pattern admitted)

  -- where no plan is found there is none
  pub chosen_none : (c : ℕ) → chosen o.levels o.items table c ≡ none → chosen o.levels o.items exact c ≡ none
  chosen_none c found = at_most-antisym to_none (rw found at (chosen_mono o.levels o.items table_below c))

  -- an exact entry's key stands for a pattern that the core admits, at the entry's cost
  exact_pattern : {T : List Bool} {pattern : List ℕ} {cost : ℕ} → o.levels < key_base → length T ≡ length o.items →
      Keeps o.levels T pattern → exact T ≡ pair cost (plan_key pattern) →
      (o.admits pattern ≡ true) × (o.core_cost pattern ≡ cost)
  unfolding pattern_worth
  exact_pattern {T} {pattern} {cost} small of_items keeps entry = go (core.least T of_items).attained
    where
      go : Attained (Admitted o T) (pattern_worth o) (exact T) → (o.admits pattern ≡ true) × (o.core_cost pattern ≡ cost)
      go (inl e) = let z : ◌≡◌ {A = ℕ} 0 1 = cc in absurd (omega arith)
      go (inr (other, admitted, e)) =
          let keys : plan_key pattern ≡ plan_key other = cc in
          let costs : o.core_cost other ≡ cost = cc in
          let same = same_pattern small keeps admitted.keeps keys in
          rw same (admitted.admitted, costs)

  module _ (some_core : 0 < o.cores) (small : o.cores * o.levels < key_base) where
    -- what the cores of a found plan run, where its entries are exact
    core_settled : {plan : List ℕ} → Allowed (keyed_options o table) plan → (k : ℕ) → k < o.cores →
        table (core_set o.levels k plan) ≡ exact (core_set o.levels k plan) →
        (o.admits (core_pattern o.levels k plan) ≡ true)
        × (o.core_cost (core_pattern o.levels k plan) ≡ cost_of (table (core_set o.levels k plan)))
    unfolding core_set
    core_settled {plan} allowed k h settled =
        let entry = core_admitted allowed k h in
        exact_pattern (omega (arith, mul-le-mul_right o.levels some_core)) (core_set_of_items allowed k) entry.keeps
        (sym settled ∙ has_key_lem _ _ entry.admitted)

    plan_settled : {plan : List ℕ} → Allowed (keyed_options o table) plan →
        ((k : ℕ) → k < o.cores → table (core_set o.levels k plan) ≡ exact (core_set o.levels k plan)) →
        Allowed o plan × (total_cost o plan ≡ total_cost (keyed_options o table) plan)
    unfolding total_cost core_set
    plan_settled {plan} allowed settled =
        let costs =
        cores_cost_same o (keyed_options o table) o.cores plan plan (λ k h. (core_settled allowed k h (settled k h)).1) in
        (record { choices = allowed.choices; cores_admit = λ k h. (core_settled allowed k h (settled k h)).0 }, rw costs)

    -- The second theorem. Its hypotheses: `exact` holds the least values of every set, as in the first; `table` is nowhere
    -- above it, and each of its entries is none or has the key of a pattern that keeps exactly its set; there is a core; every
    -- choice is a digit; the value found from `table` tells a plan; and for the set that each core runs of that plan, the two
    -- tables agree. Then the same value is found from `exact`, so the plan is the best.
    pub chosen_settled : {cost key : ℕ} → chosen o.levels o.items table (pred o.cores) ≡ pair cost key →
        ((k : ℕ) → k < o.cores →
        let S = core_set o.levels k (digits (length o.items) key) in
        table S ≡ exact S) →
        chosen o.levels o.items exact (pred o.cores) ≡ pair cost key
    unfolding plan_worth
    chosen_settled {cost} {key} found settled = go (chosen_least (keyed_exact o lower.keyed) some_core).attained
      where
        go : Attained (Allowed (keyed_options o table)) (plan_worth (keyed_options o table)) (chosen o.levels o.items table (pred o.cores)) →
            chosen o.levels o.items exact (pred o.cores) ≡ pair cost key
        go (inl e) = let z : ◌≡◌ {A = ℕ} 0 1 = cc in absurd (omega arith)
        go (inr (plan, allowed, e)) =
            let keys : plan_key plan ≡ key = cc in
            let costs : total_cost (keyed_options o table) plan ≡ cost = cc in
            let this : digits (length o.items) key ≡ plan =
            rw (← keys, ← allowed_length allowed) (digits_key (allowed_in_base allowed small)) in
            let (allowed_too, same) = plan_settled allowed (λ k h. rw this at (settled k h)) in
            let worth : plan_worth o plan ≡ pair cost key = ap₂ pair (same ∙ costs) keys in
            at_most-antisym (rw worth at ((chosen_least core some_core).below plan allowed_too))
            (rw found at (chosen_mono o.levels o.items table_below (pred o.cores)))
