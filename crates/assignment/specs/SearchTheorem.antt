-- The search finds the best plan, and the cheapest way to keep exactly a given set.
use Rattle.std.specs.Prelude.{ℕ, pred, ◌*◌, ◌<◌, ◌≡◌, Bool, List, length}
use Rattle.std.proofs.Common.{refl, sym, ◌∙◌, inl, inr, arith}
use Rattle.assignment.specs.Assignment.{Options, cores_cost, total_cost, Allowed, Before, differs, agrees, NoWorse, Best}
use Rattle.assignment.specs.Values.{Value, none, pair}
use Rattle.assignment.specs.Keys.{key_base, digits}
use Rattle.assignment.specs.Keeping.{Runs, kept_worth, plan_worth}
use Rattle.assignment.specs.KeyLaws.{keeps_in_base, keeps_length}
use Rattle.assignment.specs.CoreTables.{CoreTable}
use Rattle.assignment.specs.Partition.{best}
use Rattle.assignment.specs.Choice.{chosen}
use Rattle.assignment.specs.ChoiceLaws.{all_cores_least, chosen_least}
use Rattle.assignment.specs.AllowedLaws.{allowed_in_base, allowed_length}
use Rattle.assignment.specs.Cheapest.{Answers, least_answers}

-- what a value says of the options: no plan is allowed, or the key's digits are the best plan, of that cost
abbrev pub BestAnswers : Options → Value → Type 0
BestAnswers o none = (plan : List ℕ) → ¬ (Allowed o plan)
BestAnswers o (pair cost key) = Best o (digits (length o.items) key) × (total_cost o (digits (length o.items) key) ≡ cost)

-- The first theorem. Its hypotheses: the table holds, for every set, the least value over the patterns that a core admits and
-- that keep exactly that set; there is a core; and every choice is a digit of a key. Then the value that partition and keeping
-- find tells the best plan of all, ties included, and is none exactly where no plan is allowed.
pub search_finds_best : (o : Options) (table : List Bool → Value) → CoreTable o table → 0 < o.cores →
    o.cores * o.levels < key_base → BestAnswers o (chosen o.levels o.items table (pred o.cores))
unfolding plan_worth
search_finds_best o table core some_core small =
    go (chosen o.levels o.items table (pred o.cores))
    (least_answers (length o.items) (Allowed o) (total_cost o)
    (λ plan allowed. (allowed_in_base allowed small, allowed_length allowed)) _ (chosen_least core some_core))
  where
    go : (v : Value) → Answers (length o.items) (Allowed o) (total_cost o) v → BestAnswers o v
    go none answer = answer
    go (pair cost key) (first, costs) = (record { allowed = first.has; no_worse = first.no_worse }, costs)

-- The same, under the same hypotheses, of the plans that keep exactly the items of a set on all cores: their costs are without
-- refusals.
pub search_finds_set : (o : Options) (table : List Bool → Value) → CoreTable o table → 0 < o.cores →
    o.cores * o.levels < key_base → (S : List Bool) → length S ≡ length o.items →
    Answers (length o.items) (Runs o o.cores S) (cores_cost o o.cores) (best o.levels table (pred o.cores) S)
unfolding kept_worth
search_finds_set o table core some_core small S of_items =
    least_answers (length o.items) (Runs o o.cores S) (cores_cost o o.cores)
    (λ plan runs. (keeps_in_base small runs.keeps, keeps_length runs.keeps ∙ of_items)) _
    (all_cores_least core some_core S of_items)

before_asym_at : {plan other plan' other' : List ℕ} → Before plan other → Before other' plan' → plan ≡ plan' → other ≡ other' → ⊥
before_asym_at (differs {c = c} {d = d} h) (differs {c = c'} {d = d'} k) p o =
    let e : c ≡ d' = cc in
    let f : d ≡ c' = cc in
    omega arith
before_asym_at (differs {c = c} {d = d} h) (agrees {c = c'} k) p o =
    let e : c ≡ c' = cc in
    let f : d ≡ c' = cc in
    omega arith
before_asym_at (agrees {c = c} h) (differs {c = c'} {d = d'} k) p o =
    let e : c ≡ d' = cc in
    let f : c ≡ c' = cc in
    omega arith
before_asym_at (agrees h) (agrees k) p o = before_asym_at h k (cc) (cc)

before_asym : {plan other : List ℕ} → Before plan other → ¬ (Before other plan)
before_asym h k = before_asym_at h k refl refl

-- there is at most one best plan
pub best_unique : (o : Options) {plan other : List ℕ} → Best o plan → Best o other → plan ≡ other
best_unique o {plan} {other} b d = go (b.no_worse other d.allowed) (d.no_worse plan b.allowed)
  where
    go : NoWorse o plan other → NoWorse o other plan → plan ≡ other
    go (inl h) (inl k) = absurd (omega arith)
    go (inl h) (inr (e, k)) = absurd (omega arith)
    go (inr (e, h)) (inl k) = absurd (omega arith)
    go (inr (e, inl h)) (inr k) = h
    go (inr (e, inr h)) (inr (d, inl k)) = sym k
    go (inr (e, inr h)) (inr (d, inr k)) = absurd (before_asym h k)
