-- Where the cores admit the first cheapest choice of every item together, these are the best plan.
use Prim.Native.Nat.{ℕ, zero, suc, ◌+◌, ◌*◌, ◌/◌, ◌%◌, ◌≤◌, ◌<◌}
use Rattle.std.specs.Prelude.{◌≡◌, ◌⊎◌, true, cond, eqb}
use Rattle.std.proofs.Math.Path.{refl, ap₂}
use Rattle.std.proofs.Common.{sym, ap, ◌∙◌, div-add-mod', div-lt_iff_lt-mul, mul-le-mul_right, zero-mul, zero-add, add-zero, arith}
use Rattle.std.proofs.Math.Logic.{inl, inr}
use mathlib.Core.List.{List, ◌∷◌}
use Rattle.std.proofs.Math.Nat.{div-eq_of_lt, mod-le, mod-lt}
use Rattle.std.proofs.Math.Dec.{eqb-suc-zero}
use Rattle.laws.specs.Below.{lt_or_le}
use Rattle.laws.specs.Sums.{sum}
use Rattle.laws.specs.SumLaws.{sum_zero, sum_add}
use Rattle.laws.specs.SumOrderLaws.{sum_of_one_term}
use Rattle.laws.specs.Truth.{false_not_true, not_true_is_false}
use Rattle.assignment.specs.Assignment.{
  Item,
  Options,
  on_core,
  core_pattern,
  cores_cost,
  refused_cost,
  total_cost,
  ChoiceAllowed,
  ChoicesAllowed,
  Before,
  differs,
  agrees,
  Best,
}
use Rattle.assignment.specs.KeepingLaws.{refused_runs, level_runs, other_runs, some_level}
use Rattle.knapsack.specs.Offers.{Offer, entry_load, entry_cost, pattern_load, pattern_cost}
use Rattle.light.specs.CheapestChoices.{LowChoice, refusing, keeping, CheapestChoices, none, more, OfLoads}

-- a low choice has core 0 run its level, and no other core run anything

low_runs : {levels : ℕ} (c : ℕ) → c ≤ levels → on_core levels 0 c ≡ c
low_runs {levels} zero low = refused_runs levels 0
low_runs {levels} (suc l) low = level_runs levels 0 l low (rw (zero-mul, zero-add))

low_runs_nothing : {levels : ℕ} (c : ℕ) → c ≤ levels → (k : ℕ) → 0 < k → on_core levels k c ≡ 0
low_runs_nothing {levels} zero low k above = refused_runs levels k
low_runs_nothing {levels} (suc l) low k above =
    other_runs levels k l (λ same. let on_first : l / levels ≡ 0 = div-eq_of_lt low in omega arith)

module _ {levels capacity : ℕ} where
  pub pattern_on_core_0 : {offers : List Offer} {items : List Item} {plan : List ℕ} →
      CheapestChoices levels capacity offers items plan → core_pattern levels 0 plan ≡ plan
  unfolding core_pattern
  pattern_on_core_0 none = refl
  pattern_on_core_0 (more {c = c} w v here rest) = ap₂ ◌∷◌ (low_runs c here.low) (pattern_on_core_0 rest)

  pub no_load_elsewhere : {offers : List Offer} {items : List Item} {plan : List ℕ} →
      CheapestChoices levels capacity offers items plan → (k : ℕ) → 0 < k → pattern_load offers (core_pattern levels k plan) ≡ 0
  unfolding core_pattern pattern_load entry_load
  no_load_elsewhere none k above = refl
  no_load_elsewhere (more {c = c} w v here rest) k above = rw (low_runs_nothing c here.low k above, zero-add) (no_load_elsewhere rest k above)

  no_cost_elsewhere : {offers : List Offer} {items : List Item} {plan : List ℕ} →
      CheapestChoices levels capacity offers items plan → (k : ℕ) → 0 < k → pattern_cost offers (core_pattern levels k plan) ≡ 0
  unfolding core_pattern pattern_cost entry_cost
  no_cost_elsewhere none k above = refl
  no_cost_elsewhere (more {c = c} w v here rest) k above = rw (low_runs_nothing c here.low k above, zero-add) (no_cost_elsewhere rest k above)

  choices_allowed : (cores : ℕ) → 0 < cores → {offers : List Offer} {items : List Item} {plan : List ℕ} →
      CheapestChoices levels capacity offers items plan → ChoicesAllowed (cores * levels) items plan
  choices_allowed cores some none = ChoicesAllowed.none
  choices_allowed cores some (more {c = c} w v here rest) =
      ChoicesAllowed.more {c = c}
      record { in_range = omega (arith, here.low, mul-le-mul_right levels some); kept = kept here.is_choice }
      (choices_allowed cores some rest)
    where
      kept : {offer : Offer} {item : Item} {c w v : ℕ} → LowChoice offer item c w v → item.must ≡ true → c ≡ 0 → ⊥
      kept (refusing free) must e = false_not_true free must
      kept (keeping l) must e = omega arith

cores_cost_lem : (o : Options) {capacity : ℕ} {offers : List Offer} → OfLoads o capacity offers → (cores : ℕ) (plan : List ℕ) →
    cores_cost o cores plan ≡ sum (λ k. pattern_cost offers (core_pattern o.levels k plan)) cores
unfolding cores_cost sum
cores_cost_lem o loads zero plan = refl
cores_cost_lem o loads (suc k) plan = ap₂ ◌+◌ (cores_cost_lem o loads k plan) (loads.costs _)

pub cheapest_choices_cost : (o : Options) {capacity : ℕ} {offers : List Offer} {plan : List ℕ} → OfLoads o capacity offers →
    0 < o.cores → CheapestChoices o.levels capacity offers o.items plan →
    total_cost o plan ≡ pattern_cost offers plan + refused_cost o.items plan
unfolding total_cost
cheapest_choices_cost o {offers = offers} {plan} loads some cheapest =
    let on_this_core : ℕ → ℕ = λ k. pattern_cost offers (core_pattern o.levels k plan) in
    let only = sum_of_one_term on_this_core o.cores 0 some (λ k under other. no_cost_elsewhere cheapest k (omega arith)) in
    ap (λ (n : ℕ). n + refused_cost o.items plan)
    (cores_cost_lem o loads o.cores plan ∙ only ∙ ap (pattern_cost offers) (pattern_on_core_0 cheapest))

-- A choice on any core, put on core 0: no larger, and as dear.
record Lowered (levels capacity : ℕ) (offer : Offer) (item : Item) (d spent : ℕ) : Type 0 where
  choice : ℕ
  load : ℕ
  cost : ℕ
  low : choice ≤ levels
  is_choice : LowChoice offer item choice load cost
  fits : load ≤ capacity
  no_larger : choice ≤ d
  as_dear : spent + cond (eqb d 0) item.refusal 0 ≡ cost

module _ {cores levels capacity : ℕ} {offer : Offer} {item : Item} where
  lowered : (d : ℕ) → ChoiceAllowed (cores * levels) item d →
      ((k : ℕ) → k < cores → entry_load offer (on_core levels k d) ≤ capacity) →
      Lowered levels capacity offer item d (sum (λ k. entry_cost offer (on_core levels k d)) cores)
  unfolding entry_cost entry_load
  lowered zero allowed fits =
      let nothing = sum_zero (λ k. entry_cost offer (on_core levels k 0)) cores (λ k under. rw (refused_runs levels k)) in
      record {
        choice = 0;
        load = 0;
        cost = item.refusal;
        low = omega arith;
        is_choice = refusing (not_true_is_false item.must (λ must. allowed.kept must refl));
        fits = omega arith;
        no_larger = omega arith;
        as_dear = omega (arith, nothing);
      }
  lowered (suc d) allowed fits =
      let some = some_level cores levels allowed.in_range in
      let level = mod-lt d some in
      let core = (div-lt_iff_lt-mul some).1 allowed.in_range in
      let runs = level_runs levels (d / levels) d level (sym (div-add-mod' d levels)) in
      let on_this_core : ℕ → ℕ = λ k. entry_cost offer (on_core levels k (suc d)) in
      let only = sum_of_one_term on_this_core cores (d / levels) core (λ k under other. rw (other_runs levels k d (λ same. other (sym same)))) in
      record {
        choice = suc (d % levels);
        load = offer.load (d % levels);
        cost = offer.cost (d % levels);
        low = level;
        is_choice = keeping (d % levels);
        fits = rw runs at (fits (d / levels) core);
        no_larger = omega (arith, mod-le d levels);
        as_dear = rw (eqb-suc-zero, add-zero) (only ∙ rw runs);
      }

-- the load and the cost of a low choice are those of its entry in core 0's pattern, or of refusing

pub low_load : {offer : Offer} {item : Item} {c w v : ℕ} → LowChoice offer item c w v → entry_load offer c ≡ w
unfolding entry_load
low_load (refusing free) = refl
low_load (keeping l) = refl

pub low_cost : {offer : Offer} {item : Item} {c w v : ℕ} → LowChoice offer item c w v →
    entry_cost offer c + cond (eqb c 0) item.refusal 0 ≡ v
unfolding entry_cost
low_cost (refusing free) = zero-add _
low_cost (keeping l) = rw (eqb-suc-zero, add-zero)

-- the first choice and the rest of two plans, in order
in_order : {c d : ℕ} {plan other : List ℕ} {a b x y p q : ℕ} → (a < b) ⊎ ((a ≡ b) × (c ≤ d)) →
    (x < y) ⊎ ((x ≡ y) × ((plan ≡ other) ⊎ Before plan other)) → p ≡ a + x → q ≡ b + y →
    (p < q) ⊎ ((p ≡ q) × ((c ∷ plan ≡ d ∷ other) ⊎ Before (c ∷ plan) (d ∷ other)))
in_order (inl less) (inl tail) sum_p sum_q = inl (omega arith)
in_order (inl less) (inr (same, tail)) sum_p sum_q = inl (omega arith)
in_order (inr (same, le)) (inl tail) sum_p sum_q = inl (omega arith)
in_order {c} {d} {plan} {other} (inr (same, le)) (inr (tail_same, tail)) sum_p sum_q = inr (omega arith, go (lt_or_le c d) tail)
  where
    go : (c < d) ⊎ (d ≤ c) → (plan ≡ other) ⊎ Before plan other → (c ∷ plan ≡ d ∷ other) ⊎ Before (c ∷ plan) (d ∷ other)
    go (inl less) tail = inr (differs less)
    go (inr ge) (inl e) = let equal : c ≡ d = omega arith in inl (rw (equal, e))
    go (inr ge) (inr before) = let equal : c ≡ d = omega arith in inr (rw equal (agrees before))

module _ (cores : ℕ) {levels capacity : ℕ} where
  -- item by item, no other plan chooses better
  no_better : {offers : List Offer} {items : List Item} {plan other : List ℕ} →
      CheapestChoices levels capacity offers items plan → ChoicesAllowed (cores * levels) items other →
      ((k : ℕ) → k < cores → pattern_load offers (core_pattern levels k other) ≤ capacity) →
      (pattern_cost offers plan + refused_cost items plan
      < sum (λ k. pattern_cost offers (core_pattern levels k other)) cores + refused_cost items other)
      ⊎ ((pattern_cost offers plan + refused_cost items plan
      ≡ sum (λ k. pattern_cost offers (core_pattern levels k other)) cores + refused_cost items other)
      × ((plan ≡ other) ⊎ Before plan other))
  unfolding pattern_load pattern_cost core_pattern refused_cost
  no_better none ChoicesAllowed.none fits = inr (omega (arith, sum_zero (λ k. 0) cores (λ k under. refl)), inl refl)
  no_better (more {offer} {offers} {item} {items} {c} {plan} w v here rest) (ChoicesAllowed.more {c = d} {plan = other} allowed others) fits =
      let low = lowered {cores = cores} {levels = levels} {capacity = capacity} {offer = offer} {item = item} d allowed (λ k h. omega (arith, fits k h)) in
      let parts = sum_add (λ k. entry_cost offer (on_core levels k d)) (λ k. pattern_cost offers (core_pattern levels k other)) cores in
      in_order
      (first (here.comes_first _ _ _ low.low low.is_choice low.fits) low.no_larger)
      (no_better rest others (λ k h. omega (arith, fits k h)))
      (omega (arith, low_cost here.is_choice))
      (omega (arith, parts, low.as_dear))
    where
      first : {a b e : ℕ} → (a < b) ⊎ ((a ≡ b) × (c ≤ e)) → e ≤ d → (a < b) ⊎ ((a ≡ b) × (c ≤ d))
      first (inl less) le = inl less
      first (inr (same, before)) le = inr (same, omega arith)

-- No item has a cheaper choice, nor a smaller one at that cost; and nothing runs on any core but core 0.
pub cheapest_choices_are_best : (o : Options) {capacity : ℕ} {offers : List Offer} {plan : List ℕ} → OfLoads o capacity offers →
    0 < o.cores → CheapestChoices o.levels capacity offers o.items plan →
    ((k : ℕ) → k < o.cores → o.admits (core_pattern o.levels k plan) ≡ true) → Best o plan
unfolding total_cost
cheapest_choices_are_best o {offers = offers} {plan} loads some cheapest admitted =
    record {
      allowed = record { choices = choices_allowed o.cores some cheapest; cores_admit = admitted };
      no_worse = λ other allowed.
          rw (cheapest_choices_cost o loads some cheapest, cores_cost_lem o loads o.cores other)
          (no_better o.cores cheapest allowed.choices (λ k h. loads.within _ (allowed.cores_admit k h)));
    }
