-- What a part of a pattern costs at least by a relaxation: the sums as the code takes them, and what they leave out.
use Rattle.std.specs.Prelude.{ℕ, suc, ◌+◌, ◌-◌, ◌*◌, ◌^◌, ◌≤◌, ◌<◌, Bool, true, false, ◌≡◌, refl}
use mathlib.Core.List.{List, [], ◌∷◌, ◌++◌}
use Rattle.std.proofs.Math.Path.{ap}
use Rattle.std.proofs.Common.{◌∙◌, mul-le-mul, suc-mul, add-one, arith}
use Rattle.std.proofs.Math.ListN.{length, get_or}
use Rattle.laws.specs.Sums.{sum}
use Rattle.laws.specs.SumLaws.{sum_cong}
use Rattle.ranges.specs.Limits.{most_period}
use Rattle.assignment.specs.SetLaws.{set_number-below}
use Rattle.assignment.specs.Sets.{set_number}
use Rattle.assignment.specs.Values.{cheaper}
use Rattle.assignment.specs.Words.{no_cost, words_pair}
use Rattle.values.specs.declared.value.Worth.{Worth}
use Rattle.lagrangian.specs.LagrangianLaws.{bound_from}
use Rattle.lagrangian.specs.Lagrangians.{price_of, least_priced, most_price, most_priced, Relaxes}
use Rattle.lagrangian.specs.TimedItems.{timed_core, TimedReady}
use Rattle.lagrangian.specs.Reached.{worth_on}
use Rattle.lagrangian.specs.ReachedPatterns.{reached_pattern}
use Rattle.lagrangian.specs.declared.Lagrangian.{Lagrangian}
use Rattle.lagrangian.specs.declared.Timed.{Timed}
use Rattle.timed_parts.specs.Nodes.{NothingBefore, Stands}
use Rattle.timed_parts.specs.declared.Node.{Node}

pub product_low : {price ticks : ℕ} → price ≤ most_price → ticks ≤ most_period → price * ticks ≤ most_price * most_period
product_low low short = mul-le-mul low short

-- one item more of a sum that is bounded item by item
pub one_more_bounded : (n most a b : ℕ) → a ≤ n * most → b ≤ most → a + b ≤ (n + 1) * most
one_more_bounded n most a b below here =
    let one_more : n + 1 ≡ suc n = omega arith in
    rw (one_more, suc-mul n most) (omega arith)

pub one_more_left : (items item most a b : ℕ) → item < items → a ≤ (items - (item + 1)) * most → b ≤ most → b + a ≤ (items - item) * most
one_more_left items item most a b within below here =
    let one_more : items - item ≡ suc (items - (item + 1)) = omega arith in
    rw (one_more, suc-mul (items - (item + 1)) most) (omega arith)

-- no item left
pub none_left : {items item rest : ℕ} (least : List ℕ) → item ≡ items → (T : List Bool) → item + length T ≡ items → rest ≡ set_number (length T) T →
    ◌≡◌ {A = ℕ} 0 (least_priced least item T)
unfolding least_priced
none_left least end [] all is = refl
none_left least end (f ∷ T) all is = absurd (omega (arith, all))

module _ {items item rest half : ℕ} (least : List ℕ) (is_half : half ≡ 2 ^ (items - item - 1)) where
  -- the item is not in the set
  pub rest_of_passed : {r : ℕ} → item < items → rest < half →
      ((T : List Bool) → item + 1 + length T ≡ items → rest ≡ set_number (length T) T → r ≡ least_priced least (item + 1) T) →
      (T : List Bool) → item + length T ≡ items → rest ≡ set_number (length T) T → r ≡ least_priced least item T
  unfolding least_priced set_number
  rest_of_passed within fewer later [] all is = absurd (omega (arith, all))
  rest_of_passed within fewer later (false ∷ T) all is =
      later T (omega (arith, all)) (omega (arith, is)) ∙ ap (λ (i : ℕ). least_priced least i T) (add-one item)
  rest_of_passed within fewer later (true ∷ T) all is =
      let same : half ≡ 2 ^ length T = is_half ∙ ap (λ (k : ℕ). 2 ^ k) (omega (arith, all)) in
      absurd (omega (arith, is))

  -- the item is in the set
  pub rest_of_taken : {r : ℕ} → item < items → half ≤ rest →
      ((T : List Bool) → item + 1 + length T ≡ items → rest - half ≡ set_number (length T) T → r ≡ least_priced least (item + 1) T) →
      (T : List Bool) → item + length T ≡ items → rest ≡ set_number (length T) T → get_or least item 0 + r ≡ least_priced least item T
  unfolding least_priced set_number
  rest_of_taken within enough later [] all is = absurd (omega (arith, all))
  rest_of_taken within enough later (true ∷ T) all is =
      let same : half ≡ 2 ^ length T = is_half ∙ ap (λ (k : ℕ). 2 ^ k) (omega (arith, all)) in
      ap (λ (k : ℕ). get_or least item 0 + k)
      (later T (omega (arith, all)) (omega (arith, is)) ∙ ap (λ (i : ℕ). least_priced least i T) (add-one item))
  rest_of_taken within enough later (false ∷ T) all is =
      let same : half ≡ 2 ^ length T = is_half ∙ ap (λ (k : ℕ). 2 ^ k) (omega (arith, all)) in
      absurd (omega (arith, is, set_number-below (length T) T))

module _ {timed : Timed} {timings cost q : List ℕ} {T : List Bool} {node : Node} {relaxed : Lagrangian} (ready : TimedReady timed timings cost)
    (relaxes : Relaxes timed timings cost relaxed) (stands : Stands timed timings cost node q T) where
  -- the node's ticks at their prices
  front_priced : sum (λ i. get_or relaxed.prices i 0 * get_or node.ticks i 0) node.item ≡ price_of timed timings relaxed.prices q
  unfolding price_of
  front_priced =
      rw stands.front (sum_cong _ _ node.item (λ i l. ap (λ (t : ℕ). get_or relaxed.prices i 0 * t) (stands.ticks i)))

  -- all of it fits
  pub relaxed_fits : (front later : ℕ) → front ≤ node.item * (most_price * most_period) → later ≤ (timed.items - node.item) * most_priced →
      node.cost + front + later < no_cost
  relaxed_fits front later low_front low_later =
      omega (arith, stands.cheap, stands.behind, ready.timed_items.few_items)

  pub relaxed_not_cheaper : {best : Worth} (front later : ℕ) →
      front ≡ sum (λ (i : ℕ). get_or relaxed.prices i 0 * get_or node.ticks i 0) node.item →
      ((T : List Bool) → node.item + length T ≡ timed.items → node.rest ≡ set_number (length T) T →
      later ≡ least_priced relaxed.least node.item T) →
      best.cost < no_cost → best.cost + relaxed.budget < node.cost + front + later → NothingBefore timed timings cost node q T best
  unfolding worth_on
  relaxed_not_cheaper {best} front later is_front is_later real dear =
      record {
        after = λ u reached.
            let (r, keeps, met, worth) = reached_pattern (timed_core timed timings cost) reached in
            let below = bound_from ready relaxes (omega (arith, stands.front, stands.behind)) reached _ _ worth in
            let rest = is_later T stands.behind stands.rest in
            let below' = rw stands.front at below in
            rw (worth, words_pair best.cost best.key real)
            (cheaper {a = best.cost} {b = (timed_core timed timings cost).cost (q ++ r)} (omega (arith, below', rest, is_front, front_priced, stands.costs)));
      }
