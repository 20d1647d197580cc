-- The picks of one item more, and that the picks of all items are the best plan.
use Rattle.std.specs.Prelude.{ℕ, suc, ◌+◌, ◌*◌, ◌^◌, ◌≤◌, ◌<◌, ◌≡◌, refl, ◌⊎◌, Bool, true, cond, List, [], ◌∷◌, ◌++◌, eqb, length, Some}
use Rattle.std.proofs.Common.{ap, ◌∙◌, inl, inr, mul_assoc, pow-suc, length-append}
use Rattle.std.proofs.Math.Nat.{pow-zero}
use Rattle.std.proofs.Math.Numerals.{add-one}
use native.Mathlib.Omega.{arith}
use borrow.Author.Tests.{le-leb, leb-true}
use Rattle.laws.specs.Below.{lt_or_le}
use Rattle.laws.specs.JoinedLaws.{length-list_of}
use Rattle.laws.specs.Lists.{list_of}
use Rattle.assignment.specs.Assignment.{Item, core_pattern, refused_cost}
use Rattle.assignment.specs.KeyLaws.{InBase, nothing, digit, key_below, digits_key}
use Rattle.assignment.specs.Keys.{key_base, plan_key, digits}
use Rattle.assignment.specs.Limits.{most_levels, most_cost}
use Rattle.knapsack.specs.Offers.{Offer, entry_load, entry_cost, pattern_load, pattern_cost, load_options}
use Rattle.knapsack.specs.Offered.{offer_at, offers_of}
use Rattle.values.specs.BestKeys.{BestKey}
use Rattle.values.specs.Items.{item_at, items_of}
use Rattle.values.specs.declared.value.Worth.{Worth}
use Rattle.light.specs.CheapestChoices.{LowChoice, refusing, keeping, CheapestChoice, CheapestChoices, none, more, OfLoads}
use Rattle.light.specs.CheapestChoiceLaws.{low_cost, low_load, pattern_on_core_0, no_load_elsewhere, cheapest_choices_cost, cheapest_choices_are_best}
use Rattle.light.specs.Light.{OfferFits, LightBelow}
use Rattle.light.specs.Picks.{PickedBelow}
use Rattle.light.specs.declared.picks.Pick.{Pick}

-- One choice more at the end of a plan.
record Longer (levels capacity : ℕ) (offers : List Offer) (items : List Item) (plan : List ℕ) (offer : Offer) (item : Item) (c : ℕ) :
    Type 0 where
  cheapest : CheapestChoices levels capacity (offers ++ (offer ∷ [])) (items ++ (item ∷ [])) (plan ++ (c ∷ []))
  load : pattern_load (offers ++ (offer ∷ [])) (plan ++ (c ∷ [])) ≡ pattern_load offers plan + entry_load offer c
  cost : pattern_cost (offers ++ (offer ∷ [])) (plan ++ (c ∷ [])) ≡ pattern_cost offers plan + entry_cost offer c
  refusals : refused_cost (items ++ (item ∷ [])) (plan ++ (c ∷ [])) ≡ refused_cost items plan + cond (eqb c 0) item.refusal 0
  key : plan_key (plan ++ (c ∷ [])) ≡ plan_key plan * key_base + c

longer : {levels capacity : ℕ} {offers : List Offer} {items : List Item} {plan : List ℕ} {offer : Offer} {item : Item} {c w v : ℕ} →
    CheapestChoices levels capacity offers items plan → CheapestChoice levels capacity offer item c w v →
    Longer levels capacity offers items plan offer item c
unfolding pattern_load pattern_cost refused_cost plan_key key_base
longer none last =
    record {
      cheapest = more _ _ last none;
      load = omega arith;
      cost = omega arith;
      refusals = omega arith;
      key = omega (arith, pow-zero 33);
    }
longer {c = c} (more {plan = plan} w v here rest) last =
    let tail = longer rest last in
    record {
      cheapest = more w v here tail.cheapest;
      load = omega (arith, tail.load);
      cost = omega (arith, tail.cost);
      refusals = omega (arith, tail.refusals);
      key =
          let weight : 33 ^ length (plan ++ (c ∷ [])) ≡ 33 ^ length plan * 33 = rw (length-append, add-one, pow-suc) in
          rw (weight, ← mul_assoc) (omega (arith, tail.key));
    }

module _ {levels capacity : ℕ} where
  in_base : {offers : List Offer} {items : List Item} {plan : List ℕ} → levels ≤ most_levels →
      CheapestChoices levels capacity offers items plan → InBase plan
  unfolding key_base
  in_base few none = nothing
  in_base few (more {c = c} w v here rest) = digit c (omega (arith, here.low)) (in_base few rest)

  plan_length : {offers : List Offer} {items : List Item} {plan : List ℕ} → CheapestChoices levels capacity offers items plan →
      length plan ≡ length items
  plan_length none = refl
  plan_length (more w v here rest) = ap suc (plan_length rest)

  -- cores that take load alone admit the choices, where core 0 takes them together
  admitted_together : (cores : ℕ) {offers : List Offer} {items : List Item} {plan : List ℕ} →
      CheapestChoices levels capacity offers items plan → pattern_load offers plan ≤ capacity →
      (k : ℕ) → k < cores → (load_options cores levels capacity offers items).admits (core_pattern levels k plan) ≡ true
  unfolding load_options
  admitted_together cores {offers} {items} {plan} cheapest takes k under = le-leb _ capacity (go (lt_or_le 0 k))
    where
      go : (0 < k) ⊎ (k ≤ 0) → pattern_load offers (core_pattern levels k plan) ≤ capacity
      go (inl above) = omega (arith, no_load_elsewhere cheapest k above)
      go (inr low) = let first : k ≡ 0 = omega arith in rw (first, pattern_on_core_0 cheapest) takes

of_loads : (cores levels capacity : ℕ) (offers : List Offer) (items : List Item) →
    OfLoads (load_options cores levels capacity offers items) capacity offers
unfolding load_options
of_loads cores levels capacity offers items =
    record { costs = λ pattern. refl; within = λ pattern. leb-true (pattern_load offers pattern) capacity }

pub no_items : (levels capacity : ℕ) (load cost refusal : List ℕ) (must : List Bool) →
    LightBelow levels capacity load cost refusal must 0 0 0 0
unfolding list_of offers_of items_of pattern_load pattern_cost refused_cost plan_key
no_items levels capacity load cost refusal must =
    record {
      plan = [];
      cheapest = none;
      load_is = refl;
      cost_is = refl;
      key_is = refl;
      used_low = omega arith;
      total_low = omega arith;
    }

module _ {n levels capacity : ℕ} {load cost refusal : List ℕ} {must : List Bool}
    (fit : OfferFits n levels capacity load cost refusal must) where
  picked_cost : {i c w v : ℕ} → i < n → c ≤ levels → w ≤ capacity → LowChoice (offer_at load cost i) (item_at refusal must i) c w v →
      v ≤ most_cost
  unfolding offer_at item_at
  picked_cost {i} item low fits (refusing free) = fit.refusals_limited i item
  picked_cost {i} item low fits (keeping l) = fit.affordable.cheap i item l low fits

  module _ {i used total key : ℕ} (before : LightBelow levels capacity load cost refusal must i used total key) where
    plan_in_base : InBase before.plan
    plan_in_base = in_base fit.affordable.levels_limited before.cheapest

    plan_counted : length before.plan ≡ i
    unfolding items_of
    plan_counted = plan_length before.cheapest ∙ length-list_of (item_at refusal must) i

    pub key_low : key < key_base ^ i
    key_low = rw (before.key_is, plan_counted) at (key_below plan_in_base)

    -- the pick of item i beside those before it
    pub one_more_item : {pick : Pick} → i < n → PickedBelow capacity (offer_at load cost i) (item_at refusal must i) levels (Some pick) →
        used + pick.load ≤ capacity →
        LightBelow levels capacity load cost refusal must (i + 1) (used + pick.load) (total + pick.cost) (key * 33 + pick.choice)
    unfolding list_of offers_of items_of key_base
    one_more_item {pick} next last room =
        let all = longer before.cheapest last in
        rw add-one
        (record {
          plan = before.plan ++ (pick.choice ∷ []);
          cheapest = all.cheapest;
          load_is = omega (arith, all.load, before.load_is, low_load last.is_choice);
          cost_is = omega (arith, all.cost, all.refusals, before.cost_is, low_cost last.is_choice);
          key_is = all.key ∙ rw before.key_is;
          used_low = room;
          total_low = omega (arith, before.total_low, picked_cost next last.low last.fits last.is_choice);
        })

  -- all items
  pub light_is_best : {used : ℕ} {worth : Worth} → LightBelow levels capacity load cost refusal must n used worth.cost worth.key →
      (cores : ℕ) → 0 < cores →
      BestKey (load_options cores levels capacity (offers_of load cost n) (items_of refusal must n)) n worth
  unfolding load_options
  light_is_best {used} {worth} all cores some =
      let o = load_options cores levels capacity (offers_of load cost n) (items_of refusal must n) in
      let loads = of_loads cores levels capacity (offers_of load cost n) (items_of refusal must n) in
      let admitted = admitted_together cores all.cheapest (omega (arith, all.load_is, all.used_low)) in
      let is_plan : digits n worth.key ≡ all.plan = rw (all.key_is, plan_counted all) at (digits_key (plan_in_base all)) in
      record {
        is_best = rw is_plan (cheapest_choices_are_best o loads some all.cheapest admitted);
        costs = rw is_plan (cheapest_choices_cost o loads some all.cheapest ∙ all.cost_is);
        key_below = key_low all;
      }
