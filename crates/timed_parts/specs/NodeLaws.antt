-- The steps of the search: which node stands for which front of a pattern.
use Rattle.std.specs.Prelude.{ℕ, suc, ◌+◌, ◌*◌, ◌^◌, ◌≤◌, ◌<◌, Bool, true, false, List, [], ◌∷◌, ◌++◌, ◌⊎◌, ◌≢◌, ◌≡◌, refl, eqb, get_or, set, replicate}
use Rattle.std.proofs.Common.{inl, inr, ◌∙◌, suc-mul, arith, eqb-true}
use Rattle.std.proofs.Math.Path.{sym, ap}
use Rattle.std.proofs.Math.Nat.{pow-zero}
use Rattle.std.proofs.Math.ListN.{length, length-append, length-set}
use Rattle.std.proofs.Math.Seq.{get_or-set_same, get_or-set_other}
use Rattle.std.proofs.lemmas.Bool.{eqb-false}
use Rattle.ranges.specs.Limits.{most_period}
use Rattle.assignment.specs.KeyLaws.{InBase}
use Rattle.assignment.specs.Keys.{key_base, plan_key}
use Rattle.assignment.specs.Limits.{most_cost, most_items}
use Rattle.assignment.specs.Sets.{set_number}
use Rattle.knapsack.specs.Offered.{entry_of}
use Rattle.lagrangian.specs.TimedItems.{TimedReady}
use Rattle.lagrangian.specs.PatternLaws.{cost_of_none, cost_of_run, key_of_next, one_digit_more, entry_of_none, entry_elsewhere, timing_of_lem, entry_there, no_entry, no_front_no_cost}
use Rattle.lagrangian.specs.TimedCores.{timing_at, timing_in, timings_of, entry_ticks}
use Rattle.lagrangian.specs.declared.Timed.{Timed}
use Rattle.lagrangian.specs.FrontKeyLaws.{key_fits, key_grows}
use Rattle.timed_parts.specs.Nodes.{Stands, SmallNode, passed_over, run_at, next_level, at_level}
use Rattle.timed_parts.specs.declared.Node.{Node}

module _ {timed : Timed} {timings cost : List ℕ} {node : Node} {q : List ℕ} {T : List Bool}
    (ready : TimedReady timed timings cost) (stands : Stands timed timings cost node q T) where
  pub item_below : node.item ≢ timed.items → node.item < timed.items
  item_below more = omega (arith, stands.behind)

  pub small_node : node.item ≢ timed.items → SmallNode node
  small_node more =
      record {
        item = omega (arith, ready.timed_items.few_items, item_below more);
        level = omega (arith, stands.level, ready.timed_items.few_levels);
        cost = stands.cheap;
        key = stands.key_below;
        places = stands.places;
      }

  pub stands_next : node.level ≢ timed.levels → Stands timed timings cost (next_level node) q T
  stands_next more =
      record {
        front = stands.front;
        behind = stands.behind;
        level = omega (arith, stands.level);
        rest = stands.rest;
        costs = stands.costs;
        key = stands.key;
        ticks = stands.ticks;
        cheap = stands.cheap;
        key_below = stands.key_below;
        places = stands.places;
        short = stands.short;
        choices = stands.choices;
      }

  pub stands_at_level : (level : ℕ) → level ≤ timed.levels → Stands timed timings cost (at_level node level) q T
  stands_at_level level few =
      record {
        front = stands.front;
        behind = stands.behind;
        level = few;
        rest = stands.rest;
        costs = stands.costs;
        key = stands.key;
        ticks = stands.ticks;
        cheap = stands.cheap;
        key_below = stands.key_below;
        places = stands.places;
        short = stands.short;
        choices = stands.choices;
      }

pub next_key_fits : {node : Node} → SmallNode node → (c : ℕ) → c < key_base → node.key * key_base + c < 2 ^ 64
next_key_fits {node} small c digit = key_fits node.key c node.item small.key small.item digit

cost_grows : (item costs its : ℕ) → costs ≤ item * most_cost → its ≤ most_cost → costs + its ≤ (item + 1) * most_cost
cost_grows item costs its so_far here =
    let one_more : item + 1 ≡ suc item = omega arith in
    rw (one_more, suc-mul item most_cost) (omega arith)

module _ {timed : Timed} {timings cost : List ℕ} {node : Node} {q : List ℕ} {T : List Bool} where
  pub stands_passed : Stands timed timings cost node q (false ∷ T) → Stands timed timings cost (passed_over node) (q ++ (0 ∷ [])) T
  unfolding set_number key_base
  stands_passed stands =
      record {
        front = length-append q (0 ∷ []) ∙ omega (arith, stands.front);
        behind = omega (arith, stands.behind);
        level = omega arith;
        rest = omega (arith, stands.rest);
        costs = stands.costs ∙ sym (cost_of_none cost timed.items q (omega (arith, stands.front, stands.behind)));
        key = ap (λ (k : ℕ). k * key_base) stands.key ∙ omega (arith, key_of_next q 0);
        ticks = λ j. stands.ticks j ∙ ap (entry_ticks (timing_in (timings_of timings timed.items) j)) (sym (entry_of_none q j));
        cheap = omega (arith, cost_grows node.item node.cost 0 stands.cheap (omega arith));
        key_below = omega (arith, key_grows node.key 0 node.item stands.key_below (omega arith));
        places = stands.places;
        short = stands.short;
        choices = one_digit_more stands.choices 0 (omega arith);
      }

  module _ (ready : TimedReady timed timings cost) (stands : Stands timed timings cost node q (true ∷ T)) (half ticks its : ℕ)
      (is_half : half ≡ 2 ^ length T) (more : node.level < timed.levels) (are_ticks : ticks ≡ (timing_at timings node.item).ticks node.level)
      (is_cost : its ≡ entry_of cost node.item node.level) (within : ticks ≤ (timing_at timings node.item).window) where
    item_within : node.item < timed.items
    item_within = omega (arith, stands.behind)

    its_ticks : (j : ℕ) → (j ≡ node.item) ⊎ (j ≢ node.item) →
        get_or (set node.ticks node.item ticks) j 0
        ≡ entry_ticks (timing_in (timings_of timings timed.items) j) (get_or (q ++ (suc node.level ∷ [])) j 0)
    unfolding entry_ticks
    its_ticks j (inl here) =
        let end : node.item ≡ length q = sym stands.front in
        rw (here, get_or-set_same node.ticks node.item ticks 0 (omega (arith, stands.places, item_within, ready.timed_items.few_items)), timing_of_lem timings timed.items node.item item_within)
        (rw (end, entry_there q (suc node.level)) (are_ticks ∙ ap (λ (i : ℕ). (timing_at timings i).ticks node.level) end))
    its_ticks j (inr other) =
        get_or-set_other node.ticks node.item j ticks 0 other
        ∙ stands.ticks j
        ∙ ap (entry_ticks (timing_in (timings_of timings timed.items) j)) (sym (entry_elsewhere q (suc node.level) j (λ same. other (same ∙ stands.front))))

    same_or_other : (x y : ℕ) → (x ≡ y) ⊎ (x ≢ y)
    same_or_other x y = go (eqb x y) refl
      where
        go : (t : Bool) → eqb x y ≡ t → (x ≡ y) ⊎ (x ≢ y)
        go true e = inl (eqb-true x y e)
        go false e = inr (eqb-false x y e)

    its_short : (j : ℕ) → (j ≡ node.item) ⊎ (j ≢ node.item) → get_or (set node.ticks node.item ticks) j 0 ≤ most_period
    its_short j (inl here) =
        let its = ready.timed_items.item node.item item_within in
        rw (here, get_or-set_same node.ticks node.item ticks 0 (omega (arith, stands.places, item_within, ready.timed_items.few_items)))
        (omega (arith, within, its.window_within_period, its.period_at_most))
    its_short j (inr other) = rw (get_or-set_other node.ticks node.item j ticks 0 other) (stands.short j)

    pub stands_run : Stands timed timings cost (run_at node half ticks its) (q ++ (suc node.level ∷ [])) T
    unfolding set_number key_base
    stands_run =
        record {
          front = length-append q (suc node.level ∷ []) ∙ omega (arith, stands.front);
          behind = omega (arith, stands.behind);
          level = omega arith;
          rest = omega (arith, stands.rest, is_half);
          costs =
              sym (cost_of_run cost timed.items q (omega (arith, stands.front, stands.behind)) node.level
              ∙ omega (arith, stands.costs, is_cost, ap (λ (i : ℕ). entry_of cost i node.level) stands.front));
          key = ap (λ (k : ℕ). k * key_base + (node.level + 1)) stands.key ∙ omega (arith, key_of_next q (suc node.level));
          ticks = λ j. its_ticks j (same_or_other j node.item);
          cheap = cost_grows node.item node.cost its stands.cheap (rw is_cost (ready.cheap _ _ item_within more (rw are_ticks at within)));
          key_below = key_grows node.key (node.level + 1) node.item stands.key_below (omega (arith, ready.timed_items.few_levels));
          places = length-set node.ticks node.item ticks ∙ stands.places;
          short = λ j. its_short j (same_or_other j node.item);
          choices = one_digit_more stands.choices (suc node.level) (omega (arith, ready.timed_items.few_levels));
        }

-- the node of the whole set
pub stands_at_start : (timed : Timed) (timings cost : List ℕ) (S : List Bool) → length S ≡ timed.items →
    Stands timed timings cost
    (record { item = 0; level = 0; rest = set_number timed.items S; cost = 0; key = 0; ticks = replicate most_items 0 }) [] S
unfolding entry_ticks plan_key
stands_at_start timed timings cost S of_items =
    record {
      front = refl;
      behind = omega (arith, of_items);
      level = omega arith;
      rest = ap (λ (n : ℕ). set_number n S) (sym of_items);
      costs = sym (no_front_no_cost _);
      key = refl;
      ticks = no_entry most_items;
      cheap = omega arith;
      key_below = rw pow-zero (omega arith);
      places = refl;
      short = λ j. rw (no_entry most_items j) (omega arith);
      choices = InBase.nothing;
    }
