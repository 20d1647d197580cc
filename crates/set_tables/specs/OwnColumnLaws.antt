-- The columns of items at their own levels, item after item.
use Rattle.std.specs.Prelude.{ℕ, suc, ◌+◌, ◌-◌, ◌*◌, ◌^◌, ◌≤◌, ◌<◌, true, List, ◌≡◌, refl, get_or, set, replicate}
use Rattle.std.proofs.Common.{◌∙◌, mul-le-mul, arith, below_more, length-set, get_or-set_same, get_or-set_other}
use Rattle.std.proofs.Math.Nat.{pow-le-pow_right}
use Rattle.assignment.specs.Keys.{key_base}
use Rattle.assignment.specs.Limits.{most_items, most_levels}
use Rattle.knapsack.specs.Offered.{entry_of}
use Rattle.lagrangian.specs.PatternLaws.{no_entry}
use Rattle.lagrangian.specs.PriceLaws.{set_at_most}
use Rattle.lagrangian.specs.TimedCores.{timing_at}
use Rattle.lagrangian.specs.declared.Timed.{Timed}
use Rattle.set_tables.specs.LiftedTables.{most_amount}
use Rattle.set_tables.specs.OwnPatterns.{is_within, own_level, OwnUpTo}
use Rattle.set_tables.specs.declared.own.OwnColumns.{OwnColumns}

-- a choice as a digit of a key
pub digit_low : {n item level power : ℕ} → power ≡ key_base ^ (n - 1 - item) → level < most_levels → item < n → n ≤ most_items → (level + 1) * power ≤ most_amount
unfolding key_base
digit_low {n} {item} {level} {power} is is_level is_item few =
    let some : 0 < 33 = omega arith in
    let place : n - 1 - item ≤ 11 = omega arith in
    let low : 33 ^ (n - 1 - item) ≤ 33 ^ 11 = pow-le-pow_right some place in
    let choice : level + 1 ≤ 8 = omega arith in
    rw is (omega (arith, mul-le-mul choice low))

module _ {timed : Timed} {timings cost : List ℕ} where
  pub no_column_yet : OwnUpTo timed timings cost 0
      record { ticks = replicate most_items 0; costs = replicate most_items 0; digits = replicate most_items 0 }
  no_column_yet =
      record {
        ticks_places = refl;
        costs_places = refl;
        digits_places = refl;
        its_ticks = λ i h. absurd (omega arith);
        its_cost = λ i h. absurd (omega arith);
        its_digit = λ i h. absurd (omega arith);
        low_costs = λ i. omega (arith, no_entry most_items i);
        low_digits = λ i. omega (arith, no_entry most_items i);
      }

  module _ {k : ℕ} {own : OwnColumns} (so_far : OwnUpTo timed timings cost k own) (room : k < most_items) where
    other : (column : List ℕ) (v i : ℕ) → i < k → get_or (set column k v) i 0 ≡ get_or column i 0
    other column v i below = get_or-set_other column k i v 0 (λ same. omega arith)

    pub one_column_more : {ticks its_cost digit : ℕ} → ticks ≡ (timing_at timings k).ticks (own_level timings cost k timed.levels) →
        (is_within timings k (own_level timings cost k timed.levels) ≡ true → its_cost ≡ entry_of cost k (own_level timings cost k timed.levels)) →
        its_cost ≤ most_amount → digit ≡ (own_level timings cost k timed.levels + 1) * key_base ^ (timed.items - 1 - k) → digit ≤ most_amount →
        OwnUpTo timed timings cost (k + 1)
        record { ticks = set own.ticks k ticks; costs = set own.costs k its_cost; digits = set own.digits k digit }
    one_column_more {ticks} {its_cost} {digit} are_ticks is_cost low_cost is_digit low_digit =
        let choice : own_level timings cost k timed.levels + 1 ≡ suc (own_level timings cost k timed.levels) = omega arith in
        record {
          ticks_places = length-set own.ticks k ticks ∙ so_far.ticks_places;
          costs_places = length-set own.costs k its_cost ∙ so_far.costs_places;
          digits_places = length-set own.digits k digit ∙ so_far.digits_places;
          its_ticks =
              below_more (λ i. get_or (set own.ticks k ticks) i 0 ≡ (timing_at timings i).ticks (own_level timings cost i timed.levels)) k
              (λ i h. other own.ticks ticks i h ∙ so_far.its_ticks i h)
              (get_or-set_same own.ticks k ticks 0 (omega (arith, so_far.ticks_places)) ∙ are_ticks);
          its_cost =
              below_more (λ i. is_within timings i (own_level timings cost i timed.levels) ≡ true →
              get_or (set own.costs k its_cost) i 0 ≡ entry_of cost i (own_level timings cost i timed.levels)) k
              (λ i h within. other own.costs its_cost i h ∙ so_far.its_cost i h within)
              (λ within. get_or-set_same own.costs k its_cost 0 (omega (arith, so_far.costs_places)) ∙ is_cost within);
          its_digit =
              below_more (λ i. get_or (set own.digits k digit) i 0 ≡ suc (own_level timings cost i timed.levels) * key_base ^ (timed.items - 1 - i)) k
              (λ i h. other own.digits digit i h ∙ so_far.its_digit i h)
              (get_or-set_same own.digits k digit 0 (omega (arith, so_far.digits_places)) ∙ rw choice at is_digit);
          low_costs = set_at_most own.costs k its_cost most_amount low_cost so_far.low_costs;
          low_digits = set_at_most own.digits k digit most_amount low_digit so_far.low_digits;
        }
