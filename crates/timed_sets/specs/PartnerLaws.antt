-- Partners found one after the other, level by level and item by item; and the choice of an item read off a key.
use Rattle.std.specs.Prelude.{ℕ, zero, suc, ◌+◌, ◌*◌, ◌/◌, ◌%◌, ◌^◌, ◌≤◌, ◌<◌, List, ◌≡◌, refl, length, get_or, set, replicate}
use Rattle.std.proofs.Common.{sym, ◌∙◌, mod-eq_of_lt, pow-suc, arith, below_more, length-set, pow-add, get_or-set_same, get_or-set_other}
use Rattle.std.proofs.Math.Nat.{mul-add-div_right, mul-add-mod_self_right}
use Rattle.std.proofs.Math.Arith.{digits_div}
use Rattle.assignment.specs.KeyLaws.{InBase, digit, key_below}
use Rattle.assignment.specs.Keys.{key_base, plan_key}
use Rattle.assignment.specs.Limits.{most_items}
use Rattle.knapsack.specs.Offered.{entry_of}
use Rattle.lagrangian.specs.FrontKeyLaws.{power_above_0}
use Rattle.lagrangian.specs.TimedCores.{timing_at}
use Rattle.lagrangian.specs.declared.Timed.{Timed}
use Rattle.timed_sets.specs.Exchange.{DueNoSooner, Partner, Partners, SameLevels}

module _ {timings cost : List ℕ} {j i : ℕ} where
  pub before_any_level : SameLevels timings cost 0 j i
  before_any_level = record { ticks = λ l under. absurd (omega arith); costs = λ l under. absurd (omega arith) }

  pub one_level_more : {k : ℕ} → SameLevels timings cost k j i → (timing_at timings j).ticks k ≡ (timing_at timings i).ticks k →
      entry_of cost j k ≡ entry_of cost i k → SameLevels timings cost (k + 1) j i
  one_level_more {k} so_far ticks costs =
      record {
        ticks = below_more (λ l. (timing_at timings j).ticks l ≡ (timing_at timings i).ticks l) k so_far.ticks ticks;
        costs = below_more (λ l. entry_of cost j l ≡ entry_of cost i l) k so_far.costs costs;
      }

module _ {timed : Timed} {timings cost : List ℕ} where
  pub no_partner_yet : Partners timed timings cost 0 (replicate most_items 0)
  no_partner_yet = record { places = refl; partner = λ i j under is. absurd (omega arith) }

  pub one_item_named : {n r : ℕ} {partners : List ℕ} → Partners timed timings cost n partners → n < most_items →
      ((j : ℕ) → r ≡ suc j → Partner timed timings cost j n) → Partners timed timings cost (n + 1) (set partners n r)
  one_item_named {n} {r} {partners} so_far room its =
      record {
        places = length-set partners n r ∙ so_far.places;
        partner = λ i j under is.
            below_more (λ i. (j : ℕ) → get_or (set partners n r) i 0 ≡ suc j → Partner timed timings cost j i) n
            (λ i l j is. so_far.partner i j l (sym (get_or-set_other partners n i r 0 (λ same. omega arith)) ∙ is))
            (λ j is. its j (sym (get_or-set_same partners n r 0 (omega (arith, so_far.places))) ∙ is)) i under j is;
      }

  -- a partner comes before its item
  pub partner_within : {n : ℕ} {partners : List ℕ} → Partners timed timings cost n partners → (i : ℕ) → i < n → get_or partners i 0 ≤ i
  partner_within {n} {partners} are i under = go (get_or partners i 0) refl
    where
      go : (r : ℕ) → get_or partners i 0 ≡ r → r ≤ i
      go zero is = omega arith
      go (suc j) is = (are.partner i j under is).earlier

pub none_sooner_yet : {timings : List ℕ} → DueNoSooner timings 0 (replicate most_items 0)
none_sooner_yet = record { no_sooner = λ i j under is. absurd (omega arith) }

pub one_item_no_sooner : {timings partners : List ℕ} {n r : ℕ} → DueNoSooner timings n partners → n < length partners →
    ((j : ℕ) → r ≡ suc j → (timing_at timings n).window ≤ (timing_at timings j).window) → DueNoSooner timings (n + 1) (set partners n r)
one_item_no_sooner {timings} {partners} {n} {r} so_far room its =
    record {
      no_sooner = λ i j under is.
          below_more (λ i. (j : ℕ) → get_or (set partners n r) i 0 ≡ suc j → (timing_at timings i).window ≤ (timing_at timings j).window) n
          (λ i l j is. so_far.no_sooner i j l (sym (get_or-set_other partners n i r 0 (λ same. omega arith)) ∙ is))
          (λ j is. its j (sym (get_or-set_same partners n r 0 room) ∙ is)) i under j is;
    }

-- the digit of item j, with k items after it
pub digit_of_key : {q : List ℕ} → InBase q → (j k : ℕ) → length q ≡ suc (j + k) → plan_key q / key_base ^ k % key_base ≡ get_or q j 0
unfolding plan_key
digit_of_key InBase.nothing j k long = absurd (omega arith)
digit_of_key (digit {plan = q} c l others) zero k long =
    let all : length q ≡ k = omega (arith, long) in
    rw (all, digits_div c (rw all at (key_below others))) (mod-eq_of_lt l)
digit_of_key (digit {plan = q} c l others) (suc j) k long =
    let all : length q ≡ suc j + k = omega (arith, long) in
    let power : c * key_base ^ length q ≡ c * key_base ^ j * key_base * key_base ^ k =
    rw (all, pow-add key_base (suc j) k, pow-suc key_base j) (omega arith) in
    rw (power, mul-add-div_right (power_above_0 k) (c * key_base ^ j * key_base) (plan_key q), mul-add-mod_self_right (c * key_base ^ j) key_base (plan_key q / key_base ^ k))
    (digit_of_key others j k (omega arith))
