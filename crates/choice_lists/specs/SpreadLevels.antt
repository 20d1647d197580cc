-- A choice is spread with one entry of a list after the other.
use Rattle.std.specs.Prelude.{ℕ, suc, ◌+◌, ◌-◌, ◌≤◌, ◌<◌, ◌≡◌, ◌⊎◌, List, length}
use Rattle.std.proofs.Common.{sym, ◌∙◌, inl, inr}
use Rattle.std.proofs.Math.Path.{ap}
use Rattle.std.proofs.Math.Decide.{ℕ_discrete}
use native.Mathlib.Omega.{arith}
use Rattle.assignment.specs.LeastLaws.{lesser_none}
use Rattle.choice_lists.specs.Listed.{before, point_at}
use Rattle.choice_lists.specs.Spread.{value_before, spread_at, least_spread, sum_of, least_sums, Sound, LevelSpread}
use Rattle.choice_lists.specs.SpreadLaws.{before_none, lowered_at, lowered_there, lowered_elsewhere, least_spread-lowered}
use Rattle.assignment.specs.ValueLaws.{lesser_assoc, lesser_either}
use Rattle.assignment.specs.Values.{Value, pair, lesser, least_below}
use Rattle.assignment.specs.Words.{no_cost, words_pair}
use Rattle.knapsack.specs.declared.relaxing.Choice.{Choice}
use Rattle.values.specs.Worths.{worth_of}
use Rattle.values.specs.declared.value.Worth.{Worth}

-- two choices' cost and key
abbrev pub sum_worth : Choice → Choice → Worth
sum_worth a b = record { cost = a.cost + b.cost; key = a.key + b.key }

-- the sums with one entry more
pub one_more_sum : (choice : Choice) (points : List Choice) {from p : ℕ} → from ≤ p → (rest : ℕ → Value) (w : ℕ) →
    least_sums choice points from (suc p - from) rest w
    ≡ lesser (least_sums choice points from (p - from) rest w) (before (sum_of choice (point_at points p)) rest w)
unfolding least_sums least_below
one_more_sum choice points {from} {p} behind rest w =
    let more : suc p - from ≡ suc (p - from) = omega arith in
    let last : from + (p - from) ≡ p = omega arith in
    rw (more, last)

module _ {capacity from : ℕ} {choice : Choice} {points : List Choice} where
  pub spread_nothing : (spread : List Worth) → LevelSpread capacity choice from from points spread spread
  unfolding least_sums least_below
  spread_nothing spread =
      let empty : from - from ≡ 0 = omega arith in
      record { least = λ rest w under. rw empty (sym (lesser_none _)); sound = λ n places entries sums. entries }

  module _ {p : ℕ} (behind : from ≤ p) {spread₀ spread : List Worth}
      (sofar : LevelSpread capacity choice from p points spread₀ spread) where
    pub spread_over : capacity < choice.load + (point_at points p).load →
        LevelSpread capacity choice from (suc p) points spread₀ spread
    spread_over over =
        record {
          least = λ rest w under.
              sofar.least rest w under
              ∙ ap (lesser (least_spread capacity spread₀ rest w))
              (sym
              (one_more_sum choice points behind rest w
              ∙ ap (lesser (least_sums choice points from (p - from) rest w)) (before_none (sum_of choice (point_at points p)) rest (omega arith))
              ∙ lesser_none _));
          sound = λ n places entries sums. sofar.sound n places entries (λ q after below. sums q after (omega arith));
        }

    pub spread_lowered : choice.load + (point_at points p).load ≤ capacity → choice.cost + (point_at points p).cost < no_cost →
        capacity < length spread →
        LevelSpread capacity choice from (suc p) points spread₀ (lowered_at (choice.load + (point_at points p).load) (sum_worth choice (point_at points p)) spread)
    unfolding before value_before
    spread_lowered room real long =
        record {
          least = λ rest w under.
              least_spread-lowered added_worth spread rest w room there
              ∙ ap (λ (v : Value). lesser v (value_before sum_load (worth_of added_worth) rest w)) (sofar.least rest w under)
              ∙ lesser_assoc _ _ _
              ∙ ap (lesser (least_spread capacity spread₀ rest w)) (ends rest w);
          sound = λ n places entries sums.
              let older = sofar.sound n places entries (λ q after below. sums q after (omega arith)) in
              λ u under. new n places (sums p behind (omega arith)) (older u under) (ℕ_discrete u sum_load);
        }
      where
        added_worth : Worth
        added_worth = sum_worth choice (point_at points p)

        sum_load : ℕ
        sum_load = choice.load + (point_at points p).load

        there : sum_load < length spread
        there = omega (arith, room, long)

        sum_is : worth_of added_worth ≡ pair (choice.cost + (point_at points p).cost) (choice.key + (point_at points p).key)
        sum_is = words_pair _ _ real

        ends : (rest : ℕ → Value) (w : ℕ) →
            lesser (least_sums choice points from (p - from) rest w) (value_before sum_load (worth_of added_worth) rest w)
            ≡ least_sums choice points from (suc p - from) rest w
        ends rest w = rw sum_is (sym (one_more_sum choice points behind rest w))

        new : (n places : ℕ) → Sound n places (pair (choice.cost + (point_at points p).cost) (choice.key + (point_at points p).key)) →
            {u : ℕ} → Sound n places (spread_at spread u) → Dec (u ≡ sum_load) →
            Sound n places (spread_at (lowered_at sum_load added_worth spread) u)
        new n places added {u} old (yes e) = rw (e, lowered_there sum_load added_worth spread there) (either (rw e at old) (lesser_either _ _))
          where
            either : {a : Value} → Sound n places a → (lesser a (worth_of added_worth) ≡ a) ⊎ (lesser a (worth_of added_worth) ≡ worth_of added_worth) →
                Sound n places (lesser a (worth_of added_worth))
            either held (inl same) = rw same held
            either held (inr same) = rw (same, sum_is) added
        new n places added {u} old (no other) = rw (lowered_elsewhere sum_load added_worth spread u other) old
