-- A choice is appended with one entry of a list after the other.
use Rattle.std.specs.Prelude.{ℕ, suc, ◌+◌, ◌-◌, ◌≤◌, ◌<◌, ◌≡◌, ◌⊎◌, List, length, set}
use Rattle.std.proofs.Math.Path.{refl}
use Rattle.std.proofs.Common.{sym, ap, ◌∙◌, inl, inr}
use Rattle.std.proofs.Math.Nat.{le_refl}
use native.Mathlib.Omega.{arith}
use Rattle.laws.specs.Below.{lt_or_le}
use Rattle.choice_lists.specs.Appended.{LevelAppended}
use Rattle.assignment.specs.LeastLaws.{lesser_none}
use Rattle.choice_lists.specs.Listed.{before, point_at, least_listed, PointSmall}
use Rattle.choice_lists.specs.PointLaws.{least_listed-alike, least_listed-more, point_older, entry_put_older, entry_put}
use Rattle.choice_lists.specs.Spread.{sum_of, least_sums, Sound, present}
use Rattle.choice_lists.specs.SpreadLaws.{before_none}
use Rattle.choice_lists.specs.SpreadLevels.{one_more_sum}
use Rattle.choice_lists.specs.Sweep.{Older}
use Rattle.assignment.specs.Values.{Value, pair, lesser, least_below}
use Rattle.knapsack.specs.declared.relaxing.Choice.{Choice}

module _ {capacity from start : ℕ} {choice : Choice} where
  pub append_nothing : (points : List Choice) → LevelAppended capacity choice from from start points points start
  unfolding least_listed least_sums least_below
  append_nothing points =
      let empty : from - from ≡ 0 = omega arith in
      let no_entry : start - start ≡ 0 = omega arith in
      record {
        older = record { same_length = refl; as_before = λ i below. refl };
        ordered = le_refl start;
        few = omega arith;
        least = λ rest w under. rw (empty, no_entry);
        small = λ n places sums p after below. absurd (omega arith);
      }

  module _ {p end : ℕ} (after : from ≤ p) {points₀ points : List Choice}
      (sofar : LevelAppended capacity choice from p start points₀ points end) where
    pub append_over : capacity < choice.load + (point_at points₀ p).load →
        LevelAppended capacity choice from (suc p) start points₀ points end
    append_over over =
        record {
          older = sofar.older;
          ordered = sofar.ordered;
          few = omega (arith, sofar.few);
          least = λ rest w under.
              sofar.least rest w under
              ∙ sym
              (one_more_sum choice points₀ after rest w
              ∙ ap (lesser (least_sums choice points₀ from (p - from) rest w)) (before_none (sum_of choice (point_at points₀ p)) rest (omega arith))
              ∙ lesser_none _);
          small = λ n places sums. sofar.small n places (λ q behind below. sums q behind (omega arith));
        }

    pub append_stored : choice.load + (point_at points₀ p).load ≤ capacity → end < length points₀ →
        LevelAppended capacity choice from (suc p) start points₀ (set points end (sum_of choice (point_at points₀ p))) (suc end)
    append_stored fits room =
        record {
          older =
              record {
                same_length = stored.same_length ∙ sofar.older.same_length;
                as_before = λ i below. stored.as_before i (omega (arith, sofar.ordered)) ∙ sofar.older.as_before i below;
              };
          ordered = omega (arith, sofar.ordered);
          few = omega (arith, sofar.few);
          least = λ rest w under.
              least_listed-more points' rest w sofar.ordered
              ∙ ap (λ (v : Value). lesser v (before (point_at points' end) rest w))
              (least_listed-alike points points' start (end - start) rest w
              (λ i below. stored.as_before i (omega (arith, sofar.ordered)))
              ∙ sofar.least rest w under)
              ∙ ap (λ (point : Choice). lesser (least_sums choice points₀ from (p - from) rest w) (before point rest w)) there
              ∙ sym (one_more_sum choice points₀ after rest w);
          small = λ n places sums q behind below. new n places sums q behind below (lt_or_le q end);
        }
      where
        sum : Choice
        sum = sum_of choice (point_at points₀ p)

        points' : List Choice
        points' = set points end sum

        stored : Older end points points'
        stored = entry_put_older points end sum

        there : point_at points' end ≡ sum
        there = entry_put points end sum (omega (arith, sofar.older.same_length))

        new_small : {n places c k : ℕ} → Sound n places (pair c k) →
            PointSmall capacity n places record { load = sum.load; cost = c; key = k }
        new_small (present c k cheap digits) = record { fits = fits; cheap = cheap; digits = digits }

        new : (n places : ℕ) →
            ((q : ℕ) → from ≤ q → q < suc p →
            Sound n places (pair (choice.cost + (point_at points₀ q).cost) (choice.key + (point_at points₀ q).key))) →
            (q : ℕ) → start ≤ q → q < suc end → (q < end) ⊎ (end ≤ q) → PointSmall capacity n places (point_at points' q)
        new n places sums q behind below (inl less) =
            rw (point_older stored q less)
            (sofar.small n places (λ r later less. sums r later (omega arith)) q behind less)
        new n places sums q behind below (inr last) =
            let is : q ≡ end = omega arith in
            rw (is, there) (new_small (sums p after (omega arith)))
