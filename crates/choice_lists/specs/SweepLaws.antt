-- What each load adds to a list, and what it does not.
use Prim.Native.Nat.{ℕ, suc, ◌+◌, ◌-◌, ◌≤◌, ◌<◌}
use Rattle.std.specs.Prelude.{◌≡◌, ◌⊎◌, length, set, take}
use Rattle.std.proofs.Math.Path.{refl, sym}
use Rattle.std.proofs.Common.{ap, ◌∙◌, inl, inr, le-leb, length-take-le, get_or-take}
use mathlib.Core.List.{List}
use Rattle.std.proofs.Math.Nat.{le_refl}
use native.Mathlib.Omega.{arith}
use Rattle.std.proofs.lemmas.Bool.{lt-leb}
use Rattle.laws.specs.Below.{lt_or_le}
use Rattle.choice_lists.specs.Listed.{before, Falling, point_at, least_listed, PointSmall}
use Rattle.choice_lists.specs.PointLaws.{least_listed-alike, least_listed-more, point_older, entry_put_older, entry_put}
use Rattle.choice_lists.specs.Spread.{value_before, worth_at, spread_at, least_spread, Sound, present, AllSound}
use Rattle.choice_lists.specs.SpreadLaws.{none_before}
use Rattle.choice_lists.specs.Sweep.{spread_choice, Older, Gathered, Swept}
use Rattle.assignment.specs.ValueLaws.{at_most-refl, at_most-trans, add_mono, lesser_second, lesser_is_first}
use Rattle.assignment.specs.Values.{Value, pair, lesser, least_below, AtMost, to_none}
use Rattle.assignment.specs.Words.{no_cost, words_none, words_pair, words-at_most}
use Rattle.values.specs.WorthLaws.{not_first}
use Rattle.values.specs.Worths.{First, worth_of}
use Rattle.knapsack.specs.declared.relaxing.Choice.{Choice}
use Rattle.values.specs.declared.value.Worth.{Worth}

-- the entries up to the capacity, as they are swept

pub loads_swept : {capacity : ℕ} (spread : List Worth) → capacity < length spread → length (take (capacity + 1) spread) ≡ suc capacity
loads_swept {capacity} spread long = length-take-le (capacity + 1) spread (omega (arith, long)) ∙ omega arith

pub worth_swept : {capacity u : ℕ} (spread : List Worth) → u ≤ capacity → worth_at (take (capacity + 1) spread) u ≡ worth_at spread u
worth_swept {capacity} {u} spread within = get_or-take (capacity + 1) spread u record { cost = 0; key = 0 } (omega arith)

-- the same before a knapsack in less room is no better
falls : {capacity : ℕ} {rest : ℕ → Value} (v : Value) (u : ℕ) {w : ℕ} → Falling capacity rest → w ≤ capacity →
    AtMost (value_before u v rest w) (value_before (suc u) v rest w)
unfolding value_before
falls {rest = rest} v u {w} falling within = go (lt_or_le w (suc u))
  where
    go : (w < suc u) ⊎ (suc u ≤ w) → AtMost (value_before u v rest w) (value_before (suc u) v rest w)
    go (inl over) = rw (lt-leb (suc u) w over) to_none
    go (inr room) =
        let less : u ≤ w = omega arith in
        rw (le-leb (suc u) w room, le-leb u w less)
        (add_mono (at_most-refl v) (falling.no_worse (w - suc u) (w - u) (omega arith) (omega arith)))

value_before-mono : {a b : Value} (u : ℕ) (rest : ℕ → Value) (w : ℕ) → AtMost a b →
    AtMost (value_before u a rest w) (value_before u b rest w)
unfolding value_before
value_before-mono {a} {b} u rest w order = go (lt_or_le w u)
  where
    go : (w < u) ⊎ (u ≤ w) → AtMost (value_before u a rest w) (value_before u b rest w)
    go (inl over) = rw (lt-leb u w over) to_none
    go (inr room) = rw (le-leb u w room) (add_mono order (at_most-refl _))

module _ {capacity from : ℕ} {spread : List Worth} where
  pub gathered_none : (points : List Choice) (best : Worth) → best.cost ≡ no_cost → best.key ≡ 0 →
      Gathered capacity from 0 spread points points best from
  unfolding least_listed least_below
  gathered_none points best costs_nothing no_key =
      let empty : from - from ≡ 0 = omega arith in
      record {
        older = record { same_length = refl; as_before = λ i below. refl };
        ordered = le_refl from;
        few = omega arith;
        none_yet = λ above. (costs_nothing, no_key);
        least = λ rest falling w under. rw empty;
        passed = λ rest falling w under.
            rw (empty, words_none best.cost best.key (omega arith), none_before 0 rest w) to_none;
        small = λ n places sound p after below. absurd (omega arith);
      }

  module _ {u to : ℕ} {points₀ points : List Choice} {best : Worth}
      (sofar : Gathered capacity from u spread points₀ points best to) where
    pub gathered_skip : ¬ (First (worth_at spread u) best) →
        Gathered capacity from (suc u) spread points₀ points best to
    unfolding least_below
    gathered_skip later =
        record {
          older = sofar.older;
          ordered = sofar.ordered;
          few = omega (arith, sofar.few);
          none_yet = sofar.none_yet;
          least = λ rest falling w under.
              sofar.least rest falling w under
              ∙ sym (lesser_is_first
              (rw (sym (sofar.least rest falling w under))
              (at_most-trans (sofar.passed rest falling w under) (value_before-mono u rest w no_better))));
          passed = λ rest falling w under. at_most-trans (sofar.passed rest falling w under) (falls _ u falling under);
          small = sofar.small;
        }
      where
        no_better : AtMost (worth_of best) (spread_at spread u)
        no_better = words-at_most _ _ _ _ (not_first later)

    pub gathered_more : u ≤ capacity → to < length points₀ → First (worth_at spread u) best →
        Gathered capacity from (suc u) spread points₀ (set points to (spread_choice u (worth_at spread u))) (worth_at spread u) (suc to)
    unfolding least_below before value_before
    gathered_more within room first =
        record {
          older =
              record {
                same_length = stored.same_length ∙ sofar.older.same_length;
                as_before = λ i below.
                    stored.as_before i (omega (arith, sofar.ordered)) ∙ sofar.older.as_before i below;
              };
          ordered = omega (arith, sofar.ordered);
          few = omega (arith, sofar.few);
          none_yet = λ above. absurd (omega (arith, real));
          least = λ rest falling w under. rw (one_more rest w, sofar.least rest falling w under, worth_is);
          passed = λ rest falling w under.
              rw (one_more rest w) (at_most-trans (lesser_second _ _) (rw worth_is (falls (pair worth.cost worth.key) u falling under)));
          small = λ n places sound p after below. new n places sound p after below (lt_or_le p to);
        }
      where
        worth : Worth
        worth = worth_at spread u

        points' : List Choice
        points' = set points to (spread_choice u worth)

        stored : Older to points points'
        stored = entry_put_older points to (spread_choice u worth)

        real : worth.cost < no_cost
        real = go first (lt_or_le best.cost no_cost)
          where
            go : First worth best → (best.cost < no_cost) ⊎ (no_cost ≤ best.cost) → worth.cost < no_cost
            go (inl less) (inl some) = omega arith
            go (inl less) (inr above) = let (is, no_key) = sofar.none_yet above in omega arith
            go (inr (same, less)) (inl some) = omega arith
            go (inr (same, less)) (inr above) = let (is, no_key) = sofar.none_yet above in absurd (omega arith)

        worth_is : worth_of worth ≡ pair worth.cost worth.key
        worth_is = words_pair worth.cost worth.key real

        one_more : (rest : ℕ → Value) (w : ℕ) →
            least_listed points' from (suc to - from) rest w
            ≡ lesser (least_listed points from (to - from) rest w) (value_before u (pair worth.cost worth.key) rest w)
        one_more rest w =
            least_listed-more points' rest w sofar.ordered
            ∙ ap (λ (v : Value). lesser v (before (point_at points' to) rest w))
            (least_listed-alike points points' from (to - from) rest w (λ i below. stored.as_before i (omega (arith, sofar.ordered))))
            ∙ ap (λ (point : Choice). lesser (least_listed points from (to - from) rest w) (before point rest w))
            (entry_put points to (spread_choice u worth) (omega (arith, sofar.older.same_length)))

        new_small : {n places c k : ℕ} → Sound n places (pair c k) → PointSmall capacity n places record { load = u; cost = c; key = k }
        new_small (present c k cheap digits) = record { fits = within; cheap = cheap; digits = digits }

        new : (n places : ℕ) → AllSound capacity n places spread → (p : ℕ) → from ≤ p → p < suc to → (p < to) ⊎ (to ≤ p) →
            PointSmall capacity n places (point_at points' p)
        new n places sound p after below (inl less) =
            rw (point_older stored p less) (sofar.small n places sound p after less)
        new n places sound p after below (inr last) =
            let is : p ≡ to = omega arith in
            let there = entry_put points to (spread_choice u worth) (omega (arith, sofar.older.same_length)) in
            rw (is, there) (new_small (rw worth_is at (sound u within)))

  pub gathered_all : {points₀ points : List Choice} {best : Worth} {to : ℕ} → from + suc capacity ≤ length points₀ →
      Gathered capacity from (suc capacity) spread points₀ points best to → Swept capacity from spread points₀ points to
  unfolding least_spread
  gathered_all room all =
      record {
        older = all.older;
        listed = λ n places sound.
            record {
              ordered = all.ordered;
              there = omega (arith, all.older.same_length, all.few);
              least = all.least;
              small = all.small n places sound;
            };
      }
