-- Item after item is put in front of those whose sets are listed, from the last of the first few to the first of all.
use Rattle.std.specs.Prelude.{ℕ, suc, ◌+◌, ◌-◌, ◌^◌, ◌≤◌, ◌<◌, ◌≡◌, refl, List, length, get_or, set}
use Rattle.std.proofs.Common.{ap, ap₂, ◌∙◌, zero-add, arith, le-leb, length-set, get_or-set_same, get_or-set_other}
use Rattle.std.proofs.Math.Nat.{pow-le-pow_right}
use Rattle.assignment.specs.LeastLaws.{none_lesser}
use Rattle.choice_lists.specs.Listed.{before, nothing, point_at, least_listed, Listed, SetsListed, FrontListed}
use Rattle.choice_lists.specs.ListedSets.{SetsFit}
use Rattle.assignment.specs.Limits.{most_items}
use Rattle.knapsack.specs.Offered.{Affordable}
use Rattle.choice_lists.specs.PointLaws.{least_listed-more, entry_put_older, entry_put}
use Rattle.assignment.specs.Keys.{key_base}
use Rattle.knapsack.specs.KnapsackSteps.{knapsack_before}
use Rattle.assignment.specs.Values.{Value, none, pair, add, least_below}
use Rattle.knapsack.specs.declared.relaxing.Choice.{Choice}
use Rattle.knapsack.specs.declared.relaxing.Core.{Core}
use Rattle.knapsack.specs.declared.relaxing.Front.{Front}

-- as many items at most have lists
abbrev pub most_listed : ℕ
most_listed = 6

-- where the list of each set of so many items starts, and where the last one ends
abbrev pub most_starts : ℕ
most_starts = 65

-- the item before the last c of the first n of `items` items, on a core
abbrev pub front_at : Core → (n c items : ℕ) → Front
front_at core n c items = record { core = core; item = n - 1 - c; places = items - n + c; digit = key_base ^ (items - n + c) }

-- the first n of `items` items
pub record ListsFit (core : Core) (n items : ℕ) (load cost : List ℕ) (points : List Choice) (starts : List ℕ) : Type 0 where
  pub items_limited : items ≤ most_items
  pub some_items : n ≤ items
  pub few : n ≤ most_listed
  pub affordable : Affordable items core.levels core.capacity load cost
  pub some_points : 0 < length points
  pub starts_long : most_starts ≤ length starts

-- the lengths alone matter
pub lists_stay : {core : Core} {n items : ℕ} {load cost : List ℕ} {points : List Choice} {starts : List ℕ} {points' : List Choice} {starts' : List ℕ} → length points' ≡ length points →
    length starts' ≡ length starts → ListsFit core n items load cost points starts → ListsFit core n items load cost points' starts'
lists_stay same_points same_starts fits =
    record {
      items_limited = fits.items_limited;
      some_items = fits.some_items;
      few = fits.few;
      affordable = fits.affordable;
      some_points = rw same_points fits.some_points;
      starts_long = rw same_starts fits.starts_long;
    }

-- the sets of the last c of the first n items
abbrev pub LastListed : Core → (n items : ℕ) (load cost : List ℕ) (c : ℕ) (points : List Choice) (starts : List ℕ) → Type 0
LastListed core n items load cost c = SetsListed core load cost (n - c) c (items - n) (2 ^ c)

add_nothing : (v : Value) → add (pair 0 0) v ≡ v
unfolding add
add_nothing none = refl
add_nothing (pair c k) = ap₂ pair (zero-add c) (zero-add k)

nothing_before : (rest : ℕ → Value) (w : ℕ) → before nothing rest w ≡ rest w
unfolding before
nothing_before rest w =
    let all : w - 0 ≡ w = omega arith in
    rw (le-leb 0 w (omega arith), all) (add_nothing (rest w))

-- no item has one set, with one choice
pub none_listed : {core : Core} (n items : ℕ) {load cost : List ℕ} (points : List Choice) (starts : List ℕ) → 0 < length points → 1 < length starts →
    LastListed core n items load cost 0 (set points 0 nothing) (set (set starts 0 0) 1 1)
unfolding knapsack_before least_listed least_below
none_listed {core} n items points starts room long =
    record {
      starts_there = omega (arith, length-set (set starts 0 0) 1 1, length-set starts 0 0);
      each = λ k below. let is : k ≡ 0 = omega arith in rw (is, first, second) one;
    }
  where
    points' : List Choice
    points' = set points 0 nothing

    first : get_or (set (set starts 0 0) 1 1) 0 0 ≡ 0
    first = get_or-set_other (set starts 0 0) 1 0 1 0 (λ same. absurd (omega arith)) ∙ get_or-set_same starts 0 0 0 (omega arith)

    second : get_or (set (set starts 0 0) 1 1) 1 0 ≡ 1
    second = get_or-set_same (set starts 0 0) 1 1 0 (omega (arith, length-set starts 0 0))

    there : point_at points' 0 ≡ nothing
    there = entry_put points 0 nothing (omega arith)

    one : Listed core.capacity 0 (items - n) (λ rest. rest) points' 0 1
    one =
        record {
          ordered = omega arith;
          there = omega (arith, (entry_put_older points 0 nothing).same_length);
          least = λ rest falling w under.
              least_listed-more points' {from = 0} {to = 0} rest w (omega arith)
              ∙ none_lesser _
              ∙ ap (λ (point : Choice). before point rest w) there
              ∙ nothing_before rest w;
          small = λ p after below.
              let is : p ≡ 0 = omega arith in
              rw (is, there) record { fits = omega arith; cheap = omega arith; digits = rw (zero-add (items - n)) (omega arith) };
        }

module _ {core : Core} {n items : ℕ} {load cost : List ℕ} {points : List Choice} {starts : List ℕ} (fits : ListsFit core n items load cost points starts)
    {c : ℕ} (under : c < n) where
  behind_all : items - n + c - c ≡ items - n
  behind_all = omega arith

  pub sets_fit : LastListed core n items load cost c points starts → SetsFit (front_at core n c items) c load cost points starts
  sets_fit listed =
      let next : suc (n - 1 - c) ≡ n - c = omega arith in
      let some_digit : 0 < 2 = omega arith in
      let less : suc c ≤ most_listed = omega (arith, fits.few) in
      let sets : 2 ^ suc c ≤ 2 ^ most_listed = pow-le-pow_right some_digit less in
      record {
        room =
            record {
              affordable =
                  record {
                    levels_limited = fits.affordable.levels_limited;
                    capacity_limited = fits.affordable.capacity_limited;
                    loads_for_all = omega (arith, fits.affordable.loads_for_all, fits.some_items);
                    costs_for_all = omega (arith, fits.affordable.costs_for_all, fits.some_items);
                    cheap = λ i below. fits.affordable.cheap i (omega (arith, fits.some_items));
                  };
              places_limited = omega (arith, fits.items_limited, fits.some_items);
              digit_is = refl;
              count_behind = omega arith;
              starts_long = omega (arith, fits.starts_long);
            };
        behind = rw (next, behind_all) listed;
      }

pub all_listed : {core : Core} {n : ℕ} (items : ℕ) {load cost : List ℕ} {points : List Choice} {starts : List ℕ} →
    LastListed core n items load cost n points starts → FrontListed core load cost n (items - n) points starts
all_listed {n = n} items listed =
    let first : n - n ≡ 0 = omega arith in
    rw first at listed
