-- The value of a knapsack read from a list of choices, one after the other.
use Rattle.std.specs.Prelude.{ℕ, suc, ◌+◌, ◌-◌, ◌^◌, ◌≤◌, ◌<◌, ◌≡◌, ◌⊎◌, List, length, get_or}
use Rattle.std.proofs.Common.{sym, inl, inr, le_refl}
use Rattle.std.proofs.Math.Nat.{one-le-pow}
use native.Mathlib.Omega.{arith}
use borrow.Author.Tests.{le-leb}
use Rattle.assignment.specs.KeyLaws.{keys_fit}
use Rattle.knapsack_tables.specs.FilledTables.{Holds}
use Rattle.choice_lists.specs.Listed.{before, Falling, point_at, least_listed, Listed}
use Rattle.assignment.specs.Limits.{most_items}
use Rattle.choice_lists.specs.PointLaws.{least_listed-more}
use Rattle.assignment.specs.Keys.{key_base}
use Rattle.knapsack.specs.KnapsackWords.{KnapsackHeld, knapsack_of}
use Rattle.values.specs.Worths.{Small}
use Rattle.assignment.specs.Values.{Value, least_below}
use Rattle.assignment.specs.Words.{no_cost, words_none, words_pair, words_add, words_lesser_first}
use Rattle.values.specs.WorthLaws.{lesser_worth-either, lesser_worth-value}
use Rattle.values.specs.Worths.{lesser_worth, worth_of}
use Rattle.knapsack.specs.declared.relaxing.Choice.{Choice}
use Rattle.values.specs.declared.value.Worth.{Worth}

-- the entries from `from` to `to` are n items' choices for f, in front of the `places` items of the knapsack
pub record ListRead (capacity from to : ℕ) (points : List Choice) (knapsack_costs knapsack_keys : List ℕ) (n places : ℕ) (f : (ℕ → Value) → ℕ → Value) :
    Type 0 where
  pub items_limited : n + places ≤ most_items
  pub listed : Listed capacity n places f points from to
  pub knapsack_held : KnapsackHeld places capacity knapsack_costs knapsack_keys
  pub knapsack_falls : Falling capacity (knapsack_of knapsack_costs knapsack_keys)

-- what the entry p asks for of the knapsack is there, and their sums fit 64 bits
pub record PointRead (capacity p : ℕ) (points : List Choice) (knapsack_costs knapsack_keys : List ℕ) : Type 0 where
  pub room : (point_at points p).load ≤ capacity
  pub in_costs : capacity - (point_at points p).load < length knapsack_costs
  pub in_keys : capacity - (point_at points p).load < length knapsack_keys
  pub cost_fits : (point_at points p).cost + get_or knapsack_costs (capacity - (point_at points p).load) 0 < 2 ^ 64
  pub key_fits : (point_at points p).key + get_or knapsack_keys (capacity - (point_at points p).load) 0 < 2 ^ 64

-- what the entry p and the knapsack behind it are worth
abbrev pub point_worth : (capacity p : ℕ) (points : List Choice) (knapsack_costs knapsack_keys : List ℕ) → Worth
point_worth capacity p points knapsack_costs knapsack_keys =
    record {
      cost = (point_at points p).cost + get_or knapsack_costs (capacity - (point_at points p).load) 0;
      key = (point_at points p).key + get_or knapsack_keys (capacity - (point_at points p).load) 0;
    }

-- the least of the entries below p, for every f that they are choices for
abbrev pub LeastTo : (capacity from to : ℕ) (points : List Choice) (knapsack_costs knapsack_keys : List ℕ) (p : ℕ) (best : Worth) → Type 0
LeastTo capacity from to points knapsack_costs knapsack_keys p best =
    (n places : ℕ) (f : (ℕ → Value) → ℕ → Value) → ListRead capacity from to points knapsack_costs knapsack_keys n places f →
    Holds (n + places) (least_listed points from (p - from) (knapsack_of knapsack_costs knapsack_keys) capacity) best.cost best.key

module _ {capacity from to : ℕ} {points : List Choice} {knapsack_costs knapsack_keys : List ℕ} where
  pub least_of_none : LeastTo capacity from to points knapsack_costs knapsack_keys from record { cost = no_cost; key = 0 }
  unfolding least_listed least_below key_base
  least_of_none n places f read =
      let none_yet : from - from ≡ 0 = omega arith in
      rw none_yet
      record {
        is = words_none no_cost 0 (omega arith);
        small = record { at_most_none = omega arith; real = omega arith; digits = one-le-pow (n + places) key_base (omega arith) };
      }

  module _ {n places : ℕ} {f : (ℕ → Value) → ℕ → Value} (read : ListRead capacity from to points knapsack_costs knapsack_keys n places f)
      {p : ℕ} (lower : from ≤ p) (under : p < to) where
    rest_small : Small places (get_or knapsack_costs (capacity - (point_at points p).load) 0) (get_or knapsack_keys (capacity - (point_at points p).load) 0)
    rest_small = read.knapsack_held.small (capacity - (point_at points p).load) (omega arith)

    key_bound_lem : (point_worth capacity p points knapsack_costs knapsack_keys).key < key_base ^ (n + places)
    key_bound_lem = omega (arith, rest_small.digits, (read.listed.small p lower under).digits)

    pub point_read : PointRead capacity p points knapsack_costs knapsack_keys
    point_read =
        let small = read.listed.small p lower under in
        record {
          room = small.fits;
          in_costs = omega (arith, read.knapsack_held.costs_to_capacity);
          in_keys = omega (arith, read.knapsack_held.keys_to_capacity);
          cost_fits = omega (arith, small.cheap, rest_small.at_most_none, read.items_limited);
          key_fits = omega (arith, key_bound_lem, keys_fit read.items_limited);
        }

    point_value : before (point_at points p) (knapsack_of knapsack_costs knapsack_keys) capacity ≡ worth_of (point_worth capacity p points knapsack_costs knapsack_keys)
    unfolding before knapsack_of
    point_value =
        let small = read.listed.small p lower under in
        rw (
          le-leb (point_at points p).load capacity small.fits,
          ← words_pair (point_at points p).cost (point_at points p).key (omega (arith, small.cheap, read.items_limited)),
        )
        (words_add _ _ _ _ (λ a b. omega (arith, small.cheap, rest_small.real b, read.items_limited)))

    -- the least of one entry more, by what becomes of the best so far

    module _ {best : Worth}
        (least : Holds (n + places) (least_listed points from (p - from) (knapsack_of knapsack_costs knapsack_keys) capacity) best.cost best.key) where
      abbrev next_best : Worth
      next_best = lesser_worth best (point_worth capacity p points knapsack_costs knapsack_keys)

      dearer_holds : best.cost < (point_worth capacity p points knapsack_costs knapsack_keys).cost →
          Holds (n + places) (least_listed points from (suc p - from) (knapsack_of knapsack_costs knapsack_keys) capacity) best.cost best.key
      dearer_holds dear =
          record {
            is = rw (least_listed-more points (knapsack_of knapsack_costs knapsack_keys) capacity lower, point_value, ← least.is) (sym (words_lesser_first _ _ _ _ (inl dear)));
            small = least.small;
          }

      lesser_holds : (point_worth capacity p points knapsack_costs knapsack_keys).cost ≤ best.cost →
          Holds (n + places) (least_listed points from (suc p - from) (knapsack_of knapsack_costs knapsack_keys) capacity) next_best.cost next_best.key
      lesser_holds cheap =
          record {
            is =
                rw (least_listed-more points (knapsack_of knapsack_costs knapsack_keys) capacity lower, point_value, ← least.is)
                (lesser_worth-value best (point_worth capacity p points knapsack_costs knapsack_keys));
            small = go (lesser_worth-either best (point_worth capacity p points knapsack_costs knapsack_keys));
          }
        where
          go : (next_best ≡ best) ⊎ (next_best ≡ point_worth capacity p points knapsack_costs knapsack_keys) →
              Small (n + places) next_best.cost next_best.key
          go (inl e) = rw e least.small
          go (inr e) =
              rw e
              record {
                at_most_none = omega (arith, least.small.at_most_none);
                real = λ h. omega (arith, (read.listed.small p lower under).cheap, rest_small.real (omega arith));
                digits = key_bound_lem;
              }

  module _ {p : ℕ} (lower : from ≤ p) (under : p < to) {best : Worth}
      (least : LeastTo capacity from to points knapsack_costs knapsack_keys p best) where
    pub least_if_dearer : best.cost < (point_worth capacity p points knapsack_costs knapsack_keys).cost →
        LeastTo capacity from to points knapsack_costs knapsack_keys (suc p) best
    least_if_dearer dear n places f read = dearer_holds read lower under (least n places f read) dear

    pub least_if_cheap : (point_worth capacity p points knapsack_costs knapsack_keys).cost ≤ best.cost →
        LeastTo capacity from to points knapsack_costs knapsack_keys (suc p)
        (lesser_worth best (point_worth capacity p points knapsack_costs knapsack_keys))
    least_if_cheap cheap n places f read = lesser_holds read lower under (least n places f read) cheap

  -- after the last entry it is the knapsack's value
  pub least_of_all : {best : Worth} → LeastTo capacity from to points knapsack_costs knapsack_keys to best → (n places : ℕ)
      (f : (ℕ → Value) → ℕ → Value) → ListRead capacity from to points knapsack_costs knapsack_keys n places f →
      Holds (n + places) (f (knapsack_of knapsack_costs knapsack_keys) capacity) best.cost best.key
  least_of_all least n places f read =
      rw (read.listed.least (knapsack_of knapsack_costs knapsack_keys) read.knapsack_falls capacity (le_refl capacity)) at (least n places f read)
