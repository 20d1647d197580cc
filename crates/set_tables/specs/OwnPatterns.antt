-- Each item at its own cheapest level. The pattern of a set by these levels is the set's least, where a core admits it.
use Rattle.std.specs.Prelude.{ℕ, zero, suc, ◌-◌, ◌*◌, ◌^◌, ◌≤◌, ◌<◌, Bool, true, false, cond, not, ◌&&◌, ◌||◌, List, [], ◌∷◌, ◌≡◌, leb, ltb, length, get_or}
use Rattle.assignment.specs.Keys.{key_base, plan_key}
use Rattle.assignment.specs.Limits.{most_items, most_levels}
use Rattle.assignment.specs.Sets.{set_number}
use Rattle.assignment.specs.Words.{no_cost}
use Rattle.knapsack.specs.Offered.{entry_of}
use Rattle.lagrangian.specs.TimedCores.{timing_at, timing_width}
use Rattle.lagrangian.specs.TimedItems.{timed_core}
use Rattle.lagrangian.specs.declared.Timed.{Timed}
use Rattle.set_tables.specs.LiftedTables.{most_amount}
use Rattle.set_tables.specs.declared.own.OwnColumns.{OwnColumns}

-- whether a job of item i has its ticks within its window at level l
abbrev pub is_within : (timings : List ℕ) (i l : ℕ) → Bool
is_within timings i l = leb ((timing_at timings i).ticks l) (timing_at timings i).window

-- the words of both levels of item i stand in the slices
pub record LevelsOf (i l b : ℕ) (timings cost : List ℕ) : Type 0 where
  pub is_item : i < most_items
  pub is_level : l < most_levels
  pub is_best : b < most_levels
  pub timings_for_it : suc i * timing_width ≤ length timings
  pub costs_for_it : suc i * most_levels ≤ length cost

-- whether item i is better at level l than at level b: within its window where it was not, or cheaper
unfoldable pub is_better : (timings cost : List ℕ) (i l b : ℕ) → Bool
is_better timings cost i l b = is_within timings i l && (not (is_within timings i b) || ltb (entry_of cost i l) (entry_of cost i b))

-- of the first k levels of item i the cheapest at which a job has its ticks within its window, of equally cheap ones the first; level 0
-- where there is none
unfoldable pub own_level : (timings cost : List ℕ) (i k : ℕ) → ℕ
own_level timings cost i zero = 0
own_level timings cost i (suc k) = cond (is_better timings cost i k (own_level timings cost i k)) k (own_level timings cost i k)

-- each item of a set at its own level, from item i on
unfoldable pub own_from : (timings cost : List ℕ) (levels i : ℕ) → List Bool → List ℕ
own_from timings cost levels i [] = []
own_from timings cost levels i (false ∷ S) = 0 ∷ own_from timings cost levels (suc i) S
own_from timings cost levels i (true ∷ S) = suc (own_level timings cost i levels) ∷ own_from timings cost levels (suc i) S

abbrev pub own_pattern : (timed : Timed) (timings cost : List ℕ) → List Bool → List ℕ
own_pattern timed timings cost = own_from timings cost timed.levels 0

-- of the first k items, each at its own level: the ticks of a job, the cost where it is within its window, and its choice as a digit of a key
pub record OwnUpTo (timed : Timed) (timings cost : List ℕ) (k : ℕ) (own : OwnColumns) : Type 0 where
  pub ticks_places : length own.ticks ≡ most_items
  pub costs_places : length own.costs ≡ most_items
  pub digits_places : length own.digits ≡ most_items
  pub its_ticks : (i : ℕ) → i < k → get_or own.ticks i 0 ≡ (timing_at timings i).ticks (own_level timings cost i timed.levels)
  pub its_cost : (i : ℕ) → i < k → is_within timings i (own_level timings cost i timed.levels) ≡ true →
      get_or own.costs i 0 ≡ entry_of cost i (own_level timings cost i timed.levels)
  pub its_digit : (i : ℕ) → i < k → get_or own.digits i 0 ≡ suc (own_level timings cost i timed.levels) * key_base ^ (timed.items - 1 - i)
  pub low_costs : (i : ℕ) → get_or own.costs i 0 ≤ most_amount
  pub low_digits : (i : ℕ) → get_or own.digits i 0 ≤ most_amount

-- there is room for all sets, and the entries of the empty one are 0
pub record OwnRoom (timed : Timed) (costs keys : List ℕ) : Type 0 where
  pub costs_for_all : 2 ^ timed.items ≤ length costs
  pub keys_for_all : 2 ^ timed.items ≤ length keys
  pub costs_nothing : get_or costs 0 0 ≡ 0
  pub no_key : get_or keys 0 0 ≡ 0

-- what each set's own pattern costs where a core admits it, else none; and its key
pub record OwnTable (timed : Timed) (timings cost costs keys : List ℕ) : Type 0 where
  pub its_cost : (S : List Bool) → length S ≡ timed.items → get_or costs (set_number timed.items S) 0
      ≡ cond ((timed_core timed timings cost).admits (own_pattern timed timings cost S)) ((timed_core timed timings cost).cost (own_pattern timed timings cost S)) no_cost
  pub its_key : (S : List Bool) → length S ≡ timed.items → get_or keys (set_number timed.items S) 0 ≡ plan_key (own_pattern timed timings cost S)
