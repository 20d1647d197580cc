-- A knapsack as the code holds it, an entry of two numbers for each load up to the capacity, and how one level of an item is
-- taken into account in it.
use Prim.Native.Nat.{ℕ, suc, ◌+◌, ◌*◌, ◌-◌, ◌^◌, ◌≤◌, ◌<◌, suc-le-suc}
use Rattle.std.specs.Prelude.{◌≡◌, refl, ◌⊎◌, List, length, get_or}
use Rattle.std.proofs.Common.{sym, pow-suc, eq-or-lt_of_le, mul-le-mul_right, arith}
use Rattle.std.proofs.Math.Logic.{inl, inr}
use Rattle.std.proofs.Math.Nat.{one-le-pow, suc-mul}
use borrow.Author.Tests.{le-leb, lt-leb}
use Rattle.knapsack.specs.Offers.{Offer}
use Rattle.assignment.specs.Limits.{most_items, most_levels, most_cost}
use Rattle.assignment.specs.Values.{Value, least_below, to_none}
use Rattle.assignment.specs.ValueLaws.{lesser_is_first}
use Rattle.assignment.specs.Words.{no_cost, value_of, words_none, words_pair, words_add, words_lesser_first, words_lesser_second}
use Rattle.assignment.specs.Keys.{key_base}
use Rattle.knapsack.specs.Knapsacks.{at_level}
use Rattle.values.specs.Worths.{Small}

-- a knapsack of m items, up to the capacity
pub record KnapsackHeld (m capacity : ℕ) (costs keys : List ℕ) : Type 0 where
  pub costs_to_capacity : capacity < length costs
  pub keys_to_capacity : capacity < length keys
  pub small : (w : ℕ) → w ≤ capacity → Small m (get_or costs w 0) (get_or keys w 0)

unfoldable pub knapsack_of : List ℕ → List ℕ → ℕ → Value
knapsack_of costs keys w = value_of (get_or costs w 0) (get_or keys w 0)

-- what an entry (c, k) for load w becomes by an item of this load and cost, which adds `key`, before a knapsack: the entry of
-- the item and the knapsack, where that is cheaper
pub data Relaxed (load cost key : ℕ) (costs keys : List ℕ) (w c k : ℕ) : ℕ → ℕ → Type 0 where
  no_room : w < load → Relaxed load cost key costs keys w c k c k
  no_cheaper : load ≤ w → c ≤ cost + get_or costs (w - load) 0 → Relaxed load cost key costs keys w c k c k
  cheaper : load ≤ w → cost + get_or costs (w - load) 0 < c →
      Relaxed load cost key costs keys w c k (cost + get_or costs (w - load) 0) (key + get_or keys (w - load) 0)

-- (c, k) is the least of the item's first l levels, in front of m items with the knapsack `rest`, in load at most w
pub record LeastAt (offer : Offer) (m l : ℕ) (rest : ℕ → Value) (w c k : ℕ) : Type 0 where
  pub value : value_of c k ≡ least_below l (at_level offer m rest w)
  pub at_most_none : c ≤ no_cost
  pub real : c < no_cost → c ≤ suc m * most_cost
  pub digits : k < suc l * key_base ^ m

pub least_of_no_level : (offer : Offer) (m : ℕ) (rest : ℕ → Value) (w : ℕ) → LeastAt offer m 0 rest w no_cost 0
unfolding least_below key_base
least_of_no_level offer m rest w =
    record {
      value = words_none no_cost 0 (omega arith);
      at_most_none = omega arith;
      real = omega arith;
      digits = omega (arith, one-le-pow m key_base (omega arith));
    }

-- The least of one level more, by what becomes of the entry: the level finds no room, or stands before something in the rest
-- that is worth (d, j), and is then no cheaper or cheaper.

module _ {offer : Offer} {m l w c k : ℕ} {rest : ℕ → Value} (least : LeastAt offer m l rest w c k) where
  least_without_room : w < offer.load l → LeastAt offer m (suc l) rest w c k
  unfolding least_below at_level
  least_without_room h =
      record {
        value = rw (← least.value, lt-leb (offer.load l) w h) (sym (lesser_is_first to_none));
        at_most_none = least.at_most_none;
        real = least.real;
        digits = omega (arith, suc-mul (suc l) (key_base ^ m));
      }

  module _ (few : m ≤ most_items) (fits : offer.load l ≤ w) (cheap : offer.cost l ≤ most_cost) {d j : ℕ} (small : Small m d j)
      (worth : value_of d j ≡ rest (w - offer.load l)) where
    level_value : at_level offer m rest w l ≡ value_of (offer.cost l + d) (suc l * key_base ^ m + j)
    unfolding at_level
    level_value =
        rw (le-leb (offer.load l) w fits, ← worth, ← words_pair (offer.cost l) (suc l * key_base ^ m) (omega arith))
        (words_add _ _ _ _ (λ p q. omega (arith, small.real q)))

    least_no_cheaper : c ≤ offer.cost l + d → LeastAt offer m (suc l) rest w c k
    unfolding least_below
    least_no_cheaper dear =
        record {
          value = rw (← least.value, level_value) (sym (words_lesser_first _ _ _ _ (go (eq-or-lt_of_le dear))));
          at_most_none = least.at_most_none;
          real = least.real;
          digits = omega (arith, suc-mul (suc l) (key_base ^ m));
        }
      where
        go : (c ≡ offer.cost l + d) ⊎ (c < offer.cost l + d) →
            (c < offer.cost l + d) ⊎ ((c ≡ offer.cost l + d) × (k ≤ suc l * key_base ^ m + j))
        go (inl e) = inr (e, omega (arith, least.digits))
        go (inr h) = inl h

    least_cheaper : offer.cost l + d < c → LeastAt offer m (suc l) rest w (offer.cost l + d) (suc l * key_base ^ m + j)
    unfolding least_below
    least_cheaper less =
        record {
          value = rw (← least.value, level_value) (sym (words_lesser_second _ _ _ _ (inl less)));
          at_most_none = omega (arith, least.at_most_none);
          real = λ h. omega (arith, small.real (omega arith));
          digits = omega (arith, suc-mul (suc l) (key_base ^ m), small.digits);
        }

one_more : {offer : Offer} {m l w c k : ℕ} {costs keys : List ℕ} {d j : ℕ} → m ≤ most_items →
    (offer.load l ≤ w → offer.cost l ≤ most_cost) → ((u : ℕ) → u ≤ w → Small m (get_or costs u 0) (get_or keys u 0)) →
    LeastAt offer m l (knapsack_of costs keys) w c k →
    Relaxed (offer.load l) (offer.cost l) (suc l * key_base ^ m) costs keys w c k d j →
    LeastAt offer m (suc l) (knapsack_of costs keys) w d j
unfolding knapsack_of
one_more few cheap small least (no_room h) = least_without_room least h
one_more few cheap small least (no_cheaper fits dear) =
    least_no_cheaper least few fits (cheap fits) (small _ (omega arith)) refl dear
one_more few cheap small least (cheaper fits less) =
    least_cheaper least few fits (cheap fits) (small _ (omega arith)) refl less

pub least_of_one_more : {offer : Offer} {m l w c k d j : ℕ} {costs keys : List ℕ} → m ≤ most_items →
    (offer.load l ≤ w → offer.cost l ≤ most_cost) → ((u : ℕ) → u ≤ w → Small m (get_or costs u 0) (get_or keys u 0)) →
    LeastAt offer m l (knapsack_of costs keys) w c k →
    Relaxed (offer.load l) (offer.cost l) (suc l * key_base ^ m) costs keys w c k d j →
    LeastAt offer m (suc l) (knapsack_of costs keys) w d j
least_of_one_more few cheap small least relaxed = one_more few cheap small least relaxed

pub least_of_all_levels : {offer : Offer} {m levels w c k : ℕ} {rest : ℕ → Value} → levels ≤ most_levels →
    LeastAt offer m levels rest w c k → Small (suc m) c k
unfolding key_base
least_of_all_levels {m = m} {levels} few least =
    record {
      at_most_none = least.at_most_none;
      real = least.real;
      digits = omega (arith, pow-suc key_base m, mul-le-mul_right (key_base ^ m) (suc-le-suc few));
    }
