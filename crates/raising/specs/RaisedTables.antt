-- The table that the search in rounds keeps: nowhere above the least values, and exact where a set may not be tried again. Which of
-- its entries are raised, and when, does not matter.
use Rattle.std.specs.Prelude.{ℕ, ◌^◌, ◌≤◌, ◌<◌, ◌≡◌, refl, ◌⊎◌, ◌≢◌, Bool, true, false, List, eqb, length, set}
use Rattle.std.proofs.Common.{inl, inr, le_of_lt, le_refl, arith, eqb-true}
use Rattle.std.proofs.lemmas.Bool.{eqb-false}
use Rattle.std.proofs.Math.ListN.{get_or}
use Rattle.std.proofs.Math.Seq.{get_or-set_same, get_or-set_other}
use Rattle.laws.specs.Sums.{sum}
use Rattle.laws.specs.SumLaws.{sum_falls}
use Rattle.assignment.specs.Assignment.{Options}
use Rattle.assignment.specs.CoreTables.{Admitted, pattern_worth, Keyed}
use Rattle.assignment.specs.Limits.{most_core_cost}
use Rattle.assignment.specs.Sets.{set_number, table_at}
use Rattle.assignment.specs.Values.{AtMost, Least}
use Rattle.assignment.specs.Words.{no_cost, value_of}
use Rattle.core_tables.specs.AwakeCores.{surplus}
use Rattle.core_tables.specs.SetSizes.{items_in}
use Rattle.partition.specs.Tables.{SmallTable}

-- how often a set is tried at most
abbrev pub most_tries : ℕ
most_tries = 20

-- of n items; `left` has how often each set, by its number, may still be tried
pub record Raised (o : Options) (whole n : ℕ) (costs keys left : List ℕ) : Type 0 where
  pub small : SmallTable n most_core_cost costs keys
  -- each value is none or has the key of a pattern that keeps exactly its set
  pub keyed : (S : List Bool) → length S ≡ n → Keyed o.levels S (table_at n costs keys S)
  pub lower : (S : List Bool) → length S ≡ n → (pattern : List ℕ) → Admitted o S pattern → AtMost (table_at n costs keys S) (pattern_worth o pattern)
  -- no cost is below what is taken off it
  pub surplus_counted : (x : ℕ) → x < 2 ^ n → get_or costs x 0 < no_cost → surplus whole (items_in n x) ≤ get_or costs x 0
  pub tries_for_all : 2 ^ n ≤ length left
  pub few_tries : (x : ℕ) → x < 2 ^ n → get_or left x 0 ≤ most_tries
  pub least_where_settled : (S : List Bool) → length S ≡ n → get_or left (set_number n S) 0 ≡ 0 →
      Least (Admitted o S) (pattern_worth o) (table_at n costs keys S)

-- of all sets together: with each set that is tried fewer
unfoldable pub tries_left : ℕ → List ℕ → ℕ
tries_left n left = sum (λ x. get_or left x 0) (2 ^ n)

pub same_or_other : (x y : ℕ) → (x ≡ y) ⊎ (x ≢ y)
same_or_other x y = go (eqb x y) refl
  where
    go : (t : Bool) → eqb x y ≡ t → (x ≡ y) ⊎ (x ≢ y)
    go true e = inl (eqb-true x y e)
    go false e = inr (eqb-false x y e)

-- what holds of every element, and of one that is stored, holds of every element afterwards
pub stored : {A : Type 0} (P : ℕ → A → Type 0) (xs : List A) (x : ℕ) (v d : A) → x < length xs → P x v →
    (y : ℕ) → P y (get_or xs y d) → P y (get_or (set xs x v) y d)
stored P xs x v d room new y old = go (same_or_other y x)
  where
    go : (y ≡ x) ⊎ (y ≢ x) → P y (get_or (set xs x v) y d)
    go (inl e) = rw (e, get_or-set_same xs x v d room) new
    go (inr other) = rw (get_or-set_other xs x y v d other) old

module _ {o : Options} {whole n : ℕ} {costs keys left : List ℕ} (raised : Raised o whole n costs keys left) where
  pub in_costs : (x : ℕ) → x < 2 ^ n → x < length costs
  in_costs x under = omega (arith, raised.small.costs_for_all)

  pub in_keys : (x : ℕ) → x < 2 ^ n → x < length keys
  in_keys x under = omega (arith, raised.small.keys_for_all)

  pub in_tries : (x : ℕ) → x < 2 ^ n → x < length left
  in_tries x under = omega (arith, raised.tries_for_all)

  module _ (x cost key : ℕ) (under : x < 2 ^ n) where
    pub at_the_set : (S : List Bool) → set_number n S ≡ x → table_at n (set costs x cost) (set keys x key) S ≡ value_of cost key
    unfolding table_at
    at_the_set S this = rw (this, get_or-set_same costs x cost 0 (in_costs x under), get_or-set_same keys x key 0 (in_keys x under))

    pub at_others : (S : List Bool) → set_number n S ≢ x → table_at n (set costs x cost) (set keys x key) S ≡ table_at n costs keys S
    unfolding table_at
    at_others S other = rw (get_or-set_other costs x (set_number n S) cost 0 other, get_or-set_other keys x (set_number n S) key 0 other)

  pub fewer_tries : (x v : ℕ) → x < 2 ^ n → v < get_or left x 0 → tries_left n (set left x v) < tries_left n left
  unfolding tries_left
  fewer_tries x v under fewer =
      sum_falls (λ y. get_or (set left x v) y 0) (λ y. get_or left y 0) (2 ^ n) x
      (λ y h. stored (λ z tries. tries ≤ get_or left z 0) left x v 0 (in_tries x under) (le_of_lt fewer) y (le_refl (get_or left y 0))) under
      (rw (get_or-set_same left x v 0 (in_tries x under)) fewer)
