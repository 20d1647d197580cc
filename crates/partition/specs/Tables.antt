-- Tables of a value for each set of n items, small enough that what the partition adds up fits 64 bits, and the table of one
-- core, which it starts from.
use Rattle.std.specs.Prelude.{ℕ, ◌^◌, ◌≤◌, ◌<◌, ◌≡◌, ◌⊎◌, Bool, List, length}
use Rattle.std.proofs.Common.{inl, inr, pow_mono}
use Rattle.std.proofs.Math.ListN.{get_or}
use Rattle.laws.specs.Below.{lt_or_le}
use Rattle.assignment.specs.Limits.{most_items, most_core_cost}
use Rattle.assignment.specs.Values.{Value, Within, absent, present}
use Rattle.assignment.specs.Words.{no_cost, value_of, words_none, words_pair, words_within}
use Rattle.assignment.specs.Keys.{key_base}
use Rattle.assignment.specs.Sets.{set_number, table_at, Tabled}
use Rattle.assignment.specs.SetLaws.{set_number-below, numbered}
use Rattle.assignment.specs.CoreTables.{Keyed}
use Rattle.assignment.specs.Bounds.{Bounded, BoundedTable}
use Rattle.assignment.specs.Entries.{entry_at}

-- no entry above noCost, no real cost above `most`, and every key of n digits
pub record SmallTable (n most : ℕ) (costs keys : List ℕ) : Type 0 where
  pub costs_for_all : 2 ^ n ≤ length costs
  pub keys_for_all : 2 ^ n ≤ length keys
  pub cost_bound : (x : ℕ) → x < 2 ^ n → get_or costs x 0 ≤ no_cost
  pub real_bound : (x : ℕ) → x < 2 ^ n → get_or costs x 0 < no_cost → get_or costs x 0 ≤ most
  pub key_bound_lem : (x : ℕ) → x < 2 ^ n → get_or keys x 0 < key_base ^ n

-- each real entry has the key of a pattern that keeps exactly its set
pub record OneCoreTable (n levels : ℕ) (costs keys : List ℕ) : Type 0 where
  pub small : SmallTable n most_core_cost costs keys
  pub keyed : (S : List Bool) → length S ≡ n → Keyed levels S (table_at n costs keys S)

-- the entries of the code's arrays
abbrev pub most_sets : ℕ
most_sets = 2 ^ most_items

pub room_for_sets : {n : ℕ} → n ≤ most_items → 2 ^ n ≤ most_sets
room_for_sets few = pow_mono few

module _ {n most : ℕ} {costs keys : List ℕ} where
  pub small_within : SmallTable n most costs keys → (x : ℕ) → x < 2 ^ n → Within most (key_base ^ n) (entry_at costs keys x)
  unfolding entry_at
  small_within table x h = go (lt_or_le (get_or costs x 0) no_cost)
    where
      go : (get_or costs x 0 < no_cost) ⊎ (no_cost ≤ get_or costs x 0) → Within most (key_base ^ n) (value_of (get_or costs x 0) (get_or keys x 0))
      go (inl real) = rw (words_pair _ _ real) (present (table.real_bound x h real) (table.key_bound_lem x h))
      go (inr dear) = rw (words_none _ _ dear) absent

  -- what is known of the values is known of their numbers; beside no cost the key has a bound of its own
  pub small_by_values : 2 ^ n ≤ length costs → 2 ^ n ≤ length keys → ((x : ℕ) → x < 2 ^ n → get_or costs x 0 ≤ no_cost) →
      ((x : ℕ) → x < 2 ^ n → no_cost ≤ get_or costs x 0 → get_or keys x 0 < key_base ^ n) →
      ((S : List Bool) → length S ≡ n → Within most (key_base ^ n) (table_at n costs keys S)) → SmallTable n most costs keys
  unfolding table_at
  small_by_values long keys_long bound no_key values =
      record {
        costs_for_all = long;
        keys_for_all = keys_long;
        cost_bound = bound;
        real_bound = λ x h real. (within x h real).0;
        key_bound_lem = λ x h. key x h (lt_or_le (get_or costs x 0) no_cost);
      }
    where
      within : (x : ℕ) → x < 2 ^ n → get_or costs x 0 < no_cost → (get_or costs x 0 ≤ most) × (get_or keys x 0 < key_base ^ n)
      within x h real =
          let s = numbered n x h in
          words_within _ _ real (rw s.number at (values s.set s.of_items))

      key : (x : ℕ) → x < 2 ^ n → (get_or costs x 0 < no_cost) ⊎ (no_cost ≤ get_or costs x 0) → get_or keys x 0 < key_base ^ n
      key x h (inl real) = (within x h real).1
      key x h (inr dear) = no_key x h dear

pub one_core_bounded : {n levels : ℕ} {costs keys : List ℕ} → OneCoreTable n levels costs keys →
    BoundedTable levels n most_core_cost (table_at n costs keys)
unfolding table_at entry_at
one_core_bounded {n} {levels} {costs} {keys} given =
    record { entry = λ S of_items. go (given.keyed S of_items) (small_within given.small (set_number n S) (set_number-below n S)) }
  where
    go : {S : List Bool} {v : Value} → Keyed levels S v → Within most_core_cost (key_base ^ n) v → Bounded levels most_core_cost S v
    go Keyed.absent within = Bounded.absent
    go (Keyed.present cost keeps) (present cheap digits) = Bounded.present cost cheap keeps

-- a table that was filled with any values, of which these two facts are known
pub one_core_table : {n levels : ℕ} {f : List Bool → Value} {costs keys : List ℕ} → Tabled n (key_base ^ n) f costs keys →
    ((x : ℕ) → x < 2 ^ n → get_or costs x 0 < no_cost → get_or costs x 0 ≤ most_core_cost) →
    ((S : List Bool) → length S ≡ n → Keyed levels S (table_at n costs keys S)) → OneCoreTable n levels costs keys
one_core_table filled costs_limited keyed =
    record {
      small =
          record {
            costs_for_all = filled.costs_for_all;
            keys_for_all = filled.marks_for_all;
            cost_bound = filled.cost_bound;
            real_bound = costs_limited;
            key_bound_lem = filled.key_bound_lem;
          };
      keyed = keyed;
    }
