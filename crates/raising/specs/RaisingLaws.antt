-- The entry of one set is raised: the table stays nowhere above the least values.
use Rattle.std.specs.Prelude.{ℕ, ◌^◌, ◌≤◌, ◌<◌, ◌≡◌, ◌⊎◌, ◌≢◌, Bool, List, length, get_or, set}
use Rattle.std.proofs.Common.{inl, inr, arith, length-set, get_or-set_same, get_or-set_other}
use Rattle.assignment.specs.Assignment.{Options}
use Rattle.assignment.specs.CoreTables.{Admitted, pattern_worth, Keyed}
use Rattle.assignment.specs.Keys.{key_base}
use Rattle.assignment.specs.Limits.{most_core_cost}
use Rattle.assignment.specs.Sets.{set_number, table_at}
use Rattle.assignment.specs.SetLaws.{numbered}
use Rattle.assignment.specs.Values.{Value, pair, AtMost, Attained, Least}
use Rattle.assignment.specs.Words.{no_cost, value_of, words_pair}
use Rattle.core_tables.specs.AwakeCores.{surplus}
use Rattle.core_tables.specs.SetSizes.{items_in, items_in-set}
use Rattle.partition.specs.Tables.{SmallTable}
use Rattle.raising.specs.ChargedOptions.{CostsCounted}
use Rattle.raising.specs.RaisedTables.{most_tries, Raised, same_or_other, stored, in_costs, in_keys, in_tries, at_the_set, at_others}

-- what the code holds for the least value of the set with number x
pub record LeastOfSet (o : Options) (n x cost key : ℕ) : Type 0 where
  pub least : (S : List Bool) → length S ≡ n → set_number n S ≡ x → Least (Admitted o S) (pattern_worth o) (value_of cost key)
  pub at_most_none : cost ≤ no_cost
  pub digits : key < key_base ^ n

-- what it may hold in the entry of that set, where the set may still be tried so often
pub record EntryOfSet (o : Options) (whole n x tries cost key : ℕ) : Type 0 where
  pub keyed : (S : List Bool) → length S ≡ n → set_number n S ≡ x → Keyed o.levels S (value_of cost key)
  pub lower : (S : List Bool) → length S ≡ n → set_number n S ≡ x → (pattern : List ℕ) → Admitted o S pattern →
      AtMost (value_of cost key) (pattern_worth o pattern)
  pub least_where_settled : tries ≡ 0 → (S : List Bool) → length S ≡ n → set_number n S ≡ x → Least (Admitted o S) (pattern_worth o) (value_of cost key)
  pub at_most_none : cost ≤ no_cost
  pub counted : cost < no_cost → (surplus whole (items_in n x) ≤ cost) × (cost ≤ most_core_cost)
  pub digits : key < key_base ^ n

-- a least value has the key of a pattern that keeps exactly the set
least_keyed : {o : Options} {T : List Bool} {v : Value} → Least (Admitted o T) (pattern_worth o) v → Keyed o.levels T v
unfolding pattern_worth
least_keyed {o} {T} least = go least.attained
  where
    go : {v : Value} → Attained (Admitted o T) (pattern_worth o) v → Keyed o.levels T v
    go (inl e) = rw e Keyed.absent
    go (inr (pattern, admitted, e)) = rw e (Keyed.present (o.core_cost pattern) admitted.keeps)

-- a least value that is real is what an admitted pattern costs
pub least_real : {o : Options} {T : List Bool} (cost key : ℕ) → Least (Admitted o T) (pattern_worth o) (value_of cost key) → cost < no_cost →
    (pattern : List ℕ) × Admitted o T pattern × (cost ≡ o.core_cost pattern)
unfolding pattern_worth
least_real {o} {T} cost key least real = go (rw (words_pair cost key real) at least.attained)
  where
    go : Attained (Admitted o T) (pattern_worth o) (pair cost key) → (pattern : List ℕ) × Admitted o T pattern × (cost ≡ o.core_cost pattern)
    go (inl e) = let z : ◌≡◌ {A = ℕ} 0 1 = cc in absurd (omega arith)
    go (inr (pattern, admitted, e)) = (pattern, admitted, cc)

-- a least value may stand in its set's entry, however often the set may be tried
pub least_entry : {o : Options} {whole n x cost key : ℕ} → CostsCounted whole n o → x < 2 ^ n → LeastOfSet o n x cost key → (tries : ℕ) →
    EntryOfSet o whole n x tries cost key
least_entry {o} {whole} {n} {x} {cost} {key} counted under new tries =
    record {
      keyed = λ S of_items this. least_keyed (new.least S of_items this);
      lower = λ S of_items this. (new.least S of_items this).below;
      least_where_settled = λ settled. new.least;
      at_most_none = new.at_most_none;
      counted = new_cost;
      digits = new.digits;
    }
  where
    new_cost : cost < no_cost → (surplus whole (items_in n x) ≤ cost) × (cost ≤ most_core_cost)
    new_cost real =
        let s = numbered n x under in
        let (pattern, admitted, costs_so) = least_real cost key (new.least s.set s.of_items s.number) real in
        rw (← s.number, items_in-set n s.set s.of_items, costs_so)
        (counted.at_least s.set s.of_items pattern admitted, counted.at_most s.set s.of_items pattern admitted)

module _ {o : Options} {whole n : ℕ} {costs keys left : List ℕ} (raised : Raised o whole n costs keys left) {x tries cost key : ℕ}
    (under : x < 2 ^ n) (few : tries ≤ most_tries) (new : EntryOfSet o whole n x tries cost key)
  where
    new_small : SmallTable n most_core_cost (set costs x cost) (set keys x key)
    new_small =
        let before = raised.small in
        record {
          costs_for_all = rw (length-set costs x cost) before.costs_for_all;
          keys_for_all = rw (length-set keys x key) before.keys_for_all;
          cost_bound = λ y h. stored (λ z c. c ≤ no_cost) costs x cost 0 (in_costs raised x under) new.at_most_none y (before.cost_bound y h);
          real_bound = λ y h.
              stored (λ z c. c < no_cost → c ≤ most_core_cost) costs x cost 0 (in_costs raised x under) (λ real. (new.counted real).1) y (before.real_bound y h);
          key_bound_lem = λ y h. stored (λ z k. k < key_base ^ n) keys x key 0 (in_keys raised x under) new.digits y (before.key_bound_lem y h);
        }

    -- what is known of the new value, and of the others where they stand, is known of all
    each_entry : (P : List Bool → Value → Type 0) → ((S : List Bool) → length S ≡ n → set_number n S ≡ x → P S (value_of cost key)) →
        (S : List Bool) → length S ≡ n → P S (table_at n costs keys S) → P S (table_at n (set costs x cost) (set keys x key) S)
    each_entry P this_one S of_items old = go (same_or_other (set_number n S) x)
      where
        go : (set_number n S ≡ x) ⊎ (set_number n S ≢ x) → P S (table_at n (set costs x cost) (set keys x key) S)
        go (inl this) = rw (at_the_set raised x cost key under S this) (this_one S of_items this)
        go (inr other) = rw (at_others raised x cost key under S other) old

    new_least : (S : List Bool) → length S ≡ n → get_or (set left x tries) (set_number n S) 0 ≡ 0 →
        Least (Admitted o S) (pattern_worth o) (table_at n (set costs x cost) (set keys x key) S)
    new_least S of_items settled = go (same_or_other (set_number n S) x)
      where
        go : (set_number n S ≡ x) ⊎ (set_number n S ≢ x) → Least (Admitted o S) (pattern_worth o) (table_at n (set costs x cost) (set keys x key) S)
        go (inl this) =
            rw (at_the_set raised x cost key under S this)
            (new.least_where_settled (rw (this, get_or-set_same left x tries 0 (in_tries raised x under)) at settled) S of_items this)
        go (inr other) =
            rw (at_others raised x cost key under S other)
            (raised.least_where_settled S of_items (rw (get_or-set_other left x (set_number n S) tries 0 other) at settled))

    pub one_more_tried : Raised o whole n (set costs x cost) (set keys x key) (set left x tries)
    one_more_tried =
        record {
          small = new_small;
          keyed = λ S of_items. each_entry (Keyed o.levels) new.keyed S of_items (raised.keyed S of_items);
          lower = λ S of_items.
              each_entry (λ T v. (pattern : List ℕ) → Admitted o T pattern → AtMost v (pattern_worth o pattern)) new.lower S of_items
              (raised.lower S of_items);
          surplus_counted = λ y h.
              stored (λ z c. c < no_cost → surplus whole (items_in n z) ≤ c) costs x cost 0 (in_costs raised x under) (λ real. (new.counted real).0) y
              (raised.surplus_counted y h);
          tries_for_all = rw (length-set left x tries) raised.tries_for_all;
          few_tries = λ y h. stored (λ z t. t ≤ most_tries) left x tries 0 (in_tries raised x under) few y (raised.few_tries y h);
          least_where_settled = new_least;
        }
