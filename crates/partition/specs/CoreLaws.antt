-- One core more is every split of every set, from entries of none.
use Rattle.std.specs.Prelude.{ℕ, ◌+◌, ◌*◌, ◌^◌, ◌≤◌, ◌<◌, ◌≡◌, refl, ◌⊎◌, Bool, drop}
use Rattle.std.proofs.Math.Path.{sym, ap}
use Rattle.std.proofs.Common.{ap₂, ◌∙◌, inl, inr, arith, drop_at}
use mathlib.Core.List.{List}
use Rattle.std.proofs.Math.Nat.{zero-add}
use Rattle.std.proofs.Math.ListN.{length, get_or}
use Rattle.laws.specs.Lists.{list_of, onto}
use Rattle.laws.specs.JoinedLaws.{length-list_of}
use Rattle.laws.specs.OntoLaws.{get_d-onto-list_of}
use Rattle.assignment.specs.Limits.{most_items}
use Rattle.assignment.specs.Values.{Value, none, add, lesser, to_none}
use Rattle.assignment.specs.ValueLaws.{lesser_is_second}
use Rattle.assignment.specs.Words.{no_cost, value_of, words_none, words_pair, words_add}
use Rattle.assignment.specs.Keys.{key_base, weight}
use Rattle.assignment.specs.KeyLaws.{keys_fit}
use Rattle.assignment.specs.Sets.{set_number, table_at}
use Rattle.assignment.specs.SetLaws.{set_number-below, numbered}
use Rattle.assignment.specs.Partition.{least_split, moved}
use Rattle.assignment.specs.SplitLaws.{part_length, least_split-parts}
use Rattle.assignment.specs.Entries.{entry_at}
use Rattle.partition.specs.Splits.{all_sets, sum_at, least_from, LoweredFrom, SumsReady, SplitsReady}
use Rattle.partition.specs.Moves.{MovesReady, MovedBelow}
use Rattle.partition.specs.MoveLaws.{weight_below}
use Rattle.partition.specs.Tables.{SmallTable, most_sets, room_for_sets}
use Rattle.partition.specs.Cores.{CoreReady, CoreAdded}

-- entries that are copied to the front leave the others
pub others_kept : (from : List ℕ) (n : ℕ) (before : List ℕ) {after : List ℕ} → after ≡ onto (list_of (λ x. get_or from x 0) n) before →
    drop n after ≡ drop n before
unfolding onto
others_kept from n before copied =
    let count = length-list_of (λ x. get_or from x 0) n in
    rw (copied, count) (drop_at (list_of (λ x. get_or from x 0) n) (drop n before) n count)

pub moves_ready : {n shift most : ℕ} {tops top_keys lent : List ℕ} → n ≤ most_items → shift < key_base → SmallTable n most tops top_keys →
    2 ^ n ≤ length lent → MovesReady n shift top_keys lent
moves_ready few small table long =
    record {
      few_items = few;
      small_shift = small;
      keys_long = table.keys_for_all;
      key_bound_lem = table.key_bound_lem;
      moved_long = long;
    }

module _ {n shift : ℕ} {tops top_keys costs keys : List ℕ} (ready : CoreReady n shift tops top_keys costs keys) where
  module _ {moved_keys : List ℕ} (long : 2 ^ n ≤ length moved_keys) (is_moved : MovedBelow n shift (2 ^ n) top_keys moved_keys) where
    moved_bound : (x : ℕ) → x < 2 ^ n → get_or moved_keys x 0 < key_base ^ n + key_base ^ n
    moved_bound x h =
        let s = numbered n x h in
        let at = rw s.number at (is_moved.at s.set s.of_items (rw s.number h)) in
        omega (arith, ready.top_table.key_bound_lem x h, rw s.of_items at (weight_below ready.small_shift s.set))

    pub sums_ready : SumsReady (2 ^ n) 0 0 tops moved_keys costs keys
    sums_ready =
        record {
          sets = record { exponent = n; is_power = refl };
          costs_fit = record {
            tops_long = omega (arith, ready.top_table.costs_for_all);
            rests_long = omega (arith, ready.rest_table.costs_for_all);
            sums_fit = λ x y h j.
                rw (zero-add x, zero-add y) (omega (arith, ready.top_table.cost_bound x h, ready.rest_table.cost_bound y j));
          };
          keys_fit = record {
            tops_long = omega arith;
            rests_long = omega (arith, ready.rest_table.keys_for_all);
            sums_fit = λ x y h j.
                rw (zero-add x, zero-add y)
                (omega (arith, moved_bound x h, ready.rest_table.key_bound_lem y j, keys_fit ready.few_items));
          };
        }

    pub splits_ready : {next next_keys : List ℕ} → most_sets ≤ length next → most_sets ≤ length next_keys →
        SplitsReady (all_sets n) tops moved_keys costs keys next next_keys
    splits_ready room key_room =
        let few = room_for_sets ready.few_items in
        record {
          sets = sums_ready.sets;
          costs_fit = sums_ready.costs_fit;
          keys_fit = sums_ready.keys_fit;
          costs_long = omega arith;
          keys_long = omega arith;
        }

    -- what the sums of the code are
    sum_value : (T R : List Bool) → length T ≡ n →
        sum_at tops moved_keys costs keys (0 + set_number n T) (0 + set_number n R)
        ≡ add (moved shift (table_at n tops top_keys) T) (table_at n costs keys R)
    unfolding sum_at moved table_at
    sum_value T R t =
        let a = get_or tops (set_number n T) 0 in
        let x = get_or top_keys (set_number n T) 0 in
        let b = get_or costs (set_number n R) 0 in
        let y = get_or keys (set_number n R) 0 in
        let w = shift * weight T in
        let real : 0 + a < no_cost → b < no_cost → 0 + a + b < no_cost =
        λ p q.
        let top = ready.top_table.real_bound (set_number n T) (set_number-below n T) (omega arith) in
        let rest = ready.rest_table.real_bound (set_number n R) (set_number-below n R) q in
        omega (arith, ready.room) in
        rw (zero-add (set_number n T), zero-add (set_number n R), is_moved.at T t (set_number-below n T))
        (ap₂ value_of (omega arith) (omega arith)
        ∙ sym
        (ap (λ (u : Value). add (add u (value_of a x)) (value_of b y)) (sym (words_pair 0 w (omega arith)))
        ∙ ap (λ (u : Value). add u (value_of b y)) (words_add 0 w a x (λ p q. omega arith))
        ∙ words_add (0 + a) (w + x) b y real))

    pub sums_same : (S : List Bool) → length S ≡ n →
        least_from n (sum_at tops moved_keys costs keys) 0 0 S
        ≡ least_split S (λ T R. add (moved shift (table_at n tops top_keys) T) (table_at n costs keys R))
    unfolding least_from
    sums_same S of_items = least_split-parts S (λ T R p. sum_value T R (part_length p ∙ of_items))

    module _ {blank blank_keys next next_keys costs' keys' : List ℕ}
        (nothing : (x : ℕ) → x < 2 ^ n → get_or blank x 0 ≡ no_cost) (no_key : (x : ℕ) → x < 2 ^ n → get_or blank_keys x 0 ≡ 0)
        (lowered : LoweredFrom n (all_sets n) (sum_at tops moved_keys costs keys) blank blank_keys next next_keys)
        (copied : costs' ≡ onto (list_of (λ x. get_or next x 0) (2 ^ n)) costs)
        (keys_copied : keys' ≡ onto (list_of (λ x. get_or next_keys x 0) (2 ^ n)) keys) where
      cost_at : (x : ℕ) → x < 2 ^ n → get_or costs' x 0 ≡ get_or next x 0
      cost_at x h = rw copied (get_d-onto-list_of (λ k. get_or next k 0) costs (2 ^ n) x 0 h)

      key_at : (x : ℕ) → x < 2 ^ n → get_or keys' x 0 ≡ get_or next_keys x 0
      key_at x h = rw keys_copied (get_d-onto-list_of (λ k. get_or next_keys k 0) keys (2 ^ n) x 0 h)

      nothing_at : (x : ℕ) → x < 2 ^ n → entry_at blank blank_keys x ≡ none
      unfolding entry_at
      nothing_at x h = rw (nothing x h) (words_none no_cost _ (omega arith))

      pub core_added : CoreAdded n shift tops top_keys costs keys costs' keys'
      unfolding entry_at table_at
      core_added =
          record {
            holds = holds;
            other_costs = others_kept next (2 ^ n) costs copied;
            other_keys = others_kept next_keys (2 ^ n) keys keys_copied;
            bounded = λ x h. bounded x h (lowered.no_dearer.at x);
          }
        where
          holds : (S : List Bool) → length S ≡ n →
              entry_at costs' keys' (set_number n S)
              ≡ least_split S (λ T R. add (moved shift (table_at n tops top_keys) T) (table_at n costs keys R))
          holds S of_items =
              let x = set_number n S in
              let below = set_number-below n S in
              let there : entry_at next next_keys x ≡ lesser (entry_at blank blank_keys x) (least_from n (sum_at tops moved_keys costs keys) 0 0 S) =
              rw zero-add at (lowered.there S of_items) in
              let same : entry_at costs' keys' x ≡ entry_at next next_keys x = rw (cost_at x below, key_at x below) in
              same ∙ there ∙ rw (nothing_at x below) (lesser_is_second to_none ∙ sums_same S of_items)

          bounded : (x : ℕ) → x < 2 ^ n →
              (get_or next x 0 < get_or blank x 0) ⊎ ((get_or next x 0 ≡ get_or blank x 0) × (get_or next_keys x 0 ≤ get_or blank_keys x 0)) →
              (get_or costs' x 0 < no_cost) ⊎ ((get_or costs' x 0 ≡ no_cost) × (get_or keys' x 0 ≡ 0))
          bounded x h (inl less) =
              let a = cost_at x h in
              let b = nothing x h in
              inl (omega arith)
          bounded x h (inr (same, le)) =
              let a = cost_at x h in
              let b = nothing x h in
              let d = key_at x h in
              let e = no_key x h in
              inr (omega arith, omega arith)
