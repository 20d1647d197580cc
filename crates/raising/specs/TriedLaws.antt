-- A set is tried: what the search up to a limit finds may stand in its entry, or its cost with the least key of the set.
use Rattle.std.specs.Prelude.{ℕ, ◌^◌, ◌≤◌, ◌<◌, ◌≡◌, refl, ◌⊎◌, Bool, true, false, List, [], length, get_or, set}
use Rattle.std.proofs.Common.{◌∙◌, inl, inr, le_trans}
use native.Mathlib.Omega.{arith}
use Rattle.laws.specs.Below.{lt_or_le}
use Rattle.laws.specs.Truth.{false_not_true}
use Rattle.assignment.specs.CoreTables.{Admitted, pattern_worth, Keyed}
use Rattle.assignment.specs.Keys.{key_base, weight}
use Rattle.assignment.specs.Limits.{most_core_cost}
use Rattle.assignment.specs.SetLaws.{numbered}
use Rattle.assignment.specs.Sets.{set_number}
use Rattle.assignment.specs.Values.{pair}
use Rattle.assignment.specs.Words.{no_cost, value_of, words_none, words_pair}
use Rattle.core_tables.specs.AwakeCores.{surplus}
use Rattle.core_tables.specs.SetSizes.{items_in, items_in-set}
use Rattle.partition.specs.MoveLaws.{weight_below}
use Rattle.lagrangian.specs.FrontKeyLaws.{power_above_0}
use Rattle.lagrangian.specs.Reached.{worth_on}
use Rattle.lagrangian.specs.TimedCores.{timed_options}
use Rattle.timed_sets.specs.Found.{SmallWorth, LeastInTime, LowerInTime, FoundUpTo, is_least, is_limit, NoneCheaper, CostUpTo, least_cost, limit_cost}
use Rattle.timed_sets.specs.SetTheorem.{least_without_limit}
use Rattle.values.specs.Worths.{worth_of}
use Rattle.values.specs.declared.value.Worth.{Worth}
use Rattle.raising.specs.LeastKeys.{weight_first, weight_keyed}
use Rattle.raising.specs.RaisedTables.{fewer_tries}
use Rattle.raising.specs.RaisingLaws.{LeastOfSet, EntryOfSet, least_entry, one_more_tried}
use Rattle.raising.specs.TimedSites.{timed_of, core_of, SiteReady, SiteRaised, SetsWeighed, LimitReady, LimitAt, LimitOf, TriesAfter, SetTried}
use Rattle.raising.specs.declared.Site.{Site}

-- a limit above an entry, and not the last try's
pub limit_above : {n tries low key c : ℕ} {most : Worth} → LimitReady n tries low key → low ≤ c → 1 < tries → LimitAt c key most → LimitOf n tries low key most
limit_above {n} {key = key} {most = most} ready above not_last limit =
    record {
      at_most_none = limit.at_most_none;
      digits = digits (lt_or_le most.cost no_cost);
      cost = λ real. let its = limit.real real in (omega (arith, its.0), omega (arith, its.0, its.2));
      least_key = λ real. (limit.real real).1;
      not_last = λ real. not_last;
    }
  where
    digits : (most.cost < no_cost) ⊎ (no_cost ≤ most.cost) → most.key < key_base ^ n
    digits (inl real) = rw (limit.real real).1 ready.digits
    digits (inr dear) = rw (limit.no_key dear) (power_above_0 n)

-- the least value in time, as the core of a site has it
in_time_least : (site : Site) {x : ℕ} {timings cost : List ℕ} {r : Worth} → LeastInTime (timed_of site) x timings cost r →
    LeastOfSet (core_of site timings cost) site.items x r.cost r.key
unfolding core_of
in_time_least site found =
    record { least = found.least 1 [] []; at_most_none = found.small.at_most_none; digits = found.small.digits }

-- words that stand for a real value are its numbers
same_words : {r most : Worth} → most.cost < no_cost → worth_of r ≡ worth_of most → (r.cost ≡ most.cost) × (r.key ≡ most.key)
same_words {r} {most} real same = go (lt_or_le r.cost no_cost) (rw (words_pair most.cost most.key real) at same)
  where
    go : (r.cost < no_cost) ⊎ (no_cost ≤ r.cost) → worth_of r ≡ pair most.cost most.key → (r.cost ≡ most.cost) × (r.key ≡ most.key)
    go (inl below) e = let told = rw (words_pair r.cost r.key below) at e in (cc, cc)
    go (inr dear) e =
        let told = rw (words_none r.cost r.key dear) at e in
        let z : ◌≡◌ {A = ℕ} 0 1 = cc in
        absurd (omega arith)

-- words that stand for a pair are real, and its numbers
pair_words : (r : Worth) {c k : ℕ} → worth_of r ≡ pair c k → (r.cost < no_cost) × (r.cost ≡ c)
pair_words r {c} {k} same = go (lt_or_le r.cost no_cost)
  where
    go : (r.cost < no_cost) ⊎ (no_cost ≤ r.cost) → (r.cost < no_cost) × (r.cost ≡ c)
    go (inl below) = let told = rw (words_pair r.cost r.key below) at same in (below, cc)
    go (inr dear) =
        let told = rw (words_none r.cost r.key dear) at same in
        let z : ◌≡◌ {A = ℕ} 0 1 = cc in
        absurd (omega arith)

module _ {site : Site} {timings cost costs keys left weights : List ℕ} (ready : SiteReady site timings cost)
    (weighed : SetsWeighed site.items weights) (table : SiteRaised site timings cost costs keys left) {x : ℕ} (under : x < 2 ^ site.items) where
  pub ready_for_limit : LimitReady site.items (get_or left x 0) (get_or costs x 0) (get_or weights x 0)
  unfolding key_base
  ready_for_limit =
      record {
        few_items = ready.limits.items;
        few_tries = table.few_tries x under;
        at_most_none = table.small.cost_bound x under;
        digits =
            let s = numbered site.items x under in
            let one_digit : 1 < 33 = omega arith in
            let its = rw s.number at (weighed.each.at s.set s.of_items (rw s.number under)) in
            omega (arith, its, rw s.of_items at (weight_below one_digit s.set));
      }

  least_key : get_or weights x 0 < key_base ^ site.items
  least_key = ready_for_limit.digits

  -- the entry with the set's least key
  least_keyed : {c key : ℕ} → c < no_cost → key ≡ get_or weights x 0 → (S : List Bool) → length S ≡ site.items → set_number site.items S ≡ x →
      Keyed site.levels S (value_of c key)
  least_keyed {c} {key} real is S of_items this =
      let its : key ≡ weight S = is ∙ rw this at (weighed.each.at S of_items (rw this under)) in
      rw (words_pair c key real, its) (weight_keyed ready.some_level S c)

  module _ {keyed : Bool} {most found : Worth} {tries key : ℕ}
      (limit : LimitOf site.items (get_or left x 0) (get_or costs x 0) (get_or weights x 0) most)
      (small : SmallWorth (timed_of site) found) (after : TriesAfter keyed (get_or left x 0) most found tries)
      (its_key : (keyed ≡ true → key ≡ found.key) × (keyed ≡ false → key ≡ get_or weights x 0)) where
    -- what a limit costs is counted
    limit_counted : most.cost < no_cost → found.cost ≡ most.cost → (surplus site.whole (items_in site.items x) ≤ found.cost) × (found.cost ≤ most_core_cost)
    limit_counted real same = (
      le_trans (table.surplus_counted x under (omega (arith, same, (limit.cost real).0))) (omega (arith, same, (limit.cost real).0)),
      omega (arith, same, (limit.cost real).1),
    )

    -- a limit that nothing comes before
    limit_entry : most.cost < no_cost → worth_of found ≡ worth_of most → LowerInTime (timed_of site) x timings cost found →
        EntryOfSet (core_of site timings cost) site.whole site.items x tries found.cost found.key
    unfolding core_of timed_options pattern_worth worth_on
    limit_entry real same lower =
        let words = same_words {r = found} {most = most} real same in
        record {
          keyed = least_keyed (omega (arith, words.0)) (words.1 ∙ limit.least_key real);
          lower = λ S of_items this pattern admitted. lower.lower S of_items this pattern admitted.keeps admitted.admitted;
          least_where_settled = λ settled. absurd (still_open words (after.settled settled));
          at_most_none = small.at_most_none;
          counted = λ below. limit_counted real words.0;
          digits = small.digits;
        }
      where
        still_open : (found.cost ≡ most.cost) × (found.key ≡ most.key) → (no_cost ≤ most.cost) ⊎ ((found.cost < most.cost) ⊎ (found.key < most.key)) → ⊥
        still_open words (inl dear) = omega arith
        still_open words (inr (inl cheaper)) = omega (arith, words.0)
        still_open words (inr (inr first)) = omega (arith, words.1)

    tried_entry : FoundUpTo (timed_of site) x timings cost most found →
        EntryOfSet (core_of site timings cost) site.whole site.items x tries found.cost found.key
    tried_entry (is_least least) = least_entry ready.counted under (in_time_least site least) tries
    tried_entry (is_limit same lower) = go (lt_or_le most.cost no_cost)
      where
        go : (most.cost < no_cost) ⊎ (no_cost ≤ most.cost) →
            EntryOfSet (core_of site timings cost) site.whole site.items x tries found.cost found.key
        go (inl real) = limit_entry real same lower
        go (inr dear) =
            least_entry ready.counted under
            (in_time_least site (least_without_limit (is_limit same lower) (words_none most.cost most.key dear) small)) tries

    -- a cost that was found is real, and counted
    cost_counted : most.cost < no_cost → CostUpTo (timed_of site) x timings cost most found →
        (found.cost < no_cost) × (surplus site.whole (items_in site.items x) ≤ found.cost) × (found.cost ≤ most_core_cost)
        × NoneCheaper (timed_of site) x timings cost found.cost
    unfolding core_of timed_options worth_on
    cost_counted real (limit_cost same none_cheaper) =
        let words = same_words {r = found} {most = most} real same in
        let counted = limit_counted real words.0 in
        (omega (arith, words.0), counted.0, counted.1, none_cheaper)
    cost_counted real (least_cost attained none_cheaper) =
        let s = numbered site.items x under in
        let (pattern, (keeps, met), worth) = attained.one s.set s.of_items s.number in
        let admitted : Admitted (core_of site timings cost) s.set pattern = record { keeps = keeps; admitted = met } in
        let words = pair_words found worth in
        let enough = ready.counted.at_least s.set s.of_items pattern admitted in
        let few = ready.counted.at_most s.set s.of_items pattern admitted in
        (words.0, rw (← s.number, items_in-set site.items s.set s.of_items, words.1) enough, rw words.1 few, none_cheaper)

    -- a cost that nothing is below, with the least key
    cost_entry : keyed ≡ false → most.cost < no_cost → CostUpTo (timed_of site) x timings cost most found →
        EntryOfSet (core_of site timings cost) site.whole site.items x tries found.cost key
    unfolding core_of timed_options
    cost_entry unkeyed real up_to_lem =
        let (below, enough, few, none_cheaper) = cost_counted real up_to_lem in
        record {
          keyed = least_keyed below (its_key.1 unkeyed);
          lower = λ S of_items this pattern admitted.
              let its : key ≡ weight S = its_key.1 unkeyed ∙ rw this at (weighed.each.at S of_items (rw this under)) in
              rw (words_pair found.cost key below, its)
              (weight_first (core_of site timings cost) admitted.keeps (none_cheaper.none_cheaper S of_items this pattern admitted.keeps admitted.admitted));
          least_where_settled = λ settled. absurd (false_not_true unkeyed (after.looked_for_keys settled));
          at_most_none = small.at_most_none;
          counted = λ real. (enough, few);
          digits = rw (its_key.1 unkeyed) least_key;
        }

    pub set_tried : (keyed ≡ false → most.cost < no_cost) → (keyed ≡ true → FoundUpTo (timed_of site) x timings cost most found) →
        CostUpTo (timed_of site) x timings cost most found →
        SetTried site timings cost (set costs x found.cost) (set keys x key) left (set left x tries)
    set_tried limited up_to_lem cost_up_to =
        record {
          table = one_more_tried table under (omega (arith, after.fewer, table.few_tries x under)) (entry keyed refl);
          fewer = fewer_tries table x tries under after.fewer;
        }
      where
        entry : (b : Bool) → keyed ≡ b → EntryOfSet (core_of site timings cost) site.whole site.items x tries found.cost key
        entry true is = rw (its_key.0 is) (tried_entry (up_to_lem is))
        entry false is = cost_entry is (limited is) cost_up_to
