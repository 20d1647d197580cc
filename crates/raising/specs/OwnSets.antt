-- Sets whose own patterns a core admits: what these are worth is the least of the set.
use Rattle.std.specs.Prelude.{ℕ, ◌+◌, ◌^◌, ◌≤◌, ◌<◌, Bool, true, false, List, ◌⊎◌, ◌≢◌, ◌≡◌, length, get_or, set}
use Rattle.std.proofs.Common.{inl, ◌∙◌, arith, get_or-set_same, get_or-set_other}
use Rattle.std.proofs.Math.Logic.{inr}
use Rattle.std.proofs.Math.Path.{refl}
use Rattle.assignment.specs.CoreTables.{Admitted, pattern_worth}
use Rattle.assignment.specs.KeyLaws.{keeps_in_base, keeps_length, key_below}
use Rattle.assignment.specs.Keys.{key_base, plan_key}
use Rattle.assignment.specs.SetLaws.{numbered}
use Rattle.assignment.specs.Sets.{set_number}
use Rattle.assignment.specs.Values.{Least}
use Rattle.assignment.specs.Words.{no_cost, value_of, words_pair}
use Rattle.lagrangian.specs.Reached.{worth_on}
use Rattle.lagrangian.specs.TimedCores.{timed_options}
use Rattle.lagrangian.specs.TimedItems.{timed_core}
use Rattle.set_tables.specs.OwnPatternLaws.{own_first, own_kept}
use Rattle.set_tables.specs.OwnPatterns.{own_pattern, OwnTable}
use Rattle.raising.specs.RaisedTables.{same_or_other, in_tries}
use Rattle.raising.specs.RaisingLaws.{LeastOfSet, least_entry, one_more_tried}
use Rattle.raising.specs.TimedSites.{timed_of, core_of, SiteReady, SiteRaised}
use Rattle.raising.specs.declared.Site.{Site}

abbrev pub own_of : Site → (timings cost : List ℕ) → List Bool → List ℕ
own_of site = own_pattern (timed_of site)

-- of the sets with numbers below x those are exact whose own patterns a core admits
pub record OwnSettled (site : Site) (timings cost : List ℕ) (x : ℕ) (left : List ℕ) : Type 0 where
  pub settled : (S : List Bool) → length S ≡ site.items → set_number site.items S < x →
      (timed_core (timed_of site) timings cost).admits (own_of site timings cost S) ≡ true → get_or left (set_number site.items S) 0 ≡ 0

pub none_settled : {site : Site} {timings cost left : List ℕ} → OwnSettled site timings cost 0 left
none_settled = record { settled = λ S of_items under. absurd (omega arith) }

module _ {site : Site} {timings cost : List ℕ} (ready : SiteReady site timings cost) {own_costs own_keys : List ℕ}
    (own : OwnTable (timed_of site) timings cost own_costs own_keys) where
  module _ (S : List Bool) (of_items : length S ≡ site.items) where
    -- an own pattern that is admitted is one of the core's
    own_admitted : (timed_core (timed_of site) timings cost).admits (own_of site timings cost S) ≡ true →
        Admitted (core_of site timings cost) S (own_of site timings cost S)
    unfolding core_of timed_options
    own_admitted met = record { keeps = own_kept ready.timed ready.some_level 0 S; admitted = met }

    own_worth : (timed_core (timed_of site) timings cost).admits (own_of site timings cost S) ≡ true →
        (get_or own_costs (set_number site.items S) 0 ≡ (core_of site timings cost).core_cost (own_of site timings cost S))
        × (get_or own_keys (set_number site.items S) 0 ≡ plan_key (own_of site timings cost S))
    unfolding core_of timed_options
    own_worth met = (own.its_cost S of_items ∙ rw met refl, own.its_key S of_items)

    own_real : (timed_core (timed_of site) timings cost).admits (own_of site timings cost S) ≡ true → get_or own_costs (set_number site.items S) 0 < no_cost
    own_real met = omega (arith, (own_worth met).0, ready.counted.at_most S of_items _ (own_admitted met))

    real_met : get_or own_costs (set_number site.items S) 0 < no_cost → (timed_core (timed_of site) timings cost).admits (own_of site timings cost S) ≡ true
    real_met real = go ((timed_core (timed_of site) timings cost).admits (own_of site timings cost S)) refl
      where
        go : (t : Bool) → (timed_core (timed_of site) timings cost).admits (own_of site timings cost S) ≡ t → t ≡ true
        go true met = refl
        go false unmet = let none = rw unmet at (own.its_cost S of_items) in absurd (omega (arith, none))

    own_least : get_or own_costs (set_number site.items S) 0 < no_cost → Least (Admitted (core_of site timings cost) S) (pattern_worth (core_of site timings cost))
        (value_of (get_or own_costs (set_number site.items S) 0) (get_or own_keys (set_number site.items S) 0))
    unfolding pattern_worth worth_on core_of timed_options
    own_least real =
        let met = real_met real in
        let worth = own_worth met in
        rw (words_pair _ (get_or own_keys (set_number site.items S) 0) real, worth.0, worth.1)
        (record {
          below = λ pattern admitted. own_first ready.timed S of_items pattern admitted.keeps admitted.admitted;
          attained = inr (own_of site timings cost S, own_admitted met, refl);
        })

    own_digits : plan_key (own_of site timings cost S) < key_base ^ site.items
    unfolding key_base
    own_digits =
        let keeps = own_kept ready.timed ready.some_level 0 S in
        let digits = key_below (keeps_in_base (omega (arith, ready.timed.timed_items.few_levels)) keeps) in
        rw (keeps_length keeps, of_items) at digits

  module _ {x : ℕ} (under : x < 2 ^ site.items) where
    own_least_of_set : get_or own_costs x 0 < no_cost → LeastOfSet (core_of site timings cost) site.items x (get_or own_costs x 0) (get_or own_keys x 0)
    own_least_of_set real =
        record {
          least = λ S of_items this. rw this at (own_least S of_items (rw this real));
          at_most_none = omega arith;
          digits =
              let s = numbered site.items x under in
              rw (← s.number, own.its_key s.set s.of_items) (own_digits s.set s.of_items);
        }

    module _ {costs keys left : List ℕ} (table : SiteRaised site timings cost costs keys left) (so_far : OwnSettled site timings cost x left) where
      -- the set's own pattern is admitted
      pub own_settled : get_or own_costs x 0 < no_cost →
          SiteRaised site timings cost (set costs x (get_or own_costs x 0)) (set keys x (get_or own_keys x 0)) (set left x 0)
          × OwnSettled site timings cost (x + 1) (set left x 0)
      own_settled real = (
        one_more_tried table under (omega arith) (least_entry ready.counted under (own_least_of_set real) 0),
        record { settled = λ S of_items below met. go S of_items below met (same_or_other (set_number site.items S) x) },
      )
        where
          go : (S : List Bool) → length S ≡ site.items → set_number site.items S < x + 1 →
              (timed_core (timed_of site) timings cost).admits (own_of site timings cost S) ≡ true → (set_number site.items S ≡ x) ⊎ (set_number site.items S ≢ x) →
              get_or (set left x 0) (set_number site.items S) 0 ≡ 0
          go S of_items below met (inl this) = rw (this, get_or-set_same left x 0 0 (in_tries table x under)) refl
          go S of_items below met (inr other) =
              get_or-set_other left x (set_number site.items S) 0 0 other ∙ so_far.settled S of_items (omega (arith, other)) met

      -- it is not
      pub own_left : no_cost ≤ get_or own_costs x 0 → OwnSettled site timings cost (x + 1) left
      own_left none = record { settled = λ S of_items below met. go S of_items below met (same_or_other (set_number site.items S) x) }
        where
          go : (S : List Bool) → length S ≡ site.items → set_number site.items S < x + 1 →
              (timed_core (timed_of site) timings cost).admits (own_of site timings cost S) ≡ true → (set_number site.items S ≡ x) ⊎ (set_number site.items S ≢ x) →
              get_or left (set_number site.items S) 0 ≡ 0
          go S of_items below met (inl this) = absurd (omega (arith, rw this at (own_real S of_items met)))
          go S of_items below met (inr other) = so_far.settled S of_items (omega (arith, other)) met
