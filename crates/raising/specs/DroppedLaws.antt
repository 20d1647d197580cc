-- Entries of sets that are not served at their fewest ticks may be none: no pattern serves them.
use Rattle.std.specs.Prelude.{ℕ, ◌^◌, ◌≤◌, ◌<◌, Bool, true, false, cond, ◌⊎◌, ◌≡◌, refl, length, get_or}
use mathlib.Core.List.{List}
use Rattle.std.proofs.Math.Logic.{inl, inr}
use Rattle.std.proofs.Common.{ap, arith}
use Rattle.laws.specs.Truth.{false_not_true}
use Rattle.assignment.specs.CoreTables.{Admitted, pattern_worth, Keyed}
use Rattle.assignment.specs.SetLaws.{set_number-below}
use Rattle.assignment.specs.Sets.{set_number, table_at}
use Rattle.assignment.specs.Values.{Value, none, AtMost, Least}
use Rattle.assignment.specs.Words.{no_cost, value_of, words_none}
use Rattle.lagrangian.specs.TimedCores.{timed_options}
use Rattle.lagrangian.specs.TimedItems.{TimedItems}
use Rattle.lagrangian.specs.declared.Timed.{Timed}
use Rattle.timed_parts.specs.ServableLaws.{none_serves}
use Rattle.timed_parts.specs.TickColumns.{served_at, FewestColumn, NoneServes}
use Rattle.set_tables.specs.DroppedTables.{Dropped}
use Rattle.raising.specs.TimedSites.{timed_of, core_of, SiteRaised}
use Rattle.raising.specs.declared.Site.{Site}

-- a cost stays, or is none where no pattern serves the set
data DroppedTo (timed : Timed) (timings : List ℕ) (set cost new_cost : ℕ) : Type 0 where
  stays : new_cost ≡ cost → DroppedTo timed timings set cost new_cost
  dropped : NoneServes timed set timings → new_cost ≡ no_cost → DroppedTo timed timings set cost new_cost

module _ (site : Site) {timings column : List ℕ} (cost : List ℕ) {costs keys left : List ℕ} (ready : TimedItems (timed_of site) timings)
    (few : FewestColumn (timed_of site) timings site.items column) (raised : SiteRaised site timings cost costs keys left)
    {after : List ℕ} (drop : Dropped (timed_of site) timings column 0 (2 ^ site.items) costs after) where
  dropped_to : (y : ℕ) → y < 2 ^ site.items → DroppedTo (timed_of site) timings y (get_or costs y 0) (get_or after y 0)
  dropped_to y under = go (served_at (timed_of site) timings column y) refl (drop.cost y (omega arith) (omega arith))
    where
      go : {c c' : ℕ} (b : Bool) → served_at (timed_of site) timings column y ≡ b → c' ≡ cond (served_at (timed_of site) timings column y) c no_cost →
          DroppedTo (timed_of site) timings y c c'
      go true served is = stays (rw served at is)
      go false unserved is = dropped (none_serves ready few y unserved) (rw unserved at is)

  -- no pattern of a dropped set is admitted
  unserved : (S : List Bool) → length S ≡ site.items → NoneServes (timed_of site) (set_number site.items S) timings → (pattern : List ℕ) →
      Admitted (core_of site timings cost) S pattern → ⊥
  unfolding core_of timed_options
  unserved S of_items nothing_serves pattern admitted =
      false_not_true (nothing_serves.refused S of_items (record { out_of_both = λ i l out. out }) cost pattern admitted.keeps) admitted.admitted

  -- a value is as it was, or none where nothing is admitted
  value : (S : List Bool) → length S ≡ site.items →
      (table_at site.items after keys S ≡ table_at site.items costs keys S)
      ⊎ ((table_at site.items after keys S ≡ none) × ((pattern : List ℕ) → Admitted (core_of site timings cost) S pattern → ⊥))
  unfolding table_at
  value S of_items = go (get_or keys (set_number site.items S) 0) (dropped_to (set_number site.items S) (set_number-below site.items S))
    where
      go : {c c' : ℕ} (k : ℕ) → DroppedTo (timed_of site) timings (set_number site.items S) c c' →
          (value_of c' k ≡ value_of c k) ⊎ ((value_of c' k ≡ none) × ((pattern : List ℕ) → Admitted (core_of site timings cost) S pattern → ⊥))
      go k (stays same) = inl (ap (λ (c : ℕ). value_of c k) same)
      go {c' = c'} k (dropped nothing_serves gone) = inr (words_none c' k (omega arith), unserved S of_items nothing_serves)

  each_value : (P : List Bool → Value → Type 0) →
      ((S : List Bool) → ((pattern : List ℕ) → Admitted (core_of site timings cost) S pattern → ⊥) → P S none) →
      (S : List Bool) → length S ≡ site.items → P S (table_at site.items costs keys S) → P S (table_at site.items after keys S)
  each_value P at_none S of_items old = go (value S of_items)
    where
      go : (table_at site.items after keys S ≡ table_at site.items costs keys S)
          ⊎ ((table_at site.items after keys S ≡ none) × ((pattern : List ℕ) → Admitted (core_of site timings cost) S pattern → ⊥)) →
          P S (table_at site.items after keys S)
      go (inl same) = rw same old
      go (inr (gone, nothing)) = rw gone (at_none S nothing)

  cost_bound : {y c c' : ℕ} → DroppedTo (timed_of site) timings y c c' → c ≤ no_cost → c' ≤ no_cost
  cost_bound (stays same) old = omega arith
  cost_bound (dropped nothing_serves gone) old = omega arith

  -- a cost that is real is as it was
  real_cost : (y : ℕ) → y < 2 ^ site.items → get_or after y 0 < no_cost → get_or after y 0 ≡ get_or costs y 0
  real_cost y under real = go (dropped_to y under) real
    where
      go : {c c' : ℕ} → DroppedTo (timed_of site) timings y c c' → c' < no_cost → c' ≡ c
      go (stays same) real = same
      go (dropped nothing_serves gone) real = absurd (omega arith)

  pub site_dropped : SiteRaised site timings cost after keys left
  site_dropped =
      record {
        small =
            record {
              costs_for_all = omega (arith, drop.places, raised.small.costs_for_all);
              keys_for_all = raised.small.keys_for_all;
              cost_bound = λ y h. cost_bound (dropped_to y h) (raised.small.cost_bound y h);
              real_bound = λ y h real. let same = real_cost y h real in omega (arith, raised.small.real_bound y h (omega arith));
              key_bound_lem = raised.small.key_bound_lem;
            };
        keyed = λ S of_items. each_value (Keyed _) (λ T nothing. Keyed.absent) S of_items (raised.keyed S of_items);
        lower = λ S of_items.
            each_value (λ T v. (pattern : List ℕ) → Admitted (core_of site timings cost) T pattern → AtMost v (pattern_worth (core_of site timings cost) pattern))
            (λ T nothing pattern admitted. absurd (nothing pattern admitted)) S of_items (raised.lower S of_items);
        surplus_counted = λ y h real. let same = real_cost y h real in omega (arith, raised.surplus_counted y h (omega arith));
        tries_for_all = raised.tries_for_all;
        few_tries = raised.few_tries;
        least_where_settled = λ S of_items settled.
            each_value (λ T v. Least (Admitted (core_of site timings cost) T) (pattern_worth (core_of site timings cost)) v)
            (λ T nothing. record { below = λ pattern admitted. absurd (nothing pattern admitted); attained = inl refl }) S of_items
            (raised.least_where_settled S of_items settled);
      }
