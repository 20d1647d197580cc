-- The charged table of the items alone is the table of a core that pays for its idle ticks.
use Rattle.std.specs.Prelude.{ℕ, ◌-◌, ◌*◌, ◌^◌, ◌≤◌, ◌<◌, ◌≡◌, ◌⊎◌, Bool, List, length}
use Rattle.std.proofs.Math.Path.{sym}
use Rattle.std.proofs.Common.{ap, ◌∙◌, inl, inr, le_refl, le_trans, arith}
use Rattle.std.proofs.Math.ListN.{get_or}
use Rattle.laws.specs.Below.{lt_or_le}
use Rattle.assignment.specs.Assignment.{Item}
use Rattle.assignment.specs.CoreTables.{pattern_worth, CoreTable, Keyed}
use Rattle.assignment.specs.Limits.{most_items}
use Rattle.assignment.specs.Sets.{set_number, table_at, Tabled}
use Rattle.assignment.specs.SetLaws.{set_number-below, Numbered, numbered}
use Rattle.assignment.specs.Values.{Value, none, pair, Attained}
use Rattle.assignment.specs.Words.{no_cost, value_of, words_none, words_pair}
use Rattle.knapsack.specs.Offers.{Offer, load_options}
use Rattle.core_tables.specs.AwakeCores.{size, awake_options, OfferedAlone, surplus, take_off}
use Rattle.core_tables.specs.AwakeLaws.{admitted_cost, awake_core_table}
use Rattle.core_tables.specs.ChargedTables.{charged, ChargeReady, ChargedBelow, charged_none, charged_real, charged_at_most, charged_was_real}
use Rattle.core_tables.specs.SetSizes.{items_in, items_in-set}

charged_value : (whole count cost key : ℕ) → value_of (charged whole count cost) key ≡ take_off (surplus whole count) (value_of cost key)
unfolding take_off
charged_value whole count cost key = go (lt_or_le cost no_cost)
  where
    go : (cost < no_cost) ⊎ (no_cost ≤ cost) → value_of (charged whole count cost) key ≡ take_off (surplus whole count) (value_of cost key)
    go (inl real) = rw (charged_real whole count cost real, words_pair cost key real, words_pair (cost - surplus whole count) key (omega arith))
    go (inr dear) = rw (charged_none whole count cost dear, words_none cost key dear)

-- a value's cost, or s where it is none
unfoldable cost_or : ℕ → Value → ℕ
cost_or s none = s
cost_or s (pair cost key) = cost

attained_at_least : {Has : List ℕ → Type 0} {worth : List ℕ → Value} (s : ℕ) {v : Value} → ((a : List ℕ) → Has a → s ≤ cost_or s (worth a)) →
    Attained Has worth v → s ≤ cost_or s v
unfolding cost_or
attained_at_least s each (inl e) = rw e (le_refl s)
attained_at_least s each (inr (a, has, e)) = rw e (each a has)

-- in all entries
pub charged_entry : {n whole : ℕ} {before after : List ℕ} (keys : List ℕ) → ChargedBelow n whole (2 ^ n) before after → (T : List Bool) →
    length T ≡ n → table_at n after keys T ≡ take_off (surplus whole (size T)) (table_at n before keys T)
unfolding table_at
charged_entry {n} {whole} keys done T of_items =
    rw (done.below (set_number n T) (set_number-below n T), items_in-set n T of_items) (charged_value whole (size T) _ _)

pub charged_tabled : {n keys whole : ℕ} {f : List Bool → Value} {before after marks : List ℕ} → Tabled n keys f before marks →
    ChargedBelow n whole (2 ^ n) before after → length after ≡ length before →
    Tabled n keys (λ T. take_off (surplus whole (size T)) (f T)) after marks
charged_tabled {whole = whole} {marks = marks} tabled done same_length =
    record {
      costs_for_all = rw same_length tabled.costs_for_all;
      marks_for_all = tabled.marks_for_all;
      holds = λ T of_items. charged_entry marks done T of_items ∙ ap (take_off (surplus whole (size T))) (tabled.holds T of_items);
      cost_bound = λ x h. rw (done.below x h) (le_trans (charged_at_most _ _ _) (tabled.cost_bound x h));
      key_bound_lem = tabled.key_bound_lem;
    }

pub charged_limited : {n whole most : ℕ} {before after : List ℕ} → ChargedBelow n whole (2 ^ n) before after →
    ((x : ℕ) → x < 2 ^ n → get_or before x 0 < no_cost → get_or before x 0 ≤ most) →
    (x : ℕ) → x < 2 ^ n → get_or after x 0 < no_cost → get_or after x 0 ≤ most
charged_limited done limited x h real =
    let was_real = charged_was_real _ _ _ (rw (done.below x h) at real) in
    rw (done.below x h) (le_trans (charged_at_most _ _ _) (limited x h was_real))

-- keys stay
pub charged_keyed : {n whole levels : ℕ} {before after : List ℕ} (keys : List ℕ) → ChargedBelow n whole (2 ^ n) before after → (T : List Bool) →
    length T ≡ n → Keyed levels T (table_at n before keys T) → Keyed levels T (table_at n after keys T)
unfolding take_off
charged_keyed {whole = whole} {levels = levels} keys done T of_items keyed = rw (charged_entry keys done T of_items) (go (surplus whole (size T)) keyed)
  where
    go : (s : ℕ) {v : Value} → Keyed levels T v → Keyed levels T (take_off s v)
    go s Keyed.absent = Keyed.absent
    go s (Keyed.present cost keeps) = Keyed.present _ keeps

module _ {n levels span unit : ℕ} {offers alone : List Offer} (cores : ℕ) (items : List Item) {before : List ℕ} (keys : List ℕ)
    (given : OfferedAlone levels span unit offers alone) (all : length offers ≡ length items) (of_n : length items ≡ n)
    (core : CoreTable (load_options cores levels span alone items) (table_at n before keys)) where
  -- each cost is that of a pattern that the core admits
  pub charge_ready : n ≤ most_items → 2 ^ n ≤ length before → ChargeReady n (unit * span) before
  unfolding load_options pattern_worth table_at cost_or
  charge_ready few long = record { few_items = few; costs_for_all = long; surplus_counted = λ x under real. counted x real (numbered n x under) }
    where
      counted : (x : ℕ) → get_or before x 0 < no_cost → Numbered n x → surplus (unit * span) (items_in n x) ≤ get_or before x 0
      counted x real s =
          let T = s.set in
          let of_items = s.of_items ∙ sym of_n in
          let owed = surplus (unit * span) (size T) in
          let entry =
          attained_at_least owed (λ a admitted. omega (arith, admitted_cost cores items given all T of_items admitted)) (core.least T of_items).attained in
          let here : owed ≤ cost_or owed (value_of (get_or before x 0) (get_or keys x 0)) = rw s.number at entry in
          rw (← s.number, items_in-set n T s.of_items, s.number) (rw (words_pair _ _ real) at here)

  pub charged_core_table : {after : List ℕ} → ChargedBelow n (unit * span) (2 ^ n) before after →
      CoreTable (awake_options cores levels span unit offers items) (table_at n after keys)
  unfolding awake_options
  charged_core_table done =
      record { least = λ T of_items. rw (charged_entry keys done T (of_items ∙ of_n)) ((awake_core_table cores items given all core).least T of_items) }
