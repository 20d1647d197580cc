-- The sums of all sets, item after item, and the entries that are lifted, set after set.
use Prim.Native.Nat.{ℕ, suc, ◌+◌, ◌-◌, ◌*◌, ◌^◌, ◌≤◌, ◌<◌}
use Rattle.std.specs.Prelude.{Bool, true, false, ◌⊎◌, ◌≢◌, ◌≡◌, refl, set}
use mathlib.Core.List.{List, [], ◌∷◌}
use Rattle.std.proofs.Common.{inl, inr, sym, ap, ◌∙◌, eq-or-lt_of_le, zero-add, below_more, length-set, pow_mono, get_or-set_same, get_or-set_other}
use Rattle.std.proofs.Math.Nat.{pow-suc}
use native.Mathlib.Omega.{arith}
use Rattle.std.proofs.Math.ListN.{length, get_or}
use Rattle.assignment.specs.Keys.{weight}
use Rattle.assignment.specs.Limits.{most_items}
use Rattle.assignment.specs.SetLaws.{set_number-below, numbered}
use Rattle.assignment.specs.Sets.{set_number}
use Rattle.partition.specs.Moves.{WeightsBelow}
use Rattle.lagrangian.specs.Lagrangians.{least_priced}
use Rattle.lagrangian.specs.declared.Lagrangian.{Lagrangian}
use Rattle.set_tables.specs.LiftedTables.{most_amount, AddedBelow, RoomToAdd, SumsReady, NumberedBy, LiftedTo, LiftedBelow}

module _ {half amount : ℕ} {before : List ℕ} where
  pub none_added : AddedBelow half amount 0 before before
  none_added = record { same = λ y h. refl; more = λ y h. absurd (omega arith) }

  pub one_added : {x : ℕ} {after : List ℕ} → AddedBelow half amount x before after → x < half → half + x < length after →
      AddedBelow half amount (x + 1) before (set after (half + x) (get_or after x 0 + amount))
  one_added {x} {after} so_far under room =
      let next = get_or after x 0 + amount in
      record {
        same = λ y h. get_or-set_other after (half + x) y next 0 (λ same. omega arith) ∙ so_far.same y h;
        more =
            below_more (λ y. get_or (set after (half + x) next) (half + y) 0 ≡ get_or before y 0 + amount) x
            (λ y h. get_or-set_other after (half + x) (half + y) next 0 (λ same. omega arith) ∙ so_far.more y h)
            (get_or-set_same after (half + x) next 0 room ∙ ap (λ (k : ℕ). k + amount) (so_far.same x under));
      }

-- the numbers of all sets of one item more
numbered_by_one_more : {n amount : ℕ} {f g : List Bool → ℕ} {before after : List ℕ} → NumberedBy n f before →
    AddedBelow (2 ^ n) amount (2 ^ n) before after → ((S : List Bool) → g (false ∷ S) ≡ f S) →
    ((S : List Bool) → g (true ∷ S) ≡ f S + amount) → NumberedBy (suc n) g after
unfolding set_number
numbered_by_one_more {n} {amount} {f} {g} {before} {after} so_far added without with = record { at = at }
  where
    at : (S : List Bool) → length S ≡ suc n → get_or after (set_number (suc n) S) 0 ≡ g S
    at [] of_items = absurd (omega arith)
    at (false ∷ S) of_items =
        rw zero-add (added.same (set_number n S) (set_number-below n S) ∙ so_far.at S (omega arith) ∙ sym (without S))
    at (true ∷ S) of_items =
        added.more (set_number n S) (set_number-below n S) ∙ ap (λ (k : ℕ). k + amount) (so_far.at S (omega arith)) ∙ sym (with S)

priced_at_most : (least : List ℕ) → ((i : ℕ) → get_or least i 0 ≤ most_amount) → (from : ℕ) (S : List Bool) →
    least_priced least from S ≤ length S * most_amount
unfolding least_priced
priced_at_most least low from [] = omega arith
priced_at_most least low from (false ∷ S) = omega (arith, priced_at_most least low (suc from) S)
priced_at_most least low from (true ∷ S) = omega (arith, low from, priced_at_most least low (suc from) S)

sum_at_most : {n : ℕ} (least : List ℕ) (from : ℕ) {sums : List ℕ} → ((i : ℕ) → get_or least i 0 ≤ most_amount) → n ≤ most_items →
    NumberedBy n (least_priced least from) sums → (x : ℕ) → x < 2 ^ n → get_or sums x 0 ≤ most_items * most_amount
sum_at_most {n} least from low few so_far x under =
    let s = numbered n x under in
    let here = rw s.number at (so_far.at s.set s.of_items) in
    omega (arith, here, priced_at_most least low from s.set, s.of_items)

-- the sums of the items from i on
module _ {n : ℕ} {least start : List ℕ} (ready : SumsReady n least start) where
  pub no_item_yet : NumberedBy 0 (least_priced least n) start
  unfolding set_number least_priced
  no_item_yet = record { at = at }
    where
      at : (S : List Bool) → length S ≡ 0 → get_or start 0 0 ≡ least_priced least n S
      at [] of_items = ready.empty
      at (b ∷ S) of_items = absurd (omega arith)

  module _ {i half : ℕ} {sums : List ℕ} (so_far : NumberedBy (n - suc i) (least_priced least (suc i)) sums) (within : suc i ≤ n)
      (is_half : half ≡ 2 ^ (n - suc i)) (same_places : length sums ≡ length start) where
    pub room_for_item : RoomToAdd half (get_or least i 0) sums
    room_for_item =
        let more : 2 ^ suc (n - suc i) ≤ 2 ^ n = pow_mono (omega arith) in
        record {
          places = omega (arith, more, pow-suc 2 (n - suc i), ready.sums_for_all);
          fits = λ y h.
              omega (arith, ready.low i, sum_at_most least (suc i) ready.low (omega (arith, ready.few_items)) so_far y (rw is_half at h));
        }

    pub one_item_more : {after : List ℕ} → AddedBelow half (get_or least i 0) half sums after →
        (half * 2 ≡ 2 ^ (n - i)) × NumberedBy (n - i) (least_priced least i) after
    unfolding least_priced
    one_item_more added =
        let longer : n - i ≡ suc (n - suc i) = omega arith in
        rw longer (
          omega (arith, is_half, pow-suc 2 (n - suc i)),
          numbered_by_one_more so_far (rw is_half at added) (λ S. refl) (λ S. omega arith),
        )

-- the entries

module _ {n : ℕ} {relaxed : Lagrangian} {costs₀ keys₀ : List ℕ} where
  pub none_lifted : LiftedBelow n relaxed 0 costs₀ keys₀ costs₀ keys₀
  none_lifted =
      record {
        costs_places = refl;
        keys_places = refl;
        below = λ S of_items h. absurd (omega arith);
        from_costs = λ y h. refl;
        from_keys = λ y h. refl;
      }

  module _ {x : ℕ} {costs keys : List ℕ} (so_far : LiftedBelow n relaxed x costs₀ keys₀ costs keys) where
    pub next_cost : get_or costs x 0 ≡ get_or costs₀ x 0
    next_cost = so_far.from_costs x (omega arith)

    pub one_lifted : {sums weights : List ℕ} {cost key : ℕ} → x < 2 ^ n → x < length costs → x < length keys →
        NumberedBy n (least_priced relaxed.least 0) sums → WeightsBelow n (2 ^ n) weights →
        LiftedTo (get_or sums x 0) (get_or weights x 0) relaxed.budget (get_or costs x 0) (get_or keys x 0) cost key →
        LiftedBelow n relaxed (x + 1) costs₀ keys₀ (set costs x cost) (set keys x key)
    one_lifted {cost = cost} {key = key} under in_costs in_keys summed weighed here =
        record {
          costs_places = length-set costs x cost ∙ so_far.costs_places;
          keys_places = length-set keys x key ∙ so_far.keys_places;
          below = λ S of_items h. at S of_items (eq-or-lt_of_le h);
          from_costs = λ y h. get_or-set_other costs x y cost 0 (λ same. omega arith) ∙ so_far.from_costs y (omega arith);
          from_keys = λ y h. get_or-set_other keys x y key 0 (λ same. omega arith) ∙ so_far.from_keys y (omega arith);
        }
      where
        at : (S : List Bool) → length S ≡ n → (suc (set_number n S) ≡ x + 1) ⊎ (suc (set_number n S) < x + 1) →
            LiftedTo (least_priced relaxed.least 0 S) (weight S) relaxed.budget (get_or costs₀ (set_number n S) 0)
            (get_or keys₀ (set_number n S) 0) (get_or (set costs x cost) (set_number n S) 0) (get_or (set keys x key) (set_number n S) 0)
        at S of_items (inl e) =
            let this : set_number n S ≡ x = omega arith in
            let sum = rw this at (summed.at S of_items) in
            let least = rw this at (weighed.at S of_items (omega arith)) in
            rw (this, get_or-set_same costs x cost 0 in_costs, get_or-set_same keys x key 0 in_keys)
            (rw (sum, least, so_far.from_costs x (omega arith), so_far.from_keys x (omega arith)) at here)
        at S of_items (inr earlier) =
            let other : set_number n S ≢ x = λ same. omega arith in
            rw (get_or-set_other costs x (set_number n S) cost 0 other, get_or-set_other keys x (set_number n S) key 0 other)
            (so_far.below S of_items (omega arith))
