-- Tables filled with the knapsacks of all sets that agree on their last items: `ahead` items are open, of the `places` others
-- a set is settled, whose number is `index`, and `bit` is the last open item's weight in a set's number.
use Rattle.std.specs.Prelude.{ℕ, suc, ◌+◌, ◌*◌, ◌/◌, ◌%◌, ◌^◌, ◌≤◌, ◌<◌, ◌≡◌, refl, ◌⊎◌, Bool, true, false, List, length, get_or, set}
use Rattle.std.proofs.Common.{sym, ap, ◌∙◌, inl, inr, pow-suc, suc-mul, mul-le-mul_right, arith, eqb-true, get_or-set_same, get_or-set_other}
use Rattle.std.proofs.lemmas.Bool.{eqb-false}
use Rattle.laws.specs.Below.{lt_or_le}
use Rattle.knapsack.specs.Offers.{Offer}
use Rattle.knapsack.specs.KnapsackSteps.{has_last, with_item, knapsack_before, knapsack_before-same}
use Rattle.values.specs.Worths.{Small}
use Rattle.assignment.specs.Values.{Value}
use Rattle.assignment.specs.Words.{value_of}

-- (c, k) stands for the value, and is small enough for a knapsack of m items
pub record Holds (m : ℕ) (value : Value) (c k : ℕ) : Type 0 where
  pub is : value_of c k ≡ value
  pub small : Small m c k

-- entry x is that of none of the first n sets
abbrev pub Elsewhere : (n bit index x : ℕ) → Type 0
Elsewhere n bit index x = (k : ℕ) → k < n → x ≡ k * bit + index → ⊥

-- the entries of the sets without the next item, and of those with it

without_place : (q bit index : ℕ) → q * 2 * bit + index ≡ q * (bit * 2) + index
without_place q bit index = omega arith

with_place : (q bit index : ℕ) → (q * 2 + 1) * bit + index ≡ q * (bit * 2) + (index + bit)
with_place q bit index = omega arith

with_is_not_without : (q k bit index : ℕ) → 0 < bit → q * (bit * 2) + index ≡ k * (bit * 2) + (index + bit) → ⊥
with_is_not_without q k bit index some e = go (lt_or_le k q)
  where
    go : (k < q) ⊎ (q ≤ k) → ⊥
    go (inl less) = omega (arith, suc-mul k (bit * 2), mul-le-mul_right (bit * 2) less)
    go (inr le) = omega (arith, mul-le-mul_right (bit * 2) le)

elsewhere_without : (ahead bit index : ℕ) {x : ℕ} → Elsewhere (2 ^ suc ahead) bit index x → Elsewhere (2 ^ ahead) (bit * 2) index x
elsewhere_without ahead bit index apart q under e =
    apart (q * 2) (omega (arith, pow-suc 2 ahead)) (e ∙ sym (without_place q bit index))

elsewhere_with : (ahead bit index : ℕ) {x : ℕ} → Elsewhere (2 ^ suc ahead) bit index x → Elsewhere (2 ^ ahead) (bit * 2) (index + bit) x
elsewhere_with ahead bit index apart q under e =
    apart (q * 2 + 1) (omega (arith, pow-suc 2 ahead)) (e ∙ sym (with_place q bit index))

module _ (levels capacity : ℕ) (offer : ℕ → Offer) where
  -- the entries of the first n sets are filled in, and no others
  pub record FilledTo (n ahead places bit index : ℕ) (rest : ℕ → Value) (costs₀ keys₀ costs keys : List ℕ) : Type 0 where
    pub entries : (k : ℕ) → k < n →
        Holds (ahead + places) (knapsack_before levels offer ahead places k rest capacity) (get_or costs (k * bit + index) 0) (get_or keys (k * bit + index) 0)
    pub other_costs : (x : ℕ) → Elsewhere n bit index x → get_or costs x 0 ≡ get_or costs₀ x 0
    pub other_keys : (x : ℕ) → Elsewhere n bit index x → get_or keys x 0 ≡ get_or keys₀ x 0

  abbrev pub Filled : (ahead places bit index : ℕ) (rest : ℕ → Value) (costs₀ keys₀ costs keys : List ℕ) → Type 0
  Filled ahead = FilledTo (2 ^ ahead) ahead

  pub none_filled : {ahead places bit index : ℕ} {rest : ℕ → Value} {costs keys : List ℕ} →
      FilledTo 0 ahead places bit index rest costs keys costs keys
  none_filled =
      record { entries = λ k none. absurd (omega arith); other_costs = λ x apart. refl; other_keys = λ x apart. refl }

  -- the entry of one set more
  pub one_more_filled : {n ahead places bit index c j : ℕ} {rest : ℕ → Value} {costs₀ keys₀ costs keys : List ℕ} → 0 < bit →
      n * bit + index < length costs → n * bit + index < length keys →
      FilledTo n ahead places bit index rest costs₀ keys₀ costs keys →
      Holds (ahead + places) (knapsack_before levels offer ahead places n rest capacity) c j →
      FilledTo (suc n) ahead places bit index rest costs₀ keys₀ (set costs (n * bit + index) c) (set keys (n * bit + index) j)
  one_more_filled {n} {ahead} {places} {bit} {index} {c} {j} {rest} {costs = costs} {keys} some in_costs in_keys filled holds =
      record {
        entries = λ k under. go k under (lt_or_le k n);
        other_costs = λ x apart.
            get_or-set_other costs _ x c 0 (λ e. apart n (omega arith) e) ∙ filled.other_costs x (λ k less e. apart k (omega arith) e);
        other_keys = λ x apart.
            get_or-set_other keys _ x j 0 (λ e. apart n (omega arith) e) ∙ filled.other_keys x (λ k less e. apart k (omega arith) e);
      }
    where
      place : ℕ
      place = n * bit + index

      before : (k : ℕ) → k < n → k * bit + index ≡ place → ⊥
      before k less e = omega (arith, suc-mul k bit, mul-le-mul_right bit less)

      go : (k : ℕ) → k < suc n → (k < n) ⊎ (n ≤ k) →
          Holds (ahead + places) (knapsack_before levels offer ahead places k rest capacity)
          (get_or (set costs place c) (k * bit + index) 0) (get_or (set keys place j) (k * bit + index) 0)
      go k under (inl less) =
          rw (get_or-set_other costs place (k * bit + index) c 0 (before k less), get_or-set_other keys place (k * bit + index) j 0 (before k less))
          (filled.entries k less)
      go k under (inr le) =
          let last : k ≡ n = omega arith in
          rw (last, get_or-set_same costs place c 0 in_costs, get_or-set_same keys place j 0 in_keys) holds

  -- knapsacks that agree up to the capacity fill in the same
  pub filled_same : {ahead places bit index : ℕ} {f g : ℕ → Value} {costs₀ keys₀ costs keys : List ℕ} →
      ((u : ℕ) → u ≤ capacity → f u ≡ g u) → Filled ahead places bit index f costs₀ keys₀ costs keys →
      Filled ahead places bit index g costs₀ keys₀ costs keys
  filled_same {ahead} {places} {f = f} {g} same filled =
      record {
        entries = λ k under.
            let held = filled.entries k under in
            record {
              is = held.is ∙ knapsack_before-same levels offer ahead places k f g capacity same;
              small = held.small;
            };
        other_costs = filled.other_costs;
        other_keys = filled.other_keys;
      }

  -- the sets without the next item and those with it
  pub filled_both : {ahead places bit index : ℕ} {rest : ℕ → Value} {costs₀ keys₀ costs₁ keys₁ costs keys : List ℕ} →
      0 < bit → Filled ahead (suc places) (bit * 2) index rest costs₀ keys₀ costs₁ keys₁ →
      Filled ahead (suc places) (bit * 2) (index + bit) (with_item levels (offer ahead) places rest) costs₁ keys₁ costs keys →
      Filled (suc ahead) places bit index rest costs₀ keys₀ costs keys
  unfolding knapsack_before has_last
  filled_both {ahead} {places} {bit} {index} {rest} {costs = costs} {keys} some without with =
      record {
        entries = λ k under. go k under (has_last k) refl;
        other_costs = λ x apart.
            with.other_costs x (elsewhere_with ahead bit index apart) ∙ without.other_costs x (elsewhere_without ahead bit index apart);
        other_keys = λ x apart.
            with.other_keys x (elsewhere_with ahead bit index apart) ∙ without.other_keys x (elsewhere_without ahead bit index apart);
      }
    where
      stays : (q : ℕ) → Elsewhere (2 ^ ahead) (bit * 2) (index + bit) (q * (bit * 2) + index)
      stays q k under e = with_is_not_without q k bit index some e

      go : (k : ℕ) → k < 2 ^ suc ahead → (b : Bool) → has_last k ≡ b →
          Holds (suc ahead + places) (knapsack_before levels offer (suc ahead) places k rest capacity) (get_or costs (k * bit + index) 0) (get_or keys (k * bit + index) 0)
      go k under true e =
          let odd : k ≡ k / 2 * 2 + 1 = omega (arith, eqb-true (k % 2) 1 e) in
          let place = ap (λ (n : ℕ). n * bit + index) odd ∙ with_place (k / 2) bit index in
          let sums : suc ahead + places ≡ ahead + suc places = omega arith in
          rw (place, sums, e) (with.entries (k / 2) (omega (arith, pow-suc 2 ahead)))
      go k under false e =
          let parity : (k % 2 ≡ 1) → ⊥ = eqb-false (k % 2) 1 e in
          let even : k ≡ k / 2 * 2 = omega arith in
          let place = ap (λ (n : ℕ). n * bit + index) even ∙ without_place (k / 2) bit index in
          let sums : suc ahead + places ≡ ahead + suc places = omega arith in
          rw (place, sums, e, with.other_costs _ (stays (k / 2)), with.other_keys _ (stays (k / 2)))
          (without.entries (k / 2) (omega (arith, pow-suc 2 ahead)))
