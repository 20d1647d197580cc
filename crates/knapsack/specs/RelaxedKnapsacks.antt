-- A whole knapsack relaxed by one level of an item, from the level's own load up to the capacity.
use Rattle.std.specs.Prelude.{ℕ, suc, ◌+◌, ◌-◌, ◌^◌, ◌≤◌, ◌<◌, ◌≡◌, refl, ◌≢◌, List, length, get_or, set}
use Rattle.std.proofs.Common.{◌∙◌, le_refl, arith, length-set, get_or-set_same, get_or-set_other}
use Rattle.laws.specs.Below.{below_suc}
use Rattle.knapsack.specs.KnapsackWords.{Relaxed, no_room, no_cheaper, cheaper}

-- the sums fit 64 bits
pub record KnapsackSumsFit (load cost key capacity : ℕ) (costs keys : List ℕ) : Type 0 where
  pub costs_to_capacity : capacity < length costs
  pub keys_to_capacity : capacity < length keys
  pub cost_fits : (u : ℕ) → u + load ≤ capacity → cost + get_or costs u 0 < 2 ^ 64
  pub key_fits : (u : ℕ) → u + load ≤ capacity → key + get_or keys u 0 < 2 ^ 64

module _ (load cost key : ℕ) (knapsack_costs knapsack_keys costs₀ keys₀ : List ℕ) where
  abbrev RelaxedAt : (u c k : ℕ) → Type 0
  RelaxedAt u = Relaxed load cost key knapsack_costs knapsack_keys u (get_or costs₀ u 0) (get_or keys₀ u 0)

  -- entries below w are done, the others as they were
  pub record RelaxedBelow (capacity w : ℕ) (costs keys : List ℕ) : Type 0 where
    pub costs_length : length costs ≡ length costs₀
    pub keys_length : length keys ≡ length keys₀
    pub from_load : load ≤ w
    pub done : (u : ℕ) → u < w → u ≤ capacity → RelaxedAt u (get_or costs u 0) (get_or keys u 0)
    pub costs_as_before : (u : ℕ) → w ≤ u → get_or costs u 0 ≡ get_or costs₀ u 0
    pub keys_as_before : (u : ℕ) → w ≤ u → get_or keys u 0 ≡ get_or keys₀ u 0

  pub relaxed_start : (capacity : ℕ) → RelaxedBelow capacity load costs₀ keys₀
  relaxed_start capacity =
      record {
        costs_length = refl;
        keys_length = refl;
        from_load = le_refl load;
        done = λ u less le. no_room less;
        costs_as_before = λ u le. refl;
        keys_as_before = λ u le. refl;
      }

  module _ {capacity w : ℕ} {costs keys : List ℕ} (sofar : RelaxedBelow capacity w costs keys) where
    pub relaxed_kept : get_or costs w 0 ≤ cost + get_or knapsack_costs (w - load) 0 → RelaxedBelow capacity (suc w) costs keys
    relaxed_kept dear =
        record {
          costs_length = sofar.costs_length;
          keys_length = sofar.keys_length;
          from_load = omega arith;
          done = below_suc (λ u. u ≤ capacity → RelaxedAt u (get_or costs u 0) (get_or keys u 0)) w sofar.done (λ le. here);
          costs_as_before = λ u le. sofar.costs_as_before u (omega arith);
          keys_as_before = λ u le. sofar.keys_as_before u (omega arith);
        }
      where
        here : RelaxedAt w (get_or costs w 0) (get_or keys w 0)
        here =
            let same = sofar.costs_as_before w (le_refl w) in
            rw (same, sofar.keys_as_before w (le_refl w)) (no_cheaper sofar.from_load (rw same at dear))

    pub relaxed_stored : w < length costs → w < length keys → cost + get_or knapsack_costs (w - load) 0 < get_or costs w 0 →
        RelaxedBelow capacity (suc w)
        (set costs w (cost + get_or knapsack_costs (w - load) 0))
        (set keys w (key + get_or knapsack_keys (w - load) 0))
    relaxed_stored in_costs in_keys less =
        record {
          costs_length = simp length-set sofar.costs_length;
          keys_length = simp length-set sofar.keys_length;
          from_load = omega arith;
          done = below_suc (λ u. u ≤ capacity → RelaxedAt u (get_or after u 0) (get_or after_keys u 0)) w earlier (λ le. here);
          costs_as_before = λ u le. get_or-set_other costs w u _ 0 (omega arith) ∙ sofar.costs_as_before u (omega arith);
          keys_as_before = λ u le. get_or-set_other keys w u _ 0 (omega arith) ∙ sofar.keys_as_before u (omega arith);
        }
      where
        after : List ℕ
        after = set costs w (cost + get_or knapsack_costs (w - load) 0)

        after_keys : List ℕ
        after_keys = set keys w (key + get_or knapsack_keys (w - load) 0)

        earlier : (u : ℕ) → u < w → u ≤ capacity → RelaxedAt u (get_or after u 0) (get_or after_keys u 0)
        earlier u under le =
            let other : u ≢ w = omega arith in
            rw (get_or-set_other costs w u _ 0 other, get_or-set_other keys w u _ 0 other) (sofar.done u under le)

        here : RelaxedAt w (get_or after w 0) (get_or after_keys w 0)
        here =
            rw (get_or-set_same costs w _ 0 in_costs, get_or-set_same keys w _ 0 in_keys)
            (cheaper sofar.from_load (rw (sofar.costs_as_before w (le_refl w)) at less))
