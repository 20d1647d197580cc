-- The least sum over the splits of all of the last items, item by item.
use Rattle.std.specs.Prelude.{ℕ, suc, ◌+◌, ◌/◌, ◌^◌, ◌≤◌, ◌<◌, ◌≡◌, ◌≢◌, List}
use Rattle.std.proofs.Common.{sym, arith, pow_pos}
use Rattle.assignment.specs.Values.{Value, lesser}
use Rattle.partition.specs.Splits.{least_from, SumsReady}
use Rattle.partition.specs.SplitLaws.{least_from-nothing, least_from-either, same_power, half_is_power, half_fits}
use Rattle.assignment.specs.Refusing.{every}

module _ (sum : ℕ → ℕ → Value) (t r : ℕ) where
  pub parted_nothing : (k : ℕ) → 1 ≡ 2 ^ k → sum t r ≡ least_from k sum t r (every k)
  unfolding every
  parted_nothing k one = rw (same_power 0 k one) (sym (least_from-nothing sum t r))

  pub parted_either : (k half : ℕ) → half ≡ 2 ^ k →
      lesser (least_from k sum (t + half) r (every k)) (least_from k sum t (r + half) (every k))
      ≡ least_from (suc k) sum t r (every (suc k))
  unfolding every
  parted_either k half is_half = rw is_half (sym (least_from-either sum t r k (every k)))

module _ {size t r : ℕ} {tops top_keys rests rest_keys : List ℕ} (ready : SumsReady size t r tops top_keys rests rest_keys)
    (more : size ≢ 1) where
  pub half_of_parts : size / 2 < size
  half_of_parts = let all = ready.sets.is_power in omega (arith, pow_pos ready.sets.exponent)

  half_ready : (t' r' : ℕ) → t ≤ t' → t' + size / 2 ≤ t + size → r ≤ r' → r' + size / 2 ≤ r + size →
      SumsReady (size / 2) t' r' tops top_keys rests rest_keys
  half_ready t' r' from_t to_t from_r to_r =
      let (j, e, half) = half_is_power ready.sets.exponent ready.sets.is_power more in
      record {
        sets = record { exponent = j; is_power = half };
        costs_fit = half_fits ready.costs_fit from_t to_t from_r to_r;
        keys_fit = half_fits ready.keys_fit from_t to_t from_r to_r;
      }

  pub in_top_ready : SumsReady (size / 2) (t + size / 2) r tops top_keys rests rest_keys
  in_top_ready = half_ready (t + size / 2) r (omega arith) (omega arith) (omega arith) (omega arith)

  pub in_rest_ready : SumsReady (size / 2) t (r + size / 2) tops top_keys rests rest_keys
  in_rest_ready = half_ready t (r + size / 2) (omega arith) (omega arith) (omega arith) (omega arith)
