-- Refusals add up to a bound.
use Prim.Native.Nat.{ℕ, zero, suc, ◌+◌, ◌*◌, ◌≤◌, ◌<◌}
use Rattle.std.specs.Prelude.{◌≡◌, refl, ◌⊎◌, Bool, true, false, cond, length}
use Rattle.std.proofs.Common.{ap, inl, inr, zero-add, add-zero}
use mathlib.Core.List.{List, [], ◌∷◌}
use native.Mathlib.Omega.{arith}
use Rattle.std.proofs.Math.ListN.{get_or}
use Rattle.assignment.specs.Values.{Value, none, pair, add, lesser, Within, absent, present}
use Rattle.assignment.specs.ValueLaws.{lesser_either}
use Rattle.assignment.specs.Limits.{most_cost}
use Rattle.assignment.specs.Refusing.{refusing}
use Rattle.values.specs.Items.{item_at}
use Rattle.partition.specs.ItemsFrom.{list_from, items_from}

module _ (refusal : List ℕ) (must : List Bool) (key_bound : ℕ) where
  within_either : {m : ℕ} {u v : Value} → Within m key_bound u → Within m key_bound v → Within m key_bound (lesser u v)
  within_either {m} {u} {v} a b = go (lesser_either u v)
    where
      go : (lesser u v ≡ u) ⊎ (lesser u v ≡ v) → Within m key_bound (lesser u v)
      go (inl e) = rw e a
      go (inr e) = rw e b

  within_more : {m m' : ℕ} {v : Value} → m ≤ m' → Within m key_bound v → Within m' key_bound v
  within_more le absent = absent
  within_more le (present {cost = c} small under) = present {cost = c} (omega arith) under

  within_refusal : {m r : ℕ} {v : Value} → r ≤ most_cost → Within m key_bound v →
      Within (m + most_cost) key_bound (add (pair r 0) v)
  unfolding add
  within_refusal le absent = absent
  within_refusal {r = r} le (present {cost = c} {key} small under) = rw (zero-add key) (present {cost = r + c} (omega arith) under)

  within_cond : {m : ℕ} {v : Value} (b : Bool) → Within m key_bound v → Within m key_bound (cond b none v)
  within_cond true w = absent
  within_cond false w = w

  pub refusing_within : (k i most : ℕ) (f : List Bool → Value) → ((j : ℕ) → j < k → get_or refusal (i + j) 0 ≤ most_cost) →
      ((S : List Bool) → length S ≡ k → Within most key_bound (f S)) → (S : List Bool) → length S ≡ k →
      Within (most + k * most_cost) key_bound (refusing (items_from refusal must i k) f S)
  unfolding refusing list_from item_at
  refusing_within zero i most f cheap small [] e = within_more (omega arith) (small [] refl)
  refusing_within zero i most f cheap small (b ∷ S) e = absurd (omega arith)
  refusing_within (suc k) i most f cheap small [] e = absurd (omega arith)
  refusing_within (suc k) i most f cheap small (b ∷ S) e = go b (λ d. refusing_within k (suc i) most (λ R. f (d ∷ R)) later (λ R h. small (d ∷ R) (ap suc h)) S (omega arith))
    where
      later : (j : ℕ) → j < k → get_or refusal (suc i + j) 0 ≤ most_cost
      later j h = let at : i + suc j ≡ suc i + j = omega arith in rw at at (cheap (suc j) (omega arith))

      here : get_or refusal i 0 ≤ most_cost
      here = rw add-zero at (cheap 0 (omega arith))

      go : (b : Bool) →
          ((d : Bool) → Within (most + k * most_cost) key_bound (refusing (items_from refusal must (suc i) k) (λ R. f (d ∷ R)) S)) →
          Within (most + suc k * most_cost) key_bound (refusing (items_from refusal must i (suc k)) f (b ∷ S))
      go false rest = within_more (omega arith) (rest false)
      go true rest =
          within_either (within_more (omega arith) (rest true))
          (within_cond (get_or must i false) (within_more (omega arith) (within_refusal here (rest false))))
