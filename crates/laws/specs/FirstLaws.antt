-- What `first` finds, and that it is the only such number.
use Prim.Native.Nat.{ℕ, zero, suc, ◌≤◌, ◌<◌}
use Rattle.std.specs.Prelude.{◌≡◌, refl, Bool, true, false, cond, ltb}
use Rattle.std.proofs.Common.{sym, ◌∙◌, true≢false, add-one, arith, below_more, ltb-true, ltb-false}
use Rattle.laws.specs.Search.{first}

-- k is the least number below n that passes, or n where none does
pub record IsFirst (passes : ℕ → Bool) (n k : ℕ) : Type 0 where
  pub at_most : k ≤ n
  pub none_below : (j : ℕ) → j < k → passes j ≡ false
  pub passes_below : k < n → passes k ≡ true

module _ (passes : ℕ → Bool) where
  first_step : (n k : ℕ) → IsFirst passes n k → IsFirst passes (suc n) (cond (ltb k n) k (cond (passes n) n (suc n)))
  first_step n k h = go (ltb k n) refl (passes n) refl
    where
      go : (below : Bool) → ltb k n ≡ below → (now : Bool) → passes n ≡ now → IsFirst passes (suc n) (cond below k (cond now n (suc n)))
      go true b now e =
          record {
            at_most = omega (arith, ltb-true k n b);
            none_below = h.none_below;
            passes_below = λ l. h.passes_below (ltb-true k n b);
          }
      go false b true e =
          let k_is_n : k ≡ n = omega (arith, ltb-false k n b) in
          record { at_most = omega arith; none_below = λ j l. h.none_below j (omega arith); passes_below = λ l. e }
      go false b false e =
          let k_is_n : k ≡ n = omega (arith, ltb-false k n b) in
          record {
            at_most = omega arith;
            none_below = rw add-one at (below_more (λ j. passes j ≡ false) n (λ j l. h.none_below j (omega arith)) e);
            passes_below = λ l. absurd (omega arith);
          }

  pub first_is_first : (n : ℕ) → IsFirst passes n (first passes n)
  unfolding first
  first_is_first zero =
      record { at_most = omega arith; none_below = λ j l. absurd (omega arith); passes_below = λ l. absurd (omega arith) }
  first_is_first (suc n) = first_step n (first passes n) (first_is_first n)

  not_after : {n k m : ℕ} → IsFirst passes n k → IsFirst passes n m → k < m → ⊥
  not_after {n} {k} {m} h g l = true≢false (sym (h.passes_below (omega arith)) ∙ g.none_below k l)

  pub first_unique : {n k : ℕ} → IsFirst passes n k → first passes n ≡ k
  first_unique {n} {k} h = omega (arith, not_after h (first_is_first n), not_after (first_is_first n) h)
