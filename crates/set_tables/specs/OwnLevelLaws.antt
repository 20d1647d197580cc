-- The own level of an item comes first of those at which a job has its ticks within its window.
use Prim.Native.Nat.{ℕ, zero, suc, ◌≤◌, ◌<◌}
use Rattle.std.specs.Prelude.{Bool, not, ◌&&◌, ◌||◌, List, ◌⊎◌, ◌≡◌}
use Rattle.std.proofs.Math.Bool.{true, false, cond}
use Rattle.std.proofs.Common.{inl, inr, eq-or-lt_of_le}
use Rattle.std.proofs.Math.Path.{refl}
use native.Mathlib.Omega.{arith}
use borrow.Author.Tests.{ltb-true, ltb-false, lt-ltb, le-ltb}
use Rattle.std.proofs.Math.Dec.{ltb}
use Rattle.laws.specs.Below.{lt_or_le}
use Rattle.laws.specs.Truth.{false_not_true}
use Rattle.knapsack.specs.Offered.{entry_of}
use Rattle.set_tables.specs.OwnPatterns.{is_within, is_better, own_level}

module _ (timings cost : List ℕ) (i : ℕ) where
  -- what the test of a level beside the best so far tells
  data Judged (l b : ℕ) : Bool → Type 0 where
    outside : is_within timings i l ≡ false → Judged l b false
    newly_within : is_within timings i l ≡ true → is_within timings i b ≡ false → Judged l b true
    cheaper : is_within timings i l ≡ true → is_within timings i b ≡ true → entry_of cost i l < entry_of cost i b → Judged l b true
    no_cheaper : is_within timings i b ≡ true → entry_of cost i b ≤ entry_of cost i l → Judged l b false

  judged : (l b : ℕ) → Judged l b (is_better timings cost i l b)
  unfolding is_better
  judged l b = go (is_within timings i l) (is_within timings i b) (ltb (entry_of cost i l) (entry_of cost i b)) refl refl refl
    where
      go : (p q r : Bool) → is_within timings i l ≡ p → is_within timings i b ≡ q → ltb (entry_of cost i l) (entry_of cost i b) ≡ r →
          Judged l b (p && (not q || r))
      go false q r ep eq er = outside ep
      go true false r ep eq er = newly_within ep eq
      go true true true ep eq er = cheaper ep eq (ltb-true _ _ er)
      go true true false ep eq er = no_cheaper eq (ltb-false _ _ er)

  -- the four answers of the code

  pub stays_outside : (l b : ℕ) → is_within timings i l ≡ false → b ≡ cond (is_better timings cost i l b) l b
  unfolding is_better
  stays_outside l b e = rw e refl

  module _ (l b : ℕ) (within : is_within timings i l ≡ true) where
    pub taken_within : is_within timings i b ≡ false → l ≡ cond (is_better timings cost i l b) l b
    unfolding is_better
    taken_within e = rw (within, e) refl

    module _ (b_within : is_within timings i b ≡ true) where
      pub taken_cheaper : entry_of cost i l < entry_of cost i b → l ≡ cond (is_better timings cost i l b) l b
      unfolding is_better
      taken_cheaper less = rw (within, b_within, lt-ltb _ _ less) refl

      pub stays_no_cheaper : entry_of cost i b ≤ entry_of cost i l → b ≡ cond (is_better timings cost i l b) l b
      unfolding is_better
      stays_no_cheaper at_most = rw (within, b_within, le-ltb _ _ at_most) refl

  pub own_at_most : (k : ℕ) → own_level timings cost i k ≤ k
  unfolding own_level
  own_at_most zero = omega arith
  own_at_most (suc k) = go (is_better timings cost i k (own_level timings cost i k)) (own_at_most k)
    where
      go : (t : Bool) → own_level timings cost i k ≤ k → cond t k (own_level timings cost i k) ≤ suc k
      go true before = omega arith
      go false before = omega arith

  pub own_below : (k : ℕ) → 1 ≤ k → own_level timings cost i k < k
  unfolding own_level
  own_below zero some = absurd (omega arith)
  own_below (suc k) some = go (is_better timings cost i k (own_level timings cost i k)) (own_at_most k)
    where
      go : (t : Bool) → own_level timings cost i k ≤ k → cond t k (own_level timings cost i k) < suc k
      go true before = omega arith
      go false before = omega arith

  -- level b is within the window, and cheaper than level m or as cheap and no later
  abbrev pub ComesFirst : (b m : ℕ) → Type 0
  ComesFirst b m = (is_within timings i b ≡ true) × ((entry_of cost i b < entry_of cost i m) ⊎ ((entry_of cost i b ≡ entry_of cost i m) × (b ≤ m)))

  -- with one level more
  comes_first_of_more : (k b m : ℕ) → b ≤ k → (m < k → ComesFirst b m) → m < suc k → is_within timings i m ≡ true → (t : Bool) → Judged k b t →
      ComesFirst (cond t k b) m
  comes_first_of_more k b m no_higher earlier under within t better = go t better (eq-or-lt_of_le under)
    where
      no_later : entry_of cost i b ≤ entry_of cost i k → (entry_of cost i b < entry_of cost i k) ⊎ (entry_of cost i k ≤ entry_of cost i b) →
          (entry_of cost i b < entry_of cost i k) ⊎ ((entry_of cost i b ≡ entry_of cost i k) × (b ≤ k))
      no_later at_most (inl less) = inl less
      no_later at_most (inr not_less) = inr (omega arith, no_higher)

      cheaper_than : entry_of cost i k < entry_of cost i b → ComesFirst b m → entry_of cost i k < entry_of cost i m
      cheaper_than less (its, inl lower) = omega arith
      cheaper_than less (its, inr (same, as_low)) = omega arith

      go : (t : Bool) → Judged k b t → (suc m ≡ suc k) ⊎ (suc m < suc k) → ComesFirst (cond t k b) m
      go true better (inl last) =
          let this : m ≡ k = omega arith in
          rw this (rw this at within, inr (refl, omega arith))
      go true (newly_within its not_b) (inr before) = absurd (false_not_true not_b (earlier (omega arith)).0)
      go true (cheaper its b_is less) (inr before) = (its, inl (cheaper_than less (earlier (omega arith))))
      go false no_better (inr before) = earlier (omega arith)
      go false (outside not_its) (inl last) =
          let this : m ≡ k = omega arith in
          absurd (false_not_true not_its (rw this at within))
      go false (no_cheaper b_is at_most) (inl last) =
          let this : m ≡ k = omega arith in
          rw this (b_is, no_later at_most (lt_or_le (entry_of cost i b) (entry_of cost i k)))

  pub own_comes_first : (k m : ℕ) → m < k → is_within timings i m ≡ true → ComesFirst (own_level timings cost i k) m
  unfolding own_level
  own_comes_first zero m under within = absurd (omega arith)
  own_comes_first (suc k) m under within =
      let b = own_level timings cost i k in
      comes_first_of_more k b m (own_at_most k) (λ before. own_comes_first k m before within) under within (is_better timings cost i k b) (judged k b)
