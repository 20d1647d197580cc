-- When a verdict that is made of tests is `Accepted`.
use Rattle.std.specs.Prelude.{ℕ, min, ◌<◌, ◌≤◌, Bool, true, false, cond, ◌↔◌, ◌≡◌, refl, ltb, eqb, Ok, Err}
use Rattle.std.proofs.Common.{sym, le_of_eq, arith, ltb-false, lt-ltb, le-ltb, eqb-true, eq-eqb, ne_eqb}
use Rattle.std.proofs.Math.Nat.{min-eq_right}
use Rattle.laws.specs.Search.{first}
use Rattle.laws.specs.SearchFacts.{first_at_end, first_of_none}
use Rattle.refusals.specs.Refusals.{◌and_then◌, Verdict, accepted}
use Rattle.refusals.specs.declared.Refusal.{Refusal}

pub refused_not_accepted : (r : Refusal) → Err r ≡ accepted → ⊥
refused_not_accepted r e = let z : ◌≡◌ {A = ℕ} 0 1 = cc in omega arith

pub and_then-accepts : (a b : Verdict) → (a and_then b ≡ accepted) ↔ ((a ≡ accepted) × (b ≡ accepted))
and_then-accepts (Ok tt) b = (λ e. (refl, e), λ both. both.1)
and_then-accepts (Err r) b =
    (λ e. absurd (refused_not_accepted r e), λ both. absurd (refused_not_accepted r both.0))

-- a length is tested before anything else
pub length_accepts : (a n : ℕ) (next : Verdict) (r : Refusal) →
    (cond (eqb a n) next (Err r) ≡ accepted) ↔ ((a ≡ n) × (next ≡ accepted))
length_accepts a n next r = (go (eqb a n) refl, λ both. rw (eq-eqb a n both.0) both.1)
  where
    go : (same : Bool) → eqb a n ≡ same → cond same next (Err r) ≡ accepted → (a ≡ n) × (next ≡ accepted)
    go true t e = (eqb-true a n t, e)
    go false t e = absurd (refused_not_accepted r e)

-- the first of n that fails a test is refused
pub none_refused : (fails : ℕ → Bool) (n : ℕ) (r : Refusal) →
    (cond (ltb (first fails n) n) (Err r) accepted ≡ accepted) ↔ ((k : ℕ) → k < n → fails k ≡ false)
none_refused fails n r =
    (go (ltb (first fails n) n) refl, λ none. rw (le-ltb (first fails n) n (le_of_eq (sym (first_of_none fails n none)))))
  where
    go : (before : Bool) → ltb (first fails n) n ≡ before → cond before (Err r) accepted ≡ accepted →
        (k : ℕ) → k < n → fails k ≡ false
    go true t e = absurd (refused_not_accepted r e)
    go false t e = first_at_end fails n (ltb-false (first fails n) n t)

-- what code answers where m is wanted: m places were searched, and the search came to x; a length a was compared with m
module _ (refusal : ℕ → Refusal) (n m : ℕ) (wanted : m ≡ n) where
  module _ (x y : ℕ) (found : x ≡ y) where
    pub found_is_refused : x < m → Err (refusal x) ≡ cond (ltb y n) (Err (refusal y)) accepted
    found_is_refused below = rw (← found, ← wanted, lt-ltb x m below) refl

    pub none_found_passes : m ≤ x → accepted ≡ cond (ltb y n) (Err (refusal y)) accepted
    none_found_passes past = rw (← found, ← wanted, le-ltb x m past) refl

  module _ (a : ℕ) (next : Verdict) where
    pub other_length_is_refused : (a ≡ m → ⊥) → Err (refusal (min a m)) ≡ cond (eqb a n) next (Err (refusal (min a n)))
    other_length_is_refused differs = rw (← wanted, ne_eqb a m differs) refl

    pub longer_is_refused : m < a → Err (refusal m) ≡ cond (eqb a n) next (Err (refusal (min a n)))
    longer_is_refused l = rw (← wanted, ne_eqb a m (λ e. omega arith), min-eq_right {n = m} {m = a} (omega arith)) refl

    pub same_length_goes_on : a ≡ m → next ≡ cond (eqb a n) next (Err (refusal (min a n)))
    same_length_goes_on same = rw (← wanted, eq-eqb a m same) refl
