-- The number of the set that a core runs of the plan that a key stands for, read off the key digit by digit, from the first.
use Rattle.std.specs.Prelude.{ℕ, suc, ◌+◌, ◌-◌, ◌*◌, ◌/◌, ◌%◌, ◌^◌, ◌≤◌, ◌<◌, ◌≡◌, ◌≢◌, Bool, true, false, cond, not, ◌∷◌, eqb}
use Rattle.std.proofs.Common.{ap, ◌∙◌, pow-suc, mod-lt, add-one, arith, pow_mono}
use Rattle.std.proofs.Math.Nat.{pow-zero, pow-succ'}
use borrow.Author.Tests.{eq-eqb, ne_eqb}
use Rattle.std.proofs.Math.Dec.{eqb-suc-zero}
use Rattle.assignment.specs.Assignment.{on_core, core_pattern}
use Rattle.assignment.specs.Keeping.{kept_items, core_set}
use Rattle.assignment.specs.KeepingLaws.{kept_runs, refused_runs}
use Rattle.assignment.specs.Keys.{key_base, digits}
use Rattle.assignment.specs.Limits.{most_items}
use Rattle.assignment.specs.Sets.{set_number}
use Rattle.search.specs.PlanLaws.{FirstDigit, first_digit}

-- by its number
unfoldable pub core_set_number : (n levels core key : ℕ) → ℕ
core_set_number n levels core key = set_number n (core_set levels core (digits n key))

-- 1 where choice c has the core run its item, else 0
unfoldable pub runs_on : (levels core c : ℕ) → ℕ
runs_on levels core c = cond (not (eqb (on_core levels core c) 0)) 1 0

pub runs_refused : (levels core c : ℕ) → c ≡ 0 → runs_on levels core c ≡ 0
unfolding runs_on
runs_refused levels core c none = rw (none, refused_runs levels core)

module _ (levels core c : ℕ) (some : c ≢ 0) where
  kept_choice : on_core levels core c ≡ cond (eqb ((c - 1) / levels) core) (suc ((c - 1) % levels)) 0
  kept_choice = let one_less : suc (c - 1) ≡ c = omega arith in rw one_less at (kept_runs levels core (c - 1))

  pub runs_here : (c - 1) / levels ≡ core → runs_on levels core c ≡ 1
  unfolding runs_on
  runs_here here = rw (kept_choice, eq-eqb ((c - 1) / levels) core here, eqb-suc-zero)

  pub runs_elsewhere : (c - 1) / levels ≢ core → runs_on levels core c ≡ 0
  unfolding runs_on
  runs_elsewhere other = rw (kept_choice, ne_eqb ((c - 1) / levels) core other)

-- where the reading stands after i of n digits: `rest` holds the others, and `power` is above it
pub record SetRead (n levels core key power rest set i : ℕ) : Type 0 where
  pub left : ℕ
  pub counted : i + left ≡ n
  pub is_power : power ≡ key_base ^ left
  pub rest_below : rest < key_base ^ left
  pub set_below : set < 2 ^ i
  pub set_so_far : core_set_number n levels core key ≡ set * 2 ^ left + core_set_number left levels core rest

pub nothing_read : (n levels core key power : ℕ) → power ≡ key_base ^ n → key < key_base ^ n → SetRead n levels core key power key 0 0
nothing_read n levels core key power is_power below =
    record {
      left = n;
      counted = omega arith;
      is_power = is_power;
      rest_below = below;
      set_below = omega (arith, pow-zero 2);
      set_so_far = omega arith;
    }

-- the first item's bit stands above all others
first_bit : (places levels core c rest : ℕ) →
    set_number (suc places) (core_set levels core (c ∷ digits places rest)) ≡ runs_on levels core c * 2 ^ places + core_set_number places levels core rest
unfolding set_number core_set kept_items core_pattern runs_on core_set_number
first_bit places levels core c rest = go (not (eqb (on_core levels core c) 0))
  where
    others : ℕ
    others = set_number places (kept_items (core_pattern levels core (digits places rest)))

    go : (b : Bool) → cond b (2 ^ places) 0 + others ≡ cond b 1 0 * 2 ^ places + others
    go true = omega arith
    go false = omega arith

one_digit_less : (left places levels core c r rest : ℕ) → left ≡ suc places → digits left rest ≡ c ∷ digits places r →
    core_set_number left levels core rest ≡ runs_on levels core c * 2 ^ places + core_set_number places levels core r
unfolding core_set_number
one_digit_less left places levels core c r rest one_less others = rw (others, one_less) (first_bit places levels core c r)

pub runs_at_most_once : (levels core c : ℕ) → runs_on levels core c ≤ 1
unfolding runs_on
runs_at_most_once levels core c = go (not (eqb (on_core levels core c) 0))
  where
    go : (b : Bool) → cond b 1 0 ≤ 1
    go true = omega arith
    go false = omega arith

module _ {n levels core key power rest set i : ℕ} (at : SetRead n levels core key power rest set i) where
  pub next_choice : i < n → FirstDigit at.left power rest
  next_choice more = first_digit at.left power rest (omega (arith, at.counted)) at.is_power at.rest_below

  -- within a machine number
  pub set_small : i < n → n ≤ most_items → set < 4096
  set_small more few = let small : i ≤ 12 = omega arith in omega (arith, at.set_below, pow_mono small)

  pub one_more_choice : i < n →
      SetRead n levels core key (power / 33) (rest % (power / 33)) (set * 2 + runs_on levels core (rest / (power / 33))) (i + 1)
  one_more_choice more =
      let next = next_choice more in
      let places = next.places in
      let c = rest / (power / 33) in
      let r = rest % (power / 33) in
      let bit = runs_on levels core c in
      let powers : 2 ^ at.left ≡ 2 * 2 ^ places = ap (λ (k : ℕ). 2 ^ k) next.one_less ∙ pow-succ' 2 places in
      record {
        left = places;
        counted = omega (arith, at.counted, next.one_less);
        is_power = next.weight;
        rest_below = rw next.weight (mod-lt rest (rw next.weight at next.some_weight));
        set_below = rw add-one (omega (arith, at.set_below, runs_at_most_once levels core c, pow-suc 2 i));
        set_so_far =
            omega (arith, at.set_so_far, one_digit_less at.left places levels core c r rest next.one_less next.others, ap (λ (k : ℕ). set * k) powers);
      }

  pub all_read : n ≤ i → set ≡ core_set_number n levels core key
  unfolding core_set_number digits set_number
  all_read done =
      let none : at.left ≡ 0 = omega (arith, at.counted) in
      let read = rw none at at.set_so_far in
      omega (arith, read, pow-zero 2)
