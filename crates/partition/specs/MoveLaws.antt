-- The weight of a set is the key base times that of the set moved by one place, and its last item.
use Rattle.std.specs.Prelude.{ℕ, zero, suc, ◌+◌, ◌*◌, ◌/◌, ◌%◌, ◌^◌, ◌≤◌, ◌<◌, ◌≡◌, refl, ◌⊎◌, Bool, true, false, cond, List, [], ◌∷◌, length, get_or, set}
use Rattle.std.proofs.Common.{sym, ap, ◌∙◌, inl, inr, pow-suc, zero-mul, mul-zero, zero-add, mul-add, eq-or-lt_of_le, pow_pos, get_or-set_same, get_or-set_other}
use Rattle.std.proofs.Math.Nat.{pow-zero, pow-succ'}
use native.Mathlib.Omega.{arith}
use Rattle.std.proofs.Math.Arith.{digits_lt}
use Rattle.assignment.specs.Limits.{most_items}
use Rattle.assignment.specs.Keys.{key_base, weight}
use Rattle.assignment.specs.KeyLaws.{keys_fit}
use Rattle.assignment.specs.Sets.{set_number}
use Rattle.assignment.specs.SetLaws.{numbered}
use Rattle.partition.specs.Moves.{shifted, last_or, WeightsBelow, MovesReady, MovedBelow}

length_shifted : (b : Bool) (S : List Bool) → length (shifted b S) ≡ length S
unfolding shifted
length_shifted b [] = refl
length_shifted b (d ∷ S) = ap suc (length_shifted d S)

-- as many digits as items, none above `shift`
pub weight_below : {shift : ℕ} → shift < key_base → (S : List Bool) → shift * weight S < key_base ^ length S
unfolding weight
weight_below {shift} small [] = omega (arith, pow-zero key_base, mul-zero shift)
weight_below {shift} small (true ∷ S) = rw (pow-succ', mul-add) (digits_lt small (weight_below small S))
weight_below {shift} small (false ∷ S) =
    let some_digit : 0 < key_base = omega arith in
    rw (pow-succ', zero-add) (omega (arith, digits_lt some_digit (weight_below small S)))

-- no item, no digit
empty_weighs_nothing : (n : ℕ) (S : List Bool) → length S ≡ n → set_number n S ≡ 0 → weight S ≡ 0
unfolding set_number weight
empty_weighs_nothing n [] of_items e = refl
empty_weighs_nothing zero (b ∷ S) of_items e = absurd (omega arith)
empty_weighs_nothing (suc n) (true ∷ S) of_items e = absurd (omega (arith, pow_pos n))
empty_weighs_nothing (suc n) (false ∷ S) of_items e =
    omega (arith, empty_weighs_nothing n S (omega arith) (omega arith))

scaled : (base n : ℕ) (b : Bool) → cond b (base ^ n) 0 * base ≡ cond b (base ^ suc n) 0
scaled base n true = omega (arith, pow-suc base n)
scaled base n false = zero-mul base

-- number and weight have the same digits, in two bases
digits_shifted : (n : ℕ) (b : Bool) (S : List Bool) → length S ≡ n →
    (set_number n (shifted b S) * 2 + cond (last_or b S) 1 0 ≡ cond b (2 ^ n) 0 + set_number n S)
    × (weight (shifted b S) * key_base + cond (last_or b S) 1 0 ≡ cond b (key_base ^ n) 0 + weight S)
unfolding set_number weight shifted last_or
digits_shifted zero true [] of_items = (omega (arith, pow-zero 2), omega (arith, zero-mul key_base, pow-zero key_base))
digits_shifted zero false [] of_items = (omega arith, omega (arith, zero-mul key_base))
digits_shifted zero b (d ∷ S) of_items = absurd (omega arith)
digits_shifted (suc n) b [] of_items = absurd (omega arith)
digits_shifted (suc n) b (d ∷ S) of_items =
    let counted : length S ≡ n = omega arith in
    let rest = digits_shifted n d S counted in
    let twos = scaled 2 n b in
    let keys = scaled key_base n b in
    (omega (arith, rest.0), rw (length_shifted d S, counted) (omega (arith, rest.1)))

-- the set x, without its last item and moved by one place, is x / 2
record Halved (n x : ℕ) (S : List Bool) : Type 0 where
  number : set_number n (shifted false S) ≡ x / 2
  weighs : weight (shifted false S) * 33 + x % 2 ≡ weight S

halved : (n x : ℕ) (S : List Bool) → length S ≡ n → set_number n S ≡ x → Halved n x S
unfolding key_base
halved n x S of_items is_x = go (last_or false S) (digits_shifted n false S of_items)
  where
    half : List Bool
    half = shifted false S

    go : (b : Bool) →
        (set_number n half * 2 + cond b 1 0 ≡ 0 + set_number n S) × (weight half * 33 + cond b 1 0 ≡ 0 + weight S) → Halved n x S
    go true (twos, keys) =
        let odd : x % 2 ≡ 1 = omega arith in
        record { number = omega arith; weighs = omega arith }
    go false (twos, keys) =
        let even : x % 2 ≡ 0 = omega arith in
        record { number = omega arith; weighs = omega arith }

-- the weights, one after the other

pub first_weight : (n : ℕ) (weights : List ℕ) → 0 < length weights → WeightsBelow n 1 (set weights 0 0)
first_weight n weights some = record { at = at }
  where
    at : (S : List Bool) → length S ≡ n → set_number n S < 1 → get_or (set weights 0 0) (set_number n S) 0 ≡ weight S
    at S of_items first =
        let zeroth : set_number n S ≡ 0 = omega arith in
        rw (zeroth, empty_weighs_nothing n S of_items zeroth) (get_or-set_same weights 0 0 0 some)

module _ {n x : ℕ} {weights : List ℕ} (below : WeightsBelow n x weights) (some : 0 < x) where
  -- the weight of x from that of x / 2
  next_weight : (S : List Bool) → length S ≡ n → set_number n S ≡ x → get_or weights (x / 2) 0 * 33 + x % 2 ≡ weight S
  next_weight S of_items is_x =
      let half = halved n x S of_items is_x in
      let at_half = below.at (shifted false S) (length_shifted false S ∙ of_items) (omega (arith, half.number)) in
      rw (sym (ap (λ (k : ℕ). get_or weights k 0) half.number) ∙ at_half) half.weighs

  pub next_weight_fits : n ≤ most_items → x < 2 ^ n → get_or weights (x / 2) 0 * 33 + x % 2 < 2 ^ 64
  unfolding key_base
  next_weight_fits few in_range =
      let s = numbered n x in_range in
      let is = next_weight s.set s.of_items s.number in
      let one_digit : 1 < key_base = omega arith in
      omega (arith, rw s.of_items at (weight_below one_digit s.set), keys_fit few)

  pub one_more_weight : x < length weights →
      WeightsBelow n (x + 1) (set weights x (get_or weights (x / 2) 0 * 33 + x % 2))
  one_more_weight in_range = record { at = λ S of_items h. go S of_items (eq-or-lt_of_le h) }
    where
      next : ℕ
      next = get_or weights (x / 2) 0 * 33 + x % 2

      go : (S : List Bool) → length S ≡ n → (suc (set_number n S) ≡ x + 1) ⊎ (suc (set_number n S) < x + 1) →
          get_or (set weights x next) (set_number n S) 0 ≡ weight S
      go S of_items (inl e) =
          let is_x : set_number n S ≡ x = omega arith in
          rw is_x (get_or-set_same weights x next 0 in_range ∙ next_weight S of_items is_x)
      go S of_items (inr h) =
          get_or-set_other weights x (set_number n S) next 0 (omega arith) ∙ below.at S of_items (omega arith)

-- the moved keys, one after the other

pub nothing_moved : {n shift : ℕ} {keys moved : List ℕ} → MovedBelow n shift 0 keys moved
nothing_moved = record { at = λ S of_items none. absurd (omega arith) }

module _ {n shift x : ℕ} {weights keys lent : List ℕ} (ready : MovesReady n shift keys lent)
    (weighed : WeightsBelow n (2 ^ n) weights) (more : x < 2 ^ n) where
  pub next_move_fits : get_or keys x 0 + shift * get_or weights x 0 < 2 ^ 64
  next_move_fits =
      let s = numbered n x more in
      let right = rw s.number at (weighed.at s.set s.of_items (rw s.number more)) in
      let under : shift * get_or weights x 0 < key_base ^ n =
      rw right (rw s.of_items at (weight_below ready.small_shift s.set)) in
      omega (arith, ready.key_bound_lem x more, keys_fit ready.few_items)

  pub one_more_moved : {moved : List ℕ} → length moved ≡ length lent → MovedBelow n shift x keys moved →
      MovedBelow n shift (x + 1) keys (set moved x (get_or keys x 0 + shift * get_or weights x 0))
  one_more_moved {moved} same_length below = record { at = λ S of_items h. go S of_items (eq-or-lt_of_le h) }
    where
      next : ℕ
      next = get_or keys x 0 + shift * get_or weights x 0

      go : (S : List Bool) → length S ≡ n → (suc (set_number n S) ≡ x + 1) ⊎ (suc (set_number n S) < x + 1) →
          get_or (set moved x next) (set_number n S) 0 ≡ get_or keys (set_number n S) 0 + shift * weight S
      go S of_items (inl e) =
          let is_x : set_number n S ≡ x = omega arith in
          let right : get_or weights x 0 ≡ weight S = rw is_x at (weighed.at S of_items (omega arith)) in
          rw (is_x, ← right) (get_or-set_same moved x next 0 (omega (arith, ready.moved_long)))
      go S of_items (inr h) =
          get_or-set_other moved x (set_number n S) next 0 (omega arith) ∙ below.at S of_items (omega arith)
