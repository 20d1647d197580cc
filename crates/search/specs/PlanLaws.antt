-- A plan is read off its key digit by digit, from the first.
use Rattle.std.specs.Prelude.{ℕ, zero, suc, ◌+◌, ◌/◌, ◌%◌, ◌^◌, ◌≤◌, ◌<◌, ◌≡◌, refl, List, [], ◌∷◌, ◌++◌, length, get_or, drop, set}
use Rattle.std.proofs.Common.{◌∙◌, append_assoc, append-nil, pow-suc, div-lt_iff_lt-mul, mod-lt, add-one, arith, length-append, drop-cons}
use Rattle.std.proofs.Math.Nat.{pow-succ', one-le-pow}
use Rattle.std.proofs.lemmas.List.{set_at}
use Rattle.laws.specs.Lists.{onto}
use Rattle.assignment.specs.Keys.{key_base, digits}

-- one number more at the front of a buffer
set_onto : (xs buffer : List ℕ) (v n : ℕ) → length xs ≡ n → n < length buffer →
    set (onto xs buffer) n v ≡ onto (xs ++ (v ∷ [])) buffer
unfolding onto
set_onto xs buffer v n count room =
    let after : length (xs ++ (v ∷ [])) ≡ suc n = rw (length-append, count, add-one) in
    rw (after, count, drop-cons buffer n 0 room, set_at xs (get_or buffer n 0) (drop (suc n) buffer) v n count, append_assoc) refl

-- where the writing of n digits stands after i of them: `rest` holds the others, and `power` is above it
pub record PlanWritten (n key : ℕ) (buffer plan : List ℕ) (power rest i : ℕ) : Type 0 where
  pub left : ℕ
  pub written : List ℕ
  pub counted : i + left ≡ n
  pub as_many : length written ≡ i
  pub is_power : power ≡ key_base ^ left
  pub rest_below : rest < key_base ^ left
  pub digits_so_far : digits n key ≡ written ++ digits left rest
  pub in_plan : plan ≡ onto written buffer

pub nothing_written : (n key : ℕ) (plan : List ℕ) (power : ℕ) → power ≡ key_base ^ n → key < key_base ^ n →
    PlanWritten n key plan plan power key 0
unfolding onto
nothing_written n key plan power is_power below =
    record {
      left = n;
      written = [];
      counted = omega arith;
      as_many = refl;
      is_power = is_power;
      rest_below = below;
      digits_so_far = refl;
      in_plan = refl;
    }

-- the first of `left` digits of `rest`
pub record FirstDigit (left power rest : ℕ) : Type 0 where
  pub places : ℕ
  pub one_less : left ≡ suc places
  pub weight : power / 33 ≡ key_base ^ places
  pub some_weight : 0 < power / 33
  pub small : rest / (power / 33) < 33
  pub others : digits left rest ≡ rest / (power / 33) ∷ digits places (rest % (power / 33))

pub first_digit : (left power rest : ℕ) → 0 < left → power ≡ key_base ^ left → rest < key_base ^ left → FirstDigit left power rest
unfolding key_base digits
first_digit zero power rest some is_power below = absurd (omega arith)
first_digit (suc l) power rest some is_power below =
    let weight : power / 33 ≡ 33 ^ l = omega (arith, is_power, pow-suc 33 l) in
    let some_weight : 0 < 33 ^ l = one-le-pow l 33 (omega arith) in
    record {
      places = l;
      one_less = refl;
      weight = weight;
      some_weight = omega arith;
      small = rw weight ((div-lt_iff_lt-mul some_weight).1 (rw pow-succ' at below));
      others = rw weight;
    }

module _ {n key : ℕ} {buffer plan : List ℕ} {power rest i : ℕ} (at : PlanWritten n key buffer plan power rest i) where
  pub next_digit : i < n → FirstDigit at.left power rest
  next_digit more = first_digit at.left power rest (omega (arith, at.counted)) at.is_power at.rest_below

  pub one_more_digit : i < n → n ≤ length buffer →
      PlanWritten n key buffer (set plan i (rest / (power / 33))) (power / 33) (rest % (power / 33)) (i + 1)
  one_more_digit more room =
      let next = next_digit more in
      let d = rest / (power / 33) in
      record {
        left = next.places;
        written = at.written ++ (d ∷ []);
        counted = omega (arith, at.counted, next.one_less);
        as_many = rw (length-append, at.as_many);
        is_power = next.weight;
        rest_below = rw next.weight (mod-lt rest (rw next.weight at next.some_weight));
        digits_so_far = at.digits_so_far ∙ rw (next.others, append_assoc);
        in_plan = rw at.in_plan (set_onto at.written buffer d i at.as_many (omega arith));
      }

  pub all_written : n ≤ i → plan ≡ onto (digits n key) buffer
  unfolding digits
  all_written done =
      let none : at.left ≡ 0 = omega (arith, at.counted) in
      let all : digits n key ≡ at.written = at.digits_so_far ∙ rw (none, append-nil) in
      at.in_plan ∙ rw all
