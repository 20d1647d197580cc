-- Keys stand for plans: a key's digits are the plan, and keys of plans are ordered as the plans are.
use Rattle.std.specs.Prelude.{ℕ, suc, ◌+◌, ◌*◌, ◌^◌, ◌≤◌, ◌<◌, ◌≡◌, refl, ◌⊎◌, Bool, List, [], ◌∷◌, length}
use Rattle.std.proofs.Common.{ap, inl, inr, mul-le-mul_right, arith}
use Rattle.std.proofs.Math.Logic.{⊎_map}
use Rattle.std.proofs.Math.Nat.{pow-zero, pow-succ', pow-le-pow_right, suc_inj}
use Rattle.std.proofs.Math.Decide.{dec_lt}
use Rattle.std.proofs.Math.Arith.{digits_lt, digits_div, digits_mod}
use Rattle.assignment.specs.Limits.{most_items}
use Rattle.assignment.specs.Assignment.{Before, differs, agrees}
use Rattle.assignment.specs.Keys.{key_base, plan_key, digits}
use Rattle.assignment.specs.Keeping.{Keeps, done, refused, kept}

-- every choice is a digit
pub data InBase : List ℕ → Type 0 where
  nothing : InBase []
  digit : {plan : List ℕ} (c : ℕ) → c < key_base → InBase plan → InBase (c ∷ plan)

pub keeps_in_base : {most : ℕ} {S : List Bool} {plan : List ℕ} → most < key_base → Keeps most S plan → InBase plan
keeps_in_base small done = nothing
keeps_in_base small (refused k) = digit 0 (omega arith) (keeps_in_base small k)
keeps_in_base small (kept d h k) = digit (suc d) (omega arith) (keeps_in_base small k)

pub keeps_length : {most : ℕ} {S : List Bool} {plan : List ℕ} → Keeps most S plan → length plan ≡ length S
keeps_length done = refl
keeps_length (refused k) = ap suc (keeps_length k)
keeps_length (kept d h k) = ap suc (keeps_length k)

pub key_below : {plan : List ℕ} → InBase plan → plan_key plan < key_base ^ length plan
unfolding plan_key
key_below nothing = rw pow-zero (omega arith)
key_below (digit c h b) = rw pow-succ' (digits_lt h (key_below b))

pub digits_key : {plan : List ℕ} → InBase plan → digits (length plan) (plan_key plan) ≡ plan
unfolding plan_key digits
digits_key nothing = refl
digits_key (digit c h b) =
    rw (digits_div c (key_below b), digits_mod c (key_below b)) (ap (λ (plan : List ℕ). c ∷ plan) (digits_key b))

-- the first digit decides, and where it is the same, the others do
first_digit : {c d k j power : ℕ} → k < power → j < power → c * power + k ≤ d * power + j → (c < d) ⊎ ((c ≡ d) × (k ≤ j))
first_digit {c} {d} {k} {j} {power} hk hj le = go (dec_lt c d) (dec_lt d c)
  where
    go : Dec (c < d) → Dec (d < c) → (c < d) ⊎ ((c ≡ d) × (k ≤ j))
    go (yes less) other = inl less
    go (no not_less) (yes more) = absurd (omega (arith, mul-le-mul_right power more))
    go (no not_less) (no not_more) =
        let same : c ≡ d = omega arith in
        let powers = ap (λ (n : ℕ). n * power) same in
        inr (same, omega arith)

pub key_order : {plan other : List ℕ} → InBase plan → InBase other → length plan ≡ length other →
    plan_key plan ≤ plan_key other → (plan ≡ other) ⊎ Before plan other
unfolding plan_key
key_order nothing nothing same le = inl refl
key_order nothing (digit d k b) same le = absurd (omega arith)
key_order (digit c h a) nothing same le = absurd (omega arith)
key_order (digit {plan = plan} c h a) (digit {plan = other} d k b) same le =
    let lengths = suc_inj same in
    let under = rw (← lengths) at (key_below b) in
    go (first_digit (key_below a) under (rw (← lengths) at le)) (key_order a b lengths)
  where
    go : {i j : ℕ} → (c < d) ⊎ ((c ≡ d) × (i ≤ j)) → (i ≤ j → (plan ≡ other) ⊎ Before plan other) →
        (c ∷ plan ≡ d ∷ other) ⊎ Before (c ∷ plan) (d ∷ other)
    go (inl less) tail = inr (differs less)
    go (inr (same, tail_le)) tail = rw same (⊎_map (ap (λ (rest : List ℕ). d ∷ rest)) agrees (tail tail_le))

-- with at most twelve items, eight keys add up within 64 bits
pub keys_fit : {n : ℕ} → n ≤ most_items → 8 * key_base ^ n < 2 ^ 64
unfolding key_base
keys_fit {n} h =
    let some_digit : 0 < 33 = omega arith in
    let most : key_base ^ n ≤ key_base ^ 12 = pow-le-pow_right some_digit h in
    omega arith
