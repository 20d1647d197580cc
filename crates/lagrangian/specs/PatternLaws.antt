-- One item more at the end of a pattern's front: its cost, its key and its entries; and what timings and offers hold of an item.
use Rattle.std.specs.Prelude.{◌≡◌, ℕ, zero, suc, ◌+◌, ◌*◌, ◌^◌, ◌<◌, ◌≢◌, List, [], ◌∷◌, ◌++◌, length, replicate, slice_index, slice_index_or, refl}
use Rattle.std.proofs.Common.{ap, ◌∙◌, le_of_suc-le-suc, mul_assoc, add-mul, length-append}
use Rattle.std.proofs.Math.Nat.{pow-zero, pow-succ'}
use native.Mathlib.Omega.{arith}
use Rattle.laws.specs.Lists.{list_of}
use Rattle.laws.specs.JoinedLaws.{length-list_of, get_d-list_of}
use Rattle.assignment.specs.KeyLaws.{InBase, digit}
use Rattle.assignment.specs.Keys.{key_base, plan_key}
use Rattle.knapsack.specs.Offered.{entry_of, offer_at, offers_of}
use Rattle.knapsack.specs.Offers.{Offer, entry_cost, pattern_cost}
use Rattle.lagrangian.specs.TimedCores.{no_timing, timing_at, timing_in, timings_of}

pub no_front_no_cost : (offers : List Offer) → pattern_cost offers [] ≡ 0
unfolding pattern_cost
no_front_no_cost [] = refl
no_front_no_cost (offer ∷ offers) = refl

cost_of_next : (offers : List Offer) (q : List ℕ) (c : ℕ) (none : Offer) → length q < length offers →
    pattern_cost offers (q ++ (c ∷ [])) ≡ pattern_cost offers q + entry_cost (slice_index_or offers (length q) none) c
unfolding pattern_cost
cost_of_next [] q c none within = absurd (omega arith)
cost_of_next (offer ∷ offers) [] c none within = omega (arith, no_front_no_cost offers)
cost_of_next (offer ∷ offers) (d ∷ q) c none within = omega (arith, cost_of_next offers q c none (le_of_suc-le-suc within))

pub key_of_next : (q : List ℕ) (c : ℕ) → plan_key (q ++ (c ∷ [])) ≡ plan_key q * key_base + c
unfolding plan_key
key_of_next [] c = rw pow-zero (omega arith)
key_of_next (d ∷ q) c =
    let longer : length (q ++ (c ∷ [])) ≡ suc (length q) = length-append q (c ∷ []) ∙ omega arith in
    rw (longer, pow-succ', key_of_next q c)
    (omega (arith, mul_assoc d (key_base ^ length q) key_base, add-mul (d * key_base ^ length q) (plan_key q) key_base))

pub one_digit_more : {q : List ℕ} → InBase q → (c : ℕ) → c < key_base → InBase (q ++ (c ∷ []))
one_digit_more InBase.nothing c small = digit c small InBase.nothing
one_digit_more (digit d l others) c small = digit d l (one_digit_more others c small)

-- the entries of a front with one item more

pub entry_there : (q : List ℕ) (c : ℕ) → slice_index (q ++ (c ∷ [])) (length q) ≡ c
entry_there [] c = refl
entry_there (d ∷ q) c = entry_there q c

pub entry_between : (q : List ℕ) (c : ℕ) (r : List ℕ) → slice_index (q ++ (c ∷ []) ++ r) (length q) ≡ c
entry_between [] c r = refl
entry_between (d ∷ q) c r = entry_between q c r

pub entry_of_none : (q : List ℕ) (j : ℕ) → slice_index (q ++ (0 ∷ [])) j ≡ slice_index q j
entry_of_none [] zero = refl
entry_of_none [] (suc j) = refl
entry_of_none (d ∷ q) zero = refl
entry_of_none (d ∷ q) (suc j) = entry_of_none q j

pub entry_elsewhere : (q : List ℕ) (c j : ℕ) → j ≢ length q → slice_index (q ++ (c ∷ [])) j ≡ slice_index q j
entry_elsewhere [] c zero other = absurd (other refl)
entry_elsewhere [] c (suc j) other = refl
entry_elsewhere (d ∷ q) c zero other = refl
entry_elsewhere (d ∷ q) c (suc j) other = entry_elsewhere q c j (λ same. other (ap suc same))

pub no_entry : (n j : ℕ) → ◌≡◌ {A = ℕ} (slice_index (replicate n 0) j) 0
no_entry zero j = refl
no_entry (suc n) zero = refl
no_entry (suc n) (suc j) = no_entry n j

-- what stands in the slices

pub timing_of_lem : (timings : List ℕ) (n i : ℕ) → i < n → timing_in (timings_of timings n) i ≡ timing_at timings i
unfolding timings_of
timing_of_lem timings n i within = get_d-list_of (timing_at timings) n i no_timing within

module _ (cost : List ℕ) (n : ℕ) (q : List ℕ) (within : length q < n) where
  offered : (c : ℕ) → pattern_cost (offers_of [] cost n) (q ++ (c ∷ [])) ≡ pattern_cost (offers_of [] cost n) q + entry_cost (offer_at [] cost (length q)) c
  unfolding offers_of
  offered c =
      rw (← get_d-list_of (offer_at [] cost) n (length q) (offer_at [] cost 0) within)
      (cost_of_next (list_of (offer_at [] cost) n) q c (offer_at [] cost 0) (rw (length-list_of (offer_at [] cost) n) within))

  pub cost_of_none : pattern_cost (offers_of [] cost n) (q ++ (0 ∷ [])) ≡ pattern_cost (offers_of [] cost n) q
  unfolding entry_cost
  cost_of_none = offered 0 ∙ omega arith

  pub cost_of_run : (l : ℕ) → pattern_cost (offers_of [] cost n) (q ++ (suc l ∷ [])) ≡ pattern_cost (offers_of [] cost n) q + entry_of cost (length q) l
  unfolding entry_cost offer_at
  cost_of_run l = offered (suc l)
