-- Lowering the entries for one item more is lowering three times: without it, with it in the one part, with it in the other.
use Prim.Native.Nat.{ℕ, zero, suc, ◌+◌, ◌-◌, ◌/◌, ◌^◌, ◌≤◌, ◌<◌}
use Rattle.std.specs.Prelude.{◌≡◌, refl, ◌⊎◌, ◌≢◌, Bool, true, false, get_or}
use Rattle.std.proofs.Common.{ap, ◌∙◌, inl, inr, pow-suc, arith, pow_pos}
use mathlib.Core.List.{List, [], ◌∷◌}
use Rattle.std.proofs.Math.Nat.{zero-add, add-zero, add_assoc, pow-zero}
use Rattle.std.proofs.Math.ListN.{length}
use Rattle.assignment.specs.Values.{Value, lesser}
use Rattle.assignment.specs.ValueLaws.{lesser_assoc}
use Rattle.assignment.specs.Sets.{set_number}
use Rattle.assignment.specs.SetLaws.{set_number-below}
use Rattle.assignment.specs.Partition.{least_split}
use Rattle.partition.specs.Splits.{in_neither, in_top, in_rest, least_from, LoweredFrom, PowerOfTwo, SumFits, SumsFit, SplitsReady}
use Rattle.assignment.specs.Entries.{entry_at, NoDearer, Kept, Lowered}
use Rattle.partition.specs.declared.splits.Split.{Split}

module _ (sum : ℕ → ℕ → Value) (t r : ℕ) where
  pub least_from-nothing : least_from 0 sum t r [] ≡ sum t r
  unfolding least_from least_split set_number
  least_from-nothing = rw (add-zero t, add-zero r)

  least_from-neither : (k : ℕ) (S : List Bool) → least_from (suc k) sum t r (false ∷ S) ≡ least_from k sum t r S
  unfolding least_from least_split set_number
  least_from-neither k S = simp zero-add

  pub least_from-either : (k : ℕ) (S : List Bool) →
      least_from (suc k) sum t r (true ∷ S) ≡ lesser (least_from k sum (t + 2 ^ k) r S) (least_from k sum t (r + 2 ^ k) S)
  unfolding least_from least_split set_number
  least_from-either k S = simp (zero-add, add_assoc)

pub no_dearer_trans : {c k c' k' c'' k'' : List ℕ} → NoDearer c k c' k' → NoDearer c' k' c'' k'' → NoDearer c k c'' k''
no_dearer_trans {c} {k} {c'} {k'} {c''} {k''} p q = record { at = λ x. go x (p.at x) (q.at x) }
  where
    go : (x : ℕ) → (get_or c' x 0 < get_or c x 0) ⊎ ((get_or c' x 0 ≡ get_or c x 0) × (get_or k' x 0 ≤ get_or k x 0)) →
        (get_or c'' x 0 < get_or c' x 0) ⊎ ((get_or c'' x 0 ≡ get_or c' x 0) × (get_or k'' x 0 ≤ get_or k' x 0)) →
        (get_or c'' x 0 < get_or c x 0) ⊎ ((get_or c'' x 0 ≡ get_or c x 0) × (get_or k'' x 0 ≤ get_or k x 0))
    go x (inl a) (inl b) = inl (omega arith)
    go x (inl a) (inr b) = inl (omega arith)
    go x (inr a) (inl b) = inl (omega arith)
    go x (inr a) (inr b) = inr (omega arith)

pub kept_entry : {c k c' k' : List ℕ} {x : ℕ} → Kept c k c' k' x → entry_at c' k' x ≡ entry_at c k x
unfolding entry_at
kept_entry kept = rw (kept.cost, kept.key)

-- the one set that adds no item
pub lowered_at_one : {split : Split} {sum : ℕ → ℕ → Value} {c k c' k' : List ℕ} → Lowered split.s (sum split.t split.r) c k c' k' →
    LoweredFrom 0 split sum c k c' k'
unfolding set_number
lowered_at_one {split} {sum} {c} {k} {c'} {k'} lowered =
    record {
      there = at_one;
      elsewhere = λ x outside. lowered.elsewhere x (other x outside);
      no_dearer = lowered.no_dearer;
    }
  where
    at_one : (S : List Bool) → length S ≡ 0 →
        entry_at c' k' (split.s + 0) ≡ lesser (entry_at c k (split.s + 0)) (least_from 0 sum split.t split.r S)
    at_one [] empty = rw (add-zero split.s, least_from-nothing sum split.t split.r) lowered.there
    at_one (b ∷ S) empty = absurd (omega arith)

    other : (x : ℕ) → (x < split.s) ⊎ (split.s + 2 ^ 0 ≤ x) → x ≢ split.s
    other x (inl h) = omega arith
    other x (inr h) = omega arith

-- one item more: half of the sets are without it
module _ {k : ℕ} (split : Split) {sum : ℕ → ℕ → Value} {c0 k0 c1 k1 c2 k2 c3 k3 : List ℕ} (is_half : split.size / 2 ≡ 2 ^ k)
    (neither : LoweredFrom k (in_neither split) sum c0 k0 c1 k1)
    (lowered_in_top : LoweredFrom k (in_top split) sum c1 k1 c2 k2)
    (lowered_in_rest : LoweredFrom k (in_rest split) sum c2 k2 c3 k3) where
  without : (S : List Bool) → length S ≡ k →
      entry_at c3 k3 (split.s + set_number k S)
      ≡ lesser (entry_at c0 k0 (split.s + set_number k S)) (least_from k sum split.t split.r S)
  without S of_items =
      let below = set_number-below k S in
      kept_entry (lowered_in_rest.elsewhere (split.s + set_number k S) (inl (omega arith)))
      ∙ kept_entry (lowered_in_top.elsewhere (split.s + set_number k S) (inl (omega arith)))
      ∙ neither.there S of_items

  with_it : (S : List Bool) → length S ≡ k →
      entry_at c3 k3 (split.s + split.size / 2 + set_number k S)
      ≡ lesser (entry_at c0 k0 (split.s + split.size / 2 + set_number k S))
      (lesser (least_from k sum (split.t + split.size / 2) split.r S) (least_from k sum split.t (split.r + split.size / 2) S))
  with_it S of_items =
      let at = split.s + split.size / 2 + set_number k S in
      let untouched : entry_at c1 k1 at ≡ entry_at c0 k0 at = kept_entry (neither.elsewhere at (inr (omega arith))) in
      lowered_in_rest.there S of_items ∙ rw (lowered_in_top.there S of_items, untouched, lesser_assoc)

  pub lowered_one_more : LoweredFrom (suc k) split sum c0 k0 c3 k3
  unfolding set_number
  lowered_one_more =
      record {
        there = there;
        elsewhere = elsewhere;
        no_dearer = no_dearer_trans neither.no_dearer (no_dearer_trans lowered_in_top.no_dearer lowered_in_rest.no_dearer);
      }
    where
      there : (S : List Bool) → length S ≡ suc k →
          entry_at c3 k3 (split.s + set_number (suc k) S)
          ≡ lesser (entry_at c0 k0 (split.s + set_number (suc k) S)) (least_from (suc k) sum split.t split.r S)
      there [] of_items = absurd (omega arith)
      there (false ∷ S) of_items = rw (zero-add, least_from-neither sum split.t split.r k S) (without S (omega arith))
      there (true ∷ S) of_items =
          rw (← add_assoc, least_from-either sum split.t split.r k S, ← is_half) (with_it S (omega arith))

      elsewhere : (x : ℕ) → (x < split.s) ⊎ (split.s + 2 ^ suc k ≤ x) → Kept c0 k0 c3 k3 x
      elsewhere x (inl h) =
          let a = neither.elsewhere x (inl h) in
          let b = lowered_in_top.elsewhere x (inl (omega arith)) in
          let d = lowered_in_rest.elsewhere x (inl (omega arith)) in
          record { cost = omega arith; key = omega arith }
      elsewhere x (inr h) =
          let a = neither.elsewhere x (inr (omega (arith, pow-suc 2 k))) in
          let b = lowered_in_top.elsewhere x (inr (omega (arith, pow-suc 2 k))) in
          let d = lowered_in_rest.elsewhere x (inr (omega (arith, pow-suc 2 k))) in
          record { cost = omega arith; key = omega arith }

-- half of the sets, and what is asked of them

-- a number is one power of two at most
pub same_power : (j k : ℕ) → 2 ^ j ≡ 2 ^ k → k ≡ j
same_power zero zero e = refl
same_power zero (suc k) e = absurd (omega (arith, e, pow-suc 2 k, pow_pos k))
same_power (suc j) zero e = absurd (omega (arith, e, pow-suc 2 j, pow_pos j))
same_power (suc j) (suc k) e = ap suc (same_power j k (omega (arith, e, pow-suc 2 j, pow-suc 2 k)))

pub half_is_power : {size : ℕ} (k : ℕ) → size ≡ 2 ^ k → size ≢ 1 → (j : ℕ) × (k ≡ suc j) × (size / 2 ≡ 2 ^ j)
half_is_power zero is_power more = absurd (more (is_power ∙ pow-zero 2))
half_is_power (suc j) is_power more = (j, refl, omega (arith, is_power, pow-suc 2 j))

pub first_sums_fit : {size t r : ℕ} {tops rests : List ℕ} → PowerOfTwo size → SumsFit size t r tops rests →
    get_or tops t 0 + get_or rests r 0 < 2 ^ 64
first_sums_fit {t = t} {r} sets fit =
    let some : 0 < 2 ^ sets.exponent = pow_pos sets.exponent in
    let all = sets.is_power in
    rw (add-zero t, add-zero r) at (fit.sums_fit 0 0 (omega arith) (omega arith))

-- of the entries that add up, two
pub one_sum_fits : {size t r : ℕ} {tops rests : List ℕ} → SumsFit size t r tops rests → {x y : ℕ} → x < size → y < size →
    SumFits (t + x) (r + y) tops rests
one_sum_fits fit {x} {y} h j =
    record { top_there = omega (arith, fit.tops_long); rest_there = omega (arith, fit.rests_long); sum_fits = fit.sums_fit x y h j }

pub first_sum_fits : {size t r : ℕ} {tops rests : List ℕ} → PowerOfTwo size → SumsFit size t r tops rests → SumFits t r tops rests
first_sum_fits {t = t} {r} sets fit =
    let some : 0 < 2 ^ sets.exponent = pow_pos sets.exponent in
    let all = sets.is_power in
    rw (add-zero t, add-zero r) at (one_sum_fits fit {x = 0} {y = 0} (omega arith) (omega arith))

pub half_fits : {size t r t' r' : ℕ} {tops rests : List ℕ} → SumsFit size t r tops rests → t ≤ t' → t' + size / 2 ≤ t + size →
    r ≤ r' → r' + size / 2 ≤ r + size → SumsFit (size / 2) t' r' tops rests
half_fits {size} {t} {r} {t'} {r'} {tops} {rests} fit from_t to_t from_r to_r =
    record {
      tops_long = omega (arith, fit.tops_long);
      rests_long = omega (arith, fit.rests_long);
      sums_fit = sums;
    }
  where
    sums : (x y : ℕ) → x < size / 2 → y < size / 2 → get_or tops (t' + x) 0 + get_or rests (r' + y) 0 < 2 ^ 64
    sums x y h j =
        let at_t : t + (t' - t + x) ≡ t' + x = omega arith in
        let at_r : r + (r' - r + y) ≡ r' + y = omega arith in
        rw (at_t, at_r) at (fit.sums_fit (t' - t + x) (r' - r + y) (omega arith) (omega arith))

module _ {split : Split} {tops top_keys rests rest_keys costs keys : List ℕ}
    (ready : SplitsReady split tops top_keys rests rest_keys costs keys) (more : split.size ≢ 1) where
  some_sets : 0 < split.size
  some_sets = let all = ready.sets.is_power in omega (arith, pow_pos ready.sets.exponent)

  pub half_below : split.size / 2 < split.size
  half_below = let some = some_sets in omega arith

  half_ready : {costs' keys' : List ℕ} (s' t' r' : ℕ) → (split.s ≤ s') × (s' + split.size / 2 ≤ split.s + split.size) →
      (split.t ≤ t') × (t' + split.size / 2 ≤ split.t + split.size) →
      (split.r ≤ r') × (r' + split.size / 2 ≤ split.r + split.size) →
      length costs' ≡ length costs → length keys' ≡ length keys →
      SplitsReady record { size = split.size / 2; s = s'; t = t'; r = r' } tops top_keys rests rest_keys costs' keys'
  half_ready s' t' r' (from_s, to_s) (from_t, to_t) (from_r, to_r) same_costs same_keys =
      let (j, e, half) = half_is_power ready.sets.exponent ready.sets.is_power more in
      record {
        sets = record { exponent = j; is_power = half };
        costs_fit = half_fits ready.costs_fit from_t to_t from_r to_r;
        keys_fit = half_fits ready.keys_fit from_t to_t from_r to_r;
        costs_long = omega (arith, ready.costs_long);
        keys_long = omega (arith, ready.keys_long);
      }

  module _ {costs' keys' : List ℕ} (same_costs : length costs' ≡ length costs) (same_keys : length keys' ≡ length keys) where
    pub neither_ready : SplitsReady (in_neither split) tops top_keys rests rest_keys costs' keys'
    neither_ready =
        half_ready _ _ _ (omega arith, omega arith) (omega arith, omega arith) (omega arith, omega arith) same_costs same_keys

    pub top_ready : SplitsReady (in_top split) tops top_keys rests rest_keys costs' keys'
    top_ready =
        half_ready _ _ _ (omega arith, omega arith) (omega arith, omega arith) (omega arith, omega arith) same_costs same_keys

    pub rest_ready : SplitsReady (in_rest split) tops top_keys rests rest_keys costs' keys'
    rest_ready =
        half_ready _ _ _ (omega arith, omega arith) (omega arith, omega arith) (omega arith, omega arith) same_costs same_keys
