-- Releases: what a loop has released so far, and how long there is none.
use Rattle.std.specs.Prelude.{ℕ, ◌+◌, ◌-◌, ◌*◌, ◌/◌, ◌%◌, ◌≤◌, ◌<◌, ◌≡◌, length, set}
use mathlib.Core.List.{List}
use Rattle.std.proofs.Math.Path.{refl, ap}
use Rattle.std.proofs.Common.{sym, ◌∙◌, div-add-mod', div-lt_iff_lt-mul, le_refl, mod-lt, mul-le-mul_right, arith}
use Rattle.std.proofs.Math.ListN.{get_or}
use Rattle.laws.specs.Below.{below_suc}
use Rattle.laws.specs.JoinedLaws.{length-list_of}
use Rattle.laws.specs.Lists.{list_of, onto}
use Rattle.laws.specs.OntoLaws.{length_onto, get_d-onto-list_of, get_d-onto-list_of-next, next_onto-list_of}
use Rattle.dispatch.specs.DispatchLaws.{after_release-between}
use Rattle.dispatch.specs.Columns.{NextRelease, NoRelease, Released, ready_in}

-- the next multiple of p after t is a whole period after the one before
pub next_multiple : (p t u : ℕ) → 0 < p → t < u → u % p ≡ 0 → t + (p - t % p) ≤ u
next_multiple p t u above later multiple =
    let whole : u / p * p ≡ u = omega (arith, div-add-mod' u p) in
    let fewer : t / p < u / p = (div-lt_iff_lt-mul above).1 (omega arith) in
    omega (arith, div-add-mod' t p, mul-le-mul_right p fewer, mod-lt t above)

module _ (periods ticks : List ℕ) (tick : ℕ) where
  -- the ticks left once the jobs of the first n tasks are released
  unfoldable pub released_so_far : List ℕ → ℕ → List ℕ
  released_so_far left n = onto (list_of (ready_in periods ticks tick left) n) left

  pub none_released : (left : List ℕ) → left ≡ released_so_far left 0
  unfolding released_so_far onto list_of
  none_released left = refl

  pub release_next : (left₀ left : List ℕ) (i v : ℕ) → i < length left₀ → left ≡ released_so_far left₀ i →
      v ≡ ready_in periods ticks tick left i → set left i v ≡ released_so_far left₀ (i + 1)
  unfolding released_so_far
  release_next left₀ left i v within so_far this =
      let before : get_or left i 0 ≡ get_or left₀ i 0 =
      ap (λ (l : List ℕ). get_or l i 0) so_far ∙ get_d-onto-list_of-next (ready_in periods ticks tick left₀) left₀ i 0 within in
      next_onto-list_of (ready_in periods ticks tick left₀) left₀ i v left within so_far (rw before at this)

  length_released : (left₀ left : List ℕ) (n : ℕ) → n ≤ length left₀ → left ≡ released_so_far left₀ n → length left ≡ length left₀
  unfolding released_so_far
  length_released left₀ left n room so_far = rw so_far (length_onto _ left₀ (rw length-list_of room))

  pub all_released : (left₀ left : List ℕ) (n : ℕ) → n ≡ length periods → n ≤ length left₀ → left ≡ released_so_far left₀ n →
      Released periods ticks tick left₀ left
  unfolding released_so_far
  all_released left₀ left n all room so_far = record {
    same_length = length_released left₀ left n room so_far;
    ready = λ i l. rw so_far (get_d-onto-list_of (ready_in periods ticks tick left₀) left₀ n i 0 (rw all l));
  }

  -- in a tick without a release nothing changes
  pub nothing_released : (left : List ℕ) (to : ℕ) → NoRelease periods (length periods) tick to → tick < to →
      Released periods ticks tick left left
  nothing_released left to ahead before = record {
    same_length = refl;
    ready = λ i l. sym (after_release-between _ tick i (get_or left i 0) (ahead.none i tick l (le_refl tick) before));
  }

module _ (periods : List ℕ) (tick end : ℕ) where
  pub no_task_yet : tick < end → NextRelease periods 0 tick end end
  no_task_yet l = record { later = l; within = le_refl end; no_release = record { none = λ i u m from before e. omega arith } }

  -- with one task more, r in the place of s
  pub next_of_one_more : (n s r : ℕ) → NextRelease periods n tick end s → r ≤ s → tick < r →
      ((u : ℕ) → tick < u → u < r → u % get_or periods n 0 ≡ 0 → ⊥) → NextRelease periods (n + 1) tick end r
  next_of_one_more n s r so_far sooner later its = record {
    later = later;
    within = omega (arith, so_far.within);
    no_release = record {
      none =
          λ i u m from before.
          below_suc (λ i. u % get_or periods i 0 ≡ 0 → ⊥) n (λ k l. so_far.no_release.none k u l from (omega arith)) (its u from before) i
          (omega arith);
    };
  }

-- a release that is still to come is the next one, and stays it until it has come
pub next_is_to_come : {periods : List ℕ} {n tick end soonest : ℕ} → NoRelease periods n tick soonest → tick < soonest → soonest ≤ end →
    NextRelease periods n tick end soonest
next_is_to_come ahead later within = record {
  later = later;
  within = within;
  no_release = record { none = λ i u l from before. ahead.none i u l (omega arith) before };
}

pub until_release : {periods : List ℕ} {n tick end soonest from : ℕ} → NextRelease periods n tick end soonest → tick < from →
    NoRelease periods n from soonest
until_release next later = record { none = λ i u l from before. next.no_release.none i u l (omega arith) before }
