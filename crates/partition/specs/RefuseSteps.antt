-- What refusing asks of one half of the sets after the other, and then of the item that parts them.
use Rattle.std.specs.Prelude.{ℕ, suc, ◌+◌, ◌-◌, ◌*◌, ◌/◌, ◌^◌, ◌≤◌, ◌<◌, ◌≡◌, refl, ◌⊎◌, ◌≢◌, Bool, true, false, List, length, get_or}
use Rattle.std.proofs.Common.{sym, ap, ◌∙◌, inl, inr, add-zero, add-one, arith, pow_pos}
use Rattle.assignment.specs.Values.{Within}
use Rattle.assignment.specs.Words.{words_within}
use Rattle.assignment.specs.Limits.{most_cost}
use Rattle.assignment.specs.Sets.{set_number}
use Rattle.assignment.specs.SetLaws.{set_number-below, numbered}
use Rattle.values.specs.Items.{item_at}
use Rattle.partition.specs.ItemsFrom.{list_from}
use Rattle.partition.specs.SplitLaws.{kept_entry, same_power, half_is_power}
use Rattle.partition.specs.RefusedTables.{ItemReady, ItemRefused, RefuseReady, RefusedFrom}
use Rattle.partition.specs.RefusedLaws.{refused_nothing, at_without, refused_with_must, refused_either}
use Rattle.partition.specs.RefusingBounds.{refusing_within}
use Rattle.assignment.specs.Entries.{entry_at, NoDearer, Kept}

pub no_dearer_cost : {c k c' k' : List ℕ} → NoDearer c k c' k' → (x : ℕ) → get_or c' x 0 ≤ get_or c x 0
no_dearer_cost {c} {k} {c'} {k'} no_dearer x = go (no_dearer.at x)
  where
    go : (get_or c' x 0 < get_or c x 0) ⊎ ((get_or c' x 0 ≡ get_or c x 0) × (get_or k' x 0 ≤ get_or k x 0)) → get_or c' x 0 ≤ get_or c x 0
    go (inl less) = omega arith
    go (inr (same, le)) = omega arith

module _ {size i s : ℕ} {refusal : List ℕ} {must : List Bool} {costs keys : List ℕ}
    (ready : RefuseReady size i s refusal must costs keys) (more : size ≢ 1) where
  pub half_of_sets : size / 2 < size
  half_of_sets = let all = ready.is_power in omega (arith, pow_pos ready.left)

  pub record NextItem : Type 0 where
    pub others : ℕ
    pub counted : ready.left ≡ suc others
    pub half : size / 2 ≡ 2 ^ others
    pub in_refusals : i < length refusal
    pub in_musts : i < length must
    pub cheap : get_or refusal i 0 ≤ most_cost
    pub later_cheap : (j : ℕ) → j < others → get_or refusal (i + 1 + j) 0 ≤ most_cost

  pub next_item : NextItem
  next_item =
      let (j, e, half) = half_is_power ready.left ready.is_power more in
      record {
        others = j;
        counted = e;
        half = half;
        in_refusals = omega (arith, ready.refusals_long);
        in_musts = omega (arith, ready.musts_long);
        cheap = rw add-zero at (ready.refusal_bound 0 (omega arith));
        later_cheap = λ k h.
            let at : i + suc k ≡ i + 1 + k = omega arith in
            rw at at (ready.refusal_bound (suc k) (omega arith));
      }

  -- half of the sets, where they are as they were
  half_ready : (s' : ℕ) {costs' keys' : List ℕ} → s ≤ s' → s' + size / 2 ≤ s + size →
      ((x : ℕ) → x < size / 2 → get_or costs' (s' + x) 0 ≡ get_or costs (s' + x) 0) →
      ((x : ℕ) → x < size / 2 → entry_at costs' keys' (s' + x) ≡ entry_at costs keys (s' + x)) →
      length costs' ≡ length costs → length keys' ≡ length keys → RefuseReady (size / 2) (i + 1) s' refusal must costs' keys'
  half_ready s' {costs'} {keys'} from to same_cost same_entry same_costs same_keys =
      let next = next_item in
      let counted = next.counted in
      record {
        left = next.others;
        is_power = next.half;
        refusals_long = omega (arith, ready.refusals_long);
        musts_long = omega (arith, ready.musts_long);
        costs_long = omega (arith, ready.costs_long);
        keys_long = omega (arith, ready.keys_long);
        refusal_bound = next.later_cheap;
        cost_bound = λ x h.
            let at : s + (s' - s + x) ≡ s' + x = omega arith in
            rw (same_cost x h) (rw at at (ready.cost_bound (s' - s + x) (omega arith)));
        most = ready.most;
        key_bound = ready.key_bound;
        small = λ x h.
            let at : s + (s' - s + x) ≡ s' + x = omega arith in
            rw (same_entry x h) (rw at at (ready.small (s' - s + x) (omega arith)));
        room = omega (arith, ready.room);
      }

  pub without_ready : RefuseReady (size / 2) (i + 1) s refusal must costs keys
  without_ready = half_ready s (omega arith) (omega arith) (λ x h. refl) (λ x h. refl) refl refl

  module _ {c1 k1 : List ℕ} (without : RefusedFrom (size / 2) (i + 1) s refusal must costs keys c1 k1) where
    pub with_ready : length c1 ≡ length costs → length k1 ≡ length keys →
        RefuseReady (size / 2) (i + 1) (s + size / 2) refusal must c1 k1
    with_ready same_costs same_keys =
        let next = next_item in
        let first = without.all next.others next.half in
        let others : (x : ℕ) → Kept costs keys c1 k1 (s + size / 2 + x) = λ x. first.elsewhere _ (inr (omega (arith, next.half))) in
        half_ready (s + size / 2) (omega arith) (omega arith) (λ x h. (others x).cost) (λ x h. kept_entry (others x)) same_costs same_keys

    module _ {c2 k2 : List ℕ} (with_it : RefusedFrom (size / 2) (i + 1) (s + size / 2) refusal must c1 k1 c2 k2) where
      -- the values of the sets without the item are bounded still
      small_without : (x : ℕ) → x < size / 2 →
          Within (ready.most + next_item.others * most_cost) ready.key_bound (entry_at c2 k2 (s + x))
      small_without x h =
          let next = next_item in
          let j = next.others in
          let set = numbered j x (rw (← next.half) h) in
          let value = at_without (size / 2) next.half (without.all j next.half) (with_it.all j next.half) set.set set.of_items in
          rw (sym (ap (λ (y : ℕ). entry_at c2 k2 (s + y)) set.number) ∙ value)
          (refusing_within refusal must ready.key_bound j (i + 1) ready.most (λ R. entry_at costs keys (s + (0 + set_number j R)))
          next.later_cheap
          (λ S e. ready.small (0 + set_number j S) (omega (arith, next.half, set_number-below j S)))
          set.set set.of_items)

      pub item_ready : length c2 ≡ length costs → length k2 ≡ length keys → ItemReady (size / 2) s (get_or refusal i 0) c2 k2
      unfolding entry_at
      item_ready same_costs same_keys =
          let next = next_item in
          let cheap = next.cheap in
          let counted = next.counted in
          let first = without.all next.others next.half in
          let second = with_it.all next.others next.half in
          record {
            costs_long = omega (arith, ready.costs_long);
            keys_long = omega (arith, ready.keys_long);
            cheap = cheap;
            fits = λ x h.
                omega (arith, ready.cost_bound x (omega arith), no_dearer_cost first.no_dearer (s + x), no_dearer_cost second.no_dearer (s + x));
            real = λ x h real. omega (arith, (words_within _ _ real (small_without x h)).0, ready.room);
          }

-- what the code's cases come to

pub nothing_refused : {size i s : ℕ} {refusal : List ℕ} {must : List Bool} {costs keys : List ℕ} → size ≡ 1 →
    RefusedFrom size i s refusal must costs keys costs keys
unfolding list_from
nothing_refused one = record { all = λ k is_power. rw (same_power 0 k (sym one ∙ is_power)) refused_nothing }

module _ {size i s : ℕ} {refusal : List ℕ} {must : List Bool} {c0 k0 c1 k1 c2 k2 : List ℕ} (more : size ≢ 1)
    (without : RefusedFrom (size / 2) (i + 1) s refusal must c0 k0 c1 k1)
    (with_it : RefusedFrom (size / 2) (i + 1) (s + size / 2) refusal must c1 k1 c2 k2) where
  pub item_kept : get_or must i false ≡ true → RefusedFrom size i s refusal must c0 k0 c2 k2
  unfolding list_from item_at
  item_kept kept =
      record {
        all = λ k is_power.
            let (j, e, half) = half_is_power k is_power more in
            let first = rw (add-one i) at (without.all j half) in
            let second = rw (add-one i) at (with_it.all j half) in
            rw e (refused_with_must (size / 2) half first second (item_at refusal must i) kept);
      }

  pub item_refused : {c3 k3 : List ℕ} → get_or must i false ≡ false → ItemRefused (size / 2) s (get_or refusal i 0) (size / 2) c2 k2 c3 k3 →
      RefusedFrom size i s refusal must c0 k0 c3 k3
  unfolding list_from item_at
  item_refused may refused =
      record {
        all = λ k is_power.
            let (j, e, half) = half_is_power k is_power more in
            let first = rw (add-one i) at (without.all j half) in
            let second = rw (add-one i) at (with_it.all j half) in
            rw e (refused_either (size / 2) half first second (item_at refusal must i) may refused);
      }
