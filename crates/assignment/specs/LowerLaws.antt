-- What one store, or none, lowers an entry to.
use Rattle.std.specs.Prelude.{ℕ, ◌≤◌, ◌<◌, ◌≡◌, ◌⊎◌, ◌≢◌, List, length, set}
use Rattle.std.proofs.Math.Path.{refl, sym}
use Rattle.std.proofs.Common.{subst, arith, get_or-set_other}
use Rattle.std.proofs.Math.Logic.{inl, inr, ⊎_elim}
use Rattle.std.proofs.Math.Decide.{ℕ_discrete}
use Rattle.std.proofs.Math.Nat.{le_refl, le_of_lt}
use Rattle.std.proofs.Math.ListN.{get_or}
use Rattle.std.proofs.Math.Seq.{get_or-set_same}
use Rattle.assignment.specs.Words.{value_of, words_lesser_first, words_lesser_second}
use Rattle.assignment.specs.Entries.{entry_at, NoDearer, Kept, Lowered}

-- where all else is kept, one entry decides
no_dearer_but : (s : ℕ) {costs keys costs' keys' : List ℕ} → ((x : ℕ) → x ≢ s → Kept costs keys costs' keys' x) →
    (get_or costs' s 0 < get_or costs s 0) ⊎ ((get_or costs' s 0 ≡ get_or costs s 0) × (get_or keys' s 0 ≤ get_or keys s 0)) →
    NoDearer costs keys costs' keys'
no_dearer_but s {costs} {keys} {costs'} {keys'} elsewhere here = record { at = λ x. go x (ℕ_discrete x s) }
  where
    Held : ℕ → Type 0
    Held x = (get_or costs' x 0 < get_or costs x 0) ⊎ ((get_or costs' x 0 ≡ get_or costs x 0) × (get_or keys' x 0 ≤ get_or keys x 0))

    go : (x : ℕ) → Dec (x ≡ s) → Held x
    go x (yes e) = subst Held (sym e) here
    go x (no other) = let kept = elsewhere x other in inr (kept.cost, omega arith)

module _ (s cost key : ℕ) (costs keys : List ℕ) where
  -- the entry comes after what is stored
  pub lowered_first : s < length costs → s < length keys →
      (cost < get_or costs s 0) ⊎ ((cost ≡ get_or costs s 0) × (key < get_or keys s 0)) →
      Lowered s (value_of cost key) costs keys (set costs s cost) (set keys s key)
  unfolding entry_at
  lowered_first in_costs in_keys first =
      record {
        there = rw (here, there) (sym (words_lesser_second _ _ cost key order));
        elsewhere = elsewhere;
        no_dearer = no_dearer_but s elsewhere (rw (here, there) order);
      }
    where
      order : (cost < get_or costs s 0) ⊎ ((cost ≡ get_or costs s 0) × (key ≤ get_or keys s 0))
      order = ⊎_elim inl (λ tied. inr (tied.0, le_of_lt tied.1)) first

      here : get_or (set costs s cost) s 0 ≡ cost
      here = get_or-set_same costs s cost 0 in_costs

      there : get_or (set keys s key) s 0 ≡ key
      there = get_or-set_same keys s key 0 in_keys

      elsewhere : (x : ℕ) → x ≢ s → Kept costs keys (set costs s cost) (set keys s key) x
      elsewhere x other =
          record { cost = get_or-set_other costs s x cost 0 other; key = get_or-set_other keys s x key 0 other }

  pub lowered_tied : s < length keys → cost ≡ get_or costs s 0 → key < get_or keys s 0 →
      Lowered s (value_of cost key) costs keys costs (set keys s key)
  unfolding entry_at
  lowered_tied in_keys same less =
      record {
        there = rw (here, ← same) (sym (words_lesser_second cost _ cost key (inr (refl, le_of_lt less))));
        elsewhere = elsewhere;
        no_dearer = no_dearer_but s elsewhere (inr (refl, rw here (le_of_lt less)));
      }
    where
      here : get_or (set keys s key) s 0 ≡ key
      here = get_or-set_same keys s key 0 in_keys

      elsewhere : (x : ℕ) → x ≢ s → Kept costs keys costs (set keys s key) x
      elsewhere x other = record { cost = refl; key = get_or-set_other keys s x key 0 other }

  pub lowered_nothing : (get_or costs s 0 < cost) ⊎ ((get_or costs s 0 ≡ cost) × (get_or keys s 0 ≤ key)) →
      Lowered s (value_of cost key) costs keys costs keys
  unfolding entry_at
  lowered_nothing first =
      record {
        there = sym (words_lesser_first _ _ cost key first);
        elsewhere = λ x other. record { cost = refl; key = refl };
        no_dearer = record { at = λ x. inr (refl, le_refl _) };
      }
