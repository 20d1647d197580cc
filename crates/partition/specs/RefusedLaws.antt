-- Refusing one item is lowering the sets with it one after the other; refusing items is refusing the first after the others.
use Prim.Native.Nat.{ℕ, suc, ◌+◌, ◌^◌, ◌≤◌, ◌<◌}
use Rattle.std.specs.Prelude.{◌≡◌, refl, ◌⊎◌, Bool, true, false}
use Rattle.std.proofs.Math.Path.{sym}
use Rattle.std.proofs.Common.{ap, ap₂, ◌∙◌, eq-or-lt_of_le, le_refl, arith}
use Rattle.std.proofs.Math.Logic.{inl, inr}
use mathlib.Core.List.{List, [], ◌∷◌}
use Rattle.std.proofs.Math.Nat.{zero-add, pow-suc}
use Rattle.std.proofs.Math.ListN.{length, get_or}
use Rattle.assignment.specs.Assignment.{Item}
use Rattle.assignment.specs.Values.{Value, pair, add, lesser}
use Rattle.assignment.specs.LeastLaws.{lesser_none}
use Rattle.assignment.specs.Words.{no_cost, value_of, words_pair, words_add}
use Rattle.assignment.specs.Sets.{set_number}
use Rattle.assignment.specs.SetLaws.{set_number-below}
use Rattle.partition.specs.SplitLaws.{no_dearer_trans, kept_entry}
use Rattle.assignment.specs.Refusing.{refusing}
use Rattle.assignment.specs.RefusingLaws.{refusing_same}
use Rattle.partition.specs.RefusedTables.{ItemReady, ItemRefused, Refused}
use Rattle.assignment.specs.Entries.{entry_at, NoDearer, Kept, Lowered}

kept_trans : {c k c' k' c'' k'' : List ℕ} {x : ℕ} → Kept c k c' k' x → Kept c' k' c'' k'' x → Kept c k c'' k'' x
kept_trans p q = record { cost = q.cost ∙ p.cost; key = q.key ∙ p.key }

same_no_dearer : {c k : List ℕ} → NoDearer c k c k
same_no_dearer = record { at = λ x. inr (refl, le_refl _) }

-- one item, set after set

pub no_set_yet : {half s refusal : ℕ} {costs keys : List ℕ} → ItemRefused half s refusal 0 costs keys costs keys
no_set_yet =
    record {
      there = λ x h. absurd (omega arith);
      elsewhere = λ x h. record { cost = refl; key = refl };
      no_dearer = same_no_dearer;
    }

module _ {half s refusal n : ℕ} {c k c' k' : List ℕ} (ready : ItemReady half s refusal c k)
    (refused : ItemRefused half s refusal n c k c' k') (more : n < half) where
  -- the set without the item is as it was
  pub without_it : Kept c k c' k' (s + n)
  without_it = refused.elsewhere (s + n) (inl (omega arith))

  pub one_refusal_fits : get_or c' (s + n) 0 + refusal < 2 ^ 64
  one_refusal_fits = rw without_it.cost (ready.fits n more)

  refused_value : value_of (get_or c' (s + n) 0 + refusal) (get_or k' (s + n) 0) ≡ add (pair refusal 0) (entry_at c k (s + n))
  unfolding entry_at
  refused_value =
      let a = get_or c (s + n) 0 in
      let x = get_or k (s + n) 0 in
      let cheap = ready.cheap in
      let real : refusal < no_cost → a < no_cost → refusal + a < no_cost = λ p q. omega (arith, ready.real n more q) in
      rw (without_it.cost, without_it.key)
      (ap₂ value_of (omega arith) (sym (zero-add x))
      ∙ sym (ap (λ (u : Value). add u (value_of a x)) (sym (words_pair refusal 0 (omega arith))) ∙ words_add refusal 0 a x real))

  pub one_more_set : {c'' k'' : List ℕ} →
      Lowered (s + half + n) (value_of (get_or c' (s + n) 0 + refusal) (get_or k' (s + n) 0)) c' k' c'' k'' →
      ItemRefused half s refusal (n + 1) c k c'' k''
  one_more_set {c''} {k''} lowered =
      record {
        there = λ x h. there x (eq-or-lt_of_le h);
        elsewhere = elsewhere;
        no_dearer = no_dearer_trans refused.no_dearer lowered.no_dearer;
      }
    where
      Right : ℕ → Type 0
      Right x = entry_at c'' k'' (s + half + x) ≡ lesser (entry_at c k (s + half + x)) (add (pair refusal 0) (entry_at c k (s + x)))

      last : Right n
      last =
          lowered.there
          ∙ ap₂ lesser (kept_entry (refused.elsewhere (s + half + n) (inr (omega arith)))) refused_value

      there : (x : ℕ) → (suc x ≡ n + 1) ⊎ (suc x < n + 1) → Right x
      there x (inl e) = let same : x ≡ n = omega arith in rw same last
      there x (inr h) =
          kept_entry (lowered.elsewhere (s + half + x) (omega arith)) ∙ refused.there x (omega arith)

      elsewhere : (x : ℕ) → (x < s + half) ⊎ (s + half + (n + 1) ≤ x) → Kept c k c'' k'' x
      elsewhere x (inl h) = kept_trans (refused.elsewhere x (inl h)) (lowered.elsewhere x (omega arith))
      elsewhere x (inr h) = kept_trans (refused.elsewhere x (inr (omega arith))) (lowered.elsewhere x (omega arith))

-- no item

pub refused_nothing : {s : ℕ} {costs keys : List ℕ} → Refused 0 s [] costs keys costs keys
unfolding refusing set_number
refused_nothing {s} {costs} {keys} =
    record {
      there = at_one;
      elsewhere = λ x h. record { cost = refl; key = refl };
      no_dearer = same_no_dearer;
    }
  where
    at_one : (S : List Bool) → length S ≡ 0 →
        entry_at costs keys (s + set_number 0 S) ≡ refusing [] (λ R. entry_at costs keys (s + set_number 0 R)) S
    at_one [] e = refl
    at_one (b ∷ S) e = absurd (omega arith)

-- one item more

module _ {k s : ℕ} {items : List Item} {c0 k0 c1 k1 c2 k2 : List ℕ} (half : ℕ) (is_half : half ≡ 2 ^ k)
    (without : Refused k s items c0 k0 c1 k1)
    (with_it : Refused k (s + half) items c1 k1 c2 k2) where
  number_with : (S : List Bool) → s + half + set_number k S ≡ s + (2 ^ k + set_number k S)
  number_with S = omega (arith, is_half)

  pub at_without : (S : List Bool) → length S ≡ k →
      entry_at c2 k2 (s + set_number k S) ≡ refusing items (λ R. entry_at c0 k0 (s + (0 + set_number k R))) S
  at_without S e =
      let below = set_number-below k S in
      kept_entry (with_it.elsewhere (s + set_number k S) (inl (omega arith))) ∙ without.there S e
      ∙ refusing_same items (λ R h. ap (λ (x : ℕ). entry_at c0 k0 (s + x)) (sym (zero-add (set_number k R)))) S

  at_with_it : (S : List Bool) → length S ≡ k →
      entry_at c2 k2 (s + half + set_number k S) ≡ refusing items (λ R. entry_at c0 k0 (s + (2 ^ k + set_number k R))) S
  at_with_it S e =
      with_it.there S e
      ∙ refusing_same items
      (λ R h.
      kept_entry (without.elsewhere (s + half + set_number k R) (inr (omega arith))) ∙ ap (entry_at c0 k0) (number_with R))
      S

  outside : (x : ℕ) → (x < s) ⊎ (s + 2 ^ suc k ≤ x) → Kept c0 k0 c2 k2 x
  outside x (inl h) = kept_trans (without.elsewhere x (inl h)) (with_it.elsewhere x (inl (omega arith)))
  outside x (inr h) =
      kept_trans (without.elsewhere x (inr (omega (arith, pow-suc 2 k)))) (with_it.elsewhere x (inr (omega (arith, pow-suc 2 k))))

  pub refused_with_must : (item : Item) → item.must ≡ true → Refused (suc k) s (item ∷ items) c0 k0 c2 k2
  unfolding refusing set_number
  refused_with_must item must =
      record { there = there; elsewhere = outside; no_dearer = no_dearer_trans without.no_dearer with_it.no_dearer }
    where
      there : (S : List Bool) → length S ≡ suc k →
          entry_at c2 k2 (s + set_number (suc k) S) ≡ refusing (item ∷ items) (λ R. entry_at c0 k0 (s + set_number (suc k) R)) S
      there [] e = absurd (omega arith)
      there (false ∷ S) e = rw zero-add (at_without S (omega arith))
      there (true ∷ S) e = rw (must, ← number_with S) (at_with_it S (omega arith) ∙ sym (lesser_none _))

  pub refused_either : (item : Item) {c3 k3 : List ℕ} → item.must ≡ false → ItemRefused half s item.refusal half c2 k2 c3 k3 →
      Refused (suc k) s (item ∷ items) c0 k0 c3 k3
  unfolding refusing set_number
  refused_either item {c3} {k3} must refused =
      record {
        there = there;
        elsewhere = λ x h. kept_trans (outside x h) (refused.elsewhere x (around x h));
        no_dearer = no_dearer_trans (no_dearer_trans without.no_dearer with_it.no_dearer) refused.no_dearer;
      }
    where
      around : (x : ℕ) → (x < s) ⊎ (s + 2 ^ suc k ≤ x) → (x < s + half) ⊎ (s + half + half ≤ x)
      around x (inl h) = inl (omega arith)
      around x (inr h) = inr (omega (arith, pow-suc 2 k))

      there : (S : List Bool) → length S ≡ suc k →
          entry_at c3 k3 (s + set_number (suc k) S) ≡ refusing (item ∷ items) (λ R. entry_at c0 k0 (s + set_number (suc k) R)) S
      there [] e = absurd (omega arith)
      there (false ∷ S) e =
          let below = set_number-below k S in
          rw zero-add
          (kept_entry (refused.elsewhere (s + set_number k S) (inl (omega arith))) ∙ at_without S (omega arith))
      there (true ∷ S) e =
          let below : set_number k S < half = omega (arith, set_number-below k S) in
          rw (must, ← number_with S)
          (refused.there (set_number k S) below
          ∙ ap₂ lesser (at_with_it S (omega arith)) (ap (add (pair item.refusal 0)) (at_without S (omega arith))))
