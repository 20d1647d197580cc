-- How an item's first cheapest choice is picked: refusing it, and then one level of core 0 after the other.
use Rattle.std.specs.Prelude.{ℕ, suc, ◌+◌, ◌≤◌, ◌<◌, ◌≡◌, ◌⊎◌, true, false, Option, Some, None, IfSome, MatchOption}
use Rattle.std.proofs.Common.{inl, inr, ⊎_elim, add-one, arith}
use Rattle.laws.specs.Below.{lt_or_le}
use Rattle.laws.specs.Truth.{false_not_true}
use Rattle.assignment.specs.Assignment.{Item}
use Rattle.knapsack.specs.Offers.{Offer}
use Rattle.light.specs.CheapestChoices.{LowChoice, refusing, keeping, ComesFirst, CheapestChoice}
use Rattle.light.specs.declared.picks.Pick.{Pick}

-- of refusing and the levels below l that a core takes the first cheapest, or none where there is none
abbrev pub PickedBelow : ℕ → Offer → Item → ℕ → Option Pick → Type 0
PickedBelow capacity offer item l (Some pick) = CheapestChoice l capacity offer item pick.choice pick.load pick.cost
PickedBelow capacity offer item l None = (c w v : ℕ) → c ≤ l → LowChoice offer item c w v → w ≤ capacity → ⊥

-- the second pick where a core takes it and it is cheaper, else the first
abbrev pub Cheaper : ℕ → (first : Option Pick) → (second : Pick) → Option Pick → Type 0
Cheaper capacity first second pick =
    ((second.load ≤ capacity) × IfSome first (λ p. second.cost < p.cost) × (pick ≡ Some second))
    ⊎ ((second.load ≤ capacity → MatchOption first ⊥ (λ p. p.cost ≤ second.cost)) × (pick ≡ first))

module _ (capacity : ℕ) (offer : Offer) (item : Item) where
  pub none_yet : item.must ≡ true → PickedBelow capacity offer item 0 None
  none_yet kept c w v low (refusing free) fits = false_not_true free kept
  none_yet kept c w v low (keeping l) fits = absurd (omega arith)

  pub refusing_first : (pick : Pick) → item.must ≡ false → pick.choice ≡ 0 → pick.load ≡ 0 → pick.cost ≡ item.refusal →
      PickedBelow capacity offer item 0 (Some pick)
  refusing_first pick free nothing load cost =
      record {
        low = omega arith;
        is_choice = rw (nothing, load, cost) (refusing free);
        fits = omega arith;
        comes_first = λ c w v low choice fits. only low choice;
      }
    where
      only : {c w v : ℕ} → c ≤ 0 → LowChoice offer item c w v → (pick.cost < v) ⊎ ((pick.cost ≡ v) × (pick.choice ≤ c))
      only low (refusing free) = inr (cost, omega arith)
      only low (keeping l) = absurd (omega arith)

module _ {capacity : ℕ} (offer : Offer) (item : Item) {l : ℕ} where
  -- what comes first up to l, and beside level l, comes first up to l + 1
  one_more : (choice cost : ℕ) → ComesFirst capacity offer item l choice cost →
      (offer.load l ≤ capacity → (cost < offer.cost l) ⊎ ((cost ≡ offer.cost l) × (choice ≤ suc l))) →
      ComesFirst capacity offer item (suc l) choice cost
  one_more choice cost before here c w v low (refusing free) fits = before c w v (omega arith) (refusing free) fits
  one_more choice cost before here c w v low (keeping m) fits = go (lt_or_le m l)
    where
      go : (m < l) ⊎ (l ≤ m) → (cost < offer.cost m) ⊎ ((cost ≡ offer.cost m) × (choice ≤ suc m))
      go (inl earlier) = before (suc m) (offer.load m) (offer.cost m) earlier (keeping m) fits
      go (inr last) = let same : m ≡ l = omega arith in rw same (here (rw same at fits))

  level_taken : (first : Option Pick) (second : Pick) → PickedBelow capacity offer item l first → second.choice ≡ suc l →
      second.load ≡ offer.load l → second.cost ≡ offer.cost l → second.load ≤ capacity → IfSome first (λ p. second.cost < p.cost) →
      PickedBelow capacity offer item (suc l) (Some second)
  level_taken first second before choice load cost fits less =
      record {
        low = omega arith;
        is_choice = rw (choice, load, cost) (keeping l);
        fits = fits;
        comes_first = one_more second.choice second.cost (dearer first before less) (λ fits. inr (cost, omega arith));
      }
    where
      dearer : (first : Option Pick) → PickedBelow capacity offer item l first → IfSome first (λ p. second.cost < p.cost) →
          ComesFirst capacity offer item l second.choice second.cost
      dearer (Some p) before less c w v low other fits =
          ⊎_elim (λ dear. inl (omega arith)) (λ same. inl (omega arith)) (before.comes_first c w v low other fits)
      dearer None before less c w v low other fits = absurd (before c w v low other fits)

  still_none : PickedBelow capacity offer item l None → (offer.load l ≤ capacity → ⊥) → PickedBelow capacity offer item (suc l) None
  still_none before dearer c w v low (refusing free) fits = before c w v (omega arith) (refusing free) fits
  still_none before dearer c w v low (keeping m) fits = go (lt_or_le m l)
    where
      go : (m < l) ⊎ (l ≤ m) → ⊥
      go (inl earlier) = before (suc m) (offer.load m) (offer.cost m) earlier (keeping m) fits
      go (inr last) = let same : m ≡ l = omega arith in dearer (rw same at fits)

  level_left : (first : Option Pick) → PickedBelow capacity offer item l first →
      (offer.load l ≤ capacity → MatchOption first ⊥ (λ p. p.cost ≤ offer.cost l)) → PickedBelow capacity offer item (suc l) first
  level_left (Some first) before dearer =
      record {
        low = omega (arith, before.low);
        is_choice = before.is_choice;
        fits = before.fits;
        comes_first =
            one_more first.choice first.cost before.comes_first
            (λ fits.
            let dear = dearer fits in
            ⊎_elim inl (λ le. inr (omega arith, omega (arith, before.low))) (lt_or_le first.cost (offer.cost l)));
      }
  level_left None before dearer = still_none before dearer

  -- level l beside what was picked before it
  pub with_level : {first pick : Option Pick} {second : Pick} → PickedBelow capacity offer item l first → second.choice ≡ l + 1 →
      second.load ≡ offer.load l → second.cost ≡ offer.cost l → Cheaper capacity first second pick →
      PickedBelow capacity offer item (l + 1) pick
  with_level {first} {pick} {second} before choice load cost either = rw add-one (go either)
    where
      go : Cheaper capacity first second pick → PickedBelow capacity offer item (suc l) pick
      go (inl (fits, less, same)) = rw same (level_taken first second before (rw add-one at choice) load cost fits less)
      go (inr (dearer, same)) = rw same (level_left first before (λ fits. rw cost at (dearer (rw (← load) at fits))))
