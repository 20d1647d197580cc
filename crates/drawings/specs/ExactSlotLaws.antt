-- "Exactly its ticks as slots": the ticks of a window that show a number can be listed as `ExactSlots` asks exactly when
-- there are as many of them as the window's count says.
use Prim.Native.Nat.{ℕ, zero, suc, ◌+◌, ◌-◌, ◌≤◌, ◌<◌}
use Rattle.std.specs.Prelude.{Bool, true, false, cond, ◌↔◌, ◌≡◌, length}
use mathlib.Core.List.Memᴰ
use mathlib.Core.List.{List, [], ◌∷◌, ◌++◌, Memᴰ}
use Rattle.std.proofs.Common.{⊎_elim, sym, ap, ◌∙◌, subst, add-zero, eq-or-lt_of_le, le_of_suc-le-suc, le_refl, le-add_right, arith, length-append, eqb-true, ne_eqb}
use Rattle.std.proofs.Math.Path.{refl}
use Rattle.std.proofs.Math.Nat.{add-suc}
use Rattle.std.proofs.Math.Dec.{eqb}
use Rattle.std.proofs.lemmas.Bool.{eqb-false}
use Rattle.laws.specs.CountLaws.{none_counted}
use Rattle.laws.specs.Search.{count}
use Rattle.laws.specs.SearchFacts.{count_of_none}
use Rattle.drawings.specs.Drawings.{Rising, none, more, ExactSlots}

-- the members of a rising list are no smaller than its low end
rising_from : {low : ℕ} {xs : List ℕ} → Rising low xs → (t : ℕ) → Memᴰ t xs → low ≤ t
rising_from (none low) t m = absurd (Memᴰ.not-nil m)
rising_from (more low n rest h r) t m =
    ⊎_elim (λ (e : t ≡ n). omega arith) (λ later. omega (arith, rising_from r t later)) (Memᴰ.cases_cons m)

rising_append : {low : ℕ} {xs : List ℕ} (n : ℕ) → Rising low xs → ((t : ℕ) → Memᴰ t xs → t < n) → low ≤ n →
    Rising low (xs ++ (n ∷ []))
rising_append n (none low) below h = more low n [] h (none (suc n))
rising_append n (more low x rest l r) below h =
    more low x (rest ++ (n ∷ [])) l
    (rising_append n r (λ t m. below t (Memᴰ.tail m)) (below x (Memᴰ.head refl)))

-- a member of `y ∷ ys` above y is one of ys
later_member : {t y : ℕ} {ys : List ℕ} → y < t → Memᴰ t (y ∷ ys) → Memᴰ t ys
later_member h m = ⊎_elim (λ e. absurd (omega arith)) (λ later. later) (Memᴰ.cases_cons m)

-- rising lists with the same members are equally long
same_members_same_length : {a b : ℕ} {xs ys : List ℕ} → Rising a xs → Rising b ys →
    ((t : ℕ) → Memᴰ t xs → Memᴰ t ys) → ((t : ℕ) → Memᴰ t ys → Memᴰ t xs) → length xs ≡ length ys
same_members_same_length (none a) (none b) to from = refl
same_members_same_length (none a) (more b y ys h r) to from =
    absurd (Memᴰ.not-nil (from y (Memᴰ.head refl)))
same_members_same_length (more a x xs g q) (none b) to from =
    absurd (Memᴰ.not-nil (to x (Memᴰ.head refl)))
same_members_same_length (more a x xs g q) (more b y ys h r) to from =
    let y≤x : y ≤ x = rising_from (more y y ys (le_refl y) r) x (to x (Memᴰ.head refl)) in
    let x≤y : x ≤ y = rising_from (more x x xs (le_refl x) q) y (from y (Memᴰ.head refl)) in
    ap suc
    (same_members_same_length q r
    (λ t m. later_member (omega (arith, rising_from q t m)) (to t (Memᴰ.tail m)))
    (λ t m. later_member (omega (arith, rising_from r t m)) (from t (Memᴰ.tail m))))

module _ {slots : ℕ → ℕ} {number release due : ℕ} where
  -- the number of ticks is one and the same however they are listed
  exact_slots_unique : {m n : ℕ} → ExactSlots slots number release due m → ExactSlots slots number release due n → m ≡ n
  exact_slots_unique e f =
      sym e.as_many
      ∙ same_members_same_length e.once_each f.once_each
      (λ t m. (f.all_and_only t).1 ((e.all_and_only t).0 m)) (λ t m. (e.all_and_only t).1 ((f.all_and_only t).0 m))
      ∙ f.as_many

  -- the tick after the window shows the number: one more
  one_tick_more : {n : ℕ} → release ≤ due → slots due ≡ number →
      ExactSlots slots number release due n → ExactSlots slots number release (suc due) (n + 1)
  one_tick_more {n} after shown e =
      record {
        at = e.at ++ (due ∷ []);
        once_each = rising_append due e.once_each (λ t m. ((e.all_and_only t).0 m).1) after;
        all_and_only = λ t. (in_window t, listed t);
        as_many = length-append e.at (due ∷ []) ∙ rw e.as_many;
      }
    where
      in_window : (t : ℕ) → Memᴰ t (e.at ++ (due ∷ [])) → (release ≤ t) × (t < suc due) × (slots t ≡ number)
      in_window t m =
          ⊎_elim
          (λ earlier. let w = (e.all_and_only t).0 earlier in (w.0, omega arith, w.2))
          (λ last. let same : t ≡ due = Memᴰ.eq_of_singleton last in (omega arith, omega arith, ap slots same ∙ shown))
          (Memᴰ.append_cases e.at m)

      listed : (t : ℕ) → (release ≤ t) × (t < suc due) × (slots t ≡ number) → Memᴰ t (e.at ++ (due ∷ []))
      listed t h =
          ⊎_elim
          (λ same. Memᴰ.append_right e.at (Memᴰ.head same))
          (λ earlier. Memᴰ.append_left (due ∷ []) ((e.all_and_only t).1 (h.0, earlier, h.2)))
          (eq-or-lt_of_le (le_of_suc-le-suc h.1))

  -- it does not: no more
  no_tick_more : {n : ℕ} → (slots due ≡ number → ⊥) →
      ExactSlots slots number release due n → ExactSlots slots number release (suc due) (n + 0)
  no_tick_more {n} other e =
      record {
        at = e.at;
        once_each = e.once_each;
        all_and_only = λ t. (in_window t, listed t);
        as_many = e.as_many ∙ sym (add-zero n);
      }
    where
      in_window : (t : ℕ) → Memᴰ t e.at → (release ≤ t) × (t < suc due) × (slots t ≡ number)
      in_window t m = let w = (e.all_and_only t).0 m in (w.0, omega arith, w.2)

      listed : (t : ℕ) → (release ≤ t) × (t < suc due) × (slots t ≡ number) → Memᴰ t e.at
      listed t h =
          ⊎_elim
          (λ (same : t ≡ due). absurd (other (ap slots (sym same) ∙ h.2)))
          (λ earlier. (e.all_and_only t).1 (h.0, earlier, h.2))
          (eq-or-lt_of_le (le_of_suc-le-suc h.1))

module _ (slots : ℕ → ℕ) (number release : ℕ) where
  counted_slots : (width : ℕ) →
      ExactSlots slots number release (release + width) (count (λ x. eqb (slots (release + x)) number) width)
  unfolding count
  counted_slots zero =
      record {
        at = [];
        once_each = none release;
        all_and_only = λ t. (λ m. absurd (Memᴰ.not-nil m), λ h. absurd (omega arith));
        as_many = refl;
      }
  counted_slots (suc width) =
      rw add-suc (go (eqb (slots (release + width)) number) refl (counted_slots width))
    where
      before : ℕ
      before = count (λ x. eqb (slots (release + x)) number) width

      go : (here : Bool) → eqb (slots (release + width)) number ≡ here →
          ExactSlots slots number release (release + width) before →
          ExactSlots slots number release (suc (release + width)) (before + cond here 1 0)
      go true t e = one_tick_more (le-add_right release width) (eqb-true _ _ t) e
      go false t e = no_tick_more (eqb-false _ _ t) e

  pub count_is_exact : (width ticks : ℕ) →
      (count (λ x. eqb (slots (release + x)) number) width ≡ ticks) ↔
      ExactSlots slots number release (release + width) ticks
  count_is_exact width ticks = (
    λ same. subst (λ n. ExactSlots slots number release (release + width) n) same (counted_slots width),
    λ exact. exact_slots_unique (counted_slots width) exact,
  )

  -- where the count is 0, no tick shows the number, and the other way
  pub count_is_none : (width : ℕ) → (count (λ x. eqb (slots (release + x)) number) width ≡ 0) ↔
      ((t : ℕ) → release ≤ t → t < release + width → slots t ≡ number → ⊥)
  count_is_none width = (
    λ none t from before shown.
        let here : release + (t - release) ≡ t = omega arith in
        eqb-false _ _ (none_counted _ _ none (t - release) (omega arith)) (ap slots here ∙ shown),
    λ none. count_of_none _ _ (λ x l. ne_eqb _ _ (none (release + x) (omega arith) (omega arith))),
  )
