-- The table of least values by trying every pattern: what an exact entry of any table is equal to.
use Rattle.std.specs.Prelude.{ℕ, suc, ◌<◌, ◌≡◌, refl, Bool, true, false, cond}
use Rattle.std.proofs.Common.{inl, inr}
use mathlib.Core.List.{List, [], ◌∷◌}
use Rattle.assignment.specs.Assignment.{Options}
use Rattle.assignment.specs.CoreTables.{Admitted, pattern_worth, CoreTable}
use Rattle.assignment.specs.Keeping.{Keeps, done, refused, kept}
use Rattle.assignment.specs.Values.{Value, none, least_below, AtMost, to_none, Attained, Least}
use Rattle.assignment.specs.ValueLaws.{at_most-refl, at_most-trans, at_most-antisym, least_below-below, least_below-attained}

-- the least f pattern over all patterns that keep exactly a set
unfoldable pub least_keeping : ℕ → List Bool → (List ℕ → Value) → Value
least_keeping levels [] f = f []
least_keeping levels (false ∷ S) f = least_keeping levels S (λ pattern. f (0 ∷ pattern))
least_keeping levels (true ∷ S) f = least_below levels (λ l. least_keeping levels S (λ pattern. f (suc l ∷ pattern)))

-- what a pattern is worth, and none where the core does not admit it
unfoldable pub admitted_worth : Options → List ℕ → Value
admitted_worth o pattern = cond (o.admits pattern) (pattern_worth o pattern) none

unfoldable pub exact_table : Options → List Bool → Value
exact_table o S = least_keeping o.levels S (admitted_worth o)

least_keeping-below : {levels : ℕ} {S : List Bool} {pattern : List ℕ} (f : List ℕ → Value) → Keeps levels S pattern →
    AtMost (least_keeping levels S f) (f pattern)
unfolding least_keeping
least_keeping-below f done = at_most-refl (f [])
least_keeping-below f (refused keeps) = least_keeping-below (λ pattern. f (0 ∷ pattern)) keeps
least_keeping-below {levels} f (kept l under keeps) =
    at_most-trans (least_below-below levels _ under) (least_keeping-below (λ pattern. f (suc l ∷ pattern)) keeps)

least_keeping-attained : (levels : ℕ) (S : List Bool) (f : List ℕ → Value) → Attained (Keeps levels S) f (least_keeping levels S f)
unfolding least_keeping
least_keeping-attained levels [] f = inr ([], done, refl)
least_keeping-attained levels (false ∷ S) f = go (least_keeping-attained levels S (λ pattern. f (0 ∷ pattern)))
  where
    go : {v : Value} → Attained (Keeps levels S) (λ pattern. f (0 ∷ pattern)) v → Attained (Keeps levels (false ∷ S)) f v
    go (inl e) = inl e
    go (inr (pattern, keeps, e)) = inr (0 ∷ pattern, refused keeps, e)
least_keeping-attained levels (true ∷ S) f =
    go (least_below-attained levels at_level) (λ l. least_keeping-attained levels S (λ pattern. f (suc l ∷ pattern)))
  where
    at_level : ℕ → Value
    at_level l = least_keeping levels S (λ pattern. f (suc l ∷ pattern))

    at_level_lem : {v : Value} (l : ℕ) → l < levels → Attained (Keeps levels S) (λ pattern. f (suc l ∷ pattern)) v →
        Attained (Keeps levels (true ∷ S)) f v
    at_level_lem l under (inl e) = inl e
    at_level_lem l under (inr (pattern, keeps, e)) = inr (suc l ∷ pattern, kept l under keeps, e)

    go : {v : Value} → Attained (λ (l : ℕ). l < levels) at_level v →
        ((l : ℕ) → Attained (Keeps levels S) (λ pattern. f (suc l ∷ pattern)) (at_level l)) → Attained (Keeps levels (true ∷ S)) f v
    go (inl e) each = inl e
    go (inr (l, under, e)) each = rw e (at_level_lem l under (each l))

module _ (o : Options) where
  worth_admitted : {pattern : List ℕ} → o.admits pattern ≡ true → admitted_worth o pattern ≡ pattern_worth o pattern
  unfolding admitted_worth
  worth_admitted {pattern} admits = rw admits

  pub exact_core_table : CoreTable o (exact_table o)
  unfolding exact_table admitted_worth
  exact_core_table = record { least = λ T of_items. record { below = below T; attained = attained T (least_keeping-attained o.levels T _) } }
    where
      below : (T : List Bool) (pattern : List ℕ) → Admitted o T pattern →
          AtMost (least_keeping o.levels T (admitted_worth o)) (pattern_worth o pattern)
      below T pattern admitted =
          rw (worth_admitted admitted.admitted) at (least_keeping-below (admitted_worth o) admitted.keeps)

      found : (T : List Bool) (pattern : List ℕ) {v : Value} → Keeps o.levels T pattern → (t : Bool) → o.admits pattern ≡ t →
          v ≡ cond t (pattern_worth o pattern) none → Attained (Admitted o T) (pattern_worth o) v
      found T pattern keeps true admits e = inr (pattern, record { keeps = keeps; admitted = admits }, e)
      found T pattern keeps false admits e = inl e

      attained : (T : List Bool) {v : Value} → Attained (Keeps o.levels T) (admitted_worth o) v →
          Attained (Admitted o T) (pattern_worth o) v
      attained T (inl e) = inl e
      attained T (inr (pattern, keeps, e)) = found T pattern keeps (o.admits pattern) refl e

-- what is at most every worth is at most the least
pub below_attained : {A : Type 0} {Has : A → Type 0} {worth : A → Value} {u v : Value} → ((a : A) → Has a → AtMost u (worth a)) →
    Attained Has worth v → AtMost u v
below_attained below (inl e) = rw e to_none
below_attained below (inr (a, has, e)) = rw e (below a has)

-- there is one least value
pub least_unique : {A : Type 0} {Has : A → Type 0} {worth : A → Value} {u v : Value} → Least Has worth u → Least Has worth v → u ≡ v
least_unique here there = at_most-antisym (below_attained here.below there.attained) (below_attained there.below here.attained)
