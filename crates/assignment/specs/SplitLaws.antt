-- The least over all ways to part a set: it is at most the value of each, and the value of one; sums and lesser values may be
-- taken before or after it.
use Rattle.std.specs.Prelude.{ℕ, zero, suc, ◌+◌, ◌*◌, ◌≡◌, refl, ◌⊎◌, Bool, true, false, List, [], ◌∷◌, length}
use Rattle.std.proofs.Common.{ap, ap₂, ◌∙◌, inl, inr, arith}
use Rattle.assignment.specs.Keys.{weight}
use Rattle.assignment.specs.Values.{Value, add, lesser, AtMost}
use Rattle.assignment.specs.ValueLaws.{at_most-refl, at_most-trans, add_mono, lesser_first, lesser_second, lesser_either, at_most-antisym}
use Rattle.assignment.specs.LeastLaws.{lesser_exchange, add_lesser, lesser_add}
use Rattle.assignment.specs.Partition.{Parts, nothing, neither, first, second, least_split, moved, best}

pub part_length : {S T R : List Bool} → Parts S T R → length T ≡ length S
part_length nothing = refl
part_length (neither p) = ap suc (part_length p)
part_length (first p) = ap suc (part_length p)
part_length (second p) = ap suc (part_length p)

pub rest_length : {S T R : List Bool} → Parts S T R → length R ≡ length S
rest_length nothing = refl
rest_length (neither p) = ap suc (rest_length p)
rest_length (first p) = ap suc (rest_length p)
rest_length (second p) = ap suc (rest_length p)

pub parts_weight : {S T R : List Bool} → Parts S T R → weight S ≡ weight T + weight R
unfolding weight
parts_weight nothing = refl
parts_weight (neither p) = omega (arith, parts_weight p)
parts_weight (first p) = rw (part_length p) (omega (arith, parts_weight p))
parts_weight (second p) = rw (rest_length p) (omega (arith, parts_weight p))

-- the least is a lower bound, and attained

pub least_split-below : {S T R : List Bool} (f : List Bool → List Bool → Value) → Parts S T R → AtMost (least_split S f) (f T R)
unfolding least_split
least_split-below f nothing = at_most-refl (f [] [])
least_split-below f (neither s) = least_split-below (λ T R. f (false ∷ T) (false ∷ R)) s
least_split-below f (first s) = at_most-trans (lesser_first _ _) (least_split-below (λ T R. f (true ∷ T) (false ∷ R)) s)
least_split-below f (second s) = at_most-trans (lesser_second _ _) (least_split-below (λ T R. f (false ∷ T) (true ∷ R)) s)

pub record SplitAt (S : List Bool) (f : List Bool → List Bool → Value) (v : Value) : Type 0 where
  pub part : List Bool
  pub others : List Bool
  pub parts : Parts S part others
  pub value : v ≡ f part others

pub least_split-attained : (S : List Bool) (f : List Bool → List Bool → Value) → SplitAt S f (least_split S f)
unfolding least_split
least_split-attained [] f = record { part = []; others = []; parts = nothing; value = refl }
least_split-attained (false ∷ S) f =
    let s = least_split-attained S (λ T R. f (false ∷ T) (false ∷ R)) in
    record { part = false ∷ s.part; others = false ∷ s.others; parts = neither s.parts; value = s.value }
least_split-attained (true ∷ S) f =
    go (lesser_either _ _) (least_split-attained S in_first) (least_split-attained S in_second)
  where
    in_first : List Bool → List Bool → Value
    in_first T R = f (true ∷ T) (false ∷ R)

    in_second : List Bool → List Bool → Value
    in_second T R = f (false ∷ T) (true ∷ R)

    go : {u v w : Value} → (w ≡ u) ⊎ (w ≡ v) → SplitAt S in_first u → SplitAt S in_second v → SplitAt (true ∷ S) f w
    go (inl e) s t =
        record { part = true ∷ s.part; others = false ∷ s.others; parts = first s.parts; value = e ∙ s.value }
    go (inr e) s t =
        record { part = false ∷ t.part; others = true ∷ t.others; parts = second t.parts; value = e ∙ t.value }

-- splits of equal worth have the same least
pub least_split-parts : (S : List Bool) {f g : List Bool → List Bool → Value} →
    ((T R : List Bool) → Parts S T R → f T R ≡ g T R) → least_split S f ≡ least_split S g
unfolding least_split
least_split-parts [] same = same [] [] nothing
least_split-parts (false ∷ S) same = least_split-parts S (λ T R p. same (false ∷ T) (false ∷ R) (neither p))
least_split-parts (true ∷ S) same =
    ap₂ lesser (least_split-parts S (λ T R p. same (true ∷ T) (false ∷ R) (first p)))
    (least_split-parts S (λ T R p. same (false ∷ T) (true ∷ R) (second p)))

-- the least of the lesser of two, and of a sum with one value

pub least_split-lesser : (S : List Bool) (f g : List Bool → List Bool → Value) →
    least_split S (λ T R. lesser (f T R) (g T R)) ≡ lesser (least_split S f) (least_split S g)
unfolding least_split
least_split-lesser [] f g = refl
least_split-lesser (false ∷ S) f g = least_split-lesser S (λ T R. f (false ∷ T) (false ∷ R)) (λ T R. g (false ∷ T) (false ∷ R))
least_split-lesser (true ∷ S) f g =
    ap₂ lesser (least_split-lesser S (λ T R. f (true ∷ T) (false ∷ R)) (λ T R. g (true ∷ T) (false ∷ R)))
    (least_split-lesser S (λ T R. f (false ∷ T) (true ∷ R)) (λ T R. g (false ∷ T) (true ∷ R)))
    ∙ lesser_exchange _ _ _ _

pub add-least_split : (v : Value) (S : List Bool) (f : List Bool → List Bool → Value) →
    add v (least_split S f) ≡ least_split S (λ T R. add v (f T R))
unfolding least_split
add-least_split v [] f = refl
add-least_split v (false ∷ S) f = add-least_split v S (λ T R. f (false ∷ T) (false ∷ R))
add-least_split v (true ∷ S) f =
    add_lesser v _ _
    ∙ ap₂ lesser (add-least_split v S (λ T R. f (true ∷ T) (false ∷ R))) (add-least_split v S (λ T R. f (false ∷ T) (true ∷ R)))

pub least_split-add : (S : List Bool) (f : List Bool → List Bool → Value) (v : Value) →
    add (least_split S f) v ≡ least_split S (λ T R. add (f T R) v)
unfolding least_split
least_split-add [] f v = refl
least_split-add (false ∷ S) f v = least_split-add S (λ T R. f (false ∷ T) (false ∷ R)) v
least_split-add (true ∷ S) f v =
    lesser_add _ _ v
    ∙ ap₂ lesser (least_split-add S (λ T R. f (true ∷ T) (false ∷ R)) v) (least_split-add S (λ T R. f (false ∷ T) (true ∷ R)) v)

-- lower tables make lower values

pub best_mono : {f g : List Bool → Value} (levels n : ℕ) → ((T : List Bool) → length T ≡ n → AtMost (f T) (g T)) →
    (c : ℕ) (S : List Bool) → length S ≡ n → AtMost (best levels f c S) (best levels g c S)
unfolding best moved
best_mono levels n lower zero S of_items = lower S of_items
best_mono {f} {g} levels n lower (suc c) S of_items = go (least_split-attained S _) (best_mono levels n lower c)
  where
    sum : (List Bool → Value) → List Bool → List Bool → Value
    sum table T R = add (moved (suc c * levels) table T) (best levels table c R)

    go : {v : Value} → SplitAt S (sum g) v →
        ((R : List Bool) → length R ≡ n → AtMost (best levels f c R) (best levels g c R)) → AtMost (least_split S (sum f)) v
    go s before =
        let top = lower s.part (part_length s.parts ∙ of_items) in
        let rest = before s.others (rest_length s.parts ∙ of_items) in
        rw s.value (at_most-trans (least_split-below (sum f) s.parts) (add_mono (add_mono (at_most-refl _) top) rest))

-- and equal tables equal ones
pub best_same : {f g : List Bool → Value} (levels n : ℕ) → ((T : List Bool) → length T ≡ n → f T ≡ g T) → (c : ℕ)
    (S : List Bool) → length S ≡ n → best levels f c S ≡ best levels g c S
best_same {f} {g} levels n same c S of_items =
    at_most-antisym (best_mono levels n (λ T h. rw (same T h) (at_most-refl (g T))) c S of_items)
    (best_mono levels n (λ T h. rw (same T h) (at_most-refl (g T))) c S of_items)
