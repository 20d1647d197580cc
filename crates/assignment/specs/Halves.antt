-- The cores in two halves: the least value of a set on all of them is the least of its splits over the halves, where the
-- upper cores do with their part as the lower ones would, with larger choices.
use Prim.Native.Nat.{ℕ, zero, suc, ◌+◌, ◌*◌}
use Rattle.std.specs.Prelude.{◌≡◌, refl, Bool, true, false, List, [], ◌∷◌}
use Rattle.std.proofs.Math.Path.{sym, ap}
use Rattle.std.proofs.Common.{ap₂, ◌∙◌, add-zero, add-suc, mul-add, add-mul}
use native.Mathlib.Omega.{arith}
use Rattle.assignment.specs.Keys.{weight}
use Rattle.assignment.specs.Values.{Value, none, pair, add, lesser}
use Rattle.assignment.specs.ValueLaws.{lesser_assoc}
use Rattle.assignment.specs.LeastLaws.{add_assoc}
use Rattle.assignment.specs.Partition.{least_split, moved, best}
use Rattle.assignment.specs.SplitLaws.{parts_weight, least_split-parts, least_split-lesser, add-least_split, least_split-add}

-- the parts of a rest and the parts of a part are the same three
least_split-assoc : (S : List Bool) (f : List Bool → List Bool → List Bool → Value) →
    least_split S (λ T R. least_split R (f T)) ≡ least_split S (λ W X. least_split W (λ T U. f T U X))
unfolding least_split
least_split-assoc [] f = refl
least_split-assoc (false ∷ S) f = least_split-assoc S (λ T U X. f (false ∷ T) (false ∷ U) (false ∷ X))
least_split-assoc (true ∷ S) f =
    ap₂ lesser (least_split-assoc S in_first)
    (least_split-lesser S (λ T R. least_split R (in_second T)) (λ T R. least_split R (in_third T))
    ∙ ap₂ lesser (least_split-assoc S in_second) (least_split-assoc S in_third))
    ∙ sym (lesser_assoc _ _ _)
    ∙ ap (λ (u : Value). lesser u (least_split S (λ W X. least_split W (λ T U. in_third T U X))))
    (sym (least_split-lesser S (λ W X. least_split W (λ T U. in_first T U X)) (λ W X. least_split W (λ T U. in_second T U X))))
  where
    in_first : List Bool → List Bool → List Bool → Value
    in_first T U X = f (true ∷ T) (false ∷ U) (false ∷ X)

    in_second : List Bool → List Bool → List Bool → Value
    in_second T U X = f (false ∷ T) (true ∷ U) (false ∷ X)

    in_third : List Bool → List Bool → List Bool → Value
    in_third T U X = f (false ∷ T) (false ∷ U) (true ∷ X)

pub sum_assoc : (u v w : Value) → add u (add v w) ≡ add (add u v) w
unfolding add
sum_assoc none v w = refl
sum_assoc (pair a x) none w = refl
sum_assoc (pair a x) (pair b y) w = add_assoc a x b y w

-- what is moved up together is moved up part by part
keys_move : (c d e t u : ℕ) (v w : Value) → e ≡ c + d →
    add (add (pair 0 (e * t)) v) (add (pair 0 (c * u)) w) ≡ add (pair 0 (c * (t + u))) (add (add (pair 0 (d * t)) v) w)
unfolding add
keys_move c d e t u none w is = refl
keys_move c d e t u (pair a x) none is = refl
keys_move c d e t u (pair a x) (pair b y) is =
    let both : e * t ≡ c * t + d * t = rw is (add-mul c d t) in
    let sum = mul-add c t u in
    ap₂ pair (omega arith) (omega arith)

module _ (levels : ℕ) (table : List Bool → Value) (below above : ℕ) where
  -- the top core's choices on all cores are those on the upper half, moved up
  upper_half : (W : List Bool) →
      least_split W (λ T U. add (moved (suc (suc (below + above)) * levels) table T) (moved (suc below * levels) (best levels table above) U))
      ≡ moved (suc below * levels) (best levels table (suc above)) W
  unfolding best moved
  upper_half W =
      let all : suc (suc (below + above)) * levels ≡ suc below * levels + suc above * levels = omega arith in
      least_split-parts W
      (λ T U p.
      rw (parts_weight p)
      (keys_move (suc below * levels) (suc above * levels) _ (weight T) (weight U) (table T) (best levels table above U) all))
      ∙ sym (add-least_split (pair 0 (suc below * levels * weight W)) W (λ T U. add (moved (suc above * levels) table T) (best levels table above U)))

  halves_step : (S : List Bool) →
      ((R : List Bool) →
      best levels table (suc (below + above)) R
      ≡ least_split R (λ U X. add (moved (suc below * levels) (best levels table above) U) (best levels table below X))) →
      best levels table (suc (suc (below + above))) S
      ≡ least_split S (λ W X. add (moved (suc below * levels) (best levels table (suc above)) W) (best levels table below X))
  unfolding best
  halves_step S before =
      let top = moved (suc (suc (below + above)) * levels) table in
      let upper = moved (suc below * levels) (best levels table above) in
      let lower = best levels table below in
      least_split-parts S
      (λ T R p.
      ap (add (top T)) (before R) ∙ add-least_split (top T) R (λ U X. add (upper U) (lower X))
      ∙ least_split-parts R (λ U X q. sum_assoc (top T) (upper U) (lower X)))
      ∙ least_split-assoc S (λ T U X. add (add (top T) (upper U)) (lower X))
      ∙ least_split-parts S
      (λ W X p. sym (least_split-add W (λ T U. add (top T) (upper U)) (lower X)) ∙ ap (λ (u : Value). add u (lower X)) (upper_half W))

-- the cores 0 to `below` take the rest, the cores above them, one more than `above`, the part
pub best_in_halves : (levels : ℕ) (table : List Bool → Value) (below above : ℕ) (S : List Bool) →
    best levels table (suc (below + above)) S
    ≡ least_split S (λ U R. add (moved (suc below * levels) (best levels table above) U) (best levels table below R))
unfolding best
best_in_halves levels table below zero S = rw (add-zero below)
best_in_halves levels table below (suc above) S =
    rw (add-suc below above) (halves_step levels table below above S (best_in_halves levels table below above))
