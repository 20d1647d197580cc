-- The choice of the set to keep may be made after its items are split over the cores: what the lower cores do not take is
-- refused.
use Rattle.std.specs.Prelude.{ℕ, suc, ◌+◌, ◌*◌, ◌≡◌, refl, Bool, true, false, cond, List, [], ◌∷◌, length}
use Rattle.std.proofs.Common.{sym, ap, ap₂, ◌∙◌, zero-add, arith}
use Rattle.assignment.specs.Assignment.{Item}
use Rattle.assignment.specs.Values.{Value, none, pair, add, lesser}
use Rattle.assignment.specs.ValueLaws.{lesser_assoc}
use Rattle.assignment.specs.LeastLaws.{lesser_swap, lesser_exchange, lesser_none, add_lesser, add_none}
use Rattle.assignment.specs.Partition.{least_split, moved, best}
use Rattle.assignment.specs.Choice.{least_holding, refusals, chosen}
use Rattle.assignment.specs.SplitLaws.{least_split-parts, least_split-lesser, add-least_split}
use Rattle.assignment.specs.Halves.{sum_assoc, best_in_halves}
use Rattle.assignment.specs.Refusing.{every, refusing}

-- functions of equal values

pub refusing_same : {f g : List Bool → Value} (items : List Item) →
    ((S : List Bool) → length S ≡ length items → f S ≡ g S) → (W : List Bool) → refusing items f W ≡ refusing items g W
unfolding refusing
refusing_same [] same [] = same [] refl
refusing_same [] same (b ∷ W) = refl
refusing_same (item ∷ items) same [] = refl
refusing_same (item ∷ items) same (false ∷ W) = refusing_same items (λ S h. same (false ∷ S) (ap suc h)) W
refusing_same (item ∷ items) same (true ∷ W) =
    ap₂ lesser (refusing_same items (λ S h. same (true ∷ S) (ap suc h)) W)
    (ap (λ (u : Value). cond item.must none (add (pair item.refusal 0) u)) (refusing_same items (λ S h. same (false ∷ S) (ap suc h)) W))

least_holding-same : {f g : List Bool → Value} (items : List Item) → ((S : List Bool) → f S ≡ g S) →
    least_holding items f ≡ least_holding items g
unfolding least_holding
least_holding-same [] same = same []
least_holding-same (item ∷ items) same =
    ap₂ lesser (ap (cond item.must none) (least_holding-same items (λ S. same (false ∷ S))))
    (least_holding-same items (λ S. same (true ∷ S)))

-- sums and lesser values

-- what may be none, and the same with something added
cond_add : (must : Bool) (v w : Value) → add v (cond must none w) ≡ cond must none (add v w)
cond_add true v w = add_none v
cond_add false v w = refl

cond_lesser : (must : Bool) (v w : Value) → cond must none (lesser v w) ≡ lesser (cond must none v) (cond must none w)
cond_lesser true v w = sym (lesser_none none)
cond_lesser false v w = refl

add-least_holding : (v : Value) (items : List Item) (f : List Bool → Value) →
    add v (least_holding items f) ≡ least_holding items (λ S. add v (f S))
unfolding least_holding
add-least_holding v [] f = refl
add-least_holding v (item ∷ items) f =
    add_lesser v _ _
    ∙ ap₂ lesser (cond_add item.must v _ ∙ ap (cond item.must none) (add-least_holding v items (λ S. f (false ∷ S))))
    (add-least_holding v items (λ S. f (true ∷ S)))

swap_sums : (u v w : Value) → add u (add v w) ≡ add v (add u w)
unfolding add
swap_sums none none w = refl
swap_sums none (pair b y) w = refl
swap_sums (pair a x) none w = refl
swap_sums (pair a x) (pair b y) none = refl
swap_sums (pair a x) (pair b y) (pair c z) = ap₂ pair (omega arith) (omega arith)

add_refusing : (v : Value) (items : List Item) (f : List Bool → Value) (W : List Bool) →
    add v (refusing items f W) ≡ refusing items (λ R. add v (f R)) W
unfolding refusing
add_refusing v [] f [] = refl
add_refusing v [] f (b ∷ W) = add_none v
add_refusing v (item ∷ items) f [] = add_none v
add_refusing v (item ∷ items) f (false ∷ W) = add_refusing v items (λ R. f (false ∷ R)) W
add_refusing v (item ∷ items) f (true ∷ W) =
    add_lesser v _ _
    ∙ ap₂ lesser (add_refusing v items (λ R. f (true ∷ R)) W)
    (cond_add item.must v _
    ∙ ap (cond item.must none)
    (swap_sums v (pair item.refusal 0) _ ∙ ap (add (pair item.refusal 0)) (add_refusing v items (λ R. f (false ∷ R)) W)))

refusing_lesser : (items : List Item) (f g : List Bool → Value) (W : List Bool) →
    refusing items (λ R. lesser (f R) (g R)) W ≡ lesser (refusing items f W) (refusing items g W)
unfolding refusing
refusing_lesser [] f g [] = refl
refusing_lesser [] f g (b ∷ W) = sym (lesser_none none)
refusing_lesser (item ∷ items) f g [] = sym (lesser_none none)
refusing_lesser (item ∷ items) f g (false ∷ W) = refusing_lesser items (λ R. f (false ∷ R)) (λ R. g (false ∷ R)) W
refusing_lesser (item ∷ items) f g (true ∷ W) =
    ap₂ lesser (refusing_lesser items (λ R. f (true ∷ R)) (λ R. g (true ∷ R)) W)
    (ap (λ (u : Value). cond item.must none (add (pair item.refusal 0) u)) (refusing_lesser items (λ R. f (false ∷ R)) (λ R. g (false ∷ R)) W)
    ∙ ap (cond item.must none) (add_lesser (pair item.refusal 0) _ _) ∙ cond_lesser item.must _ _)
    ∙ lesser_exchange _ _ _ _

add_nothing : (v : Value) → add (pair 0 0) v ≡ v
unfolding add
add_nothing none = refl
add_nothing (pair a x) = ap₂ pair (omega arith) (omega arith)

-- the choice over all sets is refusing from the set of all items
pub holding_is_refusing : (items : List Item) (f : List Bool → Value) →
    least_holding items (λ S. add (pair (refusals items S) 0) (f S)) ≡ refusing items f (every (length items))
unfolding add least_holding refusals refusing every
holding_is_refusing [] f = add_nothing (f [])
holding_is_refusing (item ∷ items) f =
    ap₂ lesser (ap (cond item.must none) (sym (ap (add (pair r 0)) (sym (holding_is_refusing items out)) ∙ refused)))
    (least_holding-same items (λ S. ap (λ (k : ℕ). add (pair k 0) (f (true ∷ S))) (zero-add (refusals items S))) ∙ holding_is_refusing items (λ S. f (true ∷ S)))
    ∙ lesser_swap _ _
  where
    r : ℕ
    r = item.refusal

    out : List Bool → Value
    out S = f (false ∷ S)

    refused : add (pair r 0) (least_holding items (λ S. add (pair (refusals items S) 0) (out S)))
        ≡ least_holding items (λ S. add (pair (r + refusals items S) 0) (out S))
    refused =
        add-least_holding (pair r 0) items (λ S. add (pair (refusals items S) 0) (out S))
        ∙ least_holding-same items (λ S. sum_assoc (pair r 0) (pair (refusals items S) 0) (out S))

least_split-none : (S : List Bool) → least_split S (λ T R. none) ≡ none
unfolding least_split
least_split-none [] = refl
least_split-none (false ∷ S) = least_split-none S
least_split-none (true ∷ S) = rw (least_split-none S) (lesser_none none)

least_split-cond : (must : Bool) (S : List Bool) (f : List Bool → List Bool → Value) →
    least_split S (λ T R. cond must none (f T R)) ≡ cond must none (least_split S f)
least_split-cond true S f = least_split-none S
least_split-cond false S f = refl

-- refusing after the split
pub refusing_split : (items : List Item) (f : List Bool → List Bool → Value) (W : List Bool) →
    refusing items (λ S. least_split S f) W ≡ least_split W (λ U R. refusing items (f U) R)
unfolding refusing least_split
refusing_split [] f [] = refl
refusing_split [] f (false ∷ W) = sym (least_split-none W)
refusing_split [] f (true ∷ W) = sym (rw (least_split-none W) (lesser_none none))
refusing_split (item ∷ items) f [] = refl
refusing_split (item ∷ items) f (false ∷ W) = refusing_split items (λ U R. f (false ∷ U) (false ∷ R)) W
refusing_split (item ∷ items) f (true ∷ W) =
    ap₂ lesser (refusing_lesser items (λ R. least_split R in_part) (λ R. least_split R in_rest) W
    ∙ ap₂ lesser (refusing_split items in_part W) (refusing_split items in_rest W))
    (ap (λ (u : Value). cond item.must none (add r u)) (refusing_split items in_none W)
    ∙ ap (cond item.must none) (add-least_split r W (λ U R. refusing items (in_none U) R))
    ∙ sym (least_split-cond item.must W (λ U R. add r (refusing items (in_none U) R))))
    ∙ lesser_assoc _ _ _
    ∙ ap (lesser (least_split W (λ U R. refusing items (in_part U) R)))
    (sym (least_split-lesser W (λ U R. refusing items (in_rest U) R) (λ U R. cond item.must none (add r (refusing items (in_none U) R)))))
  where
    r : Value
    r = pair item.refusal 0

    in_part : List Bool → List Bool → Value
    in_part U R = f (true ∷ U) (false ∷ R)

    in_rest : List Bool → List Bool → Value
    in_rest U R = f (false ∷ U) (true ∷ R)

    in_none : List Bool → List Bool → Value
    in_none U R = f (false ∷ U) (false ∷ R)

-- the chosen value: on one core, and on two halves of the cores

pub chosen_on_one : (levels : ℕ) (items : List Item) (table : List Bool → Value) →
    chosen levels items table 0 ≡ refusing items table (every (length items))
unfolding chosen best
chosen_on_one levels items table = holding_is_refusing items table

pub chosen_in_halves : (levels : ℕ) (items : List Item) (table : List Bool → Value) (below above : ℕ) →
    chosen levels items table (suc (below + above))
    ≡ least_split (every (length items))
    (λ U R. add (moved (suc below * levels) (best levels table above) U) (refusing items (best levels table below) R))
unfolding chosen
chosen_in_halves levels items table below above =
    let upper = moved (suc below * levels) (best levels table above) in
    let lower = best levels table below in
    holding_is_refusing items (best levels table (suc (below + above)))
    ∙ refusing_same items (λ S h. best_in_halves levels table below above S) (every (length items))
    ∙ refusing_split items (λ U R. add (upper U) (lower R)) (every (length items))
    ∙ least_split-parts (every (length items)) (λ U R p. sym (add_refusing (upper U) items lower R))
