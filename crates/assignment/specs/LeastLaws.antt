-- The lesser of values does not ask for their order, and a sum of leasts is the least of sums.
use Rattle.std.specs.Prelude.{ℕ, zero, suc, ◌+◌, ◌<◌, ◌≡◌, refl, ◌⊎◌, ◌≢◌}
use Rattle.std.proofs.Common.{sym, ap, ap₂, ◌∙◌, inl, inr, eq-or-lt_of_le, arith}
use Rattle.assignment.specs.Values.{Value, none, pair, add, lesser, least_below, AtMost, to_none}
use Rattle.assignment.specs.ValueLaws.{at_most-refl, add_mono, lesser_first, lesser_second, lesser_either, lesser_is_first, lesser_is_second, lesser_assoc}

pub lesser_none : (u : Value) → lesser u none ≡ u
lesser_none u = lesser_is_first to_none

pub none_lesser : (u : Value) → lesser none u ≡ u
none_lesser u = lesser_is_second to_none

pub in_order : (u v : Value) → AtMost u v ⊎ AtMost v u
in_order u v = go (lesser_either u v)
  where
    go : (lesser u v ≡ u) ⊎ (lesser u v ≡ v) → AtMost u v ⊎ AtMost v u
    go (inl e) = inl (rw e at (lesser_second u v))
    go (inr e) = inr (rw e at (lesser_first u v))

pub lesser_swap : (u v : Value) → lesser u v ≡ lesser v u
lesser_swap u v = go (in_order u v)
  where
    go : AtMost u v ⊎ AtMost v u → lesser u v ≡ lesser v u
    go (inl h) = lesser_is_first h ∙ sym (lesser_is_second h)
    go (inr h) = lesser_is_second h ∙ sym (lesser_is_first h)

pub lesser_last_two : (u v w : Value) → lesser (lesser u v) w ≡ lesser (lesser u w) v
lesser_last_two u v w = lesser_assoc u v w ∙ ap (lesser u) (lesser_swap v w) ∙ sym (lesser_assoc u w v)

pub lesser_exchange : (a b c d : Value) → lesser (lesser a b) (lesser c d) ≡ lesser (lesser a c) (lesser b d)
lesser_exchange a b c d =
    lesser_assoc a b (lesser c d)
    ∙ ap (lesser a) (sym (lesser_assoc b c d) ∙ ap (λ (u : Value). lesser u d) (lesser_swap b c) ∙ lesser_assoc c b d)
    ∙ sym (lesser_assoc a c (lesser b d))

pub add_lesser : (v a b : Value) → add v (lesser a b) ≡ lesser (add v a) (add v b)
add_lesser v a b = go (in_order a b)
  where
    go : AtMost a b ⊎ AtMost b a → add v (lesser a b) ≡ lesser (add v a) (add v b)
    go (inl h) = ap (add v) (lesser_is_first h) ∙ sym (lesser_is_first (add_mono (at_most-refl v) h))
    go (inr h) = ap (add v) (lesser_is_second h) ∙ sym (lesser_is_second (add_mono (at_most-refl v) h))

pub lesser_add : (a b v : Value) → add (lesser a b) v ≡ lesser (add a v) (add b v)
lesser_add a b v = go (in_order a b)
  where
    go : AtMost a b ⊎ AtMost b a → add (lesser a b) v ≡ lesser (add a v) (add b v)
    go (inl h) = ap (λ (u : Value). add u v) (lesser_is_first h) ∙ sym (lesser_is_first (add_mono h (at_most-refl v)))
    go (inr h) = ap (λ (u : Value). add u v) (lesser_is_second h) ∙ sym (lesser_is_second (add_mono h (at_most-refl v)))

pub least_below-none : (n : ℕ) (f : ℕ → Value) → ((i : ℕ) → i < n → f i ≡ none) → least_below n f ≡ none
unfolding least_below
least_below-none zero f each = refl
least_below-none (suc n) f each = rw (least_below-none n f (λ i h. each i (omega arith)), each n (omega arith)) (lesser_none none)

pub least_below-alike : (n : ℕ) (f g : ℕ → Value) → ((i : ℕ) → i < n → f i ≡ g i) → least_below n f ≡ least_below n g
unfolding least_below
least_below-alike zero f g same = refl
least_below-alike (suc n) f g same = rw (least_below-alike n f g (λ i h. same i (omega arith)), same n (omega arith))

pub add_none : (v : Value) → add v none ≡ none
unfolding add
add_none none = refl
add_none (pair c k) = refl

pub add-least_below : (v : Value) (n : ℕ) (f : ℕ → Value) → add v (least_below n f) ≡ least_below n (λ i. add v (f i))
unfolding least_below
add-least_below v zero f = add_none v
add-least_below v (suc n) f = add_lesser v (least_below n f) (f n) ∙ ap (λ (u : Value). lesser u (add v (f n))) (add-least_below v n f)

pub add_assoc : (a x b y : ℕ) (v : Value) → add (pair a x) (add (pair b y) v) ≡ add (pair (a + b) (x + y)) v
unfolding add
add_assoc a x b y none = refl
add_assoc a x b y (pair c z) = ap₂ pair (omega arith) (omega arith)

-- where one of the values is lowered, the least is lowered as much
pub least_below-lowered : (n s : ℕ) (f g : ℕ → Value) (v : Value) → s < n → g s ≡ lesser (f s) v →
    ((i : ℕ) → i ≢ s → g i ≡ f i) → least_below n g ≡ lesser (least_below n f) v
unfolding least_below
least_below-lowered zero s f g v below here elsewhere = absurd (omega arith)
least_below-lowered (suc n) s f g v below here elsewhere =
    go (eq-or-lt_of_le below) (λ less. least_below-lowered n s f g v less here elsewhere)
  where
    go : (suc s ≡ suc n) ⊎ (suc s < suc n) → (s < n → least_below n g ≡ lesser (least_below n f) v) →
        lesser (least_below n g) (g n) ≡ lesser (lesser (least_below n f) (f n)) v
    go (inl e) ih =
        let last : n ≡ s = omega arith in
        let same = least_below-alike n g f (λ i h. elsewhere i (λ same. absurd (omega arith))) in
        rw (same, last, here) (sym (lesser_assoc _ _ v))
    go (inr less) ih =
        let before = ih (omega arith) in
        let same = elsewhere n (λ same. absurd (omega arith)) in
        rw (before, same) (lesser_last_two _ v (f n))
