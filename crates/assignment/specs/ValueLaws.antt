-- Values are ordered, sums keep the order, and the least of a set is one value.
use Rattle.std.specs.Prelude.{ℕ, zero, suc, ◌<◌, ◌≤◌, ◌≡◌, refl, ◌⊎◌, ◌≢◌, Bool, true, false, cond, ◌&&◌, ◌||◌, eqb, leb, ltb}
use Rattle.std.proofs.Common.{◌∙◌, inl, inr, le_refl, eq-or-lt_of_le, arith, ltb-true, ltb-false, leb-true, leb-false, eqb-true}
use Rattle.std.proofs.lemmas.Bool.{eqb-false}
use Rattle.assignment.specs.Values.{Value, none, pair, add, is_at_most, lesser, least_below, AtMost, to_none, cheaper, tied, Attained}

pub at_most-refl : (u : Value) → AtMost u u
at_most-refl none = to_none
at_most-refl (pair a x) = tied refl (le_refl x)

-- the two ways to come no later, as functions: `omega` finds their numbers in the goal

by_cost : {a x b y : ℕ} → a < b → AtMost (pair a x) (pair b y)
by_cost h = cheaper h

by_key : {a x b y : ℕ} → a ≡ b → x ≤ y → AtMost (pair a x) (pair b y)
by_key e h = tied e h

pub at_most-trans : {u v w : Value} → AtMost u v → AtMost v w → AtMost u w
at_most-trans p to_none = to_none
at_most-trans (cheaper h) (cheaper k) = by_cost (omega arith)
at_most-trans (tied e h) (cheaper k) = by_cost (omega arith)
at_most-trans (cheaper h) (tied e k) = by_cost (omega arith)
at_most-trans (tied d h) (tied e k) = by_key (omega arith) (omega arith)

pub at_most-antisym : {u v : Value} → AtMost u v → AtMost v u → u ≡ v
at_most-antisym to_none to_none = refl
at_most-antisym (cheaper h) (cheaper k) = absurd (omega arith)
at_most-antisym (cheaper h) (tied e k) = absurd (omega arith)
at_most-antisym (tied e h) (cheaper k) = absurd (omega arith)
at_most-antisym (tied {a} {x} {b} {y} e h) (tied d k) = let f : x ≡ y = omega arith in cc

pub add_mono : {u v s t : Value} → AtMost u v → AtMost s t → AtMost (add u s) (add v t)
unfolding add
add_mono to_none q = to_none
add_mono (cheaper h) to_none = to_none
add_mono (tied e h) to_none = to_none
add_mono (cheaper h) (cheaper k) = by_cost (omega arith)
add_mono (cheaper h) (tied e k) = by_cost (omega arith)
add_mono (tied e h) (cheaper k) = by_cost (omega arith)
add_mono (tied e h) (tied d k) = by_key (omega arith) (omega arith)

-- what the test tells
data Compared (u v : Value) : Bool → Type 0 where
  at_most : AtMost u v → Compared u v true
  above : AtMost v u → Compared u v false

compared : (u v : Value) → Compared u v (is_at_most u v)
unfolding is_at_most
compared u none = at_most to_none
compared none (pair b y) = above to_none
compared (pair a x) (pair b y) = go (ltb a b) (eqb a b) (leb x y) refl refl refl
  where
    go : (p q r : Bool) → ltb a b ≡ p → eqb a b ≡ q → leb x y ≡ r → Compared (pair a x) (pair b y) (p || (q && r))
    go true q r ep eq er = at_most (cheaper (ltb-true a b ep))
    go false true true ep eq er = at_most (tied (eqb-true a b eq) (leb-true x y er))
    go false true false ep eq er =
        let same = eqb-true a b eq in above (by_key (omega arith) (omega (arith, leb-false x y er)))
    go false false r ep eq er =
        let other : a ≢ b = eqb-false a b eq in above (by_cost (omega (arith, ltb-false a b ep)))

-- the lesser is one of the two, and no later than the other
data Picked (u v : Value) : Value → Type 0 where
  first : AtMost u v → Picked u v u
  second : AtMost v u → Picked u v v

picked : (u v : Value) → Picked u v (lesser u v)
unfolding lesser
picked u v = go (is_at_most u v) (compared u v)
  where
    go : (t : Bool) → Compared u v t → Picked u v (cond t u v)
    go true (at_most h) = first h
    go false (above h) = second h

pub lesser_first : (u v : Value) → AtMost (lesser u v) u
lesser_first u v = go (lesser u v) (picked u v)
  where
    go : (w : Value) → Picked u v w → AtMost w u
    go w (first h) = at_most-refl u
    go w (second h) = h

pub lesser_second : (u v : Value) → AtMost (lesser u v) v
lesser_second u v = go (lesser u v) (picked u v)
  where
    go : (w : Value) → Picked u v w → AtMost w v
    go w (first h) = h
    go w (second h) = at_most-refl v

pub lesser_either : (u v : Value) → (lesser u v ≡ u) ⊎ (lesser u v ≡ v)
lesser_either u v = go (lesser u v) (picked u v)
  where
    go : (w : Value) → Picked u v w → (w ≡ u) ⊎ (w ≡ v)
    go w (first h) = inl refl
    go w (second h) = inr refl

pub lesser_is_first : {u v : Value} → AtMost u v → lesser u v ≡ u
lesser_is_first {u} {v} h = go (lesser u v) (picked u v)
  where
    go : (w : Value) → Picked u v w → w ≡ u
    go w (first k) = refl
    go w (second k) = at_most-antisym k h

pub lesser_is_second : {u v : Value} → AtMost v u → lesser u v ≡ v
lesser_is_second {u} {v} h = go (lesser u v) (picked u v)
  where
    go : (w : Value) → Picked u v w → w ≡ v
    go w (first k) = at_most-antisym k h
    go w (second k) = refl

pub least_below-below : (n : ℕ) (f : ℕ → Value) {l : ℕ} → l < n → AtMost (least_below n f) (f l)
unfolding least_below
least_below-below zero f h = absurd (omega arith)
least_below-below (suc n) f {l} h = go (eq-or-lt_of_le h) (λ k. least_below-below n f {l = l} k)
  where
    go : (suc l ≡ suc n) ⊎ (suc l < suc n) → (l < n → AtMost (least_below n f) (f l)) →
        AtMost (lesser (least_below n f) (f n)) (f l)
    go (inl e) ih = let d : l ≡ n = omega arith in rw d (lesser_second _ _)
    go (inr k) ih = at_most-trans (lesser_first _ _) (ih (omega arith))

pub least_below-attained : (n : ℕ) (f : ℕ → Value) → Attained (λ (l : ℕ). l < n) f (least_below n f)
unfolding least_below
least_below-attained zero f = inl refl
least_below-attained (suc n) f = go (lesser_either _ _) (least_below-attained n f)
  where
    least : Value
    least = lesser (least_below n f) (f n)

    go : (least ≡ least_below n f) ⊎ (least ≡ f n) → Attained (λ (l : ℕ). l < n) f (least_below n f) →
        Attained (λ (l : ℕ). l < suc n) f least
    go (inl e) (inl d) = inl (e ∙ d)
    go (inl e) (inr (l, h, d)) = inr (l, omega arith, e ∙ d)
    go (inr e) d = inr (n, omega arith, e)

pub none_above : {a x : ℕ} → ¬ (AtMost none (pair a x))
none_above h = elim h [ ]

-- the lesser is the greatest value that is at most both
lesser_above : {u v w : Value} → AtMost w u → AtMost w v → AtMost w (lesser u v)
lesser_above {u} {v} {w} p q = go (lesser u v) (picked u v)
  where
    go : (least : Value) → Picked u v least → AtMost w least
    go least (first h) = p
    go least (second h) = q

pub lesser_assoc : (u v w : Value) → lesser (lesser u v) w ≡ lesser u (lesser v w)
lesser_assoc u v w =
    let left = lesser_first (lesser u v) w in
    let right = lesser_second u (lesser v w) in
    at_most-antisym
    (lesser_above
    (at_most-trans left (lesser_first u v))
    (lesser_above (at_most-trans left (lesser_second u v)) (lesser_second (lesser u v) w)))
    (lesser_above
    (lesser_above (lesser_first u (lesser v w)) (at_most-trans right (lesser_first v w)))
    (at_most-trans right (lesser_second v w)))
