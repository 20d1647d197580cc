-- How the least spread choice changes where an entry is lowered, and what an item's levels before a list come to.
use Rattle.std.specs.Prelude.{ℕ, suc, ◌+◌, ◌-◌, ◌≤◌, ◌<◌, ◌≡◌, refl, ◌⊎◌, Bool, true, false, ◌≢◌, cond, List, length, leb, set}
use Rattle.std.proofs.Common.{sym, ap, ◌∙◌, inl, inr, arith, le-leb, get_or-set_same, get_or-set_other}
use Rattle.std.proofs.lemmas.Bool.{lt-leb}
use Rattle.laws.specs.Below.{lt_or_le}
use Rattle.assignment.specs.LeastLaws.{lesser_none, lesser_add, least_below-none, least_below-alike, least_below-lowered, add_none, add-least_below, add_assoc}
use Rattle.choice_lists.specs.Listed.{before, point_at, least_listed}
use Rattle.choice_lists.specs.Spread.{value_before, worth_at, spread_at, least_spread, sum_of, least_sums}
use Rattle.assignment.specs.Values.{Value, none, pair, add, lesser, least_below}
use Rattle.knapsack.specs.declared.relaxing.Choice.{Choice}
use Rattle.values.specs.WorthLaws.{lesser_worth-value}
use Rattle.values.specs.Worths.{lesser_worth, worth_of}
use Rattle.values.specs.declared.value.Worth.{Worth}

-- where there is room for it or not

before_fits : (choice : Choice) (rest : ℕ → Value) {w : ℕ} → choice.load ≤ w →
    before choice rest w ≡ add (pair choice.cost choice.key) (rest (w - choice.load))
unfolding before
before_fits choice rest {w} room = rw (le-leb choice.load w room)

pub before_none : (choice : Choice) (rest : ℕ → Value) {w : ℕ} → w < choice.load → before choice rest w ≡ none
unfolding before
before_none choice rest {w} over = rw (lt-leb choice.load w over)

pub none_before : (u : ℕ) (rest : ℕ → Value) (w : ℕ) → value_before u none rest w ≡ none
unfolding value_before add
none_before u rest w = go (leb u w)
  where
    go : (t : Bool) → cond t none none ≡ none
    go true = refl
    go false = refl

value_before-lesser : (u : ℕ) (a b : Value) (rest : ℕ → Value) (w : ℕ) →
    value_before u (lesser a b) rest w ≡ lesser (value_before u a rest w) (value_before u b rest w)
unfolding value_before
value_before-lesser u a b rest w = go (leb u w)
  where
    go : (t : Bool) →
        cond t (add (lesser a b) (rest (w - u))) none ≡ lesser (cond t (add a (rest (w - u))) none) (cond t (add b (rest (w - u))) none)
    go true = lesser_add a b (rest (w - u))
    go false = sym (lesser_none none)

-- one entry is lowered

abbrev pub lowered_at : ℕ → Worth → List Worth → List Worth
lowered_at s worth spread = set spread s (lesser_worth (worth_at spread s) worth)

pub lowered_there : (s : ℕ) (worth : Worth) (spread : List Worth) → s < length spread →
    spread_at (lowered_at s worth spread) s ≡ lesser (spread_at spread s) (worth_of worth)
lowered_there s worth spread there =
    rw (get_or-set_same spread s (lesser_worth (worth_at spread s) worth) record { cost = 0; key = 0 } there)
    (lesser_worth-value (worth_at spread s) worth)

pub lowered_elsewhere : (s : ℕ) (worth : Worth) (spread : List Worth) (u : ℕ) → u ≢ s →
    worth_at (lowered_at s worth spread) u ≡ worth_at spread u
lowered_elsewhere s worth spread u other =
    get_or-set_other spread s u (lesser_worth (worth_at spread s) worth) record { cost = 0; key = 0 } other

pub least_spread-lowered : {capacity s : ℕ} (worth : Worth) (spread : List Worth) (rest : ℕ → Value) (w : ℕ) → s ≤ capacity →
    s < length spread →
    least_spread capacity (lowered_at s worth spread) rest w ≡ lesser (least_spread capacity spread rest w) (value_before s (worth_of worth) rest w)
unfolding least_spread
least_spread-lowered {capacity} {s} worth spread rest w within there =
    least_below-lowered (suc capacity) s _ _ _ (omega arith)
    (rw (lowered_there s worth spread there) (value_before-lesser s _ (worth_of worth) rest w))
    (λ i other. rw (lowered_elsewhere s worth spread i other))

-- a choice before another one before a knapsack is their sum before the knapsack
before_before : (a b : Choice) (rest : ℕ → Value) (w : ℕ) → before a (before b rest) w ≡ before (sum_of a b) rest w
before_before a b rest w = go (lt_or_le w a.load) (lt_or_le w (a.load + b.load))
  where
    go : (w < a.load) ⊎ (a.load ≤ w) → (w < a.load + b.load) ⊎ (a.load + b.load ≤ w) →
        before a (before b rest) w ≡ before (sum_of a b) rest w
    go (inl over) either = before_none a _ over ∙ sym (before_none (sum_of a b) rest (omega arith))
    go (inr room) (inl over) =
        before_fits a _ room
        ∙ ap (add (pair a.cost a.key)) (before_none b rest (omega arith))
        ∙ add_none _
        ∙ sym (before_none (sum_of a b) rest over)
    go (inr room) (inr both) =
        let left : w - a.load - b.load ≡ w - (a.load + b.load) = omega arith in
        before_fits a _ room
        ∙ ap (add (pair a.cost a.key)) (before_fits b rest (omega arith))
        ∙ add_assoc a.cost a.key b.cost b.key _
        ∙ ap (λ (u : ℕ). add (pair (a.cost + b.cost) (a.key + b.key)) (rest u)) left
        ∙ sym (before_fits (sum_of a b) rest both)

-- a choice before the least of several knapsacks
before-least_below : (a : Choice) (n : ℕ) (f : ℕ → ℕ → Value) (w : ℕ) →
    before a (λ u. least_below n (λ i. f i u)) w ≡ least_below n (λ i. before a (f i) w)
unfolding before
before-least_below a n f w = go (leb a.load w)
  where
    worth : Value
    worth = pair a.cost a.key

    go : (t : Bool) →
        cond t (add worth (least_below n (λ i. f i (w - a.load)))) none
        ≡ least_below n (λ i. cond t (add worth (f i (w - a.load))) none)
    go true = add-least_below worth n _
    go false = sym (least_below-none n _ (λ i h. refl))

pub least_sums-is : (choice : Choice) (points : List Choice) (from count : ℕ) (rest : ℕ → Value) (w : ℕ) →
    least_sums choice points from count rest w ≡ before choice (least_listed points from count rest) w
unfolding least_sums least_listed
least_sums-is choice points from count rest w =
    least_below-alike count _ _ (λ i h. sym (before_before choice (point_at points (from + i)) rest w))
    ∙ sym (before-least_below choice count (λ i. before (point_at points (from + i)) rest) w)
