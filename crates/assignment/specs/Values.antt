-- What a part of a plan is worth: a cost and a key, or none where there is no such part. Costs count first, then keys.
use Rattle.std.specs.Prelude.{ℕ, zero, suc, ◌+◌, ◌<◌, ◌≤◌, ◌≡◌, ◌⊎◌, Bool, true, false, cond, ◌&&◌, ◌||◌, eqb, leb, ltb}

pub data Value : Type 0 where
  none : Value
  pair : (cost key : ℕ) → Value

-- part by part
unfoldable pub add : Value → Value → Value
add none v = none
add (pair a x) none = none
add (pair a x) (pair b y) = pair (a + b) (x + y)

-- whether u is cheaper than v, or as cheap with no larger key
unfoldable pub is_at_most : Value → Value → Bool
is_at_most u none = true
is_at_most none (pair b y) = false
is_at_most (pair a x) (pair b y) = ltb a b || (eqb a b && leb x y)

unfoldable pub lesser : Value → Value → Value
lesser u v = cond (is_at_most u v) u v

-- the least of f 0, f 1, .., f (n - 1)
unfoldable pub least_below : ℕ → (ℕ → Value) → Value
least_below zero f = none
least_below (suc n) f = lesser (least_below n f) (f n)

-- u comes no later than v
pub data AtMost : Value → Value → Type 0 where
  to_none : {u : Value} → AtMost u none
  cheaper : {a x b y : ℕ} → a < b → AtMost (pair a x) (pair b y)
  tied : {a x b y : ℕ} → a ≡ b → x ≤ y → AtMost (pair a x) (pair b y)

-- v is what something with the property is worth, or none
abbrev pub Attained : {A : Type 0} → (A → Type 0) → (A → Value) → Value → Type 0
Attained {A} Has worth v = (v ≡ none) ⊎ ((a : A) × Has a × (v ≡ worth a))

-- v is the least worth of all that has the property, and none where nothing has it
pub record Least {A : Type 0} (Has : A → Type 0) (worth : A → Value) (v : Value) : Type 0 where
  pub below : (a : A) → Has a → AtMost v (worth a)
  pub attained : Attained Has worth v

-- a value of cost at most `most` with a key below `keys`, or none
pub data Within (most keys : ℕ) : Value → Type 0 where
  absent : Within most keys none
  present : {cost key : ℕ} → cost ≤ most → key < keys → Within most keys (pair cost key)
