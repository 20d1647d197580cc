-- Keys: a plan's choices as the digits of a number, the first item's the most significant, so that keys are ordered as plans
-- are.
use Rattle.std.specs.Prelude.{ℕ, zero, suc, ◌+◌, ◌*◌, ◌/◌, ◌%◌, ◌^◌, Bool, cond, List, [], ◌∷◌, length}

-- above every choice
unfoldable pub key_base : ℕ
key_base = 33

unfoldable pub plan_key : List ℕ → ℕ
plan_key [] = 0
plan_key (c ∷ plan) = c * key_base ^ length plan + plan_key plan

-- the key with a digit 1 for each item of the set
unfoldable pub weight : List Bool → ℕ
weight [] = 0
weight (b ∷ T) = cond b (key_base ^ length T) 0 + weight T

-- the n digits of a key below keyBase ^ n, the most significant first
unfoldable pub digits : ℕ → ℕ → List ℕ
digits zero key = []
digits (suc n) key = (key / key_base ^ n) ∷ digits n (key % key_base ^ n)
