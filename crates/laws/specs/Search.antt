-- Tests tried at 0, 1, 2 and so on.
use Rattle.std.specs.Prelude.{ℕ, zero, suc, ◌+◌, Bool, true, cond, ◌&&◌, ltb}

-- the least k below n that passes, or n where none does
unfoldable pub first : (ℕ → Bool) → ℕ → ℕ
first passes zero = 0
first passes (suc n) = let k = first passes n in cond (ltb k n) k (cond (passes n) n (suc n))

-- whether every k below n passes
unfoldable pub every : (ℕ → Bool) → ℕ → Bool
every passes zero = true
every passes (suc n) = every passes n && passes n

-- how many k below n pass
unfoldable pub count : (ℕ → Bool) → ℕ → ℕ
count passes zero = 0
count passes (suc n) = count passes n + cond (passes n) 1 0
