-- The least common multiple.
use Rattle.std.specs.Prelude.{ℕ, suc, ◌*◌, ◌-◌, ◌%◌, Bool, eqb}
use Rattle.laws.specs.Search.{first}

-- whether d divides n, for d above 0
abbrev pub divides : ℕ → ℕ → Bool
divides d n = eqb (n % d) 0

-- the least common multiple of a and b, both above 0: of b, 2·b, .., a·b the first that a divides
unfoldable pub lcm : ℕ → ℕ → ℕ
lcm a b = suc (first (λ k. divides a (suc k * b)) (a - 1)) * b
