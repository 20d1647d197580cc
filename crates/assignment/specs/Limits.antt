-- The limits of the search: within them all sums fit 64 bits, and all tables their arrays.
use Rattle.std.specs.Prelude.{ℕ, ◌*◌}

abbrev pub most_items : ℕ
most_items = 12

abbrev pub most_cores : ℕ
most_cores = 4

-- also the distance between an item's levels and the next one's
abbrev pub most_levels : ℕ
most_levels = 8

abbrev pub most_capacity : ℕ
most_capacity = 4096

-- of an item at a level, and of its refusal: 2^55
abbrev pub most_cost : ℕ
most_cost = 36028797018963968

-- of a core: four cores and all refusals stay below what stands for none
abbrev pub most_core_cost : ℕ
most_core_cost = most_items * most_cost
