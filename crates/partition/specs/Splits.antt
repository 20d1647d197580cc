-- What the partition's code does to its tables: every split of a set lowers the set's entry.
use Rattle.std.specs.Prelude.{ℕ, ◌+◌, ◌/◌, ◌^◌, ◌≤◌, ◌<◌, ◌≡◌, ◌⊎◌, Bool, List, length, get_or}
use Rattle.assignment.specs.Entries.{entry_at, Kept, NoDearer}
use Rattle.assignment.specs.Values.{Value, lesser}
use Rattle.assignment.specs.Words.{no_cost, value_of}
use Rattle.assignment.specs.Sets.{set_number}
use Rattle.assignment.specs.Partition.{least_split}
use Rattle.partition.specs.declared.splits.Split.{Split}

-- all sets of n items
abbrev pub all_sets : ℕ → Split
all_sets n = record { size = 2 ^ n; s = 0; t = 0; r = 0 }

-- of the next item the sets have none, it is in the one part, or in the other

abbrev pub in_neither : Split → Split
in_neither split = record { size = split.size / 2; s = split.s; t = split.t; r = split.r }

abbrev pub in_top : Split → Split
in_top split = record { size = split.size / 2; s = split.s + split.size / 2; t = split.t + split.size / 2; r = split.r }

abbrev pub in_rest : Split → Split
in_rest split = record { size = split.size / 2; s = split.s + split.size / 2; t = split.t; r = split.r + split.size / 2 }

-- their places fit 64 bits
pub record PlacesFit (split : Split) : Type 0 where
  pub sets : split.s + split.size < 2 ^ 64
  pub tops : split.t + split.size < 2 ^ 64
  pub rests : split.r + split.size < 2 ^ 64

-- the sum of entry t of the one table and entry r of the other
unfoldable pub sum_at : (tops top_keys rests rest_keys : List ℕ) → ℕ → ℕ → Value
sum_at tops top_keys rests rest_keys t r =
    value_of (get_or tops t 0 + get_or rests r 0) (get_or top_keys t 0 + get_or rest_keys r 0)

-- the least sum over the splits of a set of k items, whose parts are added to the sets t and r of other items
unfoldable pub least_from : ℕ → (ℕ → ℕ → Value) → ℕ → ℕ → List Bool → Value
least_from k sum t r S = least_split S (λ T R. sum (t + set_number k T) (r + set_number k R))

-- the entries of the 2^k sets that add k items to the set s were lowered, each to its least split
pub record LoweredFrom (k : ℕ) (split : Split) (sum : ℕ → ℕ → Value) (costs keys costs' keys' : List ℕ) : Type 0 where
  pub there : (S : List Bool) → length S ≡ k →
      entry_at costs' keys' (split.s + set_number k S)
      ≡ lesser (entry_at costs keys (split.s + set_number k S)) (least_from k sum split.t split.r S)
  pub elsewhere : (x : ℕ) → (x < split.s) ⊎ (split.s + 2 ^ k ≤ x) → Kept costs keys costs' keys' x
  pub no_dearer : NoDearer costs keys costs' keys'

-- a number of sets
pub record PowerOfTwo (size : ℕ) : Type 0 where
  pub exponent : ℕ
  pub is_power : size ≡ 2 ^ exponent

-- entry t of the one slice and entry r of the other are there, and add up within 64 bits
pub record SumFits (t r : ℕ) (tops rests : List ℕ) : Type 0 where
  pub top_there : t < length tops
  pub rest_there : r < length rests
  pub sum_fits : get_or tops t 0 + get_or rests r 0 < 2 ^ 64

-- `size` entries from t on of the one slice and from r on of the other are there, and add up within 64 bits
pub record SumsFit (size t r : ℕ) (tops rests : List ℕ) : Type 0 where
  pub tops_long : t + size ≤ length tops
  pub rests_long : r + size ≤ length rests
  pub sums_fit : (x y : ℕ) → x < size → y < size → get_or tops (t + x) 0 + get_or rests (r + y) 0 < 2 ^ 64

-- what the least sum over the splits of all of the last items asks
pub record SumsReady (size t r : ℕ) (tops top_keys rests rest_keys : List ℕ) : Type 0 where
  pub sets : PowerOfTwo size
  pub costs_fit : SumsFit size t r tops rests
  pub keys_fit : SumsFit size t r top_keys rest_keys

-- what lowering the entries of all sets asks
pub record SplitsReady (split : Split) (tops top_keys rests rest_keys costs keys : List ℕ) : Type 0 where
  pub sets : PowerOfTwo split.size
  pub costs_fit : SumsFit split.size split.t split.r tops rests
  pub keys_fit : SumsFit split.size split.t split.r top_keys rest_keys
  pub costs_long : split.s + split.size ≤ length costs
  pub keys_long : split.s + split.size ≤ length keys

-- no split of these sets has two parts with a value
pub record NoSplit (split : Split) (tops rests : List ℕ) : Type 0 where
  pub none : (x y : ℕ) → x < split.size → y < split.size → no_cost ≤ get_or tops (split.t + x) 0 + get_or rests (split.r + y) 0
