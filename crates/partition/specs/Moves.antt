-- How much larger the key of a set is on another core: so many times the set's weight.
use Rattle.std.specs.Prelude.{ℕ, ◌+◌, ◌*◌, ◌^◌, ◌≤◌, ◌<◌, ◌≡◌, Bool, List, [], ◌∷◌, length, get_or}
use Rattle.assignment.specs.Limits.{most_items}
use Rattle.assignment.specs.Keys.{key_base, weight}
use Rattle.assignment.specs.Sets.{set_number}

-- the set moved by one place, with b for its first item; its last item is dropped
unfoldable pub shifted : Bool → List Bool → List Bool
shifted b [] = []
shifted b (d ∷ S) = b ∷ shifted d S

-- the dropped item
unfoldable pub last_or : Bool → List Bool → Bool
last_or b [] = b
last_or b (d ∷ S) = last_or d S

-- the weights of the sets with numbers below x
pub record WeightsBelow (n x : ℕ) (weights : List ℕ) : Type 0 where
  pub at : (S : List Bool) → length S ≡ n → set_number n S < x → get_or weights (set_number n S) 0 ≡ weight S

-- what moving the keys of all sets of n items asks
pub record MovesReady (n shift : ℕ) (keys moved : List ℕ) : Type 0 where
  pub few_items : n ≤ most_items
  pub small_shift : shift < key_base
  pub keys_long : 2 ^ n ≤ length keys
  pub key_bound_lem : (x : ℕ) → x < 2 ^ n → get_or keys x 0 < key_base ^ n
  pub moved_long : 2 ^ n ≤ length moved

-- the key of each set with number below x, where each of its choices is larger by `shift`
pub record MovedBelow (n shift x : ℕ) (keys moved : List ℕ) : Type 0 where
  pub at : (S : List Bool) → length S ≡ n → set_number n S < x →
      get_or moved (set_number n S) 0 ≡ get_or keys (set_number n S) 0 + shift * weight S
