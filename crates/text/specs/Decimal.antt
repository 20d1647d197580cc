-- Numbers and words written out: the digits '0' to '9' are the bytes 48 to 57, a space is 32.
use Rattle.std.specs.Prelude.{ℕ, zero, suc, ◌+◌, ◌/◌, ◌%◌, cond, List, [], ◌∷◌, ◌++◌, ltb}

-- n in base ten, the most significant digit first; `most` bounds how many digits there are
unfoldable pub digits_of : ℕ → ℕ → List ℕ
digits_of zero n = []
digits_of (suc most) n =
    let front = digits_of most (n / 10) in cond (ltb n 10) ((48 + n) ∷ []) (front ++ ((48 + n % 10) ∷ []))

-- with no leading zeros, and 0 as "0"
unfoldable pub decimal : ℕ → List ℕ
decimal n = digits_of (suc n) n

-- each word after a space
unfoldable pub spaced : List ℕ → List ℕ
spaced [] = []
spaced (w ∷ ws) = 32 ∷ (decimal w ++ spaced ws)

-- the words, with single spaces between
unfoldable pub spelled : List ℕ → List ℕ
spelled [] = []
spelled (w ∷ ws) = decimal w ++ spaced ws
