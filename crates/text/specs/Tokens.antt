-- "numbers are taken from the text one after another": what stands in a text after a position.
use Rattle.std.specs.Prelude.{ℕ, suc, cond, List, [], ◌∷◌, leb, drop}
use Rattle.ranges.specs.Limits.{most_word}
use Rattle.text.specs.Text.{is_digit, is_blank, value}
use Rattle.text.specs.declared.words.Token.{Token}
use Rattle.text.specs.declared.words.Token.TheVariants.{Number, End, Fault}

-- In each of these `at` is the position of the list's first byte in the whole text.

-- the position after the longest run of digits at the list's front
unfoldable pub after_digits : ℕ → List ℕ → ℕ
after_digits at [] = at
after_digits at (b ∷ text) = let next = after_digits (suc at) text in cond (is_digit b) next at

-- the number at the list's front; a fault at its first digit where it is too large
unfoldable pub number_from : ℕ → List ℕ → Token
number_from at text = cond (leb (value text) most_word) (Number (value text) (after_digits at text)) (Fault at)

-- blanks are skipped; then the text ends, or there is a number, or another byte
unfoldable pub token_from : ℕ → List ℕ → Token
token_from at [] = End
token_from at (b ∷ text) =
    let next = token_from (suc at) text in
    let here = number_from at (b ∷ text) in cond (is_blank b) next (cond (is_digit b) here (Fault at))

unfoldable pub token_at : List ℕ → ℕ → Token
token_at text at = token_from at (drop at text)
