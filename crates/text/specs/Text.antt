-- The paper's section 'Site file', the text: "at most 4,096 bytes of digits, spaces and line feeds; numbers are taken
-- from the text one after another, each a longest run of digits, leading zeros allowed."
use Rattle.std.specs.Prelude.{ℕ, suc, ◌+◌, ◌-◌, ◌*◌, Bool, false, cond, not, ◌&&◌, ◌||◌, List, [], ◌∷◌, leb, ltb, eqb, length, take, Ok, Err}
use Rattle.ranges.specs.Limits.{most_text_bytes, most_word}
use Rattle.refusals.specs.Refusals.{Reading}
use Rattle.refusals.specs.declared.Refusal.TheVariants.{Text}

-- the bytes '0' to '9'
unfoldable pub is_digit : ℕ → Bool
is_digit b = leb 48 b && leb b 57

-- a space or a line feed
unfoldable pub is_blank : ℕ → Bool
is_blank b = eqb b 32 || eqb b 10

-- the number whose digits are those that made `so_far` and then the longest run of digits at the text's front
unfoldable pub value_after : ℕ → List ℕ → ℕ
value_after so_far [] = so_far
value_after so_far (b ∷ text) = cond (is_digit b) (value_after (so_far * 10 + (b - 48)) text) so_far

abbrev pub value : List ℕ → ℕ
value text = value_after 0 text

-- a number begins at a digit that follows no digit
unfoldable pub begins : Bool → ℕ → Bool
begins after_digit b = is_digit b && not after_digit

-- the text's numbers, one after another; `after-digit`: whether the byte before the text is a digit
unfoldable pub numbers : Bool → List ℕ → List ℕ
numbers after_digit [] = []
numbers after_digit (b ∷ text) =
    let rest = numbers (is_digit b) text in cond (begins after_digit b) (value (b ∷ text) ∷ rest) rest

-- "text has another byte, a number above 4,294,967,295": whether byte b, with `text` after it, is or begins such a fault
unfoldable pub faulty : Bool → ℕ → List ℕ → Bool
faulty after_digit b text = not (is_digit b || is_blank b) || (begins after_digit b && ltb most_word (value (b ∷ text)))

-- "offset of that byte, or of the number's first digit; the lowest of all": the text's length where there is no fault
unfoldable pub first_fault : Bool → List ℕ → ℕ
first_fault after_digit [] = 0
first_fault after_digit (b ∷ text) = cond (faulty after_digit b text) 0 (suc (first_fault (is_digit b) text))

-- "a byte beyond the 4,096th .. a number's digits count only up to the 4,096th byte": where the first 4,096 bytes have no
-- fault and there are more, the first of those is where they end
unfoldable pub words_of : List ℕ → Reading (List ℕ)
words_of text =
    let place = first_fault false (take most_text_bytes text) in
    cond (ltb place (length text)) (Err (Text place)) (Ok (numbers false text))
