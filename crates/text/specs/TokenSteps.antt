-- Taking a token byte by byte: what holds between two bytes, and how each byte goes on.
use Rattle.std.specs.Prelude.{ℕ, suc, ◌+◌, ◌*◌, ◌-◌, ◌≤◌, ◌<◌, true, false, List, ◌≡◌, refl, leb, length, drop, get_or}
use Rattle.std.proofs.Common.{◌∙◌, lt_of_lt_of_le, add-one, arith}
use borrow.Author.Tests.{leb-true, le-leb, lt-leb}
use Rattle.std.proofs.Math.ListN.{drop_of_length-le}
use Rattle.std.proofs.Math.Seq.{drop-cons}
use Rattle.laws.specs.Truth.{and_is_true}
use Rattle.ranges.specs.Limits.{most_word}
use Rattle.text.specs.Text.{is_digit, is_blank, value_after}
use Rattle.text.specs.TextLaws.{value_grows}
use Rattle.text.specs.Tokens.{after_digits, number_from, token_from, token_at}
use Rattle.text.specs.declared.words.Token.TheVariants.{Number, End, Fault}

-- the blanks from `at` on were skipped up to `next`
pub record BlanksSkipped (text : List ℕ) (at next : ℕ) : Type 0 where
  pub same : token_at text at ≡ token_at text next
  pub stop : next < length text → is_blank (get_or text next 0) ≡ false

-- the digits from `first` up to `at` were read, and make `so_far`
pub record DigitsRead (text : List ℕ) (first so_far at : ℕ) : Type 0 where
  pub value : value_after 0 (drop first text) ≡ value_after so_far (drop at text)
  pub after : after_digits first (drop first text) ≡ after_digits at (drop at text)
  pub small : so_far ≤ most_word

pub no_digit_read : (text : List ℕ) (first : ℕ) → DigitsRead text first 0 first
no_digit_read text first = record { value = refl; after = refl; small = omega arith }

pub at_least_48 : (b : ℕ) → is_digit b ≡ true → 48 ≤ b
unfolding is_digit
at_least_48 b digit = leb-true 48 b ((and_is_true (leb 48 b) (leb b 57)).0 digit).0

-- the text's end at `at`
module _ (text : List ℕ) (at : ℕ) (ends : length text ≤ at) where
  pub token_at_end : token_at text at ≡ End
  unfolding token_at token_from
  token_at_end = rw (drop_of_length-le text ends)

  pub number_at_end : (first so_far : ℕ) → DigitsRead text first so_far at → number_from first (drop first text) ≡ Number so_far at
  unfolding number_from value_after after_digits
  number_at_end first so_far read = rw (read.value, read.after, drop_of_length-le text ends, le-leb _ _ read.small)

-- a byte at `at`
module _ (text : List ℕ) (at : ℕ) (inside : at < length text) where
  pub token_after_blank : is_blank (get_or text at 0) ≡ true → token_at text at ≡ token_at text (at + 1)
  unfolding token_at token_from
  token_after_blank blank = rw (add-one, drop-cons text at 0 inside, blank)

  pub token_at_digit :
      is_blank (get_or text at 0) ≡ false → is_digit (get_or text at 0) ≡ true → token_at text at ≡ number_from at (drop at text)
  unfolding token_at token_from
  token_at_digit no_blank digit = rw (drop-cons text at 0 inside, no_blank, digit)

  pub token_at_other_byte :
      is_blank (get_or text at 0) ≡ false → is_digit (get_or text at 0) ≡ false → token_at text at ≡ Fault at
  unfolding token_at token_from
  token_at_other_byte no_blank no_digit = rw (drop-cons text at 0 inside, no_blank, no_digit)

  module _ (first so_far : ℕ) (read : DigitsRead text first so_far at) where
    pub number_at_no_digit : is_digit (get_or text at 0) ≡ false → number_from first (drop first text) ≡ Number so_far at
    unfolding number_from value_after after_digits
    number_at_no_digit no_digit =
        rw (read.value, read.after, drop-cons text at 0 inside, no_digit, le-leb _ _ read.small)

    pub digit_read :
        is_digit (get_or text at 0) ≡ true → so_far * 10 + (get_or text at 0 - 48) ≤ most_word →
        DigitsRead text first (so_far * 10 + (get_or text at 0 - 48)) (at + 1)
    unfolding value_after after_digits
    digit_read digit small =
        record {
          value = read.value ∙ rw (add-one, drop-cons text at 0 inside, digit);
          after = read.after ∙ rw (add-one, drop-cons text at 0 inside, digit);
          small = small;
        }

    pub number_too_large :
        is_digit (get_or text at 0) ≡ true → most_word < so_far * 10 + (get_or text at 0 - 48) →
        number_from first (drop first text) ≡ Fault first
    unfolding number_from value_after
    number_too_large digit large =
        let grown = value_grows (so_far * 10 + (get_or text at 0 - 48)) (drop (suc at) text) in
        rw (read.value, drop-cons text at 0 inside, digit, lt-leb _ _ (lt_of_lt_of_le large grown))
