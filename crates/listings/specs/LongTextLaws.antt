-- A text's listing is told by its first 4,097 bytes: a reader that stops after one byte too many misses nothing.
use Rattle.std.specs.Prelude.{ℕ, ◌≤◌, ◌<◌, false, List, ◌⊎◌, ◌≡◌, refl, length, take}
use Rattle.std.proofs.Common.{inl, inr, ap, arith, length-take, take_all, take-take, length-take-le, lt-ltb}
use Rattle.laws.specs.Below.{lt_or_le}
use Rattle.ranges.specs.Limits.{most_text_bytes}
use Rattle.text.specs.NumberCountLaws.{first_fault_at_most}
use Rattle.text.specs.Text.{first_fault, words_of}
use Rattle.listings.specs.Listing.{listing_of_words, listing_of}

words_of_front : (text : List ℕ) (n : ℕ) → most_text_bytes < n → words_of (take n text) ≡ words_of text
unfolding words_of
words_of_front text n more = go (lt_or_le n (length text))
  where
    within : first_fault false (take most_text_bytes text) < n
    within = omega (arith, first_fault_at_most false (take most_text_bytes text), length-take most_text_bytes text)

    go : (n < length text) ⊎ (length text ≤ n) → words_of (take n text) ≡ words_of text
    go (inr whole) = ap words_of (take_all n text whole)
    go (inl cut) =
        rw (
          take-take most_text_bytes n text (omega arith),
          length-take-le n text (omega arith),
          lt-ltb (first_fault false (take most_text_bytes text)) n within,
          lt-ltb (first_fault false (take most_text_bytes text)) (length text) (omega (arith, within)),
        ) refl

pub listing_of_front : (text : List ℕ) (n : ℕ) → most_text_bytes < n → listing_of (take n text) ≡ listing_of text
unfolding listing_of
listing_of_front text n more = ap listing_of_words (words_of_front text n more)
