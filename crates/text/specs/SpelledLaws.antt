-- Words written in base ten with single spaces between are read back as themselves.
use Rattle.std.specs.Prelude.{ℕ, suc, ◌+◌, ◌≤◌, ◌<◌, true, false, List, [], ◌∷◌, ◌++◌, ◌≡◌, refl, length, get_or, Ok}
use Rattle.std.proofs.Common.{suc-le-suc, ap, ◌∙◌, zero-add, arith, le-leb, length-append}
use Rattle.std.proofs.Math.Seq.{drop-append_seam}
use Rattle.laws.specs.Truth.{false_not_true, not_true_is_false}
use Rattle.text.specs.Decimal.{decimal, spaced, spelled}
use Rattle.text.specs.DecimalLaws.{Digits, none, one, decimal_is_digits, decimal_is_some, value_append, value_of_decimal}
use Rattle.ranges.specs.Limits.{most_text_bytes, most_word}
use Rattle.text.specs.Text.{is_digit, is_blank, value_after, begins, numbers, faulty, first_fault, words_of}
use Rattle.text.specs.TextLaws.{blank_is_no_digit, token_says}
use Rattle.text.specs.Tokens.{after_digits, number_from, token_from, token_at}
use Rattle.text.specs.WordsLaws.{accepted_whole}
use Rattle.text.specs.declared.words.Token.TheVariants.{Number}

-- each is a 32-bit word
abbrev pub AllWords : List ℕ → Type 0
AllWords ws = (k : ℕ) → k < length ws → get_or ws k 0 ≤ most_word

-- a run of digits ends before this text
record Ends (text : List ℕ) : Type 0 where
  value : (so_far : ℕ) → value_after so_far text ≡ so_far
  after : (at : ℕ) → after_digits at text ≡ at

spaced_ends : (ws : List ℕ) → Ends (spaced ws)
unfolding spaced value_after after_digits is_digit
spaced_ends [] = record { value = λ so_far. refl; after = λ at. refl }
spaced_ends (w ∷ ws) = record { value = λ so_far. refl; after = λ at. refl }

after_run : {run : List ℕ} (at : ℕ) (text : List ℕ) → Digits run → Ends text → after_digits at (run ++ text) ≡ at + length run
unfolding after_digits
after_run at text none ends = ends.after at ∙ omega arith
after_run at text (one digit rest) ends = rw digit (after_run (suc at) text rest ends ∙ omega arith)

digit_is_no_blank : (b : ℕ) → is_digit b ≡ true → is_blank b ≡ false
digit_is_no_blank b digit =
    not_true_is_false (is_blank b) (λ blank. false_not_true (blank_is_no_digit b blank) digit)

number_first :
    {run : List ℕ} (at : ℕ) (text : List ℕ) → Digits run → 0 < length run →
    token_from at (run ++ text) ≡ number_from at (run ++ text)
unfolding token_from
number_first at text none some = absurd (omega arith)
number_first at text (one {b} digit rest) some = rw (digit_is_no_blank b digit, digit)

word_taken :
    (w : ℕ) (text : List ℕ) → w ≤ most_word → Ends text →
    token_at (decimal w ++ text) 0 ≡ Number w (length (decimal w))
unfolding token_at number_from
word_taken w text small ends =
    number_first 0 text run (decimal_is_some w) ∙
    rw (value_is, le-leb w most_word small, after_run 0 text run ends, zero-add)
  where
    run : Digits (decimal w)
    run = decimal_is_digits w

    value_is : value_after 0 (decimal w ++ text) ≡ w
    value_is = value_append 0 text run ∙ rw (value_of_decimal w) (ends.value w)

-- the text has just these numbers, and no fault
record ReadsAs (text ws : List ℕ) : Type 0 where
  number : numbers false text ≡ ws
  fault : first_fault false text ≡ length text

word_read :
    (w : ℕ) (text ws : List ℕ) → w ≤ most_word → Ends text → ReadsAs text ws → ReadsAs (decimal w ++ text) (w ∷ ws)
word_read w text ws small ends read =
    let taken = token_says (decimal w ++ text) 0 (word_taken w text small ends) in
    let seam = drop-append_seam (decimal w) text in
    record {
      number = taken.number ∙ rw (seam, read.number);
      fault = omega (arith, rw (seam, read.fault) at taken.fault, length-append (decimal w) text);
    }

spaced_read : (ws : List ℕ) → AllWords ws → ReadsAs (spaced ws) ws
unfolding spaced numbers first_fault faulty begins is_digit is_blank
spaced_read [] words = record { number = refl; fault = refl }
spaced_read (w ∷ ws) words =
    let rest = spaced_read ws (λ k below. words (suc k) (suc-le-suc below)) in
    let read = word_read w (spaced ws) ws (words 0 (omega arith)) (spaced_ends ws) rest in
    record { number = read.number; fault = ap suc read.fault }

-- but for the space in front
spelled_read : (ws : List ℕ) → AllWords ws → ReadsAs (spelled ws) ws
unfolding spelled spaced numbers first_fault faulty begins is_digit is_blank
spelled_read [] words = record { number = refl; fault = refl }
spelled_read (w ∷ ws) words =
    let read = spaced_read (w ∷ ws) words in record { number = read.number; fault = omega (arith, read.fault) }

-- the round trip: such a text of at most 4,096 bytes is accepted as the words that it spells
pub spelled_is_read_back :
    (ws : List ℕ) → AllWords ws → length (spelled ws) ≤ most_text_bytes → words_of (spelled ws) ≡ Ok ws
spelled_is_read_back ws words short =
    let read = spelled_read ws words in accepted_whole (spelled ws) short read.fault ∙ ap Ok read.number
