-- Two numbers are parted by a byte that is no digit, so a text that is read has at most 2,048 of them: a buffer of that
-- many words has room for every text.
use Rattle.std.specs.Prelude.{ℕ, suc, ◌+◌, ◌*◌, ◌≤◌, Bool, true, false, cond, not, ◌&&◌, List, [], ◌∷◌, ltb, take, Result, Ok, Err}
use Rattle.std.proofs.Math.Path.{◌≡◌, refl}
use Rattle.std.proofs.Common.{◌∙◌, arith, ltb-false, length-take, take_at}
use Rattle.std.proofs.Math.ListN.{length}
use Rattle.laws.specs.Lists.{onto}
use Rattle.laws.specs.OntoLaws.{length_onto}
use Rattle.ranges.specs.Limits.{most_text_bytes}
use Rattle.text.specs.OutcomeLaws.{words_are_handed_over}
use Rattle.text.specs.Outcomes.{words_outcome}
use Rattle.refusals.specs.Refusals.{Reading}
use Rattle.text.specs.Text.{is_digit, value, begins, numbers, faulty, first_fault, words_of}
use Rattle.text.specs.WordsLaws.{WordsRead}
use Rattle.refusals.specs.declared.Refusal.{Refusal}
use Rattle.refusals.specs.declared.Refusal.TheVariants.{Text}

-- half of the most bytes
abbrev pub most_text_words : ℕ
most_text_words = 2048

-- after a digit the first byte begins no number
two_bytes_a_number : (after_digit : Bool) (text : List ℕ) →
    length (numbers after_digit text) * 2 + cond after_digit 1 0 ≤ length text + 1
unfolding numbers begins
two_bytes_a_number true [] = omega arith
two_bytes_a_number false [] = omega arith
two_bytes_a_number after_digit (b ∷ text) = go after_digit (is_digit b) (two_bytes_a_number (is_digit b) text)
  where
    go : (after_digit digit : Bool) → length (numbers digit text) * 2 + cond digit 1 0 ≤ length text + 1 →
        length (cond (digit && not after_digit) (value (b ∷ text) ∷ numbers digit text) (numbers digit text)) * 2 +
        cond after_digit 1 0 ≤ suc (length text) + 1
    go true true rest = omega arith
    go true false rest = omega arith
    go false true rest = omega arith
    go false false rest = omega arith

pub first_fault_at_most : (after_digit : Bool) (text : List ℕ) → first_fault after_digit text ≤ length text
unfolding first_fault
first_fault_at_most after_digit [] = omega arith
first_fault_at_most after_digit (b ∷ text) = go (faulty after_digit b text) (first_fault_at_most (is_digit b) text)
  where
    go : (fault : Bool) → first_fault (is_digit b) text ≤ length text → cond fault 0 (suc (first_fault (is_digit b) text)) ≤ suc (length text)
    go true rest = omega arith
    go false rest = omega arith

-- a text that is not refused is no longer than what is looked at for faults
pub read_words_at_most : (text : List ℕ) {words : List ℕ} → words_of text ≡ Ok words → length words ≤ most_text_words
unfolding words_of
read_words_at_most text {words} = go (ltb place (length text)) refl
  where
    place : ℕ
    place = first_fault false (take most_text_bytes text)

    go : (fault : Bool) → ltb place (length text) ≡ fault →
        cond fault (Err (Text place)) (Ok (numbers false text)) ≡ Ok words → length words ≤ most_text_words
    go true t e = let z : ◌≡◌ {A = ℕ} 0 1 = cc in absurd (omega arith)
    go false t e =
        let same : numbers false text ≡ words = cc in
        let within = rw length-take at (first_fault_at_most false (take most_text_bytes text)) in
        rw (← same) (omega (arith, ltb-false place (length text) t, within, two_bytes_a_number false text))

-- the first n words of a buffer are the text's
pub record FrontIsText (text : List ℕ) (n : ℕ) (buffer : List ℕ) : Type 0 where
  pub within : n ≤ length buffer
  pub words_of_text : words_of text ≡ Ok (take n buffer)

-- a text that was turned into words in a buffer with room for every text
module _ (text buffer : List ℕ) (answer : Result ℕ Refusal) (after : List ℕ)
    (enough : most_text_words ≤ length buffer) (read : WordsRead text buffer answer after) where
  outcome_refuses : {r : Refusal} → words_of text ≡ Err r → words_outcome text buffer ≡ record { answer = Err r; words = buffer }
  unfolding words_outcome
  outcome_refuses e = rw e

  outcome_has_room : {words : List ℕ} → words_of text ≡ Ok words →
      words_outcome text buffer ≡ record { answer = Ok (length words); words = onto words buffer }
  outcome_has_room {words} e = words_are_handed_over text words buffer e (omega (arith, read_words_at_most text e))

  pub text_is_refused : {r : Refusal} → answer ≡ Err r → words_of text ≡ Err r
  text_is_refused {r} answered = go (words_of text) refl
    where
      go : (reading : Reading (List ℕ)) → words_of text ≡ reading → reading ≡ Err r
      go (Err q) e = let outcome = outcome_refuses e in cc
      go (Ok words) e = let outcome = outcome_has_room e in let z : ◌≡◌ {A = ℕ} 0 1 = cc in absurd (omega arith)

  pub words_at_front : {n : ℕ} → answer ≡ Ok n → FrontIsText text n after
  unfolding onto
  words_at_front {n} answered = go (words_of text) refl
    where
      go : (reading : Reading (List ℕ)) → words_of text ≡ reading → FrontIsText text n after
      go (Err r) e = let outcome = outcome_refuses e in let z : ◌≡◌ {A = ℕ} 0 1 = cc in absurd (omega arith)
      go (Ok words) e =
          let outcome = outcome_has_room e in
          let count : length words ≡ n = cc in
          let written : after ≡ onto words buffer = cc in
          let few = read_words_at_most text e in
          rw written
          (record {
            within = omega (arith, length_onto words buffer (omega arith));
            words_of_text = e ∙ rw (take_at words _ n count);
          })
