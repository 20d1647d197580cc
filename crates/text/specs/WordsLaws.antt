-- The outcome of turning text into words, from what counting the numbers of its first 4,096 bytes answers.
use Rattle.std.specs.Prelude.{ℕ, ◌≤◌, ◌<◌, min, false, cond, List, ◌≡◌, refl, ltb, length, take, Result, Ok, Err}
use Rattle.std.proofs.Common.{sym, ap, ◌∙◌, arith, take_all, length-take-le}
use borrow.Author.Tests.{lt-ltb, le-ltb, le-leb, lt-leb}
use Rattle.laws.specs.ListLaws.{take_min}
use Rattle.laws.specs.Lists.{onto}
use Rattle.ranges.specs.Limits.{most_text_bytes}
use Rattle.text.specs.OutcomeLaws.{text_ends}
use Rattle.text.specs.Outcomes.{words_outcome, TextEnds}
use Rattle.refusals.specs.Refusals.{Reading, room}
use Rattle.text.specs.Text.{numbers, first_fault, words_of}
use Rattle.text.specs.TextSteps.{NoFault, FirstFault, Writable}
use Rattle.refusals.specs.declared.Refusal.{Refusal}
use Rattle.refusals.specs.declared.Refusal.TheVariants.{Text, ShortBuffer}

-- `words_of` over the bytes that it looks for faults in
reading : List ℕ → List ℕ → Reading (List ℕ)
reading head text =
    cond (ltb (first_fault false head) (length text)) (Err (Text (first_fault false head))) (Ok (numbers false text))

reading_of_head : (text head : List ℕ) → head ≡ take most_text_bytes text → words_of text ≡ reading head text
unfolding words_of reading
reading_of_head text head e = ap (λ (h : List ℕ). reading h text) (sym e)

pub accepted_whole :
    (text : List ℕ) → length text ≤ most_text_bytes → first_fault false text ≡ length text →
    words_of text ≡ Ok (numbers false text)
unfolding reading
accepted_whole text short no_fault =
    reading_of_head text text (sym (take_all most_text_bytes text short)) ∙
    rw (no_fault, le-ltb (length text) (length text) (omega arith))

-- what the contract of turning text into words says of the answer, and of the buffer after it
abbrev pub WordsRead : List ℕ → List ℕ → Result ℕ Refusal → List ℕ → Type 0
WordsRead text buffer answer after =
    (answer ≡ (words_outcome text buffer).answer)
    × ((after ≡ (words_outcome text buffer).words) × TextEnds text buffer answer after)

words_read :
    (text buffer : List ℕ) (answer : Result ℕ Refusal) (after : List ℕ) →
    words_outcome text buffer ≡ record { answer = answer; words = after } → WordsRead text buffer answer after
words_read text buffer answer after e = (rw e, (rw e, rw e at (text_ends text buffer)))

-- the text's first n bytes are looked at, which are all of them or 4,096
module _ (text buffer : List ℕ) (n : ℕ) (cut : n ≡ min most_text_bytes (length text)) where
  as_read : words_of text ≡ reading (take n text) text
  as_read = reading_of_head text (take n text) (rw cut (take_min most_text_bytes text))

  head_length : length (take n text) ≡ n
  head_length = length-take-le n text (omega arith)

  refused_at :
      (place : ℕ) → first_fault false (take n text) ≡ place → place < length text →
      WordsRead text buffer (Err (Text place)) buffer
  unfolding words_outcome reading
  refused_at place e inside = words_read text buffer _ _ (rw (as_read, e, lt-ltb place (length text) inside))

  pub head_refused : (refusal : Refusal) → FirstFault (take n text) refusal → WordsRead text buffer (Err refusal) buffer
  head_refused refusal first =
      rw first.place (refused_at (first_fault false (take n text)) refl (omega (arith, first.within, head_length)))

  module _ (count : ℕ) (no_fault : NoFault (take n text) count) where
    pub too_long : n < length text → WordsRead text buffer (Err (Text n)) buffer
    too_long more = refused_at n (no_fault.fault ∙ head_length) more

    module _ (whole : length text ≤ n) where
      whole_counted : NoFault text count
      whole_counted = rw (take_all n text whole) at no_fault

      all_accepted : words_of text ≡ Ok (numbers false text)
      all_accepted = accepted_whole text (omega arith) whole_counted.fault

      pub no_room : length buffer < count → WordsRead text buffer (Err (ShortBuffer count)) buffer
      unfolding words_outcome room
      no_room short =
          words_read text buffer _ _ (rw (all_accepted, whole_counted.number, lt-leb count (length buffer) short))

      pub all_read :
          count ≤ length buffer → (after : List ℕ) → after ≡ onto (numbers false text) buffer →
          WordsRead text buffer (Ok count) after
      unfolding words_outcome room
      all_read enough after written =
          let count_is = whole_counted.number in
          rw written
          (words_read text buffer _ _ (rw (all_accepted, count_is, le-leb count (length buffer) enough, count_is)))

      pub writable : count ≤ length buffer → Writable text buffer
      writable enough = record { fault = whole_counted.fault; room = omega (arith, whole_counted.number) }
