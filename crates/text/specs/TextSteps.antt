-- Reading a text number by number: what holds between two numbers, and how each token goes on.
use Rattle.std.specs.Prelude.{ℕ, ◌+◌, ◌≤◌, ◌<◌, false, List, ◌∷◌, ◌≡◌, refl, length, take, drop, set, Result, Ok, Err}
use Rattle.std.proofs.Common.{ap, ◌∙◌, add-one, arith, length-drop, length-set, take_all}
use Rattle.laws.specs.ListLaws.{rest_after, below_length, onto_one_more}
use Rattle.laws.specs.Lists.{onto}
use Rattle.text.specs.Text.{numbers, first_fault}
use Rattle.text.specs.TextLaws.{NumberTaken, EndReached, FaultFound}
use Rattle.refusals.specs.declared.Refusal.{Refusal}
use Rattle.refusals.specs.declared.Refusal.TheVariants.{Text}

pub record NoFault (text : List ℕ) (count : ℕ) : Type 0 where
  pub fault : first_fault false text ≡ length text
  pub number : length (numbers false text) ≡ count

pub record FirstFault (text : List ℕ) (refusal : Refusal) : Type 0 where
  pub within : first_fault false text < length text
  pub place : refusal ≡ Text (first_fault false text)

-- what counting a text's numbers answers
abbrev pub Counted : List ℕ → Result ℕ Refusal → Type 0
Counted text (Ok count) = NoFault text count
Counted text (Err refusal) = FirstFault text refusal

-- the text has no fault, and the buffer has room for its numbers
pub record Writable (text words : List ℕ) : Type 0 where
  pub fault : first_fault false text ≡ length text
  pub room : length (numbers false text) ≤ length words

-- `count` numbers stand before `at`, and no fault
pub record NumbersPassed (text : List ℕ) (at count : ℕ) : Type 0 where
  pub inside : at ≤ length text
  pub few : count ≤ at
  pub counted : count ≤ length (numbers false text)
  pub rest : drop count (numbers false text) ≡ numbers false (drop at text)
  pub fault : first_fault false text ≡ at + first_fault false (drop at text)

pub nothing_passed : (text : List ℕ) → NumbersPassed text 0 0
nothing_passed text =
    record { inside = omega arith; few = omega arith; counted = omega arith; rest = refl; fault = omega arith }

module _ (text : List ℕ) (at count : ℕ) (passed : NumbersPassed text at count) where
  pub number_is_next :
      (word next : ℕ) → NumberTaken text at word next →
      drop count (numbers false text) ≡ word ∷ numbers false (drop next text)
  number_is_next word next taken = passed.rest ∙ taken.number

  pub number_passed : (word next : ℕ) → NumberTaken text at word next → NumbersPassed text next (count + 1)
  number_passed word next taken =
      let here = number_is_next word next taken in
      record {
        inside = taken.within;
        few = omega arith;
        counted = omega (arith, below_length _ _ count word here);
        rest = rw add-one (rest_after _ _ count word here);
        fault = omega arith;
      }

  pub all_counted : EndReached text at → NoFault text count
  all_counted end =
      record {
        fault = omega (arith, rw length-drop at end.fault);
        number = omega (arith, rw (length-drop, end.number) at (ap length passed.rest));
      }

  pub fault_is_first : (place : ℕ) → FaultFound text at place → FirstFault text (Text place)
  fault_is_first place found = record { within = omega arith; place = ap Text (omega arith) }

-- the first `count` numbers of the text were written to the front of a buffer that held `before`
pub record WordsWritten (text before words : List ℕ) (at count : ℕ) : Type 0 where
  pub passed : NumbersPassed text at count
  pub same : length words ≡ length before
  pub written : words ≡ onto (take count (numbers false text)) before

pub nothing_written : (text before : List ℕ) → WordsWritten text before before 0 0
unfolding onto
nothing_written text before = record { passed = nothing_passed text; same = refl; written = refl }

module _ (text before words : List ℕ) (at count : ℕ) (writable : Writable text before)
    (so_far : WordsWritten text before words at count) where
  pub room_for_next : (word next : ℕ) → NumberTaken text at word next → count < length words
  room_for_next word next taken =
      omega (arith, below_length _ _ count word (number_is_next text at count so_far.passed word next taken))

  pub word_written :
      (word next : ℕ) → NumberTaken text at word next → WordsWritten text before (set words count word) next (count + 1)
  word_written word next taken =
      let here = number_is_next text at count so_far.passed word next taken in
      let room = room_for_next word next taken in
      record {
        passed = number_passed text at count so_far.passed word next taken;
        same = rw length-set so_far.same;
        written = rw (add-one, so_far.written) (onto_one_more count (numbers false text) _ before word here (omega arith));
      }

  pub all_written : EndReached text at → words ≡ onto (numbers false text) before
  all_written end =
      let done = all_counted text at count so_far.passed end in
      so_far.written ∙ rw (take_all count (numbers false text) (omega arith))

  pub no_fault_left : (place : ℕ) → FaultFound text at place → ⊥
  no_fault_left place found = omega arith
