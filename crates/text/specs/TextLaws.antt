-- What a token says of the text that it was taken from: the numbers and the first fault go on after it.
use Rattle.std.specs.Prelude.{ℕ, suc, ◌+◌, ◌*◌, ◌-◌, ◌≤◌, ◌<◌, Bool, cond, ◌&&◌, ◌≡◌, eqb, length, drop}
use Rattle.std.proofs.Math.Bool.{true, false}
use mathlib.Core.List.{List, [], ◌∷◌}
use Rattle.std.proofs.Math.Path.{refl}
use Rattle.std.proofs.Common.{ap, subst, ◌∙◌, arith}
use borrow.Author.Tests.{eqb-true, leb-true, leb-false, lt-ltb, le-ltb}
use Rattle.std.proofs.Math.Dec.{leb}
use Rattle.laws.specs.ListLaws.{rest_after, below_length}
use Rattle.ranges.specs.Limits.{most_word}
use Rattle.text.specs.Text.{is_digit, is_blank, value, value_after, begins, numbers, faulty, first_fault}
use Rattle.text.specs.Tokens.{after_digits, number_from, token_from, token_at}
use Rattle.text.specs.declared.words.Token.{Token}
use Rattle.text.specs.declared.words.Token.TheVariants.{Number, End, Fault}

-- a number was taken at `at`, and the text goes on at `next`
pub record NumberTaken (text : List ℕ) (at word next : ℕ) : Type 0 where
  pub later : at < next
  pub within : next ≤ length text
  pub number : numbers false (drop at text) ≡ word ∷ numbers false (drop next text)
  pub fault : at + first_fault false (drop at text) ≡ next + first_fault false (drop next text)

-- nothing but blanks was left
pub record EndReached (text : List ℕ) (at : ℕ) : Type 0 where
  pub number : numbers false (drop at text) ≡ []
  pub fault : first_fault false (drop at text) ≡ length (drop at text)

pub record FaultFound (text : List ℕ) (at place : ℕ) : Type 0 where
  pub within : place < length text
  pub fault : at + first_fault false (drop at text) ≡ place

abbrev pub TokenSays : List ℕ → ℕ → Token → Type 0
TokenSays text at (Number word next) = NumberTaken text at word next
TokenSays text at End = EndReached text at
TokenSays text at (Fault place) = FaultFound text at place

pub blank_is_no_digit : (b : ℕ) → is_blank b ≡ true → is_digit b ≡ false
unfolding is_blank is_digit
blank_is_no_digit b blank = go (eqb b 32) refl
  where
    go : (space : Bool) → eqb b 32 ≡ space → leb 48 b && leb b 57 ≡ false
    go true e = rw (eqb-true b 32 e)
    go false e = rw (eqb-true b 10 (rw e at blank))

-- a digit more makes the number no smaller
pub value_grows : (so_far : ℕ) (text : List ℕ) → so_far ≤ value_after so_far text
unfolding value_after
value_grows so_far [] = omega arith
value_grows so_far (b ∷ text) = go (is_digit b) (value_grows (so_far * 10 + (b - 48)) text)
  where
    go :
        (digit : Bool) → so_far * 10 + (b - 48) ≤ value_after (so_far * 10 + (b - 48)) text →
        so_far ≤ cond digit (value_after (so_far * 10 + (b - 48)) text) so_far
    go true more = omega arith
    go false more = omega arith

-- after a digit, the numbers and the first fault go on where the run of digits ends
record RunPassed (text : List ℕ) (at next : ℕ) : Type 0 where
  later : at ≤ next
  within : next ≤ length text
  number : numbers true (drop at text) ≡ numbers false (drop next text)
  fault : at + first_fault true (drop at text) ≡ next + first_fault false (drop next text)

run_passed :
    (text rest : List ℕ) (at : ℕ) → at ≤ length text → drop at text ≡ rest → RunPassed text at (after_digits at rest)
unfolding after_digits numbers first_fault faulty begins
run_passed text [] at inside e = record { later = omega arith; within = inside; number = rw e; fault = rw e }
run_passed text (b ∷ rest) at inside e =
    go (is_digit b) refl (run_passed text rest (suc at) (below_length text rest at b e) next)
  where
    next : drop (suc at) text ≡ rest
    next = rest_after text rest at b e

    go :
        (digit : Bool) → is_digit b ≡ digit → RunPassed text (suc at) (after_digits (suc at) rest) →
        RunPassed text at (cond digit (after_digits (suc at) rest) at)
    go true digit passed =
        record {
          later = omega arith;
          within = passed.within;
          number = rw (e, digit) (rw next at passed.number);
          fault = rw (e, digit) (omega (arith, rw next at passed.fault));
        }
    go false digit passed =
        record { later = omega arith; within = inside; number = rw (e, digit); fault = rw (e, digit) }

-- a text whose byte at `at` is b, with `rest` after it
module _ (text rest : List ℕ) (at b : ℕ) (here : drop at text ≡ b ∷ rest) where
  next_here : drop (suc at) text ≡ rest
  next_here = rest_after text rest at b here

  inside_here : at < length text
  inside_here = below_length text rest at b here

  -- what is found after a blank is found before it
  before_blank : is_blank b ≡ true → (token : Token) → TokenSays text (suc at) token → TokenSays text at token
  unfolding numbers first_fault faulty begins
  before_blank blank token said = go token said
    where
      same_numbers : numbers false (drop at text) ≡ numbers false (drop (suc at) text)
      same_numbers = rw (here, next_here, blank_is_no_digit b blank)

      one_more : first_fault false (drop at text) ≡ suc (first_fault false (drop (suc at) text))
      one_more = rw (here, next_here, blank_is_no_digit b blank, blank)

      go : (token : Token) → TokenSays text (suc at) token → TokenSays text at token
      go (Number word next) said =
          record {
            later = omega arith;
            within = said.within;
            number = same_numbers ∙ said.number;
            fault = omega (arith, one_more);
          }
      go End said =
          record { number = same_numbers ∙ said.number; fault = rw (one_more, said.fault, here, next_here) refl }
      go (Fault place) said = record { within = said.within; fault = omega (arith, one_more) }

  at_digit : is_digit b ≡ true → TokenSays text at (number_from at (b ∷ rest))
  unfolding number_from after_digits numbers first_fault faulty begins
  at_digit digit = go (leb (value (b ∷ rest)) most_word) refl (run_passed text rest (suc at) inside_here next_here)
    where
      go :
          (small : Bool) → leb (value (b ∷ rest)) most_word ≡ small → RunPassed text (suc at) (after_digits (suc at) rest) →
          TokenSays text at (cond small (Number (value (b ∷ rest)) (after_digits at (b ∷ rest))) (Fault at))
      go true small passed =
          rw digit
          (record {
            later = omega arith;
            within = passed.within;
            number = rw (here, digit) (ap (λ (ns : List ℕ). value (b ∷ rest) ∷ ns) (rw next_here at passed.number));
            fault = rw (here, digit, le-ltb _ _ (leb-true _ _ small)) (omega (arith, rw next_here at passed.fault));
          })
      go false large passed =
          record { within = inside_here; fault = rw (here, digit, lt-ltb _ _ (leb-false _ _ large)) (omega arith) }

  at_other_byte : is_blank b ≡ false → is_digit b ≡ false → FaultFound text at at
  unfolding first_fault faulty
  at_other_byte no_blank no_digit = record { within = inside_here; fault = rw (here, no_blank, no_digit) (omega arith) }

token_says_from : (text rest : List ℕ) (at : ℕ) → drop at text ≡ rest → TokenSays text at (token_from at rest)
unfolding token_from numbers first_fault
token_says_from text [] at e = record { number = rw e; fault = rw e }
token_says_from text (b ∷ rest) at e =
    go (is_blank b) refl (is_digit b) refl (token_says_from text rest (suc at) (rest_after text rest at b e))
  where
    go :
        (blank : Bool) → is_blank b ≡ blank → (digit : Bool) → is_digit b ≡ digit →
        TokenSays text (suc at) (token_from (suc at) rest) →
        TokenSays text at (cond blank (token_from (suc at) rest) (cond digit (number_from at (b ∷ rest)) (Fault at)))
    go true blank digit d said = before_blank text rest at b e blank (token_from (suc at) rest) said
    go false blank true digit said = at_digit text rest at b e digit
    go false blank false digit said = at_other_byte text rest at b e blank digit

-- each token says what is left of the text
pub token_says : (text : List ℕ) (at : ℕ) {token : Token} → token_at text at ≡ token → TokenSays text at token
unfolding token_at
token_says text at e = subst (λ (t : Token). TokenSays text at t) e (token_says_from text (drop at text) at refl)
