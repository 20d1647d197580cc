-- Code that takes words one part after the other takes what the parts one after the other do.
use Prim.Native.Nat.{ℕ, suc, ◌+◌, ◌-◌, ◌≤◌, ◌<◌}
use Rattle.std.specs.Prelude.{Bool, true, false, cond, List, [], ◌∷◌, ◌++◌, ◌≡◌, refl, Result, Ok, Err, MatchResult, leb, length}
use Rattle.std.proofs.Math.Path.{sym}
use Rattle.std.proofs.Common.{◌∙◌}
use Rattle.std.proofs.Math.Nat.{sub-zero}
use native.Mathlib.Omega.{arith}
use borrow.Author.Tests.{leb-true}
use Rattle.refusals.specs.declared.Refusal.{Refusal}
use Rattle.formats.specs.Formats.{times}
use Rattle.formats.specs.Readers.{Left, Leaves, Takes, Repeats, is_ended}
use Rattle.refusals.specs.declared.Refusal.TheVariants.{WordRange}
use Rattle.formats.specs.Taking.{Taken, refused, taken, Take, continue, between, take_word, take_tested, take_unless_ended}
use Rattle.formats.specs.Written.{Format, Outcome}
use Rattle.formats.specs.Written as Written

module _ {A B : Type 0} {start middle : Left} {take : Take A} (next : A → Take B) where
  pub first_refused : {after : Left} {r : Refusal} → Takes start take (Err r) middle →
      Takes start (λ at words. continue (take at words) next) (Err r) after
  first_refused first = record { leaves = rw first.leaves refl }

  then_leaves : {after : Left} {a : A} (result : Result B Refusal) → Takes start take (Ok a) middle → Takes middle (next a) result after →
      Leaves (continue (take start.at start.words) next) result after
  then_leaves (Err r) first second = rw first.leaves second.leaves
  then_leaves (Ok b) first second = rw first.leaves second.leaves

  pub then_takes : {after : Left} {a : A} {result : Result B Refusal} → Takes start take (Ok a) middle → Takes middle (next a) result after →
      Takes start (λ at words. continue (take at words) next) result after
  then_takes {result = result} first second = record { leaves = then_leaves result first second }

-- what is taken of the first part decides: its refusal is the answer, or what the second part takes
pub and_then_lem : {A B : Type 0} {start middle after : Left} {take : Take A} (next : A → Take B) {first : Result A Refusal} {result : Result B Refusal} →
    Takes start take first middle → MatchResult first (λ a. Takes middle (next a) result after) (λ r. result ≡ Err r) →
    Takes start (λ at words. continue (take at words) next) result after
and_then_lem next {first = Ok a} first second = then_takes next first second
and_then_lem next {first = Err r} first same = rw same (first_refused next first)

pub takes_done : {A : Type 0} {left : Left} (a : A) → Takes left (taken a) (Ok a) left
takes_done a = record { leaves = refl }

-- what is taken is what the words passed write
pub taken_is_written : {fault : ℕ} {A : Type 0} (format : Format fault A) {start after : Left} {a : A} →
    Takes start format.take (Ok a) after → format.Writes a start.words after.words
taken_is_written {fault} {A} format {start} {after} {a} takes = go (format.sound start.at start.words) takes.leaves
  where
    go : {t : Taken A} → Outcome fault format.Writes start.at start.words t → t ≡ taken a after.at after.words →
        format.Writes a start.words after.words
    go (Written.turned r number place) same = let z : ◌≡◌ {A = ℕ} 0 1 = cc in absurd (omega arith)
    go (Written.took {a = b} {rest} writes consumed) same =
        let value : b ≡ a = cc in
        let left : rest ≡ after.words = cc in
        rw (value, left) at writes

-- things taken one after the other
module _ {fault : ℕ} {A : Type 0} (each : List A → Format fault A) {count : ℕ} where
  pub repeats_start : {start : Left} → Repeats each count 0 start [] start
  repeats_start = record { goes_on = rw sub-zero }

  module _ {i : ℕ} {start now : Left} {before : List A} (so_far : Repeats each count i start before now) where
    one_next : i < count →
        continue ((each before).take now.at now.words) (λ a. (times each (count - (i + 1)) (before ++ (a ∷ []))).take)
        ≡ (times each count []).take start.at start.words
    unfolding times
    one_next below =
        let left : count - i ≡ suc (count - (i + 1)) = omega arith in
        rw left at so_far.goes_on

    pub repeats_more : {a : A} {after : Left} → i < count → Takes now (each before).take (Ok a) after →
        Repeats each count (i + 1) start (before ++ (a ∷ [])) after
    repeats_more below one = record { goes_on = rw one.leaves at (one_next below) }

    pub repeats_refused : {r : Refusal} {after end : Left} → i < count → Takes now (each before).take (Err r) after →
        Takes start (times each count []).take (Err r) end
    repeats_refused below one = record { leaves = sym (rw one.leaves at (one_next below)) }

    pub repeats_end : count ≤ i → Takes start (times each count []).take (Ok before) now
    unfolding times
    repeats_end all_taken =
        let none : count - i ≡ 0 = omega arith in
        record { leaves = sym (rw none at so_far.goes_on) }

-- a tested value
module _ {A : Type 0} {start middle : Left} {take : Take A} (passes : A → Bool) (why : ℕ → Refusal) where
  pub tested_refused : {after : Left} {r : Refusal} → Takes start take (Err r) middle → Takes start (take_tested take passes why) (Err r) after
  unfolding take_tested
  tested_refused first = record { leaves = rw first.leaves refl }

  pub tested_passes : {a : A} → Takes start take (Ok a) middle → passes a ≡ true → Takes start (take_tested take passes why) (Ok a) middle
  unfolding take_tested
  tested_passes first passed = record { leaves = rw (first.leaves, passed) refl }

  pub tested_fails : {after : Left} {a : A} → Takes start take (Ok a) middle → passes a ≡ false →
      Takes start (take_tested take passes why) (Err (why start.at)) after
  unfolding take_tested
  tested_fails first failed = record { leaves = rw (first.leaves, failed) refl }

-- how words are taken matters only from where they are taken
pub takes_other : {A : Type 0} {start after : Left} {take : Take A} {result : Result A Refusal} (other : Take A) →
    take start.at start.words ≡ other start.at start.words → Takes start take result after → Takes start other result after
takes_other other same takes = record { leaves = rw same at takes.leaves }

-- where the list may end
module _ {A : Type 0} (absent : A) (take : Take A) where
  ended : (at : ℕ) (words : List ℕ) → leb (length words) 0 ≡ true → take_unless_ended absent take at words ≡ taken absent at words
  unfolding take_unless_ended
  ended at [] ends = refl
  ended at (w ∷ words) ends = absurd (omega (arith, leb-true (length (w ∷ words)) 0 ends))

  not_ended : (at : ℕ) (words : List ℕ) → leb (length words) 0 ≡ false → take at words ≡ take_unless_ended absent take at words
  unfolding take_unless_ended
  not_ended at [] goes_on = let z : ◌≡◌ {A = ℕ} 0 1 = cc in absurd (omega arith)
  not_ended at (w ∷ words) goes_on = refl

  module _ {start : Left} where
    pub absent_taken : is_ended start ≡ true → Takes start (take_unless_ended absent take) (Ok absent) start
    absent_taken ends = record { leaves = ended start.at start.words ends }

    pub present_taken : {result : Result A Refusal} {after : Left} → is_ended start ≡ false → Takes start take result after →
        Takes start (take_unless_ended absent take) result after
    present_taken goes_on takes = takes_other {take = take} (take_unless_ended absent take) (not_ended start.at start.words goes_on) takes

-- a word that passes a test, as a word from `low` to `high` that is tested then: whatever passes is in that range
module _ (low high : ℕ) (passes : ℕ → Bool) (within : (w : ℕ) → passes w ≡ true → between low high w ≡ true) where
  passing_is_tested : (at : ℕ) (words : List ℕ) →
      take_tested (take_word (between low high)) passes WordRange at words ≡ take_word passes at words
  unfolding take_tested take_word
  passing_is_tested at [] = refl
  passing_is_tested at (w ∷ words) = go (between low high w) (passes w) refl refl
    where
      go : (in_range passed : Bool) → between low high w ≡ in_range → passes w ≡ passed →
          continue (cond in_range (taken w (suc at) words) (refused (WordRange at)))
          (λ v next rest. cond (passes v) (taken v next rest) (refused (WordRange at)))
          ≡ cond passed (taken w (suc at) words) (refused (WordRange at))
      go true passed range is = rw is
      go false true range is = let z : ◌≡◌ {A = ℕ} 0 1 = cc (within w is) in absurd (omega arith)
      go false false range is = refl

  passing_taken : {start after : Left} {result : Result ℕ Refusal} →
      Takes start (take_tested (take_word (between low high)) passes WordRange) result after → Takes start (take_word passes) result after
  passing_taken {start} = takes_other (take_word passes) (passing_is_tested start.at start.words)

  module _ {start middle : Left} where
    pub passing_refused : {after : Left} {r : Refusal} → Takes start (take_word (between low high)) (Err r) middle →
        Takes start (take_word passes) (Err r) after
    passing_refused word = passing_taken (tested_refused passes WordRange word)

    pub passing_passes : {w : ℕ} → Takes start (take_word (between low high)) (Ok w) middle → passes w ≡ true →
        Takes start (take_word passes) (Ok w) middle
    passing_passes word passed = passing_taken (tested_passes passes WordRange word passed)

    pub passing_fails : {after : Left} {w : ℕ} → Takes start (take_word (between low high)) (Ok w) middle → passes w ≡ false →
        Takes start (take_word passes) (Err (WordRange start.at)) after
    passing_fails word failed = passing_taken (tested_fails passes WordRange word failed)
