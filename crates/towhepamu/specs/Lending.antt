-- What is lent to a closure: the words of a text, or the front of a plan.
use denote.Ref.{Bor}
use Rattle.std.specs.Prelude.{ℕ, suc, min, List, ◌≡◌, Result, Ok, Err, length, take}
use Rattle.ranges.specs.Limits.{most_tasks}
use Rattle.refusals.specs.Refusals.{Reading}
use Rattle.refusals.specs.declared.Refusal.{Refusal}
use Rattle.text.specs.Text.{words_of}

-- the words that are lent, or the refusal
abbrev pub reading_of : Result (Bor (List ℕ)) Refusal → Reading (List ℕ)
reading_of (Ok words) = Ok words.now
reading_of (Err r) = Err r

pub record IsReading (text : List ℕ) (lent : Result (Bor (List ℕ)) Refusal) : Type 0 where
  pub read : words_of text ≡ reading_of lent

-- as many choices as show that a plan is too long for every instance
abbrev pub front : List ℕ → List ℕ
front plan = take (min (length plan) (suc most_tasks)) plan
