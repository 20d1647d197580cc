-- The whole outcome of listing the plan of a text, for every text: the answer, and what the lent buffer holds afterwards.
use Rattle.refusals.specs.declared.Refusal.{Refusal}
use Rattle.std.specs.Prelude.{ℕ, List, length, Result, Ok, Err}
use Rattle.laws.specs.Lists.{onto}
use Rattle.refusals.specs.Endings.{read_then}
use Rattle.refusals.specs.Refusals.{room, ◌and_then◌, Verdict}
use Rattle.text.specs.Text.{words_of}
use Rattle.instance.specs.Node.{Problem}
use Rattle.instance.specs.SiteFile.{problem_of}
use Rattle.planner.specs.Endings.{plan_found}
use Rattle.planner.specs.Planning.{best_plan}
use Rattle.listings.specs.Listing.{most_listing, listing_of_plan, listing_of_problem, listing_of}

pub record ListOutcome : Type 0 where
  pub answer : Result ℕ Refusal
  pub out : List ℕ

abbrev pub list_given : Result ℕ Refusal → List ℕ → ListOutcome
list_given answer out = record { answer = answer; out = out }

-- "Every refusal leaves all lent buffers unchanged. An accepted call writes only the words or bytes its result needs,
-- from the front of each buffer."
abbrev pub list_where : Verdict → List ℕ → List ℕ → ListOutcome
list_where (Ok tt) listing out = list_given (Ok (length listing)) (onto listing out)
list_where (Err r) listing out = list_given (Err r) out

-- 5
abbrev pub problem_list_outcome : Problem → List ℕ → ListOutcome
problem_list_outcome p out = list_where (plan_found (best_plan p)) (listing_of_plan p (best_plan p)) out

-- then 6, for which the longest listing of all counts; "5 comes last"
abbrev pub list_tests : List ℕ → Problem → Verdict
list_tests out p = room most_listing out and_then plan_found (best_plan p)

-- 2, 3, 4
abbrev pub words_list_outcome : List ℕ → List ℕ → ListOutcome
words_list_outcome words out = list_where (read_then (problem_of words) (list_tests out)) (listing_of_problem (problem_of words)) out

-- "In any other call that is given text, 1 comes before all the rest."
unfoldable pub list_outcome : List ℕ → List ℕ → ListOutcome
list_outcome text out =
    list_where (read_then (words_of text) (λ words. read_then (problem_of words) (list_tests out))) (listing_of text) out
