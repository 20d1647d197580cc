-- The paper's section 'The listing program': the bytes that are printed for a text, whatever its bytes are.
use Rattle.std.specs.Prelude.{ℕ, List, Ok, Err}
use Rattle.std.proofs.Math.Option.{Option, none, some}
use Rattle.instance.specs.Node.{Problem}
use Rattle.refusals.specs.Refusals.{Reading}
use Rattle.instance.specs.SiteFile.{problem_of}
use Rattle.text.specs.Text.{words_of}
use Rattle.refusals.specs.declared.Refusal.TheVariants.{NoPlan}
use Rattle.tables.specs.Tables.{table_of}
use Rattle.planner.specs.Planning.{best_plan}
use Rattle.listing_lines.specs.ListingLines.{refusal_line, plan_lines}

abbrev pub listing_of_plan : Problem → Option (List ℕ) → List ℕ
listing_of_plan p none = refusal_line NoPlan
listing_of_plan p (some plan) = plan_lines p plan (table_of p plan)

abbrev pub listing_of_problem : Reading Problem → List ℕ
listing_of_problem (Err r) = refusal_line r
listing_of_problem (Ok p) = listing_of_plan p (best_plan p)

abbrev pub listing_of_words : Reading (List ℕ) → List ℕ
listing_of_words (Err r) = refusal_line r
listing_of_words (Ok words) = listing_of_problem (problem_of words)

-- room for every listing
abbrev pub most_listing : ℕ
most_listing = 51200

-- "It reads text from standard input and prints."
unfoldable pub listing_of : List ℕ → List ℕ
listing_of text = listing_of_words (words_of text)
