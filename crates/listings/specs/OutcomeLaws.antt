-- The outcome of listing the plan of a text, from what reading the text and its words answers; and what it is where there is room
-- for every listing.
use Rattle.std.specs.Prelude.{ℕ, ◌≤◌, ◌<◌, List, ◌≡◌, length, Result, Ok, Err}
use Rattle.std.proofs.Math.Option.{Option, none, some}
use Rattle.std.proofs.Math.Path.{refl}
use Rattle.std.proofs.Common.{arith}
use Rattle.laws.specs.Lists.{onto}
use Rattle.instance.specs.Held.{problem_in}
use Rattle.instance.specs.Node.{Problem}
use Rattle.instance.specs.SiteFile.{problem_of}
use Rattle.instance.specs.declared.Instance.{Instance}
use Rattle.refusals.specs.Endings.{read_then}
use Rattle.refusals.specs.Refusals.{Reading}
use Rattle.refusals.specs.RoomLaws.{enough_room, no_room}
use Rattle.refusals.specs.declared.Refusal.{Refusal}
use Rattle.refusals.specs.declared.Refusal.TheVariants.{NoPlan, ShortBuffer}
use Rattle.instance.specs.ReadLaws.{HoldsProblemOf}
use Rattle.text.specs.Text.{words_of}
use Rattle.planner.specs.Endings.{plan_found}
use Rattle.planner.specs.Planning.{best_plan}
use Rattle.listing_lines.specs.ListingLines.{refusal_line}
use Rattle.listing_lines.specs.Placing.{Room, Put, put_from_start}
use Rattle.listings.specs.Listing.{most_listing, listing_of_plan, listing_of_problem, listing_of_words, listing_of}
use Rattle.listings.specs.ListingLength.{listing_at_most}
use Rattle.listings.specs.Outcomes.{ListOutcome, list_given, list_where, list_tests, problem_list_outcome, words_list_outcome, list_outcome}

module _ (words out : List ℕ) where
  pub refused_words_outcome : {r : Refusal} → problem_of words ≡ Err r →
      list_given (Err r) out ≡ words_list_outcome words out
  refused_words_outcome e = rw e refl

  module _ (inst : Instance) (held : HoldsProblemOf words inst) where
    pub short_buffer_outcome : length out < most_listing →
        list_given (Err (ShortBuffer most_listing)) out ≡ words_list_outcome words out
    short_buffer_outcome short = rw (held.problem, no_room most_listing out short) refl

    pub roomy_words_outcome : most_listing ≤ length out → problem_list_outcome (problem_in inst) out ≡ words_list_outcome words out
    roomy_words_outcome enough = rw (held.problem, enough_room most_listing out enough) refl

module _ (text out : List ℕ) where
  pub refused_text_outcome : {r : Refusal} → words_of text ≡ Err r → list_outcome text out ≡ list_given (Err r) out
  unfolding list_outcome
  refused_text_outcome e = rw e refl

  pub read_text_outcome : {words : List ℕ} → words_of text ≡ Ok words → list_outcome text out ≡ words_list_outcome words out
  unfolding list_outcome listing_of
  read_text_outcome e = rw e refl

-- what is printed for a text, and the outcome of listing its plan where there is room
data RoomyOutcome (out : List ℕ) : List ℕ → ListOutcome → Type 0 where
  lists : (listing : List ℕ) → RoomyOutcome out listing (list_given (Ok (length listing)) (onto listing out))
  refuses : (r : Refusal) → RoomyOutcome out (refusal_line r) (list_given (Err r) out)

module _ (text out : List ℕ) (enough : most_listing ≤ length out) where
  roomy_outcome : RoomyOutcome out (listing_of text) (list_outcome text out)
  unfolding list_outcome listing_of
  roomy_outcome = of_text (words_of text)
    where
      of_plan : (p : Problem) (best : Option (List ℕ)) →
          RoomyOutcome out (listing_of_plan p best) (list_where (plan_found best) (listing_of_plan p best) out)
      of_plan p none = RoomyOutcome.refuses NoPlan
      of_plan p (some plan) = RoomyOutcome.lists _

      of_words : (reading : Reading Problem) →
          RoomyOutcome out (listing_of_problem reading) (list_where (read_then reading (list_tests out)) (listing_of_problem reading) out)
      of_words (Err r) = RoomyOutcome.refuses r
      of_words (Ok p) = rw (enough_room most_listing out enough) (of_plan p (best_plan p))

      of_text : (reading : Reading (List ℕ)) →
          RoomyOutcome out (listing_of_words reading)
          (list_where (read_then reading (λ words. read_then (problem_of words) (list_tests out))) (listing_of_words reading) out)
      of_text (Err r) = RoomyOutcome.refuses r
      of_text (Ok words) = of_words (problem_of words)

  -- what listing the plan came to
  module _ {answer : (Result ℕ Refusal)} {after : List ℕ} (given : answer ≡ (list_outcome text out).answer) (left : after ≡ (list_outcome text out).out) where
    pub listed_is_printed : {n : ℕ} → answer ≡ Ok n → (n ≡ length (listing_of text)) × (after ≡ onto (listing_of text) out)
    listed_is_printed {n} said = go roomy_outcome given left
      where
        go : {listing : List ℕ} {o : ListOutcome} → RoomyOutcome out listing o → answer ≡ o.answer → after ≡ o.out →
            (n ≡ length listing) × (after ≡ onto listing out)
        go (RoomyOutcome.lists listing) is as_left = (cc, as_left)
        go (RoomyOutcome.refuses r) is as_left = let z : ◌≡◌ {A = ℕ} 0 1 = cc in absurd (omega arith)

    refused_is_unchanged : {r : Refusal} → answer ≡ Err r → (listing_of text ≡ refusal_line r) × (after ≡ out)
    refused_is_unchanged {r} said = go roomy_outcome given left
      where
        go : {listing : List ℕ} {o : ListOutcome} → RoomyOutcome out listing o → answer ≡ o.answer → after ≡ o.out →
            (listing ≡ refusal_line r) × (after ≡ out)
        go (RoomyOutcome.lists listing) is as_left = let z : ◌≡◌ {A = ℕ} 0 1 = cc in absurd (omega arith)
        go (RoomyOutcome.refuses q) is as_left = let same : q ≡ r = cc in (rw same refl, as_left)

    pub room_for_refusal : {r : Refusal} → answer ≡ Err r → Room after 0 (refusal_line r)
    room_for_refusal said =
        let same = refused_is_unchanged said in
        record { fits = rw (← same.0, same.1) (omega (arith, listing_at_most text)) }

    pub refusal_is_printed : {r : Refusal} → answer ≡ Err r → {last : List ℕ} {n : ℕ} → Put after 0 (refusal_line r) last n →
        (n ≡ length (listing_of text)) × (last ≡ onto (listing_of text) out)
    refusal_is_printed said put = let same = refused_is_unchanged said in rw (same.0, ← same.1) (put_from_start put)
