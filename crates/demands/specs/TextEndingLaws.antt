-- Reading a text, listing its plan and asking the calendar that it is end as demand 1 has it, with 1 before all the rest.
use Rattle.std.specs.Prelude.{ℕ, ◌≤◌, cond, List, [], ◌∷◌, ◌++◌, ◌≡◌, refl, length, Result, Ok, Err}
use mathlib.Core.List.Memᴰ
use Rattle.std.proofs.Math.Option.{Option, none, some}
use Rattle.std.proofs.Common.{arith}
use Rattle.laws.specs.Lists.{onto}
use Rattle.refusals.specs.declared.Refusal.{Refusal}
use Rattle.refusals.specs.EndingLaws.{unchanged, serves, turns_down, ends_as_tested}
use Rattle.refusals.specs.Endings.{lent, Ends, read_then}
use Rattle.refusals.specs.RefusalNumbers.{RefusesOnly, accepts, refuses, UnreadOnly, read, unread, and_then-refuses, room_refuses_6}
use Rattle.refusals.specs.Refusals.{Reading, answer_of, room, Verdict, accepted, verdict_of}
use Rattle.refusals.specs.RoomLaws.{room_accepts, front_written}
use Rattle.refusals.specs.declared.Refusal.TheVariants.{NoSuchQuestion}
use Rattle.calendar.specs.Calendars.{calendar_of}
use Rattle.calendar.specs.Hours.{is_question}
use Rattle.calendar.specs.HoursLaws.{asking_ends}
use Rattle.calendar.specs.declared.Date.{Date}
use Rattle.calendar.specs.declared.PlanDays.{PlanDays}
use Rattle.instance.specs.Node.{Problem}
use Rattle.instance.specs.SiteFile.{problem_of}
use Rattle.instance.specs.SiteFileRefusals.{reading_refuses_2_3_4}
use Rattle.text.specs.OutcomeLaws.{text_refuses_1}
use Rattle.text.specs.Text.{words_of}
use Rattle.refusals.specs.VerdictLaws.{and_then-accepts, refused_not_accepted}
use Rattle.planner.specs.Endings.{plan_found}
use Rattle.planner.specs.Planning.{best_plan}
use Rattle.listings.specs.Listing.{most_listing, listing_of}
use Rattle.listings.specs.ListingLength.{listing_at_most}
use Rattle.listings.specs.Outcomes.{list_where, list_tests, list_outcome}
use Rattle.answers.specs.Answers.{site_of, listed_of, ruled_of}
use Rattle.towhepamu.specs.CallOutcomes.{text_read_outcome, text_read_outcome_of, text_plan_at_outcome, text_plan_at_outcome_of}
use Rattle.demands.specs.TextCallLaws.{may_return}
use Rattle.demands.specs.TextCalls.{text_then, TextReadingEnds, TextListingEnds, TextAskingEnds, answer_site, answer_listed, answer_ruled}

read_then_refuses : {A : Type 0} {first others : List ℕ} {reading : Reading A} {tests : A → Verdict} →
    UnreadOnly first reading → ((a : A) → RefusesOnly others (tests a)) → RefusesOnly (first ++ others) (read_then reading tests)
read_then_refuses {first = first} (read a) next = and_then-refuses {first = first} accepts (next a)
read_then_refuses {others = others} (unread m) next = refuses (Memᴰ.append_left others m)

read_then_accepts : {A : Type 0} (reading : Reading A) (tests : A → Verdict) → read_then reading tests ≡ accepted →
    (a : A) × (tests a ≡ accepted)
read_then_accepts (Err r) tests e = let z : ◌≡◌ {A = ℕ} 0 1 = cc in absurd (omega arith)
read_then_accepts (Ok a) tests e = (a, e)

pub text_then_refuses : (text : List ℕ) {others : List ℕ} {tests : Problem → Verdict} → ((p : Problem) → RefusesOnly others (tests p)) →
    RefusesOnly (1 ∷ 2 ∷ 3 ∷ 4 ∷ others) (text_then text tests)
text_then_refuses text next = read_then_refuses (text_refuses_1 text) (λ words. read_then_refuses (reading_refuses_2_3_4 words) next)

pub text_reading_ends : (text : List ℕ) → TextReadingEnds text (verdict_of (text_read_outcome text))
unfolding text_read_outcome
text_reading_ends text = rw (as_tested (words_of text)) (ends_as_tested [] (text_then_refuses text (λ p. accepts)))
  where
    no_tests : (reading : Reading Problem) → verdict_of reading ≡ read_then reading (λ p. accepted)
    no_tests (Err r) = refl
    no_tests (Ok p) = refl

    as_tested : (reading : Reading (List ℕ)) →
        verdict_of (text_read_outcome_of reading) ≡ read_then reading (λ words. read_then (problem_of words) (λ p. accepted))
    as_tested (Err r) = refl
    as_tested (Ok words) = no_tests (problem_of words)

no_plan_refuses_5 : (best : Option (List ℕ)) → RefusesOnly (5 ∷ []) (plan_found best)
no_plan_refuses_5 none = refuses (Memᴰ.head refl)
no_plan_refuses_5 (some plan) = accepts

-- by the verdict of its tests
listing_ends : {numbers : List ℕ} (listing out : List ℕ) {v : Verdict} → RefusesOnly numbers v →
    (v ≡ accepted → length listing ≤ length out) →
    let o = list_where v listing out in Ends v numbers (lent (length listing) out o.out ∷ []) (verdict_of o.answer)
listing_ends listing out accepts enough = serves (front_written listing out refl (enough refl), tt)
listing_ends listing out (refuses m) enough = turns_down m (unchanged, tt)

module _ (text out : List ℕ) where
  room_where_accepted : text_then text (list_tests out) ≡ accepted → length (listing_of text) ≤ length out
  room_where_accepted e =
      let words = read_then_accepts (words_of text) (λ words. read_then (problem_of words) (list_tests out)) e in
      let p = read_then_accepts (problem_of words.0) (list_tests out) words.1 in
      let both = (and_then-accepts (room most_listing out) (plan_found (best_plan p.0))).0 p.1 in
      omega (arith, listing_at_most text, room_accepts most_listing out both.0)

  pub text_listing_ends : let o = list_outcome text out in TextListingEnds text out o.answer o.out
  unfolding list_outcome
  text_listing_ends =
      listing_ends (listing_of text) out
      (text_then_refuses text (λ p. and_then-refuses (room_refuses_6 most_listing out) (no_plan_refuses_5 (best_plan p))))
      room_where_accepted

-- where it is not refused the buffer's front holds the listing
listed_where : (v : Verdict) (listing out : List ℕ) → let o = list_where v listing out in verdict_of o.answer ≡ accepted →
    (listed_of o.answer ≡ record { refusal = 0; place = 0; length = length listing }) × (o.out ≡ onto listing out)
listed_where (Ok tt) listing out e = (refl, refl)
listed_where (Err r) listing out e = absurd (refused_not_accepted r e)

pub text_listing_hands_over : (text out : List ℕ) → let o = list_outcome text out in verdict_of o.answer ≡ accepted →
    (listed_of o.answer ≡ record { refusal = 0; place = 0; length = length (listing_of text) }) × (o.out ≡ onto (listing_of text) out)
unfolding list_outcome
text_listing_hands_over text out = listed_where (text_then text (list_tests out)) (listing_of text) out

pub reading_returns : (reading : Reading Problem) → answer_site (site_of reading) ≡ answer_of (verdict_of reading)
reading_returns (Err r) = refl
reading_returns (Ok p) = refl

pub listing_returns : (given : Result ℕ Refusal) → answer_listed (listed_of given) ≡ answer_of (verdict_of given)
listing_returns (Ok n) = refl
listing_returns (Err r) = refl

pub text_asking_ends : (text : List ℕ) (d : Date) (minute : ℕ) → TextAskingEnds text d minute (text_plan_at_outcome text d minute)
unfolding text_plan_at_outcome
text_asking_ends text d minute = go (text_refuses_1 text)
  where
    go : {reading : Reading (List ℕ)} → UnreadOnly (1 ∷ []) reading →
        Ends
        (read_then reading (λ words. read_then (calendar_of words) (λ es. cond (is_question d minute) accepted (Err NoSuchQuestion))))
        (1 ∷ 2 ∷ 3 ∷ 17 ∷ 18 ∷ [])
        []
        (verdict_of (text_plan_at_outcome_of reading d minute))
    go (read words) = may_return (asking_ends words d minute)
    go (unread m) = turns_down (Memᴰ.append_left (2 ∷ 3 ∷ 17 ∷ 18 ∷ []) m) tt

pub asking_returns : (given : Result PlanDays Refusal) → answer_ruled (ruled_of given) ≡ answer_of (verdict_of given)
asking_returns (Ok ruling) = refl
asking_returns (Err r) = refl
