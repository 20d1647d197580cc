-- Turning text into words ends as demand 1 has it, and hands over the words of the text.
use Rattle.std.specs.Prelude.{ℕ, ◌≤◌, Bool, true, false, cond, List, [], ◌∷◌, ◌≡◌, refl, ltb, length, Ok, Err}
use mathlib.Core.List.Memᴰ
use Rattle.laws.specs.Lists.{onto}
use Rattle.refusals.specs.EndingLaws.{unchanged, serves, turns_down}
use Rattle.refusals.specs.Endings.{lent, Ends, read_then, needed_for}
use Rattle.refusals.specs.RefusalNumbers.{RefusesOnly, accepts, refuses, UnreadOnly, read, unread, room_refuses_6}
use Rattle.refusals.specs.Refusals.{Reading, room, Verdict, accepted, verdict_of}
use Rattle.refusals.specs.RoomLaws.{enough_room, room_accepts, front_written}
use Rattle.refusals.specs.declared.Refusal.TheVariants.{Text}
use Rattle.text.specs.Outcomes.{WordsOutcome, words_where, words_outcome_of, words_outcome, TextEnds}
use Rattle.text.specs.Text.{first_fault, words_of}

unread_if : (t : Bool) (place : ℕ) (words : List ℕ) →
    UnreadOnly (1 ∷ []) (cond t (Err (Text place)) (Ok words))
unread_if true place words = unread (Memᴰ.head refl)
unread_if false place words = read words

pub text_refuses_1 : (text : List ℕ) → UnreadOnly (1 ∷ []) (words_of text)
unfolding words_of
text_refuses_1 text = unread_if (ltb (first_fault false _) (length text)) _ _

pub text_ends : (text buffer : List ℕ) → let o = words_outcome text buffer in TextEnds text buffer o.answer o.words
unfolding words_outcome
text_ends text buffer = go (text_refuses_1 text)
  where
    OutcomeEnds : Verdict → ℕ → WordsOutcome → Type 0
    OutcomeEnds v n o = Ends v (1 ∷ 6 ∷ []) (lent n buffer o.words ∷ []) (verdict_of o.answer)

    written : (words : List ℕ) {v : Verdict} → RefusesOnly (6 ∷ []) v → (v ≡ accepted → length words ≤ length buffer) →
        OutcomeEnds v (length words) (words_where v words buffer)
    written words accepts enough = serves (front_written words buffer refl (enough refl), tt)
    written words (refuses m) enough = turns_down (Memᴰ.append_right (1 ∷ []) m) (unchanged, tt)

    go : {reading : Reading (List ℕ)} → UnreadOnly (1 ∷ []) reading →
        OutcomeEnds (read_then reading (λ words. room (length words) buffer)) (needed_for length reading) (words_outcome_of reading buffer)
    go (read words) = written words (room_refuses_6 (length words) buffer) (room_accepts _ _)
    go (unread m) = turns_down (Memᴰ.append_left (6 ∷ []) m) (unchanged, tt)

pub words_are_handed_over : (text words buffer : List ℕ) → words_of text ≡ Ok words → length words ≤ length buffer →
    words_outcome text buffer ≡ record { answer = Ok (length words); words = onto words buffer }
unfolding words_outcome
words_are_handed_over text words buffer e enough = rw (e, enough_room (length words) buffer enough)
