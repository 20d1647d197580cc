-- Reading words refuses with 2, 3 or 4 and with no other number, at a place among the words or just after them.
use Rattle.std.specs.Prelude.{ℕ, ◌≤◌, ◌≡◌, refl, ◌⊎◌, length, Ok, Err}
use mathlib.Core.List.{List, [], ◌∷◌, Memᴰ}
use Rattle.std.proofs.Common.{inl, inr, ⊎_elim, eq-or-lt_of_le, arith}
use Rattle.refusals.specs.RefusalNumbers.{UnreadOnly, read, unread}
use Rattle.refusals.specs.Refusals.{Reading, number_of, place_of}
use Rattle.refusals.specs.declared.Refusal.{Refusal}
use Rattle.formats.specs.Agreement.{consumed_count}
use Rattle.formats.specs.Taking.{Taken}
use Rattle.formats.specs.Written.{Outcome, took, turned}
use Rattle.instance.specs.Node.{Problem}
use Rattle.instance.specs.SiteFile.{site_file, reading_of, problem_of}
use Rattle.instance.specs.Valid.{InRange}

pub record ReadingRefusal (count : ℕ) (r : Refusal) : Type 0 where
  pub number : InRange 2 4 (number_of r)
  pub place : place_of r ≤ count

two_three_or_four : {n : ℕ} → (n ≡ 2) ⊎ (n ≡ 3) ⊎ (n ≡ 4) → InRange 2 4 n
two_three_or_four (inl e) = omega arith
two_three_or_four (inr (inl e)) = omega arith
two_three_or_four (inr (inr e)) = omega arith

pub reading_refusal : (words : List ℕ) {r : Refusal} → problem_of words ≡ Err r → ReadingRefusal (length words) r
unfolding problem_of
reading_refusal words {r} = go (site_file.sound 0 words)
  where
    go : {t : Taken Problem} → Outcome 4 site_file.Writes 0 words t → reading_of t ≡ Err r → ReadingRefusal (length words) r
    go (took writes consumed) e = let z : ◌≡◌ {A = ℕ} 0 1 = cc in absurd (omega arith)
    go (turned s number place) e =
        let same : s ≡ r = cc in
        let found : ReadingRefusal (length words) s =
        record { number = two_three_or_four number; place = omega (arith, consumed_count place) } in
        rw same at found

two_to_four : {n : ℕ} → InRange 2 4 n → Memᴰ n (2 ∷ 3 ∷ 4 ∷ [])
two_to_four range =
    ⊎_elim
    (λ e. Memᴰ.tail (Memᴰ.tail (Memᴰ.head e)))
    (λ below.
    ⊎_elim
    (λ e. Memᴰ.tail (Memᴰ.head (omega arith)))
    (λ lower. Memᴰ.head (omega arith))
    (eq-or-lt_of_le below))
    (eq-or-lt_of_le range.at_most)

pub reading_refuses_2_3_4 : (words : List ℕ) → UnreadOnly (2 ∷ 3 ∷ 4 ∷ []) (problem_of words)
reading_refuses_2_3_4 words = go (problem_of words) refl
  where
    go : (reading : Reading Problem) → problem_of words ≡ reading → UnreadOnly (2 ∷ 3 ∷ 4 ∷ []) reading
    go (Ok p) e = read p
    go (Err r) e = unread (two_to_four (reading_refusal words e).number)
