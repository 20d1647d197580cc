-- A text is refused at a place among its first 4,096 bytes, or just after them.
use Rattle.std.specs.Prelude.{ℕ, ◌≤◌, Bool, true, false, cond, List, ◌≡◌, ltb, length, take, Ok, Err}
use Rattle.std.proofs.Common.{arith, length-take}
use Rattle.ranges.specs.Limits.{most_text_bytes}
use Rattle.text.specs.NumberCountLaws.{first_fault_at_most}
use Rattle.refusals.specs.Refusals.{place_of}
use Rattle.text.specs.Text.{numbers, first_fault, words_of}
use Rattle.refusals.specs.declared.Refusal.{Refusal}
use Rattle.refusals.specs.declared.Refusal.TheVariants.{Text}

pub text_refusal_place : (text : List ℕ) {r : Refusal} → words_of text ≡ Err r → place_of r ≤ most_text_bytes
unfolding words_of
text_refusal_place text {r} = go (ltb place (length text))
  where
    place : ℕ
    place = first_fault false (take most_text_bytes text)

    go : (fault : Bool) → cond fault (Err (Text place)) (Ok (numbers false text)) ≡ Err r → place_of r ≤ most_text_bytes
    go true e =
        let same : Text place ≡ r = cc in
        rw (← same) (omega (arith, rw length-take at (first_fault_at_most false (take most_text_bytes text))))
    go false e = let z : ◌≡◌ {A = ℕ} 0 1 = cc in absurd (omega arith)
