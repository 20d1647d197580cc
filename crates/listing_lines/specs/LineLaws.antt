-- The lines of a listing from what the code has at hand.
use Rattle.std.specs.Prelude.{ℕ, zero, suc, ◌≤◌, List, [], ◌∷◌, ◌++◌, map, ◌≡◌, refl, length, get_or, take}
use Prim.Native.String.{String}
use Rattle.std.proofs.Common.{append_assoc, append-nil, sym, ap, ap₂, ◌∙◌, arith, take-suc}
use Rattle.std.proofs.Math.Seq.{take-length}
use Rattle.laws.specs.Lists.{joined}
use Rattle.text.specs.Decimal.{decimal, spaced}
use Rattle.refusals.specs.Refusals.{number_of, place_of}
use Rattle.refusals.specs.declared.Refusal.{Refusal}
use Rattle.listing_lines.specs.Lines.{bytes, ended, line}
use Rattle.listing_lines.specs.ListingLines.{numbers_line, refusal_line}

pub refusal_line_lem : (r : Refusal) (number place : ℕ) → number ≡ number_of r → place ≡ place_of r →
    refusal_line r ≡ numbers_line "refused" (number ∷ place ∷ [])
unfolding refusal_line
refusal_line_lem r number place n p = ap₂ (λ (a b : ℕ). numbers_line "refused" (a ∷ b ∷ [])) (sym n) (sym p)

-- numbers, each after a space, at a line's end
pub ended_numbers : (ns : List ℕ) → ended (map decimal ns) ≡ spaced ns ++ bytes "\n"
unfolding bytes ended spaced
ended_numbers [] = refl
ended_numbers (n ∷ ns) = ap (◌∷◌ 32) (ap (◌++◌ (decimal n)) (ended_numbers ns) ∙ sym (append_assoc (decimal n) (spaced ns) _))

spaced_append : (ms ns : List ℕ) → spaced (ms ++ ns) ≡ spaced ms ++ spaced ns
unfolding spaced
spaced_append [] ns = refl
spaced_append (m ∷ ms) ns = ap (◌∷◌ 32) (ap (◌++◌ (decimal m)) (spaced_append ms ns) ∙ sym (append_assoc (decimal m) (spaced ms) _))

-- the first number is a field of its own
pub numbers_line_parts : (word : String) (n : ℕ) (ns : List ℕ) →
    numbers_line word (n ∷ ns) ≡ bytes word ++ (32 ∷ decimal n) ++ (spaced ns ++ bytes "\n")
unfolding numbers_line line spaced
numbers_line_parts word n ns = rw ended_numbers (simp append_assoc)

-- one by one
pub spaced_one_by_one : (ns : List ℕ) → joined (λ k. 32 ∷ decimal (get_or ns k 0)) (length ns) ≡ spaced ns
unfolding joined spaced
spaced_one_by_one ns = go (length ns) (omega arith) ∙ ap spaced (take-length ns)
  where
    go : (n : ℕ) → n ≤ length ns → joined (λ k. 32 ∷ decimal (get_or ns k 0)) n ≡ spaced (take n ns)
    go zero h = refl
    go (suc n) h =
        rw (take-suc ns n 0 h, spaced_append (take n ns), append-nil, go n (omega arith)) refl
