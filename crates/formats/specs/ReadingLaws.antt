-- What a format makes of a whole list of words.
use Rattle.std.specs.Prelude.{ℕ, ◌⊎◌, ◌≡◌, Ok}
use mathlib.Core.List.{List, [], ◌∷◌, Memᴰ}
use Rattle.std.proofs.Common.{inl, inr, ap, arith}
use Rattle.refusals.specs.RefusalNumbers.{UnreadOnly, read, unread}
use Rattle.formats.specs.Taking.{Taken, reading_of}
use Rattle.formats.specs.Written.{Format, Outcome, took, turned}

module _ {fault : ℕ} {A : Type 0} (format : Format fault A) where
  pub read_is_written : (words : List ℕ) {a : A} → reading_of (format.take 0 words) ≡ Ok a → (rest : List ℕ) × format.Writes a words rest
  read_is_written words {a} = go (format.sound 0 words)
    where
      go : {t : Taken A} → Outcome fault format.Writes 0 words t → reading_of t ≡ Ok a → (rest : List ℕ) × format.Writes a words rest
      go (turned r number place) same = let z : ◌≡◌ {A = ℕ} 0 1 = cc in absurd (omega arith)
      go (took {a = b} {rest = rest} writes consumed) same = let b_is_a : b ≡ a = cc in (rest, rw b_is_a at writes)

  pub written_is_read : {words rest : List ℕ} {a : A} → format.Writes a words rest → reading_of (format.take 0 words) ≡ Ok a
  written_is_read writes = ap reading_of (format.complete 0 writes).1

  pub reading_refuses_2_3_fault : (words : List ℕ) → UnreadOnly (2 ∷ 3 ∷ fault ∷ []) (reading_of (format.take 0 words))
  reading_refuses_2_3_fault words = go (format.sound 0 words)
    where
      listed : {n : ℕ} → (n ≡ 2) ⊎ (n ≡ 3) ⊎ (n ≡ fault) → Memᴰ n (2 ∷ 3 ∷ fault ∷ [])
      listed (inl e) = Memᴰ.head e
      listed (inr (inl e)) = Memᴰ.tail (Memᴰ.head e)
      listed (inr (inr e)) = Memᴰ.tail (Memᴰ.tail (Memᴰ.head e))

      go : {t : Taken A} → Outcome fault format.Writes 0 words t → UnreadOnly (2 ∷ 3 ∷ fault ∷ []) (reading_of t)
      go (took {a = a} writes consumed) = read a
      go (turned r number place) = unread (listed number)
