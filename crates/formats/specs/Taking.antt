-- Taking words from the front of a list. Of the paper's section 'Refused input' the rows 2 and 3: "words are taken from
-- the front, each tested".
use Rattle.std.specs.Prelude.{ℕ, suc, Bool, cond, ◌&&◌, List, [], ◌∷◌, leb, Ok, Err}
use Rattle.refusals.specs.Refusals.{Reading}
use Rattle.refusals.specs.declared.Refusal.{Refusal}
use Rattle.refusals.specs.declared.Refusal.TheVariants.{WordCount, WordRange}

-- what taking words gives: a refusal, or what they make, the index of the next word and the words from there on
pub data Taken (A : Type 0) : Type 0 where
  refused : Refusal → Taken A
  taken : A → ℕ → List ℕ → Taken A

-- the same without the words that are left
abbrev pub reading_of : {A : Type 0} → Taken A → Reading A
reading_of (refused r) = Err r
reading_of (taken a at words) = Ok a

-- a way to take words: from the index of the next word, and the words from there on
abbrev pub Take : Type 0 → Type 0
Take A = ℕ → List ℕ → Taken A

abbrev pub continue : {A B : Type 0} → Taken A → (A → Take B) → Taken B
continue (refused r) next = refused r
continue (taken a at words) next = next a at words

unfoldable pub between : ℕ → ℕ → ℕ → Bool
between low high w = leb low w && leb w high

-- one word that passes the test: 2 where it is missing, 3 where it fails
unfoldable pub take_word : (ℕ → Bool) → Take ℕ
take_word passes at [] = refused (WordCount at)
take_word passes at (w ∷ words) = cond (passes w) (taken w (suc at) words) (refused (WordRange at))

-- a value that must pass a test: where it fails, `why` of the index at which it begins
unfoldable pub take_tested : {A : Type 0} → Take A → (A → Bool) → (ℕ → Refusal) → Take A
take_tested take passes why at words =
    continue (take at words) (λ a next rest. cond (passes a) (taken a next rest) (refused (why at)))

-- "the list ends": there `absent` is taken
unfoldable pub take_unless_ended : {A : Type 0} → A → Take A → Take A
take_unless_ended absent take at [] = taken absent at []
take_unless_ended absent take at (w ∷ words) = take at (w ∷ words)

-- "has words left over": nothing may follow
unfoldable pub take_end : Take (Unit {0})
take_end at [] = taken tt at []
take_end at (w ∷ words) = refused (WordCount at)
