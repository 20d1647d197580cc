-- The ways to put formats together, each with its proof that taking and writing agree.
use Rattle.std.specs.Prelude.{ℕ, zero, suc, Bool, List, [], ◌∷◌, ◌++◌, ◌≡◌}
use Rattle.refusals.specs.Refusals.{number_of, place_of}
use Rattle.refusals.specs.declared.Refusal.{Refusal}
use Rattle.formats.specs.Agreement.{done_sound, done_complete, then_sound, then_complete, word_sound, word_complete, tested_sound, tested_complete, unless_ended_sound, unless_ended_complete, end_sound, end_complete}
use Rattle.formats.specs.Taking.{taken, continue, between, take_word, take_tested, take_unless_ended, take_end}
use Rattle.formats.specs.Written.{Format, DoneWrites, ThenWrites, WordWrites, TestedWrites, UnlessEndedWrites, EndWrites}

module _ {fault : ℕ} where
  -- no word: the value is known
  abbrev pub done : {A : Type 0} → A → Format fault A
  done a = record { take = taken a; Writes = DoneWrites a; sound = done_sound a; complete = done_complete a }

  -- one after the other; the format of the second may depend on the first value
  infixl 10 ◌>>=◌
  abbrev pub ◌>>=◌ : {A B : Type 0} → Format fault A → (A → Format fault B) → Format fault B
  ◌>>=◌ first next =
      record {
        take = λ at words. continue (first.take at words) (λ a. (next a).take);
        Writes = ThenWrites first.Writes (λ a. (next a).Writes);
        sound = then_sound first.sound (λ a. (next a).sound);
        complete = then_complete first.complete (λ a. (next a).complete);
      }

  -- a word that passes a test
  abbrev pub passing : (ℕ → Bool) → Format fault ℕ
  passing passes =
      record { take = take_word passes; Writes = WordWrites passes; sound = word_sound passes; complete = word_complete passes }

  -- a word from `low` to `high`
  abbrev pub word : ℕ → ℕ → Format fault ℕ
  word low high = passing (between low high)

  -- a value that passes a test; where it does not, the place of `why` is the index at which the value begins
  abbrev pub tested : {A : Type 0} → Format fault A → (A → Bool) → (why : ℕ → Refusal) →
      ((at : ℕ) → place_of (why at) ≡ at) → ((at : ℕ) → number_of (why at) ≡ fault) → Format fault A
  tested format passes why place number =
      record {
        take = take_tested format.take passes why;
        Writes = TestedWrites format.Writes passes;
        sound = tested_sound passes why place number format.sound;
        complete = tested_complete passes why format.complete;
      }

  -- n values more, after those `before`; the format of each may depend on those before it
  unfoldable pub times : {A : Type 0} → (List A → Format fault A) → ℕ → List A → Format fault (List A)
  times each zero before = done before
  times each (suc n) before = each before >>= λ a. times each n (before ++ (a ∷ []))

  -- the list may end here: then the value is `absent`
  abbrev pub unless_ended : {A : Type 0} → A → Format fault A → Format fault A
  unless_ended absent format =
      record {
        take = take_unless_ended absent format.take;
        Writes = UnlessEndedWrites absent format.Writes;
        sound = unless_ended_sound absent format.sound;
        complete = unless_ended_complete absent format.complete;
      }

  -- nothing may follow
  abbrev pub end : Format fault (Unit {0})
  end = record { take = take_end; Writes = EndWrites; sound = end_sound; complete = end_complete }
