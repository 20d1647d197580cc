-- For each way to put formats together: what is taken is what is written, and what is written is taken.
use Rattle.std.specs.Prelude.{ℕ, suc, ◌+◌, Bool, cond, ◌≡◌, length}
use Rattle.std.proofs.Math.Bool.{true, false}
use mathlib.Core.List.{List, [], ◌∷◌}
use Rattle.std.proofs.Common.{inl, inr, arith}
use Rattle.std.proofs.Math.Path.{refl}
use Rattle.refusals.specs.Refusals.{number_of, place_of}
use Rattle.refusals.specs.declared.Refusal.{Refusal}
use Rattle.refusals.specs.declared.Refusal.TheVariants.{WordCount, WordRange}
use Rattle.formats.specs.Taking.{Taken, refused, taken, Take, continue, take_word, take_tested, take_unless_ended, take_end}
use Rattle.formats.specs.Written.{Written, DoneWrites, nothing, ThenWrites, then, WordWrites, word, TestedWrites, tested, UnlessEndedWrites, goes_on, EndWrites, Consumed, none, one, Outcome, took, turned}
use Rattle.formats.specs.Written as Written

consumed_more : {at middle next : ℕ} {words left rest : List ℕ} →
    Consumed at words middle left → Consumed middle left next rest → Consumed at words next rest
consumed_more none more = more
consumed_more (one w first) more = one w (consumed_more first more)

pub consumed_count : {at next : ℕ} {words rest : List ℕ} → Consumed at words next rest → next + length rest ≡ at + length words
consumed_count none = refl
consumed_count (one w more) = omega (arith, consumed_count more)

abbrev Sound : ℕ → {A : Type 0} → Take A → Written A → Type 0
Sound fault take Writes = (at : ℕ) (words : List ℕ) → Outcome fault Writes at words (take at words)

abbrev Complete : {A : Type 0} → Take A → Written A → Type 0
Complete {A} take Writes = (at : ℕ) (a : A) (words rest : List ℕ) → Writes a words rest → (next : ℕ) × (take at words ≡ taken a next rest)

module _ {fault : ℕ} where
  pub done_sound : {A : Type 0} (a : A) → Sound fault (taken a) (DoneWrites a)
  done_sound a at words = took nothing none

  module _ {A B : Type 0} {next : A → Take B} {First : Written A} {Next : A → Written B} where
    then_outcome : {at : ℕ} {words : List ℕ} {t : Taken A} → Outcome fault First at words t → ((a : A) → Sound fault (next a) (Next a)) →
        Outcome fault (ThenWrites First Next) at words (continue t next)
    then_outcome (turned r number place) others = turned r number place
    then_outcome {at} {words} (took {a} {next = middle} {rest = left} writes consumed) others = joined (others a middle left)
      where
        joined : {t : Taken B} → Outcome fault (Next a) middle left t → Outcome fault (ThenWrites First Next) at words t
        joined (turned r number place) = turned r number (consumed_more consumed place)
        joined (took more after) = took (then writes more) (consumed_more consumed after)

    pub then_sound : {take : Take A} → Sound fault take First → ((a : A) → Sound fault (next a) (Next a)) →
        Sound fault (λ at words. continue (take at words) next) (ThenWrites First Next)
    then_sound first others at words = then_outcome (first at words) others

  pub word_sound : (passes : ℕ → Bool) → Sound fault (take_word passes) (WordWrites passes)
  unfolding take_word
  word_sound passes at [] = turned (WordCount at) (inl refl) none
  word_sound passes at (w ∷ words) = go (passes w) refl
    where
      go : (b : Bool) → passes w ≡ b → Outcome fault (WordWrites passes) at (w ∷ words) (cond b (taken w (suc at) words) (refused (WordRange at)))
      go true passed = took (word w passed) (one w none)
      go false failed = turned (WordRange at) (inr (inl refl)) none

  module _ {A : Type 0} {Writes : Written A} (passes : A → Bool) (why : ℕ → Refusal)
      (place : (at : ℕ) → place_of (why at) ≡ at) (number : (at : ℕ) → number_of (why at) ≡ fault) where
    tested_outcome : {at : ℕ} {words : List ℕ} {t : Taken A} → Outcome fault Writes at words t →
        Outcome fault (TestedWrites Writes passes) at words (continue t (λ a next rest. cond (passes a) (taken a next rest) (refused (why at))))
    tested_outcome (turned r other reached) = turned r other reached
    tested_outcome {at} {words} (took {a} {next} {rest} writes consumed) = go (passes a) refl
      where
        go : (b : Bool) → passes a ≡ b → Outcome fault (TestedWrites Writes passes) at words (cond b (taken a next rest) (refused (why at)))
        go true passed = took (tested writes passed) consumed
        go false failed = turned (why at) {rest = words} (inr (inr (number at))) (rw (place at) none)

    pub tested_sound : {take : Take A} → Sound fault take Writes → Sound fault (take_tested take passes why) (TestedWrites Writes passes)
    unfolding take_tested
    tested_sound sound at words = tested_outcome (sound at words)

  pub unless_ended_sound : {A : Type 0} (absent : A) {take : Take A} {Writes : Written A} →
      Sound fault take Writes → Sound fault (take_unless_ended absent take) (UnlessEndedWrites absent Writes)
  unfolding take_unless_ended
  unless_ended_sound absent sound at [] = took Written.UnlessEndedWrites.ended none
  unless_ended_sound {A} absent {take} {Writes} sound at (w ∷ words) = go (sound at (w ∷ words))
    where
      go : {t : Taken A} → Outcome fault Writes at (w ∷ words) t → Outcome fault (UnlessEndedWrites absent Writes) at (w ∷ words) t
      go (took writes consumed) = took (goes_on w writes) consumed
      go (turned r number place) = turned r number place

  pub end_sound : Sound fault take_end EndWrites
  unfolding take_end
  end_sound at [] = took Written.EndWrites.ended none
  end_sound at (w ∷ words) = turned (WordCount at) (inl refl) none

pub done_complete : {A : Type 0} (a : A) → Complete (taken a) (DoneWrites a)
done_complete a at _ _ _ nothing = (at, refl)

pub then_complete : {A B : Type 0} {take : Take A} {next : A → Take B} {First : Written A} {Next : A → Written B} →
    Complete take First → ((a : A) → Complete (next a) (Next a)) →
    Complete (λ at words. continue (take at words) next) (ThenWrites First Next)
then_complete first others at _ _ _ (then {a} writes more) =
    let start = first at _ _ _ writes in
    let last = others a start.0 _ _ _ more in
    (last.0, rw start.1 last.1)

pub word_complete : (passes : ℕ → Bool) → Complete (take_word passes) (WordWrites passes)
unfolding take_word
word_complete passes at _ _ _ (word w passed) = (suc at, rw passed)

pub tested_complete : {A : Type 0} {take : Take A} {Writes : Written A} (passes : A → Bool) (why : ℕ → Refusal) →
    Complete take Writes → Complete (take_tested take passes why) (TestedWrites Writes passes)
unfolding take_tested
tested_complete passes why complete at _ _ _ (tested writes passed) =
    let start = complete at _ _ _ writes in (start.0, rw (start.1, passed))

pub unless_ended_complete : {A : Type 0} (absent : A) {take : Take A} {Writes : Written A} →
    Complete take Writes → Complete (take_unless_ended absent take) (UnlessEndedWrites absent Writes)
unfolding take_unless_ended
unless_ended_complete absent complete at _ _ _ Written.UnlessEndedWrites.ended = (at, refl)
unless_ended_complete absent complete at _ _ _ (goes_on w writes) = complete at _ _ _ writes

pub end_complete : Complete take_end EndWrites
unfolding take_end
end_complete at _ _ _ Written.EndWrites.ended = (at, refl)
