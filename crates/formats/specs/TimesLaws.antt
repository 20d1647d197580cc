-- What n values more are written in: one after the other.
use Prim.Native.Nat.{ℕ, zero, suc}
use mathlib.Core.List.{List, [], ◌∷◌, ◌++◌, append-nil, append_assoc}
use Rattle.std.specs.Prelude.{◌≡◌, refl, length}
use Rattle.std.proofs.Math.Path.{sym, ap}
use Rattle.formats.specs.Formats.{times}
use Rattle.formats.specs.Written.{Format, Written, nothing, then}

pub data Many {A : Type 0} (Each : List A → Written A) : List A → List A → List ℕ → List ℕ → Type 0 where
  none : {before : List A} {words : List ℕ} → Many Each before [] words words
  one : {before : List A} (a : A) {more : List A} {words middle rest : List ℕ} →
      Each before a words middle → Many Each (before ++ (a ∷ [])) more middle rest → Many Each before (a ∷ more) words rest

pub record TimesWritten {A : Type 0} (Each : List A → Written A) (n : ℕ) (before all : List A) (words rest : List ℕ) : Type 0 where
  pub more : List A
  pub are : all ≡ before ++ more
  pub count : length more ≡ n
  pub many : Many Each before more words rest

module _ {fault : ℕ} {A : Type 0} (each : List A → Format fault A) where
  abbrev Each : List A → Written A
  Each before = (each before).Writes

  pub times_written : (n : ℕ) (before : List A) {all : List A} {words rest : List ℕ} →
      (times each n before).Writes all words rest → TimesWritten Each n before all words rest
  unfolding times
  times_written zero before nothing = record { more = []; are = sym (append-nil before); count = refl; many = none }
  times_written (suc n) before (then {a} first others) =
      let rest = times_written n (before ++ (a ∷ [])) others in
      record {
        more = a ∷ rest.more;
        are = rw append_assoc at rest.are;
        count = ap suc rest.count;
        many = one a first rest.many;
      }

  pub many_written : {before more : List A} {words rest : List ℕ} →
      Many Each before more words rest → (times each (length more) before).Writes (before ++ more) words rest
  unfolding times
  many_written {before} none = rw append-nil nothing
  many_written {before} (one a {more} first others) =
      then first (rw append_assoc at (many_written others))
