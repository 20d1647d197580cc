-- Partners as the code holds them: of each item the index of a partner, or none.
use Rattle.std.specs.Prelude.{ℕ, suc, ◌≤◌, Bool, true, List, ◌≡◌, Option, Some, None, get_or, map}
use Rattle.std.proofs.Common.{◌∙◌, sym}
use Rattle.std.proofs.Math.ListN.{get_or-map}
use Rattle.lagrangian.specs.TimedCores.{timing_at}
use Rattle.lagrangian.specs.declared.Timed.{Timed}
use Rattle.timed_sets.specs.Exchange.{Partner}

-- the partner of item i, if it has one; for keys it is due no sooner
pub record PartnerOf (timed : Timed) (timings cost : List ℕ) (keyed : Bool) (i : ℕ) (partner : Option ℕ) : Type 0 where
  pub is_partner : (j : ℕ) → partner ≡ Some j → Partner timed timings cost j i
  pub no_sooner : keyed ≡ true → (j : ℕ) → partner ≡ Some j → (timing_at timings i).window ≤ (timing_at timings j).window

-- as numbers: 1 + the index, or 0
abbrev pub number_of : Option ℕ → ℕ
number_of None = 0
number_of (Some j) = suc j

abbrev pub numbers_of : List (Option ℕ) → List ℕ
numbers_of = map number_of

pub number_at : (partners : List (Option ℕ)) (i : ℕ) → get_or (numbers_of partners) i 0 ≡ number_of (get_or partners i None)
number_at partners i = get_or-map number_of partners i None

is_some : (o : Option ℕ) {j : ℕ} → number_of o ≡ suc j → o ≡ Some j
is_some None is = cc
is_some (Some k) is = cc

pub partner_at : (partners : List (Option ℕ)) (i : ℕ) {j : ℕ} → get_or (numbers_of partners) i 0 ≡ suc j → get_or partners i None ≡ Some j
partner_at partners i is = is_some (get_or partners i None) (sym (number_at partners i) ∙ is)
