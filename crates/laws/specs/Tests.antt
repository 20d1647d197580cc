-- What the answer of a test decides.
use Rattle.std.specs.Prelude.{◌≡◌, refl, Bool, true, false, not}
use Rattle.laws.specs.Truth.{false_not_true}

abbrev pub Decides : Bool → Type 0 → Type 0
Decides true P = P
Decides false P = ¬ P

pub decides_no : {P : Type 0} (answer : Bool) → not answer ≡ true → Decides answer P → ¬ P
decides_no true e holds = absurd (false_not_true refl e)
decides_no false e refuted = refuted

pub decides_yes : {P : Type 0} (answer : Bool) → not answer ≡ false → Decides answer P → P
decides_yes true e holds = holds
decides_yes false e refuted = absurd (false_not_true e refl)
