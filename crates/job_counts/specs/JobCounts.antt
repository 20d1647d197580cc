-- (e) The count of one job, over the slots of its core's row from its release to the next: "The count of a job's slots goes
-- from its release towards the next and ends at the first slot too many, one from its due tick on included. It answers short,
-- right or over, and how many slots of the row it read: up to and with that one where over, else the whole period."
use Rattle.std.specs.Prelude.{ℕ, suc, ◌≤◌, ◌<◌, Bool, cond, ◌&&◌, ◌||◌, List, ◌⊎◌, ◌≡◌, leb, ltb, eqb, length, get_or}
use Rattle.laws.specs.Search.{first, count}
use Rattle.job_counts.specs.declared.CountKind.{CountKind}
use Rattle.job_counts.specs.declared.CountKind.TheVariants.{Short, Right, Over}
use Rattle.job_counts.specs.declared.Counted.{Counted}

-- a number for each answer
abbrev pub kind_number : CountKind → ℕ
kind_number Short = 0
kind_number Right = 1
kind_number Over = 2

-- how many of the first x slots hold the task's number
unfoldable pub slots_held : List ℕ → (number x : ℕ) → ℕ
slots_held slots number x = count (λ y. eqb (get_or slots y 0) number) x

-- whether slot x is one too many: the job has its ticks before it, or is due by then
unfoldable pub is_too_many : List ℕ → (number window ticks x : ℕ) → Bool
is_too_many slots number window ticks x = eqb (get_or slots x 0) number && (leb ticks (slots_held slots number x) || leb window x)

unfoldable pub count_job : List ℕ → (number window ticks : ℕ) → Counted
count_job slots number window ticks =
    let n = length slots in
    let x = first (is_too_many slots number window ticks) n in
    cond (ltb x n)
    (record { kind = Over; read = suc x })
    (record { kind = cond (ltb (slots_held slots number n) ticks) Short Right; read = n })

-- the same with no search. Slot x is one too many:
pub record TooMany (slots : List ℕ) (number window ticks x : ℕ) : Type 0 where
  pub is_slot : x < length slots
  pub its_number : get_or slots x 0 ≡ number
  pub too_many : (ticks ≤ slots_held slots number x) ⊎ (window ≤ x)

-- a job's number and slots read: none is too many and some are missing; none is too many and none is missing; slot x is the
-- first that is too many
pub data CountEnds (slots : List ℕ) (number window ticks : ℕ) : (kind read : ℕ) → Type 0 where
  short : ((x : ℕ) → TooMany slots number window ticks x → ⊥) → slots_held slots number (length slots) < ticks →
      CountEnds slots number window ticks 0 (length slots)
  right : ((x : ℕ) → TooMany slots number window ticks x → ⊥) → slots_held slots number (length slots) ≡ ticks →
      CountEnds slots number window ticks 1 (length slots)
  over : (x : ℕ) → TooMany slots number window ticks x → ((y : ℕ) → y < x → TooMany slots number window ticks y → ⊥) →
      CountEnds slots number window ticks 2 (suc x)

-- "its ticks in its window and no slot after"
pub record HasItsTicks (slots : List ℕ) (number window ticks : ℕ) : Type 0 where
  pub in_window : slots_held slots number window ≡ ticks
  pub none_after : (x : ℕ) → window ≤ x → x < length slots → get_or slots x 0 ≡ number → ⊥
