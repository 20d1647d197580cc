-- The invariant of earliest deadline first: by no tick b that is still to come are more ticks owed than there are ticks
-- left up to b. It holds the more where less is left, so that a job which ends early does no harm.
use Rattle.std.specs.Prelude.{ℕ, suc, ◌+◌, ◌-◌, ◌*◌, ◌/◌, ◌≤◌, ◌<◌, Bool, true, false, cond, ◌≡◌, leb}
use Rattle.std.proofs.Common.{zero-le, le_refl, le-leb}
use native.Mathlib.Omega.{arith}
use Rattle.std.proofs.lemmas.Bool.{lt-leb}
use Rattle.laws.specs.Sums.{sum}
use Rattle.laws.specs.SumLaws.{sum_mono, term_le_sum}
use Rattle.edf.specs.Demand.{jobs_due}
use Rattle.dispatch.specs.Rows.{CoreTasks, due_at}

-- the ticks left of a job if it is due by tick b
unfoldable pub left_by : (b due left : ℕ) → ℕ
left_by b due left = cond (leb due b) left 0

-- how many jobs of task i are released after tick t and due by tick b
unfoldable pub later_jobs : CoreTasks → ℕ → ℕ → ℕ → ℕ
later_jobs core t b i = jobs_due core i b - suc (t / core.period i)

-- what task i must still get by tick b, where `left` are the ticks left of the jobs that were released last by tick t
unfoldable pub owed : CoreTasks → ℕ → (ℕ → ℕ) → ℕ → ℕ → ℕ
owed core t left b i = left_by b (due_at core t i) (left i) + core.ticks i * later_jobs core t b i

abbrev pub ahead : CoreTasks → ℕ → (ℕ → ℕ) → ℕ → ℕ
ahead core t left b = sum (owed core t left b) core.size

-- with `now` ticks past: t of them before the run of tick t, suc t after it
pub record OnTime (core : CoreTasks) (t now : ℕ) (left : ℕ → ℕ) : Type 0 where
  pub room_by : (b : ℕ) → now ≤ b → ahead core t left b + now ≤ b

pub left_by-due : (b due x : ℕ) → due ≤ b → left_by b due x ≡ x
unfolding left_by
left_by-due b due x h = rw (le-leb due b h)

pub left_by-later : (b due x : ℕ) → b < due → left_by b due x ≡ 0
unfolding left_by
left_by-later b due x h = rw (lt-leb due b h)

pub left_by-le : (b due x : ℕ) → left_by b due x ≤ x
unfolding left_by
left_by-le b due x = go (leb due b)
  where
    go : (c : Bool) → cond c x 0 ≤ x
    go true = le_refl x
    go false = zero-le

left_by-mono : (b due x y : ℕ) → x ≤ y → left_by b due x ≤ left_by b due y
unfolding left_by
left_by-mono b due x y h = go (leb due b)
  where
    go : (c : Bool) → cond c x 0 ≤ cond c y 0
    go true = h
    go false = zero-le

module _ (core : CoreTasks) where
  pub owed_mono : (t b i : ℕ) (left left₂ : ℕ → ℕ) → left₂ i ≤ left i → owed core t left₂ b i ≤ owed core t left b i
  unfolding owed
  owed_mono t b i left left₂ h = omega (arith, left_by-mono b (due_at core t i) (left₂ i) (left i) h)

  pub on_time_owing_no_more : (t t₂ now : ℕ) (left left₂ : ℕ → ℕ) →
      ((b i : ℕ) → i < core.size → owed core t₂ left₂ b i ≤ owed core t left b i) →
      OnTime core t now left → OnTime core t₂ now left₂
  on_time_owing_no_more t t₂ now left left₂ no_more on_time =
      record {
        room_by = λ b h.
            omega (arith, on_time.room_by b h, sum_mono (owed core t₂ left₂ b) (owed core t left b) core.size (no_more b));
      }

  pub on_time_with_less_left : (t now : ℕ) (left left₂ : ℕ → ℕ) → ((i : ℕ) → i < core.size → left₂ i ≤ left i) →
      OnTime core t now left → OnTime core t now left₂
  on_time_with_less_left t now left left₂ less =
      on_time_owing_no_more t t now left left₂ (λ b i l. owed_mono t b i left left₂ (less i l))

  -- a job that is due by now has nothing left
  pub done_when_due : (t now i : ℕ) (left : ℕ → ℕ) → OnTime core t now left → i < core.size → due_at core t i ≤ now → left i ≡ 0
  unfolding owed
  done_when_due t now i left on_time l due =
      omega (
        arith,
        on_time.room_by now (le_refl now),
        term_le_sum (owed core t left now) core.size i l,
        left_by-due now (due_at core t i) (left i) due,
      )
