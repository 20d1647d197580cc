-- What the count of a job answers, and how far it reads.
use Prim.Native.Nat.{ℕ, zero, suc, ◌+◌, ◌≤◌, ◌<◌}
use Rattle.std.specs.Prelude.{Bool, List, ◌↔◌, ◌≡◌, get_or, take}
use Rattle.std.proofs.Math.Bool.{true, false, cond}
use Rattle.std.proofs.Math.Logic.{inl, inr, ⊎_elim}
use Rattle.std.proofs.Math.Path.{refl}
use Rattle.std.proofs.Common.{sym, ap, ◌∙◌, le_refl, get_or-take, length-take-le}
use Rattle.std.proofs.Math.Nat.{le_step}
use native.Mathlib.Omega.{arith}
use Rattle.std.proofs.Math.Dec.{eqb, leb}
use Rattle.std.proofs.Math.ListN.{length}
use borrow.Author.Tests.{eqb-true, eq-eqb, leb-true, leb-false, le-leb, lt-leb, lt-ltb, le-ltb, ne_eqb}
use Rattle.laws.specs.Below.{lt_or_le}
use Rattle.laws.specs.CountLaws.{count_mono, count_of_front}
use Rattle.laws.specs.FirstLaws.{IsFirst, first_is_first}
use Rattle.laws.specs.Search.{first, count}
use Rattle.laws.specs.SearchFacts.{count_same}
use Rattle.laws.specs.Truth.{and_is_true, false_not_true, or_is_true}
use Rattle.job_counts.specs.JobCounts.{kind_number, slots_held, is_too_many, count_job, TooMany, CountEnds, HasItsTicks}
use Rattle.job_counts.specs.declared.CountKind.{CountKind}
use Rattle.job_counts.specs.declared.CountKind.TheVariants.{Short, Right, Over}
use Rattle.job_counts.specs.declared.Counted.{Counted}

kind_right : (k : CountKind) → kind_number k ≡ 1 → k ≡ Right
kind_right Short e = absurd (omega arith)
kind_right Right e = refl
kind_right Over e = absurd (omega arith)

kind_over : (k : CountKind) → kind_number k ≡ 2 → k ≡ Over
kind_over Short e = absurd (omega arith)
kind_over Right e = absurd (omega arith)
kind_over Over e = refl

module _ (slots : List ℕ) (number window ticks : ℕ) where
  abbrev held : ℕ → ℕ
  held = slots_held slots number

  pub too_many_iff : (x : ℕ) → x < length slots → (is_too_many slots number window ticks x ≡ true) ↔ TooMany slots number window ticks x
  unfolding is_too_many
  too_many_iff x l = (
    λ e.
        let both = (and_is_true _ _).0 e in
        record {
          is_slot = l;
          its_number = eqb-true _ _ both.0;
          too_many =
              ⊎_elim
              (λ (before : held x < ticks). inr (leb-true _ _ ((or_is_true _ _).0 both.1 (lt-leb _ _ before))))
              (λ (past : ticks ≤ held x). inl past)
              (lt_or_le (held x) ticks);
        },
    λ t.
        (and_is_true _ _).1 (
          eq-eqb _ _ t.its_number,
          (or_is_true _ _).1 (λ (not_yet : leb ticks (held x) ≡ false). ⊎_elim
              (λ past. absurd (omega (arith, leb-false ticks (held x) not_yet)))
              (λ due. le-leb _ _ due)
              t.too_many),
        ),
  )

  not_too_many : (x : ℕ) → x < length slots → is_too_many slots number window ticks x ≡ false → TooMany slots number window ticks x → ⊥
  not_too_many x l e t = false_not_true e ((too_many_iff x l).1 t)

  -- up to where none is too many, the job has no more than its ticks
  held_at_most : (n : ℕ) → n ≤ length slots → ((x : ℕ) → x < n → TooMany slots number window ticks x → ⊥) → held n ≤ ticks
  unfolding slots_held count
  held_at_most zero h none = omega arith
  held_at_most (suc n) h none = go (eqb (get_or slots n 0) number) refl (held_at_most n (omega arith) (λ x l. none x (le_step l)))
    where
      go : (b : Bool) → eqb (get_or slots n 0) number ≡ b → held n ≤ ticks → held n + cond b 1 0 ≤ ticks
      go true e before =
          ⊎_elim
          (λ (more : held n < ticks). omega arith)
          (λ past. absurd (none n (le_refl (suc n)) (record { is_slot = h; its_number = eqb-true _ _ e; too_many = inl past })))
          (lt_or_le (held n) ticks)
      go false e before = omega arith

  abbrev counted : Counted
  counted = count_job slots number window ticks

  pub count_ends : CountEnds slots number window ticks (kind_number counted.kind) counted.read
  unfolding count_job
  count_ends = ⊎_elim at_first none_found (lt_or_le x n)
    where
      n : ℕ
      n = length slots

      x : ℕ
      x = first (is_too_many slots number window ticks) n

      search : IsFirst (is_too_many slots number window ticks) n x
      search = first_is_first (is_too_many slots number window ticks) n

      at_first : x < n → CountEnds slots number window ticks (kind_number counted.kind) counted.read
      at_first l =
          rw (lt-ltb x n l)
          (CountEnds.over x ((too_many_iff x l).0 (search.passes_below l)) (λ y before. not_too_many y (omega arith) (search.none_below y before)))

      none_found : n ≤ x → CountEnds slots number window ticks (kind_number counted.kind) counted.read
      none_found past =
          let none : (y : ℕ) → TooMany slots number window ticks y → ⊥ =
          λ y t. not_too_many y t.is_slot (search.none_below y (omega (arith, t.is_slot))) t in
          ⊎_elim
          (λ (fewer : held n < ticks). rw (le-ltb x n past, lt-ltb (held n) ticks fewer) (CountEnds.short none fewer))
          (λ (enough : ticks ≤ held n).
          rw (le-ltb x n past, le-ltb (held n) ticks enough)
          (CountEnds.right none (omega (arith, held_at_most n (le_refl n) (λ y l. none y)))))
          (lt_or_le (held n) ticks)

  pub held_with_next : (x : ℕ) → get_or slots x 0 ≡ number → held (suc x) ≡ held x + 1
  unfolding slots_held count
  held_with_next x e = rw (eq-eqb (get_or slots x 0) number e) refl

  held_mono : (x y : ℕ) → x ≤ y → held x ≤ held y
  unfolding slots_held
  held_mono x y l = count_mono _ x y l

  module _ (within : window ≤ length slots) where
    held_in_window : ((x : ℕ) → window ≤ x → x < length slots → get_or slots x 0 ≡ number → ⊥) → held (length slots) ≡ held window
    unfolding slots_held
    held_in_window none = count_of_front _ window (length slots) within (λ x due l. ne_eqb _ _ (none x due l))

    none_too_many : HasItsTicks slots number window ticks → (x : ℕ) → TooMany slots number window ticks x → ⊥
    none_too_many has x t = ⊎_elim before late (lt_or_le x window)
      where
        late : window ≤ x → ⊥
        late due = has.none_after x due t.is_slot t.its_number

        before : x < window → ⊥
        before l =
            ⊎_elim
            (λ (enough : ticks ≤ held x). omega (arith, held_with_next x t.its_number, held_mono (suc x) window l, has.in_window))
            late
            t.too_many

    ends_right : {kind read : ℕ} → CountEnds slots number window ticks kind read → (kind ≡ 1) ↔ HasItsTicks slots number window ticks
    ends_right (CountEnds.short none fewer) = (
      λ e. absurd (omega arith),
      λ has. absurd (omega (arith, has.in_window, held_in_window has.none_after)),
    )
    ends_right (CountEnds.right none same) = (
      λ e.
          let none_after : (x : ℕ) → window ≤ x → x < length slots → get_or slots x 0 ≡ number → ⊥ =
          λ x due l shown. none x (record { is_slot = l; its_number = shown; too_many = inr due }) in
          record { in_window = sym (held_in_window none_after) ∙ same; none_after = none_after },
      λ has. refl,
    )
    ends_right (CountEnds.over x t first) = (λ e. absurd (omega arith), λ has. absurd (none_too_many has x t))

    -- right: the job has its ticks in its window, and no slot after it
    pub right_iff : (counted.kind ≡ Right) ↔ HasItsTicks slots number window ticks
    right_iff = (
      λ e. (ends_right count_ends).0 (ap kind_number e),
      λ has. kind_right counted.kind ((ends_right count_ends).1 has),
    )

  ends_over : {kind read : ℕ} → CountEnds slots number window ticks kind read → (kind ≡ 2) ↔ ((x : ℕ) × TooMany slots number window ticks x)
  ends_over (CountEnds.short none fewer) = (λ e. absurd (omega arith), λ some. absurd (none some.0 some.1))
  ends_over (CountEnds.right none same) = (λ e. absurd (omega arith), λ some. absurd (none some.0 some.1))
  ends_over (CountEnds.over x t first) = (λ e. (x, t), λ some. refl)

  -- over: some slot is too many, also where the job is short in its window
  pub over_iff : (counted.kind ≡ Over) ↔ ((x : ℕ) × TooMany slots number window ticks x)
  over_iff = (
    λ e. (ends_over count_ends).0 (ap kind_number e),
    λ some. kind_over counted.kind ((ends_over count_ends).1 some),
  )

  ends_whole : {kind read : ℕ} → CountEnds slots number window ticks kind read → (kind ≡ 2 → ⊥) → read ≡ length slots
  ends_whole (CountEnds.short none fewer) other = refl
  ends_whole (CountEnds.right none same) other = refl
  ends_whole (CountEnds.over x t first) other = absurd (other refl)

  -- where it is not over, all slots are read
  pub reads_all_unless_over : (counted.kind ≡ Over → ⊥) → counted.read ≡ length slots
  reads_all_unless_over other = ends_whole count_ends (λ e. other (kind_over counted.kind e))

  ends_first : {kind read : ℕ} → CountEnds slots number window ticks kind read → kind ≡ 2 →
      (x : ℕ) × TooMany slots number window ticks x × (read ≡ suc x) × ((y : ℕ) → TooMany slots number window ticks y → x ≤ y)
  ends_first (CountEnds.short none fewer) e = absurd (omega arith)
  ends_first (CountEnds.right none same) e = absurd (omega arith)
  ends_first (CountEnds.over x t first) e =
      (x, t, refl, λ y u. ⊎_elim (λ before. absurd (first y before u)) (λ (h : x ≤ y). h) (lt_or_le y x))

module _ (slots : List ℕ) (number window ticks m : ℕ) (short : m ≤ length slots) where
  held_in_front : (x : ℕ) → x ≤ m → slots_held (take m slots) number x ≡ slots_held slots number x
  unfolding slots_held
  held_in_front x l = count_same _ _ x (λ y h. rw (get_or-take m slots y 0 (omega arith)) refl)

  too_many_in_front : (x : ℕ) → TooMany (take m slots) number window ticks x ↔ ((x < m) × TooMany slots number window ticks x)
  too_many_in_front x = (
    λ t.
        let l : x < m = rw (length-take-le m slots short) at t.is_slot in (
          l,
          record {
            is_slot = omega arith;
            its_number = rw (get_or-take m slots x 0 l) at t.its_number;
            too_many = rw (held_in_front x (omega arith)) at t.too_many;
          },
        ),
    λ both.
        let l = both.0 in
        let t = both.1 in
        record {
          is_slot = rw (length-take-le m slots short) l;
          its_number = rw (get_or-take m slots x 0 l) t.its_number;
          too_many = rw (held_in_front x (omega arith)) t.too_many;
        },
  )

  -- where it is over, the slots that were read show it, and no fewer
  pub over_in_front_iff_read : (count_job slots number window ticks).kind ≡ Over →
      ((count_job (take m slots) number window ticks).kind ≡ Over) ↔ ((count_job slots number window ticks).read ≤ m)
  over_in_front_iff_read over =
      let first = ends_first slots number window ticks (count_ends slots number window ticks) (ap kind_number over) in
      let x = first.0 in
      let read : (count_job slots number window ticks).read ≡ suc x = first.2 in (
        λ e.
            let some = (over_iff (take m slots) number window ticks).0 e in
            let both = (too_many_in_front some.0).0 some.1 in
            omega (arith, first.3 some.0 both.1, both.0),
        λ l. (over_iff (take m slots) number window ticks).1 (x, (too_many_in_front x).1 (omega arith, first.1)),
      )
