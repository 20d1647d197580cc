-- One call of the dispatcher, task by task.
use Rattle.std.specs.Prelude.{ℕ, suc, pred, ◌%◌, ◌≤◌, ◌<◌, Bool, true, false, cond, ◌&&◌, ◌⊎◌, ◌≡◌, refl, eqb, length, get_or}
use Rattle.std.proofs.Common.{inl, inr, sym, ap₂, ◌∙◌, le_refl, le_trans, arith, eq-eqb, eqb-true, ne_eqb}
use Rattle.std.proofs.Math.Path.{ap}
use Rattle.laws.specs.JoinedLaws.{length-list_of, get_d-list_of, list_of-same}
use Rattle.dispatch.specs.Calls.{after_end, ended_early, wrapped, call}
use Rattle.dispatch.specs.Earliest.{Choice, earliest_cong, earliest_is_choice}
use Rattle.dispatch.specs.Rows.{CoreTasks, Dispatch, due_at, after_release, after_run, earliest, chosen, step}

pub after_end-le : (reported : Bool) (last i left : ℕ) → after_end reported last i left ≤ left
unfolding after_end
after_end-le reported last i left = go (reported && eqb (suc i) last)
  where
    go : (ends : Bool) → cond ends 0 left ≤ left
    go true = omega arith
    go false = le_refl left

pub after_end-other : (reported : Bool) (last i left : ℕ) → (suc i ≡ last → ⊥) → after_end reported last i left ≡ left
unfolding after_end
after_end-other true last i left differs = rw (ne_eqb (suc i) last differs)
after_end-other false last i left differs = refl

-- the job that ran in the tick before is reported ended and has nothing left, or nothing changes
pub after_end-cases : (reported : Bool) (last i left : ℕ) →
    ((reported ≡ true) × (last ≡ suc i) × (after_end reported last i left ≡ 0)) ⊎ (after_end reported last i left ≡ left)
unfolding after_end
after_end-cases false last i left = inr refl
after_end-cases true last i left = go (eqb (suc i) last) refl
  where
    go : (ran : Bool) → eqb (suc i) last ≡ ran → ((true ≡ true) × (last ≡ suc i) × (cond ran 0 left ≡ 0)) ⊎ (cond ran 0 left ≡ left)
    go true e = inl (refl, sym (eqb-true (suc i) last e), refl)
    go false e = inr refl

-- the job that ran and is reported ended has nothing left
pub after_end-reported : (i left : ℕ) → after_end true (suc i) i left ≡ 0
unfolding after_end
after_end-reported i left = rw (eq-eqb (suc i) (suc i) refl) refl

-- a report changes nothing where that job has nothing left
pub after_end-without_effect : (last : ℕ) (left : ℕ → ℕ) → left (pred last) ≡ 0 → (i : ℕ) → after_end true last i (left i) ≡ left i
after_end-without_effect last left none i = go (after_end-cases true last i (left i))
  where
    go : ((true ≡ true) × (last ≡ suc i) × (after_end true last i (left i) ≡ 0)) ⊎ (after_end true last i (left i) ≡ left i) →
        after_end true last i (left i) ≡ left i
    go (inl (reported, ran, ends)) = ends ∙ sym (rw ran at none)
    go (inr same) = same

-- the ticks left of task i when a call chooses: an early end is applied, then the jobs of the tick are released
unfoldable pub ready_for : CoreTasks → Bool → Dispatch → ℕ → ℕ
ready_for core reported s i = after_release core s.tick i (after_end reported s.last i (get_or s.left i 0))

-- a task that has no more left than a job of it has, never gets more
pub ready_for_at_most : (core : CoreTasks) (reported : Bool) (s : Dispatch) (i : ℕ) → get_or s.left i 0 ≤ core.ticks i →
    ready_for core reported s i ≤ core.ticks i
unfolding ready_for after_release
ready_for_at_most core reported s i within = go (eqb (s.tick % core.period i) 0)
  where
    go : (releases : Bool) → cond releases (core.ticks i) (after_end reported s.last i (get_or s.left i 0)) ≤ core.ticks i
    go true = le_refl (core.ticks i)
    go false = le_trans (after_end-le reported s.last i (get_or s.left i 0)) within

module _ (core : CoreTasks) (span : ℕ) (reported : Bool) (s : Dispatch) where
  abbrev ended : ℕ → ℕ
  ended i = get_or (ended_early core reported s).left i 0

  ended_left : (i : ℕ) → i < core.size → ended i ≡ after_end reported s.last i (get_or s.left i 0)
  unfolding ended_early
  ended_left i l = get_d-list_of (λ i. after_end reported s.last i (get_or s.left i 0)) core.size i 0 l

  ready_for_lem : (i : ℕ) → i < core.size → after_release core s.tick i (ended i) ≡ ready_for core reported s i
  unfolding ready_for
  ready_for_lem i l = ap (after_release core s.tick i) (ended_left i l)

  -- the earliest due of the tasks that have ticks left
  pub call_answers_earliest : (call core span reported s).last ≡ earliest (due_at core s.tick) (ready_for core reported s) core.size
  unfolding call wrapped step chosen ended_early
  call_answers_earliest = earliest_cong _ _ (due_at core s.tick) (ready_for core reported s) core.size ready_for_lem (λ i l has. refl)

  pub call_answers_choice : Choice (due_at core s.tick) (ready_for core reported s) core.size (call core span reported s).last
  call_answers_choice = rw call_answers_earliest (earliest_is_choice (due_at core s.tick) (ready_for core reported s) core.size)

  pub call_leaves : (i : ℕ) → i < core.size →
      get_or (call core span reported s).left i 0 ≡ after_run (call core span reported s).last i (ready_for core reported s i)
  unfolding call wrapped step ended_early
  call_leaves i l =
      let number = (call core span reported s).last in
      get_d-list_of (λ i. after_run number i (after_release core s.tick i (ended i))) core.size i 0 l ∙ ap (after_run number i) (ready_for_lem i l)

  pub call_has_length : length (call core span reported s).left ≡ core.size
  unfolding call wrapped step
  call_has_length = length-list_of _ core.size

-- a call reads no more of a state than its tick, its last task and what the core's tasks have left
pub call_same : (core : CoreTasks) (span : ℕ) (reported : Bool) (s s₂ : Dispatch) → s.tick ≡ s₂.tick → s.last ≡ s₂.last →
    ((i : ℕ) → i < core.size → get_or s.left i 0 ≡ get_or s₂.left i 0) → call core span reported s ≡ call core span reported s₂
unfolding call ended_early
call_same core span reported s s₂ tick last left =
    let lists =
    list_of-same (λ i. after_end reported s.last i (get_or s.left i 0)) (λ i. after_end reported s₂.last i (get_or s₂.left i 0)) core.size
    (λ i l. ap₂ (λ (number before : ℕ). after_end reported number i before) last (left i l)) in
    let same : ended_early core reported s ≡ ended_early core reported s₂ = λ i. record { tick = tick i; left = lists i; last = last i } in
    ap (λ (d : Dispatch). wrapped span (step core d)) same

-- "has no effect if that job had its full ticks"
pub report_without_effect : (core : CoreTasks) (span : ℕ) (s : Dispatch) → get_or s.left (pred s.last) 0 ≡ 0 →
    call core span true s ≡ call core span false s
unfolding call ended_early after_end
report_without_effect core span s none =
    let lists =
    list_of-same (λ i. after_end true s.last i (get_or s.left i 0)) (λ i. after_end false s.last i (get_or s.left i 0)) core.size
    (λ i l. after_end-without_effect s.last (λ i. get_or s.left i 0) none i) in
    let same : ended_early core true s ≡ ended_early core false s = λ i. record { tick = s.tick; left = lists i; last = s.last } in
    ap (λ (d : Dispatch). wrapped span (step core d)) same
