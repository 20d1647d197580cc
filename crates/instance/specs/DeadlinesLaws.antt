-- Code that takes the deadlines: how it begins, goes on and ends.
use Rattle.std.specs.Prelude.{ℕ, zero, suc, ◌+◌, ◌-◌, ◌≤◌, ◌<◌, Bool, false, ◌≢◌, ◌≡◌, length, take, set, replicate, get_or, drop, Result, Ok, Err}
use Rattle.std.proofs.Math.Path.{refl}
use Rattle.std.proofs.Common.{take_all, sym, ap, ◌∙◌, add-one, add-zero, arith, take-suc, take-suc-set, length-set, eq-eqb, ne_eqb}
use Rattle.std.proofs.Math.Seq.{take_at}
use Rattle.std.proofs.lemmas.List.{get_or-drop, drop_more, drop-set-lt, take-append-drop}
use mathlib.Core.List.{List, [], ◌∷◌, ◌++◌}
use Rattle.laws.specs.Lists.{padded}
use Rattle.laws.specs.PaddedLaws.{Filled}
use Rattle.ranges.specs.Limits
use Rattle.refusals.specs.declared.Refusal.{Refusal}
use Rattle.formats.specs.ReaderLaws.{first_refused, then_takes, takes_done, takes_other, present_taken}
use Rattle.formats.specs.Readers.{Left, Takes, mapped, is_ended}
use Rattle.formats.specs.Taking.{Taken, refused, taken, continue, take_word}
use Rattle.instance.specs.Node.{no_task}
use Rattle.instance.specs.Sections.{DeadlinesSoFar}
use Rattle.instance.specs.SiteFile.{with_deadline, with_deadlines, is_deadline_count, deadline_section, deadlines}
use Rattle.instance.specs.declared.Task.{Task}

-- the deadlines of one task more
module _ (t : Task) where
  abbrev one_more : List Task → ℕ → List ℕ → Taken (List Task)
  one_more due at words = continue ((with_deadline t).take at words) (λ d. taken (due ++ (d ∷ [])))

  abbrev after_one : Task → Taken (List Task) → Taken (List Task)
  after_one d r = continue r (λ others. taken (d ∷ others))

  one_more_after : (d : Task) (r : Taken (List Task)) → after_one d (continue r one_more) ≡ continue (after_one d r) one_more
  one_more_after d (refused r) = refl
  one_more_after d (taken due at words) = last ((with_deadline t).take at words)
    where
      last : (r : Taken Task) → after_one d (continue r (λ e. taken (due ++ (e ∷ [])))) ≡ continue r (λ e. taken (d ∷ due ++ (e ∷ [])))
      last (refused r) = refl
      last (taken e at words) = refl

  deadlines_of_more : (ts : List Task) (at : ℕ) (words : List ℕ) →
      (with_deadlines (ts ++ (t ∷ []))).take at words ≡ continue ((with_deadlines ts).take at words) one_more
  unfolding with_deadlines
  deadlines_of_more [] at words = refl
  deadlines_of_more (u ∷ ts) at words = go ((with_deadline u).take at words) (deadlines_of_more ts)
    where
      go : (r : Taken Task) →
          ((at : ℕ) (words : List ℕ) → (with_deadlines (ts ++ (t ∷ []))).take at words ≡ continue ((with_deadlines ts).take at words) one_more) →
          continue r (λ d at words. after_one d ((with_deadlines (ts ++ (t ∷ []))).take at words))
          ≡ continue (continue r (λ d at words. after_one d ((with_deadlines ts).take at words))) one_more
      go (refused r) others = refl
      go (taken d at words) others = rw (others at words) (one_more_after d ((with_deadlines ts).take at words))

pub deadlines_begin : (start : Left) (before : List Task) → DeadlinesSoFar start start before before 0
unfolding with_deadlines
deadlines_begin start before = record { same_length = refl; takes = takes_done []; others = refl }

-- where some are refused, all are
front_refused : (xs ys : List Task) (r : Refusal) (at : ℕ) (words : List ℕ) →
    (with_deadlines xs).take at words ≡ refused r → (with_deadlines (xs ++ ys)).take at words ≡ refused r
unfolding with_deadlines
front_refused [] ys r at words e = let z : ◌≡◌ {A = ℕ} 0 1 = cc in absurd (omega arith)
front_refused (x ∷ xs) ys r at words e = go ((with_deadline x).take at words) (front_refused xs ys r) e
  where
    Others : Type 0
    Others = (at : ℕ) (words : List ℕ) → (with_deadlines xs).take at words ≡ refused r → (with_deadlines (xs ++ ys)).take at words ≡ refused r

    after_refused : (d : Task) (t : Taken (List Task)) → after_one x d t ≡ refused r → t ≡ refused r
    after_refused d (refused q) e = e
    after_refused d (taken due next left) e = let z : ◌≡◌ {A = ℕ} 0 1 = cc in absurd (omega arith)

    go : (t : Taken Task) → Others → continue t (λ d at words. after_one x d ((with_deadlines xs).take at words)) ≡ refused r →
        continue t (λ d at words. after_one x d ((with_deadlines (xs ++ ys)).take at words)) ≡ refused r
    go (refused q) others e = e
    go (taken d at words) others e = rw (others at words (after_refused d ((with_deadlines xs).take at words) e)) refl

module _ {start now : Left} {before after : List Task} {i : ℕ} (so_far : DeadlinesSoFar start now before after i) where
  same_task : get_or after i no_task ≡ get_or before i no_task
  same_task =
      rw add-zero at (sym (get_or-drop i after 0 no_task) ∙ ap (λ (l : List Task). get_or l 0 no_task) so_far.others ∙ get_or-drop i before 0 no_task)

  one_more_dated : {result : Result Task Refusal} {left : Left} → i < length before →
      Takes now (with_deadline (get_or after i no_task)).take result left →
      Takes start (with_deadlines (take (i + 1) before)).take (mapped (λ t. take i after ++ (t ∷ [])) result) left
  one_more_dated {result = Err r} below one =
      rw (add-one i, take-suc before i no_task below)
      (takes_other _ (sym (deadlines_of_more (get_or before i no_task) (take i before) start.at start.words))
      (then_takes (one_more (get_or before i no_task)) so_far.takes (first_refused _ (rw same_task at one))))
  one_more_dated {result = Ok t} below one =
      rw (add-one i, take-suc before i no_task below)
      (takes_other _ (sym (deadlines_of_more (get_or before i no_task) (take i before) start.at start.words))
      (then_takes (one_more (get_or before i no_task)) so_far.takes (then_takes _ (rw same_task at one) (takes_done _))))

  pub deadlines_more : {t : Task} {left : Left} → i < length before → Takes now (with_deadline (get_or after i no_task)).take (Ok t) left →
      DeadlinesSoFar start left before (set after i t) (i + 1)
  deadlines_more {t} below one =
      let there : i < length after = omega (arith, so_far.same_length) in
      record {
        same_length = length-set after i t ∙ so_far.same_length;
        takes = rw (add-one i, take-suc-set after i t there, ← add-one i) (one_more_dated below one);
        others = go t there below;
      }
    where
      go : (t : Task) → i < length after → i < length before → drop (i + 1) (set after i t) ≡ drop (i + 1) before
      go t there below =
          let a = drop_more after i no_task there in
          let b = drop_more before i no_task below in
          drop-set-lt (i + 1) after i t (omega arith) ∙ ap (λ (l : List Task). drop 1 l) (sym a ∙ so_far.others ∙ b)

  pub deadlines_refused : {r : Refusal} {left end : Left} → i < length before →
      Takes now (with_deadline (get_or after i no_task)).take (Err r) left → Takes start (with_deadlines before).take (Err r) end
  deadlines_refused {r} below one =
      let front = front_refused (take (i + 1) before) (drop (i + 1) before) r start.at start.words (one_more_dated below one).leaves in
      record { leaves = rw take-append-drop at front }

  pub deadlines_end : length before ≤ i → Takes start (with_deadlines before).take (Ok after) now
  deadlines_end all =
      rw (take_all i before all, take_all i after (omega (arith, so_far.same_length))) at so_far.takes

-- the front of a filled array in other tasks
other_front : (n : ℕ) (xs ys : List Task) → length ys ≡ length xs → length xs ≤ n →
    ys ++ drop (length xs) (padded n no_task xs) ≡ padded n no_task ys
unfolding padded
other_front zero [] [] same few = refl
other_front zero [] (y ∷ ys) same few = absurd (omega (arith, same))
other_front zero (x ∷ xs) ys same few = absurd (omega arith)
other_front (suc n) [] [] same few = refl
other_front (suc n) [] (y ∷ ys) same few = absurd (omega (arith, same))
other_front (suc n) (x ∷ xs) [] same few = absurd (omega (arith, same))
other_front (suc n) (x ∷ xs) (y ∷ ys) same few = ap (λ (l : List Task). y ∷ l) (other_front n xs ys (omega (arith, same)) (omega arith))

pub dated_is_filled : {array : List Task} {count : ℕ} (due : List Task) → Filled Limits.most_tasks no_task array count →
    count ≤ Limits.most_tasks → length due ≡ count → Filled Limits.most_tasks no_task (due ++ drop count array) count
dated_is_filled {array} {count} due filled few same =
    let front : take count (due ++ drop count array) ≡ due = take_at due _ _ same in
    let put = other_front Limits.most_tasks (take count array) due (same ∙ sym filled.count) (omega (arith, filled.count)) in
    record {
      count = rw front same;
      is_padded = rw front (ap (λ (l : List Task). due ++ drop count l) filled.is_padded ∙ rw filled.count at put);
    }

-- the whole section, where the list goes on
module _ {start middle : Left} (ts : List Task) {n : ℕ} (counts : length ts ≡ n) (goes_on : is_ended start ≡ false) where
  pub no_count : {r : Refusal} {after : Left} → Takes start (take_word (is_deadline_count n)) (Err r) middle → Takes start (deadlines ts).take (Err r) after
  unfolding deadlines deadline_section
  no_count counted = present_taken ts _ goes_on (rw counts (first_refused _ counted))

  module _ {count : ℕ} (counted : Takes start (take_word (is_deadline_count n)) (Ok count) middle) where
    pub no_deadlines : count ≡ 0 → Takes start (deadlines ts).take (Ok ts) middle
    unfolding deadlines deadline_section
    no_deadlines none = present_taken ts _ goes_on (rw counts (then_takes _ counted (rw (eq-eqb count 0 none) (takes_done ts))))

    pub all_deadlines : {result : Result (List Task) Refusal} {after : Left} → count ≢ 0 → Takes middle (with_deadlines ts).take result after →
        Takes start (deadlines ts).take result after
    unfolding deadlines deadline_section
    all_deadlines some takes = present_taken ts _ goes_on (rw counts (then_takes _ counted (rw (ne_eqb count 0 some) takes)))
