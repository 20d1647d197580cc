-- The levels: what is taken rises, is in range and is written so; and what rises and is in range is taken.
use Rattle.std.specs.Prelude.{ℕ, zero, suc, ◌<◌, ◌≡◌, refl, List, [], ◌∷◌, ◌++◌, length, get_or}
use Rattle.std.proofs.Common.{le_of_suc-le-suc, arith}
use Rattle.ranges.specs.Limits
use Rattle.formats.specs.TimesLaws.{Many}
use Rattle.formats.specs.TimesLaws as TimesLaws
use Rattle.formats.specs.Written.{Written, then, nothing}
use Rattle.formats.specs.Written as Written
use Rattle.instance.specs.Node.{Problem, no_level}
use Rattle.instance.specs.RangeLaws.{between_in_range, in_range_between}
use Rattle.instance.specs.SiteFile.{level, last_after}
use Rattle.instance.specs.Valid.{InRange, Valid, words_of_levels}
use Rattle.instance.specs.declared.Level.{Level}

-- a quantity of the levels rises from above `before` to at most `most`
pub data Rising (quantity : Level → ℕ) (most : ℕ) : ℕ → List Level → Type 0 where
  none : {before : ℕ} → Rising quantity most before []
  one : {before : ℕ} (l : Level) {ls : List Level} →
      InRange (suc before) most (quantity l) → Rising quantity most (quantity l) ls → Rising quantity most before (l ∷ ls)

module _ {quantity : Level → ℕ} {most : ℕ} where
  pub rising_in_range : {before : ℕ} {ls : List Level} → Rising quantity most before ls →
      (i : ℕ) → i < length ls → InRange (suc before) most (quantity (get_or ls i no_level))
  rising_in_range none i l = absurd (omega arith)
  rising_in_range (one level here above) zero l = here
  rising_in_range (one level here above) (suc i) l =
      let there = rising_in_range above i (le_of_suc-le-suc l) in omega arith

  pub rising_rises : {before : ℕ} {ls : List Level} → Rising quantity most before ls →
      (i j : ℕ) → i < j → j < length ls → quantity (get_or ls i no_level) < quantity (get_or ls j no_level)
  rising_rises none i j less l = absurd (omega arith)
  rising_rises (one level here above) zero zero less l = absurd (omega arith)
  rising_rises (one level here above) zero (suc j) less l = (rising_in_range above j (le_of_suc-le-suc l)).at_least
  rising_rises (one level here above) (suc i) zero less l = absurd (omega arith)
  rising_rises (one level here above) (suc i) (suc j) less l = rising_rises above i j (le_of_suc-le-suc less) (le_of_suc-le-suc l)

  -- what Valid says of a quantity, level by level and from neighbour to neighbour, makes it rise
  pub rising_from : (before : ℕ) (ls : List Level) →
      ((i : ℕ) → i < length ls → InRange 1 most (quantity (get_or ls i no_level))) →
      ((i : ℕ) → suc i < length ls → quantity (get_or ls i no_level) < quantity (get_or ls (suc i) no_level)) →
      (0 < length ls → before < quantity (get_or ls 0 no_level)) →
      Rising quantity most before ls
  rising_from before [] in_range rises starts = none
  rising_from before (l ∷ ls) in_range rises starts =
      one
      l
      (record { at_least = starts (omega arith); at_most = (in_range 0 (omega arith)).at_most })
      (rising_from
      (quantity l)
      ls
      (λ i below. in_range (suc i) (omega arith))
      (λ i below. rises (suc i) (omega arith))
      (λ below. rises 0 (omega arith)))

abbrev pub speed : Level → ℕ
speed l = l.speed

abbrev pub power : Level → ℕ
power l = l.power

-- the levels that come after those `before`
abbrev pub EachLevel : List Level → Written Level
EachLevel before = (level (last_after no_level before)).Writes

pub record LevelsRise (before : Level) (ls : List Level) : Type 0 where
  pub speed_rises : Rising speed Limits.most_speed before.speed ls
  pub power_rises : Rising power Limits.most_power before.power ls

pub last_of_more : (first : Level) (before : List Level) (l : Level) → last_after first (before ++ (l ∷ [])) ≡ l
unfolding last_after
last_of_more first [] l = refl
last_of_more first (b ∷ before) l = last_of_more b before l

pub levels_rise : {before ls : List Level} {words rest : List ℕ} → Many EachLevel before ls words rest →
    LevelsRise (last_after no_level before) ls × (words ≡ words_of_levels ls ++ rest)
unfolding level words_of_levels
levels_rise TimesLaws.none = (record { speed_rises = none; power_rises = none }, refl)
levels_rise {before} (TimesLaws.one l (then (Written.word s s_passes) (then (Written.word w w_passes) nothing)) others) =
    let more = levels_rise others in
    let rises = rw (last_of_more no_level before l) at more.0 in (
      record {
        speed_rises = one l (between_in_range s_passes) rises.speed_rises;
        power_rises = one l (between_in_range w_passes) rises.power_rises;
      },
      rw more.1,
    )

pub rising_levels : (before ls : List Level) (rest : List ℕ) →
    Rising speed Limits.most_speed (last_after no_level before).speed ls → Rising power Limits.most_power (last_after no_level before).power ls →
    Many EachLevel before ls (words_of_levels ls ++ rest) rest
unfolding level words_of_levels
rising_levels before [] rest none none = TimesLaws.none
rising_levels before (l ∷ ls) rest (one _ speed_in more_speed) (one _ power_in more_power) =
    TimesLaws.one l
    (then (Written.word l.speed (in_range_between speed_in)) (then (Written.word l.power (in_range_between power_in)) nothing))
    (rising_levels (before ++ (l ∷ [])) ls rest (rw last_of_more more_speed) (rw last_of_more more_power))

module _ {p : Problem} (v : Valid p) where
  pub valid_speeds : Rising speed Limits.most_speed 0 p.levels
  valid_speeds =
      rising_from
      0
      p.levels
      (λ l below. (v.level l below).speed)
      v.speed_rises
      (λ below. (v.level 0 below).speed.at_least)

  pub valid_powers : Rising power Limits.most_power 0 p.levels
  valid_powers =
      rising_from
      0
      p.levels
      (λ l below. (v.level l below).power)
      v.power_rises
      (λ below. (v.level 0 below).power.at_least)
