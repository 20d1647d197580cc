-- The words of the settings: three of them where idle power and start ticks are 0, four where start ticks are, or five.
use Rattle.std.specs.Prelude.{ℕ, ◌≤◌, ◌<◌, Bool, true, false, cond, List, ◌∷◌, ◌++◌, ◌≡◌, refl, leb}
use Rattle.std.proofs.Common.{arith, leb-true, leb-false, le-leb}
use Rattle.std.proofs.lemmas.Bool.{lt-leb}
use Rattle.ranges.specs.Limits
use Rattle.formats.specs.Formats.{done, word}
use Rattle.formats.specs.Written.{then, nothing}
use Rattle.formats.specs.Written as Written
use Rattle.instance.specs.Node.{Problem}
use Rattle.instance.specs.RangeLaws.{between_in_range, in_range_between}
use Rattle.instance.specs.declared.site.Settings.{Settings}
use Rattle.instance.specs.SiteFile.{SiteFormat, setting_from, settings}
use Rattle.instance.specs.Valid.{InRange, Valid, WritesSettings, three, four, five}

-- a setting of value v, after a count, in the words up to `rest`
pub data SettingWritten (from most v : ℕ) (rest : List ℕ) (count : ℕ) : List ℕ → Type 0 where
  absent : count < from → v ≡ 0 → SettingWritten from most v rest count rest
  given : from ≤ count → v ≤ most → SettingWritten from most v rest count (v ∷ rest)

pub setting_written : (from most count : ℕ) {v : ℕ} {words rest : List ℕ} → (setting_from from most count).Writes v words rest →
    SettingWritten from most v rest count words
unfolding setting_from
setting_written from most count = go (leb from count) refl
  where
    either : Bool → SiteFormat ℕ
    either b = cond b (word 0 most) (done 0)

    go : (b : Bool) {v : ℕ} {words rest : List ℕ} → leb from count ≡ b → (either b).Writes v words rest → SettingWritten from most v rest count words
    go true e (Written.word w passes) = given (leb-true from count e) (between_in_range passes).at_most
    go false e nothing = absent (leb-false from count e) refl

pub written_setting : (from most count : ℕ) {v : ℕ} {words rest : List ℕ} → SettingWritten from most v rest count words →
    (setting_from from most count).Writes v words rest
unfolding setting_from
written_setting from most count {v} (absent fewer none) = rw (lt-leb from count fewer, none) nothing
written_setting from most count {v} (given enough within) =
    rw (le-leb from count enough) (Written.word v (in_range_between (record { at_least = omega arith; at_most = within })))

pub setting_at_most : {from most v count : ℕ} {words rest : List ℕ} → SettingWritten from most v rest count words → v ≤ most
setting_at_most (absent fewer none) = omega arith
setting_at_most (given enough within) = within

abbrev settings_of : Problem → Settings
settings_of p = record { weights = p.weights; cores = p.cores; idle = p.idle; start = p.start }

pub settings_written : {p : Problem} {front : List ℕ} → Valid p → WritesSettings p front → (rest : List ℕ) →
    settings.Writes (settings_of p) (front ++ rest) rest
unfolding settings
settings_written {p} v writes rest = go writes
  where
    common : (count : ℕ) {words middle : List ℕ} → InRange Limits.settings_without_idle Limits.settings_with_start count →
        SettingWritten Limits.settings_with_idle Limits.most_idle_power p.idle middle count words →
        SettingWritten Limits.settings_with_start Limits.most_start_ticks p.start rest count middle →
        settings.Writes (settings_of p) (count ∷ p.weights.energy ∷ p.weights.penalty ∷ p.cores ∷ words) rest
    common count range idle start =
        then (Written.word _ (in_range_between range))
        (then (Written.word _ (in_range_between v.energy_weight))
        (then (Written.word _ (in_range_between v.penalty_weight))
        (then (Written.word _ (in_range_between v.cores))
        (then (written_setting _ _ count idle) (then (written_setting _ _ count start) nothing)))))

    go : {front : List ℕ} → WritesSettings p front → settings.Writes (settings_of p) (front ++ rest) rest
    go (three none nothing_to_start) =
        common Limits.settings_without_idle (omega arith) (absent (omega arith) none) (absent (omega arith) nothing_to_start)
    go (four nothing_to_start) =
        common Limits.settings_with_idle (omega arith) (given (omega arith) v.idle) (absent (omega arith) nothing_to_start)
    go five = common Limits.settings_with_start (omega arith) (given (omega arith) v.idle) (given (omega arith) v.start)
