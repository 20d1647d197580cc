-- The numbers of the papers, each once: of document 01's section 'Site file', of document 02 (a), (b), (g) and (m), and the largest
-- span.
use Rattle.std.specs.Prelude.{ℕ}

-- "As text it is at most 4,096 bytes"
abbrev pub most_text_bytes : ℕ
most_text_bytes = 4096

-- "32-bit words, unsigned": the largest of them
abbrev pub most_word : ℕ
most_word = 4294967295

-- "settings | 3 | energy weight 1 to 1,000; penalty weight 1 to 1,000; M 1 to 4"
abbrev pub settings_without_idle : ℕ
settings_without_idle = 3

-- (a) "Settings may now count 4, the fourth word being idle power, 0 to 65,535"
abbrev pub settings_with_idle : ℕ
settings_with_idle = 4

abbrev pub most_idle_power : ℕ
most_idle_power = 65535

-- (g) "Settings may count 5, the fifth word being start ticks, 0 to 1,000"
abbrev pub settings_with_start : ℕ
settings_with_start = 5

abbrev pub most_start_ticks : ℕ
most_start_ticks = 1000

abbrev pub most_weight : ℕ
most_weight = 1000

abbrev pub most_cores : ℕ
most_cores = 4

-- "levels | 1 to 8 | speed 1 to 65,535, then power 1 to 65,535"
abbrev pub most_levels : ℕ
most_levels = 8

abbrev pub most_speed : ℕ
most_speed = 65535

abbrev pub most_power : ℕ
most_power = 65535

-- "tasks | 0 to 12": the limit of reading
abbrev pub most_tasks : ℕ
most_tasks = 12

-- "period 1 to 4,096; cycles 1 to 100,000,000; penalty 1 to 1,000,000, or 4,294,967,295 for a task that may not be
-- refused"
abbrev pub most_period : ℕ
most_period = 4096

abbrev pub most_cycles : ℕ
most_cycles = 100000000

abbrev pub most_penalty : ℕ
most_penalty = 1000000

abbrev pub may_not_be_refused : ℕ
may_not_be_refused = 4294967295

-- "Span L: .. at most 4,096"
abbrev pub most_span : ℕ
most_span = 4096

-- (b) "a switching energy (0 to 1,000,000) and a switching time (0 to 4,096 ticks)"
abbrev pub most_switching_energy : ℕ
most_switching_energy = 1000000

abbrev pub most_switching_time : ℕ
most_switching_time = 4096

-- (m) "a count, 0 to 200", "year (2000 to 2099), month (1 to 12), day (1 to 31)", "plan number 1 to 255. Minutes run 0 to 1,440"
abbrev pub most_entries : ℕ
most_entries = 200

abbrev pub first_year : ℕ
first_year = 2000

abbrev pub last_year : ℕ
last_year = 2099

abbrev pub months : ℕ
months = 12

abbrev pub most_day : ℕ
most_day = 31

abbrev pub day_minutes : ℕ
day_minutes = 1440

abbrev pub most_plan_number : ℕ
most_plan_number = 255
