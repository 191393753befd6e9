-- What a command line of `pdlab` asks for, by the words and options that clap finds in it (`Lab`).
use Rattle.std.specs.Prelude.{ℕ, ◌+◌, ◌-◌, ◌*◌, ◌^◌, ◌&&◌, ◌||◌, ◌==◌, Bool, true, false, not, List, [], ◌∷◌, codes}
use Rattle.std.specs.Prelude.{bytes_eq, count_by, drop, length, map, take, nat_le, nat_lt}
use Rattle.std.specs.Prelude.{Option, None, Some, option_and_then, option_map, is_some, unwrap_or}
use Rattle.std.specs.Prelude.{if◌then◌else◌}
use Rattle.std.specs.Char.{digit_value, is_ascii_digit}
use Rattle.std.specs.List.{list_all, position_from, slice_split}
use Rattle.std.specs.Option.{option_map_or, option_or}
use Rattle.std.specs.Str.Parse.{digits_value, without_leading_plus}
use Rattle.clap.specs.Words.{Row, Text, all_of, first_of, fault_of, subcommand_of}
use Rattle.clap.specs.Kinds.{Kinds}
use Rattle.pd_header.specs.declared.kind.Kind.{Kind}
use Rattle.pd_units.specs.Quantities.{number_in}
use Rattle.pd_units.specs.declared.unit.Unit.{Unit}
use Rattle.pd_units.specs.declared.unit.Unit.TheVariants.{Microseconds, Milliwatts}
use Rattle.pd_words.specs.Lab.{lab}
use Rattle.pd_words.specs.Names.{named}
use Rattle.pd_words.specs.declared.lab_task.DecodeOptions.{DecodeOptions}
use Rattle.pd_words.specs.declared.lab_task.DrawOptions.{DrawOptions}
use Rattle.pd_words.specs.declared.lab_task.ExplainOptions.{ExplainOptions}
use Rattle.pd_words.specs.declared.lab_task.Form.{Form}
use Rattle.pd_words.specs.declared.lab_task.Form.TheVariants.{Words, Json, Csv}
use Rattle.pd_words.specs.declared.lab_task.LabTask.{LabTask}
use Rattle.pd_words.specs.declared.lab_task.LabTask.TheVariants as task
use Rattle.pd_words.specs.declared.lab_task.Limits.{Limits}
use Rattle.pd_words.specs.declared.lab_task.NoiseOptions.{NoiseOptions}
use Rattle.pd_words.specs.declared.lab_task.Scene.{Scene}
use Rattle.pd_words.specs.declared.lab_task.Share.{Share}
use Rattle.pd_words.specs.declared.lab_task.ShowOptions.{ShowOptions}
use Rattle.pd_words.specs.declared.lab_task.SweepOptions.{SweepOptions}
use Rattle.pd_words.specs.declared.lab_task.WhyOptions.{WhyOptions}
use Rattle.pd_words.specs.declared.noise_words.Which.{Which}
use Rattle.pd_words.specs.declared.lab_task.Window.{Window}

-- a scenario's file; an edit script's, where one is named, and whether a refused line of it is passed over; and the file that is
-- written, where one is named
pub record Files : Type 0 where
  pub scenario : Text
  pub edits : Option Text
  pub keep_going : Bool
  pub out : Option Text

-- how test scripts are told: as JSON or in words, also the lines that pass, and as JUnit in a file, where one is named
pub record Look : Type 0 where
  pub json : Bool
  pub verbose : Bool
  pub junit : Option Text

-- ---- what may be asked

pub data Asked : Type 0 where
  live : (scenario : Text) → Asked
  show : Files → ShowOptions → Asked
  why : Files → WhyOptions → Asked
  guarantee : Files → (json : Bool) → Asked
  sweep : Files → SweepOptions → Asked
  noise : Files → NoiseOptions → Asked
  vary : Files → (sets : List Text) → (wheres : List Text) → (tell : Option Text) → (draw : Option Text) → Form → Asked
  test : (scripts : List Text) → Look → Asked
  draw : Files → DrawOptions → Asked
  page : Files → (page : Option Text) → Asked
  explain : Files → ExplainOptions → Asked
  decode : (file : Text) → DecodeOptions → Asked
  new : (ports : ℕ) → Asked
  schema : Asked

-- ---- a word or an option, by what was found

-- the option is there
abbrev pub is_on : Text → List Row → Bool
is_on option rows = option_map_or (λ word. bytes_eq word (codes "true")) (first_of option rows) false

-- the word is decimal digits, a plus before them or not, for a number below 2^64
abbrev pub is_number : Text → Bool
is_number word = let digits = without_leading_plus word in
    nat_lt 0 (length digits) && list_all (λ d. nat_lt (digit_value d) 10) digits && nat_lt (digits_value 10 digits) (2 ^ 64)

abbrev pub number : Text → Option ℕ
number word = if is_number word then Some (digits_value 10 (without_leading_plus word)) else None

-- a word as a number of a unit: bare, or with a unit of the same kind behind it
abbrev pub quantity : Unit → Text → Option ℕ
quantity own word = option_or (number word) (number_in own word)

-- what a word gives that may be left out
abbrev pub given_by : {T : Type 0} → (Text → Option T) → Option Text → Option (Option T)
given_by reads None = Some None
given_by reads (Some word) = option_map (λ value. Some value) (reads word)

abbrev pub number_of : Text → List Row → Option (Option ℕ)
number_of name rows = given_by number (first_of name rows)

abbrev pub quantity_of : Unit → Text → List Row → Option (Option ℕ)
quantity_of own name rows = given_by (quantity own) (first_of name rows)

-- standard input is named more than once among the files
abbrev pub is_twice : List Text → Bool
is_twice files = nat_lt 1 (count_by (λ file. bytes_eq file (codes "-")) files)

abbrev pub scene_with : Option Text → List Row → Option Files
scene_with edits rows = option_and_then (λ scenario.
    if is_twice (scenario ∷ unwrap_or edits [] ∷ []) then None else Some (record {
      scenario = scenario;
      edits = edits;
      keep_going = is_on (codes "keep-going") rows;
      out = first_of (codes "FILE") rows;
    })) (first_of (codes "SCENARIO") rows)

abbrev pub scene_by : List Row → Option Files
scene_by rows = scene_with (first_of (codes "EDITS") rows) rows

-- a part of a run that ends before it begins is none
abbrev pub window_with : Option ℕ → ℕ → ℕ → Option Window
window_with port from to = if nat_lt to from then None else Some (record { port = port; from = from; to = to })

-- times reach from 0 to the greatest, where they are left out
abbrev pub window_by : List Row → Option Window
window_by rows =
    option_and_then (λ port. option_and_then (λ from. option_and_then (λ to.
    window_with port (unwrap_or from 0) (unwrap_or to (2 ^ 64 - 1)))
    (quantity_of Microseconds (codes "to") rows)) (quantity_of Microseconds (codes "from") rows)) (number_of (codes "port") rows)

-- not both as JSON and as values
abbrev pub form_by : List Row → Option Form
form_by rows = if is_on (codes "json") rows then (if is_on (codes "csv") rows then None else Some Json)
    else (if is_on (codes "csv") rows then Some Csv else Some Words)

-- how many packets behind each, of as many in a row
abbrev pub behind_with : Option ℕ → Option ℕ
behind_with None = Some 0
behind_with (Some count) = if nat_lt 0 count && nat_lt count 9 then Some (count - 1) else None

abbrev pub behind_by : List Row → Option ℕ
behind_by rows = option_and_then behind_with (number_of (codes "in-a-row") rows)

-- how many are lost in one run at most: one, or up to three
abbrev pub any_with : Option ℕ → Option ℕ
any_with None = Some 1
any_with (Some count) = if nat_lt 0 count && nat_lt count 4 then Some count else None

abbrev pub any_by : List Row → Option ℕ
any_by rows = option_and_then any_with (number_of (codes "any") rows)

-- how many runs are made at most: one or more
abbrev pub most_with : Option ℕ → Option (Option ℕ)
most_with None = Some None
most_with (Some count) = if nat_lt 0 count then Some (Some count) else None

abbrev pub most_by : List Row → Option (Option ℕ)
most_by rows = option_and_then most_with (number_of (codes "most") rows)

-- ---- the commands, by what was found

abbrev pub live_by : List Row → Option Asked
live_by rows = option_and_then (λ scenario. if is_twice (scenario ∷ codes "-" ∷ []) then None else Some (live scenario))
    (first_of (codes "SCENARIO") rows)

abbrev pub show_by : List Row → Option Asked
show_by rows = option_and_then (λ files. option_and_then (λ window. option_map (λ form. show files (record {
  window = window;
  good_crc = not (is_on (codes "no-goodcrc") rows);
  codes = is_on (codes "codes") rows;
  form = form;
})) (form_by rows)) (window_by rows)) (scene_by rows)

-- The words behind a scenario as EDITS, PORT and AT: of two of them the first is PORT where it is a number, and else EDITS.
pub record WhyWords : Type 0 where
  pub edits : Option Text
  pub port : Text
  pub at : Option Text

abbrev pub why_words : Text → Option Text → Option Text → WhyWords
why_words first None third = record { edits = None; port = first; at = third }
why_words first (Some second) (Some third) = record { edits = Some first; port = second; at = Some third }
why_words first (Some second) None = if is_number first then record { edits = None; port = first; at = Some second }
    else record { edits = Some first; port = second; at = None }

abbrev pub why_with : List Row → WhyWords → Option Asked
why_with rows words = option_and_then (λ files. option_and_then (λ port. option_map (λ at. why files (record {
  port = port;
  at = at;
  json = is_on (codes "json") rows;
})) (given_by (quantity Microseconds) words.at)) (number words.port)) (scene_with words.edits rows)

abbrev pub why_by : List Row → Option Asked
why_by rows = option_and_then (λ first. why_with rows (why_words first (first_of (codes "SECOND") rows) (first_of (codes "THIRD") rows)))
    (first_of (codes "PORT") rows)

abbrev pub guarantee_by : List Row → Option Asked
guarantee_by rows = option_map (λ files. guarantee files (is_on (codes "json") rows)) (scene_by rows)

-- `message` is the one word that may stand behind `--by`
abbrev pub is_by_message : Text → Option Bool
is_by_message word = if bytes_eq word (codes "message") then Some true else None

abbrev pub by_message_by : List Row → Option Bool
by_message_by rows = option_map (λ by. unwrap_or by false) (given_by is_by_message (first_of (codes "by") rows))

-- the I-th of N shares, as `2/3`: 1 ≤ I ≤ N ≤ 1000
abbrev pub share_of : Option ℕ → Option ℕ → Option Share
share_of (Some part) (Some parts) = if nat_lt 0 part && nat_le part parts && nat_le parts 1000
    then Some (record { part = part; parts = parts }) else None
share_of (Some part) None = None
share_of None parts = None

abbrev pub is_slash : ℕ → Bool
is_slash byte = byte == 47

abbrev pub share_at : Text → Option ℕ → Option Share
share_at word None = None
share_at word (Some place) = share_of (number (take place word)) (number (drop (place + 1) word))

abbrev pub share_in : Text → Option Share
share_in word = share_at word (position_from is_slash 0 word)

-- What makes a run fail, as `other-contracts,less-power=50ms,margin=5W`: names with commas between them, each once. `margin` is what
-- `--reserve` is.
abbrev pub no_limits : Limits
no_limits = record { fail_on = record { other_contracts = false; hard_resets = false; less_power = None }; margin = None }

-- one name more, which isn't among those so far
abbrev pub with_name : Limits → Text → Option Limits
with_name so_far name = if bytes_eq name (codes "other-contracts") && not so_far.fail_on.other_contracts
    then Some (record so_far { fail_on = record so_far.fail_on { other_contracts = true } })
    else (if bytes_eq name (codes "hard-resets") && not so_far.fail_on.hard_resets
    then Some (record so_far { fail_on = record so_far.fail_on { hard_resets = true } })
    else None)

abbrev pub with_value : Limits → Text → Text → Option Limits
with_value so_far name word = if bytes_eq name (codes "less-power") && not (is_some so_far.fail_on.less_power)
    then option_map (λ time. record so_far { fail_on = record so_far.fail_on { less_power = Some time } }) (quantity Microseconds word)
    else (if bytes_eq name (codes "margin") && not (is_some so_far.margin)
    then option_map (λ power. record so_far { margin = Some power }) (quantity Milliwatts word)
    else None)

abbrev pub is_equals : ℕ → Bool
is_equals byte = byte == 61

abbrev pub with_limit_at : Limits → Text → Option ℕ → Option Limits
with_limit_at so_far limit None = with_name so_far limit
with_limit_at so_far limit (Some place) = with_value so_far (take place limit) (drop (place + 1) limit)

abbrev pub with_limit : Limits → Text → Option Limits
with_limit so_far limit = with_limit_at so_far limit (position_from is_equals 0 limit)

unfoldable pub limits_from : List Text → Limits → Option Limits
limits_from [] so_far = Some so_far
limits_from (limit ∷ limits) so_far = option_and_then (limits_from limits) (with_limit so_far limit)

abbrev pub is_comma : ℕ → Bool
is_comma byte = byte == 44

abbrev pub limits_in : Text → Option Limits
limits_in word = limits_from (slice_split is_comma word) no_limits

abbrev pub limits_by : List Row → Option Limits
limits_by rows = option_map (λ limits. unwrap_or limits no_limits) (given_by limits_in (first_of (codes "fail-on") rows))

-- what is to be left is said once
abbrev pub reserve_with : Option ℕ → Option ℕ → Option (Option ℕ)
reserve_with None margin = Some margin
reserve_with (Some reserve) None = Some (Some reserve)
reserve_with (Some reserve) (Some margin) = None

abbrev pub reserve_by : Limits → List Row → Option (Option ℕ)
reserve_by limits rows = option_and_then (λ reserve. reserve_with reserve limits.margin) (quantity_of Milliwatts (codes "reserve") rows)

-- which packets, by their message, as many in a row, and a share of them
pub record Chosen : Type 0 where
  pub kind : Option Kind
  pub behind : ℕ
  pub share : Option Share

abbrev pub chosen_by : List Row → Option Chosen
chosen_by rows = option_and_then (λ kind. option_and_then (λ behind. option_map (λ share. record {
  kind = kind;
  behind = behind;
  share = share;
}) (given_by share_in (first_of (codes "part") rows))) (behind_by rows)) (given_by named (first_of (codes "kind") rows))

-- how many are lost together, and in how many runs
pub record Together : Type 0 where
  pub any : ℕ
  pub most : Option ℕ

abbrev pub together_by : List Row → Option Together
together_by rows = option_and_then (λ any. option_map (λ most. record { any = any; most = most }) (most_by rows)) (any_by rows)

-- what is asked of each run
pub record Required : Type 0 where
  pub reserve : Option ℕ
  pub limits : Limits

abbrev pub required_by : List Row → Option Required
required_by rows = option_and_then (λ limits. option_map (λ reserve. record {
  reserve = reserve;
  limits = limits;
}) (reserve_by limits rows)) (limits_by rows)

abbrev pub sweep_by : List Row → Option Asked
sweep_by rows = option_and_then (λ files. option_and_then (λ window. option_and_then (λ chosen. option_and_then (λ together.
    option_and_then (λ required. option_and_then (λ by_message. option_map (λ form. sweep files (record {
      window = window;
      kind = chosen.kind;
      damage = is_on (codes "damage") rows;
      behind = chosen.behind;
      any = together.any;
      most = together.most;
      changed = is_on (codes "changed") rows;
      by_message = by_message;
      share = chosen.share;
      reserve = required.reserve;
      fail_on = required.limits.fail_on;
      form = form;
    })) (form_by rows)) (by_message_by rows)) (required_by rows)) (together_by rows)) (chosen_by rows))
    (window_by rows)) (scene_by rows)

-- ---- sweep --noise

abbrev pub is_given : Text → List Row → Bool
is_given name rows = is_some (first_of name rows)

-- what stands beside `--noise` alone
abbrev pub is_of_noise : List Row → Bool
is_of_noise rows =
    is_given (codes "runs") rows || is_given (codes "run") rows || is_given (codes "seed") rows || is_on (codes "as-edits") rows

-- what doesn't stand beside it
abbrev pub is_word_not_of_noise : List Row → Bool
is_word_not_of_noise rows =
    is_given (codes "in-a-row") rows || is_given (codes "any") rows || is_given (codes "most") rows || is_given (codes "by") rows
    || is_given (codes "part") rows || is_given (codes "reserve") rows || is_given (codes "fail-on") rows

abbrev pub is_flag_not_of_noise : List Row → Bool
is_flag_not_of_noise rows =
    is_on (codes "damage") rows || is_on (codes "changed") rows || is_on (codes "json") rows || is_on (codes "csv") rows

abbrev pub is_not_of_noise : List Row → Bool
is_not_of_noise rows = is_word_not_of_noise rows || is_flag_not_of_noise rows

-- one to three digits behind a point, in thousandths
abbrev pub scale_of : ℕ → Option ℕ
scale_of count = if count == 1 then Some 100 else (if count == 2 then Some 10 else (if count == 3 then Some 1 else None))

abbrev pub thousandths : Text → Option ℕ
thousandths digits = if list_all is_ascii_digit digits
    then option_and_then (λ scale. option_map (λ n. n * scale) (number digits)) (scale_of (length digits)) else None

-- more than 0 %, and 100 % at most, in thousandths of 1 %
abbrev pub share_with : ℕ → ℕ → Option ℕ
share_with percent part = let share = percent * 1000 + part in if nat_lt 0 share && nat_le share 100000 then Some share else None

abbrev pub is_point : ℕ → Bool
is_point byte = byte == 46

abbrev pub whole_percent : Text → Option ℕ
whole_percent word = option_and_then (λ percent. share_with percent 0) (number word)

abbrev pub percent_of : Option ℕ → Option ℕ → Option ℕ
percent_of percent part = option_and_then (λ n. option_and_then (λ m. share_with n m) part) percent

abbrev pub percent_at : Text → Option ℕ → Option ℕ
percent_at word None = whole_percent word
percent_at word (Some place) = percent_of (number (take place word)) (thousandths (drop (place + 1) word))

abbrev pub percent_in : Text → Option ℕ
percent_in word = percent_at word (position_from is_point 0 word)

-- a number from one to another, where one is given
abbrev pub within : ℕ → ℕ → Option ℕ → Option (Option ℕ)
within least most None = Some None
within least most (Some n) = if nat_le least n && nat_le n most then Some (Some n) else None

abbrev pub within_by : Text → ℕ → ℕ → List Row → Option (Option ℕ)
within_by name least most rows = option_and_then (within least most) (number_of name rows)

-- one run alone, or those from 1 on, 100 where nothing is asked
abbrev pub which : Option ℕ → Option ℕ → Option Which
which None runs = Some (record { first = 1; runs = unwrap_or runs 100 })
which (Some run) None = Some (record { first = run; runs = 1 })
which (Some run) (Some runs) = None

abbrev pub which_by : List Row → Option Which
which_by rows = option_and_then (λ run. option_and_then (λ runs. which run runs)
    (within_by (codes "runs") 1 1000000 rows)) (within_by (codes "run") 1 1000000 rows)

abbrev pub noise_with : List Row → Option Asked
noise_with rows = option_and_then (λ files. option_and_then (λ window. option_and_then (λ kind. option_and_then (λ share.
    option_and_then (λ runs. option_map (λ seed. noise files (record {
      window = window;
      kind = kind;
      share = share;
      first = runs.first;
      runs = runs.runs;
      seed = unwrap_or seed 1;
      as_edits = is_on (codes "as-edits") rows;
    })) (within_by (codes "seed") 0 (2 ^ 32 - 1) rows)) (which_by rows)) (option_and_then percent_in (first_of (codes "noise") rows)))
    (given_by named (first_of (codes "kind") rows))) (window_by rows)) (scene_by rows)

abbrev pub noise_by : List Row → Option Asked
noise_by rows = if is_not_of_noise rows then None else noise_with rows

-- each packet in turn, or packets by lot
abbrev pub swept_by : List Row → Option Asked
swept_by rows =
    if is_given (codes "noise") rows then noise_by rows else (if is_of_noise rows then None else sweep_by rows)

-- `--where` may be left out
abbrev pub vary_by : List Row → Option Asked
vary_by rows = option_and_then (λ files. option_and_then (λ form. option_map (λ sets.
    vary files sets (unwrap_or (all_of (codes "where") rows) []) (first_of (codes "tell") rows) (first_of (codes "draw") rows) form)
    (all_of (codes "set") rows)) (form_by rows)) (scene_by rows)

abbrev pub test_by : List Row → Option Asked
test_by rows = option_and_then (λ scripts. if is_twice scripts then None else Some (test scripts (record {
  json = is_on (codes "json") rows;
  verbose = is_on (codes "verbose") rows;
  junit = first_of (codes "junit") rows;
}))) (all_of (codes "SCRIPT") rows)

-- a picture is 1,000 to 10,000 pixels wide, 1,200 where nothing is asked
abbrev pub width_with : Option ℕ → Option ℕ
width_with None = Some 1200
width_with (Some width) = if nat_lt 999 width && nat_lt width 10001 then Some width else None

abbrev pub width_by : List Row → Option ℕ
width_by rows = option_and_then width_with (number_of (codes "width") rows)

abbrev pub draw_by : List Row → Option Asked
draw_by rows = option_and_then (λ files. option_and_then (λ window. option_map (λ width. draw files (record {
  window = window;
  width = width;
  holds = is_on (codes "holds") rows;
})) (width_by rows)) (window_by rows)) (scene_by rows)

abbrev pub page_by : List Row → Option Asked
page_by rows = option_map (λ files. page files (first_of (codes "page") rows)) (scene_by rows)

abbrev pub explain_by : List Row → Option Asked
explain_by rows = option_map (λ files. explain files (record {
  json = is_on (codes "json") rows;
  strict = is_on (codes "strict") rows;
})) (scene_by rows)

-- standard input where no file is named
abbrev pub decode_by : List Row → Option Asked
decode_by rows = Some (decode (unwrap_or (first_of (codes "FILE") rows) (codes "-")) (record {
  json = is_on (codes "json") rows;
  with_line = is_on (codes "with-line") rows;
}))

-- 1 to 8 ports, 2 where nothing is asked
abbrev pub ports_with : Option ℕ → Option ℕ
ports_with None = Some 2
ports_with (Some ports) = if nat_lt 0 ports && nat_lt ports 9 then Some ports else None

abbrev pub new_by : List Row → Option Asked
new_by rows = option_map (λ ports. new ports) (option_and_then ports_with (number_of (codes "PORTS") rows))

abbrev pub asked_by : Text × List Row → Option Asked
asked_by found = if bytes_eq found.0 (codes "live") then live_by found.1
    else (if bytes_eq found.0 (codes "show") then show_by found.1
    else (if bytes_eq found.0 (codes "why") then why_by found.1
    else (if bytes_eq found.0 (codes "guarantee") then guarantee_by found.1
    else (if bytes_eq found.0 (codes "sweep") then swept_by found.1
    else (if bytes_eq found.0 (codes "vary") then vary_by found.1
    else (if bytes_eq found.0 (codes "test") then test_by found.1
    else (if bytes_eq found.0 (codes "draw") then draw_by found.1
    else (if bytes_eq found.0 (codes "page") then page_by found.1
    else (if bytes_eq found.0 (codes "explain") then explain_by found.1
    else (if bytes_eq found.0 (codes "decode") then decode_by found.1
    else (if bytes_eq found.0 (codes "new") then new_by found.1
    else (if bytes_eq found.0 (codes "schema") then Some schema else None))))))))))))

-- ---- a whole line: words that clap takes, and what the command is that they name

abbrev pub asked_unless : Kinds → Option (Text × List Row) → Option Asked
asked_unless [] found = option_and_then asked_by found
asked_unless (kind ∷ kinds) found = None

unfoldable pub lab_asked : List Text → Option Asked
lab_asked words = asked_unless (fault_of lab words) (subcommand_of lab words)

-- ---- what a task asks for, by its texts

abbrev pub files : Scene → Files
files scene = record {
  scenario = scene.scenario.now;
  edits = option_map (λ x. x.now) scene.edits;
  keep_going = scene.keep_going;
  out = option_map (λ x. x.now) scene.out;
}

abbrev pub asked : LabTask → Asked
asked (task.Live scenario) = live scenario.now
asked (task.Show scene options) = show (files scene) options
asked (task.Why scene options) = why (files scene) options
asked (task.Guarantee scene json) = guarantee (files scene) json
asked (task.Sweep scene options) = sweep (files scene) options
asked (task.Noise scene options) = noise (files scene) options
asked (task.Vary scene options) =
    vary (files scene) (map (λ x. x.now) options.sets.items) (map (λ x. x.now) options.wheres.items)
    (option_map (λ x. x.now) options.tell) (option_map (λ x. x.now) options.draw) options.form
asked (task.Test scripts options) = test (map (λ x. x.now) scripts.items)
    (record { json = options.json; verbose = options.verbose; junit = option_map (λ x. x.now) options.junit })
asked (task.Draw scene options) = draw (files scene) options
asked (task.Page scene name) = page (files scene) (option_map (λ x. x.now) name)
asked (task.Explain scene options) = explain (files scene) options
asked (task.Decode file options) = decode file.now options
asked (task.New ports) = new ports
asked task.Schema = schema
