-- What `--help` says, and the table that it is made of: by the same table the command line is read, so each option has its line.
use Rattle.std.specs.Prelude.{◌≡◌, ℕ, ◌+◌, ◌-◌, List, [], ◌∷◌, ◌++◌, bytes_eq, codes, find, length, map, nat_lt, replicate}
use Rattle.std.specs.Prelude.{Option, None, Some, if◌then◌else◌}
use Rattle.std.specs.Char.{encode_utf8}
use Rattle.std.specs.List.{concat, flat_map}
use Rattle.clap.specs.Words.{Rule, Shape, Text}
use Rattle.pd_words.specs.Lab.{any, command, flag, lab, letter, may, must, several, switch, value, values}
use Rattle.pd_words.specs.declared.page.Choice.{Choice}
use Rattle.pd_words.specs.declared.page.Choice.TheVariants as choice
use Rattle.pd_words.specs.declared.page.Page.{Page}
use Rattle.pd_words.specs.declared.page.Word.{Word}
use Rattle.pd_words.specs.declared.page.Word.TheVariants as word
use Rattle.pd_words.specs.declared.pages.TheConstants.{BACK, FRONT, USAGE}

-- ---- the table as the command line has it

abbrev pub word_rule : Word → Rule
word_rule (word.Must name) = must name.now
word_rule (word.May name) = may name.now
word_rule (word.Several name) = several name.now

abbrev pub choice_rule : Choice → Rule
choice_rule (choice.Value name word said) = value name.now
choice_rule (choice.Values name word said) = values name.now
choice_rule (choice.Any name word said) = any name.now
choice_rule (choice.Letter code word said) = letter code word.now
choice_rule (choice.Flag name said) = flag name.now
choice_rule (choice.Switch code name said) = switch code name.now

abbrev pub shape : Page → Shape
shape page = command page.name.now (map word_rule page.words.now ++ map choice_rule page.options.now)

-- ---- a list: words, and from a column on what is said of them, line by line

-- two blanks at the least; else the next line has it
abbrev pub gap : ℕ → ℕ → Text
gap column width = if nat_lt 1 (column - width) then replicate (column - width) 32 else 10 ∷ replicate column 32

-- lines, each from the column on
abbrev pub below : ℕ → List Text → Text
below column lines = flat_map (λ line. replicate column 32 ++ (line ++ 10 ∷ [])) lines

-- the same, where the first line is at the column already
abbrev pub at_column : ℕ → List Text → Text
at_column column [] = 10 ∷ []
at_column column (line ∷ lines) = line ++ 10 ∷ below column lines

abbrev pub entry : ℕ → Text → List Text → Text
entry column words lines = codes "  " ++ (words ++ (gap column (length words + 2) ++ at_column column lines))

-- ---- an option

-- how it is written: `--port P`, `-o FILE`, `--json`, or `-v, --verbose`
abbrev pub choice_names : Choice → Text
choice_names (choice.Value name word said) = concat (codes "--" ∷ name.now ∷ codes " " ∷ word.now ∷ [])
choice_names (choice.Values name word said) = concat (codes "--" ∷ name.now ∷ codes " " ∷ word.now ∷ [])
choice_names (choice.Any name word said) = concat (codes "--" ∷ name.now ∷ codes " " ∷ word.now ∷ [])
choice_names (choice.Letter code word said) = concat (codes "-" ∷ encode_utf8 code ∷ codes " " ∷ word.now ∷ [])
choice_names (choice.Flag name said) = concat (codes "--" ∷ name.now ∷ [])
choice_names (choice.Switch code name said) = concat (codes "-" ∷ encode_utf8 code ∷ codes ", --" ∷ name.now ∷ [])

-- what it does
abbrev pub said : Choice → List Text
said (choice.Value name word lines) = map (λ line. line.now) lines.now
said (choice.Values name word lines) = map (λ line. line.now) lines.now
said (choice.Any name word lines) = map (λ line. line.now) lines.now
said (choice.Letter code word lines) = map (λ line. line.now) lines.now
said (choice.Flag name lines) = map (λ line. line.now) lines.now
said (choice.Switch code name lines) = map (λ line. line.now) lines.now

abbrev pub choice_line : ℕ → Choice → Text
choice_line column choice = entry column (choice_names choice) (said choice)

-- ---- what is printed

abbrev pub page_help : Page → Text
page_help page = concat (codes "pdlab " ∷ page.name.now ∷ codes ": " ∷ page.title.now ∷ codes "\n\nusage: pdlab " ∷ page.usage.now
    ∷ codes "\n\n" ∷ page.about.now ∷ []) ++ (flat_map (choice_line page.column) page.options.now ++ page.end.now)

abbrev pub summary_line : Page → Text
summary_line page = entry 28 page.usage.now (map (λ line. line.now) page.summary.now)

abbrev pub program_help : List Page → Text
program_help pages = FRONT.now ++ (flat_map summary_line pages ++ BACK.now)

-- the command of a name, with the words and the options by which its line is read
abbrev pub shape_of_name : Text → Option Shape
shape_of_name name = find (λ (s : Shape). bytes_eq s.name name) lab.subs

-- the help of a page that has these words and options, each with its line
abbrev pub IsPageHelp : Shape → Text → Type 0
IsPageHelp s text = (page : Page) × (shape page ≡ s) × (text ≡ page_help page)

-- the help of the program tells of each of its commands
abbrev pub IsProgramHelp : Text → Type 0
IsProgramHelp text = (pages : List Page) × (map shape pages ≡ lab.subs) × (text ≡ program_help pages)

abbrev pub IsHelp : Option Shape → Text → Type 0
IsHelp None text = IsProgramHelp text
IsHelp (Some s) text = IsPageHelp s text

-- how it is used: of a command what its help says of that
abbrev pub IsUsage : Option Shape → Text → Type 0
IsUsage None text = text ≡ USAGE.now
IsUsage (Some s) text = (page : Page) × (shape page ≡ s) × (text ≡ page.usage.now)
