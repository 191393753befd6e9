-- Lines as text, in three forms: this product's own, as docs/FORMATS.md has them under Show.
use Rattle.std.specs.Prelude.{ℕ, ◌-◌, ◌==◌, List, [], ◌∷◌, ◌++◌, length, replicate, codes, decimal, if◌then◌else◌}
use Rattle.std.specs.List.{flat_map}
use Rattle.pd_device.specs.Text.{right}
use Rattle.pd_show.specs.declared.choice.Form.{Form}
use Rattle.pd_show.specs.declared.choice.Form.TheVariants.{Words, Json, Csv}
use Rattle.pd_show.specs.Lines.{Line}

-- what stands before the first line
abbrev pub head : Form → List ℕ
head Words = []
head Json = []
head Csv = codes "at_us,since_us,port,kind,text\n"

-- ---- the three forms of a line

-- so many microseconds more, right in nine places
abbrev pub more_text : ℕ → List ℕ
more_text n = replicate (8 - length (decimal n)) 32 ++ (43 ∷ decimal n)

-- its time right in nine places, the time since the line before, the port and the words; without the line feed
unfoldable pub bare_line : ℕ → ℕ → ℕ → List ℕ → List ℕ
bare_line at since port words = right at ++ (32 ∷ (more_text since ++ (codes " port " ++ (decimal port ++ (32 ∷ words)))))

abbrev pub words_line : ℕ → ℕ → ℕ → List ℕ → List ℕ
words_line at since port words = bare_line at since port words ++ codes "\n"

-- an object: its time, the time since the line before, the port, the kind, and the members of that kind
unfoldable pub json_line : ℕ → ℕ → ℕ → List ℕ → List ℕ → List ℕ
json_line at since port kind members =
    codes "{\"at_us\":" ++ (decimal at ++ (codes ",\"since_us\":" ++ (decimal since ++ (codes ",\"port\":" ++ (decimal port
    ++ (codes ",\"kind\":\"" ++ (kind ++ (codes "\"" ++ (members ++ codes "}\n")))))))))

-- a text as a value that may hold commas: in quotation marks, each that is in it twice (RFC 4180, section 2)
abbrev pub twice : ℕ → List ℕ
twice c = if c == 34 then 34 ∷ 34 ∷ [] else c ∷ []

abbrev pub value : List ℕ → List ℕ
value text = codes "\"" ++ (flat_map twice text ++ codes "\"")

-- values: its time, the time since the line before, the port, the kind, and the words
unfoldable pub csv_line : ℕ → ℕ → ℕ → List ℕ → List ℕ → List ℕ
csv_line at since port kind words =
    decimal at ++ (codes "," ++ (decimal since ++ (codes "," ++ (decimal port
    ++ (codes "," ++ (kind ++ (codes "," ++ (value words ++ codes "\n"))))))))

-- what a line says in a form
abbrev pub told : Form → List ℕ → List ℕ → List ℕ
told Words words members = words
told Json words members = members
told Csv words members = words

abbrev pub framed : Form → ℕ → ℕ → ℕ → List ℕ → List ℕ → List ℕ
framed Words at since port kind said = words_line at since port said
framed Json at since port kind said = json_line at since port kind said
framed Csv at since port kind said = csv_line at since port kind said

-- a line, after a line of this time
unfoldable pub line_text : Form → ℕ → Line → List ℕ
line_text form before l = framed form l.at (l.at - before) l.port l.kind (told form l.words l.members)

-- ---- pages

-- lines after a line of this time
abbrev pub text_from : Form → ℕ → List Line → List ℕ
text_from form before [] = []
text_from form before (l ∷ ls) = line_text form before l ++ text_from form l.at ls

-- the time of the last line
abbrev pub last_at : ℕ → List Line → ℕ
last_at before [] = before
last_at before (l ∷ ls) = last_at l.at ls

-- a page of text, and the time of its last line
pub record PageData : Type 0 where
  pub text : List ℕ
  pub before : ℕ

-- a page of a form after some more lines
unfoldable pub written : Form → PageData → List Line → PageData
written form page ls = record { text = page.text ++ text_from form page.before ls; before = last_at page.before ls }
