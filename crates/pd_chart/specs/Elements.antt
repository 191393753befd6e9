-- A drawing as a tree of elements, and its text (XML 1.0; SVG 1.1).
use Rattle.std.specs.Prelude.{ℕ, ◌==◌, ◌&&◌, nat_le, Bool, true, false, if◌then◌else◌, List, [], ◌∷◌, ◌++◌, codes, decimal}
use Rattle.std.specs.List.{flat_map}

-- An attribute: its name, and what it says.
pub record Attribute : Type 0 where
  pub name : List ℕ
  pub value : List ℕ

-- What stands in an element: words, or what a browser tells of the element that the pointer is on.
pub data Inside : Type 0 where
  Words : (words : List ℕ) → Inside
  Title : (words : List ℕ) → Inside

-- An element: its name, its attributes, and what stands in it.
pub record Element : Type 0 where
  pub name : List ℕ
  pub attributes : List Attribute
  pub inside : List Inside

-- A byte of words. The four that XML gives a meaning are named; what is no sign of ASCII stands as a question mark.
abbrev pub escaped_byte : ℕ → List ℕ
escaped_byte byte =
    if byte == 38 then codes "&amp;" else if byte == 60 then codes "&lt;" else if byte == 62 then codes "&gt;"
    else if byte == 34 then codes "&quot;" else if nat_le 32 byte && nat_le byte 126 then byte ∷ [] else 63 ∷ []

abbrev pub escaped : List ℕ → List ℕ
escaped words = flat_map escaped_byte words

unfoldable pub attribute_text : Attribute → List ℕ
attribute_text a = 32 ∷ (a.name ++ (61 ∷ 34 ∷ (escaped a.value ++ (34 ∷ []))))

unfoldable pub inside_text : Inside → List ℕ
inside_text (Words words) = escaped words
inside_text (Title words) = codes "<title>" ++ (escaped words ++ codes "</title>")

-- an element on a line of its own: what opens it, what stands in it, and what closes it
abbrev pub element_text : Element → List ℕ
element_text e =
    60 ∷ (e.name ++ (flat_map attribute_text e.attributes ++ (62 ∷ (flat_map inside_text e.inside
    ++ (60 ∷ 47 ∷ (e.name ++ (62 ∷ 10 ∷ [])))))))

-- a group: elements that stand lower by so much than they say
pub record Group : Type 0 where
  pub down : ℕ
  pub elements : List Element

abbrev pub group_attribute : ℕ → Attribute
group_attribute down = record { name = codes "transform"; value = codes "translate(0 " ++ (decimal down ++ codes ")") }

abbrev pub group_text : Group → List ℕ
group_text g =
    codes "<g" ++ (attribute_text (group_attribute g.down) ++ (codes ">\n" ++ (flat_map element_text g.elements ++ codes "</g>\n")))

-- a drawing: the elements and the groups in one that holds them all
pub record Drawing : Type 0 where
  pub attributes : List Attribute
  pub elements : List Element
  pub groups : List Group

abbrev pub drawing_text : Drawing → List ℕ
drawing_text d =
    codes "<svg" ++ (flat_map attribute_text d.attributes ++ (codes ">\n" ++ (flat_map element_text d.elements
    ++ (flat_map group_text d.groups ++ codes "</svg>\n"))))
