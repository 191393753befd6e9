-- The elements that a picture is made of. Places and sizes are in tenths of a pixel.
use Rattle.std.specs.Prelude.{ℕ, List, [], ◌∷◌, ◌++◌, codes, decimal}
use Rattle.pd_chart.specs.Elements.{Attribute, Drawing, Element, Inside, Title, Words}
use Rattle.pd_chart.specs.declared.shapes.Area.{Area}

abbrev pub named : List ℕ → List ℕ → Attribute
named name value = record { name = name; value = value }

abbrev pub place : ℕ → ℕ → List Attribute
place x y = named (codes "x") (decimal x) ∷ named (codes "y") (decimal y) ∷ []

abbrev pub size : ℕ → ℕ → List Attribute
size width height = named (codes "width") (decimal width) ∷ named (codes "height") (decimal height) ∷ []

-- what a browser tells of an element, if anything
abbrev pub title : List ℕ → List Inside
title [] = []
title (x ∷ xs) = Title (x ∷ xs) ∷ []

-- a rectangle
unfoldable pub box_of : List ℕ → Area → List ℕ → Element
box_of class area words = record {
  name = codes "rect";
  attributes = named (codes "class") class ∷ (place area.x area.y ++ size area.width area.height);
  inside = title words;
}

-- words, from a place on
unfoldable pub words_at : List ℕ → ℕ → ℕ → List ℕ → Element
words_at class x y words = record {
  name = codes "text";
  attributes = named (codes "class") class ∷ place x y;
  inside = Words words ∷ [];
}

-- a path, by the commands of SVG
unfoldable pub path_of : List ℕ → List ℕ → List ℕ → Element
path_of class commands words = record {
  name = codes "path";
  attributes = named (codes "class") class ∷ named (codes "d") commands ∷ [];
  inside = title words;
}

-- how the classes of elements look
unfoldable pub style_of : List ℕ → Element
style_of rules = record { name = codes "style"; attributes = []; inside = Words rules ∷ [] }
