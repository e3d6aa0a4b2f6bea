-- How a text falls into lines, and a line into fields.
--   lines_of    the lines of a text, each without the byte 10 that ends it
--   fields_of   the fields of a line, cut at every single space
use Rattle.std.specs.Prelude.{ℕ, cond, List, [], ◌∷◌, ◌==◌}
use Rattle.std.specs.List.{onto_first, slice_split}

-- The byte 10 ends a line, so an empty text has no line.
abbrev pub lines_of : List ℕ → List (List ℕ)
lines_of [] = []
lines_of (b ∷ bs) = cond (b == 10) ([] ∷ lines_of bs) (onto_first b (lines_of bs))

-- A space stands between two fields, so an empty line has one empty field.
abbrev pub fields_of : List ℕ → List (List ℕ)
fields_of = slice_split (λ b. b == 32)
