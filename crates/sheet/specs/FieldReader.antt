-- What the field reader has still to give, and what it gives next.
--   fields_left, left   the fields that are still to come
--   text_of, place_of   what a field holds
--   following           the place after a place
--   Cased               which field of a line is of which case
--   Yields              what the next field is, and what is left then
--   Moved               one more field is behind the reader
use Rattle.std.specs.Prelude.{◌≡◌, ℕ, ◌+◌, min, List, [], ◌∷◌, drop, Some, None, Option, ◌≢◌}
use Rattle.std.specs.Borrow.{Bor}
use Rattle.sheet.specs.declared.field.Place.{Place}
use Rattle.sheet.specs.declared.field.Field.{Field}
use Rattle.sheet.specs.declared.field.Field.TheVariants.{Kind, Name, Number}
use Rattle.sheet.specs.declared.field.Fields.{Fields}
use Rattle.sheet.specs.Cutting.{fields_of}

-- The fields of what is left of a line; behind the last field nothing is left.
abbrev pub fields_left : Option (Bor (List ℕ)) → List (List ℕ)
fields_left None = []
fields_left (Some t) = fields_of t.now

-- What a reader has still to give.
abbrev pub left : Fields → List (List ℕ)
left s = fields_left s.rest

-- The bytes of a field.
abbrev pub text_of : Field → List ℕ
text_of (Kind t p) = t.now
text_of (Name t p) = t.now
text_of (Number t p) = t.now

-- Where a field stands.
abbrev pub place_of : Field → Place
place_of (Kind t p) = p
place_of (Name t p) = p
place_of (Number t p) = p

-- The number of a field stops at the largest that it can be.
abbrev pub following : Place → Place
following p = record { line = p.line; field = min (p.field + 1) 4294967295 }

-- The first field of a line is a kind, the second a name, every other a number.
abbrev pub Cased : ℕ → Field → Type 0
Cased n (Kind t p) = n ≡ 1
Cased n (Name t p) = n ≡ 2
Cased n (Number t p) = (n ≢ 1) × (n ≢ 2)

-- A field is the first of those left, at the reader's place; at the end nothing changes.
abbrev pub Yields : Fields → Option Field → Fields → Type 0
Yields before None after = (left before ≡ []) × (after ≡ before)
Yields before (Some f) after = (left before ≡ text_of f ∷ left after) × (place_of f ≡ before.place) × Cased before.place.field f × (after.place ≡ following before.place)

-- The first of the fields that were left is gone.
abbrev pub Moved : Fields → Fields → Type 0
Moved before after = (left after ≡ drop 1 (left before)) × (after.place ≡ following before.place)
