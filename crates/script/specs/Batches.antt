-- What a batch of texts gives.
--   IsRecord   a batch begins with a record: a header, the byte 10 and a text
--   Gives      the text of the first record, and what follows it is left
use Rattle.std.specs.Prelude.{◌≡◌, ℕ, List, ◌∷◌, ◌++◌, Some, None, Option}
use Rattle.std.specs.Borrow.{Bor}
use Rattle.script.specs.declared.batch.Records.{Records}

abbrev pub IsRecord : List ℕ → List ℕ → List ℕ → Type 0
IsRecord batch text rest = (header : List ℕ) × (batch ≡ header ++ 10 ∷ (text ++ rest))

abbrev pub Gives : Records → Option (Bor (List ℕ)) → Records → Type 0
Gives before None after = after ≡ before
Gives before (Some text) after = IsRecord before.rest.now text.now after.rest.now
