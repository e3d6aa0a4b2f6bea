-- What one instant leaves as it is in a line, and in a well-formed list of lines.
use Rattle.std.proofs.Common.{◌≡◌, ℕ, ◌+◌, ◌^◌, ◌<◌, Bool, List, [], ◌∷◌, map, ◌∙◌, arith, rules}
use Rattle.std.proofs.ByRecursion.{All-map, All-weaker}
use Rattle.std.proofs.lemmas.Grind.{common_steps}
use Rattle.runs.specs.Tasks.{arrived, served}
use Rattle.runs.specs.Steps.{first_of, number_of, arrived_all, stepped, Numbered, WellFormed}
use Rattle.runs.specs.declared.task.Task.{Task}
use Rattle.model.specs.declared.job.Job.{Job}

-- the same line, its job apart, released no later than before or at t
abbrev Alike : ℕ → Task → Task → Type 0
Alike t x y = (y.number ≡ x.number) × (y.line ≡ x.line) × (x.release < 10 ^ 12 → t < 10 ^ 12 → y.release < 10 ^ 12)

served_alike : (t n : ℕ) (x : Task) → Alike t x (served n x)
served_alike t n x = grind arith

arrived_alike : (t : ℕ) (x : Task) → Alike t x (arrived t x)
arrived_alike t x = grind arith

pub arrived_number : (t : ℕ) (x : Task) → (arrived t x).number ≡ x.number
arrived_number t x = (arrived_alike t x).0

pub arrived_line : (t : ℕ) (x : Task) → (arrived t x).line ≡ x.line
arrived_line t x = (arrived_alike t x).1

map_numbered : (f : Task → Task) → ((x : Task) → (f x).number ≡ x.number) → (n : ℕ) (xs : List Task) → Numbered n xs → Numbered n (map f xs)
map_numbered f same n [] h = tt
map_numbered f same n (x ∷ xs) h = (same x ∙ h.0, map_numbered f same (n + 1) xs h.1)

-- what alters every line, and leaves its number and its line as they are
map_well_formed : (t : ℕ) → t < 10 ^ 12 → (f : Task → Task) → ((x : Task) → Alike t x (f x)) → (xs : List Task) → WellFormed xs → WellFormed (map f xs)
map_well_formed t soon f alike xs h = grind (arith, common_steps, map_numbered, All-map, All-weaker)

pub arrived_well_formed : (t : ℕ) (xs : List Task) → t < 10 ^ 12 → WellFormed xs → WellFormed (arrived_all t xs)
arrived_well_formed t xs soon h = search (rules, map_well_formed, arrived_alike)

module _ (ahead : Job → Job → Bool) (t : ℕ) (xs : List Task) where
  abbrev winner : ℕ
  winner = number_of (first_of ahead (arrived_all t xs))

  pub stepped_well_formed : t < 10 ^ 12 → WellFormed xs → WellFormed (stepped ahead t xs)
  stepped_well_formed soon h = search (rules, map_well_formed, served_alike, arrived_well_formed)

  pub stepped_numbered : (n : ℕ) → Numbered n xs → Numbered n (stepped ahead t xs)
  stepped_numbered n h = grind (arith, map_numbered)
