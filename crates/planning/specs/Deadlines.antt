-- The deadlines that a plan holds.
--   least_ordinary                  the least deadline of the ordinary lines, if there is one
--   IsLeastOrdinary, NoneOrdinary   what makes a number that, and when there is none
--   regular_deadline, changed       a line's deadline in the plan
--   with_deadlines                  all lines with their deadlines in the plan
--   tight_at                        the first line whose deadline is below its length
use Rattle.std.specs.Prelude.{◌≡◌, ℕ, ◌-◌, ◌<◌, ◌≤◌, min, true, false, cond, not, List, map, filter, length, get_or, Some, None, Option, nat_lt, slice_index_or}
use Rattle.std.specs.List.{reduce, position_from}
use Rattle.model.specs.Ranges.{is_regular, blank}
use Rattle.model.specs.declared.line.Line.{Line}
use Rattle.model.specs.declared.policy.Policy.{Policy}
use Rattle.model.specs.declared.policy.Policy.TheVariants.{Dm, Ed}

-- The least deadline of the ordinary lines.
abbrev pub least_ordinary : List Line → Option ℕ
least_ordinary ls = reduce min (map (λ l. l.deadline) (filter (λ l. not (is_regular l)) ls))

-- Every ordinary line has deadline m or a later one, and one of them has m.
pub record IsLeastOrdinary (ls : List Line) (m : ℕ) : Type 0 where
  pub bound : (i : ℕ) → i < length ls → is_regular (slice_index_or ls i blank) ≡ false → m ≤ (get_or ls i blank).deadline
  pub reached : (i : ℕ) × (i < length ls) × (is_regular (slice_index_or ls i blank) ≡ false) × ((get_or ls i blank).deadline ≡ m)

-- No line is ordinary.
abbrev pub NoneOrdinary : List Line → Type 0
NoneOrdinary ls = (i : ℕ) → i < length ls → is_regular (slice_index_or ls i blank) ≡ true

-- Under ED a regular line must be done without a break, so its deadline is its length. Under DM it
-- comes before every ordinary deadline, of which m is the least.
abbrev pub regular_deadline : Policy → Option ℕ → Line → ℕ
regular_deadline Ed m l = l.length
regular_deadline Dm None l = l.deadline
regular_deadline Dm (Some m) l = min l.deadline (m - 1)

-- An ordinary line keeps its deadline.
abbrev pub changed : Policy → Option ℕ → Line → Line
changed p m l = record l { deadline = cond (is_regular l) (regular_deadline p m l) l.deadline }

-- Every line changed, by the least ordinary deadline of all.
abbrev pub with_deadlines : Policy → List Line → List Line
with_deadlines p ls = map (changed p (least_ordinary ls)) ls

-- The first line whose deadline is below its length; lines are counted from n.
abbrev pub tight_at : ℕ → List Line → Option ℕ
tight_at n ls = position_from (λ l. nat_lt l.deadline l.length) n ls
