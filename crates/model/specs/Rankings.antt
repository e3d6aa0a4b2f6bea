-- What makes a ranking lawful, and the relations of the two rankings.
--   Sound, Others, later      the jobs that the laws speak of
--   Ordered, Lawful           the five properties
--   regular_first, smaller    how the two rankings are made
--   dm_ahead, ed_ahead        the two rankings
--   ahead_of                  the ranking that a policy names
--   KeyRule, DmRule, EdRule   what the rules say of them
use Rattle.std.specs.Prelude.{◌≡◌, ℕ, ◌+◌, ◌^◌, ◌<◌, ◌≤◌, Bool, true, false, cond, not, ◌==◌, nat_lt}
use Rattle.model.specs.declared.job.Job.{Job}
use Rattle.model.specs.declared.policy.Policy.{Policy}
use Rattle.model.specs.declared.policy.Policy.TheVariants.{Dm, Ed}
use Rattle.model.specs.Ranges.{regular_kind}

-- a job of a line from 1 to 24, released before 10^12
abbrev pub Sound : Job → Type 0
Sound j = (0 < j.line) × (j.line ≤ 24) × (j.release < 10 ^ 12)

-- jobs of different lines
abbrev pub Others : Job → Job → Type 0
Others a b = a.line ≡ b.line → ⊥

-- the same job, released n units later
abbrev pub later : Job → ℕ → Job
later j n = record { line = j.line; kind = j.kind; release = j.release + n; deadline = j.deadline; period = j.period }

-- Of two jobs of different lines exactly one goes ahead; no job goes ahead of one of its own line;
-- among three lines, ahead of an ahead is ahead; moving both releases later changes no reply.
pub record Ordered (ahead : Job → Job → Bool) : Type 0 where
  pub exactly_one : (a b : Job) → Sound a → Sound b → Others a b → ahead a b ≡ not (ahead b a)
  pub own_line : (a b : Job) → Sound a → Sound b → a.line ≡ b.line → ahead a b ≡ false
  pub chain : (a b c : Job) → Sound a → Sound b → Sound c → Others a b → Others b c → Others a c → ahead a b ≡ true → ahead b c ≡ true → ahead a c ≡ true
  pub shift : (a b : Job) (n : ℕ) → Sound (later a n) → Sound (later b n) → ahead (later a n) (later b n) ≡ ahead a b

-- A regular job also goes ahead of an ordinary one of another line.
pub record Lawful (ahead : Job → Job → Bool) : Type 0 where
  pub ordered : Ordered ahead
  pub regular_first : (a b : Job) → Sound a → Sound b → Others a b → regular_kind a.kind ≡ true → regular_kind b.kind ≡ false → ahead a b ≡ true

-- by the kinds of two jobs: a regular one before an ordinary one, else as `o` says
abbrev by_kind : Bool → Bool → Bool → Bool
by_kind true true o = o
by_kind true false o = true
by_kind false true o = false
by_kind false false o = o

abbrev pub regular_first : (Job → Job → Bool) → Job → Job → Bool
regular_first order a b = cond (a.line == b.line) false (by_kind (regular_kind a.kind) (regular_kind b.kind) (order a b))

-- the smaller key, then the lower line
abbrev pub smaller : (Job → ℕ) → Job → Job → Bool
smaller key a b = cond (a.line == b.line) false (cond (nat_lt (key a) (key b)) true (cond (nat_lt (key b) (key a)) false (nat_lt a.line b.line)))

abbrev pub dm_ahead : Job → Job → Bool
dm_ahead = regular_first (smaller (λ j. j.deadline))

abbrev pub ed_ahead : Job → Job → Bool
ed_ahead = regular_first (smaller (λ j. j.release + j.deadline))

abbrev pub ahead_of : Policy → Job → Job → Bool
ahead_of Dm = dm_ahead
ahead_of Ed = ed_ahead

-- Between jobs of different lines regular jobs go first, then the smaller key, then the lower line.
pub record KeyRule (key : Job → ℕ) (ahead : Job → Job → Bool) : Type 0 where
  pub regular : (a b : Job) → Others a b → regular_kind a.kind ≡ true → regular_kind b.kind ≡ false → (ahead a b ≡ true) × (ahead b a ≡ false)
  pub by_key : (a b : Job) → Others a b → a.kind ≡ b.kind → key a < key b → (ahead a b ≡ true) × (ahead b a ≡ false)
  pub by_line : (a b : Job) → a.kind ≡ b.kind → key a ≡ key b → a.line < b.line → (ahead a b ≡ true) × (ahead b a ≡ false)
  pub own : (a b : Job) → a.line ≡ b.line → ahead a b ≡ false

abbrev pub DmRule : (Job → Job → Bool) → Type 0
DmRule ahead = KeyRule (λ j. j.deadline) ahead

abbrev pub EdRule : (Job → Job → Bool) → Type 0
EdRule ahead = KeyRule (λ j. j.release + j.deadline) ahead
