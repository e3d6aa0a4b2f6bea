-- The worked cases that do not compute: those that name a unit or offsets, and those of all rankings.
use Rattle.std.proofs.Common.{◌≡◌, Bool, true, refl, arith}
use Rattle.model.specs.declared.job.Job.{Job}
use Rattle.model.specs.Rankings.{Lawful, DmRule}
use Rattle.windows.specs.Windows.{Meet, Room}
use Rattle.windows.proofs.Rule.{apart_means}
use Rattle.cases.specs.Wording.{regular}
use Rattle.cases.specs.Cases.{late_job, early_job, short_job, long_job}

-- The pair test means that no windows ever meet.
pub never_meet : Meet (regular 0 2 5 5) (regular 2 3 10 10) → ⊥
never_meet = (apart_means (regular 0 2 5 5) (regular 2 3 10 10) (omega arith, omega arith) (omega arith, omega arith)).0 refl

-- Unit 5 lies in a window of both.
pub meets : Meet (regular 0 2 5 5) (regular 3 3 10 10)
meets = (5, 1, 0, (omega arith, omega arith), (omega arith, omega arith))

-- At the offsets 0 and 1 the two are apart.
pub has_room : Room (regular 0 1 2 2) (regular 0 1 2 2)
has_room = (0, 1, omega arith, omega arith, refl)

-- A lawful ranking puts the regular job ahead, and of two jobs exactly one.
pub unlawful : (ahead : Job → Job → Bool) → ahead early_job late_job ≡ true → Lawful ahead → ⊥
unlawful ahead e lawful = grind (arith, lawful.regular_first late_job early_job, lawful.ordered.exactly_one early_job late_job)

-- By its rule DM puts the smaller D* ahead, and not the larger.
pub not_dm : (ahead : Job → Job → Bool) → ahead long_job short_job ≡ true → DmRule ahead → ⊥
not_dm ahead e rule = grind (arith, rule.by_key short_job long_job)
