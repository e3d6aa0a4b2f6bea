-- One line under way, and what one instant does to it.
--   pending               it has a job with units left
--   due                   that job comes to its deadline at an instant
--   struck                the same line after its due job was struck out
--   arrives               it has a release at an instant, and is not at rest
--   admitted              the same line with the job of that release
--   arrived               struck out first, then admitted
--   job_of                its job, as a ranking sees it
--   given                 one unit less left
--   served                the same, for the line that gets the unit
--   ended_early, rested, resumed   what the calls between steps do to a line
--   new_task, new_tasks   lines before their first instant, numbered from a number on
--   blank_task            what stands past the end of a list of lines under way
use Rattle.std.specs.Prelude.{ℕ, ◌+◌, ◌-◌, ◌%◌, Bool, true, false, not, ◌&&◌, if◌then◌else◌, List, map, ◌==◌, nat_le, nat_lt}
use Rattle.std.specs.List.{enumerate_from}
use Rattle.model.specs.Ranges.{blank}
use Rattle.model.specs.declared.job.Job.{Job}
use Rattle.model.specs.declared.line.Line.{Line}
use Rattle.runs.specs.declared.task.Counts.{Counts}
use Rattle.runs.specs.declared.task.Task.{Task}

abbrev pub pending : Task → Bool
pending x = nat_lt 0 x.left

-- its pending job's release + D* is t
abbrev pub due : ℕ → Task → Bool
due t x = pending x && x.release + x.line.deadline == t

abbrev pub with_job : Task → ℕ → ℕ → Counts → Task
with_job x release left counts = record x { release = release; left = left; counts = counts }

abbrev pub one_made : Counts → Counts
one_made c = record c { made = c.made + 1 }

abbrev pub one_ended : Counts → Counts
one_ended c = record c { ended = c.ended + 1 }

abbrev pub one_missed : Counts → Counts
one_missed c = record c { missed = c.missed + 1 }

abbrev pub one_aside : Counts → Counts
one_aside c = record c { aside = c.aside + 1 }

abbrev pub struck : ℕ → Task → Task
struck t x = if due t x then with_job x x.release 0 (one_missed x.counts) else x

-- t is r + k × T for some k from 0 on
abbrev pub releases_at : Line → ℕ → Bool
releases_at l t = nat_le l.offset t && (t - l.offset) % l.period == 0

abbrev pub arrives : ℕ → Task → Bool
arrives t x = not x.resting && releases_at x.line t

abbrev pub admitted : ℕ → Task → Task
admitted t x = if arrives t x then with_job x t x.line.length (one_made x.counts) else x

abbrev pub arrived : ℕ → Task → Task
arrived t x = admitted t (struck t x)

abbrev pub job_of : Task → Job
job_of x = record { line = x.number; kind = x.line.kind; release = x.release; deadline = x.line.deadline; period = x.line.period }

-- one unit less left; with none left the job has ended
abbrev pub given : Task → Task
given x = with_job x x.release (x.left - 1) (if x.left == 1 then one_ended x.counts else x.counts)

-- `number` is the line that gets the unit
abbrev pub served : ℕ → Task → Task
served number x = if x.number == number then given x else x

-- the pending job is over, and counts as ended
abbrev pub ended_early : Task → Task
ended_early x = with_job x x.release 0 (one_ended x.counts)

abbrev at_rest : Bool → Task → Task
at_rest b x = record x { resting = b }

-- the pending job, if there is one, is set aside, and the line is at rest
abbrev pub rested : Task → Task
rested x = at_rest true (if pending x then with_job x x.release 0 (one_aside x.counts) else x)

abbrev pub resumed : Task → Task
resumed x = at_rest false x

abbrev pub no_counts : Counts
no_counts = record { made = 0; ended = 0; missed = 0; aside = 0 }

abbrev pub new_task : ℕ → Line → Task
new_task n l = record { number = n; line = l; release = 0; left = 0; resting = false; counts = no_counts }

abbrev pub new_tasks : ℕ → List Line → List Task
new_tasks n ls = map (λ p. new_task p.0 p.1) (enumerate_from n ls)

abbrev pub blank_task : Task
blank_task = new_task 0 blank
