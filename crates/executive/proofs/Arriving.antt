-- A slot before the step at t, after the arrival at t, after its unit, and after a call between steps:
-- what every slot keeps.
use Rattle.std.proofs.Common.{◌≡◌, ℕ, ◌+◌, ◌^◌, ◌<◌, ◌≤◌, true, refl, ap, sym, arith}
use Rattle.std.proofs.lemmas.Bool.{cond_both}
use Rattle.std.proofs.lemmas.Bool.Decides.{nat_tests}
use Rattle.model.specs.Ranges.{Ranged}
use Rattle.model.specs.declared.line.Line.{Line}
use Rattle.executive.specs.declared.between.Change.{Change}
use Rattle.executive.specs.declared.between.Change.TheVariants.{EndEarly, Rest, Resume}
use Rattle.executive.specs.declared.slot.Slot.{Slot}
use Rattle.runs.specs.declared.jitter.Track.{Track}
use Rattle.runs.specs.declared.task.Task.{Task}
use Rattle.runs.specs.Tasks.{admitted, arrives, due, given, pending, struck}
use Rattle.runs.proofs.Keeps.{arrived_line}
use Rattle.executive.specs.Changes.{Allows, changed}
use Rattle.executive.specs.Slots.{arrived_slot, coming_at, Balanced, Live, RestsWell, Kept}
use Rattle.executive.proofs.Coming.{a_period_apart}

pub some_period : (l : Line) → Ranged l → 0 < l.period
some_period l h = omega (arith, h.1, h.2, h.3)

-- what a slot keeps of its task
abbrev Held : ℕ → Task → Type 0
Held t x = Ranged x.line × (x.release < 10 ^ 12) × Balanced x × (x.counts.made ≤ t) × Live t x × RestsWell x

-- after striking out, a pending job's deadline lies ahead
abbrev Ahead : ℕ → Task → Type 0
Ahead t x = Held t x × (pending x ≡ true → t < x.release + x.line.deadline)

struck_ahead : (t : ℕ) (x : Task) → Held t x → Ahead t (struck t x)
struck_ahead t x h = cond_both (due t x) _ x (Ahead t) (λ e. grind (arith, nat_tests)) (λ e. grind (arith, nat_tests))

-- a line that has a release has no pending job then, since they are a period apart
admitted_held : (t : ℕ) (x : Task) → t < 10 ^ 12 → Ahead t x → Held (t + 1) (admitted t x)
admitted_held t x soon h = cond_both (arrives t x) _ x (Held (t + 1)) (λ e. grind (arith, nat_tests, a_period_apart)) (λ e. grind (arith, nat_tests))

pub arrived_kept : (t : ℕ) (x : Slot) → t < 10 ^ 12 → Kept t x → Kept (t + 1) (arrived_slot t x)
arrived_kept t x soon h =
    let now = admitted_held t (struck t x.task) soon (struck_ahead t x.task (h.ranged, h.released, h.balanced, h.made, h.live, h.rests)) in
    record { ranged = now.0; released = now.1; balanced = now.2; made = now.3; live = now.4; rests = now.5; next = ap (λ l. coming_at l (t + 1)) (sym (arrived_line t x.task)) }

-- the slot x with another task
abbrev pub with_task : Slot → Task → Slot
with_task x y = record { task = y; next = x.next; track = x.track }

pub given_kept : (t : ℕ) (x : Slot) → pending x.task ≡ true → Kept t x → Kept t (with_task x (given x.task))
given_kept t x p h = grind (arith, nat_tests)

pub changed_kept : (t : ℕ) (change : Change) (x : Slot) → Allows change x.task → Kept t x → Kept t (with_task x (changed change x.task))
changed_kept t EndEarly x p h = grind (arith, nat_tests)
changed_kept t Rest x ordinary h = grind (arith, nat_tests)
changed_kept t Resume x allowed h = grind (arith, nat_tests)

pub changed_same : (change : Change) (x : Task) → ((changed change x).number ≡ x.number) × ((changed change x).line ≡ x.line)
changed_same EndEarly x = (refl, refl)
changed_same Rest x = grind (arith, nat_tests)
changed_same Resume x = (refl, refl)

pub tracked_kept : (t : ℕ) (x : Slot) (k : Track) → Kept t x → Kept t (record { task = x.task; next = x.next; track = k })
tracked_kept t x k h = grind arith
