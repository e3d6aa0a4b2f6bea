use Rattle.std.proofs.Common.{◌≡◌, length, take}
use Rattle.runs.specs.Jitter.{no_tracks}
use Rattle.runs.specs.Tasks.{new_tasks}
use Rattle.executive.specs.Slots.{AllKept, tasks_of, tracks_of}
use Rattle.executive.proofs.slots.Slots.new.Given as goal

abbrev pub invariant-loop-i : goal.invariant-loop-i
invariant-loop-i l =
    (length l.list.items ≡ l.i)
    × (tasks_of l.list.items ≡ new_tasks 1 (take l.i l.lines))
    × (tracks_of l.list.items ≡ no_tracks (take l.i l.lines))
    × AllKept l.start l.list.items
