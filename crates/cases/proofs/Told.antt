-- A history is a run if the replies that its calls must get, written below each other, are those that it tells.
use Rattle.std.proofs.Common.{◌≡◌, ℕ, Bool, List, [], ◌∷◌, map, get_or, drop, Ok, refl, ap}
use Rattle.model.specs.declared.job.Job.{Job}
use Rattle.model.specs.declared.line.Line.{Line}
use Rattle.model.specs.Rankings.{dm_ahead}
use Rattle.runs.specs.declared.call.Accepted.TheVariants.{Done}
use Rattle.runs.specs.Calls.{Reply, State, begun, next_of}
use Rattle.runs.specs.Histories.{History, RanFrom}
use Rattle.cases.specs.Wording.{Runs}

-- The replies that the calls of a history must get, from a state on.
abbrev replies : (Job → Job → Bool) → State → History → List Reply
replies ahead s [] = []
replies ahead s (e ∷ h) = (next_of ahead s e.call).1 ∷ replies ahead (next_of ahead s e.call).0 h

told_from : (ahead : Job → Job → Bool) (s : State) (h : History) → replies ahead s h ≡ map (λ e. e.reply) h → (t : State) × RanFrom ahead s h t
told_from ahead s [] same = (s, refl)
told_from ahead s (e ∷ h) same =
    let rest = told_from ahead (next_of ahead s e.call).0 h (ap (drop 1) same) in
    (rest.0, (ap (λ rs. get_or rs 0 (Ok Done)) same, rest.1))

pub told : {ls : List Line} {start : ℕ} {h : History} → replies dm_ahead (begun start ls) h ≡ map (λ e. e.reply) h → Runs ls start h
told {ls} {start} {h} same = let run = told_from dm_ahead (begun start ls) h same in record { left = run.0; ran = run.1 }
