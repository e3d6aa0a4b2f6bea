-- What one event more does to a history: its units, its clock, and what was accepted in it.
use Rattle.std.proofs.Common.{◌≡◌, ℕ, ◌+◌, ◌-◌, ◌<◌, ◌≤◌, ◌⊎◌, List, [], ◌∷◌, ◌++◌, get_or, refl, ap, ◌∙◌, inl, inr, append_assoc, arith}
use Rattle.std.proofs.lemmas.Grind.{common_steps}
use Rattle.runs.specs.declared.call.StepReport.{StepReport}
use Rattle.runs.specs.Histories.{Event, History, unit_of, units_of, clock_of, line_at, units_in, EndAt, RestAt, unit_event, end_event, rest_event}

-- the history with one event more
abbrev pub push : History → Event → History
push h e = h ++ e ∷ []

-- an event other than an accepted step leaves the units as they are
pub units_same : (h : History) (e : Event) → unit_of e.reply ≡ [] → units_of (push h e) ≡ units_of h
units_same h e none = grind (arith, common_steps)

-- a list with one element more at its end
module _ {X : Type 0} where
  -- a split of it is one before the new element, or the new element's own
  pub split_push : (h a b : List X) (e x : X) → h ++ e ∷ [] ≡ a ++ x ∷ b → ((h ≡ a) × (e ≡ x)) ⊎ ((c : List X) × (h ≡ a ++ x ∷ c))
  split_push [] [] b e x eq = inl (refl, cc)
  split_push [] (y ∷ []) b e x eq = grind arith
  split_push [] (y ∷ z ∷ a) b e x eq = grind arith
  split_push (y ∷ h) [] b e x eq = inr (h, (cc))
  split_push (y ∷ h) (z ∷ a) b e x eq = grind (arith, split_push h a b e x)

  pub longer : (h a b : List X) (e x : X) → h ≡ a ++ x ∷ b → h ++ e ∷ [] ≡ a ++ x ∷ (b ++ e ∷ [])
  longer h a b e x eq = ap (λ z. z ++ e ∷ []) eq ∙ append_assoc a (x ∷ b) (e ∷ [])

module _ (start : ℕ) (h : History) where
  -- at instants that have come already the line is the same, whatever the event
  pub line_older : (e : Event) (u : ℕ) → start ≤ u → u < clock_of start h → line_at start (push h e) u ≡ line_at start h u
  line_older e u from before = grind (arith, common_steps)

  -- A call that gives no unit.
  module _ (e : Event) (none : unit_of e.reply ≡ []) where
    pub line_same : (u : ℕ) → line_at start (push h e) u ≡ line_at start h u
    line_same u = ap (λ us. get_or us (u - start) 0) (units_same h e none)

    pub units_in_same : (number from to : ℕ) → units_in start (push h e) number from to ≡ units_in start h number from to
    units_in_same number from to = grind (arith, common_steps)

  -- An accepted step.
  module _ (r : StepReport) where
    pub clock_step : clock_of start (push h (unit_event r)) ≡ clock_of start h + 1
    clock_step = grind (arith, common_steps)

    pub line_before : (u : ℕ) → start ≤ u → u < clock_of start h → line_at start (push h (unit_event r)) u ≡ line_at start h u
    line_before u from before = line_older (unit_event r) u from before

  -- units up to the clock, which an event and all that follows leave as they are
  pub units_in_append : (b : History) (number from to : ℕ) → start ≤ from → to ≤ clock_of start h → units_in start (h ++ b) number from to ≡ units_in start h number from to
  units_in_append b number from to later past = grind (arith, common_steps)

  -- What was accepted before one event more was accepted still.
  pub end_older : (e : Event) (c : ℕ) → EndAt start h c → EndAt start (push h e) c
  end_older e c at = (at.0, push at.1 e, longer h at.0 at.1 e end_event at.2, at.3)

  pub rest_older : (e : Event) (number c : ℕ) → RestAt start h number c → RestAt start (push h e) number c
  rest_older e number c at = (at.0, push at.1 e, longer h at.0 at.1 e (rest_event number) at.2, at.3)

  pub rest_now : (number : ℕ) → RestAt start (push h (rest_event number)) number (clock_of start h)
  rest_now number = (h, [], refl, refl)
