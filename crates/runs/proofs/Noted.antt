-- Every run's tracks are those of the starts that its replies show, and each start lies in its round.
use Rattle.std.proofs.Common.{◌≡◌, ℕ, ◌+◌, ◌^◌, ◌<◌, Bool, List, [], ◌∷◌, ◌++◌, length, get_or, Some, None, Option, sym, refl, ◌∙◌, subst, append-nil, arith, Err}
use Rattle.std.specs.Option.{option_map, unwrap_or}
use Rattle.std.specs.List.{AllByRecursion}
use Rattle.std.proofs.ByRecursion.{All-append}
use Rattle.std.proofs.lemmas.List.{length-map, get_or-map}
use Rattle.model.specs.Ranges.{blank}
use Rattle.model.specs.Rankings.{Lawful}
use Rattle.model.specs.declared.job.Job.{Job}
use Rattle.model.specs.declared.line.Line.{Line}
use Rattle.runs.specs.declared.call.StepReport.{StepReport}
use Rattle.runs.specs.declared.call.UnitReport.{UnitReport}
use Rattle.runs.specs.declared.jitter.Start.{Start}
use Rattle.runs.specs.Steps.{report_of}
use Rattle.runs.specs.Jitter.{start_at, no_track}
use Rattle.runs.specs.Calls.{State, begun}
use Rattle.runs.specs.Histories.{Event, event, History, unit_of, clock_of, Ran, start_of, unit_event, end_event, rest_event, resume_event, line_in}
use Rattle.runs.specs.Promise.{SoundPlan, Figured}
use Rattle.runs.specs.Starts.{InRound, unit_start, start_in, starts_of}
use Rattle.runs.proofs.Basics.{Basic, basics}
use Rattle.runs.proofs.Inductions.{every_run}
use Rattle.runs.proofs.Ledger.{truly}
use Rattle.runs.proofs.Outcomes.{after_unit}
use Rattle.runs.proofs.Tracks.{track_of, track_figures_lem, length_note, step_at}
use Rattle.runs.proofs.Turns.{unit_place}
use Rattle.runs.proofs.Units.{push}

starts_push : (l : Line) (n t : ℕ) (h : History) (e : Event) → starts_of l n t (push h e) ≡ starts_of l n t h ++ start_in l n (clock_of t h) e.reply
starts_push l n t [] e = grind arith
starts_push l n t (x ∷ h) e = grind (arith, starts_push l n (t + length (unit_of x.reply)) h e)

-- Each track is that of its line's starts.
record Noted (ls : List Line) (start : ℕ) (h : History) (s : State) : Type 0 where
  size : length s.tracks ≡ length ls
  track : (i : ℕ) → i < length ls → get_or s.tracks i no_track ≡ track_of (line_in ls i) (starts_of (line_in ls i) (i + 1) start h)
  rounds : (i : ℕ) → i < length ls → AllByRecursion (InRound (line_in ls i)) (starts_of (line_in ls i) (i + 1) start h)

module _ (ahead : Job → Job → Bool) (lawful : Lawful ahead) (ls : List Line) (m start : ℕ) (sound : SoundPlan ls m) where
  at_start : Noted ls (start_of start) [] (begun start ls)
  at_start = record {
    size = length-map ls (λ _. no_track);
    track = λ i p. get_or-map (λ _. no_track) ls i blank no_track p;
    rounds = λ i p. tt;
  }

  module _ (h : History) (s : State) (ran : Ran ahead ls start h s) (now : Noted ls (start_of start) h s) where
    -- an event that shows no start, and leaves the tracks as they are
    quiet : (e : Event) (s' : State) → s'.tracks ≡ s.tracks → ((l : Line) (n t : ℕ) → start_in l n t e.reply ≡ []) → Noted ls (start_of start) (push h e) s'
    quiet e s' same none = grind (arith, starts_push, append-nil)

    -- A step below the last clock.
    module _ (below : s.clock < 10 ^ 12) where
      abbrev told : StepReport
      told = report_of ahead s.clock s.tasks

      b : Basic ls (start_of start) h s
      b = basics ahead lawful ls m start sound h s ran

      -- what the unit shows of line n, and its starts with that
      abbrev more : Line → ℕ → Option UnitReport → List Start
      more l n o = unwrap_or (option_map (unit_start l n s.clock) o) []

      longer : (l : Line) (n : ℕ) → starts_of l n (start_of start) (push h (unit_event told)) ≡ starts_of l n (start_of start) h ++ more l n told.unit
      longer l n = grind (arith, starts_push, b)

      step_track : (i : ℕ) → i < length ls → let l = line_in ls i in get_or (after_unit ahead s).tracks i no_track ≡ track_of l (starts_of l (i + 1) (start_of start) (push h (unit_event told)))
      step_track i p =
          let l = line_in ls i in
          grind (arith, step_at s.clock told s.tasks s.tracks i l (starts_of l (i + 1) (start_of start) h), b.each i p, unit_place ahead lawful ls m (start_of start) sound h s b below, longer l (i + 1))

      step_noted : Ran ahead ls start (push h (unit_event told)) (after_unit ahead s) → Noted ls (start_of start) (push h (unit_event told)) (after_unit ahead s)
      step_noted ran' = record {
        size = length_note s.clock told s.tasks s.tracks ∙ now.size;
        track = step_track;
        rounds = λ i p.
            let l = line_in ls i in
            subst (AllByRecursion (InRound l)) (sym (longer l (i + 1))) (All-append (InRound l) (starts_of l (i + 1) (start_of start) h) _ (now.rounds i p) (shown i p told.unit refl));
      }
        where
          new : (i : ℕ) → i < length ls → (u : UnitReport) → told.unit ≡ Some u → u.line ≡ i + 1 → InRound (line_in ls i) (start_at (line_in ls i) s.clock)
          new i p u is line =
              let unit = truly ahead lawful ls m start sound (push h (unit_event told)) (after_unit ahead s) ran' (clock_of (start_of start) h) told u (h, [], refl, refl) is in
              grind (arith, b.clock)

          shown : (i : ℕ) → i < length ls → (o : Option UnitReport) → told.unit ≡ o → AllByRecursion (InRound (line_in ls i)) (more (line_in ls i) (i + 1) o)
          shown i p None is = tt
          shown i p (Some u) is = grind (arith, new i p u is)

  noted_all : (h : History) (s : State) → Ran ahead ls start h s → Noted ls (start_of start) h s
  noted_all = every_run ahead ls start (Noted ls (start_of start)) (record {
    first = at_start;
    refused = λ h s ran now c f. quiet h s ran now (event c (Err f)) s refl (λ l n t. refl);
    unit = step_noted;
    early = λ h s ran now l is. quiet h s ran now end_event _ refl (λ _ n t. refl);
    rest = λ h s ran now number o. quiet h s ran now (rest_event number) _ refl (λ l n t. refl);
    resume = λ h s ran now number o. quiet h s ran now (resume_event number) _ refl (λ l n t. refl);
  })

  pub figured : (h : History) (s : State) → Ran ahead ls start h s → Figured ls (start_of start) h s
  figured h s r = grind (arith, noted_all, track_figures_lem)
