-- A line's track, by its starts: its figures are those of the starts, and what a step does to each track.
use Rattle.std.proofs.Common.{◌≡◌, ℕ, ◌+◌, ◌<◌, max, List, [], ◌∷◌, ◌++◌, length, get_or, Some, fold, refl, ap, ◌∙◌, arith}
use Rattle.std.specs.Option.{option_map, unwrap_or}
use Rattle.std.proofs.lemmas.Grind.{common_steps}
use Rattle.model.specs.declared.line.Line.{Line}
use Rattle.runs.specs.declared.call.StepReport.{StepReport}
use Rattle.runs.specs.declared.call.UnitReport.{UnitReport}
use Rattle.runs.specs.declared.jitter.Start.{Start}
use Rattle.runs.specs.declared.jitter.Track.{Track}
use Rattle.runs.specs.declared.task.Task.{Task}
use Rattle.runs.specs.Jitter.{deviation, deviations, figures_for, figures_of, no_track, noted, track_figures, note_start}
use Rattle.runs.specs.Starts.{unit_start}
use Rattle.runs.proofs.Pointwise.{task_of}

module _ (l : Line) where
  abbrev noted_from : Track → List Start → Track
  noted_from k starts = fold (λ j b. noted l b j) k starts

  -- the track that a line's starts leave
  abbrev pub track_of : List Start → Track
  track_of starts = noted_from no_track starts

  -- from a track with a last start on
  figures_from : (starts : List Start) (a : Start) (n u g : ℕ)
      → track_figures l (noted_from (record { last = Some a; number = n; sum = u; largest = g }) starts)
      ≡ figures_for l (n + length (deviations l (a ∷ starts))) (fold (λ v d. v + d) u (deviations l (a ∷ starts))) (fold (λ m d. max m d) g (deviations l (a ∷ starts)))
  figures_from [] a n u g = ap (λ k. figures_for l k u g) (omega arith)
  figures_from (b ∷ starts) a n u g =
      let d = deviation l a b in
      let ds = deviations l (b ∷ starts) in
      figures_from starts b (n + 1) (u + d) (max g d) ∙ ap (λ k. figures_for l k (fold (λ v e. v + e) (u + d) ds) (fold (λ m e. max m e) (max g d) ds)) (omega arith)

  pub track_figures_lem : (starts : List Start) → track_figures l (track_of starts) ≡ figures_of l starts
  track_figures_lem [] = refl
  track_figures_lem (a ∷ starts) = grind (arith, figures_from)

pub length_note : (t : ℕ) (r : StepReport) (xs : List Task) (ks : List Track) → length (note_start t r xs ks) ≡ length ks
length_note t r xs ks = grind (arith, common_steps)

-- after a step line i + 1 has the starts that its unit shows
pub step_at : (t : ℕ) (r : StepReport) (xs : List Task) (ks : List Track) (i : ℕ) (l : Line) (starts : List Start) → i < length ks → (task_of xs i).line ≡ l → ((u : UnitReport) → r.unit ≡ Some u → 0 < u.line) → get_or ks i no_track ≡ track_of l starts
    → get_or (note_start t r xs ks) i no_track ≡ track_of l (starts ++ unwrap_or (option_map (unit_start l (i + 1) t) r.unit) [])
step_at t r xs ks i l starts inside is some now = grind (arith, common_steps)
