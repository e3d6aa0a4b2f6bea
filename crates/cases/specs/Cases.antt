-- The worked cases of the rule book, each as a fact about the definitions that the contracts cite. Faults are
-- spoken of by their numbers; the table of the numbers stands in `Edges`.
--   printed_text, printed_lines, printed_plan   the sheet that the rule book prints, and its plan
--   late_job, early_job      two jobs that ED would swap if it went by deadlines alone
--   short_job, long_job      two jobs that DM turned round would swap
--   starved                  two lines of which the second never gets a unit
--   two_lines, eight_steps   two lines of which the second is started late, early and late
--   published                the published example, with offsets and deadlines of its regular lines
--   Cases                    all cases, as one list
use Rattle.std.specs.Prelude.{◌≡◌, ℕ, ◌+◌, ◌-◌, ◌<◌, Bool, true, false, List, [], ◌∷◌, map, Some, None, Ok, Err, codes}
use Rattle.model.specs.declared.fault.Fault.TheVariants.{TextNotEnded, Malformed, OutOfRange, HyperperiodTooLong, PairTooLong, NoOffsets, DeadlineTooShort, Overload, Missed, ClockAtEnd, NoJob, NoSuchLine, RegularLine, RestAsItIs}
use Rattle.model.specs.declared.job.Job.{Job}
use Rattle.model.specs.declared.line.Line.{Line}
use Rattle.model.specs.declared.policy.Policy.{Policy}
use Rattle.model.specs.Faults.{code_of}
use Rattle.model.specs.Rankings.{Lawful, DmRule, smaller, dm_ahead, ed_ahead}
use Rattle.model.specs.TaskSets.{task_set}
use Rattle.windows.specs.Euclid.{gcd_of}
use Rattle.windows.specs.Windows.{InWindow, Meet, apart_lines, Crowded, Room}
use Rattle.sheet.specs.Reading.{read_sheet}
use Rattle.planning.specs.Hyperperiods.{hyperperiod}
use Rattle.planning.specs.Plans.{plan_of}
use Rattle.runs.specs.declared.call.Call.TheVariants.{Step, EarlyEnd, Rest, Resume}
use Rattle.executive.specs.Changes.{counts_in}
use Rattle.executive.specs.Questions.{figures_in, coming_of, worst_of}
use Rattle.runs.specs.Calls.{begun}
use Rattle.runs.specs.Histories.{History, clock_of, line_at, units_in, rests_after, release, releases_in}
use Rattle.runs.specs.Jitter.{deviations}
use Rattle.runs.specs.RehearsalRules.{state_at}
use Rattle.runs.specs.Rehearsals.{last_offset, units_left}
use Rattle.runs.specs.Starts.{starts_of}
use Rattle.runs.specs.Tasks.{job_of}
use Rattle.report.specs.Reports.{report_of}
use Rattle.cases.specs.Wording.{regular, ordinary, dm, ed, reported, rehearsing, regular_job, ordinary_job, unit, idle, idle_with, begins, goes_on, ends, whole, done, refused, Runs, counted, state_after, starts, figures}

-- The sheet that the rule book prints.
abbrev pub printed_text : List ℕ
printed_text = codes "DM\nR probe 0 3 16 16\nR vent 0 1 4 4\nR screen 0 2 8 8\nN log 0 2 16 16\n"

-- What that sheet says.
abbrev pub printed_lines : List Line
printed_lines = regular 0 3 16 16 ∷ regular 0 1 4 4 ∷ regular 0 2 8 8 ∷ ordinary 0 2 16 16 ∷ []

-- Its plan: the offsets are 0, 3 and 4, and the first deadline lies one below that of the ordinary line.
abbrev pub printed_plan : List Line
printed_plan = regular 0 3 15 16 ∷ regular 3 1 4 4 ∷ regular 4 2 8 8 ∷ ordinary 0 2 16 16 ∷ []

-- A regular job that is due at 13.
abbrev pub late_job : Job
late_job = regular_job 1 10 3

-- An ordinary job that is due at 12.
abbrev pub early_job : Job
early_job = ordinary_job 2 0 12

-- An ordinary job with the smaller D*, on the higher line.
abbrev pub short_job : Job
short_job = ordinary_job 2 0 4

-- An ordinary job with the larger D*, on the lower line.
abbrev pub long_job : Job
long_job = ordinary_job 1 0 8

-- The first line takes every unit, so the second misses its deadline in the unit of its next release.
abbrev pub starved : List Line
starved = ordinary 0 2 2 2 ∷ ordinary 0 1 3 3 ∷ []

-- Two ordinary lines of the periods 2 and 3, and their first eight units under DM.
abbrev pub two_lines : List Line
two_lines = ordinary 0 1 2 2 ∷ ordinary 0 1 3 3 ∷ []

abbrev pub eight_steps : History
eight_steps = whole 1 ∷ whole 2 ∷ whole 1 ∷ whole 2 ∷ whole 1 ∷ idle ∷ whole 1 ∷ whole 2 ∷ []

-- Two regular lines among six ordinary ones, with the offsets r and q and the deadlines d and e of the regular two.
abbrev pub published : ℕ → ℕ → ℕ → ℕ → List Line
published r q d e = regular r 2 d 16 ∷ ordinary 0 1 16 16 ∷ regular q 2 e 32 ∷ ordinary 0 4 31 32 ∷ ordinary 0 1 32 32 ∷ ordinary 0 4 14 14 ∷ ordinary 0 1 13 14 ∷ ordinary 0 1 8 8 ∷ []

pub record Cases : Type 0 where
  -- Periods 16 and 4 have the greatest common divisor 4, periods 9 and 4 have 1.
  pub divisor_of_16_and_4 : gcd_of 16 4 ≡ 4
  pub divisor_of_9_and_4 : gcd_of 9 4 ≡ 1
  -- C 2, T 5 at offset 0 and C 3, T 10 at offset 2 are apart, and no windows of theirs ever meet.
  pub apart_at_2 : apart_lines (regular 0 2 5 5) (regular 2 3 10 10) ≡ true
  pub never_meet_at_2 : Meet (regular 0 2 5 5) (regular 2 3 10 10) → ⊥
  -- With the second at offset 3 they meet: unit 5 lies in window 1 of the one and in window 0 of the other.
  pub not_apart_at_3 : apart_lines (regular 0 2 5 5) (regular 3 3 10 10) ≡ false
  pub unit_5_in_both : InWindow (regular 0 2 5 5) 1 5 × InWindow (regular 3 3 10 10) 0 5
  pub meet_at_3 : Meet (regular 0 2 5 5) (regular 3 3 10 10)
  -- C 2, T 4 and C 3, T 8 have p above (2 − 1) + (3 − 1), and yet no offsets keep them apart.
  pub weaker_condition : (2 - 1) + (3 - 1) < gcd_of 4 8
  pub not_enough : Crowded (regular 0 2 4 4) (regular 0 3 8 8)
  -- As regular lines they give 21 (1, 2), whatever the policy, the releases and the deadlines.
  pub pair_too_long : (p : Policy) (r q d e : ℕ) → plan_of (task_set p (regular r 2 d 4 ∷ regular q 3 e 8 ∷ [])) ≡ Err (PairTooLong 1 2)
  pub pair_too_long_code : code_of (PairTooLong 1 2) ≡ reported 21 2 1 2
  -- Of the regular lines 2 to 5 the pairs (2, 5) and (3, 4) are too long: the lower line decides, and ordinary lines count.
  pub first_pair : plan_of (dm (ordinary 0 1 8 8 ∷ regular 0 1 8 8 ∷ regular 0 4 8 8 ∷ regular 0 5 8 8 ∷ regular 0 8 8 8 ∷ [])) ≡ Err (PairTooLong 2 5)
  -- Three regular lines of C 1, T 2 give 22, whatever the policy, the releases and the deadlines, though
  -- any two of them have offsets.
  pub pair_has_offsets : Room (regular 0 1 2 2) (regular 0 1 2 2)
  pub no_offsets : (p : Policy) (r q s d e f : ℕ) → plan_of (task_set p (regular r 1 d 2 ∷ regular q 1 e 2 ∷ regular s 1 f 2 ∷ [])) ≡ Err NoOffsets
  pub no_offsets_code : code_of NoOffsets ≡ reported 22 2 0 0
  -- Periods 64 and 15625 make a hyperperiod of 1,000,000, which is allowed; with 128 behind them they give 20 (3).
  pub hyperperiod_at_limit : plan_of (dm (ordinary 0 1 1 64 ∷ ordinary 0 1 1 15625 ∷ [])) ≡ Ok (dm (ordinary 0 1 1 64 ∷ ordinary 0 1 1 15625 ∷ []))
  pub hyperperiod_too_long : plan_of (dm (ordinary 0 1 1 64 ∷ ordinary 0 1 1 15625 ∷ ordinary 0 1 1 128 ∷ [])) ≡ Err (HyperperiodTooLong 3)
  pub hyperperiod_too_long_code : code_of (HyperperiodTooLong 3) ≡ reported 20 2 3 0
  -- The hyperperiod is refused before a pair, and want of offsets before a deadline.
  pub hyperperiod_before_pair : plan_of (dm (regular 0 1 1 1009 ∷ regular 0 1 1 1013 ∷ [])) ≡ Err (HyperperiodTooLong 2)
  pub offsets_before_deadline : plan_of (dm (regular 0 1 2 2 ∷ regular 0 1 2 2 ∷ regular 0 1 2 2 ∷ ordinary 0 1 1 2 ∷ [])) ≡ Err NoOffsets
  -- The printed sheet is read as its lines, planned with the offsets 0, 3 and 4, and printed in six lines.
  pub printed_read : read_sheet printed_text ≡ Ok (dm printed_lines)
  pub printed_planned : plan_of (dm printed_lines) ≡ Ok (dm printed_plan)
  pub printed_report : report_of printed_text ≡ codes "H 16\n1 R 0 3 15 16\n2 R 3 1 4 4\n3 R 4 2 8 8\n4 N 0 2 16 16\npassed\n"
  -- Under DM a regular line of C 3, T 16 beside an ordinary one of D 3 gives 23 (1).
  pub deadline_too_short : plan_of (dm (regular 0 3 16 16 ∷ ordinary 0 1 3 16 ∷ [])) ≡ Err (DeadlineTooShort 1)
  pub deadline_too_short_code : code_of (DeadlineTooShort 1) ≡ reported 23 2 1 0
  -- Beside one of D 4 it gets D* = 3.
  pub deadline_3 : plan_of (dm (regular 0 3 16 16 ∷ ordinary 0 1 4 16 ∷ [])) ≡ Ok (dm (regular 0 3 3 16 ∷ ordinary 0 1 4 16 ∷ []))
  -- Of two lines that come to D* < C the lower is named; an ordinary deadline of 1 makes D* = 0.
  pub lowest_too_short : plan_of (dm (ordinary 0 1 3 16 ∷ regular 0 1 16 16 ∷ regular 0 3 16 16 ∷ regular 0 4 16 16 ∷ [])) ≡ Err (DeadlineTooShort 3)
  pub deadline_0 : plan_of (dm (regular 0 1 16 16 ∷ ordinary 0 1 1 16 ∷ [])) ≡ Err (DeadlineTooShort 1)
  -- Without ordinary lines a regular one keeps its deadline under DM, and has its length as D* under ED.
  pub alone_dm : plan_of (dm (regular 0 3 16 16 ∷ [])) ≡ Ok (dm (regular 0 3 16 16 ∷ []))
  pub alone_ed : plan_of (ed (regular 0 3 16 16 ∷ [])) ≡ Ok (ed (regular 0 3 3 16 ∷ []))
  -- Ordinary lines of C 3, T 4 and C 2, T 4 give 25, under every ranking and whatever their releases and deadlines.
  pub overload : (ahead : Job → Job → Bool) (r q d e : ℕ) → rehearsing ahead (ordinary r 3 d 4 ∷ ordinary q 2 e 4 ∷ []) ≡ Err Overload
  pub overload_code : code_of Overload ≡ reported 25 3 0 0
  -- Ordinary lines of C 2, D 2, T 4 and C 2, D 3, T 4 give 26 (3, 2) under DM.
  pub missed : rehearsing dm_ahead (ordinary 0 2 2 4 ∷ ordinary 0 2 3 4 ∷ []) ≡ Err (Missed 3 2)
  pub missed_code : code_of (Missed 3 2) ≡ reported 26 3 3 2
  -- With D 4 in place of D 3 the load is still equal to H, and the rehearsal passes.
  pub full_load_passes : rehearsing dm_ahead (ordinary 0 2 2 4 ∷ ordinary 0 2 4 4 ∷ []) ≡ Ok tt
  -- ED by deadlines alone would put an ordinary job ahead of a regular one; ED does not, and no lawful ranking does.
  pub early_by_deadline : smaller (λ j. j.release + j.deadline) early_job late_job ≡ true
  pub regular_ahead : (ed_ahead late_job early_job ≡ true) × (ed_ahead early_job late_job ≡ false)
  pub ordinary_ahead_unlawful : (ahead : Job → Job → Bool) → ahead early_job late_job ≡ true → Lawful ahead → ⊥
  -- DM puts the smaller D* ahead, also on the higher line; a ranking that turns these two jobs round is not DM.
  pub short_ahead : (dm_ahead short_job long_job ≡ true) × (dm_ahead long_job short_job ≡ false)
  pub turned_round_not_dm : (ahead : Job → Job → Bool) → ahead long_job short_job ≡ true → DmRule ahead → ⊥
  -- Striking out comes before releasing: where D* = T, the step at 3 strikes the job of line 2 out and makes its next.
  pub struck_at_3 : Runs starved 0 (begins 1 ∷ ends 1 ∷ begins 1 ∷ unit 1 false true 1 ∷ [])
  pub next_job_at_3 : units_left (state_at dm_ahead starved 4) ≡ 0 ∷ 1 ∷ []
  pub miss_counted : map (λ x. x.counts) (state_at dm_ahead starved 4) ≡ counted 2 2 0 ∷ counted 2 0 1 ∷ []
  pub miss_told : counts_in 2 (state_at dm_ahead starved 4) ≡ Ok (record { made = 2; ended = 0; missed = 1; aside = 0; pending = 1 })
  -- A job that is past its deadline is struck out also where nobody gets the unit.
  pub struck_when_idle : Runs (ordinary 0 2 1 4 ∷ []) 0 (begins 1 ∷ idle_with 1 ∷ [])
  -- A ranking sees a job's line, kind, release, D* and T.
  pub job_seen : map job_of (state_at dm_ahead (ordinary 2 4 5 16 ∷ []) 3) ≡ ordinary_job 1 2 5 ∷ []
  -- The first mark of the rehearsal goes by the largest first release.
  pub first_mark_offset : last_offset (ordinary 3 1 9 9 ∷ ordinary 5 1 9 9 ∷ ordinary 2 1 9 9 ∷ []) ≡ 5
  -- An empty text has no end, nor has one without a last byte 10.
  pub empty_text : read_sheet (codes "") ≡ Err TextNotEnded
  pub text_not_ended : read_sheet (codes "DM") ≡ Err TextNotEnded
  -- Line 0 is exactly a policy.
  pub empty_line_0 : read_sheet (codes "\n") ≡ Err (Malformed 0 1)
  pub return_on_line_0 : read_sheet (codes "DM\r\n") ≡ Err (Malformed 0 1)
  -- A sheet may be without lines; an empty line is a task line without a kind.
  pub no_lines : read_sheet (codes "DM\n") ≡ Ok (dm [])
  pub no_lines_report : report_of (codes "DM\n") ≡ codes "H 1\npassed\n"
  pub empty_task_line : read_sheet (codes "DM\n\n") ≡ Err (Malformed 1 1)
  -- A range comes before a field that is missing further on, and before one too many.
  pub range_before_missing : read_sheet (codes "DM\nN a 0 70000 1\n") ≡ Err (OutOfRange 1 4)
  pub range_before_superfluous : read_sheet (codes "DM\nN a 0 1 1 0 x\n") ≡ Err (OutOfRange 1 6)
  -- A space at the end of a line begins a seventh field.
  pub seventh_field : read_sheet (codes "DM\nN a 0 1 1 1 \n") ≡ Err (Malformed 1 7)
  -- First releases go up to 60,000; behind a fault nothing else is printed.
  pub release_60000 : read_sheet (codes "DM\nN a 60000 1 1 1\n") ≡ Ok (dm (ordinary 60000 1 1 1 ∷ []))
  pub release_60001 : report_of (codes "DM\nN a 60001 1 1 1\n") ≡ codes "fault 14 1 1 3\n"
  -- The printed plan started at 5: line 3 makes no job of its release at 4. At 16 lines 1 and 4 are released
  -- together; line 4 waits for three regular lines, begins at 22 and is preempted by line 2 at 23.
  pub printed_run : Runs printed_plan 5
      (idle ∷ idle ∷ whole 2 ∷ idle ∷ idle ∷ idle ∷ whole 2 ∷ begins 3
      ∷ ends 3 ∷ idle ∷ whole 2 ∷ begins 1 ∷ goes_on 1 ∷ ends 1 ∷ whole 2 ∷ begins 3
      ∷ ends 3 ∷ begins 4 ∷ whole 2 ∷ ends 4 ∷ [])
  -- An early end is refused before the first step, accepted after the first unit of a longer job, refused a
  -- second time, and refused after the last unit of a job; line 4 takes the units that line 1 leaves.
  pub early_end : Runs printed_plan 0
      (refused EarlyEnd NoJob ∷ begins 1 ∷ done EarlyEnd ∷ refused EarlyEnd NoJob
      ∷ begins 4 ∷ ends 4 ∷ whole 2 ∷ refused EarlyEnd NoJob ∷ [])
  -- A rest of a regular line is 34, of a number that is no line 33; a resume of a line that does not rest is 35.
  pub rest_refused : Runs printed_plan 0
      (refused (Rest 1) (RegularLine 1) ∷ refused (Rest 0) (NoSuchLine 0) ∷ refused (Rest 5) (NoSuchLine 5) ∷ refused (Resume 4) (RestAsItIs 4) ∷ [])
  -- A rest at 0 prevents the release there; a second rest is 35, and a resume brings no job back.
  pub rest_before_release : Runs printed_plan 0
      (done (Rest 4) ∷ begins 1 ∷ goes_on 1 ∷ ends 1 ∷ whole 2 ∷ begins 3 ∷ ends 3 ∷ idle
      ∷ refused (Rest 4) (RestAsItIs 4) ∷ done (Resume 4) ∷ whole 2 ∷ idle ∷ [])
  -- A rest of the line that had the last unit sets its job aside: no early end then, also after a resume.
  pub rest_after_unit : Runs printed_plan 0
      (begins 1 ∷ goes_on 1 ∷ ends 1 ∷ whole 2 ∷ begins 3 ∷ ends 3 ∷ begins 4
      ∷ done (Rest 4) ∷ refused EarlyEnd NoJob ∷ done (Resume 4) ∷ refused EarlyEnd NoJob ∷ whole 2 ∷ idle ∷ [])
  -- A rest of another line leaves the last unit's job running; a resume of a regular line is 34 too.
  pub rest_of_other_line : Runs printed_plan 0 (begins 1 ∷ done (Rest 4) ∷ done EarlyEnd ∷ refused (Resume 1) (RegularLine 1) ∷ [])
  -- A job that is ended early counts as ended, and a pending job of a line that rests as set aside.
  pub end_told : counts_in 1 (state_after printed_plan 0 (begins 1 ∷ done EarlyEnd ∷ [])).tasks ≡ Ok (record { made = 1; ended = 1; missed = 0; aside = 0; pending = 0 })
  pub aside_told : counts_in 4 (state_after printed_plan 0 (begins 1 ∷ done (Rest 4) ∷ [])).tasks ≡ Ok (record { made = 1; ended = 0; missed = 0; aside = 1; pending = 0 })
  -- No step is taken at 10^12, as which a later start counts; an early end is still taken there.
  pub start_past_end : Runs printed_plan 1000000000007 (refused Step (ClockAtEnd 1000000000000) ∷ refused EarlyEnd NoJob ∷ [])
  pub end_at_last_clock : Runs (ordinary 15 2 16 16 ∷ []) 999999999999 (begins 1 ∷ refused Step (ClockAtEnd 1000000000000) ∷ done EarlyEnd ∷ [])
  -- A run as it is seen from outside: only accepted steps move the clock; units are counted from the start on.
  pub clock_7 : clock_of 5 (whole 1 ∷ refused EarlyEnd NoJob ∷ done (Rest 2) ∷ idle ∷ []) ≡ 7
  pub line_at_8 : line_at 5 eight_steps 8 ≡ 2
  pub two_units : units_in 5 eight_steps 2 6 12 ≡ 2
  pub release_3 : release (ordinary 2 1 3 5) 3 ≡ 17
  pub two_releases : releases_in (ordinary 2 1 3 3) 0 8 ≡ 2
  pub rests : (rests_after (done (Rest 4) ∷ []) 4 ≡ true) × (rests_after (done (Rest 4) ∷ []) 3 ≡ false)
  pub rests_no_more : (rests_after (done (Rest 4) ∷ done (Resume 4) ∷ []) 4 ≡ false) × (rests_after (refused (Rest 4) (NoSuchLine 4) ∷ []) 4 ≡ false)
  -- Ordinary lines of C 1, D 2, T 2 and C 1, D 3, T 3 under DM: in eight steps line 2 starts at 1, 3 and 7, in
  -- the rounds 0, 1 and 2. Its deviations are 1 too few and 1 too many, and line 1, without any, is not the worst.
  pub starts_at_1_3_7 : Runs (ordinary 0 1 2 2 ∷ ordinary 0 1 3 3 ∷ []) 0
      (whole 1 ∷ whole 2 ∷ whole 1 ∷ whole 2 ∷ whole 1 ∷ idle ∷ whole 1 ∷ whole 2 ∷ [])
  pub rounds_0_1_2 : starts_of (ordinary 0 1 3 3) 2 0 eight_steps ≡ starts 0 1 ∷ starts 1 3 ∷ starts 2 7 ∷ []
  pub both_deviations : deviations (ordinary 0 1 3 3) (starts 0 1 ∷ starts 1 3 ∷ starts 2 7 ∷ []) ≡ 1 ∷ 1 ∷ []
  pub figures_of_line_2 : figures_in 2 (state_after two_lines 0 eight_steps) ≡ Ok (figures 2 2 1 200 6)
  -- Line 1 keeps its period: all its deviations are 0, and they still count.
  pub figures_of_line_1 : figures_in 1 (state_after two_lines 0 eight_steps) ≡ Ok (figures 3 0 0 0 6)
  pub no_third_line : figures_in 3 (state_after two_lines 0 eight_steps) ≡ Err (NoSuchLine 3)
  pub worst_is_line_2 : worst_of (state_after two_lines 0 eight_steps) ≡ Some (record { line = 2; largest = 1 })
  -- Of lines with equal deviations the lower is the worst; one start brings no deviation.
  pub lower_is_worst : worst_of (state_after two_lines 0 (whole 1 ∷ whole 2 ∷ whole 1 ∷ [])) ≡ Some (record { line = 1; largest = 0 })
  pub no_worst : worst_of (state_after two_lines 0 (whole 1 ∷ whole 2 ∷ [])) ≡ None
  -- The printed plan started at 5 has the coming release (7, 2); started at 16, that of line 1 and not that of
  -- line 4, which comes at once with it. A line at rest has none.
  pub coming_7_2 : coming_of (begun 5 printed_plan) ≡ Some (record { instant = 7; line = 2 })
  pub coming_lower_line : coming_of (begun 16 printed_plan) ≡ Some (record { instant = 16; line = 1 })
  pub coming_none : coming_of (state_after (ordinary 0 1 2 2 ∷ []) 0 (done (Rest 1) ∷ [])) ≡ None
  -- The published example is planned with the offsets 0 and 2, under DM with the deadlines 7 and 7, under ED
  -- with 2 and 2; both plans pass their rehearsals over the hyperperiod 224.
  pub published_dm : plan_of (dm (published 0 0 16 32)) ≡ Ok (dm (published 0 2 7 7))
  pub published_ed : plan_of (ed (published 0 0 16 32)) ≡ Ok (ed (published 0 2 2 2))
  pub published_cycle : hyperperiod (published 0 2 7 7) ≡ 224
  pub published_dm_passes : rehearsing dm_ahead (published 0 2 7 7) ≡ Ok tt
  pub published_ed_passes : rehearsing ed_ahead (published 0 2 2 2) ≡ Ok tt
