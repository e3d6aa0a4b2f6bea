-- One run under another: each of its pending jobs is pending in the other too, with as many units left
-- or more, and was released the same time later. A unit given in both keeps this.
use Rattle.std.proofs.Common.{◌≡◌, ℕ, zero, suc, ◌+◌, ◌^◌, ◌<◌, ◌≤◌, Bool, true, false, List, length, sym, refl, ap, ◌∙◌, subst₂, arith, rules}
use Rattle.std.proofs.lemmas.Bool.{cond-false}
use Rattle.std.proofs.lemmas.Grind.{common_steps}
use Rattle.model.specs.declared.job.Job.{Job}
use Rattle.model.specs.Rankings.{Lawful}
use Rattle.runs.specs.declared.task.Task.{Task}
use Rattle.runs.specs.Tasks.{due, arrives, admitted, arrived, served, job_of, ended_early, rested, resumed, blank_task}
use Rattle.runs.specs.Steps.{arrived_all, stepped, WellFormed, ToFirst}
use Rattle.runs.specs.Calls.{on_line}
use Rattle.runs.proofs.Firsts.{sound_at, first_goes_first}
use Rattle.runs.proofs.Keeps.{arrived_well_formed}
use Rattle.runs.proofs.Pointwise.{task_of, who, arrived_at, length_arrived, length_stepped, stepped_at}
use Rattle.runs.proofs.Serving.{numbered_at}

-- the same line; a job pending in x has no less left in y, where it was released σ before
pub record Under (σ : ℕ) (x y : Task) : Type 0 where
  pub same_number : x.number ≡ y.number
  pub same_line : x.line ≡ y.line
  pub less : 0 < x.left → x.left ≤ y.left
  pub released : 0 < x.left → x.release ≡ y.release + σ

pub record Dom (σ : ℕ) (xs ys : List Task) : Type 0 where
  pub same_length : length xs ≡ length ys
  pub under : (i : ℕ) → i < length xs → Under σ (task_of xs i) (task_of ys i)

-- the same line, with the same job or none
abbrev pub Lowered : Task → Task → Type 0
Lowered x z = (z.number ≡ x.number) × (z.line ≡ x.line) × (0 < z.left → (z.left ≡ x.left) × (z.release ≡ x.release))

-- a call between steps ends a pending job or leaves it as it is
pub on_line_dom : (σ n : ℕ) (f : Task → Task) → ((x : Task) → Lowered x (f x)) → (xs ys : List Task) → Dom σ xs ys → Dom σ (on_line n f xs) ys
on_line_dom σ n f low xs ys dom = grind (arith, common_steps)

pub ended_lowers : (x : Task) → Lowered x (ended_early x)
ended_lowers x = (refl, refl, λ some. absurd (omega arith))

pub rested_lowers : (x : Task) → Lowered x (rested x)
rested_lowers x = grind arith

pub resumed_lowers : (x : Task) → Lowered x (resumed x)
resumed_lowers x = (refl, refl, λ some. (refl, refl))

-- what is due in the one is due in the other
pub due_under : (t τ σ : ℕ) (x y : Task) → t ≡ τ + σ → Under σ x y → due τ y ≡ false → due t x ≡ false
due_under t τ σ x y e u clear = grind arith

admitted_under : (t τ σ : ℕ) (x y : Task) → t ≡ τ + σ → Under σ x y → (arrives t x ≡ true → arrives τ y ≡ true) → (arrives t x ≡ false → arrives τ y ≡ true → x.left ≡ 0) → Under σ (admitted t x) (admitted τ y)
admitted_under t τ σ x y e u both none = grind arith

arrived_under : (t τ σ : ℕ) (x y : Task) → t ≡ τ + σ → Under σ x y → due τ y ≡ false → (arrives t x ≡ true → arrives τ y ≡ true) → (arrives t x ≡ false → arrives τ y ≡ true → x.left ≡ 0) → Under σ (arrived t x) (arrived τ y)
arrived_under t τ σ x y e u clear both none = search (rules, cond-false, due_under, admitted_under)

-- unless the other alone is served, with a job that is pending in both
served_under : (n m σ : ℕ) (x y : Task) → Under σ x y → (0 < x.left → (x.number ≡ n → ⊥) → y.number ≡ m → ⊥) → Under σ (served n x) (served m y)
served_under n m σ x y u never = grind arith

module _ (ahead : Job → Job → Bool) (lawful : Lawful ahead) where
  -- The line that gets the unit in ys does not stay as it is in xs with a pending job.
  never_alone : (σ : ℕ) (xs ys : List Task) → WellFormed xs → WellFormed ys → Dom σ xs ys
      → (n m : ℕ) → ToFirst ahead xs n → ToFirst ahead ys m
      → (i : ℕ) → i < length xs → 0 < (task_of xs i).left → ((task_of xs i).number ≡ n → ⊥) → (task_of ys i).number ≡ m → ⊥
  never_alone σ xs ys wx wy dom zero m tx ty i h some other here = grind (arith, common_steps)
  never_alone σ xs ys wx wy dom (suc j) zero tx ty i h some other here = grind (arith, common_steps)
  never_alone σ xs ys wx wy dom (suc j) (suc k) tx ty i h some other here =
      let apart : i ≡ j → ⊥ = λ e. other (omega (arith, e, numbered_at 1 xs i blank_task h wx.0)) in
      let same : k ≡ i = omega (arith, here, numbered_at 1 ys i blank_task (omega (arith, dom.same_length)) wy.0) in
      let ui = dom.under i h in
      let uj = dom.under j tx.0 in
      grind (arith, sound_at xs i wx, sound_at xs j wx, lawful.ordered.shift (job_of (task_of ys i)) (job_of (task_of ys j)) σ)

  -- A unit given at t in xs and at τ in ys, where nothing is due: a line with a job arriving in ys
  -- alone has none pending in xs.
  module _ (t τ σ : ℕ) (xs ys : List Task) (when : t ≡ τ + σ) (soon : t < 10 ^ 12) (wx : WellFormed xs) (wy : WellFormed ys) (dom : Dom σ xs ys)
      (clear : (i : ℕ) → i < length ys → due τ (task_of ys i) ≡ false)
      (both : (i : ℕ) → i < length xs → arrives t (task_of xs i) ≡ true → arrives τ (task_of ys i) ≡ true)
      (none : (i : ℕ) → i < length xs → arrives t (task_of xs i) ≡ false → arrives τ (task_of ys i) ≡ true → (task_of xs i).left ≡ 0) where
    arrived_dom : Dom σ (arrived_all t xs) (arrived_all τ ys)
    arrived_dom =
        record {
          same_length = length_arrived t xs ∙ dom.same_length ∙ sym (length_arrived τ ys);
          under = λ i h. grind (arith, length_arrived t xs, arrived_at t xs i, arrived_at τ ys i, arrived_under t τ σ (task_of xs i) (task_of ys i) when);
        }

    pub step_dom : Dom σ (stepped ahead t xs) (stepped ahead τ ys)
    step_dom = record {
      same_length = length_stepped ahead t xs ∙ dom.same_length ∙ sym (length_stepped ahead τ ys);
      under = λ i h.
          let hx : i < length xs = omega (arith, length_stepped ahead t xs) in
          let hy : i < length ys = omega (arith, dom.same_length) in
          let ha : i < length (arrived_all t xs) = omega (arith, length_arrived t xs) in
          let ax = arrived_at t xs i hx in
          let ay = arrived_at τ ys i hy in
          let wx' = arrived_well_formed t xs soon wx in
          let wy' = arrived_well_formed τ ys (omega arith) wy in
          let u = arrived_dom.under i ha in
          subst₂ (Under σ) (ap (served (who ahead t xs)) ax ∙ sym (stepped_at ahead t xs i hx)) (ap (served (who ahead τ ys)) ay ∙ sym (stepped_at ahead τ ys i hy))
          (served_under (who ahead t xs) (who ahead τ ys) σ (task_of (arrived_all t xs) i) (task_of (arrived_all τ ys) i) u
          (never_alone σ (arrived_all t xs) (arrived_all τ ys) wx' wy' arrived_dom (who ahead t xs) (who ahead τ ys) (first_goes_first ahead lawful _ wx') (first_goes_first ahead lawful _ wy') i ha));
    }
