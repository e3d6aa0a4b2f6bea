-- What a plan's type keeps is what the laws over runs ask of its lines.
use Rattle.std.proofs.Common.{◌≡◌, ℕ, ◌*◌, ◌/◌, ◌<◌, length, get_or, sym, ◌∙◌, mul_comm, arith}
use Prim.Native.Nat.{◌∣◌}
use native.Mathlib.Nat.{mul-div_cancel'}
use Rattle.std.proofs.ByRecursion.{All-from_get_or, All-get_or}
use Rattle.model.specs.Ranges.{Ranged, blank}
use Rattle.planning.specs.Hyperperiods.{hyperperiod}
use Rattle.planning.specs.Places.{plan_set}
use Rattle.planning.specs.declared.plan.Plan.{Plan}
use Rattle.planning.proofs.Multiples.{is_hyperperiod, positive}
use Rattle.runs.specs.Promise.{SoundPlan}
use Rattle.windows.proofs.Pairs.{never_meet}

multiple : (h T : ℕ) → T ∣ h → (n : ℕ) × (h ≡ n * T)
multiple h T d = (h / T, sym (mul-div_cancel' T d) ∙ mul_comm T (h / T))

pub sound_plan : (p : Plan) → SoundPlan (plan_set p).lines (hyperperiod (plan_set p).lines)
sound_plan p =
    let ls = (plan_set p).lines in
    let ranged : (i : ℕ) → i < length ls → Ranged (get_or ls i blank) = λ i below. (p.planned i below).0 in
    record {
      few = p.few;
      ranged = ranged;
      apart = λ i j order below.
          never_meet ls p.apart (λ k within. ((ranged k within).1, omega (arith, (ranged k within).1, (ranged k within).2, (ranged k within).3))) i j (λ e. omega arith) (omega arith) below;
      whole = λ i below. multiple (hyperperiod ls) (get_or ls i blank).period (All-get_or (λ l. l.period ∣ hyperperiod ls) ls i blank below (is_hyperperiod ls).common);
      some = positive 1 ls (omega arith) (All-from_get_or (λ l. 0 < l.period) ls blank (λ i below. omega (arith, (ranged i below).1, (ranged i below).2, (ranged i below).3)));
    }
