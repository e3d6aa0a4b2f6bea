-- The laws of `smaller`, of `regular_first` over any order, and of the two rankings.
use Rattle.std.specs.Prelude.{◌≡◌, ℕ, ◌+◌, Bool, nat_lt}
use Rattle.std.proofs.Common.{arith, rules}
use Rattle.std.proofs.lemmas.Bool.Decides.{nat_tests}
use Rattle.model.specs.Rankings.{later, Ordered, Lawful, regular_first, smaller, dm_ahead, ed_ahead, ahead_of}
use Rattle.model.specs.declared.job.Job.{Job}
use Rattle.model.specs.declared.policy.Policy.{Policy}
use Rattle.model.specs.declared.policy.Policy.TheVariants.{Dm, Ed}

-- a key whose comparisons do not change when both jobs move
module _ (key : Job → ℕ) (moved : (a b : Job) (n : ℕ) → nat_lt (key (later a n)) (key (later b n)) ≡ nat_lt (key a) (key b)) where
  pub smaller_ordered : Ordered (smaller key)
  smaller_ordered = record {
    exactly_one = λ a b s t o. grind (arith, nat_tests);
    own_line = λ a b s t e. grind (arith, nat_tests);
    chain = λ a b c s t u o p q h k. grind (arith, nat_tests);
    shift = λ a b n s t. simp moved;
  }

pub regular_first_lawful : (order : Job → Job → Bool) → Ordered order → Lawful (regular_first order)
regular_first_lawful order o = search rules

pub dm_lawful : Lawful dm_ahead
dm_lawful = regular_first_lawful (smaller (λ j. j.deadline)) (smaller_ordered (λ j. j.deadline) (λ a b n. grind (arith, nat_tests)))

pub ed_lawful : Lawful ed_ahead
ed_lawful = regular_first_lawful (smaller (λ j. j.release + j.deadline)) (smaller_ordered (λ j. j.release + j.deadline) (λ a b n. grind (arith, nat_tests)))

pub policy_lawful : (p : Policy) → Lawful (ahead_of p)
policy_lawful Dm = dm_lawful
policy_lawful Ed = ed_lawful
