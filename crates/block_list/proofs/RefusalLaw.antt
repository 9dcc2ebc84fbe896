-- What the questions of a query go by. Assumes nothing.
use Rattle.std.proofs.Common.{◌≡◌, true, ℕ, ◌*◌, ◌<◌, ◌^◌, List, [], ◌∷◌, ltb, ap, arith}
use mathlib.Core.List.{all}
use Rattle.lockpage.specs.Geometry.{present}
use Rattle.lockpage.proofs.GeometryLaw.{present_proper as σ}
use Rattle.addressing.specs.Map.{data_blocks}
use Rattle.addressing.proofs.MapLaw.{data_blocks_small}
use Rattle.memory.specs.Memory.{groups}
use Rattle.validity.specs.Valid.{valid}
use Rattle.validity.proofs.ValidLaw.{facts}
use Rattle.machine.specs.Query.{number_count, question12}
use Rattle.machine.specs.Question.{question1, question2, question4, passes, first_no}
use Rattle.machine.proofs.CaseLaw.{true_or_false}
use Rattle.machine.proofs.RefusalLaw.{some_number}
use Rattle.machine.proofs.QueryLaw.{list_yes}
use Rattle.arguments.proofs.ArgumentLaw.{memory_sized}

-- question 5 by the limit that was computed
pub same_limit : (ns : List ℕ) (g limit : ℕ) → limit ≡ data_blocks present g
    → all ns (λ a. ltb a limit) ≡ all ns (λ a. ltb a (data_blocks present g))
same_limit ns g limit e = ap (λ (k : ℕ). all ns (λ a. ltb a k)) e

-- a valid memory's blocks are few
pub blocks_few : (m : List ℕ) → valid present m ≡ true → data_blocks present (groups present m) < 2 ^ 32
blocks_few m e = omega (arith, data_blocks_small σ (groups present m) (omega (arith, (facts σ m e).most)))

-- and so are the numbers of a list
pub numbers_few : (blocks : List ℕ) → passes (question12 blocks) ≡ true → 9 * number_count blocks < 2 ^ 32
numbers_few blocks e = omega (arith, (list_yes blocks e).few)

-- questions 1, 2 and 4 of a box, where none says no
pub box_valid : (m disk : List ℕ) (now : ℕ) → 0 ≡ first_no (question1 present m ∷ question2 present m disk ∷ question4 present m now ∷ [])
    → valid present m ≡ true
unfolding first_no
box_valid m disk now e = true_or_false (valid present m) (λ t. t) (λ f. absurd (grind arith))

pub ruleset asked = (memory_sized, box_valid, some_number, same_limit, blocks_few, numbers_few)
