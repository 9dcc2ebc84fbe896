-- The questions of a recovery, one by one as the code asks them. Assumes nothing.
use mathlib.Core.Path.{◌≡◌, refl, ap, sym, ◌∙◌}
use mathlib.Core.Bool.{Bool, true, false}
use mathlib.Core.List.{List, [], ◌∷◌}
use Rattle.std.specs.Prelude.{None}
use Prim.Native.Nat.{ℕ}
use borrow.Author.Tests.{eq-eqb, ne_eqb, eqb-true}
use lib.Dec.{eqb}
use lib.ListN.{length}
use Rattle.octets.specs.Part.{replaced, repeated}
use Rattle.octets.proofs.RepeatedLaw.{repeated_length}
use Rattle.octets.proofs.ReplacedLaw.{replaced_all}
use Rattle.lockpage.specs.Geometry.{Geometry}
use Rattle.addressing.specs.Map.{disk_size}
use Rattle.memory.specs.Memory.{groups}
use Rattle.machine.specs.Command.{Box}
use Rattle.machine.specs.Claims.{ValidBox}
use Rattle.machine.specs.Question.{Question, Put, question1, question2, question4, first_no, AllYes}
use Rattle.machine.proofs.QuestionLaw.{numbered_to, accepted_yes, passes_on, ends, says_no, goes_on}
use Rattle.versions_machine.specs.Versions.{Range}
use Rattle.versions_machine.specs.Log.{unused}
use Rattle.versions_state.specs.Layout.{parts}
use Rattle.versions_state.specs.State.{newest_bytes}
use Rattle.versions_bytes.proofs.NewestLaw.{newests_none}
use Rattle.recovery_machine.specs.Recover.{Recovery, recovery_of, result_size, recover_questions, recovered, recover}

-- γ is the box's geometry
module _ (γ : Geometry) (s : Box) (now : ℕ) (result : List ℕ) where
  -- what every call is asked, and what is left behind it
  abbrev of_box : List Question
  of_box = question1 γ s.memory ∷ question2 γ s.memory s.disk ∷ question4 γ s.memory now ∷ []

  abbrev sixth : Question
  sixth = Put 6 (eqb (length result) result_size)

  -- one of the first three
  pub box_refused : (n : ℕ) → n ≡ first_no of_box → (n ≡ 0 → ⊥) → n ≡ first_no (recover_questions γ s now result)
  unfolding recover_questions
  box_refused n e d = e ∙ sym (ends of_box (sixth ∷ []) (λ z. d (e ∙ z)))

  box_yes : (n : ℕ) → n ≡ first_no of_box → n ≡ 0 → AllYes of_box
  unfolding numbered_to
  box_yes n e z = accepted_yes 4 of_box refl (sym e ∙ z)

  -- question 6
  pub length_wrong : (n : ℕ) → n ≡ first_no of_box → n ≡ 0 → (length result ≡ result_size → ⊥) → 6 ≡ first_no (recover_questions γ s now result)
  unfolding recover_questions
  length_wrong n e z h =
      says_no 6 sixth [] false refl (sym (ne_eqb (length result) result_size h)) refl
      ∙ sym (passes_on of_box (sixth ∷ []) (box_yes n e z))

  pub accepted : (n : ℕ) → n ≡ first_no of_box → n ≡ 0 → length result ≡ result_size → 0 ≡ first_no (recover_questions γ s now result)
  unfolding recover_questions first_no
  accepted n e z h =
      goes_on sixth [] true (sym (eq-eqb (length result) result_size h)) refl
      ∙ sym (passes_on of_box (sixth ∷ []) (box_yes n e z))

  -- ---- what the number says

  module _ (n : ℕ) (e : n ≡ first_no (recover_questions γ s now result)) where
    all_yes : n ≡ 0 → AllYes (recover_questions γ s now result)
    unfolding numbered_to recover_questions
    all_yes z = accepted_yes 6 (recover_questions γ s now result) refl (sym e ∙ z)

    pub box_valid : n ≡ 0 → ValidBox γ s
    unfolding recover_questions
    box_valid z =
        let yes = all_yes z in
        record { memory = yes.0; disk = eqb-true (length s.disk) (disk_size γ (groups γ s.memory)) yes.1.0 }

    pub result_length : n ≡ 0 → length result ≡ result_size
    unfolding recover_questions
    result_length z = eqb-true (length result) result_size (all_yes z).1.1.1.0

    module _ (ρ : Range) (point : ℕ) where
      abbrev chosen : Bool → Recovery
      chosen all =
          elim all [
            | true ↦ recovery_of 0 (newest_bytes (recovered γ ρ s point now) 0 parts)
            | false ↦ recovery_of (first_no (recover_questions γ s now result)) result
          ]

      pub refused : (n ≡ 0 → ⊥) → recovery_of n result ≡ recover γ ρ s point now result
      unfolding recover
      refused d =
          ap (λ (k : ℕ). recovery_of k result) e
          ∙ ap chosen (sym (ne_eqb (first_no (recover_questions γ s now result)) 0 (λ z. d (e ∙ z))))

      pub recovers : n ≡ 0 → (new : List ℕ) → new ≡ newest_bytes (recovered γ ρ s point now) 0 parts
          → recovery_of 0 new ≡ recover γ ρ s point now result
      unfolding recover
      recovers z new en =
          ap (recovery_of 0) en ∙ ap chosen (sym (eq-eqb (first_no (recover_questions γ s now result)) 0 (sym e ∙ z)))

-- ---- the result

pub result_cleared : (l m : List ℕ) → length l ≡ result_size → m ≡ replaced l 0 (repeated result_size unused)
    → m ≡ newest_bytes (λ part. None) 0 parts
result_cleared l m size e =
    e
    ∙ replaced_all l (repeated result_size unused) (repeated_length result_size unused ∙ sym size)
    ∙ sym (newests_none 0 parts)
