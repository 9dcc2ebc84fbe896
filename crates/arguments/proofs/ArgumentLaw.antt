-- Questions 2 to 6 as the code asks them. Assumes nothing.
use mathlib.Core.Path.{◌≡◌, refl, ap, sym, ◌∙◌}
use mathlib.Core.Bool.{true, false, not}
use mathlib.Core.List.{List, [], ◌∷◌}
use Prim.Native.Nat.{ℕ}
use lib.ListN.{length}
use Rattle.lockpage.specs.Geometry.{Geometry, Proper, present}
use Rattle.lockpage.proofs.GeometryLaw.{present_proper}
use Rattle.addressing.proofs.MapLaw.{place_of_below}
use Rattle.memory.specs.Layout.{memory_size}
use Rattle.validity.specs.Valid.{valid}
use Rattle.validity.proofs.ValidLaw.{facts}
use Rattle.memory.specs.Memory.{groups}
use Rattle.machine.specs.declared.Kind.{Kind}
use Rattle.machine.specs.declared.Kind.TheVariants.{Read, Entry, Page, Change, Sync, Restart, NewSalt, Identify, Unknown}
use Rattle.machine.specs.Question.{Question, question2, question3, question4, question5, question6, passes, first_no, HasYes}
use Rattle.machine.proofs.QuestionLaw.{Numbered, says_no, goes_on}
use Rattle.arguments.specs.ArgumentQuestions.{argument_questions}

-- γ is any proper geometry
module _ {γ : Geometry} (σ : Proper γ) where
  -- ---- in order

  -- a question that says no, and one that does not
  no : (n : ℕ) (q : Question) (later : List Question) → Numbered n q → passes q ≡ false → first_no (q ∷ later) ≡ n
  no n q later numbered e = sym (says_no n q later (passes q) numbered refl (ap not e))

  yes : (q : Question) (later : List Question) → HasYes q → first_no (q ∷ later) ≡ first_no later
  yes q later e = sym (goes_on q later (passes q) refl (ap not e))

  third : (k : Kind) → Numbered 3 (question3 γ k)
  third Read = refl
  third Entry = refl
  third Page = refl
  third (Change u) = refl
  third Sync = refl
  third Restart = refl
  third NewSalt = refl
  third Identify = refl
  third Unknown = refl

  fifth : (k : Kind) (g a : ℕ) → Numbered 5 (question5 γ k g a)
  fifth Read g a = refl
  fifth Entry g a = refl
  fifth Page g a = refl
  fifth (Change u) g a = refl
  fifth Sync g a = tt
  fifth Restart g a = tt
  fifth NewSalt g a = tt
  fifth Identify g a = tt
  fifth Unknown g a = tt

  module _ (k : Kind) (m disk : List ℕ) (a now : ℕ) (content proof answer : List ℕ) where
    -- the questions from 6, 5, 4 and 3 on, and all of them
    abbrev from_6 : List Question
    from_6 = question6 γ k content proof answer ∷ []

    abbrev from_5 : List Question
    from_5 = question5 γ k (groups γ m) a ∷ from_6

    abbrev from_4 : List Question
    from_4 = question4 γ m now ∷ from_5

    abbrev from_3 : List Question
    from_3 = question3 γ k ∷ from_4

    abbrev asked : List Question
    asked = argument_questions γ k m disk a now content proof answer

    pub no_2 : passes (question2 γ m disk) ≡ false → first_no asked ≡ 2
    no_2 n = no 2 (question2 γ m disk) from_3 refl n

    module _ (y2 : HasYes (question2 γ m disk)) where
      pub no_3 : passes (question3 γ k) ≡ false → first_no asked ≡ 3
      no_3 n = yes (question2 γ m disk) from_3 y2 ∙ no 3 (question3 γ k) from_4 (third k) n

      module _ (y3 : HasYes (question3 γ k)) where
        after_3 : first_no asked ≡ first_no from_4
        after_3 = yes (question2 γ m disk) from_3 y2 ∙ yes (question3 γ k) from_4 y3

        pub no_4 : passes (question4 γ m now) ≡ false → first_no asked ≡ 4
        no_4 n = after_3 ∙ no 4 (question4 γ m now) from_5 refl n

        module _ (y4 : HasYes (question4 γ m now)) where
          after_4 : first_no asked ≡ first_no from_5
          after_4 = after_3 ∙ yes (question4 γ m now) from_5 y4

          pub no_5 : passes (question5 γ k (groups γ m) a) ≡ false → first_no asked ≡ 5
          no_5 n = after_4 ∙ no 5 (question5 γ k (groups γ m) a) from_6 (fifth k (groups γ m) a) n

          module _ (y5 : HasYes (question5 γ k (groups γ m) a)) where
            after_5 : first_no asked ≡ first_no from_6
            after_5 = after_4 ∙ yes (question5 γ k (groups γ m) a) from_6 y5

            pub no_6 : passes (question6 γ k content proof answer) ≡ false → first_no asked ≡ 6
            no_6 n = after_5 ∙ no 6 (question6 γ k content proof answer) [] refl n

            pub none_no : HasYes (question6 γ k content proof answer) → first_no asked ≡ 0
            unfolding first_no
            none_no y6 = after_5 ∙ yes (question6 γ k content proof answer) [] y6

-- a memory to which question 1 says yes
pub memory_sized : (m : List ℕ) → valid present m ≡ true → length m ≡ memory_size present
memory_sized m e = (facts present_proper m e).size

pub ruleset asked_in_order = (no_2, no_3, no_4, no_5, no_6, none_no)

pub ruleset brought = (present_proper, place_of_below)
