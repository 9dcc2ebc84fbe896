-- Questions 2 to 6, which the code asks together. Assumes nothing: these are definitions.
use Rattle.std.specs.Prelude.{List, [], ◌∷◌, ℕ}
use Rattle.lockpage.specs.Geometry.{Geometry}
use Rattle.memory.specs.Memory.{groups}
use Rattle.machine.specs.declared.Kind.{Kind}
use Rattle.machine.specs.Question.{Question, question2, question3, question4, question5, question6}

-- γ is the box's geometry
module _ (γ : Geometry) where
  -- questions 2 to 6
  abbrev pub argument_questions : Kind → List ℕ → List ℕ → ℕ → ℕ → List ℕ → List ℕ → List ℕ → List Question
  argument_questions k m disk a now content proof answer =
      question2 γ m disk
      ∷ question3 γ k
      ∷ question4 γ m now
      ∷ question5 γ k (groups γ m) a
      ∷ question6 γ k content proof answer
      ∷ []
