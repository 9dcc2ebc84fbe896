-- Questions 1 to 6, which every kind is asked, before those of its own. Assumes nothing: these are definitions.
use Rattle.std.specs.Prelude.{List, ◌∷◌}
use Rattle.lockpage.specs.Geometry.{Geometry}
use Rattle.machine.specs.declared.Kind.{Kind}
use Rattle.machine.specs.Command.{Box, Command}
use Rattle.machine.specs.Question.{Question, question1}
use Rattle.arguments.specs.ArgumentQuestions.{argument_questions}

-- γ is the box's geometry
module _ (γ : Geometry) where
  abbrev pub first_questions : Kind → Box → Command → List Question
  first_questions k s c =
      question1 γ s.memory
      ∷ argument_questions γ k s.memory s.disk c.block c.now c.content c.proof c.answer
