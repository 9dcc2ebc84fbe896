-- Questions 7 to 10, which the code asks together. Assumes nothing: these are definitions.
use Rattle.std.specs.Prelude.{List, [], ◌∷◌, ℕ}
use Rattle.lockpage.specs.Geometry.{Geometry}
use Rattle.lockpage.specs.declared.Update.{Update}
use Rattle.lockpage.specs.Page.{entry_at}
use Rattle.addressing.specs.Map.{group_of, place_of}
use Rattle.machine.specs.declared.Kind.TheVariants.{Change}
use Rattle.machine.specs.Command.{brought_page}
use Rattle.machine.specs.Question.{Question, question7, question8, question9, question10}

-- γ is the box's geometry
module _ (γ : Geometry) where
  -- questions 7 to 10, as they are put to an update
  abbrev pub change_questions : Update → List ℕ → ℕ → ℕ → List ℕ → List Question
  change_questions u m a now proof =
      let e = entry_at (brought_page γ proof) (place_of γ a) in
      question7 γ (Change u) m (group_of γ a) proof
      ∷ question8 γ (Change u) m (group_of γ a)
      ∷ question9 γ (Change u) now e
      ∷ question10 γ (Change u) now e
      ∷ []
