-- Formatting, after document 01, "Controller memory": "Formatting takes G and a salt". Assumes nothing: these are definitions.
use Rattle.std.specs.Prelude.{true, false, ◌&&◌, List, [], ◌∷◌, ◌++◌, ℕ, zero, suc, length, eqb, leb}
use Rattle.lockpage.specs.Geometry.{Geometry}
use Rattle.lockpage.specs.Page.{blank_page}
use Rattle.addressing.specs.Map.{disk_size, page_block}
use Rattle.memory.specs.Layout.{memory_size, salt_size}
use Rattle.memory.specs.Memory.{formatted_memory}
use Rattle.machine.specs.Command.{Box, box_of}
use Rattle.machine.specs.Question.{Question, Put, first_no}
use Rattle.machine.specs.Effect.{Store, store, stored}

-- what formatting leaves: its number, memory and disk
pub record FormatOutcome : Type 0 where
  pub number : ℕ
  pub box : Box

abbrev pub format_outcome_of : ℕ → List ℕ → List ℕ → FormatOutcome
format_outcome_of number memory disk = record { number = number; box = box_of memory disk }

-- γ is the box's geometry; the numbers quoted are those at base
module _ (γ : Geometry) where
  -- it "refuses by questions 1 (G, and 616 bytes of memory to fill), 2 and 6 (32 bytes of salt)"
  unfoldable pub format_questions : Box → ℕ → List ℕ → List Question
  format_questions s g salt =
      Put 1 (leb 1 g && (leb g γ.most_groups && eqb (length s.memory) (memory_size γ)))
      ∷ Put 2 (eqb (length s.disk) (disk_size γ g))
      ∷ Put 6 (eqb (length salt) salt_size)
      ∷ []

  -- it "sets every entry to 00 00 00 00 01 00 00 00": the pages of the groups below g, in their order
  unfoldable pub blank_pages : ℕ → List Store
  blank_pages zero = []
  blank_pages (suc g) = blank_pages g ++ (store (page_block γ g) (blank_page γ) ∷ [])

  unfoldable pub format : Box → ℕ → List ℕ → FormatOutcome
  format s g salt =
      let n = first_no (format_questions s g salt) in
      elim (eqb n 0) [
        | true ↦ format_outcome_of 0 (formatted_memory γ g salt) (stored γ s.disk (blank_pages g))
        | false ↦ record { number = n; box = s }
      ]
