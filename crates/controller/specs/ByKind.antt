-- A command of a kind that was read from its number and value, which the functions below `command` do not get. Assumes nothing: these are
-- definitions.
use Rattle.std.specs.Prelude.{◌≡◌, ℕ}
use Rattle.lockpage.specs.Geometry.{Geometry}
use Rattle.machine.specs.declared.Kind.{Kind}
use Rattle.machine.specs.Command.{Box, Command, Outcome, command_of, kind_numbered}
use Rattle.machine.specs.Step.{step}

-- γ is the box's geometry
module _ (γ : Geometry) where
  -- o is what the command comes to, whatever number and value name kind k. Its own number and value are not looked at
  abbrev pub ComesTo : Kind → Box → Command → Outcome → Type 0
  ComesTo k s c o =
      (kind value : ℕ) → kind_numbered kind value ≡ k
      → o ≡ step γ s (command_of kind c.block c.now value c.content c.proof c.answer)

-- each kind has a number and a value that name it, so there is one outcome that a command of the kind can come to
pub record Named (k : Kind) : Type 0 where
  pub number : ℕ
  pub value : ℕ
  pub names : kind_numbered number value ≡ k

unfoldable pub EveryKindNamed : Type 0
EveryKindNamed = (k : Kind) → Named k
