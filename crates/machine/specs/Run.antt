-- A run: a list of events, each with the box that the one before left, after document 01, "The two runs". Assumes nothing: these are
-- definitions.
use Rattle.std.specs.Prelude.{List, [], ◌∷◌, ℕ}
use Rattle.lockpage.specs.Geometry.{Geometry}
use Rattle.machine.specs.Command.{Box, Command}
use Rattle.machine.specs.Step.{step}
use Rattle.machine.specs.Query.{Query, query_step}

-- what may happen to a box: a command is given; the states of a list of blocks are queried, which "may stand in demand 3's lists"
-- (document 02, Q-1)
pub data Event : Type 0 where
  Given : Command → Event
  Queried : Query → Event

-- "A command is timed by its now"
abbrev pub time_of : Event → ℕ
time_of (Given c) = c.now
time_of (Queried q) = q.now

-- γ is the box's geometry
module _ (γ : Geometry) where
  -- "Each command gets the memory and disk that the one before left, refused or not"
  abbrev pub after : Box → Event → Box
  after s (Given c) = (step γ s c).box
  after s (Queried q) = (query_step γ s q).box

  abbrev pub run : Box → List Event → Box
  run s [] = s
  run s (e ∷ es) = run (after s e) es

  -- P holds of each event of a run and of the box that it gets
  abbrev pub Throughout : (Box → Event → Type 0) → Box → List Event → Type 0
  Throughout P s [] = Unit
  Throughout P s (e ∷ es) = P s e × Throughout P (after s e) es
