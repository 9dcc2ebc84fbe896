-- A list of calls, each with the state and the box that the one before left, after document 02, Q-3: "Where the keeper alone commands
-- the box, its state handed on from its start". Assumes nothing: these are definitions.
use Rattle.std.specs.Prelude.{List, [], ◌∷◌, ℕ}
use Rattle.lockpage.specs.Geometry.{Geometry}
use Rattle.machine.specs.Command.{Box}
use Rattle.machine.specs.Run.{Event, after}
use Rattle.versions_machine.specs.Versions.{Range, Versions, start}
use Rattle.versions_machine.specs.Call.{Result, put, flush}

-- a put of a part at a time, with its content; a store on demand; or what happens to the box between them: a command, or a query
pub data Call : Type 0 where
  PutPart : ℕ → ℕ → List ℕ → Call
  Flush : ℕ → Call
  Between : Event → Call

-- the store's state and the box
pub record Site : Type 0 where
  pub versions : Versions
  pub box : Box

abbrev pub site_of : Versions → Box → Site
site_of versions box = record { versions = versions; box = box }

module _ (γ : Geometry) (ρ : Range) where
  -- a store that was just started, and a box
  abbrev pub start_site : ℕ → Box → Site
  start_site lock s = site_of (start ρ.first lock) s

  abbrev pub put_at : Site → ℕ → ℕ → List ℕ → Result
  put_at x part now content = put γ ρ x.versions x.box part now content

  abbrev pub called : Site → Call → Site
  called x (PutPart part now content) = site_of (put_at x part now content).versions (put_at x part now content).box
  called x (Flush now) = site_of (flush γ ρ x.versions x.box now).versions (flush γ ρ x.versions x.box now).box
  called x (Between e) = site_of x.versions (after γ x.box e)

  abbrev pub calls : Site → List Call → Site
  calls x [] = x
  calls x (c ∷ cs) = calls (called x c) cs

  -- P holds of each call and of the state and box that it gets
  abbrev pub Throughout : (Site → Call → Type 0) → Site → List Call → Type 0
  Throughout P x [] = Unit
  Throughout P x (c ∷ cs) = P x c × Throughout P (called x c) cs
