-- A list of calls, each with the bytes and the box that the one before left. Assumes nothing: these are definitions.
use Rattle.std.specs.Prelude.{List, [], ◌∷◌, ℕ}
use Rattle.lockpage.specs.Geometry.{Geometry}
use Rattle.machine.specs.Command.{Box}
use Rattle.machine.specs.Run.{after}
use Rattle.versions_machine.specs.Versions.{Range}
use Rattle.versions_machine.specs.Run.{Call, PutPart, Flush, Between}
use Rattle.versions_bytes.specs.Call.{put_bytes, flush_bytes}

-- the state's bytes and the box
pub record Buffers : Type 0 where
  pub state : List ℕ
  pub box : Box

abbrev pub buffers_of : List ℕ → Box → Buffers
buffers_of state box = record { state = state; box = box }

module _ (γ : Geometry) (ρ : Range) where
  abbrev pub called_on : Buffers → Call → Buffers
  called_on x (PutPart part now content) =
      buffers_of (put_bytes γ ρ x.state x.box part now content).state (put_bytes γ ρ x.state x.box part now content).box
  called_on x (Flush now) = buffers_of (flush_bytes γ ρ x.state x.box now).state (flush_bytes γ ρ x.state x.box now).box
  called_on x (Between e) = buffers_of x.state (after γ x.box e)

  abbrev pub calls_on : Buffers → List Call → Buffers
  calls_on x [] = x
  calls_on x (c ∷ cs) = calls_on (called_on x c) cs
