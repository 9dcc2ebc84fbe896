-- No run shows a protected block as free, by kind 2 or in a query's list, which "may stand in demand 3's lists" (document 02, Q-1): one
-- claim about two whole lists, as demand 3. Its proof is proofs/QueryTheorems.antt, protected-not-free.
use Rattle.std.specs.Prelude.{◌≡◌, List, ℕ, ◌*◌, ◌<◌, get_or}
use Rattle.octets.specs.Part.{AreBytes}
use Rattle.lockpage.specs.Geometry.{Geometry}
use Rattle.lockpage.specs.declared.State.TheVariants.{Free}
use Rattle.lockpage.specs.State.{state_number}
use Rattle.memory.specs.Memory.{held, none}
use Rattle.machine.specs.Command.{Box}
use Rattle.machine.specs.Effect.{state_place}
use Rattle.machine.specs.Step.{step, Accepted}
use Rattle.machine.specs.Query.{number_count, block_number, shown_size, query_step, AcceptedQuery}
use Rattle.machine.specs.Run.{Event, Given, Queried, Throughout}
use Rattle.machine.specs.Protection.{Unforged, Protected}

-- γ is the box's geometry; the numbers quoted are those at base
module _ (γ : Geometry) where
  -- P holds of each state byte that is shown of block b during those times: that of an accepted kind 2 on it stands behind the entry and the
  -- time left, that of number i of an accepted list at 9 × i
  abbrev pub StateShown : ℕ → (ℕ → Type 0) → (ℕ → Type 0) → Box → Event → Type 0
  StateShown b P during s (Given c) = Accepted γ s c → c.kind ≡ 2 → c.block ≡ b → during c.now
      → P (get_or (step γ s c).answer state_place 0)
  StateShown b P during s (Queried q) = AcceptedQuery γ s q → (i : ℕ) → i < number_count q.blocks → block_number q.blocks i ≡ b → during q.now
      → P (get_or (query_step γ s q).answer (shown_size * i) 0)

  -- during those times block b is not shown as free
  abbrev pub NotShownFree : ℕ → (ℕ → Type 0) → Box → Event → Type 0
  NotShownFree b = StateShown b (λ shown. shown ≡ state_number Free → ⊥)

  -- the run es from s does not show block b as free where it is protected
  abbrev pub NeverFree : Box → ℕ → List Event → List Event → List Event → Type 0
  NeverFree s b xs ys es = Throughout γ (NotShownFree b (Protected γ s b xs ys)) s es

  -- under demand 3's premises neither run does
  unfoldable pub ProtectedNotFree : Type 0
  ProtectedNotFree = (s : Box) (b : ℕ) (xs ys : List Event) → AreBytes s.disk → held γ s.memory ≡ none
      → Throughout γ (Unforged γ) s xs → Throughout γ (Unforged γ) s ys → NeverFree s b xs ys xs × NeverFree s b xs ys ys
