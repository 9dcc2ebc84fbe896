-- What the steps of a put and of a store on demand take for granted, since the questions have seen to it. Assumes nothing: these are
-- definitions.
use Rattle.std.specs.Prelude.{◌≡◌, true, Option, List, ◌∷◌, ℕ, ◌+◌, ◌≤◌}
use Rattle.lockpage.specs.Geometry.{Geometry}
use Rattle.machine.specs.Command.{Box}
use Rattle.machine.specs.Question.{first_no}
use Rattle.versions_machine.specs.Versions.{Range, entered}
use Rattle.versions_machine.specs.Log.{records_per_block}
use Rattle.versions_machine.specs.Allocation.{next_for}
use Rattle.versions_machine.specs.Plan.{writing, unfreezes, carried_out, log_plan}
use Rattle.versions_machine.specs.Call.{Result, last_part, box_questions, put, put_questions}
use Rattle.versions_orders.specs.Ready.{OrderReady}
use Rattle.versions_state.specs.State.{record_count, state_bytes, versions_in, is_valid}

module _ (γ : Geometry) where
  -- what a step leaves of a call that is accepted
  pub record Leaves (r : Result) (state : List ℕ) (s : Box) : Type 0 where
    pub state_is : state ≡ state_bytes γ r.versions
    pub box_is : s ≡ r.box

  -- the version's own commands are accepted
  pub record VersionReady (s : Box) (block now lock : ℕ) (content : List ℕ) (replaced : Option ℕ) : Type 0 where
    pub box : OrderReady γ s now
    pub accepted : (carried_out γ s (writing block now lock content ∷ unfreezes replaced now)).number ≡ 0

  module _ (ρ : Range) where
    -- the number of the first question put to the box that has no, and block 0; or 0, and the block that is taken
    pub record Allocated (state : List ℕ) (s : Box) (now number block : ℕ) : Type 0 where
      pub number_is : number ≡ first_no (box_questions γ ρ (versions_in state) s now)
      pub no_block : (number ≡ 0 → ⊥) → block ≡ 0
      pub block_is : number ≡ 0 → block ≡ next_for γ ρ s now (versions_in state)

    -- a put's own questions have yes, and block is the one that it takes
    pub record PutReady (state : List ℕ) (s : Box) (part block now : ℕ) : Type 0 where
      pub valid : is_valid γ state ≡ true
      pub asked : first_no (put_questions γ ρ (versions_in state) s part now) ≡ 0
      pub block_is : block ≡ next_for γ ρ s now (versions_in state)

    -- it is accepted
    pub record StoreReady (state : List ℕ) (s : Box) (part block now : ℕ) (content : List ℕ) : Type 0 where
      pub put_ready : PutReady state s part block now
      pub accepted : (put γ ρ (versions_in state) s part now content).number ≡ 0

    -- the log block that its record fills is accepted
    pub record FullLogReady (state : List ℕ) (s : Box) (part block now : ℕ) : Type 0 where
      pub valid : is_valid γ state ≡ true
      pub is_part : part ≤ last_part
      pub last : record_count state + 1 ≡ records_per_block γ
      pub box : OrderReady γ s now
      pub accepted : (carried_out γ s (log_plan γ ρ (entered (versions_in state) part block) s now).orders).number ≡ 0

    -- a store on demand has something to store, its questions have yes, and the pointer is to the block that it takes
    pub record FlushReady (state : List ℕ) (s : Box) (pointer now : ℕ) : Type 0 where
      pub valid : is_valid γ state ≡ true
      pub records : record_count state ≡ 0 → ⊥
      pub asked : first_no (box_questions γ ρ (versions_in state) s now) ≡ 0
      pub pointer_is : pointer ≡ next_for γ ρ s now (versions_in state)
