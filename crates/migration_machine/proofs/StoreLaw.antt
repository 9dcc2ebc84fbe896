-- A put and a store on demand come to the same in an old box and in that box with its memory migrated. Assumes nothing.
use mathlib.Core.Path.{◌≡◌, refl, ap, ap₂, ◌∙◌}
use mathlib.Core.Bool.{Bool, true, false}
use mathlib.Core.List.{List, [], ◌∷◌, ◌++◌}
use Prim.Native.Nat.{ℕ}
use lib.Dec.{eqb, leb}
use lib.ListN.{length}
use Rattle.lockpage.specs.Geometry.{Geometry, Proper, widened}
use Rattle.memory.specs.Layout.{memory_size}
use Rattle.validity.specs.Valid.{valid}
use Rattle.validity.proofs.ValidLaw.{facts}
use Rattle.machine.specs.Command.{Box}
use Rattle.machine.specs.Question.{Question, Put, first_no}
use Rattle.versions_machine.specs.Versions.{Range, Versions, entered, logged}
use Rattle.versions_machine.specs.Log.{log_block, is_full, is_sound}
use Rattle.versions_machine.specs.Allocation.{next_for}
use Rattle.versions_machine.specs.Plan.{Order, Plan, Carried, plan_of, writing, carried_out, log_plan, due_plan, version_orders, put_plan}
use Rattle.versions_machine.specs.Call.{Result, result_of, last_part, attempted, box_questions, put_questions, put, flush_questions, flush_plan, flush}
use Rattle.versions_machine.proofs.CarryLaw.{either_way}
use Rattle.migration_machine.specs.Migrate.{Wider}
use Rattle.migration_machine.specs.Promise.{moved_box}
use Rattle.migration_machine.proofs.BoxLaw.{question1_moves, question2_moves, question4_moves}
use Rattle.migration_machine.proofs.SearchLaw.{next_moves, two_move}
use Rattle.migration_machine.proofs.OrderLaw.{moved_carried, carried_moves, carried_valid}

module _ (γ : Geometry) (n : ℕ) where
  -- a result with its box migrated
  abbrev pub moved_result : Result → Result
  moved_result r = result_of r.number r.block r.versions (moved_box γ n r.box)

-- γ is the old box's geometry, and the new one has n groups at most
module _ {γ : Geometry} (σ : Proper γ) {n : ℕ} (ω : Wider γ n) (ρ : Range) (ν : Versions) (s : Box) (v : valid γ s.memory ≡ true) (now : ℕ) where
  size : length s.memory ≡ memory_size γ
  size = (facts σ s.memory v).size

  -- the next block that is taken
  next_same : next_for (widened γ n) ρ (moved_box γ n s) now ν ≡ next_for γ ρ s now ν
  next_same = next_moves σ ω s size now ν.reserve ρ ν.taken

  -- ---- plans

  log_plan_moves : log_plan (widened γ n) ρ ν (moved_box γ n s) now ≡ log_plan γ ρ ν s now
  unfolding log_plan log_block
  log_plan_moves =
      ap (λ (pointer : ℕ). plan_of (writing ν.reserve now ν.lock (log_block γ ν.records pointer) ∷ []) (logged ν pointer)) next_same

  due_plan_moves : due_plan (widened γ n) ρ ν (moved_box γ n s) now ≡ due_plan γ ρ ν s now
  unfolding due_plan is_full
  due_plan_moves = ap (λ (p : Plan). elim (is_full γ ν) [ true ↦ p | false ↦ plan_of [] ν ]) log_plan_moves

  flush_plan_moves : flush_plan (widened γ n) ρ ν (moved_box γ n s) now ≡ flush_plan γ ρ ν s now
  unfolding flush_plan
  flush_plan_moves = ap (λ (p : Plan). elim (eqb (length ν.records) 0) [ true ↦ plan_of [] ν | false ↦ p ]) log_plan_moves

  -- ---- questions

  box_questions_move : box_questions (widened γ n) ρ ν (moved_box γ n s) now ≡ box_questions γ ρ ν s now
  box_questions_move =
      λ i.
      question1_moves σ ω s.memory v i
      ∷ question2_moves σ ω s.memory v s.disk i
      ∷ question4_moves σ ω s.memory v now i
      ∷ Put 14 (two_move σ ω s size now ν.reserve ρ i)
      ∷ []

  put_questions_move : (part : ℕ) → put_questions (widened γ n) ρ ν (moved_box γ n s) part now ≡ put_questions γ ρ ν s part now
  unfolding put_questions is_sound
  put_questions_move part = ap (λ (qs : List Question). Put 13 (leb part last_part) ∷ Put 1 (is_sound γ ν) ∷ qs) box_questions_move

  flush_questions_move : flush_questions (widened γ n) ρ ν (moved_box γ n s) now ≡ flush_questions γ ρ ν s now
  unfolding flush_questions is_sound
  flush_questions_move =
      ap (λ (qs : List Question). Put 1 (is_sound γ ν) ∷ elim (eqb (length ν.records) 0) [ true ↦ [] | false ↦ qs ]) box_questions_move

  -- ---- calls

  attempted_moves : (qs : List Question) (block : ℕ) (plan : Plan)
      → attempted (widened γ n) qs block plan ν (moved_box γ n s) ≡ moved_result γ n (attempted γ qs block plan ν s)
  unfolding attempted
  attempted_moves qs block plan =
      ap (λ (d : Carried). tried (moved_box γ n s) d (eqb (first_no qs) 0) (eqb d.number 0)) (carried_moves σ ω s plan.orders v)
      ∙ go (eqb (first_no qs) 0) (eqb (carried_out γ s plan.orders).number 0)
    where
      tried : Box → Carried → Bool → Bool → Result
      tried t d asked carried =
          elim asked [
            | true ↦ elim carried [ true ↦ result_of 0 block plan.after d.box | false ↦ result_of d.number 0 ν t ]
            | false ↦ result_of (first_no qs) 0 ν t
          ]

      go : (asked carried : Bool)
          → tried (moved_box γ n s) (moved_carried γ n (carried_out γ s plan.orders)) asked carried
          ≡ moved_result γ n (tried s (carried_out γ s plan.orders) asked carried)
      go true true = refl
      go true false = refl
      go false carried = refl

-- γ is the old box's geometry, and the new one has n groups at most
module _ {γ : Geometry} (σ : Proper γ) {n : ℕ} (ω : Wider γ n) (ρ : Range) (ν : Versions) (s : Box) (v : valid γ s.memory ≡ true) where
  put_plan_moves : (part now : ℕ) (content : List ℕ)
      → put_plan (widened γ n) ρ ν (moved_box γ n s) part now content ≡ put_plan γ ρ ν s part now content
  unfolding put_plan version_orders
  put_plan_moves part now content =
      let own : ℕ → List Order = λ block. version_orders γ ν part block now content in
      let with : ℕ → Plan → Plan = λ block due. plan_of (own block ++ due.orders) due.after in
      let block = next_for γ ρ s now ν in
      let e = entered ν part block in
      ap (λ (b : ℕ). with b (due_plan (widened γ n) ρ (entered ν part b) (carried_out (widened γ n) (moved_box γ n s) (own b)).box now))
      (next_same σ ω ρ ν s v now)
      ∙ ap (with block)
      (ap (λ (x : Carried). due_plan (widened γ n) ρ e x.box now) (carried_moves σ ω s (own block) v)
      ∙ due_plan_moves σ ω ρ e (carried_out γ s (own block)).box (carried_valid σ s (own block) v) now)

  pub put_moves : (part now : ℕ) (content : List ℕ)
      → put (widened γ n) ρ ν (moved_box γ n s) part now content ≡ moved_result γ n (put γ ρ ν s part now content)
  unfolding put
  put_moves part now content =
      let qs = put_questions γ ρ ν s part now in
      let plan = put_plan γ ρ ν s part now content in
      ap₂ (λ (q : List Question) (p : Plan). attempted (widened γ n) q (next_for (widened γ n) ρ (moved_box γ n s) now ν) p ν (moved_box γ n s))
      (put_questions_move σ ω ρ ν s v now part) (put_plan_moves part now content)
      ∙ ap (λ (b : ℕ). attempted (widened γ n) qs b plan ν (moved_box γ n s)) (next_same σ ω ρ ν s v now)
      ∙ attempted_moves σ ω ρ ν s v now qs (next_for γ ρ s now ν) plan

  pub flush_moves : (now : ℕ) → flush (widened γ n) ρ ν (moved_box γ n s) now ≡ moved_result γ n (flush γ ρ ν s now)
  unfolding flush
  flush_moves now =
      ap₂ (λ (qs : List Question) (plan : Plan). attempted (widened γ n) qs 0 plan ν (moved_box γ n s))
      (flush_questions_move σ ω ρ ν s v now) (flush_plan_moves σ ω ρ ν s v now)
      ∙ attempted_moves σ ω ρ ν s v now (flush_questions γ ρ ν s now) 0 (flush_plan γ ρ ν s now)

-- they leave the memory valid; γ is any proper geometry
module _ {γ : Geometry} (σ : Proper γ) (ρ : Range) (ν : Versions) (s : Box) (v : valid γ s.memory ≡ true) where
  pub put_valid : (part now : ℕ) (content : List ℕ) → valid γ (put γ ρ ν s part now content).box.memory ≡ true
  unfolding put
  put_valid part now content =
      let plan = put_plan γ ρ ν s part now content in
      either_way γ (put_questions γ ρ ν s part now) (next_for γ ρ s now ν) plan ν s (λ (μ : Versions) (t : Box). valid γ t.memory ≡ true)
      (λ d. carried_valid σ s plan.orders v) v

  pub flush_valid : (now : ℕ) → valid γ (flush γ ρ ν s now).box.memory ≡ true
  unfolding flush
  flush_valid now =
      let plan = flush_plan γ ρ ν s now in
      either_way γ (flush_questions γ ρ ν s now) 0 plan ν s (λ (μ : Versions) (t : Box). valid γ t.memory ≡ true)
      (λ d. carried_valid σ s plan.orders v) v
