-- A formatted box after a store's first put: its counts and entries are known, the blocks behind are free, and the store on demand of the
-- put's record is accepted. Assumes nothing.
use mathlib.Core.Path.{◌≡◌, refl, ap, sym, subst, ◌∙◌}
use mathlib.Core.Bool.{Bool, true, false}
use mathlib.Core.List.{List, [], ◌∷◌}
use Prim.Native.Nat.{ℕ, ◌≤◌, ◌<◌}
use native.Mathlib.Omega.{arith}
use borrow.Author.Tests.{ne_eqb}
use lib.ListN.{length}
use Rattle.lockpage.specs.Geometry.{Geometry, Proper}
use Rattle.lockpage.specs.Size.{block_size}
use Rattle.lockpage.specs.declared.Entry.{Entry}
use Rattle.lockpage.specs.declared.Update.TheVariants.{Write}
use Rattle.lockpage.specs.Update.{latest_time, longest_lock, updated}
use Rattle.addressing.specs.Map.{data_blocks, group_of}
use Rattle.addressing.proofs.MapLaw.{group_of_below}
use Rattle.memory.specs.Memory.{count, groups}
use Rattle.machine.specs.Command.{Box}
use Rattle.machine.specs.Tag.{current_entry}
use Rattle.machine.specs.Question.{Put, refusal, first_no}
use Rattle.machine.specs.Step.{Accepted, step}
use Rattle.machine.proofs.QuestionLaw.{yes_accepted}
use Rattle.machine.proofs.StepLaw.{step_number, accepts}
use Rattle.machine.proofs.AfterLaw.{accepted_after}
use Rattle.versions_machine.specs.Versions.{Versions, start, entered, logged}
use Rattle.versions_machine.specs.Log.{log_block, is_sound}
use Rattle.versions_machine.specs.Allocation.{first_block, whole_box, is_available, next_for, two_available}
use Rattle.versions_machine.specs.Plan.{Order, Plan, Carried, writing, given, carried_out, log_plan}
use Rattle.versions_machine.specs.Foresight.{counts_after, entries_after}
use Rattle.versions_machine.specs.Call.{result_of, box_questions, flush, flush_questions, flush_plan}
use Rattle.versions_machine.proofs.LogLaw.{log_length}
use Rattle.versions_machine.proofs.CarryLaw.{carried_on, carried_result}
use Rattle.versions_machine.proofs.ForesightLaw.{Foresees, refusal_left, foresees_next, counts_few}
use Rattle.versions_machine.proofs.FactsLaw.{facts_sound}
use Rattle.versions_machine.proofs.DoesLaw.{flush_questions_lem, flush_plan_lem}
use Rattle.versions_machine.proofs.FreshLaw.{blank_available, two_behind, write_left, box_yes, Fresh, fresh_foresees}
use Rattle.versions_machine.proofs.FirstLaw.{fresh_accepted}

-- the store then
abbrev pub one_record : ℕ → ℕ → Versions
one_record lock part = entered (start first_block lock) part 1

module _ (γ : Geometry) (lock first : ℕ) (old : List ℕ) (s : Box) where
  -- the first version's write, and what it leaves
  abbrev pub first_write : Order
  first_write = writing 1 first lock old

  abbrev pub counts_then : ℕ → ℕ
  counts_then = counts_after γ (count s.memory) first_write

  abbrev pub entries_then : ℕ → Entry
  entries_then = entries_after (current_entry γ s) first_write

  abbrev pub box_then : Box
  box_then = (step γ s (given γ s first_write)).box

  -- the log block that a store on demand then makes, and what it leaves
  abbrev pub pointer_then : ℕ → ℕ → ℕ → ℕ
  pointer_then g part now = next_for γ (whole_box γ g) box_then now (one_record lock part)

  abbrev pub log_then : ℕ → ℕ → ℕ → List ℕ
  log_then g part now = log_block γ (one_record lock part).records (pointer_then g part now)

  abbrev pub log_write : ℕ → ℕ → ℕ → Order
  log_write g part now = writing 0 now lock (log_then g part now)

  abbrev pub box_stored : ℕ → ℕ → ℕ → Box
  box_stored g part now = (step γ box_then (given γ box_then (log_write g part now))).box

module _ {γ : Geometry} (σ : Proper γ) where
  module _ (g lock first now : ℕ) (old : List ℕ) (s : Box) (f : Fresh σ g s) (limits : (1 ≤ lock) × (lock ≤ longest_lock))
      (order : first ≤ now) (t : now ≤ latest_time) (some_entries : 4 ≤ γ.entries) (some_blocks : 4 ≤ data_blocks γ g)
      (old_size : length old ≡ block_size γ) where
    abbrev s1 : Box
    s1 = box_then γ lock first old s

    accepted : refusal γ s (given γ s (first_write γ lock first old s)) ≡ 0
    accepted =
        accepts σ s (given γ s (first_write γ lock first old s))
        (fresh_accepted σ g lock first s f limits (omega arith) (omega arith) (omega arith) 1 old (omega arith) old_size)

    pub then_foresees : Foresees σ now s1 (counts_then γ lock first old s) (entries_then γ lock first old s)
    then_foresees =
        let o = first_write γ lock first old s in
        let h = foresees_next σ first s (count s.memory) (current_entry γ s) o (fresh_foresees σ g first s f (omega arith)) refl accepted in
        record { valid = h.valid; later = omega (arith, h.later); early = t; counted = h.counted; found = h.found; fits = h.fits }

    pub then_groups : groups γ s1.memory ≡ g
    then_groups = (accepted_after σ s (given γ s (first_write γ lock first old s)) accepted).same_groups ∙ f.same_groups

    pub then_inside : (a : ℕ) → a < data_blocks γ g → a < data_blocks γ (groups γ s1.memory)
    then_inside a l = subst (λ (k : ℕ). a < data_blocks γ k) (sym then_groups) l

    -- the blocks behind it are as they were
    pub then_available : (a : ℕ) → 1 < a → a < data_blocks γ g → is_available γ s1 now 0 a ≡ true
    then_available a other l =
        blank_available σ s1 now 0 a
        (sym (then_foresees.found a (then_inside a l))
        ∙ ap (λ (b : Bool). elim b [ true ↦ updated (Write lock) first (current_entry γ s a) | false ↦ current_entry γ s a ]) (ne_eqb a 1 (λ e. omega arith))
        ∙ f.entries a l)
        (λ e. omega arith)

    pub then_two : two_available γ (whole_box γ g) s1 now 0 ≡ true
    then_two = two_behind σ g s1 now 0 2 (omega arith) (then_available 2 (omega arith) (omega arith)) (then_available 3 (omega arith) (omega arith))

    -- every count is 1 at most
    pub then_few : (k : ℕ) → k < data_blocks γ g → counts_then γ lock first old s (group_of γ k) ≤ 1
    then_few k h =
        let zero-count : (k : ℕ) → k < data_blocks γ g → count s.memory (group_of γ k) ≤ 0 =
        λ k h. omega (arith, f.counts (group_of γ k) (group_of_below σ g k h)) in
        counts_few γ (count s.memory) (first_write γ lock first old s) (group_of γ k) 0 (zero-count 1 (omega arith)) (zero-count k h)

    -- ---- the store on demand

    module _ (part : ℕ) where
      abbrev log : Order
      log = log_write γ lock first old s g part now

      log_accepted : Accepted γ s1 (given γ s1 log)
      unfolding entered start
      log_accepted =
          let counts = counts_then γ lock first old s in
          let G = groups γ s1.memory in
          step_number σ s1 (given γ s1 log)
          ∙ refusal_left σ s1 log (counts (group_of γ 0)) (current_entry γ s 0) then_foresees.valid then_foresees.later t
          (λ l. then_foresees.counted (group_of γ 0) (group_of_below σ G 0 l)) (λ l. then_foresees.found 0 l)
          ∙ write_left σ G 0 now lock (counts (group_of γ 0)) (current_entry γ s 0) log.content limits (then_inside 0 (omega arith))
          (omega (arith, then_few 0 (omega arith))) (f.entries 0 (omega arith))
          (log_length σ (one_record lock part).records (pointer_then γ lock first old s g part now) (omega arith))

      pub stored_foresees : Foresees σ now (box_stored γ lock first old s g part now) (counts_after γ (counts_then γ lock first old s) log)
          (entries_after (entries_then γ lock first old s) log)
      stored_foresees =
          foresees_next σ now s1 (counts_then γ lock first old s) (entries_then γ lock first old s) log then_foresees refl
          (accepts σ s1 (given γ s1 log) log_accepted)

      pub stored_few : (k : ℕ) → k < data_blocks γ g → counts_after γ (counts_then γ lock first old s) log (group_of γ k) ≤ 2
      stored_few k h = counts_few γ (counts_then γ lock first old s) log (group_of γ k) 1 (then_few 0 (omega arith)) (then_few k h)

      pub stored_groups : groups γ (box_stored γ lock first old s g part now).memory ≡ g
      stored_groups = (accepted_after σ s1 (given γ s1 log) (accepts σ s1 (given γ s1 log) log_accepted)).same_groups ∙ then_groups

      pub second_flush : flush γ (whole_box γ g) (one_record lock part) s1 now
          ≡ result_of 0 0 (logged (one_record lock part) (pointer_then γ lock first old s g part now)) (box_stored γ lock first old s g part now)
      unfolding flush entered start log_plan carried_out
      second_flush =
          let ν = one_record lock part in
          let ρ = whole_box γ g in
          let some : length ν.records ≡ 0 → ⊥ = λ z. omega arith in
          let sound = facts_sound σ ν (record { least = limits.0; most = limits.1; room = omega arith }) in
          let plan = flush_plan_lem σ ρ ν s1 now some in
          let carried = carried_on γ s1 log [] log_accepted in
          carried_result γ (flush_questions γ ρ ν s1 now) 0 (flush_plan γ ρ ν s1 now) ν s1
          (ap first_no (flush_questions_lem σ ρ ν s1 now some)
          ∙ yes_accepted (Put 1 (is_sound γ ν) ∷ box_questions γ ρ ν s1 now)
          (sound, box_yes σ ρ ν s1 now then_foresees.valid then_foresees.later t then_two))
          (ap (λ (x : Plan). (carried_out γ s1 x.orders).number) plan ∙ ap (λ (x : Carried). x.number) carried)
          ∙ ap (λ (x : Plan). result_of 0 0 x.after (carried_out γ s1 x.orders).box) plan
          ∙ ap (λ (x : Carried). result_of 0 0 (logged ν (pointer_then γ lock first old s g part now)) x.box) carried
