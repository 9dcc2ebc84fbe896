-- A put whose record fills a log block is accepted on a formatted box: both its writes pass. Assumes nothing.
use mathlib.Core.Path.{◌≡◌, refl, ap, ◌∙◌}
use mathlib.Core.Bool.{true}
use mathlib.Core.List.{List, [], ◌∷◌, ◌++◌}
use Rattle.std.specs.Prelude.{None}
use Prim.Native.Nat.{ℕ, ◌+◌, ◌≤◌, ◌<◌}
use native.Mathlib.Omega.{arith}
use borrow.Author.Tests.{eq-eqb, le-leb}
use lib.ListN.{length, length-append}
use Rattle.lockpage.specs.Geometry.{Geometry, Proper}
use Rattle.lockpage.specs.Size.{block_size}
use Rattle.lockpage.specs.Update.{latest_time, longest_lock}
use Rattle.addressing.specs.Map.{data_blocks, group_of}
use Rattle.addressing.proofs.MapLaw.{group_of_below}
use Rattle.memory.specs.Memory.{count, groups}
use Rattle.machine.specs.Command.{Box}
use Rattle.machine.specs.Tag.{current_entry}
use Rattle.machine.specs.Question.{first_no}
use Rattle.machine.specs.Format.{format}
use Rattle.machine.proofs.QuestionLaw.{yes_accepted}
use Rattle.versions_machine.specs.Versions.{Record, record_of, Versions, versions_of, entered}
use Rattle.versions_machine.specs.Log.{records_per_block, log_block, is_full}
use Rattle.versions_machine.specs.Allocation.{first_block, whole_box, next_for}
use Rattle.versions_machine.specs.Plan.{Plan, writing, unfreezes, log_plan, due_plan, version_orders}
use Rattle.versions_machine.specs.Foresight.{foreseen, counts_after, entries_after}
use Rattle.versions_machine.specs.Call.{last_part, put, put_questions}
use Rattle.versions_machine.specs.Claims.{FullPutIsAccepted, orders_from}
use Rattle.versions_machine.proofs.LogLaw.{log_length}
use Rattle.versions_machine.proofs.FactsLaw.{facts_sound}
use Rattle.versions_machine.proofs.ForesightLaw.{foreseen_on, counts_few}
use Rattle.versions_machine.proofs.AcceptLaw.{put_foreseen_by}
use Rattle.versions_machine.proofs.DoesLaw.{due_full}
use Rattle.versions_machine.proofs.FreshLaw.{start_limits, write_left, Fresh, formatted, fresh_inside, fresh_foresees, fresh_next, fresh_box}

module _ {γ : Geometry} (σ : Proper γ) where
  module _ (g lock part now : ℕ) (content : List ℕ) (records : List Record) (s : Box) (f : Fresh σ g s) (limits : (1 ≤ lock) × (lock ≤ longest_lock))
      (t : now ≤ latest_time) (some_entries : 3 ≤ γ.entries) (some_blocks : 3 ≤ data_blocks γ g) (p : part ≤ last_part)
      (size : length content ≡ block_size γ) (last : length records + 1 ≡ records_per_block γ) where
    abbrev ν : Versions
    ν = versions_of lock (λ k. None) records first_block first_block

    abbrev e : Versions
    e = entered ν part 1

    asked : first_no (put_questions γ (whole_box γ g) ν s part now) ≡ 0
    unfolding put_questions
    asked =
        yes_accepted (put_questions γ (whole_box γ g) ν s part now) (
          le-leb part last_part p,
          (
            facts_sound σ ν (record { least = limits.0; most = limits.1; room = omega arith }),
            fresh_box σ g now s f t some_blocks ν refl,
          ),
        )

    records_are : length e.records ≡ records_per_block γ
    unfolding entered
    records_are = length-append records (record_of part 1 ∷ []) ∙ last

    full : is_full γ e ≡ true
    unfolding is_full
    full = eq-eqb (length e.records) (records_per_block γ) records_are

    log : List ℕ
    log = log_block γ e.records (next_for γ (whole_box γ g) s now e)

    -- its two writes
    orders_are : orders_from γ (whole_box γ g) s ν s part now content ≡ writing 1 now lock content ∷ writing 0 now lock log ∷ []
    unfolding version_orders unfreezes log_plan entered log
    orders_are =
        ap (λ (b : ℕ). version_orders γ ν part b now content ++ (due_plan γ (whole_box γ g) (entered ν part b) s now).orders) (fresh_next σ g now s f t some_blocks)
        ∙ ap (λ (x : Plan). writing 1 now lock content ∷ x.orders) (due_full σ (whole_box γ g) e s now full)

    full_put : (put γ (whole_box γ g) ν s part now content).number ≡ 0
    unfolding foreseen log entered
    full_put =
        let G = groups γ s.memory in
        let o = writing 1 now lock content in
        let l = writing 0 now lock log in
        let counts = count s.memory in
        let none : (k : ℕ) → k < data_blocks γ g → counts (group_of γ k) ≤ 0 = λ k h. omega (arith, f.counts (group_of γ k) (group_of_below σ g k h)) in
        let few = counts_few γ counts o (group_of γ 0) 0 (none 1 (omega arith)) (none 0 (omega arith)) in
        let inside = fresh_inside σ g now s f in
        put_foreseen_by σ (whole_box γ g) ν s s part now content counts (current_entry γ s) (fresh_foresees σ g now s f t) asked
        ∙ ap (foreseen γ G counts (current_entry γ s)) orders_are
        ∙ foreseen_on γ G counts (current_entry γ s) o (l ∷ [])
        (write_left σ G 1 now lock (counts (group_of γ 1)) (current_entry γ s 1) content limits (inside 1 (omega arith))
        (omega (arith, none 1 (omega arith))) (f.entries 1 (omega arith)) size)
        ∙ foreseen_on γ G (counts_after γ counts o) (entries_after (current_entry γ s) o) l []
        (write_left σ G 0 now lock (counts_after γ counts o (group_of γ 0)) (current_entry γ s 0) log limits (inside 0 (omega arith))
        (omega (arith, few)) (f.entries 0 (omega arith)) (log_length σ e.records (next_for γ (whole_box γ g) s now e) (omega (arith, records_are))))

  pub full_put_is_accepted : FullPutIsAccepted γ
  unfolding FullPutIsAccepted
  full_put_is_accepted s g salt lock part now content records a k p t size last some_entries some_blocks =
      full_put g lock part now content records (format γ s g salt).box (formatted σ s g salt a) (start_limits lock k) t some_entries some_blocks p size
      last
