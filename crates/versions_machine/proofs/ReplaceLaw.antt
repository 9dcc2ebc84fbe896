-- On a formatted box the put that replaces a store's first version is accepted: its write, and its unfreeze. Assumes nothing.
use mathlib.Core.Path.{◌≡◌, refl, ap, sym, subst, ◌∙◌}
use mathlib.Core.Bool.{true, false}
use mathlib.Core.List.{List, [], ◌∷◌, ◌++◌}
use Rattle.std.specs.Prelude.{Option, None}
use Prim.Native.Nat.{ℕ, ◌≤◌, ◌<◌}
use native.Mathlib.Omega.{arith}
use borrow.Author.Tests.{ne_eqb, le-leb, lt-ltb}
use lib.ListN.{length}
use Rattle.lockpage.specs.Geometry.{Geometry, Proper}
use Rattle.lockpage.specs.Size.{block_size}
use Rattle.lockpage.specs.declared.Entry.{Entry}
use Rattle.lockpage.specs.declared.State.TheVariants.{Frozen}
use Rattle.lockpage.specs.declared.Update.TheVariants.{Write, Unfreeze}
use Rattle.lockpage.specs.Entry.{flag, frozen_flag}
use Rattle.lockpage.specs.Update.{latest_time, longest_lock, updated, allowed}
use Rattle.lockpage.proofs.EntryLaw.{frozen_yes}
use Rattle.lockpage.proofs.StateLaw.{state_frozen}
use Rattle.lockpage.proofs.UpdateLaw.{written_flag, written_word, unfrozen_within}
use Rattle.addressing.specs.Map.{data_blocks, group_of}
use Rattle.memory.specs.Memory.{groups}
use Rattle.validity.specs.Valid.{count_limit}
use Rattle.machine.specs.Command.{Box}
use Rattle.machine.specs.Tag.{current_entry}
use Rattle.machine.specs.Question.{first_no}
use Rattle.machine.specs.Step.{step}
use Rattle.machine.specs.Format.{format}
use Rattle.machine.proofs.QuestionLaw.{yes_accepted}
use Rattle.versions_machine.specs.Versions.{Versions, start, entered}
use Rattle.versions_machine.specs.Log.{records_per_block, is_full}
use Rattle.versions_machine.specs.Allocation.{first_block, whole_box, next_for}
use Rattle.versions_machine.specs.Plan.{Plan, writing, unfreezing, unfreezes, given, due_plan, version_orders}
use Rattle.versions_machine.specs.Foresight.{questions_left, counts_after, entries_after, foreseen}
use Rattle.versions_machine.specs.Call.{Result, last_part, put, put_questions}
use Rattle.versions_machine.specs.Claims.{ReplacingPutIsAccepted, orders_from}
use Rattle.versions_machine.proofs.ForesightLaw.{Foresees, foreseen_on, counts_few}
use Rattle.versions_machine.proofs.AcceptLaw.{put_foreseen_by}
use Rattle.versions_machine.proofs.FactsLaw.{facts_sound}
use Rattle.versions_machine.proofs.DoesLaw.{due_none, put_does}
use Rattle.versions_machine.proofs.SoundLaw.{newest_own}
use Rattle.versions_machine.proofs.FreshLaw.{start_limits, next_behind, write_left, box_yes, Fresh, formatted}
use Rattle.versions_machine.proofs.FirstLaw.{fresh_put}
use Rattle.versions_machine.proofs.SecondLaw.{one_record, counts_then, entries_then, box_then, then_foresees, then_inside, then_available, then_two}
use Rattle.versions_machine.proofs.SecondLaw.{then_few}

module _ {γ : Geometry} (σ : Proper γ) where
  -- an unfreeze of a frozen block: what can still say no to it has yes, if its group's count is below the limit
  pub unfreeze_left : (G b now n : ℕ) (e : Entry) → b < data_blocks γ G → n < count_limit → flag e.stamp ≡ frozen_flag → e.word ≤ longest_lock
      → now ≤ latest_time → first_no (questions_left γ G n e (unfreezing b now)) ≡ 0
  unfreeze_left G b now n e inside few frozen short t =
      yes_accepted (questions_left γ G n e (unfreezing b now)) (
        lt-ltb b (data_blocks γ G) inside,
        (
          refl,
          (
            lt-ltb n count_limit few,
            (ap (allowed Unfreeze) (state_frozen now e (frozen_yes e.stamp frozen)) ∙ frozen_allowed, (unfrozen_within now e t short, tt)),
          ),
        ),
      )
    where
      frozen_allowed : allowed Unfreeze Frozen ≡ true
      frozen_allowed = unfold allowed in refl

  module _ (g lock part first now : ℕ) (old content : List ℕ) (s : Box) (f : Fresh σ g s) (limits : (1 ≤ lock) × (lock ≤ longest_lock))
      (order : first ≤ now) (t : now ≤ latest_time) (some_entries : 4 ≤ γ.entries) (some_blocks : 4 ≤ data_blocks γ g) (p : part ≤ last_part)
      (old_size : length old ≡ block_size γ) (size : length content ≡ block_size γ) where
    -- the store and the box after the first version's write
    abbrev ν : Versions
    ν = one_record lock part

    abbrev counts : ℕ → ℕ
    counts = counts_then γ lock first old s

    abbrev entries : ℕ → Entry
    entries = entries_then γ lock first old s

    abbrev s1 : Box
    s1 = box_then γ lock first old s

    foresees : Foresees σ now s1 counts entries
    foresees = then_foresees σ g lock first now old s f limits order t some_entries some_blocks old_size

    inside : (a : ℕ) → a < data_blocks γ g → a < data_blocks γ (groups γ s1.memory)
    inside = then_inside σ g lock first now old s f limits order t some_entries some_blocks old_size

    asked : first_no (put_questions γ (whole_box γ g) ν s1 part now) ≡ 0
    unfolding put_questions entered start
    asked =
        yes_accepted (put_questions γ (whole_box γ g) ν s1 part now) (
          le-leb part last_part p,
          (
            facts_sound σ ν (record { least = limits.0; most = limits.1; room = omega arith }),
            box_yes σ (whole_box γ g) ν s1 now foresees.valid foresees.later t
                (then_two σ g lock first now old s f limits order t some_entries some_blocks old_size),
          ),
        )

    next : next_for γ (whole_box γ g) s1 now ν ≡ 2
    unfolding entered start
    next =
        next_behind σ g s1 now 0 1 (omega arith)
        (then_available σ g lock first now old s f limits order t some_entries some_blocks old_size 2 (omega arith) (omega arith))

    -- its two commands
    orders_are : orders_from γ (whole_box γ g) s1 ν s1 part now content ≡ writing 2 now lock content ∷ unfreezing 1 now ∷ []
    unfolding version_orders unfreezes entered start is_full
    orders_are =
        let ρ = whole_box γ g in
        let full : is_full γ (entered ν part 2) ≡ false = ne_eqb 2 (records_per_block γ) (λ e. omega arith) in
        ap (λ (b : ℕ). version_orders γ ν part b now content ++ (due_plan γ ρ (entered ν part b) s1 now).orders) next
        ∙ ap (λ (x : Plan). version_orders γ ν part 2 now content ++ x.orders) (due_none σ ρ (entered ν part 2) s1 now full)
        ∙ ap (λ (x : Option ℕ). writing 2 now lock content ∷ (unfreezes x now ++ [])) (newest_own (λ k. None) part 1)

    replacing : (put γ (whole_box γ g) ν s1 part now content).number ≡ 0
    unfolding foreseen
    replacing =
        let G = groups γ s1.memory in
        let w = writing 2 now lock content in
        let u = unfreezing 1 now in
        let one : (k : ℕ) → k < data_blocks γ g → counts (group_of γ k) ≤ 1 =
        then_few σ g lock first now old s f limits order t some_entries some_blocks old_size in
        let two = counts_few γ counts w (group_of γ 1) 1 (one 2 (omega arith)) (one 1 (omega arith)) in
        let found : Entry = updated (Write lock) first (current_entry γ s 1) in
        put_foreseen_by σ (whole_box γ g) ν s1 s1 part now content counts entries foresees asked
        ∙ ap (foreseen γ G counts entries) orders_are
        ∙ foreseen_on γ G counts entries w (u ∷ [])
        (write_left σ G 2 now lock (counts (group_of γ 2)) (current_entry γ s 2) content limits (inside 2 (omega arith))
        (omega (arith, one 2 (omega arith))) (f.entries 2 (omega arith)) size)
        ∙ foreseen_on γ G (counts_after γ counts w) (entries_after entries w) u []
        (unfreeze_left G 1 now (counts_after γ counts w (group_of γ 1)) found (inside 1 (omega arith)) (omega (arith, two))
        (written_flag lock first (current_entry γ s 1)) (omega (arith, written_word lock first (current_entry γ s 1), limits.1)) t)

  pub replacing_put_is_accepted : ReplacingPutIsAccepted γ
  unfolding ReplacingPutIsAccepted
  replacing_put_is_accepted s g salt lock part first second old content a k p order t old_size size some_entries some_blocks =
      let ρ = whole_box γ g in
      let x = (format γ s g salt).box in
      let f = formatted σ s g salt a in
      let limits = start_limits lock k in
      let ν = entered (start first_block lock) part 1 in
      let s1 = (step γ x (given γ x (writing 1 first lock old))).box in
      let number = replacing g lock part first second old content x f limits order t some_entries some_blocks p old_size size in
      let block =
      (put_does σ ρ ν s1 part second content number).answered
      ∙ next g lock part first second old content x f limits order t some_entries some_blocks p old_size size in
      subst
      (λ (r : Result).
      ((put γ ρ r.versions r.box part second content).number ≡ 0) × ((put γ ρ r.versions r.box part second content).block ≡ 2))
      (sym (fresh_put σ g lock first x f limits (omega arith) (omega arith) (omega arith) part old p old_size)) (number, block)
