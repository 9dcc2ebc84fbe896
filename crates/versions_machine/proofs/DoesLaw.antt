-- What accepted calls do: specs/After.antt. Assumes nothing.
use mathlib.Core.Path.{◌≡◌, refl, ap, sym, subst, ◌∙◌}
use mathlib.Core.Bool.{Bool, true, false}
use mathlib.Core.List.{List, [], ◌∷◌, ◌++◌}
use Rattle.std.specs.Prelude.{Option, Some, None}
use Rattle.lockpage.specs.declared.State.TheVariants.{Free}
use Rattle.lockpage.specs.State.{state}
use Rattle.machine.specs.Tag.{current_entry}
use Rattle.machine.specs.Claims.{ValidBox}
use Rattle.machine.proofs.StepLaw.{accepts}
use Rattle.validity.proofs.ValidLaw.{facts}
use Rattle.versions_machine.proofs.HoldsLaw.{write_free}
use Prim.Native.Nat.{ℕ, ◌+◌, ◌<◌}
use native.Mathlib.Omega.{arith}
use borrow.Author.Tests.{eq-eqb, eqb-true, eqb-false, ne_eqb}
use lib.ListN.{length, length-append}
use Rattle.lockpage.specs.Geometry.{Geometry, Proper}
use Rattle.addressing.specs.Map.{disk_size, data_blocks}
use Rattle.memory.specs.Memory.{last_time, groups}
use Rattle.machine.specs.Command.{Box}
use Rattle.machine.specs.Question.{Put, first_no, AllYes}
use Rattle.machine.proofs.QuestionLaw.{numbered_to, accepted_yes}
use Rattle.versions_machine.specs.Versions.{Range, Versions, record_of, entered, logged}
use Rattle.versions_machine.specs.Log.{records_per_block, log_block, is_full, is_sound}
use Rattle.versions_machine.specs.Allocation.{is_available, next_for}
use Rattle.versions_machine.specs.Plan.{Order, Plan, Carried, plan_of, writing, unfreezing, unfreezes, given, carried_out, log_plan, due_plan, version_orders}
use Rattle.versions_machine.specs.Plan.{put_plan}
use Rattle.versions_machine.specs.Call.{result_of, put, put_questions, flush, flush_questions, flush_plan, box_questions}
use Rattle.versions_machine.specs.After.{InBox, StillValid, fills, between, PutDoes, FlushDoes}
use Rattle.versions_machine.specs.History.{Each}
use Rattle.versions_machine.proofs.AllocationLaw.{Another, available_free, available_same, next_available_lem, two_available_lem}
use Rattle.versions_machine.proofs.CarryLaw.{carried_first, accepted_done}
use Rattle.versions_machine.proofs.SoundLaw.{chosen}
use Rattle.versions_machine.proofs.AcceptLaw.{put_asked, put_yes, put_at_lem}
use Rattle.versions_machine.proofs.FactsLaw.{sound_facts, facts_sound, logged_sound}
use Rattle.versions_machine.proofs.OrdersLaw.{each_append, carried_groups, NotWritten, carried_append, carried_content, carried_valid, own_entry}

module _ {γ : Geometry} (σ : Proper γ) (ρ : Range) where
  still_valid : (s t : Box) (ν : Versions) (now block : ℕ) → ValidBox γ s → ValidBox γ t → groups γ t.memory ≡ groups γ s.memory
      → is_sound γ ν ≡ true → last_time γ t.memory ≡ now → StillValid γ s now (result_of 0 block ν t)
  still_valid s t ν now block v w same sound time =
      record {
        sound = sound;
        valid = w;
        time = time;
        memory_size_is = (facts σ t.memory w.memory).size ∙ sym (facts σ s.memory v.memory).size;
        disk_size_is = w.disk ∙ ap (disk_size γ) same ∙ sym v.disk;
      }

  -- a log block that is stored goes into a free block
  log_into_free : (ν : Versions) (s t : Box) (now : ℕ) → (carried_out γ t (log_plan γ ρ ν s now).orders).number ≡ 0
      → state now (current_entry γ t ν.reserve) ≡ Free
  unfolding log_plan
  log_into_free ν s t now c =
      let content = log_block γ ν.records (next_for γ ρ s now ν) in
      let o = writing ν.reserve now ν.lock content in
      write_free σ ν.lock t ν.reserve now content (accepts σ t (given γ t o) (carried_first γ t o [] c))

  -- ---- a put

  -- what holds of an unfreeze, and of a log block's write, holds of each order that there is
  pub unfreezes_each : (Q : Order → Type 0) (now : ℕ) (x : Option ℕ) → ((old : ℕ) → x ≡ Some old → Q (unfreezing old now)) → Each Q (unfreezes x now)
  unfolding unfreezes
  unfreezes_each Q now None f = tt
  unfreezes_each Q now (Some old) f = (f old refl, tt)

  pub due_each : (Q : Order → Type 0) (ν : Versions) (t : Box) (now : ℕ)
      → (is_full γ ν ≡ true → (content : List ℕ) → Q (writing ν.reserve now ν.lock content)) → Each Q (due_plan γ ρ ν t now).orders
  unfolding due_plan log_plan
  due_each Q ν t now f = go (is_full γ ν) refl
    where
      go : (x : Bool) → is_full γ ν ≡ x → Each Q (chosen (log_plan γ ρ ν t now) ν x).orders
      go true e = (f e (log_block γ ν.records (next_for γ ρ t now ν)), tt)
      go false e = tt

  put_writes : (ν : Versions) (s : Box) (part now : ℕ) (content : List ℕ) (a : ℕ) → (a ≡ next_for γ ρ s now ν → ⊥)
      → (fills γ ρ ν s part now ≡ true → a ≡ ν.reserve → ⊥)
      → Each (λ (o : Order). NotWritten a o.update o.block) (put_plan γ ρ ν s part now content).orders
  unfolding put_plan version_orders
  put_writes ν s part now content a n m =
      let block = next_for γ ρ s now ν in (
        n,
        each_append (λ (o : Order). NotWritten a o.update o.block) (unfreezes (ν.newest part) now) _
            (unfreezes_each (λ (o : Order). NotWritten a o.update o.block) now (ν.newest part) (λ old e. tt))
            (due_each (λ (o : Order). NotWritten a o.update o.block) (entered ν part block) (between γ ρ ν s part now content) now
            (λ full log x. m full (x ∙ entered_reserve ν part block))),
      )
    where
      entered_reserve : (ν : Versions) (part block : ℕ) → (entered ν part block).reserve ≡ ν.reserve
      entered_reserve ν part block = unfold entered in refl

  pub due_full : (ν : Versions) (t : Box) (now : ℕ) → is_full γ ν ≡ true → due_plan γ ρ ν t now ≡ log_plan γ ρ ν t now
  unfolding due_plan
  due_full ν t now e = rw (due_plan, e)

  pub due_none : (ν : Versions) (t : Box) (now : ℕ) → is_full γ ν ≡ false → due_plan γ ρ ν t now ≡ plan_of [] ν
  unfolding due_plan
  due_none ν t now e = rw (due_plan, e)

  entered_sound : (ν : Versions) (part block : ℕ) (t : Box) (now : ℕ) → is_sound γ ν ≡ true
      → is_sound γ (due_plan γ ρ (entered ν part block) t now).after ≡ true
  unfolding log_plan entered is_full
  entered_sound ν part block t now h = go (is_full γ (entered ν part block)) refl
    where
      go : (x : Bool) → is_full γ (entered ν part block) ≡ x → is_sound γ (due_plan γ ρ (entered ν part block) t now).after ≡ true
      go true e =
          let f = sound_facts σ ν h in
          let e' = entered ν part block in
          subst (λ (p : Plan). is_sound γ p.after ≡ true) (sym (due_full e' t now e))
          (logged_sound σ e' (next_for γ ρ t now e') f.least f.most (omega (arith, f.room)))
      go false e =
          let f = sound_facts σ ν h in
          let e' = entered ν part block in
          let one : length e'.records ≡ length ν.records + 1 = length-append ν.records (record_of part block ∷ []) in
          let n = eqb-false (length e'.records) (records_per_block γ) e in
          subst (λ (p : Plan). is_sound γ p.after ≡ true) (sym (due_none e' t now e))
          (facts_sound σ e' (record { least = f.least; most = f.most; room = omega (arith, f.room, one, n) }))

  -- in the box that the version's own commands left there is still a block to take
  pub still_available : (ν : Versions) (s : Box) (part now : ℕ) (content : List ℕ) → AllYes (put_questions γ ρ ν s part now) → InBox γ ρ s
      → (carried_out γ s (version_orders γ ν part (next_for γ ρ s now ν) now content)).number ≡ 0
      → Another (is_available γ (between γ ρ ν s part now content) now ν.reserve) ρ.first ρ.number (next_for γ ρ s now ν)
  unfolding put_questions
  still_available ν s part now content y inside c =
      let block = next_for γ ρ s now ν in
      let two = two_available_lem γ ρ s now ν block y.1.1.1.1.1.0 in
      let k = two.block in
      let l : k < data_blocks γ (groups γ s.memory) = omega (arith, two.most) in
      let same = own_entry σ ν s part block now content c k l two.other (available_free γ s now ν.reserve k two.passes) in
      record {
        block = k;
        least = two.least;
        most = two.most;
        passes = available_same γ s (between γ ρ ν s part now content) now ν.reserve k same two.passes;
        other = two.other;
      }

  does : (ν : Versions) (s : Box) (part now : ℕ) (content : List ℕ) → AllYes (put_questions γ ρ ν s part now)
      → (carried_out γ s (put_plan γ ρ ν s part now content).orders).number ≡ 0
      → PutDoes γ ρ ν s part now content
      (result_of 0 (next_for γ ρ s now ν) (put_plan γ ρ ν s part now content).after
      (carried_out γ s (put_plan γ ρ ν s part now content).orders).box)
  unfolding put_questions put_plan version_orders entered log_plan logged
  does ν s part now content y c =
      let block = next_for γ ρ s now ν in
      let e = entered ν part block in
      let t = between γ ρ ν s part now content in
      let own = version_orders γ ν part block now content in
      let due = due_plan γ ρ e t now in
      let two = two_available_lem γ ρ s now ν block y.1.1.1.1.1.0 in
      let valid = carried_valid σ now s (writing block now ν.lock content) (unfreezes (ν.newest part) now ++ due.orders)
      (put_at_lem σ ρ ν s part now content) c in
      record {
        answered = refl;
        was_available = next_available_lem γ ρ s now ν two.block two.least two.most two.passes;
        next_reserve =
            λ full inside.
            let one = still_available ν s part now content y inside (carried_append σ s own due.orders c).0 in
            subst (λ (p : Plan). is_available γ t now ν.reserve p.after.reserve ≡ true) (sym (due_full e t now full))
            (next_available_lem γ ρ t now e one.block one.least one.most one.passes);
        same_reserve = λ x. subst (λ (p : Plan). p.after.reserve ≡ ν.reserve) (sym (due_none e t now x)) refl;
        log_free =
            λ full.
            log_into_free e t t now
            (ap (λ (p : Plan). (carried_out γ t p.orders).number) (sym (due_full e t now full))
            ∙ sym (ap (λ (x : Carried). x.number) (carried_append σ s own due.orders c).1)
            ∙ c);
        untouched = λ a n m. carried_content σ a s (own ++ due.orders) (put_writes ν s part now content a n m) c;
        still =
            still_valid s (carried_out γ s (own ++ due.orders)).box due.after now block (put_asked σ ρ ν s part now y).valid valid.0
            (carried_groups σ s (own ++ due.orders) c) (entered_sound ν part block t now y.1.0) valid.1;
      }

  pub put_does : (ν : Versions) (s : Box) (part now : ℕ) (content : List ℕ) → (put γ ρ ν s part now content).number ≡ 0
      → PutDoes γ ρ ν s part now content (put γ ρ ν s part now content)
  unfolding put
  put_does ν s part now content a =
      let d =
      accepted_done γ (put_questions γ ρ ν s part now) (next_for γ ρ s now ν) (put_plan γ ρ ν s part now content) ν s a in
      subst (PutDoes γ ρ ν s part now content) (sym d.result) (does ν s part now content (put_yes σ ρ ν s part now d.asked) d.carried)

  -- ---- a store on demand

  pub flush_questions_lem : (ν : Versions) (s : Box) (now : ℕ) → (length ν.records ≡ 0 → ⊥)
      → flush_questions γ ρ ν s now ≡ Put 1 (is_sound γ ν) ∷ box_questions γ ρ ν s now
  unfolding flush_questions
  flush_questions_lem ν s now n = rw (flush_questions, ne_eqb (length ν.records) 0 n)

  pub flush_none : (ν : Versions) (s : Box) (now : ℕ) → length ν.records ≡ 0
      → (flush_questions γ ρ ν s now ≡ Put 1 (is_sound γ ν) ∷ []) × (flush_plan γ ρ ν s now ≡ plan_of [] ν)
  unfolding flush_questions flush_plan
  flush_none ν s now e =
      (rw (flush_questions, eq-eqb (length ν.records) 0 e), rw (flush_plan, eq-eqb (length ν.records) 0 e))

  pub flush_plan_lem : (ν : Versions) (s : Box) (now : ℕ) → (length ν.records ≡ 0 → ⊥) → flush_plan γ ρ ν s now ≡ log_plan γ ρ ν s now
  unfolding flush_plan
  flush_plan_lem ν s now n = rw (flush_plan, ne_eqb (length ν.records) 0 n)

  pub flush_yes : (ν : Versions) (s : Box) (now : ℕ) → (length ν.records ≡ 0 → ⊥) → first_no (flush_questions γ ρ ν s now) ≡ 0
      → AllYes (Put 1 (is_sound γ ν) ∷ box_questions γ ρ ν s now)
  unfolding numbered_to
  flush_yes ν s now n e =
      accepted_yes 14 (Put 1 (is_sound γ ν) ∷ box_questions γ ρ ν s now) refl (ap first_no (sym (flush_questions_lem ν s now n)) ∙ e)

  flush_asked : (ν : Versions) (s : Box) (now : ℕ) → AllYes (Put 1 (is_sound γ ν) ∷ box_questions γ ρ ν s now) → ValidBox γ s
  flush_asked ν s now y = record { memory = y.1.0; disk = eqb-true (length s.disk) (disk_size γ (groups γ s.memory)) y.1.1.0 }

  stores : (ν : Versions) (s : Box) (now : ℕ) → AllYes (Put 1 (is_sound γ ν) ∷ box_questions γ ρ ν s now)
      → (carried_out γ s (log_plan γ ρ ν s now).orders).number ≡ 0
      → FlushDoes γ ρ ν s now
      (result_of 0 0 (log_plan γ ρ ν s now).after (carried_out γ s (log_plan γ ρ ν s now).orders).box)
  unfolding log_plan logged
  stores ν s now y c =
      let pointer = next_for γ ρ s now ν in
      let o = writing ν.reserve now ν.lock (log_block γ ν.records pointer) in
      let two = two_available_lem γ ρ s now ν ν.reserve y.1.1.1.1.0 in
      let f = sound_facts σ ν y.0 in
      let valid = carried_valid σ now s o [] (refl, tt) c in
      record {
        next_reserve = next_available_lem γ ρ s now ν two.block two.least two.most two.passes;
        untouched = λ a n. carried_content σ a s (o ∷ []) (n, tt) c;
        log_free = log_into_free ν s s now c;
        still =
            still_valid s (carried_out γ s (o ∷ [])).box (logged ν pointer) now 0 (flush_asked ν s now y) valid.0
            (carried_groups σ s (o ∷ []) c) (logged_sound σ ν pointer f.least f.most (omega (arith, f.room))) valid.1;
      }

  pub flush_does : (ν : Versions) (s : Box) (now : ℕ) → (flush γ ρ ν s now).number ≡ 0 → (length ν.records ≡ 0 → ⊥)
      → FlushDoes γ ρ ν s now (flush γ ρ ν s now)
  unfolding flush
  flush_does ν s now a n =
      let d = accepted_done γ (flush_questions γ ρ ν s now) 0 (flush_plan γ ρ ν s now) ν s a in
      let plan = flush_plan_lem ν s now n in
      subst (FlushDoes γ ρ ν s now)
      (sym (d.result ∙ ap (λ (p : Plan). result_of 0 0 p.after (carried_out γ s p.orders).box) plan))
      (stores ν s now (flush_yes ν s now n d.asked)
      (ap (λ (p : Plan). (carried_out γ s p.orders).number) (sym plan) ∙ d.carried))
