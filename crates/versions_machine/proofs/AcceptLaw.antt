-- Which puts are accepted. Assumes nothing.
use mathlib.Core.Path.{◌≡◌, refl, ap, ◌∙◌}
use mathlib.Core.Bool.{Bool, true, false}
use mathlib.Mathlib.Data.Bool.Basic.{and_elim_left, and_elim_right}
use mathlib.Core.List.{List, [], ◌∷◌, ◌++◌}
use Rattle.std.specs.Prelude.{Option, Some, None}
use Prim.Native.Nat.{ℕ, ◌≤◌}
use borrow.Author.Tests.{eqb-true, leb-true}
use lib.ListN.{length}
use lib.Dec.{eqb, leb}
use Rattle.lockpage.specs.Geometry.{Geometry, Proper}
use Rattle.lockpage.specs.Update.{latest_time}
use Rattle.lockpage.specs.declared.Entry.{Entry}
use Rattle.lockpage.specs.declared.Update.TheVariants.{Write}
use Rattle.addressing.specs.Map.{disk_size}
use Rattle.memory.specs.Memory.{count, last_time, groups}
use Rattle.machine.specs.Command.{Box, kind_of}
use Rattle.machine.specs.Tag.{current_entry}
use Rattle.machine.specs.Question.{Question, Put, questions, refusal, first_no, AllYes}
use Rattle.machine.specs.Step.{step}
use Rattle.machine.specs.Claims.{ValidBox, ByteBox}
use Rattle.machine.proofs.QuestionLaw.{numbered_to, accepted_yes, yes_accepted, all_yes}
use Rattle.machine.proofs.StepLaw.{step_number, accepts}
use Rattle.versions_machine.specs.Versions.{Range, Versions, entered}
use Rattle.versions_machine.specs.Log.{is_sound, log_block, is_full}
use Rattle.versions_machine.specs.Allocation.{next_for}
use Rattle.versions_machine.specs.Plan.{Plan, Order, Carried, given, carried_out, unfreezes, log_plan, due_plan, version_orders, put_plan}
use Rattle.versions_machine.specs.Foresight.{foreseen}
use Rattle.versions_machine.specs.Call.{attempted, box_questions, put, put_questions, flush, flush_questions, flush_plan}
use Rattle.versions_machine.specs.Claims.{EachYes, Passes, orders_from}
use Rattle.versions_machine.proofs.CarryLaw.{carried_on, carried_first, carried_rest, carried_number, accepted_done}
use Rattle.versions_machine.proofs.SoundLaw.{chosen}
use Rattle.versions_machine.proofs.ForesightLaw.{EachAt, Foresees, foresees_first, is_foreseen, foreseen_alike}
use Rattle.versions_machine.proofs.LogLaw.{log_alike}

module _ {γ : Geometry} (σ : Proper γ) (ρ : Range) where
  -- ---- the commands

  each_yes : (s : Box) (os : List Order) → (carried_out γ s os).number ≡ 0 → EachYes γ s os
  unfolding questions
  each_yes s [] h = tt
  each_yes s (o ∷ os) h =
      let c = given γ s o in (
        all_yes σ (kind_of c) s c refl (accepts σ s c (carried_first γ s o os h)),
        each_yes (step γ s c).box os (carried_rest γ s o os h),
      )

  each_accepted : (s : Box) (os : List Order) → EachYes γ s os → (carried_out γ s os).number ≡ 0
  unfolding carried_out refusal
  each_accepted s [] h = refl
  each_accepted s (o ∷ os) h =
      let c = given γ s o in
      ap (λ (x : Carried). x.number) (carried_on γ s o os (step_number σ s c ∙ yes_accepted (questions γ s c) h.0))
      ∙ each_accepted (step γ s c).box os h.1

  -- ---- a put

  pub put_yes : (ν : Versions) (s : Box) (part now : ℕ) → first_no (put_questions γ ρ ν s part now) ≡ 0 → AllYes (put_questions γ ρ ν s part now)
  unfolding put_questions numbered_to
  put_yes ν s part now e = accepted_yes 14 (put_questions γ ρ ν s part now) refl e

  passes_if : (qs : List Question) (block : ℕ) (plan : Plan) (ν : Versions) (s : Box) → (first_no qs ≡ 0 → AllYes qs)
      → Passes γ (attempted γ qs block plan ν s).number qs s plan.orders
  passes_if qs block plan ν s all =
      record {
        passes = λ h k. carried_number γ qs block plan ν s (yes_accepted qs h) ∙ each_accepted s plan.orders k;
        only = λ a. let d = accepted_done γ qs block plan ν s a in (all d.asked, each_yes s plan.orders d.carried);
      }

  pub put_passes : (ν : Versions) (s : Box) (part now : ℕ) (content : List ℕ)
      → Passes γ (put γ ρ ν s part now content).number (put_questions γ ρ ν s part now) s (put_plan γ ρ ν s part now content).orders
  unfolding put
  put_passes ν s part now content =
      passes_if (put_questions γ ρ ν s part now) (next_for γ ρ s now ν) (put_plan γ ρ ν s part now content) ν s (put_yes ν s part now)

  -- a store on demand's questions, without records or with some
  abbrev demanded : Versions → Box → ℕ → Bool → List Question
  demanded ν s now empty = Put 1 (is_sound γ ν) ∷ elim empty [ true ↦ [] | false ↦ box_questions γ ρ ν s now ]

  pub flush_passes : (ν : Versions) (s : Box) (now : ℕ)
      → Passes γ (flush γ ρ ν s now).number (flush_questions γ ρ ν s now) s (flush_plan γ ρ ν s now).orders
  unfolding flush flush_questions numbered_to
  flush_passes ν s now = go (eqb (length ν.records) 0)
    where
      go : (x : Bool)
          → Passes γ (attempted γ (demanded ν s now x) 0 (flush_plan γ ρ ν s now) ν s).number (demanded ν s now x) s (flush_plan γ ρ ν s now).orders
      go true = passes_if (demanded ν s now true) 0 (flush_plan γ ρ ν s now) ν s (accepted_yes 14 (demanded ν s now true) refl)
      go false = passes_if (demanded ν s now false) 0 (flush_plan γ ρ ν s now) ν s (accepted_yes 14 (demanded ν s now false) refl)

  -- ---- what is known where its questions have yes

  pub record Asked (s : Box) (now : ℕ) : Type 0 where
    pub valid : ValidBox γ s
    pub later : last_time γ s.memory ≤ now
    pub early : now ≤ latest_time

  pub put_asked : (ν : Versions) (s : Box) (part now : ℕ) → AllYes (put_questions γ ρ ν s part now) → Asked s now
  unfolding put_questions
  put_asked ν s part now h =
      let m = s.memory in
      let times = h.1.1.1.1.0 in
      let last = leb (last_time γ m) now in
      let latest = leb now latest_time in
      record {
        valid = record { memory = h.1.1.0; disk = eqb-true (length s.disk) (disk_size γ (groups γ m)) h.1.1.1.0 };
        later = leb-true (last_time γ m) now (and_elim_left last latest times);
        early = leb-true now latest_time (and_elim_right last latest times);
      }

  at_append : (now : ℕ) (xs ys : List Order) → EachAt σ now xs → EachAt σ now ys → EachAt σ now (xs ++ ys)
  at_append now [] ys h k = k
  at_append now (x ∷ xs) ys h k = (h.0, at_append now xs ys h.1 k)

  pub unfreezes_at : (now : ℕ) (o : Option ℕ) → EachAt σ now (unfreezes o now)
  unfolding unfreezes
  unfreezes_at now None = tt
  unfreezes_at now (Some b) = (refl, tt)

  due_at : (ν : Versions) (s : Box) (now : ℕ) → EachAt σ now (due_plan γ ρ ν s now).orders
  unfolding due_plan log_plan
  due_at ν s now = go (is_full γ ν)
    where
      go : (full : Bool) → EachAt σ now (chosen (log_plan γ ρ ν s now) ν full).orders
      go true = (refl, tt)
      go false = tt

  pub put_at_lem : (ν : Versions) (s : Box) (part now : ℕ) (content : List ℕ) → EachAt σ now (put_plan γ ρ ν s part now content).orders
  unfolding put_plan version_orders
  put_at_lem ν s part now content =
      let block = next_for γ ρ s now ν in (
        refl,
        at_append now (unfreezes (ν.newest part) now) _ (unfreezes_at now (ν.newest part))
            (due_at (entered ν part block) (carried_out γ s (version_orders γ ν part block now content)).box now),
      )

  -- the pointer makes no difference
  due_alike : (G : ℕ) (counts : ℕ → ℕ) (entries : ℕ → Entry) (os : List Order) (ν : Versions) (s t : Box) (now : ℕ)
      → foreseen γ G counts entries (os ++ (due_plan γ ρ ν s now).orders) ≡ foreseen γ G counts entries (os ++ (due_plan γ ρ ν t now).orders)
  unfolding due_plan log_plan
  due_alike G counts entries os ν s t now = go (is_full γ ν)
    where
      go : (full : Bool) → foreseen γ G counts entries (os ++ (chosen (log_plan γ ρ ν s now) ν full).orders)
          ≡ foreseen γ G counts entries (os ++ (chosen (log_plan γ ρ ν t now) ν full).orders)
      go true =
          foreseen_alike γ G counts entries os (Write ν.lock) ν.reserve now (log_block γ ν.records (next_for γ ρ s now ν))
          (log_block γ ν.records (next_for γ ρ t now ν)) (log_alike γ ν.records (next_for γ ρ s now ν) (next_for γ ρ t now ν))
      go false = refl

  -- by counts and entries that are the box's
  pub put_foreseen_by : (ν : Versions) (s t : Box) (part now : ℕ) (content : List ℕ) (counts : ℕ → ℕ) (entries : ℕ → Entry)
      → Foresees σ now s counts entries → first_no (put_questions γ ρ ν s part now) ≡ 0
      → (put γ ρ ν s part now content).number ≡ foreseen γ (groups γ s.memory) counts entries (orders_from γ ρ t ν s part now content)
  unfolding put put_plan
  put_foreseen_by ν s t part now content counts entries f e =
      let block = next_for γ ρ s now ν in
      let own = version_orders γ ν part block now content in
      let plan = put_plan γ ρ ν s part now content in
      carried_number γ (put_questions γ ρ ν s part now) block plan ν s e
      ∙ is_foreseen σ now s counts entries plan.orders (put_at_lem ν s part now content) f
      ∙ due_alike (groups γ s.memory) counts entries own (entered ν part block) (carried_out γ s own).box t now

  pub put_foreseen : (ν : Versions) (s t : Box) (part now : ℕ) (content : List ℕ) → ByteBox s → first_no (put_questions γ ρ ν s part now) ≡ 0
      → (put γ ρ ν s part now content).number
      ≡ foreseen γ (groups γ s.memory) (count s.memory) (current_entry γ s) (orders_from γ ρ t ν s part now content)
  put_foreseen ν s t part now content b e =
      let h = put_asked ν s part now (put_yes ν s part now e) in
      put_foreseen_by ν s t part now content (count s.memory) (current_entry γ s) (foresees_first σ now s h.valid b h.later h.early) e
