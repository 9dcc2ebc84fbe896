-- A store that fits its bytes fits them after each accepted call, and so does one whose blocks are below any bound. Assumes nothing.
use mathlib.Core.Path.{◌≡◌, ap, sym, subst, ◌∙◌}
use mathlib.Core.Bool.{Bool, true, false, ◌&&◌}
use mathlib.Mathlib.Data.Bool.Basic.{and_intro, and_elim_left, and_elim_right}
use mathlib.Core.List.{List, [], ◌∷◌, ◌++◌, all}
use Rattle.std.specs.Prelude.{Some}
use Prim.Native.Nat.{ℕ, ◌+◌, ◌≤◌, ◌<◌, ◌^◌}
use native.Mathlib.Omega.{arith}
use native.Mathlib.Nat.{mul-le-mul_left}
use borrow.Author.Tests.{le-leb, leb-true, lt-ltb}
use lib.ListN.{length}
use Rattle.lockpage.specs.Geometry.{Geometry, Proper}
use Rattle.lockpage.specs.declared.Update.TheVariants.{Write}
use Rattle.addressing.specs.Map.{group_data, data_blocks}
use Rattle.memory.specs.Memory.{groups}
use Rattle.validity.proofs.ValidLaw.{facts}
use Rattle.machine.specs.Command.{Box}
use Rattle.machine.proofs.CaseLaw.{same_or_not}
use Rattle.machine.proofs.ListedLaw.{all_none, all_cons}
use Rattle.machine.proofs.PassedLaw.{changes}
use Rattle.machine.proofs.StepLaw.{accepts}
use Rattle.versions_machine.specs.Versions.{Range, record_of, Versions, replaced_by, entered, logged}
use Rattle.versions_machine.specs.Log.{is_full, is_sound}
use Rattle.versions_machine.specs.Allocation.{next_for}
use Rattle.versions_machine.specs.Plan.{Plan, plan_of, writing, unfreezes, given, log_plan, due_plan, version_orders, put_plan}
use Rattle.versions_machine.specs.Call.{Result, last_part, put, put_questions, flush, flush_questions, flush_plan}
use Rattle.versions_machine.specs.After.{between}
use Rattle.versions_machine.proofs.AllocationLaw.{next_below}
use Rattle.versions_machine.proofs.CarryLaw.{carried_first, accepted_done}
use Rattle.versions_machine.proofs.HoldsLaw.{order_yes}
use Rattle.versions_machine.proofs.SoundLaw.{newest_own, newest_other, chosen}
use Rattle.versions_machine.proofs.AcceptLaw.{put_yes, put_asked}
use Rattle.versions_machine.proofs.DoesLaw.{put_does, flush_none, flush_plan_lem, flush_does}
use Rattle.versions_state.specs.Layout.{field_size}
use Rattle.versions_state.specs.State.{is_block, is_record}
use Rattle.versions_bytes.specs.Claims.{Fits, HasNumbers}
use Rattle.versions_bytes.proofs.FieldsLaw.{Fields, fields, fits}

module _ {A : Type 0} (p : A → Bool) where
  all_append : (xs : List A) (x : A) → all xs p ≡ true → p x ≡ true → all (xs ++ (x ∷ [])) p ≡ true
  all_append [] x h e = all_cons p x [] ∙ and_intro e (all_none p)
  all_append (y ∷ ys) x h e =
      let parts : (p y && all ys p) ≡ true = sym (all_cons p y ys) ∙ h in
      all_cons p y (ys ++ (x ∷ []))
      ∙ and_intro (and_elim_left (p y) (all ys p) parts) (all_append ys x (and_elim_right (p y) (all ys p) parts) e)

module _ {γ : Geometry} (σ : Proper γ) where
  more_blocks : (g h : ℕ) → g ≤ h → data_blocks γ g ≤ data_blocks γ h
  unfolding data_blocks
  more_blocks g h l = mul-le-mul_left (group_data γ) l

  entered_fields : (bound : ℕ) (ν : Versions) (part block : ℕ) → part ≤ last_part → is_block γ block ≡ true → block < bound → Fields γ bound ν
      → Fields γ bound (entered ν part block)
  unfolding entered
  entered_fields bound ν part block p b l h =
      record {
        newest =
            λ k a e.
            same_or_not k part
            (λ same. subst (λ (n : ℕ). is_block γ n ≡ true) (block_is k a same e) b)
            (λ other. h.newest k a (sym (newest_other ν.newest part block k other) ∙ e));
        no_more = λ k m. newest_other ν.newest part block k (λ e. omega arith) ∙ h.no_more k m;
        records = all_append (is_record γ) ν.records (record_of part block) h.records (and_intro (le-leb part last_part p) b);
        reserve = h.reserve;
        taken = l;
      }
    where
      block_is : (k a : ℕ) → k ≡ part → replaced_by ν.newest part block k ≡ Some a → block ≡ a
      block_is k a same e = let x : Some block ≡ Some a = sym (ap (replaced_by ν.newest part block) same ∙ newest_own ν.newest part block) ∙ e in cc

  logged_fields : (bound : ℕ) (ν : Versions) (pointer : ℕ) → pointer < bound → Fields γ bound ν → Fields γ bound (logged ν pointer)
  unfolding logged
  logged_fields bound ν pointer l h =
      record { newest = h.newest; no_more = h.no_more; records = all_none (is_record γ); reserve = l; taken = l }

  -- ---- a store on demand

  module _ (ρ : Range) (ν : Versions) (s : Box) (now : ℕ) (a : (flush γ ρ ν s now).number ≡ 0) where
    -- what it leaves is what its plan does
    flush_after : (plan : Plan) → flush_plan γ ρ ν s now ≡ plan → (flush γ ρ ν s now).versions ≡ plan.after
    unfolding flush
    flush_after plan e =
        let d = accepted_done γ (flush_questions γ ρ ν s now) 0 (flush_plan γ ρ ν s now) ν s a in
        ap (λ (r : Result). r.versions) d.result ∙ ap (λ (p : Plan). p.after) e

    flush_kept : length ν.records ≡ 0 → (flush γ ρ ν s now).versions ≡ ν
    flush_kept e = flush_after (plan_of [] ν) (flush_none σ ρ ν s now e).1

    flush_logged : (length ν.records ≡ 0 → ⊥) → (flush γ ρ ν s now).versions ≡ (log_plan γ ρ ν s now).after
    flush_logged d = flush_after (log_plan γ ρ ν s now) (flush_plan_lem σ ρ ν s now d)

    pub flush_sound : is_sound γ ν ≡ true → is_sound γ (flush γ ρ ν s now).versions ≡ true
    flush_sound h =
        same_or_not (length ν.records) 0
        (λ e. ap (is_sound γ) (flush_kept e) ∙ h)
        (λ d. (flush_does σ ρ ν s now a d).still.sound)

  -- ---- with any bound that the range keeps

  module _ (ρ : Range) (bound : ℕ) (within : ρ.first + ρ.number ≤ bound) where
    log_fields : (ν : Versions) (t : Box) (now : ℕ) → Fields γ bound ν → Fields γ bound (log_plan γ ρ ν t now).after
    unfolding log_plan
    log_fields ν t now h =
        logged_fields bound ν (next_for γ ρ t now ν) (next_below γ ρ t now ν.reserve ν.taken bound within h.taken) h

    due_fields : (ν : Versions) (t : Box) (now : ℕ) → Fields γ bound ν → Fields γ bound (due_plan γ ρ ν t now).after
    unfolding due_plan
    due_fields ν t now h = go (is_full γ ν)
      where
        go : (full : Bool) → Fields γ bound (chosen (log_plan γ ρ ν t now) ν full).after
        go true = log_fields ν t now h
        go false = h

    pub put_fields : (ν : Versions) (s : Box) (part now : ℕ) (content : List ℕ) → (put γ ρ ν s part now content).number ≡ 0 → Fields γ bound ν
        → Fields γ bound (put γ ρ ν s part now content).versions
    unfolding put put_plan version_orders put_questions
    put_fields ν s part now content a h =
        let v = next_for γ ρ s now ν in
        let plan = put_plan γ ρ ν s part now content in
        let d = accepted_done γ (put_questions γ ρ ν s part now) v plan ν s a in
        let y = put_yes σ ρ ν s part now d.asked in
        let box = (put_asked σ ρ ν s part now y).valid in
        let o = writing v now ν.lock content in
        let due = due_plan γ ρ (entered ν part v) (between γ ρ ν s part now content) now in
        let first = carried_first γ s o (unfreezes (ν.newest part) now ++ due.orders) d.carried in
        let inside : v < data_blocks γ (groups γ s.memory) =
        (changes σ (Write ν.lock) s (given γ s o) (order_yes σ s o (accepts σ s (given γ s o) first))).range in
        let most = more_blocks (groups γ s.memory) γ.most_groups (facts σ s.memory box.memory).most in
        let f =
        entered_fields bound ν part v (leb-true part last_part y.0) (lt-ltb v (data_blocks γ γ.most_groups) (omega arith))
        (next_below γ ρ s now ν.reserve ν.taken bound within h.taken) h in
        subst (λ (r : Result). Fields γ bound r.versions) (sym d.result)
        (due_fields (entered ν part v) (between γ ρ ν s part now content) now f)

    pub flush_fields : (ν : Versions) (s : Box) (now : ℕ) → (flush γ ρ ν s now).number ≡ 0 → Fields γ bound ν
        → Fields γ bound (flush γ ρ ν s now).versions
    flush_fields ν s now a h =
        same_or_not (length ν.records) 0
        (λ e. subst (Fields γ bound) (sym (flush_kept ρ ν s now a e)) h)
        (λ d. subst (Fields γ bound) (sym (flush_logged ρ ν s now a d)) (log_fields ν s now h))

  -- ---- with the bound that the fields have

  module _ (ρ : Range) (numbers : HasNumbers ρ) where
    pub put_fits : (ν : Versions) (s : Box) (part now : ℕ) (content : List ℕ) → (put γ ρ ν s part now content).number ≡ 0 → Fits γ ν
        → Fits γ (put γ ρ ν s part now content).versions
    put_fits ν s part now content a h =
        fits γ (put γ ρ ν s part now content).versions (put_does σ ρ ν s part now content a).still.sound
        (put_fields ρ (256 ^ field_size) (omega arith) ν s part now content a (fields γ ν h))

    pub flush_fits : (ν : Versions) (s : Box) (now : ℕ) → (flush γ ρ ν s now).number ≡ 0 → Fits γ ν → Fits γ (flush γ ρ ν s now).versions
    flush_fits ν s now a h =
        fits γ (flush γ ρ ν s now).versions (flush_sound ρ ν s now a h.sound)
        (flush_fields ρ (256 ^ field_size) (omega arith) ν s now a (fields γ ν h))
