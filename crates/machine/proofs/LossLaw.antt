-- What a restart loses: along a run the disk's page of a group falls behind the current one by as many updates as the memory counts.
-- Assumes nothing.
use mathlib.Core.Path.{◌≡◌, refl, ap, ap₂, sym, subst, ◌∙◌}
use mathlib.Core.Bool.{Bool, true, false, ◌&&◌}
use mathlib.Core.Logic.{◌⊎◌, inl, inr, ⊎_elim}
use mathlib.Core.List.{List, [], ◌∷◌, ◌++◌}
use Prim.Native.Nat.{ℕ, ◌+◌, ◌≤◌, ◌<◌}
use native.Mathlib.Omega.{arith}
use borrow.Author.Tests.{eq-eqb, ne_eqb}
use lib.Dec.{eqb}
use Rattle.lockpage.specs.Geometry.{Geometry, Proper}
use Rattle.lockpage.specs.declared.Update.{Update}
use Rattle.addressing.specs.Map.{group_of, page_block}
use Rattle.disk.specs.Disk.{block}
use Rattle.memory.specs.Memory.{groups, held, none, most_updates, update_count}
use Rattle.validity.proofs.ValidLaw.{Valid, facts}
use Rattle.machine.specs.declared.Kind.{Kind}
use Rattle.machine.specs.declared.Kind.TheVariants.{Read, Entry, Page, Change, Sync, Restart, NewSalt, Identify, Unknown}
use Rattle.machine.specs.Command.{Box, Command, Outcome, kind_of}
use Rattle.machine.specs.Tag.{current_page}
use Rattle.machine.specs.Question.{refusal}
use Rattle.machine.specs.Effect.{stored, read, show_entry, show_page, identify, effect, next_update_count, page_leaves}
use Rattle.machine.specs.Step.{step, timed, done, Accepted}
use Rattle.machine.specs.Query.{query_step}
use Rattle.machine.specs.Run.{Event, Given, Queried, after, run, Throughout}
use Rattle.machine.specs.After.{held_after, updates_after, page_after}
use Rattle.machine.specs.Leaving.{is_update, updates_group, updates_in, NotRestarted, RestartLosesFew, FollowedUpdateStays}
use Rattle.machine.proofs.CaseLaw.{same_or_not, true_or_false}
use Rattle.machine.proofs.KindLaw.{restart_kind}
use Rattle.machine.proofs.QuestionLaw.{all_yes}
use Rattle.machine.proofs.StepLaw.{step_accepted, step_number, accepts, refused_unaltered, accepted_or_same}
use Rattle.machine.proofs.TagLaw.{current_other}
use Rattle.machine.proofs.PassedLaw.{passed, changes, changed_group, timed_reads}
use Rattle.machine.proofs.QueryLaw.{query_passed, query_times, query_or_same}
use Rattle.machine.proofs.LeavingLaw.{next_same, next_new}
use Rattle.machine.proofs.ValidBoxLaw.{accepted_valid}
use Rattle.machine.proofs.AfterLaw.{accepted_after, own_on_disk}
use Rattle.machine.proofs.RunLaw.{throughout_front}

-- γ is the box's geometry
module _ (γ : Geometry) where
  -- group g's page on the disk
  abbrev disk_page : Box → ℕ → List ℕ
  disk_page s g = block γ s.disk (page_block γ g)

  -- the updates of group g that the disk does not have
  abbrev unsaved : Box → ℕ → ℕ
  unsaved s g = elim (eqb (held γ s.memory) g) [ true ↦ update_count γ s.memory | false ↦ 0 ]

  -- from box s to box t, with n updates of group g, its page stays on the disk and the updates are counted
  record Behind (g : ℕ) (s t : Box) (n : ℕ) : Type 0 where
    disk : disk_page t g ≡ disk_page s g
    counted : unsaved s g + n ≤ unsaved t g

  -- in a run from box s the disk got group g's page; since then the updates are counted
  record Saved (g : ℕ) (s : Box) (es : List Event) : Type 0 where
    earlier : List Event
    last : List Event
    split : es ≡ earlier ++ last
    disk : disk_page (run γ s es) g ≡ current_page γ (run γ s earlier) g
    counted : updates_in γ g (run γ s earlier) last ≤ unsaved (run γ s es) g

-- 1 or 0, as an update is counted
abbrev counts : Bool → ℕ
counts b = elim b [ true ↦ 1 | false ↦ 0 ]

counts_one : (a b c : Bool) → counts (a && (b && c)) ≤ counts b
counts_one true true true = omega arith
counts_one true true false = omega arith
counts_one true false c = omega arith
counts_one false true c = omega arith
counts_one false false c = omega arith

-- γ is any proper geometry
module _ {γ : Geometry} (σ : Proper γ) where
  -- ---- the updates that the disk does not have

  unsaved_held : (s : Box) (g : ℕ) → held γ s.memory ≡ g → unsaved γ s g ≡ update_count γ s.memory
  unsaved_held s g e = rw (unsaved, eq-eqb (held γ s.memory) g e)

  unsaved_none : (s : Box) (g : ℕ) → (held γ s.memory ≡ g → ⊥) → unsaved γ s g ≡ 0
  unsaved_none s g n = rw (unsaved, ne_eqb (held γ s.memory) g n)

  unsaved_same : (s t : Box) (g : ℕ) → held γ t.memory ≡ held γ s.memory → update_count γ t.memory ≡ update_count γ s.memory
      → unsaved γ t g ≡ unsaved γ s g
  unsaved_same s t g eh eu = ap₂ (λ (h n : ℕ). elim (eqb h g) [ true ↦ n | false ↦ 0 ]) eh eu

  unsaved_few : (s : Box) (g : ℕ) → Valid γ s.memory → g < groups γ s.memory → unsaved γ s g ≤ most_updates
  unsaved_few s g v h =
      same_or_not (held γ s.memory) g
      (λ e. omega (arith, unsaved_held s g e, v.holds.few_updates (λ n. omega (arith, e, n, h, v.most))))
      (λ n. omega (arith, unsaved_none s g n))

  -- ---- an event after which the group is held

  -- where memory and disk are as before, but for the last time
  same_behind : (g : ℕ) (s t : Box) → t.disk ≡ s.disk → held γ t.memory ≡ held γ s.memory
      → update_count γ t.memory ≡ update_count γ s.memory → Behind γ g s t 0
  same_behind g s t ed eh eu =
      record { disk = ap (λ (d : List ℕ). block γ d (page_block γ g)) ed; counted = omega (arith, unsaved_same s t g eh eu) }

  module _ (s : Box) (c : Command) (r : refusal γ s c ≡ 0) (g : ℕ) (here : held γ (step γ s c).box.memory ≡ g) (some : g ≡ none → ⊥) where
    -- an update of the group itself, whose page does not leave
    update_behind : (u : Update) → kind_of c ≡ Change u → Behind γ g s (step γ s c).box 1
    update_behind u e =
        let m = s.memory in
        let own = group_of γ c.block in
        let a = accepted_after σ s c r in
        let kept = ap (λ (k : Kind). held_after γ k m c) e in
        let counted = a.updates ∙ ap (λ (k : Kind). updates_after γ k m c) e in
        true_or_false (page_leaves γ m own)
        (λ l. absurd (some (sym here ∙ a.held_group ∙ kept ∙ ap (λ (b : Bool). elim b [ true ↦ none | false ↦ own ]) l)))
        (λ l.
        let is : own ≡ g = sym (a.held_group ∙ kept ∙ ap (λ (b : Bool). elim b [ true ↦ none | false ↦ own ]) l) ∙ here in
        let next : update_count γ (step γ s c).box.memory ≡ next_update_count γ m g =
        counted
        ∙ ap (λ (b : Bool). elim b [ true ↦ 0 | false ↦ next_update_count γ m own ]) l
        ∙ ap (next_update_count γ m) is in
        record {
          disk = subst (λ (i : ℕ). disk_page γ (step γ s c).box i ≡ disk_page γ s i) is (own_on_disk σ u s c e r l);
          counted =
              same_or_not (held γ m) g
              (λ h. omega (arith, unsaved_held s g h, next_same σ m g h, next, unsaved_held (step γ s c).box g here))
              (λ n. omega (arith, unsaved_none s g n, next_new σ m g n, next, unsaved_held (step γ s c).box g here));
        })

    -- a kind that stores nothing and keeps what is held
    idle : (k : Kind) → kind_of c ≡ k → held_after γ k s.memory c ≡ held γ s.memory → updates_after γ k s.memory c ≡ update_count γ s.memory
        → (step γ s c).box.disk ≡ s.disk → Behind γ g s (step γ s c).box 0
    idle k e eh eu ed =
        let a = accepted_after σ s c r in
        same_behind g s (step γ s c).box ed (a.held_group ∙ ap (λ (k : Kind). held_after γ k s.memory c) e ∙ eh)
        (a.updates ∙ ap (λ (k : Kind). updates_after γ k s.memory c) e ∙ eu)

    -- one after which none is held, so not the group
    dropped : (k : Kind) → kind_of c ≡ k → held_after γ k s.memory c ≡ none → Behind γ g s (step γ s c).box 0
    dropped k e n =
        absurd (some (sym here ∙ (accepted_after σ s c r).held_group ∙ ap (λ (k : Kind). held_after γ k s.memory c) e ∙ n))

    command_behind : (k : Kind) → kind_of c ≡ k → Behind γ g s (step γ s c).box (counts (is_update k))
    unfolding done effect read show_entry show_page identify stored timed
    command_behind Read e = idle Read e refl refl (ap (λ (o : Outcome). o.box.disk) (step_accepted σ Read s c e r))
    command_behind Entry e = idle Entry e refl refl (ap (λ (o : Outcome). o.box.disk) (step_accepted σ Entry s c e r))
    command_behind Page e = idle Page e refl refl (ap (λ (o : Outcome). o.box.disk) (step_accepted σ Page s c e r))
    command_behind (Change u) e = update_behind u e
    command_behind Sync e = dropped Sync e refl
    command_behind Restart e = dropped Restart e refl
    command_behind NewSalt e = dropped NewSalt e refl
    command_behind Identify e = idle Identify e refl refl (ap (λ (o : Outcome). o.box.disk) (step_accepted σ Identify s c e r))
    command_behind Unknown e = idle Unknown e refl refl (ap (λ (o : Outcome). o.box.disk) (step_accepted σ Unknown s c e r))

  module _ (g : ℕ) (some : g ≡ none → ⊥) where
    -- where the box is as before
    kept : (s t : Box) → t ≡ s → Behind γ g s t 0
    kept s t e = same_behind g s t (ap (λ (b : Box). b.disk) e) (ap (λ (b : Box). held γ b.memory) e) (ap (λ (b : Box). update_count γ b.memory) e)

    event_behind : (s : Box) (e : Event) → held γ (after γ s e).memory ≡ g → Behind γ g s (after γ s e) (counts (updates_group γ g s e))
    unfolding timed
    event_behind s (Given c) here =
        same_or_not (refusal γ s c) 0
        (λ r.
        let b = command_behind s c r g here some (kind_of c) refl in
        record {
          disk = b.disk;
          counted =
              omega (arith, b.counted, counts_one (eqb (step γ s c).number 0) (is_update (kind_of c)) (eqb (group_of γ c.block) g));
        })
        (λ n.
        let b = kept s (step γ s c).box (refused_unaltered σ s c n).box in
        let refused = ne_eqb (step γ s c).number 0 (λ z. n (sym (step_number σ s c) ∙ z)) in
        record {
          disk = b.disk;
          counted = omega (arith, b.counted, ap (λ (x : Bool). counts (x && (is_update (kind_of c) && eqb (group_of γ c.block) g))) refused);
        })
    event_behind s (Queried q) here =
        ⊎_elim
        (λ r.
        let t = query_times σ s q r in
        let reads = timed_reads σ s q.now (query_passed σ s q r).timely in
        same_behind g s (query_step γ s q).box (ap (λ (b : Box). b.disk) t) (ap (λ (b : Box). held γ b.memory) t ∙ reads.held)
        (ap (λ (b : Box). update_count γ b.memory) t ∙ reads.updates))
        (λ e. kept s (query_step γ s q).box e)
        (query_or_same σ s q)

    -- ---- a run

    run_behind : (s : Box) (es : List Event) → Behind γ g s (run γ s es) (updates_in γ g s es) ⊎ Saved γ g s es
    run_behind s [] = inl (record { disk = refl; counted = omega arith })
    run_behind s (e ∷ es) =
        let t = after γ s e in
        ⊎_elim
        (λ b.
        same_or_not (held γ t.memory) g
        (λ here.
        let a = event_behind s e here in
        inl (record { disk = b.disk ∙ a.disk; counted = omega (arith, a.counted, b.counted) }))
        (λ n.
        inr
        (record {
          earlier = e ∷ [];
          last = es;
          split = refl;
          disk = b.disk ∙ sym (current_other σ t g n);
          counted = omega (arith, b.counted);
        })))
        (λ v.
        inr
        (record { earlier = e ∷ v.earlier; last = v.last; split = ap (λ (l : List Event). e ∷ l) v.split; disk = v.disk; counted = v.counted }))
        (run_behind t es)

  run_groups : (s : Box) (es : List Event) → groups γ (run γ s es).memory ≡ groups γ s.memory
  unfolding timed
  run_groups s [] = refl
  run_groups s (Given c ∷ es) =
      run_groups (step γ s c).box es
      ∙ ⊎_elim (λ r. (accepted_after σ s c r).same_groups) (λ e. ap (λ (b : Box). groups γ b.memory) e) (accepted_or_same σ s c)
  run_groups s (Queried q ∷ es) =
      run_groups (query_step γ s q).box es
      ∙ ⊎_elim
      (λ r.
      ap (λ (b : Box). groups γ b.memory) (query_times σ s q r) ∙ (timed_reads σ s q.now (query_passed σ s q r).timely).groups)
      (λ e. ap (λ (b : Box). groups γ b.memory) e)
      (query_or_same σ s q)

  -- ---- a restart, accepted by box t

  module _ (t : Box) (r : Command) (k : r.kind ≡ 8) (a : Accepted γ t r) (g : ℕ) (h : g < groups γ t.memory) where
    restarts : kind_of r ≡ Restart
    restarts = restart_kind r.kind r.value k

    restarts_valid : Valid γ t.memory
    restarts_valid = (passed σ Restart t r (all_yes σ Restart t r restarts (accepts σ t r a))).memory

    restarts_with : current_page γ (step γ t r).box g ≡ disk_page γ t g
    restarts_with = (accepted_after σ t r (accepts σ t r a)).page g h ∙ ap (λ (i : Kind). page_after γ i t r g) restarts

    group_some : g ≡ none → ⊥
    group_some n = omega (arith, restarts_valid.most)

  pub loses_few : RestartLosesFew γ
  unfolding RestartLosesFew
  loses_few s es g r n h k a =
      let t = run γ s es in
      let here : g < groups γ t.memory = omega (arith, run_groups s es) in
      let few = unsaved_few t g (restarts_valid t r k a g here) here in
      let page = restarts_with t r k a g here in
      ⊎_elim
      (λ b.
      record {
        back = record { earlier = []; last = es; split = refl; page = page ∙ b.disk ∙ sym (current_other σ s g n) };
        few = omega (arith, b.counted);
        held_only = λ other. omega (arith, b.counted, unsaved_none t g other);
      })
      (λ v.
      record {
        back = record { earlier = v.earlier; last = v.last; split = v.split; page = page ∙ v.disk };
        few = omega (arith, v.counted);
        held_only = λ other. omega (arith, v.counted, unsaved_none t g other);
      })
      (run_behind g (group_some t r k a g here) s es)

  pub followed_stays : FollowedUpdateStays γ
  unfolding FollowedUpdateStays
  followed_stays s c u es r e ac unbroken many k a =
      let g = group_of γ c.block in
      let rc = accepts σ s c ac in
      let t = (step γ s c).box in
      let of_box : g < groups γ t.memory =
      omega (arith, (accepted_after σ s c rc).same_groups, changed_group σ u s c (changes σ u s c (all_yes σ (Change u) s c e rc))) in
      let here : g < groups γ (run γ t es).memory = omega (arith, run_groups t es) in
      let few = unsaved_few (run γ t es) g (restarts_valid (run γ t es) r k a g here) here in
      let some = group_some (run γ t es) r k a g here in
      let page = restarts_with (run γ t es) r k a g here in
      ⊎_elim
      (λ b.
      let left : held γ t.memory ≡ g → ⊥ =
      λ i.
      omega (
        arith,
        b.counted,
        unsaved_held t g i,
        (facts σ t.memory (accepted_valid σ s c rc).memory).holds.updated (λ n. some (sym i ∙ n)),
      ) in
      record {
        back = record { earlier = []; last = es; split = refl; page = page ∙ b.disk ∙ sym (current_other σ t g left) };
        unbroken = tt;
      })
      (λ v.
      record {
        back = record { earlier = v.earlier; last = v.last; split = v.split; page = page ∙ v.disk };
        unbroken =
            throughout_front σ (NotRestarted γ) t v.earlier v.last (subst (λ (l : List Event). Throughout γ (NotRestarted γ) t l) v.split unbroken);
      })
      (run_behind g some t es)
