-- An accepted command leaves a valid box and buffers of the same lengths. Assumes nothing.
use mathlib.Core.Path.{◌≡◌, refl, ap, sym, subst, ◌∙◌}
use mathlib.Core.Bool.{true}
use mathlib.Core.Logic.{⊎_elim}
use mathlib.Core.List.{List, [], ◌∷◌}
use Prim.Native.Nat.{ℕ, ◌+◌, ◌<◌}
use native.Mathlib.Omega.{arith}
use lib.ListN.{length}
use Rattle.lockpage.specs.Geometry.{Geometry, Proper}
use Rattle.lockpage.specs.Size.{page_size}
use Rattle.lockpage.specs.declared.Update.{Update}
use Rattle.addressing.specs.Map.{disk_size, group_of}
use Rattle.memory.specs.Layout.{salt_size}
use Rattle.memory.specs.Memory.{count, groups, held, none, with_count, with_no_counts, holding_none}
use Rattle.memory.proofs.FieldLaw.{count_set, page_dropped}
use Rattle.validity.specs.Valid.{count_limit, valid}
use Rattle.validity.proofs.ValidLaw.{Valid, facts, is_valid_is, valid_salt, valid_count, valid_no_counts, valid_holding, valid_none}
use Rattle.machine.specs.declared.Kind.{Kind}
use Rattle.machine.specs.declared.Kind.TheVariants.{Read, Entry, Page, Change, Sync, Restart, NewSalt, Identify, Unknown}
use Rattle.machine.specs.Command.{Box, Command, Outcome, box_of, kind_of}
use Rattle.machine.specs.Question.{refusal}
use Rattle.machine.specs.Effect.{Store, stored, effect, read, show_entry, show_page, put_held, changed_page, changed_memory, change, sync, restarted_memory}
use Rattle.machine.specs.Effect.{restart, salted, new_salt, identify, next_update_count, page_leaves}
use Rattle.machine.specs.Step.{step, timed, done}
use Rattle.machine.specs.Run.{Event, Given, Queried, after, run}
use Rattle.machine.specs.Claims.{ValidBox}
use Rattle.machine.proofs.CaseLaw.{same_or_not, true_or_false}
use Rattle.machine.proofs.QuestionLaw.{all_yes}
use Rattle.machine.proofs.StepLaw.{step_accepted, accepted_or_same}
use Rattle.machine.proofs.PassedLaw.{Passed, Changes, passed, passed_timed, changed_group, accepted_changes}
use Rattle.machine.proofs.QueryLaw.{query_valid, query_or_same}
use Rattle.machine.proofs.EffectLaw.{left, EachStore, Whole, put_whole, content_whole, stored_length, changed_length, count_changed, restarted_none}
use Rattle.machine.proofs.EffectLaw.{restarted_held, restarted_groups, salted_reads}
use Rattle.machine.proofs.LeavingLaw.{next_some, stays_few, changed_leaving, changed_staying, each_change}
use Rattle.machine.proofs.ChangeLaw.{change_reads, leaving_whole}

-- γ is any proper geometry
module _ {γ : Geometry} (σ : Proper γ) where
  pub valid_box : (k : Kind) (s : Box) (c : Command) → Passed γ k s c → ValidBox γ s
  valid_box k s c q = record { memory = is_valid_is σ s.memory q.memory; disk = q.disk }

  -- ---- the memory after

  changed_valid : (m : List ℕ) → Valid γ m → (g : ℕ) (p : List ℕ) → g < groups γ m → count m g < count_limit → length p ≡ page_size γ
      → valid γ (changed_memory γ m g p) ≡ true
  changed_valid m v g p h l n =
      let m₁ = with_count m g (count m g + 1) in
      let r = count_set σ m v.size g (count m g + 1) (omega (arith, v.most)) (omega arith) in
      let v₁ = facts σ m₁ (valid_count σ m v g (count m g + 1) h (omega arith) (λ e. (omega arith, omega arith))) in
      let counted : count m₁ g ≡ count m g + 1 = r.count g (omega (arith, v.most)) ∙ count_changed (count m) g (count m g + 1) in
      true_or_false (page_leaves γ m g)
      (λ e. ap (valid γ) (changed_leaving σ m g p e) ∙ valid_none σ m₁ v₁)
      (λ e.
      ap (valid γ) (changed_staying σ m g p e)
      ∙ valid_holding σ m₁ v₁ g (next_update_count γ m g) p (omega (arith, r.groups)) (omega arith) (omega arith) (next_some σ m g) (stays_few σ m g e) n)

  restarted_valid : (m : List ℕ) → Valid γ m → valid γ (restarted_memory γ m) ≡ true
  restarted_valid m v =
      same_or_not (held γ m) none
      (λ n. ap (valid γ) (restarted_none σ m n) ∙ is_valid_is σ m v)
      (λ n.
      let dropped = page_dropped σ m v.size in
      ap (valid γ) (restarted_held σ m n)
      ∙ valid_count σ (holding_none γ m) (facts σ (holding_none γ m) (valid_none σ m v)) (held γ m) (count m (held γ m) + 1)
      (omega (arith, dropped.groups, v.holds.group n)) (omega (arith, v.holds.unexhausted n))
      (λ e. absurd (n (sym e ∙ dropped.held))))

  salted_valid : (m s : List ℕ) → Valid γ m → length s ≡ salt_size → valid γ (salted γ m s) ≡ true
  unfolding salted
  salted_valid m s v l =
      let v₁ = facts σ (holding_none γ m) (valid_none σ m v) in
      let v₂ = facts σ (with_no_counts γ (holding_none γ m)) (valid_no_counts σ (holding_none γ m) v₁ (page_dropped σ m v.size).held) in
      valid_salt σ (with_no_counts γ (holding_none γ m)) v₂ s l

  -- ---- by kind

  -- the disk after stores that are whole blocks, with a memory of as many groups
  with_disk : (s : Box) (m : List ℕ) (xs : List Store) → valid γ m ≡ true → groups γ m ≡ groups γ s.memory
      → length s.disk ≡ disk_size γ (groups γ s.memory) → EachStore (Whole γ (groups γ s.memory)) xs → ValidBox γ (box_of m (stored γ s.disk xs))
  with_disk s m xs v e l w =
      record { memory = v; disk = stored_length σ (groups γ s.memory) s.disk xs w l ∙ ap (disk_size γ) (sym e) }

  change_valid : (u : Update) (s : Box) (c : Command) → Passed γ (Change u) s c → Changes γ u s c → ValidBox γ (left γ s (change γ u s c))
  unfolding change
  change_valid u s c q x =
      let m = s.memory in
      let v = q.memory in
      let g = group_of γ c.block in
      let p = changed_page γ u c in
      with_disk s (changed_memory γ m g p) (change γ u s c).stores
      (changed_valid m v g p (changed_group σ u s c x) x.unexhausted (changed_length σ u c x.proof)) (change_reads σ u s c q x).groups q.disk
      (each_change σ (Whole γ (groups γ m)) u s c (put_whole σ m v)
      (content_whole σ u (groups γ m) c.block c.content q.content x.range) (leaving_whole σ u s c q x))

  effect_valid : (k : Kind) (s : Box) (c : Command) → Passed γ k s c → ((u : Update) → k ≡ Change u → Changes γ u s c)
      → ValidBox γ (left γ s (effect γ k s c))
  unfolding effect read show_entry show_page sync restart new_salt identify stored
  effect_valid Read s c q x = valid_box Read s c q
  effect_valid Entry s c q x = valid_box Entry s c q
  effect_valid Page s c q x = valid_box Page s c q
  effect_valid (Change u) s c q x = change_valid u s c q (x u refl)
  effect_valid Sync s c q x =
      let r = page_dropped σ s.memory q.memory.size in
      with_disk s (holding_none γ s.memory) (put_held γ s.memory) (valid_none σ s.memory q.memory) r.groups q.disk
      (put_whole σ s.memory q.memory)
  effect_valid Restart s c q x =
      with_disk s (restarted_memory γ s.memory) [] (restarted_valid s.memory q.memory) (restarted_groups σ s.memory q.memory) q.disk tt
  effect_valid NewSalt s c q x =
      let r = salted_reads σ s.memory c.content q.memory.size q.content in
      with_disk s (salted γ s.memory c.content) (put_held γ s.memory)
      (salted_valid s.memory c.content q.memory q.content) r.groups q.disk (put_whole σ s.memory q.memory)
  effect_valid Identify s c q x = valid_box Identify s c q
  effect_valid Unknown s c q x = valid_box Unknown s c q

  -- ---- a command, and a run

  pub accepted_valid : (s : Box) (c : Command) → refusal γ s c ≡ 0 → ValidBox γ (step γ s c).box
  unfolding done timed
  accepted_valid s c r =
      let k = kind_of c in
      let q = passed σ k s c (all_yes σ k s c refl r) in
      subst (λ (o : Outcome). ValidBox γ o.box) (sym (step_accepted σ k s c refl r))
      (effect_valid k (timed γ s c.now) c (passed_timed σ k s c q) (accepted_changes σ k s c refl r))

  pub run_valid : (s : Box) (es : List Event) → ValidBox γ s → ValidBox γ (run γ s es)
  run_valid s [] h = h
  run_valid s (Given c ∷ es) h =
      run_valid (after γ s (Given c)) es
      (⊎_elim (λ r. accepted_valid s c r) (λ e. subst (ValidBox γ) (sym e) h) (accepted_or_same σ s c))
  run_valid s (Queried q ∷ es) h =
      run_valid (after γ s (Queried q)) es
      (⊎_elim (λ r. query_valid σ s q r) (λ e. subst (ValidBox γ) (sym e) h) (query_or_same σ s q))
