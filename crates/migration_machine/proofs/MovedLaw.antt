-- What an accepted command does is the same once the box's memory is migrated: its stores and what it names are the same, and the memory
-- that it leaves is migrated too. Assumes nothing.
use mathlib.Core.Path.{◌≡◌, refl, ap, ap₂, sym, ◌∙◌}
use mathlib.Core.Bool.{Bool, true, false}
use mathlib.Core.List.{List, [], ◌∷◌, ◌++◌}
use Prim.Native.Nat.{ℕ, ◌+◌, ◌<◌}
use native.Mathlib.Omega.{arith}
use borrow.Author.Tests.{ltb-true}
use lib.ListN.{length}
use lib.Dec.{eqb, ltb}
use Rattle.octets.specs.Number.{bytes}
use Rattle.lockpage.specs.Geometry.{Geometry, Proper, widened}
use Rattle.lockpage.specs.Size.{page_size}
use Rattle.lockpage.specs.declared.Entry.{Entry as PageEntry}
use Rattle.lockpage.specs.declared.Update.{Update}
use Rattle.addressing.specs.Map.{data_blocks, group_of, place_of, physical, page_block, block_start}
use Rattle.disk.specs.Disk.{block, with_block}
use Rattle.memory.specs.Layout.{memory_size, salt_size}
use Rattle.memory.specs.Memory.{count, groups, held, none, most_updates, with_count, with_no_counts, holding, holding_none, with_salt}
use Rattle.memory.proofs.FieldLaw.{count_in, counts_in, page_dropped}
use Rattle.validity.specs.Valid.{valid}
use Rattle.machine.specs.declared.Kind.{Kind}
use Rattle.machine.specs.declared.Kind.TheVariants.{Read, Entry, Page, Change, Sync, Restart, NewSalt, Identify, Unknown}
use Rattle.machine.specs.Command.{Box, Command, Outcome, kind_of, brought_page}
use Rattle.machine.specs.Tag.{tagged, current_page}
use Rattle.machine.specs.Question.{refusal}
use Rattle.machine.specs.Effect.{Store, Effect, store, effect_of, entry_answer, identify_size, stored, read, show_entry, show_page, put_held, evict}
use Rattle.machine.specs.Effect.{next_update_count, page_leaves, put_leaving, put_content, updated_page, changed_page, changed_memory, change, sync}
use Rattle.machine.specs.Effect.{restarted_memory, restart, salted, new_salt, identify, effect}
use Rattle.machine.specs.Step.{padded, timed, done, step}
use Rattle.machine.proofs.CaseLaw.{same_or_not, true_or_false}
use Rattle.machine.proofs.QuestionLaw.{all_yes}
use Rattle.machine.proofs.StepLaw.{step_accepted, refused_of}
use Rattle.machine.proofs.PassedLaw.{Passed, Changes, passed, passed_timed, changed_group, accepted_changes}
use Rattle.machine.proofs.EffectLaw.{changed_length, restarted_none, restarted_held}
use Rattle.machine.proofs.LeavingLaw.{changed_leaving, changed_staying}
use Rattle.machine.proofs.ChangeLaw.{change_reads}
use Rattle.migration_machine.specs.Migrate.{migrated, Wider}
use Rattle.migration_machine.specs.Promise.{moved_box}
use Rattle.migration_machine.proofs.FieldLaw.{migrated_count, migrated_groups, migrated_held, migrated_updates, migrated_page, salt_moves, count_moves}
use Rattle.migration_machine.proofs.FieldLaw.{counts_move, time_moves, holding_moves, none_moves}
use Rattle.migration_machine.proofs.BoxLaw.{tagged_moves, current_page_moves, current_entry_moves}
use Rattle.migration_machine.proofs.AskedLaw.{refusal_moves}

-- an effect, and an outcome, with its memory migrated
module _ (γ : Geometry) (n : ℕ) where
  abbrev moved_effect : Effect → Effect
  moved_effect e = effect_of e.stores (migrated γ n e.memory) e.named

  abbrev pub moved : Outcome → Outcome
  moved o = record { number = o.number; box = moved_box γ n o.box; answer = o.answer }

-- γ is the old box's geometry, and the new one has n groups at most
module _ {γ : Geometry} (σ : Proper γ) {n : ℕ} (ω : Wider γ n) where
  -- ---- the stores

  stored_moves : (disk : List ℕ) (xs : List Store) → stored (widened γ n) disk xs ≡ stored γ disk xs
  unfolding stored with_block block_start
  stored_moves disk [] = refl
  stored_moves disk (x ∷ xs) = stored_moves (with_block γ disk x.place x.bytes) xs

  module _ (m : List ℕ) (l : length m ≡ memory_size γ) where
    put_held_moves : put_held (widened γ n) (migrated γ n m) ≡ put_held γ m
    unfolding put_held page_block
    put_held_moves =
        ap₂ (λ (h : ℕ) (p : List ℕ). elim (eqb h none) [ true ↦ [] | false ↦ store (page_block γ h) p ∷ [] ])
        (migrated_held σ ω m l) (migrated_page σ ω m l)

    module _ (g : ℕ) where
      evict_moves : evict (widened γ n) (migrated γ n m) g ≡ evict γ m g
      unfolding evict
      evict_moves =
          ap₂ (λ (h : ℕ) (xs : List Store). elim (eqb h g) [ true ↦ [] | false ↦ xs ]) (migrated_held σ ω m l) put_held_moves

      next_moves : next_update_count (widened γ n) (migrated γ n m) g ≡ next_update_count γ m g
      unfolding next_update_count
      next_moves =
          ap₂ (λ (h k : ℕ). elim (eqb h g) [ true ↦ k + 1 | false ↦ 1 ]) (migrated_held σ ω m l) (migrated_updates σ ω m l)

      leaves_moves : page_leaves (widened γ n) (migrated γ n m) g ≡ page_leaves γ m g
      unfolding page_leaves
      leaves_moves = ap (λ (k : ℕ). ltb most_updates k) next_moves

      put_leaving_moves : (p : List ℕ) → put_leaving (widened γ n) (migrated γ n m) g p ≡ put_leaving γ m g p
      unfolding put_leaving page_block
      put_leaving_moves p = ap (λ (b : Bool). elim b [ true ↦ store (page_block γ g) p ∷ [] | false ↦ [] ]) leaves_moves

    -- ---- the memory after

    changed_moves : (g : ℕ) (p : List ℕ) → g < γ.most_groups → length p ≡ page_size γ
        → changed_memory (widened γ n) (migrated γ n m) g p ≡ migrated γ n (changed_memory γ m g p)
    changed_moves g p h lp =
        let k = count m g + 1 in
        let l₁ = (count_in σ m l g k h).size ∙ l in
        let counted : with_count (migrated γ n m) g (count (migrated γ n m) g + 1) ≡ migrated γ n (with_count m g k) =
        ap (λ (x : ℕ). with_count (migrated γ n m) g (x + 1)) (migrated_count σ ω m l g h) ∙ count_moves σ ω m l g k h in
        true_or_false (page_leaves γ m g)
        (λ e.
        changed_leaving ω.proper (migrated γ n m) g p (leaves_moves g ∙ e)
        ∙ ap (holding_none (widened γ n)) counted
        ∙ none_moves σ ω (with_count m g k) l₁
        ∙ ap (migrated γ n) (sym (changed_leaving σ m g p e)))
        (λ e.
        changed_staying ω.proper (migrated γ n m) g p (leaves_moves g ∙ e)
        ∙ ap₂ (λ (x : List ℕ) (i : ℕ). holding (widened γ n) x g i p) counted (next_moves g)
        ∙ holding_moves σ ω (with_count m g k) l₁ g (next_update_count γ m g) p lp
        ∙ ap (migrated γ n) (sym (changed_staying σ m g p e)))

    restarted_moves : ((held γ m ≡ none → ⊥) → held γ m < γ.most_groups)
        → restarted_memory (widened γ n) (migrated γ n m) ≡ migrated γ n (restarted_memory γ m)
    restarted_moves small =
        let same = migrated_held σ ω m l in
        same_or_not (held γ m) none
        (λ e. restarted_none ω.proper (migrated γ n m) (same ∙ e) ∙ ap (migrated γ n) (sym (restarted_none σ m e)))
        (λ e.
        let h = held γ m in
        restarted_held ω.proper (migrated γ n m) (λ x. e (sym same ∙ x))
        ∙ ap₂ (λ (x : List ℕ) (i : ℕ). with_count x i (count (migrated γ n m) i + 1)) (none_moves σ ω m l) same
        ∙ ap (λ (x : ℕ). with_count (migrated γ n (holding_none γ m)) h (x + 1)) (migrated_count σ ω m l h (small e))
        ∙ count_moves σ ω (holding_none γ m) (page_dropped σ m l).size h (count m h + 1) (small e)
        ∙ ap (migrated γ n) (sym (restarted_held σ m e)))

    salted_moves : (s : List ℕ) → length s ≡ salt_size → salted (widened γ n) (migrated γ n m) s ≡ migrated γ n (salted γ m s)
    unfolding salted
    salted_moves s ls =
        let dropped = (page_dropped σ m l).size in
        ap (λ (x : List ℕ). with_salt (with_no_counts (widened γ n) x) s) (none_moves σ ω m l)
        ∙ ap (λ (x : List ℕ). with_salt x s) (counts_move σ ω (holding_none γ m) dropped)
        ∙ salt_moves σ ω (with_no_counts γ (holding_none γ m)) ((counts_in σ (holding_none γ m) dropped).size ∙ dropped) s ls

  -- ---- by kind

  change_moves : (u : Update) (s : Box) (c : Command) → Passed γ (Change u) s c → Changes γ u s c
      → change (widened γ n) u (moved_box γ n s) c ≡ moved_effect γ n (change γ u s c)
  unfolding change put_content updated_page brought_page group_of place_of physical
  change_moves u s c q x =
      let m = s.memory in
      let l = q.memory.size in
      let g = group_of γ c.block in
      let p = changed_page γ u c in
      let after = changed_memory γ m g p in
      let xs = (change γ u s c).stores in
      let h : g < γ.most_groups = omega (arith, changed_group σ u s c x, q.memory.most) in
      let newAfter = changed_memory (widened γ n) (migrated γ n m) g p in
      ap₂ (λ (es ys : List Store). effect_of (es ++ (put_content γ u c.block c.content ++ ys)) newAfter (tagged (widened γ n) newAfter g p))
      (evict_moves m l g) (put_leaving_moves m l g p)
      ∙ ap (λ (i : List ℕ). effect_of xs i (tagged (widened γ n) i g p)) (changed_moves m l g p h (changed_length σ u c x.proof))
      ∙ ap (effect_of xs (migrated γ n after)) (tagged_moves σ ω after (change_reads σ u s c q x).size g p h)

  effect_moves : (k : Kind) (s : Box) (c : Command) → Passed γ k s c → ((u : Update) → k ≡ Change u → Changes γ u s c)
      → effect (widened γ n) k (moved_box γ n s) c ≡ moved_effect γ n (effect γ k s c)
  unfolding effect read show_entry show_page sync restart new_salt identify block block_start physical data_blocks
  effect_moves Read s c q x = refl
  effect_moves Entry s c q x =
      ap (λ (e : PageEntry). effect_of [] (migrated γ n s.memory) (entry_answer c.now e)) (current_entry_moves σ ω s q.memory.size c.block)
  effect_moves Page s c q x =
      let m = s.memory in
      let l = q.memory.size in
      let g = c.block in
      let h : g < γ.most_groups = omega (arith, ltb-true g (groups γ m) q.range, q.memory.most) in
      ap (λ (p : List ℕ). effect_of [] (migrated γ n m) (tagged (widened γ n) (migrated γ n m) g p)) (current_page_moves σ ω s l g)
      ∙ ap (effect_of [] (migrated γ n m)) (tagged_moves σ ω m l g (current_page γ s g) h)
  effect_moves (Change u) s c q x = change_moves u s c q (x u refl)
  effect_moves Sync s c q x =
      ap₂ (λ (xs : List Store) (m : List ℕ). effect_of xs m []) (put_held_moves s.memory q.memory.size) (none_moves σ ω s.memory q.memory.size)
  effect_moves Restart s c q x =
      ap (λ (m : List ℕ). effect_of [] m [])
      (restarted_moves s.memory q.memory.size (λ e. omega (arith, q.memory.holds.group e, q.memory.most)))
  effect_moves NewSalt s c q x =
      ap₂ (λ (xs : List Store) (m : List ℕ). effect_of xs m []) (put_held_moves s.memory q.memory.size)
      (salted_moves s.memory q.memory.size c.content q.content)
  effect_moves Identify s c q x =
      ap (λ (g : ℕ). effect_of [] (migrated γ n s.memory) (bytes identify_size g ++ bytes identify_size (data_blocks γ g)))
      (migrated_groups σ ω s.memory q.memory.size)
  effect_moves Unknown s c q x = refl

  -- ---- the outcome

  pub timed_moves : (s : Box) (t : ℕ) → length s.memory ≡ memory_size γ → timed (widened γ n) (moved_box γ n s) t ≡ moved_box γ n (timed γ s t)
  unfolding timed
  timed_moves s t l = rw (time_moves σ ω s.memory l t)

  done_moves : (disk : List ℕ) (e : Effect) → done (widened γ n) disk (moved_effect γ n e) ≡ moved γ n (done γ disk e)
  unfolding done padded
  done_moves disk e = rw (stored_moves disk e.stores)

  -- ---- the step

  pub step_moves : (s : Box) (c : Command) → valid γ s.memory ≡ true → step (widened γ n) (moved_box γ n s) c ≡ moved γ n (step γ s c)
  step_moves s c v =
      let k = kind_of c in
      let number = refusal_moves σ ω s c v in
      same_or_not (refusal γ s c) 0
      (λ r.
      let q = passed σ k s c (all_yes σ k s c refl r) in
      let t = timed γ s c.now in
      step_accepted ω.proper k (moved_box γ n s) c refl (number ∙ r)
      ∙ ap (λ (b : Box). done (widened γ n) s.disk (effect (widened γ n) k b c)) (timed_moves s c.now q.memory.size)
      ∙ ap (done (widened γ n) s.disk) (effect_moves k t c (passed_timed σ k s c q) (accepted_changes σ k s c refl r))
      ∙ done_moves s.disk (effect γ k t c)
      ∙ ap (moved γ n) (sym (step_accepted σ k s c refl r)))
      (λ z.
      sym (refused_of ω.proper (moved_box γ n s) c (refusal γ s c) (sym number) z)
      ∙ ap (moved γ n) (refused_of σ s c (refusal γ s c) refl z))
