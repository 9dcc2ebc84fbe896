-- What is known of one block, through every accepted command: of its content on the disk, and of its entry on each page that may become
-- current, the disk's and, where its group is held, the held one. A restart falls back to the disk's, a sync or an eviction puts the held
-- one there. Assumes nothing.
use mathlib.Core.Path.{◌≡◌, refl, ap, sym, subst, ◌∙◌}
use mathlib.Core.Bool.{true}
use mathlib.Core.List.{List}
use Prim.Native.Nat.{ℕ, ◌≤◌}
use native.Mathlib.Omega.{arith}
use lib.ListN.{length}
use Rattle.lockpage.specs.Geometry.{Geometry, Proper}
use Rattle.lockpage.specs.declared.Entry.{Entry as PageEntry}
use Rattle.lockpage.specs.declared.Update.{Update}
use Rattle.lockpage.specs.declared.Update.TheVariants.{Write, Unfreeze, Increment}
use Rattle.lockpage.specs.Entry.{EntryFits}
use Rattle.lockpage.specs.State.{state}
use Rattle.lockpage.specs.Update.{latest_time, updated, allowed, within_limit}
use Rattle.lockpage.specs.Page.{entry_at}
use Rattle.addressing.specs.Map.{disk_size, group_of, place_of, physical, page_block}
use Rattle.addressing.proofs.MapLaw.{physical_same, page_block_same, physical_page, place_same}
use Rattle.disk.specs.Disk.{block, with_block}
use Rattle.disk.proofs.DiskLaw.{with_block_length, block_same, block_other, block_within}
use Rattle.memory.specs.Memory.{groups, held, none, held_page}
use Rattle.memory.proofs.FieldLaw.{page_dropped}
use Rattle.validity.proofs.ValidLaw.{Valid}
use Rattle.machine.specs.declared.Kind.{Kind}
use Rattle.machine.specs.declared.Kind.TheVariants.{Read, Entry, Page, Change, Sync, Restart, NewSalt, Identify, Unknown}
use Rattle.machine.specs.Command.{Box, Command, brought_page, brought_entry}
use Rattle.machine.specs.Tag.{current_page}
use Rattle.machine.specs.Question.{content_length}
use Rattle.machine.specs.Effect.{Store, stored, effect, read, show_entry, show_page, put_held, put_content, updated_page, changed_page, change, sync, restart}
use Rattle.machine.specs.Effect.{new_salt, identify, store, page_leaves}
use Rattle.machine.specs.Step.{timed}
use Rattle.machine.proofs.CaseLaw.{same_or_not, true_or_false}
use Rattle.machine.proofs.TagLaw.{current, brought_length}
use Rattle.machine.proofs.PassedLaw.{Timely, Passed, Changes, changed_group, timed_reads}
use Rattle.machine.proofs.EffectLaw.{left, EachStore, Whole, each_keeps, each_put, held_whole, content_whole, restarted_drops, salted_reads}
use Rattle.machine.proofs.LeavingLaw.{each_change}
use Rattle.machine.proofs.ChangeLaw.{change_holds, change_drops, change_page_held, leaving_whole}
use Rattle.machine.proofs.CurrentLaw.{entry_replaced}

-- γ is the box's geometry. Block b's content is one of C, and its entry one of P
module _ (γ : Geometry) (b : ℕ) (C : List ℕ → Type 0) (P : PageEntry → Type 0) where
  -- on a page of its group
  abbrev pub OnPage : List ℕ → Type 0
  OnPage p = P (entry_at p (place_of γ b))

  pub record OnDisk (d : List ℕ) : Type 0 where
    pub content : C (block γ d (physical γ b))
    pub page : OnPage (block γ d (page_block γ (group_of γ b)))

  -- a store that leaves it so
  record Harmless (groups : ℕ) (x : Store) : Type 0 where
    whole : Whole γ groups x
    content : physical γ b ≡ x.place → C x.bytes
    page : page_block γ (group_of γ b) ≡ x.place → OnPage x.bytes

  pub record Watched (s : Box) : Type 0 where
    pub disk : OnDisk s.disk
    pub held : (held γ s.memory ≡ none → ⊥) → held γ s.memory ≡ group_of γ b → OnPage (held_page γ s.memory)

  -- an update of the block itself, by a command that passes, leaves its entry one of P, and a write its content one of C
  pub record Leaves (k : Kind) (c : Command) : Type 0 where
    pub entry : (u : Update) → k ≡ Change u → c.block ≡ b → c.now ≤ latest_time → allowed u (state c.now (brought_entry γ c)) ≡ true
        → within_limit (updated u c.now (brought_entry γ c)) ≡ true → P (brought_entry γ c)
        → EntryFits (updated u c.now (brought_entry γ c)) × P (updated u c.now (brought_entry γ c))
    pub content : (lock : ℕ) → k ≡ Change (Write lock) → c.block ≡ b → allowed (Write lock) (state c.now (brought_entry γ c)) ≡ true
        → P (brought_entry γ c) → C c.content

-- γ is any proper geometry
module _ {γ : Geometry} (σ : Proper γ) (b : ℕ) (C : List ℕ → Type 0) (P : PageEntry → Type 0) where
  -- ---- disks

  store_watched : (groups : ℕ) (d : List ℕ) (x : Store) → Harmless γ b C P groups x → (length d ≡ disk_size γ groups) × OnDisk γ b C P d
      → (length (with_block γ d x.place x.bytes) ≡ disk_size γ groups) × OnDisk γ b C P (with_block γ d x.place x.bytes)
  store_watched groups d x h s =
      let q = x.place in
      let new = x.bytes in
      let size = h.whole.size in
      let inside = block_within σ d groups q s.0 h.whole.place in
      let kept : (Q : List ℕ → Type 0) (p : ℕ) → (p ≡ q → Q new) → Q (block γ d p) → Q (block γ (with_block γ d q new) p) =
      λ Q p own old.
      same_or_not p q
      (λ e. subst Q (sym (ap (block γ (with_block γ d q new)) e ∙ block_same σ d q new size inside)) (own e))
      (λ e. subst Q (sym (block_other σ d q new size inside p e)) old) in (
        with_block_length σ d q new size inside ∙ s.0,
        record {
          content = kept C (physical γ b) h.content s.1.content;
          page = kept (OnPage γ b C P) (page_block γ (group_of γ b)) h.page s.1.page;
        },
      )

  stores_watched : (groups : ℕ) (d : List ℕ) (xs : List Store) → EachStore (Harmless γ b C P groups) xs → length d ≡ disk_size γ groups
      → OnDisk γ b C P d → OnDisk γ b C P (stored γ d xs)
  stores_watched groups d xs h l s =
      (each_keeps σ (λ (d : List ℕ). (length d ≡ disk_size γ groups) × OnDisk γ b C P d) (Harmless γ b C P groups) (store_watched groups) d xs h (l, s)).1

  -- ---- the last time is set

  pub timed_watched : (s : Box) (now : ℕ) → Timely γ s now → Watched γ b C P s → Watched γ b C P (timed γ s now)
  unfolding timed
  timed_watched s now q h =
      let r = timed_reads σ s now q in
      record {
        disk = h.disk;
        held = λ n e. subst (OnPage γ b C P) (sym r.page) (h.held (λ x. n (r.held ∙ x)) (sym r.held ∙ e));
      }

  -- ---- the held page leaves or is lost

  held_harmless : (s : Box) → Valid γ s.memory → Watched γ b C P s → EachStore (Harmless γ b C P (groups γ s.memory)) (put_held γ s.memory)
  held_harmless s v h =
      each_put σ (Harmless γ b C P (groups γ s.memory)) s.memory
      (λ n.
      record {
        whole = held_whole σ s.memory v n;
        content = λ e. absurd (physical_page σ b (held γ s.memory) e);
        page = λ e. h.held n (sym (page_block_same σ (group_of γ b) (held γ s.memory) e));
      })

  -- with no page held, the disk is all that counts
  none_watched : (t : Box) → held γ t.memory ≡ none → OnDisk γ b C P t.disk → Watched γ b C P t
  none_watched t n d = record { disk = d; held = λ m x. absurd (m n) }

  module _ (k : Kind) (s : Box) (c : Command) (q : Passed γ k s c) (h : Watched γ b C P s) where
    put_watched : OnDisk γ b C P (stored γ s.disk (put_held γ s.memory))
    put_watched = stores_watched (groups γ s.memory) s.disk (put_held γ s.memory) (held_harmless s q.memory h) q.disk h.disk

    sync_watched : Watched γ b C P (left γ s (sync γ s))
    unfolding sync
    sync_watched = none_watched (left γ s (sync γ s)) (page_dropped σ s.memory q.memory.size).held put_watched

    restart_watched : Watched γ b C P (left γ s (restart γ s))
    unfolding restart stored
    restart_watched = none_watched (left γ s (restart γ s)) (restarted_drops σ s.memory q.memory) h.disk

  salt_watched : (s : Box) (c : Command) → Passed γ NewSalt s c → Watched γ b C P s → Watched γ b C P (left γ s (new_salt γ s c.content))
  unfolding new_salt
  salt_watched s c q h =
      none_watched (left γ s (new_salt γ s c.content)) (salted_reads σ s.memory c.content q.memory.size q.content).held
      (put_watched NewSalt s c q h)

  -- ---- an update, which brings the current page

  module _ (u : Update) (s : Box) (c : Command) (q : Passed γ (Change u) s c) (x : Changes γ u s c)
      (brings : brought_page γ c.proof ≡ current_page γ s (group_of γ c.block)) (a : Leaves γ b C P (Change u) c) (h : Watched γ b C P s) where
    -- the page brought, where it is of the block's group
    brought_watched : group_of γ c.block ≡ group_of γ b → OnPage γ b C P (brought_page γ c.proof)
    brought_watched e =
        subst (OnPage γ b C P) (sym brings)
        (current σ (OnPage γ b C P) s (group_of γ c.block)
        (λ g. h.held (λ n. omega (arith, g, n, changed_group σ u s c x, q.memory.most)) (g ∙ e))
        (subst (λ (g : ℕ). OnPage γ b C P (block γ s.disk (page_block γ g))) (sym e) h.disk.page))

    -- the block's own entry on it
    brought_own : c.block ≡ b → P (brought_entry γ c)
    brought_own e =
        subst (λ (j : ℕ). P (entry_at (brought_page γ c.proof) (place_of γ j))) (sym e) (brought_watched (ap (group_of γ) e))

    changed_watched : group_of γ c.block ≡ group_of γ b → OnPage γ b C P (changed_page γ u c)
    unfolding updated_page
    changed_watched e =
        entry_replaced σ P (brought_page γ c.proof) c.block b _ (brought_length σ c.proof x.proof) (brought_watched e)
        (λ i. let same = place_same σ c.block b e i in a.entry u refl same q.early x.may x.within (brought_own same))

    -- the data, where they go to the block
    content_harmless : (v : Update) → u ≡ v → EachStore (Harmless γ b C P (groups γ s.memory)) (put_content γ v c.block c.content)
    unfolding put_content
    content_harmless (Write lock) e =
        let size = subst (λ (v : Update). length c.content ≡ content_length γ (Change v)) e q.content in (
          record {
            whole = (content_whole σ (Write lock) (groups γ s.memory) c.block c.content size x.range).0;
            content =
                λ p.
                let same = sym (physical_same σ b c.block p) in
                a.content lock (ap Change e) same (subst (λ (v : Update). allowed v (state c.now (brought_entry γ c)) ≡ true) e x.may) (brought_own same);
            page = λ p. absurd (physical_page σ c.block (group_of γ b) (sym p));
          },
          tt,
        )
    content_harmless Unfreeze e = tt
    content_harmless (Increment value) e = tt

    -- the changed page, where it leaves
    leaving_harmless : Harmless γ b C P (groups γ s.memory) (store (page_block γ (group_of γ c.block)) (changed_page γ u c))
    leaving_harmless =
        record {
          whole = leaving_whole σ u s c q x;
          content = λ e. absurd (physical_page σ b (group_of γ c.block) e);
          page = λ e. changed_watched (sym (page_block_same σ (group_of γ b) (group_of γ c.block) e));
        }

    change_watched : Watched γ b C P (left γ s (change γ u s c))
    change_watched =
        record {
          disk =
              stores_watched (groups γ s.memory) s.disk (change γ u s c).stores
              (each_change σ (Harmless γ b C P (groups γ s.memory)) u s c (held_harmless s q.memory h) (content_harmless u refl) leaving_harmless)
              q.disk h.disk;
          held =
              λ n e.
              true_or_false (page_leaves γ s.memory (group_of γ c.block)) (λ i. absurd (n (change_drops σ u s c q x i)))
              (λ i. subst (OnPage γ b C P) (sym (change_page_held σ u s c q x i)) (changed_watched (sym (change_holds σ u s c q x i) ∙ e)));
        }

  -- ---- by kind

  pub effect_watched : (k : Kind) (s : Box) (c : Command) → Passed γ k s c → ((u : Update) → k ≡ Change u → Changes γ u s c)
      → ((u : Update) → k ≡ Change u → brought_page γ c.proof ≡ current_page γ s (group_of γ c.block)) → Leaves γ b C P k c
      → Watched γ b C P s → Watched γ b C P (left γ s (effect γ k s c))
  unfolding effect read show_entry show_page identify stored
  effect_watched Read s c q x brings a h = h
  effect_watched Entry s c q x brings a h = h
  effect_watched Page s c q x brings a h = h
  effect_watched (Change u) s c q x brings a h = change_watched u s c q (x u refl) (brings u refl) a h
  effect_watched Sync s c q x brings a h = sync_watched Sync s c q h
  effect_watched Restart s c q x brings a h = restart_watched Restart s c q h
  effect_watched NewSalt s c q x brings a h = salt_watched s c q h
  effect_watched Identify s c q x brings a h = h
  effect_watched Unknown s c q x brings a h = h
