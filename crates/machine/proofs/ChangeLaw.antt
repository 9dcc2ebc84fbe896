-- What the held page's and the data's stores, and so an update, do to the pages and the data blocks. Assumes nothing.
use mathlib.Core.Path.{◌≡◌, ap, sym, subst, ◌∙◌}
use mathlib.Core.Bool.{Bool, true, false, false≢true}
use mathlib.Core.List.{List, ◌++◌}
use Prim.Native.Nat.{ℕ, ◌+◌, ◌<◌}
use native.Mathlib.Omega.{arith}
use borrow.Author.Tests.{eq-eqb, ne_eqb}
use lib.ListN.{length}
use Rattle.octets.specs.Part.{repeated}
use Rattle.lockpage.specs.Geometry.{Geometry, Proper}
use Rattle.lockpage.specs.Size.{page_size}
use Rattle.lockpage.specs.declared.Update.{Update}
use Rattle.lockpage.specs.declared.Update.TheVariants.{Write, Unfreeze, Increment}
use Rattle.addressing.specs.Map.{disk_size, group_of, physical, page_block}
use Rattle.addressing.proofs.MapLaw.{physical_same, physical_page, page_block_same, page_block_below}
use Rattle.disk.specs.Disk.{block, with_block}
use Rattle.disk.proofs.DiskLaw.{block_same, block_other, block_within}
use Rattle.memory.specs.Memory.{salt, count, last_time, groups, held, none, held_page}
use Rattle.memory.specs.Claims.{Reads, changed}
use Rattle.validity.proofs.ValidLaw.{Valid}
use Rattle.machine.specs.declared.Kind.TheVariants.{Change}
use Rattle.machine.specs.Command.{Box, Command}
use Rattle.machine.specs.Tag.{current_page}
use Rattle.machine.specs.Effect.{Store, store, stored, put_held, evict, put_content, page_leaves, put_leaving, changed_page, changed_memory, change}
use Rattle.machine.specs.After.{held_after, updates_after, page_after, content_after}
use Rattle.machine.proofs.CaseLaw.{same_or_not, true_or_false}
use Rattle.machine.proofs.TagLaw.{current_held, current_other}
use Rattle.machine.proofs.PassedLaw.{Passed, Changes, changed_group}
use Rattle.machine.proofs.EffectLaw.{left, elsewhere, content_on_no_page, EachStore, each_put, each_evicted, Whole, Elsewhere, untouched, stored_length}
use Rattle.machine.proofs.EffectLaw.{stored_append, held_whole, put_whole, put_none, put_some, evict_same, evict_other, content_whole, changed_length}
use Rattle.machine.proofs.LeavingLaw.{put_leaving_lem, each_leaving, changed_reads}

-- γ is any proper geometry
module _ {γ : Geometry} (σ : Proper γ) where
  -- no group of the box has the number that says that none is held
  pub not_none : (m : List ℕ) → Valid γ m → (g h : ℕ) → h ≡ none → g < groups γ m → h ≡ g → ⊥
  not_none m v g h n l e = omega (arith, v.most)

  -- ---- stores

  -- the page that group g's place has once the held page is put on the disk
  pub put_current : (s : Box) (g : ℕ) → Valid γ s.memory → length s.disk ≡ disk_size γ (groups γ s.memory) → g < groups γ s.memory
      → block γ (stored γ s.disk (put_held γ s.memory)) (page_block γ g) ≡ current_page γ s g
  unfolding stored
  put_current s g v l h =
      let m = s.memory in
      let d = s.disk in
      same_or_not (held γ m) none
      (λ n. ap (λ (xs : List Store). block γ (stored γ d xs) (page_block γ g)) (put_none σ m n) ∙ sym (current_other σ s g (not_none m v g (held γ m) n h)))
      (λ n.
      let w = held_whole σ m v n in
      let inside = block_within σ d (groups γ m) (page_block γ (held γ m)) l w.place in
      ap (λ (xs : List Store). block γ (stored γ d xs) (page_block γ g)) (put_some σ m n)
      ∙ same_or_not (held γ m) g
      (λ e.
      subst (λ (i : ℕ). block γ (with_block γ d (page_block γ (held γ m)) (held_page γ m)) (page_block γ i) ≡ held_page γ m) e
      (block_same σ d (page_block γ (held γ m)) (held_page γ m) w.size inside)
      ∙ sym (current_held σ s g e))
      (λ e.
      block_other σ d (page_block γ (held γ m)) (held_page γ m) w.size inside (page_block γ g) (λ p. e (sym (page_block_same σ g (held γ m) p)))
      ∙ sym (current_other σ s g e)))

  -- a held page's store is of no data block
  pub put_elsewhere : (m : List ℕ) → Valid γ m → (a : ℕ) → EachStore (Elsewhere γ (groups γ m) (physical γ a)) (put_held γ m)
  put_elsewhere m v a =
      each_put σ (Elsewhere γ (groups γ m) (physical γ a)) m (λ n. record { whole = held_whole σ m v n; other = physical_page σ a (held γ m) })

  -- ---- an update

  module _ (u : Update) (s : Box) (c : Command) (q : Passed γ (Change u) s c) (x : Changes γ u s c) where
    -- the disk once the held page of another group is put there
    evicted : List ℕ
    evicted = stored γ s.disk (evict γ s.memory (group_of γ c.block))

    pub change_reads : Reads γ (changed_memory γ s.memory (group_of γ c.block) (changed_page γ u c)) (salt s.memory)
        (changed (count s.memory) (group_of γ c.block) (count s.memory (group_of γ c.block) + 1)) (last_time γ s.memory)
        (groups γ s.memory) (held_after γ (Change u) s.memory c) (updates_after γ (Change u) s.memory c)
        (elim (page_leaves γ s.memory (group_of γ c.block)) [ true ↦ repeated (page_size γ) 0 | false ↦ changed_page γ u c ])
    change_reads =
        changed_reads σ s.memory q.memory.size (group_of γ c.block) (changed_page γ u c)
        (omega (arith, changed_group σ u s c x, q.memory.most)) (omega (arith, x.unexhausted)) (changed_length σ u c x.proof)

    -- the changed page is held, or has left
    pub change_holds : page_leaves γ s.memory (group_of γ c.block) ≡ false → held γ (change γ u s c).memory ≡ group_of γ c.block
    unfolding change
    change_holds e = change_reads.held ∙ ap (λ (b : Bool). elim b [ true ↦ none | false ↦ group_of γ c.block ]) e

    pub change_drops : page_leaves γ s.memory (group_of γ c.block) ≡ true → held γ (change γ u s c).memory ≡ none
    unfolding change
    change_drops e = change_reads.held ∙ ap (λ (b : Bool). elim b [ true ↦ none | false ↦ group_of γ c.block ]) e

    pub change_page_held : page_leaves γ s.memory (group_of γ c.block) ≡ false → held_page γ (change γ u s c).memory ≡ changed_page γ u c
    unfolding change
    change_page_held e = change_reads.page ∙ ap (λ (b : Bool). elim b [ true ↦ repeated (page_size γ) 0 | false ↦ changed_page γ u c ]) e

    -- a page that leaves goes to its group's place
    pub leaving_whole : Whole γ (groups γ s.memory) (store (page_block γ (group_of γ c.block)) (changed_page γ u c))
    leaving_whole =
        record { place = page_block_below σ (groups γ s.memory) (group_of γ c.block) (changed_group σ u s c x); size = changed_length σ u c x.proof }

    evicted_length : length evicted ≡ disk_size γ (groups γ s.memory)
    unfolding evicted
    evicted_length =
        stored_length σ (groups γ s.memory) s.disk (evict γ s.memory (group_of γ c.block))
        (each_evicted σ (Whole γ (groups γ s.memory)) s.memory (group_of γ c.block) (put_whole σ s.memory q.memory)) q.disk

    content_stores : EachStore (Whole γ (groups γ s.memory)) (put_content γ u c.block c.content)
    content_stores = content_whole σ u (groups γ s.memory) c.block c.content q.content x.range

    -- the disk once the data are stored too
    filled : List ℕ
    filled = stored γ evicted (put_content γ u c.block c.content)

    filled_length : length filled ≡ disk_size γ (groups γ s.memory)
    unfolding filled
    filled_length = stored_length σ (groups γ s.memory) evicted (put_content γ u c.block c.content) content_stores evicted_length

    -- and at the end
    change_disk : (left γ s (change γ u s c)).disk ≡ stored γ filled (put_leaving γ s.memory (group_of γ c.block) (changed_page γ u c))
    unfolding change evicted filled
    change_disk =
        let leaving : List Store = put_leaving γ s.memory (group_of γ c.block) (changed_page γ u c) in
        stored_append σ s.disk (evict γ s.memory (group_of γ c.block)) (put_content γ u c.block c.content ++ leaving)
        ∙ stored_append σ evicted (put_content γ u c.block c.content) leaving

    -- a block that a page which leaves does not go to
    change_leaves : (p : ℕ) → (page_leaves γ s.memory (group_of γ c.block) ≡ true → p ≡ page_block γ (group_of γ c.block) → ⊥)
        → block γ (left γ s (change γ u s c)).disk p ≡ block γ filled p
    change_leaves p away =
        let g = group_of γ c.block in
        ap (λ (d : List ℕ). block γ d p) change_disk
        ∙ untouched σ (groups γ s.memory) p filled (put_leaving γ s.memory g (changed_page γ u c))
        (each_leaving σ (Elsewhere γ (groups γ s.memory) p) s.memory g (changed_page γ u c)
        (λ e. record { whole = leaving_whole; other = away e }))
        filled_length

    -- nor the data
    change_keeps : (p : ℕ) → EachStore (Elsewhere γ (groups γ s.memory) p) (put_content γ u c.block c.content)
        → (page_leaves γ s.memory (group_of γ c.block) ≡ true → p ≡ page_block γ (group_of γ c.block) → ⊥)
        → block γ (left γ s (change γ u s c)).disk p ≡ block γ evicted p
    unfolding filled
    change_keeps p h away =
        change_leaves p away ∙ untouched σ (groups γ s.memory) p evicted (put_content γ u c.block c.content) h evicted_length

    -- a page goes nowhere but to its group's place, and the data to no page
    change_keeps_page : (g : ℕ) → (page_leaves γ s.memory (group_of γ c.block) ≡ true → group_of γ c.block ≡ g → ⊥)
        → block γ (left γ s (change γ u s c)).disk (page_block γ g) ≡ block γ evicted (page_block γ g)
    change_keeps_page g away =
        change_keeps (page_block γ g)
        (elsewhere σ (groups γ s.memory) (page_block γ g) (put_content γ u c.block c.content) content_stores
        (content_on_no_page σ u c.block g c.content))
        (λ e i. away e (sym (page_block_same σ g (group_of γ c.block) i)))

    -- a page that left is on the disk
    pub change_left : page_leaves γ s.memory (group_of γ c.block) ≡ true
        → block γ (left γ s (change γ u s c)).disk (page_block γ (group_of γ c.block)) ≡ changed_page γ u c
    unfolding stored
    change_left e =
        let g = group_of γ c.block in
        ap (λ (d : List ℕ). block γ d (page_block γ g)) change_disk
        ∙ ap (λ (xs : List Store). block γ (stored γ filled xs) (page_block γ g)) (put_leaving_lem σ s.memory g (changed_page γ u c) e)
        ∙ block_same σ filled (page_block γ g) (changed_page γ u c) leaving_whole.size
        (block_within σ filled (groups γ s.memory) (page_block γ g) filled_length leaving_whole.place)

    change_own : current_page γ (left γ s (change γ u s c)) (group_of γ c.block) ≡ changed_page γ u c
    change_own =
        let g = group_of γ c.block in
        true_or_false (page_leaves γ s.memory g)
        (λ e.
        current_other σ (left γ s (change γ u s c)) g
        (not_none s.memory q.memory g (held γ (change γ u s c).memory) (change_drops e) (changed_group σ u s c x))
        ∙ change_left e)
        (λ e. current_held σ (left γ s (change γ u s c)) g (change_holds e) ∙ change_page_held e)

    -- no other group is held
    change_not_held : (g : ℕ) → g < groups γ s.memory → (group_of γ c.block ≡ g → ⊥) → held γ (change γ u s c).memory ≡ g → ⊥
    change_not_held g h n e =
        true_or_false (page_leaves γ s.memory (group_of γ c.block))
        (λ i. not_none s.memory q.memory g (held γ (change γ u s c).memory) (change_drops i) h e)
        (λ i. n (sym (change_holds i) ∙ e))

    change_other : (g : ℕ) → g < groups γ s.memory → (group_of γ c.block ≡ g → ⊥) → current_page γ (left γ s (change γ u s c)) g ≡ current_page γ s g
    unfolding evicted stored
    change_other g h n =
        current_other σ (left γ s (change γ u s c)) g (change_not_held g h n)
        ∙ change_keeps_page g (λ e. n)
        ∙ same_or_not (held γ s.memory) (group_of γ c.block)
        (λ e.
        ap (λ (xs : List Store). block γ (stored γ s.disk xs) (page_block γ g)) (evict_same σ s.memory (group_of γ c.block) e)
        ∙ sym (current_other σ s g (λ i. n (sym e ∙ i))))
        (λ e.
        ap (λ (xs : List Store). block γ (stored γ s.disk xs) (page_block γ g)) (evict_other σ s.memory (group_of γ c.block) e)
        ∙ put_current s g q.memory q.disk h)

    -- the group's own page on the disk stays, unless it leaves
    pub change_on_disk : page_leaves γ s.memory (group_of γ c.block) ≡ false
        → block γ (left γ s (change γ u s c)).disk (page_block γ (group_of γ c.block)) ≡ block γ s.disk (page_block γ (group_of γ c.block))
    unfolding evicted stored
    change_on_disk stays =
        let g = group_of γ c.block in
        let m = s.memory in
        change_keeps_page g (λ e. absurd (false≢true (sym stays ∙ e)))
        ∙ same_or_not (held γ m) g
        (λ e. ap (λ (xs : List Store). block γ (stored γ s.disk xs) (page_block γ g)) (evict_same σ m g e))
        (λ n.
        ap (λ (xs : List Store). block γ (stored γ s.disk xs) (page_block γ g)) (evict_other σ m g n)
        ∙ untouched σ (groups γ m) (page_block γ g) s.disk (put_held γ m)
        (each_put σ (Elsewhere γ (groups γ m) (page_block γ g)) m
        (λ some. record { whole = held_whole σ m q.memory some; other = λ p. n (sym (page_block_same σ g (held γ m) p)) }))
        q.disk)

    change_keeps_content : (a : ℕ) → EachStore (Elsewhere γ (groups γ s.memory) (physical γ a)) (put_content γ u c.block c.content)
        → block γ (left γ s (change γ u s c)).disk (physical γ a) ≡ block γ s.disk (physical γ a)
    unfolding evicted
    change_keeps_content a h =
        change_keeps (physical γ a) h (λ e. physical_page σ a (group_of γ c.block))
        ∙ untouched σ (groups γ s.memory) (physical γ a) s.disk (evict γ s.memory (group_of γ c.block))
        (each_evicted σ (Elsewhere γ (groups γ s.memory) (physical γ a)) s.memory (group_of γ c.block) (put_elsewhere s.memory q.memory a))
        q.disk

    pub change_page : (g : ℕ) → g < groups γ s.memory → current_page γ (left γ s (change γ u s c)) g ≡ page_after γ (Change u) s c g
    change_page g h =
        same_or_not (group_of γ c.block) g
        (λ e.
        rw (page_after, eq-eqb (group_of γ c.block) g e)
        (subst (λ (i : ℕ). current_page γ (left γ s (change γ u s c)) i ≡ changed_page γ u c) e change_own))
        (λ e. rw (page_after, ne_eqb (group_of γ c.block) g e) (change_other g h e))

  written_content : (lock : ℕ) (s : Box) (c : Command) → Passed γ (Change (Write lock)) s c → Changes γ (Write lock) s c
      → block γ (left γ s (change γ (Write lock) s c)).disk (physical γ c.block) ≡ c.content
  unfolding put_content stored filled
  written_content lock s c q x =
      let u = Write lock in
      let w = (content_stores u s c q x).0 in
      change_leaves u s c q x (physical γ c.block) (λ e. physical_page σ c.block (group_of γ c.block))
      ∙ block_same σ (evicted u s c q x) (physical γ c.block) c.content w.size
      (block_within σ (evicted u s c q x) (groups γ s.memory) (physical γ c.block) (evicted_length u s c q x) w.place)

  pub change_content : (u : Update) (s : Box) (c : Command) → Passed γ (Change u) s c → Changes γ u s c → (a : ℕ)
      → block γ (left γ s (change γ u s c)).disk (physical γ a) ≡ content_after γ (Change u) s.disk c a
  unfolding put_content
  change_content (Write lock) s c q x a =
      same_or_not c.block a
      (λ e.
      rw (content_after, eq-eqb c.block a e)
      (subst (λ (i : ℕ). block γ (left γ s (change γ (Write lock) s c)).disk (physical γ i) ≡ c.content) e (written_content lock s c q x)))
      (λ e.
      rw (content_after, ne_eqb c.block a e)
      (change_keeps_content (Write lock) s c q x a
      (elsewhere σ (groups γ s.memory) (physical γ a) (put_content γ (Write lock) c.block c.content) (content_stores (Write lock) s c q x)
      (λ p. e (sym (physical_same σ a c.block p)), tt))))
  change_content Unfreeze s c q x a = change_keeps_content Unfreeze s c q x a tt
  change_content (Increment value) s c q x a = change_keeps_content (Increment value) s c q x a tt
