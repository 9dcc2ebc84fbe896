-- Laws of the effects: what the memory reads after each, and that their stores are whole blocks of the box. Assumes nothing.
use mathlib.Core.Path.{◌≡◌, refl, ap, sym, ◌∙◌}
use mathlib.Core.Bool.{Bool, true, false}
use mathlib.Core.List.{List, [], ◌∷◌, ◌++◌}
use Prim.Native.Nat.{ℕ, ◌+◌, ◌*◌, ◌^◌, ◌<◌}
use native.Mathlib.Omega.{arith}
use borrow.Author.Tests.{eqb-false, eq-eqb, ne_eqb}
use lib.Dec.{eqb}
use lib.ListN.{length}
use Rattle.octets.specs.Part.{repeated}
use Rattle.lockpage.specs.Geometry.{Geometry, Proper}
use Rattle.lockpage.specs.Size.{block_size, page_size}
use Rattle.lockpage.specs.declared.Update.{Update}
use Rattle.lockpage.specs.declared.Update.TheVariants.{Write, Unfreeze, Increment}
use Rattle.lockpage.proofs.PageLaw.{entry_within, with_entry_length}
use Rattle.addressing.specs.Map.{group_blocks, disk_size, data_blocks, place_of, page_block}
use Rattle.addressing.proofs.MapLaw.{place_of_below, physical_below, physical_page, page_block_below}
use Rattle.disk.specs.Disk.{block, with_block}
use Rattle.disk.proofs.DiskLaw.{with_block_length, block_other, block_within}
use Rattle.memory.specs.Layout.{memory_size, salt_size, count_size}
use Rattle.memory.specs.Memory.{salt, count, last_time, groups, held, none, update_count, held_page, with_count, with_no_counts, holding_none}
use Rattle.memory.specs.Claims.{Reads, changed}
use Rattle.memory.proofs.FieldLaw.{salt_set, count_set, counts_cleared, page_dropped, held_page_length}
use Rattle.validity.proofs.ValidLaw.{Valid}
use Rattle.machine.specs.declared.Kind.TheVariants.{Change}
use Rattle.machine.specs.Command.{Box, Command, box_of, proof_size, brought_page}
use Rattle.machine.specs.Question.{content_length}
use Rattle.machine.specs.Effect.{Store, Effect, store, stored, put_held, evict, put_content, updated_page, changed_page, restarted_memory, salted}
use Rattle.machine.proofs.CaseLaw.{same_or_not}
use Rattle.machine.proofs.TagLaw.{brought_length}

-- ---- counts

pub count_changed : (c : ℕ → ℕ) (g n : ℕ) → changed c g n g ≡ n
count_changed c g n = rw (changed, eq-eqb g g refl)

pub count_unchanged : (c : ℕ → ℕ) (g n k : ℕ) → (k ≡ g → ⊥) → changed c g n k ≡ c k
count_unchanged c g n k e = rw (changed, ne_eqb k g e)

-- ---- each of several stores

-- P holds of each store
abbrev pub EachStore : (Store → Type 0) → List Store → Type 0
EachStore P [] = Unit
EachStore P (x ∷ xs) = P x × EachStore P xs

pub each_append : (P : Store → Type 0) (xs ys : List Store) → EachStore P xs → EachStore P ys → EachStore P (xs ++ ys)
each_append P [] ys h k = k
each_append P (x ∷ xs) ys h k = (h.0, each_append P xs ys h.1 k)

-- γ is the box's geometry
module _ (γ : Geometry) where
  -- the box that an effect leaves
  abbrev pub left : Box → Effect → Box
  left s e = box_of e.memory (stored γ s.disk e.stores)

  -- a whole block of a box of so many groups
  pub record Whole (groups : ℕ) (x : Store) : Type 0 where
    pub place : x.place < group_blocks γ * groups
    pub size : length x.bytes ≡ block_size γ

  -- a store of another block than p
  pub record Elsewhere (groups p : ℕ) (x : Store) : Type 0 where
    pub whole : Whole groups x
    pub other : p ≡ x.place → ⊥

-- γ is any proper geometry
module _ {γ : Geometry} (σ : Proper γ) where
  -- ---- the memory after

  pub restarted_none : (m : List ℕ) → held γ m ≡ none → restarted_memory γ m ≡ m
  unfolding restarted_memory
  restarted_none m e = rw (restarted_memory, eq-eqb (held γ m) none e)

  restarted_reads : (m : List ℕ) → length m ≡ memory_size γ → (held γ m ≡ none → ⊥) → held γ m < γ.most_groups
      → count m (held γ m) + 1 < 256 ^ count_size
      → Reads γ (restarted_memory γ m) (salt m) (changed (count m) (held γ m) (count m (held γ m) + 1))
      (last_time γ m) (groups γ m) none 0 (repeated (page_size γ) 0)
  unfolding restarted_memory
  restarted_reads m l e h n = rw (restarted_memory, ne_eqb (held γ m) none e) (both (page_dropped σ m l))
    where
      both : Reads γ (holding_none γ m) (salt m) (count m) (last_time γ m) (groups γ m) none 0 (repeated (page_size γ) 0)
          → Reads γ (with_count (holding_none γ m) (held γ m) (count m (held γ m) + 1)) (salt m) (changed (count m) (held γ m) (count m (held γ m) + 1))
          (last_time γ m) (groups γ m) none 0 (repeated (page_size γ) 0)
      both a =
          let b = count_set σ (holding_none γ m) a.size (held γ m) (count m (held γ m) + 1) h n in
          record {
            size = b.size;
            salt = b.salt ∙ a.salt;
            count = λ k i. b.count k i ∙ ap (λ (x : ℕ). elim (eqb k (held γ m)) [ true ↦ count m (held γ m) + 1 | false ↦ x ]) (a.count k i);
            time = b.time ∙ a.time;
            groups = b.groups ∙ a.groups;
            held = b.held ∙ a.held;
            updates = b.updates ∙ a.updates;
            page = b.page ∙ a.page;
          }

  pub restarted_held : (m : List ℕ) → (held γ m ≡ none → ⊥) → restarted_memory γ m ≡ with_count (holding_none γ m) (held γ m) (count m (held γ m) + 1)
  unfolding restarted_memory
  restarted_held m e = rw (restarted_memory, ne_eqb (held γ m) none e)

  -- the fields that a restart leaves, and that none is held after it
  module _ (m : List ℕ) (v : Valid γ m) where
    pub restarted_held_reads : (held γ m ≡ none → ⊥)
        → Reads γ (restarted_memory γ m) (salt m) (changed (count m) (held γ m) (count m (held γ m) + 1))
        (last_time γ m) (groups γ m) none 0 (repeated (page_size γ) 0)
    restarted_held_reads n = restarted_reads m v.size n (omega (arith, v.holds.group n, v.most)) (omega (arith, v.holds.unexhausted n))

    pub restarted_salt : salt (restarted_memory γ m) ≡ salt m
    restarted_salt = same_or_not (held γ m) none (λ n. ap salt (restarted_none m n)) (λ n. (restarted_held_reads n).salt)

    pub restarted_time : last_time γ (restarted_memory γ m) ≡ last_time γ m
    restarted_time = same_or_not (held γ m) none (λ n. ap (last_time γ) (restarted_none m n)) (λ n. (restarted_held_reads n).time)

    pub restarted_groups : groups γ (restarted_memory γ m) ≡ groups γ m
    restarted_groups = same_or_not (held γ m) none (λ n. ap (groups γ) (restarted_none m n)) (λ n. (restarted_held_reads n).groups)

    pub restarted_drops : held γ (restarted_memory γ m) ≡ none
    restarted_drops = same_or_not (held γ m) none (λ n. ap (held γ) (restarted_none m n) ∙ n) (λ n. (restarted_held_reads n).held)

    pub restarted_updates : update_count γ (restarted_memory γ m) ≡ 0
    restarted_updates =
        same_or_not (held γ m) none (λ n. ap (update_count γ) (restarted_none m n) ∙ v.holds.no_updates n) (λ n. (restarted_held_reads n).updates)

  pub salted_reads : (m s : List ℕ) → length m ≡ memory_size γ → length s ≡ salt_size
      → Reads γ (salted γ m s) s (λ k. 0) (last_time γ m) (groups γ m) none 0 (repeated (page_size γ) 0)
  unfolding salted
  salted_reads m s l ls =
      let a = page_dropped σ m l in
      let b = counts_cleared σ (holding_none γ m) a.size in
      let d = salt_set σ (with_no_counts γ (holding_none γ m)) b.size s ls in
      record {
        size = d.size;
        salt = d.salt;
        count = λ k i. d.count k i ∙ b.count k i;
        time = d.time ∙ b.time ∙ a.time;
        groups = d.groups ∙ b.groups ∙ a.groups;
        held = d.held ∙ b.held ∙ a.held;
        updates = d.updates ∙ b.updates ∙ a.updates;
        page = d.page ∙ b.page ∙ a.page;
      }

  -- the page that an update stores
  pub changed_length : (u : Update) (c : Command) → length c.proof ≡ proof_size γ → length (changed_page γ u c) ≡ page_size γ
  unfolding updated_page
  changed_length u c l =
      let brought = brought_length σ c.proof l in
      with_entry_length (brought_page γ c.proof) (place_of γ c.block) _
      (entry_within σ (brought_page γ c.proof) (place_of γ c.block) brought (place_of_below σ c.block))
      ∙ brought

  -- ---- stores

  -- what holds of the disk, and is kept by each of the stores, holds of the disk after them
  pub each_keeps : (P : List ℕ → Type 0) (Q : Store → Type 0) → ((d : List ℕ) (x : Store) → Q x → P d → P (with_block γ d x.place x.bytes))
      → (d : List ℕ) (xs : List Store) → EachStore Q xs → P d → P (stored γ d xs)
  unfolding stored
  each_keeps P Q keep d [] h p = p
  each_keeps P Q keep d (x ∷ xs) h p = each_keeps P Q keep (with_block γ d x.place x.bytes) xs h.1 (keep d x h.0 p)

  pub stored_append : (d : List ℕ) (xs ys : List Store) → stored γ d (xs ++ ys) ≡ stored γ (stored γ d xs) ys
  unfolding stored
  stored_append d [] ys = refl
  stored_append d (x ∷ xs) ys = stored_append (with_block γ d x.place x.bytes) xs ys

  pub stored_length : (groups : ℕ) (d : List ℕ) (xs : List Store) → EachStore (Whole γ groups) xs → length d ≡ disk_size γ groups
      → length (stored γ d xs) ≡ disk_size γ groups
  stored_length groups =
      each_keeps (λ (d : List ℕ). length d ≡ disk_size γ groups) (Whole γ groups)
      (λ d x w l. with_block_length σ d x.place x.bytes w.size (block_within σ d groups x.place l w.place) ∙ l)

  pub elsewhere : (groups p : ℕ) (xs : List Store) → EachStore (Whole γ groups) xs → EachStore (λ (x : Store). p ≡ x.place → ⊥) xs
      → EachStore (Elsewhere γ groups p) xs
  elsewhere groups p [] w n = tt
  elsewhere groups p (x ∷ xs) w n = (record { whole = w.0; other = n.0 }, elsewhere groups p xs w.1 n.1)

  pub untouched : (groups p : ℕ) (d : List ℕ) (xs : List Store) → EachStore (Elsewhere γ groups p) xs → length d ≡ disk_size γ groups
      → block γ (stored γ d xs) p ≡ block γ d p
  untouched groups p d xs h l =
      (each_keeps (λ (e : List ℕ). (length e ≡ disk_size γ groups) × (block γ e p ≡ block γ d p)) (Elsewhere γ groups p)
      (λ e x w k.
      let size = w.whole.size in
      let inside = block_within σ e groups x.place k.0 w.whole.place in
      (with_block_length σ e x.place x.bytes size inside ∙ k.0, block_other σ e x.place x.bytes size inside p w.other ∙ k.1))
      d xs h (l, refl)
      ).1

  -- ---- the held page's store

  pub put_none : (m : List ℕ) → held γ m ≡ none → put_held γ m ≡ []
  unfolding put_held
  put_none m e = rw (put_held, eq-eqb (held γ m) none e)

  pub put_some : (m : List ℕ) → (held γ m ≡ none → ⊥) → put_held γ m ≡ store (page_block γ (held γ m)) (held_page γ m) ∷ []
  unfolding put_held
  put_some m n = rw (put_held, ne_eqb (held γ m) none n)

  pub evict_same : (m : List ℕ) (g : ℕ) → held γ m ≡ g → evict γ m g ≡ []
  unfolding evict
  evict_same m g e = rw (evict, eq-eqb (held γ m) g e)

  pub evict_other : (m : List ℕ) (g : ℕ) → (held γ m ≡ g → ⊥) → evict γ m g ≡ put_held γ m
  unfolding evict
  evict_other m g n = rw (evict, ne_eqb (held γ m) g n)

  -- what holds of the held page's store, if there is one, holds of each
  pub each_put : (P : Store → Type 0) (m : List ℕ) → ((held γ m ≡ none → ⊥) → P (store (page_block γ (held γ m)) (held_page γ m)))
      → EachStore P (put_held γ m)
  unfolding put_held
  each_put P m h = go (eqb (held γ m) none) refl
    where
      go : (b : Bool) → eqb (held γ m) none ≡ b
          → EachStore P (elim b [ true ↦ [] | false ↦ store (page_block γ (held γ m)) (held_page γ m) ∷ [] ])
      go true e = tt
      go false e = (h (eqb-false (held γ m) none e), tt)

  pub each_evicted : (P : Store → Type 0) (m : List ℕ) (g : ℕ) → EachStore P (put_held γ m) → EachStore P (evict γ m g)
  unfolding evict
  each_evicted P m g h = go (eqb (held γ m) g)
    where
      go : (b : Bool) → EachStore P (elim b [ true ↦ [] | false ↦ put_held γ m ])
      go true = tt
      go false = h

  pub held_whole : (m : List ℕ) → Valid γ m → (held γ m ≡ none → ⊥) → Whole γ (groups γ m) (store (page_block γ (held γ m)) (held_page γ m))
  held_whole m v n = record { place = page_block_below σ (groups γ m) (held γ m) (v.holds.group n); size = held_page_length σ m v.size }

  pub put_whole : (m : List ℕ) → Valid γ m → EachStore (Whole γ (groups γ m)) (put_held γ m)
  put_whole m v = each_put (Whole γ (groups γ m)) m (held_whole m v)

  -- ---- the data's store

  -- it is of no page
  pub content_on_no_page : (u : Update) (a g : ℕ) (content : List ℕ)
      → EachStore (λ (x : Store). page_block γ g ≡ x.place → ⊥) (put_content γ u a content)
  unfolding put_content
  content_on_no_page (Write lock) a g content = (λ p. physical_page σ a g (sym p), tt)
  content_on_no_page Unfreeze a g content = tt
  content_on_no_page (Increment value) a g content = tt

  pub content_whole : (u : Update) (groups a : ℕ) (content : List ℕ) → length content ≡ content_length γ (Change u) → a < data_blocks γ groups
      → EachStore (Whole γ groups) (put_content γ u a content)
  unfolding put_content
  content_whole (Write lock) groups a content l h = (record { place = physical_below σ groups a h; size = l }, tt)
  content_whole Unfreeze groups a content l h = tt
  content_whole (Increment value) groups a content l h = tt
