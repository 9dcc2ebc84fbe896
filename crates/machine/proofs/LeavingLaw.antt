-- Laws of an update's page, which is held or leaves by itself: when it leaves, its store, and the memory after. Assumes nothing.
use mathlib.Core.Path.{◌≡◌, refl, ap₂, ◌∙◌}
use mathlib.Core.Bool.{Bool, true, false}
use mathlib.Core.List.{List, [], ◌∷◌, ◌++◌}
use Prim.Native.Nat.{ℕ, ◌+◌, ◌^◌, ◌≤◌, ◌<◌}
use native.Mathlib.Omega.{arith}
use borrow.Author.Tests.{eq-eqb, ne_eqb, ltb-false, lt-ltb, le-ltb}
use lib.Dec.{eqb}
use lib.ListN.{length}
use Rattle.octets.specs.Part.{repeated}
use Rattle.lockpage.specs.Geometry.{Geometry, Proper}
use Rattle.lockpage.specs.Size.{page_size}
use Rattle.lockpage.specs.declared.Update.{Update}
use Rattle.lockpage.specs.declared.Update.TheVariants.{Write}
use Rattle.addressing.specs.Map.{group_of, page_block}
use Rattle.memory.specs.Layout.{memory_size, count_size}
use Rattle.memory.specs.Memory.{salt, count, last_time, groups, held, none, most_updates, update_count, with_count, holding, holding_none}
use Rattle.memory.specs.Claims.{Reads, changed}
use Rattle.memory.proofs.FieldLaw.{count_set, page_held, page_dropped}
use Rattle.machine.specs.Command.{Box, Command}
use Rattle.machine.specs.Effect.{Store, store, put_held, evict, put_content, next_update_count, page_leaves, put_leaving, changed_page, changed_memory, change}
use Rattle.machine.specs.After.{HeldPageFirst, LeavingPageLast}
use Rattle.machine.proofs.EffectLaw.{EachStore, each_append, each_evicted, put_some, evict_same, evict_other}

-- γ is any proper geometry
module _ {γ : Geometry} (σ : Proper γ) where
  -- ---- when it leaves

  module _ (m : List ℕ) (g : ℕ) where
    pub next_same : held γ m ≡ g → next_update_count γ m g ≡ update_count γ m + 1
    unfolding next_update_count
    next_same e = rw (next_update_count, eq-eqb (held γ m) g e)

    pub next_new : (held γ m ≡ g → ⊥) → next_update_count γ m g ≡ 1
    unfolding next_update_count
    next_new n = rw (next_update_count, ne_eqb (held γ m) g n)

    pub next_some : 1 ≤ next_update_count γ m g
    unfolding next_update_count
    next_some = go (eqb (held γ m) g)
      where
        go : (b : Bool) → 1 ≤ elim b [ true ↦ update_count γ m + 1 | false ↦ 1 ]
        go true = omega arith
        go false = omega arith

    pub stays_few : page_leaves γ m g ≡ false → next_update_count γ m g ≤ most_updates
    unfolding page_leaves
    stays_few e = ltb-false most_updates (next_update_count γ m g) e

    pub many_leaves : most_updates < next_update_count γ m g → page_leaves γ m g ≡ true
    unfolding page_leaves
    many_leaves h = lt-ltb most_updates (next_update_count γ m g) h

    pub few_stays : next_update_count γ m g ≤ most_updates → page_leaves γ m g ≡ false
    unfolding page_leaves
    few_stays h = le-ltb most_updates (next_update_count γ m g) h

    -- a page that comes in stays
    pub new_stays : (held γ m ≡ g → ⊥) → page_leaves γ m g ≡ false
    new_stays n = few_stays (omega (arith, next_new n))

  -- it hangs on the held group and on the count of its updates
  module _ (m n : List ℕ) (g : ℕ) (eh : held γ n ≡ held γ m) (eu : update_count γ n ≡ update_count γ m) where
    pub next_alike : next_update_count γ n g ≡ next_update_count γ m g
    unfolding next_update_count
    next_alike = ap₂ (λ (h k : ℕ). elim (eqb h g) [ true ↦ k + 1 | false ↦ 1 ]) eh eu

    pub leaves_alike : page_leaves γ n g ≡ page_leaves γ m g
    unfolding page_leaves
    leaves_alike = rw next_alike

  -- ---- its store

  pub put_leaving_lem : (m : List ℕ) (g : ℕ) (p : List ℕ) → page_leaves γ m g ≡ true → put_leaving γ m g p ≡ store (page_block γ g) p ∷ []
  unfolding put_leaving
  put_leaving_lem m g p e = rw (put_leaving, e)

  pub put_staying : (m : List ℕ) (g : ℕ) (p : List ℕ) → page_leaves γ m g ≡ false → put_leaving γ m g p ≡ []
  unfolding put_leaving
  put_staying m g p e = rw (put_leaving, e)

  -- what holds of it, if there is one, holds of each
  pub each_leaving : (P : Store → Type 0) (m : List ℕ) (g : ℕ) (p : List ℕ) → (page_leaves γ m g ≡ true → P (store (page_block γ g) p))
      → EachStore P (put_leaving γ m g p)
  unfolding put_leaving
  each_leaving P m g p h = go (page_leaves γ m g) refl
    where
      go : (b : Bool) → page_leaves γ m g ≡ b → EachStore P (elim b [ true ↦ store (page_block γ g) p ∷ [] | false ↦ [] ])
      go true e = (h e, tt)
      go false e = tt

  -- ---- the memory after

  pub changed_leaving : (m : List ℕ) (g : ℕ) (p : List ℕ) → page_leaves γ m g ≡ true
      → changed_memory γ m g p ≡ holding_none γ (with_count m g (count m g + 1))
  unfolding changed_memory
  changed_leaving m g p e = rw (changed_memory, e)

  pub changed_staying : (m : List ℕ) (g : ℕ) (p : List ℕ) → page_leaves γ m g ≡ false
      → changed_memory γ m g p ≡ holding γ (with_count m g (count m g + 1)) g (next_update_count γ m g) p
  unfolding changed_memory
  changed_staying m g p e = rw (changed_memory, e)

  -- what is held changes after the other fields
  held_after : (m n s : List ℕ) (c : ℕ → ℕ) (t g h k : ℕ) (p : List ℕ) (i j : ℕ) (q : List ℕ) → Reads γ m s c t g h k p
      → Reads γ n (salt m) (count m) (last_time γ m) (groups γ m) i j q → Reads γ n s c t g i j q
  held_after m n s c t g h k p i j q a b =
      record {
        size = b.size;
        salt = b.salt ∙ a.salt;
        count = λ x l. b.count x l ∙ a.count x l;
        time = b.time ∙ a.time;
        groups = b.groups ∙ a.groups;
        held = b.held;
        updates = b.updates;
        page = b.page;
      }

  -- the changed page is held, or has left
  pub changed_reads : (m : List ℕ) → length m ≡ memory_size γ → (g : ℕ) (p : List ℕ) → g < γ.most_groups → count m g + 1 < 256 ^ count_size
      → length p ≡ page_size γ
      → Reads γ (changed_memory γ m g p) (salt m) (changed (count m) g (count m g + 1)) (last_time γ m) (groups γ m)
      (elim (page_leaves γ m g) [ true ↦ none | false ↦ g ]) (elim (page_leaves γ m g) [ true ↦ 0 | false ↦ next_update_count γ m g ])
      (elim (page_leaves γ m g) [ true ↦ repeated (page_size γ) 0 | false ↦ p ])
  unfolding changed_memory
  changed_reads m l g p h n lp = go (page_leaves γ m g) refl
    where
      go : (b : Bool) → page_leaves γ m g ≡ b
          → Reads γ (elim b [
            | true ↦ holding_none γ (with_count m g (count m g + 1))
            | false ↦
                holding γ (with_count m g (count m g + 1)) g (next_update_count γ m g) p
          ])
          (salt m) (changed (count m) g (count m g + 1)) (last_time γ m) (groups γ m) (elim b [ true ↦ none | false ↦ g ])
          (elim b [ true ↦ 0 | false ↦ next_update_count γ m g ]) (elim b [ true ↦ repeated (page_size γ) 0 | false ↦ p ])
      go true e =
          let a = count_set σ m l g (count m g + 1) h n in
          held_after _ _ _ _ _ _ _ _ _ _ _ _ a (page_dropped σ (with_count m g (count m g + 1)) a.size)
      go false e =
          let a = count_set σ m l g (count m g + 1) h n in
          held_after _ _ _ _ _ _ _ _ _ _ _ _ a
          (page_held σ (with_count m g (count m g + 1)) a.size g (next_update_count γ m g) p (omega arith) (omega (arith, stays_few m g e)) lp)

  -- ---- an update's stores

  -- where another group is held, its page goes first
  pub held_first : HeldPageFirst γ
  unfolding HeldPageFirst change put_content
  held_first s c lock n other =
      let g = group_of γ c.block in
      let p = changed_page γ (Write lock) c in
      let stays = new_stays s.memory g other in
      rw (change, evict_other σ s.memory g other, put_some σ s.memory n, put_staying s.memory g p stays)

  -- the page that leaves goes last
  pub leaving_last : LeavingPageLast γ
  unfolding LeavingPageLast change put_content
  leaving_last s c lock e full =
      let g = group_of γ c.block in
      let p = changed_page γ (Write lock) c in
      let leaves = many_leaves s.memory g (omega (arith, next_same s.memory g e)) in
      rw (change, evict_same σ s.memory g e, put_leaving_lem s.memory g p leaves)

  -- what holds of the held page's, of the data's and of the changed page's holds of each
  pub each_change : (P : Store → Type 0) (u : Update) (s : Box) (c : Command) → EachStore P (put_held γ s.memory)
      → EachStore P (put_content γ u c.block c.content) → P (store (page_block γ (group_of γ c.block)) (changed_page γ u c))
      → EachStore P (change γ u s c).stores
  unfolding change
  each_change P u s c evicted content leaving =
      let m = s.memory in
      let g = group_of γ c.block in
      let p = changed_page γ u c in
      each_append P (evict γ m g) (put_content γ u c.block c.content ++ put_leaving γ m g p) (each_evicted σ P m g evicted)
      (each_append P (put_content γ u c.block c.content) (put_leaving γ m g p) content (each_leaving P m g p (λ e. leaving)))
