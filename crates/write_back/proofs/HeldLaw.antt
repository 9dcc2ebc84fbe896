-- What a valid memory says of the held group, and what becomes of an update's page: it stays or leaves. Assumes nothing.
use mathlib.Core.Path.{◌≡◌, ap, ap₂, sym, subst, ◌∙◌}
use mathlib.Core.Bool.{true, false}
use mathlib.Core.List.{List}
use Prim.Native.Nat.{ℕ, ◌+◌, ◌≤◌, ◌<◌}
use native.Mathlib.Omega.{arith}
use lib.ListN.{length}
use Rattle.std.specs.Prelude.{Some}
use Rattle.lockpage.specs.Geometry.{Geometry, Proper}
use Rattle.addressing.specs.Map.{disk_size, page_block}
use Rattle.disk.specs.Disk.{with_block, HasGroup}
use Rattle.disk.proofs.DiskLaw.{has_group}
use Rattle.memory.specs.Memory.{count, groups, held, none, group_held, most_updates, with_count, holding, holding_none}
use Rattle.memory.proofs.HeldLaw.{group_held_some}
use Rattle.validity.specs.Valid.{count_limit}
use Rattle.validity.proofs.ValidLaw.{Valid}
use Rattle.machine.specs.Effect.{stored, next_update_count, page_leaves, put_leaving, changed_memory}
use Rattle.machine.proofs.LeavingLaw.{few_stays, many_leaves, put_leaving_lem, put_staying, changed_leaving, changed_staying}

-- γ is any proper geometry
module _ {γ : Geometry} (σ : Proper γ) where
  -- h is the held group
  module _ (m : List ℕ) (h : ℕ) (named : group_held (held γ m) ≡ Some h) (v : Valid γ m) where
    eh : h ≡ held γ m
    eh = sym (group_held_some (held γ m) h named).0

    other : held γ m ≡ none → ⊥
    other = (group_held_some (held γ m) h named).1

    pub held_few : h < γ.most_groups
    held_few = omega (arith, eh, v.holds.group other, v.most)

    -- its page has a place on the disk
    pub held_has : (disk : List ℕ) → length disk ≡ disk_size γ (groups γ m) → HasGroup γ disk h
    held_has disk size = subst (HasGroup γ disk) (sym eh) (has_group σ disk (groups γ m) (held γ m) size (v.holds.group other))

    -- and its count can rise
    pub held_count : count m h ≤ count_limit
    held_count = omega (arith, ap (count m) eh, v.holds.unexhausted other)

  -- ---- an update's page: n is the update's number, as it was read

  module _ (m : List ℕ) (g n : ℕ) (en : n ≡ next_update_count γ m g) where
    -- it stays
    module _ (few : n ≤ most_updates) where
      stays : page_leaves γ m g ≡ false
      stays = few_stays σ m g (omega arith)

      pub staying_put : (disk page : List ℕ) → disk ≡ stored γ disk (put_leaving γ m g page)
      unfolding stored
      staying_put disk page = sym (ap (stored γ disk) (put_staying σ m g page stays))

      pub staying_held : (counted r page : List ℕ) (k : ℕ) → k ≡ count m g → counted ≡ with_count m g (k + 1) → r ≡ holding γ counted g n page
          → r ≡ changed_memory γ m g page
      staying_held counted r page k ek ec er =
          er
          ∙ ap₂ (λ (x : List ℕ) (i : ℕ). holding γ x g i page) (ec ∙ ap (λ (i : ℕ). with_count m g (i + 1)) ek) en
          ∙ sym (changed_staying σ m g page stays)

    -- it leaves
    module _ (many : most_updates < n) where
      leaves : page_leaves γ m g ≡ true
      leaves = many_leaves σ m g (omega arith)

      pub leaving_put : (disk r page : List ℕ) → r ≡ with_block γ disk (page_block γ g) page → r ≡ stored γ disk (put_leaving γ m g page)
      unfolding stored
      leaving_put disk r page er = er ∙ sym (ap (stored γ disk) (put_leaving_lem σ m g page leaves))

      pub leaving_held : (counted r page : List ℕ) (k : ℕ) → k ≡ count m g → counted ≡ with_count m g (k + 1) → r ≡ holding_none γ counted
          → r ≡ changed_memory γ m g page
      leaving_held counted r page k ek ec er =
          er ∙ ap (holding_none γ) (ec ∙ ap (λ (i : ℕ). with_count m g (i + 1)) ek) ∙ sym (changed_leaving σ m g page leaves)
