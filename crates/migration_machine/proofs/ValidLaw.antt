-- The migrated memory by its fields, and that it is valid if and only if the old one is. Assumes nothing.
use mathlib.Core.Path.{◌≡◌, refl, ap, ap₂, sym, ◌∙◌}
use mathlib.Core.Bool.{Bool, true, false}
use mathlib.Core.List.{List, ◌++◌}
use Prim.Native.Nat.{ℕ, ◌+◌, ◌-◌, ◌≤◌, ◌<◌}
use native.Mathlib.Omega.{arith}
use borrow.Author.Tests.{lt-ltb, ltb-true, ltb-false}
use lib.Dec.{ltb}
use lib.ListN.{length}
use Rattle.octets.specs.Part.{part, repeated}
use Rattle.octets.proofs.PartLaw.{part_add}
use Rattle.octets.proofs.RepeatedLaw.{repeated_add, repeated_within}
use Rattle.lockpage.specs.Geometry.{Geometry, Proper, widened}
use Rattle.memory.specs.Layout.{memory_size, count_start, time_start}
use Rattle.memory.specs.Memory.{salt, count, last_time, groups, held, none, update_count, held_page}
use Rattle.memory.specs.Claims.{Reads}
use Rattle.validity.specs.Valid.{valid}
use Rattle.validity.proofs.ValidLaw.{UnusedFrom, Valid, facts, decided, from_reads}
use Rattle.migration_machine.specs.Migrate.{Wider, migrated}
use Rattle.migration_machine.specs.Claims.{count_migrated}
use Rattle.migration_machine.proofs.FieldLaw.{new_size, migrated_length, part_front, part_new, migrated_salt, migrated_count, migrated_new_count}
use Rattle.migration_machine.proofs.FieldLaw.{migrated_time, migrated_groups, migrated_held, migrated_updates, migrated_reserved, migrated_page}

module _ {γ : Geometry} (σ : Proper γ) {n : ℕ} (ω : Wider γ n) where
  module _ (m : List ℕ) (l : length m ≡ memory_size γ) where
    counted : (k : ℕ) → k < n → (b : Bool) → ltb k γ.most_groups ≡ b → count (migrated γ n m) k ≡ elim b [ true ↦ count m k | false ↦ 0 ]
    counted k h true e = migrated_count σ ω m l k (ltb-true k γ.most_groups e)
    counted k h false e = migrated_new_count σ ω m l k (ltb-false k γ.most_groups e) h

    pub migrated_reads : Reads (widened γ n) (migrated γ n m) (salt m) (count_migrated γ n m) (last_time γ m) (groups γ m) (held γ m)
        (update_count γ m) (held_page γ m)
    migrated_reads =
        record {
          size = migrated_length σ ω m l;
          salt = migrated_salt σ ω m l;
          count = λ k h. counted k h (ltb k γ.most_groups) refl;
          time = migrated_time σ ω m l;
          groups = migrated_groups σ ω m l;
          held = migrated_held σ ω m l;
          updates = migrated_updates σ ω m l;
          page = migrated_page σ ω m l;
        }

    -- ---- the counts that no group has

    module _ (g : ℕ) (h : g ≤ γ.most_groups) where
      abbrev before : ℕ
      before = time_start γ - count_start g

      abbrev after : ℕ
      after = time_start (widened γ n) - count_start g

      together : before + new_size σ ω ≡ after
      together = omega (arith, ω.more)

      unused_after : UnusedFrom γ m g → UnusedFrom (widened γ n) (migrated γ n m) g
      unused_after u =
          ap (part (migrated γ n m) (count_start g)) (sym together)
          ∙ part_add (migrated γ n m) (count_start g) before (new_size σ ω)
          ∙ ap₂ ◌++◌ (part_front σ ω m l (count_start g) before (omega arith) ∙ u)
          (ap (λ (at : ℕ). part (migrated γ n m) at (new_size σ ω)) (omega arith) ∙ part_new σ ω m l)
          ∙ sym (repeated_add before (new_size σ ω) 0)
          ∙ ap (λ (k : ℕ). repeated k 0) together

      unused_before : UnusedFrom (widened γ n) (migrated γ n m) g → UnusedFrom γ m g
      unused_before u =
          sym (part_front σ ω m l (count_start g) before (omega arith))
          ∙ ap (λ (at : ℕ). part (migrated γ n m) at before) (omega arith)
          ∙ repeated_within (migrated γ n m) (count_start g) after 0 before 0 (omega (arith, ω.more)) u

    -- ---- both ways

    valid_after : Valid γ m → valid (widened γ n) (migrated γ n m) ≡ true
    valid_after v =
        from_reads ω.proper (migrated γ n m) (salt m) (count_migrated γ n m) (last_time γ m) (groups γ m) (held γ m) (update_count γ m)
        (held_page γ m) migrated_reads v.least (omega (arith, v.most, ω.more)) v.time (unused_after (groups γ m) v.most v.unused)
        (migrated_reserved σ ω m l ∙ v.reserved)
        (λ x.
        let h = v.holds in
        let counts : count_migrated γ n m (held γ m) ≡ count m (held γ m) =
        ap (λ (b : Bool). elim b [ true ↦ count m (held γ m) | false ↦ 0 ])
        (lt-ltb (held γ m) γ.most_groups (omega (arith, h.group x, v.most))) in
        record {
          group = h.group x;
          counted = omega (arith, counts, h.counted x);
          unexhausted = omega (arith, counts, h.unexhausted x);
          updated = h.updated x;
          few_updates = h.few_updates x;
        })
        (λ e. (v.holds.no_updates e, v.holds.blank e))

    valid_before : groups γ m ≤ γ.most_groups → Valid (widened γ n) (migrated γ n m) → valid γ m ≡ true
    valid_before few v =
        from_reads σ m (salt m) (count m) (last_time γ m) (groups γ m) (held γ m) (update_count γ m) (held_page γ m)
        (record { size = l; salt = refl; count = λ k h. refl; time = refl; groups = refl; held = refl; updates = refl; page = refl })
        (omega (arith, v.least, same_groups)) few (omega (arith, v.time, migrated_time σ ω m l))
        (unused_before (groups γ m) few (ap (λ (g : ℕ). part (migrated γ n m) (count_start g) (time_start (widened γ n) - count_start g)) (sym same_groups)
        ∙ v.unused
        ∙ ap (λ (g : ℕ). repeated (time_start (widened γ n) - count_start g) 0) same_groups))
        (sym (migrated_reserved σ ω m l) ∙ v.reserved)
        (λ x.
        let h = v.holds in
        let other : held (widened γ n) (migrated γ n m) ≡ none → ⊥ = λ e. x (sym same_held ∙ e) in
        let below : held γ m < groups γ m = omega (arith, h.group other, same_held, same_groups) in
        let counts : count (migrated γ n m) (held (widened γ n) (migrated γ n m)) ≡ count m (held γ m) =
        ap (count (migrated γ n m)) same_held ∙ migrated_count σ ω m l (held γ m) (omega arith) in
        record {
          group = below;
          counted = omega (arith, counts, h.counted other);
          unexhausted = omega (arith, counts, h.unexhausted other);
          updated = omega (arith, migrated_updates σ ω m l, h.updated other);
          few_updates = omega (arith, migrated_updates σ ω m l, h.few_updates other);
        })
        (λ e.
        let here : held (widened γ n) (migrated γ n m) ≡ none = same_held ∙ e in
        (sym (migrated_updates σ ω m l) ∙ v.holds.no_updates here, sym (migrated_page σ ω m l) ∙ v.holds.blank here))
      where
        same_groups : groups (widened γ n) (migrated γ n m) ≡ groups γ m
        same_groups = migrated_groups σ ω m l

        same_held : held (widened γ n) (migrated γ n m) ≡ held γ m
        same_held = migrated_held σ ω m l

    pub valid_moves : groups γ m ≤ γ.most_groups → valid (widened γ n) (migrated γ n m) ≡ valid γ m
    valid_moves few = sym (decided ω.proper (migrated γ n m) (valid γ m) (λ e. facts ω.proper (migrated γ n m) (valid_after (facts σ m e))) (λ v. valid_before few v))

  pub migrated_valid : (m : List ℕ) → valid γ m ≡ true → valid (widened γ n) (migrated γ n m) ≡ true
  migrated_valid m e = valid_after m (facts σ m e).size (facts σ m e)
