-- Laws of validity: what a valid memory says, clause by clause, and which changes keep it. Assumes nothing.
use mathlib.Core.Path.{◌≡◌, refl, ap, sym, subst, ◌∙◌}
use mathlib.Core.Bool.{Bool, true, false, ◌&&◌, false≢true}
use mathlib.Mathlib.Data.Bool.Basic.{and_intro, and_elim_left, and_elim_right}
use mathlib.Core.List.{List}
use Prim.Native.Nat.{ℕ, ◌+◌, ◌*◌, ◌-◌, ◌^◌, ◌≤◌, ◌<◌}
use native.Mathlib.Omega.{arith}
use borrow.Author.Tests.{eqb-true, eqb-false, leb-true, ltb-true, eq-eqb, le-leb, lt-ltb}
use lib.Dec.{eqb}
use lib.ListN.{length}
use Rattle.octets.specs.Part.{part, repeated}
use Rattle.octets.proofs.EqualLaw.{equal_true, equal_yes}
use Rattle.octets.proofs.RepeatedLaw.{repeated_length, repeated_within}
use Rattle.octets.proofs.NumberLaw.{number_at_zeros}
use Rattle.lockpage.specs.Geometry.{Geometry, Proper}
use Rattle.lockpage.specs.Size.{page_size}
use Rattle.lockpage.specs.Update.{latest_time}
use Rattle.memory.specs.Layout.{memory_size, salt_size, count_size, count_start, time_start, reserved_start, reserved_size}
use Rattle.memory.specs.Memory.{salt, count, last_time, groups, held, none, most_updates, update_count, held_page, with_salt, with_count, with_no_counts, with_last_time}
use Rattle.memory.specs.Memory.{holding, holding_none, formatted_memory}
use Rattle.validity.specs.Valid.{count_limit, every, held_clauses, none_held_clauses, valid_held, valid}
use Rattle.memory.specs.Claims.{Reads, changed}
use Rattle.memory.proofs.FormatLaw.{formatted_reads, formatted_zeros}
use Rattle.memory.proofs.FieldLaw.{InFront, InBack, salt_in, salt_rest, count_in, count_rest, counts_in, time_in, holding_in, salt_set, count_set, counts_zero}
use Rattle.memory.proofs.FieldLaw.{counts_cleared, time_set, page_held, page_dropped}

-- ---- and

both : (a b : Bool) → (a && b) ≡ true → (a ≡ true) × (b ≡ true)
both a b e = (and_elim_left a b e, and_elim_right a b e)

-- two tests that have the same truth
same_truth : (a b : Bool) → (a ≡ true → b ≡ true) → (b ≡ true → a ≡ true) → a ≡ b
same_truth true b f g = sym (f refl)
same_truth false true f g = g refl
same_truth false false f g = refl

-- γ is the box's geometry
module _ (γ : Geometry) where
  -- the counts from group g on are zeros
  abbrev pub UnusedFrom : List ℕ → ℕ → Type 0
  UnusedFrom m g = part m (count_start g) (time_start γ - count_start g) ≡ repeated (time_start γ - count_start g) 0

  abbrev pub ReservedZero : List ℕ → Type 0
  ReservedZero m = part m (reserved_start γ) reserved_size ≡ repeated reserved_size 0

  -- the clauses on what is held, as facts
  pub record ValidHeld (m : List ℕ) : Type 0 where
    pub group : (held γ m ≡ none → ⊥) → held γ m < groups γ m
    pub counted : (held γ m ≡ none → ⊥) → 1 ≤ count m (held γ m)
    pub unexhausted : (held γ m ≡ none → ⊥) → count m (held γ m) ≤ count_limit
    pub updated : (held γ m ≡ none → ⊥) → 1 ≤ update_count γ m
    pub few_updates : (held γ m ≡ none → ⊥) → update_count γ m ≤ most_updates
    pub no_updates : held γ m ≡ none → update_count γ m ≡ 0
    pub blank : held γ m ≡ none → held_page γ m ≡ repeated (page_size γ) 0

  -- the same of a held group h with count c, its page updated n times, in a box of g groups
  pub record HeldFits (g c h n : ℕ) : Type 0 where
    pub group : h < g
    pub counted : 1 ≤ c
    pub unexhausted : c ≤ count_limit
    pub updated : 1 ≤ n
    pub few_updates : n ≤ most_updates

  -- all of them
  pub record Valid (m : List ℕ) : Type 0 where
    pub size : length m ≡ memory_size γ
    pub least : 1 ≤ groups γ m
    pub most : groups γ m ≤ γ.most_groups
    pub time : last_time γ m ≤ latest_time
    pub unused : UnusedFrom m (groups γ m)
    pub reserved : ReservedZero m
    pub holds : ValidHeld m

-- γ is any proper geometry
module _ {γ : Geometry} (σ : Proper γ) where
  -- ---- the clauses on what is held and their test

  module _ (m : List ℕ) where
    pub held_facts : valid_held γ m ≡ true → ValidHeld γ m
    unfolding valid_held every
    held_facts = go (eqb (held γ m) none) refl
      where
        go : (b : Bool) → eqb (held γ m) none ≡ b
            → elim b [ true ↦ every (none_held_clauses γ m) | false ↦ every (held_clauses γ m) ] ≡ true → ValidHeld γ m
        go true h e =
            let a = both _ _ e in
            let is_none = eqb-true (held γ m) none h in
            record {
              group = λ n. absurd (n is_none);
              counted = λ n. absurd (n is_none);
              unexhausted = λ n. absurd (n is_none);
              updated = λ n. absurd (n is_none);
              few_updates = λ n. absurd (n is_none);
              no_updates = λ n. eqb-true (update_count γ m) 0 a.0;
              blank = λ n. equal_true _ _ (both _ _ a.1).0;
            }
        go false h e =
            let a = both _ _ e in
            let b = both _ _ a.1 in
            let c = both _ _ b.1 in
            let d = both _ _ c.1 in
            let some = eqb-false (held γ m) none h in
            record {
              group = λ n. ltb-true (held γ m) (groups γ m) a.0;
              counted = λ n. leb-true 1 (count m (held γ m)) b.0;
              unexhausted = λ n. leb-true (count m (held γ m)) count_limit c.0;
              updated = λ n. leb-true 1 (update_count γ m) d.0;
              few_updates = λ n. leb-true (update_count γ m) most_updates (both _ _ d.1).0;
              no_updates = λ n. absurd (some n);
              blank = λ n. absurd (some n);
            }

    pub held_valid : ValidHeld γ m → valid_held γ m ≡ true
    unfolding valid_held every
    held_valid v = go (eqb (held γ m) none) refl
      where
        go : (b : Bool) → eqb (held γ m) none ≡ b → elim b [ true ↦ every (none_held_clauses γ m) | false ↦ every (held_clauses γ m) ] ≡ true
        go true h =
            let is_none = eqb-true (held γ m) none h in
            and_intro (eq-eqb (update_count γ m) 0 (v.no_updates is_none)) (and_intro (equal_yes _ _ (v.blank is_none)) refl)
        go false h =
            let some = eqb-false (held γ m) none h in
            and_intro (lt-ltb (held γ m) (groups γ m) (v.group some))
            (and_intro (le-leb 1 (count m (held γ m)) (v.counted some))
            (and_intro (le-leb (count m (held γ m)) count_limit (v.unexhausted some))
            (and_intro (le-leb 1 (update_count γ m) (v.updated some))
            (and_intro (le-leb (update_count γ m) most_updates (v.few_updates some)) refl))))

  -- ---- all the clauses and the test

  module _ (m : List ℕ) where
    pub facts : valid γ m ≡ true → Valid γ m
    unfolding valid every
    facts e =
        let a = both _ _ e in
        let b = both _ _ a.1 in
        let c = both _ _ b.1 in
        let d = both _ _ c.1 in
        let f = both _ _ d.1 in
        let g = both _ _ f.1 in
        record {
          size = eqb-true (length m) (memory_size γ) a.0;
          least = leb-true 1 (groups γ m) b.0;
          most = leb-true (groups γ m) γ.most_groups c.0;
          time = leb-true (last_time γ m) latest_time d.0;
          unused = equal_true _ _ f.0;
          reserved = equal_true _ _ g.0;
          holds = held_facts m (both _ _ g.1).0;
        }

    pub is_valid_is : Valid γ m → valid γ m ≡ true
    unfolding valid every
    is_valid_is v =
        and_intro (eq-eqb (length m) (memory_size γ) v.size)
        (and_intro (le-leb 1 (groups γ m) v.least)
        (and_intro (le-leb (groups γ m) γ.most_groups v.most)
        (and_intro (le-leb (last_time γ m) latest_time v.time)
        (and_intro (equal_yes _ _ v.unused)
        (and_intro (equal_yes _ _ v.reserved) (and_intro (held_valid m v.holds) refl))))))

    pub decided : (b : Bool) → (b ≡ true → Valid γ m) → (Valid γ m → b ≡ true) → b ≡ valid γ m
    decided b f g = same_truth b (valid γ m) (λ e. is_valid_is (f e)) (λ e. g (facts e))

    pub invalid : (Valid γ m → ⊥) → false ≡ valid γ m
    invalid n = decided false (λ e. absurd (false≢true e)) (λ v. absurd (n v))

  -- ---- what keeps it

  -- a memory is valid by what its fields read
  pub from_reads : (m s : List ℕ) (c : ℕ → ℕ) (t g h n : ℕ) (p : List ℕ) → Reads γ m s c t g h n p
      → 1 ≤ g → g ≤ γ.most_groups → t ≤ latest_time → UnusedFrom γ m g → ReservedZero γ m
      → ((h ≡ none → ⊥) → HeldFits γ g (c h) h n) → (h ≡ none → (n ≡ 0) × (p ≡ repeated (page_size γ) 0)) → valid γ m ≡ true
  from_reads m s c t g h n p r least most time unused reserved fits blank =
      is_valid_is m
      (record {
        size = r.size;
        least = subst (λ (x : ℕ). 1 ≤ x) (sym r.groups) least;
        most = subst (λ (x : ℕ). x ≤ γ.most_groups) (sym r.groups) most;
        time = subst (λ (x : ℕ). x ≤ latest_time) (sym r.time) time;
        unused = subst (UnusedFrom γ m) (sym r.groups) unused;
        reserved = reserved;
        holds =
            record {
              group = λ x. omega (arith, r.groups, r.held, (fits (other x)).group);
              counted = λ x. omega (arith, count_is x, (fits (other x)).counted);
              unexhausted = λ x. omega (arith, count_is x, (fits (other x)).unexhausted);
              updated = λ x. omega (arith, r.updates, (fits (other x)).updated);
              few_updates = λ x. omega (arith, r.updates, (fits (other x)).few_updates);
              no_updates = λ e. r.updates ∙ (blank (sym r.held ∙ e)).0;
              blank = λ e. r.page ∙ (blank (sym r.held ∙ e)).1;
            };
      })
    where
      other : (held γ m ≡ none → ⊥) → h ≡ none → ⊥
      other x e = x (r.held ∙ e)

      count_is : (held γ m ≡ none → ⊥) → count m (held γ m) ≡ c h
      count_is x = ap (count m) r.held ∙ r.count h (omega (arith, (fits (other x)).group))

  module _ (m : List ℕ) (v : Valid γ m) where
    -- a held group's numbers
    held_fits : (held γ m ≡ none → ⊥) → HeldFits γ (groups γ m) (count m (held γ m)) (held γ m) (update_count γ m)
    held_fits x =
        let h = v.holds in
        record {
          group = h.group x;
          counted = h.counted x;
          unexhausted = h.unexhausted x;
          updated = h.updated x;
          few_updates = h.few_updates x;
        }

    held_blank : held γ m ≡ none → (update_count γ m ≡ 0) × (held_page γ m ≡ repeated (page_size γ) 0)
    held_blank e = (v.holds.no_updates e, v.holds.blank e)

    -- after a change in the front, and in the back
    front_reserved : (n : List ℕ) → InFront γ m n → ReservedZero γ n
    front_reserved n i = i.back (reserved_start γ) reserved_size (omega arith) ∙ v.reserved

    back_unused : (n : List ℕ) → InBack γ m n → UnusedFrom γ n (groups γ m)
    back_unused n i = i.front (count_start (groups γ m)) (time_start γ - count_start (groups γ m)) (omega (arith, v.most)) ∙ v.unused

    pub valid_salt : (s : List ℕ) → length s ≡ salt_size → valid γ (with_salt m s) ≡ true
    valid_salt s l =
        from_reads (with_salt m s) s (count m) (last_time γ m) (groups γ m) (held γ m) (update_count γ m) (held_page γ m) (salt_set σ m v.size s l)
        v.least v.most v.time
        (salt_rest σ m v.size s l (count_start (groups γ m)) (time_start γ - count_start (groups γ m)) (omega arith) ∙ v.unused)
        (front_reserved (with_salt m s) (salt_in σ m v.size s l)) held_fits held_blank

    pub valid_time : (t : ℕ) → t ≤ latest_time → valid γ (with_last_time γ m t) ≡ true
    valid_time t h =
        let i = time_in σ m v.size t in
        from_reads (with_last_time γ m t) (salt m) (count m) t (groups γ m) (held γ m) (update_count γ m) (held_page γ m)
        (time_set σ m v.size t (omega arith)) v.least v.most h (back_unused (with_last_time γ m t) i) (i.reserved ∙ v.reserved)
        held_fits held_blank

    pub valid_count : (g n : ℕ) → g < groups γ m → n < 256 ^ count_size → (held γ m ≡ g → (1 ≤ n) × (n ≤ count_limit))
        → valid γ (with_count m g n) ≡ true
    valid_count g n h s k =
        from_reads (with_count m g n) (salt m) (changed (count m) g n) (last_time γ m) (groups γ m) (held γ m) (update_count γ m) (held_page γ m)
        (count_set σ m v.size g n (omega (arith, v.most)) s)
        v.least v.most v.time
        (count_rest σ m v.size g n (count_start (groups γ m)) (time_start γ - count_start (groups γ m)) (omega (arith, v.most)) (omega arith)
        ∙ v.unused)
        (front_reserved (with_count m g n) (count_in σ m v.size g n (omega (arith, v.most))))
        (λ x. go x (eqb (held γ m) g) refl) held_blank
      where
        go : (held γ m ≡ none → ⊥) → (b : Bool) → eqb (held γ m) g ≡ b
            → HeldFits γ (groups γ m) (elim b [ true ↦ n | false ↦ count m (held γ m) ]) (held γ m) (update_count γ m)
        go x true e =
            let counted = k (eqb-true (held γ m) g e) in
            let f = held_fits x in
            record { group = f.group; counted = counted.0; unexhausted = counted.1; updated = f.updated; few_updates = f.few_updates }
        go x false e = held_fits x

    pub valid_no_counts : held γ m ≡ none → valid γ (with_no_counts γ m) ≡ true
    valid_no_counts e =
        from_reads (with_no_counts γ m) (salt m) (λ k. 0) (last_time γ m) (groups γ m) (held γ m) (update_count γ m) (held_page γ m)
        (counts_cleared σ m v.size) v.least v.most v.time (counts_zero σ m v.size (groups γ m) v.most)
        (front_reserved (with_no_counts γ m) (counts_in σ m v.size)) (λ n. absurd (n e)) held_blank

    pub valid_holding : (g n : ℕ) (p : List ℕ) → g < groups γ m → 1 ≤ count m g → count m g ≤ count_limit → 1 ≤ n → n ≤ most_updates
        → length p ≡ page_size γ → valid γ (holding γ m g n p) ≡ true
    valid_holding g n p h least most some few l =
        let i = holding_in σ m v.size g n p l in
        from_reads (holding γ m g n p) (salt m) (count m) (last_time γ m) (groups γ m) g n p
        (page_held σ m v.size g n p (omega (arith, v.most)) (omega arith) l)
        v.least v.most v.time (back_unused (holding γ m g n p) i) (i.reserved ∙ v.reserved)
        (λ x. record { group = h; counted = least; unexhausted = most; updated = some; few_updates = few }) (λ e. absurd (omega (arith, v.most)))

    pub valid_none : valid γ (holding_none γ m) ≡ true
    unfolding holding_none
    valid_none =
        let i = holding_in σ m v.size none 0 (repeated (page_size γ) 0) (repeated_length (page_size γ) 0) in
        from_reads (holding_none γ m) (salt m) (count m) (last_time γ m) (groups γ m) none 0 (repeated (page_size γ) 0) (page_dropped σ m v.size)
        v.least v.most v.time (back_unused (holding_none γ m) i) (i.reserved ∙ v.reserved) (λ n. absurd (n refl)) (λ e. (refl, refl))

    -- with a page held or none
    pub updates_few : update_count γ m ≤ most_updates
    updates_few = go (eqb (held γ m) none) refl
      where
        go : (b : Bool) → eqb (held γ m) none ≡ b → update_count γ m ≤ most_updates
        go true e = omega (arith, v.holds.no_updates (eqb-true (held γ m) none e))
        go false e = v.holds.few_updates (eqb-false (held γ m) none e)

    -- a count that no group of the box has
    pub unused_count : (g : ℕ) → groups γ m ≤ g → g < γ.most_groups → count m g ≡ 0
    unfolding count
    unused_count g h k =
        let from : ℕ = count_start (groups γ m) in
        let place : from + count_size * (g - groups γ m) ≡ count_start g = omega arith in
        number_at_zeros m (count_start g) count_size
        (ap (λ (at : ℕ). part m at count_size) (sym place)
        ∙ repeated_within m from (time_start γ - from) (count_size * (g - groups γ m)) count_size 0 (omega arith) v.unused)

  -- the memory of formatting
  pub valid_formatted : (g : ℕ) (s : List ℕ) → 1 ≤ g → g ≤ γ.most_groups → length s ≡ salt_size → valid γ (formatted_memory γ g s) ≡ true
  valid_formatted g s least most size =
      let zeros = formatted_zeros σ g s size most in
      from_reads (formatted_memory γ g s) s (λ k. 0) 0 g none 0 (repeated (page_size γ) 0) (formatted_reads σ g s (omega arith) size)
      least most (omega arith) zeros.0 zeros.1 (λ n. absurd (n refl)) (λ e. (refl, refl))
