-- The migrated memory: what each field reads, and that each change of the old memory is the same change of the migrated one. A memory is cut
-- in two at the last time; the new counts come in between. Assumes nothing.
use mathlib.Core.Path.{◌≡◌, refl, ap, ap₂, sym, ◌∙◌}
use mathlib.Core.List.{List, ◌++◌, append_assoc}
use Prim.Native.Nat.{ℕ, ◌+◌, ◌-◌, ◌≤◌, ◌<◌}
use native.Mathlib.Nat.{zero-add}
use native.Mathlib.Omega.{arith}
use lib.ListN.{length, length-append}
use Rattle.octets.specs.Part.{part, replaced, repeated}
use Rattle.octets.specs.Number.{number, bytes, number_at, with_number}
use Rattle.octets.proofs.PartLaw.{part_length, part_all, part_add, part_left, part_right, part_first, part_second}
use Rattle.octets.proofs.RepeatedLaw.{repeated_length, repeated_part, repeated_add, repeated_within}
use Rattle.octets.proofs.ReplacedLaw.{replaced_length, replaced_front, replaced_back, replaced_all, replaced_append}
use Rattle.octets.proofs.NumberLaw.{bytes_length, number_at_zeros}
use Rattle.lockpage.specs.Geometry.{Geometry, Proper, widened}
use Rattle.lockpage.specs.Size.{page_size}
use Rattle.memory.specs.Layout.{memory_size, salt_start, salt_size, counts_start, count_size, count_start, time_start, time_size, groups_start, held_start}
use Rattle.memory.specs.Layout.{update_count_start, byte_size, reserved_start, reserved_size, page_start}
use Rattle.memory.specs.Memory.{salt, count, last_time, groups, held, none, update_count, held_page, with_salt, with_count, with_no_counts, with_last_time}
use Rattle.memory.specs.Memory.{with_groups, with_held, with_update_count, with_held_page, holding, holding_none, formatted_memory}
use Rattle.memory.proofs.FieldLaw.{salt_in, groups_in, held_in, updates_in_lem}
use Rattle.migration_machine.specs.Migrate.{Wider, counts, small_fields, migrated}

-- γ is any proper geometry, and the new box is wider
module _ {γ : Geometry} (σ : Proper γ) {n : ℕ} (ω : Wider γ n) where
  -- ---- the cut

  -- the size of all that stands behind the counts, in both boxes
  abbrev rest : ℕ
  rest = memory_size γ - time_start γ

  -- the size of the new counts
  abbrev pub new_size : ℕ
  new_size = time_start (widened γ n) - time_start γ

  abbrev new_counts : List ℕ
  new_counts = repeated new_size 0

  abbrev front : List ℕ → List ℕ
  front m = part m 0 (time_start γ)

  abbrev back : List ℕ → List ℕ
  back m = part m (time_start γ) rest

  module _ (m : List ℕ) (l : length m ≡ memory_size γ) where
    front_length : length (front m) ≡ time_start γ
    front_length = part_length m 0 (time_start γ) (omega arith)

    back_length : length (back m) ≡ rest
    back_length = part_length m (time_start γ) rest (omega arith)

    cut : front m ++ back m ≡ m
    cut =
        ap (λ (k : ℕ). front m ++ part m k rest) (sym (zero-add (time_start γ)))
        ∙ sym (part_add m 0 (time_start γ) rest)
        ∙ part_all m (time_start γ + rest) (omega arith)

    behind : small_fields γ m ++ part m (page_start γ) (page_size γ) ≡ back m
    behind =
        let small : ℕ = page_start γ - time_start γ in
        ap (λ (k : ℕ). small_fields γ m ++ part m k (page_size γ)) (omega arith)
        ∙ sym (part_add m (time_start γ) small (page_size γ))
        ∙ ap (part m (time_start γ)) (omega arith)

    before : part m salt_start salt_size ++ counts γ m ≡ front m
    before =
        ap (λ (k : ℕ). part m salt_start salt_size ++ part m k (time_start γ - counts_start)) (omega arith)
        ∙ sym (part_add m salt_start salt_size (time_start γ - counts_start))
        ∙ ap (part m salt_start) (omega arith)

    pub migrated_cut : migrated γ n m ≡ front m ++ (new_counts ++ back m)
    unfolding migrated salt held_page
    migrated_cut =
        ap (λ (x : List ℕ). part m salt_start salt_size ++ (counts γ m ++ (new_counts ++ x))) behind
        ∙ sym (append_assoc (part m salt_start salt_size) (counts γ m) (new_counts ++ back m))
        ∙ ap (λ (x : List ℕ). x ++ (new_counts ++ back m)) before

    pub migrated_length : length (migrated γ n m) ≡ memory_size (widened γ n)
    migrated_length =
        ap length migrated_cut
        ∙ length-append (front m) (new_counts ++ back m)
        ∙ ap₂ (λ (i j : ℕ). i + j) front_length (length-append new_counts (back m) ∙ ap₂ (λ (i j : ℕ). i + j) (repeated_length new_size 0) back_length)
        ∙ omega (arith, ω.more)

    -- ---- what is read

    -- below the last time
    pub part_front : (f k : ℕ) → f + k ≤ time_start γ → part (migrated γ n m) f k ≡ part m f k
    part_front f k h =
        let short : f + k ≤ length (front m) = omega (arith, front_length) in
        ap (λ (x : List ℕ). part x f k) migrated_cut
        ∙ part_left (front m) (new_counts ++ back m) f k short
        ∙ sym (part_left (front m) (back m) f k short)
        ∙ ap (λ (x : List ℕ). part x f k) cut

    -- the new counts
    pub part_new : part (migrated γ n m) (time_start γ) new_size ≡ repeated new_size 0
    part_new =
        ap (λ (x : List ℕ). part x (time_start γ) new_size) migrated_cut
        ∙ ap (λ (k : ℕ). part (front m ++ (new_counts ++ back m)) k new_size) (omega (arith, front_length))
        ∙ part_right (front m) (new_counts ++ back m) 0 new_size
        ∙ part_first new_counts (back m) new_size (repeated_length new_size 0)

    -- from the last time on: d bytes behind it
    module _ (at to d : ℕ) (old : at ≡ time_start γ + d) (new : to ≡ time_start (widened γ n) + d) where
      part_back : (k : ℕ) → part (migrated γ n m) to k ≡ part m at k
      part_back k =
          let place : to ≡ length (front m) + (length new_counts + d) = omega (arith, ω.more, front_length, repeated_length new_size 0) in
          let here : at ≡ length (front m) + d = omega (arith, front_length) in
          ap₂ (λ (x : List ℕ) (i : ℕ). part x i k) migrated_cut place
          ∙ part_right (front m) (new_counts ++ back m) (length new_counts + d) k
          ∙ part_right new_counts (back m) d k
          ∙ sym (part_right (front m) (back m) d k)
          ∙ ap₂ (λ (x : List ℕ) (i : ℕ). part x i k) cut (sym here)

      number_back : (k : ℕ) → number_at (migrated γ n m) to k ≡ number_at m at k
      unfolding number_at
      number_back k = ap number (part_back k)

  -- ---- what is changed

  -- of a memory in two pieces
  migrated_pieces : (p x : List ℕ) → length p ≡ time_start γ → length x ≡ rest → migrated γ n (p ++ x) ≡ p ++ (new_counts ++ x)
  migrated_pieces p x lp lx =
      let size : length (p ++ x) ≡ memory_size γ = length-append p x ∙ omega arith in
      migrated_cut (p ++ x) size
      ∙ ap₂ (λ (u v : List ℕ). u ++ (new_counts ++ v)) (part_first p x (time_start γ) lp) (part_second p x (time_start γ) rest lp lx)

  module _ (m : List ℕ) (l : length m ≡ memory_size γ) (x : List ℕ) where
    -- below the last time
    replaced_below : (f : ℕ) → f + length x ≤ time_start γ → replaced (migrated γ n m) f x ≡ migrated γ n (replaced m f x)
    replaced_below f h =
        let short : f + length x ≤ length (front m) = omega (arith, front_length m l) in
        ap (λ (y : List ℕ). replaced y f x) (migrated_cut m l)
        ∙ replaced_back (front m) (new_counts ++ back m) f x short
        ∙ sym (migrated_pieces (replaced (front m) f x) (back m) (replaced_length (front m) f x short ∙ front_length m l) (back_length m l))
        ∙ ap (migrated γ n) (sym (replaced_back (front m) (back m) f x short) ∙ ap (λ (y : List ℕ). replaced y f x) (cut m l))

    -- from the last time on: d bytes behind it
    module _ (at to d : ℕ) (old : at ≡ time_start γ + d) (new : to ≡ time_start (widened γ n) + d) where
      replaced_rest : d + length x ≤ rest → replaced (migrated γ n m) to x ≡ migrated γ n (replaced m at x)
      replaced_rest h =
          let place : to ≡ length (front m) + (length new_counts + d) = omega (arith, ω.more, front_length m l, repeated_length new_size 0) in
          let here : at ≡ length (front m) + d = omega (arith, front_length m l) in
          let short : d + length x ≤ length (back m) = omega (arith, back_length m l) in
          ap₂ (λ (y : List ℕ) (i : ℕ). replaced y i x) (migrated_cut m l) place
          ∙ replaced_front (front m) (new_counts ++ back m) (length new_counts + d) x
          ∙ ap (λ (y : List ℕ). front m ++ y) (replaced_front new_counts (back m) d x)
          ∙ sym (migrated_pieces (front m) (replaced (back m) d x) (front_length m l) (replaced_length (back m) d x short ∙ back_length m l))
          ∙ ap (migrated γ n)
          (sym (replaced_front (front m) (back m) d x) ∙ ap₂ (λ (y : List ℕ) (i : ℕ). replaced y i x) (cut m l) (sym here))

  -- ---- the fields

  module _ (m : List ℕ) (l : length m ≡ memory_size γ) where
    pub migrated_salt : salt (migrated γ n m) ≡ salt m
    unfolding salt
    migrated_salt = part_front m l salt_start salt_size (omega arith)

    pub migrated_count : (k : ℕ) → k < γ.most_groups → count (migrated γ n m) k ≡ count m k
    unfolding count number_at
    migrated_count k h = ap number (part_front m l (count_start k) count_size (omega arith))

    pub migrated_new_count : (k : ℕ) → γ.most_groups ≤ k → k < n → count (migrated γ n m) k ≡ 0
    unfolding count
    migrated_new_count k h b =
        let d : ℕ = count_start k - time_start γ in
        number_at_zeros (migrated γ n m) (count_start k) count_size
        (ap (λ (i : ℕ). part (migrated γ n m) i count_size) (omega arith)
        ∙ repeated_within (migrated γ n m) (time_start γ) new_size d count_size 0 (omega arith) (part_new m l))

    pub migrated_time : last_time (widened γ n) (migrated γ n m) ≡ last_time γ m
    unfolding last_time
    migrated_time = number_back m l (time_start γ) (time_start (widened γ n)) 0 (omega arith) (omega arith) time_size

    pub migrated_groups : groups (widened γ n) (migrated γ n m) ≡ groups γ m
    unfolding groups
    migrated_groups = number_back m l (groups_start γ) (groups_start (widened γ n)) time_size (omega arith) (omega arith) byte_size

    pub migrated_held : held (widened γ n) (migrated γ n m) ≡ held γ m
    unfolding held
    migrated_held = number_back m l (held_start γ) (held_start (widened γ n)) (time_size + byte_size) (omega arith) (omega arith) byte_size

    pub migrated_updates : update_count (widened γ n) (migrated γ n m) ≡ update_count γ m
    unfolding update_count
    migrated_updates =
        number_back m l (update_count_start γ) (update_count_start (widened γ n)) (time_size + byte_size + byte_size) (omega arith) (omega arith) byte_size

    pub migrated_reserved : part (migrated γ n m) (reserved_start (widened γ n)) reserved_size ≡ part m (reserved_start γ) reserved_size
    migrated_reserved =
        part_back m l (reserved_start γ) (reserved_start (widened γ n)) (reserved_start γ - time_start γ) (omega arith) (omega arith) reserved_size

    pub migrated_page : held_page (widened γ n) (migrated γ n m) ≡ held_page γ m
    unfolding held_page
    migrated_page = part_back m l (page_start γ) (page_start (widened γ n)) (page_start γ - time_start γ) (omega arith) (omega arith) (page_size γ)

    -- ---- each change

    pub salt_moves : (s : List ℕ) → length s ≡ salt_size → with_salt (migrated γ n m) s ≡ migrated γ n (with_salt m s)
    unfolding with_salt
    salt_moves s h = replaced_below m l s salt_start (omega arith)

    pub count_moves : (g k : ℕ) → g < γ.most_groups → with_count (migrated γ n m) g k ≡ migrated γ n (with_count m g k)
    unfolding with_count with_number
    count_moves g k h = replaced_below m l (bytes count_size k) (count_start g) (omega (arith, bytes_length count_size k))

    pub time_moves : (t : ℕ) → with_last_time (widened γ n) (migrated γ n m) t ≡ migrated γ n (with_last_time γ m t)
    unfolding with_last_time with_number
    time_moves t =
        replaced_rest m l (bytes time_size t) (time_start γ) (time_start (widened γ n)) 0 (omega arith) (omega arith) (omega (arith, bytes_length time_size t))

    groups_move : (g : ℕ) → with_groups (widened γ n) (migrated γ n m) g ≡ migrated γ n (with_groups γ m g)
    unfolding with_groups with_number
    groups_move g =
        replaced_rest m l (bytes byte_size g) (groups_start γ) (groups_start (widened γ n)) time_size (omega arith) (omega arith)
        (omega (arith, bytes_length byte_size g))

    held_moves : (g : ℕ) → with_held (widened γ n) (migrated γ n m) g ≡ migrated γ n (with_held γ m g)
    unfolding with_held with_number
    held_moves g =
        replaced_rest m l (bytes byte_size g) (held_start γ) (held_start (widened γ n)) (time_size + byte_size) (omega arith) (omega arith)
        (omega (arith, bytes_length byte_size g))

    updates_move : (k : ℕ) → with_update_count (widened γ n) (migrated γ n m) k ≡ migrated γ n (with_update_count γ m k)
    unfolding with_update_count with_number
    updates_move k =
        replaced_rest m l (bytes byte_size k) (update_count_start γ) (update_count_start (widened γ n)) (time_size + byte_size + byte_size) (omega arith) (omega arith)
        (omega (arith, bytes_length byte_size k))

    page_moves : (p : List ℕ) → length p ≡ page_size γ → with_held_page (widened γ n) (migrated γ n m) p ≡ migrated γ n (with_held_page γ m p)
    unfolding with_held_page
    page_moves p h =
        replaced_rest m l p (page_start γ) (page_start (widened γ n)) (page_start γ - time_start γ) (omega arith) (omega arith) (omega arith)

    -- the new counts are zeros already
    zeros_again : replaced (migrated γ n m) (time_start γ) new_counts ≡ migrated γ n m
    zeros_again =
        let place : time_start γ ≡ length (front m) + 0 = omega (arith, front_length m l) in
        ap₂ (λ (y : List ℕ) (i : ℕ). replaced y i new_counts) (migrated_cut m l) place
        ∙ replaced_front (front m) (new_counts ++ back m) 0 new_counts
        ∙ ap (λ (y : List ℕ). front m ++ y)
        (replaced_back new_counts (back m) 0 new_counts (omega arith) ∙ ap (λ (y : List ℕ). y ++ back m) (replaced_all new_counts new_counts refl))
        ∙ sym (migrated_cut m l)

  module _ (m : List ℕ) (l : length m ≡ memory_size γ) where
    -- all counts at once
    pub counts_move : with_no_counts (widened γ n) (migrated γ n m) ≡ migrated γ n (with_no_counts γ m)
    unfolding with_no_counts
    counts_move =
        let zeros : List ℕ = repeated (time_start γ - counts_start) 0 in
        let size : length zeros ≡ time_start γ - counts_start = repeated_length (time_start γ - counts_start) 0 in
        let all = migrated_length m l in
        ap (λ (k : ℕ). replaced (migrated γ n m) counts_start (repeated k 0)) (omega (arith, ω.more))
        ∙ ap (replaced (migrated γ n m) counts_start) (repeated_add (time_start γ - counts_start) new_size 0)
        ∙ sym (replaced_append (migrated γ n m) counts_start zeros new_counts (omega (arith, ω.more, repeated_length new_size 0)))
        ∙ ap₂ (λ (y : List ℕ) (i : ℕ). replaced y i new_counts) (replaced_below m l zeros counts_start (omega arith)) (omega arith)
        ∙ zeros_again (replaced m counts_start zeros) (replaced_length m counts_start zeros (omega arith) ∙ l)

    pub holding_moves : (g k : ℕ) (p : List ℕ) → length p ≡ page_size γ
        → holding (widened γ n) (migrated γ n m) g k p ≡ migrated γ n (holding γ m g k p)
    unfolding holding
    holding_moves g k p h =
        let first = (held_in σ m l g).size ∙ l in
        let second = (updates_in_lem σ (with_held γ m g) first k).size ∙ first in
        ap (λ (y : List ℕ). with_held_page (widened γ n) (with_update_count (widened γ n) y k) p) (held_moves m l g)
        ∙ ap (λ (y : List ℕ). with_held_page (widened γ n) y p) (updates_move (with_held γ m g) first k)
        ∙ page_moves (with_update_count γ (with_held γ m g) k) second p h

    pub none_moves : holding_none (widened γ n) (migrated γ n m) ≡ migrated γ n (holding_none γ m)
    unfolding holding_none
    none_moves = holding_moves none 0 (repeated (page_size γ) 0) (repeated_length (page_size γ) 0)

  -- ---- formatting

  zeros_move : repeated (memory_size (widened γ n)) 0 ≡ migrated γ n (repeated (memory_size γ) 0)
  zeros_move =
      let long = repeated_length (memory_size γ) 0 in
      ap (λ (k : ℕ). repeated k 0) (omega (arith, ω.more))
      ∙ repeated_add (time_start γ) (new_size + rest) 0
      ∙ ap₂ ◌++◌ (sym (repeated_part (memory_size γ) 0 0 (time_start γ) (omega arith)))
      (repeated_add new_size rest 0 ∙ ap (λ (x : List ℕ). new_counts ++ x) (sym (repeated_part (memory_size γ) 0 (time_start γ) rest (omega arith))))
      ∙ sym (migrated_cut (repeated (memory_size γ) 0) long)

  pub formatted_moves : (g : ℕ) (s : List ℕ) → length s ≡ salt_size → migrated γ n (formatted_memory γ g s) ≡ formatted_memory (widened γ n) g s
  unfolding formatted_memory
  formatted_moves g s h =
      let zeros : List ℕ = repeated (memory_size γ) 0 in
      let long = repeated_length (memory_size γ) 0 in
      let salted = (salt_in σ zeros long s h).size ∙ long in
      let grouped = (groups_in σ (with_salt zeros s) salted g).size ∙ salted in
      sym (held_moves (with_groups γ (with_salt zeros s) g) grouped none)
      ∙ ap (λ (y : List ℕ). with_held (widened γ n) y none)
      (sym (groups_move (with_salt zeros s) salted g)
      ∙ ap (λ (y : List ℕ). with_groups (widened γ n) y g) (sym (salt_moves zeros long s h) ∙ ap (λ (y : List ℕ). with_salt y s) (sym zeros_move)))
