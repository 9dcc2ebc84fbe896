-- Laws of the fields of the memory: what each reads after each is replaced. A change lies in the front, below the last time, or in the
-- back: what lies in the other half is kept as a whole. Assumes nothing.
use mathlib.Core.Path.{◌≡◌, refl, ap, ◌∙◌}
use mathlib.Core.Bool.{Bool, true, false}
use mathlib.Core.Logic.{◌⊎◌, inl, inr}
use mathlib.Core.List.{List}
use Prim.Native.Nat.{ℕ, ◌+◌, ◌*◌, ◌-◌, ◌^◌, ◌≤◌, ◌<◌}
use native.Mathlib.Omega.{arith}
use borrow.Author.Tests.{eqb-true, eqb-false}
use lib.Dec.{eqb}
use lib.ListN.{length}
use Rattle.octets.specs.Part.{part, replaced, repeated}
use Rattle.octets.specs.Number.{number, bytes, number_at, with_number}
use Rattle.octets.proofs.OrderLaw.{apart}
use Rattle.octets.proofs.PartLaw.{part_length}
use Rattle.octets.proofs.RepeatedLaw.{repeated_length, repeated_part}
use Rattle.octets.proofs.ReplacedLaw.{replaced_length, part_same, part_other, part_within}
use Rattle.octets.proofs.NumberLaw.{bytes_length, number_at_same, number_at_other, number_at_zeros}
use Rattle.lockpage.specs.Geometry.{Geometry, Proper}
use Rattle.lockpage.specs.Size.{page_size}
use Rattle.memory.specs.Layout.{memory_size, salt_start, salt_size, counts_start, count_size, count_start, time_start, time_size, groups_start, held_start}
use Rattle.memory.specs.Layout.{update_count_start, byte_size, reserved_start, reserved_size, page_start}
use Rattle.memory.specs.Memory.{salt, count, last_time, groups, held, none, update_count, held_page, with_salt, with_count, with_no_counts, with_last_time}
use Rattle.memory.specs.Memory.{with_groups, with_held, with_update_count, with_held_page, holding, holding_none}
use Rattle.memory.specs.Claims.{Reads, changed}

-- γ is the box's geometry
module _ (γ : Geometry) where
  -- a change below the last time: all from there on is the same
  pub record InFront (m n : List ℕ) : Type 0 where
    pub size : length n ≡ length m
    pub back : (f k : ℕ) → time_start γ ≤ f → part n f k ≡ part m f k

  -- a change from the last time on: all below is the same, and the byte that is 0
  pub record InBack (m n : List ℕ) : Type 0 where
    pub size : length n ≡ length m
    pub front : (f k : ℕ) → f + k ≤ time_start γ → part n f k ≡ part m f k
    pub reserved : part n (reserved_start γ) reserved_size ≡ part m (reserved_start γ) reserved_size

-- γ is any proper geometry
module _ {γ : Geometry} (σ : Proper γ) where
  -- ---- halves

  in_back_twice : (m n o : List ℕ) → InBack γ m n → InBack γ n o → InBack γ m o
  in_back_twice m n o a b =
      record {
        size = b.size ∙ a.size;
        front = λ f k h. b.front f k h ∙ a.front f k h;
        reserved = b.reserved ∙ a.reserved;
      }

  module _ (m : List ℕ) (at : ℕ) (new : List ℕ) (size : length m ≡ memory_size γ) where
    in_front_lem : at + length new ≤ time_start γ → InFront γ m (replaced m at new)
    in_front_lem h =
        record {
          size = replaced_length m at new (omega arith);
          back = λ f k b. part_other m at new f k (omega arith) (inr (omega arith));
        }

    in_back : time_start γ ≤ at → at + length new ≤ memory_size γ → (at + length new ≤ reserved_start γ) ⊎ (reserved_start γ + reserved_size ≤ at)
        → InBack γ m (replaced m at new)
    in_back h e (inl r) =
        record {
          size = replaced_length m at new (omega arith);
          front = λ f k b. part_other m at new f k (omega arith) (inl (omega arith));
          reserved = part_other m at new (reserved_start γ) reserved_size (omega arith) (inr r);
        }
    in_back h e (inr r) =
        record {
          size = replaced_length m at new (omega arith);
          front = λ f k b. part_other m at new f k (omega arith) (inl (omega arith));
          reserved = part_other m at new (reserved_start γ) reserved_size (omega arith) (inl r);
        }

  -- ---- the changes, each in its half

  module _ (m : List ℕ) (size : length m ≡ memory_size γ) where
    pub salt_in : (s : List ℕ) → length s ≡ salt_size → InFront γ m (with_salt m s)
    unfolding with_salt
    salt_in s l = in_front_lem m salt_start s size (omega arith)

    -- and the counts are the same too
    pub salt_rest : (s : List ℕ) → length s ≡ salt_size → (f k : ℕ) → counts_start ≤ f → part (with_salt m s) f k ≡ part m f k
    unfolding with_salt
    salt_rest s l f k h = part_other m salt_start s f k (omega arith) (inr (omega arith))

    pub count_in : (g n : ℕ) → g < γ.most_groups → InFront γ m (with_count m g n)
    unfolding with_count with_number
    count_in g n h = in_front_lem m (count_start g) (bytes count_size n) size (omega (arith, bytes_length count_size n))

    -- and what lies after it is the same too
    pub count_rest : (g n f k : ℕ) → g < γ.most_groups → count_start g + count_size ≤ f → part (with_count m g n) f k ≡ part m f k
    unfolding with_count with_number
    count_rest g n f k h b =
        let digits = bytes_length count_size n in
        part_other m (count_start g) (bytes count_size n) f k (omega arith) (inr (omega arith))

    pub counts_in : InFront γ m (with_no_counts γ m)
    unfolding with_no_counts
    counts_in =
        in_front_lem m counts_start (repeated (time_start γ - counts_start) 0) size (omega (arith, repeated_length (time_start γ - counts_start) 0))

    pub time_in : (t : ℕ) → InBack γ m (with_last_time γ m t)
    unfolding with_last_time with_number
    time_in t =
        let digits = bytes_length time_size t in
        in_back m (time_start γ) (bytes time_size t) size (omega arith) (omega arith) (inl (omega arith))

    pub groups_in : (g : ℕ) → InBack γ m (with_groups γ m g)
    unfolding with_groups with_number
    groups_in g =
        let digits = bytes_length byte_size g in
        in_back m (groups_start γ) (bytes byte_size g) size (omega arith) (omega arith) (inl (omega arith))

    pub held_in : (g : ℕ) → InBack γ m (with_held γ m g)
    unfolding with_held with_number
    held_in g =
        let digits = bytes_length byte_size g in
        in_back m (held_start γ) (bytes byte_size g) size (omega arith) (omega arith) (inl (omega arith))

    pub updates_in_lem : (n : ℕ) → InBack γ m (with_update_count γ m n)
    unfolding with_update_count with_number
    updates_in_lem n =
        let digits = bytes_length byte_size n in
        in_back m (update_count_start γ) (bytes byte_size n) size (omega arith) (omega arith) (inl (omega arith))

    pub page_in : (p : List ℕ) → length p ≡ page_size γ → InBack γ m (with_held_page γ m p)
    unfolding with_held_page
    page_in p l = in_back m (page_start γ) p size (omega arith) (omega arith) (inr (omega arith))

  pub holding_in : (m : List ℕ) → length m ≡ memory_size γ → (g n : ℕ) (p : List ℕ) → length p ≡ page_size γ → InBack γ m (holding γ m g n p)
  unfolding holding
  holding_in m size g n p l =
      let grouped : List ℕ = with_held γ m g in
      let counted : List ℕ = with_update_count γ grouped n in
      let first = held_in m size g in
      let second = in_back_twice m grouped counted first (updates_in_lem grouped (first.size ∙ size) n) in
      in_back_twice m counted (with_held_page γ counted p) second (page_in counted (second.size ∙ size) p l)

  -- ---- the fields that are lists

  pub salt_length : (m : List ℕ) → length m ≡ memory_size γ → length (salt m) ≡ salt_size
  unfolding salt
  salt_length m size = part_length m salt_start salt_size (omega arith)

  pub held_page_length : (m : List ℕ) → length m ≡ memory_size γ → length (held_page γ m) ≡ page_size γ
  unfolding held_page
  held_page_length m size = part_length m (page_start γ) (page_size γ) (omega arith)

  -- ---- what each field reads after each change

  module _ (m n : List ℕ) (size : length m ≡ memory_size γ) where
    -- a change in the front sets the salt or the counts
    front_reads : (s : List ℕ) (c : ℕ → ℕ) → InFront γ m n → salt n ≡ s → ((k : ℕ) → k < γ.most_groups → count n k ≡ c k)
        → Reads γ n s c (last_time γ m) (groups γ m) (held γ m) (update_count γ m) (held_page γ m)
    unfolding last_time groups held update_count held_page number_at
    front_reads s c i es ec =
        record {
          size = i.size ∙ size;
          salt = es;
          count = ec;
          time = ap number (i.back (time_start γ) time_size (omega arith));
          groups = ap number (i.back (groups_start γ) byte_size (omega arith));
          held = ap number (i.back (held_start γ) byte_size (omega arith));
          updates = ap number (i.back (update_count_start γ) byte_size (omega arith));
          page = i.back (page_start γ) (page_size γ) (omega arith);
        }

    -- a change in the back sets the time, the groups, the held group, the count of its updates or the page
    back_reads : (t g h k : ℕ) (p : List ℕ) → InBack γ m n → last_time γ n ≡ t → groups γ n ≡ g → held γ n ≡ h → update_count γ n ≡ k
        → held_page γ n ≡ p → Reads γ n (salt m) (count m) t g h k p
    unfolding salt count number_at
    back_reads t g h k p i et eg eh ek ep =
        record {
          size = i.size ∙ size;
          salt = i.front salt_start salt_size (omega arith);
          count = λ k l. ap number (i.front (count_start k) count_size (omega arith));
          time = et;
          groups = eg;
          held = eh;
          updates = ek;
          page = ep;
        }

  -- a count after another is set
  count_after_lem : (m : List ℕ) (g n k : ℕ) → length m ≡ memory_size γ → g < γ.most_groups → n < 256 ^ count_size → k < γ.most_groups
      → count (with_count m g n) k ≡ changed (count m) g n k
  unfolding with_count count
  count_after_lem m g n k size h s hk = go (eqb k g) refl
    where
      sides : (k < g) ⊎ (g < k) → (count_start k + count_size ≤ count_start g) ⊎ (count_start g + count_size ≤ count_start k)
      sides (inl l) = inl (omega arith)
      sides (inr l) = inr (omega arith)

      go : (b : Bool) → eqb k g ≡ b
          → number_at (with_number m (count_start g) count_size n) (count_start k) count_size
          ≡ elim b [ true ↦ n | false ↦ number_at m (count_start k) count_size ]
      go true e =
          ap (λ (j : ℕ). number_at (with_number m (count_start g) count_size n) (count_start j) count_size) (eqb-true k g e)
          ∙ number_at_same m (count_start g) count_size n (omega arith) s
      go false e =
          number_at_other m (count_start g) count_size n (count_start k) count_size (omega arith) (sides (apart k g (eqb-false k g e)))

  module _ (m : List ℕ) (size : length m ≡ memory_size γ) where
    pub salt_set : (s : List ℕ) → length s ≡ salt_size
        → Reads γ (with_salt m s) s (count m) (last_time γ m) (groups γ m) (held γ m) (update_count γ m) (held_page γ m)
    unfolding with_salt salt count number_at
    salt_set s l =
        front_reads m (with_salt m s) size s (count m) (salt_in m size s l)
        (part_same m salt_start s salt_size l (omega arith))
        (λ k h. ap number (salt_rest m size s l (count_start k) count_size (omega arith)))

    pub count_set : (g n : ℕ) → g < γ.most_groups → n < 256 ^ count_size
        → Reads γ (with_count m g n) (salt m) (changed (count m) g n) (last_time γ m) (groups γ m) (held γ m) (update_count γ m) (held_page γ m)
    unfolding with_count with_number salt
    count_set g n h s =
        let digits = bytes_length count_size n in
        front_reads m (with_count m g n) size (salt m) (changed (count m) g n) (count_in m size g n h)
        (part_other m (count_start g) (bytes count_size n) salt_start salt_size (omega arith) (inl (omega arith)))
        (λ k hk. count_after_lem m g n k size h s hk)

    -- the counts from g on, all cleared, are zeros
    pub counts_zero : (g : ℕ) → g ≤ γ.most_groups
        → part (with_no_counts γ m) (count_start g) (time_start γ - count_start g) ≡ repeated (time_start γ - count_start g) 0
    unfolding with_no_counts
    counts_zero g h =
        let zeros = repeated_length (time_start γ - counts_start) 0 in
        part_within m counts_start (repeated (time_start γ - counts_start) 0) (count_size * g) (time_start γ - count_start g) (omega arith) (omega arith)
        ∙ repeated_part (time_start γ - counts_start) 0 (count_size * g) (time_start γ - count_start g) (omega arith)

    pub counts_cleared : Reads γ (with_no_counts γ m) (salt m) (λ k. 0) (last_time γ m) (groups γ m) (held γ m) (update_count γ m) (held_page γ m)
    unfolding with_no_counts salt count
    counts_cleared =
        let zeros = repeated_length (time_start γ - counts_start) 0 in
        front_reads m (with_no_counts γ m) size (salt m) (λ k. 0) (counts_in m size)
        (part_other m counts_start (repeated (time_start γ - counts_start) 0) salt_start salt_size (omega arith) (inl (omega arith)))
        (λ k h.
        number_at_zeros (with_no_counts γ m) (count_start k) count_size
        (part_within m counts_start (repeated (time_start γ - counts_start) 0) (count_size * k) count_size (omega arith) (omega arith)
        ∙ repeated_part (time_start γ - counts_start) 0 (count_size * k) count_size (omega arith)))

    pub time_set : (t : ℕ) → t < 256 ^ time_size
        → Reads γ (with_last_time γ m t) (salt m) (count m) t (groups γ m) (held γ m) (update_count γ m) (held_page γ m)
    unfolding with_last_time with_number last_time groups held update_count held_page number_at
    time_set t s =
        let digits = bytes_length time_size t in
        back_reads m (with_last_time γ m t) size t (groups γ m) (held γ m) (update_count γ m) (held_page γ m) (time_in m size t)
        (number_at_same m (time_start γ) time_size t (omega arith) s)
        (number_at_other m (time_start γ) time_size t (groups_start γ) byte_size (omega arith) (inr (omega arith)))
        (number_at_other m (time_start γ) time_size t (held_start γ) byte_size (omega arith) (inr (omega arith)))
        (number_at_other m (time_start γ) time_size t (update_count_start γ) byte_size (omega arith) (inr (omega arith)))
        (part_other m (time_start γ) (bytes time_size t) (page_start γ) (page_size γ) (omega arith) (inr (omega arith)))

    pub groups_set : (g : ℕ) → g < 256 → Reads γ (with_groups γ m g) (salt m) (count m) (last_time γ m) g (held γ m) (update_count γ m) (held_page γ m)
    unfolding with_groups with_number last_time groups held update_count held_page number_at
    groups_set g s =
        let digits = bytes_length byte_size g in
        back_reads m (with_groups γ m g) size (last_time γ m) g (held γ m) (update_count γ m) (held_page γ m) (groups_in m size g)
        (number_at_other m (groups_start γ) byte_size g (time_start γ) time_size (omega arith) (inl (omega arith)))
        (number_at_same m (groups_start γ) byte_size g (omega arith) (omega arith))
        (number_at_other m (groups_start γ) byte_size g (held_start γ) byte_size (omega arith) (inr (omega arith)))
        (number_at_other m (groups_start γ) byte_size g (update_count_start γ) byte_size (omega arith) (inr (omega arith)))
        (part_other m (groups_start γ) (bytes byte_size g) (page_start γ) (page_size γ) (omega arith) (inr (omega arith)))

    pub held_set : (g : ℕ) → g < 256 → Reads γ (with_held γ m g) (salt m) (count m) (last_time γ m) (groups γ m) g (update_count γ m) (held_page γ m)
    unfolding with_held with_number last_time groups held update_count held_page number_at
    held_set g s =
        let digits = bytes_length byte_size g in
        back_reads m (with_held γ m g) size (last_time γ m) (groups γ m) g (update_count γ m) (held_page γ m) (held_in m size g)
        (number_at_other m (held_start γ) byte_size g (time_start γ) time_size (omega arith) (inl (omega arith)))
        (number_at_other m (held_start γ) byte_size g (groups_start γ) byte_size (omega arith) (inl (omega arith)))
        (number_at_same m (held_start γ) byte_size g (omega arith) (omega arith))
        (number_at_other m (held_start γ) byte_size g (update_count_start γ) byte_size (omega arith) (inr (omega arith)))
        (part_other m (held_start γ) (bytes byte_size g) (page_start γ) (page_size γ) (omega arith) (inr (omega arith)))

    pub updates_set : (n : ℕ) → n < 256
        → Reads γ (with_update_count γ m n) (salt m) (count m) (last_time γ m) (groups γ m) (held γ m) n (held_page γ m)
    unfolding with_update_count with_number last_time groups held update_count held_page number_at
    updates_set n s =
        let digits = bytes_length byte_size n in
        back_reads m (with_update_count γ m n) size (last_time γ m) (groups γ m) (held γ m) n (held_page γ m) (updates_in_lem m size n)
        (number_at_other m (update_count_start γ) byte_size n (time_start γ) time_size (omega arith) (inl (omega arith)))
        (number_at_other m (update_count_start γ) byte_size n (groups_start γ) byte_size (omega arith) (inl (omega arith)))
        (number_at_other m (update_count_start γ) byte_size n (held_start γ) byte_size (omega arith) (inl (omega arith)))
        (number_at_same m (update_count_start γ) byte_size n (omega arith) (omega arith))
        (part_other m (update_count_start γ) (bytes byte_size n) (page_start γ) (page_size γ) (omega arith) (inr (omega arith)))

    pub page_set : (p : List ℕ) → length p ≡ page_size γ
        → Reads γ (with_held_page γ m p) (salt m) (count m) (last_time γ m) (groups γ m) (held γ m) (update_count γ m) p
    unfolding with_held_page last_time groups held update_count held_page number_at
    page_set p l =
        back_reads m (with_held_page γ m p) size (last_time γ m) (groups γ m) (held γ m) (update_count γ m) p (page_in m size p l)
        (ap number (part_other m (page_start γ) p (time_start γ) time_size (omega arith) (inl (omega arith))))
        (ap number (part_other m (page_start γ) p (groups_start γ) byte_size (omega arith) (inl (omega arith))))
        (ap number (part_other m (page_start γ) p (held_start γ) byte_size (omega arith) (inl (omega arith))))
        (ap number (part_other m (page_start γ) p (update_count_start γ) byte_size (omega arith) (inl (omega arith))))
        (part_same m (page_start γ) p (page_size γ) l (omega arith))

  pub page_held : (m : List ℕ) → length m ≡ memory_size γ → (g n : ℕ) (p : List ℕ) → g < 256 → n < 256 → length p ≡ page_size γ
      → Reads γ (holding γ m g n p) (salt m) (count m) (last_time γ m) (groups γ m) g n p
  unfolding holding
  page_held m size g n p sg sn l =
      let a = held_set m size g sg in
      let b = updates_set (with_held γ m g) a.size n sn in
      let c = page_set (with_update_count γ (with_held γ m g) n) b.size p l in
      record {
        size = c.size;
        salt = c.salt ∙ b.salt ∙ a.salt;
        count = λ k h. c.count k h ∙ b.count k h ∙ a.count k h;
        time = c.time ∙ b.time ∙ a.time;
        groups = c.groups ∙ b.groups ∙ a.groups;
        held = c.held ∙ b.held ∙ a.held;
        updates = c.updates ∙ b.updates;
        page = c.page;
      }

  pub page_dropped : (m : List ℕ) → length m ≡ memory_size γ
      → Reads γ (holding_none γ m) (salt m) (count m) (last_time γ m) (groups γ m) none 0 (repeated (page_size γ) 0)
  unfolding holding_none
  page_dropped m size = page_held m size none 0 (repeated (page_size γ) 0) (omega arith) (omega arith) (repeated_length (page_size γ) 0)
