-- Whether a block is kept, and records taken into the result. Assumes nothing.
use mathlib.Core.Path.{◌≡◌, refl, ap, ap₂, sym, subst, ◌∙◌}
use mathlib.Core.Bool.{Bool, true, false, ◌&&◌, not, and-true, and-false}
use mathlib.Core.List.{List, [], ◌∷◌, ◌++◌}
use Rattle.std.specs.Prelude.{Option}
use Prim.Native.Nat.{ℕ, ◌+◌, ◌*◌, ◌/◌, ◌≤◌, ◌<◌}
use native.Mathlib.Omega.{arith}
use borrow.Author.Tests.{lt-ltb, le-ltb, le-leb, lt-leb}
use lib.Dec.{ltb}
use lib.ListN.{length}
use Rattle.octets.specs.Number.{with_number, number_at}
use Rattle.lockpage.specs.Geometry.{Geometry}
use Rattle.lockpage.specs.declared.Entry.{Entry}
use Rattle.lockpage.specs.declared.State.{State}
use Rattle.lockpage.specs.declared.State.TheVariants.{Free, Frozen, Counting}
use Rattle.lockpage.specs.Entry.{time_of_write, is_frozen}
use Rattle.lockpage.specs.State.{state}
use Rattle.lockpage.proofs.StateLaw.{state_frozen, state_counting, state_free}
use Rattle.addressing.specs.Map.{data_blocks}
use Rattle.memory.specs.Memory.{groups}
use Rattle.machine.specs.Command.{Box}
use Rattle.machine.specs.Tag.{current_entry}
use Rattle.machine.specs.Query.{listed}
use Rattle.machine.proofs.CaseLaw.{below_or_not}
use Rattle.machine.proofs.ListedLaw.{listed_split}
use Rattle.versions_machine.specs.Versions.{Range, Record, block_number}
use Rattle.versions_machine.specs.Log.{record_field, record_size, record_at, records_read, records_per_block}
use Rattle.versions_machine.specs.Allocation.{is_free, those, whole_box}
use Rattle.versions_machine.specs.Call.{last_part}
use Rattle.versions_machine.specs.History.{told}
use Rattle.versions_machine.proofs.AllocationLaw.{those_append}
use Rattle.versions_machine.proofs.ChainLaw.{told_append}
use Rattle.versions_state.specs.Layout.{field_size, parts}
use Rattle.versions_state.specs.State.{newest_bytes}
use Rattle.versions_bytes.proofs.PlaceLaw.{place_set}
use Rattle.versions_bytes.proofs.NewestLaw.{newest_place, newests_are, newests_replaced}
use Rattle.recovery_machine.specs.Walk.{is_kept}
use Rattle.recovery_machine.specs.Recover.{counts}
use Rattle.recovery.specs.Ready.{says_kept, Takes}

-- ---- lists

listed_end : {A : Type 0} (f : ℕ → A) (n : ℕ) → listed f 0 (n + 1) ≡ listed f 0 n ++ (f n ∷ [])
unfolding listed
listed_end f n =
    let here : 0 + n ≡ n = omega arith in
    listed_split f 0 n 1 (n + 1) refl ∙ ap (λ (j : ℕ). listed f 0 n ++ (f j ∷ [])) here

-- ---- what an entry says

module _ (point now : ℕ) (e : Entry) where
  -- it was written after the point
  pub says_late : point < e.stamp / 2 → false ≡ says_kept point now e
  unfolding says_kept time_of_write
  says_late late =
      sym (ap (λ (b : Bool). not (is_free (state now e)) && b) (lt-leb (e.stamp / 2) point late) ∙ and-false (not (is_free (state now e))))

  module _ (by : e.stamp / 2 ≤ point) where
    by_state : (x : State) → state now e ≡ x → not (is_free x) ≡ says_kept point now e
    unfolding says_kept time_of_write
    by_state x h =
        sym
        (ap₂ (λ (y : State) (b : Bool). not (is_free y) && b) h (le-leb (e.stamp / 2) point by) ∙ and-true (not (is_free x)))

    pub says_frozen : is_frozen e.stamp ≡ true → true ≡ says_kept point now e
    says_frozen f = by_state Frozen (state_frozen now e f)

    -- it has an expiry
    pub says_counting : is_frozen e.stamp ≡ false → ltb now e.word ≡ says_kept point now e
    says_counting f =
        below_or_not now e.word (λ l. lt-ltb now e.word l ∙ by_state Counting (state_counting now e f l))
        (λ l. le-ltb now e.word l ∙ by_state Free (state_free now e f l))

-- ---- a block of the whole box

module _ (γ : Geometry) (s : Box) (point now end : ℕ) (is_end_lem : end ≡ data_blocks γ (groups γ s.memory)) where
  abbrev ρ : Range
  ρ = whole_box γ (groups γ s.memory)

  -- in range, it is as its entry says
  pub kept_inside : (a : ℕ) → a < end → (e : Entry) → e ≡ current_entry γ s a → (r : Bool) → r ≡ says_kept point now e
      → r ≡ is_kept γ ρ s point now a
  unfolding is_kept says_kept
  kept_inside a h e ee r er =
      let inside : ltb a (0 + data_blocks γ (groups γ s.memory)) ≡ true = lt-ltb a _ (omega arith) in
      er
      ∙ ap (says_kept point now) ee
      ∙ sym (ap₂ (λ (x y : Bool). (x && y) && says_kept point now (current_entry γ s a)) (le-leb 0 a (omega arith)) inside)

  pub kept_outside : (a : ℕ) → end ≤ a → false ≡ is_kept γ ρ s point now a
  unfolding is_kept says_kept
  kept_outside a h =
      let outside : ltb a (0 + data_blocks γ (groups γ s.memory)) ≡ false = le-ltb a _ (omega arith) in
      sym (ap₂ (λ (x y : Bool). (x && y) && says_kept point now (current_entry γ s a)) (le-leb 0 a (omega arith)) outside)

-- ---- a record taken

-- γ is the box's geometry
module _ (γ : Geometry) (s : Box) (point now : ℕ) where
  -- whether a record counts
  abbrev test : Record → Bool
  test = counts γ (whole_box γ (groups γ s.memory)) s point now

  -- no record
  take_none : (l : List ℕ) → Takes γ s point now [] l l
  unfolding those
  take_none l newest e = e

  -- one that doesn't count, and one that does
  passed_over : (x : Record) (l : List ℕ) → test x ≡ false → Takes γ s point now (x ∷ []) l l
  unfolding those
  passed_over x l h newest e =
      e
      ∙ ap (λ (b : Bool). newest_bytes (told newest (elim b [ true ↦ x ∷ [] | false ↦ [] ])) 0 parts) (sym h)

  stored : (x : Record) (l m : List ℕ) → test x ≡ true → x.part ≤ last_part → m ≡ with_number l (field_size * x.part) field_size x.block
      → Takes γ s point now (x ∷ []) l m
  unfolding those
  stored x l m h few em newest e =
      let p = x.part in
      let old = block_number (newest p) in
      em
      ∙ ap (λ (y : List ℕ). with_number y (field_size * p) field_size x.block) (e ∙ newests_are newest p few)
      ∙ place_set (newest_place newest p few) field_size old x.block
      ∙ sym (newests_replaced newest p few x.block)
      ∙ ap (λ (b : Bool). newest_bytes (told newest (elim b [ true ↦ x ∷ [] | false ↦ [] ])) 0 parts) (sym h)

  -- record i of a block's bytes, whose part was read
  module _ (content : List ℕ) (i p : ℕ) (ep : p ≡ number_at content (record_size * i) record_field) where
    -- its part is none
    pub take_no_part : (l : List ℕ) → last_part < p → Takes γ s point now (record_at content (record_size * i) ∷ []) l l
    unfolding counts
    take_no_part l h =
        let x = record_at content (record_size * i) in
        passed_over x l
        (ap (λ (b : Bool). b && is_kept γ (whole_box γ (groups γ s.memory)) s point now x.block) (lt-leb x.part last_part (omega arith)))

    -- its block was read too, and whether it is kept
    module _ (few : p ≤ last_part) (b : ℕ) (eb : b ≡ number_at content (record_size * i + record_field) record_field) (kept : Bool)
        (ek : kept ≡ is_kept γ (whole_box γ (groups γ s.memory)) s point now b) where
      counted : kept ≡ test (record_at content (record_size * i))
      unfolding counts
      counted =
          let x = record_at content (record_size * i) in
          ek
          ∙ ap (is_kept γ (whole_box γ (groups γ s.memory)) s point now) eb
          ∙ ap (λ (t : Bool). t && is_kept γ (whole_box γ (groups γ s.memory)) s point now x.block)
          (sym (le-leb x.part last_part (omega arith)))

      pub take_not_kept : (l : List ℕ) → kept ≡ false → Takes γ s point now (record_at content (record_size * i) ∷ []) l l
      take_not_kept l h = passed_over (record_at content (record_size * i)) l (sym counted ∙ h)

      pub take_kept : (l m : List ℕ) → kept ≡ true → m ≡ with_number l (field_size * p) field_size b
          → Takes γ s point now (record_at content (record_size * i) ∷ []) l m
      take_kept l m h em =
          stored (record_at content (record_size * i)) l m (sym counted ∙ h) (omega arith)
          (em ∙ ap₂ (λ (j n : ℕ). with_number l (field_size * j) field_size n) ep eb)

  -- ---- records taken, one after the other

  take_more : (xs ys : List Record) (l m n : List ℕ) → Takes γ s point now xs l m → Takes γ s point now ys m n
      → Takes γ s point now (xs ++ ys) l n
  take_more xs ys l m n f g newest e =
      g (told newest (those test xs)) (f newest e)
      ∙ ap (λ (o : ℕ → Option ℕ). newest_bytes o 0 parts)
      (sym (ap (told newest) (those_append test xs ys) ∙ told_append newest (those test xs) (those test ys)))

  -- the first i of a block's
  abbrev first_records : List ℕ → ℕ → List Record
  first_records content i = listed (λ j. record_at content (record_size * j)) 0 i

  -- they are taken, from a result l to one as long
  pub record Taken (content l : List ℕ) (i : ℕ) (m : List ℕ) : Type 0 where
    pub most : i ≤ records_per_block γ
    pub size : length m ≡ length l
    pub takes : Takes γ s point now (first_records content i) l m

  pub taken_start : (content l : List ℕ) → Taken content l 0 l
  unfolding listed
  taken_start content l = record { most = omega arith; size = refl; takes = take_none l }

  pub taken_next : (content l : List ℕ) (i : ℕ) (m n : List ℕ) → Taken content l i m → i < records_per_block γ → length n ≡ length m
      → Takes γ s point now (record_at content (record_size * i) ∷ []) m n → Taken content l (i + 1) n
  taken_next content l i m n f h size g =
      record {
        most = omega arith;
        size = size ∙ f.size;
        takes =
            subst (λ (xs : List Record). Takes γ s point now xs l n) (sym (listed_end (λ j. record_at content (record_size * j)) i))
            (take_more (first_records content i) (record_at content (record_size * i) ∷ []) l m n f.takes g);
      }

  pub taken_all : (content l : List ℕ) (i : ℕ) (m : List ℕ) → Taken content l i m → records_per_block γ ≤ i
      → Takes γ s point now (records_read γ content) l m
  unfolding records_read
  taken_all content l i m f h =
      let all : i ≡ records_per_block γ = omega (arith, f.most) in
      subst (λ (k : ℕ). Takes γ s point now (first_records content k) l m) all f.takes
