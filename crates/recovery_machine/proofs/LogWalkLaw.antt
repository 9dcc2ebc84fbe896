-- The walk over a log whose blocks are kept, with their times and contents: it comes to each of them, in order, and stops behind the last;
-- and its records are theirs. Assumes nothing.
use mathlib.Core.Path.{◌≡◌, refl, ap, ap₂, sym, ◌∙◌}
use mathlib.Core.Bool.{Bool, true, false, ◌||◌, not}
use mathlib.Mathlib.Data.Bool.Basic.{and_intro}
use mathlib.Core.List.{List, [], ◌∷◌, ◌++◌, any, map, flat_map}
use Prim.Native.Nat.{ℕ, zero, suc, ◌+◌, ◌^◌, ◌≤◌, ◌<◌}
use native.Mathlib.Omega.{arith}
use borrow.Author.Tests.{le-leb, ne_eqb}
use lib.ListN.{length}
use lib.Dec.{eqb}
use Rattle.lockpage.specs.Geometry.{Geometry}
use Rattle.machine.specs.Command.{Box}
use Rattle.machine.proofs.ListedLaw.{any_none, any_cons}
use Rattle.versions_machine.specs.Versions.{no_block, Range, Record}
use Rattle.versions_machine.specs.Log.{pointer_size, records_per_block, log_block, records_read, pointer_read}
use Rattle.versions_machine.specs.Allocation.{those}
use Rattle.versions_machine.specs.History.{Link, records_of, first_of, Ascending, NotIn, Distinct, Each}
use Rattle.versions_machine.proofs.AllocationLaw.{those_append}
use Rattle.recovery_machine.specs.Walk.{written_at, content_of, is_kept, goes_on, walk_from, walk}
use Rattle.recovery_machine.specs.Recover.{walked_records}
use Rattle.recovery_machine.proofs.WalkLaw.{walk_ends}
use Rattle.recovery_machine.proofs.ReadLaw.{Small, block_records, block_pointer}

-- where the blocks of a log lie
abbrev blocks_of : List Link → List ℕ
blocks_of ls = map (λ (l : Link). l.block) ls

module _ (γ : Geometry) (ρ : Range) (s : Box) (point now : ℕ) where
  -- a log block is as it was written: its records, its pointer to the next and its time
  pub record Stands (l : Link) (next : ℕ) : Type 0 where
    pub kept : is_kept γ ρ s point now l.block ≡ true
    pub time : written_at γ s l.block ≡ l.time
    pub content : content_of γ s l.block ≡ log_block γ l.records next
    pub few : length l.records ≤ records_per_block γ
    pub small : Each Small l.records
    pub next_small : next < 256 ^ pointer_size

  -- and so is each of a log
  abbrev pub AllStand : List Link → ℕ → Type 0
  AllStand [] end = Unit
  AllStand (l ∷ ls) end = Stands l (first_of ls end) × AllStand ls end

  -- none of them is walked
  abbrev Unwalked : List ℕ → List Link → Type 0
  Unwalked walked ls = Each (λ (l : Link). any walked (eqb l.block) ≡ false) ls

  still_unwalked : (walked : List ℕ) (b : ℕ) (ls : List Link) → NotIn b ls → Unwalked walked ls → Unwalked (b ∷ walked) ls
  still_unwalked walked b [] n h = tt
  still_unwalked walked b (l ∷ ls) n h = (
    any_cons (eqb l.block) b walked ∙ ap₂ ◌||◌ (ne_eqb l.block b (λ e. n.0 (sym e))) h.0,
    still_unwalked walked b ls n.1 h.1,
  )

  goes : (walked : List ℕ) (parent : ℕ) (l : Link) (next : ℕ) → Stands l next → parent ≤ l.time → any walked (eqb l.block) ≡ false
      → goes_on γ ρ s point now walked parent l.block ≡ true
  unfolding goes_on
  goes walked parent l next h early new =
      and_intro h.kept (and_intro (le-leb parent (written_at γ s l.block) (omega (arith, h.time))) (ap not new))

  -- with a step for each of them, and one in which it stops
  log_walked : (walked : List ℕ) (parent to : ℕ) (ls : List Link) (end n : ℕ) → length ls < n → AllStand ls end → Ascending parent ls to
      → Distinct ls → Unwalked walked ls → ((walked : List ℕ) (parent : ℕ) → goes_on γ ρ s point now walked parent end ≡ false)
      → walk_from γ ρ s point now walked parent (first_of ls end) n ≡ blocks_of ls
  unfolding walk_from
  log_walked walked parent to ls end zero few h a d u stops = absurd (omega arith)
  log_walked walked parent to [] end (suc n) few h a d u stops =
      ap (λ (b : Bool). elim b [ true ↦ end ∷ walk_from γ ρ s point now (end ∷ walked) (written_at γ s end) (pointer_read γ (content_of γ s end)) n | false ↦ [] ])
      (stops walked parent)
  log_walked walked parent to (l ∷ ls) end (suc n) few h a d u stops =
      let b = l.block in
      let on : ℕ → ℕ → List ℕ = λ time next. walk_from γ ρ s point now (b ∷ walked) time next n in
      let pointer : pointer_read γ (content_of γ s b) ≡ first_of ls end =
      ap (pointer_read γ) h.0.content ∙ block_pointer γ l.records (first_of ls end) h.0.few h.0.next_small in
      ap (λ (x : Bool). elim x [ true ↦ b ∷ on (written_at γ s b) (pointer_read γ (content_of γ s b)) | false ↦ [] ])
      (goes walked parent l (first_of ls end) h.0 a.0 u.0)
      ∙ ap₂ (λ (time next : ℕ). b ∷ on time next) h.0.time pointer
      ∙ ap (λ (bs : List ℕ). b ∷ bs)
      (log_walked (b ∷ walked) l.time to ls end n (omega arith) h.1 a.1 d.1 (still_unwalked walked b ls d.0 u.1) stops)

  new_all : (ls : List Link) → Unwalked [] ls
  new_all [] = tt
  new_all (l ∷ ls) = (any_none (eqb l.block), new_all ls)

  -- the walk from the first block of the range
  pub log_walk : (ls : List Link) (end to : ℕ) → first_of ls end ≡ ρ.first → AllStand ls end → Ascending 0 ls to → Distinct ls
      → ((walked : List ℕ) (parent : ℕ) → goes_on γ ρ s point now walked parent end ≡ false) → walk γ ρ s point now ≡ blocks_of ls
  log_walk ls end to begins h a d stops =
      let n = ρ.number + suc (length ls) in
      sym (walk_ends γ ρ s point now n (omega arith))
      ∙ ap (λ (first : ℕ). walk_from γ ρ s point now [] 0 first n) (sym begins)
      ∙ log_walked [] 0 to ls end n (omega arith) h a d (new_all ls) stops

  -- ---- the records

  records_of_lem : (test : Record → Bool) → ((x : Record) → x.part ≡ no_block → test x ≡ false) → (ls : List Link) (end : ℕ) → AllStand ls end
      → those test (flat_map (λ a. records_read γ (content_of γ s a)) (blocks_of ls)) ≡ those test (records_of ls)
  unfolding flat_map
  records_of_lem test fails [] end h = refl
  records_of_lem test fails (l ∷ ls) end h =
      let read = records_read γ (content_of γ s l.block) in
      let more = flat_map (λ a. records_read γ (content_of γ s a)) (blocks_of ls) in
      those_append test read more
      ∙ ap₂ ◌++◌
      (ap (λ (c : List ℕ). those test (records_read γ c)) h.0.content
      ∙ block_records γ test l.records (first_of ls end) fails h.0.few h.0.small)
      (records_of_lem test fails ls end h.1)
      ∙ sym (those_append test l.records (records_of ls))

  pub log_records : (test : Record → Bool) → ((x : Record) → x.part ≡ no_block → test x ≡ false) → (ls : List Link) (end to : ℕ)
      → first_of ls end ≡ ρ.first → AllStand ls end → Ascending 0 ls to → Distinct ls
      → ((walked : List ℕ) (parent : ℕ) → goes_on γ ρ s point now walked parent end ≡ false)
      → those test (walked_records γ ρ s point now) ≡ those test (records_of ls)
  unfolding walked_records
  log_records test fails ls end to begins h a d stops =
      ap (λ (bs : List ℕ). those test (flat_map (λ a. records_read γ (content_of γ s a)) bs)) (log_walk ls end to begins h a d stops)
      ∙ records_of_lem test fails ls end h
