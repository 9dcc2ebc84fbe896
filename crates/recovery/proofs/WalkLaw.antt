-- The walk, block by block as the code goes. Assumes nothing.
use mathlib.Core.Path.{◌≡◌, refl, ap, ap₂, sym, subst, ◌∙◌}
use mathlib.Core.Bool.{Bool, true, false, ◌&&◌, not}
use mathlib.Core.List.{List, [], ◌∷◌, any, flat_map}
use Rattle.std.specs.Prelude.{Option, None}
use Prim.Native.Nat.{ℕ, suc, ◌-◌, ◌*◌, ◌/◌, ◌≤◌, ◌<◌}
use native.Mathlib.Omega.{arith}
use borrow.Author.Tests.{le-leb, lt-leb, not-true, not-false}
use lib.Dec.{leb, eqb}
use lib.ListN.{length}
use Rattle.octets.specs.Number.{number_at}
use Rattle.lockpage.specs.Geometry.{Geometry, present}
use Rattle.lockpage.proofs.GeometryLaw.{present_proper as σ}
use Rattle.lockpage.specs.declared.Entry.{Entry}
use Rattle.lockpage.specs.Entry.{time_of_write}
use Rattle.addressing.specs.Map.{data_blocks, physical}
use Rattle.disk.specs.Disk.{block}
use Rattle.memory.specs.Memory.{groups}
use Rattle.validity.proofs.ValidLaw.{facts}
use Rattle.machine.specs.Command.{Box}
use Rattle.machine.specs.Tag.{current_entry}
use Rattle.versions_machine.specs.Versions.{Range, Record}
use Rattle.versions_machine.specs.Log.{record_size, pointer_size, records_per_block, records_read, pointer_read}
use Rattle.versions_machine.specs.Allocation.{those, whole_box}
use Rattle.versions_machine.specs.History.{told}
use Rattle.versions_machine.proofs.ChainLaw.{told_append}
use Rattle.versions_machine.proofs.AllocationLaw.{those_append}
use Rattle.versions_state.specs.Layout.{parts}
use Rattle.versions_state.specs.State.{newest_bytes}
use Rattle.versions_bytes.proofs.NewestLaw.{newests_length}
use Rattle.recovery_machine.specs.Walk.{goes_on, walk_from, walk, written_at, content_of}
use Rattle.recovery_machine.specs.Recover.{result_size, counts, walked_records, recovered}
use Rattle.recovery.specs.Marks.{bits_per_byte, is_marked, marked, Marks}
use Rattle.recovery.specs.Ready.{says_kept, Takes, marks_size, StepReady}
use Rattle.recovery.proofs.MarksLaw.{marked_length, one_marked}
use Rattle.recovery.proofs.RecordsLaw.{kept_inside, kept_outside}

-- there is a mark for each block of the box
pub marks_cover : (s : Box) (marks : List ℕ) (a : ℕ) → StepReady present s marks a → a < bits_per_byte * length marks
unfolding data_blocks
marks_cover s marks a ready = omega (arith, ready.inside, ready.marks_size_is, (facts σ s.memory ready.box.memory).most)

-- γ is the box's geometry
module _ (γ : Geometry) (s : Box) (point now : ℕ) where
  abbrev ρ : Range
  ρ = whole_box γ (groups γ s.memory)

  -- ---- whether it goes on at block a, whose entry was read

  module _ (parent a : ℕ) (inside : a < data_blocks γ (groups γ s.memory)) (e : Entry) (ee : e ≡ current_entry γ s a) (kept : Bool)
      (ek : kept ≡ says_kept point now e) where
    -- by what the parts of the test say
    going : (walked : List ℕ) (later other : Bool) → leb parent (e.stamp / 2) ≡ later → any walked (eqb a) ≡ other
        → kept && (later && not other) ≡ goes_on γ ρ s point now walked parent a
    unfolding goes_on time_of_write
    going walked later other el eo =
        ap₂ (λ (x y : Bool). x && y)
        (kept_inside γ s point now (data_blocks γ (groups γ s.memory)) refl a inside e ee kept ek)
        (ap₂ (λ (x y : Bool). x && not y) (sym el ∙ ap (λ (x : Entry). leb parent (time_of_write x)) ee) (sym eo))

    pub stops_unkept : not kept ≡ true → (walked : List ℕ) → false ≡ goes_on γ ρ s point now walked parent a
    stops_unkept h walked =
        let later = leb parent (e.stamp / 2) in
        let other = any walked (eqb a) in
        ap (λ (x : Bool). x && (later && not other)) (sym (not-true kept h)) ∙ going walked later other refl refl

    pub stops_earlier : not kept ≡ false → e.stamp / 2 < parent → (walked : List ℕ) → false ≡ goes_on γ ρ s point now walked parent a
    stops_earlier h l walked =
        let other = any walked (eqb a) in
        ap (λ (x : Bool). x && (false && not other)) (sym (not-false kept h))
        ∙ going walked false other (lt-leb parent (e.stamp / 2) l) refl

    pub goes : not kept ≡ false → parent ≤ e.stamp / 2 → (marks : List ℕ) → a < bits_per_byte * length marks → (m : Bool) → m ≡ is_marked marks a
        → (walked : List ℕ) → Marks marks walked → not m ≡ goes_on γ ρ s point now walked parent a
    unfolding Marks
    goes h l marks small m em walked are =
        ap (λ (x : Bool). x && (true && not m)) (sym (not-false kept h))
        ∙ going walked true m (le-leb parent (e.stamp / 2) l) (sym (em ∙ are a small))

  -- ---- the walk

  -- whether a record counts, and the records of a block walked
  abbrev test : Record → Bool
  test = counts γ ρ s point now

  abbrev records_of : ℕ → List Record
  records_of a = records_read γ (content_of γ s a)

  -- what is recovered where newest is, and these blocks are still to be walked
  abbrev rest : (ℕ → Option ℕ) → List ℕ → ℕ → Option ℕ
  rest newest blocks = told newest (those test (flat_map records_of blocks))

  -- a step of the walk, at block a
  module _ (walked : List ℕ) (parent a left : ℕ) (more : 0 < left) where
    looked_at : walk_from γ ρ s point now walked parent a left
        ≡ elim (goes_on γ ρ s point now walked parent a) [
          | true ↦ a ∷ walk_from γ ρ s point now (a ∷ walked) (written_at γ s a) (pointer_read γ (content_of γ s a)) (left - 1)
          | false ↦ []
        ]
    unfolding walk_from
    looked_at = let one : left ≡ suc (left - 1) = omega arith in ap (walk_from γ ρ s point now walked parent a) one

    -- it goes on, or it stops
    walk_on : goes_on γ ρ s point now walked parent a ≡ true
        → walk_from γ ρ s point now walked parent a left
        ≡ a ∷ walk_from γ ρ s point now (a ∷ walked) (written_at γ s a) (pointer_read γ (content_of γ s a)) (left - 1)
    walk_on g = rw (looked_at, g)

    walk_none : goes_on γ ρ s point now walked parent a ≡ false → walk_from γ ρ s point now walked parent a left ≡ []
    walk_none g = rw (looked_at, g)

  -- the records of a block, and of those behind it
  more_told : (newest : ℕ → Option ℕ) (a : ℕ) (blocks : List ℕ) → rest newest (a ∷ blocks) ≡ rest (told newest (those test (records_of a))) blocks
  unfolding flat_map
  more_told newest a blocks =
      ap (told newest) (those_append test (records_of a) (flat_map records_of blocks))
      ∙ told_append newest (those test (records_of a)) (those test (flat_map records_of blocks))

  -- before a step: the blocks walked are marked, the result has what their records say, and the rest of the walk is left
  pub record Walking (result marks : List ℕ) (left parent next : ℕ) : Type 0 where
    pub walked : List ℕ
    pub newest : ℕ → Option ℕ
    pub marks_size_is : length marks ≡ marks_size γ
    pub marks_are : Marks marks walked
    pub result_is : result ≡ newest_bytes newest 0 parts
    pub still : rest newest (walk_from γ ρ s point now walked parent next left) ≡ recovered γ ρ s point now

  pub walk_start : (result marks : List ℕ) (end : ℕ) → end ≡ data_blocks γ (groups γ s.memory) → length marks ≡ marks_size γ → Marks marks []
      → result ≡ newest_bytes (λ part. None) 0 parts → (left : ℕ) → left ≡ end → Walking result marks left 0 0
  unfolding recovered walked_records walk
  walk_start result marks end e size are empty left el =
      record {
        walked = [];
        newest = λ part. None;
        marks_size_is = size;
        marks_are = are;
        result_is = empty;
        still = ap (λ (n : ℕ). rest (λ part. None) (walk_from γ ρ s point now [] 0 0 n)) (el ∙ e);
      }

  module _ (result marks : List ℕ) (left parent next : ℕ) (w : Walking result marks left parent next) where
    pub walk_size : length result ≡ result_size
    walk_size = ap length w.result_is ∙ newests_length w.newest 0 parts

    -- no block is left
    ended : walk_from γ ρ s point now w.walked parent next left ≡ [] → result ≡ newest_bytes (recovered γ ρ s point now) 0 parts
    unfolding flat_map those
    ended e =
        w.result_is
        ∙ ap (λ (f : ℕ → Option ℕ). newest_bytes f 0 parts) (ap (rest w.newest) (sym e) ∙ w.still)

    pub walk_end : left ≡ 0 → result ≡ newest_bytes (recovered γ ρ s point now) 0 parts
    unfolding walk_from
    walk_end e = ended (ap (walk_from γ ρ s point now w.walked parent next) e)

    pub walk_stop : 0 < left → (r : Bool) → ((walked : List ℕ) → Marks marks walked → r ≡ goes_on γ ρ s point now walked parent next)
        → not r ≡ true → result ≡ newest_bytes (recovered γ ρ s point now) 0 parts
    walk_stop h r g n = ended (walk_none w.walked parent next left h (sym (g w.walked w.marks_are) ∙ not-true r n))

    pub walk_outside : 0 < left → (end : ℕ) → end ≡ data_blocks γ (groups γ s.memory) → end ≤ next
        → result ≡ newest_bytes (recovered γ ρ s point now) 0 parts
    unfolding goes_on
    walk_outside h end e l =
        ended
        (walk_none w.walked parent next left h
        (ap (λ (b : Bool). b && (leb parent (written_at γ s next) && not (any w.walked (eqb next))))
        (sym (kept_outside γ s point now end e next l))))

    -- it goes on at the next block
    module _ (more : 0 < left) (r : Bool) (g : (walked : List ℕ) → Marks marks walked → r ≡ goes_on γ ρ s point now walked parent next)
        (yes : not r ≡ false) where
      pub walk_step : next < bits_per_byte * length marks → (marks' content result' : List ℕ) (e : Entry) (next' : ℕ)
          → marks' ≡ marked marks next → content ≡ block γ s.disk (physical γ next)
          → Takes γ s point now (records_read γ content) result result' → e ≡ current_entry γ s next
          → next' ≡ number_at content (record_size * records_per_block γ) pointer_size
          → (left' : ℕ) → left' ≡ left - 1 → Walking result' marks' left' (e.stamp / 2) next'
      unfolding time_of_write pointer_read
      walk_step small marks' content result' e next' em ec takes ee en left' el =
          let on = told w.newest (those test (records_of next)) in
          record {
            walked = next ∷ w.walked;
            newest = on;
            marks_size_is = ap length em ∙ marked_length marks next small ∙ w.marks_size_is;
            marks_are = subst (λ (l : List ℕ). Marks l (next ∷ w.walked)) (sym em) (one_marked marks next small w.walked w.marks_are);
            result_is =
                takes w.newest w.result_is
                ∙ ap (λ (l : List ℕ). newest_bytes (told w.newest (those test (records_read γ l))) 0 parts) ec;
            still =
                ap (λ (k : ℕ). rest on (walk_from γ ρ s point now (next ∷ w.walked) (e.stamp / 2) next' k)) el
                ∙ ap₂ (λ (p n : ℕ). rest on (walk_from γ ρ s point now (next ∷ w.walked) p n (left - 1)))
                (ap time_of_write ee)
                (en ∙ ap (pointer_read γ) ec)
                ∙ sym (more_told w.newest next _)
                ∙ ap (rest w.newest)
                (sym (walk_on w.walked parent next left more (sym (g w.walked w.marks_are) ∙ not-false r yes)))
                ∙ w.still;
          }
