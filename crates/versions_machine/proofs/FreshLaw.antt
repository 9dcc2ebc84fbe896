-- A formatted box, and what its questions say to a store: every block is free, and a write into one passes. Assumes nothing.
use mathlib.Core.Path.{◌≡◌, refl, ap, sym, subst, ◌∙◌}
use mathlib.Core.Bool.{true}
use mathlib.Core.List.{List}
use Prim.Native.Nat.{ℕ, ◌+◌, ◌≤◌, ◌<◌}
use native.Mathlib.Omega.{arith}
use borrow.Author.Tests.{eq-eqb, ne_eqb, le-leb, lt-ltb}
use lib.ListN.{length}
use lib.Dec.{leb}
use Rattle.lockpage.specs.Geometry.{Geometry, Proper}
use Rattle.lockpage.specs.Size.{block_size}
use Rattle.lockpage.specs.declared.Entry.{Entry}
use Rattle.lockpage.specs.declared.State.TheVariants.{Free}
use Rattle.lockpage.specs.declared.Update.TheVariants.{Write}
use Rattle.lockpage.specs.Entry.{flag, EntryFits}
use Rattle.lockpage.specs.State.{state}
use Rattle.lockpage.specs.Update.{latest_time, longest_lock, updated, allowed}
use Rattle.lockpage.specs.Page.{blank_entry}
use Rattle.lockpage.proofs.EntryLaw.{frozen_yes, frozen_no}
use Rattle.lockpage.proofs.StateLaw.{state_free}
use Rattle.lockpage.proofs.UpdateLaw.{written_flag, written_word, within_lock}
use Rattle.addressing.specs.Map.{disk_size, data_blocks}
use Rattle.memory.specs.Memory.{count, last_time, groups}
use Rattle.validity.specs.Valid.{count_limit}
use Rattle.validity.proofs.ValidLaw.{facts}
use Rattle.machine.specs.Command.{Box}
use Rattle.machine.specs.Tag.{current_entry}
use Rattle.machine.specs.Question.{first_no, AllYes}
use Rattle.machine.specs.Format.{format}
use Rattle.machine.specs.Claims.{ValidBox}
use Rattle.machine.proofs.QuestionLaw.{numbered_to, accepted_yes, yes_accepted}
use Rattle.machine.proofs.FormatLaw.{formats}
use Rattle.versions_machine.specs.Versions.{Range, Versions, start_questions}
use Rattle.versions_machine.specs.Allocation.{blocks_from, those, going_round, whole_box, is_available, next_available, two_available}
use Rattle.versions_machine.specs.Plan.{writing}
use Rattle.versions_machine.specs.Foresight.{questions_left}
use Rattle.versions_machine.specs.Call.{box_questions}
use Rattle.versions_machine.proofs.AllocationLaw.{first_behind, many_two}
use Rattle.versions_machine.proofs.ForesightLaw.{Foresees}
use Rattle.versions_machine.proofs.FactsLaw.{lock_limits}

pub blank_free : (now : ℕ) → state now blank_entry ≡ Free
unfolding flag
blank_free now = state_free now blank_entry (frozen_no 1 refl) (omega arith)

pub start_limits : (lock : ℕ) → first_no (start_questions lock) ≡ 0 → (1 ≤ lock) × (lock ≤ longest_lock)
unfolding start_questions numbered_to
start_limits lock k = lock_limits lock (accepted_yes 10 (start_questions lock) refl k).0

module _ {γ : Geometry} (σ : Proper γ) where
  -- ---- blocks that have the blank entry

  pub blank_available : (s : Box) (now reserve a : ℕ) → current_entry γ s a ≡ blank_entry → (a ≡ reserve → ⊥) → is_available γ s now reserve a ≡ true
  unfolding is_available
  blank_available s now reserve a e n = rw (is_available, e, blank_free now, ne_eqb a reserve n)

  -- the one behind the block last taken is next
  pub next_behind : (g : ℕ) (s : Box) (now reserve taken : ℕ) → taken + 1 < data_blocks γ g → is_available γ s now reserve (taken + 1) ≡ true
      → next_available γ (whole_box γ g) s now reserve taken ≡ taken + 1
  unfolding next_available going_round
  next_behind g s now reserve taken l h =
      first_behind (is_available γ s now reserve) 0 (data_blocks γ g) taken taken (those (λ a. leb a taken) (blocks_from 0 (data_blocks γ g))) (omega arith)
      (omega arith) h

  pub two_behind : (g : ℕ) (s : Box) (now reserve a : ℕ) → a + 1 < data_blocks γ g → is_available γ s now reserve a ≡ true
      → is_available γ s now reserve (a + 1) ≡ true → two_available γ (whole_box γ g) s now reserve ≡ true
  unfolding two_available
  two_behind g s now reserve a l h k =
      le-leb 2 (length (those (is_available γ s now reserve) (blocks_from 0 (data_blocks γ g))))
      (many_two (is_available γ s now reserve) 0 (data_blocks γ g) a (a + 1) (omega arith) (omega arith) (omega arith) h k)

  -- a write into one: what can still say no to it has yes, if its group's count is below the limit
  pub write_left : (G b now lock n : ℕ) (e : Entry) (content : List ℕ) → (1 ≤ lock) × (lock ≤ longest_lock) → b < data_blocks γ G → n < count_limit
      → e ≡ blank_entry → length content ≡ block_size γ → first_no (questions_left γ G n e (writing b now lock content)) ≡ 0
  write_left G b now lock n e content limits inside few blank size =
      let o = writing b now lock content in
      let w : Entry = updated (Write lock) now blank_entry in
      ap (λ (x : Entry). first_no (questions_left γ G n x o)) blank
      ∙ yes_accepted (questions_left γ G n blank_entry o) (
        lt-ltb b (data_blocks γ G) inside,
        (
          eq-eqb (length content) (block_size γ) size,
          (
            lt-ltb n count_limit few,
            (
              ap (allowed (Write lock)) (blank_free now) ∙ free_allowed lock,
              (
                sym (within_lock w (frozen_yes w.stamp (written_flag lock now blank_entry)))
                    ∙ ap (λ (k : ℕ). leb k longest_lock) (written_word lock now blank_entry)
                    ∙ le-leb lock longest_lock limits.1,
                tt,
              ),
            ),
          ),
        ),
      )
    where
      free_allowed : (lock : ℕ) → allowed (Write lock) Free ≡ true
      free_allowed lock = unfold allowed in refl

  -- what is put to the box
  pub box_yes : (ρ : Range) (ν : Versions) (s : Box) (now : ℕ) → ValidBox γ s → last_time γ s.memory ≤ now → now ≤ latest_time
      → two_available γ ρ s now ν.reserve ≡ true → AllYes (box_questions γ ρ ν s now)
  box_yes ρ ν s now v l m two = (
    v.memory,
    (
      eq-eqb (length s.disk) (disk_size γ (groups γ s.memory)) v.disk,
      (rw (le-leb (last_time γ s.memory) now l, le-leb now latest_time m), (two, tt)),
    ),
  )

  -- ---- a box of such blocks

  -- every block is free, every count 0, and the time 0
  pub record Fresh (g : ℕ) (s : Box) : Type 0 where
    pub valid : ValidBox γ s
    pub same_groups : groups γ s.memory ≡ g
    pub time : last_time γ s.memory ≡ 0
    pub counts : (k : ℕ) → k < g → count s.memory k ≡ 0
    pub entries : (a : ℕ) → a < data_blocks γ g → current_entry γ s a ≡ blank_entry

  pub formatted : (s : Box) (g : ℕ) (salt : List ℕ) → (format γ s g salt).number ≡ 0 → Fresh g (format γ s g salt).box
  formatted s g salt a =
      let fmt = formats σ s g salt in
      let r = fmt.reads a in
      let v = fmt.valid a in
      let b = (format γ s g salt).box in
      record {
        valid = v;
        same_groups = r.groups;
        time = r.time;
        counts = λ i l. r.count i (omega (arith, (facts σ b.memory v.memory).most, r.groups));
        entries = fmt.blank a;
      }

  module _ (g now : ℕ) (s : Box) (f : Fresh g s) where
    pub fresh_available : (reserve a : ℕ) → a < data_blocks γ g → (a ≡ reserve → ⊥) → is_available γ s now reserve a ≡ true
    fresh_available reserve a l n = blank_available s now reserve a (f.entries a l) n

    pub fresh_inside : (a : ℕ) → a < data_blocks γ g → a < data_blocks γ (groups γ s.memory)
    fresh_inside a l = subst (λ (k : ℕ). a < data_blocks γ k) (sym f.same_groups) l

    pub fresh_foresees : now ≤ latest_time → Foresees σ now s (count s.memory) (current_entry γ s)
    fresh_foresees t =
        record {
          valid = f.valid;
          later = omega (arith, f.time);
          early = t;
          counted = λ k h. refl;
          found = λ a h. refl;
          fits =
              λ a h.
              let blank : EntryFits blank_entry = record { word = omega arith; stamp = omega arith } in
              subst EntryFits (sym (f.entries a (subst (λ (k : ℕ). a < data_blocks γ k) f.same_groups h))) blank;
        }

    -- a store that has block 0 in reserve, on a box of three blocks or more
    module _ (t : now ≤ latest_time) (some_blocks : 3 ≤ data_blocks γ g) where
      pub fresh_next : next_available γ (whole_box γ g) s now 0 0 ≡ 1
      fresh_next = next_behind g s now 0 0 (omega arith) (fresh_available 0 1 (omega arith) (λ e. omega arith))

      pub fresh_box : (ν : Versions) → ν.reserve ≡ 0 → AllYes (box_questions γ (whole_box γ g) ν s now)
      fresh_box ν e =
          box_yes (whole_box γ g) ν s now f.valid (omega (arith, f.time)) t
          (ap (two_available γ (whole_box γ g) s now) e
          ∙ two_behind g s now 0 1 (omega arith) (fresh_available 0 1 (omega arith) (λ e. omega arith))
          (fresh_available 0 2 (omega arith) (λ e. omega arith)))
