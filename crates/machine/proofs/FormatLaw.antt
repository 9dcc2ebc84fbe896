-- Formatting gives a valid box with blank pages and touches no data block. Assumes nothing.
use mathlib.Core.Path.{◌≡◌, refl, ap, ap₂, sym, subst, ◌∙◌}
use mathlib.Core.Bool.{◌&&◌}
use mathlib.Mathlib.Data.Bool.Basic.{and_elim_left, and_elim_right}
use mathlib.Core.List.{List, [], ◌∷◌}
use Prim.Native.Nat.{ℕ, zero, suc, ◌≤◌, ◌<◌}
use native.Mathlib.Omega.{arith}
use borrow.Author.Tests.{eqb-true, leb-true, eq-eqb, ne_eqb}
use lib.Dec.{eqb, leb}
use lib.ListN.{length}
use Rattle.octets.specs.Part.{AreBytes, repeated}
use Rattle.lockpage.specs.Geometry.{Geometry, Proper}
use Rattle.lockpage.specs.Size.{page_size}
use Rattle.lockpage.specs.Page.{entry_at, blank_entry, blank_page}
use Rattle.lockpage.proofs.PageLaw.{blank_page_length, blank_page_are, blank_page_at}
use Rattle.addressing.specs.Map.{disk_size, data_blocks, group_of, place_of, physical, page_block}
use Rattle.addressing.proofs.MapLaw.{group_of_below, place_of_below, page_block_below, page_block_same, physical_page}
use Rattle.disk.specs.Disk.{block, with_block}
use Rattle.disk.proofs.DiskLaw.{block_same, block_other, block_within}
use Rattle.memory.specs.Layout.{memory_size, salt_size}
use Rattle.memory.specs.Memory.{groups, formatted_memory, none}
use Rattle.memory.specs.Claims.{Reads}
use Rattle.memory.proofs.FormatLaw.{formatted_reads}
use Rattle.memory.proofs.RangeLaw.{formatted_bytes}
use Rattle.validity.proofs.ValidLaw.{valid_formatted}
use Rattle.machine.specs.Command.{Box, box_of}
use Rattle.machine.specs.Tag.{current_page}
use Rattle.machine.specs.Question.{first_no, AllYes}
use Rattle.machine.specs.Effect.{Store, store, stored}
use Rattle.machine.specs.Format.{format_outcome_of, FormatOutcome, format_questions, blank_pages, format}
use Rattle.machine.specs.Claims.{ByteBox, ValidBox, Formats}
use Rattle.machine.proofs.CaseLaw.{same_or_not}
use Rattle.machine.proofs.QuestionLaw.{numbered_to, accepted_yes}
use Rattle.machine.proofs.TagLaw.{current_other}
use Rattle.machine.proofs.EffectLaw.{EachStore, each_append, Whole, Elsewhere, untouched, stored_length, stored_append}
use Rattle.machine.proofs.BytesLaw.{ByteStore, stored_are}

-- γ is the box's geometry
module _ (γ : Geometry) where
  pub record Formattable (s : Box) (g : ℕ) (salt : List ℕ) : Type 0 where
    pub least : 1 ≤ g
    pub most : g ≤ γ.most_groups
    pub size : length s.memory ≡ memory_size γ
    pub disk : length s.disk ≡ disk_size γ g
    pub salt_size_is : length salt ≡ salt_size

-- γ is any proper geometry
module _ {γ : Geometry} (σ : Proper γ) where
  -- ---- the blank pages

  -- what holds of the store of each group's page holds of all
  each_blank : (P : Store → Type 0) (n : ℕ) → ((g : ℕ) → g < n → P (store (page_block γ g) (blank_page γ))) → EachStore P (blank_pages γ n)
  unfolding blank_pages
  each_blank P zero h = tt
  each_blank P (suc n) h =
      each_append P (blank_pages γ n) (store (page_block γ n) (blank_page γ) ∷ []) (each_blank P n (λ g l. h g (omega arith))) (h n (omega arith), tt)

  blank_whole : (groups g : ℕ) → g < groups → Whole γ groups (store (page_block γ g) (blank_page γ))
  blank_whole groups g h = record { place = page_block_below σ groups g h; size = blank_page_length σ }

  -- each group's page is blank after them
  blank_after : (groups n : ℕ) (d : List ℕ) → n ≤ groups → length d ≡ disk_size γ groups → (g : ℕ) → g < n
      → block γ (stored γ d (blank_pages γ n)) (page_block γ g) ≡ blank_page γ
  unfolding blank_pages stored
  blank_after groups zero d k l g h = absurd (omega arith)
  blank_after groups (suc n) d k l g h =
      let e : List ℕ = stored γ d (blank_pages γ n) in
      let w = blank_whole groups n (omega arith) in
      let size : length e ≡ disk_size γ groups =
      stored_length σ groups d (blank_pages γ n) (each_blank (Whole γ groups) n (λ i j. blank_whole groups i (omega arith))) l in
      let inside = block_within σ e groups (page_block γ n) size w.place in
      ap (λ (x : List ℕ). block γ x (page_block γ g)) (stored_append σ d (blank_pages γ n) (store (page_block γ n) (blank_page γ) ∷ []))
      ∙ same_or_not g n
      (λ same.
      subst (λ (i : ℕ). block γ (with_block γ e (page_block γ n) (blank_page γ)) (page_block γ i) ≡ blank_page γ) (sym same)
      (block_same σ e (page_block γ n) (blank_page γ) w.size inside))
      (λ other.
      block_other σ e (page_block γ n) (blank_page γ) w.size inside (page_block γ g) (λ p. other (page_block_same σ g n p))
      ∙ blank_after groups n d (omega arith) l g (omega arith))

  -- ---- the questions

  pub formattable : (s : Box) (g : ℕ) (salt : List ℕ) → first_no (format_questions γ s g salt) ≡ 0 → Formattable γ s g salt
  unfolding format_questions numbered_to
  formattable s g salt e =
      let h : AllYes (format_questions γ s g salt) = accepted_yes 6 (format_questions γ s g salt) refl e in
      let least = leb 1 g in
      let most = leb g γ.most_groups in
      let size = eqb (length s.memory) (memory_size γ) in
      let rest = and_elim_right least (most && size) h.0 in
      record {
        least = leb-true 1 g (and_elim_left least (most && size) h.0);
        most = leb-true g γ.most_groups (and_elim_left most size rest);
        size = eqb-true (length s.memory) (memory_size γ) (and_elim_right most size rest);
        disk = eqb-true (length s.disk) (disk_size γ g) h.1.0;
        salt_size_is = eqb-true (length salt) salt_size h.1.1.0;
      }

  -- ---- formatting

  module _ (s : Box) (g : ℕ) (salt : List ℕ) where
    -- the box that an accepted one leaves
    formatted_box : Box
    formatted_box = box_of (formatted_memory γ g salt) (stored γ s.disk (blank_pages γ g))

    first : ℕ
    first = first_no (format_questions γ s g salt)

    format_accepted : first ≡ 0 → format γ s g salt ≡ record { number = 0; box = formatted_box }
    unfolding format first formatted_box
    format_accepted e = rw (format, eq-eqb (first_no (format_questions γ s g salt)) 0 e)

    format_refused : (first ≡ 0 → ⊥) → format γ s g salt ≡ record { number = first; box = s }
    unfolding format first
    format_refused e = rw (format, ne_eqb (first_no (format_questions γ s g salt)) 0 e)

    -- the same, from the parts that the code leaves
    pub formatting_accepted : (m d : List ℕ) → first_no (format_questions γ s g salt) ≡ 0 → m ≡ formatted_memory γ g salt
        → d ≡ stored γ s.disk (blank_pages γ g) → format_outcome_of 0 m d ≡ format γ s g salt
    unfolding first formatted_box
    formatting_accepted m d e em ed =
        ap₂ (λ (x y : List ℕ). format_outcome_of 0 x y) em ed ∙ sym (format_accepted e)

    pub formatting_refused : (n : ℕ) → n ≡ first_no (format_questions γ s g salt) → (n ≡ 0 → ⊥)
        → format_outcome_of n s.memory s.disk ≡ format γ s g salt
    unfolding first
    formatting_refused n e h =
        ap (λ (i : ℕ). format_outcome_of i s.memory s.disk) e ∙ sym (format_refused (λ z. h (e ∙ z)))

    format_number : (format γ s g salt).number ≡ first
    format_number =
        same_or_not first 0 (λ e. ap (λ (o : FormatOutcome). o.number) (format_accepted e) ∙ sym e)
        (λ e. ap (λ (o : FormatOutcome). o.number) (format_refused e))

    -- what holds of the box and of the formatted one holds of the box after
    after_format : (P : Box → Type 0) → P s → (Formattable γ s g salt → P formatted_box) → P (format γ s g salt).box
    unfolding first
    after_format P same new =
        same_or_not first 0 (λ e. subst (λ (o : FormatOutcome). P o.box) (sym (format_accepted e)) (new (formattable s g salt e)))
        (λ e. subst (λ (o : FormatOutcome). P o.box) (sym (format_refused e)) same)

    when_accepted : (P : Box → Type 0) → (Formattable γ s g salt → P formatted_box) → (format γ s g salt).number ≡ 0 → P (format γ s g salt).box
    unfolding first
    when_accepted P new z =
        let e = sym format_number ∙ z in
        subst (λ (o : FormatOutcome). P o.box) (sym (format_accepted e)) (new (formattable s g salt e))

    box_valid : Formattable γ s g salt → ValidBox γ formatted_box
    unfolding formatted_box
    box_valid f =
        let r = formatted_reads σ g salt (omega (arith, f.most)) f.salt_size_is in
        record {
          memory = valid_formatted σ g salt f.least f.most f.salt_size_is;
          disk =
              stored_length σ g s.disk (blank_pages γ g) (each_blank (Whole γ g) g (blank_whole g)) f.disk ∙ ap (disk_size γ) (sym r.groups);
        }

    box_blank : Formattable γ s g salt → (a : ℕ) → a < data_blocks γ g → entry_at (current_page γ formatted_box (group_of γ a)) (place_of γ a) ≡ blank_entry
    unfolding formatted_box
    box_blank f a h =
        let r = formatted_reads σ g salt (omega (arith, f.most)) f.salt_size_is in
        let below = group_of_below σ g a h in
        ap (λ (p : List ℕ). entry_at p (place_of γ a))
        (current_other σ formatted_box (group_of γ a) (λ e. omega (arith, e, r.held, f.most))
        ∙ blank_after g g s.disk (omega arith) f.disk (group_of γ a) below)
        ∙ blank_page_at σ (place_of γ a) (place_of_below σ a)

    box_untouched : Formattable γ s g salt → (a : ℕ) → block γ formatted_box.disk (physical γ a) ≡ block γ s.disk (physical γ a)
    unfolding formatted_box
    box_untouched f a =
        untouched σ g (physical γ a) s.disk (blank_pages γ g)
        (each_blank (Elsewhere γ g (physical γ a)) g (λ h l. record { whole = blank_whole g h l; other = physical_page σ a h })) f.disk

    box_bytes : ByteBox s → AreBytes salt → ByteBox formatted_box
    unfolding formatted_box
    box_bytes b t =
        record {
          memory = formatted_bytes σ g salt t;
          disk = stored_are σ s.disk (blank_pages γ g) (each_blank ByteStore g (λ h l. blank_page_are σ)) b.disk;
        }

    pub formats : Formats γ s g salt
    unfolding first formatted_box
    formats =
        record {
          number = format_number;
          refused = λ n. ap (λ (o : FormatOutcome). o.box) (format_refused (λ e. n (format_number ∙ e)));
          valid = when_accepted (ValidBox γ) box_valid;
          reads =
              when_accepted (λ (t : Box). Reads γ t.memory salt (λ k. 0) 0 g none 0 (repeated (page_size γ) 0))
              (λ f. formatted_reads σ g salt (omega (arith, f.most)) f.salt_size_is);
          blank = λ z a h. when_accepted (λ (t : Box). entry_at (current_page γ t (group_of γ a)) (place_of γ a) ≡ blank_entry) (λ f. box_blank f a h) z;
          untouched =
              λ a. after_format (λ (t : Box). block γ t.disk (physical γ a) ≡ block γ s.disk (physical γ a)) refl (λ f. box_untouched f a);
          bytes = λ b t. after_format ByteBox b (λ f. box_bytes b t);
        }
