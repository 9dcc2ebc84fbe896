-- What the code shows, in the definitions' words: the parts of an answer one after the other, and the
-- outcome of an effect that stores nothing. Assumes nothing.
use mathlib.Core.Path.{◌≡◌, refl, ap, sym, ◌∙◌}
use mathlib.Core.List.{List, [], ◌∷◌, ◌++◌, append_assoc}
use Prim.Native.Nat.{ℕ, ◌+◌, ◌-◌, ◌^◌, ◌<◌}
use native.Mathlib.Omega.{arith}
use lib.ListN.{length, drop, length-append}
use Rattle.octets.specs.Part.{part, replaced, repeated}
use Rattle.octets.specs.Number.{bytes, with_number}
use Rattle.octets.proofs.RepeatedLaw.{repeated_length}
use Rattle.octets.proofs.PartLaw.{part_first}
use Rattle.octets.proofs.NumberLaw.{bytes_length, with_number_byte}
use Rattle.octets.proofs.ReplacedLaw.{replaced_all, lent_filled, replaced_next}
use Rattle.lockpage.specs.Geometry.{Geometry, Proper}
use Rattle.lockpage.specs.Size.{block_size, entry_size, page_size}
use Rattle.lockpage.specs.declared.Entry.{Entry}
use Rattle.lockpage.specs.declared.State.{State}
use Rattle.lockpage.specs.Entry.{entry_bytes}
use Rattle.lockpage.specs.State.{state, state_number, time_left_size, time_left_bytes}
use Rattle.lockpage.specs.Page.{with_entry}
use Rattle.lockpage.proofs.PageLaw.{with_entry_first}
use Rattle.lockpage.proofs.EntryLaw.{entry_bytes_length}
use Rattle.lockpage.proofs.StateLaw.{time_left_bytes_length, state_number_byte}
use Rattle.addressing.specs.Map.{disk_size, data_blocks, physical}
use Rattle.addressing.proofs.MapLaw.{physical_below}
use Rattle.disk.specs.Disk.{block}
use Rattle.disk.proofs.DiskLaw.{block_length, block_within}
use Rattle.memory.specs.Layout.{memory_size, time_size}
use Rattle.memory.specs.Memory.{groups, with_last_time}
use Rattle.memory.proofs.FieldLaw.{time_set}
use Rattle.machine.specs.Command.{answer_size, box_of, outcome_of}
use Rattle.machine.specs.Tag.{tagged, current_page, current_entry}
use Rattle.machine.specs.Effect.{effect_of, stored, read, entry_answer, show_entry, show_page, identify_size, identify, state_place}
use Rattle.machine.specs.Step.{padded, timed, done, accepted}
use Rattle.machine.proofs.TagLaw.{tagged_length, current_length}
use Rattle.machine.proofs.StepLaw.{outcome_of_lem, padded_full}
use Rattle.answers.proofs.TailLaw.{tail_zeroed, named_stored}

-- γ is any proper geometry
module _ {γ : Geometry} (σ : Proper γ) where
  -- ---- the answer

  -- a page came back at its front, and its tag is put behind it
  pub page_answered : (m page out answer r : List ℕ) (g : ℕ) → length page ≡ page_size γ → out ≡ page
      → r ≡ tagged γ m g (part (out ++ drop (page_size γ) answer) 0 (page_size γ)) → r ≡ padded γ (tagged γ m g page)
  page_answered m page out answer r g l e er =
      er
      ∙ ap (tagged γ m g) (part_first out (drop (page_size γ) answer) (page_size γ) (ap length e ∙ l) ∙ e)
      ∙ sym (padded_full σ (tagged γ m g page) (tagged_length σ m g page l))

  -- an entry, the time left and the state, one after the other over zeros
  pub entry_answered : (answer z a b r : List ℕ) (now n : ℕ) (e : Entry) (s : State) → length answer ≡ answer_size γ
      → z ≡ replaced answer 0 (repeated (answer_size γ) 0) → a ≡ with_entry z 0 e → b ≡ replaced a entry_size (time_left_bytes now e)
      → s ≡ state now e → n ≡ state_number s → r ≡ with_number b state_place 1 n → r ≡ padded γ (entry_answer now e)
  unfolding entry_answer
  entry_answered answer z a b r now n e s l ez ea eb es en er =
      let x = entry_bytes e in
      let y = time_left_bytes now e in
      let k = state_number (state now e) in
      let lx : length x ≡ entry_size = entry_bytes_length e in
      let ly : length y ≡ time_left_size = time_left_bytes_length now e in
      let lxy : length (x ++ y) ≡ state_place = length-append x y ∙ omega arith in
      let number : n ≡ k = en ∙ ap state_number es in
      let small : n < 256 = omega (arith, number, state_number_byte (state now e)) in
      let zeros : z ≡ repeated (answer_size γ) 0 =
      ez ∙ replaced_all answer (repeated (answer_size γ) 0) (repeated_length (answer_size γ) 0 ∙ sym l) in
      let size : length z ≡ answer_size γ = ap length zeros ∙ repeated_length (answer_size γ) 0 in
      let second : b ≡ replaced z 0 (x ++ y) = replaced_next z a x y b entry_size (ea ∙ with_entry_first z e) (sym lx) (omega arith) eb in
      let third : r ≡ replaced z 0 ((x ++ y) ++ (k ∷ [])) =
      replaced_next z b (x ++ y) (k ∷ []) r state_place second (sym lxy) (omega arith)
      (er ∙ with_number_byte b state_place n small ∙ ap (λ (d : ℕ). replaced b state_place (d ∷ [])) number) in
      named_stored σ z ((x ++ y) ++ (k ∷ [])) r zeros third ∙ ap (padded γ) (append_assoc x y (k ∷ []))

  -- ---- outcomes

  -- an effect that stores nothing
  shown : (m disk memory named r : List ℕ) (now : ℕ) → memory ≡ with_last_time γ m now → r ≡ padded γ named
      → outcome_of 0 memory disk r ≡ done γ disk (effect_of [] (with_last_time γ m now) named)
  unfolding stored
  shown m disk memory named r now em er = outcome_of_lem σ disk (effect_of [] (with_last_time γ m now) named) memory disk r em refl er

  -- the last time is set first
  module _ (m disk memory : List ℕ) (now : ℕ) (em : memory ≡ with_last_time γ m now) where
    -- the block came back at the answer's front
    pub read_outcome : (answer out r : List ℕ) (a : ℕ) → length disk ≡ disk_size γ (groups γ m) → a < data_blocks γ (groups γ m)
        → length answer ≡ answer_size γ → out ≡ block γ disk (physical γ a)
        → r ≡ replaced (out ++ drop (block_size γ) answer) (block_size γ) (repeated (answer_size γ - block_size γ) 0)
        → outcome_of 0 memory disk r ≡ accepted γ (λ s. read γ s a) (box_of m disk) now
    unfolding read timed
    read_outcome answer out r a ld h la eo er =
        let b = block γ disk (physical γ a) in
        let size : length b ≡ block_size γ =
        block_length σ disk (physical γ a) (block_within σ disk (groups γ m) (physical γ a) ld (physical_below σ (groups γ m) a h)) in
        shown m disk memory b r now em
        (tail_zeroed σ answer (out ++ drop (block_size γ) answer) b r (block_size γ) la (sym size) (omega arith)
        (lent_filled answer b out 0 (block_size γ) size eo) er)

    pub entry_outcome : (r : List ℕ) (a : ℕ) (e : Entry) → e ≡ current_entry γ (box_of memory disk) a
        → r ≡ padded γ (entry_answer now e) → outcome_of 0 memory disk r ≡ accepted γ (λ s. show_entry γ s a now) (box_of m disk) now
    unfolding show_entry timed
    entry_outcome r a e ee er =
        shown m disk memory _ r now em
        (er
        ∙ ap (λ (x : Entry). padded γ (entry_answer now x))
        (ee ∙ ap (λ (x : List ℕ). current_entry γ (box_of x disk) a) em))

    pub page_outcome : (answer out r : List ℕ) (g : ℕ) → length m ≡ memory_size γ → now < 256 ^ time_size → length disk ≡ disk_size γ (groups γ m)
        → g < groups γ m → out ≡ current_page γ (box_of memory disk) g
        → r ≡ tagged γ memory g (part (out ++ drop (page_size γ) answer) 0 (page_size γ))
        → outcome_of 0 memory disk r ≡ accepted γ (λ s. show_page γ s g) (box_of m disk) now
    unfolding show_page timed
    page_outcome answer out r g lm small ld h eo er =
        let t = with_last_time γ m now in
        let reads = time_set σ m lm now small in
        let page = current_page γ (box_of t disk) g in
        let size : length page ≡ page_size γ =
        current_length σ (box_of t disk) g reads.size (ld ∙ ap (disk_size γ) (sym reads.groups)) (omega (arith, reads.groups)) in
        shown m disk memory (tagged γ t g page) r now em
        (page_answered t page out answer r g size (eo ∙ ap (λ (x : List ℕ). current_page γ (box_of x disk) g) em)
        (er ∙ ap (λ (x : List ℕ). tagged γ x g (part (out ++ drop (page_size γ) answer) 0 (page_size γ))) em))

    pub identify_outcome : (answer a b r : List ℕ) (g n : ℕ) → length answer ≡ answer_size γ → g ≡ groups γ memory
        → a ≡ with_number answer 0 identify_size g → n ≡ data_blocks γ g → b ≡ with_number a identify_size identify_size n
        → r ≡ replaced b (identify_size + identify_size) (repeated (answer_size γ - (identify_size + identify_size)) 0)
        → outcome_of 0 memory disk r ≡ accepted γ (identify γ) (box_of m disk) now
    unfolding identify timed with_number
    identify_outcome answer a b r g n l eg ea en eb er =
        let x = bytes identify_size g in
        let y = bytes identify_size (data_blocks γ g) in
        let lx : length x ≡ identify_size = bytes_length identify_size g in
        let ly : length y ≡ identify_size = bytes_length identify_size (data_blocks γ g) in
        let lxy : identify_size + identify_size ≡ length (x ++ y) = sym (length-append x y ∙ omega arith) in
        let second : b ≡ replaced answer 0 (x ++ y) =
        replaced_next answer a x y b identify_size ea (sym lx) (omega arith)
        (eb ∙ ap (λ (k : ℕ). replaced a identify_size (bytes identify_size k)) en) in
        shown m disk memory _ r now em
        (tail_zeroed σ answer b (x ++ y) r (identify_size + identify_size) l lxy (omega arith) second er
        ∙ ap (λ (k : ℕ). padded γ (bytes identify_size k ++ bytes identify_size (data_blocks γ k))) (eg ∙ ap (groups γ) em))
