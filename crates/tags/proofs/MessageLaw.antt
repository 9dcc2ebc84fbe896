-- The message of a tag as the code builds it, part after part, and the tag put behind its page. Assumes nothing.
use mathlib.Core.Path.{◌≡◌, ap, sym, ◌∙◌}
use mathlib.Core.List.{List, ◌++◌, append_assoc}
use Prim.Native.Nat.{ℕ, ◌+◌}
use native.Mathlib.Omega.{arith}
use lib.ListN.{length, length-append}
use Rattle.octets.specs.Part.{part, replaced}
use Rattle.octets.specs.Number.{bytes, with_number}
use Rattle.octets.proofs.ReplacedLaw.{replaced_all, replaced_next, replaced_end}
use Rattle.octets.proofs.NumberLaw.{bytes_length}
use Rattle.lockpage.specs.Geometry.{Geometry, Proper}
use Rattle.lockpage.specs.Size.{page_size}
use Rattle.memory.specs.Layout.{memory_size, salt_size, count_size}
use Rattle.memory.specs.Memory.{salt, count}
use Rattle.memory.proofs.FieldLaw.{salt_length}
use Rattle.machine.specs.Command.{tag_size, answer_size}
use Rattle.machine.specs.Tag.{group_number_size, message_size, tag_message, tag, tagged}
use Rattle.machine.proofs.TagLaw.{tag_length}

-- γ is any proper geometry
module _ {γ : Geometry} (σ : Proper γ) where
  pub message_built : (m page out a b c r : List ℕ) (g n : ℕ) → length m ≡ memory_size γ → length page ≡ page_size γ → length out ≡ message_size γ
      → a ≡ replaced out 0 (salt m) → b ≡ with_number a salt_size group_number_size g → n ≡ count m g
      → c ≡ with_number b (salt_size + group_number_size) count_size n
      → r ≡ replaced c (salt_size + group_number_size + count_size) page → r ≡ tag_message γ m g page
  unfolding with_number tag_message
  message_built m page out a b c r g n lm lp lo ea eb en ec er =
      let s = salt m in
      let x = bytes group_number_size g in
      let y = bytes count_size (count m g) in
      let ls : length s ≡ salt_size = salt_length σ m lm in
      let lx : length x ≡ group_number_size = bytes_length group_number_size g in
      let ly : length y ≡ count_size = bytes_length count_size (count m g) in
      let lsx : length (s ++ x) ≡ salt_size + group_number_size = length-append s x ∙ omega arith in
      let lsxy : length ((s ++ x) ++ y) ≡ salt_size + group_number_size + count_size = length-append (s ++ x) y ∙ omega arith in
      let second : b ≡ replaced out 0 (s ++ x) = replaced_next out a s x b salt_size ea (sym ls) (omega arith) eb in
      let third : c ≡ replaced out 0 ((s ++ x) ++ y) =
      replaced_next out b (s ++ x) y c (salt_size + group_number_size) second (sym lsx) (omega arith)
      (ec ∙ ap (λ (k : ℕ). replaced b (salt_size + group_number_size) (bytes count_size k)) en) in
      let last : r ≡ replaced out 0 (((s ++ x) ++ y) ++ page) =
      replaced_next out c ((s ++ x) ++ y) page r (salt_size + group_number_size + count_size) third (sym lsxy) (omega arith)
      er in
      last
      ∙ replaced_all out (((s ++ x) ++ y) ++ page) (length-append ((s ++ x) ++ y) page ∙ omega arith)
      ∙ append_assoc (s ++ x) y page
      ∙ append_assoc s x (y ++ page)

  -- the tag of the page at the front of an answer, copied behind it
  pub tag_stored : (m answer own r : List ℕ) (g : ℕ) → length answer ≡ answer_size γ → own ≡ tag γ m g (part answer 0 (page_size γ))
      → r ≡ replaced answer (page_size γ) own → r ≡ tagged γ m g (part answer 0 (page_size γ))
  unfolding tagged
  tag_stored m answer own r g l e er =
      let t = tag γ m g (part answer 0 (page_size γ)) in
      let size : length t ≡ tag_size = tag_length σ m g (part answer 0 (page_size γ)) in
      er
      ∙ ap (replaced answer (page_size γ)) e
      ∙ replaced_end answer (page_size γ) t (omega arith)
