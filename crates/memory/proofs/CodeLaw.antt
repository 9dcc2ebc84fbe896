-- What the code's loads and stores make of the memory, in the definitions' words. Assumes nothing.
use mathlib.Core.Path.{◌≡◌, ap, sym, ◌∙◌}
use mathlib.Core.List.{List}
use Prim.Native.Nat.{ℕ}
use lib.ListN.{length}
use Rattle.octets.specs.Part.{replaced, repeated}
use Rattle.octets.specs.Number.{with_number}
use Rattle.octets.proofs.RepeatedLaw.{repeated_length}
use Rattle.octets.proofs.ReplacedLaw.{replaced_all}
use Rattle.lockpage.specs.Geometry.{Geometry, Proper}
use Rattle.memory.specs.Layout.{memory_size, groups_start, held_start, byte_size}
use Rattle.memory.specs.Memory.{none, with_salt, with_groups, with_held, formatted_memory}

-- γ is any proper geometry
module _ {γ : Geometry} (σ : Proper γ) where
  -- the memory of formatting, stored field after field
  pub format_stored : (m a b c r : List ℕ) (g : ℕ) (s : List ℕ) → length m ≡ memory_size γ → a ≡ replaced m 0 (repeated (memory_size γ) 0)
      → b ≡ with_salt a s → c ≡ with_number b (groups_start γ) byte_size g → r ≡ with_number c (held_start γ) byte_size none → r ≡ formatted_memory γ g s
  unfolding formatted_memory with_groups with_held
  format_stored m a b c r g s size ea eb ec er =
      let zeros : a ≡ repeated (memory_size γ) 0 = ea ∙ replaced_all m (repeated (memory_size γ) 0) (repeated_length (memory_size γ) 0 ∙ sym size) in
      er
      ∙ ap (λ (x : List ℕ). with_number x (held_start γ) byte_size none)
      (ec ∙ ap (λ (x : List ℕ). with_number x (groups_start γ) byte_size g) (eb ∙ ap (λ (x : List ℕ). with_salt x s) zeros))
