-- An old memory laid out as a present one, in two pieces stored into zeros. Assumes nothing.
use mathlib.Core.Path.{◌≡◌, ap, ap₂, sym, ◌∙◌}
use mathlib.Core.List.{List, ◌++◌}
use Prim.Native.Nat.{ℕ, ◌+◌, ◌-◌}
use native.Mathlib.Omega.{arith}
use lib.ListN.{length}
use Rattle.octets.specs.Part.{part, replaced, repeated}
use Rattle.octets.proofs.PartLaw.{part_length}
use Rattle.octets.proofs.RepeatedLaw.{repeated_length, repeated_add}
use Rattle.octets.proofs.ReplacedLaw.{replaced_front, replaced_back, replaced_all}
use Rattle.lockpage.specs.Geometry.{Geometry, Proper, widened}
use Rattle.memory.specs.Layout.{memory_size, time_start}
use Rattle.migration_machine.specs.Migrate.{Wider, migrated}
use Rattle.migration_machine.proofs.FieldLaw.{migrated_cut}

-- γ is the old box's geometry, and the new one is wider
module _ {γ : Geometry} (σ : Proper γ) {n : ℕ} (ω : Wider γ n) where
  -- the sizes of the two pieces, and of the zeros between them
  abbrev front : ℕ
  front = time_start γ

  abbrev back : ℕ
  back = memory_size (widened γ n) - time_start (widened γ n)

  abbrev between : ℕ
  between = time_start (widened γ n) - time_start γ

  module _ (old : List ℕ) (l : length old ≡ memory_size γ) where
    abbrev first : List ℕ
    first = part old 0 front

    abbrev second : List ℕ
    second = part old front back

    pub laid_out : (new one two : List ℕ) → new ≡ repeated (memory_size (widened γ n)) 0 → one ≡ replaced new 0 first
        → two ≡ replaced one (time_start (widened γ n)) second → two ≡ migrated γ n old
    laid_out new one two zeros e f =
        let long : length first ≡ front = part_length old 0 front (omega arith) in
        let rest : length second ≡ back = part_length old front back (omega arith) in
        let gap = repeated_length between 0 in
        let tail = repeated_length back 0 in
        let pieces : new ≡ repeated front 0 ++ (repeated between 0 ++ repeated back 0) =
        zeros
        ∙ ap (λ (k : ℕ). repeated k 0) (omega (arith, ω.more))
        ∙ repeated_add front (between + back) 0
        ∙ ap (λ (x : List ℕ). repeated front 0 ++ x) (repeated_add between back 0) in
        let begun : one ≡ first ++ (repeated between 0 ++ repeated back 0) =
        e
        ∙ ap (λ (x : List ℕ). replaced x 0 first) pieces
        ∙ replaced_back (repeated front 0) (repeated between 0 ++ repeated back 0) 0 first (omega (arith, repeated_length front 0))
        ∙ ap (λ (x : List ℕ). x ++ (repeated between 0 ++ repeated back 0))
        (replaced_all (repeated front 0) first (long ∙ sym (repeated_length front 0))) in
        f
        ∙ ap₂ (λ (x : List ℕ) (k : ℕ). replaced x k second) begun (omega (arith, ω.more))
        ∙ replaced_front first (repeated between 0 ++ repeated back 0) (length (repeated between 0) + 0) second
        ∙ ap (λ (x : List ℕ). first ++ x)
        (replaced_front (repeated between 0) (repeated back 0) 0 second
        ∙ ap (λ (x : List ℕ). repeated between 0 ++ x) (replaced_all (repeated back 0) second (rest ∙ sym tail)))
        ∙ ap (λ (k : ℕ). first ++ (repeated between 0 ++ part old front k)) (omega arith)
        ∙ sym (migrated_cut σ ω old l)
