-- What holds throughout a run. Assumes nothing.
use mathlib.Core.List.{List, [], ◌∷◌, ◌++◌}
use Rattle.lockpage.specs.Geometry.{Geometry, Proper}
use Rattle.machine.specs.Command.{Box}
use Rattle.machine.specs.Run.{Event, after, run, Throughout}

-- γ is any proper geometry
module _ {γ : Geometry} (σ : Proper γ) where
  pub both_throughout : (P Q : Box → Event → Type 0) (s : Box) (es : List Event) → Throughout γ P s es → Throughout γ Q s es
      → Throughout γ (λ s e. P s e × Q s e) s es
  both_throughout P Q s [] p q = tt
  both_throughout P Q s (e ∷ es) p q = ((p.0, q.0), both_throughout P Q (after γ s e) es p.1 q.1)

  -- the front of a run
  pub throughout_front : (P : Box → Event → Type 0) (s : Box) (xs ys : List Event) → Throughout γ P s (xs ++ ys) → Throughout γ P s xs
  throughout_front P s [] ys h = tt
  throughout_front P s (x ∷ xs) ys h = (h.0, throughout_front P (after γ s x) xs ys h.1)

  -- P, where an invariant I says it of each event, and each event that C holds of leaves I
  pub run_invariant : (I : Box → Type 0) (C P : Box → Event → Type 0) → ((s : Box) (e : Event) → I s → P s e)
      → ((s : Box) (e : Event) → C s e → I s → I (after γ s e)) → (s : Box) (es : List Event) → Throughout γ C s es → I s → Throughout γ P s es
  run_invariant I C P each next s [] c i = tt
  run_invariant I C P each next s (e ∷ es) c i = (each s e i, run_invariant I C P each next (after γ s e) es c.1 (next s e c.0 i))

  -- and the invariant holds at the end
  pub invariant_after : (I : Box → Type 0) (C : Box → Event → Type 0) → ((s : Box) (e : Event) → C s e → I s → I (after γ s e))
      → (s : Box) (es : List Event) → Throughout γ C s es → I s → I (run γ s es)
  invariant_after I C next s [] c i = i
  invariant_after I C next s (e ∷ es) c i = invariant_after I C next (after γ s e) es c.1 (next s e c.0 i)
