-- The version store's calls, its state as bytes, answer the same in an old box and in that box with its memory migrated. Assumes nothing.
use mathlib.Core.Path.{◌≡◌, refl, ap, ap₂, ◌∙◌}
use mathlib.Core.Bool.{Bool, true, false}
use mathlib.Core.List.{List, [], ◌∷◌}
use Prim.Native.Nat.{ℕ}
use lib.Dec.{eqb, leb}
use Rattle.lockpage.specs.Geometry.{Geometry, Proper, widened}
use Rattle.validity.specs.Valid.{valid}
use Rattle.machine.specs.Command.{Box}
use Rattle.machine.specs.Question.{Put, first_no}
use Rattle.machine.proofs.CaseLaw.{true_or_false}
use Rattle.versions_machine.specs.Versions.{Range, block_number}
use Rattle.versions_machine.specs.Call.{Result, last_part}
use Rattle.versions_state.specs.State.{records_area, state_bytes, versions_in, is_valid}
use Rattle.versions_bytes.specs.Call.{Called, called_of, located_of, start_bytes, lookup, handed, refused_by, put_bytes, flush_bytes}
use Rattle.migration_machine.specs.Migrate.{Wider}
use Rattle.migration_machine.specs.Promise.{moved_box}
use Rattle.migration_machine.proofs.StoreLaw.{moved_result, put_moves, put_valid, flush_moves, flush_valid}
use Rattle.migration_machine.proofs.StateLaw.{Alike}

module _ (γ : Geometry) (n : ℕ) where
  -- what a call leaves, with its box migrated
  abbrev pub moved_called : Called → Called
  moved_called r = called_of r.number r.block r.state (moved_box γ n r.box)

  pub start_moves : (first : ℕ) (buffer : List ℕ) (lock : ℕ) → start_bytes (widened γ n) first buffer lock ≡ start_bytes γ first buffer lock
  unfolding start_bytes state_bytes records_area
  start_moves first buffer lock = refl

  pub lookup_moves : (state : List ℕ) (part : ℕ) → Alike γ n state → lookup (widened γ n) state part ≡ lookup γ state part
  unfolding lookup
  lookup_moves state part h =
      ap
      (λ (b : Bool).
      let k = first_no (Put 13 (leb part last_part) ∷ Put 1 b ∷ []) in
      elim (eqb k 0) [ true ↦ located_of 0 (block_number ((versions_in state).newest part)) | false ↦ located_of k 0 ])
      h

  handed_moves : (state : List ℕ) (r : Result) → handed (widened γ n) state (moved_result γ n r) ≡ moved_called (handed γ state r)
  unfolding handed state_bytes records_area
  handed_moves state r = refl

  -- a call of a store, and what its state refuses it by where that is not valid
  judged_moves : (state : List ℕ) (s : Box) (number : ℕ) (new : Called) (r : Result) → Alike γ n state
      → new ≡ handed (widened γ n) state (moved_result γ n r)
      → elim (is_valid (widened γ n) state) [ true ↦ new | false ↦ refused_by (widened γ n) number state (moved_box γ n s) ]
      ≡ moved_called (elim (is_valid γ state) [ true ↦ handed γ state r | false ↦ refused_by γ number state s ])
  judged_moves state s number new r h e =
      ap₂ (λ (b : Bool) (c : Called). elim b [ true ↦ c | false ↦ refused_by γ number state (moved_box γ n s) ]) h (e ∙ handed_moves state r)
      ∙ go (is_valid γ state)
    where
      go : (b : Bool) → elim b [ true ↦ moved_called (handed γ state r) | false ↦ refused_by γ number state (moved_box γ n s) ]
          ≡ moved_called (elim b [ true ↦ handed γ state r | false ↦ refused_by γ number state s ])
      go true = refl
      go false = refl

-- γ is the old box's geometry, and the new one has n groups at most
module _ {γ : Geometry} (σ : Proper γ) {n : ℕ} (ω : Wider γ n) (ρ : Range) (state : List ℕ) (s : Box) (v : valid γ s.memory ≡ true) where
  pub put_bytes_move : (part now : ℕ) (content : List ℕ) → Alike γ n state
      → put_bytes (widened γ n) ρ state (moved_box γ n s) part now content ≡ moved_called γ n (put_bytes γ ρ state s part now content)
  unfolding put_bytes
  put_bytes_move part now content h =
      judged_moves γ n state s (first_no (Put 13 (leb part last_part) ∷ Put 1 false ∷ [])) _ _ h
      (ap (handed (widened γ n) state) (put_moves σ ω ρ (versions_in state) s v part now content))

  pub flush_bytes_move : (now : ℕ) → Alike γ n state
      → flush_bytes (widened γ n) ρ state (moved_box γ n s) now ≡ moved_called γ n (flush_bytes γ ρ state s now)
  unfolding flush_bytes
  flush_bytes_move now h =
      judged_moves γ n state s 1 _ _ h (ap (handed (widened γ n) state) (flush_moves σ ω ρ (versions_in state) s v now))

-- they leave the memory valid; γ is any proper geometry
module _ {γ : Geometry} (σ : Proper γ) (ρ : Range) (state : List ℕ) (s : Box) (v : valid γ s.memory ≡ true) where
  pub put_bytes_valid : (part now : ℕ) (content : List ℕ) → valid γ (put_bytes γ ρ state s part now content).box.memory ≡ true
  unfolding put_bytes handed
  put_bytes_valid part now content =
      true_or_false (is_valid γ state)
      (λ e. rw (e, put_bytes) (put_valid σ ρ (versions_in state) s v part now content))
      (λ e. rw (e, put_bytes) v)

  pub flush_bytes_valid : (now : ℕ) → valid γ (flush_bytes γ ρ state s now).box.memory ≡ true
  unfolding flush_bytes handed
  flush_bytes_valid now =
      true_or_false (is_valid γ state)
      (λ e. rw (e, flush_bytes) (flush_valid σ ρ (versions_in state) s v now))
      (λ e. rw (e, flush_bytes) v)
