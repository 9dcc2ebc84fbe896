-- What a put and a store on demand leave, case by case, as the code goes. Assumes nothing.
use mathlib.Core.Path.{◌≡◌, ap, sym, ◌∙◌}
use mathlib.Core.Bool.{true, false}
use mathlib.Core.List.{List, [], ◌∷◌}
use Prim.Native.Nat.{ℕ, ◌≤◌}
use borrow.Author.Tests.{ne_eqb, le-leb}
use lib.Dec.{leb}
use Rattle.lockpage.specs.Geometry.{Geometry, Proper}
use Rattle.machine.specs.Command.{Box}
use Rattle.machine.specs.Question.{Put, first_no}
use Rattle.machine.proofs.QuestionLaw.{passes_on}
use Rattle.versions_machine.specs.Versions.{Range, Versions, entered}
use Rattle.versions_machine.specs.Log.{is_full, is_sound}
use Rattle.versions_machine.specs.Allocation.{next_for}
use Rattle.versions_machine.specs.Plan.{Plan, Carried, carried_out, log_plan, due_plan, version_orders, put_plan}
use Rattle.versions_machine.specs.Call.{Result, result_of, last_part, box_questions, put, put_questions}
use Rattle.versions_machine.specs.Claims.{Unaltered}
use Rattle.versions_machine.proofs.CarryLaw.{put_unaltered, accepted_done, asked_number}
use Rattle.versions_machine.proofs.OrdersLaw.{carried_append}
use Rattle.versions_machine.proofs.DoesLaw.{due_full, due_none}
use Rattle.versions_state.specs.State.{state_bytes, versions_in, is_valid}
use Rattle.versions_bytes.specs.Call.{called_of, handed, refused_by, put_bytes}

module _ {γ : Geometry} (σ : Proper γ) where
  -- ---- the bytes after a call

  pub handed_none : (state : List ℕ) (s : Box) (r : Result) (n : ℕ) → r.number ≡ n → (n ≡ 0 → ⊥) → Unaltered (versions_in state) s r
      → handed γ state r ≡ refused_by γ n state s
  unfolding handed
  handed_none state s r n e d u = rw (handed, e, u.block, u.box, ne_eqb n 0 d)

  pub handed_all : (state : List ℕ) (r : Result) (b : ℕ) (ν : Versions) (t : Box) → r ≡ result_of 0 b ν t
      → handed γ state r ≡ called_of 0 b (state_bytes γ ν) t
  unfolding handed
  handed_all state r b ν t e = ap (handed γ state) e

  module _ (ρ : Range) (state : List ℕ) (s : Box) where
    -- ---- a put

    module _ (part now : ℕ) (content : List ℕ) where
      pub put_invalid : is_valid γ state ≡ false
          → put_bytes γ ρ state s part now content ≡ refused_by γ (first_no (Put 13 (leb part last_part) ∷ Put 1 false ∷ [])) state s
      unfolding put_bytes
      put_invalid v = rw (put_bytes, v)

      pub put_refused : (n : ℕ) → is_valid γ state ≡ true → (put γ ρ (versions_in state) s part now content).number ≡ n → (n ≡ 0 → ⊥)
          → put_bytes γ ρ state s part now content ≡ refused_by γ n state s
      unfolding put_bytes
      put_refused n v e d =
          rw (put_bytes, v)
          (handed_none state s (put γ ρ (versions_in state) s part now content) n e d
          (put_unaltered γ ρ (versions_in state) s part now content (λ z. d (sym e ∙ z))))

      pub put_stored : (b : ℕ) (after : Versions) (t : Box) → is_valid γ state ≡ true → put γ ρ (versions_in state) s part now content ≡ result_of 0 b after t
          → put_bytes γ ρ state s part now content ≡ called_of 0 b (state_bytes γ after) t
      unfolding put_bytes
      put_stored b after t v e = rw (put_bytes, v) (handed_all state (put γ ρ (versions_in state) s part now content) b after t e)

  -- ---- what a store does

  module _ (ρ : Range) (ν : Versions) (s : Box) (part now : ℕ) (content : List ℕ) where
    -- question 13 and the state's own have yes
    pub asked_box : part ≤ last_part → is_sound γ ν ≡ true → first_no (put_questions γ ρ ν s part now) ≡ first_no (box_questions γ ρ ν s now)
    unfolding put_questions
    asked_box p h = passes_on (Put 13 (leb part last_part) ∷ Put 1 (is_sound γ ν) ∷ []) (box_questions γ ρ ν s now) (le-leb part last_part p, (h, tt))

    -- question 13 has no
    pub asked_part : leb part last_part ≡ false → first_no (put_questions γ ρ ν s part now) ≡ 13
    unfolding put_questions first_no
    asked_part h = rw (put_questions, first_no, h)

    pub put_asked_no : (n : ℕ) → first_no (put_questions γ ρ ν s part now) ≡ n → (n ≡ 0 → ⊥) → (put γ ρ ν s part now content).number ≡ n
    unfolding put
    put_asked_no n e d =
        asked_number γ (put_questions γ ρ ν s part now) (next_for γ ρ s now ν) (put_plan γ ρ ν s part now content) ν s (λ z. d (sym e ∙ z)) ∙ e

    -- ---- an accepted one, in its steps

    module _ (a : (put γ ρ ν s part now content).number ≡ 0) where
      abbrev pub v : ℕ
      v = next_for γ ρ s now ν

      abbrev pub own : Carried
      own = carried_out γ s (version_orders γ ν part v now content)

      abbrev pub due : Plan
      due = due_plan γ ρ (entered ν part v) own.box now

      -- the state and the box after it, and that the version's own commands and the log block's are accepted
      steps : (put γ ρ ν s part now content ≡ result_of 0 v due.after (carried_out γ own.box due.orders).box)
          × ((own.number ≡ 0) × ((carried_out γ own.box due.orders).number ≡ 0))
      unfolding put put_plan
      steps =
          let plan = put_plan γ ρ ν s part now content in
          let d = accepted_done γ (put_questions γ ρ ν s part now) v plan ν s a in
          let c = carried_append σ s (version_orders γ ν part v now content) due.orders d.carried in (
            d.result ∙ ap (λ (x : Carried). result_of 0 v due.after x.box) c.1,
            (c.0, ap (λ (x : Carried). x.number) (sym c.1) ∙ d.carried),
          )

      pub own_accepted : own.number ≡ 0
      own_accepted = steps.1.0

      -- its record fills no log block
      pub put_enters : is_full γ (entered ν part v) ≡ false → put γ ρ ν s part now content ≡ result_of 0 v (entered ν part v) own.box
      unfolding carried_out
      put_enters f =
          steps.0 ∙ ap (λ (p : Plan). result_of 0 v p.after (carried_out γ own.box p.orders).box) (due_none σ ρ (entered ν part v) own.box now f)

      -- its record fills one
      abbrev pub log : Plan
      log = log_plan γ ρ (entered ν part v) own.box now

      pub log_accepted : is_full γ (entered ν part v) ≡ true → (carried_out γ own.box log.orders).number ≡ 0
      log_accepted f = ap (λ (p : Plan). (carried_out γ own.box p.orders).number) (sym (due_full σ ρ (entered ν part v) own.box now f)) ∙ steps.1.1

      pub put_logs : is_full γ (entered ν part v) ≡ true
          → put γ ρ ν s part now content ≡ result_of 0 v log.after (carried_out γ own.box log.orders).box
      put_logs f =
          steps.0 ∙ ap (λ (p : Plan). result_of 0 v p.after (carried_out γ own.box p.orders).box) (due_full σ ρ (entered ν part v) own.box now f)
