-- Orders carried out one after the other, and a call that is accepted whole or alters nothing. Assumes nothing.
use mathlib.Core.Path.{◌≡◌, ap, sym, subst, ◌∙◌}
use mathlib.Core.Logic.{◌⊎◌, inl, inr, ⊎_elim}
use mathlib.Core.List.{List, ◌∷◌}
use Prim.Native.Nat.{ℕ}
use borrow.Author.Tests.{eq-eqb, ne_eqb}
use Rattle.lockpage.specs.Geometry.{Geometry}
use Rattle.machine.specs.Command.{Box}
use Rattle.machine.specs.Question.{Question, first_no}
use Rattle.machine.specs.Step.{Accepted, step}
use Rattle.machine.proofs.CaseLaw.{same_or_not}
use Rattle.versions_machine.specs.Versions.{Range, Versions}
use Rattle.versions_machine.specs.Plan.{Order, Plan, Carried, carried_of, given, carried_out, put_plan}
use Rattle.versions_machine.specs.Allocation.{next_for}
use Rattle.versions_machine.specs.Call.{Result, result_of, attempted, put_questions, put, flush_questions, flush_plan, flush}
use Rattle.versions_machine.specs.Claims.{Unaltered}

module _ (γ : Geometry) where
  pub carried_on : (s : Box) (o : Order) (os : List Order) → Accepted γ s (given γ s o)
      → carried_out γ s (o ∷ os) ≡ carried_out γ (step γ s (given γ s o)).box os
  unfolding carried_out
  carried_on s o os a = rw (carried_out, eq-eqb (step γ s (given γ s o)).number 0 a)

  pub carried_stops : (s : Box) (o : Order) (os : List Order) → (Accepted γ s (given γ s o) → ⊥)
      → carried_out γ s (o ∷ os) ≡ carried_of (step γ s (given γ s o)).number s
  unfolding carried_out
  carried_stops s o os n = rw (carried_out, ne_eqb (step γ s (given γ s o)).number 0 n)

  -- where all are accepted, the first is
  pub carried_first : (s : Box) (o : Order) (os : List Order) → (carried_out γ s (o ∷ os)).number ≡ 0 → Accepted γ s (given γ s o)
  carried_first s o os h =
      same_or_not (step γ s (given γ s o)).number 0 (λ a. a)
      (λ n. absurd (n (sym (ap (λ (x : Carried). x.number) (carried_stops s o os n)) ∙ h)))

  -- and the rest are
  pub carried_rest : (s : Box) (o : Order) (os : List Order) → (carried_out γ s (o ∷ os)).number ≡ 0
      → (carried_out γ (step γ s (given γ s o)).box os).number ≡ 0
  carried_rest s o os h = sym (ap (λ (x : Carried). x.number) (carried_on s o os (carried_first s o os h))) ∙ h

  module _ (qs : List Question) (block : ℕ) (plan : Plan) (ν : Versions) (s : Box) where
    -- an accepted call
    pub record Done : Type 0 where
      pub asked : first_no qs ≡ 0
      pub carried : (carried_out γ s plan.orders).number ≡ 0
      pub result : attempted γ qs block plan ν s ≡ result_of 0 block plan.after (carried_out γ s plan.orders).box

    -- a refused one
    pub record Left : Type 0 where
      pub refused : (attempted γ qs block plan ν s).number ≡ 0 → ⊥
      pub unaltered : Unaltered ν s (attempted γ qs block plan ν s)

    left : (n : ℕ) → (n ≡ 0 → ⊥) → attempted γ qs block plan ν s ≡ result_of n 0 ν s → Left
    left n h e =
        record {
          refused = λ z. h (sym (ap (λ (x : Result). x.number) e) ∙ z);
          unaltered =
              record {
                block = ap (λ (x : Result). x.block) e;
                versions = ap (λ (x : Result). x.versions) e;
                box = ap (λ (x : Result). x.box) e;
              };
        }

    pub done_or_left : Done ⊎ Left
    unfolding attempted
    done_or_left =
        let d = carried_out γ s plan.orders in
        same_or_not (first_no qs) 0
        (λ a.
        same_or_not d.number 0
        (λ b. inl (record { asked = a; carried = b; result = rw (attempted, eq-eqb (first_no qs) 0 a, eq-eqb d.number 0 b) }))
        (λ n. inr (left d.number n (rw (attempted, eq-eqb (first_no qs) 0 a, ne_eqb d.number 0 n)))))
        (λ n. inr (left (first_no qs) n (rw (attempted, ne_eqb (first_no qs) 0 n))))

    -- what holds of the state and the box before, and of those after where it is accepted, holds after
    pub either_way : (P : Versions → Box → Type 0) → (Done → P plan.after (carried_out γ s plan.orders).box) → P ν s
        → P (attempted γ qs block plan ν s).versions (attempted γ qs block plan ν s).box
    either_way P f h =
        ⊎_elim (λ d. subst (λ (x : Result). P x.versions x.box) (sym d.result) (f d))
        (λ l.
        subst (λ (n : Versions). P n (attempted γ qs block plan ν s).box) (sym l.unaltered.versions)
        (subst (P ν) (sym l.unaltered.box) h))
        done_or_left

    pub done_number : Done → (attempted γ qs block plan ν s).number ≡ 0
    done_number d = ap (λ (x : Result). x.number) d.result

    pub accepted_done : (attempted γ qs block plan ν s).number ≡ 0 → Done
    accepted_done a = ⊎_elim (λ d. d) (λ l. absurd (l.refused a)) done_or_left

    pub refused_left : ((attempted γ qs block plan ν s).number ≡ 0 → ⊥) → Left
    refused_left n = ⊎_elim (λ d. absurd (n (done_number d))) (λ l. l) done_or_left

    -- where its own questions have yes, the number is that of its commands
    pub carried_number : first_no qs ≡ 0 → (attempted γ qs block plan ν s).number ≡ (carried_out γ s plan.orders).number
    unfolding attempted
    carried_number a =
        let d = carried_out γ s plan.orders in
        same_or_not d.number 0
        (λ b. rw (attempted, eq-eqb (first_no qs) 0 a, eq-eqb d.number 0 b) (sym b))
        (λ n. rw (attempted, eq-eqb (first_no qs) 0 a, ne_eqb d.number 0 n))

    pub carried_result : first_no qs ≡ 0 → (carried_out γ s plan.orders).number ≡ 0
        → attempted γ qs block plan ν s ≡ result_of 0 block plan.after (carried_out γ s plan.orders).box
    carried_result a b = (accepted_done (carried_number a ∙ b)).result

    -- where one of them has no, it is that one's
    pub asked_number : (first_no qs ≡ 0 → ⊥) → (attempted γ qs block plan ν s).number ≡ first_no qs
    unfolding attempted
    asked_number n = rw (attempted, ne_eqb (first_no qs) 0 n)

  -- ---- a put and a store on demand that are refused

  pub put_unaltered : (ρ : Range) (ν : Versions) (s : Box) (part now : ℕ) (content : List ℕ) → ((put γ ρ ν s part now content).number ≡ 0 → ⊥)
      → Unaltered ν s (put γ ρ ν s part now content)
  unfolding put
  put_unaltered ρ ν s part now content n =
      (refused_left (put_questions γ ρ ν s part now) (next_for γ ρ s now ν) (put_plan γ ρ ν s part now content) ν s n).unaltered

  pub flush_unaltered : (ρ : Range) (ν : Versions) (s : Box) (now : ℕ) → ((flush γ ρ ν s now).number ≡ 0 → ⊥) → Unaltered ν s (flush γ ρ ν s now)
  unfolding flush
  flush_unaltered ρ ν s now n = (refused_left (flush_questions γ ρ ν s now) 0 (flush_plan γ ρ ν s now) ν s n).unaltered
