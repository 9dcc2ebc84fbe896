-- Laws of a step: it is the effect where no question refuses it, and changes nothing where one does; and of the padded answer. Assumes
-- nothing.
use mathlib.Core.Path.{◌≡◌, refl, ap, sym, subst, ◌∙◌}
use mathlib.Core.Logic.{◌⊎◌, inl, inr}
use mathlib.Core.List.{List, ◌++◌, append-nil}
use Prim.Native.Nat.{ℕ, ◌-◌, ◌≤◌}
use native.Mathlib.Omega.{arith}
use borrow.Author.Tests.{eq-eqb, ne_eqb}
use lib.Dec.{lit<}
use lib.ListN.{length, length-append}
use Rattle.octets.specs.Part.{AreBytes, repeated}
use Rattle.octets.proofs.BelowLaw.{below_append}
use Rattle.octets.proofs.RepeatedLaw.{repeated_length, repeated_below}
use Rattle.lockpage.specs.Geometry.{Geometry, Proper}
use Rattle.machine.specs.declared.Kind.{Kind}
use Rattle.machine.specs.Command.{Box, Command, Outcome, outcome_of, kind_of, answer_size}
use Rattle.machine.specs.Question.{refusal}
use Rattle.machine.specs.Effect.{Effect, stored, effect}
use Rattle.machine.specs.Step.{padded, timed, done, refused, step, Accepted}
use Rattle.machine.specs.Claims.{ByteBox, Unaltered, Stored, SameLengths, RefusedBy}
use Rattle.machine.proofs.CaseLaw.{same_or_not}

-- ---- what is unaltered

pub unaltered_bytes : (s t : Box) (old new : List ℕ) → Unaltered s t old new → ByteBox s → AreBytes old → Stored t new
unaltered_bytes s t old new h b a =
    record { box = subst ByteBox (sym h.box) b; answer = subst (λ (l : List ℕ). AreBytes l) (sym h.answer) a }

pub unaltered_lengths : (s t : Box) (old new : List ℕ) → Unaltered s t old new → SameLengths s t old new
unaltered_lengths s t old new h =
    record {
      memory = ap (λ (x : Box). length x.memory) h.box;
      disk = ap (λ (x : Box). length x.disk) h.box;
      answer = ap (λ (l : List ℕ). length l) h.answer;
    }

-- γ is any proper geometry
module _ {γ : Geometry} (σ : Proper γ) where
  step_refused : (s : Box) (c : Command) → (refusal γ s c ≡ 0 → ⊥) → step γ s c ≡ refused (refusal γ s c) s c
  unfolding step
  step_refused s c r = rw (step, ne_eqb (refusal γ s c) 0 r)

  pub step_accepted : (k : Kind) (s : Box) (c : Command) → kind_of c ≡ k → refusal γ s c ≡ 0
      → step γ s c ≡ done γ s.disk (effect γ k (timed γ s c.now) c)
  unfolding step
  step_accepted k s c e r =
      rw (step, eq-eqb (refusal γ s c) 0 r) (ap (λ (x : Kind). done γ s.disk (effect γ x (timed γ s c.now) c)) e)

  -- the number answered is that of the first no
  pub step_number : (s : Box) (c : Command) → (step γ s c).number ≡ refusal γ s c
  unfolding done refused
  step_number s c =
      same_or_not (refusal γ s c) 0
      (λ r. ap (λ (o : Outcome). o.number) (step_accepted (kind_of c) s c refl r) ∙ sym r)
      (λ n. ap (λ (o : Outcome). o.number) (step_refused s c n))

  -- so an accepted command is one that no question refuses
  pub accepts : (s : Box) (c : Command) → Accepted γ s c → refusal γ s c ≡ 0
  accepts s c a = sym (step_number s c) ∙ a

  pub refused_by_lem : (n : ℕ) (s : Box) (c : Command) → (1 ≤ refusal γ s c) × (refusal γ s c ≤ n) → RefusedBy γ n s c
  refused_by_lem n s c h = (omega (arith, h.0, step_number s c), omega (arith, h.1, step_number s c))

  pub refused_unaltered : (s : Box) (c : Command) → (refusal γ s c ≡ 0 → ⊥) → Unaltered s (step γ s c).box c.answer (step γ s c).answer
  unfolding refused
  refused_unaltered s c r =
      record {
        box = ap (λ (o : Outcome). o.box) (step_refused s c r);
        answer = ap (λ (o : Outcome). o.answer) (step_refused s c r);
      }

  -- a command is accepted, or leaves the box as it was
  pub accepted_or_same : (s : Box) (c : Command) → (refusal γ s c ≡ 0) ⊎ ((step γ s c).box ≡ s)
  accepted_or_same s c = same_or_not (refusal γ s c) 0 (λ r. inl r) (λ n. inr (refused_unaltered s c n).box)

  -- a refusal, from what the code leaves
  pub refused_of : (s : Box) (c : Command) (n : ℕ) → n ≡ refusal γ s c → (n ≡ 0 → ⊥)
      → outcome_of n s.memory s.disk c.answer ≡ step γ s c
  unfolding refused
  refused_of s c n e h =
      ap (λ (i : ℕ). outcome_of i s.memory s.disk c.answer) e ∙ sym (step_refused s c (λ z. h (e ∙ z)))

  -- an accepted command's outcome, from its parts
  pub outcome_of_lem : (disk : List ℕ) (e : Effect) (memory after answer : List ℕ) → memory ≡ e.memory → after ≡ stored γ disk e.stores
      → answer ≡ padded γ e.named → outcome_of 0 memory after answer ≡ done γ disk e
  unfolding done
  outcome_of_lem disk e memory after answer em ed ea =
      ap (λ (x : List ℕ). outcome_of 0 x after answer) em
      ∙ ap (λ (x : List ℕ). outcome_of 0 e.memory x answer) ed
      ∙ ap (λ (x : List ℕ). outcome_of 0 e.memory (stored γ disk e.stores) x) ea

  -- ---- the answer

  pub padded_length : (named : List ℕ) → length named ≤ answer_size γ → length (padded γ named) ≡ answer_size γ
  unfolding padded
  padded_length named l =
      length-append named (repeated (answer_size γ - length named) 0) ∙ omega (arith, repeated_length (answer_size γ - length named) 0)

  -- what fills the buffer is not padded
  pub padded_full : (named : List ℕ) → length named ≡ answer_size γ → padded γ named ≡ named
  unfolding padded repeated
  padded_full named l =
      let none_left : answer_size γ - length named ≡ 0 = omega arith in
      ap (λ (n : ℕ). named ++ repeated n 0) none_left ∙ append-nil named

  pub padded_are : (named : List ℕ) → AreBytes named → AreBytes (padded γ named)
  unfolding padded
  padded_are named b =
      below_append 256 named (repeated (answer_size γ - length named) 0) b (repeated_below 256 (answer_size γ - length named) 0 (lit< tt))
