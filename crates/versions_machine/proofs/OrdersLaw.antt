-- What orders leave that are carried out one after the other. Assumes nothing.
use mathlib.Core.Path.{◌≡◌, refl, ap, sym, subst, ◌∙◌}
use mathlib.Core.Bool.{Bool, true, false}
use mathlib.Core.List.{List, [], ◌∷◌, ◌++◌}
use Rattle.std.specs.Prelude.{Option, Some, None}
use Prim.Native.Nat.{ℕ, ◌<◌}
use native.Mathlib.Omega.{arith}
use borrow.Author.Tests.{ne_eqb}
use Rattle.lockpage.specs.Geometry.{Geometry, Proper}
use Rattle.lockpage.specs.declared.Entry.{Entry}
use Rattle.lockpage.specs.declared.State.TheVariants.{Free, Frozen}
use Rattle.lockpage.specs.declared.Update.{Update}
use Rattle.lockpage.specs.declared.Update.TheVariants.{Write, Unfreeze, Increment}
use Rattle.lockpage.specs.State.{state}
use Rattle.lockpage.proofs.StateLaw.{Says, says}
use Rattle.lockpage.proofs.UpdateLaw.{allowed_unfreeze}
use Rattle.addressing.specs.Map.{data_blocks, physical}
use Rattle.addressing.proofs.MapLaw.{group_of_below}
use Rattle.disk.specs.Disk.{block as diskBlock}
use Rattle.memory.specs.Memory.{last_time, groups}
use Rattle.machine.specs.declared.Kind.{Kind}
use Rattle.machine.specs.declared.Kind.TheVariants.{Change}
use Rattle.machine.specs.Command.{Box, Command, brought_entry}
use Rattle.machine.specs.Tag.{current_entry}
use Rattle.machine.specs.Question.{refusal}
use Rattle.machine.specs.Step.{step}
use Rattle.machine.specs.Claims.{ValidBox}
use Rattle.machine.specs.After.{content_after}
use Rattle.machine.proofs.StepLaw.{accepts}
use Rattle.machine.proofs.PassedLaw.{changes}
use Rattle.machine.proofs.ValidBoxLaw.{accepted_valid}
use Rattle.machine.proofs.AfterLaw.{accepted_after}
use Rattle.machine.proofs.CurrentLaw.{brought_current, entry_other}
use Rattle.versions_machine.specs.Versions.{Versions}
use Rattle.versions_machine.specs.Plan.{Order, Carried, writing, unfreezing, unfreezes, given, carried_out, version_orders}
use Rattle.versions_machine.specs.After.{SameContent}
use Rattle.versions_machine.specs.History.{Each}
use Rattle.versions_machine.proofs.HoldsLaw.{order_kind, order_yes, order_brings}
use Rattle.versions_machine.proofs.CarryLaw.{carried_on, carried_first, carried_rest}
use Rattle.versions_machine.proofs.ForesightLaw.{EachAt}

pub each_any : (os : List Order) → Each (λ (o : Order). Unit) os
each_any [] = tt
each_any (o ∷ os) = (tt, each_any os)

pub each_append : {A : Type 0} (P : A → Type 0) (xs ys : List A) → Each P xs → Each P ys → Each P (xs ++ ys)
each_append P [] ys h k = k
each_append P (x ∷ xs) ys h k = (h.0, each_append P xs ys h.1 k)

-- a is not the block that an order writes
abbrev pub NotWritten : ℕ → Update → ℕ → Type 0
NotWritten a (Write lock) b = a ≡ b → ⊥
NotWritten a Unfreeze b = Unit
NotWritten a (Increment value) b = Unit

module _ {γ : Geometry} (σ : Proper γ) where
  pub carried_append : (s : Box) (xs ys : List Order) → (carried_out γ s (xs ++ ys)).number ≡ 0
      → ((carried_out γ s xs).number ≡ 0) × (carried_out γ s (xs ++ ys) ≡ carried_out γ (carried_out γ s xs).box ys)
  unfolding carried_out
  carried_append s [] ys h = (refl, refl)
  carried_append s (o ∷ os) ys h =
      let a = carried_first γ s o (os ++ ys) h in
      let t = (step γ s (given γ s o)).box in
      let r = carried_append t os ys (carried_rest γ s o (os ++ ys) h) in (
        ap (λ (x : Carried). x.number) (carried_on γ s o os a) ∙ r.0,
        carried_on γ s o (os ++ ys) a
            ∙ r.1
            ∙ ap (λ (x : Carried). carried_out γ x.box ys) (sym (carried_on γ s o os a)),
      )

  -- what each accepted order of a list keeps, they all keep
  pub carried_keeps : (P : Box → Type 0) (Q : Order → Type 0)
      → ((s : Box) (o : Order) → refusal γ s (given γ s o) ≡ 0 → Q o → P s → P (step γ s (given γ s o)).box)
      → (s : Box) (os : List Order) → Each Q os → (carried_out γ s os).number ≡ 0 → P s → P (carried_out γ s os).box
  unfolding carried_out
  carried_keeps P Q f s [] q h p = p
  carried_keeps P Q f s (o ∷ os) q h p =
      let a = carried_first γ s o os h in
      subst (λ (x : Carried). P x.box) (sym (carried_on γ s o os a))
      (carried_keeps P Q f (step γ s (given γ s o)).box os q.1 (carried_rest γ s o os h) (f s o (accepts σ s (given γ s o) a) q.0 p))

  pub carried_groups : (s : Box) (os : List Order) → (carried_out γ s os).number ≡ 0 → groups γ (carried_out γ s os).box.memory ≡ groups γ s.memory
  carried_groups s os h =
      carried_keeps (λ (t : Box). groups γ t.memory ≡ groups γ s.memory) (λ (o : Order). Unit)
      (λ t o r x p. (accepted_after σ t (given γ t o) r).same_groups ∙ p) s os (each_any os) h refl

  not_written : (u : Update) (disk : List ℕ) (c : Command) (a : ℕ) → NotWritten a u c.block
      → content_after γ (Change u) disk c a ≡ diskBlock γ disk (physical γ a)
  not_written (Write lock) disk c a n =
      ap (λ (x : Bool). elim x [ true ↦ c.content | false ↦ diskBlock γ disk (physical γ a) ]) (ne_eqb c.block a (λ e. n (sym e)))
  not_written Unfreeze disk c a n = refl
  not_written (Increment value) disk c a n = refl

  order_content : (a : ℕ) (s : Box) (o : Order) → refusal γ s (given γ s o) ≡ 0 → NotWritten a o.update o.block
      → SameContent γ s (step γ s (given γ s o)).box a
  order_content a s o r n =
      let c = given γ s o in
      (accepted_after σ s c r).content a
      ∙ ap (λ (k : Kind). content_after γ k s.disk c a) (order_kind σ o.update)
      ∙ not_written o.update s.disk c a n

  pub carried_content : (a : ℕ) (s : Box) (os : List Order) → Each (λ (o : Order). NotWritten a o.update o.block) os → (carried_out γ s os).number ≡ 0
      → SameContent γ s (carried_out γ s os).box a
  carried_content a s os n h =
      carried_keeps (λ (t : Box). SameContent γ s t a) (λ (o : Order). NotWritten a o.update o.block)
      (λ t o r x p. order_content a t o r x ∙ p) s os n h refl

  each_time : (now : ℕ) (os : List Order) → EachAt σ now os → Each (λ (o : Order). o.now ≡ now) os
  each_time now [] h = tt
  each_time now (o ∷ os) h = (h.0, each_time now os h.1)

  -- valid, and timed, after one order or more
  pub carried_valid : (now : ℕ) (s : Box) (o : Order) (os : List Order) → EachAt σ now (o ∷ os) → (carried_out γ s (o ∷ os)).number ≡ 0
      → ValidBox γ (carried_out γ s (o ∷ os)).box × (last_time γ (carried_out γ s (o ∷ os)).box.memory ≡ now)
  carried_valid now s o os t h =
      let a = carried_first γ s o os h in
      let c = given γ s o in
      let r = accepts σ s c a in
      subst (λ (x : Carried). ValidBox γ x.box × (last_time γ x.box.memory ≡ now)) (sym (carried_on γ s o os a))
      (carried_keeps (λ (t : Box). ValidBox γ t × (last_time γ t.memory ≡ now)) (λ (o : Order). o.now ≡ now)
      (λ t o r e p. (accepted_valid σ t (given γ t o) r, (accepted_after σ t (given γ t o) r).time ∙ e))
      (step γ s c).box os (each_time now os t.1) (carried_rest γ s o os h) (accepted_valid σ s c r, (accepted_after σ s c r).time ∙ t.0))

  -- ---- the entries of blocks that were free and aren't written

  not_both : (now : ℕ) (e : Entry) → state now e ≡ Free → state now e ≡ Frozen → ⊥
  not_both now e f g =
      let a : Says now e Free = subst (Says now e) f (says now e) in
      let b : Says now e Frozen = subst (Says now e) g (says now e) in
      omega (arith, a.0)

  pub order_entry : (s : Box) (o : Order) → refusal γ s (given γ s o) ≡ 0 → (k : ℕ) → k < data_blocks γ (groups γ s.memory) → (k ≡ o.block → ⊥)
      → current_entry γ (step γ s (given γ s o)).box k ≡ current_entry γ s k
  order_entry s o r k l n =
      entry_other σ o.update s (given γ s o) (order_kind σ o.update) r (order_brings σ s o r) k (group_of_below σ (groups γ s.memory) k l) n

  -- an unfreeze is of a frozen block
  unfrozen_other : (s : Box) (b now k : ℕ) → refusal γ s (given γ s (unfreezing b now)) ≡ 0 → state now (current_entry γ s k) ≡ Free → k ≡ b → ⊥
  unfrozen_other s b now k r f e =
      let o = unfreezing b now in
      let c = given γ s o in
      let frozen =
      ap (state now) (sym (brought_current σ Unfreeze s c (order_kind σ Unfreeze) r (order_brings σ s o r)))
      ∙ allowed_unfreeze (state now (brought_entry γ c)) (changes σ Unfreeze s c (order_yes σ s o r)).may in
      not_both now (current_entry γ s k) f (ap (λ (i : ℕ). state now (current_entry γ s i)) e ∙ frozen)

  pub own_entry : (ν : Versions) (s : Box) (part block now : ℕ) (content : List ℕ) → (carried_out γ s (version_orders γ ν part block now content)).number ≡ 0
      → (k : ℕ) → k < data_blocks γ (groups γ s.memory) → (k ≡ block → ⊥) → state now (current_entry γ s k) ≡ Free
      → current_entry γ (carried_out γ s (version_orders γ ν part block now content)).box k ≡ current_entry γ s k
  unfolding version_orders unfreezes carried_out
  own_entry ν s part block now content h k l n f = go (ν.newest part) h
    where
      go : (x : Option ℕ) → (carried_out γ s (writing block now ν.lock content ∷ unfreezes x now)).number ≡ 0
          → current_entry γ (carried_out γ s (writing block now ν.lock content ∷ unfreezes x now)).box k ≡ current_entry γ s k
      go None h =
          let o = writing block now ν.lock content in
          let a = carried_first γ s o [] h in
          ap (λ (x : Carried). current_entry γ x.box k) (carried_on γ s o [] a) ∙ order_entry s o (accepts σ s (given γ s o) a) k l n
      go (Some old) h =
          let o = writing block now ν.lock content in
          let u = unfreezing old now in
          let a = carried_first γ s o (u ∷ []) h in
          let r = accepts σ s (given γ s o) a in
          let t = (step γ s (given γ s o)).box in
          let first = order_entry s o r k l n in
          let b = carried_first γ t u [] (carried_rest γ s o (u ∷ []) h) in
          let q = accepts σ t (given γ t u) b in
          ap (λ (x : Carried). current_entry γ x.box k) (carried_on γ s o (u ∷ []) a ∙ carried_on γ t u [] b)
          ∙ order_entry t u q k (subst (λ (g : ℕ). k < data_blocks γ g) (sym (accepted_after σ s (given γ s o) r).same_groups) l)
          (unfrozen_other t old now k q (ap (state now) first ∙ f))
          ∙ first
