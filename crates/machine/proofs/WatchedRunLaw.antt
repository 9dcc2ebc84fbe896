-- What is known of a block's content and of its entry on each page, through a run that brings no forged page. Assumes nothing.
use mathlib.Core.Path.{◌≡◌, refl, sym, subst, ◌∙◌}
use mathlib.Core.Logic.{⊎_elim}
use mathlib.Core.List.{List}
use Prim.Native.Nat.{ℕ, ◌<◌}
use native.Mathlib.Omega.{arith}
use Rattle.lockpage.specs.Geometry.{Geometry, Proper}
use Rattle.lockpage.specs.declared.Entry.{Entry as PageEntry}
use Rattle.lockpage.specs.declared.Update.{Update}
use Rattle.addressing.specs.Map.{data_blocks, group_of}
use Rattle.addressing.proofs.MapLaw.{group_of_below}
use Rattle.memory.specs.Memory.{groups}
use Rattle.validity.proofs.ValidLaw.{Valid}
use Rattle.machine.specs.declared.Kind.TheVariants.{Change}
use Rattle.machine.specs.Command.{Box, Command, Outcome, kind_of, brought_page}
use Rattle.machine.specs.Tag.{current_page, current_entry}
use Rattle.machine.specs.Question.{refusal}
use Rattle.machine.specs.Query.{Query, query_refusal, query_step}
use Rattle.machine.specs.Step.{step, timed, done}
use Rattle.machine.specs.Run.{Event, Given, Queried, after, run, Throughout}
use Rattle.machine.specs.Protection.{Unforged}
use Rattle.machine.proofs.QuestionLaw.{all_yes}
use Rattle.machine.proofs.StepLaw.{step_accepted, accepted_or_same}
use Rattle.machine.proofs.TagLaw.{current, current_same}
use Rattle.machine.proofs.PassedLaw.{passed, in_time, passed_timed, accepted_changes, timed_reads}
use Rattle.machine.proofs.QueryLaw.{query_passed, query_times, query_or_same}
use Rattle.machine.proofs.RunLaw.{both_throughout, invariant_after}
use Rattle.machine.proofs.CurrentLaw.{brings_current}
use Rattle.machine.proofs.WatchedLaw.{OnPage, Watched, Leaves, timed_watched, effect_watched}

-- γ is any proper geometry
module _ {γ : Geometry} (σ : Proper γ) (b : ℕ) (C : List ℕ → Type 0) (P : PageEntry → Type 0) where
  pub command_watched : (s : Box) (c : Command) → refusal γ s c ≡ 0 → Unforged γ s (Given c) → Leaves γ b C P (kind_of c) c → Watched γ b C P s
      → Watched γ b C P (step γ s c).box
  unfolding done timed
  command_watched s c r f a h =
      let k = kind_of c in
      let q = passed σ k s c (all_yes σ k s c refl r) in
      let t = timed γ s c.now in
      let known = in_time σ k s c q in
      let reads = timed_reads σ s c.now known in
      let brings : (u : Update) → k ≡ Change u → brought_page γ c.proof ≡ current_page γ t (group_of γ c.block) =
      λ u e. brings_current σ u s c e r f ∙ sym (current_same σ s t (group_of γ c.block) reads.held reads.page refl) in
      subst (λ (o : Outcome). Watched γ b C P o.box) (sym (step_accepted σ k s c refl r))
      (effect_watched σ b C P k t c (passed_timed σ k s c q) (accepted_changes σ k s c refl r) brings a (timed_watched σ b C P s c.now known h))

  -- what is known of its current entry
  pub current_watched : (s : Box) → Valid γ s.memory → b < data_blocks γ (groups γ s.memory) → Watched γ b C P s → P (current_entry γ s b)
  current_watched s v inside h =
      let g = group_of γ b in
      let below : g < groups γ s.memory = group_of_below σ (groups γ s.memory) b inside in
      current σ (OnPage γ b C P) s g (λ x. h.held (λ n. omega (arith, x, n, below, v.most)) x) h.disk.page

  pub query_watched : (s : Box) (q : Query) → query_refusal γ s q ≡ 0 → Watched γ b C P s → Watched γ b C P (query_step γ s q).box
  query_watched s q r h =
      subst (Watched γ b C P) (sym (query_times σ s q r)) (timed_watched σ b C P s q.now (query_passed σ s q r).timely h)

  -- a run whose accepted commands leave it so, each by what In says of it
  module _ (In : Box → Event → Type 0) (leaves : (s : Box) (c : Command) → In s (Given c) → refusal γ s c ≡ 0 → Leaves γ b C P (kind_of c) c) where
    event_watched : (s : Box) (e : Event) → Unforged γ s e × In s e → Watched γ b C P s → Watched γ b C P (after γ s e)
    event_watched s (Given c) i h =
        ⊎_elim (λ r. command_watched s c r i.0 (leaves s c i.1 r) h) (λ e. subst (Watched γ b C P) (sym e) h) (accepted_or_same σ s c)
    event_watched s (Queried q) i h = ⊎_elim (λ r. query_watched s q r h) (λ e. subst (Watched γ b C P) (sym e) h) (query_or_same σ s q)

    pub run_watched : (s : Box) (es : List Event) → Throughout γ (Unforged γ) s es → Throughout γ In s es → Watched γ b C P s
        → Watched γ b C P (run γ s es)
    run_watched s es f i =
        invariant_after σ (Watched γ b C P) (λ s e. Unforged γ s e × In s e) event_watched s es (both_throughout σ (Unforged γ) In s es f i)
