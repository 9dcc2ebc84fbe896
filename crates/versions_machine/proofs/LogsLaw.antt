-- The log's blocks beside the newest versions: chained, and no version's block. The orders of a put and of a log block keep them so.
-- Assumes nothing.
use mathlib.Core.Path.{◌≡◌, refl, ap, sym, subst, ◌∙◌}
use mathlib.Core.List.{List, [], ◌∷◌, ◌++◌, append-nil}
use Rattle.std.specs.Prelude.{Option, Some, None}
use Rattle.std.proofs.lemmas.Option.{same_Some}
use Prim.Native.Nat.{ℕ}
use Rattle.lockpage.specs.Geometry.{Geometry, Proper}
use Rattle.machine.specs.Command.{Box}
use Rattle.machine.specs.Step.{step}
use Rattle.machine.proofs.CaseLaw.{same_or_not}
use Rattle.machine.proofs.StepLaw.{accepts}
use Rattle.versions_machine.specs.Versions.{Range, Versions, replaced_by}
use Rattle.versions_machine.specs.Log.{log_block}
use Rattle.versions_machine.specs.Allocation.{next_for}
use Rattle.versions_machine.specs.Plan.{Order, Carried, writing, unfreezing, unfreezes, given, carried_out, log_plan, version_orders}
use Rattle.versions_machine.specs.History.{Locked, locked_of, Link, link_of, NotIn, Chained}
use Rattle.versions_machine.proofs.HoldsLaw.{other_holds, write_other, write_holds}
use Rattle.versions_machine.proofs.CarryLaw.{carried_on, carried_first, carried_rest}
use Rattle.versions_machine.proofs.SoundLaw.{with_content, newest_own, newest_other, Sound, written, unfrozen}
use Rattle.versions_machine.proofs.ChainLaw.{not_in_end, chain_but, chain_end, write_not_in, write_chain}

module _ {γ : Geometry} (σ : Proper γ) where
  pub record Logs (R : ℕ) (newest : ℕ → Option ℕ) (ls : List Link) (end : ℕ) (s : Box) : Type 0 where
    pub chained : Chained γ R s ls end
    pub apart : (p b : ℕ) → newest p ≡ Some b → NotIn b ls

  pub own_logs : (ν : Versions) (s : Box) (part block now : ℕ) (content : List ℕ) (ls : List Link) (end : ℕ)
      → (carried_out γ s (version_orders γ ν part block now content)).number ≡ 0 → Logs ν.lock ν.newest ls end s
      → Logs ν.lock (replaced_by ν.newest part block) ls end (carried_out γ s (version_orders γ ν part block now content)).box
  unfolding version_orders unfreezes carried_out
  own_logs ν s part block now content ls end c h =
      let o = writing block now ν.lock content in
      let a = carried_first γ s o (unfreezes (ν.newest part) now) c in
      record {
        chained = go (ν.newest part) refl c;
        apart =
            λ p b e.
            same_or_not p part
            (λ d.
            subst (λ (x : ℕ). NotIn x ls)
            (same_Some block b (sym (ap (replaced_by ν.newest part block) d ∙ newest_own ν.newest part block) ∙ e))
            (write_not_in σ ν.lock ν.lock s block now content a ls end h.chained))
            (λ d. h.apart p b (sym (newest_other ν.newest part block p d) ∙ e));
      }
    where
      go : (x : Option ℕ) → ν.newest part ≡ x → (carried_out γ s (writing block now ν.lock content ∷ unfreezes x now)).number ≡ 0
          → Chained γ ν.lock (carried_out γ s (writing block now ν.lock content ∷ unfreezes x now)).box ls end
      go None e c =
          let o = writing block now ν.lock content in
          let a = carried_first γ s o [] c in
          subst (λ (x : Carried). Chained γ ν.lock x.box ls end) (sym (carried_on γ s o [] a))
          (write_chain σ ν.lock ν.lock s block now content a ls end h.chained)
      go (Some old) e c =
          let o = writing block now ν.lock content in
          let u = unfreezing old now in
          let a = carried_first γ s o (u ∷ []) c in
          let t = (step γ s (given γ s o)).box in
          let b = carried_first γ t u [] (carried_rest γ s o (u ∷ []) c) in
          subst (λ (x : Carried). Chained γ ν.lock x.box ls end) (sym (carried_on γ s o (u ∷ []) a ∙ carried_on γ t u [] b))
          (chain_but σ ν.lock t (step γ t (given γ t u)).box old (other_holds σ t u (accepts σ t (given γ t u) b)) ls end (h.apart part old e)
          (write_chain σ ν.lock ν.lock s block now content a ls end h.chained))

  pub own_sound : (ν : Versions) (s : Box) (part block now : ℕ) (content : List ℕ) (contents : ℕ → Locked)
      → (carried_out γ s (version_orders γ ν part block now content)).number ≡ 0 → Sound σ ν.newest contents s
      → Sound σ (replaced_by ν.newest part block) (with_content contents part (locked_of content ν.lock now))
      (carried_out γ s (version_orders γ ν part block now content)).box
  unfolding version_orders carried_out
  own_sound ν s part block now content contents c h =
      let o = writing block now ν.lock content in
      let rest = unfreezes (ν.newest part) now in
      let a = carried_first γ s o rest c in
      let s1 = (step γ s (given γ s o)).box in
      let none_left = append-nil rest in
      let u =
      unfrozen σ ν.newest contents part block now (locked_of content ν.lock now) s1 [] (ν.newest part) refl
      (written σ ν.newest contents s block now ν.lock content a h)
      (ap (λ (os : List Order). (carried_out γ s1 os).number) none_left ∙ carried_rest γ s o rest c) in
      subst (λ (x : Carried). Sound σ (replaced_by ν.newest part block) (with_content contents part (locked_of content ν.lock now)) x.box)
      (sym (carried_on γ s o rest a ∙ ap (carried_out γ s1) (sym none_left) ∙ u.1.0)) u.1.1

  pub log_logs : (ρ : Range) (ν : Versions) (s t : Box) (now : ℕ) (contents : ℕ → Locked) (ls : List Link)
      → (carried_out γ t (log_plan γ ρ ν s now).orders).number ≡ 0 → Sound σ ν.newest contents t → Logs ν.lock ν.newest ls ν.reserve t
      → Logs ν.lock ν.newest (ls ++ (link_of ν.reserve ν.records now ∷ [])) (next_for γ ρ s now ν)
      (carried_out γ t (log_plan γ ρ ν s now).orders).box
  unfolding log_plan carried_out
  log_logs ρ ν s t now contents ls c f h =
      let pointer = next_for γ ρ s now ν in
      let log = log_block γ ν.records pointer in
      let o = writing ν.reserve now ν.lock log in
      let a = carried_first γ t o [] c in
      let r = accepts σ t (given γ t o) a in
      let l = link_of ν.reserve ν.records now in
      subst (λ (x : Carried). Logs ν.lock ν.newest (ls ++ (l ∷ [])) pointer x.box) (sym (carried_on γ t o [] a))
      (record {
        chained =
            chain_end σ ν.lock (step γ t (given γ t o)).box ls l pointer
            (write_chain σ ν.lock ν.lock t ν.reserve now log a ls ν.reserve h.chained)
            (write_holds σ ν.lock t ν.reserve now log r);
        apart =
            λ p b e.
            not_in_end b ls l (h.apart p b e) (write_other σ ν.lock t ν.reserve now log r b (contents p) (f.holds p b e));
      })
