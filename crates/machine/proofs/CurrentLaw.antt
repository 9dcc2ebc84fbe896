-- What an accepted command leaves of a block's current entry. Assumes nothing.
use mathlib.Core.Path.{◌≡◌, refl, ap, sym, subst, ◌∙◌}
use mathlib.Core.Bool.{Bool, true, false}
use mathlib.Core.List.{List}
use Prim.Native.Nat.{ℕ, ◌<◌}
use native.Mathlib.Omega.{arith}
use borrow.Author.Tests.{eq-eqb, ne_eqb}
use lib.ListN.{length}
use Rattle.octets.specs.Part.{AreBytes}
use Rattle.lockpage.specs.Geometry.{Geometry, Proper}
use Rattle.lockpage.specs.Size.{page_size}
use Rattle.lockpage.specs.declared.Entry.{Entry as PageEntry}
use Rattle.lockpage.specs.declared.Update.{Update}
use Rattle.lockpage.specs.Entry.{EntryFits}
use Rattle.lockpage.specs.State.{state}
use Rattle.lockpage.specs.Update.{updated, allowed, within_limit}
use Rattle.lockpage.specs.Page.{entry_at, with_entry}
use Rattle.lockpage.proofs.UpdateLaw.{updated_fits}
use Rattle.lockpage.proofs.PageLaw.{entry_within, entry_at_fits, entry_at_same, entry_at_other}
use Rattle.addressing.specs.Map.{group_of, place_of}
use Rattle.addressing.proofs.MapLaw.{place_of_below, place_same}
use Rattle.memory.specs.Memory.{groups, held}
use Rattle.machine.specs.declared.Kind.{Kind}
use Rattle.machine.specs.declared.Kind.TheVariants.{Read, Entry, Page, Change, Sync, Restart, NewSalt, Identify, Unknown}
use Rattle.machine.specs.Command.{Box, Command, kind_of, brought_page, brought_entry}
use Rattle.machine.specs.Tag.{current_page, current_entry}
use Rattle.machine.specs.Question.{refusal}
use Rattle.machine.specs.Effect.{updated_page, changed_page}
use Rattle.machine.specs.Step.{step}
use Rattle.machine.specs.Run.{Given}
use Rattle.machine.specs.After.{page_after}
use Rattle.machine.specs.Protection.{Unforged}
use Rattle.machine.proofs.CaseLaw.{same_or_not}
use Rattle.machine.proofs.QuestionLaw.{all_yes, got_seventh, all_seven}
use Rattle.machine.proofs.TagLaw.{brought_length, brought_are, current_other}
use Rattle.machine.proofs.PassedLaw.{passed, changes}
use Rattle.machine.proofs.AfterLaw.{accepted_after, own_page}

-- γ is any proper geometry
module _ {γ : Geometry} (σ : Proper γ) where
  -- an entry is replaced on a page: block a's own by e, and another block's stays
  pub entry_replaced : (P : PageEntry → Type 0) (p : List ℕ) (a b : ℕ) (e : PageEntry) → length p ≡ page_size γ → P (entry_at p (place_of γ b))
      → (place_of γ a ≡ place_of γ b → EntryFits e × P e) → P (entry_at (with_entry p (place_of γ a) e) (place_of γ b))
  entry_replaced P p a b e l h own =
      let i = place_of γ a in
      let j = place_of γ b in
      let inside = entry_within σ p i l (place_of_below σ a) in
      same_or_not i j
      (λ here. subst (λ (k : ℕ). P (entry_at (with_entry p i e) k)) here (subst P (sym (entry_at_same p i e inside (own here).0)) (own here).1))
      (λ other. subst P (sym (entry_at_other p i e inside j (λ x. other (sym x)))) h)

  module _ (u : Update) (s : Box) (c : Command) (k : kind_of c ≡ Change u) (r : refusal γ s c ≡ 0) where
    -- an accepted update brings the current page, if the page is not forged
    pub brings_current : Unforged γ s (Given c) → brought_page γ c.proof ≡ current_page γ s (group_of γ c.block)
    brings_current f = f (got_seventh σ u s c k (all_seven σ u s c (all_yes σ (Change u) s c k r)))

    pub own_fits : AreBytes c.proof → EntryFits (updated u c.now (brought_entry γ c))
    own_fits bytes =
        let yes-all = all_yes σ (Change u) s c k r in
        updated_fits u c.now (brought_entry γ c) (passed σ (Change u) s c yes-all).early
        (entry_at_fits (brought_page γ c.proof) (place_of γ c.block) (brought_are σ c.proof bytes)) (changes σ u s c yes-all).within

    -- it leaves its own block the updated entry
    pub own_entry : EntryFits (updated u c.now (brought_entry γ c))
        → current_entry γ (step γ s c).box c.block ≡ updated u c.now (brought_entry γ c)
    unfolding updated_page
    own_entry fits =
        let p = brought_page γ c.proof in
        let i = place_of γ c.block in
        let size = brought_length σ c.proof (changes σ u s c (all_yes σ (Change u) s c k r)).proof in
        ap (λ (q : List ℕ). entry_at q i) (own_page σ u s c k r)
        ∙ entry_at_same p i (updated u c.now (brought_entry γ c)) (entry_within σ p i size (place_of_below σ c.block)) fits

  -- ---- what holds of block b's current entry

  module _ (P : PageEntry → Type 0) (b : ℕ) (s : Box) (c : Command) (r : refusal γ s c ≡ 0) (unforged : Unforged γ s (Given c))
      (of_box : group_of γ b < groups γ s.memory) (h : P (current_entry γ s b)) where
    -- what an update of block b makes of it
    abbrev pub Updates : Type 0
    Updates = (u : Update) → kind_of c ≡ Change u → c.block ≡ b → allowed u (state c.now (current_entry γ s b)) ≡ true
        → within_limit (updated u c.now (current_entry γ s b)) ≡ true
        → EntryFits (updated u c.now (current_entry γ s b)) × P (updated u c.now (current_entry γ s b))

    -- on the page that an update of the same group leaves
    changed_entry : (u : Update) → kind_of c ≡ Change u → Updates → group_of γ c.block ≡ group_of γ b → P (entry_at (changed_page γ u c) (place_of γ b))
    unfolding updated_page
    changed_entry u k own same =
        let x = changes σ u s c (all_yes σ (Change u) s c k r) in
        let p = brought_page γ c.proof in
        let brings = brings_current u s c k r unforged in
        entry_replaced P p c.block b (updated u c.now (brought_entry γ c)) (brought_length σ c.proof x.proof)
        (subst (λ (q : List ℕ). P (entry_at q (place_of γ b))) (sym (brings ∙ ap (current_page γ s) same)) h)
        (λ place.
        let here = place_same σ c.block b same place in
        let found : brought_entry γ c ≡ current_entry γ s b =
        ap (λ (q : List ℕ). entry_at q (place_of γ c.block)) brings ∙ ap (current_entry γ s) here in
        subst (λ (e : PageEntry). EntryFits (updated u c.now e) × P (updated u c.now e)) (sym found)
        (own u k here (subst (λ (e : PageEntry). allowed u (state c.now e) ≡ true) found x.may)
        (subst (λ (e : PageEntry). within_limit (updated u c.now e) ≡ true) found x.within)))

    -- it holds after the command, if it holds of what an update of the block makes, and no restart loses the block's page
    pub entry_after : Updates → (kind_of c ≡ Restart → held γ s.memory ≡ group_of γ b → ⊥) → P (current_entry γ (step γ s c).box b)
    entry_after own kept = on_page ((accepted_after σ s c r).page (group_of γ b) of_box) (by_kind (kind_of c) refl)
      where
        on_page : {p q : List ℕ} → p ≡ q → P (entry_at q (place_of γ b)) → P (entry_at p (place_of γ b))
        on_page e x = subst (λ (l : List ℕ). P (entry_at l (place_of γ b))) (sym e) x

        by_group : (u : Update) → kind_of c ≡ Change u → P (entry_at (page_after γ (Change u) s c (group_of γ b)) (place_of γ b))
        by_group u k =
            let chosen : Bool → List ℕ = λ x. elim x [ true ↦ changed_page γ u c | false ↦ current_page γ s (group_of γ b) ] in
            same_or_not (group_of γ c.block) (group_of γ b)
            (λ same. on_page (ap chosen (eq-eqb (group_of γ c.block) (group_of γ b) same)) (changed_entry u k own same))
            (λ other. on_page (ap chosen (ne_eqb (group_of γ c.block) (group_of γ b) other)) h)

        by_kind : (k : Kind) → kind_of c ≡ k → P (entry_at (page_after γ k s c (group_of γ b)) (place_of γ b))
        by_kind Read k = h
        by_kind Entry k = h
        by_kind Page k = h
        by_kind (Change u) k = by_group u k
        by_kind Sync k = h
        by_kind Restart k = on_page (sym (current_other σ s (group_of γ b) (kept k))) h
        by_kind NewSalt k = h
        by_kind Identify k = h
        by_kind Unknown k = h

  -- ---- an update that brings the current page

  module _ (u : Update) (s : Box) (c : Command) (k : kind_of c ≡ Change u) (r : refusal γ s c ≡ 0)
      (brings : brought_page γ c.proof ≡ current_page γ s (group_of γ c.block)) where
    -- what it brings is the block's current entry
    pub brought_current : brought_entry γ c ≡ current_entry γ s c.block
    brought_current = ap (λ (p : List ℕ). entry_at p (place_of γ c.block)) brings

    pub entry_own : EntryFits (updated u c.now (current_entry γ s c.block))
        → current_entry γ (step γ s c).box c.block ≡ updated u c.now (current_entry γ s c.block)
    entry_own fits =
        own_entry u s c k r (subst (λ (e : PageEntry). EntryFits (updated u c.now e)) (sym brought_current) fits)
        ∙ ap (updated u c.now) brought_current

    pub entry_other : (b : ℕ) → group_of γ b < groups γ s.memory → (b ≡ c.block → ⊥) → current_entry γ (step γ s c).box b ≡ current_entry γ s b
    entry_other b inside other =
        entry_after (λ (e : PageEntry). e ≡ current_entry γ s b) b s c r (λ yes. brings) inside refl (λ v kind same. absurd (other (sym same)))
        (λ kind. absurd (not_restart (sym k ∙ kind)))
      where
        not_restart : Change u ≡ Restart → ⊥
        not_restart e = let z : ◌≡◌ {A = ℕ} 0 1 = cc in omega arith
