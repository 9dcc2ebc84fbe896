-- What the code makes of a change, in the definitions' words: the page, the outcome. Assumes nothing.
use mathlib.Core.Path.{◌≡◌, ap, ap₂, sym, ◌∙◌}
use mathlib.Core.List.{List, ◌++◌}
use Prim.Native.Nat.{ℕ}
use lib.ListN.{length, drop}
use Rattle.octets.specs.Part.{part}
use Rattle.octets.proofs.PartLaw.{part_first}
use Rattle.lockpage.specs.Geometry.{Geometry, Proper}
use Rattle.lockpage.specs.Size.{page_size}
use Rattle.lockpage.specs.declared.Entry.{Entry}
use Rattle.lockpage.specs.declared.Update.{Update}
use Rattle.lockpage.specs.Page.{entry_at, with_entry}
use Rattle.lockpage.specs.Update.{updated}
use Rattle.addressing.specs.Map.{group_of, place_of}
use Rattle.memory.specs.Memory.{with_last_time}
use Rattle.machine.specs.Command.{brought_page, box_of, command_of, outcome_of}
use Rattle.machine.specs.Tag.{tagged}
use Rattle.machine.specs.Effect.{Store, stored, evict, put_content, put_leaving, updated_page, changed_memory, change}
use Rattle.machine.specs.Step.{timed, accepted}
use Rattle.machine.proofs.EffectLaw.{changed_length, stored_append}
use Rattle.machine.proofs.StepLaw.{outcome_of_lem}
use Rattle.answers.proofs.ShowLaw.{page_answered}
use Rattle.effects.specs.Ready.{MayChange}

-- γ is any proper geometry
module _ {γ : Geometry} (σ : Proper γ) where
  -- the page brought copied, its entry stored
  pub changed_stored : (u : Update) (n r proof : List ℕ) (a i now : ℕ) (e f : Entry)
      → e ≡ entry_at (brought_page γ proof) (place_of γ a) → n ≡ part proof 0 (page_size γ) → i ≡ place_of γ a → f ≡ updated u now e
      → r ≡ with_entry n i f → r ≡ updated_page γ u (brought_page γ proof) a now
  unfolding updated_page brought_page
  changed_stored u n r proof a i now e f ee en ei ef er =
      er
      ∙ ap₂ (λ (x : List ℕ) (j : ℕ). with_entry x j f) en ei
      ∙ ap (with_entry (part proof 0 (page_size γ)) (place_of γ a)) (ef ∙ ap (updated u now) ee)

  -- the outcome: the stores one after the other, the memory, and the answer with its tag. The page stands at the front of the answer
  pub change_outcome : (u : Update) (m disk content proof answer m1 d1 d2 page d3 m2 r : List ℕ) (a g now : ℕ) → MayChange γ u a now proof
      → g ≡ group_of γ a → m1 ≡ with_last_time γ m now → d1 ≡ stored γ disk (evict γ m1 g) → d2 ≡ stored γ d1 (put_content γ u a content)
      → page ≡ updated_page γ u (brought_page γ proof) a now
      → d3 ≡ stored γ d2 (put_leaving γ m1 g (part (page ++ drop (page_size γ) answer) 0 (page_size γ)))
      → m2 ≡ changed_memory γ m1 g (part (page ++ drop (page_size γ) answer) 0 (page_size γ))
      → r ≡ tagged γ m2 g (part (page ++ drop (page_size γ) answer) 0 (page_size γ))
      → outcome_of 0 m2 d3 r ≡ accepted γ (λ s. change γ u s (command_of 0 a now 0 content proof answer)) (box_of m disk) now
  unfolding change timed
  change_outcome u m disk content proof answer m1 d1 d2 page d3 m2 r a g now may eg em1 ed1 ed2 ep ed3 em2 er =
      let t = with_last_time γ m now in
      let b = group_of γ a in
      let p = updated_page γ u (brought_page γ proof) a now in
      let front : List ℕ = part (page ++ drop (page_size γ) answer) 0 (page_size γ) in
      let size : length p ≡ page_size γ = changed_length σ u (command_of 0 a now 0 content proof answer) may.proof_size_is in
      let seen : front ≡ p = part_first page (drop (page_size γ) answer) (page_size γ) (ap (λ (l : List ℕ). length l) ep ∙ size) ∙ ep in
      let last : m2 ≡ changed_memory γ t b p =
      em2
      ∙ ap₂ (λ (x : List ℕ) (k : ℕ). changed_memory γ x k front) em1 eg
      ∙ ap (changed_memory γ t b) seen in
      let leaving : put_leaving γ m1 g front ≡ put_leaving γ t b p =
      ap₂ (λ (x : List ℕ) (k : ℕ). put_leaving γ x k front) em1 eg ∙ ap (put_leaving γ t b) seen in
      let filled : d2 ≡ stored γ (stored γ disk (evict γ t b)) (put_content γ u a content) =
      ed2 ∙ ap (λ (x : List ℕ). stored γ x (put_content γ u a content)) (ed1 ∙ ap₂ (λ (x : List ℕ) (k : ℕ). stored γ disk (evict γ x k)) em1 eg) in
      outcome_of_lem σ disk (change γ u (timed γ (box_of m disk) now) (command_of 0 a now 0 content proof answer)) m2 d3 r last
      (ed3
      ∙ ap₂ (λ (x : List ℕ) (xs : List Store). stored γ x xs) filled leaving
      ∙ sym (stored_append σ (stored γ disk (evict γ t b)) (put_content γ u a content) (put_leaving γ t b p))
      ∙ sym (stored_append σ disk (evict γ t b) (put_content γ u a content ++ put_leaving γ t b p)))
      (page_answered σ (changed_memory γ t b p) p page answer r b size ep
      (er ∙ ap₂ (λ (x : List ℕ) (k : ℕ). tagged γ x k front) last eg))
