-- What a put and a store on demand answer, case by case, as the code goes. Assumes nothing.
use mathlib.Core.Path.{◌≡◌, refl, ap, sym, ◌∙◌}
use mathlib.Core.Bool.{Bool, true, false, not}
use mathlib.Mathlib.Data.Bool.Basic.{eq-true_of_not-eq-false'}
use mathlib.Core.List.{List, [], ◌∷◌}
use Prim.Native.Nat.{ℕ, ◌≤◌, ◌<◌}
use native.Mathlib.Omega.{arith}
use borrow.Author.Tests.{eq-eqb, le-leb, lt-leb, not-true}
use lib.Dec.{leb}
use lib.ListN.{length}
use Rattle.octets.specs.Part.{AreBytes}
use Rattle.lockpage.specs.Geometry.{Geometry, Proper}
use Rattle.machine.specs.Command.{Box}
use Rattle.machine.specs.Question.{Put}
use Rattle.machine.proofs.QuestionLaw.{says_no, passes_on}
use Rattle.versions_machine.specs.Versions.{Range}
use Rattle.versions_machine.specs.Allocation.{next_for}
use Rattle.versions_machine.specs.Call.{last_part, put, flush}
use Rattle.versions_machine.proofs.DoesLaw.{put_does}
use Rattle.versions_state.specs.State.{record_count, state_bytes, versions_in, is_valid}
use Rattle.versions_state.proofs.ValidLaw.{count_read, sound, read_back}
use Rattle.versions_bytes.specs.Call.{called_of, handed, refused_by, put_bytes, flush_bytes}
use Rattle.versions_steps.specs.Ready.{Leaves, Allocated, PutReady}
use Rattle.versions_steps.proofs.PutLaw.{handed_none, handed_all, put_invalid, put_refused, asked_box, asked_part, put_asked_no}
use Rattle.versions_steps.proofs.FlushLaw.{flush_empty, flush_asked_no}
use Rattle.versions_machine.proofs.CarryLaw.{flush_unaltered}

thirteen : ◌≡◌ {A = ℕ} 13 0 → ⊥
thirteen x = omega arith

module _ {γ : Geometry} (σ : Proper γ) (ρ : Range) (state : List ℕ) (s : Box) where
  same_call : (n m b : ℕ) → n ≡ m → b ≡ 0 → called_of n b state s ≡ refused_by γ m state s
  same_call n m b e z = ap (λ (k : ℕ). called_of k b state s) e ∙ ap (λ (k : ℕ). called_of m k state s) z

  -- ---- a put

  module _ (part now : ℕ) (content : List ℕ) where
    -- question 13 has no
    pub other_part : (n b : ℕ) → last_part < part → n ≡ 13 → b ≡ 0 → called_of n b state s ≡ put_bytes γ ρ state s part now content
    other_part n b l e z = same_call n 13 b e z ∙ sym (by_state (is_valid γ state) refl)
      where
        over : leb part last_part ≡ false
        over = lt-leb part last_part l

        by_state : (v : Bool) → is_valid γ state ≡ v → put_bytes γ ρ state s part now content ≡ refused_by γ 13 state s
        by_state true v =
            put_refused σ ρ state s part now content 13 v
            (put_asked_no σ ρ (versions_in state) s part now content 13 (asked_part σ ρ (versions_in state) s part now content over) thirteen) thirteen
        by_state false v =
            put_invalid σ ρ state s part now content v
            ∙ ap (λ (k : ℕ). refused_by γ k state s) (sym (says_no 13 (Put 13 (leb part last_part)) (Put 1 false ∷ []) false refl (sym over) refl))

    module _ (p : part ≤ last_part) (valid : Bool) (is_valid_is : valid ≡ is_valid γ state) where
      -- the state's question 1 has no
      pub no_state : (n b : ℕ) → not valid ≡ true → n ≡ 1 → b ≡ 0 → called_of n b state s ≡ put_bytes γ ρ state s part now content
      no_state n b f e z =
          same_call n 1 b e z
          ∙ ap (λ (k : ℕ). refused_by γ k state s)
          (says_no 1 (Put 1 false) [] false refl refl refl
          ∙ sym (passes_on (Put 13 (leb part last_part) ∷ []) (Put 1 false ∷ []) (le-leb part last_part p, tt)))
          ∙ sym (put_invalid σ ρ state s part now content (sym is_valid_is ∙ not-true valid f))

      module _ (yes : not valid ≡ false) where
        is_store : is_valid γ state ≡ true
        is_store = sym is_valid_is ∙ eq-true_of_not-eq-false' yes

        -- one of the box's has no
        pub no_box : (m block : ℕ) → Allocated γ ρ state s now m block → (m ≡ 0 → ⊥) → (n b : ℕ) → n ≡ m → b ≡ 0
            → called_of n b state s ≡ put_bytes γ ρ state s part now content
        no_box m block a d n b e z =
            same_call n m b e z
            ∙ sym (put_refused σ ρ state s part now content m is_store
            (put_asked_no σ ρ (versions_in state) s part now content m
            (asked_box σ ρ (versions_in state) s part now content p (sound γ state is_store) ∙ sym a.number_is) d) d)

        pub put_is_ready : (m block : ℕ) → Allocated γ ρ state s now m block → m ≡ 0 → PutReady γ ρ state s part block now
        put_is_ready m block a z =
            record {
              valid = is_store;
              asked = asked_box σ ρ (versions_in state) s part now content p (sound γ state is_store) ∙ sym a.number_is ∙ z;
              block_is = a.block_is z;
            }

        -- one of its commands' has no
        pub no_command : (m : ℕ) → m ≡ (put γ ρ (versions_in state) s part now content).number → (m ≡ 0 → ⊥) → (n b : ℕ) → n ≡ m → b ≡ 0
            → called_of n b state s ≡ put_bytes γ ρ state s part now content
        no_command m e d n b f z = same_call n m b f z ∙ sym (put_refused σ ρ state s part now content m is_store (sym e) d)

        -- it is stored
        pub put_stored : (m : ℕ) → m ≡ (put γ ρ (versions_in state) s part now content).number → m ≡ 0 → (block : ℕ)
            → block ≡ next_for γ ρ s now (versions_in state) → (after : List ℕ) (t : Box)
            → Leaves γ (put γ ρ (versions_in state) s part now content) after t
            → called_of 0 block after t ≡ put_bytes γ ρ state s part now content
        unfolding put_bytes handed
        put_stored m e z block is_Block after t h =
            let r = put γ ρ (versions_in state) s part now content in
            let a : r.number ≡ 0 = sym e ∙ z in
            rw (put_bytes, is_store, handed, eq-eqb r.number 0 a)
            (ap (λ (k : ℕ). called_of k block after t) (sym a)
            ∙ ap (λ (k : ℕ). called_of r.number k after t) (is_Block ∙ sym (put_does σ ρ (versions_in state) s part now content a).answered)
            ∙ ap (λ (l : List ℕ). called_of r.number r.block l t) h.state_is
            ∙ ap (λ (x : Box). called_of r.number r.block (state_bytes γ r.versions) x) h.box_is)

  -- ---- a store on demand

  module _ (now : ℕ) (valid : Bool) (is_valid_is : valid ≡ is_valid γ state) where
    pub flush_no_state : not valid ≡ true → called_of 1 0 state s ≡ flush_bytes γ ρ state s now
    unfolding flush_bytes
    flush_no_state f = rw (flush_bytes, sym is_valid_is ∙ not-true valid f)

    module _ (yes : not valid ≡ false) where
      is_state : is_valid γ state ≡ true
      is_state = sym is_valid_is ∙ eq-true_of_not-eq-false' yes

      pub flush_handed : flush_bytes γ ρ state s now ≡ handed γ state (flush γ ρ (versions_in state) s now)
      unfolding flush_bytes
      flush_handed = rw (flush_bytes, is_state)

      -- without records
      pub flush_nothing : AreBytes state → record_count state ≡ 0 → called_of 0 0 state s ≡ flush_bytes γ ρ state s now
      flush_nothing bytes z =
          let none = flush_empty σ ρ (versions_in state) s now (sound γ state is_state) (count_read γ state ∙ z) in
          ap (λ (l : List ℕ). called_of 0 0 l s) (read_back γ state bytes is_state)
          ∙ sym (handed_all σ state (flush γ ρ (versions_in state) s now) 0 (versions_in state) s none)
          ∙ sym flush_handed

      module _ (some : record_count state ≡ 0 → ⊥) where
        has_records : length (versions_in state).records ≡ 0 → ⊥
        has_records z = some (sym (count_read γ state) ∙ z)

        pub flush_no_box : (m block : ℕ) → Allocated γ ρ state s now m block → (m ≡ 0 → ⊥) → (k : ℕ) → k ≡ m
            → called_of k 0 state s ≡ flush_bytes γ ρ state s now
        flush_no_box m block a d k e =
            let number = flush_asked_no σ ρ (versions_in state) s now (sound γ state is_state) has_records m (sym a.number_is) d in
            ap (λ (i : ℕ). called_of i 0 state s) e
            ∙ sym (handed_none σ state s (flush γ ρ (versions_in state) s now) m number d
            (flush_unaltered γ ρ (versions_in state) s now (λ z. d (sym number ∙ z))))
            ∙ sym flush_handed
