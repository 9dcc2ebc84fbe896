-- The outcome of a query, from what the code leaves. Assumes nothing.
use mathlib.Core.Path.{◌≡◌, ap, sym, subst, ◌∙◌}
use mathlib.Core.List.{List}
use Prim.Native.Nat.{ℕ}
use native.Mathlib.Omega.{arith}
use borrow.Author.Tests.{ltb-true}
use lib.ListN.{length}
use Rattle.lockpage.specs.Geometry.{Geometry, Proper}
use Rattle.addressing.specs.Map.{data_blocks, group_of}
use Rattle.addressing.proofs.MapLaw.{group_of_below}
use Rattle.memory.specs.Layout.{memory_size}
use Rattle.memory.specs.Memory.{groups, with_last_time}
use Rattle.machine.specs.declared.Refusal.{Refusal}
use Rattle.machine.specs.Refusal.{refusal_number}
use Rattle.machine.proofs.RefusalLaw.{some_number}
use Rattle.machine.specs.Command.{Box, box_of}
use Rattle.machine.specs.Step.{timed}
use Rattle.machine.specs.Query.{Query, query_of, query_outcome_of, number_count, block_number}
use Rattle.machine.specs.Query.{numbers, listed, distinct, shown_states, pages_read, query_refusal}
use Rattle.machine.specs.Query.{query_accepted, query_step}
use Rattle.machine.specs.Claims.{ValidBox}
use Rattle.machine.proofs.PassedLaw.{timed_reads}
use Rattle.machine.proofs.QueryLaw.{query_passed, query_accepted_lem, query_refused, query_times, query_valid}
use Rattle.machine.proofs.ListedLaw.{listed_all, map_listed}
use Rattle.block_states.specs.Links.{group_named}
use Rattle.block_states.specs.Fill.{FillReady}

-- γ is any proper geometry
module _ {γ : Geometry} (σ : Proper γ) where
  -- the groups counted are those named
  pub pages_are : (blocks : List ℕ) (n : ℕ) → n ≡ length (distinct (listed (group_named γ blocks) 0 (number_count blocks)))
      → n ≡ pages_read γ (numbers blocks)
  unfolding pages_read
  pages_are blocks n e =
      e ∙ ap (λ (l : List ℕ). length (distinct l)) (sym (map_listed (block_number blocks) (group_of γ) 0 (number_count blocks)))

  module _ (m disk blocks : List ℕ) (now : ℕ) (answer : List ℕ) where
    abbrev box : Box
    box = box_of m disk

    abbrev query : Query
    query = query_of blocks now answer

    -- r refuses it
    pub refused : (r : Refusal) → refusal_number r ≡ query_refusal γ box query
        → query_outcome_of (refusal_number r) 0 box answer ≡ query_step γ box query
    refused r e =
        ap (λ (k : ℕ). query_outcome_of k 0 box answer) e ∙ sym (query_refused σ box query (λ z. some_number r (e ∙ z)))

    module _ (accepts : 0 ≡ query_refusal γ box query) where
      none : query_refusal γ box query ≡ 0
      none = sym accepts

      pub size : length m ≡ memory_size γ
      size = (query_passed σ box query none).timely.memory.size

      -- the last time is set
      module _ (memory : List ℕ) (em : memory ≡ with_last_time γ m now) where
        same : box_of memory disk ≡ timed γ box now
        unfolding timed
        same = ap (λ (l : List ℕ). box_of l disk) em

        pub fill_ready : FillReady γ (box_of memory disk) blocks answer
        fill_ready =
            let known = query_passed σ box query none in
            let reads = timed_reads σ box now known.timely in
            let kept : groups γ memory ≡ groups γ m = ap (λ (t : Box). groups γ t.memory) same ∙ reads.groups in
            record {
              box = subst (ValidBox γ) (query_times σ box query none ∙ sym same) (query_valid σ box query none);
              list =
                  record {
                    whole = known.whole;
                    few = known.few;
                    range =
                        λ i l.
                        let below =
                        listed_all (block_number blocks) _ 0 (number_count blocks) known.range i (omega arith) (omega arith) in
                        let a = block_number blocks i in
                        omega (arith, kept, group_of_below σ (groups γ m) a (ltb-true a (data_blocks γ (groups γ m)) below));
                  };
              answer_size_is = known.answer;
            }

        pub accepted : (pages : ℕ) (r : List ℕ) → pages ≡ pages_read γ (numbers blocks) → r ≡ shown_states γ (box_of memory disk) now (numbers blocks)
            → query_outcome_of 0 pages (box_of memory disk) r ≡ query_step γ box query
        unfolding query_accepted
        accepted pages r ep er =
            ap (λ (k : ℕ). query_outcome_of 0 k (box_of memory disk) r) ep
            ∙ ap (λ (l : List ℕ). query_outcome_of 0 (pages_read γ (numbers blocks)) (box_of memory disk) l) er
            ∙ ap (λ (t : Box). query_outcome_of 0 (pages_read γ (numbers blocks)) t (shown_states γ t now (numbers blocks))) same
            ∙ sym (query_accepted_lem σ box query none)
