-- An accepted command stores and answers bytes, and its answer fills the buffer. Assumes nothing.
use mathlib.Core.Path.{◌≡◌, refl, ap, sym, subst, ◌∙◌}
use mathlib.Core.List.{List, [], ◌∷◌, ◌++◌}
use Prim.Native.Nat.{ℕ, ◌+◌, ◌≤◌}
use native.Mathlib.Omega.{arith}
use borrow.Author.Tests.{ltb-true}
use lib.Dec.{lit<}
use lib.ListN.{length, length-append}
use Rattle.octets.specs.Part.{AreBytes}
use Rattle.octets.specs.Number.{bytes}
use Rattle.octets.proofs.BelowLaw.{below_none, below_cons, below_append}
use Rattle.octets.proofs.NumberLaw.{bytes_length, bytes_are}
use Rattle.lockpage.specs.Geometry.{Geometry, Proper}
use Rattle.lockpage.specs.declared.Entry.{Entry as PageEntry}
use Rattle.lockpage.specs.declared.Update.{Update}
use Rattle.lockpage.specs.declared.Update.TheVariants.{Write, Unfreeze, Increment}
use Rattle.lockpage.specs.Entry.{entry_bytes}
use Rattle.lockpage.specs.State.{state, state_number, time_left_bytes}
use Rattle.lockpage.specs.Page.{entry_at}
use Rattle.lockpage.proofs.EntryLaw.{entry_bytes_length, entry_bytes_are}
use Rattle.lockpage.proofs.StateLaw.{time_left_bytes_length, time_left_bytes_are, state_number_byte}
use Rattle.lockpage.proofs.PageLaw.{entry_within, with_entry_are}
use Rattle.addressing.specs.Map.{data_blocks, group_of, place_of, physical}
use Rattle.addressing.proofs.MapLaw.{place_of_below, physical_below}
use Rattle.disk.proofs.DiskLaw.{block_length, block_are, block_within, with_block_are}
use Rattle.memory.specs.Memory.{count, groups, held, none, with_count, with_no_counts, holding_none}
use Rattle.memory.proofs.RangeLaw.{held_page_bytes, with_salt_bytes, with_count_bytes, with_no_counts_bytes, with_last_time_bytes, holding_bytes, holding_none_bytes}
use Rattle.machine.specs.declared.Kind.{Kind}
use Rattle.machine.specs.declared.Kind.TheVariants.{Read, Entry, Page, Change, Sync, Restart, NewSalt, Identify, Unknown}
use Rattle.machine.specs.Command.{Box, Command, Outcome, kind_of, proof_size, brought_page, answer_size}
use Rattle.machine.specs.Tag.{current_page}
use Rattle.machine.specs.Question.{refusal}
use Rattle.machine.specs.Effect.{Store, Effect, stored, effect, read, show_entry, entry_answer, show_page, put_held, put_content, updated_page, changed_page}
use Rattle.machine.specs.Effect.{changed_memory, change, sync, restarted_memory, restart, salted, new_salt, identify_size, identify, next_update_count}
use Rattle.machine.specs.Effect.{page_leaves}
use Rattle.machine.specs.Step.{step, timed, done}
use Rattle.machine.specs.Claims.{ByteBox, ByteCommand, Stored}
use Rattle.machine.proofs.CaseLaw.{same_or_not, true_or_false}
use Rattle.machine.proofs.QuestionLaw.{all_yes}
use Rattle.machine.proofs.StepLaw.{step_accepted, padded_length, padded_are}
use Rattle.machine.proofs.TagLaw.{tagged_length, tagged_are, brought_length, brought_are, current_length, current_are}
use Rattle.machine.proofs.PassedLaw.{Passed, Changes, passed, passed_timed, accepted_changes}
use Rattle.machine.proofs.EffectLaw.{EachStore, each_keeps, each_put, changed_length, restarted_none, restarted_held}
use Rattle.machine.proofs.LeavingLaw.{changed_leaving, changed_staying, each_change}

entry_are : (now : ℕ) (e : PageEntry) → AreBytes (entry_answer now e)
unfolding entry_answer
entry_are now e =
    below_append 256 (entry_bytes e) (time_left_bytes now e ++ (state_number (state now e) ∷ [])) (entry_bytes_are e)
    (below_append 256 (time_left_bytes now e) (state_number (state now e) ∷ []) (time_left_bytes_are now e)
    (below_cons 256 (state_number (state now e)) [] (state_number_byte (state now e)) (below_none 256 (lit< tt))))

abbrev pub ByteStore : Store → Type 0
ByteStore x = AreBytes x.bytes

none_are : AreBytes []
none_are = below_none 256 (lit< tt)

record ByteEffect (e : Effect) : Type 0 where
  stores : EachStore ByteStore e.stores
  memory : AreBytes e.memory
  named : AreBytes e.named

-- γ is any proper geometry
module _ {γ : Geometry} (σ : Proper γ) where
  -- ---- bytes

  put_bytes_is : (m : List ℕ) → AreBytes m → EachStore ByteStore (put_held γ m)
  put_bytes_is m b = each_put σ ByteStore m (λ n. held_page_bytes σ m b)

  content_bytes : (u : Update) (a : ℕ) (content : List ℕ) → AreBytes content → EachStore ByteStore (put_content γ u a content)
  unfolding put_content
  content_bytes (Write lock) a content b = (b, tt)
  content_bytes Unfreeze a content b = tt
  content_bytes (Increment value) a content b = tt

  changed_are : (u : Update) (c : Command) → length c.proof ≡ proof_size γ → AreBytes c.proof → AreBytes (changed_page γ u c)
  unfolding updated_page
  changed_are u c l b =
      let p = brought_page γ c.proof in
      with_entry_are p (place_of γ c.block) _ (entry_within σ p (place_of γ c.block) (brought_length σ c.proof l) (place_of_below σ c.block))
      (brought_are σ c.proof b)

  restarted_are : (m : List ℕ) → AreBytes m → AreBytes (restarted_memory γ m)
  restarted_are m b =
      same_or_not (held γ m) none
      (λ n. subst (λ (l : List ℕ). AreBytes l) (sym (restarted_none σ m n)) b)
      (λ n.
      subst (λ (l : List ℕ). AreBytes l) (sym (restarted_held σ m n))
      (with_count_bytes σ (holding_none γ m) (holding_none_bytes σ m b) (held γ m) (count m (held γ m) + 1)))

  changed_memory_are : (m : List ℕ) → AreBytes m → (g : ℕ) (p : List ℕ) → AreBytes p → AreBytes (changed_memory γ m g p)
  changed_memory_are m b g p page =
      let n = with_count m g (count m g + 1) in
      let counted = with_count_bytes σ m b g (count m g + 1) in
      true_or_false (page_leaves γ m g)
      (λ e. subst (λ (l : List ℕ). AreBytes l) (sym (changed_leaving σ m g p e)) (holding_none_bytes σ n counted))
      (λ e. subst (λ (l : List ℕ). AreBytes l) (sym (changed_staying σ m g p e)) (holding_bytes σ n counted g (next_update_count γ m g) p page))

  effect_bytes : (k : Kind) (s : Box) (c : Command) → ((u : Update) → k ≡ Change u → Changes γ u s c) → ByteBox s → ByteCommand c
      → ByteEffect (effect γ k s c)
  unfolding effect read show_entry show_page change sync restart salted new_salt identify
  effect_bytes Read s c x b d = record { stores = tt; memory = b.memory; named = block_are σ s.disk (physical γ c.block) b.disk }
  effect_bytes Entry s c x b d =
      record { stores = tt; memory = b.memory; named = entry_are c.now (entry_at (current_page γ s (group_of γ c.block)) (place_of γ c.block)) }
  effect_bytes Page s c x b d =
      record {
        stores = tt;
        memory = b.memory;
        named = tagged_are σ s.memory c.block (current_page γ s c.block) (current_are σ s c.block b.memory b.disk);
      }
  effect_bytes (Change u) s c x b d =
      let m = s.memory in
      let g = group_of γ c.block in
      let page = changed_are u c (x u refl).proof d.proof in
      record {
        stores = each_change σ ByteStore u s c (put_bytes_is m b.memory) (content_bytes u c.block c.content d.content) page;
        memory = changed_memory_are m b.memory g (changed_page γ u c) page;
        named = tagged_are σ (changed_memory γ m g (changed_page γ u c)) g (changed_page γ u c) page;
      }
  effect_bytes Sync s c x b d =
      record { stores = put_bytes_is s.memory b.memory; memory = holding_none_bytes σ s.memory b.memory; named = none_are }
  effect_bytes Restart s c x b d = record { stores = tt; memory = restarted_are s.memory b.memory; named = none_are }
  effect_bytes NewSalt s c x b d =
      let dropped = holding_none_bytes σ s.memory b.memory in
      let cleared = with_no_counts_bytes σ (holding_none γ s.memory) dropped in
      record {
        stores = put_bytes_is s.memory b.memory;
        memory = with_salt_bytes σ (with_no_counts γ (holding_none γ s.memory)) cleared c.content d.content;
        named = none_are;
      }
  effect_bytes Identify s c x b d =
      let g = groups γ s.memory in
      record {
        stores = tt;
        memory = b.memory;
        named = below_append 256 (bytes identify_size g) (bytes identify_size (data_blocks γ g)) (bytes_are identify_size g)
            (bytes_are identify_size (data_blocks γ g));
      }
  effect_bytes Unknown s c x b d = record { stores = tt; memory = b.memory; named = none_are }

  pub stored_are : (d : List ℕ) (xs : List Store) → EachStore ByteStore xs → AreBytes d → AreBytes (stored γ d xs)
  stored_are =
      each_keeps σ (λ (d : List ℕ). AreBytes d) ByteStore (λ d x b a. with_block_are σ d x.place x.bytes a b)

  -- ---- what is named is no longer than the buffer

  entry_short : (now : ℕ) (e : PageEntry) → length (entry_answer now e) ≤ answer_size γ
  unfolding entry_answer
  entry_short now e =
      let rest : List ℕ = time_left_bytes now e ++ (state_number (state now e) ∷ []) in
      omega (
        arith,
        length-append (entry_bytes e) rest,
        length-append (time_left_bytes now e) (state_number (state now e) ∷ []),
        entry_bytes_length e,
        time_left_bytes_length now e,
      )

  named_short : (k : Kind) (s : Box) (c : Command) → Passed γ k s c → ((u : Update) → k ≡ Change u → Changes γ u s c)
      → length (effect γ k s c).named ≤ answer_size γ
  unfolding effect read show_entry show_page change sync restart new_salt identify
  named_short Read s c q x =
      let below = physical_below σ (groups γ s.memory) c.block (ltb-true c.block (data_blocks γ (groups γ s.memory)) q.range) in
      omega (arith, block_length σ s.disk (physical γ c.block) (block_within σ s.disk (groups γ s.memory) (physical γ c.block) q.disk below))
  named_short Entry s c q x = entry_short c.now (entry_at (current_page γ s (group_of γ c.block)) (place_of γ c.block))
  named_short Page s c q x =
      let long = current_length σ s c.block q.memory.size q.disk (ltb-true c.block (groups γ s.memory) q.range) in
      omega (arith, tagged_length σ s.memory c.block (current_page γ s c.block) long)
  named_short (Change u) s c q x =
      let m = changed_memory γ s.memory (group_of γ c.block) (changed_page γ u c) in
      omega (arith, tagged_length σ m (group_of γ c.block) (changed_page γ u c) (changed_length σ u c (x u refl).proof))
  named_short Sync s c q x = omega arith
  named_short Restart s c q x = omega arith
  named_short NewSalt s c q x = omega arith
  named_short Identify s c q x =
      let g = groups γ s.memory in
      omega (
        arith,
        length-append (bytes identify_size g) (bytes identify_size (data_blocks γ g)),
        bytes_length identify_size g,
        bytes_length identify_size (data_blocks γ g),
      )
  named_short Unknown s c q x = omega arith

  -- ---- an accepted command

  pub answer_length : (s : Box) (c : Command) → refusal γ s c ≡ 0 → length (step γ s c).answer ≡ answer_size γ
  unfolding done
  answer_length s c r =
      let k = kind_of c in
      let q = passed_timed σ k s c (passed σ k s c (all_yes σ k s c refl r)) in
      ap (λ (o : Outcome). length o.answer) (step_accepted σ k s c refl r)
      ∙ padded_length σ (effect γ k (timed γ s c.now) c).named (named_short k (timed γ s c.now) c q (accepted_changes σ k s c refl r))

  pub accepted_bytes : (s : Box) (c : Command) → refusal γ s c ≡ 0 → ByteBox s → ByteCommand c → Stored (step γ s c).box (step γ s c).answer
  unfolding done timed
  accepted_bytes s c r b d =
      let k = kind_of c in
      let t = timed γ s c.now in
      let set = with_last_time_bytes σ s.memory b.memory c.now in
      let e = effect_bytes k t c (accepted_changes σ k s c refl r) (record { memory = set; disk = b.disk }) d in
      let same = step_accepted σ k s c refl r in
      record {
        box =
            record {
              memory = subst (λ (o : Outcome). AreBytes o.box.memory) (sym same) e.memory;
              disk =
                  subst (λ (o : Outcome). AreBytes o.box.disk) (sym same) (stored_are s.disk (effect γ k t c).stores e.stores b.disk);
            };
        answer = subst (λ (o : Outcome). AreBytes o.answer) (sym same) (padded_are σ (effect γ k t c).named e.named);
      }
