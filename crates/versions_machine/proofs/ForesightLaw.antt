-- The number of the first order that is refused is known from the counts and the entries before the first of them. Assumes nothing.
use mathlib.Core.Path.{◌≡◌, refl, ap, sym, subst, ◌∙◌}
use mathlib.Core.Bool.{Bool, true, false, ◌&&◌, false≢true}
use mathlib.Core.List.{List, [], ◌∷◌, ◌++◌}
use Prim.Native.Nat.{ℕ, ◌+◌, ◌≤◌, ◌<◌}
use native.Mathlib.Omega.{arith}
use borrow.Author.Tests.{eq-eqb, ne_eqb, le-leb, ltb-true}
use lib.ListN.{length}
use lib.Dec.{eqb, ltb}
use Rattle.octets.specs.Part.{equal}
use Rattle.octets.proofs.RepeatedLaw.{repeated_length}
use Rattle.lockpage.specs.Geometry.{Geometry, Proper}
use Rattle.lockpage.specs.declared.Entry.{Entry}
use Rattle.lockpage.specs.declared.Update.{Update}
use Rattle.lockpage.specs.Entry.{EntryFits}
use Rattle.lockpage.specs.State.{state}
use Rattle.lockpage.specs.Update.{latest_time, updated, allowed, within_limit}
use Rattle.lockpage.specs.Page.{entry_at}
use Rattle.lockpage.proofs.UpdateLaw.{updated_fits}
use Rattle.lockpage.proofs.PageLaw.{entry_at_fits}
use Rattle.addressing.specs.Map.{disk_size, data_blocks, group_of, place_of}
use Rattle.addressing.proofs.MapLaw.{group_of_below}
use Rattle.memory.specs.Memory.{count, last_time, groups}
use Rattle.memory.specs.Claims.{changed}
use Rattle.validity.specs.Valid.{count_limit}
use Rattle.validity.proofs.ValidLaw.{facts}
use Rattle.machine.specs.declared.Kind.{Kind}
use Rattle.machine.specs.declared.Kind.TheVariants.{Change}
use Rattle.machine.specs.Command.{Box, proof_size, answer_size, brought_page, brought_tag, brought_entry}
use Rattle.machine.specs.Tag.{tag, current_page, current_entry}
use Rattle.machine.specs.Question.{Question, Put, NotPut, first_no, question1, question2, question3, question4, question5, question6, question7}
use Rattle.machine.specs.Question.{question8, question9, question10, question11, questions_to, questions, refusal, content_length}
use Rattle.machine.specs.Step.{step}
use Rattle.machine.specs.Claims.{ValidBox, ByteBox}
use Rattle.machine.specs.After.{count_after}
use Rattle.machine.proofs.CaseLaw.{same_or_not}
use Rattle.machine.proofs.QuestionLaw.{passes_on}
use Rattle.machine.proofs.StepLaw.{step_number}
use Rattle.machine.proofs.TagLaw.{tagged_length, current_length, current_are}
use Rattle.machine.proofs.PassedLaw.{changes}
use Rattle.machine.proofs.ValidBoxLaw.{accepted_valid}
use Rattle.machine.proofs.AfterLaw.{accepted_after}
use Rattle.machine.proofs.CurrentLaw.{brought_current, entry_own, entry_other}
use Rattle.machine.proofs.AnswerLaw.{serves}
use Rattle.versions_machine.specs.Plan.{Order, Carried, order_of, given, carried_out}
use Rattle.versions_machine.specs.Foresight.{questions_left, counts_after, entries_after, foreseen}
use Rattle.versions_machine.proofs.HoldsLaw.{order_kind, order_yes, order_brings, brings}
use Rattle.versions_machine.proofs.CarryLaw.{carried_on, carried_stops}

-- ---- the questions

and_yes : (x a b : Bool) → a ≡ true → b ≡ true → (x && (a && b)) ≡ x
and_yes true a b h k = rw (h, k)
and_yes false a b h k = refl

-- one that has no, whatever comes later
stops_here : (b : Bool) (xs ys : List Question) → b ≡ false → first_no (Put 5 b ∷ xs) ≡ first_no (Put 5 b ∷ ys)
unfolding first_no
stops_here false xs ys e = refl
stops_here true xs ys e = absurd (false≢true (sym e))

-- question 7, where it has yes, and one that is not put; the others may be put in other words
skipped : (b5 a6 b6 a7 a8 b8 a9 b9 a10 b10 : Bool) → a6 ≡ b6 → a7 ≡ true → a8 ≡ b8 → a9 ≡ b9 → a10 ≡ b10
    → first_no (Put 5 b5 ∷ Put 6 a6 ∷ Put 7 a7 ∷ Put 8 a8 ∷ Put 9 a9 ∷ Put 10 a10 ∷ NotPut ∷ [])
    ≡ first_no (Put 5 b5 ∷ Put 6 b6 ∷ Put 8 b8 ∷ Put 9 b9 ∷ Put 10 b10 ∷ [])
skipped b5 a6 b6 a7 a8 b8 a9 b9 a10 b10 six seven eight nine ten = rw (six, seven, eight, nine, ten) (go b5 b6 b8 b9 b10)
  where
    go : (b5 b6 b8 b9 b10 : Bool)
        → first_no (Put 5 b5 ∷ Put 6 b6 ∷ Put 7 true ∷ Put 8 b8 ∷ Put 9 b9 ∷ Put 10 b10 ∷ NotPut ∷ [])
        ≡ first_no (Put 5 b5 ∷ Put 6 b6 ∷ Put 8 b8 ∷ Put 9 b9 ∷ Put 10 b10 ∷ [])
    go false b6 b8 b9 b10 = unfold first_no in refl
    go true false b8 b9 b10 = unfold first_no in refl
    go true true false b9 b10 = unfold first_no in refl
    go true true true false b10 = unfold first_no in refl
    go true true true true false = unfold first_no in refl
    go true true true true true = unfold first_no in refl

-- ---- the first order, and the rest

module _ (γ : Geometry) (G : ℕ) (counts : ℕ → ℕ) (entries : ℕ → Entry) (o : Order) (os : List Order) where
  pub foreseen_on : first_no (questions_left γ G (counts (group_of γ o.block)) (entries o.block) o) ≡ 0
      → foreseen γ G counts entries (o ∷ os) ≡ foreseen γ G (counts_after γ counts o) (entries_after entries o) os
  unfolding foreseen
  foreseen_on e = rw (foreseen, eq-eqb _ 0 e)

  pub foreseen_stops : (first_no (questions_left γ G (counts (group_of γ o.block)) (entries o.block) o) ≡ 0 → ⊥)
      → foreseen γ G counts entries (o ∷ os) ≡ first_no (questions_left γ G (counts (group_of γ o.block)) (entries o.block) o)
  unfolding foreseen
  foreseen_stops e = rw (foreseen, ne_eqb _ 0 e)

module _ {γ : Geometry} (σ : Proper γ) where
  pub refusal_left : (s : Box) (o : Order) (n : ℕ) (e : Entry) → ValidBox γ s → last_time γ s.memory ≤ o.now → o.now ≤ latest_time
      → (o.block < data_blocks γ (groups γ s.memory) → n ≡ count s.memory (group_of γ o.block))
      → (o.block < data_blocks γ (groups γ s.memory) → e ≡ current_entry γ s o.block)
      → refusal γ s (given γ s o) ≡ first_no (questions_left γ (groups γ s.memory) n e o)
  unfolding refusal questions
  refusal_left s o n e v l m counted found =
      let c = given γ s o in
      let u = o.update in
      let k = Change u in
      let g = group_of γ o.block in
      let G = groups γ s.memory in
      let later =
      question5 γ k G o.block
      ∷ question6 γ k c.content c.proof c.answer
      ∷ question7 γ k s.memory g c.proof
      ∷ question8 γ k s.memory g
      ∷ question9 γ k o.now (brought_entry γ c)
      ∷ question10 γ k o.now (brought_entry γ c)
      ∷ question11 γ k s.memory c.content
      ∷ [] in
      ap (λ (i : Kind). first_no (questions_to γ i s c)) (order_kind σ u)
      ∙ passes_on (question1 γ s.memory ∷ question2 γ s.memory s.disk ∷ question3 γ k ∷ question4 γ s.memory o.now ∷ []) later (
        v.memory,
        (
          eq-eqb (length s.disk) (disk_size γ G) v.disk,
          (refl, (rw (le-leb (last_time γ s.memory) o.now l, le-leb o.now latest_time m), tt)),
        ),
      )
      ∙ go (ltb o.block (data_blocks γ G)) refl
    where
      go : (b : Bool) → ltb o.block (data_blocks γ (groups γ s.memory)) ≡ b
          → first_no
          (question5 γ (Change o.update) (groups γ s.memory) o.block
          ∷ question6 γ (Change o.update) o.content (given γ s o).proof (given γ s o).answer
          ∷ question7 γ (Change o.update) s.memory (group_of γ o.block) (given γ s o).proof
          ∷ question8 γ (Change o.update) s.memory (group_of γ o.block)
          ∷ question9 γ (Change o.update) o.now (brought_entry γ (given γ s o))
          ∷ question10 γ (Change o.update) o.now (brought_entry γ (given γ s o))
          ∷ question11 γ (Change o.update) s.memory o.content
          ∷ [])
          ≡ first_no (questions_left γ (groups γ s.memory) n e o)
      go false b = stops_here (ltb o.block (data_blocks γ (groups γ s.memory))) _ _ b
      go true b =
          let c = given γ s o in
          let u = o.update in
          let m = s.memory in
          let g = group_of γ o.block in
          let page = current_page γ s g in
          let inside = ltb-true o.block (data_blocks γ (groups γ m)) b in
          let size = current_length σ s g (facts σ m v.memory).size v.disk (group_of_below σ (groups γ m) o.block inside) in
          let same : brought_entry γ c ≡ e =
          ap (λ (p : List ℕ). entry_at p (place_of γ o.block)) (brings σ s o v inside) ∙ sym (found inside) in
          let content = eqb (length o.content) (content_length γ (Change u)) in
          let b5 = ltb o.block (data_blocks γ (groups γ m)) in
          let six : (content && (eqb (length c.proof) (proof_size γ) && eqb (length c.answer) (answer_size γ))) ≡ content =
          and_yes content (eqb (length c.proof) (proof_size γ)) (eqb (length c.answer) (answer_size γ))
          (eq-eqb (length c.proof) (proof_size γ) (tagged_length σ m g page size))
          (eq-eqb (length c.answer) (answer_size γ) (repeated_length (answer_size γ) 0)) in
          let seven : equal (brought_tag γ c.proof) (tag γ m g (brought_page γ c.proof)) ≡ true =
          (serves σ s g c.proof size refl).matches u in
          skipped b5 (content && (eqb (length c.proof) (proof_size γ) && eqb (length c.answer) (answer_size γ))) content
          (equal (brought_tag γ c.proof) (tag γ m g (brought_page γ c.proof))) (ltb (count m g) count_limit) (ltb n count_limit)
          (allowed u (state o.now (brought_entry γ c))) (allowed u (state o.now e)) (within_limit (updated u o.now (brought_entry γ c)))
          (within_limit (updated u o.now e)) six seven (ap (λ (x : ℕ). ltb x count_limit) (sym (counted inside)))
          (ap (λ (x : Entry). allowed u (state o.now x)) same) (ap (λ (x : Entry). within_limit (updated u o.now x)) same)

  -- ---- the counts and the entries

  -- they are those of the box
  pub record Foresees (now : ℕ) (s : Box) (counts : ℕ → ℕ) (entries : ℕ → Entry) : Type 0 where
    pub valid : ValidBox γ s
    pub later : last_time γ s.memory ≤ now
    pub early : now ≤ latest_time
    pub counted : (g : ℕ) → g < groups γ s.memory → counts g ≡ count s.memory g
    pub found : (a : ℕ) → a < data_blocks γ (groups γ s.memory) → entries a ≡ current_entry γ s a
    pub fits : (a : ℕ) → a < data_blocks γ (groups γ s.memory) → EntryFits (current_entry γ s a)

  pub foresees_first : (now : ℕ) (s : Box) → ValidBox γ s → ByteBox s → last_time γ s.memory ≤ now → now ≤ latest_time
      → Foresees now s (count s.memory) (current_entry γ s)
  foresees_first now s v b l m =
      record {
        valid = v;
        later = l;
        early = m;
        counted = λ g h. refl;
        found = λ a h. refl;
        fits = λ a h. entry_at_fits (current_page γ s (group_of γ a)) (place_of γ a) (current_are σ s (group_of γ a) b.memory b.disk);
      }

  order_left : (now : ℕ) (s : Box) (counts : ℕ → ℕ) (entries : ℕ → Entry) (o : Order) → Foresees now s counts entries → o.now ≡ now
      → refusal γ s (given γ s o) ≡ first_no (questions_left γ (groups γ s.memory) (counts (group_of γ o.block)) (entries o.block) o)
  order_left now s counts entries o f t =
      refusal_left s o (counts (group_of γ o.block)) (entries o.block) f.valid (omega (arith, f.later)) (omega (arith, f.early))
      (λ l. f.counted (group_of γ o.block) (group_of_below σ (groups γ s.memory) o.block l)) (λ l. f.found o.block l)

  pub foresees_next : (now : ℕ) (s : Box) (counts : ℕ → ℕ) (entries : ℕ → Entry) (o : Order) → Foresees now s counts entries → o.now ≡ now
      → refusal γ s (given γ s o) ≡ 0 → Foresees now (step γ s (given γ s o)).box (counts_after γ counts o) (entries_after entries o)
  foresees_next now s counts entries o f t r =
      let c = given γ s o in
      let u = o.update in
      let g = group_of γ o.block in
      let after = accepted_after σ s c r in
      let x = changes σ u s c (order_yes σ s o r) in
      let brought = order_brings σ s o r in
      let entry : Entry = current_entry γ s o.block in
      let within = subst (λ (i : Entry). within_limit (updated u o.now i) ≡ true) (brought_current σ u s c (order_kind σ u) r brought) x.within in
      let fit = updated_fits u o.now entry (omega (arith, f.early)) (f.fits o.block x.range) within in
      let own = entry_own σ u s c (order_kind σ u) r brought fit in
      let of_box : (a : ℕ) → a < data_blocks γ (groups γ (step γ s c).box.memory) → a < data_blocks γ (groups γ s.memory) =
      λ a h. subst (λ (n : ℕ). a < data_blocks γ n) after.same_groups h in
      let own_count : counts g ≡ count s.memory g = f.counted g (group_of_below σ (groups γ s.memory) o.block x.range) in
      record {
        valid = accepted_valid σ s c r;
        later = omega (arith, after.time);
        early = f.early;
        counted =
            λ k h.
            let h0 : k < groups γ s.memory = subst (λ (n : ℕ). k < n) after.same_groups h in
            count_alike counts (count s.memory) g k own_count (f.counted k h0)
            ∙ sym (after.counts k h0 ∙ ap (λ (i : Kind). count_after γ i s.memory c k) (order_kind σ u));
        found =
            λ a h.
            same_or_not a o.block
            (λ e.
            ap (λ (b : Bool). elim b [ true ↦ updated u o.now (entries a) | false ↦ entries a ]) (eq-eqb a o.block e)
            ∙ ap (λ (i : Entry). updated u o.now i) (f.found a (of_box a h))
            ∙ ap (λ (i : ℕ). updated u o.now (current_entry γ s i)) e
            ∙ sym own
            ∙ ap (current_entry γ (step γ s c).box) (sym e))
            (λ n.
            ap (λ (b : Bool). elim b [ true ↦ updated u o.now (entries a) | false ↦ entries a ]) (ne_eqb a o.block n)
            ∙ f.found a (of_box a h)
            ∙ sym (entry_other σ u s c (order_kind σ u) r brought a (group_of_below σ (groups γ s.memory) a (of_box a h)) n));
        fits =
            λ a h.
            same_or_not a o.block
            (λ e. subst EntryFits (sym own ∙ ap (current_entry γ (step γ s c).box) (sym e)) fit)
            (λ n.
            subst EntryFits (sym (entry_other σ u s c (order_kind σ u) r brought a (group_of_below σ (groups γ s.memory) a (of_box a h)) n))
            (f.fits a (of_box a h)));
      }
    where
      count_alike : (a b : ℕ → ℕ) (g k : ℕ) → a g ≡ b g → a k ≡ b k → changed a g (a g + 1) k ≡ changed b g (b g + 1) k
      count_alike a b g k e f =
          ap (λ (i : ℕ). elim (eqb k g) [ true ↦ i + 1 | false ↦ a k ]) e ∙ ap (λ (i : ℕ). elim (eqb k g) [ true ↦ b g + 1 | false ↦ i ]) f

  -- ---- several

  -- they are all given at one time
  abbrev pub EachAt : ℕ → List Order → Type 0
  EachAt now [] = Unit
  EachAt now (o ∷ os) = (o.now ≡ now) × EachAt now os

  pub is_foreseen : (now : ℕ) (s : Box) (counts : ℕ → ℕ) (entries : ℕ → Entry) (os : List Order) → EachAt now os → Foresees now s counts entries
      → (carried_out γ s os).number ≡ foreseen γ (groups γ s.memory) counts entries os
  unfolding carried_out foreseen
  is_foreseen now s counts entries [] t f = refl
  is_foreseen now s counts entries (o ∷ os) t f =
      let c = given γ s o in
      let G = groups γ s.memory in
      let n = first_no (questions_left γ G (counts (group_of γ o.block)) (entries o.block) o) in
      let left = order_left now s counts entries o f t.0 in
      let number = step_number σ s c in
      same_or_not (refusal γ s c) 0
      (λ r.
      ap (λ (x : Carried). x.number) (carried_on γ s o os (number ∙ r))
      ∙ is_foreseen now (step γ s c).box (counts_after γ counts o) (entries_after entries o) os t.1 (foresees_next now s counts entries o f t.0 r)
      ∙ ap (λ (g : ℕ). foreseen γ g (counts_after γ counts o) (entries_after entries o) os) (accepted_after σ s c r).same_groups
      ∙ sym (foreseen_on γ G counts entries o os (sym left ∙ r)))
      (λ z.
      ap (λ (x : Carried). x.number) (carried_stops γ s o os (λ a. z (sym number ∙ a)))
      ∙ number
      ∙ left
      ∙ sym (foreseen_stops γ G counts entries o os (λ a. z (left ∙ a))))

-- ---- counts that are small before an order are small after it

module _ (γ : Geometry) where
  pub counts_few : (counts : ℕ → ℕ) (o : Order) (k n : ℕ) → counts (group_of γ o.block) ≤ n → counts k ≤ n → counts_after γ counts o k ≤ n + 1
  counts_few counts o k n own other = go (eqb k (group_of γ o.block))
    where
      go : (x : Bool) → elim x [ true ↦ counts (group_of γ o.block) + 1 | false ↦ counts k ] ≤ n + 1
      go true = omega arith
      go false = omega arith

  -- ---- of the last order's content only the length counts

  pub foreseen_alike : (G : ℕ) (counts : ℕ → ℕ) (entries : ℕ → Entry) (os : List Order) (u : Update) (b now : ℕ) (x y : List ℕ)
      → length x ≡ length y
      → foreseen γ G counts entries (os ++ (order_of u b now x ∷ [])) ≡ foreseen γ G counts entries (os ++ (order_of u b now y ∷ []))
  unfolding foreseen
  foreseen_alike G counts entries [] u b now x y e =
      ap (λ (n : ℕ). elim (eqb (first_no (left n)) 0) [ true ↦ 0 | false ↦ first_no (left n) ]) e
    where
      left : ℕ → List Question
      left n =
          Put 5 (ltb b (data_blocks γ G))
          ∷ Put 6 (eqb n (content_length γ (Change u)))
          ∷ Put 8 (ltb (counts (group_of γ b)) count_limit)
          ∷ Put 9 (allowed u (state now (entries b)))
          ∷ Put 10 (within_limit (updated u now (entries b)))
          ∷ []
  foreseen_alike G counts entries (o ∷ os) u b now x y e =
      ap
      (λ (n : ℕ).
      elim (eqb (first_no (questions_left γ G (counts (group_of γ o.block)) (entries o.block) o)) 0) [
        | true ↦ n
        | false ↦ first_no (questions_left γ G (counts (group_of γ o.block)) (entries o.block) o)
      ])
      (foreseen_alike G (counts_after γ counts o) (entries_after entries o) os u b now x y e)
