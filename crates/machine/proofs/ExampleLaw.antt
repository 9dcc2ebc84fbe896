-- The example of specs/Example.antt: its commands are accepted, and its pages not forged. Assumes nothing.
use mathlib.Core.Path.{◌≡◌, refl, ap, sym, subst, ◌∙◌}
use mathlib.Core.Bool.{true, false}
use mathlib.Mathlib.Data.Bool.Basic.{and_intro}
use mathlib.Core.List.{List}
use Prim.Native.Nat.{ℕ, ◌+◌, ◌≤◌, ◌<◌}
use native.Mathlib.Omega.{arith}
use borrow.Author.Tests.{eq-eqb, le-leb, lt-ltb}
use lib.Dec.{lit<}
use lib.ListN.{length}
use Rattle.octets.specs.Part.{repeated}
use Rattle.octets.proofs.EqualLaw.{equal_yes}
use Rattle.octets.proofs.RepeatedLaw.{repeated_length}
use Rattle.lockpage.specs.Geometry.{base}
use Rattle.lockpage.specs.Size.{page_size}
use Rattle.lockpage.specs.declared.Entry.{Entry as PageEntry}
use Rattle.lockpage.specs.declared.Update.{Update}
use Rattle.lockpage.specs.Entry.{EntryFits}
use Rattle.lockpage.specs.State.{state}
use Rattle.lockpage.specs.Update.{latest_time, updated, allowed, within_limit}
use Rattle.lockpage.specs.Page.{entry_at, with_entry, blank_entry}
use Rattle.lockpage.proofs.GeometryLaw.{base_proper}
use Rattle.lockpage.proofs.PageLaw.{entry_within, entry_at_same, entry_at_other}
use Rattle.addressing.specs.Map.{disk_size, data_blocks, group_of, place_of, page_block}
use Rattle.addressing.proofs.MapLaw.{place_of_below}
use Rattle.disk.specs.Disk.{block}
use Rattle.memory.specs.Memory.{count, last_time, groups, held, none}
use Rattle.validity.specs.Valid.{count_limit}
use Rattle.validity.proofs.ValidLaw.{facts}
use Rattle.machine.specs.declared.Kind.{Kind}
use Rattle.machine.specs.declared.Kind.TheVariants.{Read, Entry, Change, Sync, Restart}
use Rattle.machine.specs.Command.{Box, Command, Outcome, kind_numbered, kind_of, proof_size, brought_page, brought_entry, answer_size}
use Rattle.machine.specs.Tag.{tag, current_page}
use Rattle.machine.specs.Question.{content_length, questions_to, questions, first_no, refusal, AllYes}
use Rattle.machine.specs.Effect.{stored, effect, read, show_entry, page_leaves, updated_page}
use Rattle.machine.specs.Step.{step, timed, done}
use Rattle.machine.specs.Run.{Given}
use Rattle.machine.specs.Claims.{ValidBox}
use Rattle.machine.specs.Protection.{Unforged}
use Rattle.machine.specs.Example.{updating, plain}
use Rattle.machine.proofs.QuestionLaw.{yes_accepted, all_yes}
use Rattle.machine.proofs.StepLaw.{step_accepted}
use Rattle.machine.proofs.TagLaw.{tagged_length, tagged_page, tagged_tag, current_length, current_other}
use Rattle.machine.proofs.PassedLaw.{Timely, passed, in_time, timed_reads}
use Rattle.machine.proofs.ValidBoxLaw.{accepted_valid}
use Rattle.machine.proofs.TimedLaw.{current_timed}
use Rattle.machine.proofs.AfterLaw.{accepted_after, own_page, own_count, own_held, own_on_disk, lost_count}
use Rattle.machine.proofs.LeavingLaw.{new_stays}
use Rattle.machine.proofs.AnswerLaw.{entry_answer_lem}

-- what a page of group 0 has: block 0's entry e, and block 1's, which is never written
pub record OnPage (e : PageEntry) (p : List ℕ) : Type 0 where
  pub written : entry_at p 0 ≡ e
  pub unwritten : entry_at p 1 ≡ blank_entry

-- what is known of a box of one group: the last time, the count, the held group, what the current page has and the disk's
pub record Known (time counted holds : ℕ) (now-entry disk-entry : PageEntry) (s : Box) : Type 0 where
  pub valid : ValidBox base s
  pub one : groups base s.memory ≡ 1
  pub last : last_time base s.memory ≡ time
  pub count_is : count s.memory 0 ≡ counted
  pub held_is : held base s.memory ≡ holds
  pub current : OnPage now-entry (current_page base s 0)
  pub on_disk : OnPage disk-entry (block base s.disk (page_block base 0))

-- group 0's page on a disk is the current one where none is held
pub page_on_disk : (t : Box) → held base t.memory ≡ none → block base t.disk (page_block base 0) ≡ current_page base t 0
page_on_disk t n = sym (current_other base_proper t 0 (λ e. omega arith))

-- ---- an update of block 0 that brings the current page

module _ {time counted holds : ℕ} {e d : PageEntry} {s : Box} (h : Known time counted holds e d s) where
  page_length : length (current_page base s 0) ≡ page_size base
  page_length =
      current_length base_proper s 0 (facts base_proper s.memory h.valid.memory).size h.valid.disk (omega (arith, h.one))

  brings : (kind now value : ℕ) (content : List ℕ) → brought_page base (updating s kind now value content).proof ≡ current_page base s 0
  unfolding group_of
  brings kind now value content = tagged_page base_proper s.memory 0 (current_page base s 0) page_length

  pub not_forged : (kind now value : ℕ) (content : List ℕ) → Unforged base s (Given (updating s kind now value content))
  unfolding group_of
  not_forged kind now value content y = brings kind now value content

  pub served : (u : Update) (kind now value : ℕ) (content : List ℕ) → kind_numbered kind value ≡ Change u → time ≤ now → now ≤ latest_time
      → counted < count_limit → length content ≡ content_length base (Change u) → allowed u (state now e) ≡ true
      → within_limit (updated u now e) ≡ true → refusal base s (updating s kind now value content) ≡ 0
  unfolding refusal questions group_of place_of data_blocks
  served u kind now value content k later early unexhausted size may within =
      let c = updating s kind now value content in
      let found : brought_entry base c ≡ e = ap (λ (p : List ℕ). entry_at p 0) (brings kind now value content) ∙ h.current.written in
      ap (λ (i : Kind). first_no (questions_to base i s c)) k
      ∙ yes_accepted (questions_to base (Change u) s c) (
        h.valid.memory,
        (
          eq-eqb (length s.disk) (disk_size base (groups base s.memory)) h.valid.disk,
          (
            refl,
            (
              and_intro (le-leb (last_time base s.memory) now (omega (arith, h.last))) (le-leb now latest_time early),
              (
                lt-ltb 0 (data_blocks base (groups base s.memory)) (omega (arith, h.one)),
                (
                  and_intro (eq-eqb (length content) (content_length base (Change u)) size)
                      (and_intro (eq-eqb (length c.proof) (proof_size base) (tagged_length base_proper s.memory 0 (current_page base s 0) page_length))
                      (eq-eqb (length c.answer) (answer_size base) (repeated_length (answer_size base) 0))),
                  (
                    equal_yes _ _
                        (tagged_tag base_proper s.memory 0 (current_page base s 0) page_length
                        ∙ ap (tag base s.memory 0) (sym (brings kind now value content))),
                    (
                      lt-ltb (count s.memory 0) count_limit (omega (arith, h.count_is)),
                      (
                        subst (λ (i : PageEntry). allowed u (state now i) ≡ true) (sym found) may,
                        (subst (λ (i : PageEntry). within_limit (updated u now i) ≡ true) (sym found) within, (refl, tt)),
                      ),
                    ),
                  ),
                ),
              ),
            ),
          ),
        ),
      )

  module _ (u : Update) (kind now value : ℕ) (content : List ℕ) (k : kind_numbered kind value ≡ Change u)
      (r : refusal base s (updating s kind now value content) ≡ 0) (fits : EntryFits (updated u now e)) where
    -- the page after it
    pub updated_page_lem : OnPage (updated u now e) (current_page base (step base s (updating s kind now value content)).box 0)
    unfolding group_of place_of updated_page
    updated_page_lem =
        let c = updating s kind now value content in
        let p = brought_page base c.proof in
        let found : brought_entry base c ≡ e = ap (λ (p : List ℕ). entry_at p 0) (brings kind now value content) ∙ h.current.written in
        let size : length p ≡ page_size base = ap (λ (l : List ℕ). length l) (brings kind now value content) ∙ page_length in
        let inside = entry_within base_proper p 0 size (place_of_below base_proper 0) in
        subst (OnPage (updated u now e)) (sym (own_page base_proper u s c k r))
        (record {
          written = ap (λ (i : PageEntry). entry_at (with_entry p 0 (updated u now i)) 0) found ∙ entry_at_same p 0 (updated u now e) inside fits;
          unwritten =
              entry_at_other p 0 (updated u now (brought_entry base c)) inside 1 (λ x. omega arith)
              ∙ ap (λ (q : List ℕ). entry_at q 1) (brings kind now value content)
              ∙ h.current.unwritten;
        })

    -- the page is held after it
    pub updated_known : page_leaves base s.memory 0 ≡ false
        → Known now (counted + 1) 0 (updated u now e) d (step base s (updating s kind now value content)).box
    unfolding group_of
    updated_known stays =
        let c = updating s kind now value content in
        let a = accepted_after base_proper s c r in
        record {
          valid = accepted_valid base_proper s c r;
          one = a.same_groups ∙ h.one;
          last = a.time;
          count_is = own_count base_proper u s c k r ∙ ap (λ (n : ℕ). n + 1) h.count_is;
          held_is = own_held base_proper u s c k r stays;
          current = updated_page_lem;
          on_disk = subst (OnPage d) (sym (own_on_disk base_proper u s c k r stays)) h.on_disk;
        }

  -- a page that comes in is held
  pub comes_in : holds ≡ none → page_leaves base s.memory 0 ≡ false
  comes_in n = new_stays base_proper s.memory 0 (λ z. omega (arith, h.held_is))

  -- ---- a read, an entry, a sync and a restart are accepted

  -- the questions put to an entry are those put to a read
  shown_yes : (kind now : ℕ) → time ≤ now → now ≤ latest_time → AllYes (questions_to base Read s (plain kind now))
  unfolding data_blocks
  shown_yes kind now later early = (
    h.valid.memory,
    (
      eq-eqb (length s.disk) (disk_size base (groups base s.memory)) h.valid.disk,
      (
        refl,
        (
          and_intro (le-leb (last_time base s.memory) now (omega (arith, h.last))) (le-leb now latest_time early),
          (
            lt-ltb 0 (data_blocks base (groups base s.memory)) (omega (arith, h.one)),
            (
              and_intro refl (and_intro refl (eq-eqb (length (repeated (answer_size base) 0)) (answer_size base) (repeated_length (answer_size base) 0))),
              (refl, (refl, (refl, (refl, (refl, tt))))),
            ),
          ),
        ),
      ),
    ),
  )

  -- those put to a sync or a restart are the same but for question 5
  plain_yes : (kind now : ℕ) → time ≤ now → now ≤ latest_time → AllYes (questions_to base Sync s (plain kind now))
  plain_yes kind now later early =
      let y = shown_yes kind now later early in
      (y.0, (y.1.0, (y.1.1.0, (y.1.1.1.0, (refl, y.1.1.1.1.1)))))

  pub read_served : (now : ℕ) → time ≤ now → now ≤ latest_time → refusal base s (plain 1 now) ≡ 0
  unfolding refusal questions kind_numbered
  read_served now later early = yes_accepted (questions_to base Read s (plain 1 now)) (shown_yes 1 now later early)

  pub entry_served : (now : ℕ) → time ≤ now → now ≤ latest_time → refusal base s (plain 2 now) ≡ 0
  unfolding refusal questions kind_numbered
  entry_served now later early = yes_accepted (questions_to base Entry s (plain 2 now)) (shown_yes 2 now later early)

  pub sync_served : (now : ℕ) → time ≤ now → now ≤ latest_time → refusal base s (plain 7 now) ≡ 0
  unfolding refusal questions kind_numbered
  sync_served now later early = yes_accepted (questions_to base Sync s (plain 7 now)) (plain_yes 7 now later early)

  pub restart_served : (now : ℕ) → time ≤ now → now ≤ latest_time → refusal base s (plain 8 now) ≡ 0
  unfolding refusal questions kind_numbered
  restart_served now later early = yes_accepted (questions_to base Restart s (plain 8 now)) (plain_yes 8 now later early)

  -- an entry answers the one on the current page
  pub entry_answers : (now : ℕ) → refusal base s (plain 2 now) ≡ 0 → EntryFits e → entry_at (step base s (plain 2 now)).answer 0 ≡ e
  unfolding kind_numbered group_of place_of
  entry_answers now r fits =
      entry_answer_lem base_proper s (plain 2 now) refl r (subst EntryFits (sym h.current.written) fits) ∙ h.current.written

  -- ---- what they leave

  -- what sets only the last time
  pub timed_known : (now : ℕ) (t : Box) → Timely base s now → t ≡ timed base s now → ValidBox base t → Known now counted holds e d t
  unfolding timed
  timed_known now t q same valid =
      let reads = timed_reads base_proper s now q in
      subst (Known now counted holds e d) (sym same)
      (record {
        valid = subst (ValidBox base) same valid;
        one = reads.groups ∙ h.one;
        last = reads.time;
        count_is = reads.count 0 (lit< tt) ∙ h.count_is;
        held_is = reads.held ∙ h.held_is;
        current = subst (OnPage e) (sym (current_timed base_proper s now q 0)) h.current;
        on_disk = h.on_disk;
      })

  command_known : (c : Command) → refusal base s c ≡ 0 → (step base s c).box ≡ timed base s c.now
      → Known c.now counted holds e d (step base s c).box
  command_known c r same =
      timed_known c.now (step base s c).box
      (in_time base_proper (kind_of c) s c (passed base_proper (kind_of c) s c (all_yes base_proper (kind_of c) s c refl r))) same
      (accepted_valid base_proper s c r)

  pub read_known : (now : ℕ) → refusal base s (plain 1 now) ≡ 0 → Known now counted holds e d (step base s (plain 1 now)).box
  unfolding kind_numbered done effect read stored timed
  read_known now r = command_known (plain 1 now) r (ap (λ (o : Outcome). o.box) (step_accepted base_proper Read s (plain 1 now) refl r))

  pub entry_known : (now : ℕ) → refusal base s (plain 2 now) ≡ 0 → Known now counted holds e d (step base s (plain 2 now)).box
  unfolding kind_numbered done effect show_entry stored timed
  entry_known now r = command_known (plain 2 now) r (ap (λ (o : Outcome). o.box) (step_accepted base_proper Entry s (plain 2 now) refl r))

  pub sync_known : (now : ℕ) → refusal base s (plain 7 now) ≡ 0 → Known now counted none e e (step base s (plain 7 now)).box
  unfolding kind_numbered
  sync_known now r =
      let c = plain 7 now in
      let t = (step base s c).box in
      let a = accepted_after base_proper s c r in
      let here : 0 < groups base s.memory = omega (arith, h.one) in
      let page = subst (OnPage e) (sym (a.page 0 here)) h.current in
      record {
        valid = accepted_valid base_proper s c r;
        one = a.same_groups ∙ h.one;
        last = a.time;
        count_is = a.counts 0 here ∙ h.count_is;
        held_is = a.held_group;
        current = page;
        on_disk = subst (OnPage e) (sym (page_on_disk t a.held_group)) page;
      }

  pub restart_known : (now : ℕ) → refusal base s (plain 8 now) ≡ 0 → holds ≡ 0 → Known now (counted + 1) none d d (step base s (plain 8 now)).box
  unfolding kind_numbered
  restart_known now r z =
      let c = plain 8 now in
      let t = (step base s c).box in
      let a = accepted_after base_proper s c r in
      let here : 0 < groups base s.memory = omega (arith, h.one) in
      let is_held : held base s.memory ≡ 0 = h.held_is ∙ z in
      let page = subst (OnPage d) (sym (a.page 0 here)) h.on_disk in
      let up : count t.memory 0 ≡ count s.memory 0 + 1 =
      subst (λ (i : ℕ). count t.memory i ≡ count s.memory i + 1) is_held (lost_count base_proper s c refl r (omega arith)) in
      record {
        valid = accepted_valid base_proper s c r;
        one = a.same_groups ∙ h.one;
        last = a.time;
        count_is = up ∙ ap (λ (n : ℕ). n + 1) h.count_is;
        held_is = a.held_group;
        current = page;
        on_disk = subst (OnPage d) (sym (page_on_disk t a.held_group)) page;
      }
