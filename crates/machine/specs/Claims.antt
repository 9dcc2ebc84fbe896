-- What a reader wants to know of the controller, beside demand 3. Each claim is a type; its proof has the claim's name in
-- proofs/Theorems.antt. That a step comes to an answer for every box and command needs no claim: step is a function.
use Rattle.std.specs.Prelude.{◌≡◌, true, false, List, ◌∷◌, ◌++◌, ℕ, ◌≤◌, ◌<◌, length}
use Rattle.octets.specs.Part.{AreBytes, repeated}
use Rattle.lockpage.specs.Geometry.{Geometry, base}
use Rattle.lockpage.specs.Size.{page_size}
use Rattle.lockpage.specs.Page.{blank_entry, entry_at}
use Rattle.addressing.specs.Map.{disk_size, data_blocks, group_of, place_of, physical}
use Rattle.disk.specs.Disk.{block}
use Rattle.memory.specs.Layout.{memory_size}
use Rattle.memory.specs.Memory.{groups, none}
use Rattle.memory.specs.Claims.{Reads}
use Rattle.validity.specs.Valid.{valid}
use Rattle.machine.specs.Command.{Box, Command, kind_of, tag_size, proof_size, answer_size}
use Rattle.machine.specs.Tag.{tag_message, current_page}
use Rattle.machine.specs.Question.{Question, Put, question3, questions, first_no, HasYes, AllYes}
use Rattle.machine.specs.Step.{step, Accepted}
use Rattle.machine.specs.Format.{format_questions, format}
use Rattle.machine.specs.Run.{Event, run}

-- ---- document 01's sizes

-- "proof (page 512, tag 32) and a 544-byte answer buffer"; "salt, group in 8 bytes, count in 4 bytes, page: 556 bytes"
pub record PapersBufferSizes : Type 0 where
  pub tag : tag_size ≡ 32
  pub proof : proof_size base ≡ 544
  pub answer : answer_size base ≡ 544
  pub message : (m : List ℕ) (g : ℕ) (page : List ℕ) → length m ≡ memory_size base → length page ≡ page_size base
      → length (tag_message base m g page) ≡ 556

-- ---- questions and bytes

-- "A no ends the command with that number": n is that of the first question in order which has no
pub record IsFirstNo (n : ℕ) (qs : List Question) : Type 0 where
  pub earlier : List Question
  pub later : List Question
  pub split : qs ≡ earlier ++ (Put n false ∷ later)
  pub before : AllYes earlier

-- n is the number answered where the questions qs are put. "A command passes if and only if each question put to it there has yes."
pub record Passes (n : ℕ) (qs : List Question) : Type 0 where
  pub passes : AllYes qs → n ≡ 0
  pub only : n ≡ 0 → AllYes qs

-- a number other than 0 is that of the first no, and the first no has that number
pub record AnswersFirstNo (n : ℕ) (qs : List Question) : Type 0 where
  pub first : (n ≡ 0 → ⊥) → IsFirstNo n qs
  pub only : (k : ℕ) → IsFirstNo k qs → n ≡ k

-- the number is a refusal's, by question k at the latest
abbrev pub RefusesBy : ℕ → ℕ → Type 0
RefusesBy k n = (1 ≤ n) × (n ≤ k)

pub record ByteBox (s : Box) : Type 0 where
  pub memory : AreBytes s.memory
  pub disk : AreBytes s.disk

pub record ByteCommand (c : Command) : Type 0 where
  pub content : AreBytes c.content
  pub proof : AreBytes c.proof
  pub answer : AreBytes c.answer

-- ---- box s and an answer buffer as they were, box t and the buffer as they are left

pub record Unaltered (s t : Box) (old new : List ℕ) : Type 0 where
  pub box : t ≡ s
  pub answer : new ≡ old

pub record Stored (t : Box) (new : List ℕ) : Type 0 where
  pub box : ByteBox t
  pub answer : AreBytes new

pub record SameLengths (s t : Box) (old new : List ℕ) : Type 0 where
  pub memory : length t.memory ≡ length s.memory
  pub disk : length t.disk ≡ length s.disk
  pub answer : length new ≡ length old

-- γ is the box's geometry; the numbers quoted are those at base
module _ (γ : Geometry) where
  -- the command is refused, by question n at the latest
  abbrev pub RefusedBy : ℕ → Box → Command → Type 0
  RefusedBy n s c = RefusesBy n (step γ s c).number

  -- ---- demand 2

  unfoldable pub PassesIfAllYes : Type 0
  PassesIfAllYes = (s : Box) (c : Command) → Passes (step γ s c).number (questions γ s c)

  -- "Is the kind 1 to 10?": question 3 has yes for these numbers and no other
  pub record OneToTen (c : Command) : Type 0 where
    pub known : 1 ≤ c.kind → c.kind ≤ 10 → HasYes (question3 γ (kind_of c))
    pub only : HasYes (question3 γ (kind_of c)) → (1 ≤ c.kind) × (c.kind ≤ 10)

  unfoldable pub KindsAreOneToTen : Type 0
  KindsAreOneToTen = (c : Command) → OneToTen c

  unfoldable pub NumberIsFirstNo : Type 0
  NumberIsFirstNo = (s : Box) (c : Command) → AnswersFirstNo (step γ s c).number (questions γ s c)

  -- ---- demand 1: "a refusal alters no byte of memory, disk or answer"

  unfoldable pub RefusalAltersNothing : Type 0
  RefusalAltersNothing = (s : Box) (c : Command) → (Accepted γ s c → ⊥) → Unaltered s (step γ s c).box c.answer (step γ s c).answer

  -- ---- a box once valid stays valid: questions 1 and 2 have yes

  pub record ValidBox (s : Box) : Type 0 where
    pub memory : valid γ s.memory ≡ true
    pub disk : length s.disk ≡ disk_size γ (groups γ s.memory)

  unfoldable pub AcceptedLeavesValid : Type 0
  AcceptedLeavesValid = (s : Box) (c : Command) → Accepted γ s c → ValidBox (step γ s c).box

  unfoldable pub StaysValid : Type 0
  StaysValid = (s : Box) (es : List Event) → ValidBox s → ValidBox (run γ s es)

  -- "where question 1 or 2 says no to that start, every command is refused", so that the box stays as it is
  unfoldable pub InvalidRefuses : Type 0
  InvalidRefuses = (s : Box) (c : Command) → (ValidBox s → ⊥) → RefusedBy 2 s c × ((step γ s c).box ≡ s)

  -- ---- bytes stay bytes, and a buffer keeps its length

  unfoldable pub StepKeepsBytes : Type 0
  StepKeepsBytes = (s : Box) (c : Command) → ByteBox s → ByteCommand c → Stored (step γ s c).box (step γ s c).answer

  unfoldable pub StepKeepsLengths : Type 0
  StepKeepsLengths = (s : Box) (c : Command) → SameLengths s (step γ s c).box c.answer (step γ s c).answer

  -- ---- formatting

  pub record Formats (s : Box) (g : ℕ) (salt : List ℕ) : Type 0 where
    -- its number is that of the first no, and a refusal alters nothing
    pub number : (format γ s g salt).number ≡ first_no (format_questions γ s g salt)
    pub refused : ((format γ s g salt).number ≡ 0 → ⊥) → (format γ s g salt).box ≡ s
    -- it gives a valid box with the salt and G, counts and last time 0 and none held; each block has the blank entry, with which it is
    -- free; and it "touches no data block"
    pub valid : (format γ s g salt).number ≡ 0 → ValidBox (format γ s g salt).box
    pub reads : (format γ s g salt).number ≡ 0 → Reads γ (format γ s g salt).box.memory salt (λ k. 0) 0 g none 0 (repeated (page_size γ) 0)
    pub blank : (format γ s g salt).number ≡ 0 → (a : ℕ) → a < data_blocks γ g
        → entry_at (current_page γ (format γ s g salt).box (group_of γ a)) (place_of γ a) ≡ blank_entry
    pub untouched : (a : ℕ) → block γ (format γ s g salt).box.disk (physical γ a) ≡ block γ s.disk (physical γ a)
    pub bytes : ByteBox s → AreBytes salt → ByteBox (format γ s g salt).box

  unfoldable pub FormattingFormats : Type 0
  FormattingFormats = (s : Box) (g : ℕ) (salt : List ℕ) → Formats s g salt
