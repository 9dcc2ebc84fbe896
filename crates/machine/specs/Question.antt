-- The eleven questions, after document 01, "Questions, in order": to which kinds each is put, and when its answer is yes. Assumes
-- nothing: these are definitions.
use Rattle.std.specs.Prelude.{◌≡◌, Bool, true, false, ◌&&◌, not, List, [], ◌∷◌, ◌⊎◌, ℕ, length, eqb, ltb, leb}
use Rattle.octets.specs.Part.{equal}
use Rattle.lockpage.specs.Geometry.{Geometry}
use Rattle.lockpage.specs.Size.{block_size}
use Rattle.lockpage.specs.declared.Entry.{Entry as PageEntry}
use Rattle.lockpage.specs.declared.Update.{Update}
use Rattle.lockpage.specs.declared.Update.TheVariants.{Write, Unfreeze, Increment}
use Rattle.lockpage.specs.State.{state}
use Rattle.lockpage.specs.Update.{latest_time, updated, allowed, within_limit}
use Rattle.addressing.specs.Map.{disk_size, data_blocks, group_of}
use Rattle.memory.specs.Layout.{salt_size}
use Rattle.memory.specs.Memory.{salt, count, last_time, groups}
use Rattle.validity.specs.Valid.{count_limit, valid}
use Rattle.machine.specs.declared.Kind.{Kind}
use Rattle.machine.specs.declared.Kind.TheVariants.{Read, Entry, Page, Change, Sync, Restart, NewSalt, Identify, Unknown}
use Rattle.machine.specs.Command.{Box, Command, kind_of, proof_size, brought_page, brought_tag, brought_entry, answer_size}
use Rattle.machine.specs.Tag.{tag}

-- a question as it stands for a command: put, with its number and whether the answer is yes, or not put
pub data Question : Type 0 where
  Put : ℕ → Bool → Question
  NotPut : Question

-- whether it lets the command pass: its answer is yes, or it is not put
abbrev pub passes : Question → Bool
passes (Put n answer) = answer
passes NotPut = true

-- ---- a list of them

-- "A no ends the command with that number"; "Accepted is 0."
unfoldable pub first_no : List Question → ℕ
first_no [] = 0
first_no (NotPut ∷ qs) = first_no qs
first_no (Put n answer ∷ qs) = elim answer [ true ↦ first_no qs | false ↦ n ]

-- ---- in words

-- a question has yes, if it is put
abbrev pub HasYes : Question → Type 0
HasYes q = passes q ≡ true

-- each of them has
abbrev pub AllYes : List Question → Type 0
AllYes [] = Unit
AllYes (q ∷ qs) = HasYes q × AllYes qs

-- question n is put, and it and each before it has yes
abbrev pub GetsYes : ℕ → List Question → Type 0
GetsYes n [] = ⊥
GetsYes n (NotPut ∷ qs) = GetsYes n qs
GetsYes n (Put k answer ∷ qs) = (answer ≡ true) × ((k ≡ n) ⊎ GetsYes n qs)

-- ---- to which kinds one is put

-- a question that is put to kinds 4, 5 and 6
abbrev pub to_changes : Kind → (Update → Question) → Question
to_changes Read q = NotPut
to_changes Entry q = NotPut
to_changes Page q = NotPut
to_changes (Change u) q = q u
to_changes Sync q = NotPut
to_changes Restart q = NotPut
to_changes NewSalt q = NotPut
to_changes Identify q = NotPut
to_changes Unknown q = NotPut

-- one that is put to kind 9
abbrev pub to_new_salt : Kind → Question → Question
to_new_salt Read q = NotPut
to_new_salt Entry q = NotPut
to_new_salt Page q = NotPut
to_new_salt (Change u) q = NotPut
to_new_salt Sync q = NotPut
to_new_salt Restart q = NotPut
to_new_salt NewSalt q = q
to_new_salt Identify q = NotPut
to_new_salt Unknown q = NotPut

-- γ is the box's geometry; the numbers quoted are those at base. Each of the eleven takes it, whether or not it looks at it
module _ (γ : Geometry) where
  -- ---- 1 to 6

  -- "Is the memory 616 bytes and valid?"
  abbrev pub question1 : List ℕ → Question
  question1 m = Put 1 (valid γ m)

  -- "Is the disk G × 33,280 bytes?"
  abbrev pub question2 : List ℕ → List ℕ → Question
  question2 m disk = Put 2 (eqb (length disk) (disk_size γ (groups γ m)))

  -- "Is the kind 1 to 10?"
  abbrev pub question3 : Kind → Question
  question3 Read = Put 3 true
  question3 Entry = Put 3 true
  question3 Page = Put 3 true
  question3 (Change u) = Put 3 true
  question3 Sync = Put 3 true
  question3 Restart = Put 3 true
  question3 NewSalt = Put 3 true
  question3 Identify = Put 3 true
  question3 Unknown = Put 3 false

  -- "Is now at least the last time and at most 2,147,483,647?"
  abbrev pub question4 : List ℕ → ℕ → Question
  question4 m now = Put 4 (leb (last_time γ m) now && leb now latest_time)

  -- "Is the block below 64 × G (kinds 1, 2, 4, 5, 6), the group below G (kind 3)?"
  abbrev pub question5 : Kind → ℕ → ℕ → Question
  question5 Read groups a = Put 5 (ltb a (data_blocks γ groups))
  question5 Entry groups a = Put 5 (ltb a (data_blocks γ groups))
  question5 Page groups g = Put 5 (ltb g groups)
  question5 (Change u) groups a = Put 5 (ltb a (data_blocks γ groups))
  question5 Sync groups a = NotPut
  question5 Restart groups a = NotPut
  question5 NewSalt groups a = NotPut
  question5 Identify groups a = NotPut
  question5 Unknown groups a = NotPut

  -- "data (512 for 4, 32 for 9, else 0)"
  abbrev pub content_length : Kind → ℕ
  content_length Read = 0
  content_length Entry = 0
  content_length Page = 0
  content_length (Change (Write lock)) = block_size γ
  content_length (Change Unfreeze) = 0
  content_length (Change (Increment value)) = 0
  content_length Sync = 0
  content_length Restart = 0
  content_length NewSalt = salt_size
  content_length Identify = 0
  content_length Unknown = 0

  -- "proof (544 for 4, 5, 6, else 0)"
  abbrev pub proof_length : Kind → ℕ
  proof_length Read = 0
  proof_length Entry = 0
  proof_length Page = 0
  proof_length (Change u) = proof_size γ
  proof_length Sync = 0
  proof_length Restart = 0
  proof_length NewSalt = 0
  proof_length Identify = 0
  proof_length Unknown = 0

  -- "Are data .., proof .. and answer (544) of the kind's length?"
  abbrev pub question6 : Kind → List ℕ → List ℕ → List ℕ → Question
  question6 k content proof answer =
      Put 6
      (eqb (length content) (content_length k) && (eqb (length proof) (proof_length k) && eqb (length answer) (answer_size γ)))

  -- ---- 7 to 11

  -- "For 4, 5, 6: is the tag that of the brought page under the present salt and count?"
  abbrev pub question7 : Kind → List ℕ → ℕ → List ℕ → Question
  question7 k m g proof = to_changes k (λ u. Put 7 (equal (brought_tag γ proof) (tag γ m g (brought_page γ proof))))

  -- "For 4, 5, 6: is the count below 4,294,967,294?"
  abbrev pub question8 : Kind → List ℕ → ℕ → Question
  question8 k m g = to_changes k (λ u. Put 8 (ltb (count m g) count_limit))

  -- "Write: free? Unfreeze: frozen? Increment: frozen or counting?"
  abbrev pub question9 : Kind → ℕ → PageEntry → Question
  question9 k now e = to_changes k (λ u. Put 9 (allowed u (state now e)))

  -- "Is a lock written or grown at most 2,147,483,647, an expiry at most" 4,294,967,295? The last is document 02's, Q-2
  abbrev pub question10 : Kind → ℕ → PageEntry → Question
  question10 k now e = to_changes k (λ u. Put 10 (within_limit (updated u now e)))

  -- "Does the new salt differ from the present one?"
  abbrev pub question11 : Kind → List ℕ → List ℕ → Question
  question11 k m content = to_new_salt k (Put 11 (not (equal content (salt m))))

  -- ---- all of them, in order

  -- those that are put to kinds 4, 5 and 6 look at the block's group and, from 9 on, at its entry on the page brought
  abbrev pub questions_to : Kind → Box → Command → List Question
  questions_to k s c =
      question1 s.memory
      ∷ question2 s.memory s.disk
      ∷ question3 k
      ∷ question4 s.memory c.now
      ∷ question5 k (groups γ s.memory) c.block
      ∷ question6 k c.content c.proof c.answer
      ∷ question7 k s.memory (group_of γ c.block) c.proof
      ∷ question8 k s.memory (group_of γ c.block)
      ∷ question9 k c.now (brought_entry γ c)
      ∷ question10 k c.now (brought_entry γ c)
      ∷ question11 k s.memory c.content
      ∷ []

  unfoldable pub questions : Box → Command → List Question
  questions s c = questions_to (kind_of c) s c

  unfoldable pub refusal : Box → Command → ℕ
  refusal s c = first_no (questions s c)
