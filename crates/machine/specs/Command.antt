-- What the controller is given and what it leaves, after document 01, "Commands". Assumes nothing: these are definitions.
use Rattle.std.specs.Prelude.{List, [], ◌∷◌, ℕ, ◌+◌, get_or}
use Rattle.octets.specs.Part.{part}
use Rattle.lockpage.specs.Geometry.{Geometry}
use Rattle.lockpage.specs.Size.{page_size}
use Rattle.lockpage.specs.declared.Entry.{Entry as PageEntry}
use Rattle.lockpage.specs.declared.Update.TheVariants.{Write, Unfreeze, Increment}
use Rattle.lockpage.specs.Page.{entry_at}
use Rattle.addressing.specs.Map.{place_of}
use Rattle.blake3.specs.Blake3.{digest_size}
use Rattle.machine.specs.declared.Kind.{Kind}
use Rattle.machine.specs.declared.Kind.TheVariants.{Read, Entry, Page, Change, Sync, Restart, NewSalt, Identify, Unknown}

-- the controller memory and the disk, as bytes
pub record Box : Type 0 where
  pub memory : List ℕ
  pub disk : List ℕ

-- "A command has kind, block, now and value (32 bits each), data, proof (page 512, tag 32) and a 544-byte answer buffer." The data
-- are called content, since data is a word of the language
pub record Command : Type 0 where
  pub kind : ℕ
  pub block : ℕ
  pub now : ℕ
  pub value : ℕ
  pub content : List ℕ
  pub proof : List ℕ
  pub answer : List ℕ

-- what a command leaves: its number, memory and disk, and the answer buffer
pub record Outcome : Type 0 where
  pub number : ℕ
  pub box : Box
  pub answer : List ℕ

-- each of the three from its parts, in the order of the controller's parameters
abbrev pub box_of : List ℕ → List ℕ → Box
box_of memory disk = record { memory = memory; disk = disk }

abbrev pub command_of : ℕ → ℕ → ℕ → ℕ → List ℕ → List ℕ → List ℕ → Command
command_of kind block now value content proof answer =
    record { kind = kind; block = block; now = now; value = value; content = content; proof = proof; answer = answer }

abbrev pub outcome_of : ℕ → List ℕ → List ℕ → List ℕ → Outcome
outcome_of number memory disk answer = record { number = number; box = box_of memory disk; answer = answer }

-- ---- kinds

-- the list of kinds, from 1 on; of the value "numbers not named are ignored": a write has it as its lock, an increment as its value
abbrev pub kinds : ℕ → List Kind
kinds value =
    Read
    ∷ Entry
    ∷ Page
    ∷ Change (Write value)
    ∷ Change Unfreeze
    ∷ Change (Increment value)
    ∷ Sync
    ∷ Restart
    ∷ NewSalt
    ∷ Identify
    ∷ []

unfoldable pub kind_numbered : ℕ → ℕ → Kind
kind_numbered n value = get_or (Unknown ∷ kinds value) n Unknown

abbrev pub kind_of : Command → Kind
kind_of c = kind_numbered c.kind c.value

-- ---- what is brought

abbrev pub tag_size : ℕ
tag_size = digest_size

-- γ is the box's geometry; the numbers quoted are those at base
module _ (γ : Geometry) where
  -- "proof (page 512, tag 32)"
  abbrev pub proof_size : ℕ
  proof_size = page_size γ + tag_size

  unfoldable pub brought_page : List ℕ → List ℕ
  brought_page proof = part proof 0 (page_size γ)

  unfoldable pub brought_tag : List ℕ → List ℕ
  brought_tag proof = part proof (page_size γ) tag_size

  -- the block's entry on the page brought
  abbrev pub brought_entry : Command → PageEntry
  brought_entry c = entry_at (brought_page c.proof) (place_of γ c.block)

  -- "a 544-byte answer buffer": a page and a tag
  abbrev pub answer_size : ℕ
  answer_size = page_size γ + tag_size
