-- The exported digest, after document 01, "Tag": "The digest itself takes 0 to 65,536 bytes and fills 32; for other lengths question 6
-- says no." Assumes nothing: these are definitions.
use Rattle.std.specs.Prelude.{ℕ, Bool, true, false, ◌&&◌, List, length, leb, eqb}
use Rattle.blake3.specs.Blake3.{digest, digest_size}

-- "takes 0 to 65,536 bytes"
abbrev pub longest_input : ℕ
longest_input = 65536

-- the number that question 6 answers
abbrev pub bad_length : ℕ
bad_length = 6

-- what a call leaves: the number answered, and what the buffer for the digest then holds
pub record DigestOutcome : Type 0 where
  pub number : ℕ
  pub out : List ℕ

abbrev pub digest_outcome : ℕ → List ℕ → DigestOutcome
digest_outcome number out = record { number = number; out = out }

-- question 6: an input that is not too long, and a buffer for just the digest
unfoldable pub fits : List ℕ → List ℕ → Bool
fits input out = leb (length input) longest_input && eqb (length out) digest_size

-- yes: 0, and the digest. No: its number, and the buffer is as it was
unfoldable pub digest_call : List ℕ → List ℕ → DigestOutcome
digest_call input out = elim (fits input out) [ true ↦ digest_outcome 0 (digest input) | false ↦ digest_outcome bad_length out ]
