-- A lock page, after document 01, "Disk": "A page has 64 entries of 8 bytes". Assumes nothing: these are definitions.
use Rattle.std.specs.Prelude.{ℕ, zero, suc, ◌*◌, List, [], ◌++◌}
use Rattle.octets.specs.Part.{part, replaced}
use Rattle.lockpage.specs.declared.Entry.{Entry}
use Rattle.lockpage.specs.Geometry.{Geometry}
use Rattle.lockpage.specs.Size.{entry_size}
use Rattle.lockpage.specs.Entry.{entry, entry_bytes, entry_of}

-- entry i of a page
unfoldable pub entry_at : List ℕ → ℕ → Entry
entry_at page i = entry_of (part page (entry_size * i) entry_size)

-- a page with entry i replaced
unfoldable pub with_entry : List ℕ → ℕ → Entry → List ℕ
with_entry page i e = replaced page (entry_size * i) (entry_bytes e)

-- n times the same entry
unfoldable pub repeated_entry : ℕ → Entry → List ℕ
repeated_entry zero e = []
repeated_entry (suc n) e = entry_bytes e ++ repeated_entry n e

-- formatting "sets every entry to 00 00 00 00 01 00 00 00"
abbrev pub blank_entry : Entry
blank_entry = entry 0 1

-- γ is the box's geometry
module _ (γ : Geometry) where
  unfoldable pub blank_page : List ℕ
  blank_page = repeated_entry γ.entries blank_entry
