-- Parts of an item of a task's list in a job.
-- Source: JSON; own.
use Rattle.std.specs.Prelude.{ℕ, List, ◌++◌, Bool, if◌then◌else◌, codes}
use Rattle.aa_base.specs.Values.{mask}
use Rattle.aa_text.specs.Jsons.{json_bytes, key_text}

-- a member whose value is a text
unfoldable pub member : List ℕ → List ℕ → List ℕ
member key value = key_text key ++ json_bytes value

-- the end of a request, with whether the object is owned
unfoldable pub owned_end : Bool → List ℕ
owned_end owned = if owned then codes ",\"owned\":true}" else codes "}"

-- the member of a mask
unfoldable pub mask_member : ℕ → List ℕ
mask_member bits = codes "," ++ key_text (codes "mask") ++ mask bits

-- an object of one text
unfoldable pub single : List ℕ → List ℕ → List ℕ
single key value = codes "{" ++ member key value ++ codes "}"
