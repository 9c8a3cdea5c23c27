-- Texts as HTML has them.
-- Source: HTML, "Character references"; own.
use Rattle.std.specs.Prelude.{ℕ, List, [], ◌∷◌, ◌++◌, ◌==◌, flat_map, codes, if◌then◌else◌}
use Rattle.aa_text.specs.Visible.{all_visible}

-- a byte, by its reference where it could begin or end a tag, a reference or an attribute's value
abbrev pub escaped_byte : ℕ → List ℕ
escaped_byte b =
    if b == 60 then codes "&lt;" else (if b == 62 then codes "&gt;" else (if b == 38 then codes "&amp;" else (if b == 34 then codes "&quot;" else (if b == 39 then codes "&#39;" else b ∷ []))))

-- a text as it stands between tags, or between the quotes of an attribute
unfoldable pub escaped : List ℕ → List ℕ
escaped text = flat_map escaped_byte text

-- bytes as they are shown
abbrev pub shown : List ℕ → List ℕ
shown bytes = escaped (all_visible bytes)

-- the same as a piece of a policy or of a command line
unfoldable pub code_text : List ℕ → List ℕ
code_text bytes = codes "<code>" ++ shown bytes ++ codes "</code>"
