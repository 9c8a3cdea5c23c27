-- What a reader of Markdown takes for the text of a code span, and where the span ends.
-- Source: CommonMark, "Code spans"; own.
use Rattle.std.specs.Prelude.{◌≡◌, ℕ, List, [], ◌∷◌, ◌++◌, ◌==◌, ◌||◌, ◌&&◌, ◌+◌, not, length, Bool, true, false, Option, Some, None, option_map, if◌then◌else◌}
use Rattle.std.specs.List.{list_any}
use Rattle.aa_report.specs.Spans.{span, shown_span}

-- a text that is read, and what stands behind it
pub record Read : Type 0 where
  pub text : List ℕ
  pub rest : List ℕ

-- more at its head
abbrev pub behind : List ℕ → Read → Read
behind front r = record { text = front ++ r.text; rest = r.rest }

-- what is read up to a run of so many backquotes, behind those of a run that may be it; nothing where there is none
abbrev pub read_within : ℕ → List ℕ → List ℕ → Option Read
read_within n run [] = if length run == n then Some (record { text = []; rest = [] }) else None
read_within n run (b ∷ bs) =
    if b == 96 then read_within n (run ++ b ∷ []) bs
    else (if length run == n then Some (record { text = []; rest = b ∷ bs }) else option_map (behind (run ++ b ∷ [])) (read_within n [] bs))

-- what stands between the run of backquotes that goes on here, of which so many stand before, and the next that is as long
abbrev pub read_between : ℕ → List ℕ → Option Read
read_between n [] = None
read_between n (b ∷ bs) = if b == 96 then read_between (n + 1) bs else (if n == 0 then None else read_within n [] (b ∷ bs))

-- spaces alone
abbrev pub is_blank : List ℕ → Bool
is_blank [] = true
is_blank (b ∷ bs) = b == 32 && is_blank bs

-- a space stands last
abbrev pub is_blank_last : List ℕ → Bool
is_blank_last [] = false
is_blank_last (b ∷ []) = b == 32
is_blank_last (b ∷ c ∷ bs) = is_blank_last (c ∷ bs)

-- all but the last byte
abbrev pub but_last : List ℕ → List ℕ
but_last [] = []
but_last (b ∷ []) = []
but_last (b ∷ c ∷ bs) = b ∷ but_last (c ∷ bs)

-- of a text that begins and ends with a space, these aren't read, unless it is of spaces alone
abbrev pub without_pad : List ℕ → List ℕ
without_pad [] = []
without_pad (b ∷ bs) = if b == 32 && is_blank_last bs && not (is_blank bs) then but_last bs else b ∷ bs

-- without these spaces
abbrev pub stripped : Read → Read
stripped r = record { text = without_pad r.text; rest = r.rest }

-- the text of the span that begins here, and what stands behind it
abbrev pub read_span : List ℕ → Option Read
read_span bytes = option_map stripped (read_between 0 bytes)

-- a backquote stands first
abbrev pub is_tick_first : List ℕ → Bool
is_tick_first [] = false
is_tick_first (b ∷ bs) = b == 96

-- a text as it is read: one of spaces alone is some more of them
abbrev pub read_as : List ℕ → List ℕ
read_as text = if is_blank text then 32 ∷ text ++ 32 ∷ [] else text

-- a byte that ends a line
abbrev pub ends_line : ℕ → Bool
ends_line b = b == 10 || b == 13

-- Each text, as a code span, is read as that text, whatever stands behind the span but a backquote; and no byte of what is shown of bytes
-- ends a line, so that they begin nothing else either.
pub record SpansEndAtFences : Type 0 where
  pub read : (text rest : List ℕ) → is_tick_first rest ≡ false → read_span (span text ++ rest) ≡ Some (record { text = read_as text; rest = rest })
  pub one_line : (bytes : List ℕ) → list_any ends_line (shown_span bytes) ≡ false
