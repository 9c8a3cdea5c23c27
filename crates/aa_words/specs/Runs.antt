-- How long the runs of a text are: names, comments, paths, variables, values, quoted texts and rules that are passed over.
-- Source: apparmor.d(5), "Format", "Globbing", "Variables"; own.
use Rattle.std.specs.Prelude.{ℕ, suc, ◌+◌, ◌-◌, List, [], ◌∷◌, drop, Bool, true, false, not, ◌==◌, ◌&&◌, ◌||◌, if◌then◌else◌, Option, Some, None, nat_le, codes}
use Rattle.std.specs.Str.{bytes_eq}
use Rattle.aa_words.specs.declared.runs.PathPlace.{PathPlace}
use Rattle.aa_words.specs.declared.skips.SkipMode.{SkipMode}
use Rattle.aa_words.specs.declared.skips.SkipMode.TheVariants.{Plain, Fresh, Dash, Quoted, Kept, Comment}
use Rattle.aa_words.specs.declared.skips.SkipPlace.{SkipPlace}

-- space, tab, CR and LF
abbrev pub is_white : ℕ → Bool
is_white b = b == 32 || b == 9 || b == 13 || b == 10

-- the byte stands first
abbrev pub begins_with : ℕ → List ℕ → Bool
begins_with c [] = false
begins_with c (b ∷ bs) = b == c

-- a Name ends at white space, at one of , " ( ) = { } and before ->; a zero byte ends every run
abbrev pub ends_name : ℕ → List ℕ → Bool
ends_name b bs = is_white b || b == 0 || b == 44 || b == 34 || b == 40 || b == 41 || b == 61 || b == 123 || b == 125 || (b == 45 && begins_with 62 bs)

-- a comment ends before the line's end
abbrev pub ends_comment : ℕ → Bool
ends_comment b = b == 10 || b == 0

-- a comma in a path ends it where the next byte is white space, # or } or the text ends
abbrev pub ends_after_comma : List ℕ → Bool
ends_after_comma [] = true
ends_after_comma (b ∷ bs) = is_white b || b == 35 || b == 125

-- where a path begins
abbrev pub path_start : PathPlace
path_start = record { depth = 0; in_class = false; kept = false }

-- a path ends at white space, at a quote, at a comma outside {} and []; a backslash keeps the next byte
abbrev pub ends_path : PathPlace → ℕ → List ℕ → Bool
ends_path p b bs = b == 0 || (not p.kept && (is_white b || b == 34 || (b == 44 && p.depth == 0 && not p.in_class && ends_after_comma bs)))

-- the place after a byte: inside [] only ] and a backslash count, and a } without { is a byte
abbrev pub path_next : PathPlace → ℕ → PathPlace
path_next p b =
    if p.kept then record { depth = p.depth; in_class = p.in_class; kept = false }
    else (if b == 92 then record { depth = p.depth; in_class = p.in_class; kept = true }
    else (if p.in_class then record { depth = p.depth; in_class = not (b == 93); kept = false }
    else (if b == 91 then record { depth = p.depth; in_class = true; kept = false }
    else (if b == 123 then record { depth = p.depth + 1; in_class = false; kept = false }
    else (if b == 125 then record { depth = p.depth - 1; in_class = false; kept = false }
    else p)))))

-- how long the run is
unfoldable pub name_len : List ℕ → ℕ
name_len [] = 0
name_len (b ∷ bs) = if ends_name b bs then 0 else suc (name_len bs)

-- how long a comment is
unfoldable pub comment_len : List ℕ → ℕ
comment_len [] = 0
comment_len (b ∷ bs) = if ends_comment b then 0 else suc (comment_len bs)

-- how long a path is that goes on from this place
unfoldable pub path_len : PathPlace → List ℕ → ℕ
path_len p [] = 0
path_len p (b ∷ bs) = if ends_path p b bs then 0 else suc (path_len (path_next p b) bs)

-- a variable's name is a letter, then letters, digits and _
abbrev pub is_letter : ℕ → Bool
is_letter b = (nat_le 97 b && nat_le b 122) || (nat_le 65 b && nat_le b 90)

-- a variable's name ends before what is no letter, digit or _
abbrev pub ends_variable : ℕ → Bool
ends_variable b = not (is_letter b || (nat_le 48 b && nat_le b 57) || b == 95)

-- a letter stands first
abbrev pub begins_with_letter : List ℕ → Bool
begins_with_letter [] = false
begins_with_letter (b ∷ bs) = is_letter b

-- how long a variable's name is
unfoldable pub variable_len : List ℕ → ℕ
variable_len [] = 0
variable_len (b ∷ bs) = if ends_variable b then 0 else suc (variable_len bs)

-- a text goes on by = or +=
abbrev pub assigns : List ℕ → Bool
assigns bs = begins_with 61 bs || (begins_with 43 bs && begins_with 61 (drop 1 bs))

-- } stands first, and an assignment's sign behind it
abbrev pub closes_before_sign : List ℕ → Bool
closes_before_sign bs = begins_with 125 bs && assigns (drop 1 bs)

-- how long {NAME} is, where it stands first and = or += follows
unfoldable pub assigned_len : List ℕ → Option ℕ
assigned_len [] = None
assigned_len (b ∷ bs) =
    if b == 123 && begins_with_letter bs && closes_before_sign (drop (variable_len bs) bs) then Some (variable_len bs + 2) else None

-- a variable and nothing else: @{NAME}
abbrev pub is_braced_name : List ℕ → Bool
is_braced_name [] = false
is_braced_name (b ∷ bs) = b == 123 && begins_with_letter bs && bytes_eq (drop (variable_len bs) bs) (codes "}")

-- the text is @{NAME} and nothing else
unfoldable pub is_variable : List ℕ → Bool
is_variable [] = false
is_variable (b ∷ bs) = b == 64 && is_braced_name bs

-- a value ends at white space and before a backslash that stands straight before a line end
abbrev pub ends_value : ℕ → List ℕ → Bool
ends_value b bs = is_white b || b == 0 || (b == 92 && begins_with 10 bs)

-- how long a value is
unfoldable pub value_len : List ℕ → ℕ
value_len [] = 0
value_len (b ∷ bs) = if ends_value b bs then 0 else suc (value_len bs)

-- a quoted text ends before a quote that no backslash keeps
abbrev pub ends_quote : Bool → ℕ → Bool
ends_quote kept b = b == 0 || (not kept && b == 34)

-- whether a backslash keeps the byte behind
abbrev pub quote_next : Bool → ℕ → Bool
quote_next kept b = not kept && b == 92

-- how long a quoted text is, where the byte before keeps the first or not
unfoldable pub quote_len : Bool → List ℕ → ℕ
quote_len kept [] = 0
quote_len kept (b ∷ bs) = if ends_quote kept b then 0 else suc (quote_len (quote_next kept b) bs)

-- how long a quoted text is behind its opening quote, with the quote that closes it, where one does
unfoldable pub quoted_len : List ℕ → Option ℕ
quoted_len bs = if begins_with 34 (drop (quote_len false bs) bs) then Some (suc (quote_len false bs)) else None

-- the signs of one byte
abbrev pub is_sign : ℕ → Bool
is_sign b = b == 123 || b == 125 || b == 44 || b == 61 || b == 40 || b == 41

-- where a rule that is passed over goes on behind its keyword
abbrev pub skip_start : SkipPlace
skip_start = record { round = 0; curly = 0; square = 0; mode = Plain }

-- what is passed over stands outside quotes and comments
abbrev pub is_outside : SkipMode → Bool
is_outside Plain = true
is_outside Fresh = true
is_outside Dash = true
is_outside Quoted = false
is_outside Kept = false
is_outside Comment = false

-- such a rule ends before a comma outside quotes, comments, (), {} and []
abbrev pub ends_skip : SkipPlace → ℕ → Bool
ends_skip p b = b == 0 || (b == 44 && is_outside p.mode && p.round == 0 && p.curly == 0 && p.square == 0)

-- a depth after a byte: one sign opens, another closes, and it never falls below 0
abbrev pub depth_next : ℕ → ℕ → ℕ → ℕ → ℕ
depth_next opening closing depth b = if b == opening then depth + 1 else (if b == closing then depth - 1 else depth)

-- the mode after a byte outside quotes and comments: where a word could begin, # begins a comment
abbrev pub outside_next : Bool → Bool → ℕ → SkipMode
outside_next fresh dash b =
    if b == 34 then Quoted
    else (if b == 35 && fresh then Comment
    else (if is_white b || is_sign b || (b == 62 && dash) then Fresh
    else (if b == 45 then Dash
    else Plain)))

-- how the byte after this one is read
abbrev pub mode_next : SkipMode → ℕ → SkipMode
mode_next Plain b = outside_next false false b
mode_next Fresh b = outside_next true false b
mode_next Dash b = outside_next false true b
mode_next Quoted b = if b == 92 then Kept else (if b == 34 then Fresh else Quoted)
mode_next Kept b = Quoted
mode_next Comment b = if b == 10 then Fresh else Comment

-- the place after a byte of a rule that is passed over
abbrev pub skip_next : SkipPlace → ℕ → SkipPlace
skip_next p b =
    if is_outside p.mode
    then record { round = depth_next 40 41 p.round b; curly = depth_next 123 125 p.curly b; square = depth_next 91 93 p.square b; mode = mode_next p.mode b }
    else record { round = p.round; curly = p.curly; square = p.square; mode = mode_next p.mode b }

-- how long a rule is that is passed over, from this place on
unfoldable pub skip_len : SkipPlace → List ℕ → ℕ
skip_len p [] = 0
skip_len p (b ∷ bs) = if ends_skip p b then 0 else suc (skip_len (skip_next p b) bs)

-- how long a rule that is passed over is, its keyword with it, up to the comma or the zero byte or the end
unfoldable pub skipped_len : List ℕ → ℕ
skipped_len bytes = name_len bytes + skip_len skip_start (drop (name_len bytes) bytes)
