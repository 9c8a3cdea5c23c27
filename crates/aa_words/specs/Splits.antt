-- The words of a text: it is cut into pieces, each what stands first there and as long as its kind allows.
-- Source: apparmor.d(5), "Format", "Rule Qualifiers", "#include mechanism"; own.
use Rattle.std.specs.Prelude.{ℕ, zero, suc, nat_lt, nat_le, Result, Ok, Err, ◌+◌, ◌-◌, ◌≤◌, ◌≡◌, List, [], ◌∷◌, ◌++◌, length}
use Rattle.std.specs.Prelude.{map, take, drop, flat_map, Bool, true, false, not, ◌==◌, ◌&&◌, if◌then◌else◌, Option, Some, None, codes, unwrap_or}
use Rattle.std.specs.Prelude.{is_some}
use Rattle.std.specs.List.{list_any}
use Rattle.std.specs.Str.{bytes_eq}
use Rattle.aa_words.specs.declared.word.WordKind.{WordKind}
use Rattle.aa_words.specs.declared.word.WordKind.TheVariants.{Open, Close, Comma, Equals, PlusEquals, Arrow, LeftParen, RightParen, Path, Name, Quoted, Value, Skipped}
use Rattle.aa_words.specs.declared.word.Span.{Span}
use Rattle.aa_words.specs.declared.word.Word.{Word}
use Rattle.aa_words.specs.declared.piece.Piece.{Piece}
use Rattle.aa_words.specs.declared.piece.Piece.TheVariants.{Blank, JoinedLine, Comment, Include, Variable, QuotedValue, Token}
use Rattle.aa_words.specs.declared.piece.RulePlace.{RulePlace}
use Rattle.aa_words.specs.declared.piece.RulePlace.TheVariants.{Begins, Qualified, Within, BehindVariable, Values}
use Rattle.aa_words.specs.declared.piece.Place.{Place}
use Rattle.aa_words.specs.declared.reading.Reading.{Reading}
use Rattle.aa_words.specs.declared.reading.Count.{Count}
use Rattle.aa_base.specs.declared.fault.Spot.{Spot}
use Rattle.aa_base.specs.declared.fault.PolicyKind.{PolicyKind}
use Rattle.aa_base.specs.declared.fault.PolicyKind.TheVariants.{MissingInclude, IncludeDepth, TooLarge}
use Rattle.aa_base.specs.declared.fault.PolicyFault.{PolicyFault}
use Rattle.aa_base.specs.Kinds.{at_start}
use Rattle.aa_words.specs.Runs.{is_white, begins_with, name_len, comment_len, path_len, path_start, is_variable, assigned_len, value_len, quoted_len, skipped_len}
use Rattle.aa_words.specs.Includes.{is_hash_include, include_form, has_form, include_len, included_name, is_optional}

-- a word without where it lies in memory
pub record WordData : Type 0 where
  pub kind : WordKind
  pub text : List ℕ
  pub span : Span

-- a word without where it lies in memory
abbrev pub word_data : Word → WordData
word_data w = record { kind = w.kind; text = w.text.now; span = w.span }

-- words without where they lie in memory
abbrev pub words_data : List Word → List WordData
words_data ws = map word_data ws

-- a piece of the text
pub record Part : Type 0 where
  pub kind : Piece
  pub text : List ℕ

-- the start of a text, where a rule begins
abbrev pub start : Place
start = record { rule = Begins; parens = 0; behind_run = false }

-- a rule begins at the place
abbrev pub is_beginning : RulePlace → Bool
is_beginning Begins = true
is_beginning _ = false

-- a rule that is passed over may begin: qualifiers may stand before it
abbrev pub may_skip : RulePlace → Bool
may_skip Begins = true
may_skip Qualified = true
may_skip _ = false

-- an assignment's values stand at the place
abbrev pub is_among_values : RulePlace → Bool
is_among_values Values = true
is_among_values _ = false

-- the text is one of these
abbrev pub is_one_of : List (List ℕ) → List ℕ → Bool
is_one_of names text = list_any (λ n. bytes_eq text n) names

-- the qualifiers of a rule
abbrev pub qualifiers : List (List ℕ)
qualifiers = codes "audit" ∷ codes "allow" ∷ codes "deny" ∷ []

-- the words with which, where a rule begins or behind qualifiers, a rule of a kind begins that is passed over
abbrev pub passed_over : List (List ℕ)
passed_over = codes "signal" ∷ codes "ptrace" ∷ codes "dbus" ∷ codes "unix" ∷ codes "mount" ∷ codes "remount" ∷ codes "umount" ∷ codes "pivot_root" ∷
    codes "set" ∷ codes "userns" ∷ codes "mqueue" ∷ codes "io_uring" ∷ []

-- a quoted text: one that is closed, and not straight behind a run
abbrev pub quote_at : Bool → Piece → List ℕ → Option Piece
quote_at behind_run k bs = if not behind_run && is_some (quoted_len bs) then Some k else None

-- a rule that is passed over: one that a comma ends
abbrev pub skip_at : List ℕ → Option Piece
skip_at bs = if begins_with 44 (drop (skipped_len bs) bs) then Some (Token Skipped) else None

-- an include: one of the right form
abbrev pub include_at : List ℕ → Option Piece
include_at bytes = if has_form (include_form (drop (name_len bytes) bytes)) then Some Include else None

-- a Name, or what begins with the whole run that a Name would have there
abbrev pub name_at : RulePlace → List ℕ → Option Piece
name_at rule bytes =
    if may_skip rule && is_one_of passed_over (take (name_len bytes) bytes) then skip_at (drop 1 bytes)
    else (if is_beginning rule && bytes_eq (take (name_len bytes) bytes) (codes "include") then include_at bytes
    else Some (Token Name))

-- what stands first among the values of an assignment
abbrev pub value_at : Place → ℕ → List ℕ → Option Piece
value_at place b bs =
    if is_white b then Some Blank
    else (if b == 35 then Some Comment
    else (if b == 92 && begins_with 10 bs then Some JoinedLine
    else (if b == 34 then quote_at place.behind_run QuotedValue bs
    else (if b == 0 then None
    else Some (Token Value)))))

-- a run or an include, or a zero byte, which is nothing
abbrev pub run_at : Place → ℕ → List ℕ → Option Piece
run_at place b bs =
    if b == 47 then Some (Token Path)
    else (if b == 64 && begins_with 123 bs then (if is_some (assigned_len bs) then Some Variable else Some (Token Path))
    else (if b == 0 then None
    else name_at place.rule (b ∷ bs)))

-- what stands first elsewhere
abbrev pub word_at : Place → ℕ → List ℕ → Option Piece
word_at place b bs =
    if is_white b then Some Blank
    else (if b == 35 then (if is_beginning place.rule && is_hash_include (b ∷ bs) then Some Include else Some Comment)
    else (if b == 34 then quote_at place.behind_run (Token Quoted) bs
    else (if b == 123 then Some (Token Open)
    else (if b == 125 then Some (Token Close)
    else (if b == 44 then Some (Token Comma)
    else (if b == 61 then Some (Token Equals)
    else (if b == 40 then Some (Token LeftParen)
    else (if b == 41 then Some (Token RightParen)
    else (if b == 43 && begins_with 61 bs then Some (Token PlusEquals)
    else (if b == 45 && begins_with 62 bs then Some (Token Arrow)
    else run_at place b bs))))))))))

-- What stands first, if it is a piece of this language.
unfoldable pub piece_at : Place → List ℕ → Option Piece
piece_at place [] = None
piece_at place (b ∷ bs) = if is_among_values place.rule then value_at place b bs else word_at place b bs

-- how many bytes it has after its first, as many as its kind allows
unfoldable pub run_after : Piece → List ℕ → ℕ
run_after JoinedLine bytes = length (take 1 bytes)
run_after Comment bytes = comment_len bytes
run_after Include bytes = include_len bytes
run_after Variable bytes = unwrap_or (assigned_len bytes) 0
run_after QuotedValue bytes = unwrap_or (quoted_len bytes) 0
run_after (Token PlusEquals) bytes = length (take 1 bytes)
run_after (Token Arrow) bytes = length (take 1 bytes)
run_after (Token Path) bytes = path_len path_start bytes
run_after (Token Name) bytes = name_len bytes
run_after (Token Quoted) bytes = unwrap_or (quoted_len bytes) 0
run_after (Token Value) bytes = value_len bytes
run_after (Token Skipped) bytes = skipped_len bytes
run_after _ bytes = 0

-- how many bytes it has where it stands first
abbrev pub extent : Piece → List ℕ → ℕ
extent k bytes = suc (run_after k (drop 1 bytes))

-- where in a rule the text goes on behind a Name
abbrev pub behind_name_word : RulePlace → List ℕ → RulePlace
behind_name_word rule text = if may_skip rule && is_one_of qualifiers text then Qualified else Within

-- behind white space: a line's end ends an assignment, and a rule begins
abbrev pub behind_blank : RulePlace → List ℕ → RulePlace
behind_blank rule text = if is_among_values rule && begins_with 10 text then Begins else rule

-- a sign of assignment behind a variable begins its values
abbrev pub behind_assigning : RulePlace → RulePlace
behind_assigning BehindVariable = Values
behind_assigning _ = Within

-- where in a rule the text goes on behind a piece: a comma outside parentheses ends the rule
abbrev pub rule_after : Place → Piece → List ℕ → RulePlace
rule_after place Blank text = behind_blank place.rule text
rule_after place JoinedLine text = place.rule
rule_after place Comment text = place.rule
rule_after place Include text = Begins
rule_after place Variable text = BehindVariable
rule_after place QuotedValue text = Values
rule_after place (Token Open) text = Begins
rule_after place (Token Close) text = Begins
rule_after place (Token Comma) text = if place.parens == 0 then Begins else Within
rule_after place (Token Equals) text = behind_assigning place.rule
rule_after place (Token PlusEquals) text = behind_assigning place.rule
rule_after place (Token Path) text = if is_variable text then BehindVariable else Within
rule_after place (Token Name) text = behind_name_word place.rule text
rule_after place (Token Value) text = Values
rule_after place _ text = Within

-- how many parentheses are open behind a piece
abbrev pub parens_after : ℕ → Piece → ℕ
parens_after parens (Token LeftParen) = parens + 1
parens_after parens (Token RightParen) = parens - 1
parens_after parens _ = parens

-- the words that are runs
abbrev pub is_run : Piece → Bool
is_run Variable = true
is_run QuotedValue = true
is_run (Token Path) = true
is_run (Token Name) = true
is_run (Token Quoted) = true
is_run (Token Value) = true
is_run _ = false

-- the place behind a piece
abbrev pub place_after : Place → Piece → List ℕ → Place
place_after place k text = record { rule = rule_after place k text; parens = parens_after place.parens k; behind_run = is_run k }

-- the bytes of the pieces
abbrev pub spelled : List Part → List ℕ
spelled ps = flat_map (λ p. p.text) ps

-- the piece stands there, before the rest, and is as long as its kind allows
pub record IsPart (place : Place) (p : Part) (rest : List ℕ) : Type 0 where
  pub stands : piece_at place (p.text ++ rest) ≡ Some p.kind
  pub long : length p.text ≡ extent p.kind (p.text ++ rest)

-- each part stands at the place behind those before it, as long as its kind allows
abbrev pub AreParts : Place → List Part → Type 0
AreParts place [] = Unit {0}
AreParts place (p ∷ ps) = IsPart place p (spelled ps) × AreParts (place_after place p.kind p.text) ps

-- the word that these bytes of a reading are
abbrev pub reading_word : Reading → WordKind → ℕ → List ℕ → WordData
reading_word r kind at text = record { kind = kind; text = text; span = record { reading = r.number; file = r.file; start = at; end = at + length text } }

-- what stands between the quotes
abbrev pub unquoted : List ℕ → List ℕ
unquoted [] = []
unquoted (b ∷ bs) = take (length bs - 1) bs

-- the kind of word that a piece is
abbrev pub kind_of : Piece → Option WordKind
kind_of Variable = Some Path
kind_of QuotedValue = Some Value
kind_of (Token kind) = Some kind
kind_of _ = None

-- the piece is a text in quotes
abbrev pub is_in_quotes : Piece → Bool
is_in_quotes QuotedValue = true
is_in_quotes (Token Quoted) = true
is_in_quotes _ = false

-- a word of the whole piece, or of what stands between its quotes
abbrev pub token_word : Reading → Bool → ℕ → List ℕ → WordKind → WordData
token_word r true at text kind = reading_word r kind (at + 1) (unquoted text)
token_word r false at text kind = reading_word r kind at text

-- the word that a piece is, if it is one
abbrev pub words_in : Reading → Bool → ℕ → List ℕ → Option WordKind → List WordData
words_in r in_quotes at text None = []
words_in r in_quotes at text (Some kind) = token_word r in_quotes at text kind ∷ []

-- the word that a piece is, at its place in a reading's text
abbrev pub word_of : Reading → ℕ → Piece → List ℕ → List WordData
word_of r at k text = words_in r (is_in_quotes k) at text (kind_of k)

-- the source of a name: its number, as they count up in the order in which they were added, and its text
unfoldable pub source_from : ℕ → List ℕ → List (List ℕ × List ℕ) → Option (ℕ × List ℕ)
source_from number name [] = None
source_from number name (e ∷ es) = if bytes_eq name e.0 then Some (number, e.1) else source_from (number + 1) name es

-- a source that is read, its reading, and how much was read by then, it among them
pub record Opening : Type 0 where
  pub reading : Reading
  pub text : List ℕ
  pub count : Count

-- one source more may be read: no more than 4,096 readings, and 16,777,216 bytes in them together
abbrev pub fits : Count → List ℕ → Bool
fits n text = nat_lt n.readings 4096 && nat_le (length text) (16777216 - n.bytes)

-- the reading of an included source, and the counts with it
abbrev pub opened : Count → ℕ × List ℕ → Opening
opened n source = record { reading = record { number = n.readings; file = source.0 }; text = source.1; count = record { readings = n.readings + 1; bytes = n.bytes + length source.1 } }

-- the fault of a kind at a place
abbrev pub fault_of_kind : PolicyKind → Spot → PolicyFault
fault_of_kind kind spot = record { kind = kind; at = spot }

-- what an include opens, with so many depths left: a source in a reading of its own, or nothing, or why it is refused
abbrev pub opens : ℕ → Spot → Bool → Count → Option (ℕ × List ℕ) → Result (Option Opening) PolicyFault
opens depth spot optional n None = if optional then Ok None else Err (fault_of_kind MissingInclude spot)
opens depth spot optional n (Some source) =
    if depth == 0 then Err (fault_of_kind IncludeDepth spot)
    else (if fits n source.1 then Ok (Some (opened n source)) else Err (at_start TooLarge))

-- the sources, how many depths are left for includes, and the reading
pub record Setting : Type 0 where
  pub sources : List (List ℕ × List ℕ)
  pub depth : ℕ
  pub reading : Reading

-- what an include opens: a reading, nothing, or a fault
abbrev pub include_opens : Setting → ℕ → List ℕ → Count → Result (Option Opening) PolicyFault
include_opens s at text n = opens s.depth (record { file = s.reading.file; byte = at }) (is_optional text) n (source_from 1 (included_name text) s.sources)

-- the piece is an include
abbrev pub is_include : Piece → Bool
is_include Include = true
is_include _ = false

-- an include stands for the words of what it opens
abbrev pub IncludeGives : (Reading → List ℕ → Count → List WordData → Count → Type 0) → Count → Result (Option Opening) PolicyFault → List WordData → Count → Type 0
IncludeGives deeper n (Ok None) ws m = (ws ≡ []) × (m ≡ n)
IncludeGives deeper n (Ok (Some o)) ws m = deeper o.reading o.text o.count ws m
IncludeGives deeper n (Err fault) ws m = ⊥

-- a piece gives these words and leaves these counts: an include those of its source, another its own
abbrev pub PieceGives : (Reading → List ℕ → Count → List WordData → Count → Type 0) → Setting → ℕ → Piece → List ℕ → Count → Bool → List WordData → Count → Type 0
PieceGives deeper s at k text n true ws m = IncludeGives deeper n (include_opens s at text n) ws m
PieceGives deeper s at k text n false ws m = (ws ≡ word_of s.reading at k text) × (m ≡ n)

-- a piece gives these words, and so much was read before it and behind it
abbrev pub PartGives : (Reading → List ℕ → Count → List WordData → Count → Type 0) → Setting → ℕ → Part → Count → List WordData → Count → Type 0
PartGives deeper s at p n ws m = PieceGives deeper s at p.kind p.text n (is_include p.kind) ws m

-- the pieces give these words, one behind the other
abbrev pub Gives : (Reading → List ℕ → Count → List WordData → Count → Type 0) → Setting → ℕ → List Part → Count → List WordData → Count → Type 0
Gives deeper s at [] n ws m = (ws ≡ []) × (m ≡ n)
Gives deeper s at (p ∷ ps) n ws m =
    (first : List WordData) × (k : Count) × (others : List WordData) × PartGives deeper s at p n first k × Gives deeper s (at + length p.text) ps k others m × (ws ≡ first ++ others)

-- the text is cut into pieces, which give these words
abbrev pub ReadsBy : (Reading → List ℕ → Count → List WordData → Count → Type 0) → Setting → List ℕ → Count → List WordData → Count → Type 0
ReadsBy deeper s text n ws m = (ps : List Part) × (text ≡ spelled ps) × AreParts start ps × Gives deeper s 0 ps n ws m

-- With so many depths for it and its includes, a reading of a text gives these words; so much was read before and behind it.
-- Includes are defined by how many depths are left: that needs no list of the sources on the way, and the limits count readings
-- in their order.
unfoldable pub Reads : ℕ → List (List ℕ × List ℕ) → Reading → List ℕ → Count → List WordData → Count → Type 0
Reads zero sources r text n ws m = ⊥
Reads (suc d) sources r text n ws m = ReadsBy (Reads d sources) (record { sources = sources; depth = d; reading = r }) text n ws m

-- the reading of the main text
abbrev pub main_reading : Reading
main_reading = record { number = 0; file = 0 }

-- what is counted once the main text is read
abbrev pub main_count : List ℕ → Count
main_count main = record { readings = 1; bytes = length main }

-- the main text's words, and those of the sources that it includes, up to 16 deep
abbrev pub Splits : List (List ℕ × List ℕ) → List ℕ → List WordData → Type 0
Splits sources main ws = (length main ≤ 1048576) × (m : Count) × Reads 17 sources main_reading main (main_count main) ws m
