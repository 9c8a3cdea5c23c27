-- Words of which profiles that weren't read could change what is answered.
-- Source: own.
use Rattle.std.specs.Prelude.{◌≡◌, ◌==◌, ℕ, List, [], ◌∷◌, Bool, true, false, not, ◌&&◌, ◌||◌, is_some, Option, Some, None, if◌then◌else◌}
use Rattle.std.specs.Option.{option_map_or}
use Rattle.std.specs.List.{list_any, slice_get}
use Rattle.aa_pattern.specs.declared.item.Item.{Item, Byte}
use Rattle.aa_pattern.specs.declared.pattern.Pattern.{Pattern}
use Rattle.aa_model.specs.declared.rule.ExecKind.{ExecKind}
use Rattle.aa_model.specs.declared.rule.ExecKind.TheVariants.{Profile as Named}
use Rattle.aa_model.specs.declared.rule.Exec.{Exec}
use Rattle.aa_model.specs.declared.rule.FileRule.{FileRule}
use Rattle.aa_model.specs.declared.policy.Profile.{Profile}
use Rattle.aa_model.specs.declared.label.Label.{Label}
use Rattle.aa_model.specs.declared.label.Label.TheVariants.{Unconfined, Confined}
use Rattle.aa_model.specs.declared.request.Request.{Request}
use Rattle.aa_skipping.specs.declared.unread.Head.{Head}
use Rattle.aa_skipping.specs.declared.unread.Unread.{Unread}
use Rattle.aa_skipping.specs.Undecided.{is_unsure_way, undecided}
use Rattle.aa_quantifiers.specs.declared.word.Word.{Word}
use Rattle.aa_quantifiers.specs.declared.word.Word.TheVariants.{Files, Execs, One}
use Rattle.aa_quantifiers.specs.Words.{IsOf}

-- the byte that an item is, if it is one
abbrev pub byte_of : Item → Option ℕ
byte_of (Byte b) = Some b
byte_of _ = None

-- where both are bytes these have to be the same, and what stands behind has to meet; else it may
abbrev pub may_go_on : Option ℕ → Option ℕ → Bool → Bool
may_go_on None other rest = true
may_go_on (Some a) None rest = true
may_go_on (Some a) (Some b) rest = a == b && rest

-- some path may be matched by both: no bytes at their fronts differ
abbrev pub may_meet : List Item → List Item → Bool
may_meet [] ys = true
may_meet (x ∷ xs) [] = true
may_meet (x ∷ xs) (y ∷ ys) = may_go_on (byte_of x) (byte_of y) (may_meet xs ys)

-- so of patterns
abbrev pub meets : Pattern → Pattern → Bool
meets p q = may_meet p.items.items q.items.items

-- a profile that wasn't read may be attached to some path of the pattern
abbrev pub may_attach : Pattern → Unread → Bool
may_attach p unread = unread.others || list_any (λ (h : Head). list_any (meets p) h.attachments) unread.heads

-- such a way to execute searches by attachment among all
abbrev pub is_search : ExecKind → Option (List ℕ) → Bool
is_search Named None = true
is_search Named (Some name) = false
is_search _ target = false

-- it may not be known where the way leads at some path of the pattern
abbrev pub may_be_unsure : List Profile → Unread → Profile → Pattern → Exec → Bool
may_be_unsure profiles unread p pattern e = if is_search e.kind e.target then may_attach pattern unread else is_unsure_way profiles unread p [] e

-- a rule may say how a program at some path of the pattern is executed, and lead it isn't known where
abbrev pub is_open_rule : List Profile → Unread → Profile → Pattern → FileRule → Bool
is_open_rule profiles unread p pattern r =
    not r.deny && (list_any (meets pattern) r.patterns && option_map_or (may_be_unsure profiles unread p pattern) r.exec false)

-- one of the profile's rules is such
abbrev pub is_open_in : List Profile → Unread → Pattern → Profile → Bool
is_open_in profiles unread pattern p = list_any (is_open_rule profiles unread p pattern) p.files

-- the label is one of a profile that isn't there
abbrev pub is_nobodys : List Profile → Label → Bool
is_nobodys profiles (Unconfined k) = false
is_nobodys profiles (Confined k n) = not (is_some (slice_get profiles n))

-- profiles that weren't read could change what is answered to requests of the word at a label
unfoldable pub is_open_word : List Profile → Unread → Label → Word → Bool
is_open_word profiles unread label (One r) = undecided profiles unread label r
is_open_word profiles unread (Unconfined k) (Execs w) = may_attach w.pattern unread
is_open_word profiles unread (Confined k n) (Execs w) = option_map_or (is_open_in profiles unread w.pattern) (slice_get profiles n) true
is_open_word profiles unread label (Files w) = is_nobodys profiles label

-- where they could not, none of these requests is undecided
abbrev pub ClosedWords : Type 0
ClosedWords = (profiles : List Profile) (unread : Unread) (label : Label) (w : Word) → is_open_word profiles unread label w ≡ false
    → (r : Request) → IsOf w r → undecided profiles unread label r ≡ false
