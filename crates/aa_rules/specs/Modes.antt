-- The modes of file rules: what their letters grant, and how they let a program be executed.
-- Source: apparmor.d(5), "Access Modes"; own.
use Rattle.std.specs.Prelude.{ℕ, List, [], ◌∷◌, ◌++◌, Bool, true, false, not, ◌&&◌, ◌||◌, ◌==◌, if◌then◌else◌, Option, Some, None, option_map, option_and_then, bit_or, codes, is_some, drop}
use Rattle.std.specs.Bool.{nat_eq}
use Rattle.std.specs.List.{list_any, take_while, prefix_len, starts_with}
use Rattle.std.specs.Str.{bytes_eq}
use Rattle.aa_base.specs.declared.fault.PolicyKind.{PolicyKind}
use Rattle.aa_base.specs.declared.fault.PolicyKind.TheVariants.{Unsupported, BadMode, WriteWithAppend}
use Rattle.aa_model.specs.declared.rule.ExecKind.{ExecKind}
use Rattle.aa_model.specs.declared.rule.ExecKind.TheVariants as kind
use Rattle.aa_model.specs.declared.rule.Fallback.{Fallback}
use Rattle.aa_model.specs.declared.rule.Fallback.TheVariants as fallback
use Rattle.aa_rules.specs.declared.modes.ExecMode.{ExecMode}
use Rattle.aa_rules.specs.declared.modes.Mode.{Mode}

-- r READ, w WRITE and APPEND, a APPEND, l LINK, k LOCK, m MMAP
abbrev pub letter_bits : ℕ → Option ℕ
letter_bits c =
    if c == 114 then Some 1
    else (if c == 119 then Some 6
    else (if c == 97 then Some 4
    else (if c == 108 then Some 8
    else (if c == 107 then Some 16
    else (if c == 109 then Some 32 else None)))))

-- the bits so far, and those of the letters that follow
unfoldable pub letters_bits : ℕ → List ℕ → Option ℕ
letters_bits bits [] = Some bits
letters_bits bits (c ∷ cs) = option_and_then (λ b. letters_bits (bit_or bits b) cs) (letter_bits c)

-- the letter is among these
abbrev pub has_letter : ℕ → List ℕ → Bool
has_letter c text = list_any (λ x. x == c) text

-- a letter of access
abbrev pub is_access_letter : ℕ → Bool
is_access_letter c = is_some (letter_bits c)

-- i u U p P c C x
abbrev pub is_exec_letter : ℕ → Bool
is_exec_letter c = c == 105 || c == 117 || c == 85 || c == 112 || c == 80 || c == 99 || c == 67 || c == 120

-- how a program is executed
abbrev pub how : ExecKind → Bool → Fallback → Option ExecMode
how k scrub f = Some (record { kind = k; scrub = scrub; fallback = f })

-- the exec parts of a rule that allows: an upper-case letter scrubs the environment
unfoldable pub exec_of : List ℕ → Option ExecMode
exec_of part =
    if bytes_eq part (codes "ix") then how kind.Inherit false fallback.Refuse
    else (if bytes_eq part (codes "ux") then how kind.Unconfined false fallback.Refuse
    else (if bytes_eq part (codes "Ux") then how kind.Unconfined true fallback.Refuse
    else (if bytes_eq part (codes "px") then how kind.Profile false fallback.Refuse
    else (if bytes_eq part (codes "Px") then how kind.Profile true fallback.Refuse
    else (if bytes_eq part (codes "cx") then how kind.Child false fallback.Refuse
    else (if bytes_eq part (codes "Cx") then how kind.Child true fallback.Refuse
    else (if bytes_eq part (codes "pix") then how kind.Profile false fallback.Inherit
    else (if bytes_eq part (codes "Pix") then how kind.Profile true fallback.Inherit
    else (if bytes_eq part (codes "cix") then how kind.Child false fallback.Inherit
    else (if bytes_eq part (codes "Cix") then how kind.Child true fallback.Inherit
    else (if bytes_eq part (codes "pux") then how kind.Profile false fallback.Unconfined
    else (if bytes_eq part (codes "PUx") then how kind.Profile true fallback.Unconfined
    else (if bytes_eq part (codes "cux") then how kind.Child false fallback.Unconfined
    else (if bytes_eq part (codes "CUx") then how kind.Child true fallback.Unconfined
    else None))))))))))))))

-- a mode of these bits, with this exec part
abbrev pub mode : ℕ → Option ExecMode → Mode
mode bits exec = record { perms = record { 0 = bits }; exec = exec }

-- the mode of these bits with an exec part, or with none: under deny it is x, and doesn't say how
unfoldable pub with_part : Bool → List ℕ → ℕ → Option Mode
with_part deny [] bits = Some (mode bits None)
with_part true (c ∷ cs) bits = if bytes_eq (c ∷ cs) (codes "x") then Some (mode (bit_or bits 64) None) else None
with_part false (c ∷ cs) bits = option_map (λ e. mode (bit_or bits 64) (Some e)) (exec_of (c ∷ cs))

-- what is left behind the first letters that are of this sort
abbrev pub behind : (ℕ → Bool) → List ℕ → List ℕ
behind fits text = drop (prefix_len fits text) text

-- the letters before an exec part, the exec part, and the letters behind it
abbrev pub front_of : List ℕ → List ℕ
front_of text = take_while is_access_letter text

-- the letters of a mode's exec part
abbrev pub part_of : List ℕ → List ℕ
part_of text = take_while is_exec_letter (behind is_access_letter text)

-- what stands behind a mode's exec part
abbrev pub back_of : List ℕ → List ℕ
back_of text = behind is_exec_letter (behind is_access_letter text)

-- what a mode says where w may be written beside a: its access letters, and one exec part at most
abbrev pub parts_of : Bool → List ℕ → Option Mode
parts_of deny text = option_and_then (λ bits. with_part deny (part_of text) bits) (letters_bits 0 (front_of text ++ back_of text))

-- w stands beside a
abbrev pub writes_and_appends : List ℕ → Bool
writes_and_appends text = has_letter 119 text && has_letter 97 text

-- what a mode says in a rule with deny or without it: w is not written beside a
unfoldable pub mode_of : Bool → List ℕ → Option Mode
mode_of deny text = if writes_and_appends text then None else parts_of deny text

-- an exec part of mixed case stands first: one that scrubs in one half alone
unfoldable pub begins_mixed : List ℕ → Bool
begins_mixed text =
    starts_with nat_eq text (codes "pUx") || starts_with nat_eq text (codes "Pux")
    || starts_with nat_eq text (codes "cUx") || starts_with nat_eq text (codes "Cux")

-- behind the letter an exec part may begin: it is the x at the end of one, or stands in none
abbrev pub frees_part : ℕ → Bool
frees_part c = c == 120 || not (is_exec_letter c)

-- an exec part of mixed case stands in the letters, each beginning where one may; whether one may at the first of them
unfoldable pub holds_mixed : Bool → List ℕ → Bool
holds_mixed may_begin [] = false
holds_mixed may_begin (c ∷ cs) = (may_begin && begins_mixed (c ∷ cs)) || holds_mixed (frees_part c) cs

-- an exec part of mixed case stands in the mode
abbrev pub is_mixed : List ℕ → Bool
is_mixed text = holds_mixed true text

-- what is wrong with a mode: mixed case before any other fault, and w beside a where nothing else is
unfoldable pub mode_fault : Bool → List ℕ → Option PolicyKind
mode_fault deny text =
    if is_some (parts_of deny text) then (if writes_and_appends text then Some WriteWithAppend else None)
    else (if is_mixed text then Some Unsupported else Some BadMode)
