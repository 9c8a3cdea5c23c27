-- What the parts of a word are.
-- Source: apparmor.d(5), "Access Modes"; own.
use Rattle.std.specs.Prelude.{◌≡◌, ℕ, ◌==◌, nat_lt, List, [], ◌∷◌, if◌then◌else◌}
use Rattle.std.specs.Prelude.{Option, Some, None, option_and_then, bit_or, Result, Ok, Err, MatchResult}
use Rattle.std.specs.List.{list_all}
use Rattle.aa_base.specs.Hex.{digits_in}
use Rattle.aa_model.specs.Requests.{begins_with}
use Rattle.aa_model.specs.declared.request.Request.{Request}
use Rattle.aa_model.specs.declared.fault.RequestFault.{RequestFault}
use Rattle.aa_model.specs.declared.fault.RequestFault.TheVariants as fault
use Rattle.aa_notation.specs.declared.read.WordFault.{WordFault}
use Rattle.aa_notation.specs.declared.read.WordFault.TheVariants.{NoMemory, NoRequest}

-- the bytes that some upper-case hexadecimal digits are
abbrev pub hex_in : List ℕ → Option (List ℕ)
hex_in [] = None
hex_in (b ∷ bs) = if list_all (λ c. nat_lt c 97) (b ∷ bs) then digits_in (b ∷ bs) else None

-- a path stands as it is where it begins with /, else in digits
abbrev pub path_in : List ℕ → Option (List ℕ)
path_in text = if begins_with 47 text then Some text else hex_in text

-- the permission of a letter of rwakm
abbrev pub letter_in : ℕ → Option ℕ
letter_in c =
    if c == 114 then Some 1
    else (if c == 119 then Some 2
    else (if c == 97 then Some 4
    else (if c == 107 then Some 16
    else (if c == 109 then Some 32 else None))))

-- the bits so far, and those of the letters that follow
unfoldable pub letters_in : ℕ → List ℕ → Option ℕ
letters_in bits [] = Some bits
letters_in bits (c ∷ cs) = option_and_then (λ b. letters_in (bit_or bits b) cs) (letter_in c)

-- what is read of the text behind a front, if that stands first, else the other
abbrev pub or_else : Option (List ℕ) → (List ℕ → Option Request) → Option Request → Option Request
or_else None read other = other
or_else (Some text) read other = read text

-- why a word is no request, by why its request is refused
abbrev pub fault_of : RequestFault → WordFault
fault_of fault.NoMemory = NoMemory
fault_of fault.BadPath = NoRequest
fault_of fault.BadMask = NoRequest
fault_of fault.BadName = NoRequest

-- a request that can't be made is none
abbrev pub made_of : Result Request RequestFault → Result Request WordFault
made_of (Ok r) = Ok r
made_of (Err f) = Err (fault_of f)

-- a refusal for another cause than memory comes exactly where there is nothing
abbrev pub Fails : {A : Type 0} → WordFault → Option A → Type 0
Fails NoMemory o = Unit {0}
Fails NoRequest o = o ≡ None

-- what was read is what the definition says, unless memory ran out
abbrev pub Reads : {T A : Type 0} → (T → A) → Result T WordFault → Option A → Type 0
Reads shown r o = MatchResult r (λ t. o ≡ Some (shown t)) (λ e. Fails e o)
