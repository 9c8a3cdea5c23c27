-- Requests that are told apart by what is printed of them.
-- Source: own.
use Rattle.std.specs.Prelude.{ℕ, ◌≡◌, ◌&&◌, List, Bool, true, Some, slice_get}
use Rattle.std.specs.List.{list_all}
use Rattle.aa_notation.specs.Parts.{are_bytes}
use Rattle.aa_notation.specs.Kinds.{is_askable}
use Rattle.aa_logs.specs.declared.chosen.Choice.{Choice}
use Rattle.aa_logs.specs.LogLines.{LogLine}
use Rattle.aa_log.specs.Found.{Asked, asked_key, requests_in}

-- a request that can be asked, of a profile whose name is bytes
abbrev pub can_be_asked : Asked → Bool
can_be_asked a = are_bytes a.profile && is_askable a.request

-- the same became of the same request of the same profile
abbrev pub IsSame : Asked → Asked → Type 0
IsSame a b = (a.became ≡ b.became) × (a.profile ≡ b.profile) × (a.request ≡ b.request)

-- requests of one key are the same; so those that are counted together are
abbrev pub KeysTell : Type 0
KeysTell = (a b : Asked) → can_be_asked a ≡ true → can_be_asked b ≡ true → asked_key a ≡ asked_key b → IsSame a b

-- what lines ask can be asked
abbrev pub LinesAskSo : Type 0
LinesAskSo = (c : Choice) (ls : List LogLine) → list_all (λ (l : LogLine). are_bytes l.bytes) ls ≡ true → list_all can_be_asked (requests_in c ls) ≡ true

-- so of the requests of lines two are counted together only where they are the same
abbrev pub RequestsTell : Type 0
RequestsTell = (c : Choice) (ls : List LogLine) → list_all (λ (l : LogLine). are_bytes l.bytes) ls ≡ true → (i j : ℕ) (a b : Asked)
    → slice_get (requests_in c ls) i ≡ Some a → slice_get (requests_in c ls) j ≡ Some b → asked_key a ≡ asked_key b → IsSame a b
