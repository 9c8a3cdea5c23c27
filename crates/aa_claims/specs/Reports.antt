-- What is said of a claim.
-- Source: own.
use Rattle.std.specs.Prelude.{◌≡◌, ℕ, List, [], codes, true}
use Rattle.aa_text.specs.declared.fault.FaultReport.{FaultReport}
use Rattle.aa_text.specs.declared.position.PlaceAt.{PlaceAt}
use Rattle.aa_text.specs.Places.{place_in}
use Rattle.aa_text.specs.Excerpts.{excerpt_of}
use Rattle.std.specs.Prelude.{Some}
use Rattle.aa_claims.specs.declared.fault.Wrong.{Wrong}
use Rattle.aa_claims.specs.Faults.{sentence}

-- the place of a byte, with the byte
abbrev pub place_of : List ℕ → ℕ → PlaceAt
place_of text byte = record { line = (place_in text byte).line; column = (place_in text byte).column; byte = byte }

-- what is wrong at a byte of the claims' text, where, and the line with a caret
pub record IsClaimReport (path text : List ℕ) (byte : ℕ) (fault : Wrong) (r : FaultReport) : Type 0 where
  pub kind : r.kind.now ≡ codes "BadClaim"
  pub path_is : r.path.items ≡ path
  pub place : r.place ≡ Some (place_of text byte)
  pub message : r.message.items ≡ sentence fault
  pub excerpt : r.excerpt.items ≡ excerpt_of text byte
  pub chain : r.chain.items ≡ []
  pub further : r.further.items ≡ []
