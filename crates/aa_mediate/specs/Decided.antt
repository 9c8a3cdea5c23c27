-- From the bits of a request to its answer.
-- Source: CPR, "Profile modes"; own.
use Rattle.std.specs.Prelude.{ℕ, Bool, true, false, ◌==◌, if◌then◌else◌, Option, Some, None}
use Rattle.std.specs.Option.{option_map}
use Rattle.aa_model.specs.declared.policy.Profile.{Profile}
use Rattle.aa_compile.specs.Said.{perms_of, minus}
use Rattle.aa_model.specs.declared.label.Label.{Label}
use Rattle.aa_model.specs.declared.answer.Answer.{Answer}
use Rattle.aa_model.specs.declared.answer.Note.{Note}
use Rattle.aa_model.specs.declared.answer.NoteWord.{NoteWord}
use Rattle.aa_model.specs.declared.answer.NoteWord.TheVariants.{Denied, Allowed, Audit}
use Rattle.aa_mediate.specs.declared.bits.RequestBits.{RequestBits}

-- the bits for which a request is refused: the missing ones, in complain mode those of them that a rule denies
abbrev pub blocked : Profile → RequestBits → ℕ
blocked profile bits = if profile.complain then bits.denied.0 else bits.missing.0

-- a note, unless it were about nothing
abbrev pub note_of : NoteWord → ℕ → Option Note
note_of word bits = if bits == 0 then None else Some (record { word = word; perms = perms_of bits })

-- a refusal reports the blocked bits without the quiet ones, under the profile's audit flag all of them
abbrev pub refusal_note : Profile → RequestBits → Option Note
refusal_note profile bits = note_of Denied (if profile.audit then blocked profile bits else minus (blocked profile bits) bits.quiet.0)

-- a grant reports the missing bits, else the audited ones, under the audit flag all that was asked for
abbrev pub grant_note : Profile → RequestBits → Option Note
grant_note profile bits =
    if bits.missing.0 == 0 then note_of Audit (if profile.audit then bits.requested.0 else bits.audited.0)
    else note_of Allowed bits.missing.0

-- an answer of these parts
abbrev pub answered : Bool → Bool → Label → Option Note → Answer
answered granted scrub label note = record { granted = granted; scrub = scrub; label = label; note = note }

-- refused where a bit is blocked, and then the label stays; granted, the next one comes
abbrev pub decided : Profile → Label → Label → Bool → RequestBits → Answer
decided profile label next scrub bits =
    if blocked profile bits == 0 then answered true scrub next (grant_note profile bits)
    else answered false false label (refusal_note profile bits)

-- of a request that isn't about a file, the note names no permission
abbrev pub unnamed : Option Note → Option Note
unnamed note = option_map (λ (n : Note). record { word = n.word; perms = perms_of 0 }) note

-- the answer with its note's permissions left out
abbrev pub without_perms : Answer → Answer
without_perms a = answered a.granted a.scrub a.label (unnamed a.note)
