use Rattle.std.proofs.Common.{inl, inr, map, ◌∙◌}
use Rattle.aa_explain.specs.Places.{places_data}
use Rattle.aa_load.specs.Loadings.{reading_data}
use Rattle.aa_load.proofs.Adding.{same_data, unjoined}
use Rattle.aa_load.proofs.reading.Reading.join.Goals as goal

pub returns-in_ok-note-in-Ok-clause-ok : goal.returns-in_ok-note-in-Ok-clause-ok
returns-in_ok-note-in-Ok-clause-ok c = same_data _ _ _ _ _ _ (c.note.ensures.joining ∙ c.in-Ok.ensures.ok) c.in_ok-note-in-Ok.ensures.owners c.in_ok-note-in-Ok.ensures.places

pub returns-in-Err-clause-cause : goal.returns-in-Err-clause-cause
returns-in-Err-clause-cause c other =
    elim c.told.ensures [
      | inl memory ↦ absurd (other memory)
      | inr told ↦ let told = rw c.as_slice.ensures.value at told in
          unjoined c.args.number (reading_data c.args.self.now) c.args.policy (map places_data c.args.places.items) c.in-Err.refused.fault _ c.in-Err.ensures.fault told
    ]
