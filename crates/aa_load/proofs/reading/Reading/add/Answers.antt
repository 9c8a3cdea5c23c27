use Rattle.std.proofs.Common.{inl, inr, map, rules}
use Rattle.aa_explain.specs.Places.{places_data}
use Rattle.aa_load.specs.Spelled.{OfSources, OfMain}
use Rattle.aa_load.specs.Refused.{Unspelled, Unjoined}
use Rattle.aa_load.proofs.reading.Reading.add.Goals as goal

pub returns-in-Err-clause-cause : goal.returns-in-Err-clause-cause
returns-in-Err-clause-cause c other =
    elim c.of_texts.ensures [
      | inl memory ↦ absurd (other memory.1)
      | inr told ↦ Unspelled c.in-Err.fault told.1 (OfSources (search rules))
    ]

pub returns-in-Err-read_text-clause-cause : goal.returns-in-Err-read_text-clause-cause
returns-in-Err-read_text-clause-cause c other =
    elim c.of_texts-in-Err-read_text.ensures [
      | inl memory ↦ absurd (other memory.1)
      | inr told ↦ Unspelled c.in-Err-read_text.fault told.1 (OfMain c.in-Ok.sources (search rules) (c.in-Err-read_text.ensures.cause told.0))
    ]

pub returns-in-Ok-join-clause-ok : goal.returns-in-Ok-join-clause-ok
returns-in-Ok-join-clause-ok c = (
  c.in-Ok-read_text.read.0,
  map places_data c.in-Ok-read_text.read.1.items,
  (c.in-Ok.sources, search rules, c.in-Ok-read_text.ensures.read),
  c.in-Ok-join.ensures.can,
  c.in-Ok-join.ensures.ok,
)

pub returns-in-Err-join-clause-cause : goal.returns-in-Err-join-clause-cause
returns-in-Err-join-clause-cause c other =
    Unjoined c.in-Ok-read_text.read.0 (map places_data c.in-Ok-read_text.read.1.items) (c.in-Ok.sources, search rules, c.in-Ok-read_text.ensures.read)
    (c.in-Err-join.ensures.cause other)
