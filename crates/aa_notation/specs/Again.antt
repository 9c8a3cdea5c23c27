-- What is written of a request is read as that request.
-- Source: own.
use Rattle.std.specs.Prelude.{◌≡◌, true, false, Some}
use Rattle.aa_model.specs.declared.request.Request.{Request}
use Rattle.aa_notation.specs.Kinds.{word_text, request_in, is_askable}

-- the word of a request is that request; so two requests have two words
abbrev pub WordsAreRead : Type 0
WordsAreRead = (request : Request) → is_askable request ≡ true → request_in false (word_text request) ≡ Some request
