use Rattle.std.proofs.Common.{◌≡◌, Ok, take}
use Rattle.aa_ask.specs.Words.{texts}
use Rattle.aa_ask.specs.Asked.{requests_of}
use Rattle.aa_ask.proofs.asking.requests_of.Given as goal

abbrev pub invariant-loop-word : goal.invariant-loop-word
invariant-loop-word l = requests_of l.owned (texts (take l.word-index l.words)) ≡ Ok l.requests.items
