use Rattle.aa_logs.proofs.Quotes.{quote_found, quote_within}
use Rattle.aa_logs.proofs.piece.far_quote.Goals as goal

pub returns-clause-value : goal.returns-clause-value
returns-clause-value c = quote_found c.args.text.now c.memchr.result c.memchr.ensures

pub returns-clause-within : goal.returns-clause-within
returns-clause-within c = quote_within c.args.text.now c.memchr.result c.memchr.ensures
