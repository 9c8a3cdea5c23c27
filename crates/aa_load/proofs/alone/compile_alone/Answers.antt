use Rattle.std.proofs.Common.{rules}
use Rattle.aa_load.specs.Spelled.{NoPolicy}
use Rattle.aa_load.proofs.alone.compile_alone.Goals as goal

pub returns-in-Err-compile_text-clause-cause : goal.returns-in-Err-compile_text-clause-cause
returns-in-Err-compile_text-clause-cause c other = NoPolicy c.in-Ok.sources (search rules) (c.in-Err-compile_text.ensures.cause other)
