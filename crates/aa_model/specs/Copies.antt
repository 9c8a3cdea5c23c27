-- What a copy of a request takes.
use Rattle.std.specs.Prelude.{Bool, true, false}
use Rattle.aa_model.specs.declared.request.Request.{Request}
use Rattle.aa_model.specs.declared.request.Request.TheVariants.{File, Link, Exec, Cap, Net, Change, Reload}

-- it holds a path or a name, for which a copy takes memory
abbrev pub holds_text : Request → Bool
holds_text (File r) = true
holds_text (Link r) = true
holds_text (Exec r) = true
holds_text (Cap cap) = false
holds_text (Net family kind) = false
holds_text (Change name) = true
holds_text (Reload policy) = false
