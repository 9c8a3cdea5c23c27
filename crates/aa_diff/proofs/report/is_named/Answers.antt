use Rattle.std.proofs.Common.{ℕ, List, Bool, Vec, sym, ap, ◌∙◌}
use Rattle.std.specs.Prelude.{◌==◌, ◌||◌}
use Rattle.std.specs.List.{list_any}
use Rattle.std.specs.Str.{bytes_eq}
use Rattle.std.specs.declared.alloc.Global.{Global}
use Rattle.std.proofs.lemmas.List.{length-map}
use Rattle.aa_files.specs.Texts.{texts}
use Rattle.aa_diff.proofs.Lists.{any_mapped}
use Rattle.aa_diff.proofs.report.is_named.Goals as goal

pub returns-else-is_empty : goal.returns-else-is_empty
returns-else-is_empty c =
    let names = c.args.names.now in
    let is = λ (n : List ℕ). bytes_eq n c.args.name.now in
    c.is_among.ensures ∙ any_mapped is (λ (v : Vec ℕ Global). v.items) names
    ∙ ap (λ (b : Bool). b || list_any is (texts names)) (sym c.if-is_empty.false ∙ c.is_empty.ensures ∙ ap (λ (n : ℕ). n == 0) (sym (length-map names (λ (v : Vec ℕ Global). v.items))))
