use Rattle.std.proofs.Common.{◌≡◌, ap, ◌∙◌, sym, cond, Some, None, false}
use Rattle.std.specs.Option.{option_or, is_some}
use Rattle.std.specs.Str.{bytes_eq}
use Rattle.aa_base.proofs.FirstNumbers.{looked, added}
use Rattle.aa_report.proofs.sets.add_line.Goals as goal

pub returns : goal.returns
returns c = λ name.
    let key = c.in_ok-from_slice.field-0 in
    let is_name = c.in_ok-from_slice.ensures.items in
    let es = c.args.set.now.entries in
    let u = c.in_ok-insert.ensures.updates in
    let absent : false ≡ is_some (looked key.items es) = sym c.if-contains_key.false ∙ c.contains_key.ensures ∙ ap (λ s. is_some (looked s es)) (sym is_name) in
    added es c.insert.new.self.entries key 0 absent u.1 u.3 name ∙ ap (λ s. option_or (looked name es) (cond (bytes_eq name s) (Some 0) None)) is_name
