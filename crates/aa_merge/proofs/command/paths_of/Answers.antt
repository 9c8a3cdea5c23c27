use Rattle.std.proofs.Common.{◌∙◌, ◌++◌, [], List, sym, ap, refl, append-nil}
use Rattle.std.specs.Prelude.{ℕ}
use Rattle.std.proofs.lemmas.List.{map-append}
use Rattle.aa_files.specs.Texts.{texts}
use Rattle.aa_merge.proofs.command.paths_of.Goals as goal

pub returns-in_default : goal.returns-in_default
returns-in_default g c = record {
  named = [];
  are = c.in_ok-paths.ensures
      ∙ sym (append-nil (texts c.args.options.now.parts.now));
  listed = rw c.in_default.is refl;
}

pub returns : goal.returns
returns g c = record {
  named = texts c.in_ok-named.named.items;
  are = ap texts c.in_ok-append.ensures.items ∙ map-append (λ v. v.items) c.in_ok-paths.paths.items c.in_ok-named.named.items
      ∙ ap (λ (l : List (List ℕ)). l ++ texts c.in_ok-named.named.items) c.in_ok-paths.ensures;
  listed = rw c.in-Some.is c.in_ok-named.ensures;
}
