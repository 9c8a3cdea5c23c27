use Rattle.std.proofs.Common.{◌≡◌, ◌∙◌, ap, List, flat_map, take}
use Rattle.std.proofs.lemmas.List.{take_all}
use Rattle.aa_files.specs.Texts.{slices}
use Rattle.aa_words.specs.declared.found.IncludeAt.{IncludeAt}
use Rattle.aa_words.specs.FoundData.{includes_data}
use Rattle.aa_diagnostics.specs.Further.{tried_at}
use Rattle.aa_diagnostics.proofs.further.tried.Goals as goal

pub returns : goal.returns
returns c =
    let all : take c.loop-include.include-index c.deref-include-items.result.now ≡ c.in_ok-includes.includes.items = take_all c.loop-include.include-index c.deref-include-items.result.now c.loop-include-test.false
    ∙ c.deref-include-items.ensures.value in
    record {
      includes = includes_data c.in_ok-includes.includes.items;
      of_text = c.in_ok-includes.ensures;
      each = c.loop-include.invariant ∙ ap (λ (is : List IncludeAt). flat_map (tried_at (slices c.args.folders.now) c.args.byte) (includes_data is)) all;
    }
